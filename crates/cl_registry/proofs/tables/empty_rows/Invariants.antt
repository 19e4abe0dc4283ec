use Rattle.std.proofs.Common.{◌≡◌, length, ℕ, List, None}
use Rattle.cl_registry.specs.Tables.{table_row}
use Rattle.cl_registry.proofs.tables.empty_rows.Given as goal

abbrev pub invariant-loop : goal.invariant-loop
invariant-loop g l = (length l.tables.items ≡ l.counter) × ((k : ℕ) (n : List ℕ) → table_row l.tables.items k n ≡ None)
