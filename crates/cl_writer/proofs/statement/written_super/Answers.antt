use Rattle.std.proofs.Common.{rules, ◌≡◌, codes}
use Rattle.cl_writer.proofs.Rows.{no_super}
use Rattle.cl_writer.proofs.statement.written_super.Goals as goal

pub returns-in-None : goal.returns-in-None
returns-in-None c =
    let named : c.args.text.now ≡ codes "-" → ⊥ = search rules in
    no_super c.args.text.now named (rw c.in-None.is at c.in_ok-name.ensures)
