use Rattle.std.proofs.Common.{◌≡◌, length, eqb, false, sym, ◌∙◌, arith}
use Rattle.std.proofs.lemmas.Bool.Decides.{nat_tests}
use Rattle.cl_names.proofs.Levels.{unqualified_split}
use Rattle.cl_names.proofs.kind.has_unqualified_form.Goals as goal

pub returns-then-not-is_empty : goal.returns-then-not-is_empty
returns-then-not-is_empty c = c.is_all_allowed.ensures ∙ sym (unqualified_split c.args.text.now (let filled : eqb (length c.args.text.now) 0 ≡ false = sym c.is_empty.ensures ∙ c.if-not-is_empty.true in grind (arith, nat_tests)))
