use Rattle.std.proofs.Common.{rules, ◌≡◌, ◌∷◌, codes}
use Rattle.cl_lines.specs.Lines.{words_of}
use Rattle.cl_writer.proofs.Rows.{no_ref_class, no_ref_int, no_ref_member}
use Rattle.cl_writer.proofs.statement.reference.Goals as goal

pub returns-in_default-2 : goal.returns-in_default-2
returns-in_default-2 c =
    let words : words_of c.args.words ≡ codes "class" ∷ words_of c.next.new.self = search rules in
    no_ref_class _ _ words (rw c.in_default-2.is at c.in_ok-name.ensures)

pub returns-in_default-integer_of : goal.returns-in_default-integer_of
returns-in_default-integer_of c =
    let words : words_of c.args.words ≡ codes "int" ∷ words_of c.next.new.self = search rules in
    no_ref_int _ _ words (rw c.in_default-integer_of.is at c.integer_of.ensures)

pub returns-in_default-3 : goal.returns-in_default-3
returns-in_default-3 c =
    let not_class : c.in-Some.first.now ≡ codes "class" → ⊥ = search rules in
    let not_int : c.in-Some.first.now ≡ codes "int" → ⊥ = search rules in
    no_ref_member _ _ _ c.in-Some.ensures.steps not_class not_int (rw c.in_default-3.is at c.in_ok-member.ensures)
