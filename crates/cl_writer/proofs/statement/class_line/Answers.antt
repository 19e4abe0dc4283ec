use Rattle.std.proofs.Common.{rules, ◌≡◌, ◌∷◌, [], codes}
use Rattle.cl_lines.specs.Lines.{words_of}
use Rattle.cl_writer.proofs.Rows.{no_class_name}
use Rattle.cl_writer.proofs.statement.class_line.Goals as goal

pub returns : goal.returns
returns c =
    let words : words_of c.args.line.now ≡ codes "class" ∷ c.in-Some-three.flags.now ∷ c.in-Some-three.name.now ∷ c.in-Some-three.above.now ∷ [] = search rules in
    record {
      flags_text = c.in-Some-three.flags.now;
      name_text = c.in-Some-three.name.now;
      super_text = c.in-Some-three.above.now;
      spelled = words;
      flags = cc;
      name = rw c.in-Some-2.is at c.in_ok-name.ensures;
      superclass = rw c.in-Some-3.is at c.in_ok-superclass.ensures;
    }

pub returns-in_default-2 : goal.returns-in_default-2
returns-in_default-2 c =
    let words : words_of c.args.line.now ≡ c.in-Some.first.now ∷ c.in-Some-three.flags.now ∷ c.in-Some-three.name.now ∷ c.in-Some-three.above.now ∷ [] = search rules in
    no_class_name _ _ _ _ _ words (rw c.in_default-2.is at c.in_ok-name.ensures)
