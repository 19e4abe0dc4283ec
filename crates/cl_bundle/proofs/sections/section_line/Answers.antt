use Rattle.std.proofs.Common.{rules, ◌≡◌, ◌∷◌, [], codes, refl}
use Rattle.cl_lines.specs.Lines.{words_of}
use Rattle.cl_bundle.proofs.Headings.{class_heading_is, class_heading_wrong}
use Rattle.cl_bundle.proofs.sections.section_line.Goals as goal

pub returns-in-Some : goal.returns-in-Some
returns-in-Some c =
    let words : words_of c.args.line.now ≡ codes "%class" ∷ c.in-Some-Some-None.loader.now ∷ c.in-Some-Some-None.name.now ∷ [] = search rules in
    (class_heading_is c.args.line.now _ _ _ words (rw c.in-Some.is at c.in_ok-name-in-Some-Some-None.ensures.writes), refl)

pub returns-in-None : goal.returns-in-None
returns-in-None c =
    let words : words_of c.args.line.now ≡ codes "%class" ∷ c.in-Some-Some-None.loader.now ∷ c.in-Some-Some-None.name.now ∷ [] = search rules in
    (class_heading_wrong c.args.line.now _ _ words (rw c.in-None.is at c.in_ok-name-in-Some-Some-None.ensures.writes), refl)
