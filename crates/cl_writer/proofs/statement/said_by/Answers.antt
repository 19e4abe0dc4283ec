use Rattle.std.proofs.Common.{rules, ◌≡◌, ◌∷◌, codes}
use Rattle.cl_lines.specs.Lines.{words_of}
use Rattle.cl_writer.proofs.Rows.{no_implements, no_field, no_method, no_ref, no_version}
use Rattle.cl_writer.proofs.statement.said_by.Goals as goal

pub returns-in_default-2 : goal.returns-in_default-2
returns-in_default-2 c =
    let words : words_of c.args.line.now ≡ codes "implements" ∷ words_of c.next.new.self = search rules in
    no_implements _ _ words (rw c.in_default-2.is at c.in_ok-name.ensures)

pub returns-in_default-3 : goal.returns-in_default-3
returns-in_default-3 c =
    let words : words_of c.args.line.now ≡ codes "field" ∷ words_of c.next.new.self = search rules in
    no_field _ _ words (rw c.in_default-3.is at c.in_ok-field.ensures)

pub returns-in_default-4 : goal.returns-in_default-4
returns-in_default-4 c =
    let words : words_of c.args.line.now ≡ codes "method" ∷ words_of c.next.new.self = search rules in
    no_method _ _ words (rw c.in_default-4.is at c.in_ok-method.ensures)

pub returns-in_default-5 : goal.returns-in_default-5
returns-in_default-5 c =
    let words : words_of c.args.line.now ≡ codes "ref" ∷ words_of c.next.new.self = search rules in
    no_ref _ _ words (rw c.in_default-5.is at c.in_ok-item.ensures)

pub returns-in_default-version_of : goal.returns-in_default-version_of
returns-in_default-version_of c =
    let words : words_of c.args.line.now ≡ codes "version" ∷ words_of c.next.new.self = search rules in
    no_version _ _ words (rw c.in_default-version_of.is at c.version_of.ensures)
