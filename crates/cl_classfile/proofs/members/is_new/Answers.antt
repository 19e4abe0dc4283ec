use Rattle.std.proofs.Common.{ℕ, ◌==◌, refl, sym, ap, subst, ◌∙◌}
use Rattle.cl_classfile.specs.Files.{text_at}
use Rattle.cl_classfile.specs.Indexes.{has_place}
use Rattle.cl_classfile.specs.Numbers.{IsNumber, number_of, noted_at}
use Rattle.cl_classfile.proofs.Indexes.{pairs, one_more}
use Rattle.cl_classfile.proofs.Keys.{placed, is_seen}
use Rattle.cl_classfile.proofs.members.is_new.Goals as goal

pub returns-clause-seen : goal.returns-clause-seen
returns-clause-seen c =
    let ns = c.args.numbers.now in
    let m = c.args.member.now in
    let name = c.at-name.ensures ∙ ap (noted_at ns.noted.items) c.name_index.ensures in
    let descriptor = c.at-descriptor.ensures ∙ ap (noted_at ns.noted.items) c.descriptor_index.ensures in
    λ pool before a noted has.
    is_seen pool (number_of pool ns) a.first (has_place c.args.places.now) (has_place c.put.new.self) c.at-name.result c.at-descriptor.result c.in_ok-first.first m before
    (subst (λ (n : ℕ). IsNumber (number_of pool ns) (text_at pool m.name_index) n) (sym name) noted.0)
    (subst (λ (n : ℕ). IsNumber (number_of pool ns) (text_at pool m.descriptor_index) n) (sym descriptor) noted.1)
    has c.in_ok-first.ensures.0
    (placed c.args.places.now c.put.new.self (c.at-name.result, c.at-descriptor.result) c.args.place c.in_ok-first.ensures.1)
    (c.at-name.result == 0) (c.at-descriptor.result == 0) refl refl

pub returns-clause-placed : goal.returns-clause-placed
returns-clause-placed c = λ ms there so_far.
    let ns = c.args.numbers.now in
    let m = c.args.member.now in
    let name = c.at-name.ensures ∙ ap (noted_at ns.noted.items) c.name_index.ensures in
    let descriptor = c.at-descriptor.ensures ∙ ap (noted_at ns.noted.items) c.descriptor_index.ensures in
    one_more ns c.args.places.now c.put.new.self ms c.args.place m there (c.at-name.result, c.at-descriptor.result)
    (pairs (noted_at ns.noted.items m.name_index) c.at-name.result (noted_at ns.noted.items m.descriptor_index) c.at-descriptor.result (sym name) (sym descriptor))
    c.in_ok-first.ensures.1 so_far
