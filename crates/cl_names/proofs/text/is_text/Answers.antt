use Rattle.std.proofs.Common.{◌≡◌, length, eqb, false, [], sym, ap, ◌∙◌, arith}
use Rattle.std.proofs.lemmas.Bool.Decides.{nat_tests}
use Rattle.std.proofs.lemmas.List.{nil_from_length}
use Rattle.std.proofs.lemmas.Bool.{eqb-true}
use Rattle.cl_names.specs.Text.{is_text}
use Rattle.cl_names.proofs.Texts.{goes_on, stops}
use Rattle.cl_names.proofs.text.is_text.Goals as goal

pub loop-rest-preserved : goal.loop-rest-preserved
loop-rest-preserved c = sym (goes_on c.loop-rest.rest.now c.in-Some.others.now (sym c.in-Some.ensures.rest)) ∙ c.loop-rest.invariant

pub returns-in-None : goal.returns-in-None
returns-in-None c = sym (stops c.loop-rest.rest.now (let filled : eqb (length c.loop-rest.rest.now) 0 ≡ false = sym c.is_empty.ensures ∙ c.loop-rest-test.true in grind (arith, nat_tests)) (sym c.in-None.ensures.rest)) ∙ c.loop-rest.invariant

pub returns : goal.returns
unfolding is_text
returns c =
    let nothing : c.loop-rest.rest.now ≡ [] = nil_from_length c.loop-rest.rest.now (eqb-true _ _ (sym c.is_empty.ensures ∙ c.loop-rest-test.false)) in
    sym (ap is_text nothing) ∙ c.loop-rest.invariant
