use Rattle.std.proofs.Common.{rules, ◌≡◌, ◌∙◌, ◌∷◌, ◌++◌, [], ℕ, List, ap, sym, subst, length, replicate}
use Rattle.std.specs.Prelude.{slice_get}
use Rattle.cl_classfile.specs.Mentions.{AreMentions, AreMet, MetAt, text_of_interface}
use Rattle.cl_classfile.proofs.Mentioning.{first_more, met_more, none_met, text_there}
use Rattle.cl_classfile.proofs.mentions.mentions_of.Goals as goal

pub loop-place-init : goal.loop-place-init
loop-place-init c =
    let zeros : c.in_ok-marks.marks.items ≡ replicate (length c.args.pool.now) 0 = search rules in
    (search rules, search rules, subst (λ (marks : List ℕ). AreMet c.args.pool.now c.args.interfaces.now 0 marks) (sym zeros) (none_met c.args.pool.now c.args.interfaces.now (length c.args.pool.now)))

pub loop-place-preserved : goal.loop-place-preserved
loop-place-preserved c =
    let e = c.meet.ensures in
    let h = c.loop-place.invariant in
    let is : text_of_interface c.args.pool.now (slice_get c.args.interfaces.now c.loop-place.place) ≡ c.class_name_index-text.result = text_there c.args.pool.now c.args.interfaces.now c.loop-place.place c.class_name_index-text.result c.loop-place-test.true c.class_name_index-text.ensures in
    let more : AreMentions c.args.pool.now c.args.interfaces.now (c.loop-place.firsts.items ++ c.meet.result ∷ []) =
    first_more c.args.pool.now c.args.interfaces.now c.loop-place.firsts.items c.loop-place.marks.items c.class_name_index-text.result c.meet.result h.1
    (subst (λ (n : ℕ). AreMet c.args.pool.now c.args.interfaces.now n c.loop-place.marks.items) (sym h.0) h.2) (subst (λ (n : ℕ). MetAt c.loop-place.marks.items c.class_name_index-text.result n c.meet.result) (sym h.0) e.first)
    (ap (λ (n : ℕ). text_of_interface c.args.pool.now (slice_get c.args.interfaces.now n)) h.0 ∙ is) in
    (search rules, subst (λ (firsts : List ℕ). AreMentions c.args.pool.now c.args.interfaces.now firsts) (sym c.in_ok-push.ensures.items) more, met_more c.args.pool.now c.args.interfaces.now c.loop-place.marks.items c.meet.new.marks.items c.class_name_index-text.result c.loop-place.place h.2 e.marks is)
