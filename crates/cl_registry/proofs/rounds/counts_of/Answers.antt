use Rattle.std.proofs.Common.{◌∙◌, length, refl, sym, ap, arith}
use Rattle.std.specs.Prelude.{slice_get}
use Rattle.std.proofs.lemmas.Option.{slice_get_read}
use Rattle.std.proofs.lemmas.List.{length-set, length-replicate}
use Rattle.cl_registry.proofs.Counts.{counted, open_le, open_none, index_below, zeros_are}
use Rattle.cl_registry.proofs.rounds.counts_of.Goals as goal

pub loop-q-init : goal.loop-q-init
loop-q-init c = record {
  each = ap length c.in_ok-counts.ensures ∙ length-replicate c.rounds.result 0 ∙ c.rounds.ensures;
  counts = λ round n e. zeros_are c.rounds.result round n (ap (λ xs. slice_get xs round) (sym c.in_ok-counts.ensures) ∙ e) ∙ sym (open_none round c.args.script.now.rounds_of);
}

pub index_mut-requires : goal.index_mut-requires
index_mut-requires c = let h = index_below c.args.script.now.rounds_of c.loop-q.counts.items c.args.script.now.rounds c.loop-q.q c.round_of.result c.requests-requests.ensures.script.within c.round_of.ensures c.loop-q.invariant.each in omega arith

pub overflow_add-index_mut : goal.overflow_add-index_mut
overflow_add-index_mut c =
    let had = slice_get_read c.loop-q.counts.items (length c.loop-q.counts.items) c.round_of.result c.index_mut.result.now refl (index_below c.args.script.now.rounds_of c.loop-q.counts.items c.args.script.now.rounds c.loop-q.q c.round_of.result c.requests-requests.ensures.script.within c.round_of.ensures c.loop-q.invariant.each) c.index_mut.ensures.value in
    let e = c.loop-q.invariant.counts c.round_of.result c.index_mut.result.now had in
    let le = open_le c.round_of.result c.args.script.now.rounds_of c.loop-q.q in
    let few = c.requests-requests.ensures.script.few in
    let count = ap length c.requests-requests.ensures.requests in
    omega (arith, e, le, few, count)

pub loop-q-preserved : goal.loop-q-preserved
loop-q-preserved c =
    let had = slice_get_read c.loop-q.counts.items (length c.loop-q.counts.items) c.round_of.result c.index_mut.result.now refl (index_below c.args.script.now.rounds_of c.loop-q.counts.items c.args.script.now.rounds c.loop-q.q c.round_of.result c.requests-requests.ensures.script.within c.round_of.ensures c.loop-q.invariant.each) c.index_mut.ensures.value in
    record {
      each = length-set c.loop-q.counts.items c.round_of.result _ ∙ c.loop-q.invariant.each;
      counts = counted c.args.script.now.rounds_of c.loop-q.counts.items c.loop-q.q c.round_of.result c.index_mut.result.now c.loop-q.invariant.counts c.round_of.ensures had;
    }
