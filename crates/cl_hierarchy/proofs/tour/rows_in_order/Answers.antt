use Rattle.std.proofs.Common.{◌≡◌, ◌∙◌, [], ◌∷◌, ◌++◌, length, map, arith, sym, ap}
use Rattle.std.proofs.lemmas.List.{nil_from_length}
use mathlib.Core.List.{map-map}
use Rattle.cl_hierarchy.specs.declared.tour.TourStep.TheVariants as tasks
use Rattle.cl_hierarchy.specs.Trees.{kin_under, kins}
use Rattle.cl_hierarchy.specs.Tours.{marks}
use Rattle.cl_hierarchy.proofs.Climbs.{all_back}
use Rattle.cl_hierarchy.proofs.Stages.{ended, first_stage, preserved, smaller}
use Rattle.cl_hierarchy.proofs.tour.rows_in_order.Goals as goal

pub loop-next-init : goal.loop-next-init
loop-next-init g c =
    first_stage (g.F.Finds.rows c.args.table.now) c.args.order c.args.start.now.value c.args.wanted _ _ _ _ c.requires.start
    (ap (λ xs. map (λ r. r.value) xs) c.new.ensures.items) c.with_hasher.ensures.empty c.with_hasher-2.ensures.empty
    (c.in_ok-push.ensures ∙ ap (λ xs. marks xs ++ record { row = c.args.start.now.value; task = tasks.Come c.args.wanted } ∷ []) c.new-2.ensures.items)

pub loop-next-smaller : goal.loop-next-smaller
loop-next-smaller g c =
    smaller (g.F.Finds.rows c.args.table.now) c.requires.ordered c.args.order _ _ _ _ c.loop-next.tour.stack.items c.pop.new.self.items c.in-Some.next c.in-Some.ensures.items _ c.loop-next.invariant c.in_ok-go.ensures

pub loop-next-preserved : goal.loop-next-preserved
loop-next-preserved g c =
    preserved (g.F.Finds.rows c.args.table.now) c.requires.ordered c.args.order _ _ _ _ c.loop-next.tour.stack.items c.pop.new.self.items c.in-Some.next c.in-Some.ensures.items _ c.loop-next.invariant c.in_ok-go.ensures

pub returns-clause-kins : goal.returns-clause-kins
returns-clause-kins g c =
    let e : length c.loop-next.tour.stack.items ≡ 0 = omega (arith, c.in_default.ensures.cases) in
    sym (map-map (kin_under (kins (g.F.Finds.rows c.args.table.now))) (λ r. r.value) c.loop-next.tour.listed.items)
    ∙ ended (g.F.Finds.rows c.args.table.now) c.args.order _ _ _ _ c.loop-next.tour.stack.items (nil_from_length _ e) c.loop-next.invariant

pub returns-clause-rows : goal.returns-clause-rows
returns-clause-rows g c = all_back (λ r. r.value) _ c.loop-next.tour.listed.items c.loop-next.invariant.listed_are
