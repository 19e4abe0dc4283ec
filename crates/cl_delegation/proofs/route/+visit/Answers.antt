use Rattle.std.proofs.Common.{◌≡◌, ◌<◌, ◌∙◌, ap, sym, arith, Some, not, nat_eq}
use Rattle.std.specs.Prelude.{find}
use Rattle.std.specs.List.{starts_with}
use Rattle.std.specs.Option.{option_map}
use Rattle.cl_config.specs.Loaders.{loaders_in}
use Rattle.cl_model.specs.Probes.{route_from}
use Rattle.cl_delegation.specs.Walks.{added}
use Rattle.cl_delegation.proofs.Walks.{over, parent_below, all_of, all_asked, asks_on, begins}
use Rattle.cl_delegation.proofs.Ways.{target_below, said_import, said_parents}
use Rattle.cl_delegation.proofs.route.+visit.Goals as goal

pub returns-then-index-clause-route : goal.returns-then-index-clause-route
returns-then-index-clause-route t c = over c.args.config.now c.args.name.now c.args.walk.now.route.items c.args.walk.now.asked.items c.args.walk.now.done.items c.args.loader c.index.result.now c.requires.walk c.requires.within (rw (c.from.ensures, c.loader.view_is) at c.index.ensures) c.if-index.true

pub visit-requires : goal.visit-requires
visit-requires t c =
    let found : find (λ m. starts_with nat_eq c.args.name.now m.prefix) c.imports-imports.result.now ≡ Some c.in-Some.import.now = sym c.decisive.ensures ∙ ap (option_map (λ m. m.now)) c.in-Some.is in
    let lt : c.in-Some.import.now.target < c.args.loader = target_below c.args.loader c.args.name.now c.imports-imports.result.now c.in-Some.import.now c.imports-imports.ensures.below found in
    (omega (arith, lt, c.target.ensures, c.decreases), (omega (arith, lt, c.target.ensures, c.requires.within), c.requires.walk))

pub returns-in-Some-clause-walk : goal.returns-in-Some-clause-walk
returns-in-Some-clause-walk t c =
    let found : find (λ m. starts_with nat_eq c.args.name.now m.prefix) c.imports-imports.result.now ≡ Some c.in-Some.import.now = sym c.decisive.ensures ∙ ap (option_map (λ m. m.now)) c.in-Some.is in
    let lt : c.in-Some.import.now.target < c.args.loader = target_below c.args.loader c.args.name.now c.imports-imports.result.now c.in-Some.import.now c.imports-imports.ensures.below found in
    let way = said_import c.args.config.now c.args.name.now c.args.loader c.imports-imports.result.now c.in-Some.import.now c.requires.within c.imports-imports.ensures.imports found lt in
    let same = way ∙ ap (route_from (loaders_in c.args.config.now) c.args.name.now) (sym c.target.ensures) in
    c.close.ensures.walk c.args.config.now c.args.name.now c.in_ok-visit.ensures.walk
    (all_of c.args.walk.now.route.items c.visit.new.walk.route.items (route_from (loaders_in c.args.config.now) c.args.name.now c.args.loader) (c.in_ok-visit.ensures.route ∙ ap (added c.args.walk.now.route.items) (sym same)))

pub returns-in-Some-clause-route : goal.returns-in-Some-clause-route
returns-in-Some-clause-route t c =
    let found : find (λ m. starts_with nat_eq c.args.name.now m.prefix) c.imports-imports.result.now ≡ Some c.in-Some.import.now = sym c.decisive.ensures ∙ ap (option_map (λ m. m.now)) c.in-Some.is in
    let lt : c.in-Some.import.now.target < c.args.loader = target_below c.args.loader c.args.name.now c.imports-imports.result.now c.in-Some.import.now c.imports-imports.ensures.below found in
    let way = said_import c.args.config.now c.args.name.now c.args.loader c.imports-imports.result.now c.in-Some.import.now c.requires.within c.imports-imports.ensures.imports found lt in
    let same = way ∙ ap (route_from (loaders_in c.args.config.now) c.args.name.now) (sym c.target.ensures) in
    c.close.ensures.route ∙ c.in_ok-visit.ensures.route ∙ ap (added c.args.walk.now.route.items) (sym same)

pub loop-parent-init : goal.loop-parent-init
loop-parent-init t c =
    begins c.args.config.now c.args.name.now c.parents-parents.result.now c.ask.new.walk.route.items c.ask.new.walk.asked.items c.ask.new.walk.done.items
    (asks_on c.args.config.now c.args.name.now c.args.walk.now.route.items c.ask.new.walk.route.items c.args.walk.now.asked.items c.ask.new.walk.asked.items c.args.walk.now.done.items c.ask.new.walk.done.items c.args.loader c.is_child_first-child_first.result c.requires.walk c.in_ok-ask.ensures.route c.in_ok-ask.ensures.asked c.ask.ensures.wide c.ask.ensures.done)

pub visit-requires-in-loop-parent : goal.visit-requires-in-loop-parent
visit-requires-in-loop-parent t c =
    let lt = parent_below c.args.loader c.loop-parent.parent-index c.parents-parents.result.now c.parents-parents.ensures.below c.loop-parent-test.true in
    (omega (arith, lt, c.decreases), (omega (arith, lt, c.requires.within), c.loop-parent.invariant.walk))

pub returns-clause-walk : goal.returns-clause-walk
returns-clause-walk t c =
    let none = sym c.decisive.ensures ∙ ap (option_map (λ m. m.now)) c.in_default.is in
    let way = said_parents c.args.config.now c.args.name.now c.args.loader c.imports-imports.result.now c.parents-parents.result.now c.is_child_first-child_first.result c.requires.within c.imports-imports.ensures.imports none c.parents-parents.ensures.parents c.parents-parents.ensures.below c.is_child_first-child_first.ensures in
    let whole : c.ask-2.new.walk.route.items ≡ added c.args.walk.now.route.items (route_from (loaders_in c.args.config.now) c.args.name.now c.args.loader) =
    all_asked c.args.config.now c.args.name.now c.args.loader c.parents-parents.result.now c.args.walk.now.route.items c.ask.new.walk.route.items c.loop-parent.walk.route.items c.ask-2.new.walk.route.items c.is_child_first-child_first.result c.loop-parent.parent-index c.loop-parent.walk.asked.items c.loop-parent.walk.done.items
    way c.loop-parent-test.false c.in_ok-ask.ensures.route c.loop-parent.invariant c.in_ok-ask-2.ensures.route in
    c.close-2.ensures.walk c.args.config.now c.args.name.now
    (asks_on c.args.config.now c.args.name.now c.loop-parent.walk.route.items c.ask-2.new.walk.route.items c.loop-parent.walk.asked.items c.ask-2.new.walk.asked.items c.loop-parent.walk.done.items c.ask-2.new.walk.done.items c.args.loader (not c.is_child_first-child_first.result) c.loop-parent.invariant.walk c.in_ok-ask-2.ensures.route c.in_ok-ask-2.ensures.asked c.ask-2.ensures.wide c.ask-2.ensures.done)
    (all_of c.args.walk.now.route.items c.ask-2.new.walk.route.items (route_from (loaders_in c.args.config.now) c.args.name.now c.args.loader) whole)

pub returns-clause-route : goal.returns-clause-route
returns-clause-route t c =
    let none = sym c.decisive.ensures ∙ ap (option_map (λ m. m.now)) c.in_default.is in
    let way = said_parents c.args.config.now c.args.name.now c.args.loader c.imports-imports.result.now c.parents-parents.result.now c.is_child_first-child_first.result c.requires.within c.imports-imports.ensures.imports none c.parents-parents.ensures.parents c.parents-parents.ensures.below c.is_child_first-child_first.ensures in
    let whole : c.ask-2.new.walk.route.items ≡ added c.args.walk.now.route.items (route_from (loaders_in c.args.config.now) c.args.name.now c.args.loader) =
    all_asked c.args.config.now c.args.name.now c.args.loader c.parents-parents.result.now c.args.walk.now.route.items c.ask.new.walk.route.items c.loop-parent.walk.route.items c.ask-2.new.walk.route.items c.is_child_first-child_first.result c.loop-parent.parent-index c.loop-parent.walk.asked.items c.loop-parent.walk.done.items
    way c.loop-parent-test.false c.in_ok-ask.ensures.route c.loop-parent.invariant c.in_ok-ask-2.ensures.route in
    c.close-2.ensures.route ∙ whole
