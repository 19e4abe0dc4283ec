use Rattle.std.proofs.Common.{subst}
use Rattle.std.specs.Prelude.{MatchOption}
use Rattle.cl_registry.specs.References.{IsSettledIn, IsUnsettled}
use Rattle.cl_registry.specs.Tables.{Shown}
use Rattle.cl_registry.proofs.Cited.{entry_is, found_or_not}
use Rattle.cl_registry.proofs.registry.Registry.look_reference.Goals as goal

pub returns-clause-found : goal.returns-clause-found
returns-clause-found g c =
    subst (λ (y : Shown). MatchOption c.find_reference.result (IsUnsettled y c.args.class.now c.args.index) (λ s. IsSettledIn y c.args.class.now c.args.index s.now.value)) c.self.view_is
    (found_or_not (λ s. s.now.value) _ c.args.class.now c.args.index c.find_reference.result
    (entry_is (λ s. s.now) (λ s. s.value) c.find_reference.result _ _ c.find_reference.ensures (c.self.invariant.references c.args.class.now c.args.index)))
