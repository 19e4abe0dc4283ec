use Rattle.std.proofs.Common.{◌≡◌, subst}
use Rattle.std.specs.Option.{option_map}
use Rattle.std.specs.Prelude.{MatchOption}
use Rattle.cl_model.specs.Tables.{Records}
use Rattle.cl_registry.specs.Tables.{Shown, LacksRecord, looked_row, state_of}
use Rattle.cl_registry.proofs.Asked.{found_is, found_row}
use Rattle.cl_registry.proofs.registry.Registry.look.Goals as goal

pub returns-clause-found : goal.returns-clause-found
returns-clause-found g c =
    subst (λ (y : Shown). MatchOption c.find.result (LacksRecord y c.args.loader c.args.name.now) (λ r. Records (state_of y) c.args.loader c.args.name.now r.now.value.class)) c.self.view_is
    (found_is (λ r. r.now) (λ r. r.value) g.T.Told.told _ c.args.loader c.args.name.now c.self.invariant.kept _ (c.self.invariant.rows c.args.loader c.args.name.now) c.find.result c.find.ensures)

pub returns-clause-row : goal.returns-clause-row
returns-clause-row g c =
    subst (λ (y : Shown). option_map (λ r. r.now.value) c.find.result ≡ looked_row y c.args.loader c.args.name.now) c.self.view_is
    (found_row (λ r. r.now) (λ r. r.value) g.T.Told.told _ c.args.loader c.args.name.now c.self.invariant.kept _ (c.self.invariant.rows c.args.loader c.args.name.now) c.find.result c.find.ensures)
