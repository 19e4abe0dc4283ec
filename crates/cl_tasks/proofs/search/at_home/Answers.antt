use Rattle.std.proofs.Common.{◌≡◌, ◌∙◌, ℕ, List, false, ap, subst, sym, arith}
use Rattle.cl_model.specs.declared.class.Class.{Class}
use Rattle.cl_model.specs.Classes.{class}
use Rattle.std.proofs.lemmas.Bool.{eqb-true}
use Rattle.cl_tasks.specs.Measures as phases
use Rattle.cl_tasks.specs.Rooms.{calls_at, room_at, room_of}
use Rattle.cl_tasks.specs.Steps.{HoldsOn}
use Rattle.cl_tasks.proofs.Fall.{homes_less}
use Rattle.cl_tasks.proofs.Lead.{leads_by}
use Rattle.cl_tasks.proofs.Moves.{at_home_calls, past_phase, same_holds}
use Rattle.cl_hierarchy.specs.Paths.{frames_of, is_on}
use Rattle.cl_tasks.specs.Deriving.{IsSoughtHere}
use Rattle.cl_tasks.proofs.Deriving.{past_derives, sought_derives}
use Rattle.cl_tasks.proofs.Onward.{differ, leads_homing}
use Rattle.cl_tasks.proofs.search.at_home.Goals as goal

pub returns-then-has-clause-leads : goal.returns-then-has-clause-leads
returns-then-has-clause-leads g c =
    leads_by (room_of (room_at phases.Reading c.args.job 0) (calls_at phases.Reading c.args.job 0)) (HoldsOn c.args.job) c.obstacle.ensures.leads (omega arith) (past_phase g.T.Told.told c.args.job (HoldsOn c.args.job) phases.Reading 0) (λ x h. (h, tt))

pub returns-then-eq-clause-leads : goal.returns-then-eq-clause-leads
returns-then-eq-clause-leads g c =
    let here = sym (sym c.definer.ensures ∙ eqb-true _ _ (sym c.if-eq.ensures) ∙ c.at_loader.ensures.loader) in
    leads_by (room_of (room_at phases.Reading c.args.job 0) (calls_at phases.Reading c.args.job 0)) (HoldsOn c.args.job) c.derive.ensures.leads
    (let less = homes_less (frames_of c.args.job.path) 0 0 in omega arith)
    (same_holds g.T.Told.told c.args.job (HoldsOn c.args.job) (calls_at phases.Homing c.args.job c.args.home.definer) (calls_at phases.Reading c.args.job 0) (at_home_calls c.args.job c.args.home.definer here)) (λ x h. h)

pub returns-then-has-clause-derives : goal.returns-then-has-clause-derives
returns-then-has-clause-derives g c = past_derives (IsSoughtHere c.args.job.path) (frames_of c.args.job.path) c.obstacle.result.stage c.obstacle.ensures.past

pub returns-then-eq-clause-derives : goal.returns-then-eq-clause-derives
returns-then-eq-clause-derives g c =
    sought_derives c.args.job.path c.args.home c.derive.result.stage c.requires.home (sym c.definer.ensures ∙ eqb-true _ _ (sym c.if-eq.ensures) ∙ c.at_loader.ensures.loader) c.derive.ensures.derives

pub returns-clause-leads : goal.returns-clause-leads
returns-clause-leads g c =
    let name = c.in-Ok.ensures ∙ c.name.ensures in
    leads_homing g.T.Told.told c.args.job c.args.home c.definer.result c.in-Ok.name c.requires.job c.at_loader.ensures.path
    (record {
      sought = c.requires.home;
      off = subst (λ (k : Class). is_on c.args.job.path k ≡ false) (ap (λ (n : List ℕ). class n c.definer.result) name ∙ ap (λ (l : ℕ). class c.args.home.name l) c.definer.ensures) (sym c.if-has.ensures);
      other = λ e. differ c.definer.result c.at_loader.result (sym c.if-eq.ensures) (c.definer.ensures ∙ e ∙ sym c.at_loader.ensures.loader);
    }) c.config.ensures.leads c.definer.ensures (name ∙ c.requires.home.name)
