use Rattle.std.proofs.Common.{◌∙◌, ap}
use Rattle.cl_findings.specs.Findings.{Answered}
use Rattle.cl_tasks.specs.declared.stage.Stage.TheVariants as stages
use Rattle.cl_tasks.specs.declared.turn.Turn.TheVariants as turn
use Rattle.cl_tasks.proofs.Entries.{opens_entry, shares_entry}
use Rattle.cl_tasks.proofs.reference.take_reference.Goals as goal

pub returns-in-Some-clause-leads : goal.returns-in-Some-clause-leads
returns-in-Some-clause-leads g c =
    shares_entry g.row.T.Denot g.T.Told.told c.args.config.now.value c.args.entry c.args.settled c.in-Some.settled c.post.result c.requires.entry c.in-Some.is
    (c.post.ensures ∙ ap (λ (k : Answered). record { stage = stages.Done c.args.entry.q; turn = turn.Post k }) c.settled.ensures)

pub returns-in-None-clause-leads : goal.returns-in-None-clause-leads
returns-in-None-clause-leads g c = opens_entry g.row.T.Denot g.T.Told.told c.args.config.now.value c.args.entry c.args.settled c.open.result c.open.ensures.leads
