use Rattle.std.proofs.Common.{◌∙◌, ap, subst, sym}
use Rattle.cl_config.specs.Views.{Configured}
use Rattle.cl_tasks.specs.Stages.{IsJob}
use Rattle.cl_tasks.specs.declared.turn.Reply.TheVariants as reply
use Rattle.cl_tasks.proofs.LoadSteps.{steps_looked, steps_unrecorded}
use Rattle.cl_tasks.proofs.load_replies.after_look.Goals as goal

pub returns-in-Looked-Some : goal.returns-in-Looked-Some
returns-in-Looked-Some g c =
    rw (c.in-Looked-Some.is ∙ ap (λ o. reply.Looked o) c.in-Looked-Some.field-0-is)
    (steps_looked g.T.Told.told c.args.config.now.value c.args.job c.in-Looked-Some.row _ c.requires.job.config c.at_name.ensures.path c.go_on.ensures.leads c.go_on.ensures.plain c.go_on.ensures.own c.go_on.ensures.derives)

pub returns-in-Looked-None : goal.returns-in-Looked-None
returns-in-Looked-None g c =
    rw (c.in-Looked-None.is ∙ ap (λ o. reply.Looked o) c.in-Looked-None.field-0-is)
    (steps_unrecorded g.T.Told.told c.args.config.now.value c.args.job _ c.requires.job.config (subst (λ (d : Configured). IsJob g.T.Told.told d c.args.job) (sym c.requires.job.config) c.requires.job) c.at_name-in-Looked-None.ensures.path c.begin_search.ensures.leads c.begin_search.ensures.no_fault c.begin_search.ensures.derives c.begin_search.ensures.reads)
