use Rattle.cl_findings.proofs.Loads.{missing_rests, faulty_rests, circle_rests, misfit_rests}
use Rattle.cl_tasks.proofs.ends.bring_end.Goals as goal

pub returns-in-Missing : goal.returns-in-Missing
returns-in-Missing g c =
    let stops = rw c.in-Missing.is at c.requires in
    rw c.in-Missing.is
    (λ r t for spelt. missing_rests g.T.Told.told r t c.args.path.now c.in-Missing.unfound for spelt c.config.ensures.path stops c.config-in-Missing.ensures.leads)

pub returns-in-Unreadable : goal.returns-in-Unreadable
returns-in-Unreadable g c =
    let stops = rw c.in-Unreadable.is at c.requires in
    let leads = rw c.home-home.ensures at c.config-in-Unreadable.ensures.leads in
    let told = rw c.home-home.ensures at c.bytes.ensures.told in
    rw c.in-Unreadable.is
    (λ r t for spelt. faulty_rests g.T.Told.told r t c.args.path.now c.in-Unreadable.unreadable.home c.in-Unreadable.unreadable.fault for spelt c.config.ensures.path stops.0 stops.1 leads told c.fault.ensures.wrong)

pub returns-in-Circle : goal.returns-in-Circle
returns-in-Circle g c =
    let stops = rw c.in-Circle.is at c.requires in
    rw c.in-Circle.is
    (λ r t for spelt. circle_rests g.T.Told.told r t c.args.path.now c.in-Circle.home for spelt c.config.ensures.path stops.0 stops.1 c.config-in-Circle.ensures.leads)

pub returns-in-Misfit : goal.returns-in-Misfit
returns-in-Misfit g c =
    let stops = rw c.in-Misfit.is at c.requires in
    let own = rw c.deref.ensures at c.class.ensures.spelt in
    rw c.in-Misfit.is
    (λ r t for spelt. misfit_rests g.T.Told.told r t c.args.path.now c.in-Misfit.row.value c.in-Misfit.field-1 c.in-Misfit.field-2 for spelt c.config.ensures.path stops own)
