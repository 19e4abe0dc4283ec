use Rattle.cl_findings.proofs.Loads.{missing_rests, faulty_rests, circle_rests, misfit_rests}
use Rattle.cl_findings.proofs.load.end_at.Goals as goal

pub returns-in-Missing-clause-rests : goal.returns-in-Missing-clause-rests
returns-in-Missing-clause-rests g c =
    let stops = rw c.in-Missing.is at c.requires.stops in
    rw (c.in-Missing.is, c.missing_kind-kind.ensures, c.into_name-name.ensures, c.asked_loader-loader.ensures)
    (missing_rests g.T.Told.told c.args.request.now c.args.target.now c.args.path.now c.in-Missing.unfound c.requires.path c.bring_row.ensures c.config.ensures.path stops c.config-in-Missing.ensures.leads)

pub returns-in-Unreadable-clause-rests : goal.returns-in-Unreadable-clause-rests
returns-in-Unreadable-clause-rests g c =
    let stops = rw c.in-Unreadable.is at c.requires.stops in
    let wrong = c.fault.ensures.wrong in
    let leads = rw c.into_home-home.ensures at c.config-in-Unreadable.ensures.leads in
    let told = rw c.into_home-home.ensures at c.bytes.ensures.told in
    rw (c.in-Unreadable.is, c.kind_of-kind.ensures, c.fault.ensures.fault, c.class_of.ensures, c.into_home-home.ensures)
    (faulty_rests g.T.Told.told c.args.request.now c.args.target.now c.args.path.now c.in-Unreadable.unreadable.home c.in-Unreadable.unreadable.fault c.requires.path c.bring_row.ensures c.config.ensures.path stops.0 stops.1 leads told wrong)

pub returns-in-Circle-clause-rests : goal.returns-in-Circle-clause-rests
returns-in-Circle-clause-rests g c =
    let stops = rw c.in-Circle.is at c.requires.stops in
    rw (c.in-Circle.is, c.class_of-class.ensures)
    (circle_rests g.T.Told.told c.args.request.now c.args.target.now c.args.path.now c.in-Circle.home c.requires.path c.bring_row.ensures c.config.ensures.path stops.0 stops.1 c.config-in-Circle.ensures.leads)

pub returns-in-Misfit-clause-rests : goal.returns-in-Misfit-clause-rests
returns-in-Misfit-clause-rests g c =
    let stops = rw c.in-Misfit.is at c.requires.stops in
    let spelt = rw c.deref.ensures at c.class.ensures.spelt in
    rw c.in-Misfit.is
    (misfit_rests g.T.Told.told c.args.request.now c.args.target.now c.args.path.now c.in-Misfit.row.value c.in-Misfit.class c.in-Misfit.kind c.requires.path c.bring_row.ensures c.config.ensures.path stops spelt)
