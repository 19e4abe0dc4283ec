use Rattle.std.proofs.Common.{sym, subst}
use Rattle.cl_model.specs.declared.class.Class.{Class}
use Rattle.cl_hierarchy.specs.Repeats.{FitsLast}
use Rattle.cl_hierarchy.proofs.Repeats.{fits_last}
use Rattle.cl_hierarchy.proofs.path.Path.accept.Goals as goal

pub accept_as-requires-clause-fits : goal.accept_as-requires-clause-fits
accept_as-requires-clause-fits g c =
    subst (λ (t : Class). FitsLast g.T.Told.told c.args.self.now t.loader) (sym c.class.ensures.class)
    (fits_last g.T.Told.told c.args.self.now c.args.row.now.class c.args.row.now.file c.class.ensures.spelt c.requires.name c.requires.fits)
