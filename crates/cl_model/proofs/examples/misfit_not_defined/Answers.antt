use Rattle.std.proofs.Common.{◌≡◌, [], Ok, Err, ap, sym, ◌∙◌, refl}
use Rattle.cl_model.specs.Classes.{Error}
use Rattle.cl_model.specs.Lineages.{Kin}
use Rattle.cl_model.specs.Works.{Made}
use Rattle.cl_model.specs.Plans.{derive}
use Rattle.cl_model.specs.Examples.{in_plug}
use Rattle.cl_model.specs.ExampleLoads.{misfits}
use Rattle.cl_model.proofs.Complete.{good_is_derived}
use Rattle.cl_model.proofs.Circles.{one_derivation}
use Rattle.cl_model.proofs.Served.{the_made}
use Rattle.cl_model.proofs.examples.misfit_not_defined.Goals as goal

no_error : {k : Kin} {e : Error} → Ok k ≡ Err e → ⊥
no_error h = cc

pub returns : goal.returns
returns c h =
    let d = good_is_derived misfits h.good.0 (in_plug "p/K") h.good.1 in
    let same = one_derivation misfits h.good.0 4 [] (in_plug "p/K") d.0 (the_made (derive misfits 4 [] (in_plug "p/K"))) d.2 refl in
    no_error (sym d.3 ∙ ap (λ (m : Made Kin). m.ends) same)
