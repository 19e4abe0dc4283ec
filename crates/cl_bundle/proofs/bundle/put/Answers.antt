use Rattle.std.proofs.Common.{◌∙◌, Ok, refl, sym}
use Rattle.cl_model.specs.Content.{Stored}
use Rattle.cl_config.specs.Views.{names_of}
use Rattle.cl_bundle.specs.Cuts.{cut_part}
use Rattle.cl_bundle.proofs.Storing.{stored_as}
use Rattle.cl_bundle.proofs.bundle.put.Goals as goal

pub returns-in-Ok : goal.returns-in-Ok
returns-in-Ok c =
    let stored : Stored = record { loader = c.in-Some.loader; name = c.args.section.name; bytes = c.in_ok-bytes.bytes.items } in (
      stored,
      stored_as (names_of c.args.config.now) c.args.source.now (cut_part c.args.section) c.in-Some.loader (Ok stored) (sym c.in-Some.ensures.found) (sym c.has.ensures ∙ c.if-has.false)
          (refl, refl, (c.in_ok-bytes.ensures.ok, c.in-Ok.ensures.fits)),
      c.in-Ok.ensures.told,
    )
