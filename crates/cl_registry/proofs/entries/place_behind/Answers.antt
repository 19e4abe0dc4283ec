use Rattle.std.proofs.Common.{◌≡◌, ◌∙◌, ℕ, List, Some, ap, map, take, sym}
use Rattle.std.specs.Prelude.{slice_get}
use Rattle.cl_classfile.specs.Files.{file_of}
use Rattle.cl_model.specs.Classes.{supers}
use Rattle.cl_registry.specs.Parts.{place_by, place_there}
use Rattle.cl_registry.specs.Tables.{placed_at}
use Rattle.cl_registry.proofs.Steps.{place_again}
use Rattle.cl_registry.proofs.entries.place_behind.Goals as goal

pub returns-in-Some : goal.returns-in-Some
returns-in-Some g c =
    let place = placed_at c.args.tables.now.items c.args.draft.now.class.loader in
    let xs = supers (file_of c.args.draft.now.file) in
    let there : slice_get (map (place_by place) (take c.args.at xs)) c.first_of_name.result ≡ Some c.in-Some.place = ap (λ (ps : List ℕ). slice_get ps c.first_of_name.result) (sym c.requires) ∙ sym c.place_in.ensures ∙ c.in-Some.is in
    place_again place xs c.args.at c.first_of_name.result c.in-Some.place there ∙ ap (place_there place) c.first_of_name.ensures.same
