-- The file of a class that is recorded.
use Rattle.std.proofs.Common.{◌≡◌, ℕ, Some, Ok, Result, subst}
use Rattle.cl_classfile.specs.Files.{File, file_of}
use Rattle.cl_classfile.specs.Structure.{Structure}
use Rattle.cl_model.specs.declared.class.Class.{Class}
use Rattle.cl_model.specs.Content.{Content}
use Rattle.cl_model.specs.Homes.{World}
use Rattle.cl_model.specs.Classes.{Error, HasFile, IsAtHome}
use Rattle.cl_model.specs.Classes as classes
use Rattle.cl_model.specs.Lineages.{Kin}
use Rattle.cl_model.specs.Machine.{HasLineage, IsClosed}
use Rattle.cl_model.specs.States.{State, IsRecorded, recorded_definer}
use Rattle.cl_model.proofs.Homes.{home_of_home}
use Rattle.cl_model.proofs.Planned.{lineage_exists}
use Rattle.cl_model.proofs.Trees.{lineage_of}
use Rattle.cl_config.specs.Views.{Configured}
use Rattle.cl_delegation.specs.Worlds.{world_of}
use Rattle.cl_hierarchy.specs.Drafts.{IsSpelt}
use Rattle.cl_hierarchy.proofs.Placed.{spelt_file}

ok_same : {A E : Type 0} (a b : A) (r : Result A E) → r ≡ Ok a → r ≡ Ok b → a ≡ b
ok_same a b r h k = cc

-- a class that a loader records is at home
pub kept_home : (w : World) (s : State) (loader : ℕ) (c : Class) → IsClosed w s → recorded_definer s.records loader c.name ≡ Some c.loader → IsAtHome w c
kept_home w s loader c closed at = home_of_home w loader c.loader c.name (closed.homes loader c.loader c.name at)

-- and has the file that its bytes spell
pub kept_file : (config : Configured) (content : Content) (s : State) (loader : ℕ) (c : Class) (f : Structure) → IsClosed (world_of config content) s → recorded_definer s.records loader c.name ≡ Some c.loader
    → IsSpelt (Some content) c f → HasFile (world_of config content) c (file_of f)
kept_file config content s loader c f closed at spelt = spelt_file config content c f (kept_home (world_of config content) s loader c closed at) spelt

-- the lineage of a class, whose file is this
pub record Placed (w : World) (c : Class) (f : File) : Type 0 where
  pub kin : Kin
  pub of : HasLineage w c kin
  pub class_is : kin.class ≡ c
  pub file_is : kin.file ≡ f

pub kept_lineage : (config : Configured) (content : Content) (s : State) (loader : ℕ) (c : Class) (f : Structure) → IsClosed (world_of config content) s → recorded_definer s.records loader c.name ≡ Some c.loader
    → IsSpelt (Some content) c f → Placed (world_of config content) c (file_of f)
kept_lineage config content s loader c f closed at spelt =
    let w = world_of config content in
    let own : IsRecorded s c = closed.own loader c.loader c.name at in
    let good = closed.good c own in
    let k = lineage_exists w good.0 c good.1 in
    let is = lineage_of w c k.0 k.1 in
    let has : HasFile w c (file_of f) = kept_file config content s loader c f closed at spelt in
    let held : HasFile w c k.0.file = subst (λ (x : Class). HasFile w x k.0.file) is.0 is.1.has_file in
    record { kin = k.0; of = k.1; class_is = is.0; file_is = ok_same k.0.file (file_of f) (classes.read_class w c) held has }
