-- What comes next on a path is whole.
use Rattle.std.proofs.Common.{◌≡◌, ◌∙◌, ℕ, false, List, [], ◌∷◌, ◌++◌, map, Option, Some, None, refl, sym, ap, subst}
use Rattle.std.proofs.lemmas.List.{map_push}
use Rattle.cl_classfile.specs.Files.{file_of}
use Rattle.cl_model.specs.declared.class.Class.{Class}
use Rattle.cl_model.specs.Content.{Content}
use Rattle.cl_model.specs.Classes.{class, Above}
use Rattle.cl_model.specs.Frames.{Frame, IsFrame, IsFrames, with_accepted, asking_loader, path_of, wanted_supertype}
use Rattle.cl_model.proofs.Stacks.{frame_fits, frame_pop, path_scanned}
use Rattle.cl_delegation.specs.Worlds.{world_of}
use Rattle.cl_hierarchy.specs.Drafts.{Drafted, IsDraft, IsSpelt}
use Rattle.cl_hierarchy.specs.Frames.{Framed, frame_of, with_definer}
use Rattle.cl_hierarchy.specs.Paths.{Pathed, IsPath, Completes, at_loader, at_name, fresh, frames_of, is_on, misfit_under, with_frames}
use Rattle.cl_hierarchy.specs.Repeats.{CompletesRepeated, FitsLast, FitsNext}
use Rattle.cl_hierarchy.specs.Rows.{Rowed}
use Rattle.cl_hierarchy.proofs.Ends.{all_pop}
use Rattle.cl_hierarchy.proofs.Frames.{accepts_one}
use Rattle.cl_hierarchy.proofs.Paths.{stand_pop}
use Rattle.cl_hierarchy.proofs.Placed.{fresh_frame}
use Rattle.cl_hierarchy.proofs.Repeats.{fits_last, repeats_last}
use Rattle.cl_findings.specs.Loads.{IsSought, IsWhole, FrameKeepsRules}

-- the name of a draft's home is that of its class
home_named : (told : Option Content) (d : Drafted) → IsDraft told d → d.home.name ≡ d.class.name
home_named told d draft = ap (λ (c : Class). c.name) (sym draft.placed)

-- ---- a class without direct supertypes

root_rules : (told : Option Content) (p : Pathed) (d : Drafted) → IsDraft told d → IsSought p d.home → is_on p d.class ≡ false → d.class.name ≡ at_name p → FrameKeepsRules told p (fresh d)
root_rules None p d draft home new named = tt
root_rules (Some content) p d draft home new named =
    let w = world_of p.config content in
    subst (λ (n : List ℕ). IsFrame w (path_of [] (frames_of p)) (at_loader p) n (frame_of (fresh d))) named
    (fresh_frame p.config content (path_of [] (frames_of p)) d (at_loader p) draft home.config home.asked (path_scanned (frames_of p) d.class ∙ new))

pub root_is_whole : (told : Option Content) (p : Pathed) (d : Drafted) → IsPath told p → IsDraft told d → IsSought p d.home → is_on p d.class ≡ false → wanted_supertype (frame_of (fresh d)) ≡ None → IsWhole told p (fresh d)
root_is_whole told p d path draft home new complete =
    let named : d.class.name ≡ at_name p = sym (home_named told d draft) ∙ home.name in
    record { home = home; named = named; complete = complete; rules = root_rules told p d draft home new named }

-- ---- a class that accepted its last supertype

accepted_frame : (x : Framed) (definer : ℕ) (a : Above) → wanted_supertype (frame_of x) ≡ Some a → frame_of (with_definer x definer) ≡ with_accepted (frame_of x) (class a.name definer)
accepted_frame x definer a h = accepts_one x (with_definer x definer) definer refl (Some a) h

completed_rules : (told : Option Content) (c : Pathed) (before : List Framed) (last : Framed) (definer : ℕ) → IsPath told (with_frames c (before ++ last ∷ [])) → FitsNext told c.config last definer → last.draft.class.name ≡ at_name (with_frames c before)
    → FrameKeepsRules told (with_frames c before) (with_definer last definer)
completed_rules None c before last definer path fits is = tt
completed_rules (Some content) c before last definer path fits is =
    let w = world_of c.config content in
    let old = with_frames c (before ++ last ∷ []) in
    let xs = map frame_of before in
    let x = frame_of last in
    let pop = frame_pop w [] c.loader (at_loader old) c.name (at_name old) xs x (subst (λ (fs : List Frame). IsFrames w [] c.loader c.name fs (at_loader old) (at_name old)) (map_push frame_of before last) path.rules) in
    let a = pop.2.0 in
    let whole = frame_fits w (path_of [] xs) (asking_loader c.loader xs) x.class.name x a (class a.name definer) pop.1 pop.2.1 refl (fits a pop.2.1) in
    subst (λ (n : List ℕ). IsFrame w (path_of [] xs) (asking_loader c.loader xs) n (frame_of (with_definer last definer))) is
    (subst (λ (y : Frame). IsFrame w (path_of [] xs) (asking_loader c.loader xs) x.class.name y) (sym (accepted_frame last definer a pop.2.1)) whole)

completed : (told : Option Content) (c : Pathed) (before : List Framed) (last : Framed) (definer : ℕ) → IsPath told (with_frames c (before ++ last ∷ [])) → FitsNext told c.config last definer → wanted_supertype (frame_of (with_definer last definer)) ≡ None
    → IsWhole told (with_frames c before) (with_definer last definer)
completed told c before last definer path fits complete =
    let stands = (stand_pop c.config c.loader c.name before last path.stand).1 in
    let draft = (all_pop (λ (x : Framed). IsDraft told x.draft) before last path.drafts).1 in
    record {
      home = record { config = stands.config; asked = stands.asked; name = home_named told last.draft draft ∙ stands.named };
      named = stands.named;
      complete = complete;
      rules = completed_rules told c before last definer path fits stands.named;
    }

same_path : (old : Pathed) (xs : List Framed) → old.frames ≡ xs → old ≡ with_frames old xs
same_path old xs e = ap (λ (ys : List Framed). with_frames old ys) e

-- a class of this loader that fits as the last one
fitting_is_whole : (told : Option Content) (old new : Pathed) (definer : ℕ) (x : Framed) → IsPath told old → Completes old new definer x → FitsLast told old definer → IsWhole told new x
fitting_is_whole told old new definer x path step fits =
    let all = step.before ++ step.last ∷ [] in
    subst (λ (p : Pathed). IsWhole told p x) (sym step.now)
    (subst (λ (y : Framed). IsWhole told (with_frames old step.before) y) (sym step.whole_is)
    (completed told old step.before step.last definer (subst (λ (p : Pathed). IsPath told p) (same_path old all step.split) path) (fits step.before step.last step.split)
    (subst (λ (y : Framed). wanted_supertype (frame_of y) ≡ None) step.whole_is step.complete)))

pub completed_is_whole : (told : Option Content) (old new : Pathed) (definer : ℕ) (x : Framed) (row : Rowed) → IsPath told old → Completes old new definer x → IsSpelt told row.class row.file → row.class.loader ≡ definer
    → row.class.name ≡ at_name old → misfit_under old.frames row.class (file_of row.file) ≡ None → IsWhole told new x
completed_is_whole told old new definer x row path step spelt at called fits =
    fitting_is_whole told old new definer x path step (subst (λ (l : ℕ). FitsLast told old l) at (fits_last told old row.class row.file spelt called fits))

-- one that the class accepted before
pub repeated_is_whole : (told : Option Content) (old new : Pathed) (x : Framed) → IsPath told old → CompletesRepeated old new x → IsWhole told new x
repeated_is_whole told old new x path repeated =
    let step = repeated.step in
    fitting_is_whole told old new repeated.definer x path step (repeats_last told old repeated.definer step.before step.last path step.split repeated.repeats)
