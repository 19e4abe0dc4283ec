-- What a content says of a class of which bytes are told, and of the frame of a draft.
use Rattle.std.proofs.Common.{◌≡◌, ◌∙◌, ℕ, Bool, false, List, Option, Some, None, Ok, Err, refl, sym, ap, subst}
use Rattle.std.specs.Prelude.{if◌then◌else◌}
use Rattle.std.proofs.lemmas.Cmp.{nat_eq_equiv, nat_list_eq_equiv}
use Rattle.cl_classfile.specs.Files.{File, same_name, file_of}
use Rattle.cl_classfile.specs.Structure.{Structure}
use Rattle.cl_model.specs.declared.class.Class.{Class}
use Rattle.cl_model.specs.Content.{Content, content_at}
use Rattle.cl_model.specs.Homes.{World, home}
use Rattle.cl_model.specs.Classes.{class, is_among, Error, NoClassDef, is_own, file_if_named, read_found, HasFile, IsAtHome, Role, Above, supers}
use Rattle.cl_model.specs.Classes as classes
use Rattle.cl_model.specs.Frames.{AcceptsFirst, IsFrame, Judged}
use Rattle.cl_model.specs.Worlds.{seen_file}
use Rattle.cl_model.proofs.Homes.{home_of_home}
use Rattle.cl_config.specs.Views.{Configured}
use Rattle.cl_delegation.specs.Worlds.{world_of}
use Rattle.cl_hierarchy.specs.Drafts.{Drafted, IsSpelt, IsDraft}
use Rattle.cl_hierarchy.proofs.Drafting.{grammar_read}
use Rattle.cl_hierarchy.specs.Frames.{frame_of}
use Rattle.cl_hierarchy.specs.Paths.{fresh}
use Rattle.cl_hierarchy.proofs.Frames.{none_yet}

-- the bytes of a class that is at home are read
pub file_found : (w : World) (c : Class) (bytes : List ℕ) → IsAtHome w c → content_at w.content c.loader c.name ≡ Some bytes → classes.read_class w c ≡ file_if_named c (w.read bytes)
file_found w c bytes at stored =
    ap (λ (o : Option ℕ). read_found w c (if is_own c.loader o then content_at w.content c.loader c.name else None)) at
    ∙ ap (λ (b : Bool). read_found w c (if b then content_at w.content c.loader c.name else None)) (nat_eq_equiv.refl c.loader)
    ∙ ap (read_found w c) stored

pub named_so : (c : Class) (f : File) → f.name ≡ c.name → file_if_named c (Ok f) ≡ Ok f
named_so c f e = ap (λ (b : Bool). if b then Ok f else Err (NoClassDef c)) (ap (λ (n : List ℕ). same_name n c.name) e ∙ nat_list_eq_equiv.refl c.name)

-- a class that is at home has the file that its bytes spell
pub spelt_file : (c : Configured) (content : Content) (t : Class) (f : Structure) → IsAtHome (world_of c content) t → IsSpelt (Some content) t f → HasFile (world_of c content) t (file_of f)
spelt_file c content t f at spelt =
    file_found (world_of c content) t spelt.bytes at spelt.told_so ∙ ap (λ r. file_if_named t (seen_file r)) (grammar_read spelt.bytes f spelt.spells) ∙ named_so t (file_of f) spelt.named

-- and is judged by it
pub spelt_judged : (c : Configured) (content : Content) (one t : Class) (role : Role) (wrong : Option Error) (f : Structure) → IsSpelt (Some content) t f → classes.misfit one role t (file_of f) ≡ wrong
    → Judged (world_of c content) one role wrong t
spelt_judged c content one t role wrong f spelt e = λ at. record { file = file_of f; has_file = spelt_file c content t f at spelt; judged = e }

-- where the search led for a draft
pub draft_found : (c : Configured) (content : Content) (d : Drafted) (asked : ℕ) → IsDraft (Some content) d → d.home.config ≡ c → d.home.asked ≡ asked → home (world_of c content) asked d.class.name ≡ Some d.class.loader
draft_found c content d asked draft config at =
    ap (λ (k : Configured). home (world_of k content) asked d.class.name) (sym config) ∙ ap (λ (l : ℕ). home (world_of d.home.config content) l d.class.name) (sym at)
    ∙ ap (λ (t : Class). home (world_of d.home.config content) d.home.asked t.name) draft.placed ∙ draft.leads ∙ ap (λ (t : Class). Some t.loader) (sym draft.placed)

-- a draft that has accepted nothing yet is a frame of what was asked
pub fresh_frame : (c : Configured) (content : Content) (path : List Class) (d : Drafted) (asked : ℕ) → IsDraft (Some content) d → d.home.config ≡ c → d.home.asked ≡ asked → is_among path d.class ≡ false
    → IsFrame (world_of c content) path asked d.class.name (frame_of (fresh d))
fresh_frame c content path d asked draft config at new =
    let w = world_of c content in
    let found = draft_found c content d asked draft config at in
    record {
      named = refl;
      found = found;
      has_file = spelt_file c content d.class d.file (home_of_home w asked d.class.loader d.class.name found) draft.spelt;
      new = new;
      fits = subst (λ (ts : List Class). AcceptsFirst w d.class ts (supers (file_of d.file))) (sym (none_yet (supers (file_of d.file)))) tt;
    }
