-- What the linkage machine allows next is what a registry accepts.
use Rattle.std.proofs.Common.{◌≡◌, ◌<◌, ◌∙◌, ℕ, zero, suc, Bool, true, false, if◌then◌else◌, List, [], ◌∷◌, length, map, Option, Some, None, inl, refl, sym, ap, subst, arith, is_some}
use Rattle.std.specs.Prelude.{nat_lt, slice_get, option_and_then, unwrap_or, IsSome, IfSome}
use Rattle.std.specs.List.{AllByRecursion}
use Rattle.std.proofs.lemmas.Bool.Decides.{nat_tests}
use Rattle.std.proofs.lemmas.List.{length-map}
use Rattle.std.proofs.lemmas.Option.{slice_get_within}
use Rattle.std.proofs.lemmas.Cmp.{nat_eq_equiv}
use Rattle.cl_classfile.specs.Files.{Name, File, file_of}
use Rattle.cl_model.specs.declared.class.Class.{Class}
use Rattle.cl_model.specs.Content.{Content}
use Rattle.cl_model.specs.Homes.{World, home, is_java, is_loader, own_home, home_by_earlier, home_below}
use Rattle.cl_model.specs.Classes.{class, Above, AtHome, Fitting, FitsAt, Good, IsGood, HasFile, IsAtHome, misfit, supers}
use Rattle.cl_model.specs.Classes as classes
use Rattle.cl_model.specs.States.{State, Entry, MayAdd, recorded_definer, Keeps}
use Rattle.cl_model.specs.Plans.{Load}
use Rattle.cl_model.specs.Frames.{Frame, Judged, AcceptsFirst}
use Rattle.cl_model.specs.Machine.{Setting, Define, Initiate, IsClosed, May}
use Rattle.cl_model.proofs.Closed.{Stands, runs_are_closed}
use Rattle.cl_model.proofs.Bind.{ok_same, none_not_some, some_same}
use Rattle.cl_model.proofs.Ending.{if_some}
use Rattle.cl_model.proofs.Frames.{complete_is_next}
use Rattle.cl_model.proofs.Homes.{home_of_home}
use Rattle.cl_model.proofs.Looks.{unmet_is_fresh}
use Rattle.cl_model.proofs.Progress.{next_may}
use Rattle.cl_model.proofs.Reached.{then_some}
use Rattle.cl_config.specs.Views.{Configured}
use Rattle.cl_config.specs.Loaders.{world_loader}
use Rattle.cl_delegation.specs.Worlds.{world_of, setting_of}
use Rattle.cl_hierarchy.specs.Drafts.{Drafted, IsDraft}
use Rattle.cl_hierarchy.specs.Rows.{FitsAs}
use Rattle.cl_hierarchy.proofs.Placed.{spelt_file}
use Rattle.cl_registry.specs.Tables.{Shown, steps, state_of, records_of, looked_row, recorded_place, IsKept}
use Rattle.cl_registry.specs.Allowed.{AllowedIsEntered, EnteredIsAllowed, AllowedIsJoined, JoinedIsAllowed, RoundIsAllowed, OtherConfigIsStray}
use Rattle.cl_registry.proofs.Running.{may_add, may_be_added}
use Rattle.cl_registry.proofs.Placed.{HasRow, recorded_row}
use Rattle.cl_registry.proofs.Looked.{some_of}
use Rattle.cl_findings.specs.Loads.{asked_record, own_record}

pub closed_of : (content : Content) (x : Shown) → IsKept (Some content) x → IsClosed (world_of x.config content) (state_of x)
closed_of content x kept = runs_are_closed (setting_of x.config x.script content) (steps x) kept.run

-- ---- homes

less_of : (a b : ℕ) → nat_lt a b ≡ true → a < b
less_of a b e = grind (arith, nat_tests)

-- only loaders that there are find anything
home_bound : (w : World) (l p : ℕ) (name : Name) → home w l name ≡ Some p → l < length w.loaders
home_bound w l p name h = by_java (is_java name) h
  where
    by_java : (b : Bool) → (elim b as (λ x. Option ℕ) [ true ↦ if is_loader w l then own_home w 0 name else None | false ↦ home_below w name (suc l) l ]) ≡ Some p → l < length w.loaders
    by_java true h = less_of l (length w.loaders) (if_some (is_loader w l) (own_home w 0 name) p h).0
    by_java false h =
        let at : option_and_then (home_by_earlier w name (home_below w name l) l) (slice_get w.loaders l) ≡ Some p =
        subst (λ (b : Bool). (elim b as (λ x. Option ℕ) [ true ↦ option_and_then (home_by_earlier w name (home_below w name l) l) (slice_get w.loaders l) | false ↦ home_below w name l l ]) ≡ Some p) (nat_eq_equiv.refl l) h in
        let some = then_some (home_by_earlier w name (home_below w name l) l) (slice_get w.loaders l) p at in
        slice_get_within w.loaders l some.0 some.1

loader_bound : (c : Configured) (content : Content) (l p : ℕ) (name : Name) → home (world_of c content) l name ≡ Some p → l < length c.loaders
loader_bound c content l p name h = subst (λ (n : ℕ). l < n) (length-map c.loaders world_loader) (home_bound (world_of c content) l p name h)

-- a draft's class is at home, under the configuration that it was found under
pub draft_at_home : (c : Configured) (content : Content) (d : Drafted) → IsDraft (Some content) d → d.home.config ≡ c → IsAtHome (world_of c content) d.class
draft_at_home c content d draft config =
    let found : home (world_of c content) d.home.asked d.home.name ≡ Some d.home.definer = subst (λ (k : Configured). home (world_of k content) d.home.asked d.home.name ≡ Some d.home.definer) config draft.leads in
    subst (λ (k : Class). IsAtHome (world_of c content) k) (sym draft.placed) (home_of_home (world_of c content) d.home.asked d.home.definer d.home.name found)

-- ---- definitions

-- what is recorded is at home where it was defined
row_file : (content : Content) (x : Shown) (l p : ℕ) (name : Name) → IsKept (Some content) x → recorded_definer (records_of x) l name ≡ Some p → (r : HasRow (Some content) (looked_row x l name) (class name p)) → HasFile (world_of x.config content) (class name p) (file_of r.row.file)
row_file content x l p name kept at r =
    let w = world_of x.config content in
    let closed = closed_of content x kept in
    spelt_file x.config content (class name p) r.row.file (home_of_home w l p name (closed.homes l p name at)) r.spelt

if_some_row : {A : Type 0} (P : A → Type 0) (o : Option A) (a : A) → o ≡ Some a → P a → IfSome o P
if_some_row {A = A} P o a e p = subst (λ (o : Option A). IfSome o P) (sym e) p

pub row_of_some : {A : Type 0} (P : A → Type 0) (o : Option A) (a : A) → o ≡ Some a → IfSome o P → P a
row_of_some {A = A} P o a e h = subst (λ (o : Option A). IfSome o P) e h

-- the record that comes next in a load may be made
may_by : (g : Setting) (s : State) (c : Class) (f : File) (ts : List Class) → IsClosed g.world s → IsAtHome g.world c → HasFile g.world c f → AcceptsFirst g.world c ts (supers f) → AllByRecursion (Keeps s c.loader) ts → slice_get (supers f) (length ts) ≡ None
    → MayAdd s (Entry c.loader c.name c.loader) → May g s (Define c)
may_by g s c f ts closed at file accepts kept none free =
    let x : Frame = record { class = c; file = f; accepted = ts } in
    let n = complete_is_next g.world s (Load c.loader c.name) classes.ClassNotFound [] x c.loader closed
    (record { loader = c.loader; name = c.name; starts = inl (refl, refl, refl); frames = (refl, refl); kept = tt })
    (record { named = refl; found = at; has_file = file; new = refl; fits = accepts })
    kept none in
    subst (λ (b : Bool). May g s (if b then Define c else Initiate c.name c.loader c.loader)) (nat_eq_equiv.refl c.loader)
    (next_may g s (Load c.loader c.name) n.plan (Entry c.loader c.name c.loader) closed n.planned n.next free)

-- the classes that a loader has recorded for these supertypes
abbrev recorded_as : Shown → ℕ → List Above → List Class
recorded_as x l others = map (λ (a : Above). class a.name (recorded_place (records_of x) l a)) others

pub recorded_at : (x : Shown) (l : ℕ) (a : Above) → IsSome (recorded_definer (records_of x) l a.name) → recorded_definer (records_of x) l a.name ≡ Some (recorded_place (records_of x) l a)
recorded_at x l a some =
    let p = some_of (recorded_definer (records_of x) l a.name) some in
    p.1 ∙ ap (λ (o : Option ℕ). Some (unwrap_or o 0)) (sym p.1)

all_accepted : (content : Content) (x : Shown) (c : Class) (others : List Above) → IsKept (Some content) x → AllByRecursion (λ (a : Above). IsSome (recorded_definer (records_of x) c.loader a.name)) others
    → AllByRecursion (λ (a : Above). IfSome (looked_row x c.loader a.name) (FitsAs c a)) others
    → AcceptsFirst (world_of x.config content) c (recorded_as x c.loader others) others × AllByRecursion (Keeps (state_of x) c.loader) (recorded_as x c.loader others)
all_accepted content x c [] kept above fit = (tt, tt)
all_accepted content x c (a ∷ others) kept above fit =
    let w = world_of x.config content in
    let p = recorded_place (records_of x) c.loader a in
    let at = recorded_at x c.loader a above.0 in
    let r = recorded_row (Some content) x c.loader p a.name kept at in
    let fits : FitsAs c a r.row = row_of_some (FitsAs c a) (looked_row x c.loader a.name) r.row r.found fit.0 in
    let more = all_accepted content x c others kept above.1 fit.1 in
    let judged : Judged w c a.role None (class a.name p) =
    λ home. record { file = file_of r.row.file; has_file = row_file content x c.loader p a.name kept at r; judged = subst (λ (t : Class). misfit c a.role t (file_of r.row.file) ≡ None) r.is fits } in
    ((refl, judged, more.0), (at, more.1))

past_end : {A B : Type 0} (f : A → B) (xs : List A) → slice_get xs (length (map f xs)) ≡ None
past_end f [] = refl
past_end f (x ∷ xs) = past_end f xs

-- supertypes that are good and recorded are recorded as such, and fit
all_fit : (content : Content) (x : Shown) (c : Class) (n : ℕ) (others : List Above) → IsKept (Some content) x → AllByRecursion (Stands (world_of x.config content) (state_of x) c) others
    → AllByRecursion (FitsAt (world_of x.config content) c (Good (world_of x.config content) n)) others
    → AllByRecursion (λ (a : Above). IsSome (recorded_definer (records_of x) c.loader a.name)) others × AllByRecursion (λ (a : Above). IfSome (looked_row x c.loader a.name) (FitsAs c a)) others
all_fit content x c n [] kept above fit = (tt, tt)
all_fit content x c n (a ∷ others) kept above fit =
    let w = world_of x.config content in
    let p = above.0.place in
    let r = recorded_row (Some content) x c.loader p a.name kept above.0.holds in
    let same : fit.0.place ≡ p = some_same fit.0.place p (sym fit.0.found ∙ above.0.found) in
    let fitting : Fitting w c a.role None (class a.name p) = subst (λ (q : ℕ). Fitting w c a.role None (class a.name q)) same fit.0.holds.1 in
    let file : fitting.file ≡ file_of r.row.file = ok_same fitting.file (file_of r.row.file) (classes.read_class w (class a.name p)) fitting.has_file (row_file content x c.loader p a.name kept above.0.holds r) in
    let fits : FitsAs c a r.row = ap (λ (t : Class). misfit c a.role t (file_of r.row.file)) r.is ∙ ap (λ (f : File). misfit c a.role (class a.name p) f) (sym file) ∙ fitting.judged in
    let more = all_fit content x c n others kept above.1 fit.1 in
    ((ap is_some above.0.holds, more.0), (if_some_row (FitsAs c a) (looked_row x c.loader a.name) r.row r.found fits, more.1))

-- the supertypes of a class that is good and has this file
good_fits : (w : World) (n : ℕ) (c : Class) (f : File) → Good w n c → HasFile w c f → (m : ℕ) × AllByRecursion (FitsAt w c (Good w m)) (supers f)
good_fits w zero c f good file = absurd good
good_fits w (suc n) c f good file = (n, subst (λ (g : File). AllByRecursion (FitsAt w c (Good w n)) (supers g)) (ok_same good.0 f (classes.read_class w c) good.1 file) good.2)

pub allowed_is_entered : AllowedIsEntered
allowed_is_entered content x d kept draft config may =
    let w = world_of x.config content in
    let s = state_of x in
    let file : HasFile w d.class (file_of d.file) = spelt_file x.config content d.class d.file may.at_home draft.spelt in
    let same : may.file ≡ file_of d.file = ok_same may.file (file_of d.file) (classes.read_class w d.class) may.has_file file in
    let good = good_fits w may.good.0 d.class (file_of d.file) may.good.1 file in
    let all = all_fit content x d.class good.0 (supers (file_of d.file)) kept (subst (λ (f : File). AllByRecursion (Stands w s d.class) (supers f)) same may.above) good.1 in (
      record { config = config; loader = loader_bound x.config content d.class.loader d.class.loader d.class.name may.at_home; above = all.0; fit = all.1 },
      unmet_is_fresh w s d.class.loader d.class.loader d.class.name (closed_of content x kept) may.at_home may.may_add.unmet,
      may_be_added s (own_record d) may.may_add,
    )

pub entered_is_allowed : EnteredIsAllowed
entered_is_allowed content x d kept draft may fresh free =
    let at = draft_at_home x.config content d draft may.config in
    let all = all_accepted content x d.class (supers (file_of d.file)) kept may.above may.fit in
    may_by (setting_of x.config x.script content) (state_of x) d.class (file_of d.file) (recorded_as x d.class.loader (supers (file_of d.file))) (closed_of content x kept) at
    (spelt_file x.config content d.class d.file at draft.spelt) all.0 all.1 (past_end (λ (a : Above). class a.name (recorded_place (records_of x) d.class.loader a)) (supers (file_of d.file)))
    (may_add (state_of x) d.class.loader d.class.loader d.class.name fresh free)

-- ---- initiating loaders

pub joined_is_allowed : JoinedIsAllowed
joined_is_allowed content x h kept leads may fresh free =
    record {
      found = subst (λ (c : Configured). home (world_of c content) h.asked h.name ≡ Some h.definer) may.config leads;
      not_own = λ e. none_not_some (recorded_definer (records_of x) h.asked h.name) fresh (subst (λ (l : ℕ). recorded_definer (records_of x) l h.name ≡ Some h.definer) (sym e) may.defined);
      defined = may.defined;
      may_add = may_add (state_of x) h.asked h.definer h.name fresh free;
    }

pub allowed_is_joined : AllowedIsJoined
allowed_is_joined content x h kept config may = (
  record { config = config; loader = loader_bound x.config content h.asked h.definer h.name may.found; defined = may.defined },
  unmet_is_fresh (world_of x.config content) (state_of x) h.asked h.definer h.name (closed_of content x kept) may.found may.may_add.unmet,
  may_be_added (state_of x) (asked_record h) may.may_add,
)

-- ---- rounds, and other configurations

pub round_is_allowed : RoundIsAllowed
round_is_allowed content x may = may

pub other_config_is_stray : OtherConfigIsStray
other_config_is_stray x d new other = (new, λ may. other may.config)
