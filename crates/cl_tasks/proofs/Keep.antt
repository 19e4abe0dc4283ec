-- What a task was told stays with its frames: what they accepted is recorded where it was asked for, and fits.
use Rattle.std.proofs.Common.{◌≡◌, ◌∙◌, ℕ, List, [], ◌∷◌, ◌++◌, length, map, Option, Some, None, refl, sym, ap, subst, slice_get}
use Rattle.std.specs.Prelude.{IsSome, IfSome}
use Rattle.std.specs.List.{AllByRecursion}
use Rattle.cl_classfile.specs.Files.{Name, File, file_of}
use Rattle.cl_model.specs.declared.class.Class.{Class}
use Rattle.cl_model.specs.Content.{Content}
use Rattle.cl_model.specs.Classes.{class, Above, supers, misfit}
use Rattle.cl_model.specs.States.{recorded_definer, Keeps}
use Rattle.cl_model.specs.Frames.{Frame, wanted_supertype, asking_loader, with_accepted, KeepsAccepted, AllKept, NamedAs}
use Rattle.cl_config.specs.Views.{Configured}
use Rattle.cl_hierarchy.specs.Rows.{FitsAs, Rowed}
use Rattle.cl_hierarchy.specs.Drafts.{Drafted}
use Rattle.cl_hierarchy.specs.Frames.{Framed, accepted_of, frame_of, with_definer}
use Rattle.cl_hierarchy.specs.Paths.{Pathed, frames_of, fresh, name_of, sought_name, at_loader, at_name, FrameStands, AllStand, IsPath, with_frame, misfit_in, misfit_under, Accepts, Completes}
use Rattle.cl_model.proofs.Stacks.{complete_is_kept}
use Rattle.cl_model.proofs.Ancestors.{class_at}
use Rattle.cl_hierarchy.proofs.Frames.{accepts_one}
use Rattle.cl_hierarchy.proofs.Ends.{under_last, asking_push}
use Rattle.cl_registry.specs.Tables.{Shown, state_of, records_of, looked_row}
use Rattle.cl_tasks.specs.Facts.{AllHave, IsRecordedAs, HasAccepted, HaveAccepted}

-- what a frame has accepted is recorded, and fits
abbrev pub Has : Shown → Frame → Type 0
Has x f = HaveAccepted x f.class f.accepted (supers f.file)

-- ---- what was accepted is kept, and named

one_kept : (x : Shown) (c t : Class) (a : Above) → HasAccepted x c t a → Keeps (state_of x) c.loader t
one_kept x c t a h =
    subst (λ (k : Class). Keeps (state_of x) c.loader k) h.is
    (subst (λ (n : Name). recorded_definer (records_of x) c.loader n ≡ Some h.row.class.loader) (sym h.recorded.records.0) h.recorded.records.1)

accepted_kept : (x : Shown) (c : Class) (ts : List Class) (others : List Above) → HaveAccepted x c ts others → AllByRecursion (Keeps (state_of x) c.loader) ts
accepted_kept x c [] others h = tt
accepted_kept x c (t ∷ ts) [] h = absurd h
accepted_kept x c (t ∷ ts) (a ∷ others) h = (one_kept x c t a h.0, accepted_kept x c ts others h.1)

pub frame_kept : (x : Shown) (f : Frame) → Has x f → KeepsAccepted (state_of x) f
frame_kept x f h = accepted_kept x f.class f.accepted (supers f.file) h

pub all_kept : (x : Shown) (fs : List Frame) → AllHave x fs → AllKept (state_of x) fs
all_kept x [] h = tt
all_kept x (f ∷ fs) h = (frame_kept x f h.0, all_kept x fs h.1)

accepted_named : (x : Shown) (c : Class) (ts : List Class) (others : List Above) → HaveAccepted x c ts others → NamedAs ts others
accepted_named x c [] others h = tt
accepted_named x c (t ∷ ts) [] h = absurd h
accepted_named x c (t ∷ ts) (a ∷ others) h = (sym (ap (λ (k : Class). k.name) h.0.is) ∙ h.0.recorded.records.0, accepted_named x c ts others h.1)

pub frame_named : (x : Shown) (f : Frame) → Has x f → NamedAs f.accepted (supers f.file)
frame_named x f h = accepted_named x f.class f.accepted (supers f.file) h

-- ---- the last frame

pub all_last : {A : Type 0} (P : A → Type 0) (xs : List A) (x : A) → AllByRecursion P (xs ++ x ∷ []) → P x
all_last P [] x h = h.0
all_last P (y ∷ ys) x h = all_last P ys x h.1

pub map_last : (xs : List Framed) (x : Framed) → map frame_of (xs ++ x ∷ []) ≡ map frame_of xs ++ frame_of x ∷ []
map_last [] x = refl
map_last (y ∷ ys) x = ap (λ (fs : List Frame). frame_of y ∷ fs) (map_last ys x)

pub sought_last : (name : Name) (xs : List Framed) (x : Framed) → sought_name name (xs ++ x ∷ []) ≡ name_of (wanted_supertype (frame_of x))
sought_last name [] x = refl
sought_last name (y ∷ ys) x = sought_last (name_of (wanted_supertype (frame_of y))) ys x

pub stands_last : (c : Configured) (loader : ℕ) (name : Name) (xs : List Framed) (x : Framed) → AllStand c loader name (xs ++ x ∷ []) → FrameStands c (asking_loader loader (map frame_of xs)) (sought_name name xs) x
stands_last c loader name [] x h = h.0
stands_last c loader name (y ∷ ys) x h = stands_last c y.draft.class.loader (name_of (wanted_supertype (frame_of y))) ys x h.1

-- what the last frame of a path waits for
pub record Top (p : Pathed) (before : List Framed) (last : Framed) : Type 0 where
  pub above : Above
  pub wants : wanted_supertype (frame_of last) ≡ Some above
  pub loader : at_loader p ≡ last.draft.class.loader
  pub name : at_name p ≡ above.name
  pub judged : (t : Class) (f : File) → misfit_under p.frames t f ≡ misfit last.draft.class above.role t f
  pub frames : frames_of p ≡ map frame_of before ++ frame_of last ∷ []
  pub stands : FrameStands p.config (asking_loader p.loader (map frame_of before)) (sought_name p.name before) last

pub some_of : (o : Option Above) → IsSome o → (a : Above) × (o ≡ Some a)
some_of None h = absurd cc
some_of (Some a) h = (a, refl)

pub top_of : (told : Option Content) (p : Pathed) (before : List Framed) (last : Framed) → IsPath told p → p.frames ≡ before ++ last ∷ [] → Top p before last
top_of told p before last path split =
    let stands = stands_last p.config p.loader p.name before last (subst (λ (xs : List Framed). AllStand p.config p.loader p.name xs) split path.stand) in
    let w = some_of (wanted_supertype (frame_of last)) stands.waits in
    record {
      above = w.0;
      wants = w.1;
      loader = ap (λ (xs : List Framed). asking_loader p.loader (map frame_of xs)) split ∙ asking_push p.loader before last;
      name = ap (λ (xs : List Framed). sought_name p.name xs) split ∙ sought_last p.name before last ∙ ap name_of w.1;
      judged = λ t f. ap (λ (xs : List Framed). misfit_under xs t f) split ∙ under_last before last t f ∙ ap (λ (o : Option Above). misfit_in last o t f) w.1;
      frames = ap (λ (xs : List Framed). map frame_of xs) split ∙ map_last before last;
      stands = stands;
    }

-- ---- one supertype more

more_accepted : (x : Shown) (c : Class) (ts : List Class) (t : Class) (others : List Above) (a : Above) → HaveAccepted x c ts others → slice_get others (length ts) ≡ Some a → HasAccepted x c t a → HaveAccepted x c (ts ++ t ∷ []) others
more_accepted x c [] t [] a h e k = absurd cc
more_accepted x c [] t (b ∷ others) a h e k = let same : a ≡ b = cc in (subst (λ (z : Above). HasAccepted x c t z) same k, tt)
more_accepted x c (u ∷ us) t [] a h e k = absurd h
more_accepted x c (u ∷ us) t (b ∷ others) a h e k = (h.0, more_accepted x c us t others a h.1 e k)

pub accepting_has : (x : Shown) (f : Frame) (a : Above) (t : Class) → Has x f → wanted_supertype f ≡ Some a → HasAccepted x f.class t a → Has x (with_accepted f t)
accepting_has x f a t h want k = more_accepted x f.class f.accepted t (supers f.file) a h want k

-- the last frame has accepted a row that was told and fits
pub takes : (x : Shown) (p : Pathed) (before : List Framed) (last : Framed) (row : Rowed) → Top p before last → Has x (frame_of last) → IsRecordedAs x (at_loader p) (at_name p) row
    → misfit_under p.frames row.class (file_of row.file) ≡ None → Has x (frame_of (with_definer last row.class.loader))
takes x p before last row top h told fits =
    let c = last.draft.class in
    let a = top.above in
    let f : frame_of (with_definer last row.class.loader) ≡ with_accepted (frame_of last) (class a.name row.class.loader) = accepts_one last (with_definer last row.class.loader) row.class.loader refl (Some a) top.wants in
    let by_name : IsRecordedAs x (at_loader p) a.name row = subst (λ (n : Name). IsRecordedAs x (at_loader p) n row) top.name told in
    let by_loader : IsRecordedAs x c.loader a.name row = subst (λ (l : ℕ). IsRecordedAs x l a.name row) top.loader by_name in
    subst (λ (z : Frame). Has x z) (sym f) (accepting_has x (frame_of last) a (class a.name row.class.loader) h top.wants (record {
      row = row;
      recorded = by_loader;
      is = class_at row.class a.name by_loader.records.0;
      fits = sym (top.judged row.class (file_of row.file)) ∙ fits;
    }))

pub framed_other : (P : Frame → Type 0) (xs : List Framed) (x y : Framed) → AllByRecursion P (map frame_of (xs ++ x ∷ [])) → P (frame_of y) → AllByRecursion P (map frame_of (xs ++ y ∷ []))
framed_other P [] x y h k = (k, tt)
framed_other P (z ∷ zs) x y h k = (h.0, framed_other P zs x y h.1 k)

pub framed_last : (P : Frame → Type 0) (xs : List Framed) (x : Framed) → AllByRecursion P (map frame_of (xs ++ x ∷ [])) → P (frame_of x)
framed_last P [] x h = h.0
framed_last P (z ∷ zs) x h = framed_last P zs x h.1

pub framed_first : (P : Frame → Type 0) (xs : List Framed) (x : Framed) → AllByRecursion P (map frame_of (xs ++ x ∷ [])) → AllByRecursion P (map frame_of xs)
framed_first P [] x h = tt
framed_first P (z ∷ zs) x h = (h.0, framed_first P zs x h.1)

-- what was told holds of the frames that are split so
pub split_have : (x : Shown) (p : Pathed) (before : List Framed) (last : Framed) → p.frames ≡ before ++ last ∷ [] → AllHave x (frames_of p) → AllHave x (map frame_of (before ++ last ∷ []))
split_have x p before last split h = subst (λ (xs : List Framed). AllHave x (map frame_of xs)) split h

-- ---- what each change of a path keeps

-- the last class accepts a recorded one, and wants another
pub accepts_holds : (told : Option Content) (x : Shown) (old new : Pathed) (row : Rowed) → IsPath told old → AllHave x (frames_of old) → IsRecordedAs x (at_loader old) (at_name old) row
    → misfit_under old.frames row.class (file_of row.file) ≡ None → Accepts old new row.class.loader → AllHave x (frames_of new)
accepts_holds told x old new row path h told_row fits step =
    let top = top_of told old step.before step.last path step.split in
    let has = split_have x old step.before step.last step.split h in
    subst (λ (p : Pathed). AllHave x (frames_of p)) (sym step.now)
    (framed_other (Has x) step.before step.last (with_definer step.last row.class.loader) has
    (takes x old step.before step.last row top (framed_last (Has x) step.before step.last has) told_row fits))

-- the last class is complete: those before it are left, and it has accepted all its supertypes
pub completes_holds : (told : Option Content) (x : Shown) (old new : Pathed) (row : Rowed) (whole : Framed) → IsPath told old → AllHave x (frames_of old) → IsRecordedAs x (at_loader old) (at_name old) row
    → misfit_under old.frames row.class (file_of row.file) ≡ None → Completes old new row.class.loader whole → AllHave x (frames_of new) × Has x (frame_of whole)
completes_holds told x old new row whole path h told_row fits step =
    let has = split_have x old step.before step.last step.split h in (
      subst (λ (p : Pathed). AllHave x (frames_of p)) (sym step.now) (framed_first (Has x) step.before step.last has),
      subst (λ (f : Framed). Has x (frame_of f)) (sym step.whole_is)
          (takes x old step.before step.last row (top_of told old step.before step.last path step.split) (framed_last (Has x) step.before step.last has) told_row fits),
    )

-- a new frame has accepted nothing
pub none_accepted : (x : Shown) (c : Class) (others : List Above) → HaveAccepted x c (accepted_of others []) others
none_accepted x c [] = tt
none_accepted x c (a ∷ others) = tt

framed_push : (P : Frame → Type 0) (xs : List Framed) (x : Framed) → AllByRecursion P (map frame_of xs) → P (frame_of x) → AllByRecursion P (map frame_of (xs ++ x ∷ []))
framed_push P [] x h k = (k, tt)
framed_push P (z ∷ zs) x h k = (h.0, framed_push P zs x h.1 k)

pub push_holds : (x : Shown) (p : Pathed) (d : Drafted) → AllHave x (frames_of p) → AllHave x (frames_of (with_frame p (fresh d)))
push_holds x p d h = framed_push (Has x) p.frames (fresh d) h (none_accepted x d.class (supers (file_of d.file)))

-- ---- a class whose supertypes were all accepted

-- each supertype is recorded by the class's loader
pub whole_recorded : (x : Shown) (f : Frame) → Has x f → wanted_supertype f ≡ None → AllByRecursion (λ (a : Above). IsSome (recorded_definer (records_of x) f.class.loader a.name)) (supers f.file)
whole_recorded x f h none = complete_is_kept (state_of x) f (frame_named x f h) (frame_kept x f h) none

-- and the row that is kept of it fits
abbrev pub RowFits : Shown → Class → Above → Type 0
RowFits x c a = IfSome (looked_row x c.loader a.name) (FitsAs c a)

accepted_fit : (x : Shown) (c : Class) (ts : List Class) (others : List Above) → HaveAccepted x c ts others → slice_get others (length ts) ≡ None → AllByRecursion (RowFits x c) others
accepted_fit x c [] [] h e = tt
accepted_fit x c [] (a ∷ others) h e = absurd cc
accepted_fit x c (t ∷ ts) [] h e = absurd h
accepted_fit x c (t ∷ ts) (a ∷ others) h e =
    (subst (λ (o : Option Rowed). IfSome o (FitsAs c a)) (sym h.0.recorded.kept) h.0.fits, accepted_fit x c ts others h.1 e)

pub whole_fits : (x : Shown) (f : Frame) → Has x f → wanted_supertype f ≡ None → AllByRecursion (RowFits x f.class) (supers f.file)
whole_fits x f h none = accepted_fit x f.class f.accepted (supers f.file) h none

-- the frames with one more
pub have_more : (x : Shown) (fs : List Frame) (f : Frame) → AllHave x fs → Has x f → AllHave x (fs ++ f ∷ [])
have_more x [] f h k = (k, tt)
have_more x (g ∷ fs) f h k = (h.0, have_more x fs f h.1 k)

-- and without it
pub have_first : (x : Shown) (fs : List Frame) (f : Frame) → AllHave x (fs ++ f ∷ []) → AllHave x fs
have_first x [] f h = tt
have_first x (g ∷ fs) f h = (h.0, have_first x fs f h.1)

pub have_last : (x : Shown) (fs : List Frame) (f : Frame) → AllHave x (fs ++ f ∷ []) → Has x f
have_last x [] f h = h.0
have_last x (g ∷ fs) f h = have_last x fs f h.1

-- a class that accepted nothing yet
pub fresh_has : (x : Shown) (d : Drafted) → Has x (frame_of (fresh d))
fresh_has x d = none_accepted x d.class (supers (file_of d.file))
