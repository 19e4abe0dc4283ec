-- Supertypes that fit: a row that was judged, or one that the frame accepted before.
use Rattle.std.proofs.Common.{◌≡◌, ◌∙◌, ◌+◌, ◌-◌, ◌≤◌, ℕ, zero, suc, List, [], ◌∷◌, ◌++◌, length, map, Option, Some, None, slice_get, refl, sym, ap, subst, arith}
use Rattle.std.specs.Prelude.{IfSome, MatchOption}
use Rattle.std.specs.Option.{option_map}
use Rattle.std.proofs.lemmas.Option.{slice_get-map}
use Rattle.cl_classfile.specs.Files.{File, Name, file_of}
use Rattle.cl_classfile.specs.Structure.{Structure}
use Rattle.cl_model.specs.declared.class.Class.{Class}
use Rattle.cl_model.specs.Content.{Content}
use Rattle.cl_model.specs.Homes.{World}
use Rattle.cl_model.specs.Classes.{class, Above, AsSuperclass, AsSuperinterface, misfit, superinterfaces_of, supers}
use Rattle.cl_model.specs.Frames.{wanted_supertype, AcceptsFirst, IsFrames, Judged}
use Rattle.cl_model.proofs.Stacks.{frame_pop}
use Rattle.cl_config.specs.Views.{Configured}
use Rattle.cl_delegation.specs.Worlds.{world_of}
use Rattle.cl_hierarchy.specs.Drafts.{IsSpelt}
use Rattle.cl_hierarchy.specs.Frames.{Framed, accepted_of, frame_of}
use Rattle.cl_hierarchy.specs.Kept.{frames_in, kept_path}
use Rattle.cl_hierarchy.specs.Paths.{Pathed, Accepts as accepts, Completes, IsPath, at_loader, at_name, misfit_in, misfit_under, name_of, sought_name}
use Rattle.cl_hierarchy.specs.Repeats.{AcceptsRepeated, CompletesRepeated, FitsLast, FitsNext, Repeats, RepeatsLast}
use Rattle.cl_hierarchy.proofs.Ends.{frames_push, last_split, sought_push, under_last}
use Rattle.cl_hierarchy.proofs.Frames.{as_many}
use Rattle.cl_hierarchy.proofs.Paths.{ruled_ends}
use Rattle.cl_hierarchy.proofs.Placed.{spelt_judged}
use Rattle.cl_hierarchy.proofs.Tables.{snoc_same}

-- ---- a row that fits

pub suits_next : (told : Option Content) (c : Configured) (x : Framed) (t : Class) (f : Structure) → IsSpelt told t f → t.name ≡ name_of (wanted_supertype (frame_of x)) → misfit_in x (wanted_supertype (frame_of x)) t (file_of f) ≡ None → FitsNext told c x t.loader
suits_next None c x t f spelt named fits = tt
suits_next (Some content) c x t f spelt named fits = λ a want.
    let fit : misfit x.draft.class a.role t (file_of f) ≡ None = subst (λ (o : Option Above). misfit_in x o t (file_of f) ≡ None) want fits in
    subst (λ (n : List ℕ). Judged (world_of c content) x.draft.class a.role None (class n t.loader)) (named ∙ ap name_of want) (spelt_judged c content x.draft.class t a.role None f spelt fit)

pub fits_last : (told : Option Content) (p : Pathed) (t : Class) (f : Structure) → IsSpelt told t f → t.name ≡ at_name p → misfit_under p.frames t (file_of f) ≡ None → FitsLast told p t.loader
fits_last told p t f spelt named fits = λ before x e.
    suits_next told p.config x t f spelt (named ∙ ap (sought_name p.name) e ∙ sought_push p.name before x)
    (sym (under_last before x t (file_of f)) ∙ ap (λ (xs : List Framed). misfit_under xs t (file_of f)) (sym e) ∙ fits)

-- ---- one that was accepted before

judged_at : (w : World) (c : Class) (others : List Above) (definers : List ℕ) (i definer : ℕ) (a : Above) → AcceptsFirst w c (accepted_of others definers) others → slice_get definers i ≡ Some definer → slice_get others i ≡ Some a
    → Judged w c a.role None (class a.name definer)
judged_at w c [] definers i definer a all p o = absurd cc
judged_at w c (b ∷ others) [] i definer a all p o = absurd cc
judged_at w c (b ∷ others) (q ∷ definers) zero definer a all p o =
    let above : b ≡ a = cc in
    let loader : q ≡ definer = cc in
    subst (λ (l : ℕ). Judged w c a.role None (class a.name l)) loader (subst (λ (d : Above). Judged w c d.role None (class d.name q)) above all.1)
judged_at w c (b ∷ others) (q ∷ definers) (suc i) definer a all p o = judged_at w c others definers i definer a all.2 p o

pub repeats_next : (told : Option Content) (p : Pathed) (definer : ℕ) (before : List Framed) (x : Framed) → IsPath told p → p.frames ≡ before ++ x ∷ [] → Repeats x definer → FitsNext told p.config x definer
repeats_next None p definer before x path e r = tt
repeats_next (Some content) p definer before x path e r = λ a want.
    let w = world_of p.config content in
    let ruled : IsFrames w [] p.loader p.name (map frame_of (before ++ x ∷ [])) (at_loader p) (at_name p) = subst (λ (xs : List Framed). IsFrames w [] p.loader p.name (map frame_of xs) (at_loader p) (at_name p)) e path.rules in
    let popped = frame_pop w [] p.loader (at_loader p) p.name (at_name p) (map frame_of before) (frame_of x) (ruled_ends p.config content p.loader p.name before x (at_loader p) (at_name p) ruled) in
    judged_at w x.draft.class (supers (file_of x.draft.file)) x.definers r.first definer a popped.1.fits r.accepted (r.same ∙ want)

pub repeats_last : (told : Option Content) (p : Pathed) (definer : ℕ) (before : List Framed) (x : Framed) → IsPath told p → p.frames ≡ before ++ x ∷ [] → Repeats x definer → FitsLast told p definer
repeats_last told p definer before x path e r = λ others y split.
    let same = snoc_same before others x y (sym e ∙ split) in
    subst (λ (z : Framed). FitsNext told p.config z definer) same.1 (repeats_next told p definer before x path e r)

-- the supertype at the place of one that was accepted is that which is wanted
pub repeats_at : (x y : Framed) (len first definer : ℕ) → slice_get (supers (file_of x.draft.file)) first ≡ slice_get (supers (file_of x.draft.file)) len → len ≡ length x.definers → length x.definers ≤ length (supers (file_of x.draft.file))
    → slice_get x.definers first ≡ Some definer → x ≡ y → Repeats y definer
repeats_at x y len first definer same counted few at is =
    let others = supers (file_of x.draft.file) in
    subst (λ (z : Framed). Repeats z definer) is
    (record { first = first; accepted = at; same = same ∙ ap (λ (n : ℕ). slice_get others n) (counted ∙ sym (as_many others x.definers few)) })

-- the last of a table's frames accepted it
pub last_repeats : (c : Configured) (loader : ℕ) (at : List ℕ) (es : List (Class × Framed)) (k : Class) (x : Framed) (p : Pathed) (o : Option ℕ) → slice_get es (length es - 1) ≡ Some (k, x) → IfSome o (Repeats x) → kept_path c loader at es ≡ p → IfSome o (RepeatsLast p)
last_repeats c loader at es k x p None h r is = tt
last_repeats c loader at es k x p (Some definer) h r is =
    let s = last_split es (k, x) h in
    subst (λ (q : Pathed). RepeatsLast q definer) is (record { before = frames_in s.before; last = x; split = ap frames_in s.split ∙ frames_push s.before k x; repeats = r })

-- which is the frame that accepts
pub accepts_repeated : (old new : Pathed) (definer : ℕ) (o : Option Framed) → o ≡ None → RepeatsLast old definer → MatchOption o (accepts old new definer) (λ x. Completes old new definer x) → AcceptsRepeated old new
accepts_repeated old new definer o none r h =
    let step : accepts old new definer = subst (λ (k : Option Framed). MatchOption k (accepts old new definer) (λ x. Completes old new definer x)) none h in
    let same = snoc_same r.before step.before r.last step.last (sym r.split ∙ step.split) in
    record { definer = definer; step = step; repeats = subst (λ (z : Framed). Repeats z definer) same.1 r.repeats }

pub completes_repeated : (old new : Pathed) (definer : ℕ) (o : Option Framed) (x : Framed) → o ≡ Some x → RepeatsLast old definer → MatchOption o (accepts old new definer) (λ y. Completes old new definer y) → CompletesRepeated old new x
completes_repeated old new definer o x some r h =
    let step : Completes old new definer x = subst (λ (k : Option Framed). MatchOption k (accepts old new definer) (λ y. Completes old new definer y)) some h in
    let same = snoc_same r.before step.before r.last step.last (sym r.split ∙ step.split) in
    record { definer = definer; step = step; repeats = subst (λ (z : Framed). Repeats z definer) same.1 r.repeats }

-- ---- which supertype a place has

interfaces_same : (f : File) (i j : ℕ) → slice_get f.interfaces i ≡ slice_get f.interfaces j → slice_get (superinterfaces_of f) i ≡ slice_get (superinterfaces_of f) j
interfaces_same f i j e =
    let above : Name → Above = λ n. record { name = n; role = AsSuperinterface } in
    slice_get-map above f.interfaces i ∙ ap (option_map above) e ∙ sym (slice_get-map above f.interfaces j)

pub same_behind : (f : File) (n : Name) (i place : ℕ) → f.super_name ≡ Some n → (place ≡ 0 → ⊥) → slice_get f.interfaces i ≡ slice_get f.interfaces (place - 1) → slice_get (supers f) (i + 1) ≡ slice_get (supers f) place
same_behind f n i zero some more e = absurd (more refl)
same_behind f n i (suc p) some more e =
    let above : Above = record { name = n; role = AsSuperclass } in
    let is : supers f ≡ above ∷ superinterfaces_of f = rw some refl in
    let next : (suc p) - 1 ≡ p = omega arith in
    let behind : slice_get f.interfaces i ≡ slice_get f.interfaces p = e ∙ ap (λ (k : ℕ). slice_get f.interfaces k) next in
    let behind_one : i + 1 ≡ suc i = omega arith in
    ap (λ (k : ℕ). slice_get (supers f) k) behind_one ∙ ap (λ (others : List Above). slice_get others (suc i)) is ∙ interfaces_same f i p behind ∙ ap (λ (others : List Above). slice_get others (suc p)) (sym is)
