-- The plan of a request whose class stands under frames: what comes next in it, and where it ends.
use Rattle.std.proofs.Common.{◌≡◌, ◌≢◌, inl, inr, ℕ, zero, suc, Bool, true, false, ◌==◌, if◌then◌else◌, List, [], ◌∷◌, ◌++◌, length, Option, Some, None, Result, Ok, Err, refl, sym, ap, subst, ◌∙◌, slice_get}
use Rattle.std.specs.Prelude.{option_map}
use Rattle.std.specs.List.{AllByRecursion}
use Rattle.std.proofs.lemmas.Bool.{eqb-true}
use Rattle.cl_classfile.specs.Files.{Name, File, Reference, reference}
use Rattle.cl_descriptors.proofs.Codec.{map_some, then_some}
use Rattle.cl_model.specs.Homes.{World, home}
use Rattle.cl_model.specs.declared.class.Class.{Class}
use Rattle.cl_model.specs.Classes.{class, Error, Above, is_among, ClassNotFound, NoClassDef, ClassCircularity, read_class, misfit, superclass_of, superinterfaces_of, supers, HasFile, AtHome, Fitting, FitsAt, Good, IsGood, FirstWrong, Next}
use Rattle.cl_model.specs.Lineages.{Bare, Kin}
use Rattle.cl_model.specs.States.{State, Need, Entry, Verdict, Wrong, Met, Keeps, AllMet, IsNext, IsRecorded}
use Rattle.cl_model.specs.Works.{Work, Made, Ask, ask, need, end_with, or_fail, unless_wrong, of_result, ◌>>=◌}
use Rattle.cl_model.specs.Plans.{initiating_needs, load_by, loads_above, derive_new, derive, load, Request, loaded_by, go_on_with, Plan, plan_after, plan_from, plan_needs, class_named, through, resolve_named, resolve, Resolve, ending_verdict}
use Rattle.cl_model.specs.Machine.{Setting, IsPlan, AnswersPlan, IsClosed}
use Rattle.cl_model.specs.Service.{IsNextNeed}
use Rattle.cl_model.specs.Frames.{Frame, wanted_supertype, Judged, AcceptsFirst, KeepsAccepted, AllKept, IsFrame, IsFrames, path_of, absent_under, EndsHere, OfReference, Starts, Under}
use Rattle.cl_model.proofs.Bind.{some_same, ok_same, err_same, ok_not_err}
use Rattle.cl_model.proofs.Heights.{loaded, found, sought, grown, others_after, checked, finished, interfaces_next, superclass_next, circle_or}
use Rattle.cl_model.proofs.Derived.{derive_yields}
use Rattle.cl_model.proofs.Derivations.{good_or_fails}
use Rattle.cl_model.proofs.Complete.{Upto, upto_self, upto_then, all_either, fits_still, upto_less}
use Rattle.cl_model.proofs.Outcomes.{wrong_split, judged_still}
use Rattle.cl_model.proofs.Circles.{IsThere, Leads, leads_comes, LeadsHere, here_next, nothing_leads, one_derivation}
use Rattle.cl_model.proofs.Closed.{met_both, all_left, all_right, recorded_is_met}
use Rattle.cl_model.proofs.Looks.{answers_met}
use Rattle.cl_model.proofs.Planned.{plan_exists, resolved}
use Rattle.cl_model.proofs.Aims.{Aim, AsksFor, Hits, Well, Every, Any, next_left, next_right, then_hits, then_well, first_hits, well_once, hits_once, ask_hits, ask_well, or_fail_well, or_fail_hits, unless_well, unless_hits, read_well, read_hits, need_next, NextIs, EndsIn}
use Rattle.cl_model.proofs.Marks.{In, in_left, in_right}

-- ---- the path leads here, so what is recorded is derived

-- it ends well at some height
record EndsWell (w : World) (path : List Class) (t : Class) : Type 0 where
  pub height : ℕ
  pub kin : Kin
  pub made : Made Kin
  pub is : derive w height path t ≡ Some made
  pub ends : made.ends ≡ Ok kin

-- what is good is not met again below itself, so its derivation ends well
good_ends : (w : World) (bound n : ℕ) (path : List Class) (t : Class) → Upto n bound → LeadsHere w path t → Good w n t → EndsWell w path t
good_ends w bound zero path t u here g = absurd g
good_ends w zero (suc n) path t u here g = absurd (let e : suc n ≡ zero = u in cc)
good_ends w (suc b) (suc n) path t u here g = elim (all_either w (suc n) (suc n) path t (upto_self (suc n)) g) [
  | inl h ↦ record { height = suc n; kin = h.0; made = h.1.made; is = h.1.is; ends = h.1.ends }
  | inr h ↦ again h.0 h.1 (λ j v z. good_ends w b j path t (upto_then j n b v (upto_less n b u)) here z) h.4 h.5 (here h.0 h.3)
]
  where
    again : (x : Class) (j : ℕ) → ((k : ℕ) → Upto k n → Good w k t → EndsWell w path t) → Upto j (suc n) → Good w j x → Leads w x t → EndsWell w path t
    again x zero below v k l = absurd k
    again x (suc j) below v k l = (let d = leads_comes w j x t (inl k) l in
        elim d.2 [
          | inl z ↦ below d.0 (upto_then d.0 j n d.1 (upto_less j n v)) z
          | inr z ↦ absurd (good_or_fails w (suc n) d.0 t z.0 g z.1)
        ])

-- a class that is derived has its file
abbrev OfClass : World → Class → Kin → Type 0
OfClass w t k = (k.class ≡ t) × HasFile w t k.file

derive_well : (w : World) (s : State) (n : ℕ) (path : List Class) (t : Class) → IsClosed w s → IsRecorded s t → LeadsHere w path t → Every (derive w n path t) (Well s (OfClass w t))
derive_well w s n path t closed r here m e =
    let good = closed.good t r in
    let d = good_ends w good.0 good.0 path t (upto_self good.0) here good.1 in
    let ends : m.ends ≡ Ok d.kin = ap (λ (z : Made Kin). z.ends) (one_derivation w n d.height path t m d.made e d.is) ∙ d.ends in
    let y = derive_yields w n path t m d.kin e ends in
    record { value = d.kin; ends = ends; met = recorded_is_met w s n path t m d.kin closed r e ends; holds = (y.1, y.2) }

initiating_well : (s : State) (loader place : ℕ) (name : Name) (b : Bool) → Met s (Entry loader name place) → AllMet s (if b then [] else Entry loader name place ∷ [])
initiating_well s loader place name true h = tt
initiating_well s loader place name false h = (h, tt)

-- ---- loads and derivations

load_hits : (w : World) (s : State) (g : Aim) (d : Class → Work Kin) (absent : Class → Error) (loader : ℕ) (name : Name) (place : ℕ) → home w loader name ≡ Some place → Every (found w d loader name place) (Hits s g) → Every (load_by w d absent loader name) (Hits s g)
load_hits w s g d absent loader name place at h =
    then_hits s g (ask loader name) (sought w d absent loader name) Any (ask_well s loader name) (λ x u.
    then_hits s g (or_fail (absent (class name loader)) (home w loader name)) (found w d loader name) (λ y. y ≡ place) (or_fail_well s (absent (class name loader)) (home w loader name) place at) (λ y e.
    subst (λ (z : ℕ). Every (found w d loader name z) (Hits s g)) (sym e) h))

load_well : (w : World) (s : State) (d : Class → Work Kin) (absent : Class → Error) (loader : ℕ) (name : Name) (place : ℕ) (P : Kin → Type 0) → home w loader name ≡ Some place → Met s (Entry loader name place) → Every (d (class name place)) (Well s P) → Every (load_by w d absent loader name) (Well s P)
load_well w s d absent loader name place P at met h =
    then_well s (ask loader name) (sought w d absent loader name) Any P (ask_well s loader name) (λ x u.
    then_well s (or_fail (absent (class name loader)) (home w loader name)) (found w d loader name) (λ y. y ≡ place) P (or_fail_well s (absent (class name loader)) (home w loader name) place at) (λ y e.
    subst (λ (z : ℕ). Every (found w d loader name z) (Well s P)) (sym e)
    (then_well s (d (class name place)) (loaded w loader name place) P P h (λ k p.
    then_well s (need (initiating_needs loader name place)) (λ (b : Unit {0}). end_with k) Any P (well_once s Any _ tt refl (initiating_well s loader place name (loader == place) met) tt) (λ b v.
    well_once s P _ k refl tt p)))))

derive_hits : (w : World) (s : State) (g : Aim) (n : ℕ) (path : List Class) (c : Class) → is_among path c ≡ false → ((j : ℕ) → Every (derive_new w (derive w j (c ∷ path)) c) (Hits s g)) → Every (derive w n path c) (Hits s g)
derive_hits w s g zero path c new h = λ m e. absurd cc
derive_hits w s g (suc n) path c new h =
    then_hits s g (ask c.loader c.name) (λ (a : Unit {0}). circle_or c (derive_new w (derive w n (c ∷ path)) c) (is_among path c)) Any (ask_well s c.loader c.name) (λ x u.
    subst (λ (t : Bool). Every (circle_or c (derive_new w (derive w n (c ∷ path)) c) t) (Hits s g)) (sym new) (h n))

circle_hits : (w : World) (s : State) (n : ℕ) (path : List Class) (c : Class) → is_among path c ≡ true → Every (derive w n path c) (Hits s (EndsIn (ClassCircularity c)))
circle_hits w s zero path c again = λ m e. absurd cc
circle_hits w s (suc n) path c again =
    let g = EndsIn (ClassCircularity c) in
    then_hits s g (ask c.loader c.name) (λ (a : Unit {0}). circle_or c (derive_new w (derive w n (c ∷ path)) c) (is_among path c)) Any (ask_well s c.loader c.name) (λ x u.
    subst (λ (t : Bool). Every (circle_or c (derive_new w (derive w n (c ∷ path)) c) t) (Hits s g)) (sym again) (hits_once s _ (ClassCircularity c) refl tt))

-- ---- supertypes

-- the load of a supertype is met, and it fits
abbrev Passes : World → State → (Class → Work Kin) → Class → Above → Type 0
Passes w s d c a = Every (load_by w d NoClassDef c.loader a.name) (Well s (λ k. misfit c a.role k.class k.file ≡ None))

above_well : (w : World) (s : State) (d : Class → Work Kin) (c : Class) (others : List Above) → AllByRecursion (Passes w s d c) others → Every (loads_above w d c others) (Well s Any)
above_well w s d c [] h = well_once s Any _ Bare refl tt tt
above_well w s d c (a ∷ others) h =
    then_well s (load_by w d NoClassDef c.loader a.name) (checked w d c a others) (λ k. misfit c a.role k.class k.file ≡ None) Any h.0 (λ k fit.
    then_well s (unless_wrong (misfit c a.role k.class k.file)) (others_after w d c others k) Any Any (unless_well s (misfit c a.role k.class k.file) fit) (λ b u.
    then_well s (loads_above w d c others) (grown k) Any Any (above_well w s d c others h.1) (λ fs v. well_once s Any _ _ refl tt tt)))

above_hits : (w : World) (s : State) (g : Aim) (d : Class → Work Kin) (c : Class) (Q : Above → Type 0) → ((a : Above) (more : List Above) → Q a → Every (load_by w d NoClassDef c.loader a.name >>= checked w d c a more) (Hits s g))
    → (others : List Above) → FirstWrong (Passes w s d c) Q others → Every (loads_above w d c others) (Hits s g)
above_hits w s g d c Q top [] h = absurd h
above_hits w s g d c Q top (a ∷ others) (inl q) = top a others q
above_hits w s g d c Q top (a ∷ others) (inr h) =
    then_hits s g (load_by w d NoClassDef c.loader a.name) (checked w d c a others) (λ k. misfit c a.role k.class k.file ≡ None) h.0 (λ k fit.
    then_hits s g (unless_wrong (misfit c a.role k.class k.file)) (others_after w d c others k) Any (unless_well s (misfit c a.role k.class k.file) fit) (λ b u.
    first_hits s g (loads_above w d c others) (grown k) (above_hits w s g d c Q top others h.1)))

new_hits : (w : World) (s : State) (g : Aim) (d : Class → Work Kin) (c : Class) (f : File) (Q : Above → Type 0) → HasFile w c f → ((a : Above) (more : List Above) → Q a → Every (load_by w d NoClassDef c.loader a.name >>= checked w d c a more) (Hits s g))
    → FirstWrong (Passes w s d c) Q (supers f) → Every (derive_new w d c) (Hits s g)
new_hits w s g d c f Q hf top h =
    then_hits s g (of_result (read_class w c)) (superclass_next w d c) (λ y. y ≡ f) (read_well s (read_class w c) f hf) (λ y e.
    subst (λ (z : File). Every (superclass_next w d c z) (Hits s g)) (sym e)
    (elim (wrong_split (Passes w s d c) Q (superclass_of f) (superinterfaces_of f) h) [
      | inl k ↦ first_hits s g (loads_above w d c (superclass_of f)) (interfaces_next w d c f) (above_hits w s g d c Q top (superclass_of f) k)
      | inr k ↦ then_hits s g (loads_above w d c (superclass_of f)) (interfaces_next w d c f) Any (above_well w s d c (superclass_of f) k.0) (λ sup u.
          first_hits s g (loads_above w d c (superinterfaces_of f)) (finished c f sup) (above_hits w s g d c Q top (superinterfaces_of f) k.1))
    ]))

complete_hits : (w : World) (s : State) (d : Class → Work Kin) (c : Class) (f : File) → HasFile w c f → AllByRecursion (Passes w s d c) (supers f) → Every (derive_new w d c) (Hits s (NextIs (Entry c.loader c.name c.loader)))
complete_hits w s d c f hf all =
    let n = Entry c.loader c.name c.loader in
    let g = NextIs n in
    then_hits s g (of_result (read_class w c)) (superclass_next w d c) (λ y. y ≡ f) (read_well s (read_class w c) f hf) (λ y e.
    subst (λ (z : File). Every (superclass_next w d c z) (Hits s g)) (sym e)
    (then_hits s g (loads_above w d c (superclass_of f)) (interfaces_next w d c f) Any (above_well w s d c (superclass_of f) (all_left (Passes w s d c) (superclass_of f) (superinterfaces_of f) all)) (λ sup u.
    then_hits s g (loads_above w d c (superinterfaces_of f)) (finished c f sup) Any (above_well w s d c (superinterfaces_of f) (all_right (Passes w s d c) (superclass_of f) (superinterfaces_of f) all)) (λ ints v.
    first_hits s g (need (n ∷ [])) (λ (b : Unit {0}). end_with (record { class = c; file = f; superclass = sup; interfaces = ints })) (need_next s n)))))

-- ---- what was accepted passes

-- a supertype of c is recorded at c's loader, and is judged so
abbrev IsJudged : World → State → Class → Option Error → Above → Type 0
IsJudged w s c wrong a = AtHome w c (λ t. Keeps s c.loader t × Fitting w c a.role wrong t) a.name

abbrev IsAccepted : World → State → Class → Above → Type 0
IsAccepted w s c a = IsJudged w s c None a

judged_at : (w : World) (s : State) (c t : Class) (a : Above) (wrong : Option Error) → IsClosed w s → Keeps s c.loader t → t.name ≡ a.name → Judged w c a.role wrong t → IsJudged w s c wrong a
judged_at w s c t a wrong closed kept named fit = record {
  place = t.loader;
  found = subst (λ (n : Name). home w c.loader n ≡ Some t.loader) named (closed.homes c.loader t.loader t.name kept);
  holds = (subst (λ (n : Name). Met s (Entry c.loader n t.loader)) named kept, subst (λ (n : Name). Fitting w c a.role wrong (class n t.loader)) named (fit (closed.homes t.loader t.loader t.name (closed.own c.loader t.loader t.name kept))));
}

-- those that were accepted are so in a closed state, and what stands behind them is wanted
accepted_first : (w : World) (s : State) (c : Class) (Q : Above → Type 0) → IsClosed w s → (ts : List Class) (others : List Above) (a : Above) → AcceptsFirst w c ts others → AllByRecursion (Keeps s c.loader) ts → slice_get others (length ts) ≡ Some a → Q a → FirstWrong (IsAccepted w s c) Q others
accepted_first w s c Q closed [] [] a fit kept h q = absurd cc
accepted_first w s c Q closed [] (b ∷ others) a fit kept h q = inl (subst Q (sym (some_same b a h)) q)
accepted_first w s c Q closed (t ∷ ts) [] a fit kept h q = absurd fit
accepted_first w s c Q closed (t ∷ ts) (b ∷ others) a fit kept h q = inr (judged_at w s c t b None closed kept.0 fit.0 fit.1, accepted_first w s c Q closed ts others a fit.2 kept.1 h q)

accepted_all : (w : World) (s : State) (c : Class) → IsClosed w s → (ts : List Class) (others : List Above) → AcceptsFirst w c ts others → AllByRecursion (Keeps s c.loader) ts → slice_get others (length ts) ≡ None → AllByRecursion (IsAccepted w s c) others
accepted_all w s c closed [] [] fit kept h = tt
accepted_all w s c closed [] (b ∷ others) fit kept h = absurd cc
accepted_all w s c closed (t ∷ ts) [] fit kept h = absurd fit
accepted_all w s c closed (t ∷ ts) (b ∷ others) fit kept h = (judged_at w s c t b None closed kept.0 fit.0 fit.1, accepted_all w s c closed ts others fit.2 kept.1 h)

-- the home of a supertype, where it has one, is the next on the way
abbrev NextAt : World → Class → Above → Type 0
NextAt w c a = (place : ℕ) → home w c.loader a.name ≡ Some place → Next w c (class a.name place)

accepted_fits : (w : World) (s : State) (c : Class) (a : Above) → IsClosed w s → IsAccepted w s c a → FitsAt w c (IsGood w) a
accepted_fits w s c a closed h = record { place = h.place; found = h.found; holds = (closed.good (class a.name h.place) (closed.own c.loader h.place a.name h.holds.0), h.holds.1) }

there : (w : World) (c : Class) (a : Above) (place : ℕ) → home w c.loader a.name ≡ Some place → IsThere w c (class a.name place) a
there w c a place e = record { place = place; found = e; holds = refl }

-- the load of what is recorded is met
recorded_load : (w : World) (s : State) (n : ℕ) (path : List Class) (c : Class) (a : Above) (place : ℕ) → IsClosed w s → LeadsHere w path c → NextAt w c a → home w c.loader a.name ≡ Some place → Met s (Entry c.loader a.name place) → Every (load_by w (derive w n (c ∷ path)) NoClassDef c.loader a.name) (Well s (OfClass w (class a.name place)))
recorded_load w s n path c a place closed here next at met =
    let t = class a.name place in
    load_well w s (derive w n (c ∷ path)) NoClassDef c.loader a.name place (OfClass w t) at met (derive_well w s n (c ∷ path) t closed (closed.own c.loader place a.name met) (here_next w path c t here (next place at)))

well_map : {A : Type 0} (s : State) (a : Work A) (P Q : A → Type 0) → ((x : A) → P x → Q x) → Every a (Well s P) → Every a (Well s Q)
well_map s a P Q f h m e = let x = h m e in record { value = x.value; ends = x.ends; met = x.met; holds = f x.value x.holds }

accepted_passes : (w : World) (s : State) (n : ℕ) (path : List Class) (c : Class) (a : Above) → IsClosed w s → LeadsHere w path c → NextAt w c a → IsAccepted w s c a → Passes w s (derive w n (c ∷ path)) c a
accepted_passes w s n path c a closed here next h =
    let t = class a.name h.place in
    well_map s (load_by w (derive w n (c ∷ path)) NoClassDef c.loader a.name) (OfClass w t) (λ k. misfit c a.role k.class k.file ≡ None) (λ k o. fits_still w c a t k h.holds.1 o.0 o.1) (recorded_load w s n path c a h.place closed here next h.found h.holds.0)

-- each of the list passes, where it leads on from c
pass_first : (w : World) (s : State) (n : ℕ) (path : List Class) (c : Class) (Q : Above → Type 0) → IsClosed w s → LeadsHere w path c → (others : List Above) → ((t : Class) → FirstWrong (FitsAt w c (IsGood w)) (IsThere w c t) others → Next w c t)
    → FirstWrong (IsAccepted w s c) Q others → FirstWrong (Passes w s (derive w n (c ∷ path)) c) (λ a. Q a × NextAt w c a) others
pass_first w s n path c Q closed here [] up h = absurd h
pass_first w s n path c Q closed here (a ∷ others) up (inl q) = inl (q, λ place e. up (class a.name place) (inl (there w c a place e)))
pass_first w s n path c Q closed here (a ∷ others) up (inr h) = inr (
  accepted_passes w s n path c a closed here (λ place e. up (class a.name place) (inl (there w c a place e))) h.0,
  pass_first w s n path c Q closed here others (λ t k. up t (inr (accepted_fits w s c a closed h.0, k))) h.1,
)

pass_all : (w : World) (s : State) (n : ℕ) (path : List Class) (c : Class) → IsClosed w s → LeadsHere w path c → (others : List Above) → ((t : Class) → FirstWrong (FitsAt w c (IsGood w)) (IsThere w c t) others → Next w c t)
    → AllByRecursion (IsAccepted w s c) others → AllByRecursion (Passes w s (derive w n (c ∷ path)) c) others
pass_all w s n path c closed here [] up h = tt
pass_all w s n path c closed here (a ∷ others) up h = (
  accepted_passes w s n path c a closed here (λ place e. up (class a.name place) (inl (there w c a place e))) h.0,
  pass_all w s n path c closed here others (λ t k. up t (inr (accepted_fits w s c a closed h.0, k))) h.1,
)

-- ---- along frames

-- the home of what is asked, where it has one, is where the path leads
abbrev HereAt : World → List Class → ℕ → Name → Type 0
HereAt w path loader name = (place : ℕ) → home w loader name ≡ Some place → LeadsHere w path (class name place)

-- what is asked at the end of the frames
abbrev Top : World → State → Aim → List Class → (Class → Error) → ℕ → Name → Type 0
Top w s g path absent loader name = (n : ℕ) → HereAt w path loader name → Every (load_by w (derive w n path) absent loader name) (Hits s g)

here_class : (w : World) (path : List Class) (loader : ℕ) (name : Name) (x : Frame) → IsFrame w path loader name x → HereAt w path loader name → LeadsHere w path x.class
here_class w path loader name x f here = subst (λ (z : Name). LeadsHere w path (class z x.class.loader)) f.named (here x.class.loader f.found)

frame_hits : (w : World) (s : State) (g : Aim) (n : ℕ) (path : List Class) (absent : Class → Error) (loader : ℕ) (name : Name) (x : Frame) → IsFrame w path loader name x → ((j : ℕ) → Every (derive_new w (derive w j (x.class ∷ path)) x.class) (Hits s g)) → Every (load_by w (derive w n path) absent loader name) (Hits s g)
frame_hits w s g n path absent loader name x f h =
    load_hits w s g (derive w n path) absent loader name x.class.loader f.found
    (first_hits s g (derive w n path (class name x.class.loader)) (loaded w loader name x.class.loader)
    (subst (λ (z : Name). Every (derive w n path (class z x.class.loader)) (Hits s g)) (sym f.named)
    (derive_hits w s g n path x.class f.new h)))

walk : (w : World) (s : State) (g : Aim) → IsClosed w s → (xs : List Frame) (path : List Class) (absent : Class → Error) (loader : ℕ) (name : Name) (al : ℕ) (an : Name) → IsFrames w path loader name xs al an → AllKept s xs → Top w s g (path_of path xs) (absent_under absent xs) al an → Top w s g path absent loader name
walk w s g closed [] path absent loader name al an f acc top n here =
    subst (λ (l : ℕ). Every (load_by w (derive w n path) absent l name) (Hits s g)) (sym f.0)
    (subst (λ (z : Name). Every (load_by w (derive w n path) absent al z) (Hits s g)) (sym f.1)
    (top n (subst (λ (l : ℕ). HereAt w path l an) f.0 (subst (λ (z : Name). HereAt w path loader z) f.1 here))))
walk w s g closed (x ∷ xs) path absent loader name al an f acc top n here =
    let c = x.class in
    let a = f.1.0 in
    let led = here_class w path loader name x f.0 here in
    let first = accepted_first w s c (λ b. b ≡ a) closed x.accepted (supers x.file) a f.0.fits acc.0 f.1.1 refl in
    frame_hits w s g n path absent loader name x f.0 (λ j.
    new_hits w s g (derive w j (c ∷ path)) c x.file (λ b. (b ≡ a) × NextAt w c b) f.0.has_file (λ b more q.
    first_hits s g (load_by w (derive w j (c ∷ path)) NoClassDef c.loader b.name) (checked w (derive w j (c ∷ path)) c b more)
    (subst (λ (z : Above). Every (load_by w (derive w j (c ∷ path)) NoClassDef c.loader z.name) (Hits s g)) (sym q.0)
    (walk w s g closed xs (c ∷ path) NoClassDef c.loader a.name al an f.1.2 acc.1 top j (λ place e. here_next w path c (class a.name place) led (subst (λ (z : Above). NextAt w c z) q.0 q.1 place e)))))
    (pass_first w s j path c (λ b. b ≡ a) closed led (supers x.file) (λ t k. (x.file, f.0.has_file, k)) first))

-- ---- plans

abbrev PlanHits : State → Aim → Plan → Type 0
PlanHits s (NextIs n) p = IsNext s (plan_needs p) n
PlanHits s (EndsIn e) p = AllMet s (plan_needs p) × (p.ends ≡ Wrong e)
PlanHits s (AsksFor a) p = In a p.asked

plan_well : (s : State) (g : Aim) (m : Made Kin) (k : Kin) (behind : List Ask) (p : Plan) → m.ends ≡ Ok k → p.own ≡ m.needs → p.asked ≡ m.asked ++ behind → Hits s g m → PlanHits s g p
plan_well s (NextIs n) m k behind p q o z h = next_left s p.own p.more n (subst (λ (l : List Need). IsNext s l n) (sym o) h)
plan_well s (EndsIn e) m k behind p q o z h = absurd (ok_not_err k e m.ends q h.1)
plan_well s (AsksFor a) m k behind p q o z h = subst (λ (l : List Ask). In a l) (sym z) (in_left a m.asked behind h)

plan_ill : (s : State) (g : Aim) (m : Made Kin) (d : Error) (p : Plan) → m.ends ≡ Err d → p.own ≡ m.needs → p.more ≡ [] → p.asked ≡ m.asked → p.ends ≡ Wrong d → Hits s g m → PlanHits s g p
plan_ill s (NextIs n) m d p q o r y z h = next_left s p.own p.more n (subst (λ (l : List Need). IsNext s l n) (sym o) h)
plan_ill s (EndsIn e) m d p q o r y z h =
    (met_both s p.own p.more (subst (λ (l : List Need). AllMet s l) (sym o) h.0) (subst (λ (l : List Need). AllMet s l) (sym r) tt), z ∙ ap (λ (y : Error). Wrong y) (err_same {A = Kin} d e m.ends q h.1))
plan_ill s (AsksFor a) m d p q o r y z h = subst (λ (l : List Ask). In a l) (sym y) h

plan_hits : (w : World) (s : State) (g : Aim) (r : Request) (p : Plan) → IsPlan w r p → ((n : ℕ) → Every (load w n ClassNotFound (loaded_by r).loader (loaded_by r).name) (Hits s g)) → PlanHits s g p
plan_hits w s g r p is h =
    let n = is.height in
    let l = then_some (plan_from w n r) (load w n ClassNotFound (loaded_by r).loader (loaded_by r).name) p is.planned in
    at n l.0 (h n l.0 l.1) l.0.ends refl l.2
  where
    at : (n : ℕ) (m : Made Kin) → Hits s g m → (e : Result Kin Error) → m.ends ≡ e → (elim e as (λ x. Option Plan) [
      | Err x ↦ Some (record { own = m.needs; more = []; asked = m.asked; reached = None; ends = Wrong x })
      | Ok k ↦ option_map (plan_after m k) (go_on_with w n r k)
    ]) ≡ Some p → PlanHits s g p
    at n m c (Err x) e z =
        let same = some_same _ _ z in
        plan_ill s g m x p e (ap (λ (y : Plan). y.own) (sym same)) (ap (λ (y : Plan). y.more) (sym same)) (ap (λ (y : Plan). y.asked) (sym same)) (ap (λ (y : Plan). y.ends) (sym same)) c
    at n m c (Ok k) e z =
        let on = map_some (plan_after m k) (go_on_with w n r k) p z in
        plan_well s g m k on.0.asked p e (ap (λ (y : Plan). y.own) (sym on.2)) (ap (λ (y : Plan). y.asked) (sym on.2)) c

nothing_here : (w : World) (loader : ℕ) (name : Name) → HereAt w [] loader name
nothing_here w loader name place e = nothing_leads w (class name place)

-- ---- what follows the request's own load

plan_on : (w : World) (s : State) (g : Aim) (r : Request) (P : Kin → Type 0) (p : Plan) → IsPlan w r p → ((n : ℕ) → Every (load w n ClassNotFound (loaded_by r).loader (loaded_by r).name) (Well s P)) → ((n : ℕ) (k : Kin) → P k → Every (go_on_with w n r k) (Hits s g)) → PlanHits s g p
plan_on w s g r P p is h on =
    let n = is.height in
    let l = then_some (plan_from w n r) (load w n ClassNotFound (loaded_by r).loader (loaded_by r).name) p is.planned in
    at n l.0 (h n l.0 l.1) l.0.ends refl l.2
  where
    rest : (b : Aim) (m : Made Kin) (k : Kin) (x : Made Verdict) → AllMet s m.needs → Hits s b x → PlanHits s b (plan_after m k x)
    rest (NextIs n) m k x met c = next_right s m.needs x.needs n met c
    rest (EndsIn e) m k x met c = (met_both s m.needs x.needs met c.0, ap (λ (y : Result Verdict Error). ending_verdict y) c.1)
    rest (AsksFor a) m k x met c = in_right a m.asked x.asked c

    at : (n : ℕ) (m : Made Kin) → Well s P m → (e : Result Kin Error) → m.ends ≡ e → (elim e as (λ x. Option Plan) [
      | Err x ↦ Some (record { own = m.needs; more = []; asked = m.asked; reached = None; ends = Wrong x })
      | Ok k ↦ option_map (plan_after m k) (go_on_with w n r k)
    ]) ≡ Some p → PlanHits s g p
    at n m c (Err x) e z = absurd (ok_not_err c.value x m.ends c.ends e)
    at n m c (Ok k) e z =
        let o = map_some (plan_after m k) (go_on_with w n r k) p z in
        subst (λ (y : Plan). PlanHits s g y) o.2 (rest g m k o.0 c.met (on n k (subst P (ok_same c.value k m.ends c.ends e) c.holds) o.0 o.1))

named_hits : (w : World) (s : State) (g : Aim) (n : ℕ) (d : Kin) (cited : Reference) (o : Option Name) (name : Name) → o ≡ Some name → Every (load w n NoClassDef d.class.loader name) (Hits s g) → Every (resolve_named w n d cited o) (Hits s g)
named_hits w s g n d cited None name e h = absurd cc
named_hits w s g n d cited (Some x) name e h = first_hits s g (load w n NoClassDef d.class.loader x) (through d cited) (subst (λ (z : Name). Every (load w n NoClassDef d.class.loader z) (Hits s g)) (sym (some_same x name e)) h)

resolve_hits : (w : World) (s : State) (g : Aim) (n : ℕ) (d : Kin) (i : ℕ) (cited : Reference) (name : Name) → reference d.file i ≡ Some cited → class_named cited ≡ Some name → Every (load w n NoClassDef d.class.loader name) (Hits s g) → Every (resolve w n d i) (Hits s g)
resolve_hits w s g n d i cited name found names h =
    subst (λ (o : Option Reference). Every (resolved w n d o) (Hits s g)) (sym found) (named_hits w s g n d cited (class_named cited) name names h)

referring_hits : (w : World) (s : State) (g : Aim) (r : Request) (loader : ℕ) (name : Name) → IsClosed w s → OfReference w s r loader name → ((n : ℕ) → Every (load w n NoClassDef loader name) (Hits s g)) → (p : Plan) → IsPlan w r p → PlanHits s g p
referring_hits w s g r loader name closed o h p is =
    let d = class o.asked loader in
    let q = Resolve o.through o.asked o.index in
    plan_on w s g q (OfClass w d) p (subst (λ (z : Request). IsPlan w z p) o.request is)
    (λ n. load_well w s (derive w n []) ClassNotFound o.through o.asked loader (OfClass w d) (closed.homes o.through loader o.asked o.kept) o.kept (derive_well w s n [] d closed (closed.own o.through loader o.asked o.kept) (nothing_leads w d)))
    (λ n k c. resolve_hits w s g n k o.index o.cites.cited name
    (ap (λ (f : File). reference f o.index) (ok_same k.file o.file (read_class w d) c.1 o.has_file) ∙ o.cites.found) o.cites.names
    (subst (λ (z : Class). Every (load w n NoClassDef z.loader name) (Hits s g)) (sym c.0) (h n)))

start_hits : (w : World) (s : State) (g : Aim) (r : Request) (absent : Class → Error) (loader : ℕ) (name : Name) → IsClosed w s → Starts w s r absent loader name → ((n : ℕ) → Every (load w n absent loader name) (Hits s g)) → (p : Plan) → IsPlan w r p → PlanHits s g p
start_hits w s g r absent loader name closed (inl e) h p is =
    plan_hits w s g r p is (λ n.
    subst (λ (z : ℕ). Every (load w n ClassNotFound z (loaded_by r).name) (Hits s g)) e.1
    (subst (λ (z : Name). Every (load w n ClassNotFound loader z) (Hits s g)) e.2
    (subst (λ (z : (c : Class) → Error). Every (load w n z loader name) (Hits s g)) e.0 (h n))))
start_hits w s g r absent loader name closed (inr e) h p is =
    referring_hits w s g r loader name closed e.1 (λ n. subst (λ (z : (c : Class) → Error). Every (load w n z loader name) (Hits s g)) e.0 (h n)) p is

request_hits : (w : World) (s : State) (g : Aim) (r : Request) (absent : Class → Error) (xs : List Frame) (al : ℕ) (an : Name) → IsClosed w s → Under w s r absent xs al an → Top w s g (path_of [] xs) (absent_under absent xs) al an → (p : Plan) → IsPlan w r p → PlanHits s g p
request_hits w s g r absent xs al an closed u top p is =
    start_hits w s g r absent u.loader u.name closed u.starts (λ n. walk w s g closed xs [] absent u.loader u.name al an u.frames u.kept top n (nothing_here w u.loader u.name)) p is

next_at : (w : World) (s : State) (n : Need) (r : Request) (absent : Class → Error) (xs : List Frame) (al : ℕ) (an : Name) → IsClosed w s → Under w s r absent xs al an → Top w s (NextIs n) (path_of [] xs) (absent_under absent xs) al an → IsNextNeed w s r n
next_at w s n r absent xs al an closed u top =
    let p = plan_exists w r in
    record { plan = p.0; planned = p.1; next = request_hits w s (NextIs n) r absent xs al an closed u top p.0 p.1 }

ends_at : (w : World) (s : State) (e : Error) (r : Request) (absent : Class → Error) (xs : List Frame) (al : ℕ) (an : Name) → IsClosed w s → Under w s r absent xs al an → Top w s (EndsIn e) (path_of [] xs) (absent_under absent xs) al an → EndsHere w s r (Wrong e)
ends_at w s e r absent xs al an closed u top =
    let p = plan_exists w r in
    let h = request_hits w s (EndsIn e) r absent xs al an closed u top p.0 p.1 in
    record { plan = p.0; planned = p.1; met = h.0; ends = h.1 }

-- what is looked for under frames is asked by the plan
pub sought_asked : (w : World) (s : State) (r : Request) (p : Plan) (absent : Class → Error) (xs : List Frame) (al : ℕ) (an : Name) → IsClosed w s → IsPlan w r p → Under w s r absent xs al an → (let a : Ask = record { loader = al; name = an } in In a p.asked)
sought_asked w s r p absent xs al an closed is u =
    let g = AsksFor (record { loader = al; name = an }) in
    let under = absent_under absent xs in
    request_hits w s g r absent xs al an closed u (λ n here. first_hits s g (ask al an) (sought w (derive w n (path_of [] xs)) under al an) (ask_hits s al an)) p is

-- ---- what comes next

-- all supertypes of what is loaded now are accepted: its own record is next
pub complete_is_next : (w : World) (s : State) (r : Request) (absent : Class → Error) (xs : List Frame) (x : Frame) (al : ℕ) → IsClosed w s → Under w s r absent xs al x.class.name → IsFrame w (path_of [] xs) al x.class.name x → KeepsAccepted s x → wanted_supertype x ≡ None → IsNextNeed w s r (Entry x.class.loader x.class.name x.class.loader)
complete_is_next w s r absent xs x al closed u f kept none =
    let c = x.class in
    let path = path_of [] xs in
    next_at w s (Entry c.loader c.name c.loader) r absent xs al c.name closed u (λ n here.
    frame_hits w s (NextIs (Entry c.loader c.name c.loader)) n path (absent_under absent xs) al c.name x f (λ j.
    complete_hits w s (derive w j (c ∷ path)) c x.file f.has_file
    (pass_all w s j path c closed (here c.loader f.found) (supers x.file) (λ t k. (x.file, f.has_file, k)) (accepted_all w s c closed x.accepted (supers x.file) f.fits kept none))))

differ : (a b : ℕ) → a ≢ b → (t : Bool) → (a == b) ≡ t → t ≡ false
differ a b h true e = absurd (h (eqb-true a b e))
differ a b h false e = refl

-- what is loaded now is recorded at its home: the record of the loader that asks is next
pub defined_is_next : (w : World) (s : State) (r : Request) (absent : Class → Error) (xs : List Frame) (al place : ℕ) (an : Name) → IsClosed w s → Under w s r absent xs al an → home w al an ≡ Some place → IsRecorded s (class an place) → al ≢ place → IsNextNeed w s r (Entry al an place)
defined_is_next w s r absent xs al place an closed u at rec other =
    let g = NextIs (Entry al an place) in
    let path = path_of [] xs in
    let t = class an place in
    next_at w s (Entry al an place) r absent xs al an closed u (λ n here.
    load_hits w s g (derive w n path) (absent_under absent xs) al an place at
    (then_hits s g (derive w n path t) (loaded w al an place) (OfClass w t) (derive_well w s n path t closed rec (here place at)) (λ k o.
    first_hits s g (need (initiating_needs al an place)) (λ (b : Unit {0}). end_with k)
    (subst (λ (b : Bool). Every (need (if b then [] else Entry al an place ∷ [])) (Hits s g)) (sym (differ al place other (al == place) refl)) (need_next s (Entry al an place))))))

-- ---- where it ends

-- what is looked for has no home
pub missing_ends : (w : World) (s : State) (r : Request) (absent : Class → Error) (xs : List Frame) (al : ℕ) (an : Name) → IsClosed w s → Under w s r absent xs al an → home w al an ≡ None → EndsHere w s r (Wrong (absent_under absent xs (class an al)))
missing_ends w s r absent xs al an closed u at =
    let lacks = absent_under absent xs in
    let e = lacks (class an al) in
    let g = EndsIn e in
    ends_at w s e r absent xs al an closed u (λ n here.
    then_hits s g (ask al an) (sought w (derive w n (path_of [] xs)) lacks al an) Any (ask_well s al an) (λ x v.
    first_hits s g (or_fail e (home w al an)) (found w (derive w n (path_of [] xs)) al an) (or_fail_hits s e (home w al an) at)))

-- the bytes of what is looked for are not its class
pub faulty_ends : (w : World) (s : State) (r : Request) (absent : Class → Error) (xs : List Frame) (al place : ℕ) (an : Name) (e : Error) → IsClosed w s → Under w s r absent xs al an → home w al an ≡ Some place → is_among (path_of [] xs) (class an place) ≡ false → read_class w (class an place) ≡ Err e → EndsHere w s r (Wrong e)
faulty_ends w s r absent xs al place an e closed u at new bad =
    let g = EndsIn e in
    let path = path_of [] xs in
    let t = class an place in
    ends_at w s e r absent xs al an closed u (λ n here.
    load_hits w s g (derive w n path) (absent_under absent xs) al an place at
    (first_hits s g (derive w n path t) (loaded w al an place)
    (derive_hits w s g n path t new (λ j.
    first_hits s g (of_result (read_class w t)) (superclass_next w (derive w j (t ∷ path)) t) (read_hits s (read_class w t) e bad)))))

-- what is looked for is being derived already
pub circle_ends : (w : World) (s : State) (r : Request) (absent : Class → Error) (xs : List Frame) (al place : ℕ) (an : Name) → IsClosed w s → Under w s r absent xs al an → home w al an ≡ Some place → is_among (path_of [] xs) (class an place) ≡ true → EndsHere w s r (Wrong (ClassCircularity (class an place)))
circle_ends w s r absent xs al place an closed u at again =
    let t = class an place in
    let g = EndsIn (ClassCircularity t) in
    let path = path_of [] xs in
    ends_at w s (ClassCircularity t) r absent xs al an closed u (λ n here.
    load_hits w s g (derive w n path) (absent_under absent xs) al an place at
    (first_hits s g (derive w n path t) (loaded w al an place) (circle_hits w s n path t again)))

refused_hits : (w : World) (s : State) (n : ℕ) (path : List Class) (c : Class) (e : Error) → IsClosed w s → LeadsHere w path c → (a : Above) (more : List Above) → IsJudged w s c (Some e) a × NextAt w c a → Every (load_by w (derive w n (c ∷ path)) NoClassDef c.loader a.name >>= checked w (derive w n (c ∷ path)) c a more) (Hits s (EndsIn e))
refused_hits w s n path c e closed here a more q =
    let g = EndsIn e in
    let d = derive w n (c ∷ path) in
    let t = class a.name q.0.place in
    then_hits s g (load_by w d NoClassDef c.loader a.name) (checked w d c a more) (OfClass w t) (recorded_load w s n path c a q.0.place closed here q.1 q.0.found q.0.holds.0) (λ k o.
    first_hits s g (unless_wrong (misfit c a.role k.class k.file)) (others_after w d c more k) (unless_hits s (misfit c a.role k.class k.file) e (judged_still w c a t k (Some e) q.0.holds.1 o.0 o.1)))

pub misfit_ends : (w : World) (s : State) (r : Request) (absent : Class → Error) (xs : List Frame) (x : Frame) (al : ℕ) (a : Above) (t : Class) (e : Error) → IsClosed w s → Under w s r absent xs al x.class.name → IsFrame w (path_of [] xs) al x.class.name x → KeepsAccepted s x → wanted_supertype x ≡ Some a → t.name ≡ a.name → Judged w x.class a.role (Some e) t → Keeps s x.class.loader t → EndsHere w s r (Wrong e)
misfit_ends w s r absent xs x al a t e closed u f acc want named wrong kept =
    let c = x.class in
    let path = path_of [] xs in
    ends_at w s e r absent xs al c.name closed u (λ n here.
    frame_hits w s (EndsIn e) n path (absent_under absent xs) al c.name x f (λ j.
    new_hits w s (EndsIn e) (derive w j (c ∷ path)) c x.file (λ b. IsJudged w s c (Some e) b × NextAt w c b) f.has_file (refused_hits w s j path c e closed (here c.loader f.found))
    (pass_first w s j path c (IsJudged w s c (Some e)) closed (here c.loader f.found) (supers x.file) (λ u k. (x.file, f.has_file, k))
    (accepted_first w s c (IsJudged w s c (Some e)) closed x.accepted (supers x.file) a f.fits acc want (judged_at w s c t a (Some e) closed kept named wrong)))))

-- what ends here is answered so
pub answers_here : (g : Setting) (s : State) (r : Request) (v : Verdict) → EndsHere g.world s r v → AnswersPlan g s r v
answers_here g s r v h = record { plan = h.plan; planned = h.planned; answered = answers_met s (plan_needs h.plan) h.plan.ends v h.met (sym h.ends) }
