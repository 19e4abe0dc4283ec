-- Every state of a run is closed, and there a recorded class needs nothing more.
use Rattle.std.proofs.Common.{◌≡◌, ◌⊎◌, inl, inr, ℕ, zero, suc, Bool, true, false, ◌==◌, if◌then◌else◌, List, [], ◌∷◌, ◌++◌, Some, None, Ok, refl, sym, ap, subst, ◌∙◌}
use Rattle.std.specs.List.{AllByRecursion}
use Rattle.cl_classfile.specs.Files.{Name, File}
use Rattle.cl_model.specs.Homes.{World, home}
use Rattle.cl_model.specs.declared.class.Class.{Class}
use Rattle.cl_model.specs.Classes.{class, Above, superclass_of, superinterfaces_of, supers, HasFile, AtHome, IsGood}
use Rattle.cl_model.specs.Lineages.{Forest, Kin}
use Rattle.cl_model.specs.States.{State, start, Record, Need, Entry, Met, Keeps, AllMet, recorded_definer, IsRecorded, with_need}
use Rattle.cl_model.specs.Works.{Work, Made}
use Rattle.cl_model.specs.Plans.{initiating_needs, loads_above, derive}
use Rattle.cl_model.specs.Machine.{Setting, Step, Define, Initiate, Constrain, Settle, Prepare, Post, NextRound, Stray, May, after, state_after, Run, IsClosed}
use Rattle.cl_model.proofs.Derived.{above_ok, derive_ok}
use Rattle.cl_model.proofs.Runs.{IsLater, after_later, recorded_added}
use Rattle.cl_model.proofs.Bind.{some_same, ok_same}

pub met_both : (s : State) (xs ys : List Need) → AllMet s xs → AllMet s ys → AllMet s (xs ++ ys)
met_both s [] ys a b = b
met_both s (x ∷ xs) ys a b = (a.0, met_both s xs ys a.1 b)

pub all_left : {A : Type 0} (P : A → Type 0) (xs ys : List A) → AllByRecursion P (xs ++ ys) → AllByRecursion P xs
all_left P [] ys h = tt
all_left P (x ∷ xs) ys h = (h.0, all_left P xs ys h.1)

pub all_right : {A : Type 0} (P : A → Type 0) (xs ys : List A) → AllByRecursion P (xs ++ ys) → AllByRecursion P ys
all_right P [] ys h = h
all_right P (x ∷ xs) ys h = all_right P xs ys h.1

-- a supertype's record stands
abbrev pub Stands : World → State → Class → Above → Type 0
Stands w s c a = AtHome w c (Keeps s c.loader) a.name

pub initiating_met : (s : State) (loader place : ℕ) (name : Name) (b : Bool) → Met s (Entry loader name place) → AllMet s ((if b then [] else Entry loader name place ∷ []) ++ [])
initiating_met s loader place name true h = tt
initiating_met s loader place name false h = (h, tt)

above_met : (w : World) (s : State) (d : Class → Work Kin) → IsClosed w s → ((c : Class) (m : Made Kin) (k : Kin) → IsRecorded s c → d c ≡ Some m → m.ends ≡ Ok k → AllMet s m.needs) → (c : Class) (others : List Above) (m : Made Forest) (fs : Forest) → loads_above w d c others ≡ Some m → m.ends ≡ Ok fs → AllByRecursion (Stands w s c) others → AllMet s m.needs
above_met w s d closed ih c [] m fs h e all = subst (λ (x : Made Forest). AllMet s x.needs) (some_same _ _ h) tt
above_met w s d closed ih c (a ∷ others) m fs h e all =
    let one = above_ok w d c a others m fs h e in
    let place : all.0.place ≡ one.load.place = some_same _ _ (sym all.0.found ∙ one.load.found) in
    let stands : recorded_definer s.records c.loader a.name ≡ Some one.load.place = all.0.holds ∙ ap (λ (x : ℕ). Some x) place in
    let own = closed.own c.loader one.load.place a.name stands in
    let below = ih (class a.name one.load.place) one.load.below one.kin own one.load.made one.load.ends in
    let first : AllMet s one.one.needs = subst (λ (x : List Need). AllMet s x) (sym one.load.needs) (met_both s one.load.below.needs (initiating_needs c.loader a.name one.load.place ++ []) below (initiating_met s c.loader one.load.place a.name (c.loader == one.load.place) stands)) in
    let rest = above_met w s d closed ih c others one.rest one.forest one.made one.ends all.1 in
    subst (λ (x : List Need). AllMet s x) (sym one.needs) (met_both s one.one.needs (one.rest.needs ++ []) first (met_both s one.rest.needs [] rest tt))

pub recorded_is_met : (w : World) (s : State) (n : ℕ) (path : List Class) (c : Class) (m : Made Kin) (k : Kin) → IsClosed w s → IsRecorded s c → derive w n path c ≡ Some m → m.ends ≡ Ok k → AllMet s m.needs
recorded_is_met w s zero path c m k closed r h e = absurd cc
recorded_is_met w s (suc n) path c m k closed r h e =
    let at = derive_ok w n path c m k h e in
    let new = at.new in
    let all = closed.above c new.file r new.has_file in
    let ih = λ (t : Class) (x : Made Kin) (y : Kin) (p : IsRecorded s t) (q : derive w n (c ∷ path) t ≡ Some x) (z : x.ends ≡ Ok y). recorded_is_met w s n (c ∷ path) t x y closed p q z in
    let up = above_met w s (derive w n (c ∷ path)) closed ih c (superclass_of new.file) new.up new.sup new.up_made new.up_ends (all_left (Stands w s c) (superclass_of new.file) (superinterfaces_of new.file) all) in
    let over = above_met w s (derive w n (c ∷ path)) closed ih c (superinterfaces_of new.file) new.over new.ints new.over_made new.over_ends (all_right (Stands w s c) (superclass_of new.file) (superinterfaces_of new.file) all) in
    subst (λ (x : List Need). AllMet s x) (sym (at.needs ∙ new.needs)) (met_both s new.up.needs (new.over.needs ++ (Entry c.loader c.name c.loader ∷ [])) up (met_both s new.over.needs (Entry c.loader c.name c.loader ∷ []) over (r, tt)))

-- ---- runs

stands_later : (w : World) (s t : State) → IsLater s t → (c : Class) (others : List Above) → AllByRecursion (Stands w s c) others → AllByRecursion (Stands w t c) others
stands_later w s t l c [] h = tt
stands_later w s t l c (a ∷ others) h =
    (record { place = h.0.place; found = h.0.found; holds = l.records c.loader h.0.place a.name h.0.holds }, stands_later w s t l c others h.1)

class_is : (c : Class) (name : Name) (place : ℕ) → name ≡ c.name → place ≡ c.loader → class name place ≡ c
class_is c name place p q = ap (λ (n : Name). class n place) p ∙ ap (λ (l : ℕ). class c.name l) q

home_moved : (w : World) (loader place l p : ℕ) (name n : Name) → loader ≡ l → name ≡ n → place ≡ p → home w loader name ≡ Some place → home w l n ≡ Some p
home_moved w loader place l p name n a b c h = subst (λ (x : ℕ). home w x n ≡ Some p) a (subst (λ (x : Name). home w loader x ≡ Some p) b (h ∙ ap (λ (x : ℕ). Some x) c))

record_moved : (rs : List Record) (place p : ℕ) (name n : Name) → name ≡ n → place ≡ p → recorded_definer rs place name ≡ Some place → recorded_definer rs p n ≡ Some p
record_moved rs place p name n b c h = subst (λ (x : ℕ). recorded_definer rs x n ≡ Some x) c (subst (λ (x : Name). recorded_definer rs place x ≡ Some place) b h)

pub own_moved : (s t : State) → IsLater s t → (loader place l p : ℕ) (name n : Name) → (loader ≡ place ⊎ (recorded_definer s.records place name ≡ Some place)) → loader ≡ l → name ≡ n → place ≡ p → recorded_definer t.records l n ≡ Some p → recorded_definer t.records p n ≡ Some p
own_moved s t later loader place l p name n (inl e) a b c h = subst (λ (x : ℕ). recorded_definer t.records x n ≡ Some p) (sym a ∙ e ∙ c) h
own_moved s t later loader place l p name n (inr q) a b c h = record_moved t.records place p name n b c (later.records place place name q)

-- a record that agrees with its home is added
closed_added : (w : World) (s : State) (loader place : ℕ) (name : Name) → IsClosed w s → home w loader name ≡ Some place
    → (loader ≡ place ⊎ (recorded_definer s.records place name ≡ Some place))
    → IsLater s (with_need s (Entry loader name place))
    → (loader ≡ place → IsGood w (class name place))
    → (loader ≡ place → (f : File) → HasFile w (class name place) f → AllByRecursion (Stands w s (class name place)) (supers f))
    → IsClosed w (with_need s (Entry loader name place))
closed_added w s loader place name closed at_home own later good above =
    let t = with_need s (Entry loader name place) in
    let r : Record = record { loader = loader; name = name; place = place } in
    record {
      homes = λ l p n h. elim (recorded_added s.records r l p n h) [ inl k ↦ closed.homes l p n k | inr k ↦ home_moved w loader place l p name n k.0 k.1 k.2 at_home ];
      own = λ l p n h. elim (recorded_added s.records r l p n h) [ inl k ↦ later.records p p n (closed.own l p n k) | inr k ↦ own_moved s t later loader place l p name n own k.0 k.1 k.2 h ];
      good = λ c h. elim (recorded_added s.records r c.loader c.loader c.name h) [
        | inl k ↦ closed.good c k
        | inr k ↦ subst (λ (x : Class). IsGood w x) (class_is c name place k.1 k.2) (good (k.0 ∙ sym k.2))
      ];
      above = λ c f h hf. elim (recorded_added s.records r c.loader c.loader c.name h) [
        | inl k ↦ stands_later w s t later c (supers f) (closed.above c f k hf)
        | inr k ↦ stands_later w s t later c (supers f) (subst (λ (x : Class). AllByRecursion (Stands w s x) (supers f)) (class_is c name place k.1 k.2) (above (k.0 ∙ sym k.2) f (subst (λ (x : Class). HasFile w x f) (sym (class_is c name place k.1 k.2)) hf)))
      ];
    }

pub closed_after : (g : Setting) (s : State) (e : Step) → May g s e → IsClosed g.world s → IsClosed g.world (after s e)
closed_after g s (Define c) may closed =
    closed_added g.world s c.loader c.loader c.name closed may.at_home (inl refl) (after_later s (Define c)) (λ e. may.good) (λ e f hf. subst (λ (x : File). AllByRecursion (Stands g.world s c) (supers x)) (ok_same may.file f _ may.has_file hf) may.above)
closed_after g s (Initiate name place loader) may closed =
    closed_added g.world s loader place name closed may.found (inr may.defined) (after_later s (Initiate name place loader)) (λ e. absurd (may.not_own e)) (λ e f hf. absurd (may.not_own e))
closed_after g s (Constrain name a b) may closed = record { homes = closed.homes; own = closed.own; good = closed.good; above = closed.above }
closed_after g s (Settle d i v) may closed = record { homes = closed.homes; own = closed.own; good = closed.good; above = closed.above }
closed_after g s (Prepare c) may closed = record { homes = closed.homes; own = closed.own; good = closed.good; above = closed.above }
closed_after g s (Post q a) may closed = record { homes = closed.homes; own = closed.own; good = closed.good; above = closed.above }
closed_after g s NextRound may closed = record { homes = closed.homes; own = closed.own; good = closed.good; above = closed.above }
closed_after g s Stray may closed = absurd may

closed_run : (g : Setting) (s : State) (es : List Step) → IsClosed g.world s → Run g s es → IsClosed g.world (state_after s es)
closed_run g s [] closed run = closed
closed_run g s (e ∷ es) closed run = closed_run g (after s e) es (closed_after g s e run.0 closed) run.1

no_record : {x : ℕ} → None ≡ Some x → ⊥
no_record h = cc

pub start_closed : (w : World) → IsClosed w start
start_closed w = record {
  homes = λ l p n h. absurd (no_record h);
  own = λ l p n h. absurd (no_record h);
  good = λ c h. absurd (no_record h);
  above = λ c f h k. absurd (no_record h);
}

pub runs_are_closed : (g : Setting) (es : List Step) → Run g start es → IsClosed g.world (state_after start es)
runs_are_closed g es run = closed_run g start es (start_closed g.world) run
