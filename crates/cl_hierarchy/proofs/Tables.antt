-- The table behind a path: what is pushed, goes on and ends keeps it.
use Rattle.std.proofs.Common.{◌≡◌, ◌≢◌, ◌∙◌, ◌<◌, ◌^◌, ◌-◌, ℕ, Bool, true, false, cond, List, [], ◌∷◌, ◌++◌, length, map, Option, Some, None, Result, Ok, Err, slice_get, is_some, refl, sym, ap, subst, arith, length-append}
use Rattle.std.specs.Prelude.{◌||◌, IsSome, OnOk, IfOk, IfErr}
use Rattle.std.specs.List.{list_any}
use Rattle.std.specs.Map.{lookup}
use Rattle.std.specs.Option.{option_map}
use Rattle.std.proofs.lemmas.List.{map_push, length-map}
use Rattle.std.proofs.lemmas.Option.{slice_get-map}
use Rattle.indexmap.specs.IndexMap.{set_value_at}
use Rattle.cl_classfile.specs.Files.{File, Name, file_of}
use Rattle.cl_classfile.specs.Structure.{Structure}
use Rattle.cl_model.specs.declared.class.Class.{Class}
use Rattle.cl_model.specs.Content.{Content}
use Rattle.cl_model.specs.Classes.{class, same_class, Above, Error, Role, misfit}
use Rattle.cl_model.specs.Views.{error_of}
use Rattle.cl_model.specs.declared.verdict.ErrorKind.{ErrorKind}
use Rattle.cl_model.specs.Frames.{wanted_supertype, asking_loader}
use Rattle.cl_config.specs.Views.{Configured}
use Rattle.cl_hierarchy.specs.Drafts.{Drafted, IsDraft}
use Rattle.cl_hierarchy.specs.Frames.{Framed, frame_of, with_definer}
use Rattle.cl_hierarchy.specs.Kept.{first_name, frames_in, kept_path, KeepsPath, last_wants, name_after, LastAccepts}
use Rattle.cl_hierarchy.specs.Paths.{Pathed, fresh, name_of, at_loader, at_name, is_on, IsPath, with_frame, with_frames, misfit_in, misfit_under, Accepts, Completes}
use Rattle.cl_hierarchy.specs.Repeats.{FitsLast}
use Rattle.cl_hierarchy.proofs.Ends.{Ends, last_split, set_last, frames_push, last_wants_of, asking_push, sought_push, first_push, under_last}
use Rattle.cl_hierarchy.proofs.Paths.{stand_pop, path_push, path_pop, path_accept}

-- ---- a class under which a frame stands

some_cond : {X : Type 0} (b : Bool) (x : X) (o : Option X) → is_some (cond b (Some x) o) ≡ (b || is_some o)
some_cond true x o = refl
some_cond false x o = refl

has_key : {X : Type 0} (c : Class) (es : List (Class × X)) → is_some (lookup (same_class c) es) ≡ list_any (same_class c) (map (λ e. e.0) es)
has_key c [] = refl
has_key c (e ∷ es) = some_cond (same_class c e.0) e.1 (lookup (same_class c) es) ∙ ap (λ b. same_class c e.0 || b) (has_key c es)

by_class : (c : Class) (es : List (Class × Framed)) → list_any (same_class c) (map (λ e. e.1.draft.class) es) ≡ list_any (λ x. same_class c x.class) (map frame_of (frames_in es))
by_class c [] = refl
by_class c (e ∷ es) = ap (λ b. same_class c e.1.draft.class || b) (by_class c es)

pub stands : (c : Class) (es : List (Class × Framed)) → map (λ e. e.0) es ≡ map (λ e. e.1.draft.class) es → is_some (lookup (same_class c) es) ≡ list_any (λ x. same_class c x.class) (map frame_of (frames_in es))
stands c es keys = has_key c es ∙ ap (list_any (same_class c)) keys ∙ by_class c es

none_of : {X : Type 0} (o : Option X) → is_some o ≡ false → o ≡ None
none_of None h = refl
none_of (Some x) h = absurd cc

pub stands_not : (c : Class) (es : List (Class × Framed)) → map (λ e. e.0) es ≡ map (λ e. e.1.draft.class) es → list_any (λ x. same_class c x.class) (map frame_of (frames_in es)) ≡ false → lookup (same_class c) es ≡ None
stands_not c es keys h = none_of (lookup (same_class c) es) (stands c es keys ∙ h)

-- ---- the last entry

pub at_last : (es : List (Class × Framed)) (k : Class) (x : Framed) (loader : ℕ) → slice_get es (length es - 1) ≡ Some (k, x) → asking_loader loader (map frame_of (frames_in es)) ≡ x.draft.class.loader
at_last es k x loader h =
    let s = last_split es (k, x) h in
    ap (λ (l : List (Class × Framed)). asking_loader loader (map frame_of (frames_in l))) s.split ∙ ap (λ (xs : List Framed). asking_loader loader (map frame_of xs)) (frames_push s.before k x) ∙ asking_push loader (frames_in s.before) x

pub under_entry : (es : List (Class × Framed)) (k : Class) (x : Framed) (t : Class) (f : File) → slice_get es (length es - 1) ≡ Some (k, x) → misfit_under (frames_in es) t f ≡ misfit_in x (wanted_supertype (frame_of x)) t f
under_entry es k x t f h =
    let s = last_split es (k, x) h in
    ap (λ (l : List (Class × Framed)). misfit_under (frames_in l) t f) s.split ∙ ap (λ (xs : List Framed). misfit_under xs t f) (frames_push s.before k x) ∙ under_last (frames_in s.before) x t f

entry_of : (x : Framed) (o : Option (Class × Framed)) → (let frame : Class × Framed → Framed = λ e. e.1 in Some x ≡ option_map frame o) → (k : Class) × (o ≡ Some (k, x))
entry_of x None h = absurd cc
entry_of x (Some e) h = let same : x ≡ e.1 = cc in (e.0, ap (λ (y : Framed). let z : Class × Framed = (e.0, y) in Some z) (sym same))

pub last_entry : (es : List (Class × Framed)) (x : Framed) → Some x ≡ slice_get (frames_in es) (length es - 1) → (k : Class) × (slice_get es (length es - 1) ≡ Some (k, x))
last_entry es x h = entry_of x (slice_get es (length es - 1)) (h ∙ slice_get-map (λ (e : Class × Framed). e.1) es (length es - 1))

pub wants_here : (es : List (Class × Framed)) (k : Class) (x : Framed) → slice_get es (length es - 1) ≡ Some (k, x) → last_wants es ≡ wanted_supertype (frame_of x)
wants_here es k x h = let s = last_split es (k, x) h in last_wants_of es s.before k x s.split

-- what the last frame did with the next supertype's loader
pub last_accepts : {E : Type 0} (es : List (Class × Framed)) (k : Class) (x new : Framed) (definer : ℕ) (r : Result (Option (List ℕ)) E) → slice_get es (length es - 1) ≡ Some (k, x) → OnOk r (new ≡ with_definer x definer)
    → IfOk r (λ o. o ≡ name_after x definer) → IfOk r (LastAccepts es (set_value_at es (length es - 1) new) definer)
last_accepts es k x new definer (Err e) h done next = tt
last_accepts es k x new definer (Ok o) h done next =
    let s = last_split es (k, x) h in
    let now = set_last es s.before k x new s.split ∙ ap (λ (y : Framed). s.before ++ (k, y) ∷ []) done in
    record { before = s.before; key = k; last = x; split = s.split; now = now; wants = next }

pub last_stays : {E : Type 0} (es : List (Class × Framed)) (k : Class) (x new : Framed) (r : Result (Option (List ℕ)) E) → slice_get es (length es - 1) ≡ Some (k, x) → IfErr r (λ e. new ≡ x) → IfErr r (λ e. set_value_at es (length es - 1) new ≡ es)
last_stays es k x new (Ok o) h same = tt
last_stays es k x new (Err e) h same =
    let s = last_split es (k, x) h in
    set_last es s.before k x new s.split ∙ ap (λ (y : Framed). s.before ++ (k, y) ∷ []) same ∙ sym s.split

-- ---- what a path keeps

same_path : (c : Configured) (loader : ℕ) (n m : List ℕ) (xs ys : List Framed) → n ≡ m → xs ≡ ys → (let p : Pathed = record { config = c; loader = loader; name = n; frames = xs } in p) ≡ record { config = c; loader = loader; name = m; frames = ys }
same_path c loader n m xs ys p q = cc

-- the path of a table that ends in a frame
ends_in : (c : Configured) (loader : ℕ) (at : List ℕ) (es : List (Class × Framed)) (k : Class) (x : Framed)
    → kept_path c loader at (es ++ (k, x) ∷ []) ≡ record { config = c; loader = loader; name = first_name (frames_in es) x.draft.class.name; frames = frames_in es ++ x ∷ [] }
ends_in c loader at es k x =
    same_path c loader _ _ _ _ (ap (λ (xs : List Framed). first_name xs at) (frames_push es k x) ∙ first_push (frames_in es) x at) (frames_push es k x)

keys_push : (es : List (Class × Framed)) (k : Class) (x : Framed) → map (λ e. e.0) es ≡ map (λ e. e.1.draft.class) es → k ≡ x.draft.class → map (λ e. e.0) (es ++ (k, x) ∷ []) ≡ map (λ e. e.1.draft.class) (es ++ (k, x) ∷ [])
keys_push es k x keys same =
    map_push (λ (e : Class × Framed). e.0) es (k, x) ∙ ap (λ (ks : List Class). ks ++ k ∷ []) keys ∙ ap (λ (t : Class). map (λ (e : Class × Framed). e.1.draft.class) es ++ t ∷ []) same
    ∙ sym (map_push (λ (e : Class × Framed). e.1.draft.class) es (k, x))

keys_pop : (es : List (Class × Framed)) (k : Class) (x : Framed) → map (λ e. e.0) (es ++ (k, x) ∷ []) ≡ map (λ e. e.1.draft.class) (es ++ (k, x) ∷ []) → (map (λ e. e.0) es ≡ map (λ e. e.1.draft.class) es) × (k ≡ x.draft.class)
keys_pop [] k x h = (refl, cc)
keys_pop (e ∷ es) k x h =
    let tail : map (λ e. e.0) (es ++ (k, x) ∷ []) ≡ map (λ e. e.1.draft.class) (es ++ (k, x) ∷ []) = cc in
    let head : e.0 ≡ e.1.draft.class = cc in
    let r = keys_pop es k x tail in
    (rw (head, r.0) refl, r.1)

short : (xs : List Framed) (es : List (Class × Framed)) (n : ℕ) → frames_in es ≡ xs → n ≡ length es → n < 2 ^ 64 → length xs < 2 ^ 64
short xs es n same counted h = subst (λ (ys : List Framed). length ys < 2 ^ 64) same (subst (λ (m : ℕ). m < 2 ^ 64) (counted ∙ sym (length-map es (λ (e : Class × Framed). e.1))) h)

module _ (told : Option Content) (c : Configured) (loader : ℕ) where
  -- the path and its table with one frame more
  pub held_push : (n : ℕ) (at next : List ℕ) (es new : List (Class × Framed)) (d : Drafted) → KeepsPath told c loader at es → new ≡ es ++ (class at d.class.loader, fresh d) ∷ [] → IsDraft told d → d.home.config ≡ c
      → d.home.asked ≡ at_loader (kept_path c loader at es) → d.class.name ≡ at_name (kept_path c loader at es) → IsSome (wanted_supertype (frame_of (fresh d))) → is_on (kept_path c loader at es) d.class ≡ false → next ≡ name_of (wanted_supertype (frame_of (fresh d)))
      → n ≡ length new → n < 2 ^ 64 → KeepsPath told c loader next new × (kept_path c loader next new ≡ with_frame (kept_path c loader at es) (fresh d))
  held_push n at next es new d kept e draft config asked name waits absent wants counted small =
      let k = class at d.class.loader in
      let x = fresh d in
      let p = kept_path c loader at es in
      let named : d.class.name ≡ at = name ∙ sym kept.at_name in
      let is : kept_path c loader next (es ++ (k, x) ∷ []) ≡ with_frame p x = ends_in c loader next es k x ∙ same_path c loader _ _ _ _ (ap (first_name (frames_in es)) named) refl in
      let whole : kept_path c loader next new ≡ with_frame p x = ap (kept_path c loader next) e ∙ is in
      let many : length (frames_in es ++ x ∷ []) < 2 ^ 64 = short _ new n (ap frames_in e ∙ frames_push es k x) counted small in
      let path = path_push told p d kept.path draft config asked name waits absent many in
      let same : k ≡ d.class = ap (λ (m : List ℕ). class m d.class.loader) (sym named) in (
        record {
          path = subst (IsPath told) (sym whole) path;
          keys = subst (λ (l : List (Class × Framed)). map (λ e. e.0) l ≡ map (λ e. e.1.draft.class) l) (sym e) (keys_push es k x kept.keys same);
          at_name = wants ∙ sym (ap at_name whole ∙ sought_push p.name (frames_in es) x);
        },
        whole,
      )

  -- the class that is pushed has no frame yet
  pub absent_push : (at n : List ℕ) (l : ℕ) (es same : List (Class × Framed)) (d : Drafted) → KeepsPath told c loader at es → same ≡ es → n ≡ at → l ≡ d.class.loader → d.class.name ≡ at_name (kept_path c loader at es)
      → is_on (kept_path c loader at es) d.class ≡ false → lookup (same_class (class n l)) same ≡ None
  absent_push at n l es same d kept e p q name absent =
      let named : n ≡ d.class.name = p ∙ kept.at_name ∙ sym name in
      let is : class n l ≡ d.class = ap (λ (m : List ℕ). class m l) named ∙ ap (class d.class.name) q in
      ap (λ (t : Class). lookup (same_class t) same) is ∙ ap (lookup (same_class d.class)) e ∙ stands_not d.class es kept.keys absent

pub put_same : (es same : List (Class × Framed)) (n at : List ℕ) (l k : ℕ) (x y : Framed) → same ≡ es → n ≡ at → l ≡ k → x ≡ y → same ++ (class n l, x) ∷ [] ≡ es ++ (class at k, y) ∷ []
put_same es same n at l k x y p q r s = cc

-- ---- what is wrong, as it is told

-- the error of a kind, of this class
abbrev pub told_of : Class → Option ErrorKind → Option Error
told_of t r = option_map (λ kind. error_of kind t) r

pub said_of : (r : Option ErrorKind) (role : Role) (one other t u : Class) (f k : Structure) → one ≡ other → t ≡ u → f ≡ k → told_of t r ≡ misfit one role t (file_of f) → told_of u r ≡ misfit other role u (file_of k)
said_of r role one other t u f k p q e h =
    let of_class : told_of t r ≡ misfit other role t (file_of f) = subst (λ (z : Class). told_of t r ≡ misfit z role t (file_of f)) p h in
    let of_above : told_of u r ≡ misfit other role u (file_of f) = subst (λ (z : Class). told_of z r ≡ misfit other role z (file_of f)) q of_class in
    subst (λ (z : Structure). told_of u r ≡ misfit other role u (file_of z)) e of_above

-- ---- the last frame goes on, or ends

-- of the loader and the name that are at hand
pub accepts_so : (es new : List (Class × Framed)) (definer loader : ℕ) (o next : Option (List ℕ)) → definer ≡ loader → o ≡ next → LastAccepts es new definer o → LastAccepts es new loader next
accepts_so es new definer loader o next p q a = subst (λ (n : Option (List ℕ)). LastAccepts es new loader n) q (subst (λ (l : ℕ). LastAccepts es new l o) p a)

pub snoc_same : {A : Type 0} (xs ys : List A) (x y : A) → xs ++ x ∷ [] ≡ ys ++ y ∷ [] → (xs ≡ ys) × (x ≡ y)
snoc_same [] [] x y e = (refl, cc)
snoc_same [] (z ∷ zs) x y e = let n = ap length e in let m = length-append zs (y ∷ []) in absurd (omega arith)
snoc_same (z ∷ zs) [] x y e = let n = ap length e in let m = length-append zs (x ∷ []) in absurd (omega arith)
snoc_same {A} (u ∷ us) (z ∷ zs) x y e =
    let head : u ≡ z = cc in
    let tail : us ++ x ∷ [] ≡ zs ++ y ∷ [] = cc in
    let r = snoc_same us zs x y tail in
    (ap (λ (v : A). v ∷ us) head ∙ ap (λ (vs : List A). z ∷ vs) r.0, r.1)

next_of : (o : Option Above) (n : List ℕ) → Some n ≡ option_map (λ a. a.name) o → IsSome o × (n ≡ name_of o)
next_of None n e = absurd cc
next_of (Some a) n e = let same : n ≡ a.name = cc in (refl, same)

last_next : (o : Option Above) → None ≡ (let names : Option Above → Option Name = option_map (λ a. a.name) in names o) → o ≡ None
last_next None e = refl
last_next (Some a) e = absurd cc

-- a list that is not empty has an end
end_of : {A : Type 0} (x : A) (xs : List A) → (e : A) × Ends (x ∷ xs) e
end_of x [] = (x, record { before = []; split = refl })
end_of {A} x (y ∷ ys) = let r = end_of y ys in (r.0, record { before = x ∷ r.1.before; split = ap (λ (zs : List A). x ∷ zs) r.1.split })

-- the path of a table that ends so
ends_as : (c : Configured) (loader : ℕ) (at : List ℕ) (es before : List (Class × Framed)) (k : Class) (x : Framed) → es ≡ before ++ (k, x) ∷ []
    → kept_path c loader at es ≡ record { config = c; loader = loader; name = first_name (frames_in before) x.draft.class.name; frames = frames_in before ++ x ∷ [] }
ends_as c loader at es before k x e = ap (kept_path c loader at) e ∙ ends_in c loader at before k x

module _ (told : Option Content) (c : Configured) (loader : ℕ) (at : List ℕ) (es : List (Class × Framed)) where
  -- where a class is being derived, the last one wants a supertype
  last_waits : (es : List (Class × Framed)) → KeepsPath told c loader at es → frames_in es ≢ [] → IsSome (last_wants es)
  last_waits [] kept some = absurd (some refl)
  last_waits (e ∷ es) kept some =
      let r = end_of e es in
      let s = r.1 in
      let p = ends_as c loader at (e ∷ es) s.before r.0.0 r.0.1 s.split in
      let path = subst (IsPath told) p kept.path in
      let waits = (stand_pop c loader (first_name (frames_in s.before) r.0.1.draft.class.name) (frames_in s.before) r.0.1 path.stand).1.waits in
      subst (λ (o : Option Above). IsSome o) (sym (last_wants_of (e ∷ es) s.before r.0.0 r.0.1 s.split)) waits

  pub waits_last : KeepsPath told c loader at es → frames_in es ≢ [] → IsSome (last_wants es)
  waits_last kept some = last_waits es kept some

  -- the last frame goes on
  pub held_accept : (next : List ℕ) (new : List (Class × Framed)) (definer : ℕ) → KeepsPath told c loader at es → FitsLast told (kept_path c loader at es) definer → LastAccepts es new definer (Some next)
      → KeepsPath told c loader next new × Accepts (kept_path c loader at es) (kept_path c loader next new) definer
  held_accept next new definer kept fits a =
      let x = a.last in
      let y = with_definer x definer in
      let xs = frames_in a.before in
      let name = first_name xs x.draft.class.name in
      let p = ends_as c loader at es a.before a.key x a.split in
      let q = ends_as c loader next new a.before a.key y a.now in
      let wants = next_of (wanted_supertype (frame_of y)) next a.wants in
      let path = path_accept told c loader name xs x definer (subst (IsPath told) p kept.path) (fits xs x (ap (λ (z : Pathed). z.frames) p)) wants.0 in
      let keys = keys_pop a.before a.key x (subst (λ (l : List (Class × Framed)). map (λ e. e.0) l ≡ map (λ e. e.1.draft.class) l) a.split kept.keys) in (
        record {
          path = subst (IsPath told) (sym q) path;
          keys = subst (λ (l : List (Class × Framed)). map (λ e. e.0) l ≡ map (λ e. e.1.draft.class) l) (sym a.now) (keys_push a.before a.key y keys.0 keys.1);
          at_name = wants.1 ∙ sym (ap at_name q ∙ sought_push name xs y);
        },
        record {
          before = xs;
          last = x;
          split = ap (λ (z : Pathed). z.frames) p;
          now = q ∙ ap (λ (z : Pathed). with_frames z (xs ++ y ∷ [])) (sym p);
          waits = wants.0;
        },
      )

  -- the last frame ends
  pub held_end : (new rest : List (Class × Framed)) (k : Class) (x : Framed) (definer : ℕ) → KeepsPath told c loader at es → LastAccepts es new definer None → new ≡ rest ++ (k, x) ∷ []
      → KeepsPath told c loader k.name rest × Completes (kept_path c loader at es) (kept_path c loader k.name rest) definer x
  held_end new rest k x definer kept a popped =
      let was = a.last in
      let xs = frames_in a.before in
      let name = first_name xs was.draft.class.name in
      let last = snoc_same rest a.before (k, x) (a.key, with_definer was definer) (sym popped ∙ a.now) in
      let p = ends_as c loader at es a.before a.key was a.split in
      let whole = subst (IsPath told) p kept.path in
      let stood = (stand_pop c loader name xs was whole.stand).1 in
      let keys = keys_pop a.before a.key was (subst (λ (l : List (Class × Framed)). map (λ e. e.0) l ≡ map (λ e. e.1.draft.class) l) a.split kept.keys) in
      let key : k ≡ was.draft.class = ap (λ (e : Class × Framed). e.0) last.1 ∙ keys.1 in
      let whole_is : x ≡ with_definer was definer = ap (λ (e : Class × Framed). e.1) last.1 in
      let below : kept_path c loader k.name rest ≡ record { config = c; loader = loader; name = name; frames = xs } =
      same_path c loader _ _ _ _ (ap (λ (l : List (Class × Framed)). first_name (frames_in l) k.name) last.0 ∙ ap (λ (z : Class). first_name xs z.name) key) (ap frames_in last.0) in (
        record {
          path = subst (IsPath told) (sym below) (path_pop told c loader name xs was whole);
          keys = subst (λ (l : List (Class × Framed)). map (λ e. e.0) l ≡ map (λ e. e.1.draft.class) l) (sym last.0) keys.0;
          at_name = ap (λ (z : Class). z.name) key ∙ stood.named ∙ sym (ap at_name below);
        },
        record {
          before = xs;
          last = was;
          split = ap (λ (z : Pathed). z.frames) p;
          now = below ∙ ap (λ (z : Pathed). with_frames z xs) (sym p);
          whole_is = whole_is;
          complete = ap (λ (y : Framed). wanted_supertype (frame_of y)) whole_is ∙ last_next (wanted_supertype (frame_of (with_definer was definer))) a.wants;
        },
      )
