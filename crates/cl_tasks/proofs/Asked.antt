-- What a plan asks, and the homes of it, are its nodes; nothing of what is looked for is in hand.
use Rattle.std.proofs.Common.{◌≡◌, inl, inr, ℕ, Bool, true, false, ◌==◌, ◌||◌, List, [], ◌∷◌, ◌++◌, Option, Some, None, refl, sym, ap, subst, ◌∙◌}
use Rattle.std.specs.Prelude.{flat_map}
use Rattle.std.specs.List.{list_any}
use Rattle.std.proofs.lemmas.Bool.{and_parts, eqb-true}
use Rattle.std.proofs.lemmas.Cmp.{nat_eq_equiv}
use Rattle.cl_classfile.specs.Files.{Name, same_name}
use Rattle.cl_model.specs.Homes.{World, home}
use Rattle.cl_model.specs.declared.class.Class.{Class}
use Rattle.cl_model.specs.Classes.{class, same_class, is_among, is_own}
use Rattle.cl_model.specs.Works.{Ask}
use Rattle.cl_model.specs.Plans.{Plan, asked_at_home, homes_of, nodes_of, same_ask}
use Rattle.cl_model.specs.Frames.{Frame, IsFrames, path_of}
use Rattle.cl_model.proofs.Marks.{In, in_left, in_right}
use Rattle.cl_model.proofs.Asks.{distinct_has}
use Rattle.cl_model.proofs.Homes.{home_of_home}
use Rattle.cl_model.proofs.Runs.{names_equal}
use Rattle.cl_model.proofs.Ancestors.{among_first}
use Rattle.cl_model.proofs.Bind.{some_same}
use Rattle.cl_model.proofs.Heights.{found}
use Rattle.cl_tasks.specs.Calls.{is_own_home, ask_of, ask_for, in_hand}

-- ---- nodes

in_flat : {A B : Type 0} (f : A → List B) (y : B) (x : A) (xs : List A) → In x xs → In y (f x) → In y (flat_map f xs)
in_flat f y x [] h k = absurd h
in_flat f y x (z ∷ xs) (inl e) k = in_left y (f z) (flat_map f xs) (subst (λ (v : _). In y (f v)) (sym e) k)
in_flat f y x (z ∷ xs) (inr h) k = in_right y (f z) (flat_map f xs) (in_flat f y x xs h k)

-- what a plan asks is a node
pub node_of : (w : World) (p : Plan) (a : Ask) → In a p.asked → In a (nodes_of w p)
node_of w p a h = distinct_has a (p.asked ++ flat_map (asked_at_home w) p.asked) (in_left a p.asked (flat_map (asked_at_home w) p.asked) h)

asked_there : (w : World) (a : Ask) (place : ℕ) (o : Option ℕ) → o ≡ Some place → In (ask_of a.name place) (elim o as (λ x. List Ask) [
  | None ↦ []
  | Some at ↦ ask_of a.name at ∷ []
])
asked_there w a place None e = absurd cc
asked_there w a place (Some at) e = inl (ap (λ (l : ℕ). ask_of a.name l) (some_same at place e))

-- the home of what a plan asks is a node, and one of the homes
pub home_node : (w : World) (p : Plan) (a : Ask) (place : ℕ) → In a p.asked → home w a.loader a.name ≡ Some place → In (ask_of a.name place) (nodes_of w p) × In (ask_of a.name place) (homes_of w p)
home_node w p a place h e =
    let b = ask_of a.name place in
    let there : In b (flat_map (asked_at_home w) p.asked) = in_flat (asked_at_home w) b a p.asked h (asked_there w a place (home w a.loader a.name) e) in (
      distinct_has b (p.asked ++ flat_map (asked_at_home w) p.asked) (in_right b p.asked (flat_map (asked_at_home w) p.asked) there),
      distinct_has b (flat_map (asked_at_home w) p.asked) there,
    )

-- ---- homes

-- a home is its own home
pub own_home : (w : World) (l place : ℕ) (n : Name) → home w l n ≡ Some place → is_own_home w (ask_of n place) ≡ true
own_home w l place n h = ap (λ (o : Option ℕ). is_own place o) (home_of_home w l place n h) ∙ nat_eq_equiv.refl place

differ : (a b : ℕ) → (a ≡ b → ⊥) → (t : Bool) → (b == a) ≡ t → t ≡ false
differ a b h true e = absurd (h (sym (eqb-true b a e)))
differ a b h false e = refl

-- a loader whose home is another is not
pub not_own : (w : World) (l place : ℕ) (n : Name) → home w l n ≡ Some place → (l ≡ place → ⊥) → is_own_home w (ask_of n l) ≡ false
not_own w l place n h other = ap (λ (o : Option ℕ). is_own l o) h ∙ differ l place other (place == l) refl

-- ---- what is in hand

-- what is on a path stays there
among_stays : (xs : List Frame) (path : List Class) (c : Class) → is_among path c ≡ true → is_among (path_of path xs) c ≡ true
among_stays [] path c h = h
among_stays (x ∷ xs) path c h = among_stays xs (x.class ∷ path) c (behind (same_class c x.class) (is_among path c) h)
  where
    behind : (a b : Bool) → b ≡ true → (a || b) ≡ true
    behind true b h = refl
    behind false b h = h

-- what is asked of a loader is asked for a class whose home that loader finds, so it is that class
apart : (w : World) (name : Name) (q place l : ℕ) (c : Class) (cs : List Class) → home w q name ≡ Some place → home w l c.name ≡ Some c.loader → is_among cs c ≡ true → is_among cs (class name place) ≡ false → (t : Bool) → same_ask (ask_of name q) (ask_of c.name l) ≡ t → t ≡ false
apart w name q place l c cs at found on out true e =
    let both = and_parts (q == l) (same_name name c.name) e in
    let one : q ≡ l = eqb-true q l both.0 in
    let two : name ≡ c.name = names_equal name c.name both.1 in
    let here : home w l c.name ≡ Some place = subst (λ (x : ℕ). home w x c.name ≡ Some place) one (subst (λ (x : Name). home w q x ≡ Some place) two at) in
    let same : place ≡ c.loader = some_same place c.loader (sym here ∙ found) in
    let is : class name place ≡ c = ap (λ (x : Name). class x place) two ∙ ap (λ (x : ℕ). class c.name x) same in
    absurd (let k : is_among cs c ≡ false = subst (λ (x : Class). is_among cs x ≡ false) is out in cc)
apart w name q place l c cs at found on out false e = refl

none_of : (a b c : Bool) → a ≡ false → b ≡ false → c ≡ false → (a || (b || c)) ≡ false
none_of a b c h k l = rw h (rw k l)

off : (w : World) (xs : List Frame) (path : List Class) (loader : ℕ) (name : Name) (al : ℕ) (an : Name) (q place : ℕ) (n : Name) → IsFrames w path loader name xs al an → home w q n ≡ Some place → is_among (path_of path xs) (class n place) ≡ false → list_any (same_ask (ask_of n q)) (in_hand loader xs) ≡ false
off w [] path loader name al an q place n f at out = refl
off w (x ∷ xs) path loader name al an q place n f at out =
    let c = x.class in
    let cs = path_of (c ∷ path) xs in
    let found : home w loader c.name ≡ Some c.loader = subst (λ (z : Name). home w loader z ≡ Some c.loader) f.0.named f.0.found in
    let on : is_among cs c ≡ true = among_stays xs (c ∷ path) c (among_first path c) in
    none_of (same_ask (ask_of n q) (ask_of c.name loader)) (same_ask (ask_of n q) (ask_for c)) (list_any (same_ask (ask_of n q)) (in_hand c.loader xs))
    (apart w n q place loader c cs at found on out (same_ask (ask_of n q) (ask_of c.name loader)) refl)
    (apart w n q place c.loader c cs at (home_of_home w loader c.loader c.name found) on out (same_ask (ask_of n q) (ask_for c)) refl)
    (off w xs (c ∷ path) c.loader f.1.0.name al an q place n f.1.2 at out)

-- what is looked for, and its home, are not in hand where its class is not on the path
pub off_hand : (w : World) (loader : ℕ) (name : Name) (xs : List Frame) (at_loader place : ℕ) (at_name : Name) → IsFrames w [] loader name xs at_loader at_name → home w at_loader at_name ≡ Some place → is_among (path_of [] xs) (class at_name place) ≡ false → (list_any (same_ask (ask_of at_name at_loader)) (in_hand loader xs) ≡ false) × (list_any (same_ask (ask_of at_name place)) (in_hand loader xs) ≡ false)
off_hand w loader name xs al place an f at out = (
  off w xs [] loader name al an al place an f at out,
  off w xs [] loader name al an place place an f (home_of_home w al place an at) out,
)
