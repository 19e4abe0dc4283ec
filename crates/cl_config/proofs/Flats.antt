-- One text tells what it is the text of.
use Rattle.std.proofs.Common.{◌≡◌, ℕ, suc, nat_eq, Bool, true, false, ◌<◌, ◌≤◌, List, [], ◌∷◌, ◌++◌, length, get_or, take, refl, sym, ap, ◌∙◌, append_assoc, append-nil}
use Rattle.std.specs.Cmp.Lexicographic.{pointwise}
use Rattle.std.specs.List.{flat_map}
use Rattle.std.proofs.lemmas.Bool.Decides.{Decides-like}
use Rattle.std.proofs.lemmas.Slice.Eq.{bytes_eq-Decides}
use Rattle.std.specs.Bool.{Decides as BothWays}
use Rattle.cl_names.specs.Truth.{Decides}
use Rattle.std.proofs.Math.Seq.{take-suc}
use Rattle.std.proofs.lemmas.Grind.{flat_map-append}
use Rattle.std.proofs.lemmas.List.{take_all}
use Rattle.cl_model.specs.Homes.{Import}
use Rattle.cl_config.specs.declared.order.Order.{Order}
use Rattle.cl_config.specs.declared.order.Order.TheVariants.{ParentFirst, ChildFirst}
use Rattle.cl_config.specs.Views.{Configured, Loader}
use Rattle.cl_config.specs.Flat.{flat_item, flat_list, flat_number, flat_order, flat_import, flat_loader, flat_of, FlatTellsApart}

-- whatever stands behind it, a text tells what it is of, and where it ends
abbrev IsCode : {A : Type 0} → (A → List ℕ) → Type 0
IsCode {A} flat = (x y : A) (r s : List ℕ) → flat x ++ r ≡ flat y ++ s → (x ≡ y) × (r ≡ s)

number_code : IsCode flat_number
number_code x y r s h = (cc, cc)

order_code : IsCode flat_order
order_code ParentFirst ParentFirst r s h = (refl, cc)
order_code ParentFirst ChildFirst r s h = absurd cc
order_code ChildFirst ParentFirst r s h = absurd cc
order_code ChildFirst ChildFirst r s h = (refl, cc)

-- the text of a list behind its first item's
opened : {A : Type 0} (flat : A → List ℕ) (x : A) (xs : List A) (r : List ℕ) → flat_list flat (x ∷ xs) ++ r ≡ 1 ∷ (flat x ++ (flat_list flat xs ++ r))
opened flat x xs r = ap (λ (t : List ℕ). 1 ∷ (t ++ r)) (append_assoc (flat x) (flat_map (flat_item flat) xs) (0 ∷ [])) ∙ ap (λ (t : List ℕ). 1 ∷ t) (append_assoc (flat x) (flat_list flat xs) r)

behind_one : (a b : List ℕ) → 1 ∷ a ≡ 1 ∷ b → a ≡ b
behind_one a b h = cc

list_code : {A : Type 0} (flat : A → List ℕ) → IsCode flat → IsCode (flat_list flat)
list_code flat code [] [] r s h = (refl, cc)
list_code flat code [] (y ∷ ys) r s h = absurd (let k = h ∙ opened flat y ys s in cc)
list_code flat code (x ∷ xs) [] r s h = absurd (let k = sym (opened flat x xs r) ∙ h in cc)
list_code flat code (x ∷ xs) (y ∷ ys) r s h =
    let items = code x y (flat_list flat xs ++ r) (flat_list flat ys ++ s) (behind_one _ _ (sym (opened flat x xs r) ∙ h ∙ opened flat y ys s)) in
    let rest = list_code flat code xs ys r s items.1 in
    (both items.0 rest.0, rest.1)
  where
    both : {A : Type 0} {x y : A} {xs ys : List A} → x ≡ y → xs ≡ ys → x ∷ xs ≡ y ∷ ys
    both e f = cc

import_code : IsCode flat_import
import_code m n r s h =
    let prefix = list_code flat_number number_code m.prefix n.prefix (flat_number m.target ++ r) (flat_number n.target ++ s) (sym (append_assoc (flat_list flat_number m.prefix) (flat_number m.target) r) ∙ h ∙ append_assoc (flat_list flat_number n.prefix) (flat_number n.target) s) in
    let target = number_code m.target n.target r s prefix.1 in
    (same prefix.0 target.0, target.1)
  where
    same : {m n : Import} → m.prefix ≡ n.prefix → m.target ≡ n.target → m ≡ n
    same {m} {n} e f = ap (λ (p : List ℕ). record { prefix = p; target = m.target }) e ∙ ap (λ (t : ℕ). record { prefix = n.prefix; target = t }) f

-- the texts of a loader, one behind the other
parted : (l : Loader) (r : List ℕ) → flat_loader l ++ r ≡ flat_list flat_number l.name ++ (flat_list flat_number l.dir ++ (flat_list flat_number l.parents ++ (flat_order l.order ++ (flat_list flat_import l.imports ++ r))))
parted l r = at (flat_list flat_number l.name) (flat_list flat_number l.dir) (flat_list flat_number l.parents) (flat_order l.order) (flat_list flat_import l.imports)
  where
    at : (n d p o i : List ℕ) → (n ++ d ++ p ++ o ++ i) ++ r ≡ n ++ (d ++ (p ++ (o ++ (i ++ r))))
    at n d p o i = append_assoc (n ++ d ++ p ++ o) i r ∙ append_assoc (n ++ d ++ p) o (i ++ r) ∙ append_assoc (n ++ d) p (o ++ (i ++ r)) ∙ append_assoc n d (p ++ (o ++ (i ++ r)))

loader_code : IsCode flat_loader
loader_code l m r s h =
    let texts = list_code flat_number number_code in
    let name = texts l.name m.name _ _ (sym (parted l r) ∙ h ∙ parted m s) in
    let dir = texts l.dir m.dir _ _ name.1 in
    let parents = texts l.parents m.parents _ _ dir.1 in
    let order = order_code l.order m.order _ _ parents.1 in
    let imports = list_code flat_import import_code l.imports m.imports r s order.1 in
    (same name.0 dir.0 parents.0 order.0 imports.0, imports.1)
  where
    same : {l m : Loader} → l.name ≡ m.name → l.dir ≡ m.dir → l.parents ≡ m.parents → l.order ≡ m.order → l.imports ≡ m.imports → l ≡ m
    same {l} {m} a b c d e =
        ap (λ (x : List ℕ). record { name = x; dir = l.dir; parents = l.parents; order = l.order; imports = l.imports }) a
        ∙ ap (λ (x : List ℕ). record { name = m.name; dir = x; parents = l.parents; order = l.order; imports = l.imports }) b
        ∙ ap (λ (x : List ℕ). record { name = m.name; dir = m.dir; parents = x; order = l.order; imports = l.imports }) c
        ∙ ap (λ (x : Order). record { name = m.name; dir = m.dir; parents = m.parents; order = x; imports = l.imports }) d
        ∙ ap (λ (x : List Import). record { name = m.name; dir = m.dir; parents = m.parents; order = m.order; imports = x }) e

pub flat_tells_apart : FlatTellsApart
flat_tells_apart c d h = ap (λ (ls : List Loader). record { loaders = ls }) (list_code flat_loader loader_code c.loaders d.loaders [] [] (ap (λ (t : List ℕ). t ++ []) h)).0

answers : {P : Type 0} (b : Bool) → BothWays b P → Decides b P
answers true d = d.0 refl
answers false d = λ p. absurd (let k = d.1 p in cc)

-- whether two texts are the same tells whether two configurations are
pub tells : (c d : Configured) (text other : List ℕ) (same : Bool) → text ≡ flat_of c → other ≡ flat_of d → same ≡ pointwise nat_eq text other → Decides same (c ≡ d)
tells c d text other same is so e = rw e (answers (pointwise nat_eq text other) (Decides-like (pointwise nat_eq text other) (λ one. flat_tells_apart c d (sym is ∙ one ∙ so)) (λ one. is ∙ ap flat_of one ∙ sym so) (bytes_eq-Decides text other)))

-- ---- how the text of a list is made

-- one item more
pub one_more : {A : Type 0} (flat : A → List ℕ) (xs : List A) (i : ℕ) (x : A) (before text new : List ℕ) → i < length xs → x ≡ get_or xs i x → text ≡ before ++ flat_map (flat_item flat) (take i xs) → new ≡ (text ++ 1 ∷ []) ++ flat x
    → new ≡ before ++ flat_map (flat_item flat) (take (suc i) xs)
one_more flat xs i x before text new lt is so_far put =
    put ∙ append_assoc text (1 ∷ []) (flat x) ∙ ap (λ (t : List ℕ). t ++ flat_item flat x) so_far ∙ append_assoc before (flat_map (flat_item flat) (take i xs)) (flat_item flat x)
    ∙ ap (λ (t : List ℕ). before ++ t) (sym extended)
  where
    extended : flat_map (flat_item flat) (take (suc i) xs) ≡ flat_map (flat_item flat) (take i xs) ++ flat_item flat x
    extended =
        ap (flat_map (flat_item flat)) (take-suc xs i x lt ∙ ap (λ (y : _). take i xs ++ y ∷ []) (sym is)) ∙ flat_map-append (flat_item flat) (take i xs) (x ∷ [])
        ∙ ap (λ (t : List ℕ). flat_map (flat_item flat) (take i xs) ++ t) (append-nil (flat_item flat x))

-- the last
pub ended : {A : Type 0} (flat : A → List ℕ) (xs : List A) (i : ℕ) (before text new : List ℕ) → length xs ≤ i → text ≡ before ++ flat_map (flat_item flat) (take i xs) → new ≡ text ++ 0 ∷ [] → new ≡ before ++ flat_list flat xs
ended flat xs i before text new le so_far put =
    put ∙ ap (λ (t : List ℕ). t ++ 0 ∷ []) (so_far ∙ ap (λ (ys : List _). before ++ flat_map (flat_item flat) ys) (take_all i xs le)) ∙ append_assoc before (flat_map (flat_item flat) xs) (0 ∷ [])
