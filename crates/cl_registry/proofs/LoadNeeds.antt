-- What the load of a class needs are records alone.
use Rattle.std.proofs.Common.{◌≡◌, ℕ, zero, suc, Bool, true, false, List, [], ◌∷◌, Option, Some, None, inl, inr, refl, sym, subst}
use Rattle.std.specs.Prelude.{if◌then◌else◌, ◌==◌}
use Rattle.std.specs.List.{AllByRecursion}
use Rattle.cl_classfile.specs.Files.{Name}
use Rattle.cl_model.specs.Homes.{World, home}
use Rattle.cl_model.specs.declared.class.Class.{Class}
use Rattle.cl_model.specs.Classes.{class, is_among, Error, NoClassDef, Above, superclass_of, superinterfaces_of, read_class, misfit}
use Rattle.cl_model.specs.Lineages.{Kin}
use Rattle.cl_model.specs.States.{Need, Entry}
use Rattle.cl_model.specs.Works.{Work, Made, end_with, need, ask, or_fail, unless_wrong, of_result, ◌>>=◌}
use Rattle.cl_model.specs.Plans.{initiating_needs, load_by, loads_above, derive_new, derive, load}
use Rattle.cl_model.proofs.Bind.{pieces, some_same}
use Rattle.cl_model.proofs.Heights.{loaded, found, sought, grown, others_after, checked, finished, interfaces_next, superclass_next, circle_or}
use Rattle.cl_model.proofs.Progress.{IsEntry}
use Rattle.cl_model.proofs.Derived.{all_both}

-- work needs records alone
abbrev Only : {A : Type 0} → Work A → Type 0
Only a = (m : Made _) → a ≡ Some m → AllByRecursion IsEntry m.needs

only_then : {A B : Type 0} (a : Work A) (f : A → Work B) → Only a → ((x : A) → Only (f x)) → Only (a >>= f)
only_then a f one two m h = elim (pieces a f m m.ends h refl) [
  | inl b ↦ subst (λ (ns : List Need). AllByRecursion IsEntry ns) (sym b.needs) (all_both IsEntry b.first.needs b.second.needs (one b.first b.made) (two b.value b.second b.next))
  | inr s ↦ subst (λ (ns : List Need). AllByRecursion IsEntry ns) (sym s.2.needs) (one s.2.first s.2.made)
]

none_only : {A : Type 0} (m : Made A) → m.needs ≡ [] → Only (Some m)
none_only m e z h = subst (λ (v : Made _). AllByRecursion IsEntry v.needs) (some_same m z h) (subst (λ (ns : List Need). AllByRecursion IsEntry ns) (sym e) tt)

or_fail_only : {A : Type 0} (e : Error) (o : Option A) → Only (or_fail e o)
or_fail_only e None = none_only _ refl
or_fail_only e (Some x) = none_only _ refl

unless_only : (o : Option Error) → Only (unless_wrong o)
unless_only None = none_only _ refl
unless_only (Some e) = none_only _ refl

need_only : (ns : List Need) → AllByRecursion IsEntry ns → Only (need ns)
need_only ns all z h = subst (λ (v : Made (Unit {0})). AllByRecursion IsEntry v.needs) (some_same _ z h) all

initiating_only : (loader place : ℕ) (name : Name) (b : Bool) → AllByRecursion IsEntry (if b then [] else Entry loader name place ∷ [])
initiating_only loader place name true = tt
initiating_only loader place name false = (tt, tt)

load_only : (w : World) (d : Class → Work Kin) → ((c : Class) → Only (d c)) → (absent : Class → Error) (loader : ℕ) (name : Name) → Only (load_by w d absent loader name)
load_only w d ih absent loader name =
    only_then (ask loader name) (sought w d absent loader name) (none_only _ refl) (λ u.
    only_then (or_fail (absent (class name loader)) (home w loader name)) (found w d loader name) (or_fail_only (absent (class name loader)) (home w loader name)) (λ place.
    only_then (d (class name place)) (loaded w loader name place) (ih (class name place)) (λ k.
    only_then (need (initiating_needs loader name place)) (λ (b : Unit {0}). end_with k) (need_only (initiating_needs loader name place) (initiating_only loader place name (loader == place))) (λ b. none_only _ refl))))

above_only : (w : World) (d : Class → Work Kin) → ((c : Class) → Only (d c)) → (c : Class) (others : List Above) → Only (loads_above w d c others)
above_only w d ih c [] = none_only _ refl
above_only w d ih c (a ∷ others) =
    only_then (load_by w d NoClassDef c.loader a.name) (checked w d c a others) (load_only w d ih NoClassDef c.loader a.name) (λ k.
    only_then (unless_wrong (misfit c a.role k.class k.file)) (others_after w d c others k) (unless_only (misfit c a.role k.class k.file)) (λ b.
    only_then (loads_above w d c others) (grown k) (above_only w d ih c others) (λ ks. none_only _ refl)))

new_only : (w : World) (d : Class → Work Kin) → ((c : Class) → Only (d c)) → (c : Class) → Only (derive_new w d c)
new_only w d ih c =
    only_then (of_result (read_class w c)) (superclass_next w d c) (none_only _ refl) (λ f.
    only_then (loads_above w d c (superclass_of f)) (interfaces_next w d c f) (above_only w d ih c (superclass_of f)) (λ sup.
    only_then (loads_above w d c (superinterfaces_of f)) (finished c f sup) (above_only w d ih c (superinterfaces_of f)) (λ ints.
    only_then (need (Entry c.loader c.name c.loader ∷ [])) (λ (b : Unit {0}). end_with (record { class = c; file = f; superclass = sup; interfaces = ints })) (need_only (Entry c.loader c.name c.loader ∷ []) (tt, tt)) (λ b. none_only _ refl))))

circle_only : (c : Class) (a : Work Kin) (t : Bool) → Only a → Only (circle_or c a t)
circle_only c a true h = none_only _ refl
circle_only c a false h = h

derive_only : (w : World) (n : ℕ) (path : List Class) (c : Class) → Only (derive w n path c)
derive_only w zero path c = λ m h. absurd cc
derive_only w (suc n) path c =
    only_then (ask c.loader c.name) (λ (u : Unit {0}). circle_or c (derive_new w (derive w n (c ∷ path)) c) (is_among path c)) (none_only _ refl) (λ u.
    circle_only c (derive_new w (derive w n (c ∷ path)) c) (is_among path c) (new_only w (derive w n (c ∷ path)) (λ t. derive_only w n (c ∷ path) t) c))

pub loads_only : (w : World) (n : ℕ) (absent : Class → Error) (loader : ℕ) (name : Name) → Only (load w n absent loader name)
loads_only w n absent loader name = load_only w (derive w n []) (λ c. derive_only w n [] c) absent loader name
