-- What a height gives, a greater one gives.
use Rattle.std.proofs.Common.{◌≡◌, ℕ, zero, suc, Bool, true, false, List, [], ◌∷◌, Option, Some, None, Result, Ok, Err, refl, sym, subst}
use Rattle.std.specs.Prelude.{option_map}
use Rattle.cl_classfile.specs.Files.{Name, File}
use Rattle.cl_model.specs.Homes.{World, home}
use Rattle.cl_model.specs.declared.class.Class.{Class}
use Rattle.cl_model.specs.Classes.{class, Error, Above, is_among, NoClassDef, ClassCircularity, read_class, misfit, superclass_of, superinterfaces_of}
use Rattle.cl_model.specs.Lineages.{Forest, Tree, Kin}
use Rattle.cl_model.specs.States.{Need, Entry}
use Rattle.cl_model.specs.Works.{Work, Made, Ask, end_with, fail, need, ask, or_fail, unless_wrong, of_result, after_made, go_on, ◌>>=◌}
use Rattle.cl_model.specs.Plans.{initiating_needs, load_by, loads_above, derive_new, derive}

-- what the first reaches, the second reaches
abbrev pub Reaches : {A : Type 0} → Work A → Work A → Type 0
Reaches {A} a b = (m : Made A) → a ≡ Some m → b ≡ Some m

map_reaches : {A B : Type 0} (f : Made A → Made B) (a b : Work A) → Reaches a b → Reaches (option_map f a) (option_map f b)
map_reaches f None b r m h = absurd cc
map_reaches f (Some x) b r m h = let e : b ≡ Some x = r x refl in subst (λ (y : Option (Made _)). option_map f y ≡ Some m) (sym e) h

go_reaches : {A B : Type 0} (ns : List Need) (asked : List Ask) (ends : Result A Error) (f g : A → Work B) → ((x : A) → Reaches (f x) (g x)) → Reaches (go_on ns asked ends f) (go_on ns asked ends g)
go_reaches ns asked (Err e) f g r m h = h
go_reaches ns asked (Ok x) f g r m h = map_reaches (after_made ns asked) (f x) (g x) (r x) m h

pub bind_reaches : {A B : Type 0} (a b : Work A) (f g : A → Work B) → Reaches a b → ((x : A) → Reaches (f x) (g x)) → Reaches (a >>= f) (b >>= g)
bind_reaches None b f g r s m h = absurd cc
bind_reaches (Some x) b f g r s m h =
    let e : b ≡ Some x = r x refl in
    subst (λ (y : Option (Made _)). (y >>= g) ≡ Some m) (sym e) (go_reaches x.needs x.asked x.ends f g s m h)

pub then_reaches : {A B : Type 0} (a : Work A) (f g : A → Work B) → ((x : A) → Reaches (f x) (g x)) → Reaches (a >>= f) (a >>= g)
then_reaches a f g s = bind_reaches a a f g (λ m h. h) s

pub first_reaches : {A B : Type 0} (a b : Work A) (f : A → Work B) → Reaches a b → Reaches (a >>= f) (b >>= f)
first_reaches a b f r = bind_reaches a b f f r (λ x m h. h)

-- what follows a derivation in a load
abbrev pub loaded : World → ℕ → Name → ℕ → Kin → Work Kin
loaded w loader name place k = need (initiating_needs loader name place) >>= λ b. end_with k

abbrev pub found : World → (Class → Work Kin) → ℕ → Name → ℕ → Work Kin
found w d loader name place = d (class name place) >>= loaded w loader name place

abbrev pub sought : World → (Class → Work Kin) → (Class → Error) → ℕ → Name → Unit {0} → Work Kin
sought w d absent loader name a = or_fail (absent (class name loader)) (home w loader name) >>= found w d loader name

pub load_reaches : (w : World) (d e : Class → Work Kin) → ((c : Class) → Reaches (d c) (e c)) → (absent : Class → Error) (loader : ℕ) (name : Name) → Reaches (load_by w d absent loader name) (load_by w e absent loader name)
load_reaches w d e r absent loader name =
    then_reaches (ask loader name) (sought w d absent loader name) (sought w e absent loader name) (λ a.
    then_reaches (or_fail (absent (class name loader)) (home w loader name)) (found w d loader name) (found w e loader name) (λ place.
    first_reaches (d (class name place)) (e (class name place)) (loaded w loader name place) (r (class name place))))

-- what follows the load of a supertype
abbrev pub grown : Kin → Forest → Work Forest
grown k ks = end_with (Tree k.class k.file k.superclass k.interfaces ks)

abbrev pub others_after : World → (Class → Work Kin) → Class → List Above → Kin → Unit {0} → Work Forest
others_after w d c others k b = loads_above w d c others >>= grown k

abbrev pub checked : World → (Class → Work Kin) → Class → Above → List Above → Kin → Work Forest
checked w d c a others k = unless_wrong (misfit c a.role k.class k.file) >>= others_after w d c others k

above_reaches : (w : World) (d e : Class → Work Kin) → ((c : Class) → Reaches (d c) (e c)) → (c : Class) (others : List Above) → Reaches (loads_above w d c others) (loads_above w e c others)
above_reaches w d e r c [] = λ m h. h
above_reaches w d e r c (a ∷ others) =
    bind_reaches (load_by w d NoClassDef c.loader a.name) (load_by w e NoClassDef c.loader a.name) (checked w d c a others) (checked w e c a others) (load_reaches w d e r NoClassDef c.loader a.name) (λ k.
    then_reaches (unless_wrong (misfit c a.role k.class k.file)) (others_after w d c others k) (others_after w e c others k) (λ b.
    first_reaches (loads_above w d c others) (loads_above w e c others) (grown k) (above_reaches w d e r c others)))

abbrev pub finished : Class → File → Forest → Forest → Work Kin
finished c f sup ints = need (Entry c.loader c.name c.loader ∷ []) >>= λ b. end_with (record { class = c; file = f; superclass = sup; interfaces = ints })

abbrev pub interfaces_next : World → (Class → Work Kin) → Class → File → Forest → Work Kin
interfaces_next w d c f sup = loads_above w d c (superinterfaces_of f) >>= finished c f sup

abbrev pub superclass_next : World → (Class → Work Kin) → Class → File → Work Kin
superclass_next w d c f = loads_above w d c (superclass_of f) >>= interfaces_next w d c f

new_reaches : (w : World) (d e : Class → Work Kin) → ((c : Class) → Reaches (d c) (e c)) → (c : Class) → Reaches (derive_new w d c) (derive_new w e c)
new_reaches w d e r c =
    then_reaches (of_result (read_class w c)) (superclass_next w d c) (superclass_next w e c) (λ f.
    bind_reaches (loads_above w d c (superclass_of f)) (loads_above w e c (superclass_of f)) (interfaces_next w d c f) (interfaces_next w e c f) (above_reaches w d e r c (superclass_of f)) (λ sup.
    first_reaches (loads_above w d c (superinterfaces_of f)) (loads_above w e c (superinterfaces_of f)) (finished c f sup) (above_reaches w d e r c (superinterfaces_of f))))

abbrev pub circle_or : Class → Work Kin → Bool → Work Kin
circle_or c a t = elim t [ true ↦ fail (ClassCircularity c) | false ↦ a ]

circle_reaches : (c : Class) (a b : Work Kin) → Reaches a b → (t : Bool) → Reaches (circle_or c a t) (circle_or c b t)
circle_reaches c a b r true = λ m h. h
circle_reaches c a b r false = r

pub derive_reaches : (w : World) (n : ℕ) (path : List Class) (c : Class) → Reaches (derive w n path c) (derive w (suc n) path c)
derive_reaches w zero path c = λ m h. absurd cc
derive_reaches w (suc n) path c =
    then_reaches (ask c.loader c.name) (λ a. circle_or c (derive_new w (derive w n (c ∷ path)) c) (is_among path c)) (λ a. circle_or c (derive_new w (derive w (suc n) (c ∷ path)) c) (is_among path c)) (λ a.
    circle_reaches c (derive_new w (derive w n (c ∷ path)) c) (derive_new w (derive w (suc n) (c ∷ path)) c) (new_reaches w (derive w n (c ∷ path)) (derive w (suc n) (c ∷ path)) (derive_reaches w n (c ∷ path)) c) (is_among path c))
