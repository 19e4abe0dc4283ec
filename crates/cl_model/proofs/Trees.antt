-- What a derivation ends in is the lineage of its class, and each lineage is what its class is derived to.
use Rattle.std.proofs.Common.{◌≡◌, ℕ, zero, suc, List, [], ◌∷◌, Some, None, Ok, refl, sym, ap, subst, ◌∙◌}
use Rattle.std.specs.List.{AllByRecursion}
use Rattle.cl_classfile.specs.Files.{Name, File}
use Rattle.cl_model.specs.Homes.{World, home}
use Rattle.cl_model.specs.declared.class.Class.{Class}
use Rattle.cl_model.specs.Classes.{class, Above, superclass_of, superinterfaces_of, read_class, HasFile, Fitting, FitsAt, Good}
use Rattle.cl_model.specs.Lineages.{Forest, Bare, Tree, Kin, StandsFor, IsLineage}
use Rattle.cl_model.specs.Works.{Work, Made, end_with}
use Rattle.cl_model.specs.Plans.{loads_above, derive}
use Rattle.cl_model.specs.Machine.{HasLineage}
use Rattle.cl_model.proofs.Bind.{step_is, ok_same, value_same}
use Rattle.cl_model.proofs.Derived.{above_ok, all_both, derive_ok}
use Rattle.cl_model.proofs.Derivations.{all_map, fits_map}
use Rattle.cl_model.proofs.Circles.{above_both, good_upto}
use Rattle.cl_model.proofs.Planned.{lineage_exists}

-- ---- what is derived is a lineage

-- what a derivation below gives
abbrev Gives : World → (Class → Work Kin) → Type 0
Gives w d = (s : Class) (m : Made Kin) (k : Kin) → d s ≡ Some m → m.ends ≡ Ok k → (k.class ≡ s) × IsLineage w k

forest_is : (x y : Forest) (m : Made Forest) → end_with x ≡ Some m → m.ends ≡ Ok y → x ≡ y
forest_is x y m h k = ok_same x y m.ends (step_is _ m h).1 k

above_stands : (w : World) (d : Class → Work Kin) → Gives w d → (c : Class) (others : List Above) (m : Made Forest) (fs : Forest) → loads_above w d c others ≡ Some m → m.ends ≡ Ok fs → StandsFor w c fs others
above_stands w d y c [] m fs h e = subst (λ (x : Forest). StandsFor w c x []) (forest_is Bare fs m h e) tt
above_stands w d y c (a ∷ others) m fs h e =
    let one = above_ok w d c a others m fs h e in
    let s = y (class a.name one.load.place) one.load.below one.kin one.load.made one.load.ends in
    let k = one.kin in
    subst (λ (x : Forest). StandsFor w c x (a ∷ others)) one.grows (
      record {
        named = ap (λ (x : Class). x.name) s.0;
        found = one.load.found ∙ ap (λ (x : Class). Some x.loader) (sym s.0);
        has_file = s.1.has_file;
        fits = one.fits;
      },
      s.1.above,
      s.1.over,
      above_stands w d y c others one.rest one.forest one.made one.ends,
    )

pub derive_gives : (w : World) (n : ℕ) (path : List Class) → Gives w (derive w n path)
derive_gives w zero path s m k h e = absurd cc
derive_gives w (suc n) path s m k h e =
    let new = (derive_ok w n path s m k h e).new in
    let ih = derive_gives w n (s ∷ path) in (
      ap (λ (x : Kin). x.class) (sym new.kin),
      subst (λ (x : Kin). IsLineage w x) new.kin (record {
        has_file = new.has_file;
        above = above_stands w (derive w n (s ∷ path)) ih s (superclass_of new.file) new.up new.sup new.up_made new.up_ends;
        over = above_stands w (derive w n (s ∷ path)) ih s (superinterfaces_of new.file) new.over new.ints new.over_made new.over_ends;
      }),
    )

pub lineage_of : (w : World) (c : Class) (k : Kin) → HasLineage w c k → (k.class ≡ c) × IsLineage w k
lineage_of w c k h = derive_gives w h.height [] c h.made k h.derived h.ends

-- ---- a lineage is derived

-- at some height all of these supertypes are good and fit
abbrev FitsSome : World → Class → List Above → Type 0
FitsSome w c others = (n : ℕ) × AllByRecursion (FitsAt w c (Good w n)) others

raise_all : (w : World) (c : Class) (h n : ℕ) (others : List Above) → ((s : Class) → Good w h s → Good w n s) → AllByRecursion (FitsAt w c (Good w h)) others → AllByRecursion (FitsAt w c (Good w n)) others
raise_all w c h n others f all = all_map (FitsAt w c (Good w h)) (FitsAt w c (Good w n)) (fits_map w c (Good w h) (Good w n) f) others all

good_of : (w : World) (c : Class) (f : File) → HasFile w c f → FitsSome w c (superclass_of f) → FitsSome w c (superinterfaces_of f) → (n : ℕ) × Good w n c
good_of w c f hf up over =
    let both = above_both up.0 over.0 in (
      suc both.top,
      (
        f,
        hf,
        all_both (FitsAt w c (Good w both.top)) (superclass_of f) (superinterfaces_of f)
            (raise_all w c up.0 both.top (superclass_of f) (λ s g. good_upto w s up.0 both.top both.one g) up.1)
            (raise_all w c over.0 both.top (superinterfaces_of f) (λ s g. good_upto w s over.0 both.top both.other g) over.1),
      ),
    )

stands_good : (w : World) (c : Class) (fs : Forest) (others : List Above) → StandsFor w c fs others → FitsSome w c others
stands_good w c Bare [] h = (zero, tt)
stands_good w c Bare (a ∷ more) h = absurd h
stands_good w c (Tree s f sup ints others) [] h = absurd h
stands_good w c (Tree s f sup ints others) (a ∷ more) h =
    let good = good_of w s f h.0.has_file (stands_good w s sup (superclass_of f) h.1) (stands_good w s ints (superinterfaces_of f) h.2) in
    let rest = stands_good w c others more h.3 in
    let both = above_both good.0 rest.0 in
    let same : s ≡ class a.name s.loader = ap (λ (x : Name). class x s.loader) h.0.named in (
      both.top,
      (
        record {
          place = s.loader;
          found = h.0.found;
          holds = subst (λ (x : Class). Good w both.top x × Fitting w c a.role None x) same (good_upto w s good.0 both.top both.one good.1, record { file = f; has_file = h.0.has_file; judged = h.0.fits });
        },
        raise_all w c rest.0 both.top more (λ t g. good_upto w t rest.0 both.top both.other g) rest.1,
      ),
    )

tree_same : (s t : Class) (f g : File) (a b c d e h : Forest) → s ≡ t → f ≡ g → a ≡ b → c ≡ d → e ≡ h → Tree s f a c e ≡ Tree t g b d h
tree_same s t f g a b c d e h p q r u v = cc

-- two lists that stand for the same supertypes are the same
stands_same : (w : World) (c : Class) (fs gs : Forest) (others : List Above) → StandsFor w c fs others → StandsFor w c gs others → fs ≡ gs
stands_same w c Bare Bare others h k = refl
stands_same w c Bare (Tree t g a b e) [] h k = absurd k
stands_same w c Bare (Tree t g a b e) (x ∷ more) h k = absurd h
stands_same w c (Tree s f sup ints rest) Bare [] h k = absurd h
stands_same w c (Tree s f sup ints rest) Bare (x ∷ more) h k = absurd k
stands_same w c (Tree s f sup ints rest) (Tree t g a b e) [] h k = absurd h
stands_same w c (Tree s f sup ints rest) (Tree t g a b e) (x ∷ more) h k =
    let same : t ≡ s = class_same t s (k.0.named ∙ sym h.0.named) (value_same t.loader s.loader (home w c.loader x.name) k.0.found h.0.found) in
    let file : g ≡ f = ok_same g f (read_class w s) (subst (λ (y : Class). HasFile w y g) same k.0.has_file) h.0.has_file in
    tree_same s t f g sup a ints b rest e (sym same) (sym file)
    (stands_same w s sup a (superclass_of f) h.1 (subst (λ (y : File). StandsFor w s a (superclass_of y)) file (subst (λ (y : Class). StandsFor w y a (superclass_of g)) same k.1)))
    (stands_same w s ints b (superinterfaces_of f) h.2 (subst (λ (y : File). StandsFor w s b (superinterfaces_of y)) file (subst (λ (y : Class). StandsFor w y b (superinterfaces_of g)) same k.2)))
    (stands_same w c rest e more h.3 k.3)
  where
    class_same : (x y : Class) → x.name ≡ y.name → x.loader ≡ y.loader → x ≡ y
    class_same x y p q = ap (λ (n : Name). class n x.loader) p ∙ ap (λ (l : ℕ). class y.name l) q

kin_same : (k l : Kin) → k.class ≡ l.class → k.file ≡ l.file → k.superclass ≡ l.superclass → k.interfaces ≡ l.interfaces → k ≡ l
kin_same k l p q r u =
    ap (λ (x : Class). record { class = x; file = k.file; superclass = k.superclass; interfaces = k.interfaces }) p
    ∙ ap (λ (x : File). record { class = l.class; file = x; superclass = k.superclass; interfaces = k.interfaces }) q
    ∙ ap (λ (x : Forest). record { class = l.class; file = l.file; superclass = x; interfaces = k.interfaces }) r
    ∙ ap (λ (x : Forest). record { class = l.class; file = l.file; superclass = l.superclass; interfaces = x }) u

lineage_same : (w : World) (k l : Kin) → k.class ≡ l.class → IsLineage w k → IsLineage w l → k ≡ l
lineage_same w k l same h i =
    let file : k.file ≡ l.file = ok_same k.file l.file (read_class w l.class) (subst (λ (y : Class). HasFile w y k.file) same h.has_file) i.has_file in
    kin_same k l same file
    (stands_same w l.class k.superclass l.superclass (superclass_of l.file) (subst (λ (y : File). StandsFor w l.class k.superclass (superclass_of y)) file (subst (λ (y : Class). StandsFor w y k.superclass (superclass_of k.file)) same h.above)) i.above)
    (stands_same w l.class k.interfaces l.interfaces (superinterfaces_of l.file) (subst (λ (y : File). StandsFor w l.class k.interfaces (superinterfaces_of y)) file (subst (λ (y : Class). StandsFor w y k.interfaces (superinterfaces_of k.file)) same h.over)) i.over)

pub lineage_good : (w : World) (k : Kin) → IsLineage w k → (n : ℕ) × Good w n k.class
lineage_good w k h = good_of w k.class k.file h.has_file (stands_good w k.class k.superclass (superclass_of k.file) h.above) (stands_good w k.class k.interfaces (superinterfaces_of k.file) h.over)

pub lineage_is_derived : (w : World) (k : Kin) → IsLineage w k → HasLineage w k.class k
lineage_is_derived w k h =
    let good = lineage_good w k h in
    let l = lineage_exists w good.0 k.class good.1 in
    let is = lineage_of w k.class l.0 l.1 in
    subst (λ (x : Kin). HasLineage w k.class x) (lineage_same w l.0 k is.0 is.1 h) l.1
