-- What derives to a lineage is good, and once its class is recorded all its needs are met.
use Rattle.std.proofs.Common.{◌≡◌, ℕ, zero, suc, Bool, true, false, List, [], ◌∷◌, ◌++◌, Some, None, Ok, sym, ap, ◌∙◌}
use Rattle.std.specs.List.{AllByRecursion}
use Rattle.cl_classfile.specs.Files.{Name, File}
use Rattle.cl_model.specs.Homes.{World, home}
use Rattle.cl_model.specs.declared.class.Class.{Class}
use Rattle.cl_model.specs.Classes.{class, Error, Above, is_among, NoClassDef, ClassCircularity, read_class, misfit, superclass_of, superinterfaces_of, HasFile, FitsAt, Good}
use Rattle.cl_model.specs.Lineages.{Forest, Tree, Kin}
use Rattle.cl_model.specs.States.{Need, Entry}
use Rattle.cl_model.specs.Works.{Work, Made, end_with, need, ask, or_fail, unless_wrong, of_result}
use Rattle.cl_model.specs.Plans.{initiating_needs, load_by, loads_above, derive_new, derive}
use Rattle.cl_model.proofs.Bind.{ok_same, bind_ok, ok_not_err, step_is, or_fail_ok, unless_ok, result_ok, done_is, needs_two}
use Rattle.cl_model.proofs.Heights.{loaded, found, sought, grown, others_after, checked, finished, interfaces_next, superclass_next, circle_or}

-- needs of a load, put together from its pieces
load_needs : (m a b c d e f x : List Need) → m ≡ a ++ b → a ≡ [] → b ≡ c ++ d → c ≡ [] → d ≡ e ++ f → f ≡ x → m ≡ e ++ x
load_needs m a b c d e f x p q r t u v = cc

-- and those of the loads of supertypes
above_needs : (m a b c d e f : List Need) → m ≡ a ++ b → b ≡ c ++ d → c ≡ [] → d ≡ e ++ f → f ≡ [] → m ≡ a ++ (e ++ [])
above_needs m a b c d e f p q r t u = cc

-- and those of a derivation
new_needs : (m a b c d e f x : List Need) → m ≡ a ++ b → a ≡ [] → b ≡ c ++ d → d ≡ e ++ f → f ≡ x → m ≡ c ++ (e ++ x)
new_needs m a b c d e f x p q r t u = cc

-- a load that ends well
pub record IsLoad (w : World) (d : Class → Work Kin) (loader : ℕ) (name : Name) (m : Made Kin) (k : Kin) : Type 0 where
  pub place : ℕ
  pub found : home w loader name ≡ Some place
  pub below : Made Kin
  pub made : d (class name place) ≡ Some below
  pub ends : below.ends ≡ Ok k
  pub needs : m.needs ≡ below.needs ++ (initiating_needs loader name place ++ [])

joined_needs : (m a b : List Need) → m ≡ a ++ b → a ≡ [] → m ≡ b
joined_needs m a b h e = cc

pub load_ok : (w : World) (d : Class → Work Kin) (absent : Class → Error) (loader : ℕ) (name : Name) (m : Made Kin) (k : Kin) → load_by w d absent loader name ≡ Some m → m.ends ≡ Ok k → IsLoad w d loader name m k
load_ok w d absent loader name m k h e =
    let asked = bind_ok (ask loader name) (sought w d absent loader name) m k h e in
    let at = bind_ok (or_fail (absent (class name loader)) (home w loader name)) (found w d loader name) asked.second k asked.next asked.ends in
    let derived = bind_ok (d (class name at.value)) (loaded w loader name at.value) at.second k at.next at.ends in
    let recorded_at = bind_ok (need (initiating_needs loader name at.value)) (λ (b : Unit {0}). end_with derived.value) derived.second k derived.next derived.ends in
    let same = done_is derived.value k recorded_at.second recorded_at.next recorded_at.ends in
    let place = or_fail_ok (absent (class name loader)) (home w loader name) at.first at.value at.made at.ended in
    let last : derived.second.needs ≡ initiating_needs loader name at.value ++ [] = needs_two derived.second.needs recorded_at.first.needs recorded_at.second.needs (initiating_needs loader name at.value) [] recorded_at.needs (step_is _ recorded_at.first recorded_at.made).0 same.1 in
    record {
      place = at.value;
      found = place.0;
      below = derived.first;
      made = derived.made;
      ends = derived.ended ∙ ap (λ (x : Kin). Ok x) same.0;
      needs = load_needs m.needs asked.first.needs asked.second.needs at.first.needs at.second.needs derived.first.needs derived.second.needs (initiating_needs loader name at.value ++ []) asked.needs (step_is _ asked.first asked.made).0 at.needs place.1 derived.needs last;
    }

-- the loads of supertypes that end well: the first, and those of the others
pub record IsAbove (w : World) (d : Class → Work Kin) (c : Class) (a : Above) (others : List Above) (m : Made Forest) (fs : Forest) : Type 0 where
  pub one : Made Kin
  pub kin : Kin
  pub load : IsLoad w d c.loader a.name one kin
  pub fits : misfit c a.role kin.class kin.file ≡ None
  pub rest : Made Forest
  pub forest : Forest
  pub made : loads_above w d c others ≡ Some rest
  pub ends : rest.ends ≡ Ok forest
  pub grows : Tree kin.class kin.file kin.superclass kin.interfaces forest ≡ fs
  pub needs : m.needs ≡ one.needs ++ (rest.needs ++ [])

pub above_ok : (w : World) (d : Class → Work Kin) (c : Class) (a : Above) (others : List Above) (m : Made Forest) (fs : Forest) → loads_above w d c (a ∷ others) ≡ Some m → m.ends ≡ Ok fs → IsAbove w d c a others m fs
above_ok w d c a others m fs h e =
    let one = bind_ok (load_by w d NoClassDef c.loader a.name) (checked w d c a others) m fs h e in
    let test = bind_ok (unless_wrong (misfit c a.role one.value.class one.value.file)) (others_after w d c others one.value) one.second fs one.next one.ends in
    let fit = unless_ok (misfit c a.role one.value.class one.value.file) test.first test.value test.made test.ended in
    let rest = bind_ok (loads_above w d c others) (grown one.value) test.second fs test.next test.ends in
    record {
      one = one.first;
      kin = one.value;
      load = load_ok w d NoClassDef c.loader a.name one.first one.value one.made one.ended;
      fits = fit.0;
      rest = rest.first;
      forest = rest.value;
      made = rest.made;
      ends = rest.ended;
      grows = ok_same (Tree one.value.class one.value.file one.value.superclass one.value.interfaces rest.value) fs rest.second.ends (step_is _ rest.second rest.next).1 rest.ends;
      needs = above_needs m.needs one.first.needs one.second.needs test.first.needs test.second.needs rest.first.needs rest.second.needs one.needs test.needs fit.1 rest.needs (step_is _ rest.second rest.next).0;
    }

-- a derivation that ends well
pub record IsNew (w : World) (d : Class → Work Kin) (c : Class) (m : Made Kin) (k : Kin) : Type 0 where
  pub file : File
  pub has_file : HasFile w c file
  pub up : Made Forest
  pub sup : Forest
  pub up_made : loads_above w d c (superclass_of file) ≡ Some up
  pub up_ends : up.ends ≡ Ok sup
  pub over : Made Forest
  pub ints : Forest
  pub over_made : loads_above w d c (superinterfaces_of file) ≡ Some over
  pub over_ends : over.ends ≡ Ok ints
  pub kin : record { class = c; file = file; superclass = sup; interfaces = ints } ≡ k
  pub needs : m.needs ≡ up.needs ++ (over.needs ++ (Entry c.loader c.name c.loader ∷ []))

pub new_ok : (w : World) (d : Class → Work Kin) (c : Class) (m : Made Kin) (k : Kin) → derive_new w d c ≡ Some m → m.ends ≡ Ok k → IsNew w d c m k
new_ok w d c m k h e =
    let read = bind_ok (of_result (read_class w c)) (superclass_next w d c) m k h e in
    let file = result_ok (read_class w c) read.first read.value read.made read.ended in
    let up = bind_ok (loads_above w d c (superclass_of read.value)) (interfaces_next w d c read.value) read.second k read.next read.ends in
    let over = bind_ok (loads_above w d c (superinterfaces_of read.value)) (finished c read.value up.value) up.second k up.next up.ends in
    let last = bind_ok (need (Entry c.loader c.name c.loader ∷ [])) (λ (b : Unit {0}). end_with (record { class = c; file = read.value; superclass = up.value; interfaces = over.value })) over.second k over.next over.ends in
    let same = done_is (record { class = c; file = read.value; superclass = up.value; interfaces = over.value }) k last.second last.next last.ends in
    let tail : over.second.needs ≡ Entry c.loader c.name c.loader ∷ [] = needs_two over.second.needs last.first.needs last.second.needs (Entry c.loader c.name c.loader ∷ []) [] last.needs (step_is _ last.first last.made).0 same.1 in
    record {
      file = read.value;
      has_file = file.0;
      up = up.first;
      sup = up.value;
      up_made = up.made;
      up_ends = up.ended;
      over = over.first;
      ints = over.value;
      over_made = over.made;
      over_ends = over.ended;
      kin = same.0;
      needs = new_needs m.needs read.first.needs read.second.needs up.first.needs up.second.needs over.first.needs over.second.needs (Entry c.loader c.name c.loader ∷ []) read.needs file.1 up.needs over.needs tail;
    }

circle_ok : (c : Class) (a : Work Kin) (t : Bool) (m : Made Kin) (k : Kin) → circle_or c a t ≡ Some m → m.ends ≡ Ok k → a ≡ Some m
circle_ok c a true m k h e = absurd (ok_not_err k (ClassCircularity c) m.ends e (step_is _ m h).1)
circle_ok c a false m k h e = h

-- a derivation within a height is a new one, over those within the height below
pub record IsStep (w : World) (d : Class → Work Kin) (c : Class) (m : Made Kin) (k : Kin) : Type 0 where
  pub inner : Made Kin
  pub new : IsNew w d c inner k
  pub needs : m.needs ≡ inner.needs

pub derive_ok : (w : World) (n : ℕ) (path : List Class) (c : Class) (m : Made Kin) (k : Kin) → derive w (suc n) path c ≡ Some m → m.ends ≡ Ok k → IsStep w (derive w n (c ∷ path)) c m k
derive_ok w n path c m k h e =
    let asked = bind_ok (ask c.loader c.name) (λ (a : Unit {0}). circle_or c (derive_new w (derive w n (c ∷ path)) c) (is_among path c)) m k h e in
    record {
      inner = asked.second;
      new = new_ok w (derive w n (c ∷ path)) c asked.second k (circle_ok c (derive_new w (derive w n (c ∷ path)) c) (is_among path c) asked.second k asked.next asked.ends) asked.ends;
      needs = joined_needs m.needs asked.first.needs asked.second.needs asked.needs ((step_is _ asked.first asked.made).0);
    }

-- ---- what derives is good

pub all_both : {A : Type 0} (P : A → Type 0) (xs ys : List A) → AllByRecursion P xs → AllByRecursion P ys → AllByRecursion P (xs ++ ys)
all_both P [] ys a b = b
all_both P (x ∷ xs) ys a b = (a.0, all_both P xs ys a.1 b)

-- what a derivation gives: the class itself, with its file
abbrev pub Yields : World → (Class → Work Kin) → (Class → Type 0) → Type 0
Yields w d P = (s : Class) (m : Made Kin) (k : Kin) → d s ≡ Some m → m.ends ≡ Ok k → P s × (k.class ≡ s) × HasFile w s k.file

pub above_good : (w : World) (d : Class → Work Kin) (P : Class → Type 0) → Yields w d P → (c : Class) (others : List Above) (m : Made Forest) (fs : Forest) → loads_above w d c others ≡ Some m → m.ends ≡ Ok fs → AllByRecursion (FitsAt w c P) others
above_good w d P y c [] m fs h e = tt
above_good w d P y c (a ∷ others) m fs h e =
    let one = above_ok w d c a others m fs h e in
    let s = y (class a.name one.load.place) one.load.below one.kin one.load.made one.load.ends in (
      record {
        place = one.load.place;
        found = one.load.found;
        holds = (s.0, record { file = one.kin.file; has_file = s.2; judged = ap (λ (x : Class). misfit c a.role x one.kin.file) (sym s.1) ∙ one.fits });
      },
      above_good w d P y c others one.rest one.forest one.made one.ends,
    )

pub derive_yields : (w : World) (n : ℕ) (path : List Class) → Yields w (derive w n path) (Good w n)
derive_yields w zero path s m k h e = absurd cc
derive_yields w (suc n) path s m k h e =
    let at = derive_ok w n path s m k h e in
    let new = at.new in
    let ih = derive_yields w n (s ∷ path) in (
      (
        new.file,
        new.has_file,
        all_both (FitsAt w s (Good w n)) (superclass_of new.file) (superinterfaces_of new.file)
            (above_good w (derive w n (s ∷ path)) (Good w n) ih s (superclass_of new.file) new.up new.sup new.up_made new.up_ends)
            (above_good w (derive w n (s ∷ path)) (Good w n) ih s (superinterfaces_of new.file) new.over new.ints new.over_made new.over_ends),
      ),
      ap (λ (x : Kin). x.class) (sym new.kin),
      new.has_file ∙ ap (λ (x : Kin). Ok x.file) new.kin,
    )
