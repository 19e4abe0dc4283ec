-- The methods that a class declares, and their flags.
use Rattle.std.proofs.Common.{◌≡◌, ◌<◌, ◌+◌, ℕ, Bool, true, false, not, ◌&&◌, if◌then◌else◌, Option, Some, None, List, [], ◌∷◌, ◌++◌, refl, ap, sym, subst, ◌∙◌, get_or}
use Rattle.std.specs.Prelude.{option_map, option_and_then, is_some, filter_map, take, length}
use Rattle.std.specs.List.{All, AllByRecursion}
use Rattle.cl_descriptors.proofs.Methods.{whole_method_again}
use Rattle.cl_classfile.specs.declared.entry.Entry.{Entry}
use Rattle.cl_classfile.specs.Structure.{Structure, MemberInfo, IsClassFile, owner_of}
use Rattle.cl_classfile.specs.Members.{KeepsMethod}
use Rattle.cl_classfile.specs.Files.{Name, Key, File, method_of, text_of}
use Rattle.cl_classfile.specs.Files as files
use Rattle.cl_classfile.specs.Lookups.{method_named}
use Rattle.cl_model.specs.Lineages.{if_declared, is_virtual}
use Rattle.std.proofs.lemmas.List.{take_more}
use Rattle.std.proofs.lemmas.List.Elements.{All-from_recursion, All-get_or, filter_map-append}
use Rattle.cl_preparation.specs.Methods.{IsTyped, is_public_or_protected}

typed_by : (f : Structure) (m : MemberInfo) → KeepsMethod f.pool (owner_of f) m → IsTyped f.pool m
typed_by f m k = record {
  name = k.name.text;
  descriptor = k.descriptor.text;
  named = ap text_of k.name.is_text;
  described = ap text_of k.descriptor.is_text;
  typed = ap is_some (whole_method_again k.descriptor.text k.descriptor.kind.0 k.descriptor.kind.1);
}

all_typed : (f : Structure) (ms : List MemberInfo) → AllByRecursion (KeepsMethod f.pool (owner_of f)) ms → AllByRecursion (IsTyped f.pool) ms
all_typed f [] all = tt
all_typed f (m ∷ ms) all = (typed_by f m all.0, all_typed f ms all.1)

-- each method of a class file has a name and a method descriptor
methods_typed : (f : Structure) → IsClassFile f → AllByRecursion (IsTyped f.pool) f.methods
methods_typed f is = all_typed f f.methods is.kept.methods.each

-- a test of the flags of a method, if it is declared
pub flags_tell : (o : Option files.Member) (test : ℕ → Bool) (r : Option ℕ) → r ≡ option_map (λ m. m.flags) o → (b : Bool) → (r ≡ None → b ≡ false) → ((x : ℕ) → r ≡ Some x → b ≡ test x) → b ≡ if_declared o test
flags_tell None test r e b none some = none e
flags_tell (Some m) test r e b none some = some m.flags e

-- whether a method is open, if it is declared and takes part
pub flags_opened : (o : Option files.Member) (special : Bool) (f : Option ℕ) (r : Option Bool) → f ≡ option_map (λ m. m.flags) o → (f ≡ None → r ≡ None)
    → ((x : ℕ) → f ≡ Some x → r ≡ (if not special && is_virtual x then Some (is_public_or_protected x) else None)) → r ≡ (if not special && if_declared o is_virtual then Some (if_declared o is_public_or_protected) else None)
flags_opened None true f r e none some = none e
flags_opened None false f r e none some = none e
flags_opened (Some m) special f r e none some = some m.flags e

-- where none is open that takes part, one that is there takes part and is not open
pub opened_tell : (part wide : Bool) (r : Option Bool) (b : Bool) → r ≡ (if part then Some wide else None) → (r ≡ None → b ≡ false) → ((x : Bool) → r ≡ Some x → b ≡ not x) → b ≡ (part && not wide)
opened_tell true wide r b e none some = some wide e
opened_tell false wide r b e none some = none e

pub flags_stand : (o : Option files.Member) → is_some (option_map (λ m. m.flags) o) ≡ is_some o
flags_stand None = refl
flags_stand (Some m) = refl

-- the flags of the method that the texts of a key name are those of the method with this key
pub flags_keyed : (f : File) (name descriptor : Name) (key : Key) (found : Option ℕ) → name ≡ key.name → method_of key.name descriptor ≡ Some key → found ≡ option_map (λ m. m.flags) (method_named f name descriptor)
    → found ≡ option_map (λ m. m.flags) (files.member f.methods key)
flags_keyed f name descriptor key found same is told =
    told ∙ ap (λ (n : Name). option_map (λ m. m.flags) (method_named f n descriptor)) same ∙ ap (λ (o : Option Key). option_map (λ m. m.flags) (option_and_then (files.member f.methods) o)) is

-- ---- the walk over the methods of a file

-- the member at an index has a name and a method descriptor
pub typed_at : (f : Structure) → IsClassFile f → (pool : List Entry) → pool ≡ f.pool → (ms : List MemberInfo) → ms ≡ f.methods → (i : ℕ) (m : MemberInfo) → i < length ms → m ≡ get_or ms i m → IsTyped pool m
typed_at f is pool pe ms me i m h at =
    let all : All (IsTyped f.pool) f.methods = All-from_recursion (IsTyped f.pool) f.methods (methods_typed f is) in
    let here : IsTyped f.pool (get_or f.methods i m) = All-get_or (IsTyped f.pool) f.methods i m (subst (λ (xs : List MemberInfo). i < length xs) me h) all in
    let same : get_or f.methods i m ≡ m = ap (λ (xs : List MemberInfo). get_or xs i m) (sym me) ∙ sym at in
    subst (λ (es : List Entry). IsTyped es m) (sym pe) (subst (IsTyped f.pool) same here)

-- one more of what a function gives of the items of a list
pub declared_more : {A B : Type 0} (f : A → Option B) (xs : List A) (i : ℕ) (x : A) (b : B) (done after : List B) → i < length xs → x ≡ get_or xs i x → f x ≡ Some b
    → done ≡ filter_map f (take i xs) → after ≡ done ++ b ∷ [] → after ≡ filter_map f (take (i + 1) xs)
declared_more f xs i x b done after h at given before more =
    let one : filter_map f (x ∷ []) ≡ b ∷ [] = rw given refl in
    let next : take (i + 1) xs ≡ take i xs ++ x ∷ [] = take_more xs i x h ∙ ap (λ y. take i xs ++ y ∷ []) (sym at) in
    more ∙ ap (λ ys. ys ++ b ∷ []) before ∙ ap (λ ys. filter_map f (take i xs) ++ ys) (sym one) ∙ sym (filter_map-append f (take i xs) (x ∷ [])) ∙ ap (filter_map f) (sym next)
