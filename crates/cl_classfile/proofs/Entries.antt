-- Looking at the entries of the pool one after the other.
use Rattle.std.proofs.Common.{◌≡◌, ℕ, zero, suc, ◌+◌, ◌-◌, Bor, Option, Some, None, ◌≤◌, ◌<◌, Bool, true, false, cond, List, [], ◌∷◌, length, map, drop, get_or, Result, Ok, Err, refl, sym, ap, ◌∙◌, leb, add-one, arith}
use Rattle.std.specs.List.{AllByRecursion}
use Rattle.std.proofs.lemmas.Bool.{and_parts, leb-true}
use Rattle.cl_names.specs.Text.{is_text}
use Rattle.cl_names.proofs.Texts.{text_from_test}
use Rattle.std.proofs.Math.Seq.{drop-cons}
use Rattle.std.proofs.lemmas.List.{drop-map, length-drop, length-map, nil_from_length}
use Rattle.cl_classfile.specs.declared.entry.Entry.{Entry}
use Rattle.cl_classfile.specs.declared.entry.Entry.TheVariants.{Utf8, Integer, Float, Long, Double, Unusable, Class, String, Fieldref, Methodref, InterfaceMethodref, NameAndType, MethodHandle, MethodType, InvokeDynamic}
use Rattle.cl_classfile.specs.declared.fault.Fault.{Fault}
use Rattle.cl_classfile.specs.declared.fault.Fault.TheVariants.{BadPool}
use Rattle.cl_classfile.specs.declared.raw.RawEntry.{RawEntry}
use Rattle.std.specs.Prelude.{slice_get}
use Rattle.std.specs.Option.{option_map}
use Rattle.std.specs.Slice.{IsItemAt}
use Rattle.std.proofs.lemmas.Option.{slice_get_past, slice_get_read}
use Rattle.cl_classfile.specs.Pool.{at}
use Rattle.cl_classfile.specs.Raw.{plain_entry, plain_entries, HoldsText}
use Rattle.cl_classfile.specs.Rows.{entry_traits, traits_at, keeps_entry}
use Rattle.cl_classfile.specs.declared.traits.Traits.{Traits}
use Rattle.cl_classfile.specs.Checking.{kept_entry, checked_entries}
use Rattle.cl_classfile.proofs.Codec.{bind_ok}
use Rattle.cl_names.specs.declared.kind.TheConstants.{MOST_TEXT_BYTES}

-- what a slice lends at an index, from 1 on
lent : {X : Type 0} (xs : List X) (i : ℕ) (r : Option (Bor X)) → IsItemAt xs i r → option_map (λ x. x.now) r ≡ slice_get xs i
lent xs i None h = sym (slice_get_past xs i h.3)
lent xs i (Some x) h = sym (slice_get_read xs (length xs) i x.now refl h.3.0 h.1)

from_one : {X : Type 0} (xs : List X) (i : ℕ) → (i ≡ 0 → ⊥) → slice_get xs (i - 1) ≡ at xs i
from_one xs zero h = absurd (h refl)
from_one xs (suc i) h = let k : suc i - 1 ≡ i = omega arith in ap (slice_get xs) k

pub at_lent : {X : Type 0} (xs : List X) (i : ℕ) (r : Option (Bor X)) → (i ≡ 0 → ⊥) → IsItemAt xs (i - 1) r → option_map (λ x. x.now) r ≡ at xs i
at_lent xs i r some h = lent xs (i - 1) r h ∙ from_one xs i some

-- what stands at an index of them
pub at_plain : (raws : List RawEntry) (i : ℕ) → at (plain_entries raws) i ≡ option_map plain_entry (at raws i)
at_plain raws zero = refl
at_plain [] (suc i) = refl
at_plain (r ∷ raws) (suc zero) = refl
at_plain (r ∷ raws) (suc (suc i)) = at_plain raws (suc i)

-- the entry at i, and those behind it
pub split : (raws : List RawEntry) (i : ℕ) (d : RawEntry) → i < length raws → drop i (plain_entries raws) ≡ plain_entry (get_or raws i d) ∷ drop (i + 1) (plain_entries raws)
split raws i d lt = drop-map plain_entry i raws ∙ ap plain_entries (drop-cons raws i d lt) ∙ rw (add-one, drop-map plain_entry (suc i) raws) refl

-- the entries from i on are still to be looked at
abbrev pub IsLookedAt : ℕ → List Entry → ℕ → Type 0
IsLookedAt major pool i = checked_entries major pool (i + 1) (drop i pool) ≡ checked_entries major pool 1 pool

-- whether an entry keeps its row, with the traits that were found
row : (major : ℕ) (pool : List Entry) (traits : List Traits) (i : ℕ) (e : Entry) (b : Bool) → traits ≡ map entry_traits pool → b ≡ keeps_entry major traits pool e → kept_entry major pool i e ≡ cond b (Ok e) (Err (BadPool i))
row major pool traits i e b t h = ap (λ (ts : List Traits). cond (keeps_entry major ts pool e) (Ok e) (Err (BadPool i))) (sym t) ∙ ap (λ (k : Bool). cond k (Ok e) (Err (BadPool i))) (sym h)

pub goes_on : (major : ℕ) (traits : List Traits) (raws : List RawEntry) (i : ℕ) (d : RawEntry) (b : Bool) → i < length raws → traits ≡ map entry_traits (plain_entries raws) → b ≡ keeps_entry major traits (plain_entries raws) (plain_entry (get_or raws i d)) → b ≡ true
    → IsLookedAt major (plain_entries raws) i → IsLookedAt major (plain_entries raws) (i + 1)
unfolding checked_entries
goes_on major traits raws i d b lt t h kept so_far =
    let pool = plain_entries raws in
    let kept_row : kept_entry major pool (i + 1) (plain_entry (get_or raws i d)) ≡ Ok (plain_entry (get_or raws i d)) = row major pool traits (i + 1) (plain_entry (get_or raws i d)) b t h ∙ rw kept refl in
    let one : checked_entries major pool (i + 1) (drop i pool) ≡ checked_entries major pool (i + 1 + 1) (drop (i + 1) pool) = rw (split raws i d lt, kept_row) refl in
    sym one ∙ so_far

pub ends : (major : ℕ) (traits : List Traits) (raws : List RawEntry) (i : ℕ) (d : RawEntry) (b : Bool) → i < length raws → traits ≡ map entry_traits (plain_entries raws) → b ≡ keeps_entry major traits (plain_entries raws) (plain_entry (get_or raws i d)) → b ≡ false
    → IsLookedAt major (plain_entries raws) i → checked_entries major (plain_entries raws) 1 (plain_entries raws) ≡ Err (BadPool (i + 1))
unfolding checked_entries
ends major traits raws i d b lt t h bad so_far =
    let pool = plain_entries raws in
    let bad_row : kept_entry major pool (i + 1) (plain_entry (get_or raws i d)) ≡ Err (BadPool (i + 1)) = row major pool traits (i + 1) (plain_entry (get_or raws i d)) b t h ∙ rw bad refl in
    let one : checked_entries major pool (i + 1) (drop i pool) ≡ Err (BadPool (i + 1)) = rw (split raws i d lt, bad_row) refl in
    sym so_far ∙ one

pub is_done : (major : ℕ) (raws : List RawEntry) (i : ℕ) → length raws ≤ i → IsLookedAt major (plain_entries raws) i → checked_entries major (plain_entries raws) 1 (plain_entries raws) ≡ Ok tt
unfolding checked_entries
is_done major raws i le so_far =
    let pool = plain_entries raws in
    let none : drop i pool ≡ [] = nil_from_length _ (omega (arith, length-drop i pool, length-map raws plain_entry)) in
    let one : checked_entries major pool (i + 1) (drop i pool) ≡ Ok tt = rw none refl in
    sym so_far ∙ one

-- the traits of the entry at i are its own
own_traits : (raws : List RawEntry) (i : ℕ) (d : RawEntry) → i < length raws → traits_at (map entry_traits (plain_entries raws)) (suc i) ≡ entry_traits (plain_entry (get_or raws i d))
own_traits [] i d lt = absurd (omega (arith, lt))
own_traits (r ∷ raws) zero d lt = refl
own_traits (r ∷ raws) (suc i) d lt = own_traits raws i d (omega (arith, lt))

pub its_own : (traits : List Traits) (raws : List RawEntry) (i : ℕ) (d : RawEntry) → i < length raws → traits ≡ map entry_traits (plain_entries raws) → traits_at traits (i + 1) ≡ entry_traits (plain_entry (get_or raws i d))
its_own traits raws i d lt t = rw (t, add-one) (own_traits raws i d lt)

-- what holds of each entry holds of that at i
pub each_holds : (P : Entry → Type 0) (raws : List RawEntry) (i : ℕ) (d : RawEntry) → i < length raws → AllByRecursion P (plain_entries raws) → P (plain_entry (get_or raws i d))
each_holds P [] i d lt all = absurd (omega (arith, lt))
each_holds P (r ∷ raws) zero d lt all = all.0
each_holds P (r ∷ raws) (suc i) d lt all = each_holds P raws i d (omega (arith, lt)) all.1

-- an entry that keeps its row holds a text, if it is one
text_held : (major : ℕ) (traits : List Traits) (pool : List Entry) (e : Entry) → keeps_entry major traits pool e ≡ true → HoldsText e
text_held major traits pool (Utf8 text) h = let b = and_parts (is_text text) (leb (length text) MOST_TEXT_BYTES) h in (text_from_test text b.0, leb-true _ _ b.1)
text_held major traits pool (Integer v) h = tt
text_held major traits pool (Float b) h = tt
text_held major traits pool (Long v) h = tt
text_held major traits pool (Double b) h = tt
text_held major traits pool Unusable h = tt
text_held major traits pool (Class t) h = tt
text_held major traits pool (String t) h = tt
text_held major traits pool (Fieldref c p) h = tt
text_held major traits pool (Methodref c p) h = tt
text_held major traits pool (InterfaceMethodref c p) h = tt
text_held major traits pool (NameAndType n d) h = tt
text_held major traits pool (MethodHandle k r) h = tt
text_held major traits pool (MethodType d) h = tt
text_held major traits pool (InvokeDynamic b p) h = tt

pub row_kept : (b : Bool) (e x : Entry) (i : ℕ) → cond b (Ok e) (let r : Result Entry Fault = Err (BadPool i) in r) ≡ Ok x → b ≡ true
row_kept true e x i h = refl
row_kept false e x i h = absurd cc

pub texts_held : (major : ℕ) (pool : List Entry) (i : ℕ) (es : List Entry) (u : Unit {0}) → checked_entries major pool i es ≡ Ok u → AllByRecursion HoldsText es
unfolding checked_entries
texts_held major pool i [] u h = tt
texts_held major pool i (e ∷ es) u h =
    let a = bind_ok (kept_entry major pool i e) (λ kept. checked_entries major pool (i + 1) es) u h in
    (text_held major (map entry_traits pool) pool e (row_kept (keeps_entry major (map entry_traits pool) pool e) e a.0 i a.1), texts_held major pool (i + 1) es u a.2)
