-- Which interfaces one text names, as they are met one after the other.
use Rattle.std.proofs.Common.{get_or, ◌≡◌, ℕ, zero, suc, ◌+◌, ◌<◌, ◌≤◌, List, [], ◌∷◌, ◌++◌, length, replicate, Option, Some, None, refl, sym, ap, subst, ◌∙◌, arith, inl, inr}
use Rattle.std.specs.Prelude.{◌⊎◌, option_and_then, slice_get}
use Rattle.cl_classfile.specs.declared.entry.Entry.{Entry}
use Rattle.cl_classfile.specs.declared.entry.Entry.TheVariants.{Class}
use Rattle.cl_classfile.specs.Pool.{at}
use Rattle.cl_classfile.specs.Files.{class_name, no_array, text_at, type_of}
use Rattle.cl_classfile.specs.Mentions.{AreMentions, AreMet, MarksOne, MetAt, named_at, naming_text, text_of_interface}

type_by_text : (pool : List Entry) (o : Option Entry) (text : ℕ) → naming_text o ≡ suc text → type_of pool o ≡ text_at pool (suc text)
type_by_text pool (Some (Class index)) text h = ap (text_at pool) h
type_by_text pool _ text h = absurd cc

name_by_text : (pool : List Entry) (o : Option ℕ) (text : ℕ) → text_of_interface pool o ≡ suc text → option_and_then (class_name pool) o ≡ option_and_then no_array (text_at pool (suc text))
name_by_text pool None text h = absurd cc
name_by_text pool (Some index) text h = ap (option_and_then no_array) (type_by_text pool (at pool index) text h)

-- interfaces that one text names have one name
same_name : (pool : List Entry) (interfaces : List ℕ) (one other text : ℕ) → text_of_interface pool (slice_get interfaces one) ≡ text + 1 → text_of_interface pool (slice_get interfaces other) ≡ text + 1 → named_at pool interfaces one ≡ named_at pool interfaces other
same_name pool interfaces one other text e f =
    let next : text + 1 ≡ suc text = omega arith in
    name_by_text pool (slice_get interfaces one) text (e ∙ next) ∙ sym (name_by_text pool (slice_get interfaces other) text (f ∙ next))

pub text_there : (pool : List Entry) (interfaces : List ℕ) (place text : ℕ) → place < length interfaces → text ≡ naming_text (at pool (get_or interfaces place 0)) → text_of_interface pool (slice_get interfaces place) ≡ text
text_there pool [] place text less is = absurd (omega (arith, less))
text_there pool (i ∷ interfaces) zero text less is = sym is
text_there pool (i ∷ interfaces) (suc place) text less is = text_there pool interfaces place text (omega (arith, less)) is

-- at first no text is marked
pub none_met : (pool : List Entry) (interfaces : List ℕ) (count : ℕ) → AreMet pool interfaces 0 (replicate count 0)
none_met pool interfaces count text place h = absurd (none count text h)
  where
    none : (count text : ℕ) → slice_get (replicate count 0) text ≡ Some (place + 1) → ⊥
    none zero text h = absurd cc
    none (suc count) zero h = let k : 0 ≡ place + 1 = cc in omega (arith, k)
    none (suc count) (suc text) h = none count text h

-- one text more is met
pub met_more : (pool : List Entry) (interfaces marks more : List ℕ) (text place : ℕ) → AreMet pool interfaces place marks → MarksOne marks more text place → text_of_interface pool (slice_get interfaces place) ≡ text → AreMet pool interfaces (place + 1) more
met_more pool interfaces marks more text place are one is behind met h = by (one behind met h)
  where
    by : (slice_get marks behind ≡ Some (met + 1)) ⊎ ((text ≡ behind + 1) × (met ≡ place)) → (met < place + 1) × (text_of_interface pool (slice_get interfaces met) ≡ behind + 1)
    by (inl old) = let k = are behind met old in let less = k.0 in (omega arith, k.1)
    by (inr new) = let now = new.1 in (omega arith, ap (λ (p : ℕ). text_of_interface pool (slice_get interfaces p)) now ∙ is ∙ new.0)

at_push : {A : Type 0} (xs : List A) (x y : A) (i : ℕ) → slice_get (xs ++ x ∷ []) i ≡ Some y → (slice_get xs i ≡ Some y) ⊎ ((i ≡ length xs) × (y ≡ x))
at_push [] x y zero h = inr (refl, cc)
at_push [] x y (suc i) h = absurd cc
at_push (z ∷ xs) x y zero h = inl h
at_push (z ∷ xs) x y (suc i) h = further (at_push xs x y i h)
  where
    further : (slice_get xs i ≡ Some y) ⊎ ((i ≡ length xs) × (y ≡ x)) → (slice_get xs i ≡ Some y) ⊎ ((suc i ≡ suc (length xs)) × (y ≡ x))
    further (inl old) = inl old
    further (inr new) = inr (ap suc new.0, new.1)

-- the first place of one mention more
pub first_more : (pool : List Entry) (interfaces firsts marks : List ℕ) (text first : ℕ) → AreMentions pool interfaces firsts → AreMet pool interfaces (length firsts) marks → MetAt marks text (length firsts) first → text_of_interface pool (slice_get interfaces (length firsts)) ≡ text → AreMentions pool interfaces (firsts ++ first ∷ [])
first_more pool interfaces firsts marks text first are met found is place f h = by (at_push firsts first f place h)
  where
    here : MetAt marks text (length firsts) first → (first ≤ length firsts) × (named_at pool interfaces first ≡ named_at pool interfaces (length firsts))
    here (inl own) = (omega (arith, own), ap (named_at pool interfaces) own)
    here (inr old) =
        let before = met old.0 first old.2 in
        let less = before.0 in
        (omega arith, same_name pool interfaces first (length firsts) old.0 before.1 (is ∙ old.1))

    by : (slice_get firsts place ≡ Some f) ⊎ ((place ≡ length firsts) × (f ≡ first)) → (f ≤ place) × (named_at pool interfaces f ≡ named_at pool interfaces place)
    by (inl old) = are place f old
    by (inr new) =
        subst (λ (p : ℕ). (f ≤ p) × (named_at pool interfaces f ≡ named_at pool interfaces p)) (sym new.0)
        (subst (λ (z : ℕ). (z ≤ length firsts) × (named_at pool interfaces z ≡ named_at pool interfaces (length firsts))) (sym new.1) (here found))

-- the same of equal pools and interfaces
pub mentions_alike : (pool same : List Entry) (interfaces alike firsts : List ℕ) → pool ≡ same → interfaces ≡ alike → AreMentions pool interfaces firsts → AreMentions same alike firsts
mentions_alike pool same interfaces alike firsts p i are = subst (λ (es : List Entry). AreMentions es alike firsts) p (subst (λ (is : List ℕ). AreMentions pool is firsts) i are)
