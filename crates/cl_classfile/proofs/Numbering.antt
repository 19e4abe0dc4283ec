-- The numbers of texts, as they are asked for one after the other.
use Rattle.std.proofs.Common.{◌≡◌, ℕ, zero, suc, ◌+◌, ◌<◌, Bool, true, false, cond, List, [], ◌∷◌, ◌++◌, length, take, get_or, Option, Some, None, refl, sym, ap, subst, ◌∙◌, ◌==◌, arith, inl, inr}
use Rattle.std.specs.Prelude.{set, slice_get, unwrap_or, bytes_eq, bit_and}
use Rattle.std.specs.List.{AllByRecursion}
use Rattle.std.specs.Ordering.{is_eq}
use Rattle.std.specs.Cmp.Lexicographic.{same_text, texts_ties}
use Rattle.std.proofs.lemmas.Bool.{cases_eq, cases_lt, eqb-true, eq-eqb, false≢true}
use Rattle.std.proofs.lemmas.List.{length-set}
use Rattle.std.specs.BTreeMap.{get}
use Rattle.cl_classfile.proofs.MemberRows.{front, reflexive}
use Rattle.cl_classfile.specs.declared.entry.Entry.{Entry}
use Rattle.cl_classfile.specs.declared.numbers.Numbers.{Numbers}
use Rattle.cl_classfile.specs.Structure.{MemberInfo}
use Rattle.cl_classfile.specs.Pool.{at}
use Rattle.cl_classfile.specs.Files.{text_of, text_at}
use Rattle.cl_classfile.specs.Lookups.{is_this}
use Rattle.cl_classfile.specs.Numbers.{text_cmp, rank_of, number_in_slot, first_or, number_of, noted_at, with_number, IsNumber, NumberIsNoted, NumbersAreIndexes, AreNumbers, KeepsNumbers, PutsNumber, TakesSlot, Notes, IsMemberNoted, NotesAll}

abbrev pub Of : Type 0
Of = List ℕ → Option ℕ

-- ---- one more text

put_first : (pool : List Entry) (old new : Numbers) (t : List ℕ) (n : ℕ) → PutsNumber pool old new t n → text_at pool n ≡ Some t → NumbersAreIndexes pool (number_of pool old) → NumbersAreIndexes pool (number_of pool new)
put_first pool old new t n puts is first u m e = choose (bytes_eq t u) refl (sym (puts u) ∙ e)
  where
    choose : (b : Bool) → bytes_eq t u ≡ b → cond b (Some n) (number_of pool old u) ≡ Some m → text_at pool m ≡ Some u
    choose true same is_m = let same_number : n ≡ m = cc in ap (text_at pool) (sym same_number) ∙ is ∙ ap Some (same_text t u (sym same))
    choose false other is_m = first u m is_m

pub put_grows : (pool : List Entry) (old new : Numbers) (t : List ℕ) (n : ℕ) → PutsNumber pool old new t n → number_of pool old t ≡ None → KeepsNumbers pool old new
put_grows pool old new t n puts none u m e = puts u ∙ choose (bytes_eq t u) refl
  where
    choose : (b : Bool) → bytes_eq t u ≡ b → cond b (Some n) (number_of pool old u) ≡ Some m
    choose true same = absurd (let t_is : number_of pool old t ≡ Some m = ap (number_of pool old) (same_text t u (sym same)) ∙ e in cc)
    choose false other = e

pub put_has : (pool : List Entry) (old new : Numbers) (t : List ℕ) (n : ℕ) → PutsNumber pool old new t n → number_of pool new t ≡ Some n
put_has pool old new t n puts = puts t ∙ ap (λ (b : Bool). cond b (Some n) (number_of pool old t)) (reflexive t)

grows_number : (old new : Of) → ((u : List ℕ) (m : ℕ) → old u ≡ Some m → new u ≡ Some m) → (o : Option (List ℕ)) (n : ℕ) → IsNumber old o n → IsNumber new o n
grows_number old new grows None n h = h
grows_number old new grows (Some t) n h = grows t n h

-- a text that had no number has one
pub put_number : (pool : List Entry) (old new : Numbers) (t : List ℕ) (n : ℕ) → new.noted.items ≡ old.noted.items → PutsNumber pool old new t n → number_of pool old t ≡ None → text_at pool n ≡ Some t → AreNumbers pool old → AreNumbers pool new
put_number pool old new t n same puts none is a = record {
  first = put_first pool old new t n puts is a.first;
  known = λ i some.
      subst (λ (ns : List ℕ). IsNumber (number_of pool new) (text_at pool i) (noted_at ns i)) (sym same)
      (grows_number (number_of pool old) (number_of pool new) (put_grows pool old new t n puts none) (text_at pool i) (noted_at old.noted.items i) (a.known i (λ z. some (ap (λ (ns : List ℕ). noted_at ns i) same ∙ z))));
  all = ap length same ∙ a.all;
}

-- ---- lists

set_same : (l : List ℕ) (i n : ℕ) → i < length l → slice_get (set l i n) i ≡ Some n
set_same [] i n lt = absurd (omega (arith, lt))
set_same (x ∷ l) zero n lt = refl
set_same (x ∷ l) (suc i) n lt = set_same l i n (omega (arith, lt))

set_past : (l : List ℕ) (i n : ℕ) → (i < length l → ⊥) → slice_get (set l i n) i ≡ None
set_past [] i n past = refl
set_past (x ∷ l) zero n past = absurd (past (omega arith))
set_past (x ∷ l) (suc i) n past = set_past l i n (λ lt. past (omega (arith, lt)))

set_other : (l : List ℕ) (i j n : ℕ) → (j ≡ i → ⊥) → slice_get (set l i n) j ≡ slice_get l j
set_other [] i j n other = refl
set_other (x ∷ l) zero zero n other = absurd (other refl)
set_other (x ∷ l) zero (suc j) n other = refl
set_other (x ∷ l) (suc i) zero n other = refl
set_other (x ∷ l) (suc i) (suc j) n other = set_other l i j n (λ e. other (ap suc e))

past_end : {X : Type 0} (l : List X) (i : ℕ) → (i < length l → ⊥) → slice_get l i ≡ None
past_end [] i past = refl
past_end (x ∷ l) zero past = absurd (past (omega arith))
past_end (x ∷ l) (suc i) past = past_end l i (λ lt. past (omega (arith, lt)))

-- ---- the slots and the map

ranked_case : (pool : List Entry) (u : List ℕ) (n was : ℕ) (other : Option ℕ) (same level : Bool) → first_or pool u n other ≡ cond same (Some n) other → (same ≡ true → level ≡ true) → (level ≡ true → was ≡ 0)
    → first_or pool u (cond level n was) other ≡ cond same (Some n) (first_or pool u was other)
ranked_case pool u n was other true true stands tied gone = stands
ranked_case pool u n was other true false stands tied gone = absurd (false≢true (tied refl))
ranked_case pool u n was other false true stands tied gone = stands ∙ sym (ap (λ (o : ℕ). first_or pool u o other) (gone refl))
ranked_case pool u n was other false false stands tied gone = refl

slot_put : (slots : List ℕ) (i j n : ℕ) → i < length slots → (b : Bool) → (i == j) ≡ b → number_in_slot (set slots i n) j ≡ cond b n (number_in_slot slots j)
slot_put slots i j n lt true e = let one : i ≡ j = eqb-true i j e in subst (λ (k : ℕ). number_in_slot (set slots i n) k ≡ n) one (ap (λ (o : Option ℕ). unwrap_or o 0) (set_same slots i n lt))
slot_put slots i j n lt false e = ap (λ (o : Option ℕ). unwrap_or o 0) (set_other slots i j n (λ same. false≢true (sym e ∙ eq-eqb i j (sym same))))

-- the first text of its slot
pub put_slot : (pool : List Entry) (old new : Numbers) (t : List ℕ) (rank n : ℕ) → rank ≡ rank_of t → text_at pool n ≡ Some t → TakesSlot old.slots.items new.slots.items (bit_and rank old.mask) n
    → new.others ≡ old.others → new.mask ≡ old.mask → PutsNumber pool old new t n
put_slot pool old new t rank n rank_is is takes same mask u =
    let i = bit_and rank old.mask in
    let j = bit_and (rank_of u) old.mask in
    let was = number_in_slot old.slots.items j in
    let other = get text_cmp old.others u in
    let stands : first_or pool u n other ≡ cond (bytes_eq t u) (Some n) other = ap (λ (o : Option (List ℕ)). cond (is_this u o) (Some n) other) is in
    ap (λ m. first_or pool u (number_in_slot new.slots.items (bit_and (rank_of u) new.mask)) (get text_cmp m u)) same
    ∙ ap (λ (k : ℕ). first_or pool u (number_in_slot new.slots.items (bit_and (rank_of u) k)) other) mask
    ∙ ap (λ (slots : List ℕ). first_or pool u (number_in_slot slots j) other) takes.put
    ∙ ap (λ (m : ℕ). first_or pool u m other) (slot_put old.slots.items i j n takes.within (i == j) refl)
    ∙ ranked_case pool u n was other (bytes_eq t u) (i == j) stands
    (λ e. eq-eqb i j (ap (λ (r : ℕ). bit_and r old.mask) (rank_is ∙ ap rank_of (same_text t u (sym e)))))
    (λ e. ap (number_in_slot old.slots.items) (sym (eqb-true i j e)) ∙ takes.free)

other_case : (pool : List Entry) (u : List ℕ) (n was : ℕ) (other : Option ℕ) (same : Bool) → (same ≡ true → first_or pool u was (Some n) ≡ Some n) → first_or pool u was (cond same (Some n) other) ≡ cond same (Some n) (first_or pool u was other)
other_case pool u n was other true h = h refl
other_case pool u n was other false h = refl

-- where a text has no number, another takes the place of none
missed : (there : Bool) (m n : ℕ) (other : Option ℕ) → cond there (Some m) other ≡ None → cond there (Some m) (Some n) ≡ Some n
missed true m n other e = absurd (let some : Some m ≡ None = e in cc)
missed false m n other e = refl

-- a text whose slot another has
pub put_other : (pool : List Entry) (old new : Numbers) (t key : List ℕ) (n : ℕ) → key ≡ t → number_of pool old t ≡ None → new.slots ≡ old.slots → new.mask ≡ old.mask
    → ((q : List ℕ) → get text_cmp new.others q ≡ cond (is_eq (text_cmp key q)) (Some n) (get text_cmp old.others q)) → PutsNumber pool old new t n
put_other pool old new t key n key_is none same mask updates u =
    let was = number_in_slot old.slots.items (bit_and (rank_of u) old.mask) in
    let other = get text_cmp old.others u in
    ap (λ m. first_or pool u (number_in_slot m.items (bit_and (rank_of u) new.mask)) (get text_cmp new.others u)) same
    ∙ ap (λ (k : ℕ). first_or pool u (number_in_slot old.slots.items (bit_and (rank_of u) k)) (get text_cmp new.others u)) mask
    ∙ ap (first_or pool u was) (updates u ∙ ap (λ (b : Bool). cond b (Some n) other) (sym (texts_ties key u) ∙ ap (λ (k : List ℕ). bytes_eq k u) key_is))
    ∙ other_case pool u n was other (bytes_eq t u) (λ e. missed (is_this u (text_at pool was)) was n other (ap (number_of pool old) (sym (same_text t u (sym e))) ∙ none))

-- ---- notes

-- what is noted at an index once its number was put there
put_there : (pool : List Entry) (of : Of) (noted : List ℕ) (i n : ℕ) → length noted ≡ length pool → IsNumber of (text_at pool i) n → IsNumber of (text_at pool i) (noted_at (with_number noted i n) i)
put_there pool of noted zero n all is = refl
put_there pool of noted (suc i) n all is =
    elim (cases_lt i (length noted)) [
      | inl lt ↦ subst (λ (o : Option ℕ). IsNumber of (text_at pool (suc i)) (unwrap_or o 0)) (sym (set_same noted i n lt)) is
      | inr ge ↦
          let none : at pool (suc i) ≡ None = past_end pool i (λ lt. omega (arith, lt, ge, all)) in
          let no_text : text_at pool (suc i) ≡ None = ap text_of none in
          let zero_there : noted_at (with_number noted (suc i) n) (suc i) ≡ 0 = ap (λ (o : Option ℕ). unwrap_or o 0) (set_past noted i n (λ lt. omega (arith, lt, ge))) in
          subst (λ (o : Option (List ℕ)). IsNumber of o (noted_at (with_number noted (suc i) n) (suc i))) (sym no_text) zero_there
    ]

put_elsewhere : (noted : List ℕ) (i j n : ℕ) → (j ≡ i → ⊥) → noted_at (with_number noted i n) j ≡ noted_at noted j
put_elsewhere noted zero j n other = refl
put_elsewhere noted (suc i) zero n other = refl
put_elsewhere noted (suc i) (suc j) n other = ap (λ (o : Option ℕ). unwrap_or o 0) (set_other noted i j n (λ e. other (ap suc e)))

put_length : (noted : List ℕ) (i n : ℕ) → length (with_number noted i n) ≡ length noted
put_length noted zero n = refl
put_length noted (suc i) n = length-set noted i n

-- the text at an index was asked for
pub noted : (pool : List Entry) (old mid new : Numbers) (i n : ℕ) → AreNumbers pool mid → KeepsNumbers pool old mid → mid.noted.items ≡ old.noted.items → IsNumber (number_of pool mid) (text_at pool i) n → new.slots ≡ mid.slots → new.mask ≡ mid.mask → new.others ≡ mid.others
    → new.noted.items ≡ with_number mid.noted.items i n → Notes pool old new i
noted pool old mid new i n a grows same is slots mask others put =
    let as_before : (u : List ℕ) → number_of pool new u ≡ number_of pool mid u = λ u.
    ap (λ m. first_or pool u (number_in_slot m.items (bit_and (rank_of u) new.mask)) (get text_cmp new.others u)) slots
    ∙ ap (λ (k : ℕ). first_or pool u (number_in_slot mid.slots.items (bit_and (rank_of u) k)) (get text_cmp new.others u)) mask
    ∙ ap (λ m. first_or pool u (number_in_slot mid.slots.items (bit_and (rank_of u) mid.mask)) (get text_cmp m u)) others in
    let kept_of : (u : List ℕ) (m : ℕ) → number_of pool mid u ≡ Some m → number_of pool new u ≡ Some m = λ u m e. as_before u ∙ e in
    let of_new : (u : List ℕ) (m : ℕ) → number_of pool new u ≡ Some m → number_of pool mid u ≡ Some m = λ u m e. sym (as_before u) ∙ e in
    let there : NumberIsNoted pool new i =
    subst (λ (ns : List ℕ). IsNumber (number_of pool new) (text_at pool i) (noted_at ns i)) (sym put)
    (put_there pool (number_of pool new) mid.noted.items i n a.all (grows_number (number_of pool mid) (number_of pool new) kept_of (text_at pool i) n is)) in
    let elsewhere : (j : ℕ) → (j ≡ i → ⊥) → noted_at new.noted.items j ≡ noted_at mid.noted.items j = λ j other. ap (λ (ns : List ℕ). noted_at ns j) put ∙ put_elsewhere mid.noted.items i j n other in
    let at_other : (j : ℕ) → (j ≡ i → ⊥) → NumberIsNoted pool mid j → NumberIsNoted pool new j = λ j other h.
    subst (λ (k : ℕ). IsNumber (number_of pool new) (text_at pool j) k) (sym (elsewhere j other)) (grows_number (number_of pool mid) (number_of pool new) kept_of (text_at pool j) (noted_at mid.noted.items j) h) in
    let in_mid : (j : ℕ) → NumberIsNoted pool old j → NumberIsNoted pool mid j = λ j h.
    subst (λ (ns : List ℕ). IsNumber (number_of pool mid) (text_at pool j) (noted_at ns j)) (sym same) (grows_number (number_of pool old) (number_of pool mid) grows (text_at pool j) (noted_at old.noted.items j) h) in
    record {
      numbers = record {
        first = λ text m e. a.first text m (of_new text m e);
        known = λ j some. elim (cases_eq j i) [ inl e ↦ subst (NumberIsNoted pool new) (sym e) there | inr other ↦ at_other j other (a.known j (λ z. some (elsewhere j other ∙ z))) ];
        all = ap length put ∙ put_length mid.noted.items i n ∙ a.all;
      };
      kept = λ j h. elim (cases_eq j i) [ inl e ↦ subst (NumberIsNoted pool new) (sym e) there | inr other ↦ at_other j other (in_mid j h) ];
      noted = there;
    }

-- ---- the texts of members

all_kept : (P Q : MemberInfo → Type 0) → ((m : MemberInfo) → P m → Q m) → (ms : List MemberInfo) → AllByRecursion P ms → AllByRecursion Q ms
all_kept P Q h [] a = tt
all_kept P Q h (m ∷ ms) a = (h m a.0, all_kept P Q h ms a.1)

all_and : (P : MemberInfo → Type 0) (ms : List MemberInfo) (m : MemberInfo) → AllByRecursion P ms → P m → AllByRecursion P (ms ++ m ∷ [])
all_and P [] m a h = (h, tt)
all_and P (x ∷ ms) m a h = (a.0, all_and P ms m a.1 h)

pub members_kept : (pool : List Entry) (old new : Numbers) → ((j : ℕ) → NumberIsNoted pool old j → NumberIsNoted pool new j) → (ms : List MemberInfo) → AllByRecursion (IsMemberNoted pool old) ms → AllByRecursion (IsMemberNoted pool new) ms
members_kept pool old new kept = all_kept (IsMemberNoted pool old) (IsMemberNoted pool new) (λ m h. (kept m.name_index h.0, kept m.descriptor_index h.1))

pub one_more : (pool : List Entry) (old so_far named new : Numbers) (ms : List MemberInfo) (i : ℕ) (m : MemberInfo) → i < length ms → m ≡ get_or ms i m → NotesAll pool old so_far (take i ms)
    → Notes pool so_far named m.name_index → Notes pool named new m.descriptor_index → NotesAll pool old new (take (i + 1) ms)
one_more pool old so_far named new ms i m lt is a name descriptor =
    let kept : (j : ℕ) → NumberIsNoted pool so_far j → NumberIsNoted pool new j = λ j h. descriptor.kept j (name.kept j h) in
    record {
      kept = λ j h. kept j (a.kept j h);
      noted = record {
        numbers = descriptor.numbers;
        each =
            subst (AllByRecursion (IsMemberNoted pool new)) (sym (front ms i m lt is))
            (all_and (IsMemberNoted pool new) (take i ms) m (members_kept pool so_far new kept (take i ms) a.noted.each) (descriptor.kept m.name_index name.noted, descriptor.noted));
      };
    }

-- of no text there is a number
pub nothing : (pool : List Entry) (ns : Numbers) → ((i : ℕ) → number_in_slot ns.slots.items i ≡ 0) → ns.others.entries ≡ [] → ((i : ℕ) → noted_at ns.noted.items i ≡ 0) → length ns.noted.items ≡ length pool → AreNumbers pool ns
nothing pool ns free others zeros all = record {
  first = λ text n e. absurd (
      let other : get text_cmp ns.others text ≡ None = rw others refl in
      let no : number_of pool ns text ≡ None = ap (λ (m : ℕ). first_or pool text m (get text_cmp ns.others text)) (free (bit_and (rank_of text) ns.mask)) ∙ other in cc);
  known = λ i some. absurd (some (zeros i));
  all = all;
}

-- the texts of the member at i have numbers
pub member_noted : (pool : List Entry) (ns : Numbers) (ms : List MemberInfo) (i : ℕ) (m : MemberInfo) → i < length ms → m ≡ get_or ms i m → AllByRecursion (IsMemberNoted pool ns) ms → IsMemberNoted pool ns m
member_noted pool ns ms i m lt is all = subst (IsMemberNoted pool ns) (sym is) (at_place (IsMemberNoted pool ns) ms i m lt all)
  where
    at_place : (P : MemberInfo → Type 0) (ms : List MemberInfo) (i : ℕ) (d : MemberInfo) → i < length ms → AllByRecursion P ms → P (get_or ms i d)
    at_place P [] i d lt all = absurd (omega (arith, lt))
    at_place P (m ∷ ms) zero d lt all = all.0
    at_place P (m ∷ ms) (suc i) d lt all = at_place P ms i d (omega (arith, lt)) all.1
