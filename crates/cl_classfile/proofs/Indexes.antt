-- The member to which an index leads is the one of its name and its descriptor.
use Rattle.std.proofs.Common.{◌≡◌, ◌⊎◌, ℕ, zero, suc, ◌+◌, ◌≤◌, ◌<◌, Bool, true, false, cond, ◌&&◌, ◌==◌, List, [], ◌∷◌, ◌++◌, length, Option, Some, None, refl, sym, ap, subst, ◌∙◌, arith, inl, inr}
use Rattle.std.specs.Prelude.{find, slice_get, IsSome, option_and_then, bytes_eq}
use Rattle.std.specs.List.{AllByRecursion}
use Rattle.std.specs.Ordering.{is_eq, nat_cmp}
use Rattle.std.specs.Cmp.{both_tied, unsigned_ties}
use Rattle.std.specs.Cmp.Lexicographic.{same_text}
use Rattle.std.proofs.lemmas.Bool.{eqb-true, eq-eqb, cases_lt}
use Rattle.std.proofs.lemmas.Option.{slice_get_within}
use Rattle.cl_classfile.specs.declared.entry.Entry.{Entry}
use Rattle.cl_classfile.specs.declared.numbers.Numbers.{Numbers}
use Rattle.cl_classfile.specs.declared.index.Places.{Places}
use Rattle.cl_classfile.specs.Structure.{MemberInfo}
use Rattle.cl_classfile.specs.Members.{AreNew, SameMember, SameText}
use Rattle.cl_classfile.specs.Pool.{at, IsText}
use Rattle.cl_classfile.specs.Files.{text_at}
use Rattle.cl_classfile.specs.Lookups.{is_this, has_texts}
use Rattle.cl_classfile.specs.Numbers.{IsNumber, NumbersAreIndexes, IsMemberNoted, number_of}
use Rattle.cl_classfile.specs.Seen.{pair_cmp}
use Rattle.cl_classfile.specs.Indexes.{Lead, PutsPlace, StandThere, StandTo, StandsAt, led_to, member_in, number_pair, place_of}
use Rattle.cl_classfile.proofs.Codec.{both}
use Rattle.cl_classfile.proofs.MemberRows.{named_text, reflexive}

-- ---- lists

never : (b : Bool) → (b ≡ true → ⊥) → b ≡ false
never true h = absurd (h refl)
never false h = refl

find_none : {A : Type 0} (test : A → Bool) (xs : List A) → ((i : ℕ) (x : A) → slice_get xs i ≡ Some x → test x ≡ false) → find test xs ≡ None
find_none test [] h = refl
find_none test (x ∷ xs) h = rw (h 0 x refl) (find_none test xs (λ i. h (suc i)))

all_at : (P : MemberInfo → Type 0) (xs : List MemberInfo) (i : ℕ) (m : MemberInfo) → slice_get xs i ≡ Some m → AllByRecursion P xs → P m
all_at P [] i m e all = absurd cc
all_at P (x ∷ xs) zero m e all = let same : x ≡ m = cc in subst P same all.0
all_at P (x ∷ xs) (suc i) m e all = all_at P xs i m e all.1

abbrev Among : MemberInfo → List MemberInfo → Type 0
Among m [] = ⊥
Among m (x ∷ xs) = (x ≡ m) ⊎ Among m xs

among_last : (xs : List MemberInfo) (m : MemberInfo) → Among m (xs ++ m ∷ [])
among_last [] m = inl refl
among_last (x ∷ xs) m = inr (among_last xs m)

among_more : (xs : List MemberInfo) (m e : MemberInfo) → Among e xs → Among e (xs ++ m ∷ [])
among_more [] m e h = absurd h
among_more (x ∷ xs) m e (inl h) = inl h
among_more (x ∷ xs) m e (inr h) = inr (among_more xs m e h)

all_among : (P : MemberInfo → Type 0) (xs : List MemberInfo) (e : MemberInfo) → AllByRecursion P xs → Among e xs → P e
all_among P [] e all h = absurd h
all_among P (x ∷ xs) e all (inl h) = subst P h all.0
all_among P (x ∷ xs) e all (inr h) = all_among P xs e all.1 h

-- a member agrees with none of those behind it
apart : (pool : List Entry) (before ms : List MemberInfo) (e : MemberInfo) (i : ℕ) (m : MemberInfo) → AreNew pool before ms → Among e before → slice_get ms i ≡ Some m → SameMember pool e m → ⊥
apart pool before [] e i m new among stands same = absurd cc
apart pool before (x ∷ ms) e zero m new among stands same =
    let is : m ≡ x = cc in
    all_among (λ y. SameMember pool y x → ⊥) before e new.0 among (subst (SameMember pool e) is same)
apart pool before (x ∷ ms) e (suc i) m new among stands same = apart pool (before ++ x ∷ []) ms e i m new.1 (among_more before x e among) stands same

-- where members that pass agree, the one that passes is found
find_at : (pool : List Entry) (test : MemberInfo → Bool) → ((a b : MemberInfo) → test a ≡ true → test b ≡ true → SameMember pool a b) → (before ms : List MemberInfo) (i : ℕ) (m : MemberInfo)
    → AreNew pool before ms → slice_get ms i ≡ Some m → test m ≡ true → find test ms ≡ Some m
find_at pool test agree before [] i m new stands is = absurd cc
find_at pool test agree before (x ∷ ms) zero m new stands is =
    let same : x ≡ m = cc in
    let passes : test x ≡ true = ap test same ∙ is in
    rw passes (ap Some same)
find_at pool test agree before (x ∷ ms) (suc i) m new stands is = either (test x) refl (find_at pool test agree (before ++ x ∷ []) ms i m new.1 stands is)
  where
    either : (b : Bool) → test x ≡ b → find test ms ≡ Some m → find test (x ∷ ms) ≡ Some m
    either true e others = absurd (apart pool (before ++ x ∷ []) ms x i m new.1 (among_last before x) stands (agree x m e is))
    either false e others = rw e others

-- ---- pairs of numbers

pair_ties : (a b : ℕ × ℕ) → (a.0 == b.0) && (a.1 == b.1) ≡ is_eq (pair_cmp a b)
pair_ties a b = both_tied (a.0 == b.0) (a.1 == b.1) (nat_cmp a.0 b.0) (nat_cmp a.1 b.1) (unsigned_ties a.0 b.0) (unsigned_ties a.1 b.1)

pub pairs : (n m d e : ℕ) → n ≡ m → d ≡ e → (let p : ℕ × ℕ = (n, d) in p) ≡ (m, e)
pairs n m d e f g = cc

pair_same : (a b : ℕ × ℕ) → is_eq (pair_cmp a b) ≡ true → a ≡ b
pair_same a b e =
    let s = both (a.0 == b.0) (a.1 == b.1) (pair_ties a b ∙ e) in
    pairs a.0 b.0 a.1 b.1 (eqb-true a.0 b.0 s.0) (eqb-true a.1 b.1 s.1)

pair_itself : (a b : ℕ × ℕ) → a ≡ b → is_eq (pair_cmp a b) ≡ true
pair_itself a b e =
    let first : (a.0 == b.0) ≡ true = eq-eqb a.0 b.0 (ap (λ (p : ℕ × ℕ). p.0) e) in
    let second : (a.1 == b.1) ≡ true = eq-eqb a.1 b.1 (ap (λ (p : ℕ × ℕ). p.1) e) in
    sym (pair_ties a b) ∙ rw (first, second) refl

-- ---- places, as members are put in

pub starts : (ns : Numbers) (ps : Places) (ms : List MemberInfo) → ps.map.entries ≡ [] → StandTo ns ps ms 0
starts ns ps ms e = record {
  each = λ pair i is. absurd (let none : place_of ps pair ≡ None = rw e refl in cc);
  all = λ i m lt stands. absurd (omega (arith, lt));
}

module _ (ns : Numbers) (old new : Places) (ms : List MemberInfo) (i : ℕ) (m : MemberInfo) (there : slice_get ms i ≡ Some m) (pair : ℕ × ℕ) (is : number_pair ns m ≡ pair) (puts : PutsPlace old new pair i) (so_far : StandTo ns old ms i) where
  each_one : (q : ℕ × ℕ) (j : ℕ) (b : Bool) → is_eq (pair_cmp pair q) ≡ b → cond b (Some i) (place_of old q) ≡ Some j → StandsAt ns ms q j
  each_one q j true e place =
      let here : i ≡ j = cc in
      record { member = m; stands = subst (λ (n : ℕ). slice_get ms n ≡ Some m) here there; pair_is = is ∙ pair_same pair q e }
  each_one q j false e place = so_far.each q j place

  earlier : (j : ℕ) (x : MemberInfo) → j < i + 1 → slice_get ms j ≡ Some x → is_eq (pair_cmp pair (number_pair ns x)) ≡ false → j < i
  earlier j x lt stands other =
      elim (cases_lt j i) [
        | inl less ↦ less
        | inr ge ↦
            let same : i ≡ j = omega (arith, lt, ge) in
            let one : m ≡ x = (let e : slice_get ms j ≡ Some m = subst (λ (n : ℕ). slice_get ms n ≡ Some m) same there in cc) in
            let tie : is_eq (pair_cmp pair (number_pair ns x)) ≡ true = pair_itself pair (number_pair ns x) (sym is ∙ ap (number_pair ns) one) in
            absurd cc
      ]

  has_one : (q : ℕ × ℕ) (b : Bool) → (b ≡ false → IsSome (place_of old q)) → IsSome (cond b (Some i) (place_of old q))
  has_one q true h = refl
  has_one q false h = h refl

  pub one_more : StandTo ns new ms (i + 1)
  one_more = record {
    each = λ q j place. each_one q j (is_eq (pair_cmp pair q)) refl (sym (puts q) ∙ place);
    all = λ j x lt stands.
        subst IsSome (sym (puts (number_pair ns x)))
        (has_one (number_pair ns x) (is_eq (pair_cmp pair (number_pair ns x))) (λ other. so_far.all j x (earlier j x lt stands other) stands));
  }

pub is_done : (ns : Numbers) (ps : Places) (ms : List MemberInfo) (end : ℕ) → length ms ≤ end → StandTo ns ps ms end → StandThere ns ps ms
is_done ns ps ms end le to = record {
  each = to.each;
  all = λ i m within stands. to.all i m (omega (arith, within, le)) stands;
}

-- ---- texts and their numbers

one_text : (o : Option (List ℕ)) (t u : List ℕ) → o ≡ Some t → o ≡ Some u → t ≡ u
one_text o t u e f = cc

some_number : (o : Option ℕ) (n m : ℕ) → o ≡ Some n → o ≡ Some m → n ≡ m
some_number o n m e f = cc

no_number : (o : Option ℕ) (n : ℕ) → o ≡ None → o ≡ Some n → ⊥
no_number o n e f = absurd cc

none_there : (o : Option ℕ) → o ≡ None → IsSome o → ⊥
none_there None e h = absurd cc
none_there (Some n) e h = absurd cc

-- a text that is there is this one, which has its number
text_says : (of : List ℕ → Option ℕ) (text : List ℕ) (o : Option (List ℕ)) (n : ℕ) → IsNumber of o n → is_this text o ≡ true → of text ≡ Some n
text_says of text None n h is = absurd cc
text_says of text (Some t) n h is = ap of (sym (same_text t text (sym is))) ∙ h

text_told : (pool : List Entry) (of : List ℕ → Option ℕ) → NumbersAreIndexes pool of → (text : List ℕ) (o : Option (List ℕ)) (n : ℕ) → IsNumber of o n → of text ≡ Some n → is_this text o ≡ true
text_told pool of first text None n h e = absurd (let none : text_at pool 0 ≡ Some text = first text 0 (e ∙ ap Some h) in cc)
text_told pool of first text (Some t) n h e =
    let same : text ≡ t = one_text (text_at pool n) text t (first text n e) (first t n h) in
    ap (λ (u : List ℕ). bytes_eq t u) same ∙ reflexive t

-- the text that stands at an index is this one
stands_there : (pool : List Entry) (text : List ℕ) (i : ℕ) (o : Option (List ℕ)) → text_at pool i ≡ o → is_this text o ≡ true → IsText pool i text
stands_there pool text i None e is = absurd cc
stands_there pool text i (Some t) e is = named_text (at pool i) text (e ∙ ap Some (same_text t text (sym is)))

same_texts : (pool : List Entry) (text : List ℕ) (i j : ℕ) → is_this text (text_at pool i) ≡ true → is_this text (text_at pool j) ≡ true → SameText pool i j
same_texts pool text i j e f = record {
  text = text;
  first = stands_there pool text i (text_at pool i) refl e;
  second = stands_there pool text j (text_at pool j) refl f;
}

-- members of the same texts agree
agree : (pool : List Entry) (name descriptor : List ℕ) (a b : MemberInfo) → has_texts pool name descriptor a ≡ true → has_texts pool name descriptor b ≡ true → SameMember pool a b
agree pool name descriptor a b e f =
    let one = both (is_this descriptor (text_at pool a.descriptor_index)) (is_this name (text_at pool a.name_index)) e in
    let other = both (is_this descriptor (text_at pool b.descriptor_index)) (is_this name (text_at pool b.name_index)) f in
    record {
      name = same_texts pool name a.name_index b.name_index one.1 other.1;
      descriptor = same_texts pool descriptor a.descriptor_index b.descriptor_index one.0 other.0;
    }

-- ---- the member to which the numbers lead

module _ (pool : List Entry) (ns : Numbers) (ps : Places) (ms : List MemberInfo) (lead : Lead pool ns ps ms) (new : AreNew pool [] ms) (name descriptor : List ℕ) where
  abbrev test : MemberInfo → Bool
  test m = has_texts pool name descriptor m

  record HasNumbers (m : MemberInfo) : Type 0 where
    named : number_of pool ns name ≡ Some (number_pair ns m).0
    described : number_of pool ns descriptor ≡ Some (number_pair ns m).1

  noted : (i : ℕ) (m : MemberInfo) → slice_get ms i ≡ Some m → IsMemberNoted pool ns m
  noted i m stands = all_at (IsMemberNoted pool ns) ms i m stands lead.noted.each

  numbers_say : (i : ℕ) (m : MemberInfo) → slice_get ms i ≡ Some m → test m ≡ true → HasNumbers m
  numbers_say i m stands is =
      let b = both (is_this descriptor (text_at pool m.descriptor_index)) (is_this name (text_at pool m.name_index)) is in
      let n = noted i m stands in
      record {
        named = text_says (number_of pool ns) name (text_at pool m.name_index) (number_pair ns m).0 n.0 b.1;
        described = text_says (number_of pool ns) descriptor (text_at pool m.descriptor_index) (number_pair ns m).1 n.1 b.0;
      }

  numbers_told : (i : ℕ) (m : MemberInfo) → slice_get ms i ≡ Some m → number_of pool ns name ≡ Some (number_pair ns m).0 → number_of pool ns descriptor ≡ Some (number_pair ns m).1 → test m ≡ true
  numbers_told i m stands e f =
      let n = noted i m stands in
      let first = lead.noted.numbers.first in
      let by_name : is_this name (text_at pool m.name_index) ≡ true = text_told pool (number_of pool ns) first name (text_at pool m.name_index) (number_pair ns m).0 n.0 e in
      let by_descriptor : is_this descriptor (text_at pool m.descriptor_index) ≡ true = text_told pool (number_of pool ns) first descriptor (text_at pool m.descriptor_index) (number_pair ns m).1 n.1 f in
      rw (by_descriptor, by_name) refl

  place_case : (n d : ℕ) → number_of pool ns name ≡ Some n → number_of pool ns descriptor ≡ Some d → (o : Option ℕ) → place_of ps (n, d) ≡ o → option_and_then (slice_get ms) o ≡ find test ms
  place_case n d e f None g =
      sym (find_none test ms (λ i m stands. never (test m) (λ is.
      let s = numbers_say i m stands is in
      let pair : number_pair ns m ≡ (n, d) = pairs (number_pair ns m).0 n (number_pair ns m).1 d (some_number (number_of pool ns name) (number_pair ns m).0 n s.named e) (some_number (number_of pool ns descriptor) (number_pair ns m).1 d s.described f) in
      none_there (place_of ps (n, d)) g (subst (λ (p : ℕ × ℕ). IsSome (place_of ps p)) pair (lead.stand.all i m (slice_get_within ms i m stands) stands)))))
  place_case n d e f (Some i) g =
      let s = lead.stand.each (n, d) i g in
      let is = numbers_told i s.member s.stands (e ∙ ap (λ (p : ℕ × ℕ). Some p.0) (sym s.pair_is)) (f ∙ ap (λ (p : ℕ × ℕ). Some p.1) (sym s.pair_is)) in
      s.stands ∙ sym (find_at pool test (agree pool name descriptor) [] ms i s.member new s.stands is)

  descriptor_case : (n : ℕ) → number_of pool ns name ≡ Some n → (o : Option ℕ) → number_of pool ns descriptor ≡ o → option_and_then (λ d. member_in ps ms n d) o ≡ find test ms
  descriptor_case n e None f = sym (find_none test ms (λ i m stands. never (test m) (λ is. no_number (number_of pool ns descriptor) (number_pair ns m).1 f (numbers_say i m stands is).described)))
  descriptor_case n e (Some d) f = place_case n d e f (place_of ps (n, d)) refl

  name_case : (o : Option ℕ) → number_of pool ns name ≡ o → option_and_then (λ n. option_and_then (λ d. member_in ps ms n d) (number_of pool ns descriptor)) o ≡ find test ms
  name_case None e = sym (find_none test ms (λ i m stands. never (test m) (λ is. no_number (number_of pool ns name) (number_pair ns m).0 e (numbers_say i m stands is).named)))
  name_case (Some n) e = descriptor_case n e (number_of pool ns descriptor) refl

  pub leads : led_to pool ns ps ms name descriptor ≡ find (has_texts pool name descriptor) ms
  leads = name_case (number_of pool ns name) refl
