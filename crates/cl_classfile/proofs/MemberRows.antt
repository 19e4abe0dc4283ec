-- The tests of the tables of members, and what they say.
use Rattle.std.proofs.Common.{◌≡◌, ℕ, suc, ◌+◌, ◌^◌, ◌≤◌, ◌<◌, Bool, true, false, cond, ◌&&◌, ◌||◌, eqb, ltb, List, [], ◌∷◌, ◌++◌, length, map, take, drop, get_or, Option, Some, None, Result, Ok, Err, refl, sym, ap, ◌∙◌, add-one, arith, inl, inr}
use Rattle.std.specs.List.{AllByRecursion, list_any}
use Rattle.std.specs.Cmp.Lexicographic.{same_text}
use Rattle.std.proofs.Math.Seq.{drop-cons, take-suc}
use Rattle.std.proofs.lemmas.Bool.{leb-true, ltb-true, lt-ltb, eq-eqb}
use Rattle.std.proofs.lemmas.List.{length-drop, nil_from_length}
use Rattle.cl_names.specs.Kind.{IsNameOf, IsUnqualified, IsMethod, init, clinit}
use Rattle.cl_descriptors.specs.Types.{units_of_method}
use Rattle.cl_descriptors.specs.Answers.{UnitsOf, IsFieldDescriptor}
use Rattle.cl_descriptors.specs.Reading.{units_of}
use Rattle.cl_descriptors.proofs.Forms.{units_are, units_told}
use Rattle.cl_classfile.specs.declared.version.Owner.{Owner}
use Rattle.cl_classfile.specs.declared.entry.Entry.{Entry}
use Rattle.cl_classfile.specs.declared.entry.Entry.TheVariants.{Utf8}
use Rattle.cl_classfile.specs.declared.fault.Fault.{Fault}
use Rattle.cl_classfile.specs.declared.fault.Fault.TheVariants.{BadMember, Duplicate}
use Rattle.cl_classfile.specs.declared.members.Kind.{Kind}
use Rattle.cl_classfile.specs.declared.members.Kind.TheVariants as kinds
use Rattle.cl_classfile.specs.declared.traits.Special.{Special}
use Rattle.cl_classfile.specs.declared.traits.Special.TheVariants as names
use Rattle.cl_classfile.specs.declared.traits.Traits.{Traits}
use Rattle.cl_classfile.specs.Flags.{has, static, is_field_flags, is_method_flags, is_init_flags}
use Rattle.cl_classfile.specs.Pool.{at, IsText, HasText}
use Rattle.cl_classfile.specs.Members.{MemberInfo, AllFit, MemberFits, KeepsField, TakesUnits, KeepsMethod, SameMember, AreNew, KeepMembers}
use Rattle.cl_classfile.specs.Widths.{is_short, member_fits}
use Rattle.cl_classfile.specs.Rows.{special_of, is_field, is_init, entry_traits, traits_at}
use Rattle.cl_classfile.specs.Files.{text_of, text_at}
use Rattle.cl_classfile.specs.Checking.{keeps_field, has_room, keeps_method_flags, keeps_method, TextKey, key_of, same_text_key, same_member, checked_members, keeps_member, checked_list}
use Rattle.cl_classfile.proofs.Codec.{both}
use Rattle.cl_classfile.proofs.Judging.{tests, differ, all, IsTrait, field, unqualified, method, option_traits, traits_are, text_says, text_told, is_clinit, init_says, clinit_says}
use Rattle.cl_classfile.proofs.Fitting.{short_tells, choice_ok, member_tells}
use Rattle.cl_descriptors.specs.declared.limits.TheConstants.{MOST_UNITS}
use Rattle.cl_classfile.specs.declared.limits.TheConstants.{MOST_COUNTED}
use Rattle.std.specs.Prelude.{bytes_eq}
use Rattle.std.specs.Option.{option_zip}

-- ---- units

room_says : (of_class : Bool) (text : List ℕ) (o : Option ℕ) → UnitsOf text o → has_room of_class o ≡ true → TakesUnits of_class text
room_says of_class text None u h = absurd cc
room_says true text (Some n) u h = (u.0, u.1, (u.2.0, omega (arith, leb-true (units_of_method u.0) MOST_UNITS u.2.0.short)))
room_says false text (Some n) u h = (u.0, u.1, (u.2.0, omega (arith, ltb-true n MOST_UNITS h, u.2.1)))

room_of : (of_class : Bool) (n : ℕ) → n + cond of_class 0 1 ≤ MOST_UNITS → of_class || ltb n MOST_UNITS ≡ true
room_of true n h = refl
room_of false n h = lt-ltb n MOST_UNITS (omega arith)

room_told : (of_class : Bool) (text : List ℕ) → TakesUnits of_class text → has_room of_class (units_of text) ≡ true
room_told of_class text h = ap (has_room of_class) (units_told text h.0 h.1 h.2.0) ∙ room_of of_class (units_of_method h.0) h.2.1

room : (of_class : Bool) → IsTrait (λ t. has_room of_class t.units) (TakesUnits of_class)
room of_class = record { never = refl; says = λ text. room_says of_class text (units_of text) (units_are text); told = room_told of_class }

-- ---- the row of a field

abbrev traits : List Entry → ℕ → Traits
traits pool i = traits_at (map entry_traits pool) i

abbrev keeps_fields : List Entry → Bool → MemberInfo → Bool
keeps_fields pool of_interface m = keeps_field (map entry_traits pool) of_interface m

field_says : (pool : List Entry) (of_interface : Bool) (m : MemberInfo) → keeps_fields pool of_interface m ≡ true → KeepsField pool of_interface m
field_says pool of_interface m h =
    let name = (traits pool m.name_index).unqualified in
    let form = is_field (traits pool m.descriptor_index).form in
    let a = both (is_field_flags of_interface m.flags && name) form h in
    let b = both (is_field_flags of_interface m.flags) name a.0 in
    record {
      flags = b.0;
      name = text_says (λ t. t.unqualified) (IsNameOf IsUnqualified) unqualified pool m.name_index b.1;
      descriptor = text_says (λ t. is_field t.form) IsFieldDescriptor field pool m.descriptor_index a.1;
    }

field_told : (pool : List Entry) (of_interface : Bool) (m : MemberInfo) → KeepsField pool of_interface m → keeps_fields pool of_interface m ≡ true
field_told pool of_interface m k =
    all _ _
    (all _ _ k.flags (text_told (λ t. t.unqualified) (IsNameOf IsUnqualified) unqualified pool m.name_index k.name))
    (text_told (λ t. is_field t.form) IsFieldDescriptor field pool m.descriptor_index k.descriptor)

-- ---- the row of a method

-- what a text is called that stands at an index
special_at : (pool : List Entry) (i : ℕ) (text : List ℕ) → IsText pool i text → (traits pool i).special ≡ special_of text
special_at pool i text is = ap (λ (t : Traits). t.special) (traits_are pool i) ∙ ap (λ (o : Option Entry). (option_traits o).special) is

-- the text at an index, by how its name begins
text_is : (test : Special → Bool) (name : List ℕ) → ((text : List ℕ) → test (special_of text) ≡ true → text ≡ name) → (pool : List Entry) (i : ℕ) (Kind : List ℕ → Type 0)
    → HasText pool i Kind → test (traits pool i).special ≡ true → IsText pool i name
text_is test name says pool i Kind h e =
    let same : h.text ≡ name = says h.text (ap test (sym (special_at pool i h.text h.is_text)) ∙ e) in
    h.is_text ∙ ap (λ (t : List ℕ). Some (Utf8 t)) same

plain_says : (s : Special) (owner : Owner) (flags : ℕ) → keeps_method_flags s owner flags ≡ true → is_clinit s ≡ false → is_method_flags owner flags ≡ true
plain_says names.Plain owner flags h e = h
plain_says names.Init owner flags h e = (both (is_method_flags owner flags) (is_init_flags flags) h).0
plain_says names.Clinit owner flags h e = absurd cc
plain_says names.Angle owner flags h e = h

init_flags_say : (s : Special) (owner : Owner) (flags : ℕ) → keeps_method_flags s owner flags ≡ true → is_init s ≡ true → is_init_flags flags ≡ true
init_flags_say names.Plain owner flags h e = absurd cc
init_flags_say names.Init owner flags h e = (both (is_method_flags owner flags) (is_init_flags flags) h).1
init_flags_say names.Clinit owner flags h e = absurd cc
init_flags_say names.Angle owner flags h e = absurd cc

flags_told : (s : Special) (owner : Owner) (flags : ℕ) → (is_clinit s ≡ false → is_method_flags owner flags ≡ true) → (is_init s ≡ true → is_init_flags flags ≡ true) → keeps_method_flags s owner flags ≡ true
flags_told names.Plain owner flags p q = p refl
flags_told names.Init owner flags p q = all (is_method_flags owner flags) (is_init_flags flags) (p refl) (q refl)
flags_told names.Clinit owner flags p q = refl
flags_told names.Angle owner flags p q = p refl

abbrev keeps_methods : List Entry → Owner → MemberInfo → Bool
keeps_methods pool owner m = keeps_method (map entry_traits pool) owner m

method_says : (pool : List Entry) (owner : Owner) (m : MemberInfo) → keeps_methods pool owner m ≡ true → KeepsMethod pool owner m
method_says pool owner m h =
    let name = traits pool m.name_index in
    let flags = keeps_method_flags name.special owner m.flags in
    let fits = has_room (has m.flags static) (traits pool m.descriptor_index).units in
    let a = both (flags && name.method) fits h in
    let b = both flags name.method a.0 in
    let named = text_says (λ t. t.method) (IsNameOf IsMethod) method pool m.name_index b.1 in
    record {
      flags = λ other. elim (tests (is_clinit name.special)) [
        | inl e ↦ absurd (other (text_is is_clinit clinit clinit_says pool m.name_index (IsNameOf IsMethod) named e))
        | inr e ↦ plain_says name.special owner m.flags b.0 e
      ];
      init_flags = λ is. init_flags_say name.special owner m.flags b.0 (ap is_init (special_at pool m.name_index init is));
      name = named;
      descriptor = text_says (λ t. has_room (has m.flags static) t.units) (TakesUnits (has m.flags static)) (room (has m.flags static)) pool m.descriptor_index a.1;
    }

method_told : (pool : List Entry) (owner : Owner) (m : MemberInfo) → KeepsMethod pool owner m → keeps_methods pool owner m ≡ true
method_told pool owner m k =
    let name = traits pool m.name_index in
    let flags : keeps_method_flags name.special owner m.flags ≡ true = flags_told name.special owner m.flags
    (λ e. k.flags (λ is. differ (is_clinit name.special) (ap is_clinit (special_at pool m.name_index clinit is)) e))
    (λ e. k.init_flags (text_is is_init init init_says pool m.name_index (IsNameOf IsMethod) k.name e)) in
    all _ _
    (all _ _ flags (text_told (λ t. t.method) (IsNameOf IsMethod) method pool m.name_index k.name))
    (text_told (λ t. has_room (has m.flags static) t.units) (TakesUnits (has m.flags static)) (room (has m.flags static)) pool m.descriptor_index k.descriptor)

-- ---- members that agree

pub named_text : (o : Option Entry) (text : List ℕ) → text_of o ≡ Some text → o ≡ Some (Utf8 text)
named_text (Some (Utf8 t)) text e = cc
named_text _ text e = absurd cc

pub reflexive : (text : List ℕ) → bytes_eq text text ≡ true
reflexive [] = refl
reflexive (b ∷ bytes) = all (eqb b b) (bytes_eq bytes bytes) (eq-eqb b b refl) (reflexive bytes)

-- a key is that of two texts
both_are : (o p : Option (List ℕ)) (k : TextKey) → option_zip o p ≡ Some k → (o ≡ Some k.0) × (p ≡ Some k.1)
both_are (Some a) (Some b) k e = let same : (let x : TextKey = (a, b) in x) ≡ k = cc in (ap (λ (x : TextKey). Some x.0) same, ap (λ (x : TextKey). Some x.1) same)
both_are (Some a) None k e = absurd cc
both_are None p k e = absurd cc

record HasKey (pool : List Entry) (m : MemberInfo) (k : TextKey) : Type 0 where
  name : IsText pool m.name_index k.0
  descriptor : IsText pool m.descriptor_index k.1

key_says : (pool : List Entry) (m : MemberInfo) (k : TextKey) → key_of pool m ≡ Some k → HasKey pool m k
key_says pool m k e =
    let b = both_are (text_at pool m.name_index) (text_at pool m.descriptor_index) k e in
    record { name = named_text (at pool m.name_index) k.0 b.0; descriptor = named_text (at pool m.descriptor_index) k.1 b.1 }

key_told : (pool : List Entry) (m : MemberInfo) (name descriptor : List ℕ) → IsText pool m.name_index name → IsText pool m.descriptor_index descriptor → key_of pool m ≡ Some (name, descriptor)
key_told pool m name descriptor n d =
    ap (λ (o : Option Entry). option_zip (text_of o) (text_at pool m.descriptor_index)) n ∙ ap (λ (o : Option Entry). option_zip (Some name) (text_of o)) d

same_by : (pool : List Entry) (a b : MemberInfo) (o p : Option TextKey) → key_of pool a ≡ o → key_of pool b ≡ p → same_text_key o p ≡ true → SameMember pool a b
same_by pool a b (Some k) (Some l) e f h =
    let t = both (bytes_eq k.0 l.0) (bytes_eq k.1 l.1) h in
    let first = key_says pool a k e in
    let second = key_says pool b l f in
    let name : k.0 ≡ l.0 = same_text k.0 l.0 (sym t.0) in
    let descriptor : k.1 ≡ l.1 = same_text k.1 l.1 (sym t.1) in
    record {
      name = record { text = l.0; first = first.name ∙ ap (λ (x : List ℕ). Some (Utf8 x)) name; second = second.name };
      descriptor = record { text = l.1; first = first.descriptor ∙ ap (λ (x : List ℕ). Some (Utf8 x)) descriptor; second = second.descriptor };
    }
same_by pool a b (Some k) None e f h = absurd cc
same_by pool a b None p e f h = absurd cc

same_says : (pool : List Entry) (a b : MemberInfo) → same_member pool a b ≡ true → SameMember pool a b
same_says pool a b h = same_by pool a b (key_of pool a) (key_of pool b) refl refl h

same_told : (pool : List Entry) (a b : MemberInfo) → SameMember pool a b → same_member pool a b ≡ true
same_told pool a b s =
    let k : TextKey = (s.name.text, s.descriptor.text) in
    ap (λ (o : Option TextKey). same_text_key o (key_of pool b)) (key_told pool a s.name.text s.descriptor.text s.name.first s.descriptor.first)
    ∙ ap (λ (o : Option TextKey). same_text_key (Some k) o) (key_told pool b s.name.text s.descriptor.text s.name.second s.descriptor.second)
    ∙ all (bytes_eq k.0 k.0) (bytes_eq k.1 k.1) (reflexive k.0) (reflexive k.1)

neither : (a b : Bool) → a || b ≡ false → (a ≡ false) × (b ≡ false)
neither true b h = absurd cc
neither false b h = (refl, h)

none_says : (pool : List Entry) (m : MemberInfo) (before : List MemberInfo) → list_any (λ e. same_member pool e m) before ≡ false → AllByRecursion (λ e. SameMember pool e m → ⊥) before
none_says pool m [] h = tt
none_says pool m (e ∷ before) h =
    let k = neither (same_member pool e m) (list_any (λ e. same_member pool e m) before) h in
    (λ s. differ (same_member pool e m) (same_told pool e m s) k.0, none_says pool m before k.1)

none_told : (pool : List Entry) (m : MemberInfo) (before : List MemberInfo) → AllByRecursion (λ e. SameMember pool e m → ⊥) before → list_any (λ e. same_member pool e m) before ≡ false
none_told pool m [] h = refl
none_told pool m (e ∷ before) h =
    elim (tests (same_member pool e m)) [
      | inl s ↦ absurd (h.0 (same_says pool e m s))
      | inr s ↦ rw (s, none_told pool m before h.1) refl
    ]

-- ---- all members

kept_ok : (keeps among : Bool) (rest : Result (Unit {0}) Fault) (u : Unit {0}) → cond keeps (cond among (Err Duplicate) rest) (Err BadMember) ≡ Ok u → (keeps ≡ true) × (among ≡ false) × (rest ≡ Ok u)
kept_ok true true rest u h = absurd cc
kept_ok true false rest u h = (refl, refl, h)
kept_ok false among rest u h = absurd cc

each_says : (keeps : MemberInfo → Bool) (Keeps : MemberInfo → Type 0) → ((m : MemberInfo) → keeps m ≡ true → Keeps m) → (pool : List Entry) (before ms : List MemberInfo) (u : Unit {0})
    → checked_members keeps pool before ms ≡ Ok u → AllByRecursion Keeps ms × AreNew pool before ms
unfolding checked_members
each_says keeps Keeps says pool before [] u h = (tt, tt)
each_says keeps Keeps says pool before (m ∷ ms) u h =
    let k = kept_ok (keeps m) (list_any (λ e. same_member pool e m) before) (checked_members keeps pool (before ++ m ∷ []) ms) u h in
    let others = each_says keeps Keeps says pool (before ++ m ∷ []) ms u k.2 in
    ((says m k.0, others.0), (none_says pool m before k.1, others.1))

each_told : (keeps : MemberInfo → Bool) (Keeps : MemberInfo → Type 0) → ((m : MemberInfo) → Keeps m → keeps m ≡ true) → (pool : List Entry) (before ms : List MemberInfo)
    → AllByRecursion Keeps ms → AreNew pool before ms → checked_members keeps pool before ms ≡ Ok tt
unfolding checked_members
each_told keeps Keeps told pool before [] h new = refl
each_told keeps Keeps told pool before (m ∷ ms) h new = rw (told m h.0, none_told pool m before new.0, each_told keeps Keeps told pool (before ++ m ∷ []) ms h.1 new.1) refl

both_of : (A B : MemberInfo → Type 0) (ms : List MemberInfo) → AllByRecursion (λ m. A m × B m) ms → AllByRecursion A ms × AllByRecursion B ms
both_of A B [] h = (tt, tt)
both_of A B (m ∷ ms) h = let others = both_of A B ms h.1 in ((h.0.0, others.0), (h.0.1, others.1))

of_both : (A B : MemberInfo → Type 0) (ms : List MemberInfo) → AllByRecursion A ms → AllByRecursion B ms → AllByRecursion (λ m. A m × B m) ms
of_both A B [] p q = tt
of_both A B (m ∷ ms) p q = ((p.0, q.0), of_both A B ms p.1 q.1)

-- a list of members that passed the tests
pub record IsList (Keeps : MemberInfo → Type 0) (pool : List Entry) (ms : List MemberInfo) : Type 0 where
  pub fits : AllFit MemberFits ms
  pub kept : KeepMembers Keeps pool ms

list_says : (kind : Kind) (owner : Owner) (pool : List Entry) (Keeps : MemberInfo → Type 0) → ((m : MemberInfo) → keeps_member kind (map entry_traits pool) owner m ≡ true → MemberFits m × Keeps m) → (ms : List MemberInfo) (u : Unit {0})
    → checked_list kind (map entry_traits pool) owner pool ms ≡ Ok u → IsList Keeps pool ms
unfolding checked_list
list_says kind owner pool Keeps says ms u h =
    let keeps = keeps_member kind (map entry_traits pool) owner in
    let k = choice_ok (is_short (length ms)) (checked_members keeps pool [] ms) BadMember u h in
    let each = each_says keeps (λ m. MemberFits m × Keeps m) says pool [] ms u k.1 in
    let parts = both_of MemberFits Keeps ms each.0 in
    record { fits = (ltb-true (length ms) (2 ^ 16) k.0, parts.0); kept = record { each = parts.1; new = each.1 } }

list_told : (kind : Kind) (owner : Owner) (pool : List Entry) (Keeps : MemberInfo → Type 0) → ((m : MemberInfo) → MemberFits m × Keeps m → keeps_member kind (map entry_traits pool) owner m ≡ true) → (ms : List MemberInfo)
    → AllFit MemberFits ms → KeepMembers Keeps pool ms → checked_list kind (map entry_traits pool) owner pool ms ≡ Ok tt
unfolding checked_list
list_told kind owner pool Keeps told ms fits kept =
    let keeps = keeps_member kind (map entry_traits pool) owner in
    rw ((short_tells (length ms)).1 fits.0) (each_told keeps (λ m. MemberFits m × Keeps m) told pool [] ms (of_both MemberFits Keeps ms fits.1 kept.each) kept.new)

pub fields_say : (pool : List Entry) (owner : Owner) (ms : List MemberInfo) (u : Unit {0}) → checked_list kinds.Field (map entry_traits pool) owner pool ms ≡ Ok u → IsList (KeepsField pool owner.of_interface) pool ms
fields_say pool owner =
    list_says kinds.Field owner pool (KeepsField pool owner.of_interface) (λ m h. let k = both (member_fits m) (keeps_fields pool owner.of_interface m) h in ((member_tells m).0 k.0, field_says pool owner.of_interface m k.1))

pub fields_told : (pool : List Entry) (owner : Owner) (ms : List MemberInfo) → AllFit MemberFits ms → KeepMembers (KeepsField pool owner.of_interface) pool ms → checked_list kinds.Field (map entry_traits pool) owner pool ms ≡ Ok tt
fields_told pool owner =
    list_told kinds.Field owner pool (KeepsField pool owner.of_interface) (λ m h. all (member_fits m) (keeps_fields pool owner.of_interface m) ((member_tells m).1 h.0) (field_told pool owner.of_interface m h.1))

pub methods_say : (pool : List Entry) (owner : Owner) (ms : List MemberInfo) (u : Unit {0}) → checked_list kinds.Method (map entry_traits pool) owner pool ms ≡ Ok u → IsList (KeepsMethod pool owner) pool ms
methods_say pool owner =
    list_says kinds.Method owner pool (KeepsMethod pool owner) (λ m h. let k = both (member_fits m) (keeps_methods pool owner m) h in ((member_tells m).0 k.0, method_says pool owner m k.1))

pub methods_told : (pool : List Entry) (owner : Owner) (ms : List MemberInfo) → AllFit MemberFits ms → KeepMembers (KeepsMethod pool owner) pool ms → checked_list kinds.Method (map entry_traits pool) owner pool ms ≡ Ok tt
methods_told pool owner =
    list_told kinds.Method owner pool (KeepsMethod pool owner) (λ m h. all (member_fits m) (keeps_methods pool owner m) ((member_tells m).1 h.0) (method_told pool owner m h.1))

-- ---- one after the other, as a loop does

-- a count can say how many there are
pub counted : (kind : Kind) (traits : List Traits) (owner : Owner) (pool : List Entry) (ms : List MemberInfo) → length ms ≤ MOST_COUNTED
    → checked_list kind traits owner pool ms ≡ checked_members (keeps_member kind traits owner) pool [] ms
unfolding checked_list
counted kind traits owner pool ms le = rw ((short_tells (length ms)).1 (omega arith)) refl

-- the members from i on are still to be looked at
abbrev pub AreLookedAt : (MemberInfo → Bool) → List Entry → List MemberInfo → ℕ → Type 0
AreLookedAt keeps pool ms i = checked_members keeps pool (take i ms) (drop i ms) ≡ checked_members keeps pool [] ms

pub front : (ms : List MemberInfo) (i : ℕ) (m : MemberInfo) → i < length ms → m ≡ get_or ms i m → take (i + 1) ms ≡ take i ms ++ m ∷ []
front ms i m lt is = rw add-one (take-suc ms i m lt ∙ ap (λ (x : MemberInfo). take i ms ++ x ∷ []) (sym is))

-- the member at i, behind those before it
next : (keeps : MemberInfo → Bool) (pool : List Entry) (ms : List MemberInfo) (i : ℕ) (m : MemberInfo) → i < length ms → m ≡ get_or ms i m
    → checked_members keeps pool (take i ms) (drop i ms) ≡ cond (keeps m) (cond (list_any (λ e. same_member pool e m) (take i ms)) (Err Duplicate) (checked_members keeps pool (take (i + 1) ms) (drop (i + 1) ms))) (Err BadMember)
unfolding checked_members
next keeps pool ms i m lt is =
    let back : drop i ms ≡ m ∷ drop (i + 1) ms = drop-cons ms i m lt ∙ ap (λ (x : MemberInfo). x ∷ drop (suc i) ms) (sym is) ∙ rw add-one refl in
    rw (back, front ms i m lt is) refl

pub goes_on : (keeps : MemberInfo → Bool) (pool : List Entry) (ms : List MemberInfo) (i : ℕ) (m : MemberInfo) → i < length ms → m ≡ get_or ms i m → keeps m ≡ true → list_any (λ e. same_member pool e m) (take i ms) ≡ false
    → AreLookedAt keeps pool ms i → AreLookedAt keeps pool ms (i + 1)
goes_on keeps pool ms i m lt is kept new so_far =
    let one : checked_members keeps pool (take i ms) (drop i ms) ≡ checked_members keeps pool (take (i + 1) ms) (drop (i + 1) ms) = next keeps pool ms i m lt is ∙ rw (kept, new) refl in
    sym one ∙ so_far

pub refuses : (keeps : MemberInfo → Bool) (pool : List Entry) (ms : List MemberInfo) (i : ℕ) (m : MemberInfo) → i < length ms → m ≡ get_or ms i m → keeps m ≡ false
    → AreLookedAt keeps pool ms i → checked_members keeps pool [] ms ≡ Err BadMember
refuses keeps pool ms i m lt is bad so_far = sym so_far ∙ next keeps pool ms i m lt is ∙ rw bad refl

pub repeats : (keeps : MemberInfo → Bool) (pool : List Entry) (ms : List MemberInfo) (i : ℕ) (m : MemberInfo) → i < length ms → m ≡ get_or ms i m → keeps m ≡ true → list_any (λ e. same_member pool e m) (take i ms) ≡ true
    → AreLookedAt keeps pool ms i → checked_members keeps pool [] ms ≡ Err Duplicate
repeats keeps pool ms i m lt is kept old so_far = sym so_far ∙ next keeps pool ms i m lt is ∙ rw (kept, old) refl

pub is_done : (keeps : MemberInfo → Bool) (pool : List Entry) (ms : List MemberInfo) (i : ℕ) → length ms ≤ i → AreLookedAt keeps pool ms i → checked_members keeps pool [] ms ≡ Ok tt
unfolding checked_members
is_done keeps pool ms i le so_far =
    let none : drop i ms ≡ [] = nil_from_length _ (omega (arith, length-drop i ms)) in
    let one : checked_members keeps pool (take i ms) (drop i ms) ≡ Ok tt = rw none refl in
    sym so_far ∙ one
