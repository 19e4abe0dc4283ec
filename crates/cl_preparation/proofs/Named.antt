-- Overriding by the texts of a name and a descriptor.
use Rattle.std.proofs.Common.{◌≡◌, ◌<◌, ℕ, Bool, true, false, not, ◌&&◌, ◌||◌, Option, Some, None, List, map, length, refl, ap, sym, ◌∙◌, get_or}
use Rattle.std.specs.Prelude.{option_map, option_and_then, slice_get, take}
use Rattle.std.specs.List.{list_any}
use Rattle.cl_descriptors.specs.Reading.{whole_method}
use Rattle.cl_descriptors.specs.declared.types.MethodType.{MethodType}
use Rattle.cl_descriptors.specs.declared.types.Descriptor.TheVariants as descriptors
use Rattle.cl_classfile.specs.Structure.{Structure}
use Rattle.cl_classfile.specs.Structure as structure
use Rattle.cl_classfile.specs.Files.{Name, Key, Member, linked_member, member, method_of, text_at}
use Rattle.cl_classfile.specs.Lookups.{linked_method, method_named}
use Rattle.cl_model.specs.Classes.{same_package}
use Rattle.cl_model.specs.Lineages.{Kin, if_declared, is_virtual, superclasses}
use Rattle.cl_model.specs.Preparation.{begins_with_angle, overrides, takes_part}
use Rattle.cl_hierarchy.specs.Rows.{Rowed}
use Rattle.cl_hierarchy.specs.Lineages.{Lined, kin_at, kin_of}
use Rattle.std.proofs.lemmas.List.{take-map}
use mathlib.Core.List.{map-map}
use Rattle.std.proofs.lemmas.List.Folds.{list_any_at}
use Rattle.std.proofs.lemmas.Option.{slice_get-get_or, slice_get-map, same_Some}
use Rattle.cl_preparation.specs.Methods.{is_public_or_protected}
use Rattle.cl_preparation.specs.Relatives.{bare, holds_of_key, overrides_by_rows}
use Rattle.cl_preparation.specs.Walks.{is_open, opens_to}
use Rattle.cl_preparation.proofs.Reached.{any_map, overrides_is_by_package}

-- what linking looks at of a method has its flags
keyed_flags : (flags : ℕ) (n d : Option Name) (m : Member) → linked_member method_of flags n d ≡ Some m → m.flags ≡ flags
keyed_flags flags (Some n) (Some d) m e = by_key (method_of n d) e
  where
    by_key : (o : Option Key) → option_map (λ k. let made : Member = record { flags = flags; key = k } in made) o ≡ Some m → m.flags ≡ flags
    by_key (Some k) e = ap (λ (x : Member). x.flags) (sym (same_Some (record { flags = flags; key = k }) m e))
    by_key None e = absurd cc
keyed_flags flags None d m e = absurd cc
keyed_flags flags (Some n) None m e = absurd cc

-- the flags of the method that was found are those of the one that is meant
pub flags_named : (f : Structure) (o : Option structure.MemberInfo) (p : Option Member) → option_map (linked_method f) o ≡ option_map (λ m. Some m) p → option_map (λ m. m.flags) o ≡ option_map (λ m. m.flags) p
flags_named f (Some m) (Some n) e = ap (λ (x : ℕ). Some x) (sym (keyed_flags m.flags (text_at f.pool m.name_index) (text_at f.pool m.descriptor_index) n (same_Some (linked_method f m) (Some n) e)))
flags_named f None None e = refl
flags_named f (Some m) None e = absurd cc
flags_named f None (Some n) e = absurd cc

-- ---- tests of what is declared

-- a test of flags, if there are some
abbrev flags_pass : Option ℕ → (ℕ → Bool) → Bool
flags_pass None test = false
flags_pass (Some flags) test = test flags

if_flags : (o : Option Member) (test : ℕ → Bool) → flags_pass (option_map (λ m. m.flags) o) test ≡ if_declared o test
if_flags None test = refl
if_flags (Some m) test = refl

-- whether a class's method of this name and descriptor takes part
pub part_named : (r : Rowed) (name descriptor : Name) (found : Option ℕ) → found ≡ option_map (λ m. m.flags) (method_named (bare r).file name descriptor)
    → flags_pass found (λ x. not (begins_with_angle name) && is_virtual x) ≡ holds_of_key (method_of name descriptor) (λ key. takes_part key (bare r))
part_named r name descriptor found e = ap (λ (o : Option ℕ). flags_pass o (λ x. not (begins_with_angle name) && is_virtual x)) e ∙ by_type (whole_method descriptor)
  where
    made : MethodType → Key
    made m = record { name = name; descriptor = descriptors.Method m }

    in_front : (b : Bool) (o : Option Member) → flags_pass (option_map (λ m. m.flags) o) (λ x. b && is_virtual x) ≡ (b && if_declared o is_virtual)
    in_front true None = refl
    in_front false None = refl
    in_front b (Some m) = refl

    by_type : (t : Option MethodType)
        → flags_pass (option_map (λ m. m.flags) (option_and_then (member (bare r).file.methods) (option_map made t))) (λ x. not (begins_with_angle name) && is_virtual x)
        ≡ holds_of_key (option_map made t) (λ key. takes_part key (bare r))
    by_type None = refl
    by_type (Some t) = in_front (not (begins_with_angle name)) (member (bare r).file.methods (made t))

-- whether it is public or protected
pub open_named : (r : Rowed) (name descriptor : Name) (found : Option ℕ) → found ≡ option_map (λ m. m.flags) (method_named (bare r).file name descriptor)
    → flags_pass found is_public_or_protected ≡ holds_of_key (method_of name descriptor) (λ key. is_open key (bare r))
open_named r name descriptor found e = ap (λ (o : Option ℕ). flags_pass o is_public_or_protected) e ∙ by_key (method_of name descriptor)
  where
    by_key : (o : Option Key) → flags_pass (option_map (λ m. m.flags) (option_and_then (member (bare r).file.methods) o)) is_public_or_protected ≡ holds_of_key o (λ key. is_open key (bare r))
    by_key None = refl
    by_key (Some key) = if_flags (member (bare r).file.methods key) is_public_or_protected

-- ---- what is asked of a key

pub opens_named : (o : Option Key) (part wide : Key → Bool) (same : Bool) → ((holds_of_key o part && holds_of_key o wide) && same) ≡ holds_of_key o (λ key. (part key && wide key) && same)
opens_named None part wide same = refl
opens_named (Some key) part wide same = refl

-- the whole test, one look at the key after another
pub told_apart : (o : Option Key) (own above : Rowed) (between : List Rowed) →
    ((holds_of_key o (λ key. takes_part key (bare own)) && holds_of_key o (λ key. takes_part key (bare above)))
    && ((holds_of_key o (λ key. is_open key (bare above)) || same_package above.class own.class) || list_any (λ b. holds_of_key o (λ key. opens_to key (bare above) (bare b))) between))
    ≡ overrides_by_rows o own above between
told_apart None own above between = refl
told_apart (Some key) own above between =
    ap (λ (x : Bool). (takes_part key (bare own) && takes_part key (bare above)) && x)
    (regroup (is_open key (bare above)) (same_package above.class own.class) (list_any (λ b. opens_to key (bare above) (bare b)) between)
    ∙ ap (λ (x : Bool). is_open key (bare above) || (same_package above.class own.class || x)) (sym (any_map (opens_to key (bare above)) bare between)))
  where
    regroup : (a b c : Bool) → ((a || b) || c) ≡ (a || (b || c))
    regroup true b c = refl
    regroup false b c = refl

-- only a class between is left to be looked at
pub told_last : (o : Option Key) (own above : Rowed) (between : List Rowed) (part over wide same any : Bool) → part ≡ holds_of_key o (λ key. takes_part key (bare own)) → over ≡ holds_of_key o (λ key. takes_part key (bare above))
    → wide ≡ holds_of_key o (λ key. is_open key (bare above)) → same ≡ same_package above.class own.class → any ≡ list_any (λ b. holds_of_key o (λ key. opens_to key (bare above) (bare b))) between
    → part ≡ true → over ≡ true → wide ≡ false → same ≡ false → any ≡ overrides_by_rows o own above between
told_last o own above between part over wide same any p q r s t pt qt rf sf =
    sym (rw (pt, qt, rf, sf) refl) ∙ ap (λ (b : Bool). (b && over) && ((wide || same) || any)) p ∙ ap (λ (b : Bool). (holds_of_key o (λ key. takes_part key (bare own)) && b) && ((wide || same) || any)) q
    ∙ rw (r, s, t) refl ∙ told_apart o own above between

-- the rows tell what the tree does
overrides_asked : (o : Option Key) (l : Lined) (above : Rowed) (between : List Rowed) → overrides_by_rows o l.own above between ≡ holds_of_key o (λ key. overrides key (kin_of l) (map (kin_at l) between) (kin_at l above))
overrides_asked None l above between = refl
overrides_asked (Some key) l above between =
    ap (λ (x : Bool). (takes_part key (kin_of l) && takes_part key (kin_at l above)) && (is_open key (kin_at l above) || (same_package above.class l.own.class || x)))
    (any_map (opens_to key (bare above)) bare between ∙ sym (any_map (opens_to key (kin_at l above)) (kin_at l) between))
    ∙ sym (overrides_is_by_package key (kin_of l) (map (kin_at l) between) (kin_at l above))

-- ---- a place among the superclasses

some_same : {B : Type 0} (a b : B) → Some a ≡ Some b → a ≡ b
some_same a b e = cc

-- the rows tell it
pub overrides_told : {A : Type 0} (f : A → Rowed) (l : Lined) (rows between : List A) (place : ℕ) (at : A) (own above : Rowed) (o : Option Key) (r : Bool) → map (λ x. kin_at l (f x)) rows ≡ superclasses (kin_of l)
    → place < length rows → at ≡ get_or rows place at → own ≡ l.own → above ≡ f at → between ≡ take place rows → r ≡ overrides_by_rows o own above (map f between)
    → (a : Kin) → slice_get (superclasses (kin_of l)) place ≡ Some a → r ≡ holds_of_key o (λ key. overrides key (kin_of l) (take place (superclasses (kin_of l))) a)
overrides_told f l rows between place at own above o r are h there oe ae be told a e =
    let at_is : a ≡ kin_at l above = some_same a (kin_at l above) (sym e ∙ ap (λ (ks : List Kin). slice_get ks place) (sym are) ∙ slice_get-map (λ x. kin_at l (f x)) rows place
    ∙ ap (option_map (λ x. kin_at l (f x))) (slice_get-get_or rows place at h ∙ ap (λ x. Some x) (sym there)) ∙ ap (λ (x : Rowed). Some (kin_at l x)) (sym ae)) in
    told ∙ ap (λ (x : Rowed). overrides_by_rows o x above (map f between)) oe ∙ overrides_asked o l above (map f between)
    ∙ ap (λ (ks : List Kin). holds_of_key o (λ key. overrides key (kin_of l) ks (kin_at l above))) (map-map (kin_at l) f between ∙ ap (map (λ x. kin_at l (f x))) be ∙ sym (take-map (λ x. kin_at l (f x)) place rows) ∙ ap (take place) are)
    ∙ ap (λ (x : Kin). holds_of_key o (λ key. overrides key (kin_of l) (take place (superclasses (kin_of l))) x)) (sym at_is)

-- one of these rows passes a test
pub any_at : {A : Type 0} (f : A → Rowed) (p : Rowed → Bool) (xs : List A) (i : ℕ) (x : A) → i < length xs → x ≡ get_or xs i x → p (f x) ≡ true → true ≡ list_any p (map f xs)
any_at f p xs i x h at e = sym (any_map p f xs ∙ list_any_at (λ y. p (f y)) xs i x h (ap (λ y. p (f y)) (sym at) ∙ e))
