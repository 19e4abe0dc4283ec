-- What a member reference asks of a class that is loaded, as far as its lookup came.
use Rattle.std.proofs.Common.{◌≡◌, ℕ, true, false, List, [], Option, Some, None, refl, sym, ap, ◌∙◌, append-nil}
use Rattle.std.specs.Prelude.{option_map}
use Rattle.cl_classfile.specs.Files.{Key, Member, is_interface}
use Rattle.cl_model.specs.Classes.{NoSuchField, NoSuchMethod, IllegalAccess}
use Rattle.cl_model.specs.Lineages.{Kin, member_accessible, lookup_field, lookup_method, lookup_interface_method, field_of, method_of}
use Rattle.cl_model.specs.Plans.{resolve_field, resolve_method, resolve_found, flags_of}
use Rattle.cl_model.specs.Preparation.{equals_of}
use Rattle.cl_model.specs.States.{Need, Verdict, IsField, IsMethod}
use Rattle.cl_model.specs.Works.{Work, after_made, fail}
use Rattle.cl_members.specs.Endings.{ending_after}

-- ---- access

flags_told : (o : Option Member) (flags : ℕ) → option_map (λ m. m.flags) o ≡ Some flags → flags_of o ≡ flags
flags_told (Some m) flags e = cc
flags_told None flags e = absurd cc

pub accessible_is : (d c owner : Kin) (found : Option Member) (key : Key) (v : Verdict) (flags : ℕ) → option_map (λ m. m.flags) found ≡ Some flags → true ≡ member_accessible d owner flags c
    → resolve_found d c owner found key v ≡ ending_after (equals_of key owner.class.loader d.class.loader) v
accessible_is d c owner found key v flags e told =
    let flagged : member_accessible d owner (flags_of found) c ≡ true = ap (λ (n : ℕ). member_accessible d owner n c) (flags_told found flags e) ∙ sym told in
    rw flagged (ap (λ (ns : List Need). ending_after ns v) (append-nil (equals_of key owner.class.loader d.class.loader)))

pub inaccessible_is : (d c owner : Kin) (found : Option Member) (key : Key) (v : Verdict) (flags : ℕ) → option_map (λ m. m.flags) found ≡ Some flags → false ≡ member_accessible d owner flags c
    → resolve_found d c owner found key v ≡ fail (IllegalAccess owner.class)
inaccessible_is d c owner found key v flags e told =
    let flagged : member_accessible d owner (flags_of found) c ≡ false = ap (λ (n : ℕ). member_accessible d owner n c) (flags_told found flags e) ∙ sym told in
    rw flagged refl

-- ---- lookup

-- work without a need before it is the work
after_none : (w : Work Verdict) → option_map (after_made [] []) w ≡ w
after_none None = refl
after_none (Some m) = refl

pub field_found : (d c owner : Kin) (key : Key) → lookup_field c key ≡ Some owner → resolve_field d key c ≡ resolve_found d c owner (field_of owner key) key (IsField owner.class key)
field_found d c owner key e = rw e (after_none (resolve_found d c owner (field_of owner key) key (IsField owner.class key)))

pub field_missing : (d c : Kin) (key : Key) → lookup_field c key ≡ None → resolve_field d key c ≡ fail (NoSuchField c.class)
field_missing d c key e = rw e refl

pub method_found : (d c owner : Kin) (key : Key) → is_interface c.file ≡ false → lookup_method c key ≡ Some owner
    → resolve_method false d key c ≡ resolve_found d c owner (method_of owner key) key (IsMethod owner.class key)
method_found d c owner key kind e = rw (kind, e) (simp after_none)

pub method_missing : (d c : Kin) (key : Key) → is_interface c.file ≡ false → lookup_method c key ≡ None → resolve_method false d key c ≡ fail (NoSuchMethod c.class)
method_missing d c key kind e = rw (kind, e) refl

pub interface_found : (d c owner : Kin) (key : Key) → is_interface c.file ≡ true → lookup_interface_method c key ≡ Some owner
    → resolve_method true d key c ≡ resolve_found d c owner (method_of owner key) key (IsMethod owner.class key)
interface_found d c owner key kind e = rw (kind, e) (simp after_none)

pub interface_missing : (d c : Kin) (key : Key) → is_interface c.file ≡ true → lookup_interface_method c key ≡ None → resolve_method true d key c ≡ fail (NoSuchMethod c.class)
interface_missing d c key kind e = rw (kind, e) refl
