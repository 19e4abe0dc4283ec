-- What looking a member up answers, from where the lookup came to.
use Rattle.std.proofs.Common.{◌≡◌, ℕ, true, false, List, [], map, Option, Some, None, is_some, refl, sym, ap, subst, ◌∙◌}
use Rattle.std.specs.Prelude.{Ok, Err, find, option_map, option_and_then}
use Rattle.cl_classfile.specs.Structure.{Structure}
use Rattle.cl_classfile.specs.Files.{Key, Symbol, Reference, ToField, ToMethod, ToInterfaceMethod, reference, file_of, field_key, method_key, is_interface}
use Rattle.cl_model.specs.declared.class.Class.{Class}
use Rattle.cl_model.specs.Classes.{IllegalAccess}
use Rattle.cl_model.specs.Keys.{key_of}
use Rattle.cl_model.specs.Lineages.{member_accessible, lookup_field, lookup_method, lookup_interface_method}
use Rattle.cl_model.specs.Preparation.{class_names, equal_between, equals_of}
use Rattle.cl_model.specs.States.{Need}
use Rattle.cl_model.specs.Works.{fail}
use Rattle.cl_hierarchy.specs.Rows.{Rowed}
use Rattle.cl_hierarchy.specs.Lineages.{Lined, IsInOrder, IsRowIn, field_order, kin_at, kin_of, rows_in}
use Rattle.cl_hierarchy.specs.Imposed.{AreOfReference}
use Rattle.cl_members.specs.declared.fault.LookupFault.{LookupFault}
use Rattle.cl_members.specs.declared.fault.LookupFault.TheVariants as faults
use Rattle.cl_members.specs.Asking.{AsksField, AsksMethod, AsksInterfaceMethod, LooksUp, IsDeniedIn, IsFoundAs, IsLocated, LocatedMember, Reaches, asked_key, key_at, verdict_of}
use Rattle.cl_members.specs.Members.{field_in, method_in}
use Rattle.cl_members.proofs.Keyed.{field_keyed, method_keyed}
use Rattle.cl_members.proofs.Lists.{among_is}
use Rattle.cl_members.proofs.Trees.{field_lookup}
use Rattle.cl_members.proofs.Works.{accessible_is, inaccessible_is, field_found, field_missing, method_found, method_missing, interface_found, interface_missing}

-- an entry is one reference
one_reference : (o : Option Reference) (r q : Reference) → o ≡ Some r → o ≡ Some q → r ≡ q
one_reference o r q e f = cc

-- a fault is the end of what the reference asks
fault_answers : (d c : Lined) (i : ℕ) (r : Reference) (fault : LookupFault) → reference (kin_of d).file i ≡ Some r → IsFoundAs (kin_of d) r (kin_of c) (Err fault) → IsDeniedIn c (Err fault)
    → LooksUp d c i (Err fault)
fault_answers d c i r fault at is denied = record {
  found = λ q e. subst (λ (x : Reference). IsFoundAs (kin_of d) x (kin_of c) (Err fault)) (one_reference (reference (kin_of d).file i) r q at e) is;
  of = tt;
  denied = denied;
}

-- ---- access

pub refused_is : (d c : Lined) (i : ℕ) (s : Symbol) (owner : Rowed) (flags : ℕ) → Reaches d c i s owner flags → (n : Class) → n ≡ owner.class
    → false ≡ member_accessible (kin_of d) (kin_at c owner) flags (kin_of c) → LooksUp d c i (Err (faults.Inaccessible n))
refused_is d c i s owner flags x n same told =
    fault_answers d c i x.cites.cited (faults.Inaccessible n) x.cites.found
    (x.worked ∙ inaccessible_is (kin_of d) (kin_of c) (kin_at c owner) _ x.key (verdict_of x.cites.cited owner.class x.key) flags x.has told ∙ ap (λ (m : Class). fail (IllegalAccess m)) (sym same))
    (owner, x.row, same)

located_by : (d c : Lined) (i : ℕ) (s : Symbol) (owner : Rowed) (flags : ℕ) (x : Reaches d c i s owner flags) → true ≡ member_accessible (kin_of d) (kin_at c owner) flags (kin_of c)
    → IsLocated (record { d = d; c = c; index = i; owner = owner; key = x.key; flags = flags })
located_by d c i s owner flags x told = record {
  cites = x.cites;
  asks = x.asks;
  row = x.row;
  has = x.has;
  found = x.worked ∙ accessible_is (kin_of d) (kin_of c) (kin_at c owner) _ x.key (verdict_of x.cites.cited owner.class x.key) flags x.has told;
}

pub located_is : (d c : Lined) (i : ℕ) (s : Symbol) (owner : Rowed) (flags : ℕ) → Reaches d c i s owner flags → (k : Key) → k ≡ key_of s.name s.descriptor
    → true ≡ member_accessible (kin_of d) (kin_at c owner) flags (kin_of c) → IsLocated (record { d = d; c = c; index = i; owner = owner; key = k; flags = flags })
located_is d c i s owner flags x k same told =
    subst (λ (y : Key). IsLocated (record { d = d; c = c; index = i; owner = owner; key = y; flags = flags })) (sym (same ∙ x.keyed)) (located_by d c i s owner flags x told)

pub located_answers : (d c : Lined) (i : ℕ) (f : LocatedMember) → IsLocated f → f.d ≡ d → f.c ≡ c → f.index ≡ i → LooksUp d c i (Ok f)
located_answers d c i f is from through at =
    subst (λ (y : ℕ). LooksUp d c y (Ok f)) at (
    subst (λ (y : Lined). LooksUp d y f.index (Ok f)) through (
    subst (λ (y : Lined). LooksUp y f.c f.index (Ok f)) from (
    record {
      found = λ q e. subst (λ (x : Reference). IsFoundAs (kin_of f.d) x (kin_of f.c) (Ok f)) (one_reference (reference (kin_of f.d).file f.index) is.cites.cited q is.cites.found e) is.found;
      of = record { from = refl; through = refl; at = refl; owner = is.row };
      denied = tt;
    }
    )
    )
    )

-- a copy of what was looked up is the same
pub located_copy : (d c e f : Lined) (i : ℕ) (owner copy : Rowed) (k : Key) (flags : ℕ) → d ≡ e → c ≡ f → owner ≡ copy
    → IsLocated (record { d = d; c = c; index = i; owner = owner; key = k; flags = flags }) → IsLocated (record { d = e; c = f; index = i; owner = copy; key = k; flags = flags })
located_copy d c e f i owner copy k flags p q r is =
    subst (λ (y : Rowed). IsLocated (record { d = e; c = f; index = i; owner = y; key = k; flags = flags })) r (
    subst (λ (y : Lined). IsLocated (record { d = e; c = y; index = i; owner = owner; key = k; flags = flags })) q (
    subst (λ (y : Lined). IsLocated (record { d = y; c = c; index = i; owner = owner; key = k; flags = flags })) p is
    )
    )

-- ---- the constraints of a member

pub asks_key : (f : LocatedMember) → IsLocated f → key_at (kin_of f.d).file f.index ≡ Some f.key
asks_key f is = ap (option_and_then asked_key) is.cites.found ∙ is.asks

names_told : (o : Option Key) (key : Key) (names : List (List ℕ)) → o ≡ Some key → option_map (λ k. class_names k.descriptor) o ≡ Some names → names ≡ class_names key.descriptor
names_told o key names e f = let told : Some names ≡ Some (class_names key.descriptor) = sym f ∙ ap (option_map (λ (k : Key). class_names k.descriptor)) e in cc

pub are_of : (f : LocatedMember) → IsLocated f → (needs : List Need)
    → needs ≡ equals_of f.key f.owner.class.loader (kin_of f.d).class.loader → AreOfReference (kin_of f.d) (kin_of f.c) f.index needs
are_of f is needs e = record {
  cites = is.cites;
  made = record { needs = equals_of f.key f.owner.class.loader (kin_of f.d).class.loader; asked = []; ends = Ok (verdict_of is.cites.cited f.owner.class f.key) };
  worked = is.found;
  needs_are = e;
}

-- the equalities that the code made are those of the member
imposed_by : (f : LocatedMember) → IsLocated f → (names : List (List ℕ)) → option_map (λ k. class_names k.descriptor) (key_at (kin_of f.d).file f.index) ≡ Some names → (one other : ℕ) → one ≡ f.owner.class.loader
    → other ≡ (kin_of f.d).class.loader → (needs : List Need) → needs ≡ map (λ (n : List ℕ). equal_between n one other) names → needs ≡ equals_of f.key f.owner.class.loader (kin_of f.d).class.loader
imposed_by f is names told one other p q needs e =
    e ∙ ap (λ (l : ℕ). map (λ (n : List ℕ). equal_between n l other) names) p ∙ ap (λ (l : ℕ). map (λ (n : List ℕ). equal_between n f.owner.class.loader l) names) q
    ∙ ap (map (λ (n : List ℕ). equal_between n f.owner.class.loader (kin_of f.d).class.loader)) (names_told (key_at (kin_of f.d).file f.index) f.key names (asks_key f is) told)

-- the same of what lies behind them in memory
pub imposed_in : (f : LocatedMember) → IsLocated f → (file : Structure) (i : ℕ) (names : List (List ℕ)) (one other : Class) (needs : List Need) → file ≡ f.d.own.file → i ≡ f.index → option_map (λ k. class_names k.descriptor) (key_at (file_of file) i) ≡ Some names
    → one ≡ f.owner.class → other ≡ (kin_of f.d).class → needs ≡ map (λ (n : List ℕ). equal_between n one.loader other.loader) names → needs ≡ equals_of f.key f.owner.class.loader (kin_of f.d).class.loader
imposed_in f is file i names one other needs at here told owner from e =
    imposed_by f is names
    (ap (λ (x : Structure). option_map (λ (k : Key). class_names k.descriptor) (key_at (file_of x) f.index)) (sym at)
    ∙ ap (λ (n : ℕ). option_map (λ (k : Key). class_names k.descriptor) (key_at (file_of file) n)) (sym here) ∙ told)
    one.loader other.loader (ap (λ (c : Class). c.loader) owner) (ap (λ (c : Class). c.loader) from) needs e

pub are_of_copy : (d e c f : Lined) (i j : ℕ) (needs : List Need) → d ≡ e → c ≡ f → i ≡ j → AreOfReference (kin_of d) (kin_of c) i needs → AreOfReference (kin_of e) (kin_of f) j needs
are_of_copy d e c f i j needs p q r are =
    subst (λ (n : ℕ). AreOfReference (kin_of e) (kin_of f) n needs) r (subst (λ (l : Lined). AreOfReference (kin_of e) (kin_of l) i needs) q (subst (λ (l : Lined). AreOfReference (kin_of l) (kin_of c) i needs) p are))

-- ---- fields

module _ {R : Type 0} (row : R → Rowed) where
  abbrev fields_at : Option Key → List R → Option R
  fields_at key items = find (λ r. is_some (field_in key (file_of (row r).file))) items

  looked_up : (c : Lined) → IsInOrder c → (key : Key) (items : List R) (o : Option R) → map (λ r. kin_at c (row r)) items ≡ field_order (kin_of c) → o ≡ fields_at (Some key) items
      → lookup_field (kin_of c) key ≡ option_map (λ r. kin_at c (row r)) o
  looked_up c order key items o ordered e =
      sym (field_lookup c order key) ∙ among_is (λ r. kin_at c (row r)) (λ a. is_some (field_in (Some key) a.file)) items (field_order (kin_of c)) o ordered e

  pub no_field : (d c : Lined) (i : ℕ) → IsInOrder c → (a : AsksField d c i) (key : Option Key) → key ≡ Some a.key → (items : List R) → map (λ r. kin_at c (row r)) items ≡ field_order (kin_of c) → None ≡ fields_at key items
      → LooksUp d c i (Err faults.NoSuchField)
  no_field d c i order a key is items ordered e =
      let found = looked_up c order a.key items None ordered (e ∙ ap (λ (o : Option Key). fields_at o items) is) in
      fault_answers d c i (ToField a.target a.key) faults.NoSuchField a.refers (field_missing (kin_of d) (kin_of c) a.key found) tt

  pub field_reached : (d c : Lined) (i : ℕ) (s : Symbol) → IsInOrder c → (a : AsksField d c i) → field_key s ≡ Some a.key → (items : List R) → map (λ r. kin_at c (row r)) items ≡ field_order (kin_of c)
      → (owner : R) → Some owner ≡ fields_at (field_key s) items → (flags : ℕ) → Some flags ≡ option_map (λ m. m.flags) (field_in (field_key s) (file_of (row owner).file)) → IsRowIn (rows_in c) (row owner) → Reaches d c i s (row owner) flags
  field_reached d c i s order a is items ordered owner e flags has inside =
      let found = looked_up c order a.key items (Some owner) ordered (e ∙ ap (λ (o : Option Key). fields_at o items) is) in
      let key = field_keyed s.name s.descriptor a.key is in
      record {
        cites = record { cited = ToField a.target a.key; found = a.refers; names = a.named };
        key = a.key;
        asks = refl;
        keyed = key.keyed;
        described = key.described;
        row = inside;
        has = ap (λ (o : Option Key). option_map (λ m. m.flags) (field_in o (file_of (row owner).file))) (sym is) ∙ sym has;
        worked = field_found (kin_of d) (kin_of c) (kin_at c (row owner)) a.key found;
      }

-- ---- methods

pub no_method : (d c : Lined) (i : ℕ) → (a : AsksMethod d c i) → false ≡ is_interface (kin_of c).file → (key : Option Key) → key ≡ Some a.key → None ≡ option_and_then (lookup_method (kin_of c)) key → LooksUp d c i (Err faults.NoSuchMethod)
no_method d c i a kind key is e =
    fault_answers d c i (ToMethod a.target a.key) faults.NoSuchMethod a.refers
    (method_missing (kin_of d) (kin_of c) a.key (sym kind) (ap (option_and_then (lookup_method (kin_of c))) (sym is) ∙ sym e)) tt

pub method_reached : (d c : Lined) (i : ℕ) (s : Symbol) → (a : AsksMethod d c i) → false ≡ is_interface (kin_of c).file → method_key s ≡ Some a.key → (owner : Rowed) → Some (kin_at c owner) ≡ option_and_then (lookup_method (kin_of c)) (method_key s)
    → (flags : ℕ) → Some flags ≡ option_map (λ m. m.flags) (method_in (method_key s) (file_of owner.file)) → IsRowIn (rows_in c) owner → Reaches d c i s owner flags
method_reached d c i s a kind is owner e flags has inside =
    let key = method_keyed s.name s.descriptor a.key is in
    record {
      cites = record { cited = ToMethod a.target a.key; found = a.refers; names = a.named };
      key = a.key;
      asks = refl;
      keyed = key.keyed;
      described = key.described;
      row = inside;
      has = ap (λ (o : Option Key). option_map (λ m. m.flags) (method_in o (file_of owner.file))) (sym is) ∙ sym has;
      worked = method_found (kin_of d) (kin_of c) (kin_at c owner) a.key (sym kind) (ap (option_and_then (lookup_method (kin_of c))) (sym is) ∙ sym e);
    }

pub no_interface_method : (d c : Lined) (i : ℕ) → (a : AsksInterfaceMethod d c i) → true ≡ is_interface (kin_of c).file → (key : Option Key) → key ≡ Some a.key → None ≡ option_and_then (lookup_interface_method (kin_of c)) key
    → LooksUp d c i (Err faults.NoSuchMethod)
no_interface_method d c i a kind key is e =
    fault_answers d c i (ToInterfaceMethod a.target a.key) faults.NoSuchMethod a.refers
    (interface_missing (kin_of d) (kin_of c) a.key (sym kind) (ap (option_and_then (lookup_interface_method (kin_of c))) (sym is) ∙ sym e)) tt

pub interface_method_reached : (d c : Lined) (i : ℕ) (s : Symbol) → (a : AsksInterfaceMethod d c i) → true ≡ is_interface (kin_of c).file → method_key s ≡ Some a.key → (owner : Rowed)
    → Some (kin_at c owner) ≡ option_and_then (lookup_interface_method (kin_of c)) (method_key s) → (flags : ℕ) → Some flags ≡ option_map (λ m. m.flags) (method_in (method_key s) (file_of owner.file)) → IsRowIn (rows_in c) owner → Reaches d c i s owner flags
interface_method_reached d c i s a kind is owner e flags has inside =
    let key = method_keyed s.name s.descriptor a.key is in
    record {
      cites = record { cited = ToInterfaceMethod a.target a.key; found = a.refers; names = a.named };
      key = a.key;
      asks = refl;
      keyed = key.keyed;
      described = key.described;
      row = inside;
      has = ap (λ (o : Option Key). option_map (λ m. m.flags) (method_in o (file_of owner.file))) (sym is) ∙ sym has;
      worked = interface_found (kin_of d) (kin_of c) (kin_at c owner) a.key (sym kind) (ap (option_and_then (lookup_interface_method (kin_of c))) (sym is) ∙ sym e);
    }
