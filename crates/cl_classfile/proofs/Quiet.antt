-- Behind the header no fault of the header is found.
use Rattle.std.proofs.Common.{◌≡◌, ℕ, zero, suc, ◌+◌, ◌-◌, Bool, true, false, cond, eqb, leb, ltb, ◌&&◌, List, [], ◌∷◌, ◌++◌, length, map, Result, Ok, Err, refl, sym, ap, ◌∙◌}
use Rattle.std.specs.Int.{Width, w16, w32, w64, byte_len}
use Rattle.std.specs.List.{list_any}
use Rattle.cl_classfile.specs.declared.entry.Entry.{Entry}
use Rattle.cl_classfile.specs.declared.entry.Entry.TheVariants.{Unusable}
use Rattle.cl_classfile.specs.declared.fault.Fault.{Fault}
use Rattle.cl_classfile.specs.declared.fault.Fault.TheVariants as faults
use Rattle.cl_classfile.specs.declared.version.Version.{Version}
use Rattle.cl_classfile.specs.declared.fault.Fault.TheVariants.{BadMagic, Truncated, Trailing, BadPool, BadFlags, BadMember, Duplicate, BadSupertype}
use Rattle.cl_classfile.specs.Flags.{has, interface, is_class_flags}
use Rattle.cl_classfile.specs.declared.members.Kind.{Kind}
use Rattle.cl_classfile.specs.declared.members.Kind.TheVariants as kinds
use Rattle.cl_classfile.specs.Structure.{owner_of, Structure, MemberInfo, Attribute}
use Rattle.cl_classfile.specs.Widths.{is_short, all_fit, attribute_fits}
use Rattle.cl_classfile.specs.Tags as tags
use Rattle.cl_classfile.specs.Files.{class_name}
use Rattle.cl_classfile.specs.Rows.{entry_traits, keeps_entry}
use Rattle.cl_names.specs.Steps.{◌>>=◌}
use Rattle.cl_classfile.specs.Checking.{kept_entry, checked_entries, keeps_names, keeps_interfaces, checked_class, keeps_member, same_member, checked_members, checked_list, checked_tables, kept_file}
use Rattle.cl_classfile.specs.Reading.{Reader, number_at, bytes_at, then_at, test_at, map_at, sized_at, many_at, counted_at, header_at, utf8_at, byte_at, signed_at, two_at, handle_at, wide_at, tagged_at, entry_at, slot_at, next_place, entries_at, pool_at, class_at, interfaces_at, attribute_at, attributes_at, member_at, members_at, tables_at, FileParts, parts_at, structure_of, structure_at, whole_of, read_of}
use Rattle.cl_classfile.proofs.Judging.{differ}

-- the header's own faults
abbrev pub is_header : Fault → Bool
is_header BadMagic = true
is_header faults.Version = true
is_header Truncated = false
is_header Trailing = false
is_header (BadPool i) = false
is_header BadFlags = false
is_header BadMember = false
is_header Duplicate = false
is_header BadSupertype = false

-- a result whose fault, if it is one, is none of the header's
pub record IsQuiet {A : Type 0} (r : Result A Fault) : Type 0 where
  pub quiet : (f : Fault) → r ≡ Err f → is_header f ≡ false

err_is : {A : Type 0} (f g : Fault) → (let r : Result A Fault = Err f in r) ≡ Err g → f ≡ g
err_is f g e = cc

ok : {A : Type 0} (x : A) → IsQuiet (let r : Result A Fault = Ok x in r)
ok x = record { quiet = λ f e. absurd cc }

err : {A : Type 0} (g : Fault) → is_header g ≡ false → IsQuiet (let r : Result A Fault = Err g in r)
err g h = record { quiet = λ f e. ap is_header (sym (err_is g f e)) ∙ h }

choice : {A : Type 0} (b : Bool) (x y : Result A Fault) → IsQuiet x → IsQuiet y → IsQuiet (cond b x y)
choice true x y p q = p
choice false x y p q = q

bind : {A B : Type 0} (r : Result A Fault) (f : A → Result B Fault) → IsQuiet r → ((x : A) → IsQuiet (f x)) → IsQuiet (r >>= f)
bind (Ok x) f p q = q x
bind (Err e) f p q = err e (p.quiet e refl)

-- ---- readers

abbrev Quiet : {A : Type 0} → Reader A → Type 0
Quiet r = (bytes : List ℕ) → IsQuiet (r bytes)

number : (w : Width) → Quiet (number_at w)
number w bytes = choice (ltb (length bytes) (byte_len w)) (Err Truncated) _ (err Truncated refl) (ok _)

those : (n : ℕ) → Quiet (bytes_at n)
those n bytes = choice (ltb (length bytes) n) (Err Truncated) _ (err Truncated refl) (ok _)

also : {A B : Type 0} (r : Reader A) (q : A → Reader B) → Quiet r → ((a : A) → Quiet (q a)) → Quiet (then_at r q)
also r q p k bytes = bind (r bytes) _ (p bytes) (λ x. bind (q x.0 x.1) _ (k x.0 x.1) (λ y. ok _))

tested : {A : Type 0} (r : Reader A) (test : A → Bool) (g : Fault) → is_header g ≡ false → Quiet r → Quiet (test_at r test g)
tested r test g h p bytes = bind (r bytes) _ (p bytes) (λ x. choice (test x.0) (Ok x) (Err g) (ok x) (err g h))

seen : {A B : Type 0} (r : Reader A) (view : A → B) → Quiet r → Quiet (map_at r view)
seen r view p bytes = bind (r bytes) _ (p bytes) (λ x. ok _)

many : {C A : Type 0} (step : C → Reader A) (next : C → A → C) → ((c : C) → Quiet (step c)) → (n : ℕ) (c : C) → Quiet (many_at step next n c)
unfolding many_at
many step next p zero c bytes = ok _
many step next p (suc n) c bytes = bind (step c bytes) _ (p c bytes) (λ x. bind (many_at step next n (next c x.0) x.1) _ (many step next p n (next c x.0) x.1) (λ y. ok _))

counts : {A : Type 0} (r : Reader A) → Quiet r → Quiet (counted_at r)
counts r p bytes = bind (number_at w16 bytes) _ (number w16 bytes) (λ n. many {C = ℕ} (λ i. r) (λ i a. i) (λ i. p) n.0 0 n.1)

text : Quiet utf8_at
unfolding utf8_at
text bytes = bind (number_at w16 bytes) _ (number w16 bytes) (λ n. those n.0 n.1)

byte : Quiet byte_at
unfolding byte_at
byte [] = err Truncated refl
byte (b ∷ rest) = ok _

signed : (w : Width) → Quiet (signed_at w)
unfolding signed_at
signed w = seen (number_at w) _ (number w)

pair : Quiet two_at
unfolding two_at
pair = also (number_at w16) _ (number w16) (λ first. number w16)

handle : Quiet handle_at
unfolding handle_at
handle = also byte_at _ byte (λ kind. number w16)

wide : (n i : ℕ) (r : Reader Entry) → Quiet r → Quiet (wide_at n i r)
wide n i r p bytes = choice (ltb i n) (r bytes) (Err (BadPool i)) (p bytes) (err (BadPool i) refl)

entry : (n i : ℕ) → Quiet (entry_at n i)
unfolding entry_at tagged_at
entry n i [] = err Truncated refl
entry n i (tag ∷ rest) =
    choice (eqb tag tags.utf8) _ _ (seen utf8_at _ text rest)
    (choice (eqb tag tags.integer) _ _ (seen (signed_at w32) _ (signed w32) rest)
    (choice (eqb tag tags.float) _ _ (seen (number_at w32) _ (number w32) rest)
    (choice (eqb tag tags.long) _ _ (wide n i _ (seen (signed_at w64) _ (signed w64)) rest)
    (choice (eqb tag tags.double) _ _ (wide n i _ (seen (number_at w64) _ (number w64)) rest)
    (choice (eqb tag tags.class) _ _ (seen (number_at w16) _ (number w16) rest)
    (choice (eqb tag tags.string) _ _ (seen (number_at w16) _ (number w16) rest)
    (choice (eqb tag tags.fieldref) _ _ (seen two_at _ pair rest)
    (choice (eqb tag tags.methodref) _ _ (seen two_at _ pair rest)
    (choice (eqb tag tags.interface_methodref) _ _ (seen two_at _ pair rest)
    (choice (eqb tag tags.name_and_type) _ _ (seen two_at _ pair rest)
    (choice (eqb tag tags.method_handle) _ _ (seen handle_at _ handle rest)
    (choice (eqb tag tags.method_type) _ _ (seen (number_at w16) _ (number w16) rest)
    (choice (eqb tag tags.invoke_dynamic) _ _ (seen two_at _ pair rest) (err (BadPool i) refl))))))))))))))

slot : (n : ℕ) (place : ℕ × Bool) → Quiet (slot_at n place)
unfolding slot_at
slot n place bytes = choice place.1 (Ok (Unusable, bytes)) _ (ok _) (entry n place.0 bytes)

pool : Quiet pool_at
unfolding pool_at entries_at
pool bytes = bind (test_at (number_at w16) (λ n. leb 1 n) (BadPool 0) bytes) _ (tested (number_at w16) _ (BadPool 0) refl (number w16) bytes) (λ n. many (slot_at (n.0 - 1)) next_place (slot (n.0 - 1)) (n.0 - 1) (1, false) n.1)

class : Quiet class_at
unfolding class_at two_at
class = also (number_at w16) _ (number w16) (λ flags. also (number_at w16) _ (number w16) (λ this. number w16))

sized : (w : Width) → Quiet (sized_at w)
sized w bytes = bind (number_at w bytes) _ (number w bytes) (λ n. those n.0 n.1)

attribute : Quiet attribute_at
unfolding attribute_at
attribute = seen (then_at (number_at w16) (λ name. sized_at w32)) _ (also (number_at w16) _ (number w16) (λ name. sized w32))

attributes : Quiet attributes_at
unfolding attributes_at
attributes = counts attribute_at attribute

member : Quiet member_at
unfolding member_at
member =
    seen (then_at (number_at w16) (λ flags. then_at (number_at w16) (λ name. then_at (number_at w16) (λ descriptor. attributes_at)))) _
    (also (number_at w16) _ (number w16) (λ flags. also (number_at w16) _ (number w16) (λ name. also (number_at w16) _ (number w16) (λ descriptor. attributes))))

members : Quiet members_at
unfolding members_at
members = counts member_at member

tables : Quiet tables_at
unfolding tables_at
tables = also members_at _ members (λ fields. also members_at _ members (λ methods. attributes))

interfaces : Quiet interfaces_at
unfolding interfaces_at
interfaces = counts (number_at w16) (number w16)

-- ---- tables

rows : (major : ℕ) (entries : List Entry) (i : ℕ) (es : List Entry) → IsQuiet (checked_entries major entries i es)
unfolding checked_entries
rows major entries i [] = ok tt
rows major entries i (e ∷ es) = bind (kept_entry major entries i e) _ (choice (keeps_entry major (map entry_traits entries) entries e) (Ok e) (Err (BadPool i)) (ok e) (err (BadPool i) refl)) (λ x. rows major entries (i + 1) es)

class_tables : (f : Structure) → IsQuiet (checked_class f.version.major f.pool f.flags f.this_class f.super_class f.interfaces)
class_tables f =
    choice (is_short f.flags && is_class_flags f.version.major f.flags) _ (Err BadFlags)
    (choice (keeps_names f.pool (has f.flags interface) f.super_class (class_name f.pool f.this_class) && keeps_interfaces f.pool f.interfaces) (Ok tt) (Err BadSupertype) (ok tt) (err BadSupertype refl)) (err BadFlags refl)

each_member : (keeps : MemberInfo → Bool) (entries : List Entry) (before ms : List MemberInfo) → IsQuiet (checked_members keeps entries before ms)
unfolding checked_members
each_member keeps entries before [] = ok tt
each_member keeps entries before (m ∷ ms) =
    choice (keeps m) _ (Err BadMember)
    (choice (list_any (λ e. same_member entries e m) before) (Err Duplicate) _ (err Duplicate refl) (each_member keeps entries (before ++ m ∷ []) ms)) (err BadMember refl)

all_members : (kind : Kind) (f : Structure) (ms : List MemberInfo) → IsQuiet (checked_list kind (map entry_traits f.pool) (owner_of f) f.pool ms)
unfolding checked_list
all_members kind f ms = choice (is_short (length ms)) _ (Err BadMember) (each_member (keeps_member kind (map entry_traits f.pool) (owner_of f)) f.pool [] ms) (err BadMember refl)

tables_checked : (f : Structure) → IsQuiet (checked_tables (map entry_traits f.pool) f.pool f)
unfolding checked_tables
tables_checked f =
    bind (checked_class f.version.major f.pool f.flags f.this_class f.super_class f.interfaces) _ (class_tables f) (λ class.
    bind (checked_list kinds.Field (map entry_traits f.pool) (owner_of f) f.pool f.fields) _ (all_members kinds.Field f f.fields) (λ fields.
    bind (checked_list kinds.Method (map entry_traits f.pool) (owner_of f) f.pool f.methods) _ (all_members kinds.Method f f.methods) (λ methods.
    choice (all_fit attribute_fits f.attributes) (Ok tt) (Err BadMember) (ok tt) (err BadMember refl))))

file : (f : Structure) → IsQuiet (kept_file f)
unfolding kept_file
file f = bind (checked_entries f.version.major f.pool 1 f.pool) _ (rows f.version.major f.pool 1 f.pool) (λ entries. bind (checked_tables (map entry_traits f.pool) f.pool f) _ (tables_checked f) (λ tables. ok f))

-- ---- the whole

rest_at : Reader (List Entry × ((ℕ × (ℕ × ℕ)) × (List ℕ × (List MemberInfo × (List MemberInfo × List Attribute)))))
rest_at = then_at pool_at (λ pool. then_at class_at (λ class. then_at interfaces_at (λ interfaces. tables_at)))

rest : Quiet rest_at
unfolding rest_at
rest = also pool_at _ pool (λ p. also class_at _ class (λ c. also interfaces_at _ interfaces (λ i. tables)))

-- what follows the header, and what is asked of it
abbrev Header : Type 0
Header = (ℕ × Version) × List ℕ

parts_behind : Header → Result (FileParts × List ℕ) Fault
parts_behind x = rest_at x.1 >>= λ y. Ok ((x.0, y.0), y.1)

structure_behind : Header → Result (Structure × List ℕ) Fault
structure_behind x = parts_behind x >>= λ p. Ok (structure_of p.0, p.1)

whole_behind : Header → Result Structure Fault
whole_behind x = structure_behind x >>= λ s. cond (eqb (length s.1) 0) (Ok s.0) (Err Trailing)

file_behind : Header → Result Structure Fault
file_behind x = whole_behind x >>= kept_file

behind : (x : Header) → IsQuiet (file_behind x)
unfolding parts_behind structure_behind whole_behind file_behind
behind x =
    let one : IsQuiet (parts_behind x) = bind (rest_at x.1) _ (rest x.1) (λ y. ok _) in
    let two : IsQuiet (structure_behind x) = bind (parts_behind x) _ one (λ p. ok _) in
    let three : IsQuiet (whole_behind x) = bind (structure_behind x) _ two (λ s. choice (eqb (length s.1) 0) (Ok s.0) (Err Trailing) (ok _) (err Trailing refl)) in
    bind (whole_behind x) kept_file three file

by_header : (bytes : List ℕ) (f : Fault) (r : Result ((ℕ × Version) × List ℕ) Fault) → is_header f ≡ true → read_of bytes ≡ Err f → header_at bytes ≡ r → header_at bytes ≡ Err f
unfolding read_of whole_of structure_at parts_at parts_behind structure_behind whole_behind file_behind rest_at
by_header bytes f (Ok x) h e is = let k : read_of bytes ≡ file_behind x = rw is refl in absurd (differ (is_header f) h ((behind x).quiet f (sym k ∙ e)))
by_header bytes f (Err g) h e is = let k : read_of bytes ≡ Err g = rw is refl in is ∙ ap (λ (d : Fault). Err d) (err_is g f (sym k ∙ e))

-- a fault of the header is found in the header
pub in_header : (bytes : List ℕ) (f : Fault) → is_header f ≡ true → read_of bytes ≡ Err f → header_at bytes ≡ Err f
in_header bytes f h e = by_header bytes f (header_at bytes) h e refl
