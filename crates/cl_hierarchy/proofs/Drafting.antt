-- A home whose bytes spell the file of its name is a class.
use Rattle.std.proofs.Common.{◌≡◌, ◌<◌, ◌≤◌, ◌+◌, ◌^◌, ℕ, suc, List, [], ◌∷◌, map, length, Option, Some, None, Ok, subst, sym, arith, length-append}
use Rattle.std.specs.List.{filter_map, cons_option}
use Rattle.std.specs.Prelude.{option_to_list}
use Rattle.std.proofs.lemmas.List.{length-map}
use Rattle.cl_model.specs.Classes.{Above, Role, AsSuperclass, AsSuperinterface, supers, superclass_of, superinterfaces_of}
use Rattle.cl_classfile.specs.Structure.{Structure, AreBytes}
use Rattle.cl_classfile.specs.Reading.{read_of}
use Rattle.cl_classfile.proofs.Exact.{each_byte, read_takes, read_again}
use Rattle.cl_classfile.specs.Files.{class_name, file_of}
use Rattle.cl_model.specs.Content.{Content}
use Rattle.cl_source.specs.Told.{IsTold}
use Rattle.cl_delegation.specs.Searches.{Located, LeadsTo}
use Rattle.cl_hierarchy.specs.Drafts.{Drafted, ByGrammar, IsSpelt, IsDraft}

-- a class of this name and loader, of this file and home
abbrev pub drafted : List ℕ → ℕ → Structure → Located → Drafted
drafted name loader f home = record { class = record { name = name; loader = loader }; file = f; home = home }

-- a supertype by its name and role
abbrev above : List ℕ → Role → Above
above n role = record { name = n; role = role }

-- the reader of lists gives what bytes spell by the grammar
pub grammar_read : (bytes : List ℕ) (f : Structure) → ByGrammar bytes f → read_of bytes ≡ Ok f
unfolding ByGrammar
grammar_read bytes f h = read_again bytes f h

-- and of bytes nothing else
pub read_grammar : (bytes : List ℕ) (f : Structure) → AreBytes bytes → read_of bytes ≡ Ok f → ByGrammar bytes f
unfolding ByGrammar
read_grammar bytes f are h = read_takes bytes f (each_byte bytes are) h

is_spelt : (told : Option Content) (name : List ℕ) (loader : ℕ) (bytes : List ℕ) (f : Structure) → IsTold told loader name (Some bytes) → ByGrammar bytes f → (file_of f).name ≡ name
    → IsSpelt told (record { name = name; loader = loader }) f
is_spelt told name loader bytes f said spells named = record { bytes = bytes; told_so = said; spells = spells; named = named }

-- what was read of the home, and kept of its name, of the file and of the home itself
pub is_draft_of : (told : Option Content) (name : List ℕ) (loader : ℕ) (kept f : Structure) (held home : Located) → name ≡ home.name → loader ≡ home.definer → kept ≡ f → held ≡ home
    → IsTold told home.definer home.name (Some home.bytes) → ByGrammar home.bytes f → (file_of f).name ≡ home.name → LeadsTo told home.config home.asked home.name (Some home.definer) → home.definer < length home.config.loaders
    → IsDraft told (drafted name loader kept held)
is_draft_of told name loader kept f held home q p r h said spells named leads within =
    let is : IsDraft told (drafted home.name home.definer f home) = record { placed = cc; spelt = is_spelt told home.name home.definer home.bytes f said spells named; leads = leads; within = within } in
    let of_name : IsDraft told (drafted name home.definer f home) = subst (λ (n : List ℕ). IsDraft told (drafted n home.definer f home)) (sym q) is in
    let of_loader : IsDraft told (drafted name loader f home) = subst (λ (l : ℕ). IsDraft told (drafted name l f home)) (sym p) of_name in
    let of_file : IsDraft told (drafted name loader kept home) = subst (λ (k : Structure). IsDraft told (drafted name loader k home)) (sym r) of_loader in
    subst (λ (k : Located). IsDraft told (drafted name loader kept k)) (sym h) of_file

-- ---- how many supertypes

one_or_none : (o : Option (List ℕ)) (xs : List (List ℕ)) (n : ℕ) → length xs ≤ n → length (cons_option o xs) ≤ suc n
one_or_none None xs n h = omega (arith, h)
one_or_none (Some x) xs n h = omega (arith, h)

fewer_kept : (h : ℕ → Option (List ℕ)) (is : List ℕ) → length (filter_map h is) ≤ length is
fewer_kept h [] = omega arith
fewer_kept h (i ∷ is) = one_or_none (h i) (filter_map h is) (length is) (fewer_kept h is)

one_above : (o : Option (List ℕ)) → length (map (λ (n : List ℕ). above n AsSuperclass) (option_to_list o)) ≤ 1
one_above None = omega arith
one_above (Some x) = omega arith

-- a class has one superclass at most, and as many superinterfaces as a slice has indices
pub few_supers : (f : Structure) → length f.interfaces < 2 ^ 64 → length (supers (file_of f)) ≤ 2 ^ 64
few_supers f h =
    let all : length (supers (file_of f)) ≡ length (superclass_of (file_of f)) + length (superinterfaces_of (file_of f)) = length-append (superclass_of (file_of f)) (superinterfaces_of (file_of f)) in
    let some : length (superinterfaces_of (file_of f)) ≡ length (file_of f).interfaces = length-map (file_of f).interfaces (λ n. above n AsSuperinterface) in
    let one : length (superclass_of (file_of f)) ≤ 1 = one_above (file_of f).super_name in
    let fewer : length (file_of f).interfaces ≤ length f.interfaces = fewer_kept (class_name f.pool) f.interfaces in
    omega (arith, all, some, one, fewer, h)
