-- Supertypes with the loaders that defined them, and frames that accept one more.
use Rattle.std.proofs.Common.{◌≡◌, ◌<◌, ◌≤◌, ◌+◌, ◌∙◌, ℕ, suc, List, [], ◌∷◌, ◌++◌, length, Option, Some, None, slice_get, refl, ap, subst, sym, arith, length-append}
use Rattle.std.specs.Prelude.{IsSome, IfSome}
use Rattle.std.specs.Option.{option_map}
use Rattle.std.proofs.lemmas.Option.{slice_get_within}
use Rattle.cl_classfile.specs.Files.{Name, file_of}
use Rattle.cl_model.specs.declared.class.Class.{Class}
use Rattle.cl_model.specs.Classes.{class, Above, supers}
use Rattle.cl_model.specs.Frames.{Frame, NamedAs, wanted_supertype, with_accepted}
use Rattle.cl_hierarchy.specs.Drafts.{Drafted}
use Rattle.cl_hierarchy.specs.Frames.{Framed, accepted_of, frame_of, with_definer}
use Rattle.cl_hierarchy.specs.Paths.{fresh}

-- as many classes as definers, while there are supertypes for them
pub as_many : (others : List Above) (definers : List ℕ) → length definers ≤ length others → length (accepted_of others definers) ≡ length definers
as_many [] [] h = refl
as_many [] (p ∷ definers) h = absurd (omega arith)
as_many (a ∷ others) [] h = refl
as_many (a ∷ others) (p ∷ definers) h = ap suc (as_many others definers (omega arith))

-- they have the names of the supertypes
pub named_as : (others : List Above) (definers : List ℕ) → NamedAs (accepted_of others definers) others
named_as [] definers = tt
named_as (a ∷ others) [] = tt
named_as (a ∷ others) (p ∷ definers) = (refl, named_as others definers)

pub none_yet : (others : List Above) → accepted_of others [] ≡ []
none_yet [] = refl
none_yet (a ∷ others) = refl

-- a draft that has accepted nothing wants the first
pub fresh_wants : (d : Drafted) → wanted_supertype (frame_of (fresh d)) ≡ slice_get (supers (file_of d.file)) 0
fresh_wants d = ap (λ (ts : List Class). slice_get (supers (file_of d.file)) (length ts)) (none_yet (supers (file_of d.file)))

-- one definer more is one class more, of the name that comes next
one_more : (others : List Above) (definers : List ℕ) (definer : ℕ) (a : Above) → slice_get others (length (accepted_of others definers)) ≡ Some a → accepted_of others (definers ++ definer ∷ []) ≡ accepted_of others definers ++ class a.name definer ∷ []
one_more [] definers definer a h = absurd cc
one_more (b ∷ others) [] definer a h = let same : b ≡ a = cc in ap (λ (cs : List Class). class b.name definer ∷ cs) (none_yet others) ∙ ap (λ (x : Above). class x.name definer ∷ []) same
one_more (b ∷ others) (p ∷ definers) definer a h = ap (λ (cs : List Class). class b.name p ∷ cs) (one_more others definers definer a h)

some_within : (others : List Above) (k : ℕ) (o : Option Above) → slice_get others k ≡ o → IsSome o → k < length others
some_within others k None h s = absurd cc
some_within others k (Some a) h s = slice_get_within others k a h

-- where a supertype is left, there is room for its definer
pub one_fits : (others : List Above) (definers : List ℕ) (definer : ℕ) → length definers ≤ length others → IsSome (slice_get others (length (accepted_of others definers))) → length (definers ++ definer ∷ []) ≤ length others
one_fits others definers definer h s =
    let below : length (accepted_of others definers) < length others = some_within others (length (accepted_of others definers)) (slice_get others (length (accepted_of others definers))) refl s in
    let same : length (accepted_of others definers) ≡ length definers = as_many others definers h in
    let more : length (definers ++ definer ∷ []) ≡ length definers + 1 = length-append definers (definer ∷ []) in
    omega arith

-- a frame accepts the supertype that comes next
pub accepts_one : (x new : Framed) (definer : ℕ) → new ≡ with_definer x definer → (o : Option Above) → wanted_supertype (frame_of x) ≡ o → IfSome o (λ a. frame_of new ≡ with_accepted (frame_of x) (class a.name definer))
accepts_one x new definer e None h = tt
accepts_one x new definer e (Some a) h =
    ap frame_of e ∙ ap (λ (cs : List Class). let f : Frame = record { class = x.draft.class; file = file_of x.draft.file; accepted = cs } in f) (one_more (supers (file_of x.draft.file)) x.definers definer a h)

-- a draft with definers
abbrev pub held : Drafted → List ℕ → Framed
held d definers = record { draft = d; definers = definers }

next_wanted : (others : List Above) (definers : List ℕ) (definer : ℕ) → length definers ≤ length others → IsSome (slice_get others (length (accepted_of others definers)))
    → slice_get others (length definers + 1) ≡ slice_get others (length (accepted_of others (definers ++ definer ∷ [])))
next_wanted others definers definer h s =
    let same : length (accepted_of others (definers ++ definer ∷ [])) ≡ length (definers ++ definer ∷ []) = as_many others (definers ++ definer ∷ []) (one_fits others definers definer h s) in
    let more : length (definers ++ definer ∷ []) ≡ length definers + 1 = length-append definers (definer ∷ []) in
    ap (λ (n : ℕ). slice_get others n) (sym more ∙ sym same)

-- the name of the supertype after the one that comes next
pub next_name : (x y : Framed) (len definer : ℕ) (o : Option Above) → o ≡ slice_get (supers (file_of x.draft.file)) (len + 1) → len ≡ length x.definers → length x.definers ≤ length (supers (file_of x.draft.file))
    → x ≡ y → IsSome (wanted_supertype (frame_of y)) → (let names : Option Above → Option Name = option_map (λ a. a.name) in names o) ≡ option_map (λ a. a.name) (wanted_supertype (frame_of (with_definer y definer)))
next_name x y len definer o is counted h same s =
    let waits : IsSome (wanted_supertype (frame_of x)) = subst (λ (z : Framed). IsSome (wanted_supertype (frame_of z))) (sym same) s in
    let next : o ≡ wanted_supertype (frame_of (with_definer x definer)) = is ∙ ap (λ (n : ℕ). slice_get (supers (file_of x.draft.file)) (n + 1)) counted ∙ next_wanted (supers (file_of x.draft.file)) x.definers definer h waits in
    ap (λ (a : Option Above). let names : Option Above → Option Name = option_map (λ a. a.name) in names a) (next ∙ ap (λ (z : Framed). wanted_supertype (frame_of (with_definer z definer))) same)
