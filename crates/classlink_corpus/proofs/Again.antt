-- Whether a listing is assembled to one that lists the same.
use Rattle.std.proofs.Common.{◌≡◌, ℕ, List, Result, Ok, Err, sym, ap, subst, ◌∙◌}
use Rattle.std.specs.Prelude.{◌≢◌, Bool, true, false}
use Rattle.cl_lines.specs.Lines.{Numbered, stated_lines}
use Rattle.cl_classfile.specs.Structure.{Structure}
use Rattle.cl_writer.specs.declared.fault.AssembleFault.{AssembleFault}
use Rattle.cl_writer.specs.declared.fault.AssembleFault.TheVariants.{Memory}
use Rattle.cl_writer.specs.Assembled.{AssembleOf}
use Rattle.cl_writer.specs.Listings.{listing_of}
use Rattle.classlink_corpus.specs.Rounds.{ListsAgain}
use Rattle.cl_names.specs.Truth.{Decides}

-- out of memory apart, a text is assembled to one answer
abbrev pub OneAnswer : Type 0
OneAnswer = (lines : List Numbered) (r s : Result Structure AssembleFault) → AssembleOf lines r → AssembleOf lines s → r ≢ Err Memory → s ≢ Err Memory → r ≡ s

no_memory : (f : Structure) → ◌≢◌ {A = Result Structure AssembleFault} (Ok f) (Err Memory)
no_memory f e = absurd cc

one_file : (f g : Structure) → ◌≡◌ {A = Result Structure AssembleFault} (Ok f) (Ok g) → f ≡ g
one_file f g e = cc

file_or_fault : (e : AssembleFault) (g : Structure) → ◌≡◌ {A = Result Structure AssembleFault} (Err e) (Ok g) → ⊥
file_or_fault e g h = absurd cc

of_listing : (text : List ℕ) (f : Structure) (r : Result Structure AssembleFault) → text ≡ listing_of f → AssembleOf (stated_lines text) r → AssembleOf (stated_lines (listing_of f)) r
of_listing text f r same of = subst (λ (t : List ℕ). AssembleOf (stated_lines t) r) same of

-- a listing that is refused is assembled to no file
pub none_again : (one : OneAnswer) (text : List ℕ) (f : Structure) (e : AssembleFault) → text ≡ listing_of f → AssembleOf (stated_lines text) (Err e) → ◌≢◌ {A = Result Structure AssembleFault} (Err e) (Err Memory) → ListsAgain f → ⊥
none_again one text f e same of told again =
    file_or_fault e again.0 (one (stated_lines (listing_of f)) (Err e) (Ok again.0) (of_listing text f (Err e) same of) again.1 told (no_memory again.0))

-- one that is assembled to a file comes back where that lists the same
pub again_or_not : (one : OneAnswer) (text first other : List ℕ) (f g : Structure) (same : Bool) → text ≡ listing_of f → first ≡ listing_of f → other ≡ listing_of g → AssembleOf (stated_lines text) (Ok g) → Decides same (other ≡ first) → Decides same (ListsAgain f)
again_or_not one text first other f g true is was so of same = (g, of_listing text f (Ok g) is of, sym so ∙ same ∙ was)
again_or_not one text first other f g false is was so of differs = λ again.
    differs (so ∙ ap listing_of (one_file g again.0 (one (stated_lines (listing_of f)) (Ok g) (Ok again.0) (of_listing text f (Ok g) is of) again.1 (no_memory g) (no_memory again.0))) ∙ again.2 ∙ sym was)
