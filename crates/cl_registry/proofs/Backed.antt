-- What the tables bear under any source, and what may be posted of what is settled.
use Rattle.std.proofs.Common.{◌≡◌, ◌<◌, inl, inr, ℕ, Bool, true, false, List, [], ◌∷◌, Some, length, refl, sym, subst, if◌then◌else◌}
use Rattle.std.specs.Prelude.{find, ◌==◌, ◌&&◌}
use Rattle.std.specs.List.{AllByRecursion}
use Rattle.std.proofs.lemmas.List.Elements.{recursion_from_All}
use Rattle.cl_classfile.specs.Files.{Name}
use Rattle.cl_model.specs.declared.class.Class.{Class}
use Rattle.cl_model.specs.declared.request.Request.{Request}
use Rattle.cl_model.specs.declared.request.Request.TheVariants as requests
use Rattle.cl_model.specs.declared.settled.Settled.{Settled}
use Rattle.cl_model.specs.Classes.{class, same_class}
use Rattle.cl_model.specs.Texts.{VerdictNames}
use Rattle.cl_model.specs.States.{Answer, IsLinked, Said}
use Rattle.cl_model.specs.Tables.{BearsAnswer}
use Rattle.cl_model.specs.Views.{answer_of, request_of}
use Rattle.cl_findings.specs.Findings.{Answered, loader_of}
use Rattle.cl_registry.specs.Tables.{Shown, state_of, settlements, settled_at, NamesLoaders}
use Rattle.cl_registry.specs.Posting.{AnswerFits}
use Rattle.cl_registry.specs.SettlingLaws.{FittingIsBorne, PostedLinkIsPrepared, PostedIsSettled, SettledIsBacked}
use Rattle.cl_registry.proofs.Cited.{settled_by_in, settled_cited_by}
use Rattle.cl_registry.proofs.Named.{record_is_named}
use Rattle.cl_registry.proofs.Posted.{borne}

-- ---- what is posted

pub fitting_is_borne : FittingIsBorne
fitting_is_borne x q f fits = borne x f f.answer fits.backed.answer

said_borne : (x : Shown) (q : ℕ) (f : Answered) (r : Request) (a : Answer) → AnswerFits x q f → f.request ≡ r → answer_of f.answer ≡ a → BearsAnswer (state_of x) (request_of r) a
said_borne x q f r a fits is said = subst (λ (b : Answer). BearsAnswer (state_of x) (request_of r) b) said (subst (λ (s : Request). BearsAnswer (state_of x) (request_of s) (answer_of f.answer)) is (fitting_is_borne x q f fits))

pub posted_is_settled : PostedIsSettled
posted_is_settled x q f loader place i name v fits is at said entry member =
    elim (said_borne x q f (requests.Resolve loader name i) (Said v) fits is said (class name place) (refl, at)) [
      | inl e ↦ absurd (entry e)
      | inr more ↦ elim more [ inl e ↦ absurd (member e) | inr e ↦ e ]
    ]

pub linked_is_prepared : PostedLinkIsPrepared
linked_is_prepared x q f loader name c fits is said = said_borne x q f (requests.Link loader name) (Said (IsLinked c)) fits is said c refl

-- ---- what is settled

found_in : (P : Settled → Type 0) (xs : List Settled) (c : Class) (i : ℕ) (s : Settled) → AllByRecursion P xs → find (λ t. same_class t.class c && (t.index == i)) xs ≡ Some s → P s
found_in P [] c i s all e = absurd cc
found_in P (x ∷ xs) c i s all e = at (same_class x.class c && (x.index == i)) e (found_in P xs c i s all.1)
  where
    at : (b : Bool) → (if b then Some x else find (λ t. same_class t.class c && (t.index == i)) xs) ≡ Some s → (find (λ t. same_class t.class c && (t.index == i)) xs ≡ Some s → P s) → P s
    at true h ih = let same : x ≡ s = cc in subst P same all.0
    at false h ih = ih h

-- the verdicts that are settled name loaders that there are
pub settled_named : (x : Shown) (c : Class) (i : ℕ) (s : Settled) → NamesLoaders x → settled_at x c i ≡ Some s → VerdictNames (length x.config.loaders) s.verdict
settled_named x c i s named e =
    found_in (λ t. VerdictNames (length x.config.loaders) t.verdict) (settlements x.history) c i s (recursion_from_All (λ t. VerdictNames (length x.config.loaders) t.verdict) (settlements x.history) named.settled) e

pub settled_is_backed : SettledIsBacked
settled_is_backed told x r s k at =
    let e = settled_cited_by x r s.value at in
    let is = settled_by_in x r s.value at in
    record {
      within = record {
        loader = loader_here x r e.loader s.value.class.name s.value.index e.request (record_is_named x e.loader s.value.class.loader s.value.class.name k.named e.recorded).0;
        answer = settled_named x s.value.class s.value.index s.value k.named is.entry;
      };
      answer = at;
    }
  where
    loader_here : (x : Shown) (r : Request) (l : ℕ) (n : Name) (i : ℕ) → r ≡ requests.Resolve l n i → l < length x.config.loaders → loader_of r < length x.config.loaders
    loader_here x r l n i is below = subst (λ (q : Request). loader_of q < length x.config.loaders) (sym is) below
