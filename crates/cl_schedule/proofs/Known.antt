-- What the tables have of a request is its answer from then on (JVMS SE 8, 5.3, 5.4.2, 5.4.3).
use Rattle.std.proofs.Common.{◌≡◌, ℕ, List, [], ◌∷◌, ◌++◌, Some}
use Rattle.std.specs.Prelude.{slice_get}
use Rattle.std.specs.List.{AllByRecursion}
use Rattle.cl_model.specs.States.{State, Verdict, Answer}
use Rattle.cl_model.specs.Plans.{Request, Load, Resolve, Link}
use Rattle.cl_model.specs.Machine.{Scheduled, Step, Post, after, state_after}
use Rattle.cl_model.proofs.Runs.{records_stay}
use Rattle.cl_model.proofs.Sound.{settled_stay, prepared_stay}
use Rattle.cl_model.proofs.Derived.{all_both}
use Rattle.cl_schedule.specs.Known.{HasVerdict, SaysOrLacks}
use Rattle.cl_schedule.specs.Serving.{IsPost, NoPosts}

-- what the tables have they keep
pub has_stays : (s : State) (es : List Step) (r : Request) (v : Verdict) → HasVerdict s r v → HasVerdict (state_after s es) r v
has_stays s es (Load loader name) v h = (h.0, (h.1.0, records_stay s es loader h.0.loader name h.1.1), h.2)
has_stays s es (Resolve loader name i) v h = (h.0, (h.1.0, records_stay s es loader h.0.loader name h.1.1), settled_stay s es h.0 i v h.2)
has_stays s es (Link loader name) v h = (h.0, (h.1.0, records_stay s es loader h.0.loader name h.1.1), (prepared_stay s es h.0 h.2.0, h.2.1))

-- a post of a request whose verdict a state has is of it, or tells that memory ran out
abbrev pub SaysKnown : List Scheduled → State → Step → Type 0
SaysKnown script s (Post q a) = (r : Scheduled) (v : Verdict) → slice_get script q ≡ Some r → HasVerdict s r.request v → SaysOrLacks v a
SaysKnown script s other = Unit {0}

-- each post says what the tables had of its request at a post before
abbrev pub KeepsKnown : List Scheduled → State → List Step → Type 0
KeepsKnown script s [] = Unit {0}
KeepsKnown script s (e ∷ es) = (IsPost e → AllByRecursion (SaysKnown script (after s e)) es) × KeepsKnown script (after s e) es

-- ---- more steps

says_before : (script : List Scheduled) (s : State) (es : List Step) (e : Step) → SaysKnown script (state_after s es) e → SaysKnown script s e
says_before script s es (Post q a) h = λ r v asked has. h r v asked (has_stays s es r.request v has)
says_before script s es other h = tt

all_before : (script : List Scheduled) (s : State) (es fs : List Step) → AllByRecursion (SaysKnown script (state_after s es)) fs → AllByRecursion (SaysKnown script s) fs
all_before script s es [] all = tt
all_before script s es (f ∷ fs) all = (says_before script s es f all.0, all_before script s es fs all.1)

known_then : (script : List Scheduled) (s : State) (xs ys : List Step) → KeepsKnown script s xs → AllByRecursion (SaysKnown script (state_after s xs)) ys → KeepsKnown script (state_after s xs) ys → KeepsKnown script s (xs ++ ys)
known_then script s [] ys k says more = more
known_then script s (x ∷ xs) ys k says more = (
  λ post. all_both (SaysKnown script (after s x)) xs ys (k.0 post) (all_before script (after s x) xs ys says),
  known_then script (after s x) xs ys k.1 says more,
)

quiet_says : (script : List Scheduled) (s : State) (e : Step) → (IsPost e → ⊥) → SaysKnown script s e
quiet_says script s (Post q a) no_post = absurd (no_post tt)
quiet_says script s other no_post = tt

quiet_all : (script : List Scheduled) (s : State) (es : List Step) → NoPosts es → AllByRecursion (SaysKnown script s) es
quiet_all script s [] none = tt
quiet_all script s (e ∷ es) none = (quiet_says script s e none.0, quiet_all script s es none.1)

quiet_keeps : (script : List Scheduled) (s : State) (es : List Step) → NoPosts es → KeepsKnown script s es
quiet_keeps script s [] none = tt
quiet_keeps script s (e ∷ es) none = (λ post. absurd (none.0 post), quiet_keeps script (after s e) es none.1)

piece_keeps : (script : List Scheduled) (s : State) (es : List Step) (q : ℕ) (a : Answer) → NoPosts es → KeepsKnown script s (es ++ Post q a ∷ [])
piece_keeps script s [] q a none = (λ post. tt, tt)
piece_keeps script s (e ∷ es) q a none = (λ post. absurd (none.0 post), piece_keeps script (after s e) es q a none.1)

-- after a piece, whose post says what was known before it
pub known_piece : (script : List Scheduled) (s : State) (xs es : List Step) (q : ℕ) (a : Answer) → KeepsKnown script s xs → NoPosts es → SaysKnown script (state_after s xs) (Post q a) → KeepsKnown script s (xs ++ (es ++ Post q a ∷ []))
known_piece script s xs es q a k none says =
    let t = state_after s xs in
    known_then script s xs (es ++ Post q a ∷ []) k
    (all_both (SaysKnown script t) es (Post q a ∷ []) (quiet_all script t es none) (says, tt))
    (piece_keeps script t es q a none)

-- after steps that are no posts
pub known_quiet : (script : List Scheduled) (s : State) (xs es : List Step) → KeepsKnown script s xs → NoPosts es → KeepsKnown script s (xs ++ es)
known_quiet script s xs es k none =
    let t = state_after s xs in
    known_then script s xs es k (quiet_all script t es none) (quiet_keeps script t es none)

-- ---- what that says of two posts

says_at : (P : Step → Type 0) (xs ys : List Step) (e : Step) → AllByRecursion P (xs ++ e ∷ ys) → P e
says_at P [] ys e all = all.0
says_at P (x ∷ xs) ys e all = says_at P xs ys e all.1

pub known_at : (script : List Scheduled) (s : State) (before between behind : List Step) (p q : ℕ) (b a : Answer) (r : Scheduled) (v : Verdict) → KeepsKnown script s (before ++ Post p b ∷ (between ++ Post q a ∷ behind)) → slice_get script q ≡ Some r
    → HasVerdict (state_after s before) r.request v → SaysOrLacks v a
known_at script s [] between behind p q b a r v k asked has =
    says_at (SaysKnown script (after s (Post p b))) between behind (Post q a) (k.0 tt) r v asked (has_stays s (Post p b ∷ []) r.request v has)
known_at script s (e ∷ before) between behind p q b a r v k asked has = known_at script (after s e) before between behind p q b a r v k.1 asked has
