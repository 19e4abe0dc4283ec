-- Requests served one after another: what a history holds of each (what is wanted is that of JVMS SE 8, 5.3 to 5.4.3).
use Rattle.std.specs.Prelude.{◌≡◌, ◌⊎◌, ℕ, suc, List, [], ◌∷◌, ◌++◌, map, flat_map, Option, Some, None, Contains}
use Rattle.std.specs.List.{AllByRecursion}
use Rattle.cl_model.specs.Homes.{World}
use Rattle.cl_model.specs.declared.class.Class.{Class}
use Rattle.cl_model.specs.Lineages.{Kin, lineage}
use Rattle.cl_model.specs.Preparation.{constraints_of}
use Rattle.cl_model.specs.States.{State, Need, Verdict, Answer, IfSaid, Met, AllMet, Refused, MayAdd, IsNext, StandsAfter}
use Rattle.cl_model.specs.Plans.{Request, Load, Resolve, Link, Plan, plan_needs}
use Rattle.cl_model.specs.Machine.{Setting, Scheduled, Step, Settle, Prepare, Post, NextRound, HasLineage, IsPlan, IsPastLoad, MaySettle, MaySay, MayGoOn, Along, after, state_after, step_for}

-- ---- wants

-- what a request wants in turn: that a need stands (5.3, 5.3.4), or that a class is prepared (5.4.2)
pub data Want : Type 0 where
  ToStand : (need : Need) → Want
  ToPrepare : (class : Class) → Want

-- a state fulfils a want (5.3, 5.3.4, 5.4.2)
abbrev pub Fulfils : State → Want → Type 0
Fulfils s (ToStand n) = Met s n
Fulfils s (ToPrepare c) = Contains s.prepared c

-- it fulfils each of these (5.3 to 5.4.3)
abbrev pub FulfilsAll : State → List Want → Type 0
FulfilsAll s wants = AllByRecursion (Fulfils s) wants

-- a want stands in a list, and all before it are fulfilled (wants are served in order)
abbrev pub IsFirst : State → List Want → Want → Type 0
IsFirst s wants want = StandsAfter (Fulfils s) wants want

-- a want may be served: its need may be added (5.3.4), its class is not prepared yet (5.4.2)
abbrev pub MayServe : State → Want → Type 0
MayServe s (ToStand n) = MayAdd s n
MayServe s (ToPrepare c) = Contains s.prepared c → ⊥

-- the step that fulfils a want (5.3, 5.3.4, 5.4.2)
abbrev pub serving_step : Want → Step
serving_step (ToStand n) = step_for n
serving_step (ToPrepare c) = Prepare c

-- these needs are wanted, in order
abbrev pub to_stand : List Need → List Want
to_stand needs = map (λ n. ToStand n) needs

-- what is wanted to link a class of which all supertypes are linked: its constraints, and then its preparation (5.4.2)
abbrev pub to_link : Kin → List Want
to_link k = to_stand (constraints_of k) ++ ToPrepare k.class ∷ []

-- a class is linked in a state: its constraints are imposed, and it is prepared (5.4.2)
pub record IsLinkedIn (s : State) (k : Kin) : Type 0 where
  pub imposed : AllMet s (constraints_of k)
  pub prepared : Contains s.prepared k.class

-- what a request wants past its load: the needs that follow (5.4.3);
-- of a class to be linked, for each class of its lineage in order, what links it (5.4)
abbrev pub WantsPast : World → Request → Plan → Option Class → List Want → Type 0
WantsPast w (Load loader name) p reached wants = wants ≡ to_stand p.more
WantsPast w (Resolve loader name i) p reached wants = wants ≡ to_stand p.more
WantsPast w (Link loader name) p None wants = wants ≡ to_stand p.more
WantsPast w (Link loader name) p (Some c) wants = (k : Kin) × HasLineage w c k
    × (wants ≡ flat_map to_link (lineage k))

-- what a request with this plan wants in turn: the needs of its load, and what is wanted past it (5.3 to 5.4.3)
pub record HasWants (w : World) (r : Request) (p : Plan) (wants : List Want) : Type 0 where
  pub planned : IsPlan w r p
  pub past : List Want
  pub follows : WantsPast w r p p.reached past
  pub whole : wants ≡ to_stand p.own ++ past

-- ---- the service of one request

-- the reference that a request reached past its load may be settled, and is: also where one of its own needs is refused (5.4.3)
abbrev pub SettlesByStep : Setting → State → Request → Plan → Step → Type 0
SettlesByStep g s (Load loader name) p e = ⊥
SettlesByStep g s (Resolve loader name i) p e = (d : Class) × IsPastLoad s p d
    × ((v : Verdict) × MaySettle g s d i v × (e ≡ Settle d i v))
SettlesByStep g s (Link loader name) p e = ⊥

-- the step fulfils the first want that is not fulfilled
abbrev pub ServesFirst : State → List Want → Step → Type 0
ServesFirst s wants e = (x : Want) × IsFirst s wants x × MayServe s x × (e ≡ serving_step x)

-- the step that comes next in a request's service, before its answer
pub record IsNextStep (g : Setting) (s : State) (r : Request) (e : Step) : Type 0 where
  pub plan : Plan
  pub wants : List Want
  pub wanted : HasWants g.world r plan wants
  pub next : ServesFirst s wants e ⊎ SettlesByStep g s r plan e

-- nothing is left to serve: all is fulfilled, or a need is refused before which all is (5.3.4)
abbrev pub IsOver : State → List Want → Type 0
IsOver s wants = FulfilsAll s wants ⊎ ((n : Need) × IsFirst s wants (ToStand n) × Refused s n)

-- a request's service has come to this verdict: nothing is left to serve, and it may be posted (5.3 to 5.4.3)
pub record ComesTo (g : Setting) (s : State) (r : Request) (v : Verdict) : Type 0 where
  pub plan : Plan
  pub wants : List Want
  pub wanted : HasWants g.world r plan wants
  pub over : IsOver s wants
  pub may_say : MaySay g s r v

-- a request's service may end with an answer: with its verdict once it has come to it, by a failure at any place
abbrev pub MayEnd : Setting → State → Request → Answer → Type 0
MayEnd g s r a = IfSaid (ComesTo g s r) a

-- one piece of a request's service: its next step, or its post
abbrev pub IsPiece : Setting → State → ℕ → Request → Step → Type 0
IsPiece g s q r e = IsNextStep g s r e ⊎ ((a : Answer) × MayEnd g s r a × (e ≡ Post q a))

-- what was done for a request so far: each of these steps was the next one where it was made
abbrev pub IsBegun : Setting → Request → State → List Step → Type 0
IsBegun g r s es = Along (λ t e. IsNextStep g t r e) s es

-- these steps serve the request of this number: one after another what comes next, and then the post of its answer;
-- a service that is broken off has a beginning of these, and then the post of the failure
pub record Serves (g : Setting) (q : ℕ) (r : Request) (s : State) (es : List Step) : Type 0 where
  pub steps : List Step
  pub begun : IsBegun g r s steps
  pub answer : Answer
  pub ends : MayEnd g (state_after s steps) r answer
  pub posted : es ≡ steps ++ Post q answer ∷ []

-- a need stands in a request's plan, and all before it are met (5.3 to 5.4.3)
pub record IsNextNeed (w : World) (s : State) (r : Request) (need : Need) : Type 0 where
  pub plan : Plan
  pub planned : IsPlan w r plan
  pub next : IsNext s (plan_needs plan) need

-- ---- the service of a script

-- the next rounds begin, as long as nothing of the round is unposted and there is a later one
abbrev pub PassesRounds : Setting → State → List Step → Type 0
PassesRounds g s [] = MayGoOn g s → ⊥
PassesRounds g s (e ∷ es) = (e ≡ NextRound) × MayGoOn g s × PassesRounds g (after s NextRound) es

-- these steps serve these requests one after another, the first of which has this number: as soon as nothing of a round
-- is unposted the next one begins, over empty rounds too, before the first request, between and after the last
abbrev pub AllServed : Setting → ℕ → State → List Scheduled → List Step → Type 0
AllServed g q s [] es = PassesRounds g s es
AllServed g q s (r ∷ rs) es =
    (rounds : List Step) × (one : List Step) × (others : List Step)
    × (es ≡ rounds ++ (one ++ others))
    × PassesRounds g s rounds
    × Serves g q r.request (state_after s rounds) one
    × AllServed g (suc q) (state_after (state_after s rounds) one) rs others
