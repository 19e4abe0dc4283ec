-- What a step leads to: with more room, and where memory runs out.
use Rattle.std.proofs.Common.{◌≡◌, ◌<◌, ◌≤◌, ◌+◌, ◌*◌, ◌++◌, ℕ, Bool, true, false, not, eqb, List, length, Option, Some, None, refl, sym, ap, subst, arith}
use Rattle.std.proofs.lemmas.Bool.{eqb-true}
use Rattle.std.specs.Prelude.{IfSome}
use Rattle.cl_model.specs.declared.answer.Answer.{Answer}
use Rattle.cl_model.specs.declared.answer.Answer.TheVariants as answers
use Rattle.cl_model.specs.declared.request.Request.{Request}
use Rattle.cl_model.specs.declared.request.Request.TheVariants as requests
use Rattle.cl_model.specs.Content.{Content}
use Rattle.cl_model.specs.Homes.{World}
use Rattle.cl_model.specs.Plans.{Plan}
use Rattle.cl_model.specs.States.{State}
use Rattle.cl_model.specs.Works.{Ask}
use Rattle.cl_config.specs.Views.{Configured}
use Rattle.cl_findings.specs.declared.load.Target.{Target}
use Rattle.cl_findings.specs.declared.load.Target.TheVariants as targets
use Rattle.cl_findings.specs.Findings.{Answered, loader_of, ungrounded_answer}
use Rattle.cl_hierarchy.specs.Paths.{frames_of}
use Rattle.cl_registry.specs.Tables.{Shown, state_of}
use Rattle.cl_tasks.specs.Calls.{Calls, calls_in, equalities_in, hand_calls, if_so, in_hand, open_calls, own_homes, while_loading}
use Rattle.cl_tasks.specs.Blames.{FaultBlames}
use Rattle.cl_tasks.specs.Deriving.{Derives}
use Rattle.cl_tasks.specs.Follows.{BackedWhere, CallsWithin, EndsRefused, FollowsWhere, LacksOnly, PostsNoFault, Refuses, Tells, TellsNow, refusal}
use Rattle.cl_tasks.specs.Rooms.{Room, last_room, past_room, room_of}
use Rattle.cl_tasks.specs.Stages.{job_calls, past_calls, task_at}
use Rattle.cl_tasks.specs.Steps.{IsPlain, LeadsBy, LeadsOn, Steps, memory_ends, task_room}
use Rattle.cl_tasks.specs.Tasks.{Tasked}
use Rattle.cl_tasks.specs.declared.stage.Job.{Job}
use Rattle.cl_tasks.specs.Turns.{AnswersOwn, ReadsUnrecorded, WasAbsent}
use Rattle.cl_tasks.specs.declared.stage.Next.{Next}
use Rattle.cl_tasks.specs.declared.stage.Stage.TheVariants as stage
use Rattle.cl_tasks.specs.declared.turn.Reply.{Reply}
use Rattle.cl_tasks.specs.declared.turn.Reply.TheVariants as reply
use Rattle.cl_tasks.specs.declared.turn.Turn.{Turn}
use Rattle.cl_tasks.specs.declared.turn.Turn.TheVariants as turn
use Rattle.cl_tasks.proofs.TurnCases.{of_posts, of_reads}

-- ---- rooms

-- there is room for the post, beside the call that was made
abbrev pub HasPost : Room → Type 0
HasPost room = (w : World) (p : Plan) (s : State) → room.made + 1 ≤ calls_in room.calls w p s

-- where this holds so many calls are in a room, beside those that were made
abbrev pub Holding : Option Content → Configured → (Shown → Type 0) → Request → Calls → Room → Type 0
Holding told c now r calls room = CallsWithin told c now r room.made calls room.calls

-- a room without a call made
abbrev pub HoldingAll : Option Content → Configured → (Shown → Type 0) → Request → Calls → Calls → Type 0
HoldingAll told c now r calls more = CallsWithin told c now r 0 calls more

-- as many calls, in a room of one or more
pub has_post : (turns : ℕ) (calls : Calls) → ((w : World) (p : Plan) (s : State) → 1 ≤ calls_in calls w p s) → HasPost (room_of turns calls)
has_post turns calls h = λ w p s. h w p s

-- what a job has left is more than what follows its load, which is more than none
pub past_some : {A : Type 0} (r : Request) (t : Target A) → 1 ≤ (past_calls r t).more
past_some (requests.Load l n) targets.Own = omega arith
past_some (requests.Resolve l n i) targets.Own = omega arith
past_some (requests.Link l n) targets.Own = omega arith
past_some r (targets.Reference d) = omega arith

pub past_post : {A : Type 0} (r : Request) (t : Target A) (w : World) (p : Plan) (s : State) → 1 ≤ calls_in (past_calls r t) w p s
past_post r t w p s = above (if_so (past_calls r t).opens (open_calls w p s (past_calls r t).absent (past_calls r t).hand)) ((past_calls r t).homes * own_homes w p) ((past_calls r t).equalities * equalities_in p) (past_calls r t).more (past_some r t)
  where
    above : (a b c d : ℕ) → 1 ≤ d → 1 ≤ a + (b + c + d)
    above a b c d h = omega arith

-- past a load there is room for the post
pub past_has : {A : Type 0} (j : Job A) → HasPost (past_room j)
past_has j = λ w p s. let post = past_post j.request j.target w p s in omega arith

past_closed : {A : Type 0} (r : Request) (t : Target A) → (past_calls r t).opens ≡ false
past_closed (requests.Load l n) targets.Own = refl
past_closed (requests.Resolve l n i) targets.Own = refl
past_closed (requests.Link l n) targets.Own = refl
past_closed r (targets.Reference d) = refl

-- while classes are loaded more is left than what follows: that which is open, and so many more
pub loading_is : {A : Type 0} (r : Request) (t : Target A) (absent hand : List Ask) (more : ℕ) (w : World) (p : Plan) (s : State)
    → calls_in (while_loading absent hand more (past_calls r t)) w p s ≡ open_calls w p s absent hand + more + calls_in (past_calls r t) w p s
loading_is r t absent hand more w p s =
    let n = past_calls r t in
    subst (λ (b : Bool). open_calls w p s absent hand + (n.homes * own_homes w p + n.equalities * equalities_in p + (more + n.more)) ≡ open_calls w p s absent hand + more + (if_so b (open_calls w p s n.absent n.hand) + (n.homes * own_homes w p + n.equalities * equalities_in p + n.more))) (sym (past_closed r t))
    (above (open_calls w p s absent hand) (n.homes * own_homes w p) (n.equalities * equalities_in p) more n.more)
  where
    above : (o a b m k : ℕ) → o + (a + b + (m + k)) ≡ o + m + (0 + (a + b + k))
    above o a b m k = omega arith

pub job_some : {A : Type 0} (absent beside : List Ask) (more : ℕ) (j : Job A) (w : World) (p : Plan) (s : State) → more + 1 ≤ calls_in (job_calls absent beside more j) w p s
job_some absent beside more j w p s =
    let is = loading_is j.request j.target absent (beside ++ in_hand j.path.loader (frames_of j.path)) (hand_calls j.path.loader (frames_of j.path) + more) w p s in
    let some = past_post j.request j.target w p s in
    omega arith

pub job_past : {A : Type 0} (absent beside : List Ask) (more : ℕ) (j : Job A) (w : World) (p : Plan) (s : State) → calls_in (past_calls j.request j.target) w p s ≤ calls_in (job_calls absent beside more j) w p s
job_past absent beside more j w p s =
    let is = loading_is j.request j.target absent (beside ++ in_hand j.path.loader (frames_of j.path)) (hand_calls j.path.loader (frames_of j.path) + more) w p s in
    omega arith

-- ---- what a step leads to

-- with more room, and where more holds
pub leads_more : {A : Type 0} {told : Option Content} {c : Configured} {q : ℕ} {r : Request} {m : Room} {p : Shown → Type 0} {n : Next A} (room : Room) (holds now : Shown → Type 0)
    → LeadsBy told c q r m p n → m.turns ≤ room.turns → Holding told c now r m.calls room → ((x : Shown) → holds x → p x) → ((x : Shown) → now x → p x) → LeadsOn told c q r room holds now n
leads_more {m = m} {n = n} room holds now l le calls weaker weaker_now = record {
  kept = l.kept;
  number = l.number;
  asks = l.asks;
  serves = l.serves;
  left = let k = l.left in omega arith;
  calls = λ g x plan served is h. let one = l.calls g x plan served is (weaker_now x h) in let two = calls g x plan served is h in omega arith;
  keeps = λ x h. l.keeps x (weaker x h);
  backed = λ x config named consistent h. l.backed x config named consistent (weaker_now x h);
  follows = λ g x s h. l.follows g x s (weaker x h);
}

-- the same where what holds now is no more
pub leads_by : {A : Type 0} {told : Option Content} {c : Configured} {q : ℕ} {r : Request} {m : Room} {p : Shown → Type 0} {n : Next A} (room : Room) (holds : Shown → Type 0)
    → LeadsBy told c q r m p n → m.turns ≤ room.turns → Holding told c holds r m.calls room → ((x : Shown) → holds x → p x) → LeadsBy told c q r room holds n
leads_by room holds l le calls weaker = leads_more room holds holds l le calls weaker weaker

-- a step that posts
pub leads_post : {A : Type 0} {told : Option Content} {c : Configured} {q : ℕ} {r : Request} {room : Room} {holds now : Shown → Type 0} {f : Answered} → f.request ≡ r → 0 < room.turns → HasPost room → BackedWhere {A = A} c now (turn.Post f) → FollowsWhere {A = A} told c holds r (turn.Post f)
    → LeadsOn {A = A} told c q r room holds now (record { stage = stage.Done q; turn = turn.Post f })
leads_post of more post backed follows = record {
  kept = tt;
  number = refl;
  asks = refl;
  serves = ap (λ (k : Request). Some k) (sym of);
  left = more;
  calls = λ g x p served is h. let k = post g.world p (state_of x) in omega arith;
  keeps = λ x h. record { frames = tt; facts = tt };
  backed = backed;
  follows = follows;
}

-- memory ran out
pub leads_memory : {A : Type 0} (told : Option Content) (c : Configured) (q : ℕ) (r : Request) (room : Room) (holds now : Shown → Type 0) → loader_of r < length c.loaders → 0 < room.turns → HasPost room
    → LeadsOn {A = A} told c q r room holds now (memory_ends q r)
leads_memory told c q r room holds now within more post =
    leads_post refl more post
    (λ x config named consistent h. record {
      within = record { loader = subst (λ (k : Configured). loader_of r < length k.loaders) (sym config) within; answer = tt };
      answer = tt;
    })
    (λ g x s h. tt)

-- the same of a step that is known to end so
pub leads_out : {A : Type 0} {n : Next A} (told : Option Content) (c : Configured) (q : ℕ) (r : Request) (room : Room) (holds now : Shown → Type 0) → n ≡ memory_ends q r → loader_of r < length c.loaders → 0 < room.turns → HasPost room → LeadsOn told c q r room holds now n
leads_out {n = n} told c q r room holds now is within more post = subst (λ (m : Next _). LeadsOn told c q r room holds now m) (sym is) (leads_memory told c q r room holds now within more post)

pub plain_out : {A : Type 0} (n : Next A) (q : ℕ) (r : Request) → n ≡ memory_ends q r → IsPlain n.turn
plain_out n q r is = subst (λ (m : Next _). IsPlain m.turn) (sym is) tt

-- ---- what a step does

plain_no_fault : {A : Type 0} (u : Turn A) → IsPlain u → PostsNoFault u
plain_no_fault u h = (of_posts u).0 (λ f e. subst (λ (v : Turn _). IsPlain v) e h)

plain_reads : {A : Type 0} (t : Tasked) (r : Reply A) (u : Turn A) → IsPlain u → ReadsUnrecorded t r u
plain_reads t r u h = (of_reads u).0 t r (λ l n e. absurd (subst (λ (v : Turn _). IsPlain v) e h))

-- a plain turn, on a reply that is neither memory nor a fault of the source: where it leads, and what else a step owes
pub plain_steps : {A : Type 0} {told : Option Content} {c : Configured} {r : Request} {m : Room} {p : Shown → Type 0} (t : Tasked) (answer : Reply A) (n : Next A) → c ≡ t.config → t.request ≡ Some r → refusal t answer ≡ None
    → LeadsBy told c t.q r m p n → m.turns ≤ t.left → Holding told c (λ x. TellsNow {A = A} x t answer) r m.calls (task_room t) → ((x : Shown) → Tells {A = A} x t answer → p x)
    → EndsRefused t.request answer n.turn → FaultBlames told t answer n.turn → LacksOnly t.request answer n.turn → Derives (WasAbsent t answer) t.frames n.stage → AnswersOwn t (task_at t.config n.stage) answer n.turn → IsPlain n.turn → Steps told t answer n
plain_steps {A = A} {told = told} {r = r} t answer n config asked granted l le calls tells linkage blames lacks derives own plain =
    let holds : Shown → Type 0 = λ x. Tells {A = A} x t answer in
    let now : Shown → Type 0 = λ x. TellsNow {A = A} x t answer in
    record {
      leads =
          subst (λ (o : Option Request). IfSome o (λ k. LeadsOn told t.config t.q k (task_room t) holds now n)) (sym asked)
          (subst (λ (d : Configured). LeadsOn told d t.q r (task_room t) holds now n) config (leads_more (task_room t) holds now l le calls tells (λ x h. tells x h.told)));
      refused = subst (λ (o : Option Answer). Refuses o n.turn) (sym granted) (plain_no_fault n.turn plain);
      linkage = linkage;
      blames = blames;
      lacks = lacks;
      reads = plain_reads t answer n.turn plain;
      derives = derives;
      own = own;
    }

-- a step at which memory ran out: what else it owes
pub memory_steps : {A : Type 0} (told : Option Content) (t : Tasked) (r : Request) (answer : Reply A) → t.request ≡ Some r → loader_of r < length t.config.loaders → 0 < t.left → HasPost (task_room t)
    → Refuses (refusal t answer) (memory_ends {A = A} t.q r).turn → EndsRefused t.request answer (memory_ends {A = A} t.q r).turn → FaultBlames told t answer (memory_ends {A = A} t.q r).turn → LacksOnly t.request answer (memory_ends {A = A} t.q r).turn
    → AnswersOwn t (task_at {A = A} t.config (stage.Done t.q)) answer (memory_ends {A = A} t.q r).turn → Steps {A = A} told t answer (memory_ends t.q r)
memory_steps {A = A} told t r answer is within more post refused linkage blames lacks own = record {
  leads =
      subst (λ (o : Option Request). IfSome o (λ k. LeadsOn {A = A} told t.config t.q k (task_room t) (λ x. Tells {A = A} x t answer) (λ x. TellsNow {A = A} x t answer) (memory_ends t.q r))) (sym is)
      (leads_memory told t.config t.q r (task_room t) _ _ within more post);
  refused = refused;
  linkage = linkage;
  blames = blames;
  lacks = lacks;
  reads = tt;
  derives = tt;
  own = own;
}

-- a refused growth is the answer
pub steps_memory : {A : Type 0} (told : Option Content) (t : Tasked) (r : Request) → t.request ≡ Some r → loader_of r < length t.config.loaders → 0 < t.left → HasPost (task_room t) → Steps {A = A} told t reply.Memory (memory_ends t.q r)
steps_memory told t r is within more post = memory_steps told t r reply.Memory is within more post refl tt tt (λ h. tt) tt

-- the source could not be read
pub leads_fault : {A : Type 0} (told : Option Content) (c : Configured) (q : ℕ) (r : Request) (name : List ℕ) (loader : ℕ) (holds : Shown → Type 0) → loader_of r < length c.loaders → loader < length c.loaders
    → LeadsBy {A = A} told c q r last_room holds (record { stage = stage.Done q; turn = turn.Post (ungrounded_answer r (answers.SourceFault name loader)) })
leads_fault told c q r name loader holds asked within =
    leads_post refl (omega arith) (λ w p s. omega arith)
    (λ x config named consistent h. record {
      within = record {
        loader = subst (λ (k : Configured). loader_of r < length k.loaders) (sym config) asked;
        answer = subst (λ (k : Configured). loader < length k.loaders) (sym config) within;
      };
      answer = tt;
    })
    (λ g x s h. tt)

-- ---- comparisons

pub not_false : (b : Bool) → not b ≡ false → b ≡ true
not_false true h = refl
not_false false h = absurd cc

pub same_of : (a b : ℕ) → not (eqb a b) ≡ false → a ≡ b
same_of a b h = eqb-true a b (not_false (eqb a b) h)
