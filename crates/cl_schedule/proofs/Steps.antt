-- One turn of a request, and the call that it asks for (JVMS SE 8, 5.3 to 5.4.3).
use Rattle.std.proofs.Common.{◌≡◌, inl, inr, ◌∙◌, ℕ, Option, Some, None, refl, sym, ap, subst}
use Rattle.std.specs.Prelude.{IfSome}
use Rattle.cl_model.specs.declared.request.Request.{Request}
use Rattle.cl_model.specs.Content.{Content}
use Rattle.cl_model.proofs.Sound.{runs_are_sound}
use Rattle.cl_config.specs.Views.{Configured}
use Rattle.cl_delegation.specs.Worlds.{setting_of}
use Rattle.cl_config.specs.Loaders.{schedule_of}
use Rattle.cl_model.proofs.Tables.{trusted_is_consistent}
use Rattle.cl_registry.specs.Tables.{Shown, IsKept, RunsAs, state_of, steps, machine}
use Rattle.cl_tasks.specs.Blames.{BlamesWhere}
use Rattle.cl_tasks.specs.Facts.{Holds}
use Rattle.cl_tasks.specs.Follows.{Backed, BackedWhere, Follows, FollowsWhere, Refuses, ServedIn, Tells, TellsNow, ReplyTells, Unrecorded, refusal}
use Rattle.cl_tasks.specs.Tasks.{Tasked, begun_task}
use Rattle.cl_tasks.specs.Turns.{AnswersOwn, Asks, Expects, IsReplyTo, KeepsRequest, call_of}
use Rattle.cl_tasks.specs.Waits.{Waits, Looking}
use Rattle.cl_tasks.specs.declared.turn.Reply.{Reply}
use Rattle.cl_tasks.specs.declared.turn.Reply.TheVariants as reply
use Rattle.cl_tasks.specs.declared.turn.Turn.{Turn}
use Rattle.cl_tasks.specs.declared.turn.Turn.TheVariants as turn
use Rattle.cl_schedule.specs.Counting.{Grows, told_faults}
use Rattle.cl_schedule.specs.Replies.{CallSays, Did, IsCall, IsStepOf, Shows}
use Rattle.cl_schedule.proofs.Counted.{grows_none, grows_on, told_none}
use Rattle.cl_schedule.proofs.Next.{next_of, step_of_call}
use Rattle.cl_schedule.proofs.Served.{Going, going_did, going_start}
use Rattle.cl_schedule.proofs.Stations.{Known, known_on, known_start}
use Rattle.cl_schedule.proofs.Later.{goes_on_by, holds_later}

-- what a turn says of itself
pub record TurnSays {A : Type 0} (told : Option Content) (t new : Tasked) (given : Reply A) (u : Turn A) : Type 0 where
  pub config : new.config ≡ t.config
  pub asks : Asks new u
  pub serves : KeepsRequest t new u
  pub keeps : (x : Shown) → Tells x t given → Holds x new
  pub backed : BackedWhere t.config (λ x. TellsNow x t given) u
  pub next : IfSome t.request (λ r. FollowsWhere told t.config (λ x. Tells x t given) r u)
  pub blames : IfSome t.request (λ r. BlamesWhere told t.config (λ x. Tells x t given) r u)
  pub refused : Refuses (refusal t given) u
  pub own : AnswersOwn t new given u

-- what holds before each turn of a request
pub record Turning {A S : Type 0} (told : Option Content) (old now : Shown) (c : Configured) (r : Request) (t : Tasked) (given : Reply A) (count since : ℕ) (source later : S) : Type 0 where
  pub expects : Expects t given
  pub going : Going told old now r
  pub base : old.config ≡ c
  pub config : t.config ≡ c
  pub request : t.request ≡ Some r
  pub tells : TellsNow now t given
  pub faults : Grows (told_faults given) count since
  pub known : Known old now r t given source later

turning_begun : {A S : Type 0} (told : Option Content) (old : Shown) (c : Configured) (q : ℕ) (r : Request) (count : ℕ) (source : S) → IsKept told old → old.config ≡ c → Turning {A = A} told old old c r (begun_task c q r) reply.Start count count source source
turning_begun {A = A} told old c q r count source kept base =
    record {
      expects = refl;
      going = going_start told old r kept;
      base = base;
      config = refl;
      request = refl;
      tells = record { told = record { before = record { frames = tt; facts = tt }; now = tt }; unrecorded = tt };
      faults = grows_none count;
      known = known_start {A = A} old r (begun_task c q r) source;
    }

pub turning_start : {A S : Type 0} (told : Option Content) (old : Shown) (c : Configured) (q : ℕ) (r : Request) (t : Tasked) (count : ℕ) (source : S) → IsKept told old → old.config ≡ c → t ≡ begun_task c q r → Turning {A = A} told old old c r t reply.Start count count source source
turning_start {A = A} told old c q r t count source kept base is =
    subst (λ (k : Tasked). Turning {A = A} told old old c r k reply.Start count count source source) (sym is) (turning_begun {A = A} told old c q r count source kept base)

-- ---- what a turn says where its request is served

-- what holds of a task's request
pub of_request : (o : Option Request) (r : Request) (P : Request → Type 0) → o ≡ Some r → IfSome o P → P r
of_request o r P e h = subst (λ (k : Option Request). IfSome k P) e h

pub served_in : (told : Option Content) (x : Shown) (c : Configured) (content : Content) → told ≡ Some content → IsKept told x → x.config ≡ c → ServedIn told c (machine x content) (state_of x)
served_in told x c content e kept same =
    record {
      content = content;
      script = x.script;
      told_so = e;
      setting = ap (λ (k : Configured). setting_of k x.script content) same;
      sound = runs_are_sound (machine x content) (steps x) (subst (λ (o : Option Content). RunsAs o x) e kept.run);
    }

pub follows_now : {A S : Type 0} (told : Option Content) (old x : Shown) (c : Configured) (r : Request) (t new : Tasked) (given : Reply A) (u : Turn A) (count since : ℕ) (source later : S) → Turning told old x c r t given count since source later → TurnSays told t new given u
    → (content : Content) → told ≡ Some content → Follows (machine x content) (state_of x) r u
follows_now told old x c r t new given u count since source later k says content e =
    of_request t.request r (λ (r : Request). FollowsWhere told t.config (λ s. Tells s t given) r u) k.request says.next (machine x content) x
    (served_in told x t.config content e k.going.kept (k.going.config ∙ k.base ∙ sym k.config)) k.tells.told

-- the tables bear what a turn asks for
pub backed_now : {A S : Type 0} (told : Option Content) (old x : Shown) (c : Configured) (r : Request) (t : Tasked) (given : Reply A) (u : Turn A) (count since : ℕ) (source later : S) → Turning told old x c r t given count since source later
    → BackedWhere t.config (λ s. TellsNow s t given) u → Backed x u
backed_now told old x c r t given u count since source later k backed =
    backed x (k.going.config ∙ k.base ∙ sym k.config) k.going.kept.named (trusted_is_consistent (schedule_of x.script) x.script.rounds (steps x) k.going.kept.trusted.tables) k.tells

-- ---- one turn and its call

holds_did : {A : Type 0} (told : Option Content) (x new : Shown) (u : Turn A) (t : Tasked) → Did x new (IsStepOf x u) → IsKept told new → Holds x t → Holds new t
holds_did told x new u t (inl same) kept held = subst (λ (y : Shown). Holds y t) (sym same) held
holds_did told x new u t (inr did) kept held = holds_later told x new t (record { goes = goes_on_by x new did.0 did.2; kept = kept }) held

pub unrecorded_of : {A : Type 0} (x : Shown) (w : Waits) (given : Reply A) → Shows x w given → Unrecorded x w given
unrecorded_of x (Looking l n) (reply.Looked None) shows = shows
unrecorded_of x other another shows = tt

pub serves_request : {A : Type 0} (t new : Tasked) (u : Turn A) → KeepsRequest t new u → IsCall u → new.request ≡ t.request
serves_request t new (turn.Settle f) s call = s.1
serves_request t new (turn.Post f) s call = absurd call
serves_request t new other s call = s

pub turning_on : {A S : Type 0} (told : Option Content) (old x new : Shown) (c : Configured) (r : Request) (t next : Tasked) (given more : Reply A) (u : Turn A) (count since after : ℕ) (source later last : S) → Turning told old x c r t given count since source later
    → TurnSays told t next given u → CallSays told x new u more since after later last → Turning told old new c r next more count after source last
turning_on {A = A} told old x new c r t next given more u count since after source later last k says did =
    let going : Going told old new r =
    going_did told old x new r u k.going did.did
    (λ e is. (step_of_call x u e is, λ content is_told may. next_of (machine x content) x r t next u e (follows_now told old x c r t next given u count since source later k says content is_told) says.serves k.request is may)) did.kept in
    let config : next.config ≡ c = says.config ∙ k.config in
    let same : new.config ≡ next.config = going.config ∙ k.base ∙ sym config in
    record {
      expects =
          subst (λ (w : Waits). IsReplyTo next.config w more) (sym says.asks)
          (subst (λ (y : Configured). IsReplyTo {A = A} y (call_of u) more) same did.replied.fits);
      going = going;
      base = k.base;
      config = config;
      request = serves_request t next u says.serves did.call ∙ k.request;
      tells = record {
        told = record {
          before = holds_did told x new u next did.did did.kept (says.keeps x k.tells.told);
          now = subst (λ (w : Waits). ReplyTells new w more) (sym says.asks) did.replied.tells;
        };
        unrecorded = subst (λ (w : Waits). Unrecorded new w more) (sym says.asks) (unrecorded_of new (call_of u) more did.replied.shows);
      };
      faults = grows_on (told_faults given) (told_faults more) count since after k.faults (told_none A t given u says.refused did.call) did.faults;
      known = known_on old x new r t next given more u source later last k.known k.request says.own says.refused did.call says.asks did.did did.replied did.unread;
    }
