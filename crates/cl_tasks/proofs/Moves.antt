-- How a load moves what is left of its calls: from what is open into hand, and from hand into the records.
use Rattle.std.proofs.Common.{◌≡◌, ◌∙◌, ◌≤◌, ◌+◌, ◌==◌, ℕ, zero, suc, Bool, true, false, ◌||◌, if◌then◌else◌, List, [], ◌∷◌, ◌++◌, length, map, Option, Some, None, refl, sym, ap, subst, arith, length-append}
use Rattle.std.specs.Prelude.{IsSome, slice_get}
use Rattle.std.specs.List.{list_any}
use Rattle.std.proofs.lemmas.Bool.{eqb-true, eq-eqb}
use Rattle.cl_classfile.specs.Files.{Name, File}
use Rattle.cl_model.specs.declared.class.Class.{Class}
use Rattle.cl_model.specs.declared.request.Request.{Request}
use Rattle.cl_model.specs.Classes.{Above, class, is_among, HasFile, supers}
use Rattle.cl_model.specs.Content.{Content}
use Rattle.cl_model.specs.Frames.{Frame, IsFrame, IsFrames, with_accepted, asking_loader, path_of, wanted_supertype}
use Rattle.cl_model.specs.Homes.{World, home}
use Rattle.cl_model.specs.Machine.{IsClosed, IsPlan, Setting}
use Rattle.cl_model.specs.Plans.{Plan, edges_of, same_ask}
use Rattle.cl_model.specs.States.{State, recorded_definer}
use Rattle.cl_model.specs.Views.{request_of}
use Rattle.cl_model.specs.Works.{Ask}
use Rattle.cl_model.proofs.Bind.{some_same}
use Rattle.cl_model.proofs.Frames.{sought_asked}
use Rattle.cl_model.proofs.Marks.{In}
use Rattle.cl_model.proofs.Stacks.{frame_pop, kept_is_met, path_scanned}
use Rattle.cl_config.specs.Views.{Configured}
use Rattle.cl_delegation.specs.Searches.{LeadsTo, Located}
use Rattle.cl_delegation.specs.Worlds.{world_of}
use Rattle.cl_findings.specs.Bases.{IsSpeltIn}
use Rattle.cl_findings.specs.Loads.{IsSought, IsWhole, FrameKeepsRules}
use Rattle.cl_findings.proofs.Loads.{under}
use Rattle.cl_hierarchy.specs.Drafts.{Drafted}
use Rattle.cl_hierarchy.specs.Frames.{Framed, frame_of, with_definer}
use Rattle.cl_hierarchy.specs.Paths.{Accepts, Completes, IsPath, Pathed, at_loader, at_name, frames_of, fresh, with_frame}
use Rattle.cl_hierarchy.proofs.Frames.{accepts_one}
use Rattle.cl_registry.specs.Tables.{Shown, records_of, state_of}
use Rattle.cl_tasks.specs.Calls.{Calls, ask_for, ask_of, away_calls, calls_in, hand_calls, in_hand, is_unrecorded, open_calls, record_calls}
use Rattle.cl_tasks.specs.Follows.{CallsWithin, ServedIn}
use Rattle.cl_tasks.specs.Measures.{Phase}
use Rattle.cl_tasks.specs.Measures as phases
use Rattle.cl_tasks.specs.Rooms.{away_hand, calls_at, room_at, room_of}
use Rattle.cl_tasks.specs.Stages.{IsHoming, IsJob, job_calls, past_calls, sought_ask}
use Rattle.cl_tasks.specs.Steps.{HoldsOn}
use Rattle.cl_tasks.specs.declared.stage.Job.{Job}
use Rattle.cl_tasks.proofs.Asked.{home_node, node_of, not_own, off_hand, own_home}
use Rattle.cl_tasks.proofs.Hands.{IsNone, away_call, away_one, calls_last, frame_calls, hand_closed, hand_last, here_no_calls, here_none, none_both, none_here, none_more, none_two, open_of, open_parts, or_unrecorded, other_loader, recorded_apart, same_itself, told_unrecorded, unrecorded_at}
use Rattle.cl_tasks.proofs.Keep.{all_kept, map_last, top_of}
use Rattle.cl_tasks.proofs.Lead.{HasPost, job_past, job_some, loading_is}
use Rattle.cl_tasks.proofs.Obstacles.{target_met}
use Rattle.cl_tasks.proofs.Opened.{home_falls, node_falls, open_le}

-- ---- sums

-- with what follows the load the same
pub moves : {A : Type 0} (j k : Job A) (w : World) (p : Plan) (s : State) (made more less : ℕ) (absent hand fewer held : List Ask) → k.request ≡ j.request → k.target ≡ j.target
    → made + (open_calls w p s fewer (held ++ in_hand k.path.loader (frames_of k.path)) + (hand_calls k.path.loader (frames_of k.path) + less)) ≤ open_calls w p s absent (hand ++ in_hand j.path.loader (frames_of j.path)) + (hand_calls j.path.loader (frames_of j.path) + more)
    → made + calls_in (job_calls fewer held less k) w p s ≤ calls_in (job_calls absent hand more j) w p s
moves {A} j k w p s made more less absent hand fewer held request target h =
    let to = loading_is k.request k.target fewer (held ++ in_hand k.path.loader (frames_of k.path)) (hand_calls k.path.loader (frames_of k.path) + less) w p s in
    let from = loading_is j.request j.target absent (hand ++ in_hand j.path.loader (frames_of j.path)) (hand_calls j.path.loader (frames_of j.path) + more) w p s in
    let same : calls_in (past_calls k.request k.target) w p s ≡ calls_in (past_calls j.request j.target) w p s =
    ap (λ (r : Request). calls_in (past_calls {A = A} r k.target) w p s) request ∙ ap (λ t. calls_in (past_calls {A = A} j.request t) w p s) target in
    omega arith

-- ---- where a request is served

-- the world of the configuration and the content that is told
pub world_is : {told : Option Content} {c : Configured} {g : Setting} {s : State} (served : ServedIn told c g s) → g.world ≡ world_of c served.content
world_is served = ap (λ (k : Setting). k.world) served.setting

module _ {A : Type 0} (told : Option Content) (j : Job A) (job : IsJob told j.path.config j) (path : IsPath told j.path) (g : Setting) (x : Shown) (served : ServedIn told j.path.config g (state_of x)) where
  abbrev w : World
  w = g.world

  -- the frames are those of a path of the world
  pub framed : IsFrames w [] j.path.loader j.path.name (frames_of j.path) (at_loader j.path) (at_name j.path)
  framed =
      let rules : IsPath (Some served.content) j.path = subst (λ (o : Option Content). IsPath o j.path) served.told_so path in
      subst (λ (v : World). IsFrames v [] j.path.loader j.path.name (frames_of j.path) (at_loader j.path) (at_name j.path)) (sym (world_is served)) rules.rules

  -- what is looked for is asked by the plan of the request
  pub asks : (p : Plan) → IsPlan w (request_of j.request) p → HoldsOn j x → In (sought_ask j.path) p.asked
  asks p is holds =
      let content = served.content in
      let rules : IsPath (Some content) j.path = subst (λ (o : Option Content). IsPath o j.path) served.told_so path in
      let spelt : IsSpeltIn (Some content) j.target = subst (λ (o : Option Content). IsSpeltIn o j.target) served.told_so job.spelt in
      let closed : IsClosed (world_of j.path.config content) (state_of x) = subst (λ (v : World). IsClosed v (state_of x)) (world_is served) served.sound.closed in
      let planned : IsPlan (world_of j.path.config content) (request_of j.request) p = subst (λ (v : World). IsPlan v (request_of j.request) p) (world_is served) is in
      sought_asked (world_of j.path.config content) (state_of x) (request_of j.request) p _ (frames_of j.path) (at_loader j.path) (at_name j.path) closed planned
      (under content j.request j.target j.path job.for_request spelt rules (state_of x) closed (target_met x j.request j.target holds.facts)
      ((kept_is_met (state_of x) (frames_of j.path)).1 (all_kept x (frames_of j.path) holds.frames)))

  -- the search leads to a home
  pub home_is : (h : Located) → IsSought j.path h → LeadsTo told h.config h.asked h.name (Some h.definer) → home w (at_loader j.path) (at_name j.path) ≡ Some h.definer
  home_is h sought leads =
      let lead : LeadsTo (Some served.content) h.config h.asked h.name (Some h.definer) = subst (λ (o : Option Content). LeadsTo o h.config h.asked h.name (Some h.definer)) served.told_so leads in
      subst (λ (v : World). home v (at_loader j.path) (at_name j.path) ≡ Some h.definer) (sym (world_is served))
      (subst (λ (n : List ℕ). home (world_of j.path.config served.content) (at_loader j.path) n ≡ Some h.definer) sought.name
      (subst (λ (l : ℕ). home (world_of j.path.config served.content) l h.name ≡ Some h.definer) sought.asked
      (subst (λ (c : Configured). home (world_of c served.content) h.asked h.name ≡ Some h.definer) sought.config lead)))

-- ---- from what is open into hand

module _ (w : World) (p : Plan) (s : State) (loader : ℕ) (name : Name) (xs : List Frame) (at : ℕ) (n : Name) (frames : IsFrames w [] loader name xs at n) (asked : In (ask_of n at) p.asked) where
  abbrev hand : List Ask
  hand = in_hand loader xs

  abbrev here : Ask
  here = ask_of n at

  -- what is looked for is told to be unrecorded
  pub told_open : is_unrecorded s here ≡ true → (beside : List Ask) → open_calls w p s (here ∷ []) (beside ++ hand) ≤ open_calls w p s [] (beside ++ hand)
  told_open free beside =
      open_le w p s s [] (here ∷ []) (beside ++ hand) (beside ++ hand) (λ a o.
      let k = open_parts s (here ∷ []) (beside ++ hand) a o in
      open_of s [] (beside ++ hand) a (told_unrecorded s here a free k.0) k.1)

  -- it is looked up at its home, which is another loader
  pub goes_home : (place : ℕ) → home w at n ≡ Some place → is_among (path_of [] xs) (class n place) ≡ false → (at ≡ place → ⊥) → open_calls w p s [] (here ∷ hand) + 2 ≤ open_calls w p s (here ∷ []) hand
  goes_home place found off other =
      let out = off_hand w loader name xs at place n frames found off in
      let falls =
      node_falls w p s s (here ∷ []) [] hand (here ∷ hand) (λ a o.
      let k = open_parts s [] (here ∷ hand) a o in
      open_of s (here ∷ []) hand a (or_unrecorded s (here ∷ []) a k.0) (none_here a here hand k.1).1)
      here (node_of w p here asked) (open_of s (here ∷ []) hand here (rw (same_itself here) refl) out.0) (hand_closed s [] (here ∷ hand) here (rw (same_itself here) refl)) in
      let two : record_calls w here ≡ 2 = ap (λ (b : Bool). if b then 1 else 2) (not_own w at place n found other) in
      omega arith

  -- a class is derived at its home, which was told to have no record
  pub derives_open : (place : ℕ) (beside : List Ask) (f : File) → home w at n ≡ Some place → is_among (path_of [] xs) (class n place) ≡ false → HasFile w (class n place) f → IsNone (ask_of n place) beside
      → ((a : Ask) → same_ask a here ≡ false → IsNone a beside) → open_calls w p s [] (here ∷ ask_of n place ∷ hand) + (1 + length (supers f)) ≤ open_calls w p s (ask_of n place ∷ []) (beside ++ hand)
  derives_open place beside f found off file apart less =
      let c = ask_of n place in
      let out = off_hand w loader name xs at place n frames found off in
      let node = home_node w p here place asked found in
      let falls =
      home_falls w p s s (c ∷ []) [] (beside ++ hand) (here ∷ c ∷ hand) (λ a o.
      let k = open_parts s [] (here ∷ c ∷ hand) a o in
      let one = none_here a here (c ∷ hand) k.1 in
      let two = none_here a c hand one.1 in
      open_of s (c ∷ []) (beside ++ hand) a (or_unrecorded s (c ∷ []) a k.0) (none_both a beside hand (less a one.0) two.1))
      c node.0 node.1 (open_of s (c ∷ []) (beside ++ hand) c (rw (same_itself c) refl) (none_both c beside hand apart out.1))
      (hand_closed s [] (here ∷ c ∷ hand) c (in_second (same_ask c here) (same_ask c c) (list_any (same_ask c) hand) (same_itself c))) in
      let one : record_calls w c ≡ 1 = ap (λ (b : Bool). if b then 1 else 2) (own_home w at place n found) in
      let edges : edges_of w c ≡ length (supers f) = rw file refl in
      omega arith
    where
      in_second : (a b d : Bool) → b ≡ true → (a || (b || d)) ≡ true
      in_second true b d h = refl
      in_second false true d h = refl
      in_second false false d h = absurd cc

-- ---- from hand into the records

module _ (w : World) (p : Plan) (s : State) (hand : List Ask) where
  -- what was in hand is recorded
  pub records : (l place : ℕ) (n : Name) (rest : List Ask) → recorded_definer s.records l n ≡ Some place → open_calls w p s [] (rest ++ hand) ≤ open_calls w p s [] ((rest ++ ask_of n l ∷ []) ++ hand)
  records l place n rest rec =
      open_le w p s s [] [] ((rest ++ ask_of n l ∷ []) ++ hand) (rest ++ hand) (λ a o.
      let k = open_parts s [] (rest ++ hand) a o in
      let two = none_two a rest hand k.1 in
      open_of s [] ((rest ++ ask_of n l ∷ []) ++ hand) a k.0
      (none_both a (rest ++ ask_of n l ∷ []) hand (none_both a rest (ask_of n l ∷ []) two.0 (none_more a (ask_of n l) [] (recorded_apart s a l place n k.0 rec) refl)) two.1))

-- the same asks in another order
pub reordered : (w : World) (p : Plan) (s : State) (hand other : List Ask) → ((a : Ask) → IsNone a other → IsNone a hand) → open_calls w p s [] other ≤ open_calls w p s [] hand
reordered w p s hand other less =
    open_le w p s s [] [] hand other (λ a o.
    let k = open_parts s [] other a o in
    open_of s [] hand a k.0 (less a k.1))

-- ---- what a job leads to

-- so many calls are left where this holds, beside those that were made
abbrev pub Holds : {A : Type 0} → Option Content → Job A → (Shown → Type 0) → ℕ → Calls → Calls → Type 0
Holds told j holds made left room = CallsWithin told j.path.config holds j.request made left room

-- what follows the load is no more than what a job has left
pub past_holds : {A : Type 0} (told : Option Content) (j : Job A) (holds : Shown → Type 0) (absent beside : List Ask) (more : ℕ) → Holds told j holds 0 (past_calls j.request j.target) (job_calls absent beside more j)
past_holds told j holds absent beside more = λ g x p served is h. let k = job_past absent beside more j g.world p (state_of x) in omega arith

-- and so where a call was made
pub past_made : {A : Type 0} (told : Option Content) (j : Job A) (holds : Shown → Type 0) (absent beside : List Ask) (more : ℕ) → 1 ≤ more → Holds told j holds 1 (past_calls j.request j.target) (job_calls absent beside more j)
past_made told j holds absent beside more one = λ g x p served is h.
    let from = loading_is j.request j.target absent (beside ++ in_hand j.path.loader (frames_of j.path)) (hand_calls j.path.loader (frames_of j.path) + more) g.world p (state_of x) in
    omega arith

-- in each phase there is room for the post
pub phase_has : {A : Type 0} (phase : Phase) (j : Job A) (place : ℕ) → HasPost (room_of (room_at phase j 0) (calls_at phase j place))
phase_has phases.Fresh j place = λ w p s. let k = job_some [] [] 1 j w p s in omega arith
phase_has phases.Looking j place = λ w p s. let k = job_some (sought_ask j.path ∷ []) [] 0 j w p s in omega arith
phase_has phases.Reading j place = λ w p s. let k = job_some (sought_ask j.path ∷ []) [] 0 j w p s in omega arith
phase_has phases.Homing j place = λ w p s. let k = job_some (ask_of (at_name j.path) place ∷ []) (away_hand j.path place) (away_calls (at_loader j.path) place) j w p s in omega arith
phase_has phases.Defining j place = λ w p s. let k = job_some [] (away_hand j.path place) (away_calls (at_loader j.path) place) j w p s in omega arith
phase_has phases.Initiating j place = λ w p s. let k = job_some [] [] 0 j w p s in omega arith

-- what follows the load is no more than what a job has left in a phase
pub past_phase : {A : Type 0} (told : Option Content) (j : Job A) (holds : Shown → Type 0) (phase : Phase) (place : ℕ) → Holds told j holds 0 (past_calls j.request j.target) (calls_at phase j place)
past_phase told j holds phases.Fresh place = past_holds told j holds [] [] 1
past_phase told j holds phases.Looking place = past_holds told j holds (sought_ask j.path ∷ []) [] 0
past_phase told j holds phases.Reading place = past_holds told j holds (sought_ask j.path ∷ []) [] 0
past_phase told j holds phases.Homing place = past_holds told j holds (ask_of (at_name j.path) place ∷ []) (away_hand j.path place) (away_calls (at_loader j.path) place)
past_phase told j holds phases.Defining place = past_holds told j holds [] (away_hand j.path place) (away_calls (at_loader j.path) place)
past_phase told j holds phases.Initiating place = past_holds told j holds [] [] 0

-- fewer of the same
pub fewer_holds : {A : Type 0} (told : Option Content) (j : Job A) (holds : Shown → Type 0) (absent beside : List Ask) (made less more : ℕ) → made + less ≤ more → Holds told j holds made (job_calls absent beside less j) (job_calls absent beside more j)
fewer_holds told j holds absent beside made less more le = λ g x p served is h. moves j j g.world p (state_of x) made more less absent beside absent beside refl refl (omega arith)

-- the loader that is asked is the home
pub at_home_calls : {A : Type 0} (j : Job A) (place : ℕ) → at_loader j.path ≡ place → calls_at phases.Homing j place ≡ calls_at phases.Reading j 0
at_home_calls j place is =
    ap (λ (asks : List Ask). job_calls (ask_of (at_name j.path) place ∷ []) asks (away_calls (at_loader j.path) place) j) (here_none j.path place is)
    ∙ ap (λ (n : ℕ). job_calls (ask_of (at_name j.path) place ∷ []) [] n j) (here_no_calls (at_loader j.path) place is)
    ∙ ap (λ (l : ℕ). job_calls (ask_of (at_name j.path) l ∷ []) [] 0 j) (sym is)

pub at_home_defined : {A : Type 0} (j : Job A) (place : ℕ) → at_loader j.path ≡ place → calls_at phases.Defining j place ≡ calls_at phases.Initiating j 0
at_home_defined j place is =
    ap (λ (asks : List Ask). job_calls [] asks (away_calls (at_loader j.path) place) j) (here_none j.path place is) ∙ ap (λ (n : ℕ). job_calls [] [] n j) (here_no_calls (at_loader j.path) place is)

pub away_homing : {A : Type 0} (j : Job A) (place : ℕ) → (at_loader j.path ≡ place → ⊥) → calls_at phases.Homing j place ≡ job_calls (ask_of (at_name j.path) place ∷ []) (sought_ask j.path ∷ []) 1 j
away_homing j place other =
    ap (λ (asks : List Ask). job_calls (ask_of (at_name j.path) place ∷ []) asks (away_calls (at_loader j.path) place) j) (away_one j.path place other)
    ∙ ap (λ (n : ℕ). job_calls (ask_of (at_name j.path) place ∷ []) (sought_ask j.path ∷ []) n j) (away_call (at_loader j.path) place other)

pub away_defined : {A : Type 0} (j : Job A) (place : ℕ) → (at_loader j.path ≡ place → ⊥) → calls_at phases.Defining j place ≡ job_calls [] (sought_ask j.path ∷ []) 1 j
away_defined j place other =
    ap (λ (asks : List Ask). job_calls [] asks (away_calls (at_loader j.path) place) j) (away_one j.path place other)
    ∙ ap (λ (n : ℕ). job_calls [] (sought_ask j.path ∷ []) n j) (away_call (at_loader j.path) place other)

-- the same calls hold
pub same_holds : {A : Type 0} (told : Option Content) (j : Job A) (holds : Shown → Type 0) (left room : Calls) → left ≡ room → Holds told j holds 0 left room
same_holds told j holds left room is = λ g x p served plan h. let k : calls_in left g.world p (state_of x) ≡ calls_in room g.world p (state_of x) = ap (λ (n : Calls). calls_in n g.world p (state_of x)) is in omega arith

-- no record was found where it is asked for
pub unrecorded_holds : {A : Type 0} (told : Option Content) (j : Job A) (holds : Shown → Type 0) → IsJob told j.path.config j → IsPath told j.path → ((x : Shown) → holds x → HoldsOn j x × (recorded_definer (records_of x) (at_loader j.path) (at_name j.path) ≡ None))
    → Holds told j holds 1 (calls_at phases.Looking j 0) (job_calls [] [] 1 j)
unrecorded_holds told j holds job path has = λ g x p served is h.
    let k = has x h in
    let open_here = told_open g.world p (state_of x) j.path.loader j.path.name (frames_of j.path) (at_loader j.path) (at_name j.path) (framed told j job path g x served) (asks told j job path g x served p is k.0) (unrecorded_at (state_of x) (at_loader j.path) (at_name j.path) k.1) [] in
    moves j j g.world p (state_of x) 1 1 0 [] [] (sought_ask j.path ∷ []) [] refl refl (omega arith)

-- the home, which is another loader, is asked
pub homing_holds : {A : Type 0} (told : Option Content) (j : Job A) (h : Located) → IsJob told j.path.config j → IsPath told j.path → IsHoming j h → LeadsTo told h.config h.asked h.name (Some h.definer)
    → Holds told j (HoldsOn j) 0 (job_calls [] (sought_ask j.path ∷ []) 2 j) (calls_at phases.Reading j 0)
homing_holds told j h job path homing leads = λ g x p served is holds.
    let found = home_is told j job path g x served h homing.sought leads in
    let off : is_among (path_of [] (frames_of j.path)) (class (at_name j.path) h.definer) ≡ false = subst (λ (n : List ℕ). is_among (path_of [] (frames_of j.path)) (class n h.definer) ≡ false) homing.sought.name (path_scanned (frames_of j.path) (class h.name h.definer) ∙ homing.off) in
    let falls = goes_home g.world p (state_of x) j.path.loader j.path.name (frames_of j.path) (at_loader j.path) (at_name j.path) (framed told j job path g x served) (asks told j job path g x served p is holds) h.definer found off (λ e. homing.other (sym e)) in
    moves j j g.world p (state_of x) 0 0 2 (sought_ask j.path ∷ []) [] [] (sought_ask j.path ∷ []) refl refl (omega arith)

-- the home has no record
pub unfound_holds : {A : Type 0} (told : Option Content) (j : Job A) (place : ℕ) (holds : Shown → Type 0) → (at_loader j.path ≡ place → ⊥) → ((x : Shown) → holds x → recorded_definer (records_of x) place (at_name j.path) ≡ None)
    → Holds told j holds 1 (calls_at phases.Homing j place) (job_calls [] (sought_ask j.path ∷ []) 2 j)
unfound_holds told j place holds other has =
    subst (λ (n : Calls). Holds told j holds 1 n (job_calls [] (sought_ask j.path ∷ []) 2 j)) (sym (away_homing j place other))
    (λ g x p served is h.
    let free = unrecorded_at (state_of x) place (at_name j.path) (has x h) in
    let c = ask_of (at_name j.path) place in
    let hand = sought_ask j.path ∷ in_hand j.path.loader (frames_of j.path) in
    let less = open_le g.world p (state_of x) (state_of x) [] (c ∷ []) hand hand (λ a o. let k = open_parts (state_of x) (c ∷ []) hand a o in open_of (state_of x) [] hand a (told_unrecorded (state_of x) c a free k.0) k.1) in
    moves j j g.world p (state_of x) 1 2 1 [] (sought_ask j.path ∷ []) (c ∷ []) (sought_ask j.path ∷ []) refl refl (omega arith))

-- the home has it
pub found_holds : {A : Type 0} (told : Option Content) (j : Job A) (place : ℕ) (holds : Shown → Type 0) → (at_loader j.path ≡ place → ⊥) → Holds told j holds 1 (calls_at phases.Defining j place) (job_calls [] (sought_ask j.path ∷ []) 2 j)
found_holds told j place holds other =
    subst (λ (n : Calls). Holds told j holds 1 n (job_calls [] (sought_ask j.path ∷ []) 2 j)) (sym (away_defined j place other)) (fewer_holds told j holds [] (sought_ask j.path ∷ []) 1 1 2 (omega arith))

-- the loader that was asked is recorded
pub initiated_holds : {A : Type 0} (told : Option Content) (j : Job A) (place : ℕ) (holds : Shown → Type 0) → ((x : Shown) → holds x → recorded_definer (records_of x) (at_loader j.path) (at_name j.path) ≡ Some place)
    → Holds told j holds 1 (calls_at phases.Initiating j 0) (job_calls [] (sought_ask j.path ∷ []) 1 j)
initiated_holds told j place holds has = λ g x p served is h.
    let less = records g.world p (state_of x) (in_hand j.path.loader (frames_of j.path)) (at_loader j.path) place (at_name j.path) [] (has x h) in
    moves j j g.world p (state_of x) 1 1 0 [] (sought_ask j.path ∷ []) [] [] refl refl (omega arith)

-- the class is recorded with its home
pub defined_holds : {A : Type 0} (told : Option Content) (j : Job A) (c : Class) (place : ℕ) (holds : Shown → Type 0) → c.name ≡ at_name j.path → ((x : Shown) → holds x → recorded_definer (records_of x) c.loader c.name ≡ Some place)
    → Holds told j holds 1 (calls_at phases.Defining j c.loader) (job_calls [] (sought_ask j.path ∷ ask_for c ∷ []) (1 + away_calls (at_loader j.path) c.loader) j)
defined_holds told j c place holds named has = λ g x p served is h.
    let hand = in_hand j.path.loader (frames_of j.path) in
    let s = state_of x in
    let rec = has x h in
    let less = open_le g.world p s s [] [] ((sought_ask j.path ∷ ask_for c ∷ []) ++ hand) (away_hand j.path c.loader ++ hand) (λ a o.
    let k = open_parts s [] (away_hand j.path c.loader ++ hand) a o in
    let two = none_two a (away_hand j.path c.loader) hand k.1 in
    let apart = recorded_apart s a c.loader place c.name k.0 rec in
    open_of s [] ((sought_ask j.path ∷ ask_for c ∷ []) ++ hand) a k.0
    (none_more a (sought_ask j.path) (ask_for c ∷ hand) (away_apart a two.0 apart) (none_more a (ask_for c) hand apart two.1))) in
    moves j j g.world p s 1 (1 + away_calls (at_loader j.path) c.loader) (away_calls (at_loader j.path) c.loader) [] (sought_ask j.path ∷ ask_for c ∷ []) [] (away_hand j.path c.loader) refl refl (omega arith)
  where
    away_apart : (a : Ask) → IsNone a (away_hand j.path c.loader) → same_ask a (ask_for c) ≡ false → same_ask a (sought_ask j.path) ≡ false
    away_apart a none apart = at (at_loader j.path == c.loader) refl
      where
        at : (b : Bool) → (at_loader j.path == c.loader) ≡ b → same_ask a (sought_ask j.path) ≡ false
        at true e =
            subst (λ (n : List ℕ). same_ask a (ask_of n (at_loader j.path)) ≡ false) named
            (subst (λ (l : ℕ). same_ask a (ask_of c.name l) ≡ false) (sym (eqb-true (at_loader j.path) c.loader e)) apart)
        at false e = (none_here a (sought_ask j.path) [] (subst (λ (b : Bool). IsNone a (if b then [] else sought_ask j.path ∷ [])) e none)).0

-- ---- a class that is derived

-- beside the home of what is looked for, the loader that is asked is in hand if it is another
home_apart : (p : Pathed) (place : ℕ) → IsNone (ask_of (at_name p) place) (away_hand p place)
home_apart p place = at (at_loader p == place) refl
  where
    at : (b : Bool) → (at_loader p == place) ≡ b → IsNone (ask_of (at_name p) place) (if b then [] else sought_ask p ∷ [])
    at true e = refl
    at false e = none_more (ask_of (at_name p) place) (sought_ask p) [] (other_loader (ask_of (at_name p) place) (sought_ask p) (λ k. absurd (let t : (at_loader p == place) ≡ true = eq-eqb (at_loader p) place (sym k) in cc))) refl

less_away : (p : Pathed) (place : ℕ) (a : Ask) → same_ask a (sought_ask p) ≡ false → IsNone a (away_hand p place)
less_away p place a h = at (at_loader p == place)
  where
    at : (b : Bool) → IsNone a (if b then [] else sought_ask p ∷ [])
    at true = refl
    at false = none_more a (sought_ask p) [] h refl

-- the class of a frame that comes next on the path goes from what is open into hand, with a look for each of its supertypes
frame_opens : {A : Type 0} (told : Option Content) (j : Job A) (f : Frame) → IsJob told j.path.config j → IsPath told j.path → f.class.name ≡ at_name j.path → (g : Setting) (x : Shown) (p : Plan) (served : ServedIn told j.path.config g (state_of x)) → IsPlan g.world (request_of j.request) p → HoldsOn j x
    → IsFrame g.world (path_of [] (frames_of j.path)) (at_loader j.path) (at_name j.path) f
    → open_calls g.world p (state_of x) [] (sought_ask j.path ∷ ask_for f.class ∷ in_hand j.path.loader (frames_of j.path)) + (1 + length (supers f.file)) ≤ open_calls g.world p (state_of x) (ask_of (at_name j.path) f.class.loader ∷ []) (away_hand j.path f.class.loader ++ in_hand j.path.loader (frames_of j.path))
frame_opens told j f job path named g x p served is holds frame =
    let w = g.world in
    let place = f.class.loader in
    let here : f.class ≡ class (at_name j.path) place = ap (λ (n : List ℕ). class n place) named in
    let off : is_among (path_of [] (frames_of j.path)) (class (at_name j.path) place) ≡ false = subst (λ (c : Class). is_among (path_of [] (frames_of j.path)) c ≡ false) here frame.new in
    let file : HasFile w (class (at_name j.path) place) f.file = subst (λ (c : Class). HasFile w c f.file) here frame.has_file in
    subst (λ (n : List ℕ). open_calls w p (state_of x) [] (sought_ask j.path ∷ ask_of n place ∷ in_hand j.path.loader (frames_of j.path)) + (1 + length (supers f.file)) ≤ open_calls w p (state_of x) (ask_of (at_name j.path) place ∷ []) (away_hand j.path place ++ in_hand j.path.loader (frames_of j.path))) (sym named)
    (derives_open w p (state_of x) j.path.loader j.path.name (frames_of j.path) (at_loader j.path) (at_name j.path) (framed told j job path g x served) (asks told j job path g x served p is holds) place (away_hand j.path place) f.file frame.found off file (home_apart j.path place) (λ a h. less_away j.path place a h))

-- a class that has all its supertypes is to be recorded
pub root_holds : {A : Type 0} (told : Option Content) (j : Job A) (x : Framed) → IsJob told j.path.config j → IsPath told j.path → IsWhole told j.path x
    → Holds told j (HoldsOn j) 0 (job_calls [] (sought_ask j.path ∷ ask_for x.draft.class ∷ []) (1 + away_calls (at_loader j.path) x.draft.class.loader) j) (calls_at phases.Homing j x.draft.class.loader)
root_holds told j x job path whole = λ g y p served is holds.
    let rules : FrameKeepsRules (Some served.content) j.path x = subst (λ (o : Option Content). FrameKeepsRules o j.path x) served.told_so whole.rules in
    let frame : IsFrame g.world (path_of [] (frames_of j.path)) (at_loader j.path) (at_name j.path) (frame_of x) =
    subst (λ (v : World). IsFrame v (path_of [] (frames_of j.path)) (at_loader j.path) (at_name j.path) (frame_of x)) (sym (world_is served)) rules in
    let falls = frame_opens told j (frame_of x) job path whole.named g y p served is holds frame in
    moves j j g.world p (state_of y) 0 (away_calls (at_loader j.path) x.draft.class.loader) (1 + away_calls (at_loader j.path) x.draft.class.loader) (ask_of (at_name j.path) x.draft.class.loader ∷ []) (away_hand j.path x.draft.class.loader) [] (sought_ask j.path ∷ ask_for x.draft.class ∷ []) refl refl (omega arith)

some_waits : (others : List Above) (n : ℕ) → IsSome (slice_get others n) → n + 1 ≤ length others
some_waits [] n h = absurd cc
some_waits (a ∷ others) zero h = omega arith
some_waits (a ∷ others) (suc n) h = let k = some_waits others n h in omega arith

-- a class waits for its first supertype
pub descends_holds : {A : Type 0} (told : Option Content) (j : Job A) (d : Drafted) (new : Pathed) → IsJob told j.path.config j → IsPath told j.path → IsPath told new → new ≡ with_frame j.path (fresh d) → IsSome (wanted_supertype (frame_of (fresh d)))
    → Holds told j (HoldsOn j) 0 (job_calls [] [] 1 (record j { path = new })) (calls_at phases.Homing j d.class.loader)
descends_holds {A} told j d new job path grown is_new waits = λ g y p served is holds.
    let w = g.world in
    let f = frame_of (fresh d) in
    let xs = frames_of j.path in
    let frames_new : frames_of new ≡ xs ++ f ∷ [] = ap frames_of is_new ∙ map_last j.path.frames (fresh d) in
    let rules : IsPath (Some served.content) new = subst (λ (o : Option Content). IsPath o new) served.told_so grown in
    let config : new.config ≡ j.path.config = ap (λ (q : Pathed). q.config) is_new in
    let loader : new.loader ≡ j.path.loader = ap (λ (q : Pathed). q.loader) is_new in
    let name : new.name ≡ j.path.name = ap (λ (q : Pathed). q.name) is_new in
    let world : world_of new.config served.content ≡ w = ap (λ (c : Configured). world_of c served.content) config ∙ sym (world_is served) in
    let all : IsFrames w [] j.path.loader j.path.name (xs ++ f ∷ []) (at_loader new) (at_name new) =
    subst (λ (fs : List Frame). IsFrames w [] j.path.loader j.path.name fs (at_loader new) (at_name new)) frames_new
    (subst (λ (n : List ℕ). IsFrames w [] j.path.loader n (frames_of new) (at_loader new) (at_name new)) name
    (subst (λ (l : ℕ). IsFrames w [] l new.name (frames_of new) (at_loader new) (at_name new)) loader
    (subst (λ (v : World). IsFrames v [] new.loader new.name (frames_of new) (at_loader new) (at_name new)) world rules.rules))) in
    let popped = frame_pop w [] j.path.loader (at_loader new) j.path.name (at_name new) xs f all in
    let named : d.class.name ≡ at_name j.path = ends_named w [] j.path.loader j.path.name xs (asking_loader j.path.loader xs) d.class.name (at_loader j.path) (at_name j.path) popped.0 (framed told j job path g y served) in
    let frame : IsFrame w (path_of [] xs) (at_loader j.path) (at_name j.path) f = subst (λ (n : List ℕ). IsFrame w (path_of [] xs) (at_loader j.path) n f) named popped.1 in
    let falls = frame_opens told j f job path named g y p served is holds frame in
    let some = some_waits (supers f.file) (length f.accepted) waits in
    let hand : in_hand new.loader (frames_of new) ≡ in_hand j.path.loader xs ++ (sought_ask j.path ∷ ask_for d.class ∷ []) =
    ap (λ (l : ℕ). in_hand l (frames_of new)) loader ∙ ap (in_hand j.path.loader) frames_new ∙ hand_last j.path.loader xs f ∙ ap (λ (n : List ℕ). in_hand j.path.loader xs ++ (ask_of n (at_loader j.path) ∷ ask_for d.class ∷ [])) named in
    let calls : hand_calls new.loader (frames_of new) ≡ hand_calls j.path.loader xs + frame_calls (at_loader j.path) f = ap (λ (l : ℕ). hand_calls l (frames_of new)) loader ∙ ap (hand_calls j.path.loader) frames_new ∙ calls_last j.path.loader xs f in
    let order = reordered w p (state_of y) (sought_ask j.path ∷ ask_for d.class ∷ in_hand j.path.loader xs) (in_hand j.path.loader xs ++ (sought_ask j.path ∷ ask_for d.class ∷ []))
    (λ a h. let two = none_two a (in_hand j.path.loader xs) (sought_ask j.path ∷ ask_for d.class ∷ []) h in none_both a (sought_ask j.path ∷ ask_for d.class ∷ []) (in_hand j.path.loader xs) two.1 two.0) in
    let less : open_calls w p (state_of y) [] (in_hand new.loader (frames_of new)) ≤ open_calls w p (state_of y) [] (sought_ask j.path ∷ ask_for d.class ∷ in_hand j.path.loader xs) =
    subst (λ (asks : List Ask). open_calls w p (state_of y) [] asks ≤ open_calls w p (state_of y) [] (sought_ask j.path ∷ ask_for d.class ∷ in_hand j.path.loader xs)) (sym hand) order in
    moves {A = A} j (record j { path = new }) w p (state_of y) 0 (away_calls (at_loader j.path) d.class.loader) 1 (ask_of (at_name j.path) d.class.loader ∷ []) (away_hand j.path d.class.loader) [] [] refl refl (omega arith)
  where
    -- frames lead to one loader and name
    ends_named : (w : World) (path : List Class) (loader : ℕ) (name : Name) (xs : List Frame) (l : ℕ) (n : Name) (m : ℕ) (o : Name) → IsFrames w path loader name xs l n → IsFrames w path loader name xs m o → n ≡ o
    ends_named w path loader name [] l n m o h k = sym h.1 ∙ k.1
    ends_named w path loader name (x ∷ xs) l n m o h k =
        let same : h.1.0 ≡ k.1.0 = some_same h.1.0 k.1.0 (sym h.1.1 ∙ k.1.1) in
        ends_named w (x.class ∷ path) x.class.loader k.1.0.name xs l n m o (subst (λ (a : Above). IsFrames w (x.class ∷ path) x.class.loader a.name xs l n) same h.1.2) k.1.2

-- ---- a supertype that is accepted

-- the frames of a path and of one that goes on from it, or lost its last class, as they stand in hand
pub accepts_left : {A : Type 0} (told : Option Content) (j : Job A) (new : Pathed) (definer : ℕ) (holds : Shown → Type 0) → IsPath told j.path → Accepts j.path new definer
    → Holds told j holds 0 (job_calls [] [] 1 (record j { path = new })) (calls_at phases.Initiating j 0)
accepts_left {A} told j new definer holds path step = λ g y p served is h.
    let w = g.world in
    let top = top_of told j.path step.before step.last path step.split in
    let xs = map frame_of step.before in
    let f = frame_of step.last in
    let e = frame_of (with_definer step.last definer) in
    let t = class top.above.name definer in
    let grown : e ≡ with_accepted f t = accepts_one step.last (with_definer step.last definer) definer refl (Some top.above) top.wants in
    let loader : new.loader ≡ j.path.loader = ap (λ (q : Pathed). q.loader) step.now in
    let frames_new : frames_of new ≡ xs ++ e ∷ [] = ap frames_of step.now ∙ map_last step.before (with_definer step.last definer) in
    let hand : in_hand new.loader (frames_of new) ≡ in_hand j.path.loader (frames_of j.path) =
    ap (λ (l : ℕ). in_hand l (frames_of new)) loader ∙ ap (in_hand j.path.loader) frames_new ∙ hand_last j.path.loader xs e ∙ sym (ap (in_hand j.path.loader) top.frames ∙ hand_last j.path.loader xs f) in
    let from : hand_calls j.path.loader (frames_of j.path) ≡ hand_calls j.path.loader xs + frame_calls (asking_loader j.path.loader xs) f = ap (hand_calls j.path.loader) top.frames ∙ calls_last j.path.loader xs f in
    let to : hand_calls new.loader (frames_of new) ≡ hand_calls j.path.loader xs + frame_calls (asking_loader j.path.loader xs) (with_accepted f t) =
    ap (λ (l : ℕ). hand_calls l (frames_of new)) loader ∙ ap (hand_calls j.path.loader) frames_new ∙ calls_last j.path.loader xs e ∙ ap (λ (z : Frame). hand_calls j.path.loader xs + frame_calls (asking_loader j.path.loader xs) z) grown in
    let waits : IsSome (wanted_supertype (with_accepted f t)) = subst (λ (z : Frame). IsSome (wanted_supertype z)) grown step.waits in
    let more = some_waits (supers f.file) (length (f.accepted ++ t ∷ [])) waits in
    let one = length-append f.accepted (t ∷ []) in
    let same : open_calls w p (state_of y) [] (in_hand new.loader (frames_of new)) ≡ open_calls w p (state_of y) [] (in_hand j.path.loader (frames_of j.path)) = ap (open_calls w p (state_of y) []) hand in
    moves {A = A} j (record j { path = new }) w p (state_of y) 0 0 1 [] [] [] [] refl refl (omega arith)

-- the last class has all its supertypes, and is to be recorded
pub completes_left : {A : Type 0} (told : Option Content) (j : Job A) (new : Pathed) (definer : ℕ) (x : Framed) (holds : Shown → Type 0) → IsPath told j.path → Completes j.path new definer x → IsWhole told new x
    → Holds told j holds 0 (job_calls [] (sought_ask new ∷ ask_for x.draft.class ∷ []) (1 + away_calls (at_loader new) x.draft.class.loader) (record j { path = new })) (calls_at phases.Initiating j 0)
completes_left {A} told j new definer x holds path step whole = λ g y p served is h.
    let w = g.world in
    let c = x.draft.class in
    let top = top_of told j.path step.before step.last path step.split in
    let xs = map frame_of step.before in
    let f = frame_of step.last in
    let loader : new.loader ≡ j.path.loader = ap (λ (q : Pathed). q.loader) step.now in
    let frames_new : frames_of new ≡ xs = ap frames_of step.now in
    let asked : at_loader new ≡ asking_loader j.path.loader xs = ap (λ (q : Pathed). at_loader q) step.now in
    let last : step.last.draft.class ≡ c = sym (ap (λ (z : Framed). z.draft.class) step.whole_is) in
    let hand_old : in_hand j.path.loader (frames_of j.path) ≡ in_hand j.path.loader xs ++ (sought_ask new ∷ ask_for c ∷ []) =
    ap (in_hand j.path.loader) top.frames ∙ hand_last j.path.loader xs f ∙ ap (λ (k : Class). in_hand j.path.loader xs ++ (ask_of k.name (asking_loader j.path.loader xs) ∷ ask_for k ∷ [])) last
    ∙ ap (λ (n : List ℕ). in_hand j.path.loader xs ++ (ask_of n (asking_loader j.path.loader xs) ∷ ask_for c ∷ [])) whole.named ∙ ap (λ (l : ℕ). in_hand j.path.loader xs ++ (ask_of (at_name new) l ∷ ask_for c ∷ [])) (sym asked) in
    let hand_new : in_hand new.loader (frames_of new) ≡ in_hand j.path.loader xs = ap (λ (l : ℕ). in_hand l (frames_of new)) loader ∙ ap (in_hand j.path.loader) frames_new in
    let from : hand_calls j.path.loader (frames_of j.path) ≡ hand_calls j.path.loader xs + frame_calls (asking_loader j.path.loader xs) f = ap (hand_calls j.path.loader) top.frames ∙ calls_last j.path.loader xs f in
    let to : hand_calls new.loader (frames_of new) ≡ hand_calls j.path.loader xs = ap (λ (l : ℕ). hand_calls l (frames_of new)) loader ∙ ap (hand_calls j.path.loader) frames_new in
    let away : away_calls (at_loader new) c.loader ≡ away_calls (asking_loader j.path.loader xs) f.class.loader =
    ap (λ (l : ℕ). away_calls l c.loader) asked ∙ ap (λ (k : Class). away_calls (asking_loader j.path.loader xs) k.loader) (sym last) in
    let two = sought_ask new ∷ ask_for c ∷ [] in
    let order = reordered w p (state_of y) (in_hand j.path.loader xs ++ two) (two ++ in_hand j.path.loader xs) (λ a n. let k = none_two a two (in_hand j.path.loader xs) n in none_both a (in_hand j.path.loader xs) two k.1 k.0) in
    let old_open : open_calls w p (state_of y) [] (in_hand j.path.loader (frames_of j.path)) ≡ open_calls w p (state_of y) [] (in_hand j.path.loader xs ++ two) = ap (open_calls w p (state_of y) []) hand_old in
    let new_open : open_calls w p (state_of y) [] (two ++ in_hand new.loader (frames_of new)) ≡ open_calls w p (state_of y) [] (two ++ in_hand j.path.loader xs) = ap (λ (asks : List Ask). open_calls w p (state_of y) [] (two ++ asks)) hand_new in
    moves {A = A} j (record j { path = new }) w p (state_of y) 0 0 (1 + away_calls (at_loader new) c.loader) [] [] [] two refl refl (omega arith)
