-- What each step that prepares a class of a link leads to: an equality is imposed or refused, or none is left.
use Rattle.std.proofs.Common.{Global, ◌≡◌, ◌∙◌, ◌<◌, ◌≤◌, ◌+◌, ◌-◌, ◌*◌, ℕ, List, [], ◌∷◌, length, Option, Some, inr, refl, sym, ap, subst, arith}
use Rattle.std.specs.Prelude.{slice_get, take, option_map, Contains, IfSome}
use Rattle.std.specs.List.{AllByRecursion}
use Rattle.std.proofs.lemmas.List.{length-map, take-map}
use Rattle.std.proofs.lemmas.Option.{slice_get-map}
use Rattle.std.specs.declared.sync.Arc.{Arc}
use Rattle.cl_classfile.specs.Files.{file_of}
use Rattle.cl_model.specs.declared.class.Class.{Class}
use Rattle.cl_model.specs.declared.need.Equality.{Equality}
use Rattle.cl_model.specs.declared.need.Need as rust
use Rattle.cl_model.specs.declared.request.Request as request
use Rattle.cl_model.specs.declared.request.Request.TheVariants as requests
use Rattle.cl_model.specs.declared.verdict.Verdict.TheVariants as verdicts
use Rattle.cl_model.specs.Content.{Content}
use Rattle.cl_model.specs.Classes.{supers}
use Rattle.cl_model.specs.Machine.{Setting}
use Rattle.cl_model.specs.Preparation.{constraints_of}
use Rattle.cl_model.specs.Service.{ComesTo}
use Rattle.cl_model.specs.States.{State, Need, IsLinked, IsNext, Linkage, AllMet, recorded_definer}
use Rattle.cl_model.specs.Tables.{Bears}
use Rattle.cl_model.specs.Views.{need_of, request_of}
use Rattle.cl_model.proofs.Bind.{some_same}
use Rattle.cl_model.proofs.Gone.{link_refusal_comes}
use Rattle.cl_config.specs.Views.{Configured}
use Rattle.cl_hierarchy.specs.Imposed.{AreLineages, AreOf, IsListed, Listed, OfPreparation, Sprung, equal_need, needs_of}
use Rattle.cl_hierarchy.specs.Lineages.{IsInOrder, IsLined, IsLineageOf, Lined, kin_of, rows_in, row_of}
use Rattle.cl_hierarchy.specs.Rows.{Rowed}
use Rattle.cl_findings.specs.Findings.{Answered, BasisStands, IsWithin, grounded_answer, loader_of}
use Rattle.cl_findings.specs.References.{link_basis}
use Rattle.cl_findings.proofs.References.{next_at, whole_taken}
use Rattle.cl_registry.specs.Imposing.{ArePreparedAbove, IsNextOf, IsReady, IsReadyBy, IsStanding, MayImpose, MayMark, OriginStands}
use Rattle.cl_registry.specs.Posting.{IsBacked}
use Rattle.cl_registry.specs.Tables.{NamesLoaders, Shown, records_of, state_of}
use Rattle.cl_registry.specs.Traced.{IsRowOf}
use Rattle.cl_registry.proofs.Schedules.{some_at}
use Rattle.cl_tasks.specs.Calls.{past_loads}
use Rattle.cl_tasks.specs.Facts.{AreSo}
use Rattle.cl_tasks.specs.Follows.{AnswerFollows, CallsWithin, IsPreparedNext, IsWanted, ServedIn}
use Rattle.cl_tasks.specs.Linking.{LineageTold, ListTold, RefusedTold}
use Rattle.cl_tasks.specs.Measures.{chain_left, each_left, linking_left, most}
use Rattle.cl_tasks.specs.Rooms.{last_room, linking_room, listed_room}
use Rattle.cl_tasks.specs.Stages.{IsAtPlace, IsChain, behind, chain_calls, class_in, list_calls}
use Rattle.cl_tasks.specs.Steps.{LeadsBy}
use Rattle.cl_tasks.specs.declared.stage.Chain.{Chain}
use Rattle.cl_tasks.specs.declared.stage.Link.TheVariants as links
use Rattle.cl_tasks.specs.declared.stage.Next.{Next}
use Rattle.cl_tasks.specs.declared.stage.Stage.TheVariants as stages
use Rattle.cl_tasks.specs.declared.turn.Turn.TheVariants as turn
use Rattle.cl_tasks.specs.Waits as waits
use Rattle.cl_tasks.proofs.Lead.{leads_by, leads_post}
use Rattle.cl_tasks.proofs.LinkAbove.{supers_prepared}
use Rattle.cl_tasks.proofs.LinkFacts.{all_at, chain_goal, chain_prepared, chain_whole, list_chain, list_facts, list_imposed, list_of, list_traced, row_there, traced_own}
use Rattle.cl_tasks.proofs.LinkLeads.{each_more, fewer_calls, goal_at, in_world, one_more, stay, within_same}
use Rattle.cl_tasks.proofs.LinkNamed.{refused_named}
use Rattle.cl_tasks.proofs.LinkPlan.{IsThere, chain_step, equality_next, preparation_next, there}
use Rattle.cl_tasks.proofs.MemberFacts.{traced_as}
use Rattle.cl_tasks.specs.Turns.{IsOf}

-- ---- the list of a class

-- the list of the class at the place of a chain is at that place
pub at_place : {A : Type 0} (c : Configured) (k : Chain A) (l : Lined) (e : Listed) → IsChain c k → IsOf c (class_in k.whole k.place) l → e.origin ≡ OfPreparation l → IsAtPlace k e
at_place c k l e chain of from =
    let row = row_there k.whole k.place chain.within in
    record {
      of = subst (λ (d : Class). k.goal.request ≡ requests.Link (loader_of k.goal.request) d.name) (sym chain.whole.class) chain.goal.of;
      at = l;
      prepares = from;
      config = of.config ∙ sym chain.whole.config;
      there = ap (λ (o : Option Rowed). option_map (λ (y : Rowed). y.class) o) row.1 ∙ ap (λ (d : Class). Some d) (sym row.2 ∙ sym of.class);
    }

-- a list that was told of is at its first equality
traced_told : {A : Type 0} (x : Shown) (k : Chain A) (l : Lined) (e : Listed) → e.origin ≡ OfPreparation l → LineageTold k l x → ListTold k e 0 x
traced_told x k l e from h = list_of x k e 0 l from h.before (traced_as x (class_in k.whole k.place) l h.now) (no_needs (needs_of e.needs))
  where
    no_needs : (ns : List Need) → AllMet (state_of x) (take 0 ns)
    no_needs [] = tt
    no_needs (n ∷ ns) = tt

list_turns : (n m : ℕ) → 0 < n → m < most → linking_left (n - 1) (m - 0) + 1 ≤ chain_left n
list_turns n m some few =
    let is : (n - 1) + 1 ≡ n = omega (arith, some) in
    let e = each_more (n - 1) each_left in
    let f = ap (λ (k : ℕ). k * each_left) is in
    omega (arith, e, f, few)

-- ---- equalities that are skipped

-- fewer are left where some are skipped
skipped_turns : (a m p n : ℕ) → p ≤ n → (a + ((m - n) + 1)) + 1 ≤ (a + ((m - p) + 1)) + 1
skipped_turns a m p n le = omega (arith, le)

skipped_calls : (a m p n : ℕ) → p ≤ n → 0 + (a + ((m - n) + 2)) ≤ a + ((m - p) + 2)
skipped_calls a m p n le = omega (arith, le)

-- where all that are skipped are met, as many more are imposed
skipped_told : {A : Type 0} (x : Shown) (k : Chain A) (e : Listed) (p n : ℕ) → IsAtPlace k e → ((s : State) → AllMet s (take p (needs_of e.needs)) → AllMet s (take n (needs_of e.needs))) → ListTold k e p x → ListTold k e n x
skipped_told x k e p n place met h =
    list_of x k e n place.at place.prepares (list_chain x k e p h) (list_traced x k e p place.at place.prepares h) (met (state_of x) (list_imposed x k e p h))

-- where some are skipped, a step that goes on behind them goes on from here
pub skipped_leads : {A : Type 0} {n : Next A} (told : Option Content) (c : Configured) (k : Chain A) (e : Listed) (p next : ℕ) → IsAtPlace k e → p ≤ next → ((s : State) → AllMet s (take p (needs_of e.needs)) → AllMet s (take next (needs_of e.needs)))
    → LeadsBy told c k.goal.q k.goal.request (linking_room k e next) (ListTold k e next) n → LeadsBy told c k.goal.q k.goal.request (linking_room k e p) (ListTold k e p) n
skipped_leads told c k e p next place le met l =
    leads_by (linking_room k e p) (ListTold k e p) l (skipped_turns (chain_left (behind k - 1)) (length e.needs) p next le)
    (fewer_calls told c (ListTold k e p) k.goal.request 0 (list_calls k.whole k.place (length e.needs - next)) (list_calls k.whole k.place (length e.needs - p)) (skipped_calls (chain_calls k.whole (k.place + 1)) (length e.needs) p next le))
    (λ x h. skipped_told x k e p next place met h)

-- what a list at a place of a chain was made from, and what is known of it
pub record IsKnown {A : Type 0} (told : Option Content) (k : Chain A) (e : Listed) : Type 0 where
  pub place : IsAtPlace k e
  pub order : IsInOrder k.whole
  pub whole : IsLineageOf told k.whole
  pub listed : IsListed told e

module _ {A : Type 0} (told : Option Content) (c : Configured) (k : Chain A) (e : Listed) (chain : IsChain c k) (known : IsKnown told k e) where
  are : needs_of e.needs ≡ constraints_of (kin_of known.place.at)
  are = subst (λ (from : Sprung). AreOf from (needs_of e.needs)) known.place.prepares known.listed.are

  other : IsLineageOf told known.place.at
  other = let lined : IsLined told known.place.at = subst (λ (from : Sprung). AreLineages told from) known.place.prepares known.listed.lineages in lined.lineage

  -- the lineage of the class at the place stands
  standing : (x : Shown) (i : ℕ) → ListTold k e i x → IsStanding x known.place.at
  standing x i h =
      let traced = list_traced x k e i known.place.at known.place.prepares h in
      record { config = traced.config; recorded = (traced_own x known.place.at.own.class known.place.at traced).recorded }

  goal_recorded : (x : Shown) (i : ℕ) → ListTold k e i x → recorded_definer (records_of x) (loader_of k.goal.request) k.whole.own.class.name ≡ Some k.whole.own.class.loader
  goal_recorded x i h =
      subst (λ (d : Class). recorded_definer (records_of x) (loader_of k.goal.request) d.name ≡ Some d.loader) (sym chain.whole.class) (goal_at x k.goal (chain_goal x k (list_chain x k e i h)))

  -- where the request is served, the link is at that class
  pub here : (g : Setting) (x : Shown) (i : ℕ) → ServedIn told c g (state_of x) → ListTold k e i x → IsThere g (state_of x) (loader_of k.goal.request) k.whole known.place.at k.place
  here g x i served h =
      there g (state_of x) (loader_of k.goal.request) k.whole known.place.at k.place served.sound known.order (in_world told c g (state_of x) served k.whole chain.whole.config known.whole)
      (in_world told c g (state_of x) served known.place.at (known.place.config ∙ chain.whole.config) other) (goal_recorded x i h) known.place.there (chain_prepared x k (list_chain x k e i h))

  -- the class at the place has as many calls left as it has equalities, and two more
  listed_calls : (now : Shown → Type 0) → ((x : Shown) → now x → ListTold k e 0 x) → CallsWithin told c now k.goal.request 0 (past_loads 0 0 (list_calls k.whole k.place (length e.needs - 0))) (past_loads 0 0 (chain_calls k.whole k.place))
  listed_calls now tells =
      λ g x p served is h.
      let step = chain_step g (state_of x) (loader_of k.goal.request) k.whole known.place.at k.place (here g x 0 served (tells x h)) in
      let many : length e.needs ≡ length (constraints_of (kin_of known.place.at)) = sym (length-map e.needs equal_need) ∙ ap (λ (ns : List Need). length ns) are in
      fewer_calls told c now k.goal.request 0 (list_calls k.whole k.place (length e.needs - 0)) (chain_calls k.whole k.place)
      (within (length e.needs) (length (constraints_of (kin_of known.place.at))) (chain_calls k.whole (k.place + 1)) (chain_calls k.whole k.place) many step) g x p served is h
    where
      within : (n m b a : ℕ) → n ≡ m → a ≡ (m + 2) + b → 0 + (b + ((n - 0) + 2)) ≤ a
      within n m b a many step = omega (arith, many, step)

  -- a step that begins with its equalities goes on from there
  pub listed_leads : {n : Next A} (l : Lined) → e.origin ≡ OfPreparation l → length e.needs < most → LeadsBy told c k.goal.q k.goal.request (linking_room k e 0) (ListTold k e 0) n
      → LeadsBy told c k.goal.q k.goal.request (listed_room k) (LineageTold k l) n
  listed_leads l from few next =
      let lt = chain.within in
      let some : 0 < behind k = omega (arith, lt) in
      leads_by (listed_room k) (LineageTold k l) next (list_turns (behind k) (length e.needs) some few) (listed_calls (LineageTold k l) (λ x h. traced_told x k l e from h)) (λ x h. traced_told x k l e from h)

  -- ---- one of them is imposed

  may_impose : (x : Shown) (i : ℕ) → i < length e.needs → ListTold k e i x → MayImpose x e i
  may_impose x i lt h = record {
    stands = subst (λ (from : Sprung). OriginStands x from) (sym known.place.prepares) (standing x i h);
    within = lt;
    earlier = list_imposed x k e i h;
  }

  wanted_next : (g : Setting) (x : Shown) (i : ℕ) → i < length e.needs → ServedIn told c g (state_of x) → ListTold k e i x → IsNextOf e i (IsWanted g (state_of x) k.goal.request)
  wanted_next g x i lt served h =
      let one = some_at e.needs i lt in
      let there_it_is : slice_get (needs_of e.needs) i ≡ Some (equal_need one.0) = slice_get-map equal_need e.needs i ∙ ap (λ (o : Option Equality). option_map equal_need o) one.1 in
      subst (λ (o : Option Equality). IfSome o (λ n. IsWanted g (state_of x) k.goal.request (equal_need n))) (sym one.1)
      (equality_next g (state_of x) k.goal.request k.whole known.place.at k.place served.sound known.place.of (here g x i served h) (needs_of e.needs) i (equal_need one.0) are there_it_is (list_imposed x k e i h))

  pub impose_leads : (i : ℕ) (list shared : Arc Listed Global) → list.value ≡ e → shared.value ≡ e → i < length e.needs
      → LeadsBy told c k.goal.q k.goal.request (linking_room k e i) (ListTold k e i) (record { stage = stages.Link (links.Imposing k list i); turn = turn.Impose shared i })
  impose_leads i list shared one two lt = record {
    kept = (chain, subst (λ (l : Listed). IsAtPlace k l) (sym one) known.place, subst (λ (l : Listed). i < length l.needs) (sym one) lt);
    number = refl;
    asks = ap (λ (l : Listed). waits.Imposing l i) (one ∙ sym two);
    serves = refl;
    left = subst (λ (l : Listed). linking_left (behind k - 1) (length l.needs - i) < linking_left (behind k - 1) (length e.needs - i) + 1) (sym one) (one_more (linking_left (behind k - 1) (length e.needs - i)));
    calls = subst (λ (l : Listed). CallsWithin told c (ListTold k e i) k.goal.request 0 (past_loads 0 0 (list_calls k.whole k.place (length l.needs - i))) (past_loads 0 0 (list_calls k.whole k.place (length e.needs - i)))) (sym one)
        (stay told c (ListTold k e i) k.goal.request (past_loads 0 0 (list_calls k.whole k.place (length e.needs - i))));
    keeps = λ x h. record { frames = tt; facts = subst (λ (l : Listed). AreSo x (list_facts k l i)) (sym one) h };
    backed = λ x config names fine h. subst (λ (l : Listed). MayImpose x l i) (sym two) (may_impose x i lt h);
    follows = λ g x served h. subst (λ (l : Listed). IsNextOf l i (IsWanted g (state_of x) k.goal.request)) (sym two) (wanted_next g x i lt served h);
  }

  -- ---- the class is prepared

  same_row : (x : Shown) (a b : Rowed) → a.class ≡ b.class → row_of x.rows a.class ≡ Some a → row_of x.rows b.class ≡ Some b → a ≡ b
  same_row x a b is h m = some_same a b (sym h ∙ ap (λ (d : Class). row_of x.rows d) is ∙ m)

  prepared_above : (x : Shown) (i : ℕ) → ListTold k e i x → ArePreparedAbove x known.place.at.own.class (supers (file_of known.place.at.own.file))
  prepared_above x i h =
      let row = row_there k.whole k.place chain.within in
      let of_row = all_at (IsRowOf x) (rows_in k.whole) k.place row.0 (chain_whole x k (list_chain x k e i h)).rows row.1 in
      let of_at = traced_own x known.place.at.own.class known.place.at (list_traced x k e i known.place.at known.place.prepares h) in
      let class_is : row.0.class ≡ known.place.at.own.class = some_same row.0.class known.place.at.own.class (sym (ap (λ (o : Option Rowed). option_map (λ (y : Rowed). y.class) o) row.1) ∙ known.place.there) in
      let same = same_row x row.0 known.place.at.own class_is of_row.kept of_at.kept in
      let before = subst (λ (cs : List Class). AllByRecursion (Contains (state_of x).prepared) cs) (take-map (λ (y : Rowed). y.class) k.place (rows_in k.whole)) (chain_prepared x k (list_chain x k e i h)) in
      subst (λ (r : Rowed). ArePreparedAbove x r.class (supers (file_of r.file))) same (supers_prepared x k.whole k.place row.0 known.order row.1 of_row.placed before)

  ready : (x : Shown) (i : ℕ) → i ≡ length e.needs → ListTold k e i x → IsReady x known.place.at (needs_of e.needs)
  ready x i all h =
      record {
        stands = standing x i h;
        above = prepared_above x i h;
        imposed = subst (λ (ns : List Need). AllMet (state_of x) ns) (whole_taken (needs_of e.needs) i (all ∙ sym (length-map e.needs equal_need))) (list_imposed x k e i h);
      }

  prepared_next : (g : Setting) (x : Shown) (i : ℕ) → i ≡ length e.needs → ServedIn told c g (state_of x) → ListTold k e i x → IsPreparedNext g (state_of x) k.goal.request e.origin
  prepared_next g x i all served h =
      let met : AllMet (state_of x) (constraints_of (kin_of known.place.at)) = subst (λ (ns : List Need). AllMet (state_of x) ns) are (ready x i all h).imposed in
      subst (λ (from : Sprung). IsPreparedNext g (state_of x) k.goal.request from) (sym known.place.prepares)
      (preparation_next g (state_of x) k.goal.request k.whole known.place.at k.place served.sound known.place.of (here g x i served h) met)

  fewer : (a m : ℕ) → a + (0 + 1) < a + (m + 1) + 1
  fewer a m = omega arith

  none_left : (b n : ℕ) → 0 + (b + (0 + 2)) ≤ b + (n + 2)
  none_left b n = omega arith

  pub mark_leads : (i : ℕ) (list shared : Arc Listed Global) → list.value ≡ e → shared.value ≡ e → i ≡ length e.needs
      → LeadsBy told c k.goal.q k.goal.request (linking_room k e i) (ListTold k e i) (record { stage = stages.Link (links.Marking k list); turn = turn.Mark shared })
  mark_leads i list shared one two all = record {
    kept = (chain, subst (λ (l : Listed). IsAtPlace k l) (sym one) known.place);
    number = refl;
    asks = ap (λ (l : Listed). waits.Marking l) (one ∙ sym two);
    serves = refl;
    left = fewer (chain_left (behind k - 1)) (length e.needs - i);
    calls = fewer_calls told c (ListTold k e i) k.goal.request 0 (list_calls k.whole k.place 0) (list_calls k.whole k.place (length e.needs - i)) (none_left (chain_calls k.whole (k.place + 1)) (length e.needs - i));
    keeps = λ x h. record { frames = tt; facts = subst (λ (l : Listed). AreSo x (list_facts k l (length l.needs))) (sym one) (subst (λ (n : ℕ). AreSo x (list_facts k e n)) all h) };
    backed = λ x config names fine h. subst (λ (l : Listed). MayMark x l) (sym two) (subst (λ (from : Sprung). IsReadyBy x from (needs_of e.needs)) (sym known.place.prepares) (ready x i all h));
    follows = λ g x served h. subst (λ (l : Listed). IsPreparedNext g (state_of x) k.goal.request l.origin) (sym two) (prepared_next g x i all served h);
  }

  -- ---- one of them is refused

  refused_comes : (g : Setting) (x : Shown) (i : ℕ) (n : Need) → slice_get (needs_of e.needs) i ≡ Some n → ServedIn told c g (state_of x) → RefusedTold k e i n x → ComesTo g (state_of x) (request_of k.goal.request) (Linkage n)
  refused_comes g x i n is served h =
      let s = state_of x in
      let l = k.whole in
      let now = here g x i served h.before in
      let next = subst (λ (ns : List Need). IsNext s ns n) are (next_at s (needs_of e.needs) i n is (list_imposed x k e i h.before)) in
      subst (λ (q : request.Request). ComesTo g s (request_of q) (Linkage n)) (sym known.place.of)
      (link_refusal_comes g s (loader_of k.goal.request) l.own.class.loader l.own.class.name (kin_of l) (kin_of known.place.at) now.front now.behind n served.sound.closed now.kept now.has now.split now.linked next h.now)

  not_linked : (n : Need) (d : Class) → Linkage n ≡ IsLinked d → ⊥
  not_linked n d h = cc

  refused_borne : (s : State) (n : Need) → Bears s (request_of k.goal.request) (Linkage n)
  refused_borne s n = subst (λ (q : request.Request). Bears s (request_of q) (Linkage n)) (sym known.place.of) (λ d h. absurd (not_linked n d h))

  -- its finding
  abbrev found : ℕ → rust.Need → Answered
  found i need = grounded_answer k.goal.request (verdicts.Linkage need) (link_basis k.goal.request k.whole k.place e i (Some (need_of need)))

  refused_backed : (x : Shown) (i : ℕ) (need : rust.Need) → x.config ≡ c → NamesLoaders x → RefusedTold k e i (need_of need) x → IsBacked x (found i need)
  refused_backed x i need config names h =
      let before = subst (λ (cs : List Class). AllByRecursion (Contains (state_of x).prepared) cs) (take-map (λ (y : Rowed). y.class) k.place (rows_in k.whole)) (chain_prepared x k (list_chain x k e i h.before)) in
      let within : IsWithin (length x.config.loaders) (found i need) = record { loader = within_same c x (loader_of k.goal.request) config chain.goal.asked; answer = refused_named x need names h.now } in
      let basis : BasisStands x.config (state_of x) (found i need).basis = record { config = chain.whole.config ∙ sym config; carried = ((goal_recorded x i h.before, list_imposed x k e i h.before), before, h.now) } in
      record { within = within; answer = record { grounded = inr (record { within = within; basis = basis }); borne = refused_borne (state_of x) (need_of need) } }

  pub refused_leads : (i : ℕ) (f : Answered) (need : rust.Need) → slice_get (needs_of e.needs) i ≡ Some (need_of need) → f ≡ found i need
      → LeadsBy {A = A} told c k.goal.q k.goal.request last_room (RefusedTold k e i (need_of need)) (record { stage = stages.Done k.goal.q; turn = turn.Post f })
  refused_leads i f need at is =
      leads_post (ap (λ (a : Answered). a.request) is) (omega arith) (λ w p s. omega arith) (λ x config names fine h. subst (λ (a : Answered). IsBacked x a) (sym is) (refused_backed x i need config names h))
      (λ g x served h. subst (λ (a : Answered). AnswerFollows g (state_of x) k.goal.request a.answer) (sym is) (refused_comes g x i (need_of need) at served h))
