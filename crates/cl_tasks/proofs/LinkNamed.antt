-- What is refused names loaders of the configuration alone.
use Rattle.std.proofs.Common.{◌≡◌, ◌<◌, ℕ, List, [], ◌∷◌, ◌++◌, length, Option, Some, None, inl, inr, refl, sym, subst, arith}
use Rattle.std.specs.Prelude.{Contains}
use Rattle.std.specs.List.{AllByRecursion}
use Rattle.std.proofs.lemmas.List.Elements.{Contains-push_cases, recursion_from_All}
use Rattle.cl_classfile.specs.Files.{Name}
use Rattle.cl_model.specs.declared.event.Event.{Event}
use Rattle.cl_model.specs.declared.need.Need as rust
use Rattle.cl_model.specs.declared.need.Need.TheVariants as needs
use Rattle.cl_model.specs.declared.event.Event.TheVariants as events
use Rattle.cl_model.specs.States.{State, Record, Equality, start, Answer, recorded_definer, IsPathBetween, Refused, Entry, Equal, Clashes}
use Rattle.cl_model.specs.Machine.{after, state_after}
use Rattle.cl_model.specs.Texts.{EventNames, NeedNames}
use Rattle.cl_model.specs.Views.{answers_of, answer_at, need_of, post_of, step_of, steps_of}
use Rattle.cl_model.proofs.Runs.{recorded_added}
use Rattle.cl_registry.specs.Tables.{Shown, NamesLoaders, state_of}

-- ---- records and equalities name loaders below a count

-- records and equalities of these loaders alone
record AreNamed (count : ℕ) (s : State) : Type 0 where
  pub records : (loader place : ℕ) (name : Name) → recorded_definer s.records loader name ≡ Some place → loader < count
  pub equalities : (e : Equality) → Contains s.equalities e → (e.one < count) × (e.other < count)

none_recorded : (loader place : ℕ) (name : Name) → recorded_definer [] loader name ≡ Some place → ⊥
none_recorded loader place name h = cc

begun_named : (count : ℕ) → AreNamed count start
begun_named count = record { records = λ loader place name h. absurd (none_recorded loader place name h); equalities = λ e h. let l = h.1 in absurd (omega (arith, l)) }

record_named : (count : ℕ) (s : State) (r : Record) → AreNamed count s → r.loader < count → AreNamed count (record s { records = s.records ++ r ∷ [] })
record_named count s r named below = record {
  records = λ loader place name at. elim (recorded_added s.records r loader place name at) [ inl k ↦ named.records loader place name k | inr k ↦ subst (λ (l : ℕ). l < count) k.0 below ];
  equalities = named.equalities;
}

equality_named : (count : ℕ) (s : State) (e : Equality) → AreNamed count s → (e.one < count) × (e.other < count) → AreNamed count (record s { equalities = s.equalities ++ e ∷ [] })
equality_named count s e named below = record {
  records = named.records;
  equalities = λ x h. elim (Contains-push_cases s.equalities e x h) [ inl k ↦ named.equalities x k | inr k ↦ subst (λ (y : Equality). (y.one < count) × (y.other < count)) k below ];
}

same_named : (count : ℕ) (s t : State) → t.records ≡ s.records → t.equalities ≡ s.equalities → AreNamed count s → AreNamed count t
same_named count s t rs es named = record {
  records = λ loader place name at. named.records loader place name (subst (λ (x : List Record). recorded_definer x loader name ≡ Some place) rs at);
  equalities = λ e h. named.equalities e (subst (λ (x : List Equality). Contains x e) es h);
}

post_named : (count q : ℕ) (s : State) (o : Option Answer) → AreNamed count s → AreNamed count (after s (post_of q o))
post_named count q s None named = named
post_named count q s (Some a) named = same_named count s (after s (post_of q (Some a))) refl refl named

step_named : (count : ℕ) (s : State) (now : List (Option Answer)) (e : Event) → EventNames count e → AreNamed count s → AreNamed count (after s (step_of now e))
step_named count s now (events.Define c) name named = record_named count s (record { loader = c.loader; name = c.name; place = c.loader }) named name
step_named count s now (events.Initiate c loader) name named = record_named count s (record { loader = loader; name = c.name; place = c.loader }) named name.1
step_named count s now (events.Constrain e) name named = equality_named count s (record { name = e.name; one = e.one; other = e.other }) named name
step_named count s now (events.Settle r) name named = same_named count s (after s (step_of now (events.Settle r))) refl refl named
step_named count s now (events.Prepare c) name named = same_named count s (after s (step_of now (events.Prepare c))) refl refl named
step_named count s now events.NextRound name named = same_named count s (after s (step_of now events.NextRound)) refl refl named
step_named count s now (events.Post q) name named = post_named count q s (answer_at now q) named

all_named : (count : ℕ) (now : List (Option Answer)) (h : List Event) (s : State) → AllByRecursion (EventNames count) h → AreNamed count s → AreNamed count (state_after s (steps_of now h))
all_named count now [] s names named = named
all_named count now (e ∷ h) s names named = all_named count now h (after s (step_of now e)) names.1 (step_named count s now e names.0 named)

shown_named : (x : Shown) → NamesLoaders x → AreNamed (length x.config.loaders) (state_of x)
shown_named x names =
    let count = length x.config.loaders in
    all_named count (answers_of x.answers) x.history start (recursion_from_All (EventNames count) x.history names.history) (begun_named count)

-- ---- what is refused

path_named : (count : ℕ) (s : State) (name : Name) (a b : ℕ) (path : List ℕ) → AreNamed count s → IsPathBetween s.equalities name a path b → b < count → a < count
path_named count s name a b [] named along below = subst (λ (l : ℕ). l < count) (sym along) below
path_named count s name a b (c ∷ cs) named along below =
    let e = named.equalities along.0.equality along.0.imposed in
    elim (along.0.ends) [ inl k ↦ subst (λ (l : ℕ). l < count) k.0 e.0 | inr k ↦ subst (λ (l : ℕ). l < count) k.1 e.1 ]

differs_named : (count : ℕ) (s : State) (name : Name) (loader place : ℕ) → AreNamed count s → Clashes s (Entry loader name place) → loader < count
differs_named count s name loader place named d = path_named count s name loader d.other d.joined.path named d.joined.along (named.records d.other d.other_place name d.recorded_there)

divides_named : (count : ℕ) (s : State) (name : Name) (a b : ℕ) → AreNamed count s → Clashes s (Equal name a b) → (a < count) × (b < count)
divides_named count s name a b named d =
    (path_named count s name a d.one d.joined.path named d.joined.along (named.records d.one d.place name d.recorded_there), differs_named count s name b d.place named d.differs)

pub refused_named : (x : Shown) (need : rust.Need) → NamesLoaders x → Refused (state_of x) (need_of need) → NeedNames (length x.config.loaders) need
refused_named x (needs.Entry loader name home) names refused = differs_named (length x.config.loaders) (state_of x) name loader home (shown_named x names) refused.clashes
refused_named x (needs.Equal e) names refused = divides_named (length x.config.loaders) (state_of x) e.name e.one e.other (shown_named x names) refused.clashes
