-- What the tables bear they bear wherever the registry goes on to (JVMS SE 8, 5.3 to 5.4.3).
use Rattle.std.proofs.Common.{◌≡◌, ◌⊎◌, inl, inr, ◌∙◌, ◌<◌, ℕ, List, [], ◌∷◌, length, take, Option, Some, None, refl, sym, ap, subst}
use Rattle.std.specs.Prelude.{option_and_then, option_map, Contains, IfSome, IsSome}
use Rattle.std.specs.List.{AllByRecursion}
use Rattle.cl_classfile.specs.Files.{file_of}
use Rattle.cl_config.specs.Views.{Configured}
use Rattle.cl_findings.specs.Findings.{Answered, Based, BasisStands, IsLookedUp, IsWithin, Stands}
use Rattle.cl_hierarchy.specs.Drafts.{Drafted}
use Rattle.cl_hierarchy.specs.Imposed.{Sprung, OfReference, OfPreparation, needs_of}
use Rattle.cl_hierarchy.specs.Lineages.{Lined}
use Rattle.cl_hierarchy.specs.Rows.{FitsAs, Rowed}
use Rattle.cl_model.specs.declared.answer.Answer as rust
use Rattle.cl_model.specs.declared.class.Class.{Class}
use Rattle.cl_model.specs.declared.request.Request.{Request}
use Rattle.cl_model.specs.declared.request.Request.TheVariants as requests
use Rattle.cl_model.specs.declared.settled.Settled.{Settled}
use Rattle.cl_model.specs.Content.{Content}
use Rattle.cl_model.specs.Classes.{class, Above, supers}
use Rattle.cl_model.specs.Machine.{Setting}
use Rattle.cl_model.specs.States.{Need, AllMet, Refused, recorded_definer}
use Rattle.cl_model.specs.Tables.{Bears}
use Rattle.cl_model.specs.Views.{request_of, verdict_of}
use Rattle.cl_model.proofs.Sound.{runs_are_sound}
use Rattle.cl_model.proofs.Tables.{may_bear}
use Rattle.cl_registry.specs.Imposing.{ArePreparedAbove, IsReadyBy, IsStanding, OriginStands}
use Rattle.cl_registry.specs.Posting.{AnswerBacked, IsBacked}
use Rattle.cl_registry.specs.References.{Cited, cited_by, settled_by}
use Rattle.cl_registry.specs.Settling.{FindingSettles}
use Rattle.cl_registry.specs.Tables.{Shown, IsKept, MayEnter, looked_row, records_of, settled_at, state_of, steps, machine}
use Rattle.cl_registry.proofs.Placed.{recorded_row}
use Rattle.cl_registry.proofs.Tracing.{row_of_record}
use Rattle.cl_tasks.specs.Follows.{AnswerFollows, Backed}
use Rattle.cl_tasks.specs.declared.turn.Turn.{Turn}
use Rattle.cl_tasks.specs.declared.turn.Turn.TheVariants as turn
use Rattle.cl_schedule.specs.Replies.{IsCall}
use Rattle.cl_schedule.specs.Seats.{GoesOn, IsAfter}
use Rattle.cl_schedule.proofs.Later.{met_goes, prepared_later, record_later, refused_goes, row_stays, settled_at_later}
use Rattle.cl_schedule.proofs.Telling.{some_of_map}

-- ---- a class is defined

some_is : {A : Type 0} (o : Option A) → IsSome o → (a : A) × (o ≡ Some a)
some_is None e = absurd cc
some_is (Some a) e = (a, refl)

some_later : (o n : Option ℕ) → ((p : ℕ) → o ≡ Some p → n ≡ Some p) → IsSome o → IsSome n
some_later None n stays is = absurd cc
some_later (Some p) n stays is = subst IsSome (sym (stays p refl)) is

above_later : (old new : Shown) (loader : ℕ) (above : List Above) → GoesOn old new → AllByRecursion (λ (a : Above). IsSome (recorded_definer (records_of old) loader a.name)) above → AllByRecursion (λ (a : Above). IsSome (recorded_definer (records_of new) loader a.name)) above
above_later old new loader [] h all = tt
above_later old new loader (a ∷ above) h all = (
  some_later (recorded_definer (records_of old) loader a.name) (recorded_definer (records_of new) loader a.name) (λ p is. record_later old new loader p a.name h is) all.0,
  above_later old new loader above h all.1,
)

-- the row of a class that is recorded stays the one that is found
looked_later : (told : Option Content) (old new : Shown) (loader : ℕ) (name : List ℕ) → IsKept told old → GoesOn old new → IsSome (recorded_definer (records_of old) loader name) → looked_row old loader name ≡ looked_row new loader name
looked_later told old new loader name kept h is =
    let at = some_is (recorded_definer (records_of old) loader name) is in
    let r = recorded_row told old loader at.0 name kept at.1 in
    r.found ∙ sym (row_of_record new loader at.0 name (record_later old new loader at.0 name h at.1) ∙ row_stays old.rows h.more new.rows (class name at.0) r.row h.rows (sym (row_of_record old loader at.0 name at.1) ∙ r.found))

fit_later : (told : Option Content) (old new : Shown) (c : Class) (above : List Above) → IsKept told old → GoesOn old new → AllByRecursion (λ (a : Above). IsSome (recorded_definer (records_of old) c.loader a.name)) above
    → AllByRecursion (λ (a : Above). IfSome (looked_row old c.loader a.name) (FitsAs c a)) above → AllByRecursion (λ (a : Above). IfSome (looked_row new c.loader a.name) (FitsAs c a)) above
fit_later told old new c [] kept h all fit = tt
fit_later told old new c (a ∷ above) kept h all fit = (
  subst (λ (o : Option Rowed). IfSome o (FitsAs c a)) (looked_later told old new c.loader a.name kept h all.0) fit.0,
  fit_later told old new c above kept h all.1 fit.1,
)

enter_later : (told : Option Content) (old new : Shown) (d : Drafted) → IsKept told old → GoesOn old new → MayEnter old d → MayEnter new d
enter_later told old new d kept h may = record {
  config = may.config ∙ sym h.config;
  loader = subst (λ (c : Configured). d.class.loader < length c.loaders) (sym h.config) may.loader;
  above = above_later old new d.class.loader (supers (file_of d.file)) h may.above;
  fit = fit_later told old new d.class (supers (file_of d.file)) kept h may.above may.fit;
}

-- ---- what a list was made from, and what is met

all_met_later : (old new : Shown) (ns : List Need) → GoesOn old new → AllMet (state_of old) ns → AllMet (state_of new) ns
all_met_later old new [] h all = tt
all_met_later old new (n ∷ ns) h all = (met_goes old new n h all.0, all_met_later old new ns h all.1)

standing_later : (old new : Shown) (l : Lined) → GoesOn old new → IsStanding old l → IsStanding new l
standing_later old new l h is = record { config = is.config ∙ sym h.config; recorded = record_later old new l.own.class.loader l.own.class.loader l.own.class.name h is.recorded }

above_prepared_later : (old new : Shown) (c : Class) (above : List Above) → GoesOn old new → ArePreparedAbove old c above → ArePreparedAbove new c above
above_prepared_later old new c [] h all = tt
above_prepared_later old new c (a ∷ above) h all =
    let one = all.0 in (
      record {
        place = one.place;
        recorded = record_later old new c.loader one.place a.name h one.recorded;
        prepared = prepared_later old new (class a.name one.place) h one.prepared;
      },
      above_prepared_later old new c above h all.1,
    )

stands_for_later : (old new : Shown) (o : Sprung) → GoesOn old new → OriginStands old o → OriginStands new o
stands_for_later old new (OfReference d c index) h stands = (
  standing_later old new d h stands.0,
  record {
    config = stands.1.config ∙ sym h.config;
    recorded = record_later old new d.own.class.loader c.own.class.loader c.own.class.name h stands.1.recorded;
    accessible = stands.1.accessible;
  },
)
stands_for_later old new (OfPreparation l) h stands = standing_later old new l h stands

ready_by_later : (old new : Shown) (o : Sprung) (ns : List Need) → GoesOn old new → IsReadyBy old o ns → IsReadyBy new o ns
ready_by_later old new (OfReference d c index) ns h is = is
ready_by_later old new (OfPreparation l) ns h is = record {
  stands = standing_later old new l h is.stands;
  above = above_prepared_later old new l.own.class (supers (file_of l.own.file)) h is.above;
  imposed = all_met_later old new ns h is.imposed;
}

-- ---- what a finding rests on

all_prepared_later : (old new : Shown) (cs : List Class) → GoesOn old new → AllByRecursion (Contains (state_of old).prepared) cs → AllByRecursion (Contains (state_of new).prepared) cs
all_prepared_later old new [] h all = tt
all_prepared_later old new (c ∷ cs) h all = (prepared_later old new c h all.0, all_prepared_later old new cs h all.1)

refusal_later : (told : Option Content) (old new : Shown) (o : Option Need) → IsAfter told old new → IfSome o (Refused (state_of old)) → IfSome o (Refused (state_of new))
refusal_later told old new None h is = tt
refusal_later told old new (Some n) h is = refused_goes told old new n h.goes h.kept is

basis_later : (told : Option Content) (old new : Shown) (o : Option Based) → IsAfter told old new → BasisStands old.config (state_of old) o → BasisStands new.config (state_of new) o
basis_later told old new None h is = is
basis_later told old new (Some b) h is = record {
  config = is.config ∙ sym h.goes.config;
  carried = (all_met_later old new b.needs h.goes is.carried.0, all_prepared_later old new b.prepared h.goes is.carried.1, refusal_later told old new b.refused h is.carried.2);
}

within_later : (old new : Shown) (f : Answered) → GoesOn old new → IsWithin (length old.config.loaders) f → IsWithin (length new.config.loaders) f
within_later old new f h is = subst (λ (c : Configured). IsWithin (length c.loaders) f) (sym h.config) is

stands_later : (told : Option Content) (old new : Shown) (f : Answered) → IsAfter told old new → Stands old.config (state_of old) f → Stands new.config (state_of new) f
stands_later told old new f h is = record { within = within_later old new f h.goes is.within; basis = basis_later told old new f.basis h is.basis }

map_later : {A B : Type 0} (f : A → B) (o n : Option A) (b : B) → ((a : A) → o ≡ Some a → n ≡ Some a) → option_map f o ≡ Some b → option_map f n ≡ Some b
map_later f o n b stays is =
    let at = some_of_map f o b is in
    ap (option_map f) (stays at.0 at.1) ∙ sym (ap (option_map f) at.1) ∙ is

pub cited_later : (old new : Shown) (r : Request) (e : Cited) → GoesOn old new → cited_by old r ≡ Some e → cited_by new r ≡ Some e
cited_later old new (requests.Load loader name) e h is = is
cited_later old new (requests.Link loader name) e h is = is
cited_later old new (requests.Resolve loader name i) e h is =
    map_later (λ (p : ℕ). the_cited p) (recorded_definer (records_of old) loader name) (recorded_definer (records_of new) loader name) e (λ p at. record_later old new loader p name h at) is
  where
    the_cited : ℕ → Cited
    the_cited p = record { class = class name p; index = i }

settle_later : (told : Option Content) (old new : Shown) (f : Answered) → IsAfter told old new → FindingSettles old f → FindingSettles new f
settle_later told old new f h (s, is) = (
  s,
  record { cited = cited_later old new f.request (record { class = s.class; index = s.index }) h.goes is.cited; says = is.says; stands = stands_later told old new f h is.stands },
)

-- what the entry that a request resolves is settled to stays so
settled_by_later : (old new : Shown) (r : Request) (s : Settled) → GoesOn old new → settled_by old r ≡ Some s → settled_by new r ≡ Some s
settled_by_later old new r s h is = by_entry (cited_by old r) refl is
  where
    by_entry : (o : Option Cited) → cited_by old r ≡ o → option_and_then (λ (e : Cited). settled_at old e.class e.index) o ≡ Some s → settled_by new r ≡ Some s
    by_entry None at is = absurd cc
    by_entry (Some e) at is =
        ap (option_and_then (λ (k : Cited). settled_at new k.class k.index)) (cited_later old new r e h at) ∙ settled_at_later old new e.class e.index s h is

-- ---- calls and posts

pub call_backed_later : {A : Type 0} (told : Option Content) (old new : Shown) (u : Turn A) → IsKept told old → IsAfter told old new → IsCall u → Backed old u → Backed new u
call_backed_later told old new (turn.Define d) kept h call backed = enter_later told old new d kept h.goes backed
call_backed_later told old new (turn.Initiate j) kept h call backed = record {
  config = backed.config ∙ sym h.goes.config;
  loader = subst (λ (c : Configured). j.value.asked < length c.loaders) (sym h.goes.config) backed.loader;
  defined = record_later old new j.value.definer j.value.definer j.value.name h.goes backed.defined;
}
call_backed_later told old new (turn.Lineage c) kept h call backed = record_later old new c.loader c.loader c.name h.goes backed
call_backed_later told old new (turn.Settle f) kept h call backed = settle_later told old new f h backed
call_backed_later told old new (turn.Impose e k) kept h call backed = record {
  stands = stands_for_later old new e.value.origin h.goes backed.stands;
  within = backed.within;
  earlier = all_met_later old new (take k (needs_of e.value.needs)) h.goes backed.earlier;
}
call_backed_later told old new (turn.Mark e) kept h call backed = ready_by_later old new e.value.origin (needs_of e.value.needs) h.goes backed
call_backed_later told old new (turn.Post f) kept h call backed = absurd call
call_backed_later told old new other kept h call backed = tt

answer_backed_later : (content : Content) (old new : Shown) (r : Request) (f : Answered) (a : rust.Answer) → IsAfter (Some content) old new → AnswerFollows (machine new content) (state_of new) r a → f.request ≡ r → AnswerBacked old f a → AnswerBacked new f a
answer_backed_later content old new r f (rust.TheVariants.Said v) h follows is backed =
    let g : Setting = machine new content in
    record {
      grounded = grounds backed.grounded;
      borne = subst (λ (k : Request). Bears (state_of new) (request_of k) (verdict_of v)) (sym is)
          (may_bear g (state_of new) (request_of r) (verdict_of v) (runs_are_sound g (steps new) h.kept.run).closed follows.may_say);
    }
  where
    grounds : IsLookedUp f.request v ⊎ Stands old.config (state_of old) f → IsLookedUp f.request v ⊎ Stands new.config (state_of new) f
    grounds (inl up) = inl up
    grounds (inr stands) = inr (stands_later (Some content) old new f h stands)
answer_backed_later content old new r f (rust.TheVariants.Shared s) h follows is backed = settled_by_later old new f.request s.value h.goes backed
answer_backed_later content old new r f rust.TheVariants.Memory h follows is backed = tt
answer_backed_later content old new r f (rust.TheVariants.SourceFault n l) h follows is backed = tt

-- where a content is told the tables bear an answer wherever it follows
pub post_backed_later : (content : Content) (old new : Shown) (r : Request) (f : Answered) → IsAfter (Some content) old new → AnswerFollows (machine new content) (state_of new) r f.answer → f.request ≡ r → IsBacked old f → IsBacked new f
post_backed_later content old new r f h follows is backed = record {
  within = within_later old new f h.goes backed.within;
  answer = answer_backed_later content old new r f f.answer h follows is backed.answer;
}
