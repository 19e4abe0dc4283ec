-- What a reply told stays so, wherever the registry goes on to (JVMS SE 8, 5.3 to 5.4.3).
use Rattle.std.proofs.Common.{◌≡◌, ◌∙◌, ℕ, true, List, [], ◌∷◌, Option, Some, None, refl, sym, subst}
use Rattle.std.specs.Prelude.{option_map, slice_get, take, Contains, IfSome}
use Rattle.std.specs.List.{AllByRecursion}
use Rattle.cl_hierarchy.specs.Imposed.{Sprung, OfReference, OfPreparation, equal_need}
use Rattle.cl_hierarchy.specs.Lineages.{rows_in}
use Rattle.cl_hierarchy.specs.Rows.{Rowed}
use Rattle.cl_model.specs.declared.class.Class.{Class}
use Rattle.cl_model.specs.declared.need.Equality.{Equality}
use Rattle.cl_model.specs.declared.request.Request.{Request}
use Rattle.cl_model.specs.declared.request.Request.TheVariants as requests
use Rattle.cl_model.specs.declared.settled.Settled.{Settled}
use Rattle.cl_model.specs.Content.{Content}
use Rattle.cl_model.specs.Classes.{class}
use Rattle.cl_model.specs.States.{Met, recorded_definer}
use Rattle.cl_model.specs.Views.{need_of}
use Rattle.cl_registry.specs.Imposing.{IsPreparedBy}
use Rattle.cl_registry.specs.References.{Cited, IsSettledIn, cited_by}
use Rattle.cl_registry.specs.Tables.{Shown, records_of, state_of}
use Rattle.cl_tasks.specs.Follows.{IsSettledOf, Tells, ReplyTells}
use Rattle.cl_tasks.specs.Tasks.{Tasked}
use Rattle.cl_tasks.specs.Waits.{Waits, Looking, Defining, Initiating, Tracing, LookingReference, Settling, Imposing, LookingPrepared, CountingPrepared, Marking}
use Rattle.cl_tasks.specs.declared.turn.Reply.{Reply}
use Rattle.cl_tasks.specs.declared.turn.Reply.TheVariants as reply
use Rattle.cl_schedule.specs.Seats.{GoesOn, IsAfter, IsCitedFor}
use Rattle.cl_schedule.proofs.Later.{holds_later, met_goes, prepared_later, record_later, recorded_as_later, refused_goes, rows_later, settled_in_later}

-- ---- what is settled

pub some_of_map : {A B : Type 0} (f : A → B) (o : Option A) (b : B) → option_map f o ≡ Some b → (a : A) × (o ≡ Some a)
some_of_map f None b e = absurd cc
some_of_map f (Some a) b e = (a, refl)

-- what a reference is settled to is told of the class that the loader has recorded, and stays so
settled_of_later : (old new : Shown) (r : Request) (s : Settled) → GoesOn old new → (e : Cited) × (cited_by old r ≡ Some e) → IsSettledOf old r s → IsSettledOf new r s
settled_of_later old new (requests.Load loader name) s h (e, cited) so = absurd cc
settled_of_later old new (requests.Link loader name) s h (e, cited) so = absurd cc
settled_of_later old new (requests.Resolve loader name i) s h (e, cited) so = λ d kept.
    let at = some_of_map (λ (p : ℕ). the_cited name i p) (recorded_definer (records_of old) loader name) e cited in
    let there : Some at.0 ≡ Some d.loader = sym (record_later old new loader at.0 name h at.1) ∙ kept.1 in
    let same : class name at.0 ≡ d = one_class name at.0 d (sym kept.0) there in
    subst (λ (c : Class). IsSettledIn new c i s) same (settled_in_later old new (class name at.0) i s h (so (class name at.0) (refl, at.1)))
  where
    the_cited : List ℕ → ℕ → ℕ → Cited
    the_cited name i p = record { class = class name p; index = i }

    one_class : (name : List ℕ) (p : ℕ) (d : Class) → name ≡ d.name → Some p ≡ Some d.loader → class name p ≡ d
    one_class name p d n at = let l : p ≡ d.loader = cc in rw (n, l) refl

-- ---- what stands

imposed_later : (old new : Shown) (o : Option Equality) → GoesOn old new → IfSome o (λ n. Met (state_of old) (equal_need n)) → IfSome o (λ n. Met (state_of new) (equal_need n))
imposed_later old new None h so = tt
imposed_later old new (Some n) h so = met_goes old new (equal_need n) h so

marked_later : (old new : Shown) (o : Sprung) → GoesOn old new → IsPreparedBy old o → IsPreparedBy new o
marked_later old new (OfReference d c index) h so = so
marked_later old new (OfPreparation l) h so = prepared_later old new l.own.class h so

first_prepared_later : (old new : Shown) (rows : List Rowed) → GoesOn old new → AllByRecursion (λ (r : Rowed). Contains (state_of old).prepared r.class) rows → AllByRecursion (λ (r : Rowed). Contains (state_of new).prepared r.class) rows
first_prepared_later old new [] h so = tt
first_prepared_later old new (r ∷ rows) h so = (prepared_later old new r.class h so.0, first_prepared_later old new rows h so.1)

-- ---- each reply to each call

told_later : {A : Type 0} (told : Option Content) (old new : Shown) (w : Waits) (given : Reply A) → IsAfter told old new → IsCitedFor old w given → ReplyTells old w given → ReplyTells new w given
told_later told old new (Looking l n) (reply.Looked (Some row)) h cited so = recorded_as_later old new l n row.value h.goes so
told_later told old new (Defining d) (reply.Defined row) h cited so = recorded_as_later old new d.class.loader d.class.name row.value h.goes so
told_later told old new (Initiating j) (reply.Initiated row) h cited so = recorded_as_later old new j.asked j.name row.value h.goes so
told_later told old new (Tracing c) (reply.Lineage l) h cited so = record { config = so.config ∙ sym h.goes.config; class = so.class; rows = rows_later old new h.goes (rows_in l) so.rows }
told_later told old new (LookingReference c i) (reply.LookedReference (Some s)) h cited so = settled_in_later old new c i s.value h.goes so
told_later told old new (Settling r) (reply.Settled s) h cited so = settled_of_later old new r s.value h.goes cited so
told_later told old new (Imposing e k) reply.Imposed h cited so = imposed_later old new (slice_get e.needs k) h.goes so
told_later told old new (LookingPrepared c) (reply.LookedPrepared true) h cited so = prepared_later old new c h.goes so
told_later told old new (CountingPrepared l) (reply.CountedPrepared n) h cited so = first_prepared_later old new (take n l.above) h.goes so
told_later told old new (Marking e) reply.Marked h cited so = marked_later old new e.origin h.goes so
told_later told old new waits (reply.Refused need) h cited so = refused_goes told old new (need_of need) h.goes h.kept so
told_later told old new waits other h cited so = tt

pub tells_later : {A : Type 0} (told : Option Content) (old new : Shown) (t : Tasked) (given : Reply A) → IsAfter told old new → IsCitedFor old t.waits given → Tells old t given → Tells new t given
tells_later told old new t given h cited tells = record { before = holds_later told old new t h tells.before; now = told_later told old new t.waits given h cited tells.now }
