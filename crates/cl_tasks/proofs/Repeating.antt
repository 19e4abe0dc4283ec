-- What a step leads to where a class accepts again what it accepted before.
use Rattle.std.proofs.Common.{◌≡◌, ◌∙◌, ◌<◌, ℕ, zero, suc, List, [], ◌∷◌, Option, Some, None, refl, sym, ap, subst, slice_get, arith}
use Rattle.cl_classfile.specs.Files.{file_of}
use Rattle.cl_model.specs.declared.class.Class.{Class}
use Rattle.cl_model.specs.Classes.{Above, class, supers}
use Rattle.cl_model.specs.Content.{Content}
use Rattle.cl_model.specs.Frames.{Frame, with_accepted}
use Rattle.cl_config.specs.Views.{Configured}
use Rattle.cl_hierarchy.specs.Frames.{Framed, accepted_of, frame_of, with_definer}
use Rattle.cl_hierarchy.specs.Paths.{IsPath, Pathed, frames_of}
use Rattle.cl_hierarchy.specs.Repeats.{AcceptsRepeated, CompletesRepeated, Goes, Repeats}
use Rattle.cl_hierarchy.specs.declared.path.Repeated as outcome
use Rattle.cl_hierarchy.specs.declared.path.Repeated.TheVariants as outcomes
use Rattle.cl_hierarchy.proofs.Frames.{accepts_one}
use Rattle.cl_findings.proofs.Whole.{repeated_is_whole}
use Rattle.cl_registry.specs.Tables.{Shown}
use Rattle.cl_tasks.specs.Calls.{Calls}
use Rattle.cl_tasks.specs.Deriving.{Derives, IsNone}
use Rattle.cl_tasks.specs.Facts.{AllHave, HasAccepted, HaveAccepted}
use Rattle.cl_tasks.specs.Follows.{CallsWithin}
use Rattle.cl_tasks.specs.Measures.{left_at, left_while_loading}
use Rattle.cl_tasks.specs.Measures as phases
use Rattle.cl_tasks.specs.Repeating.{Repeated, PathComesTo, EndsRepeated, PathGoesOn, Here}
use Rattle.cl_tasks.specs.Rooms.{calls_at, room_at, room_of}
use Rattle.cl_tasks.specs.Stages.{IsJob, past_left}
use Rattle.cl_tasks.specs.Steps.{DefinesBy, HoldsOn, LeadsAt}
use Rattle.cl_tasks.specs.declared.stage.Job.{Job}
use Rattle.cl_tasks.specs.declared.stage.Next.{Next}
use Rattle.cl_tasks.specs.declared.stage.Stage.{Stage}
use Rattle.cl_tasks.proofs.Deriving.{accepts_derives, completes_derives}
use Rattle.cl_tasks.proofs.Fall.{accept_less, accepts_less, completes_less, load_less}
use Rattle.cl_tasks.proofs.Keep.{Has, Top, accepting_has, framed_first, framed_last, framed_other, split_have, top_of}
use Rattle.cl_tasks.proofs.Lead.{leads_by}
use Rattle.cl_tasks.proofs.Moves.{Holds, accepts_left, completes_left, fewer_holds, phase_has}
use Rattle.cl_tasks.proofs.Onward.{defining_calls, draft_whole, fresh_looks, job_on, leads_define, leads_moved, less_room, on_path}

-- ---- what was told holds of what is accepted again

has_at : (x : Shown) (c : Class) (others : List Above) (definers : List ℕ) (i definer : ℕ) (a : Above) → HaveAccepted x c (accepted_of others definers) others → slice_get definers i ≡ Some definer → slice_get others i ≡ Some a → HasAccepted x c (class a.name definer) a
has_at x c [] definers i definer a all p o = absurd cc
has_at x c (b ∷ others) [] i definer a all p o = absurd cc
has_at x c (b ∷ others) (q ∷ definers) zero definer a all p o =
    let above : b ≡ a = cc in
    let loader : q ≡ definer = cc in
    subst (λ (l : ℕ). HasAccepted x c (class a.name l) a) loader (subst (λ (d : Above). HasAccepted x c (class d.name q) d) above all.0)
has_at x c (b ∷ others) (q ∷ definers) (suc i) definer a all p o = has_at x c others definers i definer a all.1 p o

takes_repeated : (x : Shown) (p : Pathed) (before : List Framed) (last : Framed) (definer : ℕ) → Top p before last → Has x (frame_of last) → Repeats last definer → Has x (frame_of (with_definer last definer))
takes_repeated x p before last definer top h r =
    let a = top.above in
    let t = class a.name definer in
    let f : frame_of (with_definer last definer) ≡ with_accepted (frame_of last) t = accepts_one last (with_definer last definer) definer refl (Some a) top.wants in
    subst (λ (z : Frame). Has x z) (sym f)
    (accepting_has x (frame_of last) a t h top.wants (has_at x last.draft.class (supers (file_of last.draft.file)) last.definers r.first definer a h r.accepted (r.same ∙ top.wants)))

repeated_holds : (told : Option Content) (x : Shown) (old new : Pathed) → IsPath told old → AllHave x (frames_of old) → AcceptsRepeated old new → AllHave x (frames_of new)
repeated_holds told x old new path h repeated =
    let step = repeated.step in
    let has = split_have x old step.before step.last step.split h in
    subst (λ (p : Pathed). AllHave x (frames_of p)) (sym step.now)
    (framed_other (Has x) step.before step.last (with_definer step.last repeated.definer) has
    (takes_repeated x old step.before step.last repeated.definer (top_of told old step.before step.last path step.split) (framed_last (Has x) step.before step.last has) repeated.repeats))

ends_holds : (told : Option Content) (x : Shown) (old new : Pathed) (whole : Framed) → IsPath told old → AllHave x (frames_of old) → CompletesRepeated old new whole → AllHave x (frames_of new) × Has x (frame_of whole)
ends_holds told x old new whole path h repeated =
    let step = repeated.step in
    let has = split_have x old step.before step.last step.split h in (
      subst (λ (p : Pathed). AllHave x (frames_of p)) (sym step.now) (framed_first (Has x) step.before step.last has),
      subst (λ (f : Framed). Has x (frame_of f)) (sym step.whole_is)
          (takes_repeated x old step.before step.last repeated.definer (top_of told old step.before step.last path step.split) (framed_last (Has x) step.before step.last has) repeated.repeats),
    )

-- ---- one supertype that is accepted again

-- the calls of a job that has a look to make are one more than those of one that has none
more_calls : {A : Type 0} (told : Option Content) (j : Job A) (left : Calls) → Holds told j (HoldsOn j) 0 left (calls_at phases.Initiating j 0) → Holds told j (HoldsOn j) 0 left (calls_at phases.Fresh j 0)
more_calls told j left h = λ g x p served is k.
    let one = h g x p served is k in
    let two = fewer_holds told j (HoldsOn j) [] [] 0 0 1 (omega arith) g x p served is k in
    omega arith

leads_repeated : {A : Type 0} (told : Option Content) (j : Job A) (new : Pathed) (n : Next A) → IsPath told j.path → AcceptsRepeated j.path new → LeadsAt told phases.Fresh (on_path j new) (HoldsOn (on_path j new)) n → LeadsAt told phases.Fresh j (HoldsOn j) n
leads_repeated told j new n path repeated l =
    let step = repeated.step in
    let room = room_of (room_at phases.Fresh j 0) (calls_at phases.Fresh j 0) in
    let config : new.config ≡ j.path.config = ap (λ (p : Pathed). p.config) step.now in
    leads_moved told j new.config room (HoldsOn j) n config
    (leads_by room (HoldsOn j) l
    (fresh_looks (past_left j.target) (frames_of new) (left_at phases.Fresh (frames_of j.path) 0) (accepts_less told j.path new repeated.definer phases.Fresh 0 0 path tt step))
    (subst (λ (c : Configured). CallsWithin told c (HoldsOn j) j.request 0 (calls_at phases.Fresh (on_path j new) 0) room.calls) (sym config)
    (more_calls told j (calls_at phases.Fresh (on_path j new) 0) (accepts_left told j new repeated.definer (HoldsOn j) path step)))
    (λ x h. record { frames = repeated_holds told x j.path new path h.frames repeated; facts = h.facts }))

leads_last : {A : Type 0} (told : Option Content) (j : Job A) (new : Pathed) (x : Framed) (n : Next A) → IsJob told new.config (on_path j new) → IsPath told j.path → IsPath told new → CompletesRepeated j.path new x → DefinesBy (on_path j new) x n
    → LeadsAt told phases.Fresh j (HoldsOn j) n
leads_last told j new x n onward path path_new repeated h =
    let step = repeated.step in
    let definer = repeated.definer in
    let room = room_of (room_at phases.Fresh j 0) (calls_at phases.Fresh j 0) in
    let config : new.config ≡ j.path.config = ap (λ (p : Pathed). p.config) step.now in
    let whole = repeated_is_whole told j.path new x path repeated in
    leads_moved told j new.config room (HoldsOn j) n config
    (leads_define told (on_path j new) x room (HoldsOn j) n onward path_new whole (draft_whole told j.path new definer x path step)
    (less_room (past_left j.target) (left_at phases.Defining (frames_of new) 0) (left_at phases.Fresh (frames_of j.path) 0) (completes_less told j.path new definer x phases.Fresh 0 0 path tt step)) (phase_has phases.Fresh j 0)
    (subst (λ (c : Configured). CallsWithin told c (HoldsOn j) j.request 0 (defining_calls (on_path j new) x) room.calls) (sym config)
    (more_calls told j (defining_calls (on_path j new) x) (completes_left told j new definer x (HoldsOn j) path step whole)))
    (λ y k. let both = ends_holds told y j.path new x path k.frames repeated in (record { frames = both.0; facts = k.facts }, both.1)) h)

-- ---- as often as one comes next

-- the path is of the same request
record IsOfSame (old new : Pathed) : Type 0 where
  config : new.config ≡ old.config
  loader : new.loader ≡ old.loader
  name : new.name ≡ old.name

on_same : (told : Option Content) (old : Pathed) {new : Pathed} → PathGoesOn told old new → IsOfSame old new
on_same told old Here = record { config = refl; loader = refl; name = refl }
on_same told old (Repeated mid next goes path repeated) =
    let same = on_same told old goes in
    record {
      config = ap (λ (p : Pathed). p.config) repeated.step.now ∙ same.config;
      loader = ap (λ (p : Pathed). p.loader) repeated.step.now ∙ same.loader;
      name = ap (λ (p : Pathed). p.name) repeated.step.now ∙ same.name;
    }

end_same : (told : Option Content) (old new : Pathed) (x : Framed) → EndsRepeated told old new x → IsOfSame old new
end_same told old new x ends =
    let same = on_same told old ends.goes in
    record {
      config = ap (λ (p : Pathed). p.config) ends.last.step.now ∙ same.config;
      loader = ap (λ (p : Pathed). p.loader) ends.last.step.now ∙ same.loader;
      name = ap (λ (p : Pathed). p.name) ends.last.step.now ∙ same.name;
    }

same_job : {A : Type 0} (told : Option Content) (j : Job A) (new : Pathed) → IsJob told j.path.config j → IsPath told new → IsOfSame j.path new → IsJob {A = A} told new.config (on_path j new)
same_job told j new job path same = job_on told j new job path job.root same.config same.loader same.name

pub job_goes : {A : Type 0} (told : Option Content) (j : Job A) (new : Pathed) → IsJob told j.path.config j → IsPath told new → PathGoesOn told j.path new → IsJob {A = A} told new.config (on_path j new)
job_goes told j new job path goes = same_job told j new job path (on_same told j.path goes)

leads_from : {A : Type 0} (told : Option Content) (j : Job A) (old : Pathed) {new : Pathed} (n : Next A) → PathGoesOn told old new → LeadsAt told phases.Fresh (on_path j new) (HoldsOn (on_path j new)) n → LeadsAt told phases.Fresh (on_path j old) (HoldsOn (on_path j old)) n
leads_from told j old n Here l = l
leads_from told j old n (Repeated mid next goes path repeated) l = leads_from told j old n goes (leads_repeated told (on_path j mid) next n path repeated l)

pub leads_goes : {A : Type 0} (told : Option Content) (j : Job A) (new : Pathed) (n : Next A) → PathGoesOn told j.path new → LeadsAt told phases.Fresh (on_path j new) (HoldsOn (on_path j new)) n → LeadsAt told phases.Fresh j (HoldsOn j) n
leads_goes told j new n goes l = leads_from told j j.path n goes l

pub leads_ends : {A : Type 0} (told : Option Content) (j : Job A) (new : Pathed) (x : Framed) (n : Next A) → IsJob told j.path.config j → IsPath told new → EndsRepeated told j.path new x → DefinesBy (on_path j new) x n → LeadsAt told phases.Fresh j (HoldsOn j) n
leads_ends told j new x n job path ends h =
    leads_goes told j ends.mid n ends.goes (leads_last told (on_path j ends.mid) new x n (same_job told j new job path (end_same told j.path new x ends)) ends.path path ends.last h)

pub goes_derives : {A : Type 0} (told : Option Content) (old : Pathed) {new : Pathed} (s : Stage A) → PathGoesOn told old new → Derives IsNone (frames_of new) s → Derives IsNone (frames_of old) s
goes_derives told old s Here h = h
goes_derives told old s (Repeated mid next goes path repeated) h = goes_derives told old s goes (accepts_derives mid next repeated.definer s repeated.step h)

pub ends_derives : {A : Type 0} (told : Option Content) (j : Job A) (new : Pathed) (x : Framed) (n : Next A) → EndsRepeated told j.path new x → DefinesBy (on_path j new) x n → Derives IsNone (frames_of j.path) n.stage
ends_derives told j new x n ends h = goes_derives told j.path n.stage ends.goes (completes_derives (on_path j new) ends.mid ends.last.definer x n ends.last.step h)

-- ---- one more

pub goes_more : {A : Type 0} (told : Option Content) (old mid new : Pathed) (a : outcome.Repeated A) → a ≡ outcomes.Waits → PathGoesOn told old mid → IsPath told mid → Goes mid new a → PathGoesOn told old new
goes_more told old mid new a e goes path h = Repeated mid new goes path (subst (λ (k : outcome.Repeated _). Goes mid new k) e h)

-- ---- what comes next

pub comes_on : (told : Option Content) (old new : Pathed) (o : Option Framed) → o ≡ None → PathComesTo told old new o → PathGoesOn told old new
comes_on told old new o e h = subst (λ (k : Option Framed). PathComesTo told old new k) e h

pub comes_last : (told : Option Content) (old new : Pathed) (o : Option Framed) (x : Framed) → o ≡ Some x → PathComesTo told old new o → EndsRepeated told old new x
comes_last told old new o x e h = subst (λ (k : Option Framed). PathComesTo told old new k) e h

-- less is left to load
pub repeated_less : {A : Type 0} (told : Option Content) (old new : Pathed) (a : outcome.Repeated A) → a ≡ outcomes.Waits → IsPath told old → Goes old new a → left_while_loading (frames_of new) < left_while_loading (frames_of old)
repeated_less told old new a e path h =
    let step : AcceptsRepeated old new = subst (λ (k : outcome.Repeated _). Goes old new k) e h in
    let one = accept_less told old new step.definer path step.step in
    let two = load_less told old path in
    omega arith
