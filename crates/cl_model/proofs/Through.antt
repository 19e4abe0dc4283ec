-- What follows the load of a reference's class.
use Rattle.std.proofs.Common.{◌≡◌, ℕ, List, [], ◌++◌, Option, Some, None, Result, refl, sym, ap, subst, ◌∙◌}
use Rattle.std.specs.Prelude.{option_map}
use Rattle.cl_classfile.specs.Files.{Name, Reference, reference}
use Rattle.cl_model.specs.Homes.{World}
use Rattle.cl_model.specs.declared.class.Class.{Class}
use Rattle.cl_model.specs.Classes.{class, Error, NoClassDef}
use Rattle.cl_model.specs.Lineages.{Kin}
use Rattle.cl_model.specs.States.{State, Need, Verdict, BadEntry, recorded_definer}
use Rattle.cl_model.specs.Works.{Work, Made, after_made, go_on, ◌>>=◌}
use Rattle.cl_model.specs.Plans.{class_named, derive, load, through, nameless, resolve_named, resolve, ending_verdict}
use Rattle.cl_model.specs.Machine.{Setting, HasLineage, IsClosed, Answers, AnswersReference}
use Rattle.cl_model.specs.References.{ended_with, GoesThrough}
use Rattle.cl_model.proofs.Derived.{load_ok}
use Rattle.cl_model.proofs.Ending.{load_done, enough, derive_enough}
use Rattle.cl_model.proofs.Looks.{load_stands}
use Rattle.cl_model.proofs.Planned.{resolved, through_done, one_lineage}
use Rattle.cl_model.proofs.Reached.{answers_before}
use Rattle.cl_model.proofs.Trees.{derive_gives}

-- ---- the load of the class that a reference names, and what follows it

pub resolves_through : (w : World) (n : ℕ) (d : Kin) (i : ℕ) (r : Reference) (name : Name) → reference d.file i ≡ Some r → class_named r ≡ Some name → resolve w n d i ≡ (load w n NoClassDef d.class.loader name >>= λ c. through d r c)
resolves_through w n d i r name found names = ap (λ (o : Option Reference). resolved w n d o) found ∙ ap (λ (o : Option Name). resolve_named w n d r o) names

pub through_ends : (d c : Kin) (r : Reference) → (m : Made Verdict) × (through d r c ≡ Some m)
through_ends d c r = through_done d c r

-- ---- the resolution of an entry goes through

pub reference_goes : (w : World) (s : State) (d : Class) (k c : Kin) (i place : ℕ) (r : Reference) (name : Name) (m : Made Verdict) → IsClosed w s → HasLineage w d k → reference k.file i ≡ Some r → class_named r ≡ Some name
    → recorded_definer s.records d.loader name ≡ Some place → HasLineage w (class name place) c → through k r c ≡ Some m → GoesThrough w s d i m
reference_goes w s d k c i place r name m closed lin found names rec above is =
    let n = enough w in
    let l = load_done w (derive w n []) (derive_enough w) NoClassDef d.loader name in
    let stands = load_stands w s n NoClassDef d.loader place name l.0 closed rec l.1 in
    let own : k.class ≡ d = (derive_gives w lin.height [] d lin.made k lin.derived lin.ends).0 in
    let load_is = load_ok w (derive w n []) NoClassDef d.loader name l.0 stands.kin l.1 stands.ends in
    let gives = derive_gives w n [] (class name load_is.place) load_is.below stands.kin load_is.made load_is.ends in
    let at : class name load_is.place ≡ class name place = sym gives.0 ∙ stands.is_class in
    let same : stands.kin ≡ c = one_lineage w (class name place) stands.kin c
    (record { height = n; made = load_is.below; derived = subst (λ (x : Class). derive w n [] x ≡ Some load_is.below) at load_is.made; ends = load_is.ends }) above in
    record {
      made = after_made l.0.needs l.0.asked m;
      resolution = record {
        kin = k;
        above = lin;
        height = n;
        made =
            resolves_through w n k i r name found names
            ∙ ap (λ (x : Class). load w n NoClassDef x.loader name >>= λ y. through k r y) own
            ∙ ap (λ (z : Work Kin). z >>= λ y. through k r y) l.1
            ∙ ap (λ (e : Result Kin Error). go_on l.0.needs l.0.asked e (λ y. through k r y)) stands.ends
            ∙ ap (λ (z : Work Verdict). option_map (after_made l.0.needs l.0.asked) z) (ap (λ (y : Kin). through k r y) same ∙ is);
      };
      before = l.0.needs;
      met = stands.met;
      needs = refl;
      ends = refl;
    }

pub bad_entry_goes : (w : World) (s : State) (d : Class) (k : Kin) (i : ℕ) → HasLineage w d k → reference k.file i ≡ None → GoesThrough w s d i (ended_with BadEntry)
bad_entry_goes w s d k i lin none = record {
  made = ended_with BadEntry;
  resolution = record { kin = k; above = lin; height = 0; made = ap (λ (o : Option Reference). resolved w 0 k o) none };
  before = [];
  met = tt;
  needs = refl;
  ends = refl;
}

pub nameless_goes : (w : World) (s : State) (d : Class) (k : Kin) (i : ℕ) (r : Reference) → HasLineage w d k → reference k.file i ≡ Some r → class_named r ≡ None → GoesThrough w s d i (ended_with (nameless r))
nameless_goes w s d k i r lin found none = record {
  made = ended_with (nameless r);
  resolution = record { kin = k; above = lin; height = 0; made = ap (λ (o : Option Reference). resolved w 0 k o) found ∙ ap (λ (o : Option Name). resolve_named w 0 k r o) none };
  before = [];
  met = tt;
  needs = refl;
  ends = refl;
}

pub through_answers : (g : Setting) (s : State) (d : Class) (i : ℕ) (m : Made Verdict) (v : Verdict) → GoesThrough g.world s d i m → Answers s m.needs (ending_verdict m.ends) v → AnswersReference g s d i v
through_answers g s d i m v goes h =
    let all : Answers s (goes.before ++ m.needs) (ending_verdict m.ends) v = answers_before s goes.before m.needs (ending_verdict m.ends) v goes.met h in
    let end : Answers s (goes.before ++ m.needs) (ending_verdict goes.made.ends) v = subst (λ (e : Result Verdict Error). Answers s (goes.before ++ m.needs) (ending_verdict e) v) (sym goes.ends) all in
    record { made = goes.made; resolved = goes.resolution; answered = subst (λ (ns : List Need). Answers s ns (ending_verdict goes.made.ends) v) (sym goes.needs) end }
