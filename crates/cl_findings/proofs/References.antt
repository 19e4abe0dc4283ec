-- How entries end, and which of their equalities come next, rests on the content told.
use Rattle.std.proofs.Common.{◌≡◌, ◌∙◌, ℕ, zero, suc, Bool, true, false, List, [], ◌∷◌, ◌++◌, length, Option, Some, None, Ok, Err, inl, inr, refl, sym, ap, subst, arith}
use Rattle.std.specs.Prelude.{if◌then◌else◌, option_map, slice_get, take}
use Rattle.cl_classfile.specs.Files.{File, Reference, ToClass, ToField, ToMethod, ToInterfaceMethod, file_of, reference}
use Rattle.cl_model.specs.declared.class.Class.{Class}
use Rattle.cl_model.specs.declared.need.Need as rust
use Rattle.cl_model.specs.declared.verdict.Verdict as verdict
use Rattle.cl_model.specs.declared.verdict.Verdict.TheVariants as verdicts
use Rattle.cl_model.specs.declared.request.Request as request
use Rattle.cl_model.specs.Content.{Content}
use Rattle.cl_model.specs.Homes.{World}
use Rattle.cl_model.specs.Classes.{class, class_accessible, Error, IllegalAccess, NoSuchField, NoSuchMethod, IncompatibleClassChange}
use Rattle.cl_model.specs.Lineages.{Kin, IsLineage}
use Rattle.cl_model.specs.States.{State, Need, Verdict, Wrong, recorded_definer, AllMet, IsNext}
use Rattle.cl_model.specs.Works.{Made, Work, after_made, fail, unless_wrong, ◌>>=◌}
use Rattle.cl_model.specs.Plans.{Resolve, class_verdict, ending_verdict, class_named, resolve_in, through}
use Rattle.cl_model.specs.Machine.{HasLineage, IsClosed}
use Rattle.cl_model.specs.Service.{IsNextNeed}
use Rattle.cl_model.specs.Frames.{EndsHere}
use Rattle.cl_model.specs.References.{GoesThrough, ended_with}
use Rattle.cl_model.specs.Views.{need_of, request_of, verdict_of}
use Rattle.cl_model.proofs.Bind.{some_same}
use Rattle.cl_model.proofs.Gone.{gone_on_ends, gone_on_next, resolve_goes_on}
use Rattle.cl_model.proofs.Through.{bad_entry_goes, nameless_goes, reference_goes}
use Rattle.cl_model.proofs.Trees.{lineage_is_derived}
use Rattle.cl_config.specs.Views.{Configured}
use Rattle.cl_delegation.specs.Worlds.{world_of}
use Rattle.cl_hierarchy.specs.Drafts.{IsSpelt}
use Rattle.cl_hierarchy.specs.Imposed.{AreLineages, AreOf, AreOfReference, Listed, OfPreparation, OfReference, Sprung, equal_need, needs_of}
use Rattle.std.proofs.lemmas.List.{length-map}
use Rattle.cl_hierarchy.specs.Lineages.{IsLineageOf, Lined, kin_of}
use Rattle.cl_hierarchy.specs.Rows.{Rowed}
use Rattle.cl_members.specs.Asking.{IsFoundAs, IsLocated, LocatedMember}
use Rattle.cl_members.specs.declared.fault.LookupFault.{LookupFault}
use Rattle.cl_members.specs.declared.fault.LookupFault.TheVariants as faults
use Rattle.cl_findings.specs.Findings.{Based, NeedIsPlaced, Resolves, Rests, VerdictRests, loader_of, grounded_answer}
use Rattle.cl_findings.specs.References.{AreAsked, EndsAtClass, EndsAtOnce, GoesTo, IsAtClass, IsAtOnce, IsLookupError, IsOfFound, asked_basis, class_basis, origin_config, entry_basis, fault_verdict, resolved_index, member_basis, sprung_needs}
use Rattle.cl_findings.proofs.Files.{kept_lineage}
use Rattle.cl_findings.proofs.Plain.{linkage_apart, reference_apart}

-- ---- past the load of the request's class

goes_to_end : (w : World) (s : State) (r : request.Request) (d : Class) (i : ℕ) (m : Made Verdict) → IsClosed w s → Resolves r d.name i → recorded_definer s.records (loader_of r) d.name ≡ Some d.loader → GoesThrough w s d i m
    → AllMet s m.needs → EndsHere w s (request_of r) (ending_verdict m.ends)
goes_to_end w s r d i m closed is rec goes met =
    subst (λ (q : request.Request). EndsHere w s (request_of q) (ending_verdict m.ends)) (sym is)
    (gone_on_ends w s (Resolve (loader_of r) d.name i) (class d.name d.loader) m.needs (ending_verdict m.ends) (resolve_goes_on w s (loader_of r) d.loader i d.name m closed rec goes) met)

goes_to_next : (w : World) (s : State) (r : request.Request) (d : Class) (i : ℕ) (m : Made Verdict) (n : Need) → IsClosed w s → Resolves r d.name i → recorded_definer s.records (loader_of r) d.name ≡ Some d.loader → GoesThrough w s d i m
    → IsNext s m.needs n → IsNextNeed w s (request_of r) n
goes_to_next w s r d i m n closed is rec goes next =
    subst (λ (q : request.Request). IsNextNeed w s (request_of q) n) (sym is)
    (gone_on_next w s (Resolve (loader_of r) d.name i) (class d.name d.loader) m.needs (ending_verdict m.ends) n (resolve_goes_on w s (loader_of r) d.loader i d.name m closed rec goes) next)

-- ---- entries that name no class

goes_at_once : (w : World) (s : State) (d : Class) (k : Kin) (i : ℕ) (o : Option Reference) (v : Verdict) → HasLineage w d k → reference k.file i ≡ o → EndsAtOnce o v → GoesThrough w s d i (ended_with v)
goes_at_once w s d k i None v lin found h = subst (λ (u : Verdict). GoesThrough w s d i (ended_with u)) (sym h) (bad_entry_goes w s d k i lin found)
goes_at_once w s d k i (Some cited) v lin found h = subst (λ (u : Verdict). GoesThrough w s d i (ended_with u)) (sym h.1) (nameless_goes w s d k i cited lin found h.0)

entry_ends : (config : Configured) (content : Content) (r : request.Request) (d : Rowed) (v : Verdict) (s : State) → IsAtOnce r d v → IsSpelt (Some content) d.class d.file → IsClosed (world_of config content) s
    → recorded_definer s.records (loader_of r) d.class.name ≡ Some d.class.loader → EndsHere (world_of config content) s (request_of r) v
entry_ends config content r d v s at spelt closed rec =
    let w = world_of config content in
    let i = resolved_index r in
    let k = kept_lineage config content s (loader_of r) d.class d.file closed rec spelt in
    let found : reference k.kin.file i ≡ reference (file_of d.file) i = ap (λ (f : File). reference f i) k.file_is in
    goes_to_end w s r d.class i (ended_with v) closed at.of rec (goes_at_once w s d.class k.kin i (reference (file_of d.file) i) v k.of found at.ends) tt

pub entry_rests : (told : Option Content) (config : Configured) (r : request.Request) (d : Rowed) (v : verdict.Verdict) → IsAtOnce r d (verdict_of v) → IsSpelt told d.class d.file
    → Rests told (grounded_answer r v (entry_basis config r d.class))
entry_rests None config r d v at spelt = tt
entry_rests (Some content) config r d v at spelt = record {
  apart = reference_apart r d.class (resolved_index r) v at.of;
  concludes = λ s closed grounds. entry_ends config content r d (verdict_of v) s at spelt closed grounds.needs.0;
}

-- ---- entries that name a class

-- what follows the load of that class, and how it ends
record Follows (d c : Kin) (cited : Reference) (needs : List Need) (v : Verdict) : Type 0 where
  pub made : Made Verdict
  pub is : through d cited c ≡ Some made
  pub needs_are : made.needs ≡ needs
  pub ends : ending_verdict made.ends ≡ v

-- it is what is resolved in the class, where that is accessible
pub opened : (d c : Kin) (cited : Reference) (b : Bool) → class_accessible c.file.flags c.class d.class ≡ b → through d cited c ≡ (unless_wrong (if b then None else Some (IllegalAccess c.class)) >>= λ a. resolve_in d cited c)
opened d c cited b e = ap (λ (b : Bool). unless_wrong (if b then None else Some (IllegalAccess c.class)) >>= λ a. resolve_in d cited c) e

pub through_made : (d c : Kin) (cited : Reference) (m : Made Verdict) → class_accessible c.file.flags c.class d.class ≡ true → resolve_in d cited c ≡ Some m → through d cited c ≡ Some m
through_made d c cited m reachable is = opened d c cited true reachable ∙ ap (λ (o : Work Verdict). option_map (after_made [] []) o) is

class_follows : (d c : Kin) (cited : Reference) (v : Verdict) (b : Bool) → class_accessible c.file.flags c.class d.class ≡ b → EndsAtClass b cited c.class v → Follows d c cited [] v
class_follows d c cited v false e h = record { made = record { needs = []; asked = []; ends = Err (IllegalAccess c.class) }; is = opened d c cited false e; needs_are = refl; ends = sym h }
class_follows d c (ToClass t) v true e h = record { made = record { needs = []; asked = []; ends = Ok (class_verdict t.dims c.class) }; is = opened d c (ToClass t) true e; needs_are = refl; ends = sym h }
class_follows d c (ToField t key) v true e h = absurd h
class_follows d c (ToMethod t key) v true e h = absurd h
class_follows d c (ToInterfaceMethod t key) v true e h = absurd h

class_ends : (config : Configured) (content : Content) (r : request.Request) (d c : Rowed) (v : Verdict) (s : State) → IsAtClass r d c v → IsSpelt (Some content) d.class d.file → IsSpelt (Some content) c.class c.file
    → IsClosed (world_of config content) s → recorded_definer s.records (loader_of r) d.class.name ≡ Some d.class.loader → recorded_definer s.records d.class.loader c.class.name ≡ Some c.class.loader
    → EndsHere (world_of config content) s (request_of r) v
class_ends config content r d c v s at spelt other closed rec below =
    let w = world_of config content in
    let i = resolved_index r in
    let k = kept_lineage config content s (loader_of r) d.class d.file closed rec spelt in
    let l = kept_lineage config content s d.class.loader c.class c.file closed below other in
    let reachable : class_accessible l.kin.file.flags l.kin.class k.kin.class ≡ class_accessible (file_of c.file).flags c.class d.class =
    ap (λ (f : File). class_accessible f.flags l.kin.class k.kin.class) l.file_is
    ∙ ap (λ (x : Class). class_accessible (file_of c.file).flags x k.kin.class) l.class_is
    ∙ ap (λ (x : Class). class_accessible (file_of c.file).flags c.class x) k.class_is in
    let ends = subst (λ (x : Class). EndsAtClass (class_accessible (file_of c.file).flags c.class d.class) at.cites.cited x v) (sym l.class_is) at.ends in
    let follows = class_follows k.kin l.kin at.cites.cited v (class_accessible (file_of c.file).flags c.class d.class) reachable ends in
    let goes = reference_goes w s d.class k.kin l.kin i c.class.loader at.cites.cited c.class.name follows.made closed k.of (ap (λ (f : File). reference f i) k.file_is ∙ at.cites.found) at.cites.names below l.of follows.is in
    subst (λ (u : Verdict). EndsHere w s (request_of r) u) follows.ends (goes_to_end w s r d.class i follows.made closed at.of rec goes (subst (λ (ns : List Need). AllMet s ns) (sym follows.needs_are) tt))

pub class_entry_rests : (told : Option Content) (config : Configured) (r : request.Request) (d c : Rowed) (v : verdict.Verdict) → IsAtClass r d c (verdict_of v) → IsSpelt told d.class d.file → IsSpelt told c.class c.file
    → Rests told (grounded_answer r v (class_basis config r d.class c.class))
class_entry_rests None config r d c v at spelt other = tt
class_entry_rests (Some content) config r d c v at spelt other = record {
  apart = reference_apart r d.class (resolved_index r) v at.of;
  concludes = λ s closed grounds. class_ends config content r d c (verdict_of v) s at spelt other closed grounds.needs.0 grounds.needs.1.0;
}

-- ---- members

-- an entry of d goes to what is resolved in c
member_goes : (content : Content) (r : request.Request) (d c : Lined) (i : ℕ) (cited : Reference) (m : Made Verdict) (s : State) → GoesTo r d c i → IsLineageOf (Some content) d → IsLineageOf (Some content) c
    → reference (kin_of d).file i ≡ Some cited → class_named cited ≡ Some (kin_of c).class.name → resolve_in (kin_of d) cited (kin_of c) ≡ Some m
    → IsClosed (world_of d.config content) s → recorded_definer s.records d.own.class.loader c.own.class.name ≡ Some c.own.class.loader → GoesThrough (world_of d.config content) s d.own.class i m
member_goes content r d c i cited m s to lin other found names is closed below =
    let w = world_of d.config content in
    let same : IsLineage w (kin_of c) = subst (λ (k : Configured). IsLineage (world_of k content) (kin_of c)) to.config other in
    reference_goes w s d.own.class (kin_of d) (kin_of c) i c.own.class.loader cited c.own.class.name m closed (lineage_is_derived w (kin_of d) lin) found names below (lineage_is_derived w (kin_of c) same)
    (through_made (kin_of d) (kin_of c) cited m to.accessible is)

-- what was found ends what the equalities were made for
made_verdict : (a : Made Verdict) (o : Work Verdict) (needs : List Need) (v : Verdict) → o ≡ Some a → o ≡ Some (record { needs = needs; asked = []; ends = Ok v }) → ending_verdict a.ends ≡ v
made_verdict a o needs v h k = ap (λ (m : Made Verdict). ending_verdict m.ends) (some_same a (record { needs = needs; asked = []; ends = Ok v }) (sym h ∙ k))

member_ends : (content : Content) (r : request.Request) (f : LocatedMember) (needs : List Need) (v : Verdict) (s : State) → GoesTo r f.d f.c f.index → IsLineageOf (Some content) f.d → IsLineageOf (Some content) f.c
    → IsLocated f → AreOfReference (kin_of f.d) (kin_of f.c) f.index needs → IsOfFound f v → IsClosed (world_of f.d.config content) s
    → recorded_definer s.records (loader_of r) f.d.own.class.name ≡ Some f.d.own.class.loader → recorded_definer s.records f.d.own.class.loader f.c.own.class.name ≡ Some f.c.own.class.loader → AllMet s needs
    → EndsHere (world_of f.d.config content) s (request_of r) v
member_ends content r f needs v s to lin other located of found closed rec below met =
    let w = world_of f.d.config content in
    let same : of.cites.cited ≡ located.cites.cited = some_same of.cites.cited located.cites.cited (sym of.cites.found ∙ located.cites.found) in
    let worked = ap (λ (x : Reference). resolve_in (kin_of f.d) x (kin_of f.c)) (sym same) ∙ of.worked in
    let ends : ending_verdict of.made.ends ≡ v = made_verdict of.made (resolve_in (kin_of f.d) located.cites.cited (kin_of f.c)) _ _ worked located.found ∙ sym (found located.cites.cited located.cites.found) in
    let goes = member_goes content r f.d f.c f.index of.cites.cited of.made s to lin other of.cites.found of.cites.names of.worked closed below in
    subst (λ (u : Verdict). EndsHere w s (request_of r) u) ends
    (goes_to_end w s r f.d.own.class f.index of.made closed to.of rec goes (subst (λ (ns : List Need). AllMet s ns) of.needs_are met))

of_reference : (from : Sprung) (d c : Lined) (i : ℕ) (needs : List Need) → from ≡ OfReference d c i → AreOf from needs → AreOfReference (kin_of d) (kin_of c) i needs
of_reference from d c i needs e h = subst (λ (x : Sprung). AreOf x needs) e h

pub member_rests : (told : Option Content) (r : request.Request) (f : LocatedMember) (e : Listed) (v : verdict.Verdict) → GoesTo r f.d f.c f.index → IsLineageOf told f.d → IsLineageOf told f.c → IsLocated f
    → e.origin ≡ OfReference f.d f.c f.index → AreOf e.origin (needs_of e.needs) → IsOfFound f (verdict_of v) → Rests told (grounded_answer r v (member_basis r f e))
member_rests None r f e v to lin other located from of found = tt
member_rests (Some content) r f e v to lin other located from of found = record {
  apart = reference_apart r f.d.own.class f.index v to.of;
  concludes = λ s closed grounds.
      member_ends content r f (needs_of e.needs) (verdict_of v) s to lin other located (of_reference e.origin f.d f.c f.index (needs_of e.needs) from of) found closed
      grounds.needs.0 grounds.needs.1.0 grounds.needs.1.1;
}

-- ---- members that are not found

-- what is resolved ends so, without a need
record Fails (o : Work Verdict) (v : Verdict) : Type 0 where
  pub made : Made Verdict
  pub is : o ≡ Some made
  pub needs : made.needs ≡ []
  pub ends : ending_verdict made.ends ≡ v

failed : (o : Work Verdict) (e : Error) (u v : verdict.Verdict) → o ≡ fail e → verdict_of u ≡ Wrong e → Some u ≡ Some v → Fails o (verdict_of v)
failed o e u v h is same = record { made = record { needs = []; asked = []; ends = Err e }; is = h; needs = refl; ends = sym is ∙ ap verdict_of (some_same u v same) }

fault_fails : (d c : Kin) (cited : Reference) (fault : LookupFault) (v : verdict.Verdict) → IsFoundAs d cited c (Err fault) → fault_verdict c.class fault ≡ Some v → Fails (resolve_in d cited c) (verdict_of v)
fault_fails d c cited faults.Memory v h e = absurd cc
fault_fails d c cited faults.NoSuchField v h e = failed (resolve_in d cited c) (NoSuchField c.class) _ v h refl e
fault_fails d c cited faults.NoSuchMethod v h e = failed (resolve_in d cited c) (NoSuchMethod c.class) _ v h refl e
fault_fails d c cited faults.WrongKind v h e = failed (resolve_in d cited c) (IncompatibleClassChange c.class) _ v h refl e
fault_fails d c cited (faults.Inaccessible owner) v h e = failed (resolve_in d cited c) (IllegalAccess owner) _ v h refl e

fault_ends : (content : Content) (r : request.Request) (d c : Lined) (v : verdict.Verdict) (s : State) → GoesTo r d c (resolved_index r) → IsLineageOf (Some content) d → IsLineageOf (Some content) c
    → IsLookupError d c (resolved_index r) v → IsClosed (world_of d.config content) s → recorded_definer s.records (loader_of r) d.own.class.name ≡ Some d.own.class.loader
    → recorded_definer s.records d.own.class.loader c.own.class.name ≡ Some c.own.class.loader → EndsHere (world_of d.config content) s (request_of r) (verdict_of v)
fault_ends content r d c v s to lin other error closed rec below =
    let w = world_of d.config content in
    let cites = error.cites in
    let fails = fault_fails (kin_of d) (kin_of c) cites.cited error.fault v (error.lookup.found cites.cited cites.found) error.error in
    let goes = member_goes content r d c (resolved_index r) cites.cited fails.made s to lin other cites.found cites.names fails.is closed below in
    subst (λ (u : Verdict). EndsHere w s (request_of r) u) fails.ends
    (goes_to_end w s r d.own.class (resolved_index r) fails.made closed to.of rec goes (subst (λ (ns : List Need). AllMet s ns) (sym fails.needs) tt))

pub fault_rests : (told : Option Content) (r : request.Request) (d c : Lined) (v : verdict.Verdict) → GoesTo r d c (resolved_index r) → IsLineageOf told d → IsLineageOf told c → IsLookupError d c (resolved_index r) v
    → Rests told (grounded_answer r v (class_basis d.config r d.own.class c.own.class))
fault_rests None r d c v to lin other error = tt
fault_rests (Some content) r d c v to lin other error = record {
  apart = reference_apart r d.own.class (resolved_index r) v to.of;
  concludes = λ s closed grounds. fault_ends content r d c v s to lin other error closed grounds.needs.0 grounds.needs.1.0;
}

-- ---- equalities that are refused

pub next_at : (s : State) (ns : List Need) (k : ℕ) (n : Need) → slice_get ns k ≡ Some n → AllMet s (take k ns) → IsNext s ns n
next_at s [] k n e h = absurd cc
next_at s (x ∷ ns) zero n e h = inl (some_same x n e)
next_at s (x ∷ ns) (suc k) n e h = inr (h.0, next_at s ns k n e h.1)

placed_reference : (w : World) (s : State) (r : request.Request) (d : Class) (i : ℕ) (n : Need) → Resolves r d.name i → NeedIsPlaced w s (request_of r) n []
placed_reference w s r d i n is = subst (λ (q : request.Request). NeedIsPlaced w s (request_of q) n []) (sym is) tt

asked_rests_at : (content : Content) (r : request.Request) (from : Sprung) (needs : List Need) (k : ℕ) (need : rust.Need) → AreAsked r from → AreLineages (Some content) from → AreOf from needs
    → slice_get needs k ≡ Some (need_of need)
    → VerdictRests (world_of (origin_config from) content) r (verdicts.Linkage need) (record { config = origin_config from; needs = sprung_needs r from ++ take k needs; prepared = []; before = []; refused = Some (need_of need) })
asked_rests_at content r (OfPreparation at) needs k need asked lin of is = absurd asked
asked_rests_at content r (OfReference d c i) needs k need to lin of is = record {
  apart = linkage_apart r need;
  concludes = λ s closed grounds.
      let w = world_of d.config content in
      let goes = member_goes content r d c i of.cites.cited of.made s to lin.0.lineage lin.1.lineage of.cites.found of.cites.names of.worked closed grounds.needs.1.0 in
      let next : IsNext s of.made.needs (need_of need) = subst (λ (ns : List Need). IsNext s ns (need_of need)) of.needs_are (next_at s needs k (need_of need) is grounds.needs.1.1) in
      record { linkage = refl; next = goes_to_next w s r d.own.class i of.made (need_of need) closed to.of grounds.needs.0 goes next; placed = placed_reference w s r d.own.class i (need_of need) to.of };
}

pub asked_rests : (told : Option Content) (r : request.Request) (e : Listed) (k : ℕ) (need : rust.Need) → AreAsked r e.origin → AreLineages told e.origin → AreOf e.origin (needs_of e.needs)
    → slice_get (needs_of e.needs) k ≡ Some (need_of need) → Rests told (grounded_answer r (verdicts.Linkage need) (asked_basis r e k (Some (need_of need))))
asked_rests None r e k need asked lin of is = tt
asked_rests (Some content) r e k need asked lin of is = asked_rests_at content r e.origin (needs_of e.needs) k need asked lin of is

-- ---- as they are kept

-- what equalities of an entry rest on, so many of which are met
abbrev pub asked_by : request.Request → Sprung → List Need → Option Need → Based
asked_by r from met refused = record { config = origin_config from; needs = sprung_needs r from ++ met; prepared = []; before = []; refused = refused }

pub whole_taken : (ns : List Need) (n : ℕ) → n ≡ length ns → take n ns ≡ ns
whole_taken [] zero e = refl
whole_taken [] (suc n) e = refl
whole_taken (x ∷ ns) zero e = absurd (omega (arith, e))
whole_taken (x ∷ ns) (suc n) e = ap (λ (xs : List Need). x ∷ xs) (whole_taken ns n (omega (arith, e)))

none_behind : (ns : List Need) (n : ℕ) → n ≡ length ns → slice_get ns n ≡ None
none_behind [] n e = refl
none_behind (x ∷ ns) zero e = absurd (omega (arith, e))
none_behind (x ∷ ns) (suc n) e = none_behind ns n (omega (arith, e))

pub member_kept : (r : request.Request) (f : LocatedMember) (e : Listed) (n : ℕ) → e.origin ≡ OfReference f.d f.c f.index → n ≡ length e.needs
    → asked_by r e.origin (take n (needs_of e.needs)) (slice_get (needs_of e.needs) n) ≡ member_basis r f e
member_kept r f e n from many =
    let ns = needs_of e.needs in
    let long : n ≡ length ns = many ∙ sym (length-map e.needs equal_need) in
    ap (λ (x : Sprung). asked_by r x (take n ns) (slice_get ns n)) from
    ∙ ap (λ (xs : List Need). asked_by r (OfReference f.d f.c f.index) xs (slice_get ns n)) (whole_taken ns n long)
    ∙ ap (λ (o : Option Need). asked_by r (OfReference f.d f.c f.index) ns o) (none_behind ns n long)

pub member_rests_kept : (told : Option Content) (r : request.Request) (f : LocatedMember) (e : Listed) (v : verdict.Verdict) (n : ℕ) → GoesTo r f.d f.c f.index → IsLineageOf told f.d → IsLineageOf told f.c → IsLocated f
    → e.origin ≡ OfReference f.d f.c f.index → AreOf e.origin (needs_of e.needs) → IsOfFound f (verdict_of v) → n ≡ length e.needs
    → Rests told (grounded_answer r v (asked_by r e.origin (take n (needs_of e.needs)) (slice_get (needs_of e.needs) n)))
member_rests_kept told r f e v n to lin other located from of found many =
    subst (λ (b : Based). Rests told (grounded_answer r v b)) (sym (member_kept r f e n from many)) (member_rests told r f e v to lin other located from of found)

pub asked_rests_kept : (told : Option Content) (r : request.Request) (e : Listed) (k : ℕ) (need : rust.Need) → AreAsked r e.origin → AreLineages told e.origin → AreOf e.origin (needs_of e.needs)
    → slice_get (needs_of e.needs) k ≡ Some (need_of need) → Rests told (grounded_answer r (verdicts.Linkage need) (asked_by r e.origin (take k (needs_of e.needs)) (slice_get (needs_of e.needs) k)))
asked_rests_kept told r e k need asked lin of is =
    subst (λ (o : Option Need). Rests told (grounded_answer r (verdicts.Linkage need) (asked_by r e.origin (take k (needs_of e.needs)) o))) (sym is) (asked_rests told r e k need asked lin of is)
