-- How a load ends rests on the content told: an obstacle is where the plan of its request ends, a refused record is the need that comes next in it.
use Rattle.std.proofs.Common.{◌≡◌, ◌≢◌, ◌∙◌, ℕ, Bool, true, false, List, [], ◌∷◌, ◌++◌, map, Option, Some, None, Result, Ok, Err, inl, inr, refl, sym, ap, subst}
use Rattle.std.specs.Prelude.{if◌then◌else◌}
use Rattle.std.proofs.lemmas.List.{map_push}
use Rattle.cl_classfile.specs.declared.fault.Fault.{Fault}
use Rattle.cl_classfile.specs.declared.fault.Fault.TheVariants as faults
use Rattle.cl_classfile.specs.Structure.{Structure}
use Rattle.cl_classfile.specs.Files.{File, FileFault, BadFormat, same_name, file_of}
use Rattle.cl_model.specs.declared.class.Class.{Class}
use Rattle.cl_model.specs.declared.need.Need as rust
use Rattle.cl_model.specs.declared.verdict.ErrorKind.{ErrorKind}
use Rattle.cl_model.specs.declared.verdict.ErrorKind.TheVariants as kinds
use Rattle.cl_model.specs.declared.verdict.Verdict.TheVariants as verdicts
use Rattle.cl_model.specs.declared.request.Request as request
use Rattle.cl_model.specs.Content.{Content}
use Rattle.cl_model.specs.Homes.{World, home}
use Rattle.cl_model.specs.Classes.{class, Above, Error, ClassNotFound, NoClassDef, ClassCircularity, HasFile, file_if_named}
use Rattle.cl_model.specs.Classes as classes
use Rattle.cl_model.specs.States.{State, Need, Entry, Wrong, Linkage, recorded_definer, AllMet, IsRecorded}
use Rattle.cl_model.specs.Machine.{IsClosed}
use Rattle.cl_model.specs.Plans.{Request, Load, Resolve, Link}
use Rattle.cl_model.specs.Service.{IsNextNeed}
use Rattle.cl_model.specs.Frames.{Frame, wanted_supertype, KeepsAccepted, AllKept, IsFrame, IsFrames, OfReference, Starts, path_of, asking_loader, EndsHere, Under, absent_under, kept_of}
use Rattle.cl_model.specs.Views.{request_of, error_of, need_of}
use Rattle.cl_model.specs.Worlds.{file_fault, seen_file}
use Rattle.cl_model.proofs.Frames.{missing_ends, faulty_ends, circle_ends, misfit_ends, complete_is_next, defined_is_next}
use Rattle.cl_model.proofs.Homes.{home_of_home}
use Rattle.cl_model.proofs.Progress.{met_split}
use Rattle.cl_model.proofs.Runs.{names_equal}
use Rattle.cl_model.proofs.Stacks.{frame_pop, kept_is_met, path_scanned}
use Rattle.cl_config.specs.Views.{Configured}
use Rattle.cl_source.specs.Told.{IsTold}
use Rattle.cl_delegation.specs.Searches.{Located, Sought, LeadsTo}
use Rattle.cl_delegation.specs.Worlds.{read, world_of}
use Rattle.cl_hierarchy.specs.declared.draft.DraftFault.{DraftFault}
use Rattle.cl_hierarchy.proofs.Drafting.{grammar_read}
use Rattle.cl_hierarchy.specs.declared.draft.DraftFault.TheVariants as drafts
use Rattle.cl_hierarchy.specs.Drafts.{IsSpelt, IsWrong}
use Rattle.cl_hierarchy.specs.Frames.{Framed, frame_of}
use Rattle.cl_hierarchy.specs.Paths.{Pathed, IsPath, frames_of, at_loader, at_name, is_on, misfit_in, misfit_under}
use Rattle.cl_hierarchy.specs.Rows.{Rowed}
use Rattle.cl_hierarchy.proofs.Placed.{file_found, spelt_judged}
use Rattle.cl_findings.specs.declared.load.Target.{Target}
use Rattle.cl_findings.specs.declared.load.Target.TheVariants as targets
use Rattle.cl_findings.specs.Bases.{IsSpeltIn}
use Rattle.cl_findings.specs.Findings.{Based, Concludes, IsRefusal, NeedIsPlaced, Rests, VerdictRests, loader_of, grounded_answer}
use Rattle.cl_findings.specs.Loads.{IsFor, IsMisfit, IsReferred, IsSought, IsWhole, LooksFor, kind_of, load_basis, missing_kind, target_needs}
use Rattle.cl_findings.proofs.Files.{kept_file}
use Rattle.cl_findings.proofs.Plain.{error_apart, linkage_apart}

-- ---- what is wrong with bytes

other_than_version : (fault : Fault) → fault ≢ faults.Version → file_fault fault ≡ BadFormat
other_than_version faults.Version n = absurd (n refl)
other_than_version other n = refl

apart : (a b : List ℕ) (t : Bool) → a ≢ b → same_name a b ≡ t → t ≡ false
apart a b true n h = absurd (n (names_equal a b h))
apart a b false n h = refl

wrong_read : (h : Located) (fault : DraftFault) (c : Class) → h.name ≡ c.name → IsWrong h fault → file_if_named c (read h.bytes) ≡ Err (error_of (kind_of fault) c)
wrong_read h drafts.Version c same wrong = ap (λ (r : Result Structure Fault). file_if_named c (seen_file r)) wrong
wrong_read h (drafts.Format fault) c same wrong =
    ap (λ (r : Result Structure Fault). file_if_named c (seen_file r)) wrong.0 ∙ ap (λ (f : FileFault). file_if_named c (Err f)) (other_than_version fault wrong.1)
wrong_read h drafts.OtherName c same wrong =
    let f = file_of wrong.0 in
    ap (λ (r : Result Structure Fault). file_if_named c (seen_file r)) (grammar_read h.bytes wrong.0 wrong.1)
    ∙ ap (λ (b : Bool). if b then Ok f else Err (NoClassDef c)) (apart f.name c.name (same_name f.name c.name) (λ e. wrong.2 (e ∙ sym same)) refl)

-- ---- the frames of a path

-- what is absent where a path begins
abbrev pub absent_of : {A : Type 0} → Target A → Class → Error
absent_of targets.Own = λ c. ClassNotFound c
absent_of (targets.Reference d) = λ c. NoClassDef c

no_def : (xs : List Framed) (c : Class) → absent_under NoClassDef (map frame_of xs) c ≡ NoClassDef c
no_def [] c = refl
no_def (x ∷ xs) c = no_def xs c

absent_same : {A : Type 0} (t : Target A) (xs : List Framed) (c : Class) → absent_under (absent_of t) (map frame_of xs) c ≡ error_of (missing_kind t xs) c
absent_same targets.Own [] c = refl
absent_same targets.Own (x ∷ xs) c = no_def xs c
absent_same (targets.Reference d) xs c = no_def xs c

-- what is asked of the last frame
record Last (xs : List Framed) (t : Class) (f : File) (e : Error) : Type 0 where
  pub before : List Framed
  pub last : Framed
  pub split : xs ≡ before ++ last ∷ []
  pub judged : misfit_in last (wanted_supertype (frame_of last)) t f ≡ Some e

last_of : (xs : List Framed) (t : Class) (f : File) (e : Error) → misfit_under xs t f ≡ Some e → Last xs t f e
last_of [] t f e h = absurd cc
last_of (x ∷ []) t f e h = record { before = []; last = x; split = refl; judged = h }
last_of (x ∷ (y ∷ xs)) t f e h = let l = last_of (y ∷ xs) t f e h in record { before = x ∷ l.before; last = l.last; split = ap (◌∷◌ x) l.split; judged = l.judged }

judged_as : (x : Framed) (o : Option Above) (a : Above) (t : Class) (f : File) (e : Error) → o ≡ Some a → misfit_in x o t f ≡ Some e → classes.misfit x.draft.class a.role t f ≡ Some e
judged_as x o a t f e is h = subst (λ (o : Option Above). misfit_in x o t f ≡ Some e) is h

kept_split : (s : State) (xs : List Frame) (x : Frame) → AllKept s (xs ++ x ∷ []) → AllKept s xs × KeepsAccepted s x
kept_split s [] x h = (tt, h.0)
kept_split s (y ∷ xs) x h = let more = kept_split s xs x h.1 in ((h.0, more.0), more.1)

placed_record : (w : World) (s : State) (r : Request) (to place : ℕ) (other : List ℕ) → NeedIsPlaced w s r (Entry to other place) []
placed_record w s (Load loader name) to place other = tt
placed_record w s (Resolve loader name i) to place other = tt
placed_record w s (Link loader name) to place other = tt

-- ---- where a path begins

of_reference : (content : Content) (r : request.Request) (d : Rowed) (p : Pathed) (s : State) → IsReferred r d p → IsSpelt (Some content) d.class d.file → IsClosed (world_of p.config content) s
    → recorded_definer s.records (loader_of r) d.class.name ≡ Some d.class.loader → OfReference (world_of p.config content) s (request_of r) p.loader p.name
of_reference content r d p s for spelt closed at =
    let w = world_of p.config content in
    let own = sym for.loader in
    record {
      through = loader_of r;
      asked = d.class.name;
      index = for.index;
      request = ap request_of for.of;
      kept = subst (λ (l : ℕ). recorded_definer s.records (loader_of r) d.class.name ≡ Some l) own at;
      file = file_of d.file;
      has_file = subst (λ (l : ℕ). HasFile w (class d.class.name l) (file_of d.file)) own (kept_file p.config content s (loader_of r) d.class d.file closed at spelt);
      cites = for.cites;
    }

starts_at : {A : Type 0} (content : Content) (r : request.Request) (t : Target A) (p : Pathed) (s : State) → IsFor r t p → IsSpeltIn (Some content) t → IsClosed (world_of p.config content) s → AllMet s (target_needs r t)
    → Starts (world_of p.config content) s (request_of r) (absent_of t) p.loader p.name
starts_at content r targets.Own p s for spelt closed met = inl (refl, sym for.loader, sym for.name)
starts_at content r (targets.Reference d) p s for spelt closed met = inr (refl, of_reference content r d.value p s for spelt closed met.0)

module _ {A : Type 0} (content : Content) (r : request.Request) (t : Target A) (p : Pathed) (for : IsFor r t p) (spelt_in : IsSpeltIn (Some content) t) (path : IsPath (Some content) p) where
  abbrev w : World
  w = world_of p.config content

  pub under : (s : State) → IsClosed w s → AllMet s (target_needs r t) → AllMet s (kept_of (frames_of p)) → Under w s (request_of r) (absent_of t) (frames_of p) (at_loader p) (at_name p)
  under s closed begun met = record {
    loader = p.loader;
    name = p.name;
    starts = starts_at content r t p s for spelt_in closed begun;
    frames = path.rules;
    kept = (kept_is_met s (frames_of p)).0 met;
  }

  -- the needs of a basis, in its three parts
  abbrev parts : List Need → List Need
  parts more = target_needs r t ++ (kept_of (frames_of p) ++ more)

  under_all : (s : State) (more : List Need) → IsClosed w s → AllMet s (parts more) → Under w s (request_of r) (absent_of t) (frames_of p) (at_loader p) (at_name p) × AllMet s more
  under_all s more closed all =
      let one = met_split s (target_needs r t) (kept_of (frames_of p) ++ more) all in
      let two = met_split s (kept_of (frames_of p)) more one.1 in
      (under s closed one.0 two.0, two.1)

  -- wherever these needs are met, the plan ends so
  abbrev Ends : List Need → Error → Type 0
  Ends more e = (s : State) → IsClosed w s → AllMet s (parts more) → EndsHere w s (request_of r) (Wrong e)

  -- the search for what is looked for leads there
  leads_here : (c : Configured) (loader : ℕ) (name : List ℕ) (place : Option ℕ) → LooksFor p c loader name → LeadsTo (Some content) c loader name place → home w (at_loader p) (at_name p) ≡ place
  leads_here c loader name place sought leads =
      subst (λ (n : List ℕ). home w (at_loader p) n ≡ place) sought.name
      (subst (λ (l : ℕ). home w l name ≡ place) sought.asked (subst (λ (d : Configured). home (world_of d content) loader name ≡ place) sought.config leads))

  missing_ends_so : (u : Sought) → LooksFor p u.config u.asked u.name → LeadsTo (Some content) u.config u.asked u.name None → Ends [] (error_of (missing_kind t p.frames) (class u.name u.asked))
  missing_ends_so u sought leads = λ s closed met.
      let nowhere = leads_here u.config u.asked u.name None sought leads in
      let here = class u.name u.asked in
      let is : class (at_name p) (at_loader p) ≡ here = ap (λ (n : List ℕ). class n (at_loader p)) (sym sought.name) ∙ ap (λ (l : ℕ). class u.name l) (sym sought.asked) in
      subst (λ (e : Error). EndsHere w s (request_of r) (Wrong e)) (ap (λ (c : Class). absent_under (absent_of t) (frames_of p) c) is ∙ absent_same t p.frames here)
      (missing_ends w s (request_of r) (absent_of t) (frames_of p) (at_loader p) (at_name p) closed (under_all s [] closed met).0 nowhere)

  -- the search leads to the home
  pub there : (h : Located) → IsSought p h → LeadsTo (Some content) h.config h.asked h.name (Some h.definer) → home w (at_loader p) (at_name p) ≡ Some h.definer
  there h sought leads = leads_here h.config h.asked h.name (Some h.definer) sought leads

  faulty_ends_so : (h : Located) (fault : DraftFault) → IsSought p h → is_on p (class h.name h.definer) ≡ false → LeadsTo (Some content) h.config h.asked h.name (Some h.definer) → IsTold (Some content) h.definer h.name (Some h.bytes) → IsWrong h fault
      → Ends [] (error_of (kind_of fault) (class h.name h.definer))
  faulty_ends_so h fault sought new leads stored wrong = λ s closed met.
      let c = class h.name h.definer in
      let e = error_of (kind_of fault) c in
      let found = there h sought leads in
      let own : home w h.definer h.name ≡ Some h.definer = subst (λ (n : List ℕ). home w h.definer n ≡ Some h.definer) (sym sought.name) (home_of_home w (at_loader p) h.definer (at_name p) found) in
      let bad : classes.read_class w c ≡ Err e = file_found w c h.bytes own stored ∙ wrong_read h fault c refl wrong in
      faulty_ends w s (request_of r) (absent_of t) (frames_of p) (at_loader p) h.definer (at_name p) e closed (under_all s [] closed met).0 found
      (subst (λ (n : List ℕ). classes.is_among (path_of [] (frames_of p)) (class n h.definer) ≡ false) sought.name (path_scanned (frames_of p) c ∙ new))
      (subst (λ (n : List ℕ). classes.read_class w (class n h.definer) ≡ Err e) sought.name bad)

  circle_ends_so : (h : Located) → IsSought p h → is_on p (class h.name h.definer) ≡ true → LeadsTo (Some content) h.config h.asked h.name (Some h.definer) → Ends [] (ClassCircularity (class h.name h.definer))
  circle_ends_so h sought again leads = λ s closed met.
      let found = there h sought leads in
      subst (λ (n : List ℕ). EndsHere w s (request_of r) (Wrong (ClassCircularity (class n h.definer)))) (sym sought.name)
      (circle_ends w s (request_of r) (absent_of t) (frames_of p) (at_loader p) h.definer (at_name p) closed (under_all s [] closed met).0 found
      (subst (λ (n : List ℕ). classes.is_among (path_of [] (frames_of p)) (class n h.definer) ≡ true) sought.name (path_scanned (frames_of p) (class h.name h.definer) ∙ again)))

  -- the last class wants the recorded one
  misfit_ends_so : (row : Rowed) (e : Error) → row.class.name ≡ at_name p → misfit_under p.frames row.class (file_of row.file) ≡ Some e → IsSpelt (Some content) row.class row.file
      → Ends (Entry (at_loader p) row.class.name row.class.loader ∷ []) e
  misfit_ends_so row e file_if_named wrong spelt = λ s closed met.
      let last = last_of p.frames row.class (file_of row.file) e wrong in
      let xs = map frame_of last.before in
      let x = frame_of last.last in
      let split : frames_of p ≡ xs ++ x ∷ [] = ap (map frame_of) last.split ∙ map_push frame_of last.before last.last in
      let all = under_all s (Entry (at_loader p) row.class.name row.class.loader ∷ []) closed met in
      let u = all.0 in
      let pop = frame_pop w [] u.loader (at_loader p) u.name (at_name p) xs x (subst (λ (ys : List Frame). IsFrames w [] u.loader u.name ys (at_loader p) (at_name p)) split u.frames) in
      let a = pop.2.0 in
      let kept = kept_split s xs x (subst (λ (ys : List Frame). AllKept s ys) split u.kept) in
      misfit_ends w s (request_of r) (absent_of t) xs x (asking_loader u.loader xs) a row.class e closed
      (record { loader = u.loader; name = u.name; starts = u.starts; frames = pop.0; kept = kept.0 })
      pop.1 kept.1 pop.2.1 (file_if_named ∙ sym pop.2.3)
      (spelt_judged p.config content x.class row.class a.role (Some e) row.file spelt (judged_as last.last (wanted_supertype x) a row.class (file_of row.file) e pop.2.1 last.judged))
      (subst (λ (l : ℕ). recorded_definer s.records l row.class.name ≡ Some row.class.loader) (sym pop.2.2) all.1.0)

  -- wherever these needs are met, this one comes next
  abbrev Next : List Need → Need → Type 0
  Next more n = (s : State) → IsClosed w s → AllMet s (parts more) → IsNextNeed w s (request_of r) n

  whole_is_next : (x : Framed) → IsWhole (Some content) p x → Next (kept_of (frame_of x ∷ [])) (Entry x.draft.class.loader x.draft.class.name x.draft.class.loader)
  whole_is_next x whole = λ s closed met.
      let all = under_all s (kept_of (frame_of x ∷ [])) closed met in
      let kept = (kept_is_met s (frame_of x ∷ [])).0 all.1 in
      let named = sym whole.named in
      complete_is_next w s (request_of r) (absent_of t) (frames_of p) (frame_of x) (at_loader p) closed
      (subst (λ (n : List ℕ). Under w s (request_of r) (absent_of t) (frames_of p) (at_loader p) n) named all.0)
      (subst (λ (n : List ℕ). IsFrame w (path_of [] (frames_of p)) (at_loader p) n (frame_of x)) named whole.rules) kept.0 whole.complete

  away_is_next : (h : Located) → IsSought p h → h.definer ≢ at_loader p → LeadsTo (Some content) h.config h.asked h.name (Some h.definer) → Next (Entry h.definer h.name h.definer ∷ []) (Entry h.asked h.name h.definer)
  away_is_next h sought other leads = λ s closed met.
      let all = under_all s (Entry h.definer h.name h.definer ∷ []) closed met in
      let at : IsRecorded s (class (at_name p) h.definer) = subst (λ (n : List ℕ). recorded_definer s.records h.definer n ≡ Some h.definer) sought.name all.1.0 in
      let next = defined_is_next w s (request_of r) (absent_of t) (frames_of p) (at_loader p) h.definer (at_name p) closed all.0 (there h sought leads) at (λ e. other (sym e)) in
      subst (λ (n : List ℕ). IsNextNeed w s (request_of r) (Entry h.asked n h.definer)) (sym sought.name)
      (subst (λ (l : ℕ). IsNextNeed w s (request_of r) (Entry l (at_name p) h.definer)) (sym sought.asked) next)

-- ---- findings

error_rests : (w : World) (r : request.Request) (kind : ErrorKind) (c : Class) (b : Based) → b.refused ≡ None → ((s : State) → IsClosed w s → AllMet s b.needs → EndsHere w s (request_of r) (Wrong (error_of kind c)))
    → VerdictRests w r (verdicts.Error kind c) b
error_rests w r kind c b none h = record {
  apart = error_apart r kind c;
  concludes = λ s closed grounds. subst (λ (o : Option Need). Concludes w s (request_of r) o b.before (Wrong (error_of kind c))) (sym none) (h s closed grounds.needs);
}

refusal_rests : (w : World) (r : request.Request) (need : rust.Need) (to place : ℕ) (other : List ℕ) (b : Based) → b.refused ≡ Some (Entry to other place) → b.before ≡ [] → need_of need ≡ Entry to other place
    → ((s : State) → IsClosed w s → AllMet s b.needs → IsNextNeed w s (request_of r) (Entry to other place)) → VerdictRests w r (verdicts.Linkage need) b
refusal_rests w r need to place other b some bare is h = record {
  apart = linkage_apart r need;
  concludes = λ s closed grounds.
      subst (λ (o : Option Need). Concludes w s (request_of r) o b.before (Linkage (need_of need))) (sym some)
      (subst (λ (cs : List Class). IsRefusal w s (request_of r) (Entry to other place) cs (Linkage (need_of need))) (sym bare)
      (record { linkage = ap (λ (n : Need). Linkage n) is; next = h s closed grounds.needs; placed = placed_record w s (request_of r) to place other }));
}

pub missing_rests : {A : Type 0} (told : Option Content) (r : request.Request) (t : Target A) (p : Pathed) (u : Sought) → IsFor r t p → IsSpeltIn told t → IsPath told p
    → LooksFor p u.config u.asked u.name → LeadsTo told u.config u.asked u.name None
    → Rests told (grounded_answer r (verdicts.Error (missing_kind t p.frames) (class u.name u.asked)) (load_basis r t p [] None))
missing_rests None r t p u for spelt path stops leads = tt
missing_rests (Some content) r t p u for spelt path stops leads =
    error_rests (world_of p.config content) r (missing_kind t p.frames) (class u.name u.asked) (load_basis r t p [] None) refl
    (missing_ends_so content r t p for spelt path u stops leads)

pub faulty_rests : {A : Type 0} (told : Option Content) (r : request.Request) (t : Target A) (p : Pathed) (h : Located) (fault : DraftFault) → IsFor r t p → IsSpeltIn told t → IsPath told p → IsSought p h
    → is_on p (class h.name h.definer) ≡ false → LeadsTo told h.config h.asked h.name (Some h.definer) → IsTold told h.definer h.name (Some h.bytes) → IsWrong h fault
    → Rests told (grounded_answer r (verdicts.Error (kind_of fault) (class h.name h.definer)) (load_basis r t p [] None))
faulty_rests None r t p h fault for spelt path sought new leads stored wrong = tt
faulty_rests (Some content) r t p h fault for spelt path sought new leads stored wrong =
    error_rests (world_of p.config content) r (kind_of fault) (class h.name h.definer) (load_basis r t p [] None) refl
    (faulty_ends_so content r t p for spelt path h fault sought new leads stored wrong)

pub circle_rests : {A : Type 0} (told : Option Content) (r : request.Request) (t : Target A) (p : Pathed) (h : Located) → IsFor r t p → IsSpeltIn told t → IsPath told p → IsSought p h
    → is_on p (class h.name h.definer) ≡ true → LeadsTo told h.config h.asked h.name (Some h.definer)
    → Rests told (grounded_answer r (verdicts.Error kinds.ClassCircularityError (class h.name h.definer)) (load_basis r t p [] None))
circle_rests None r t p h for spelt path sought again leads = tt
circle_rests (Some content) r t p h for spelt path sought again leads =
    error_rests (world_of p.config content) r kinds.ClassCircularityError (class h.name h.definer) (load_basis r t p [] None) refl
    (circle_ends_so content r t p for spelt path h sought again leads)

pub misfit_rests : {A : Type 0} (told : Option Content) (r : request.Request) (t : Target A) (p : Pathed) (row : Rowed) (c : Class) (kind : ErrorKind) → IsFor r t p → IsSpeltIn told t → IsPath told p
    → (row.class ≡ c) × (c.name ≡ at_name p) × IsMisfit p row kind → IsSpelt told row.class row.file
    → Rests told (grounded_answer r (verdicts.Error kind c) (load_basis r t p (Entry (at_loader p) c.name c.loader ∷ []) None))
misfit_rests None r t p row c kind for spelt path stops own = tt
misfit_rests (Some content) r t p row c kind for spelt path stops own =
    let same = sym stops.0 in
    error_rests (world_of p.config content) r kind c (load_basis r t p (Entry (at_loader p) c.name c.loader ∷ []) None) refl
    (subst (λ (d : Class). Ends content r t p for spelt path (Entry (at_loader p) d.name d.loader ∷ []) (error_of kind d)) stops.0
    (misfit_ends_so content r t p for spelt path row (error_of kind row.class) (subst (λ (d : Class). d.name ≡ at_name p) same stops.1) stops.2 own))

pub whole_rests : {A : Type 0} (told : Option Content) (r : request.Request) (t : Target A) (p : Pathed) (x : Framed) (need : rust.Need) → IsFor r t p → IsSpeltIn told t → IsPath told p → IsWhole told p x
    → need_of need ≡ Entry x.draft.class.loader x.draft.class.name x.draft.class.loader
    → Rests told (grounded_answer r (verdicts.Linkage need) (load_basis r t p (kept_of (frame_of x ∷ [])) (Some (Entry x.draft.class.loader x.draft.class.name x.draft.class.loader))))
whole_rests None r t p x need for spelt path whole is = tt
whole_rests (Some content) r t p x need for spelt path whole is =
    let c = x.draft.class in
    refusal_rests (world_of p.config content) r need c.loader c.loader c.name (load_basis r t p (kept_of (frame_of x ∷ [])) (Some (Entry c.loader c.name c.loader))) refl refl is
    (whole_is_next content r t p for spelt path x whole)

pub away_rests : {A : Type 0} (told : Option Content) (r : request.Request) (t : Target A) (p : Pathed) (h : Located) (need : rust.Need) → IsFor r t p → IsSpeltIn told t → IsPath told p
    → IsSought p h × (h.definer ≢ at_loader p) → LeadsTo told h.config h.asked h.name (Some h.definer) → need_of need ≡ Entry h.asked h.name h.definer
    → Rests told (grounded_answer r (verdicts.Linkage need) (load_basis r t p (Entry h.definer h.name h.definer ∷ []) (Some (Entry h.asked h.name h.definer))))
away_rests None r t p h need for spelt path next leads is = tt
away_rests (Some content) r t p h need for spelt path next leads is =
    refusal_rests (world_of p.config content) r need h.asked h.definer h.name (load_basis r t p (Entry h.definer h.name h.definer ∷ []) (Some (Entry h.asked h.name h.definer))) refl refl is
    (away_is_next content r t p for spelt path h next.0 next.1 leads)
