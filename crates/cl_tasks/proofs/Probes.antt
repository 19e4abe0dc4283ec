-- A search asks loaders of the configuration alone, and no more of them than there are.
use Rattle.std.proofs.Common.{◌≡◌, ◌≢◌, ◌<◌, ◌≤◌, ◌+◌, ◌*◌, ◌-◌, lit<, ℕ, suc, List, [], ◌∷◌, ◌++◌, length, Option, Some, None, refl, sym, ap, ◌∙◌, subst, slice_get, arith, length-append}
use Rattle.std.specs.Prelude.{unwrap_or}
use Rattle.cl_classfile.specs.Files.{Name}
use Rattle.cl_config.specs.Views.{Configured}
use Rattle.cl_config.specs.Loaders.{loaders_in}
use Rattle.cl_config.specs.declared.limits.TheConstants.{MOST_LOADERS}
use Rattle.cl_source.specs.Views.{Found}
use Rattle.cl_delegation.specs.Searches.{Searched, begun_search, next_of, next_on, route_of, after_probe, with_probe}
use Rattle.cl_delegation.proofs.Once.{asks_few, route_within}
use Rattle.cl_model.specs.Frames.{Frame}
use Rattle.cl_tasks.specs.Measures.{left_while_loading, most, turns, left_at}
use Rattle.cl_tasks.specs.Measures as phases
use Rattle.cl_tasks.specs.Stages.{next_loader, probes_left, Seeks}
use Rattle.cl_tasks.specs.Steps.{IsPlain, ReadsAt, reads_on, reads_left, way_on}
use Rattle.cl_model.specs.Probes.{first_places, route}
use Rattle.cl_hierarchy.specs.Paths.{Pathed, at_loader, at_name}
use Rattle.cl_tasks.specs.Turns.{IsBehind}
use Rattle.cl_tasks.specs.declared.stage.Job.{Job}
use Rattle.cl_tasks.specs.declared.turn.Turn.{Turn}
use Rattle.std.proofs.lemmas.Option.{none-some, slice_get_within}
use Rattle.cl_tasks.proofs.TurnCases.{of_reads}

on_way : (way : List ℕ) (i : ℕ) (found : Option Found) (l : ℕ) → next_on way i found ≡ Some l → slice_get way i ≡ Some l
on_way way i None l e = e
on_way way i (Some p) l e = absurd cc

-- what a search reads next is a loader of the configuration
pub next_within : (s : Searched) (c : Configured) (l : ℕ) → s.config ≡ c → next_of s ≡ Some l → l < length c.loaders
next_within s c l config e = subst (λ (d : Configured). l < length d.loaders) config (route_within s (length s.absent) l (on_way (route_of s) (length s.absent) s.found l e))

-- ---- how many reads are left

few_probes : (n : ℕ) → n ≤ MOST_LOADERS → n ≤ most
unfolding most
few_probes n h = let k : MOST_LOADERS < 18446744073709551616 = lit< tt in omega arith

-- a search that begins has few loaders to ask
pub begins_less : (xs : List Frame) (c : Configured) (loader : ℕ) (name : Name) (s : Searched) → s ≡ begun_search c loader name → length c.loaders ≤ MOST_LOADERS → left_at phases.Reading xs (reads_left s) ≤ left_at phases.Looking xs 0
begins_less xs c loader name s is few =
    let short = asks_few (begun_search c loader name) in
    let n : probes_left (begun_search c loader name) ≤ most = few_probes (probes_left (begun_search c loader name)) (omega (arith, short)) in
    subst (λ (u : Searched). left_at phases.Reading xs (reads_left u) ≤ left_at phases.Looking xs 0) (sym is) (above (turns * left_while_loading xs) most (probes_left (begun_search c loader name)) n)
  where
    above : (a m p : ℕ) → p ≤ m → a + ((p + 1) + 5) ≤ a + (m + 7)
    above a m p h = omega arith

on_found : (way : List ℕ) (i : ℕ) (found : Option Found) (l : ℕ) (probes : ℕ) → next_on way i found ≡ Some l → reads_on found probes ≡ probes + 1
on_found way i None l probes e = refl
on_found way i (Some p) l probes e = absurd cc

-- a search that reads on has one read less
pub reads_more : (xs : List Frame) (s : Searched) (l : ℕ) → next_of s ≡ Some l → left_at phases.Reading xs (probes_left s) < left_at phases.Reading xs (reads_left s)
reads_more xs s l e = let k : reads_left s ≡ probes_left s + 1 = on_found (route_of s) (length s.absent) s.found l (probes_left s) e in above (turns * left_while_loading xs) (probes_left s) (reads_left s) k
  where
    above : (a p r : ℕ) → r ≡ p + 1 → a + (p + 5) < a + (r + 5)
    above a p r h = omega arith

none_found : (way : List ℕ) (i : ℕ) (found : Option Found) (l : ℕ) → next_on way i found ≡ Some l → found ≡ None
none_found way i None l e = refl
none_found way i (Some p) l e = absurd cc

-- a probe leaves one read less
pub takes_less : (s : Searched) (p : Found) (l : ℕ) → next_of s ≡ Some l → reads_left (with_probe s p) ≤ probes_left s
takes_less s p l e = step p.bytes
  where
    step : (o : Option (List ℕ)) → reads_left (after_probe s p o) ≤ probes_left s
    step (Some bytes) = omega arith
    step None =
        let f : s.found ≡ None = none_found (route_of s) (length s.absent) s.found l e in
        let h = slice_get_within (route_of s) (length s.absent) l (on_way (route_of s) (length s.absent) s.found l e) in
        let k : reads_on s.found (length (route_of s) - length (s.absent ++ p ∷ [])) ≡ (length (route_of s) - length (s.absent ++ p ∷ [])) + 1 = ap (λ (o : Option Found). reads_on o (length (route_of s) - length (s.absent ++ p ∷ []))) f in
        let n = length-append s.absent (p ∷ []) in
        omega (arith, h, k, n)

pub reads_fewer : (xs : List Frame) (s new : Searched) (p : Found) (l : ℕ) → next_of s ≡ Some l → new ≡ with_probe s p → left_at phases.Reading xs (reads_left new) ≤ left_at phases.Reading xs (probes_left s)
reads_fewer xs s new p l e is = subst (λ (u : Searched). left_at phases.Reading xs (reads_left u) ≤ left_at phases.Reading xs (probes_left s)) (sym is) (above (turns * left_while_loading xs) (reads_left (with_probe s p)) (probes_left s) (takes_less s p l e))
  where
    above : (a p q : ℕ) → p ≤ q → a + (p + 5) ≤ a + (q + 5)
    above a p q h = omega arith

-- ---- what is read next

one_more_is : (n : ℕ) → n + 1 ≡ suc n
one_more_is n = omega arith

-- a turn that reads nothing
pub reads_none : {A : Type 0} (p : Pathed) (is : ℕ → Type 0) (u : Turn A) → IsPlain u → ReadsAt p is u
reads_none p is u h = (of_reads u).1 p is (λ l n e. absurd (subst (λ (v : Turn _). IsPlain v) e h))

reads_more_so : {A : Type 0} (p : Pathed) (is so : ℕ → Type 0) (u : Turn A) → ((l : ℕ) → is l → so l) → ReadsAt p is u → ReadsAt p so u
reads_more_so p is so u weaker h = (of_reads u).1 p so (λ l n e. let k = subst (λ (v : Turn _). ReadsAt p is v) e h in (k.0, weaker l k.1))

-- a search that begins asks the first on its way
pub reads_first : {A : Type 0} (p : Pathed) (s : Searched) (u : Turn A) → s ≡ begun_search p.config (at_loader p) (at_name p) → ReadsAt p (λ l. next_of s ≡ Some l) u → ReadsAt p (λ l. slice_get (way_on p) 0 ≡ Some l) u
reads_first p s u is h = subst (λ (t : Searched). ReadsAt p (λ l. next_of t ≡ Some l) u) is h

-- behind a probe a search asks the next on its way, if that found nothing
behind : (s : Searched) (p : Found) (l : ℕ) → next_of s ≡ Some p.loader → next_of (with_probe s p) ≡ Some l → IsBehind (route_of s) p l
behind s p l before e = step p.bytes refl e
  where
    step : (o : Option (List ℕ)) → p.bytes ≡ o → next_of (after_probe s p o) ≡ Some l → IsBehind (route_of s) p l
    step (Some bytes) is f = absurd (none-some l f)
    step None is f = record {
      nothing = is;
      place = length s.absent;
      read = on_way (route_of s) (length s.absent) s.found p.loader before;
      next =
          subst (λ (n : ℕ). slice_get (route_of s) n ≡ Some l) (length-append s.absent (p ∷ []) ∙ one_more_is (length s.absent))
          (on_way (route_of s) (length (s.absent ++ p ∷ [])) s.found l f);
    }

pub way_is : (p : Pathed) (s : Searched) → s.config ≡ p.config → s.loader ≡ at_loader p → s.name ≡ at_name p → route_of s ≡ way_on p
way_is p s config loader name =
    ap (λ (c : Configured). first_places [] (route (loaders_in c) s.loader s.name)) config
    ∙ ap (λ (l : ℕ). first_places [] (route (loaders_in p.config) l s.name)) loader
    ∙ ap (λ (n : Name). first_places [] (route (loaders_in p.config) (at_loader p) n)) name

-- what a search asks next stands on its route
pub reads_place : (s : Searched) → next_of s ≢ None → (i : ℕ) × (slice_get (route_of s) i ≡ Some (next_loader s))
reads_place s some = (length s.absent, on_way (route_of s) (length s.absent) s.found (next_loader s) (is_some_of (next_of s) some))
  where
    is_some_of : (o : Option ℕ) → o ≢ None → o ≡ Some (unwrap_or o 0)
    is_some_of None h = absurd (h refl)
    is_some_of (Some l) h = refl

pub reads_behind : {A : Type 0} (j : Job A) (s new : Searched) (p : Found) (u : Turn A) → Seeks j s → next_of s ≡ Some p.loader → new ≡ with_probe s p → ReadsAt j.path (λ l. next_of new ≡ Some l) u → ReadsAt j.path (IsBehind (way_on j.path) p) u
reads_behind j s new p u seeks before is h =
    reads_more_so j.path (λ l. next_of new ≡ Some l) (IsBehind (way_on j.path) p) u
    (λ l e. subst (λ (way : List ℕ). IsBehind way p l) (way_is j.path s seeks.config seeks.asked seeks.name) (behind s p l before (subst (λ (t : Searched). next_of t ≡ Some l) is e))) h
