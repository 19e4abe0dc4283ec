-- What the probes of a search say of the home.
use Rattle.std.proofs.Common.{◌<◌, ◌≡◌, ℕ, true, false, List, [], ◌∷◌, ◌++◌, length, Option, Some, None, is_some, refl, sym, ap, subst, ◌∙◌, IsSome}
use Rattle.std.specs.Prelude.{find, slice_get}
use Rattle.std.specs.Option.{unwrap_or}
use Rattle.cl_model.specs.Content.{Content, content_at}
use Rattle.cl_model.proofs.Probes.{home_is_probed}
use Rattle.cl_source.specs.Told.{IsTold}
use Rattle.cl_source.specs.Views.{Found}
use Rattle.cl_delegation.specs.Worlds.{world_of}
use Rattle.cl_delegation.specs.Searches.{Searched, route_of, next_on, after_probe, IsProbeOf, AllLack, IsFound, IsEnd, FollowsRoute, LeadsTo}
use Rattle.cl_delegation.proofs.Once.{route_within}

-- ---- one probe more

all_lack_more : (told : Option Content) (name way : List ℕ) (ps : List Found) (p : Found) → AllLack told name way ps → slice_get way (length ps) ≡ Some p.loader → IsProbeOf told name p.loader p → p.bytes ≡ None
    → AllLack told name way (ps ++ p ∷ [])
all_lack_more told name [] [] p t next is none = absurd cc
all_lack_more told name (l ∷ ls) [] p t next is none = let same : l ≡ p.loader = cc in (subst (λ (k : ℕ). IsProbeOf told name k p) (sym same) is, none, tt)
all_lack_more told name [] (q ∷ ps) p t next is none = absurd t
all_lack_more told name (l ∷ ls) (q ∷ ps) p t next is none = (t.0, t.1, all_lack_more told name ls ps p t.2 next is none)

next_unfound : (way : List ℕ) (n : ℕ) (f : Option Found) (l : ℕ) → next_on way n f ≡ Some l → (f ≡ None) × (slice_get way n ≡ Some l)
next_unfound way n None l e = (refl, e)
next_unfound way n (Some p) l e = absurd cc

pub follows_on : (told : Option Content) (s : Searched) (p : Found) (bytes : Option (List ℕ)) → FollowsRoute told s → next_on (route_of s) (length s.absent) s.found ≡ Some p.loader → p.name ≡ s.name → IsTold told p.loader p.name p.bytes → p.bytes ≡ bytes
    → FollowsRoute told (after_probe s p bytes)
follows_on told s p None f next same is found =
    let n = next_unfound (route_of s) (length s.absent) s.found p.loader next in
    record {
      loader = f.loader;
      absent = all_lack_more told s.name (route_of s) s.absent p f.absent n.1 (record { loader = refl; name = same; told = is }) found;
      found = subst (λ (o : Option Found). IsEnd told s.name (slice_get (route_of s) (length (s.absent ++ p ∷ []))) o) (sym n.0) tt;
    }
follows_on told s p (Some bytes) f next same is found =
    let n = next_unfound (route_of s) (length s.absent) s.found p.loader next in
    record {
      loader = f.loader;
      absent = f.absent;
      found = record { probe = record { loader = refl; name = same; told = is }; next = n.1; bytes = rw found refl };
    }

-- ---- what the probes say of the home

lacks : (content : Content) (name : List ℕ) (l : ℕ) (p : Found) → IsProbeOf (Some content) name l p → p.bytes ≡ None → is_some (content_at content l name) ≡ false
lacks content name l p is none =
    let told : content_at content p.loader p.name ≡ None = is.told ∙ none in
    let here : content_at content l name ≡ None = ap (λ (k : ℕ). content_at content k name) (sym is.loader) ∙ ap (content_at content p.loader) (sym is.name) ∙ told in
    ap is_some here

unfound : (content : Content) (name way : List ℕ) (ps : List Found) → AllLack (Some content) name way ps → slice_get way (length ps) ≡ None → find (λ m. is_some (content_at content m name)) way ≡ None
unfound content name [] [] t next = refl
unfound content name (l ∷ ls) [] t next = absurd cc
unfound content name [] (p ∷ ps) t next = absurd t
unfound content name (l ∷ ls) (p ∷ ps) t next = rw (lacks content name l p t.0 t.1) (unfound content name ls ps t.2 next)

found_at : (content : Content) (name way : List ℕ) (ps : List Found) (m : ℕ) → AllLack (Some content) name way ps → slice_get way (length ps) ≡ Some m → is_some (content_at content m name) ≡ true
    → find (λ m. is_some (content_at content m name)) way ≡ Some m
found_at content name [] [] m t next has = absurd cc
found_at content name (l ∷ ls) [] m t next has = let same : l ≡ m = cc in rw (same, has) refl
found_at content name [] (p ∷ ps) m t next has = absurd t
found_at content name (l ∷ ls) (p ∷ ps) m t next has = rw (lacks content name l p t.0 t.1) (found_at content name ls ps m t.2 next has)

some_bytes : (o : Option (List ℕ)) → IsSome o → is_some o ≡ true
some_bytes None h = absurd cc
some_bytes (Some x) h = refl

pub leads_nowhere : (told : Option Content) (s : Searched) → FollowsRoute told s → s.found ≡ None → next_on (route_of s) (length s.absent) s.found ≡ None → LeadsTo told s.config s.loader s.name None
leads_nowhere None s f none last = tt
leads_nowhere (Some content) s f none last =
    let past : slice_get (route_of s) (length s.absent) ≡ None = subst (λ (o : Option Found). next_on (route_of s) (length s.absent) o ≡ None) none last in
    home_is_probed (world_of s.config content) s.loader s.name ∙ unfound content s.name (route_of s) s.absent f.absent past

pub leads_home : (told : Option Content) (s : Searched) (p : Found) → FollowsRoute told s → s.found ≡ Some p → LeadsTo told s.config s.loader s.name (Some p.loader)
leads_home None s p f found = tt
leads_home (Some content) s p f found =
    let end : IsFound (Some content) s.name (slice_get (route_of s) (length s.absent)) p = subst (λ (o : Option Found). IsEnd (Some content) s.name (slice_get (route_of s) (length s.absent)) o) found f.found in
    let here : content_at content p.loader s.name ≡ p.bytes = ap (content_at content p.loader) (sym end.probe.name) ∙ end.probe.told in
    home_is_probed (world_of s.config content) s.loader s.name ∙ found_at content s.name (route_of s) s.absent p.loader f.absent end.next (ap is_some here ∙ some_bytes p.bytes end.bytes)

-- ---- what a home keeps

unwrapped : (o : Option (List ℕ)) → IsSome o → o ≡ Some (unwrap_or o [])
unwrapped None h = absurd cc
unwrapped (Some x) h = refl

pub home_kept : (told : Option Content) (s : Searched) (p : Found) → FollowsRoute told s → s.found ≡ Some p
    → (p.name ≡ s.name) × (p.bytes ≡ Some (unwrap_or p.bytes [])) × LeadsTo told s.config s.loader s.name (Some p.loader) × (p.loader < length s.config.loaders)
home_kept told s p f found =
    let end : IsFound told s.name (slice_get (route_of s) (length s.absent)) p = subst (λ (o : Option Found). IsEnd told s.name (slice_get (route_of s) (length s.absent)) o) found f.found in
    (end.probe.name, unwrapped p.bytes end.bytes, leads_home told s p f found, route_within s (length s.absent) p.loader end.next)
