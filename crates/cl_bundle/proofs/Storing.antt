-- Class sections put into a source one by one.
use Rattle.std.proofs.Common.{◌≡◌, ℕ, Bool, false, MatchBool, List, [], ◌∷◌, ◌++◌, Option, Some, None, is_some, Result, Ok, Err, IsErrAnd, ◌==◌, ◌&&◌, nat_eq, if◌then◌else◌, refl, sym, subst, ap, ◌∙◌, append-nil, inl, inr}
use Rattle.std.specs.Cmp.Lexicographic.{pointwise}
use Rattle.cl_model.specs.Content.{Content, Stored, content_at}
use Rattle.cl_source.specs.Puts.{TellsMore}
use Rattle.cl_source.specs.Shelves.{Inserts}
use Rattle.cl_source.proofs.Contents.{tells_more}
use Rattle.cl_config.specs.Views.{loader_named}
use Rattle.cl_bundle.specs.Sections.{Part}
use Rattle.cl_bundle.specs.Faults.{UnlessMemory}
use Rattle.cl_bundle.specs.Bundles.{AllTell, ContentsOf, FirstFault, StoredAs, StoredBy, StoredOf, TellsSame}
use Rattle.cl_bundle.specs.declared.fault.BundleFault.{BundleFault}
use Rattle.cl_bundle.specs.declared.fault.BundleFault.TheVariants.{BadLine}
use Rattle.cl_bundle.proofs.Refusals.{unless_by}

-- the sections so far tell what the source has
pub record IsStored (names : List (List ℕ)) (all left : List Part) (content : Content) : Type 0 where
  pub told : Content
  pub same : TellsSame content told
  pub go_on : (after : Content) → AllTell names told left after → AllTell names [] all after
  pub stop : (fault : BundleFault) → FirstFault names told left fault → FirstFault names [] all fault

pub stored_first : (names : List (List ℕ)) (all : List Part) (content : Content) → content ≡ [] → IsStored names all all content
stored_first names all content e = record { told = []; same = λ l n. rw e refl; go_on = λ after t. t; stop = λ fault w. w }

-- what tells the same counts the same
same_by : (o : Option ℕ) (a b : Content) (part : Part) (r : Result Stored BundleFault) → TellsSame a b → StoredBy o a part r → StoredBy o b part r
same_by None a b part r s w = w
same_by (Some loader) a b part r s w =
    subst (λ (o : Option (List ℕ)). MatchBool (is_some o) (r ≡ Err (BadLine part.line)) (StoredAs loader part r)) (s loader part.name) w

same_stored : (names : List (List ℕ)) (a b : Content) (part : Part) (r : Result Stored BundleFault) → TellsSame a b → StoredOf names a part r → StoredOf names b part r
same_stored names a b part r s w = same_by (loader_named names part.loader) a b part r s w

-- ---- one more at the end

ends_with : (told : Content) (s : Stored) → Inserts told (told ++ s ∷ []) s
ends_with told s = record { front = told; back = []; was = sym (append-nil told); is = refl }

-- the source and the list grow by the same
pub same_after : (old new told : Content) (s : Stored) → TellsSame old told → content_at told s.loader s.name ≡ None → TellsMore old new s.loader s.name s.bytes
    → TellsSame new (told ++ s ∷ [])
same_after old new told s same none more = λ l n.
    more l n ∙ ap (λ (o : Option (List ℕ)). if (s.loader == l) && pointwise nat_eq s.name n then Some s.bytes else o) (same l n)
    ∙ sym (tells_more told (told ++ s ∷ []) s.loader s.name s.bytes none (ends_with told s) l n)

-- what is stored had nothing before
place_of : (o : Option (List ℕ)) (loader : ℕ) (part : Part) (s : Stored) → MatchBool (is_some o) (Ok s ≡ Err (BadLine part.line)) (StoredAs loader part (Ok s))
    → (o ≡ None) × (s.loader ≡ loader) × (s.name ≡ part.name)
place_of None loader part s w = (refl, w.0, w.1)
place_of (Some bytes) loader part s e = absurd cc

none_before : (o : Option ℕ) (told : Content) (part : Part) (s : Stored) → StoredBy o told part (Ok s) → content_at told s.loader s.name ≡ None
none_before None told part s e = absurd cc
none_before (Some loader) told part s w =
    let place = place_of (content_at told loader part.name) loader part s w in
    rw (place.1, place.2) place.0

pub stored_more : (names : List (List ℕ)) (all after : List Part) (part : Part) (old new : Content) (s : Stored) → IsStored names all (part ∷ after) old
    → StoredOf names old part (Ok s) → TellsMore old new s.loader s.name s.bytes → IsStored names all after new
stored_more names all after part old new s i w more =
    let here : StoredOf names i.told part (Ok s) = same_stored names old i.told part (Ok s) i.same w in
    record {
      told = i.told ++ s ∷ [];
      same = same_after old new i.told s i.same (none_before (loader_named names part.loader) i.told part s here) more;
      go_on = λ all t. i.go_on all (s, here, t);
      stop = λ fault t. i.stop fault (inr (s, here, t));
    }

pub stored_wrong : (names : List (List ℕ)) (all after : List Part) (part : Part) (old : Content) (fault : BundleFault) → IsStored names all (part ∷ after) old
    → UnlessMemory fault (StoredOf names old part (Err fault)) → ContentsOf names all (Err fault)
stored_wrong names all after part old fault i w =
    unless_by fault (StoredOf names old part (Err fault)) (FirstFault names [] all fault) (λ e. i.stop fault (inl (same_stored names old i.told part (Err fault) i.same e))) w

pub contents_wrong : (names : List (List ℕ)) (all : List Part) (r : Result Content BundleFault) (fault : BundleFault) → IsErrAnd r (λ e. e ≡ fault) → ContentsOf names all (Err fault) → ContentsOf names all r
contents_wrong names all (Ok x) fault e w = absurd e
contents_wrong names all (Err f) fault e w = subst (λ (g : BundleFault). ContentsOf names all (Err g)) (sym e) w

pub stored_all : (names : List (List ℕ)) (all : List Part) (content : Content) → IsStored names all [] content → ContentsOf names all (Ok content)
stored_all names all content i = (i.told, i.go_on i.told refl, i.same)

-- ---- one section

pub stored_as : (names : List (List ℕ)) (before : Content) (part : Part) (loader : ℕ) (r : Result Stored BundleFault) → loader_named names part.loader ≡ Some loader
    → is_some (content_at before loader part.name) ≡ false → StoredAs loader part r → StoredOf names before part r
stored_as names before part loader r e h w =
    subst (λ (o : Option ℕ). StoredBy o before part r) (sym e) (subst (λ (b : Bool). MatchBool b (r ≡ Err (BadLine part.line)) (StoredAs loader part r)) (sym h) w)
