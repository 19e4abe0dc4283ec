-- What a registry keeps goes on by an equality and by a preparation.
use Rattle.std.proofs.Common.{◌≡◌, ◌∙◌, ◌<◌, ℕ, Bool, true, false, List, [], ◌∷◌, ◌++◌, length, Option, Some, None, inl, refl, sym, ap, subst}
use Rattle.std.specs.Prelude.{slice_get, option_and_then, Contains, IfSome}
use Rattle.std.specs.List.{AllByRecursion}
use Rattle.cl_classfile.specs.Files.{Name}
use Rattle.cl_model.specs.declared.class.Class.{Class}
use Rattle.cl_model.specs.declared.event.Event.{Event}
use Rattle.cl_model.specs.declared.event.Event.TheVariants as events
use Rattle.cl_model.specs.declared.need.Equality.{Equality}
use Rattle.cl_model.specs.declared.need.Need.TheVariants as needs
use Rattle.cl_model.specs.declared.settled.Settled.{Settled}
use Rattle.cl_model.specs.Content.{Content}
use Rattle.cl_model.specs.Classes.{class}
use Rattle.cl_model.specs.Texts.{EqualityNames}
use Rattle.std.proofs.lemmas.List.Elements.{Contains-push}
use Rattle.cl_model.specs.States as states
use Rattle.cl_model.specs.States.{State, Need, Equal, Met, Refused, AllMet, IsRecorded, Joined, recorded_definer}
use Rattle.cl_model.specs.Machine.{Constrain, Prepare, after, May}
use Rattle.cl_config.specs.Views.{Configured}
use Rattle.cl_constraints.specs.Books.{IsBookOf, SaysRefused}
use Rattle.cl_constraints.proofs.Standing.{unrefused}
use Rattle.cl_delegation.specs.Worlds.{setting_of}
use Rattle.cl_hierarchy.specs.Imposed.{AreLineages, AreOf, IsListed, Listed, OfPreparation, OfReference, Sprung, equal_need, needs_of}
use Rattle.cl_hierarchy.specs.Lineages.{IsWithinConfig, Lined, kin_of, rows_in, row_of}
use Rattle.cl_hierarchy.specs.Rows.{Rowed}
use Rattle.cl_registry.specs.declared.registry.RegistryFault.{RegistryFault}
use Rattle.cl_registry.specs.declared.registry.RegistryFault.TheVariants.{Memory, Stray, Violates, AlreadyPosted, NotYet}
use Rattle.cl_registry.specs.Imposing.{IsNextOf, MayConstrainAs, MayImpose, MayPrepareAs, OriginStands, with_constrain, with_prepare}
use Rattle.cl_registry.specs.Kept.{Fields, IsRegistry}
use Rattle.cl_registry.specs.Refusals.{AddRefusedFor, BlamesNeed, ImposeRefusedFor}
use Rattle.cl_registry.specs.Tables.{Shown, state_of, IsKept}
use Rattle.cl_registry.proofs.Constrained.{imposed_is_allowed}
use Rattle.cl_registry.proofs.Entered.{BookAdds, KeepsOthers}
use Rattle.cl_registry.proofs.Equated.{Names, constraints, lined, named_at, referred}
use Rattle.cl_registry.proofs.Kept.{state_event, settled_same, kept_event, same_rounds, none_settled, rows_same, registry_event, book_event, moved, HasRoom}
use Rattle.cl_registry.proofs.Named.{recorded_is_named}

-- ---- loaders of equalities

within_rows : (x : Shown) (l : Lined) → l.config ≡ x.config → AllByRecursion (IsWithinConfig l.config) (rows_in l) → AllByRecursion (λ (r : Rowed). r.class.loader < length x.config.loaders) (rows_in l)
within_rows x l config h = subst (λ (c : Configured). AllByRecursion (IsWithinConfig c) (rows_in l)) config h

-- the equalities of what stands in the tables name loaders that there are
names_by : (told : Option Content) (x : Shown) (o : Sprung) (ns : List Need) → AreLineages told o → AreOf o ns → OriginStands x o → AllByRecursion (Names (λ l. l < length x.config.loaders)) ns
names_by told x (OfPreparation l) ns is are stands =
    let P : ℕ → Type 0 = λ n. n < length x.config.loaders in
    subst (AllByRecursion (Names P)) (sym are) (constraints P (kin_of l) (lined P l (within_rows x l stands.config is.within)))
names_by told x (OfReference d c index) ns is are stands =
    let P : ℕ → Type 0 = λ n. n < length x.config.loaders in
    subst (AllByRecursion (Names P)) (sym are.needs_are)
    (referred P (kin_of d) (kin_of c) are.cites.cited are.made (lined P d (within_rows x d stands.0.config is.0.within)) (lined P c (within_rows x c stands.1.config is.1.within)) are.worked)

pub names_equality : (told : Option Content) (x : Shown) (e : Listed) (k : ℕ) (n : Equality) → IsListed told e → MayImpose x e k → slice_get e.needs k ≡ Some n → EqualityNames (length x.config.loaders) n
names_equality told x e k n listed may at = named_at (λ l. l < length x.config.loaders) e.needs k n (names_by told x e.origin (needs_of e.needs) listed.lineages listed.are may.stands) at

-- what may be imposed the machine may impose, where a content is told
pub constrains_as : (told : Option Content) (x : Shown) (e : Listed) (k : ℕ) (n : Equality) → IsKept told x → IsListed told e → MayImpose x e k → slice_get e.needs k ≡ Some n → (Met (state_of x) (equal_need n) → ⊥) → MayConstrainAs told x n
constrains_as None x e k n kept listed may at unmet = tt
constrains_as (Some content) x e k n kept listed may at unmet = λ free. imposed_is_allowed content x e k n kept listed may at unmet free

-- ---- an equality more

may_constrain : (told : Option Content) (x : Shown) (e : Equality) → MayConstrainAs told x e → (Refused (state_of x) (equal_need e) → ⊥) → (content : Content) → told ≡ Some content → May (setting_of x.config x.script content) (state_of x) (Constrain e.name e.one e.other)
may_constrain None x e may free content is = absurd (none_some is)
  where
    none_some : {c : Content} → None ≡ Some c → ⊥
    none_some h = cc
may_constrain (Some other) x e may free content is =
    subst (λ (c : Content). May (setting_of x.config x.script c) (state_of x) (Constrain e.name e.one e.other)) (content_same is) (may free)
  where
    content_same : Some other ≡ Some content → other ≡ content
    content_same h = cc

state_constrain : (x : Shown) (e : Equality) → state_of (with_constrain x e) ≡ after (state_of x) (Constrain e.name e.one e.other)
state_constrain x e = state_event x x.rows (events.Constrain e)

kept_constrain : (told : Option Content) (x : Shown) (e : Equality) → IsKept told x → (Met (state_of x) (equal_need e) → ⊥) → (Refused (state_of x) (equal_need e) → ⊥) → MayConstrainAs told x e → EqualityNames (length x.config.loaders) e → IsKept told (with_constrain x e)
kept_constrain told x e k unmet free may names =
    kept_event told x x.rows (events.Constrain e) k (record { silent = refl; allows = unrefused (state_of x) (equal_need e) unmet free; may = may_constrain told x e may free; names = names }) (rows_same told x (events.Constrain e) k refl)
    (same_rounds x x.rows (events.Constrain e) k.trusted (ap (λ (s : State). s.round) (state_constrain x e)))
    (none_settled told x (events.Constrain e) k refl)

-- the fields that a call with an equality has made
pub kept_constrained : (told : Option Content) (x : Shown) (e : Equality) (f : Fields) (old new : State → Type 0) (table : ℕ → List ℕ → Option Rowed) (wide : ℕ) (references : Class → ℕ → Option Settled) (prepared : List Class) (used come more : ℕ) (history : List Event)
    → IsRegistry told x f old → (Met (state_of x) (equal_need e) → ⊥) → MayConstrainAs told x e → EqualityNames (length x.config.loaders) e → BookAdds old new (equal_need e) → ((l : ℕ) (n : List ℕ) → table l n ≡ f.table l n)
    → KeepsOthers x f wide references prepared used come more → history ≡ x.history ++ events.Constrain e ∷ []
    → IsRegistry told (record x { history = history }) (moved f table wide references prepared used more) new
kept_constrained told x e f old new table wide references prepared used come more history k unmet may names adds same others h =
    let added_is = adds (state_of x) k.book in
    subst (λ (hs : List Event). IsRegistry told (record x { history = hs }) (moved f table wide references prepared used more) new) (sym h)
    (registry_event told x x.rows (events.Constrain e) f old new table wide references prepared used come more k (kept_constrain told x e k.kept unmet added_is.0 may names) (ap (λ (s : State). s.round) (state_constrain x e)) others.width
    (λ l n. same l n ∙ k.rows l n ∙ sym (ap (λ (s : State). option_and_then (λ (p : ℕ). row_of x.rows (class n p)) (recorded_definer s.records l n)) (state_constrain x e)))
    (subst (λ (s : State). new s) (sym (state_constrain x e)) added_is.1)
    (λ c i. others.references_are c i ∙ k.references c i ∙ sym (settled_same x x.rows (events.Constrain e) c i refl))
    (others.prepared_are ∙ k.prepared ∙ sym (ap (λ (s : State). s.prepared) (state_constrain x e))) others.room)

-- ---- a preparation more

may_prepare : (told : Option Content) (x : Shown) (c : Class) → MayPrepareAs told x c → (content : Content) → told ≡ Some content → May (setting_of x.config x.script content) (state_of x) (Prepare c)
may_prepare None x c may content is = absurd (none_some is)
  where
    none_some : {c : Content} → None ≡ Some c → ⊥
    none_some h = cc
may_prepare (Some other) x c may content is = subst (λ (k : Content). May (setting_of x.config x.script k) (state_of x) (Prepare c)) (content_same is) may
  where
    content_same : Some other ≡ Some content → other ≡ content
    content_same h = cc

state_prepare : (x : Shown) (c : Class) → state_of (with_prepare x c) ≡ after (state_of x) (Prepare c)
state_prepare x c = state_event x x.rows (events.Prepare c)

kept_prepare : (told : Option Content) (x : Shown) (c : Class) → IsKept told x → IsRecorded (state_of x) c → (Contains (state_of x).prepared c → ⊥) → MayPrepareAs told x c → IsKept told (with_prepare x c)
kept_prepare told x c k at free may =
    kept_event told x x.rows (events.Prepare c) k (record { silent = refl; allows = (at, free); may = may_prepare told x c may; names = recorded_is_named x c.loader c.loader c.name k.named at }) (rows_same told x (events.Prepare c) k refl)
    (same_rounds x x.rows (events.Prepare c) k.trusted (ap (λ (s : State). s.round) (state_prepare x c)))
    (none_settled told x (events.Prepare c) k refl)

-- the fields that a call with a preparation has made
pub kept_prepared : {home : Name → ℕ → Option ℕ} {joins : Name → ℕ → ℕ → Type 0} (told : Option Content) (x : Shown) (c : Class) (f : Fields) (table : ℕ → List ℕ → Option Rowed) (wide : ℕ) (references : Class → ℕ → Option Settled) (prepared : List Class) (used come more : ℕ) (history : List Event)
    → IsRegistry told x f (IsBookOf home joins) → IsRecorded (state_of x) c → (Contains (state_of x).prepared c → ⊥) → MayPrepareAs told x c → ((l : ℕ) (n : List ℕ) → table l n ≡ f.table l n) → wide ≡ f.parts → ((d : Class) (i : ℕ) → references d i ≡ f.references d i)
    → prepared ≡ f.prepared ++ c ∷ [] → HasRoom x f used come more → history ≡ x.history ++ events.Prepare c ∷ []
    → IsRegistry told (record x { history = history }) (moved f table wide references prepared used more) (IsBookOf home joins)
kept_prepared {home} {joins} told x c f table wide references prepared used come more history k at free may same width references_are prepared_are room h =
    subst (λ (hs : List Event). IsRegistry told (record x { history = hs }) (moved f table wide references prepared used more) (IsBookOf home joins)) (sym h)
    (registry_event told x x.rows (events.Prepare c) f (IsBookOf home joins) (IsBookOf home joins) table wide references prepared used come more k (kept_prepare told x c k.kept at free may) (ap (λ (s : State). s.round) (state_prepare x c)) width
    (λ l n. same l n ∙ k.rows l n ∙ sym (ap (λ (s : State). option_and_then (λ (p : ℕ). row_of x.rows (class n p)) (recorded_definer s.records l n)) (state_prepare x c)))
    (book_event home joins x x.rows (events.Prepare c) refl refl k.book)
    (λ d i. references_are d i ∙ k.references d i ∙ sym (settled_same x x.rows (events.Prepare c) d i refl))
    (prepared_are ∙ ap (λ (cs : List Class). cs ++ c ∷ []) k.prepared ∙ sym (ap (λ (s : State). s.prepared) (state_prepare x c))) room)

-- ---- refusals

-- an equality that a book refuses is to be blamed
pub blames_equality : (x : Shown) (stands : State → Type 0) (b : Bool) (e : Equality) (name : List ℕ) → name ≡ e.name → SaysRefused stands (Equal name e.one e.other) b → b ≡ true → stands (state_of x)
    → BlamesNeed x (needs.Equal (record { name = name; one = e.one; other = e.other })) (equal_need e)
blames_equality x stands true e name named refuses is at = record {
  is = ap (λ (n : List ℕ). Equal n e.one e.other) named;
  refused = subst (λ (n : List ℕ). Refused (state_of x) (Equal n e.one e.other)) named (refuses (state_of x) at);
}
blames_equality x stands false e name named refuses is at = absurd cc

-- one that it does not refuse is not refused
pub free_equality : (x : Shown) (stands : State → Type 0) (b : Bool) (e : Equality) (name : List ℕ) → name ≡ e.name → SaysRefused stands (Equal name e.one e.other) b → b ≡ false → stands (state_of x) → Refused (state_of x) (equal_need e) → ⊥
free_equality x stands true e name named refuses is at = absurd cc
free_equality x stands false e name named refuses is at = λ r. refuses (state_of x) at (subst (λ (n : List ℕ). Refused (state_of x) (Equal n e.one e.other)) (sym named) r)

-- an equality that is not met is not the next one that is
next_unmet : (x : Shown) (e : Listed) (k : ℕ) (n : Equality) → slice_get e.needs k ≡ Some n → (Met (state_of x) (equal_need n) → ⊥) → IsNextOf e k (Met (state_of x)) → ⊥
next_unmet x e k n at unmet met = unmet (subst (λ (o : Option Equality). IfSome o (λ q. Met (state_of x) (equal_need q))) at met)

-- memory ran out for an equality that may be imposed and is not met
pub impose_lacks : (x : Shown) (e : Listed) (k : ℕ) (n : Equality) → MayImpose x e k → slice_get e.needs k ≡ Some n → (Met (state_of x) (equal_need n) → ⊥) → ImposeRefusedFor x e k Memory
impose_lacks x e k n may at unmet = (may, next_unmet x e k n at unmet)

pub impose_refused : (x : Shown) (e : Listed) (k : ℕ) (n : Equality) (fault : RegistryFault) → MayImpose x e k → slice_get e.needs k ≡ Some n → (Met (state_of x) (equal_need n) → ⊥) → AddRefusedFor x (equal_need n) fault → ImposeRefusedFor x e k fault
impose_refused x e k n Memory may at unmet r = impose_lacks x e k n may at unmet
impose_refused x e k n Stray may at unmet r = absurd r
impose_refused x e k n (Violates m) may at unmet r = (may, subst (λ (o : Option Equality). IfSome o (λ q. BlamesNeed x m (equal_need q))) (sym at) r)
impose_refused x e k n AlreadyPosted may at unmet r = r
impose_refused x e k n NotYet may at unmet r = r

-- the equality that was added is met
pub met_constrain : (x : Shown) (e : Equality) → Met (state_of (with_constrain x e)) (equal_need e)
met_constrain x e =
    subst (λ (s : State). Met s (equal_need e)) (sym (state_constrain x e)) (record { path = e.other ∷ []; along = (record { equality = equality; imposed = Contains-push (state_of x).equalities equality; named = refl; ends = inl (refl, refl) }, refl) })
  where
    equality : states.Equality
    equality = record { name = e.name; one = e.one; other = e.other }

-- the class that was marked is prepared
pub prepared_more : (x : Shown) (c : Class) → Contains (state_of (with_prepare x c)).prepared c
prepared_more x c = subst (λ (s : State). Contains s.prepared c) (sym (state_prepare x c)) (Contains-push (state_of x).prepared c)
