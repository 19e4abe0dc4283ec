-- What a registry keeps goes on by a definition and by an initiation.
use Rattle.std.proofs.Common.{◌≡◌, ◌∙◌, ◌<◌, ℕ, Bool, true, false, if◌then◌else◌, List, [], ◌∷◌, ◌++◌, length, map, Option, Some, None, refl, sym, ap, subst}
use Rattle.std.specs.Prelude.{◌&&◌, ◌==◌, nat_eq, IsSome, IfSome}
use Rattle.std.specs.List.{AllByRecursion}
use Rattle.std.specs.Cmp.Lexicographic.{pointwise}
use Rattle.std.proofs.lemmas.List.{map_push}
use Rattle.std.proofs.lemmas.List.Elements.{All-push}
use Rattle.cl_classfile.specs.Files.{file_of}
use Rattle.cl_model.specs.declared.class.Class.{Class}
use Rattle.cl_model.specs.declared.event.Event.{Event}
use Rattle.cl_model.specs.declared.event.Event.TheVariants as events
use Rattle.cl_model.specs.declared.need.Need.TheVariants as needs
use Rattle.cl_model.specs.declared.settled.Settled.{Settled}
use Rattle.cl_model.specs.Content.{Content}
use Rattle.cl_model.specs.Classes.{class, Above, supers}
use Rattle.cl_model.specs.States.{State, Record, Need, Entry, recorded_definer, with_need, Refused}
use Rattle.cl_model.specs.Tables.{Records}
use Rattle.cl_model.specs.Machine.{Define, Initiate, after, May}
use Rattle.cl_config.specs.Views.{Configured}
use Rattle.cl_delegation.specs.Searches.{Located, LeadsTo}
use Rattle.cl_delegation.specs.Worlds.{setting_of}
use Rattle.cl_hierarchy.specs.Drafts.{IsDraft, IsSpelt, Drafted}
use Rattle.cl_hierarchy.specs.Rows.{FitsAs, Rowed}
use Rattle.cl_hierarchy.specs.RowTables.{HasItsFile, IsRowAfter, StandAbove}
use Rattle.cl_hierarchy.proofs.RowTables.{rows_grow}
use Rattle.cl_hierarchy.proofs.Climbs.{row_more}
use Rattle.cl_hierarchy.proofs.Placed.{spelt_file}
use Rattle.cl_hierarchy.specs.Lineages.{row_of}
use Rattle.cl_constraints.specs.Books.{Admits}
use Rattle.cl_registry.specs.declared.registry.RegistryFault.{RegistryFault}
use Rattle.cl_registry.specs.declared.registry.RegistryFault.TheVariants.{Memory, Stray, Violates, AlreadyPosted, NotYet}
use Rattle.cl_registry.specs.Kept.{Fields, IsRegistry}
use Rattle.cl_registry.specs.Parts.{IsPut}
use Rattle.cl_registry.specs.Refusals.{AddRefusedFor, BlamesNeed, BlamesIn, DefineRefusedFor, InitiateRefusedFor, MemoryOrStray, RecordRefusedFor}
use Rattle.cl_registry.specs.Tables.{Shown, state_of, records_of, IsKept, ArePlaced, with_define, with_initiate, looked_row, row_for, recorded_place, IsNew, LacksRecord, MayEnter, MayJoin, Defines, DefinedAs, Initiates, InitiatedAs}
use Rattle.cl_registry.proofs.Running.{may_record}
use Rattle.cl_registry.proofs.Looked.{looked_push, looked_some, looked_records, at_self, fresh_row, row_push}
use Rattle.cl_registry.proofs.Allowed.{closed_of, draft_at_home, entered_is_allowed, joined_is_allowed, recorded_at, row_of_some}
use Rattle.cl_registry.proofs.Kept.{grown, state_event, settled_same, kept_event, same_rounds, none_settled, rows_same, placed_more, registry_event, moved, HasRoom, AreRowsBy}
use Rattle.cl_findings.specs.Loads.{asked_record, own_record}

-- what adding a need to a book comes to, in the states that it stands for
abbrev pub BookAdds : (State → Type 0) → (State → Type 0) → Need → Type 0
BookAdds old new need = (s : State) → old s → (Refused s need → ⊥) × new (with_need s need)

-- the fields of a registry after a call that adds a record: references and preparations stay, and room is left
pub record KeepsOthers (x : Shown) (f : Fields) (wide : ℕ) (references : Class → ℕ → Option Settled) (prepared : List Class) (used come more : ℕ) : Type 0 where
  pub width : wide ≡ f.parts
  pub references_are : (c : Class) (i : ℕ) → references c i ≡ f.references c i
  pub prepared_are : prepared ≡ f.prepared
  pub room : HasRoom x f used come more

-- ---- a definition

abbrev record_of : Class → Record
record_of c = record { loader = c.loader; name = c.name; place = c.loader }

may_define : (told : Option Content) (x : Shown) (d : Drafted) → IsKept told x → IsDraft told d → MayEnter x d → IsNew x d → (Refused (state_of x) (own_record d) → ⊥) → (content : Content) → told ≡ Some content
    → May (setting_of x.config x.script content) (state_of x) (Define d.class)
may_define told x d k draft may fresh free content e =
    entered_is_allowed content x d (subst (λ (t : Option Content). IsKept t x) e k) (subst (λ (t : Option Content). IsDraft t d) e draft) may fresh free

state_define : (x : Shown) (d : Drafted) → state_of (with_define x d) ≡ after (state_of x) (Define d.class)
state_define x d = state_event x (x.rows ++ row_for x d ∷ []) (events.Define d.class)

-- where a content is told, what is recorded is where the search leads to
found_by : (told : Option Content) (x : Shown) (c : Class) (a : Above) (p : ℕ) → IsKept told x → recorded_definer (records_of x) c.loader a.name ≡ Some p → LeadsTo told x.config c.loader a.name (Some p)
found_by None x c a p k at = tt
found_by (Some content) x c a p k at = (closed_of content x k).homes c.loader p a.name at

stand_above : (told : Option Content) (x : Shown) (c : Class) (others : List Above) → IsKept told x → AllByRecursion (λ (a : Above). IsSome (recorded_definer (records_of x) c.loader a.name)) others
    → AllByRecursion (λ (a : Above). IfSome (looked_row x c.loader a.name) (FitsAs c a)) others → StandAbove told x.config x.rows c others (map (recorded_place (records_of x) c.loader) others)
stand_above told x c [] k above fit = tt
stand_above told x c (a ∷ others) k above fit =
    let p = recorded_place (records_of x) c.loader a in
    let at = recorded_at x c.loader a above.0 in
    let r = looked_some told x c.loader p a.name k at in (
      record { row = r.row; stands = r.found; fits = row_of_some (FitsAs c a) (looked_row x c.loader a.name) r.row r.looked fit.0; found = found_by told x c a p k at },
      stand_above told x c others k above.1 fit.1,
    )

places_for : (x : Shown) (l : ℕ) (others : List Above) → AllByRecursion (λ (a : Above). IsSome (recorded_definer (records_of x) l a.name)) others → ArePlaced (records_of x) l others (map (recorded_place (records_of x) l) others)
places_for x l [] above = tt
places_for x l (a ∷ others) above = (recorded_at x l a above.0, places_for x l others above.1)

file_for : (told : Option Content) (x : Shown) (d : Drafted) → IsDraft told d → d.home.config ≡ x.config → HasItsFile told x.config (row_for x d)
file_for None x d draft config = tt
file_for (Some content) x d draft config = spelt_file x.config content d.class d.file (draft_at_home x.config content d draft config) draft.spelt

-- the row of a draft may stand after those that there are
row_after : (told : Option Content) (x : Shown) (d : Drafted) → IsKept told x → IsDraft told d → MayEnter x d → IsNew x d → IsRowAfter told x.config x.rows (row_for x d)
row_after told x d k draft may fresh = record {
  is_new = fresh_row told x d.class k fresh;
  within = may.loader;
  above = stand_above told x d.class (supers (file_of d.file)) k may.above may.fit;
  has_file = file_for told x d draft may.config;
}

rows_define : (told : Option Content) (x : Shown) (d : Drafted) → IsKept told x → IsDraft told d → MayEnter x d → IsNew x d → AreRowsBy told x (x.rows ++ row_for x d ∷ []) (events.Define d.class)
rows_define told x d k draft may fresh = record {
  classes = map_push (λ (r : Rowed). r.class) x.rows (row_for x d) ∙ ap (λ (cs : List Class). cs ++ d.class ∷ []) k.rows;
  spelt = All-push (λ r. IsSpelt told r.class r.file) x.rows (row_for x d) k.spelt draft.spelt;
  order = rows_grow told x.config x.rows (row_for x d) k.order (row_after told x d k draft may fresh);
  placed = placed_more told x (row_for x d) (events.Define d.class) k (places_for x d.class.loader (supers (file_of d.file)) may.above);
}

pub kept_by_define : (told : Option Content) (x : Shown) (d : Drafted) → IsKept told x → IsDraft told d → MayEnter x d → IsNew x d → (Refused (state_of x) (own_record d) → ⊥) → IsKept told (with_define x d)
kept_by_define told x d k draft may fresh free =
    kept_event told x (x.rows ++ row_for x d ∷ []) (events.Define d.class) k
    (record { silent = refl; allows = may_record (state_of x) d.class.loader d.class.loader d.class.name fresh free; may = may_define told x d k draft may fresh free; names = may.loader })
    (rows_define told x d k draft may fresh)
    (same_rounds x (x.rows ++ row_for x d ∷ []) (events.Define d.class) k.trusted (ap (λ (s : State). s.round) (state_define x d)))
    (none_settled told x (events.Define d.class) k refl)

looked_define : (told : Option Content) (x : Shown) (d : Drafted) → IsKept told x → IsNew x d → (l : ℕ) (n : List ℕ) → looked_row (with_define x d) l n ≡ (if (d.class.loader == l) && pointwise nat_eq d.class.name n then Some (row_for x d) else looked_row x l n)
looked_define told x d k fresh =
    looked_push told x (with_define x d) (record_of d.class) (row_for x d) k (ap (λ (s : State). s.records) (state_define x d))
    (λ c s e. row_more x.rows (row_for x d ∷ []) c s e) fresh (row_push x.rows (row_for x d) d.class refl (fresh_row told x d.class k fresh))

pub kept_define : (told : Option Content) (x : Shown) (d : Drafted) (f : Fields) (old new : State → Type 0) (table : ℕ → List ℕ → Option Rowed) (wide : ℕ) (references : Class → ℕ → Option Settled) (prepared : List Class) (used come more : ℕ)
    → IsRegistry told x f old → IsDraft told d → MayEnter x d → IsNew x d → BookAdds old new (own_record d) → IsPut f.table table d.class.loader d.class.name (row_for x d) → KeepsOthers x f wide references prepared used come more
    → IsRegistry told (with_define x d) (moved f table wide references prepared used more) new
kept_define told x d f old new table wide references prepared used come more k draft may fresh adds put others =
    let rows = x.rows ++ row_for x d ∷ [] in
    let e = events.Define d.class in
    let added_is = adds (state_of x) k.book in
    registry_event told x rows e f old new table wide references prepared used come more k (kept_by_define told x d k.kept draft may fresh added_is.0) (ap (λ (s : State). s.round) (state_define x d)) others.width
    (λ l n. put l n ∙ ap (λ (o : Option Rowed). if (d.class.loader == l) && pointwise nat_eq d.class.name n then Some (row_for x d) else o) (k.rows l n) ∙ sym (looked_define told x d k.kept fresh l n))
    (subst (λ (s : State). new s) (sym (state_define x d)) added_is.1)
    (λ c i. others.references_are c i ∙ k.references c i ∙ sym (settled_same x rows e c i refl))
    (others.prepared_are ∙ k.prepared ∙ sym (ap (λ (s : State). s.prepared) (state_define x d))) others.room

pub shown_define : (x : Shown) (d : Drafted) (rows : List Rowed) (history : List Event) → rows ≡ x.rows ++ row_for x d ∷ [] → history ≡ x.history ++ events.Define d.class ∷ [] → record x { rows = rows; history = history } ≡ with_define x d
shown_define x d rows history e f = ap (λ (rs : List Rowed). grown x rs history) e ∙ ap (λ (h : List Event). grown x (x.rows ++ row_for x d ∷ []) h) f

-- the same of fields that a call has made
pub kept_defined : (told : Option Content) (x : Shown) (d : Drafted) (f : Fields) (old new : State → Type 0) (table : ℕ → List ℕ → Option Rowed) (wide : ℕ) (references : Class → ℕ → Option Settled) (prepared : List Class) (used come more : ℕ) (rows : List Rowed) (history : List Event)
    → IsRegistry told x f old → IsDraft told d → MayEnter x d → IsNew x d → BookAdds old new (own_record d) → IsPut f.table table d.class.loader d.class.name (row_for x d) → KeepsOthers x f wide references prepared used come more
    → rows ≡ x.rows ++ row_for x d ∷ [] → history ≡ x.history ++ events.Define d.class ∷ []
    → IsRegistry told (record x { rows = rows; history = history }) (moved f table wide references prepared used more) new
kept_defined told x d f old new table wide references prepared used come more rows history k draft may fresh adds put others r h =
    subst (λ (y : Shown). IsRegistry told y (moved f table wide references prepared used more) new) (sym (shown_define x d rows history r h))
    (kept_define told x d f old new table wide references prepared used come more k draft may fresh adds put others)

if_self : (b : Bool) (r : Rowed) (o : Option Rowed) → b ≡ true → (if b then Some r else o) ≡ Some r
if_self true r o e = refl
if_self false r o e = absurd cc

-- the row that was recorded is looked up
own_looked : (told : Option Content) (x : Shown) (d : Drafted) → IsKept told x → IsNew x d → looked_row (with_define x d) d.class.loader d.class.name ≡ Some (row_for x d)
own_looked told x d k fresh =
    looked_define told x d k fresh d.class.loader d.class.name ∙ if_self ((d.class.loader == d.class.loader) && pointwise nat_eq d.class.name d.class.name) (row_for x d) _ (at_self d.class.loader d.class.name)

module _ (told : Option Content) (x y : Shown) (d : Drafted) (v : Rowed) (k : IsKept told x) (fresh : IsNew x d) (by : DefinedAs x y d v None) where
  pub is_defined : Defines x y d v
  is_defined = subst (λ (o : Option ℕ). DefinedAs x y d v o) (sym fresh) by

  pub shown_defined : looked_row y d.class.loader d.class.name ≡ Some v
  shown_defined = ap (λ (z : Shown). looked_row z d.class.loader d.class.name) by.2 ∙ own_looked told x d k fresh ∙ ap (λ (r : Rowed). Some r) (sym by.3)

  pub records_defined : IsKept told y → Records (state_of y) d.class.loader d.class.name v.class
  records_defined kept = looked_records told y d.class.loader d.class.name v kept shown_defined

-- ---- an initiation

may_initiate : (told : Option Content) (x : Shown) (h : Located) → IsKept told x → LeadsTo told h.config h.asked h.name (Some h.definer) → MayJoin x h → LacksRecord x h.asked h.name → (Refused (state_of x) (asked_record h) → ⊥)
    → (content : Content) → told ≡ Some content → May (setting_of x.config x.script content) (state_of x) (Initiate h.name h.definer h.asked)
may_initiate told x h k leads may fresh free content e =
    joined_is_allowed content x h (subst (λ (t : Option Content). IsKept t x) e k) (subst (λ (t : Option Content). LeadsTo t h.config h.asked h.name (Some h.definer)) e leads) may fresh free

abbrev pub event_by : Located → Event
event_by h = events.Initiate (class h.name h.definer) h.asked

state_initiate : (x : Shown) (h : Located) → state_of (with_initiate x h) ≡ after (state_of x) (Initiate h.name h.definer h.asked)
state_initiate x h = state_event x x.rows (event_by h)

pub kept_by_initiate : (told : Option Content) (x : Shown) (h : Located) → IsKept told x → LeadsTo told h.config h.asked h.name (Some h.definer) → h.definer < length h.config.loaders → MayJoin x h → LacksRecord x h.asked h.name
    → (Refused (state_of x) (asked_record h) → ⊥) → IsKept told (with_initiate x h)
kept_by_initiate told x h k leads within may fresh free =
    kept_event told x x.rows (event_by h) k
    (record {
      silent = refl;
      allows = (may.defined, may_record (state_of x) h.asked h.definer h.name fresh free);
      may = may_initiate told x h k leads may fresh free;
      names = (subst (λ (c : Configured). h.definer < length c.loaders) may.config within, may.loader);
    })
    (rows_same told x (event_by h) k refl)
    (same_rounds x x.rows (event_by h) k.trusted (ap (λ (s : State). s.round) (state_initiate x h)))
    (none_settled told x (event_by h) k refl)

looked_initiate : (told : Option Content) (x : Shown) (h : Located) (row : Rowed) → IsKept told x → LacksRecord x h.asked h.name → row_of x.rows (class h.name h.definer) ≡ Some row
    → (l : ℕ) (n : List ℕ) → looked_row (with_initiate x h) l n ≡ (if (h.asked == l) && pointwise nat_eq h.name n then Some row else looked_row x l n)
looked_initiate told x h row k fresh is =
    looked_push told x (with_initiate x h) (record { loader = h.asked; name = h.name; place = h.definer }) row k (ap (λ (s : State). s.records) (state_initiate x h)) (λ c s e. e) fresh is

home_found : (told : Option Content) (x : Shown) (h : Located) (row : Rowed) → IsKept told x → MayJoin x h → looked_row x h.definer h.name ≡ Some row → row_of x.rows (class h.name h.definer) ≡ Some row
home_found told x h row k may is = let home = looked_some told x h.definer h.definer h.name k may.defined in home.found ∙ sym home.looked ∙ is

pub kept_initiate : (told : Option Content) (x : Shown) (h : Located) (row : Rowed) (f : Fields) (old new : State → Type 0) (table : ℕ → List ℕ → Option Rowed) (wide : ℕ) (references : Class → ℕ → Option Settled) (prepared : List Class) (used come more : ℕ)
    → IsRegistry told x f old → LeadsTo told h.config h.asked h.name (Some h.definer) → h.definer < length h.config.loaders → MayJoin x h → LacksRecord x h.asked h.name → looked_row x h.definer h.name ≡ Some row
    → BookAdds old new (asked_record h) → IsPut f.table table h.asked h.name row → KeepsOthers x f wide references prepared used come more
    → IsRegistry told (with_initiate x h) (moved f table wide references prepared used more) new
kept_initiate told x h row f old new table wide references prepared used come more k leads within may fresh is adds put others =
    let e = event_by h in
    let added_is = adds (state_of x) k.book in
    registry_event told x x.rows e f old new table wide references prepared used come more k (kept_by_initiate told x h k.kept leads within may fresh added_is.0) (ap (λ (s : State). s.round) (state_initiate x h)) others.width
    (λ l n. put l n ∙ ap (λ (o : Option Rowed). if (h.asked == l) && pointwise nat_eq h.name n then Some row else o) (k.rows l n) ∙ sym (looked_initiate told x h row k.kept fresh (home_found told x h row k.kept may is) l n))
    (subst (λ (s : State). new s) (sym (state_initiate x h)) added_is.1)
    (λ c i. others.references_are c i ∙ k.references c i ∙ sym (settled_same x x.rows e c i refl))
    (others.prepared_are ∙ k.prepared ∙ sym (ap (λ (s : State). s.prepared) (state_initiate x h))) others.room

pub shown_initiate : (x : Shown) (h : Located) (history : List Event) → history ≡ x.history ++ event_by h ∷ [] → record x { history = history } ≡ with_initiate x h
shown_initiate x h history e = ap (λ (hs : List Event). grown x x.rows hs) e

-- the same of fields that a call has made
pub kept_initiated : (told : Option Content) (x : Shown) (h : Located) (row : Rowed) (f : Fields) (old new : State → Type 0) (table : ℕ → List ℕ → Option Rowed) (wide : ℕ) (references : Class → ℕ → Option Settled) (prepared : List Class) (used come more : ℕ) (history : List Event)
    → IsRegistry told x f old → LeadsTo told h.config h.asked h.name (Some h.definer) → h.definer < length h.config.loaders → MayJoin x h → LacksRecord x h.asked h.name → looked_row x h.definer h.name ≡ Some row
    → BookAdds old new (asked_record h) → IsPut f.table table h.asked h.name row → KeepsOthers x f wide references prepared used come more → history ≡ x.history ++ event_by h ∷ []
    → IsRegistry told (record x { history = history }) (moved f table wide references prepared used more) new
kept_initiated told x h row f old new table wide references prepared used come more history k leads within may fresh is adds put others e =
    subst (λ (y : Shown). IsRegistry told y (moved f table wide references prepared used more) new) (sym (shown_initiate x h history e))
    (kept_initiate told x h row f old new table wide references prepared used come more k leads within may fresh is adds put others)

asked_looked : (told : Option Content) (x : Shown) (h : Located) (row : Rowed) → IsKept told x → MayJoin x h → LacksRecord x h.asked h.name → looked_row x h.definer h.name ≡ Some row → looked_row (with_initiate x h) h.asked h.name ≡ Some row
asked_looked told x h row k may fresh is =
    looked_initiate told x h row k fresh (home_found told x h row k may is) h.asked h.name ∙ if_self ((h.asked == h.asked) && pointwise nat_eq h.name h.name) row _ (at_self h.asked h.name)

module _ (told : Option Content) (x y : Shown) (h : Located) (v : Rowed) (k : IsKept told x) (fresh : LacksRecord x h.asked h.name) (by : InitiatedAs x y h v None) where
  pub is_initiated : Initiates x y h v
  is_initiated = subst (λ (o : Option ℕ). InitiatedAs x y h v o) (sym fresh) by

  pub shown_initiated : looked_row y h.asked h.name ≡ Some v
  shown_initiated = ap (λ (z : Shown). looked_row z h.asked h.name) by.2 ∙ asked_looked told x h v k by.0 fresh by.3

  pub records_initiated : IsKept told y → Records (state_of y) h.asked h.name v.class
  records_initiated kept = looked_records told y h.asked h.name v kept shown_initiated

-- ---- refusals

-- a record that a book does not admit is to be blamed
pub blames_record : (x : Shown) (stands : State → Type 0) (b : Bool) (l p : ℕ) (n : List ℕ) (need : Need) → Entry l n p ≡ need → Admits stands (Entry l n p) b → b ≡ false → stands (state_of x) → BlamesNeed x (needs.Entry l n p) need
blames_record x stands true l p n need is admits e at = absurd cc
blames_record x stands false l p n need is admits e at = record { is = is; refused = subst (λ (m : Need). Refused (state_of x) m) is (admits (state_of x) at) }

-- one that it admits is not refused
pub not_refused : (x : Shown) (stands : State → Type 0) (b : Bool) (need other : Need) → need ≡ other → Admits stands need b → b ≡ true → stands (state_of x) → Refused (state_of x) other → ⊥
not_refused x stands true need other is admits e at = λ refused. admits (state_of x) at (subst (λ (m : Need). Refused (state_of x) m) (sym is) refused)
not_refused x stands false need other is admits e at = absurd cc

-- what a call on a book did not take is refused for memory, or blamed
pub add_refused : (x : Shown) (stands : State → Type 0) (need : Need) (fault : RegistryFault) → stands (state_of x) → (Refused (state_of x) need → ⊥) → BlamesIn stands need fault → AddRefusedFor x need fault
add_refused x stands need Memory at free blames = free
add_refused x stands need Stray at free blames = absurd blames
add_refused x stands need (Violates n) at free blames = absurd (free (blames.1 (state_of x) at))
add_refused x stands need AlreadyPosted at free blames = absurd blames
add_refused x stands need NotYet at free blames = absurd blames

record_refused : (x : Shown) (lacks may : Type 0) (need : Need) (fault : RegistryFault) → lacks → may → AddRefusedFor x need fault → RecordRefusedFor x lacks may need fault
record_refused x lacks may need Memory fresh allowed r = λ new. allowed
record_refused x lacks may need Stray fresh allowed r = absurd r
record_refused x lacks may need (Violates n) fresh allowed r = (fresh, allowed, r)
record_refused x lacks may need AlreadyPosted fresh allowed r = r
record_refused x lacks may need NotYet fresh allowed r = r

pub define_refused : (x : Shown) (d : Drafted) (fault : RegistryFault) → IsNew x d → MayEnter x d → AddRefusedFor x (own_record d) fault → DefineRefusedFor x d fault
define_refused x d fault fresh may r = record_refused x (IsNew x d) (MayEnter x d) (own_record d) fault fresh may r

pub initiate_refused : (x : Shown) (h : Located) (fault : RegistryFault) → LacksRecord x h.asked h.name → MayJoin x h → AddRefusedFor x (asked_record h) fault → InitiateRefusedFor x h fault
initiate_refused x h fault fresh may r = record_refused x (LacksRecord x h.asked h.name) (MayJoin x h) (asked_record h) fault fresh may r

-- a row that could not be shared once more is refused for memory
pub share_refused : (x : Shown) (h : Located) (fault : RegistryFault) → MayJoin x h → (Refused (state_of x) (asked_record h) → ⊥) → MemoryOrStray (MayJoin x h) fault → AddRefusedFor x (asked_record h) fault
share_refused x h Memory may free r = free
share_refused x h Stray may free r = absurd (r may)
share_refused x h (Violates n) may free r = absurd r
share_refused x h AlreadyPosted may free r = r
share_refused x h NotYet may free r = r

-- the record of a draft's class, by its home
pub own_entry : (told : Option Content) (d : Drafted) → IsDraft told d → (name : List ℕ) (place : ℕ) → name ≡ d.class.name → place ≡ d.home.definer → Entry place name place ≡ own_record d
own_entry told d draft name place named is =
    let at : place ≡ d.class.loader = is ∙ ap (λ (c : Class). c.loader) (sym draft.placed) in
    ap (λ (n : List ℕ). Entry place n place) named ∙ ap (λ (p : ℕ). Entry p d.class.name p) at

-- the record of a home, by its parts
pub asked_entry : (h : Located) (asked place : ℕ) (name : List ℕ) → asked ≡ h.asked → place ≡ h.definer → name ≡ h.name → Entry asked name place ≡ asked_record h
asked_entry h asked place name a p n = ap (λ (l : ℕ). Entry l name place) a ∙ ap (λ (m : List ℕ). Entry h.asked m place) n ∙ ap (λ (q : ℕ). Entry h.asked h.name q) p

-- a record that is blamed, told in other parts
pub blamed_as : (x : Shown) (need other : Need) (n m : List ℕ) (l k p q : ℕ) → l ≡ k → p ≡ q → n ≡ m → BlamesNeed x (needs.Entry l n p) need → need ≡ other → BlamesNeed x (needs.Entry k m q) other
blamed_as x need other n m l k p q a b c blames is = record {
  is = ap (λ (j : ℕ). Entry j m q) (sym a) ∙ ap (λ (o : List ℕ). Entry l o q) (sym c) ∙ ap (λ (i : ℕ). Entry l n i) (sym b) ∙ blames.is ∙ is;
  refused = subst (λ (o : Need). Refused (state_of x) o) is blames.refused;
}
