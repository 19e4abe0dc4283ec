-- Rows in the order in which their classes were defined stand each after its direct supertypes, and make lineages.
use Rattle.std.proofs.Common.{◌≡◌, ◌∙◌, ℕ, Bool, true, false, if◌then◌else◌, List, [], ◌∷◌, ◌++◌, Option, Some, drop, is_some, length, append_assoc, refl, sym, ap, subst}
use Rattle.std.specs.List.{AllByRecursion}
use Rattle.cl_classfile.specs.Files.{file_of}
use Rattle.cl_model.specs.declared.class.Class.{Class}
use Rattle.cl_model.specs.Content.{Content}
use Rattle.cl_model.specs.Classes.{class, Above, same_class, superclass_of, superinterfaces_of}
use Rattle.cl_model.specs.Lineages.{Forest, IsLineage, Kin, StandsFor}
use Rattle.cl_config.specs.Views.{Configured}
use Rattle.cl_delegation.specs.Worlds.{world_of}
use Rattle.cl_hierarchy.specs.Frames.{accepted_of}
use Rattle.cl_hierarchy.specs.Rows.{Rowed}
use Rattle.cl_hierarchy.specs.Trees.{AllKnown, MayComeAfter, SupersBefore, forest, in_front, kin_named, kin_under, kins, kins_after}
use Rattle.cl_hierarchy.specs.RowTables.{AreRows, AreRowsAfter, IsRowAfter, StandAbove, StandsAbove}
use Rattle.cl_hierarchy.proofs.Ancestry.{kins_push, no_row, row_kin}
use Rattle.std.proofs.lemmas.Option.{same_Some}

-- ---- one row more

grow : (told : Option Content) (config : Configured) (earlier rows : List Rowed) (r : Rowed) → AreRowsAfter told config earlier rows → IsRowAfter told config (earlier ++ rows) r → AreRowsAfter told config earlier (rows ++ r ∷ [])
grow told config earlier [] r h a = (subst (λ (rs : List Rowed). IsRowAfter told config rs r) (none earlier) a, tt)
  where
    none : (rs : List Rowed) → rs ++ [] ≡ rs
    none [] = refl
    none (x ∷ rs) = ap (λ ys. x ∷ ys) (none rs)
grow told config earlier (x ∷ rows) r h a =
    (h.0, grow told config (earlier ++ x ∷ []) rows r h.1 (subst (λ (rs : List Rowed). IsRowAfter told config rs r) (sym (append_assoc earlier (x ∷ []) rows)) a))

-- rows in the order of definition, and the next
pub rows_grow : (told : Option Content) (config : Configured) (rows : List Rowed) (r : Rowed) → AreRows told config rows → IsRowAfter told config rows r → AreRows told config (rows ++ r ∷ [])
rows_grow told config rows r h a = grow told config [] rows r h a

-- ---- the supertypes of a row are known

module _ (told : Option Content) (config : Configured) (earlier : List Rowed) (ordered : SupersBefore [] earlier) (c : Class) where
  known_at : (a : Above) (definer : ℕ) → StandsAbove told config earlier c a definer → is_some (kin_named (kins earlier) (class a.name definer)) ≡ true
  known_at a definer h = ap (λ (o : Option Kin). is_some o) (row_kin [] earlier (class a.name definer) h.row ordered h.stands).kin

  pub known_all : (others : List Above) (definers : List ℕ) → StandAbove told config earlier c others definers → AllKnown (kins earlier) (accepted_of others definers)
  known_all [] definers h = tt
  known_all (a ∷ others) [] h = absurd h
  known_all (a ∷ others) (definer ∷ definers) h = (known_at a definer h.0, known_all others definers h.1)

  pub known_split : (xs ys : List Above) (definers : List ℕ) → StandAbove told config earlier c (xs ++ ys) definers → AllKnown (kins earlier) (accepted_of xs definers) × StandAbove told config earlier c ys (drop (length xs) definers)
  known_split [] ys definers h = (tt, h)
  known_split (a ∷ xs) ys [] h = absurd h
  known_split (a ∷ xs) ys (definer ∷ definers) h = let parts = known_split xs ys definers h.1 in ((known_at a definer h.0, parts.0), parts.1)

stands_after : (told : Option Content) (config : Configured) (earlier : List Rowed) (r : Rowed) → SupersBefore [] earlier → IsRowAfter told config earlier r → MayComeAfter (kins earlier) r
stands_after told config earlier r ordered h =
    let f = file_of r.file in
    let parts = known_split told config earlier ordered r.class (superclass_of f) (superinterfaces_of f) r.definers h.above in
    record {
      is_new = no_row [] earlier r.class refl h.is_new;
      superclass = parts.0;
      interfaces = known_all told config earlier ordered r.class (superinterfaces_of f) (drop (length (superclass_of f)) r.definers) parts.1;
    }

pub before_push : (known : List Kin) (rows : List Rowed) (r : Rowed) → SupersBefore known rows → MayComeAfter (kins_after known rows) r → SupersBefore known (rows ++ r ∷ [])
before_push known [] r h a = (a, tt)
before_push known (x ∷ rows) r h a = (h.0, before_push (kin_under known x ∷ known) rows r h.1 a)

rows_before : (told : Option Content) (config : Configured) (earlier rows : List Rowed) → SupersBefore [] earlier → AreRowsAfter told config earlier rows → SupersBefore (kins earlier) rows
rows_before told config earlier [] ordered h = tt
rows_before told config earlier (r ∷ rows) ordered h =
    let a = stands_after told config earlier r ordered h.0 in (
      a,
      subst (λ (ks : List Kin). SupersBefore ks rows) (kins_push [] earlier r) (rows_before told config (earlier ++ r ∷ []) rows (before_push [] earlier r ordered a) h.1),
    )

pub supers_before : (told : Option Content) (config : Configured) (rows : List Rowed) → AreRows told config rows → SupersBefore [] rows
supers_before told config rows h = rows_before told config [] rows tt h

-- ---- where a content is told, each kin is its class's lineage

abbrev AllLineages : Configured → Content → List Kin → Type 0
AllLineages config content known = AllByRecursion (λ (k : Kin). IsLineage (world_of config content) k) known

pub lineage_found : (config : Configured) (content : Content) (known : List Kin) (c : Class) (k : Kin) → kin_named known c ≡ Some k → AllLineages config content known → IsLineage (world_of config content) k
lineage_found config content [] c k e all = absurd cc
lineage_found config content (x ∷ known) c k e all = at (λ f. lineage_found config content known c k f all.1) (same_class c x.class) e
  where
    at : (kin_named known c ≡ Some k → IsLineage (world_of config content) k) → (b : Bool) → (if b then Some x else kin_named known c) ≡ Some k → IsLineage (world_of config content) k
    at further true f = subst (λ (y : Kin). IsLineage (world_of config content) y) (same_Some x k f) all.0
    at further false f = further f

module _ (config : Configured) (content : Content) (earlier : List Rowed) (ordered : SupersBefore [] earlier) (all : AllLineages config content (kins earlier)) (c : Class) where
  above_at : (a : Above) (definer : ℕ) (others : List Above) (rest : Forest) → StandsAbove (Some content) config earlier c a definer → StandsFor (world_of config content) c rest others
      → StandsFor (world_of config content) c (in_front (kin_named (kins earlier) (class a.name definer)) rest) (a ∷ others)
  above_at a definer others rest h more =
      let at = row_kin [] earlier (class a.name definer) h.row ordered h.stands in
      let k : Kin = kin_under (kins earlier) h.row in
      let line = lineage_found config content (kins earlier) (class a.name definer) k at.kin all in
      subst (λ (o : Option Kin). StandsFor (world_of config content) c (in_front o rest) (a ∷ others)) (sym at.kin) (
        record {
          named = ap (λ (x : Class). x.name) at.same;
          found = h.found ∙ ap (λ (n : ℕ). Some n) (sym (ap (λ (x : Class). x.loader) at.same));
          has_file = line.has_file;
          fits = h.fits;
        },
        line.above,
        line.over,
        more,
      )

  pub above_all : (others : List Above) (definers : List ℕ) → StandAbove (Some content) config earlier c others definers → StandsFor (world_of config content) c (forest (kins earlier) (accepted_of others definers)) others
  above_all [] definers h = tt
  above_all (a ∷ others) [] h = absurd h
  above_all (a ∷ others) (definer ∷ definers) h = above_at a definer others (forest (kins earlier) (accepted_of others definers)) h.0 (above_all others definers h.1)

  pub above_split : (xs ys : List Above) (definers : List ℕ) → StandAbove (Some content) config earlier c (xs ++ ys) definers
      → StandsFor (world_of config content) c (forest (kins earlier) (accepted_of xs definers)) xs × StandAbove (Some content) config earlier c ys (drop (length xs) definers)
  above_split [] ys definers h = (tt, h)
  above_split (a ∷ xs) ys [] h = absurd h
  above_split (a ∷ xs) ys (definer ∷ definers) h =
      let parts = above_split xs ys definers h.1 in (above_at a definer xs (forest (kins earlier) (accepted_of xs definers)) h.0 parts.0, parts.1)

row_lineage : (config : Configured) (content : Content) (earlier : List Rowed) (r : Rowed) → SupersBefore [] earlier → AllLineages config content (kins earlier) → IsRowAfter (Some content) config earlier r → IsLineage (world_of config content) (kin_under (kins earlier) r)
row_lineage config content earlier r ordered all h =
    let f = file_of r.file in
    let parts = above_split config content earlier ordered all r.class (superclass_of f) (superinterfaces_of f) r.definers h.above in
    record {
      has_file = h.has_file;
      above = parts.0;
      over = above_all config content earlier ordered all r.class (superinterfaces_of f) (drop (length (superclass_of f)) r.definers) parts.1;
    }

rows_lineages : (config : Configured) (content : Content) (earlier rows : List Rowed) → SupersBefore [] earlier → AllLineages config content (kins earlier) → AreRowsAfter (Some content) config earlier rows → AllLineages config content (kins_after (kins earlier) rows)
rows_lineages config content earlier [] ordered all h = all
rows_lineages config content earlier (r ∷ rows) ordered all h =
    let a = stands_after (Some content) config earlier r ordered h.0 in
    let push = kins_push [] earlier r in
    subst (λ (ks : List Kin). AllLineages config content (kins_after ks rows)) push (
    rows_lineages config content (earlier ++ r ∷ []) rows (before_push [] earlier r ordered a)
    (subst (λ (ks : List Kin). AllLineages config content ks) (sym push) (row_lineage config content earlier r ordered all h.0, all)) h.1
    )

pub all_lineages : (config : Configured) (content : Content) (rows : List Rowed) → AreRows (Some content) config rows → AllLineages config content (kins rows)
all_lineages config content rows h = rows_lineages config content [] rows tt tt h

pub made : (config : Configured) (content : Content) (rows : List Rowed) (c : Class) (k : Kin) → AreRows (Some content) config rows → kin_named (kins rows) c ≡ Some k → IsLineage (world_of config content) k
made config content rows c k h e = lineage_found config content (kins rows) c k e (all_lineages config content rows h)
