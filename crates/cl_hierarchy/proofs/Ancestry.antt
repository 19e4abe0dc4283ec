-- The tree of rows, each of which stands after its direct supertypes: what later rows leave of it, and whose kin a row's is.
use Rattle.std.proofs.Common.{◌≡◌, ◌∙◌, Bool, true, false, if◌then◌else◌, List, [], ◌∷◌, ◌++◌, Option, Some, None, is_some, refl, sym, ap, subst}
use Rattle.cl_classfile.specs.Files.{file_of}
use Rattle.cl_model.specs.declared.class.Class.{Class}
use Rattle.cl_model.specs.Classes.{same_class}
use Rattle.cl_model.specs.Lineages.{Forest, Kin}
use Rattle.cl_model.proofs.Ancestors.{same_self}
use Rattle.cl_model.proofs.Complete.{is_class}
use Rattle.cl_hierarchy.specs.Rows.{Rowed}
use Rattle.cl_hierarchy.specs.Trees.{AllKnown, SupersBefore, forest, in_front, interfaces_in, kin_named, kin_under, kins_after, superclass_in}
use Rattle.cl_hierarchy.specs.Lineages.{row_of}
use Rattle.std.proofs.lemmas.Bool.Decides.{same_from_decides}
use Rattle.std.proofs.lemmas.Option.{same_Some}

pub kins_push : (known : List Kin) (rows : List Rowed) (r : Rowed) → kins_after known (rows ++ r ∷ []) ≡ kin_under (kins_after known rows) r ∷ kins_after known rows
kins_push known [] r = refl
kins_push known (x ∷ rows) r = kins_push (kin_under known x ∷ known) rows r

pub named_first : (known : List Kin) (r : Rowed) (c : Class) → same_class c r.class ≡ true → kin_named (kin_under known r ∷ known) c ≡ Some (kin_under known r)
named_first known r c e = rw e refl

pub named_later : (known : List Kin) (r : Rowed) (c : Class) → same_class c r.class ≡ false → kin_named (kin_under known r ∷ known) c ≡ kin_named known c
named_later known r c e = rw e refl

pub same_back : (c d : Class) → c ≡ d → same_class d c ≡ true
same_back c d e = subst (λ (x : Class). same_class x c ≡ true) e (same_self c)

pub same_turned : (c d : Class) → same_class c d ≡ same_class d c
same_turned c d = same_from_decides (same_class c d) (same_class d c) (is_class c d, λ e. same_back d c (sym e)) (λ e. sym (is_class d c e), same_back c d)

pub keeps : (known : List Kin) (r : Rowed) (c : Class) (k : Kin) → kin_named known r.class ≡ None → kin_named known c ≡ Some k → kin_named (kin_under known r ∷ known) c ≡ Some k
keeps known r c k is_new e = at (same_class c r.class) refl
  where
    at : (b : Bool) → same_class c r.class ≡ b → (if b then Some (kin_under known r) else kin_named known c) ≡ Some k
    at true s = absurd (let gone : kin_named known c ≡ None = subst (λ (x : Class). kin_named known x ≡ None) (sym (is_class c r.class s)) is_new in cc)
    at false s = e

-- ---- later rows leave what stands

pub stays : (known : List Kin) (rs : List Rowed) (c : Class) (k : Kin) → SupersBefore known rs → kin_named known c ≡ Some k → kin_named (kins_after known rs) c ≡ Some k
stays known [] c k h e = e
stays known (r ∷ rs) c k h e = stays (kin_under known r ∷ known) rs c k h.1 (keeps known r c k h.0.is_new e)

pub all_stay : (known : List Kin) (rs : List Rowed) (cs : List Class) → SupersBefore known rs → AllKnown known cs → AllKnown (kins_after known rs) cs
all_stay known rs [] h all = tt
all_stay known rs (c ∷ cs) h all = (at (kin_named known c) refl all.0, all_stay known rs cs h all.1)
  where
    at : (o : Option Kin) → kin_named known c ≡ o → is_some o ≡ true → is_some (kin_named (kins_after known rs) c) ≡ true
    at None e s = absurd cc
    at (Some k) e s = ap (λ (o : Option Kin). is_some o) (stays known rs c k h e)

pub forest_stays : (known : List Kin) (rs : List Rowed) (cs : List Class) → SupersBefore known rs → AllKnown known cs → forest (kins_after known rs) cs ≡ forest known cs
forest_stays known rs [] h all = refl
forest_stays known rs (c ∷ cs) h all = at (forest_stays known rs cs h all.1) (kin_named known c) refl all.0
  where
    at : forest (kins_after known rs) cs ≡ forest known cs → (o : Option Kin) → kin_named known c ≡ o → is_some o ≡ true
        → in_front (kin_named (kins_after known rs) c) (forest (kins_after known rs) cs) ≡ in_front (kin_named known c) (forest known cs)
    at more None e s = absurd cc
    at more (Some k) e s =
        ap (λ (o : Option Kin). in_front o (forest (kins_after known rs) cs)) (stays known rs c k h e ∙ sym e)
        ∙ ap (λ (f : Forest). in_front (kin_named known c) f) more

pub kin_stays : (known : List Kin) (rs : List Rowed) (r : Rowed) → SupersBefore known rs → AllKnown known (superclass_in r) → AllKnown known (interfaces_in r) → kin_under (kins_after known rs) r ≡ kin_under known r
kin_stays known rs r h up over =
    let made : Forest → Forest → Kin = λ sup ints. record { class = r.class; file = file_of r.file; superclass = sup; interfaces = ints } in
    ap (λ (f : Forest). made f (forest (kins_after known rs) (interfaces_in r))) (forest_stays known rs (superclass_in r) h up)
    ∙ ap (λ (f : Forest). made (forest known (superclass_in r)) f) (forest_stays known rs (interfaces_in r) h over)

-- ---- the kin of a row

-- the kin of this class is that of this row
pub record IsRowKin (known : List Kin) (c : Class) (row : Rowed) : Type 0 where
  pub same : row.class ≡ c
  pub kin : kin_named known c ≡ Some (kin_under known row)
  pub superclass : AllKnown known (superclass_in row)
  pub interfaces : AllKnown known (interfaces_in row)

pub row_kin : (known : List Kin) (rs : List Rowed) (c : Class) (row : Rowed) → SupersBefore known rs → row_of rs c ≡ Some row → IsRowKin (kins_after known rs) c row
row_kin known [] c row h e = absurd cc
row_kin known (r ∷ rs) c row h e = at (λ f. row_kin (kin_under known r ∷ known) rs c row h.1 f) (same_class r.class c) refl e
  where
    final : List Kin
    final = kins_after (kin_under known r ∷ known) rs

    at : (row_of rs c ≡ Some row → IsRowKin final c row) → (b : Bool) → same_class r.class c ≡ b → (if b then Some r else row_of rs c) ≡ Some row → IsRowKin final c row
    at further true s f =
        subst (λ (x : Rowed). IsRowKin final c x) (same_Some r row f) (
        record {
          same = is_class r.class c s;
          kin =
              stays (kin_under known r ∷ known) rs c (kin_under known r) h.1 (named_first known r c (same_back r.class c (is_class r.class c s)))
              ∙ ap (λ (k : Kin). Some k) (sym (kin_stays known (r ∷ rs) r h h.0.superclass h.0.interfaces));
          superclass = all_stay known (r ∷ rs) (superclass_in r) h h.0.superclass;
          interfaces = all_stay known (r ∷ rs) (interfaces_in r) h h.0.interfaces;
        }
        )
    at further false s f = further f

pub no_row : (known : List Kin) (rs : List Rowed) (c : Class) → kin_named known c ≡ None → row_of rs c ≡ None → kin_named (kins_after known rs) c ≡ None
no_row known [] c none e = none
no_row known (r ∷ rs) c none e = at (λ k f. no_row (kin_under known r ∷ known) rs c k f) (same_class r.class c) refl e
  where
    apart : (b : Bool) → same_class c r.class ≡ b → same_class r.class c ≡ false → same_class c r.class ≡ false
    apart true s f = absurd (let back : same_class r.class c ≡ true = same_back c r.class (is_class c r.class s) in cc)
    apart false s f = s

    at : (kin_named (kin_under known r ∷ known) c ≡ None → row_of rs c ≡ None → kin_named (kins_after (kin_under known r ∷ known) rs) c ≡ None)
        → (b : Bool) → same_class r.class c ≡ b → (if b then Some r else row_of rs c) ≡ None → kin_named (kins_after (kin_under known r ∷ known) rs) c ≡ None
    at further true s f = absurd cc
    at further false s f = further (named_later known r c (apart (same_class c r.class) refl s) ∙ none) f
