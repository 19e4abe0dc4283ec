-- The entry that a request resolves, and what it is settled to.
use Rattle.std.proofs.Common.{◌≡◌, ◌∙◌, ℕ, Option, Some, None, refl, sym, ap, subst}
use Rattle.std.specs.Prelude.{MatchOption, option_and_then, option_map}
use Rattle.cl_model.specs.declared.class.Class.{Class}
use Rattle.cl_model.specs.declared.request.Request.{Request}
use Rattle.cl_model.specs.declared.request.Request.TheVariants as requests
use Rattle.cl_model.specs.declared.settled.Settled.{Settled}
use Rattle.cl_model.specs.Classes.{class}
use Rattle.cl_model.specs.States.{recorded_definer}
use Rattle.cl_model.specs.Tables.{Records}
use Rattle.cl_hierarchy.specs.Rows.{Rowed}
use Rattle.cl_registry.specs.Tables.{Shown, state_of, records_of, LacksRecord, settled_at}
use Rattle.cl_registry.specs.References.{Cited, cited_by, settled_by, IsSettledIn, IsUnsettled}
use Rattle.cl_registry.proofs.Settled.{settled_is_told, unsettled_is_told}

-- a request resolves an entry, of a class that its loader has recorded
pub record IsCitedBy (x : Shown) (r : Request) (e : Cited) : Type 0 where
  pub loader : ℕ
  pub request : r ≡ requests.Resolve loader e.class.name e.index
  pub recorded : recorded_definer (records_of x) loader e.class.name ≡ Some e.class.loader

pub cited_is : (x : Shown) (r : Request) (e : Cited) → cited_by x r ≡ Some e → IsCitedBy x r e
cited_is x (requests.Load l n) e h = absurd cc
cited_is x (requests.Link l n) e h = absurd cc
cited_is x (requests.Resolve l n i) e h = at (recorded_definer (records_of x) l n) refl h
  where
    at : (o : Option ℕ) → recorded_definer (records_of x) l n ≡ o → option_map (λ p. record { class = class n p; index = i }) o ≡ Some e → IsCitedBy x (requests.Resolve l n i) e
    at None k m = absurd cc
    at (Some p) k m =
        let same : record { class = class n p; index = i } ≡ e = cc in
        subst (λ (d : Cited). IsCitedBy x (requests.Resolve l n i) d) same (record { loader = l; request = refl; recorded = k })

-- the class of a row that the loader has recorded is cited
pub cited_found : (x : Shown) (l i : ℕ) (r : Rowed) (c : Class) (n : _) → Records (state_of x) l n r.class → c ≡ r.class → Some (record { class = c; index = i }) ≡ cited_by x (requests.Resolve l n i)
cited_found x l i r c n rec is =
    let named : class n r.class.loader ≡ c = ap (λ m. class m r.class.loader) (sym rec.0) ∙ sym is in
    sym (ap (λ (o : Option ℕ). option_map (λ p. record { class = class n p; index = i }) o) rec.1 ∙ ap (λ (d : Class). Some (record { class = d; index = i })) named)

pub cited_lacks : (x : Shown) (l i : ℕ) (n : _) → LacksRecord x l n → None ≡ cited_by x (requests.Resolve l n i)
cited_lacks x l i n lacks = sym (ap (λ (o : Option ℕ). option_map (λ p. record { class = class n p; index = i }) o) lacks)

-- what the entry that is cited is settled to
pub settled_cited : (x : Shown) (r : Request) (e : Cited) → cited_by x r ≡ Some e → settled_by x r ≡ settled_at x e.class e.index
settled_cited x r e h = ap (λ (o : Option Cited). option_and_then (λ (d : Cited). settled_at x d.class d.index) o) h

-- what a request's entry is settled to is so in the tables
pub settled_by_in : (x : Shown) (r : Request) (s : Settled) → settled_by x r ≡ Some s → IsSettledIn x s.class s.index s
settled_by_in x r s h = at (cited_by x r) h
  where
    at : (o : Option Cited) → option_and_then (λ (d : Cited). settled_at x d.class d.index) o ≡ Some s → IsSettledIn x s.class s.index s
    at None k = absurd cc
    at (Some e) k =
        let is = settled_is_told x e.class e.index s k in
        let moved : settled_at x s.class s.index ≡ Some s = ap (λ (c : Class). settled_at x c s.index) is.class ∙ ap (settled_at x e.class) is.index ∙ k in
        settled_is_told x s.class s.index s moved

-- a request whose entry is settled resolves it
pub settled_cited_by : (x : Shown) (r : Request) (s : Settled) → settled_by x r ≡ Some s → IsCitedBy x r (record { class = s.class; index = s.index })
settled_cited_by x r s h = at (cited_by x r) refl h
  where
    at : (o : Option Cited) → cited_by x r ≡ o → option_and_then (λ (d : Cited). settled_at x d.class d.index) o ≡ Some s → IsCitedBy x r (record { class = s.class; index = s.index })
    at None e k = absurd cc
    at (Some d) e k =
        let is = settled_is_told x d.class d.index s k in
        let same : d ≡ record { class = s.class; index = s.index } = ap (λ (c : Class). record { class = c; index = d.index }) (sym is.class) ∙ ap (λ (i : ℕ). record { class = s.class; index = i }) (sym is.index) in
        subst (λ (e : Cited). IsCitedBy x r e) same (cited_is x r d e)

-- what was found, or not, is what is settled
pub found_or_not : {Q : Type 0} (now : Q → Settled) (x : Shown) (c : Class) (i : ℕ) (o : Option Q) → option_map now o ≡ settled_at x c i → MatchOption o (IsUnsettled x c i) (λ q. IsSettledIn x c i (now q))
found_or_not now x c i None e = unsettled_is_told x c i (sym e)
found_or_not now x c i (Some q) e = settled_is_told x c i (now q) (sym e)

map_map : {A B C : Type 0} (f : A → B) (g : B → C) (o : Option A) → option_map (λ a. g (f a)) o ≡ option_map g (option_map f o)
map_map f g None = refl
map_map f g (Some a) = refl

-- what was found in a table of handles, by what they share
pub entry_is : {Q R V : Type 0} (now : Q → R) (value : R → V) (o : Option Q) (at : Option R) (e : Option V) → option_map now o ≡ at → option_map value at ≡ e → option_map (λ q. value (now q)) o ≡ e
entry_is now value o at e found is = map_map now value o ∙ ap (option_map value) found ∙ is
