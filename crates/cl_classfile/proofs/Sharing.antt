-- The short texts of a pool, one behind the other, and where each stands.
use Rattle.std.proofs.Common.{◌≡◌, ℕ, zero, suc, ◌+◌, ◌≤◌, ◌<◌, List, [], ◌∷◌, ◌++◌, length, take, drop, get_or, refl, sym, ap, ◌∙◌, append_assoc, arith}
use Rattle.std.proofs.lemmas.List.{map_more, drop-drop, length-drop, length-append, append-nil}
use Rattle.cl_classfile.specs.declared.entry.Entry.{Entry}
use Rattle.cl_classfile.specs.declared.raw.RawEntry.{RawEntry}
use Rattle.cl_classfile.specs.Raw.{plain_entry, plain_entries, shared_in, all_shared_in, IsPart}
use Rattle.cl_classfile.proofs.Entries.{split}

-- the text of the entry at i, if it is short, and those behind it
next : (raws : List RawEntry) (i : ℕ) (d : RawEntry) → i < length raws → all_shared_in (drop i (plain_entries raws)) ≡ shared_in (plain_entry (get_or raws i d)) ++ all_shared_in (drop (i + 1) (plain_entries raws))
next raws i d lt = ap all_shared_in (split raws i d lt)

-- the short texts from i on are still to be put behind these bytes
abbrev pub AreBefore : List ℕ → List RawEntry → ℕ → Type 0
AreBefore bytes raws i = bytes ++ all_shared_in (drop i (plain_entries raws)) ≡ all_shared_in (plain_entries raws)

pub one_behind : (bytes more : List ℕ) (raws : List RawEntry) (i : ℕ) (d : RawEntry) → i < length raws → more ≡ bytes ++ shared_in (plain_entry (get_or raws i d)) → AreBefore bytes raws i → AreBefore more raws (i + 1)
one_behind bytes more raws i d lt e so_far =
    let text = shared_in (plain_entry (get_or raws i d)) in
    let rest = all_shared_in (drop (i + 1) (plain_entries raws)) in
    ap (λ (b : List ℕ). b ++ rest) e ∙ append_assoc bytes text rest ∙ ap (λ (b : List ℕ). bytes ++ b) (sym (next raws i d lt)) ∙ so_far

pub all_behind : (bytes : List ℕ) (raws : List RawEntry) (i : ℕ) → length raws ≤ i → AreBefore bytes raws i → bytes ≡ all_shared_in (plain_entries raws)
all_behind bytes raws i le so_far = sym (append-nil bytes) ∙ ap (λ (es : List Entry). bytes ++ all_shared_in es) (sym (none_left raws i le)) ∙ so_far
  where
    none_left : (raws : List RawEntry) (i : ℕ) → length raws ≤ i → drop i (plain_entries raws) ≡ []
    none_left [] zero le = refl
    none_left [] (suc i) le = refl
    none_left (r ∷ raws) zero le = absurd (omega (arith, le))
    none_left (r ∷ raws) (suc i) le = none_left raws i (omega (arith, le))

-- the short texts from i on stand from a place on
pub record AreFrom (start : ℕ) (bytes : List ℕ) (raws : List RawEntry) (i : ℕ) : Type 0 where
  pub within : start ≤ length bytes
  pub are : drop start bytes ≡ all_shared_in (drop i (plain_entries raws))

front : (text rest : List ℕ) → take (length text) (text ++ rest) ≡ text
front [] rest = refl
front (b ∷ text) rest = ap (λ (t : List ℕ). b ∷ t) (front text rest)

behind : (text rest : List ℕ) → drop (length text) (text ++ rest) ≡ rest
behind [] rest = refl
behind (b ∷ text) rest = behind text rest

pub first_there : (start : ℕ) (bytes : List ℕ) (raws : List RawEntry) (i : ℕ) (d : RawEntry) → i < length raws → AreFrom start bytes raws i → IsPart (shared_in (plain_entry (get_or raws i d))) start bytes
first_there start bytes raws i d lt a =
    let text = shared_in (plain_entry (get_or raws i d)) in
    let rest = all_shared_in (drop (i + 1) (plain_entries raws)) in
    let here : drop start bytes ≡ text ++ rest = a.are ∙ next raws i d lt in
    let long : length (drop start bytes) ≡ length text + length rest = ap length here ∙ length-append text rest in
    record {
      within = omega (arith, a.within, length-drop start bytes, long);
      is = ap (take (length text)) here ∙ front text rest;
    }

pub goes_on : (start : ℕ) (bytes : List ℕ) (raws : List RawEntry) (i : ℕ) (d : RawEntry) → i < length raws → AreFrom start bytes raws i → AreFrom (start + length (shared_in (plain_entry (get_or raws i d)))) bytes raws (i + 1)
goes_on start bytes raws i d lt a =
    let text = shared_in (plain_entry (get_or raws i d)) in
    let rest = all_shared_in (drop (i + 1) (plain_entries raws)) in
    let here : drop start bytes ≡ text ++ rest = a.are ∙ next raws i d lt in
    record {
      within = (first_there start bytes raws i d lt a).within;
      are = sym (drop-drop (length text) start bytes) ∙ ap (drop (length text)) here ∙ behind text rest;
    }

-- the entries so far, with one more
pub one_made : (made more : List Entry) (raws : List RawEntry) (i : ℕ) (d : RawEntry) (e : Entry) → i < length raws → more ≡ made ++ e ∷ [] → e ≡ plain_entry (get_or raws i d) → made ≡ plain_entries (take i raws) → more ≡ plain_entries (take (i + 1) raws)
one_made made more raws i d e lt is its so_far =
    is ∙ ap (λ (es : List Entry). es ++ e ∷ []) so_far ∙ ap (λ (x : Entry). plain_entries (take i raws) ++ x ∷ []) its ∙ sym (map_more plain_entry raws i d lt)
