-- Looking at where the entries of the pool stand, one after the other.
use Rattle.std.proofs.Common.{◌≡◌, ℕ, ◌+◌, ◌≤◌, ◌<◌, Bool, true, false, cond, List, [], ◌∷◌, length, drop, get_or, Ok, Err, refl, sym, ap, ◌∙◌, arith}
use Rattle.std.proofs.lemmas.List.{length-drop, length-map, nil_from_length}
use Rattle.cl_classfile.specs.declared.entry.Entry.{Entry}
use Rattle.cl_classfile.specs.declared.fault.Fault.TheVariants.{BadPool}
use Rattle.cl_classfile.specs.declared.raw.RawEntry.{RawEntry}
use Rattle.cl_classfile.specs.Raw.{plain_entry, plain_entries}
use Rattle.cl_classfile.specs.Pool.{is_wide}
use Rattle.cl_classfile.specs.Checking.{fits_slot, checked_slots}
use Rattle.cl_classfile.proofs.Entries.{split}

-- the entries from i on are still to be looked at
abbrev pub AreSeen : List Entry → ℕ → Bool → Type 0
AreSeen pool i taken = checked_slots i taken (drop i pool) ≡ checked_slots 0 false pool

next : (i : ℕ) (taken : Bool) (e : Entry) (es : List Entry) → checked_slots i taken (e ∷ es) ≡ cond (fits_slot taken e) (checked_slots (i + 1) (is_wide e) es) (Err (BadPool (i + 1)))
unfolding checked_slots
next i true e es = refl
next i false e es = refl

here : (raws : List RawEntry) (i : ℕ) (taken : Bool) (d : RawEntry) → i < length raws
    → checked_slots i taken (drop i (plain_entries raws)) ≡ cond (fits_slot taken (plain_entry (get_or raws i d))) (checked_slots (i + 1) (is_wide (plain_entry (get_or raws i d))) (drop (i + 1) (plain_entries raws))) (Err (BadPool (i + 1)))
here raws i taken d lt = ap (checked_slots i taken) (split raws i d lt) ∙ next i taken (plain_entry (get_or raws i d)) (drop (i + 1) (plain_entries raws))

pub goes_on : (raws : List RawEntry) (i : ℕ) (taken b wide : Bool) (d : RawEntry) → i < length raws → b ≡ fits_slot taken (plain_entry (get_or raws i d)) → b ≡ true → wide ≡ is_wide (plain_entry (get_or raws i d))
    → AreSeen (plain_entries raws) i taken → AreSeen (plain_entries raws) (i + 1) wide
goes_on raws i taken b wide d lt h fits w so_far = rw w (sym (here raws i taken d lt ∙ rw (sym h ∙ fits) refl) ∙ so_far)

pub ends : (raws : List RawEntry) (i : ℕ) (taken b : Bool) (d : RawEntry) → i < length raws → b ≡ fits_slot taken (plain_entry (get_or raws i d)) → b ≡ false
    → AreSeen (plain_entries raws) i taken → checked_slots 0 false (plain_entries raws) ≡ Err (BadPool (i + 1))
ends raws i taken b d lt h bad so_far = sym so_far ∙ here raws i taken d lt ∙ rw (sym h ∙ bad) refl

none : (raws : List RawEntry) (i : ℕ) → length raws ≤ i → drop i (plain_entries raws) ≡ []
none raws i le = nil_from_length _ (omega (arith, length-drop i (plain_entries raws), length-map raws plain_entry))

pub is_done : (raws : List RawEntry) (i : ℕ) (taken : Bool) → length raws ≤ i → taken ≡ false → AreSeen (plain_entries raws) i taken → checked_slots 0 false (plain_entries raws) ≡ Ok tt
unfolding checked_slots
is_done raws i taken le free so_far = sym so_far ∙ rw (free, none raws i le) refl

pub is_cut : (raws : List RawEntry) (i : ℕ) (taken : Bool) → length raws ≤ i → i ≤ length raws → taken ≡ true → AreSeen (plain_entries raws) i taken → checked_slots 0 false (plain_entries raws) ≡ Err (BadPool (length raws))
unfolding checked_slots
is_cut raws i taken le ge wide so_far = let is : i ≡ length raws = omega arith in sym so_far ∙ rw (wide, none raws i le) (ap (λ (n : ℕ). Err (BadPool n)) is)
