-- What a table has under its keys.
use Rattle.std.specs.Prelude.{
  ℕ,
  Bool,
  true,
  ◌&&◌,
  nat_eq,
  if◌then◌else◌,
  List,
  [],
  ◌∷◌,
  ◌++◌,
  codes,
  Option,
  Some,
  None,
  option_and_then,
  Result,
  Ok,
  Err,
}
use Rattle.std.specs.List.{list_any}
use Rattle.std.specs.Option.{ok_or}
use Rattle.std.specs.Cmp.Lexicographic.{pointwise}
use Rattle.toml.specs.Data.{
  Data,
  as_str,
  as_table,
  Items,
  no_items,
  item,
  Members,
  no_members,
  member,
}
use Rattle.cl_config.specs.declared.fault.ConfigFault.{ConfigFault}
use Rattle.cl_names.specs.Escape.{unescaped_name}
use Rattle.cl_config.specs.declared.order.Order.{Order}
use Rattle.cl_config.specs.declared.order.Order.TheVariants.{ParentFirst, ChildFirst}
use Rattle.cl_config.specs.Steps.{◌>>=◌}

-- every key of the table is a known one
abbrev pub has_only : (List ℕ → Bool) → Members → Bool
has_only known no_members = true
has_only known (member k d ms) = known k && has_only known ms

-- a key is one of these
abbrev pub is_one_of : List (List ℕ) → List ℕ → Bool
is_one_of keys key = list_any (λ k. pointwise nat_eq key k) keys

-- the table that a value is, with known keys alone
abbrev pub table_of : ConfigFault → (List ℕ → Bool) → Data → Result Members ConfigFault
table_of wrong known d =
    ok_or (as_table d) wrong >>= λ ms. if has_only known ms then Ok ms else Err wrong

-- a text that has to be there
abbrev pub text_of : ConfigFault → Option Data → Result (List ℕ) ConfigFault
text_of wrong value = ok_or (option_and_then as_str value) wrong

-- a text that may be left out
abbrev pub optional_text : ConfigFault → Option Data → Result (Option (List ℕ)) ConfigFault
optional_text wrong None = Ok None
optional_text wrong (Some d) = ok_or (as_str d) wrong >>= λ text. Ok (Some text)

-- a name in escaped text, that has to be there
abbrev pub name_of : ConfigFault → Option Data → Result (List ℕ) ConfigFault
name_of wrong value = text_of wrong value >>= λ text. ok_or (unescaped_name text) wrong

-- where a loader looks first; its parents, where it is left out
abbrev pub order_of : ConfigFault → Option Data → Result Order ConfigFault
order_of wrong None = Ok ParentFirst
order_of wrong (Some d) = ok_or (as_str d) wrong >>= λ text.
    if pointwise nat_eq text (codes "parent")
    then Ok ParentFirst
    else if pointwise nat_eq text (codes "child") then Ok ChildFirst else Err wrong

-- what each value of an array gives, behind what there is already, or the first fault
unfoldable pub each_from : {A : Type 0} → (List A → Data → Result A ConfigFault) → List A → Items
    → Result (List A) ConfigFault
each_from one front no_items = Ok front
each_from one front (item d ds) = one front d >>= λ x. each_from one (front ++ x ∷ []) ds

-- what each of a list gives, behind what there is already, or the first fault
unfoldable pub list_from : {A B : Type 0} → (List B → A → Result B ConfigFault) → List B → List A
    → Result (List B) ConfigFault
list_from one front [] = Ok front
list_from one front (x ∷ xs) = one front x >>= λ y. list_from one (front ++ y ∷ []) xs
