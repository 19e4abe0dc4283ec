-- The texts of a pool's names that were made once.
use Rattle.std.specs.Prelude.{◌≡◌, ℕ, List, IfSome, string_bytes}
use Rattle.std.specs.Ordering.{nat_cmp}
use Rattle.std.specs.BTreeMap.{get}
use Rattle.cl_classfile.specs.declared.entry.Entry.{Entry}
use Rattle.cl_classfile.specs.Files.{text_at}
use Rattle.cl_writer.specs.declared.texts.Texts.{Texts}
use Rattle.cl_writer.specs.Listings.{printed_name}

-- each text that is kept at an index is what is printed of the name there
abbrev pub AreTexts : List Entry → Texts → Type 0
AreTexts pool texts =
    (i : ℕ)
    → IfSome (get nat_cmp texts.kept i) (λ t. string_bytes t ≡ printed_name (text_at pool i))
