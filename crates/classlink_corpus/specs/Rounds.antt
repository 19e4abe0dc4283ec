-- What becomes of a class file on its way through reader, writer, listing and assembler.
use Rattle.std.specs.Prelude.{◌≡◌, ℕ, List, Ok, Err}
use Rattle.cl_lines.specs.Lines.{stated_lines}
use Rattle.cl_classfile.specs.Structure.{Structure}
use Rattle.cl_classfile.specs.Reading.{read_of}
use Rattle.cl_writer.specs.Assembled.{AssembleOf}
use Rattle.cl_writer.specs.Listings.{listing_of}
use Rattle.classlink_corpus.specs.declared.round.Outcome.{Outcome}
use Rattle.classlink_corpus.specs.declared.round.Outcome.TheVariants.{
  Same,
  Refused,
  OtherBytes,
  OtherListing,
}

-- the listing of a file is assembled to a file with the same listing
abbrev pub ListsAgain : Structure → Type 0
ListsAgain f =
    (g : Structure) × AssembleOf (stated_lines (listing_of f)) (Ok g)
    × (listing_of g ≡ listing_of f)

-- what is said of the bytes of a file (JVMS SE 8, 4.1)
abbrev pub OutcomeOfBytes : List ℕ → Outcome → Type 0
OutcomeOfBytes bytes Same = (f : Structure) × (read_of bytes ≡ Ok f) × ListsAgain f
OutcomeOfBytes bytes (Refused fault) = read_of bytes ≡ Err fault
OutcomeOfBytes bytes OtherBytes = ⊥
OutcomeOfBytes bytes OtherListing = (f : Structure) × (read_of bytes ≡ Ok f) × (ListsAgain f → ⊥)
