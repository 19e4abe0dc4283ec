-- What reading a home answers (JVMS SE 8, 5.3.5).
use Rattle.std.specs.Prelude.{◌≡◌, Result, Ok, Err}
use Rattle.cl_classfile.specs.Files.{file_of}
use Rattle.cl_delegation.specs.Searches.{Located}
use Rattle.cl_hierarchy.specs.Drafts.{Drafted, ByGrammar, IsWrong, home_class}
use Rattle.cl_hierarchy.specs.declared.draft.DraftRefused.{DraftRefused}
use Rattle.cl_hierarchy.specs.declared.draft.DraftRefused.TheVariants.{Memory, Unreadable}

-- the class with the file that the bytes spell; or what is wrong with them; or the home, where
-- memory ran out (5.3.5)
abbrev pub ReadAs : {A : Type 0} → Located → Result Drafted (DraftRefused A) → Type 0
ReadAs home (Ok d) =
    (d.home ≡ home) × (d.class ≡ home_class home) × ByGrammar home.bytes d.file
    × ((file_of d.file).name ≡ home.name)
ReadAs home (Err (Memory back)) = back ≡ home
ReadAs home (Err (Unreadable u)) = (u.home ≡ home) × IsWrong home u.fault
