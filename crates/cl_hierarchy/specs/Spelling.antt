-- Contents whose bytes are bytes, and which classes have a file there, by the grammar
-- (JVMS SE 8, 4.1, 5.3.5).
use Rattle.std.specs.Prelude.{◌≡◌, ◌↔◌, Some}
use Rattle.std.specs.List.{AllByRecursion}
use Rattle.cl_classfile.specs.Structure.{Structure, AreBytes}
use Rattle.cl_classfile.specs.Files.{File, file_of}
use Rattle.cl_model.specs.declared.class.Class.{Class}
use Rattle.cl_model.specs.Content.{Content, Stored}
use Rattle.cl_model.specs.Classes.{HasFile, IsAtHome}
use Rattle.cl_config.specs.Views.{Configured}
use Rattle.cl_delegation.specs.Worlds.{world_of}
use Rattle.cl_hierarchy.specs.Drafts.{IsSpelt}

-- the numbers that each loader has for a name are those of bytes (4)
abbrev pub IsOfBytes : Content → Type 0
IsOfBytes content = AllByRecursion (λ (e : Stored). AreBytes e.bytes) content

-- in a content of bytes a class has a file exactly where it is at home and its bytes spell that
-- file (4.1; 5.3.5, step 2)
abbrev pub FileIsSpelled : Type 0
FileIsSpelled =
    (c : Configured) (content : Content) (t : Class) (g : File) → IsOfBytes content
    → HasFile (world_of c content) t g
    ↔ (IsAtHome (world_of c content) t
    × ((f : Structure) × IsSpelt (Some content) t f × (file_of f ≡ g)))
