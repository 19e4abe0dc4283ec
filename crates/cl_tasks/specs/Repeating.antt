-- Supertypes that a class names again are accepted again, and not looked for (JVMS SE 8, 5.3.5, steps 3 to 5).
use Rattle.std.specs.Prelude.{Option, Some, None}
use Rattle.cl_model.specs.Content.{Content}
use Rattle.cl_hierarchy.specs.Frames.{Framed}
use Rattle.cl_hierarchy.specs.Paths.{IsPath, Pathed}
use Rattle.cl_hierarchy.specs.Repeats.{AcceptsRepeated, CompletesRepeated}

-- the last class of a path accepted again what it had accepted before, as often as it came next, and wants another (5.3.5, steps 3 and 4)
pub data PathGoesOn (told : Option Content) (old : Pathed) : Pathed → Type 0 where
  Here : PathGoesOn told old old
  Repeated : (mid new : Pathed) → PathGoesOn told old mid → IsPath told mid → AcceptsRepeated mid new
      → PathGoesOn told old new

-- and so up to the last of its supertypes: its whole frame (5.3.5, step 5)
pub record EndsRepeated (told : Option Content) (old new : Pathed) (whole : Framed) : Type 0 where
  pub mid : Pathed
  pub goes : PathGoesOn told old mid
  pub path : IsPath told mid
  pub last : CompletesRepeated mid new whole

-- it wants another, or is whole (5.3.5, steps 3 to 5)
abbrev pub PathComesTo : Option Content → Pathed → Pathed → Option Framed → Type 0
PathComesTo told old new None = PathGoesOn told old new
PathComesTo told old new (Some whole) = EndsRepeated told old new whole
