-- A source that changes: one content gives the first reads, and another all later ones.
use Rattle.std.specs.Prelude.{ℕ, ◌==◌, if◌then◌else◌}
use Rattle.cl_model.specs.Content.{Content}

-- both contents, how many reads the first gives, and how many of them are to come
pub record Changing : Type 0 where
  pub first : Content
  pub later : Content
  pub reads : ℕ
  pub left : ℕ

-- the content that the next read is of
abbrev pub next_content : Changing → Content
next_content s = if s.left == 0 then s.later else s.first
