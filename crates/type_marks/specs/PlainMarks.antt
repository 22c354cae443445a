-- Verdicts as they are kept, as plain data.
use Rattle.std.specs.Prelude.{ℕ}
use Rattle.template_tree.specs.Checks.Marks.{VerdictMap}

-- the verdicts of phrases by their places, and how many new ones there is room for
pub record PlainMarks : Type 0 where
  pub verdicts : VerdictMap
  pub spare : ℕ
