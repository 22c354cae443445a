-- Lines of a program that are held once they were laid.
use Rattle.std.specs.Prelude.{◌≡◌, ℕ, All, IfSome, List, Option, slice_get}
use Rattle.plcs_base.specs.Mark.{MarkMap}
use Rattle.template_tree.specs.Programs.PlainTree.{Forest}
use Rattle.unparse_layout.specs.LaidLine.{LaidLines, PlainLine}

-- what is held of the line of a number, counted from 0: the line, or that there is none
pub record PlainHeldLine : Type 0 where
  pub number : ℕ
  pub line : Option PlainLine

-- what is held in a bucket, if anything, is the line of its number that the program has under these marks, or that it
-- has none
abbrev pub HoldsLineOf : MarkMap → Forest → Option PlainHeldLine → Type 0
HoldsLineOf marks items bucket = IfSome bucket (λ held. held.line ≡ slice_get (LaidLines marks items) held.number)

-- all lines that are held are those of the program under these marks
pub record HoldLinesOf (marks : MarkMap) (items : Forest) (buckets : List (Option PlainHeldLine)) : Type 0 where
  pub each : All (HoldsLineOf marks items) buckets
