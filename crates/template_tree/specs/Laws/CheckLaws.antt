-- The laws of checking: what a program declares and mentions, and the verdicts of its phrases, don't depend on the room
-- of its lists, nor on which comments are elided.
use Rattle.std.specs.Prelude.{◌≡◌, ℕ, List}
use Rattle.template_tree.specs.Edits.Edit.{edit_at, whole}
use Rattle.template_tree.specs.Edits.Elision.{toggled}
use Rattle.template_tree.specs.Checks.Environment.{Items, Sig}
use Rattle.template_tree.specs.Checks.Marks.{Verdicts, procedure_verdicts}
use Rattle.template_tree.specs.Checks.Mention.{mentions}
use Rattle.template_tree.specs.Programs.PlainTree.{Forest, roomless}

-- two programs declare the same, mention the same names at the same places, and have the same verdicts, in listing
-- order and by place
pub record CheckAlike (one other : Forest) : Type 0 where
  pub items : (slot : ℕ) → Items one slot ≡ Items other slot
  pub headings : (name : List ℕ) → Sig one name ≡ Sig other name
  pub mentions : (name : List ℕ) → mentions name one ≡ mentions name other
  pub listed : procedure_verdicts one one ≡ procedure_verdicts other other
  pub verdicts : Verdicts one ≡ Verdicts other

-- a program and it without room check alike
abbrev pub ChecksIgnoreRoom : Type 0
ChecksIgnoreRoom = (items : Forest) → CheckAlike (roomless items) items

-- programs that are the same but for what is elided, and for room, check alike
abbrev pub ChecksIgnoreAllElision : Type 0
ChecksIgnoreAllElision =
    (one other : Forest) → roomless (whole one) ≡ roomless (whole other) → CheckAlike one other

-- a program and it with the comment at a path turned check alike
abbrev pub ChecksIgnoreElision : Type 0
ChecksIgnoreElision = (items : Forest) (path : List ℕ) → CheckAlike (edit_at toggled path items) items
