use Rattle.edit_undo.proofs.ElidedTrees.{back_checks, whole_with}
use Rattle.edit_undo.proofs.edit_laws.undone_trees_check_alike.Goals as goal

pub returns : goal.returns
returns c now earlier = (
  whole_with now.items earlier.items,
  back_checks c.checks_ignore_room_and_elision.ensures.all_elision now earlier,
)
