-- What trees tell of the room of lists.
use Rattle.template_tree.specs.Laws.RoomLaws.{ChangesIgnoreRoom, DepthsIgnoreRoom, EditsIgnoreRoom, NodesIgnoreRoom, RoomGoesOnce, StandingIgnoresRoom}

-- the room of lists plays no part in what stands at a path, in where the cursor may stand, in how deep nodes are, and
-- in what edits make of trees
pub record RoomLaws : Type 0 where
  pub once : RoomGoesOnce
  pub nodes : NodesIgnoreRoom
  pub standing : StandingIgnoresRoom
  pub depths : DepthsIgnoreRoom
  pub edits : EditsIgnoreRoom
  pub changes : ChangesIgnoreRoom
