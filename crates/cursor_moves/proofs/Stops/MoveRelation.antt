-- Where a move goes, as a relation.
use Rattle.std.specs.Prelude.{◌≡◌, List, ◌∷◌, ◌++◌, Option, option_map}
use Rattle.template_tree.specs.Positions.Stop.{PlainStop, VisibleStop}
use Rattle.cursor_moves.specs.Move.{Choice}

-- a move from a stop among the visible stops goes where the choice says: the stop stands there, and what is chosen from
-- those before and behind it is where the move goes
pub record IsMove (choice : Choice) (stops : List VisibleStop) (at : PlainStop) (to : Option PlainStop) : Type 0 where
  pub before : List VisibleStop
  pub here : VisibleStop
  pub behind : List VisibleStop
  pub stands : stops ≡ before ++ here ∷ behind
  pub is_at : here.stop ≡ at
  pub goes : to ≡ option_map (λ chosen. chosen.stop) (choice before here behind)
