use Rattle.std.specs.Prelude.{◌≡◌, ◌+◌, ◌*◌, ◌≤◌, map, min}
use Rattle.code_patch.specs.CodeEdit.{edited_code, room_after}
use Rattle.code_patch.specs.PreparedEdit.{StepsFit}
use Rattle.code_patch.specs.Private.CodeEditCode.{code_edit_weight}
use Rattle.code_patch.specs.Private.PlainCodeNode.{code_forest, kept_length}
use Rattle.code_patch.proofs.MadeSteps.{act_weight}
use Rattle.code_patch.proofs.+make_steps.Given as goal

abbrev pub decreases-commitment::make_steps : goal.decreases-commitment::make_steps
decreases-commitment::make_steps g l = 4 * code_edit_weight l.steps + 1

abbrev pub decreases-commitment::make_step : goal.decreases-commitment::make_step
decreases-commitment::make_step g l = 4 * act_weight l.step.act + 4

abbrev pub decreases-commitment::mend_node : goal.decreases-commitment::mend_node
decreases-commitment::mend_node g l = 4 * code_edit_weight l.mending.inner + 3

abbrev pub decreases-code_node::CodeNode::mended : goal.decreases-code_node::CodeNode::mended
decreases-code_node::CodeNode::mended g l = 4 * code_edit_weight l.mending.inner + 2

abbrev pub decreases-commitment::make_steps-loop-step : goal.decreases-commitment::make_steps-loop-step
decreases-commitment::make_steps-loop-step g l = code_edit_weight l.left

abbrev pub invariant-commitment::make_steps-loop-step : goal.invariant-commitment::make_steps-loop-step
invariant-commitment::make_steps-loop-step g l = record {
  edited : edited_code l.left (code_forest l.inner.items) ≡ edited_code l.fn.steps (code_forest l.fn.inner.items);
  room : room_after l.left (min l.inner.spare l.lengths.spare) ≡ room_after l.fn.steps (min l.fn.inner.spare l.fn.lengths.spare);
  fit : StepsFit l.left (min l.inner.spare l.lengths.spare) (code_forest l.inner.items);
  lengths : l.lengths.numbers ≡ map kept_length l.inner.items;
  weight : code_edit_weight l.left ≤ code_edit_weight l.fn.steps;
}
