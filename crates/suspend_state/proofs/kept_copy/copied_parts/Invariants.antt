use Rattle.std.specs.Prelude.{◌≡◌, ◌≤◌, ◌-◌, ◌++◌, drop, length, map}
use Rattle.template_tree.specs.Programs.PlainPhrasePlace.{plain_phrase_place}
use Rattle.suspend_state.proofs.kept_copy.copied_parts.Given as goal

abbrev pub decreases-loop-part : goal.decreases-loop-part
decreases-loop-part l = length l.node.label.parts - l.part

abbrev pub invariant-loop-part : goal.invariant-loop-part
invariant-loop-part l = record {
  left : map plain_phrase_place l.places.items ++ drop l.part l.node.label.parts ≡ l.node.label.parts;
  within : l.part ≤ length l.node.label.parts;
}
