use Rattle.std.proofs.Common.{length, ◌-◌, ◌≡◌, ◌≤◌, drop}
use Rattle.phrase_parser.specs.Private.Front.{constant_end}
use Rattle.phrase_parser.proofs.constant.constant_length.Given as goal

abbrev pub invariant-loop-end : goal.invariant-loop-end
invariant-loop-end l =
    (l.content ≤ l.end) × (constant_end l.end l.content (drop l.end l.text) ≡ constant_end 1 0 (drop 1 l.text))

abbrev pub decreases-loop-end : goal.decreases-loop-end
decreases-loop-end l = length l.text - l.end
