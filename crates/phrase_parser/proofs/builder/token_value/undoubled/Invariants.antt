use Rattle.std.proofs.Common.{◌≡◌, ◌++◌, length}
use Rattle.phrase_parser.specs.Private.Unquoted.{undoubled}
use Rattle.phrase_parser.proofs.builder.token_value.undoubled.Given as goal

abbrev pub invariant-loop-left : goal.invariant-loop-left
invariant-loop-left l = l.value.items ++ undoubled l.left ≡ undoubled l.bytes

abbrev pub decreases-loop-left : goal.decreases-loop-left
decreases-loop-left l = length l.left
