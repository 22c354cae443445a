use Rattle.std.proofs.Common.{◌≡◌, length}
use Rattle.plcs_grammar.specs.PlainPhrase.{plain_expr}
use Rattle.phrase_parser.specs.Private.Machine as machine
use Rattle.phrase_parser.specs.Private.Views.{base_of, stack_on, stack_of}
use Rattle.phrase_parser.proofs.builder.stack.reduced_by_frames.Given as goal

abbrev pub invariant-loop-frame : goal.invariant-loop-frame
invariant-loop-frame l =
    machine.reduced (stack_on (machine.ParseStack.base (base_of l.base)) l.frames.items) l.level (plain_expr l.operand)
    ≡ machine.reduced (stack_of l.fn.stack) l.fn.level (plain_expr l.fn.operand)

abbrev pub decreases-loop-frame : goal.decreases-loop-frame
decreases-loop-frame l = length l.frames.items
