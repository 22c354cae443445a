use Rattle.std.proofs.Common.{[], Some, arith, refl}
use Rattle.file_store.specs.Private.Views.{open_nodes_of}
use Rattle.file_store.proofs.OpenNodes.{frames_length, high_enough, not_high}
use Rattle.file_store.proofs.reader.open_nodes.at_height.Goals as goal

pub returns-then-len-level : goal.returns-then-len-level
returns-then-len-level c =
    not_high c.args.level (Some (open_nodes_of c.args.stack)) (open_nodes_of c.args.stack) refl
    (λ e. c.if-len-level.true (omega (arith, e, c.len.ensures, frames_length [] c.args.stack.frames.items)))

pub returns : goal.returns
returns c =
    high_enough c.args.level (Some (open_nodes_of c.args.stack)) (open_nodes_of c.args.stack) refl
    (omega (arith, c.if-len-level.false, c.len.ensures, frames_length [] c.args.stack.frames.items))
