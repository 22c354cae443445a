use Rattle.std.proofs.Common.{[], arith}
use Rattle.file_store.specs.Private.Views.{open_list_of, open_nodes_on}
use Rattle.file_store.proofs.Arrivals.{at_rest}
use Rattle.file_store.proofs.OpenNodes.{frames_length}
use Rattle.file_store.proofs.reader.open_nodes.lowered.Goals as goal

pub returns-then-len-level : goal.returns-then-len-level
returns-then-len-level c =
    at_rest (open_list_of c.args.stack.own) (open_nodes_on [] c.args.stack.frames.items) c.args.level
    (omega (arith, c.if-len-level.true, c.len.ensures, frames_length [] c.args.stack.frames.items))
