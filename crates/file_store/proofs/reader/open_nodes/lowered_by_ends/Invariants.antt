use Rattle.std.specs.Prelude.{◌≡◌, [], length}
use Rattle.file_store.specs.Private.Reader.{lowered}
use Rattle.file_store.specs.Private.Views.{open_nodes_on, open_list_of}
use Rattle.file_store.proofs.reader.open_nodes.lowered_by_ends.Given as goal

abbrev pub decreases-loop-frames : goal.decreases-loop-frames
decreases-loop-frames l = length l.frames.items

abbrev pub invariant-loop-frames : goal.invariant-loop-frames
invariant-loop-frames l =
    lowered l.fn.level (open_list_of l.fn.stack.own) (open_nodes_on [] l.fn.stack.frames.items)
    ≡ lowered l.fn.level (open_list_of l.own) (open_nodes_on [] l.frames.items)
