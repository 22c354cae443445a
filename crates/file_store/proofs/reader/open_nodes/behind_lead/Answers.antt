use Rattle.std.proofs.Common.{[], ◌≤◌, arith, codes, length}
use Rattle.file_store.specs.Private.Views.{filling_of, open_nodes_on, open_nodes_of}
use Rattle.file_store.proofs.OpenNodes.{frames_length, led_by}
use Rattle.file_store.proofs.reader.open_nodes.behind_lead.Goals as goal

pub returns : goal.returns
returns c =
    let stack = c.args.stack.now in
    let some : 1 ≤ length stack.frames.items = grind (arith, c.is_empty.ensures, c.if-is_empty.false) in
    led_by (codes "ELSE") (open_nodes_of stack) (open_nodes_on [] stack.frames.items) (omega (arith, some, frames_length [] stack.frames.items))
    filling_of c.behind_lead.result c.behind_lead.ensures
