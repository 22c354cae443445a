use Rattle.std.proofs.Common.{[], ◌∙◌, arith}
use Rattle.file_store.specs.Private.Reader.{shut}
use Rattle.file_store.specs.Private.Views.{open_node_of, open_nodes_on, open_list_of}
use Rattle.file_store.proofs.Arrivals.{at_rest}
use Rattle.file_store.proofs.OpenNodes.{fails_too, frames_length, lowered_by}
use Rattle.file_store.proofs.reader.open_nodes.lowered_by_ends.Goals as goal

pub returns-in-Err : goal.returns-in-Err
returns-in-Err c =
    fails_too c.in-Err.fault (shut (open_list_of c.loop-frames.own) (open_node_of c.in-Some.frame)) _
    (λ none.
    c.loop-frames.invariant
    ∙ lowered_by c.args.level (open_list_of c.loop-frames.own) c.loop-frames.frames.items c.pop.new.self.items c.in-Some.frame _ c.in-Some.ensures.items
    (omega (arith, c.loop-frames-test.true, c.len.ensures)) none)
    c.in-Err.ensures

pub loop-frames-preserved : goal.loop-frames-preserved
loop-frames-preserved c =
    c.loop-frames.invariant
    ∙ lowered_by c.args.level (open_list_of c.loop-frames.own) c.loop-frames.frames.items c.pop.new.self.items c.in-Some.frame _ c.in-Some.ensures.items
    (omega (arith, c.loop-frames-test.true, c.len.ensures)) c.in-Ok.ensures

pub returns : goal.returns
returns c =
    c.loop-frames.invariant
    ∙ at_rest (open_list_of c.loop-frames.own) (open_nodes_on [] c.loop-frames.frames.items) c.args.level
    (omega (arith, c.loop-frames-test.false, c.len.ensures, frames_length [] c.loop-frames.frames.items))
