use Rattle.std.proofs.Common.{arith}
use Rattle.file_store.proofs.WaitingBytes.{taken_by_ends}
use Rattle.file_store.proofs.waiting.write_ends.Goals as goal

pub returns-clause-written : goal.returns-clause-written
returns-clause-written g c =
    taken_by_ends _ _ _ c.args.piece.now _ _ c.args.start g.row.ENDS (omega (arith, c.requires.room)) c.requires.ends.0 c.requires.ends.1
    c.in-Some.ensures.cases.same c.in-Some-last_chunk.ensures.cases.1.same c.write.ensures.written c.write-2.ensures.written
