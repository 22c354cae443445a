use Rattle.file_store.proofs.Sending.{sent_in_parts}
use Rattle.file_store.proofs.file_out.FileOut.+take_anew.Goals as goal

pub returns-else-bytes-le-MOST_WAITING-clause-sent : goal.returns-else-bytes-le-MOST_WAITING-clause-sent
returns-else-bytes-le-MOST_WAITING-clause-sent g t c =
    sent_in_parts _ _ _ _ c.args.bytes.now _ _ c.split_at.ensures.by_index.0 c.flush.ensures.sent c.hold-else-bytes-le-MOST_WAITING.ensures.sent
    c.take_anew.ensures.sent
