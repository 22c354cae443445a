use Rattle.std.proofs.Common.{length}
use Rattle.file_store.proofs.reader.lines.+read_head.Given as goal

abbrev pub decreases-read_head : goal.decreases-read_head
decreases-read_head l = length l.kinds.now
