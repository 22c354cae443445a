use Rattle.std.proofs.Common.{length}
use Rattle.file_store.proofs.file_out.FileOut.+take_anew.Given as goal

abbrev pub decreases-take_anew : goal.decreases-take_anew
decreases-take_anew g l = length l.bytes.now
