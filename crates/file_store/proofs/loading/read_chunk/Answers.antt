use Rattle.std.proofs.Common.{refl}
use Rattle.file_store.proofs.Sending.{zero_at_end}
use Rattle.file_store.proofs.loading.read_chunk.Goals as goal

pub returns-then-count-eq0-clause-chunk : goal.returns-then-count-eq0-clause-chunk
returns-then-count-eq0-clause-chunk g c = (refl, zero_at_end _ c.in_ok-count.count c.in_ok-count.ensures.bytes.exact_end c.if-count-eq0.true)
