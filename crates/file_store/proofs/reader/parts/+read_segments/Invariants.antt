use Rattle.std.proofs.Common.{length, map}
use Rattle.plcs_grammar.specs.Template.{plain_segment}
use Rattle.file_store.proofs.reader.parts.+read_segments.Given as goal

abbrev pub decreases-read_segments : goal.decreases-read_segments
decreases-read_segments l = length (map plain_segment l.segments.now)
