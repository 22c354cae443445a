use Rattle.std.proofs.Common.{◌≢◌}
use Rattle.file_store.specs.Private.LineReading.{SaysNothing}
use Rattle.file_store.specs.Private.Reader.{Saying, IsSaying, text_of}
use Rattle.file_store.proofs.LineTexts.{says_nothing}
use Rattle.file_store.proofs.PartTexts.{fault_too}
use Rattle.file_store.proofs.reader.lines.read_line.Goals as goal

pub returns-in-Err-clause-says : goal.returns-in-Err-clause-says
returns-in-Err-clause-says c =
    fault_too ((saying : Saying) → IsSaying saying → text_of saying ≢ c.unblanked-level.result.1.now) (SaysNothing c.args.line.now) _
    (λ none. says_nothing c.line_laws.ensures c.unblanked-level.result.0 c.args.line.now c.unblanked-level.result.1.now
    c.unblanked-level.ensures.whole c.unblanked-level.ensures.all none)
    c.in-Err.ensures
