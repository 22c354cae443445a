-- Lines that are refused: those that weren't read, those with which no listing goes on, and the end of what is no
-- listing.
use Rattle.std.specs.Prelude.{◌≡◌, refl, ℕ, ◌+◌, ◌≤◌, List, [], length}
use Rattle.std.proofs.Common.{ap, sym, ◌∙◌}
use Rattle.phrase_parser.specs.declared.not_read.NotRead.{NotRead}
use Rattle.phrase_parser.specs.NotRead.{Fails}
use Rattle.file_store.specs.Limit.{longest_listing}
use Rattle.file_store.specs.Loaded.{RefusalSays}
use Rattle.file_store.specs.Private.Finds.{LacksUnless}
use Rattle.file_store.specs.Private.LineLaws.{LineLaws}
use Rattle.file_store.specs.Private.LineReading.{Says, SaysNothing}
use Rattle.file_store.specs.Private.Reader.{Said, line_taken, program_of}
use Rattle.file_store.specs.Private.Reading.{Come, IsLineRefused, refused_in}
use Rattle.file_store.proofs.ReadListings.{SoFar, unfinished}
use Rattle.file_store.proofs.Texts.{one_line}

-- a line that wasn't read is refused
pub unread_refused : (line : List ℕ) (come : Come) (fault : NotRead) → LacksUnless fault (SaysNothing line)
    → IsLineRefused line come (refused_in (come.lines + 1) fault)
unread_refused line come NotRead.OutOfMemory nothing = tt
unread_refused line come NotRead.Refused nothing = (refl, λ said says. absurd (nothing said says.0 says.1))

-- a line with which no listing goes on is refused
pub untaken_refused : LineLaws → (line : List ℕ) (come : Come) (read : Said) (fault : NotRead) → Says line read
    → Fails fault (line_taken come.stack read) → IsLineRefused line come (refused_in (come.lines + 1) fault)
untaken_refused laws line come read NotRead.OutOfMemory says fails = tt
untaken_refused laws line come read NotRead.Refused says fails =
    (refl, λ said h. ap (line_taken come.stack) (one_line laws said read h.0 says.0 (h.1 ∙ sym says.1)) ∙ fails)

-- the end of what is no listing is refused
pub unfinished_refused : LineLaws → (x rest : List ℕ) (come : Come) (fault : NotRead) → length x ≤ longest_listing → SoFar x rest come
    → rest ≡ [] → Fails fault (program_of come.stack) → RefusalSays x (refused_in (come.lines + 1) fault)
unfinished_refused laws x rest come NotRead.OutOfMemory short far empty fails = tt
unfinished_refused laws x rest come NotRead.Refused short far empty fails =
    unfinished laws x rest come (come.lines + 1) short far empty refl fails
