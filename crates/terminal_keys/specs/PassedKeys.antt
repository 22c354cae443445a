-- What became of the bytes that a terminal sent, up to the end.
use Rattle.std.specs.Prelude.{ℕ, List, Option}
use Rattle.std.specs.Io.KnownBytes.{Appends, Consumes, IsAtEnd}
use Rattle.synth_outside.specs.Sink.{AppendsFront}
use Rattle.synth_outside.specs.Source.{LosesAtMost}
use Rattle.terminal_keys.specs.Sequence.{passed_of, bells_of}
use Rattle.terminal_keys.specs.declared.ending.Ending.{Ending}
use Rattle.terminal_keys.specs.declared.ending.Ending.TheVariants.{Done, ReadFault, WriteFault, NoMemory, ReadLimit}
use Rattle.terminal_keys.specs.declared.passing.TheConstants.{MOST_READ}

-- the terminal's bytes that are left to read, those that were passed to the editor, and those that were rung
pub record Streams : Type 0 where
  pub left : Option (List ℕ)
  pub passed : Option (List ℕ)
  pub rung : Option (List ℕ)

-- these bytes were read and no others, and all that passes of them was passed, and every bell rung
pub record PassesAll (before now : Streams) (bytes : List ℕ) : Type 0 where
  pub read : Consumes before.left now.left bytes
  pub ended : IsAtEnd now.left
  pub passed : Appends before.passed now.passed (passed_of bytes)
  pub rung : Appends before.rung now.rung (bells_of bytes)

-- these bytes were read, and perhaps some more were lost; all that passes of these was passed, and the bells of all
-- sequences but perhaps the last were rung
pub record PassesRead (before now : Streams) (bytes : List ℕ) : Type 0 where
  pub between : Option (List ℕ)
  pub read : Consumes before.left between bytes
  pub lost : LosesAtMost between now.left MOST_READ
  pub passed : Appends before.passed now.passed (passed_of bytes)
  pub rung : AppendsFront before.rung now.rung (bells_of bytes)

-- these bytes were read, and perhaps some more were lost; what was passed and rung is a front of what these give
pub record PassesFront (before now : Streams) (bytes : List ℕ) : Type 0 where
  pub between : Option (List ℕ)
  pub read : Consumes before.left between bytes
  pub lost : LosesAtMost between now.left MOST_READ
  pub passed : AppendsFront before.passed now.passed (passed_of bytes)
  pub rung : AppendsFront before.rung now.rung (bells_of bytes)

-- the keys of a terminal were passed until this ending
abbrev pub PassesKeys : Ending → (before now : Streams) → Type 0
PassesKeys Done before now = (bytes : List ℕ) × PassesAll before now bytes
PassesKeys ReadFault before now = (bytes : List ℕ) × PassesRead before now bytes
PassesKeys ReadLimit before now = (bytes : List ℕ) × PassesRead before now bytes
PassesKeys WriteFault before now = (bytes : List ℕ) × PassesFront before now bytes
PassesKeys NoMemory before now = (bytes : List ℕ) × PassesFront before now bytes
