-- What became of the bytes that were read so far, while the last sequence of them may lack bytes.
use Rattle.std.specs.Prelude.{◌≡◌, ℕ, List, [], ◌++◌, Option, Result, OnOk, OnErr}
use Rattle.std.specs.Io.KnownBytes.{Appends, Consumes}
use Rattle.synth_outside.specs.Sink.{AppendsFront}
use Rattle.synth_outside.specs.declared.faults.SinkFault.{SinkFault}
use Rattle.terminal_keys.specs.declared.ending.Ending.{Ending}
use Rattle.terminal_keys.specs.declared.ending.Ending.TheVariants.{Done, ReadFault, WriteFault, NoMemory, ReadLimit}
use Rattle.terminal_keys.specs.PassedKeys.{Streams}
use Rattle.terminal_keys.specs.Sequence.{bell, of_sequences, passed_of_sequence}

-- what these bytes give behind a begun sequence, whatever comes behind them, is this and then what comes behind the
-- sequence that has begun now
abbrev pub GivesBehind : (given : List ℕ → List ℕ) → (begun bytes gives now : List ℕ) → Type 0
GivesBehind given begun bytes gives now = (rest : List ℕ) →
    of_sequences given begun (bytes ++ rest) ≡ gives ++ of_sequences given now rest

-- what some bytes give behind a begun sequence, as it was appended to what was given before
abbrev pub GivesMore : (given : List ℕ → List ℕ) → (begun bytes before after now : List ℕ) → Type 0
GivesMore given begun bytes before after now = (rest : List ℕ) →
    before ++ of_sequences given begun (bytes ++ rest) ≡ after ++ of_sequences given now rest

-- the bytes that were read so far, what was passed and rung of them, and the sequence that has begun at their end
pub record PassedSoFar (before now : Streams) (begun : List ℕ) : Type 0 where
  pub bytes : List ℕ
  pub passes : List ℕ
  pub rings : List ℕ
  pub read : Consumes before.left now.left bytes
  pub passed : Appends before.passed now.passed passes
  pub rung : Appends before.rung now.rung rings
  pub all_passed : GivesBehind passed_of_sequence [] bytes passes begun
  pub all_rung : GivesBehind bell [] bytes rings begun

-- the bytes of one read were cut into sequences behind the one that had begun, and what they give was written
pub record PassesOneRead (begun bytes now : List ℕ) (result : Result Unit SinkFault)
    (passed_before passed_now rung_before rung_now : Option (List ℕ)) : Type 0 where
  pub passes : List ℕ
  pub rings : List ℕ
  pub all_passed : GivesBehind passed_of_sequence begun bytes passes now
  pub all_rung : GivesBehind bell begun bytes rings now
  pub passed : OnOk result (Appends passed_before passed_now passes)
  pub rung : OnOk result (Appends rung_before rung_now rings)
  pub passed_front : OnErr result (AppendsFront passed_before passed_now passes)
  pub rung_front : OnErr result (AppendsFront rung_before rung_now rings)

-- no byte came behind those that were read so far, and the passing of keys ended so: the bell of their last sequence
-- was rung, where that lacks bytes, or it couldn't be
abbrev pub RingsLast : Ending → (begun : List ℕ) → (rung_before rung_now : Option (List ℕ)) → Type 0
RingsLast Done begun rung_before rung_now = Appends rung_before rung_now (of_sequences bell begun [])
RingsLast WriteFault begun rung_before rung_now = AppendsFront rung_before rung_now (of_sequences bell begun [])
RingsLast NoMemory begun rung_before rung_now = AppendsFront rung_before rung_now (of_sequences bell begun [])
RingsLast ReadFault begun rung_before rung_now = ⊥
RingsLast ReadLimit begun rung_before rung_now = ⊥

-- how the passing of keys ends where what the bytes that were read so far give couldn't be written for this fault
abbrev pub fault_ending : SinkFault → Ending
fault_ending SinkFault.Failed = WriteFault
fault_ending SinkFault.OutOfMemory = NoMemory
