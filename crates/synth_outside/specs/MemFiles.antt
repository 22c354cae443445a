-- What files in memory are seen as.
use Rattle.std.specs.Prelude.{◌≡◌, ℕ, List, Option, Some, None, Result, Ok, Err}
use Rattle.plcs_base.specs.Count.{raised}
use Rattle.synth_outside.specs.Calls.{PlainCalls, MakesCall}
use Rattle.synth_outside.specs.Cause.{HasCause}
use Rattle.synth_outside.specs.Files.{FileMap, NewContent}
use Rattle.synth_outside.specs.declared.faults.FilesFault.{FilesFault}
use Rattle.synth_outside.specs.declared.faults.FilesFault.TheVariants.{NoFile, Failed, OutOfMemory}

-- what files in memory are seen as: the map of files, the bytes left of the one that is open, the
-- name and bytes that were begun, the calls and the wants of memory
pub record PlainMemFiles : Type 0 where
  pub stored : FileMap
  pub left : Option (List ℕ)
  pub begun : Option (List ℕ × List ℕ)
  pub calls : PlainCalls
  pub wants : ℕ

-- the new content that was begun in files in memory, all of which is told
abbrev pub new_content : Option (List ℕ × List ℕ) → Option NewContent
new_content None = None
new_content (Some entry) = Some (record { name = entry.0; bytes = Some entry.1 })

-- the count of wants of files in memory after a call: one more exactly where the answer is want of
-- memory
abbrev pub wants_after : {T : Type 0} → Result T FilesFault → ℕ → ℕ
wants_after (Ok value) wants = wants
wants_after (Err NoFile) wants = wants
wants_after (Err Failed) wants = wants
wants_after (Err OutOfMemory) wants = raised wants

-- a call on files in memory was made: it failed exactly where its number is in the list, and each
-- count has its cause in it
pub record MakesFilesCall {T : Type 0} (before now : PlainMemFiles) (result : Result T FilesFault)
    : Type 0 where
  pub called : MakesCall Failed before.calls now.calls result
  pub wanted : now.wants ≡ wants_after result before.wants
  pub want : HasCause OutOfMemory before.wants now.wants result

-- what is left to read of the open file in memory may be another, and all but the calls and the
-- wants is as before
abbrev pub ChangesLeft : PlainMemFiles → PlainMemFiles → Type 0
ChangesLeft before now =
    now ≡ record before { left = now.left; calls = now.calls; wants = now.wants }

-- the new content that was begun in memory may be another, and all but the calls and the wants is
-- as before
abbrev pub ChangesBegun : PlainMemFiles → PlainMemFiles → Type 0
ChangesBegun before now =
    now ≡ record before { begun = now.begun; calls = now.calls; wants = now.wants }
