-- What loading the files of a run answers, one after the other.
use Rattle.std.specs.Prelude.{◌≢◌, ℕ, List, Option}
use Rattle.synth_outside.specs.Files.{FileMap}
use Rattle.file_store.specs.declared.refusal.FileRefusal.{FileRefusal}
use Rattle.file_store.specs.FileReading.{IsLoadRefused}
use Rattle.program_run.specs.declared.ending.Ending.{Ending}
use Rattle.program_run.specs.AskedRun.{PlainAskedRun}
use Rattle.program_run.specs.RunFiles.{IsInputNameRefused, IsInputRefused, IsProgramRefused}

-- what loading the file of a run's program answers where that isn't loaded, for this reason: how the run ends
abbrev pub ending_of_program : FileRefusal → Ending
ending_of_program FileRefusal.OutOfMemory = Ending.NoMemory
ending_of_program FileRefusal.NoFile = Ending.ProgramRefused FileRefusal.NoFile
ending_of_program FileRefusal.FileFault = Ending.ProgramRefused FileRefusal.FileFault
ending_of_program (FileRefusal.NotAListing line) = Ending.ProgramRefused (FileRefusal.NotAListing line)
ending_of_program FileRefusal.TooDeep = Ending.ProgramRefused FileRefusal.TooDeep
ending_of_program FileRefusal.TooLarge = Ending.ProgramRefused FileRefusal.TooLarge
ending_of_program FileRefusal.TooLong = Ending.ProgramRefused FileRefusal.TooLong

-- what loading the file of a run's input answers where that isn't loaded, for this reason: how the run ends
abbrev pub ending_of_input : FileRefusal → Ending
ending_of_input FileRefusal.OutOfMemory = Ending.NoMemory
ending_of_input FileRefusal.NoFile = Ending.InputRefused FileRefusal.NoFile
ending_of_input FileRefusal.FileFault = Ending.InputRefused FileRefusal.FileFault
ending_of_input (FileRefusal.NotAListing line) = Ending.InputRefused (FileRefusal.NotAListing line)
ending_of_input FileRefusal.TooDeep = Ending.InputRefused FileRefusal.TooDeep
ending_of_input FileRefusal.TooLarge = Ending.InputRefused FileRefusal.TooLarge
ending_of_input FileRefusal.TooLong = Ending.InputRefused FileRefusal.TooLong

-- loading the file of a run's program answers that the run ends so, since it isn't loaded
abbrev pub ProgramNotLoaded : Option FileMap → (name : List ℕ) → Ending → Type 0
ProgramNotLoaded stored name (Ending.ProgramRefused refusal) =
    IsLoadRefused stored name refusal × (refusal ≢ FileRefusal.OutOfMemory)
ProgramNotLoaded stored name Ending.NoMemory = Unit {0}
ProgramNotLoaded stored name ending = ⊥

-- loading the file of a run's input answers that the run ends so, since it isn't loaded
abbrev pub InputNotLoaded : Option FileMap → (name : Option (List ℕ)) → Ending → Type 0
InputNotLoaded stored name (Ending.InputRefused refusal) =
    IsInputNameRefused stored name refusal × (refusal ≢ FileRefusal.OutOfMemory)
InputNotLoaded stored name Ending.NoMemory = Unit {0}
InputNotLoaded stored name ending = ⊥

-- loading the files of the run that is asked for, one after the other, answers that it ends so, since one of them isn't
-- loaded
abbrev pub AreRefused : PlainAskedRun → Option FileMap → Ending → Type 0
AreRefused asked stored (Ending.ProgramRefused refusal) = IsProgramRefused asked stored refusal
AreRefused asked stored (Ending.InputRefused refusal) = IsInputRefused asked stored refusal
AreRefused asked stored Ending.NoMemory = Unit {0}
AreRefused asked stored ending = ⊥
