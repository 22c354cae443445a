-- What a suspended run keeps of its program.
use Rattle.std.specs.Prelude.{◌≡◌, Option, Some, None}
use Rattle.template_tree.specs.Programs.PlainTree.{Forest}
use Rattle.plcs_store.specs.declared.kept.Kept.{Kept}
use Rattle.plcs_store.specs.declared.reason.RunReason.{RunReason}
use Rattle.plcs_store.specs.declared.run_state.Run.{Run}
use Rattle.plcs_store.specs.declared.run_state.RunState.{RunState}
use Rattle.plcs_store.specs.Configuration.{PlainConfiguration, plain_configuration}
use Rattle.plcs_store.specs.Fits.{Fits}
use Rattle.plcs_store.specs.Resume.{IsKeptOf, kept_of}

-- a run in the state as it is made: paused, as one that is suspended, with nothing kept of its program
abbrev pub paused : RunState → Run
paused state = record { state = state; reason = RunReason.Paused; kept = None }

-- a suspended run, with what it keeps of its program, that stands still for this reason
abbrev pub with_reason : RunReason → Run → Run
with_reason reason run = record run { reason = reason }

-- a suspended run that keeps nothing of its program yet fits that program
abbrev pub FitsUnlessKept : (program : Forest) → Run → Type 0
FitsUnlessKept program run = run.kept ≡ None → Fits program (plain_configuration run.state)

-- what is kept once the program is about to be edited, by what was kept before: where that was nothing, what is kept of
-- the program for the frames of the run, and else the same; nothing else is changed
abbrev pub KeepsBeside : (before : Option Kept) → (program : Forest) → (old new : Run) → Type 0
KeepsBeside None program old new =
    (kept : Kept) × (new ≡ record old { kept = Some kept }) × IsKeptOf program (plain_configuration old.state) kept
KeepsBeside (Some before) program old new = new ≡ old

-- a run keeps the program as it was when it was first about to be edited
abbrev pub Keeps : (program : Forest) → (old new : Run) → Type 0
Keeps program old new = KeepsBeside old.kept program old new

-- the law of what a suspended run keeps: for a run that fits a program, what is kept of that is there
abbrev pub FittingRunsAreKept : Type 0
FittingRunsAreKept =
    (program : Forest) (c : PlainConfiguration) → Fits program c → IsKeptOf program c (kept_of program c)
