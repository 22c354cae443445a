-- What an editor is before its first screen, what a run does from that screen on, and what is then saved.
use Rattle.std.specs.Prelude.{◌≡◌, ◌≤◌}
use Rattle.plcs_base.specs.Count.{RoseBy}
use Rattle.synth_outside.specs.Files.{PlainFiles}
use Rattle.screen_window.specs.PlainGrid.{blank_grid}
use Rattle.synth_session.specs.PlainSession.{PlainSession}
use Rattle.synth_session.specs.SessionView.{plain_session, shown_grid}
use Rattle.synth_top.specs.declared.editor.Editor.{Editor}
use Rattle.synth_top.specs.declared.status.Status.{Status}
use Rattle.synth_top.specs.Counted.{CountsFor}
use Rattle.synth_top.specs.Loads.{PlainFirstLoads, first_session}
use Rattle.synth_top.specs.Options.{PlainOptions}
use Rattle.synth_top.specs.Rescue.{CountsRescueWant, IsRescue, Rescue, files_with, rescue_failure}
use Rattle.synth_top.specs.WholeRun.{Course, LeavesSource, Stopped, Told, all_shots, fetches_due, run_bill, state_after}
use Rattle.synth_top.specs.Turn.{IsToldAs, EditorState, failures}
use Rattle.synth_top.specs.Private.Pressing.{IsReady}

-- an editor at a moment of a run before its first screen, when no key was pressed yet
pub record IsUnshown {W : Type 0} (e : Editor W) : Type 0 where
  pub ready : IsReady e
  pub painted : shown_grid e.session
      ≡ blank_grid (plain_session e.session).size.rows (plain_session e.session).size.cols

-- an editor whose first screen isn't shown yet, as a run from that screen on begins: it has the session of these
-- options and loads
pub record IsOpened {W : Type 0} (options : PlainOptions) (loads : PlainFirstLoads) (e : Editor W) : Type 0 where
  pub unshown : IsUnshown e
  pub session : plain_session e.session ≡ first_session options loads

-- a run from this state of the opening screen did this, stopped so, and left source, files and session so
pub record EditorRuns (status : Status) (options : PlainOptions) (first : EditorState) (before now : Told)
    (after_reads after_fault : Type 0) (session : PlainSession) : Type 0 where
  pub course : Course options first before.streams now.streams
  pub stopped : Stopped course before.files.wants now.files.wants status
  pub source : LeavesSource course after_reads after_fault
  pub session_is : session ≡ (state_after course).session
  pub files : IsToldAs (state_after course).files now.files.stored
  pub faults : RoseBy (failures course.pressed) before.files.faults now.files.faults
  pub wants : before.files.wants ≤ now.files.wants
  pub counts : CountsFor (run_bill course before.files.wants now.files.wants status stopped) (all_shots course)
      (fetches_due course before.files.wants now.files.wants status stopped) before.counts now.counts

-- what is saved once a run from an editor's first screen on has ended with this status: the program of the session,
-- where it is saved at all
pub record Rescues (status : Status) (session : PlainSession) (before now : PlainFiles) : Type 0 where
  pub rescue : Rescue
  pub rescued : IsRescue status rescue
  pub files : IsToldAs (files_with rescue (record { session = session; files = before.stored })) now.stored
  pub faults : RoseBy (rescue_failure rescue) before.faults now.faults
  pub wants : CountsRescueWant rescue before.wants now.wants
