-- Where the cursor goes for a run that stands.
use Rattle.std.specs.Prelude.{Option, Some, None, option_and_then, unwrap_or}
use Rattle.template_tree.specs.Positions.Stop.{PlainStop}
use Rattle.template_tree.specs.Programs.PlainTree.{PlainTree}
use Rattle.session_edit.specs.ShownStop.{shown_at}
use Rattle.plcs_store.specs.Configuration.{PlainConfiguration, top_place}
use Rattle.synth_session.specs.PlainRun.{PlainRun}
use Rattle.synth_session.specs.PlainSession.{PlainSession}

-- the stop at which a run's place is shown: that of its node, or of the outermost elided comment that hides it; none
-- where its slot isn't live
abbrev pub run_stop : PlainTree → PlainConfiguration → Option PlainStop
run_stop tree c = option_and_then (λ place. shown_at tree place.slot) (top_place c.frames)

-- the stop of the cursor beside a run: where the run's place is shown, or else where it was
abbrev pub stop_beside : PlainTree → PlainStop → Option PlainRun → PlainStop
stop_beside tree stop None = stop
stop_beside tree stop (Some run) = unwrap_or (run_stop tree run.configuration) stop

-- the session with its cursor where the run's place is shown, if a run stands and its place is live
unfoldable pub with_cursor_at_run : PlainSession → PlainSession
with_cursor_at_run s = record s { stop = stop_beside s.tree s.stop s.run }
