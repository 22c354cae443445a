use Rattle.synth_session.proofs.RunningKeys.{running_keys_have_runs, still_keys_fetch_nothing}
use Rattle.synth_session.proofs.press.running_keys_have_runs.Goals as goal

pub returns : goal.returns
returns c = record {
  runs = running_keys_have_runs;
  still = still_keys_fetch_nothing;
}
