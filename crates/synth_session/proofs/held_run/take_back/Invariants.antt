use Rattle.std.specs.Prelude.{◌≡◌, ◌-◌, ◌≤◌, ◌∷◌, drop}
use Rattle.plcs_store.specs.Configuration.{plain_configuration}
use Rattle.back_steps.specs.EarlierConfigurations.{CanGoBack, configurations_before}
use Rattle.synth_session.proofs.held_run.take_back.Given as goal

abbrev pub decreases-loop-taken : goal.decreases-loop-taken
decreases-loop-taken l = l.steps - l.taken

abbrev pub invariant-loop-taken : goal.invariant-loop-taken
invariant-loop-taken l = record {
  so_far : drop l.taken (plain_configuration l.fn.state ∷ configurations_before l.fn.history (plain_configuration l.fn.state))
      ≡ plain_configuration l.state ∷ configurations_before l.history (plain_configuration l.state);
  able : CanGoBack l.history (plain_configuration l.state);
  operands : l.state.operands ≡ l.fn.state.operands;
  within : l.taken ≤ l.steps;
}
