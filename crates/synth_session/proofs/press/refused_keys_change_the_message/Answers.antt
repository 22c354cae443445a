use Rattle.synth_session.proofs.RefusedKeys.{refused_keys_change_the_message, refused_keys_cost_nothing}
use Rattle.synth_session.proofs.press.refused_keys_change_the_message.Goals as goal

pub returns : goal.returns
returns c = record {
  message = refused_keys_change_the_message;
  work = refused_keys_cost_nothing;
}
