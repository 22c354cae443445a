use Rattle.std.proofs.Common.{rules, ◌≡◌, []}
use Rattle.plcs_store.specs.Configuration.{plain_configuration}
use Rattle.back_steps.specs.EarlierConfigurations.{GoesBack}
use Rattle.synth_session.proofs.RunsTakenBack.{none_held, one_more}
use Rattle.synth_session.proofs.held_run.take_back.Goals as goal

pub returns-then-is_err-clause-back : goal.returns-then-is_err-clause-back
returns-then-is_err-clause-back c =
    let none : c.loop-taken.history ≡ [] = search rules in
    let history : c.back.new.self ≡ c.loop-taken.history = search rules in
    let state : c.back.new.state ≡ c.loop-taken.state = search rules in
    rw history (rw state
    (none_held c.args.history.now (plain_configuration c.args.state.now) c.loop-taken.taken c.loop-taken.history
    (plain_configuration c.loop-taken.state) c.args.steps c.loop-taken.invariant.within none c.loop-taken.invariant.so_far))

pub loop-taken-preserved : goal.loop-taken-preserved
loop-taken-preserved c =
    let goes : GoesBack c.loop-taken.history (plain_configuration c.loop-taken.state) c.back.new.self (plain_configuration c.back.new.state) =
    search rules in
    record {
      so_far =
          one_more c.args.history.now (plain_configuration c.args.state.now) c.loop-taken.taken c.loop-taken.history
          (plain_configuration c.loop-taken.state) c.back.new.self (plain_configuration c.back.new.state) c.loop-taken.invariant.so_far goes;
      able = search rules;
      operands = search rules;
      within = search rules;
    }
