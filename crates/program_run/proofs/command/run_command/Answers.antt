use Rattle.std.proofs.Common.{◌∙◌, ap₂}
use Rattle.std.proofs.lemmas.Result.{IfOk-weaker}
use Rattle.clap.specs.Simple.{with_rule}
use Rattle.program_run.proofs.command.run_command.Goals as goal

-- the rules are added one by one
pub returns : goal.returns
returns c =
    let steps = c.in_ok-arg.ensures.shape c.steps_option.ensures.local ∙ ap₂ with_rule c.unflagged_command.ensures c.steps_option.ensures.rule in
    let program = c.in_ok-arg-2.ensures.shape c.word_named.ensures.local ∙ ap₂ with_rule steps c.word_named.ensures.rule in
    IfOk-weaker c.arg-3.result _ _ (λ command adds. adds.shape c.word_named-2.ensures.local ∙ ap₂ with_rule program c.word_named-2.ensures.rule) c.arg-3.ensures
