use Rattle.std.proofs.Common.{ap, ◌∙◌}
use Rattle.std.proofs.lemmas.Result.{IfOk-weaker}
use Rattle.clap.specs.Words.{app_of, with_rule}
use Rattle.synth_top.proofs.command.synth_command.Goals as goal

-- the word that stands by itself comes after the options
pub returns-in-Ok : goal.returns-in-Ok
returns-in-Ok c =
    IfOk-weaker c.arg.result _ _
    (λ command adds. adds.shape c.program_word.ensures.local ∙ ap (with_rule (app_of c.in-Ok.command)) c.program_word.ensures.rule ∙ c.in-Ok.ensures)
    c.arg.ensures
