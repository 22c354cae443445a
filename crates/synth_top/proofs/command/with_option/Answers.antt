use Rattle.std.proofs.Common.{◌≡◌, Result, Ok, ap, subst, sym, ◌∙◌}
use Rattle.std.proofs.lemmas.Result.{IfOk-weaker}
use Rattle.std.specs.Prelude.{IsOkAnd}
use Rattle.clap.specs.Words.{app_of, with_rule}
use Rattle.synth_top.specs.Private.ClapCommand.{option_rule}
use Rattle.synth_top.proofs.command.with_option.Goals as goal

-- what holds of the command before is told of the result that has it
told_of : {C E : Type 0} (P : C → Type 0) (before : Result C E) (command : C) → before ≡ Ok command → P command
    → IsOkAnd before P
told_of P before command is so = subst (λ r. IsOkAnd r P) (sym is) so

-- its rule comes after those of the command before
pub returns-in-Ok : goal.returns-in-Ok
returns-in-Ok c =
    IfOk-weaker c.arg.result _ _
    (λ command adds.
    told_of (λ before. app_of command ≡ with_rule (app_of before) (option_rule c.args.name.now)) c.args.command
    c.in-Ok.command c.in-Ok.is
    (adds.shape c.option_named.ensures.local ∙ ap (with_rule (app_of c.in-Ok.command)) c.option_named.ensures.rule))
    c.arg.ensures
