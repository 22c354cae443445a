use Rattle.std.proofs.Common.{◌≡◌, Result, Ok, Err, IfOk, ap, ◌∙◌, codes}
use Rattle.std.proofs.lemmas.Result.{IfOk-weaker}
use Rattle.std.specs.Prelude.{IsOkAnd}
use Rattle.clap.specs.Words.{App, Rule, app_of, new_rule, with_rule}
use Rattle.synth_top.specs.Private.ClapCommand.{bare_app, option_rule}
use Rattle.synth_top.proofs.command.command_with_options.Goals as goal

-- the rule of an option more is added to those of the command before
added : {C E : Type 0} (shape : C → App) (before after : Result C E) (app : App) (rule : Rule)
    → IfOk after (λ a. IsOkAnd before (λ b. shape a ≡ with_rule (shape b) rule)) → IfOk before (λ b. shape b ≡ app)
    → IfOk after (λ a. shape a ≡ with_rule app rule)
added shape (Ok b) (Ok a) app rule is so = is ∙ ap (λ x. with_rule x rule) so
added shape (Ok b) (Err e) app rule is so = tt
added shape (Err d) (Ok a) app rule is so = absurd is
added shape (Err d) (Err e) app rule is so = tt

-- the rules are added one by one
pub returns : goal.returns
returns c =
    let rows_app = with_rule bare_app (option_rule (codes "rows")) in
    let cols_app = with_rule rows_app (option_rule (codes "cols")) in
    let keys_app = with_rule cols_app (option_rule (codes "keys")) in
    let input_app = with_rule keys_app (option_rule (codes "input")) in
    let rows = added app_of (Ok c.bare_command.result) c.with_option-rows.result bare_app (option_rule (codes "rows"))
    c.with_option-rows.ensures c.bare_command.ensures in
    let cols = added app_of c.with_option-rows.result c.with_option-cols.result rows_app (option_rule (codes "cols"))
    c.with_option-cols.ensures rows in
    let keys = added app_of c.with_option-cols.result c.with_option-keys.result cols_app (option_rule (codes "keys"))
    c.with_option-keys.ensures cols in
    let input = added app_of c.with_option-keys.result c.with_option-input.result keys_app (option_rule (codes "input"))
    c.with_option-input.ensures keys in
    IfOk-weaker c.with_option.result _ _ (λ command is. ap (λ app. with_rule app (new_rule (codes "program"))) is)
    (added app_of c.with_option-input.result c.with_option.result input_app (option_rule (codes "make")) c.with_option.ensures input)
