use Rattle.std.proofs.Common.{◌++◌}
use Rattle.std.proofs.lemmas.Result.{err_from_is_err_and}
use Rattle.synth_top.specs.Private.MakingText.{first_keys, last_keys, statements_keys}
use Rattle.synth_top.proofs.MadeKeys.{made_then, then_unmade, unmade_as, unmade_before}
use Rattle.synth_top.proofs.making.press_all.Goals as goal

-- the first keys, those for the statements, and the last ones
pub returns-clause-made : goal.returns-clause-made
returns-clause-made g c =
    let first = first_keys in
    let statements = statements_keys c.args.number in
    let last = last_keys in
    made_then first (statements ++ last) _ _ _ _ c.in_ok-press_first.ensures.made _ _ c.press_text.result
    (made_then statements last _ _ _ _ c.in_ok-press_statements.ensures.made _ _ c.press_text.result
    c.press_text.ensures.made)

pub returns-in_err-press_first-clause-made : goal.returns-in_err-press_first-clause-made
returns-in_err-press_first-clause-made g c =
    let first = first_keys in
    let statements = statements_keys c.args.number in
    let last = last_keys in
    let p = err_from_is_err_and c.from_residual.result c.from_residual.ensures.1 in
    unmade_as _ _ _ _ _ _ _ p.1 (unmade_before first (statements ++ last) _ _ _ c.in_err-press_first.ensures.made)

pub returns-in_err-press_statements-clause-made : goal.returns-in_err-press_statements-clause-made
returns-in_err-press_statements-clause-made g c =
    let first = first_keys in
    let statements = statements_keys c.args.number in
    let last = last_keys in
    let p = err_from_is_err_and c.from_residual-in_err-press_statements.result
    c.from_residual-in_err-press_statements.ensures.1 in
    unmade_as _ _ _ _ _ _ _ p.1 (then_unmade first (statements ++ last) _ _ _ _ c.in_ok-press_first.ensures.made _
    (unmade_before statements last _ _ _ c.in_err-press_statements.ensures.made))
