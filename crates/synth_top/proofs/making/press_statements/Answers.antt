-- Each turn of the loop presses the keys for one statement more, after those for the ones before it; where memory ran
-- out in one, its keys are the first of those that are left.
use Rattle.std.proofs.Common.{◌≡◌, ◌+◌, ap, refl, sym, arith}
use Rattle.std.proofs.lemmas.Result.{err_from_is_err_and}
use Rattle.synth_top.specs.Private.MakingText.{one_more_keys, statements_keys}
use Rattle.synth_top.proofs.MadeKeys.{keys_as, none_made, then_made, then_unmade, unmade_as, unmade_keys_as, unmade_to}
use Rattle.synth_top.proofs.MadeTexts.{no_statements, statements_front, statements_more}
use Rattle.synth_top.proofs.making.press_statements.Goals as goal

-- none was pressed
pub loop-before-init : goal.loop-before-init
loop-before-init g c = record {
  made = keys_as _ _ _ _ _ _ (sym no_statements) (none_made _ _ _ _ refl refl);
  ready = c.requires;
}

-- those of one statement more were
pub loop-before-preserved : goal.loop-before-preserved
loop-before-preserved g c = record {
  made = keys_as _ _ _ _ _ _ (statements_more c.loop-before.before)
      (then_made (statements_keys c.loop-before.before)
      (one_more_keys (c.loop-before.before + 1)) _ _ _ _ c.loop-before.invariant.made _ _
      c.in_ok-press_statement.ensures.made);
  ready = c.press_statement.ensures.ready;
}

-- memory ran out in one of them
pub returns-in_err-press_statement-clause-made : goal.returns-in_err-press_statement-clause-made
returns-in_err-press_statement-clause-made g c =
    let p = err_from_is_err_and c.from_residual.result c.from_residual.ensures.1 in
    let number = c.loop-before.before in
    unmade_as _ _ _ _ _ _ _ p.1
    (unmade_to (statements_keys (number + 1)) (statements_keys c.args.number) _ _ _
    (statements_front (number + 1) c.args.number (omega arith))
    (unmade_keys_as _ _ _ _ _ (statements_more number)
    (then_unmade (statements_keys number)
    (one_more_keys (number + 1)) _ _ _ _ c.loop-before.invariant.made _ c.in_err-press_statement.ensures.made)))

-- all were pressed
pub returns-clause-made : goal.returns-clause-made
returns-clause-made g c =
    let all : c.loop-before.before ≡ c.args.number = omega arith in
    keys_as _ _ _ _ _ _ (ap statements_keys all) c.loop-before.invariant.made
