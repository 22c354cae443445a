-- Each turn of the loop presses the key of one byte more, after those of the bytes before it.
use Rattle.std.proofs.Common.{◌+◌, ◌∷◌, [], ◌++◌, drop, get_or, map, take, refl, arith}
use Rattle.std.proofs.lemmas.Result.{err_from_is_err_and}
use Rattle.synth_top.specs.Keys.{key_of}
use Rattle.synth_top.proofs.MadeKeys.{keys_as, none_made, then_made, then_unmade, unmade_as, unmade_before, unmade_keys_as}
use Rattle.synth_top.proofs.MadeTexts.{text_all, text_more, text_whole}
use Rattle.synth_top.proofs.making.press_text.Goals as goal

-- none was pressed
pub loop-byte-init : goal.loop-byte-init
loop-byte-init g c = record { made = none_made _ _ _ _ refl refl; ready = c.requires }

-- that of one byte more was
pub loop-byte-preserved : goal.loop-byte-preserved
loop-byte-preserved g c =
    let text = c.args.text.now in
    let at = c.loop-byte.byte-index in
    record {
      made = keys_as _ _ _ _ _ _ (text_more text at c.loop-byte-test.true)
          (then_made (map key_of (take at text))
          (key_of (get_or text at 0) ∷ []) _ _ _ _ c.loop-byte.invariant.made _ _ (rw c.key_of.ensures at c.in_ok-press.ensures.made));
      ready = c.press.ensures.ready;
    }

-- memory ran out in its turn
pub returns-in_err-press-clause-made : goal.returns-in_err-press-clause-made
returns-in_err-press-clause-made g c =
    let p = err_from_is_err_and c.from_residual.result c.from_residual.ensures.1 in
    let text = c.args.text.now in
    let at = c.loop-byte.byte-index in
    unmade_as _ _ _ _ _ _ _ p.1
    (unmade_keys_as _ _ _ _ _ (text_whole text at c.loop-byte-test.true)
    (unmade_before (map key_of (take at text) ++ key_of (get_or text at 0) ∷ []) (map key_of (drop (at + 1) text)) _ _ _
    (then_unmade (map key_of (take at text))
    (key_of (get_or text at 0) ∷ []) _ _ _ _ c.loop-byte.invariant.made _ (rw c.key_of.ensures at c.in_err-press.ensures.made))))

-- all were pressed
pub returns-clause-made : goal.returns-clause-made
returns-clause-made g c =
    keys_as _ _ _ _ _ _ (text_all c.args.text.now c.loop-byte.byte-index (omega arith)) c.loop-byte.invariant.made
