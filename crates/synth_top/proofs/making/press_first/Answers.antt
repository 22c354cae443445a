-- The keys are pressed part by part: where all were, these are the parts one after the other, and else the parts up to
-- the one at which memory ran out.
use Rattle.std.proofs.Common.{[], ◌∷◌, ◌++◌, codes}
use Rattle.std.proofs.lemmas.Result.{err_from_is_err_and}
use Rattle.synth_session.specs.declared.key.Key.TheVariants.{Up, Down}
use Rattle.synth_top.specs.Private.MakingText.{line_keys}
use Rattle.synth_top.proofs.MadeKeys.{made_then, then_unmade, unmade_as, unmade_before}
use Rattle.synth_top.proofs.making.press_first.Goals as goal

-- the keys before those for the statements, one after the other
pub returns-clause-made : goal.returns-clause-made
returns-clause-made g c =
    let up = Up ∷ [] in
    let declared = line_keys (codes ".fixed") ++ line_keys (codes "x") in
    let down = Down ∷ [] in
    let set = line_keys (codes "x = 0") in
    made_then up (declared ++ (down ++ set)) _ _ _ _ c.in_ok-press.ensures.made _ _ c.press_text-2.result
    (made_then declared (down ++ set) _ _ _ _ c.in_ok-press_text.ensures.made _ _ c.press_text-2.result
    (made_then down set _ _ _ _ c.in_ok-press-2.ensures.made _ _ c.press_text-2.result
    c.press_text-2.ensures.made))

pub returns-in_err-press-clause-made : goal.returns-in_err-press-clause-made
returns-in_err-press-clause-made g c =
    let up = Up ∷ [] in
    let declared = line_keys (codes ".fixed") ++ line_keys (codes "x") in
    let down = Down ∷ [] in
    let set = line_keys (codes "x = 0") in
    let p = err_from_is_err_and c.from_residual.result c.from_residual.ensures.1 in
    unmade_as _ _ _ _ _ _ _ p.1 (unmade_before up (declared ++ (down ++ set)) _ _ _ c.in_err-press.ensures.made)

pub returns-in_err-press_text-clause-made : goal.returns-in_err-press_text-clause-made
returns-in_err-press_text-clause-made g c =
    let up = Up ∷ [] in
    let declared = line_keys (codes ".fixed") ++ line_keys (codes "x") in
    let down = Down ∷ [] in
    let set = line_keys (codes "x = 0") in
    let p = err_from_is_err_and c.from_residual-in_err-press_text.result c.from_residual-in_err-press_text.ensures.1 in
    unmade_as _ _ _ _ _ _ _ p.1 (then_unmade up (declared ++ (down ++ set)) _ _ _ _ c.in_ok-press.ensures.made _
    (unmade_before declared (down ++ set) _ _ _ c.in_err-press_text.ensures.made))

pub returns-in_err-press-2-clause-made : goal.returns-in_err-press-2-clause-made
returns-in_err-press-2-clause-made g c =
    let up = Up ∷ [] in
    let declared = line_keys (codes ".fixed") ++ line_keys (codes "x") in
    let down = Down ∷ [] in
    let set = line_keys (codes "x = 0") in
    let p = err_from_is_err_and c.from_residual-in_err-press-2.result c.from_residual-in_err-press-2.ensures.1 in
    unmade_as _ _ _ _ _ _ _ p.1 (then_unmade up (declared ++ (down ++ set)) _ _ _ _ c.in_ok-press.ensures.made _
    (then_unmade declared (down ++ set) _ _ _ _ c.in_ok-press_text.ensures.made _
    (unmade_before down set _ _ _ c.in_err-press-2.ensures.made)))
