use Rattle.std.proofs.Common.{◌≡◌, ℕ, List, drop, length, map, take, Option, Some, option_map, ap, subst, sym, ◌∙◌}
use Rattle.std.specs.Option.{option_map_or}
use Rattle.std.proofs.lemmas.List.{length-take-le}
use Rattle.template_tree.specs.Positions.Stop.{plain_stop}
use Rattle.template_tree.specs.Programs.PlainTree.{roomless_tree}
use Rattle.screen_window.specs.declared.limit.TheConstants.{MOST_COLS}
use Rattle.plcs_code.specs.PlainInstr.{PlainInstr}
use Rattle.plcs_machine.specs.Fetched.{FetchesBy}
use Rattle.synth_session.specs.ProgramCode.{code_lines, code_rows}
use Rattle.synth_session.proofs.session_screen.shown_code.Goals as goal

pub returns-in-Some-clause-rows : goal.returns-in-Some-clause-rows
returns-in-Some-clause-rows g c =
    let tree = roomless_tree c.args.program.now.tree in
    let stop = plain_stop c.args.stop.now in
    ap (λ (shown : List (List ℕ)). let o : Option (List (List ℕ)) = Some shown in o)
    (c.fill.ensures.rows
    ∙ ap
    (λ (instrs : List PlainInstr). take c.args.rows (map (take MOST_COLS) (drop c.in-Some.from (code_lines 0 instrs))))
    c.code_span-start.ensures.span)
    ∙ sym (ap (option_map (code_rows c.args.rows tree stop)) c.in-Some.is)

pub returns-in-Some-clause-counted : goal.returns-in-Some-clause-counted
returns-in-Some-clause-counted g c =
    let shown : ◌≡◌ {A = Option (List (List ℕ))} (Some (take c.fill.result c.fill.new.self)) _ = returns-in-Some-clause-rows g c in
    subst (λ (n : ℕ). FetchesBy n (g.W.Work.counts c.args.work.now) (g.W.Work.counts c.fill.new.work))
    (sym (length-take-le c.fill.result c.fill.new.self c.fill.ensures.within)
    ∙ ap (λ (o : Option (List (List ℕ))). option_map_or length o 0) shown)
    c.fill.ensures.counted
