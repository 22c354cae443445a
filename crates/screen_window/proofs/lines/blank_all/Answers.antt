use Rattle.std.proofs.Common.{◌≡◌, ◌<◌, ◌-◌, ℕ, [], length, replicate, get_or, arith, ap, ◌∙◌}
use Rattle.std.proofs.lemmas.List.Elements.{All-get_or}
use Rattle.std.proofs.lemmas.List.{length-map, length-set, length-replicate}
use Rattle.screen_window.proofs.ChangedLines.{blank_more, widths_more}
use Rattle.screen_window.specs.Private.PlainForm.{plain_lines}
use Rattle.screen_window.proofs.lines.blank_all.Goals as goal

-- one more row is blank
pub loop-row-preserved : goal.loop-row-preserved
loop-row-preserved c =
    let lines = plain_lines c.loop-row.lines in
    let olds = plain_lines c.args.lines.now in
    let before : c.loop-row.row < length olds =
    omega (arith, length-map c.args.lines.now.items (λ line. line.items), c.args.lines.now.ok.0, c.loop-row-test.true, c.len-row-end.ensures) in
    let below : c.loop-row.row < length lines = omega (arith, before, c.loop-row.invariant.count) in
    let width : length (get_or lines c.loop-row.row []) ≡ c.args.cols =
    All-get_or (λ line. length line ≡ c.args.cols) lines c.loop-row.row [] below c.loop-row.invariant.widths in
    let all : length (get_or lines c.loop-row.row []) - 0 ≡ c.args.cols = omega (arith, width) in
    record {
      lines = c.set_tail.ensures ∙ blank_more lines olds c.loop-row.row c.args.cols c.loop-row.invariant.lines before width;
      count = ap length c.set_tail.ensures ∙ length-set lines c.loop-row.row _ ∙ c.loop-row.invariant.count;
      widths =
          widths_more lines (plain_lines c.set_tail.new.lines) c.loop-row.row c.args.cols (replicate (length (get_or lines c.loop-row.row []) - 0) 32)
          c.set_tail.ensures (length-replicate {A = ℕ} (length (get_or lines c.loop-row.row []) - 0) 32 ∙ all) c.loop-row.invariant.widths;
    }
