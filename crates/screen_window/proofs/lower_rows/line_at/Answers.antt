use Rattle.std.proofs.Common.{get_or, refl, ◌∙◌, arith}
use Rattle.std.proofs.lemmas.Bool.{ne_eqb, eq-eqb}
use Rattle.screen_window.proofs.OutputLines.{line_goes_on, next_line}
use Rattle.screen_window.proofs.lower_rows.line_at.Goals as goal

-- the byte is no line end
pub loop-at-preserved-then-bytes-at-ne10 : goal.loop-at-preserved-then-bytes-at-ne10
loop-at-preserved-then-bytes-at-ne10 c =
    let bytes = c.args.bytes.now in
    let at = c.loop-at.at in
    record {
      behind = omega (arith, c.loop-at.invariant.behind);
      line =
          c.loop-at.invariant.line
          ∙ line_goes_on bytes c.loop-at.start at c.loop-at.left (get_or bytes at 0) c.loop-at.invariant.behind c.loop-at-test.true refl (ne_eqb (get_or bytes at 0) 10 c.if-bytes-at-ne10.true);
    }

-- the byte ends a line before
pub loop-at-preserved : goal.loop-at-preserved
loop-at-preserved c =
    let bytes = c.args.bytes.now in
    let at = c.loop-at.at in
    record {
      behind = omega arith;
      line =
          c.loop-at.invariant.line
          ∙ next_line bytes c.loop-at.start at c.loop-at.left (get_or bytes at 0) c.loop-at-test.true refl (eq-eqb (get_or bytes at 0) 10 c.if-bytes-at-ne10.false) (omega (arith, c.if-left-eq0.false));
    }
