use Rattle.std.specs.Prelude.{◌≡◌, ◌≤◌, ◌+◌, ◌-◌, All, drop, length, map, take, vec_capacity}
use Rattle.screen_window.specs.declared.limit.TheConstants.{MOST_COLS}
use Rattle.plcs_machine.specs.Fetched.{FetchesBy}
use Rattle.synth_session.specs.declared.code_rows.TheConstants.{LONGEST_CODE_ROW, MOST_CODE_ROWS}
use Rattle.synth_session.specs.ProgramCode.{code_lines, instrs_in}
use Rattle.synth_session.proofs.code_rows.CodeRows.fill.Given as goal

abbrev pub decreases-loop-filled : goal.decreases-loop-filled
decreases-loop-filled g l = l.rows - l.filled

abbrev pub invariant-loop-filled : goal.invariant-loop-filled
invariant-loop-filled g l = record {
  within : l.filled ≤ l.rows;
  many : length l.self-inside.rows.items ≡ MOST_CODE_ROWS;
  room : All (λ row. LONGEST_CODE_ROW ≤ vec_capacity row) l.self-inside.rows.items;
  number : l.number ≡ l.from + l.filled;
  few : l.filled ≤ l.count - l.from;
  rows : take l.filled (map (λ text. text.items) l.self-inside.rows.items)
      ≡ take l.filled (map (take MOST_COLS) (drop l.from (code_lines 0 (instrs_in (g.C.CodeView.code l.code) (l.start, l.count)))));
  counted : FetchesBy l.filled (g.W.Work.counts l.fn.work) (g.W.Work.counts l.work);
}
