use Rattle.std.proofs.Common.{rules, ◌≤◌, ℕ, ◌∷◌, ◌++◌, List, drop, length, map, take, vec_capacity, Vec, Global, Option, Some, ap, ◌∙◌, arith}
use Rattle.std.specs.Prelude.{decimal}
use Rattle.std.proofs.lemmas.List.Elements.{All-set}
use Rattle.screen_window.specs.declared.limit.TheConstants.{MOST_COLS}
use Rattle.plcs_code.specs.InstrText.{instr_text}
use Rattle.plcs_code.specs.PlainInstr.{PlainInstr, plain_instr}
use Rattle.synth_session.specs.declared.code_rows.TheConstants.{LONGEST_CODE_ROW}
use Rattle.synth_session.specs.ProgramCode.{code_lines, instrs_in}
use Rattle.synth_session.proofs.CodeLines.{all_filled, line_shown, one_fetched, row_more}
use Rattle.synth_session.proofs.code_rows.CodeRows.fill.Goals as goal

pub loop-filled-preserved : goal.loop-filled-preserved
loop-filled-preserved g c =
    let code = g.C.CodeView.code c.args.code.now in
    let rows = c.loop-filled.self-inside.rows.items in
    let instr = plain_instr c.instr.result.now in
    let lines = map (take MOST_COLS) (drop c.args.from (code_lines 0 (instrs_in code (c.args.start, c.args.count)))) in
    let text : Vec ℕ Global → List ℕ = λ row. row.items in
    record {
      within = search rules;
      many = search rules;
      room = All-set (λ (row : Vec ℕ Global). LONGEST_CODE_ROW ≤ vec_capacity row) rows c.loop-filled.filled c.fill_row.new.row
          c.fill_row.ensures.room c.loop-filled.invariant.room;
      number = search rules;
      few = search rules;
      rows =
          row_more text rows c.fill_row.new.row c.loop-filled.filled lines
          (take MOST_COLS (decimal c.loop-filled.number ++ (32 ∷ instr_text instr))) (search rules) c.loop-filled.invariant.rows
          (line_shown code.instrs c.args.start c.args.count c.args.from c.loop-filled.filled c.loop-filled.number instr
          c.loop-filled.invariant.number c.if-number-count.true
          (ap (λ (i : PlainInstr). let fetched : Option PlainInstr = Some i in fetched) c.instr.ensures ∙ c.fetch.ensures.fetched))
          c.fill_row.ensures.text;
      counted =
          one_fetched c.loop-filled.filled (g.W.Work.counts c.args.work.now) (g.W.Work.counts c.loop-filled.work)
          (g.W.Work.counts c.fetch.new.work) c.loop-filled.invariant.counted c.fetch.ensures.counted;
    }

pub returns-else-number-count-clause-rows : goal.returns-else-number-count-clause-rows
returns-else-number-count-clause-rows g c =
    let within = c.loop-filled.invariant.within in
    let number = c.loop-filled.invariant.number in
    let few = c.loop-filled.invariant.few in
    let last = c.if-number-count.false in
    c.loop-filled.invariant.rows
    ∙ all_filled (g.C.CodeView.code c.args.code.now).instrs c.args.start c.args.count c.args.from c.args.rows c.loop-filled.filled
    c.requires.whole (omega (arith, within, number, few, last))
