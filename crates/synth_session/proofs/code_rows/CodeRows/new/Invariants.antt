use Rattle.std.specs.Prelude.{◌≡◌, ◌≤◌, All, length, vec_capacity}
use Rattle.synth_session.specs.declared.code_rows.TheConstants.{LONGEST_CODE_ROW}
use Rattle.synth_session.proofs.code_rows.CodeRows.new.Given as goal

abbrev pub invariant-loop : goal.invariant-loop
invariant-loop l = record {
  many : length l.rows.items ≡ l.counter;
  room : All (λ row. LONGEST_CODE_ROW ≤ vec_capacity row) l.rows.items;
}
