-- The bytes before the number, the number, the bytes behind it and the line are put in turn, each behind those before
-- it.
use Rattle.std.proofs.Common.{◌++◌, codes, subst, ap, ◌∙◌}
use Rattle.std.specs.Prelude.{ℕ, List, decimal}
use Rattle.plcs_base.specs.Put.{PutsAll}
use Rattle.program_run.specs.ReportText.{unindented}
use Rattle.program_run.proofs.report.put_numbered.Goals as goal

pub returns : goal.returns
returns g c =
    let line = c.args.line.now in
    let in_turn = c.puts_in_turn.ensures in
    let number : PutsAll g.O.ByteOut.puts c.put_bytes.new.out (decimal line.number) c.put_decimal.new.out =
    subst (λ (n : ℕ). PutsAll g.O.ByteOut.puts c.put_bytes.new.out (decimal n) c.put_decimal.new.out) c.number.ensures c.put_decimal.ensures in
    let text : PutsAll g.O.ByteOut.puts c.put_bytes-2.new.out (unindented line.text) c.put_bytes-3.new.out =
    subst (λ (bytes : List ℕ). PutsAll g.O.ByteOut.puts c.put_bytes-2.new.out bytes c.put_bytes-3.new.out)
    (c.unindented.ensures ∙ ap unindented c.as_bytes.ensures) c.put_bytes-3.ensures in
    let behind = (in_turn c.put_decimal.new.out c.put_bytes-3.new.out (codes ": ") (unindented line.text)).0 (c.put_bytes-2.new.out, c.put_bytes-2.ensures, text) in
    let numbered = (in_turn c.put_bytes.new.out c.put_bytes-3.new.out (decimal line.number) (codes ": " ++ unindented line.text)).0 (c.put_decimal.new.out, number, behind) in
    (in_turn c.args.out.now c.put_bytes-3.new.out (codes ", line ") (decimal line.number ++ (codes ": " ++ unindented line.text))).0
    (c.put_bytes.new.out, c.put_bytes.ensures, numbered)
