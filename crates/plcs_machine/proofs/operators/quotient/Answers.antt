use Rattle.std.proofs.Common.{ap, sym, ◌∙◌}
use Rattle.std.specs.Prelude.{Bool, if◌then◌else◌, int_div}
use Rattle.plcs_store.specs.declared.fault_kind.FaultKind.{FaultKind}
use Rattle.plcs_store.specs.Operator.{fixed_value}
use Rattle.plcs_store.specs.Outcome.{faults}
use Rattle.plcs_machine.proofs.WholeNumbers.{other_tested, quotient_given, zero_tested}
use Rattle.plcs_machine.proofs.operators.quotient.Goals as goal

pub returns : goal.returns
returns c =
    let a = c.args.a in
    let b = c.args.b in
    c.fixed_value.ensures
    ∙ ap fixed_value (quotient_given a b c.from.result c.from-2.result c.ranges.a c.ranges.b c.from.ensures c.from-2.ensures)
    ∙ ap (λ (zero : Bool). if zero then faults FaultKind.ZeroDivide else fixed_value (int_div a b)) (sym (other_tested b c.ranges.b c.if-b-eq0.false))

pub returns-then-b-eq0 : goal.returns-then-b-eq0
returns-then-b-eq0 c =
    ap (λ (zero : Bool). if zero then faults FaultKind.ZeroDivide else fixed_value (int_div c.args.a c.args.b))
    (sym (zero_tested c.args.b c.ranges.b c.if-b-eq0.true))
