use Rattle.std.proofs.Common.{ℤ, ap, sym, ◌∙◌}
use mir.Syntax.{w32}
use mir.Val.{of_z, to_z}
use Rattle.plcs_base.specs.declared.value.Value.{Value}
use Rattle.plcs_grammar.specs.declared.operator.InfixOp.{InfixOp}
use Rattle.plcs_store.specs.Operator.{fixed_value, infix_value, quotient}
use Rattle.plcs_machine.proofs.WholeNumbers.{difference_given, passed, product_given, sum_given}
use Rattle.plcs_machine.proofs.operators.infix_numbers.Goals as goal

pub returns-in-Plus : goal.returns-in-Plus
returns-in-Plus c =
    c.fixed_value.ensures
    ∙ ap fixed_value (sum_given c.args.a c.args.b c.from.result c.from-in-Plus.result c.ranges.a c.ranges.b c.from.ensures c.from-in-Plus.ensures)
    ∙ ap (λ (op : InfixOp). infix_value op (Value.Fixed c.args.a) (Value.Fixed c.args.b)) (sym c.in-Plus.is)

pub returns-in-Minus : goal.returns-in-Minus
returns-in-Minus c =
    c.fixed_value-in-Minus.ensures
    ∙ ap fixed_value (difference_given c.args.a c.args.b c.from-in-Minus.result c.from-in-Minus-2.result c.ranges.a c.ranges.b c.from-in-Minus.ensures c.from-in-Minus-2.ensures)
    ∙ ap (λ (op : InfixOp). infix_value op (Value.Fixed c.args.a) (Value.Fixed c.args.b)) (sym c.in-Minus.is)

pub returns-in-Times : goal.returns-in-Times
returns-in-Times c =
    c.fixed_value-in-Times.ensures
    ∙ ap fixed_value (product_given c.args.a c.args.b c.from-in-Times.result c.from-in-Times-2.result c.ranges.a c.ranges.b c.from-in-Times.ensures c.from-in-Times-2.ensures)
    ∙ ap (λ (op : InfixOp). infix_value op (Value.Fixed c.args.a) (Value.Fixed c.args.b)) (sym c.in-Times.is)

pub returns-in-Divide : goal.returns-in-Divide
returns-in-Divide c =
    c.quotient.ensures
    ∙ ap (λ (z : ℤ). quotient z (to_z w32 (of_z w32 c.args.b))) (passed c.args.a c.ranges.a)
    ∙ ap (quotient c.args.a) (passed c.args.b c.ranges.b)
    ∙ ap (λ (op : InfixOp). infix_value op (Value.Fixed c.args.a) (Value.Fixed c.args.b)) (sym c.in-Divide.is)
