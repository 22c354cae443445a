-- What a comparison makes of how two values are ordered.
use Rattle.std.specs.Prelude.{Option, Some, None}
use Rattle.std.specs.Ordering.{is_eq, is_ge, is_gt, is_le, is_lt, is_ne}
use Rattle.std.specs.declared.cmp.Ordering.{Ordering}
use Rattle.plcs_base.specs.declared.value.Value.{Value}
use Rattle.plcs_grammar.specs.declared.operator.InfixOp.{InfixOp}

-- what a comparison, told by its operator, makes of how two values are ordered; none where the operator is no
-- comparison
abbrev pub comparison : InfixOp → Ordering → Option Value
comparison InfixOp.Or order = None
comparison InfixOp.And order = None
comparison InfixOp.Equal order = Some (Value.Bit (is_eq order))
comparison InfixOp.NotEqual order = Some (Value.Bit (is_ne order))
comparison InfixOp.Less order = Some (Value.Bit (is_lt order))
comparison InfixOp.LessEqual order = Some (Value.Bit (is_le order))
comparison InfixOp.Greater order = Some (Value.Bit (is_gt order))
comparison InfixOp.GreaterEqual order = Some (Value.Bit (is_ge order))
comparison InfixOp.Join order = None
comparison InfixOp.Plus order = None
comparison InfixOp.Minus order = None
comparison InfixOp.Times order = None
comparison InfixOp.Divide order = None
