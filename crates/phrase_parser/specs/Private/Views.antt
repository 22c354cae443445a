-- What the builder's bases, stacks, roles and states stand for in the machine.
use Rattle.std.specs.Prelude.{List, [], ◌∷◌, map}
use Rattle.plcs_grammar.specs.declared.expr.Expr.{Expr}
use Rattle.plcs_grammar.specs.PlainPhrase.{PlainExpr, PlainVarRef, plain_expr, plain_exprs, plain_var_ref}
use Rattle.phrase_parser.specs.Private.Machine as machine
use Rattle.phrase_parser.specs.declared.builder.base.Base.{Base}
use Rattle.phrase_parser.specs.declared.builder.base.Base.TheVariants as base
use Rattle.phrase_parser.specs.declared.builder.stack.ParseFrame.{ParseFrame}
use Rattle.phrase_parser.specs.declared.builder.stack.ParseFrame.TheVariants as frame
use Rattle.phrase_parser.specs.declared.builder.stack.ParseStack.{ParseStack}
use Rattle.phrase_parser.specs.declared.builder.primary.Primary.{Primary}
use Rattle.phrase_parser.specs.declared.builder.primary.Primary.TheVariants as primary
use Rattle.phrase_parser.specs.declared.builder.role.Role.{Role}
use Rattle.phrase_parser.specs.declared.builder.role.Role.TheVariants as role
use Rattle.phrase_parser.specs.declared.builder.state.ParseState.{ParseState}
use Rattle.phrase_parser.specs.declared.builder.state.ParseState.TheVariants as state

-- the machine's base that the builder's stands for: what an expression that stands in no other is for
abbrev pub base_of : Base → machine.Base
base_of base.Condition = machine.Base.condition
base_of base.Expression = machine.Base.expression
base_of (base.Expressions done) = machine.Base.expressions (plain_exprs done.items)
base_of (base.Assigned target) = machine.Base.assigned (plain_var_ref target)
base_of (base.TargetSubscript name) = machine.Base.target_subscript name
base_of (base.VariableSubscript done name) = machine.Base.variable_subscript (map plain_var_ref done.items) name
base_of (base.CallArguments name done) = machine.Base.call_arguments name (plain_exprs done.items)

-- the machine's stack with one frame of the builder more
abbrev pub pushed : ParseFrame → machine.ParseStack → machine.ParseStack
pushed (frame.Prefix op) s = machine.ParseStack.prefix op s
pushed (frame.Left a op) s = machine.ParseStack.left (plain_expr a) op s
pushed frame.Parenthesis s = machine.ParseStack.parenthesis s
pushed (frame.Subscript name) s = machine.ParseStack.subscript name s
pushed (frame.Arguments function done) s = machine.ParseStack.arguments function (plain_exprs done.items) s

-- the machine's stack with the frames of the builder on it, the innermost last
abbrev pub stack_on : machine.ParseStack → List ParseFrame → machine.ParseStack
stack_on s [] = s
stack_on s (f ∷ fs) = stack_on (pushed f s) fs

-- the machine's stack that the builder's stands for: all that stands open around an operand
abbrev pub stack_of : ParseStack → machine.ParseStack
stack_of s = stack_on (machine.ParseStack.base (base_of s.base)) s.frames.items

-- the expression that the builder's primary stands for: an operand that is no operator with operands of its own
abbrev pub primary_of : Primary → PlainExpr
primary_of (primary.Number z) = PlainExpr.number z
primary_of (primary.Text value) = PlainExpr.text value.value
primary_of (primary.Bit value) = PlainExpr.bit value
primary_of (primary.Name name) = PlainExpr.variable (PlainVarRef.simple name)
primary_of (primary.Subscripted name index) = PlainExpr.variable (PlainVarRef.subscripted name (plain_expr index.value))
primary_of (primary.Call function passed) = PlainExpr.builtin function (plain_exprs passed.items)
primary_of (primary.Parenthesized t) = PlainExpr.parenthesized (plain_expr t.value)

-- the machine's role that the builder's stands for: what a name that stands in no expression is for
abbrev pub role_of : Role → machine.Role
role_of role.Target = machine.Role.target
role_of (role.Variables done) = machine.Role.variables (map plain_var_ref done.items)
role_of role.Callee = machine.Role.callee
role_of (role.Items done) = machine.Role.items done.items
role_of (role.Names done) = machine.Role.names done.items
role_of role.Variable = machine.Role.variable
role_of role.Procedure = machine.Role.procedure

-- the machine's state that the builder's stands for: what was read last, and what is wanted
abbrev pub state_of : ParseState → machine.ParseState
state_of (state.Wanted s) = machine.ParseState.wanted (stack_of s)
state_of (state.Had s t) = machine.ParseState.had (stack_of s) (primary_of t)
state_of (state.NameWanted role) = machine.ParseState.name_wanted (role_of role)
state_of (state.NameHad role name) = machine.ParseState.name_had (role_of role) name
state_of (state.TargetHad target) = machine.ParseState.target_had (plain_var_ref target)
state_of (state.VariableHad done) = machine.ParseState.variable_had (map plain_var_ref done.items)
state_of (state.CallHad name passed) = machine.ParseState.call_had name (plain_exprs passed.items)
state_of (state.SizeWanted done name) = machine.ParseState.size_wanted done.items name
state_of (state.SizeHad done name n) = machine.ParseState.size_had done.items name n
state_of (state.ItemHad done) = machine.ParseState.item_had done.items
state_of state.LengthWanted = machine.ParseState.length_wanted
state_of (state.LengthHad n) = machine.ParseState.length_had n

-- the machine's stack and operand that the builder's stand for
abbrev pub pair_of : ParseStack × Expr → machine.Operand
pair_of o = (stack_of o.0, plain_expr o.1)
