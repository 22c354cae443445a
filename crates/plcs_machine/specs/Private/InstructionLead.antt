-- What single instructions lead to, beside the rows of their table, and parts of what they lead to.
use Rattle.std.specs.Prelude.{ℕ, ℤ, ◌+ℤ◌, if◌then◌else◌, List, Some, None}
use Rattle.std.specs.FinMap.{get}
use Rattle.plcs_base.specs.declared.value.Value.{Value}
use Rattle.plcs_grammar.specs.declared.operator.InfixOp.{InfixOp}
use Rattle.plcs_grammar.specs.declared.operator.PrefixOp.{PrefixOp}
use Rattle.plcs_code.specs.Gen.{PlainCode}
use Rattle.plcs_store.specs.declared.argument.Argument.{Argument}
use Rattle.plcs_store.specs.declared.cell.Location.{Location}
use Rattle.plcs_store.specs.declared.frame.Frame.{Frame}
use Rattle.plcs_store.specs.declared.kept_loop.KeptLoop.{KeptLoop}
use Rattle.plcs_store.specs.Operator.{fixed_value, infix_value, on_bit, on_number, prefix_value}
use Rattle.plcs_store.specs.Outcome.{Outcome, if_there, then_gives}
use Rattle.plcs_store.specs.Step.{entry_going, item_act, loop_going}
use Rattle.plcs_machine.specs.Lead.{Lead, acting_at, add_lead, body_address, enters_lead, get_lead, jump_target, jumped, load_lead, on_newest, on_newest_number, push_lead, reference_lead, store_lead, then_acts}

-- ---- operands and arguments

-- a single instruction: the newest operand is added as an argument
abbrev pub dummy_lead : (next : ℕ) → List Argument → List Value → Outcome Lead
dummy_lead next arguments values =
    on_newest (λ value others. add_lead next others arguments (Argument.Dummy value)) values

-- part of what single instructions lead to: what was computed is pushed
abbrev pub computed_lead : (next : ℕ) → List Value → List Argument → Outcome Value → Outcome Lead
computed_lead next values arguments computed = then_gives computed (push_lead next values arguments)

-- the single instruction of a prefix operator: what that makes of the newest operand is pushed
abbrev pub prefix_lead : (next : ℕ) → List Argument → PrefixOp → List Value → Outcome Lead
prefix_lead next arguments op values =
    on_newest (λ a others. then_gives (prefix_value op a) (push_lead next others arguments)) values

-- the single instruction of an infix operator: what that makes of the two newest operands is pushed
abbrev pub infix_lead : (next : ℕ) → List Argument → InfixOp → List Value → Outcome Lead
infix_lead next arguments op values =
    on_newest
    (λ b others. on_newest (λ a more. then_gives (infix_value op a b) (push_lead next more arguments)) others)
    values

-- ---- variables

-- a single instruction: the value of a cell of an array is pushed, whose subscript is the newest operand
abbrev pub load_at_lead : List Frame → (next : ℕ) → List Argument → (name : List ℕ) → List Value → Outcome Lead
load_at_lead frames next arguments name values =
    on_newest_number (λ z others. load_lead frames next arguments name (Some z) others) values

-- a single instruction: the newest operand is stored into a variable
abbrev pub store_newest_lead : List Frame → (next : ℕ) → (name : List ℕ) → List Value → Outcome Lead
store_newest_lead frames next name values = on_newest (λ value others. store_lead frames next name None value) values

-- a single instruction: the newest operand is stored into a cell of an array, whose subscript is the operand before it
abbrev pub store_at_lead : List Frame → (next : ℕ) → (name : List ℕ) → List Value → Outcome Lead
store_at_lead frames next name values =
    on_newest (λ value others. on_newest_number (λ z more. store_lead frames next name (Some z) value) others) values

-- a single instruction: a cell of an array is added as an argument, whose subscript is the newest operand
abbrev pub reference_at_lead : List Frame → (next : ℕ) → List Argument → (name : List ℕ) → List Value → Outcome Lead
reference_at_lead frames next arguments name values =
    on_newest_number (λ z others. reference_lead frames next arguments name (Some z) others) values

-- part of what the single instructions of GET lead to: an item of the input is read into the cell at a location
abbrev pub read_lead : List Frame → (rest : List ℕ) → (next : ℕ) → Location → Outcome Lead
read_lead frames rest next location = then_acts next (item_act frames rest location)

-- a single instruction: an item of the input is read into a cell of an array, whose subscript is the newest operand
abbrev pub get_at_lead : List Frame → (rest : List ℕ) → (next : ℕ) → (name : List ℕ) → List Value → Outcome Lead
get_at_lead frames rest next name values = on_newest_number (λ z others. get_lead frames rest next name (Some z)) values

-- ---- jumps and loops

-- a single instruction: a jump that a truth value asks for
abbrev pub jump_false_lead : (next : ℕ) → List Argument → ℤ → List Value → Outcome Lead
jump_false_lead next arguments d values =
    on_newest (λ value others. on_bit (λ b.
    if b then Outcome.gives (Lead.goes_on next others arguments) else jumped next others arguments d) value) values

-- part of what a single instruction leads to: a loop is entered whose variable stands at a location, or is over at once
abbrev pub entry_lead : List Frame → (next : ℕ) → KeptLoop → Location → (first : ℤ) → ℤ → Outcome Lead
entry_lead frames next kept location first d =
    then_gives (entry_going frames kept location first (body_address frames next) (jump_target next d)) acting_at

-- part of what a single instruction leads to: a loop goes on whose variable becomes this sum, or is left
abbrev pub sum_lead : List Frame → (next number : ℕ) → KeptLoop → Location → (sum : ℤ) → ℤ → Outcome Lead
sum_lead frames next number kept location sum d =
    then_gives (loop_going frames number kept location sum (jump_target next d) (Some next)) acting_at

-- part of what a single instruction leads to: the step of a loop is added to its variable, which has this value
abbrev pub iterate_lead : List Frame → (next number : ℕ) → KeptLoop → Location → (value : ℤ) → ℤ → Outcome Lead
iterate_lead frames next number kept location z d =
    then_gives (fixed_value (z +ℤ kept.step)) (on_number (λ sum. sum_lead frames next number kept location sum d))

-- ---- calls

-- a single instruction: the procedure of the name is called, with these arguments
abbrev pub named_call_lead : PlainCode → List Frame → (name : List ℕ) → List Argument → Outcome Lead
named_call_lead code frames name arguments =
    then_gives (if_there (get code.headings name)) (enters_lead frames arguments)
