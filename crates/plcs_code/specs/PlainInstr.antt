-- Instructions as plain data, with the bytes of each name and text.
use Rattle.std.specs.Prelude.{ℕ, ℤ, Bool, List}
use Rattle.plcs_base.specs.declared.declared.ItemType.{ItemType}
use Rattle.plcs_base.specs.declared.place.Place.{Place}
use Rattle.plcs_grammar.specs.declared.builtin.Builtin.{Builtin}
use Rattle.plcs_grammar.specs.declared.operator.InfixOp.{InfixOp}
use Rattle.plcs_grammar.specs.declared.operator.PrefixOp.{PrefixOp}
use Rattle.template_tree.specs.Positions.Place.{PlainPlace, place_at}
use Rattle.plcs_code.specs.declared.instr.Instr.{Instr}

-- an instruction as plain data. A jump's number goes from the instruction behind the jump to the one that comes next
pub data PlainInstr : Type 0 where
  place : PlainPlace → PlainInstr
  suspend_placeholder : PlainInstr
  suspend_marked : PlainInstr
  push_number : ℤ → PlainInstr
  push_bit : Bool → PlainInstr
  push_text : List ℕ → PlainInstr
  load : List ℕ → PlainInstr
  load_at : List ℕ → PlainInstr
  store : List ℕ → PlainInstr
  store_at : List ℕ → PlainInstr
  unary : PrefixOp → PlainInstr
  binary : InfixOp → PlainInstr
  builtin : Builtin → ℕ → PlainInstr
  jump : ℤ → PlainInstr
  jump_false : ℤ → PlainInstr
  for_enter : ℕ → List ℕ → ℤ → PlainInstr
  for_next : ℕ → List ℕ → ℤ → PlainInstr
  get : List ℕ → PlainInstr
  get_at : List ℕ → PlainInstr
  put : ℕ → PlainInstr
  put_skip : ℕ → PlainInstr
  reference : List ℕ → PlainInstr
  reference_at : List ℕ → PlainInstr
  dummy : PlainInstr
  call : List ℕ → ℕ → PlainInstr
  parameter : List ℕ → ItemType → PlainInstr
  cell : List ℕ → ItemType → ℕ → PlainInstr
  leave : PlainInstr

-- the place of a run that instructions as plain data have in this plain form
abbrev pub place_of : PlainPlace → Place
place_of at = record { slot = record { 0 = at.slot }; point = record { 0 = at.point } }

-- the plain form of an instruction
abbrev pub plain_instr : Instr → PlainInstr
plain_instr (Instr.At at) = PlainInstr.place (place_at at.slot.0 at.point.0)
plain_instr Instr.SuspendPlaceholder = PlainInstr.suspend_placeholder
plain_instr Instr.SuspendMarked = PlainInstr.suspend_marked
plain_instr (Instr.PushNumber z) = PlainInstr.push_number z
plain_instr (Instr.PushBit b) = PlainInstr.push_bit b
plain_instr (Instr.PushText text) = PlainInstr.push_text text.value
plain_instr (Instr.Load name) = PlainInstr.load name
plain_instr (Instr.LoadAt name) = PlainInstr.load_at name
plain_instr (Instr.Store name) = PlainInstr.store name
plain_instr (Instr.StoreAt name) = PlainInstr.store_at name
plain_instr (Instr.Prefix op) = PlainInstr.unary op
plain_instr (Instr.Infix op) = PlainInstr.binary op
plain_instr (Instr.Builtin function n) = PlainInstr.builtin function n
plain_instr (Instr.Jump d) = PlainInstr.jump d
plain_instr (Instr.JumpFalse d) = PlainInstr.jump_false d
plain_instr (Instr.ForEnter slot name d) = PlainInstr.for_enter slot.0 name d
plain_instr (Instr.ForNext slot name d) = PlainInstr.for_next slot.0 name d
plain_instr (Instr.Get name) = PlainInstr.get name
plain_instr (Instr.GetAt name) = PlainInstr.get_at name
plain_instr (Instr.Put n) = PlainInstr.put n
plain_instr (Instr.PutSkip n) = PlainInstr.put_skip n
plain_instr (Instr.Ref name) = PlainInstr.reference name
plain_instr (Instr.RefAt name) = PlainInstr.reference_at name
plain_instr Instr.Dummy = PlainInstr.dummy
plain_instr (Instr.Call name n) = PlainInstr.call name n
plain_instr (Instr.Param name ty) = PlainInstr.parameter name ty
plain_instr (Instr.Cell name ty n) = PlainInstr.cell name ty n
plain_instr Instr.Leave = PlainInstr.leave
