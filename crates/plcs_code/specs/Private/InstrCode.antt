-- How instructions, blocks of them, codes of programs and their maps are told apart.
use Rattle.std.specs.Prelude.{◌≡◌, ℕ, List, Option, Some, None, refl}
use Rattle.std.specs.Coded.{Coded, code_by, coded×, coded_ℕ, coded_list, coded_option}
use Rattle.std.specs.FinMap.{code}
use Rattle.plcs_base.specs.contracts.place.Place as place_row
use Rattle.plcs_code.specs.declared.instr.Instr.{Instr}
use Rattle.plcs_code.specs.contracts.instr.Instr as instr_row
use Rattle.plcs_code.specs.contracts.heading_entry.HeadingEntry as entry_row
use Rattle.plcs_code.specs.Gen.{AddressMap, EntryMap, PlainCode, SpanMap}
use Rattle.plcs_code.specs.PlainInstr.{PlainInstr, plain_instr}

-- an instruction as one of the code, with its text beside it where it pushes one
abbrev pub spelled_instr : PlainInstr → Option (List ℕ) × Instr
spelled_instr (PlainInstr.place at) =
    (None, Instr.At record { slot = record { 0 = at.slot }; point = record { 0 = at.point } })
spelled_instr PlainInstr.suspend_placeholder = (None, Instr.SuspendPlaceholder)
spelled_instr PlainInstr.suspend_marked = (None, Instr.SuspendMarked)
spelled_instr (PlainInstr.push_number z) = (None, Instr.PushNumber z)
spelled_instr (PlainInstr.push_bit b) = (None, Instr.PushBit b)
spelled_instr (PlainInstr.push_text text) = (Some text, Instr.Leave)
spelled_instr (PlainInstr.load name) = (None, Instr.Load name)
spelled_instr (PlainInstr.load_at name) = (None, Instr.LoadAt name)
spelled_instr (PlainInstr.store name) = (None, Instr.Store name)
spelled_instr (PlainInstr.store_at name) = (None, Instr.StoreAt name)
spelled_instr (PlainInstr.unary op) = (None, Instr.Prefix op)
spelled_instr (PlainInstr.binary op) = (None, Instr.Infix op)
spelled_instr (PlainInstr.builtin function n) = (None, Instr.Builtin function n)
spelled_instr (PlainInstr.jump d) = (None, Instr.Jump d)
spelled_instr (PlainInstr.jump_false d) = (None, Instr.JumpFalse d)
spelled_instr (PlainInstr.for_enter slot name d) = (None, Instr.ForEnter record { 0 = slot } name d)
spelled_instr (PlainInstr.for_next slot name d) = (None, Instr.ForNext record { 0 = slot } name d)
spelled_instr (PlainInstr.get name) = (None, Instr.Get name)
spelled_instr (PlainInstr.get_at name) = (None, Instr.GetAt name)
spelled_instr (PlainInstr.put n) = (None, Instr.Put n)
spelled_instr (PlainInstr.put_skip n) = (None, Instr.PutSkip n)
spelled_instr (PlainInstr.reference name) = (None, Instr.Ref name)
spelled_instr (PlainInstr.reference_at name) = (None, Instr.RefAt name)
spelled_instr PlainInstr.dummy = (None, Instr.Dummy)
spelled_instr (PlainInstr.call name n) = (None, Instr.Call name n)
spelled_instr (PlainInstr.parameter name ty) = (None, Instr.Param name ty)
spelled_instr (PlainInstr.cell name ty n) = (None, Instr.Cell name ty n)
spelled_instr PlainInstr.leave = (None, Instr.Leave)

-- the instruction that is spelled so
abbrev pub spelled_back : Option (List ℕ) → Instr → PlainInstr
spelled_back None instr = plain_instr instr
spelled_back (Some text) instr = PlainInstr.push_text text

-- an instruction that is spelled is given back
pub spelling_back : (instr : PlainInstr) → spelled_back (spelled_instr instr).0 (spelled_instr instr).1 ≡ instr
spelling_back (PlainInstr.place at) = refl
spelling_back PlainInstr.suspend_placeholder = refl
spelling_back PlainInstr.suspend_marked = refl
spelling_back (PlainInstr.push_number z) = refl
spelling_back (PlainInstr.push_bit b) = refl
spelling_back (PlainInstr.push_text text) = refl
spelling_back (PlainInstr.load name) = refl
spelling_back (PlainInstr.load_at name) = refl
spelling_back (PlainInstr.store name) = refl
spelling_back (PlainInstr.store_at name) = refl
spelling_back (PlainInstr.unary op) = refl
spelling_back (PlainInstr.binary op) = refl
spelling_back (PlainInstr.builtin function n) = refl
spelling_back (PlainInstr.jump d) = refl
spelling_back (PlainInstr.jump_false d) = refl
spelling_back (PlainInstr.for_enter slot name d) = refl
spelling_back (PlainInstr.for_next slot name d) = refl
spelling_back (PlainInstr.get name) = refl
spelling_back (PlainInstr.get_at name) = refl
spelling_back (PlainInstr.put n) = refl
spelling_back (PlainInstr.put_skip n) = refl
spelling_back (PlainInstr.reference name) = refl
spelling_back (PlainInstr.reference_at name) = refl
spelling_back PlainInstr.dummy = refl
spelling_back (PlainInstr.call name n) = refl
spelling_back (PlainInstr.parameter name ty) = refl
spelling_back (PlainInstr.cell name ty n) = refl
spelling_back PlainInstr.leave = refl

-- an instruction is told by how it is spelled
abbrev pub instr_code : Coded PlainInstr
instr_code =
    code_by (Option (List ℕ) × Instr) (coded× (coded_option (coded_list coded_ℕ)) instr_row.the_row.coded)
    spelled_instr (λ t. spelled_back t.0 t.1) spelling_back

-- a block is told by its instructions
abbrev pub block_code : Coded (List PlainInstr)
block_code = coded_list instr_code

-- the code of the map of spans that code in memory has
abbrev pub span_map_code : Coded SpanMap
span_map_code = code coded_ℕ (coded× coded_ℕ coded_ℕ)

-- the code of the map of addresses that code in memory has
abbrev pub address_map_code : Coded AddressMap
address_map_code = code place_row.the_row.coded coded_ℕ

-- the code of the map of effective headings that code in memory has
abbrev pub entry_map_code : Coded EntryMap
entry_map_code = code (coded_list coded_ℕ) entry_row.the_row.coded

-- the code of what a program's code in memory is seen as
abbrev pub plain_code_code : Coded PlainCode
plain_code_code =
    code_by (List PlainInstr × (AddressMap × (EntryMap × SpanMap)))
    (coded× block_code (coded× address_map_code (coded× entry_map_code span_map_code)))
    (λ whole. (whole.instrs, (whole.addresses, (whole.headings, whole.spans))))
    (λ t. record { instrs = t.0; addresses = t.1.0; headings = t.1.1.0; spans = t.1.1.1 }) (λ _. refl)
