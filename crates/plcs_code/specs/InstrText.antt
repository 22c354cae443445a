-- The table of instructions: how each is shown.
use Rattle.std.specs.Prelude.{ℕ, List, [], ◌∷◌, ◌++◌, codes, decimal}
use Rattle.std.specs.Fmt.{signed_decimal}
use Rattle.plcs_base.specs.declared.declared.ItemType.{ItemType}
use Rattle.plcs_grammar.specs.Builtin.{builtin_name}
use Rattle.plcs_grammar.specs.Sign.{sign_bytes, prefix_sign, infix_sign}
use Rattle.plcs_grammar.specs.Token.{quoted, bit_bytes}
use Rattle.plcs_code.specs.PlainInstr.{PlainInstr}

-- how a type is shown in an instruction
abbrev pub type_text : ItemType → List ℕ
type_text ItemType.Fixed = codes "FIXED"
type_text ItemType.Bit = codes "BIT"
type_text (ItemType.Text n) = codes "CHARACTER " ++ decimal n

-- the table: the word of each instruction and the texts of its operands, in order
abbrev pub instr_words : PlainInstr → List (List ℕ)
instr_words (PlainInstr.place at) = codes "At" ∷ decimal at.slot ∷ decimal at.point ∷ []
instr_words PlainInstr.suspend_placeholder = codes "Suspend" ∷ codes "Placeholder" ∷ []
instr_words PlainInstr.suspend_marked = codes "Suspend" ∷ codes "Marked" ∷ []
instr_words (PlainInstr.push_number z) = codes "Push" ∷ signed_decimal z ∷ []
instr_words (PlainInstr.push_bit b) = codes "Push" ∷ bit_bytes b ∷ []
instr_words (PlainInstr.push_text text) = codes "Push" ∷ quoted text ∷ []
instr_words (PlainInstr.load name) = codes "Load" ∷ name ∷ []
instr_words (PlainInstr.load_at name) = codes "LoadAt" ∷ name ∷ []
instr_words (PlainInstr.store name) = codes "Store" ∷ name ∷ []
instr_words (PlainInstr.store_at name) = codes "StoreAt" ∷ name ∷ []
instr_words (PlainInstr.unary op) = codes "Prefix" ∷ sign_bytes (prefix_sign op) ∷ []
instr_words (PlainInstr.binary op) = codes "Infix" ∷ sign_bytes (infix_sign op) ∷ []
instr_words (PlainInstr.builtin function n) = codes "Builtin" ∷ builtin_name function ∷ decimal n ∷ []
instr_words (PlainInstr.jump d) = codes "Jump" ∷ signed_decimal d ∷ []
instr_words (PlainInstr.jump_false d) = codes "JumpFalse" ∷ signed_decimal d ∷ []
instr_words (PlainInstr.for_enter slot name d) = codes "ForEnter" ∷ decimal slot ∷ name ∷ signed_decimal d ∷ []
instr_words (PlainInstr.for_next slot name d) = codes "ForNext" ∷ decimal slot ∷ name ∷ signed_decimal d ∷ []
instr_words (PlainInstr.get name) = codes "Get" ∷ name ∷ []
instr_words (PlainInstr.get_at name) = codes "GetAt" ∷ name ∷ []
instr_words (PlainInstr.put n) = codes "Put" ∷ decimal n ∷ []
instr_words (PlainInstr.put_skip n) = codes "PutSkip" ∷ decimal n ∷ []
instr_words (PlainInstr.reference name) = codes "Ref" ∷ name ∷ []
instr_words (PlainInstr.reference_at name) = codes "RefAt" ∷ name ∷ []
instr_words PlainInstr.dummy = codes "Dummy" ∷ []
instr_words (PlainInstr.call name n) = codes "Call" ∷ name ∷ decimal n ∷ []
instr_words (PlainInstr.parameter name ty) = codes "Param" ∷ name ∷ type_text ty ∷ []
instr_words (PlainInstr.cell name ty n) = codes "Cell" ∷ name ∷ type_text ty ∷ decimal n ∷ []
instr_words PlainInstr.leave = codes "Leave" ∷ []

-- words with one blank between each two
abbrev pub spaced : List (List ℕ) → List ℕ
spaced [] = []
spaced (word ∷ []) = word
spaced (word ∷ (next ∷ words)) = word ++ (32 ∷ spaced (next ∷ words))

-- the text of an instruction
abbrev pub instr_text : PlainInstr → List ℕ
instr_text instr = spaced (instr_words instr)
