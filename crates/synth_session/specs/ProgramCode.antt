-- The code of a program in a session, by its own marks and effective items.
use Rattle.std.specs.Prelude.{ℕ, ◌+◌, List, [], ◌∷◌, ◌++◌, decimal, drop, flat_map, length, map, take}
use Rattle.std.specs.FinMap.{get}
use Rattle.std.specs.Option.{option_map_or}
use Rattle.template_tree.specs.Positions.Path.{node_at}
use Rattle.template_tree.specs.Positions.Stop.{PlainStop}
use Rattle.template_tree.specs.Programs.PlainTree.{PlainTree}
use Rattle.screen_window.specs.declared.limit.TheConstants.{MOST_COLS}
use Rattle.plcs_code.specs.Gen.{PlainCode}
use Rattle.plcs_code.specs.InstrText.{instr_text}
use Rattle.plcs_code.specs.PlainInstr.{PlainInstr}
use Rattle.plcs_code.specs.ProgramCode.{program_code}

-- ---- the code

-- the code of a program
unfoldable pub code_of : PlainTree → PlainCode
code_of tree = program_code tree.items

-- how many instructions the code of a program has
abbrev pub code_length : PlainTree → ℕ
code_length tree = length (code_of tree).instrs

-- ---- the code of a node

-- the instructions of code in a span: so many from an address on
abbrev pub instrs_in : PlainCode → (span : ℕ × ℕ) → List PlainInstr
instrs_in code span = take span.1 (drop span.0 code.instrs)

-- the code of what stands in a slot of the program, which has none where a declaration or a hole for a procedure stands
abbrev pub slot_code : PlainTree → (slot : ℕ) → List PlainInstr
slot_code tree slot = option_map_or (instrs_in (code_of tree)) (get (code_of tree).spans slot) []

-- the code of the node at a stop, which at a part is that of the part's owner
unfoldable pub code_at : PlainTree → PlainStop → List PlainInstr
code_at tree stop = option_map_or (λ node. slot_code tree node.label.slot) (node_at tree.items stop.path) []

-- ---- how code is shown

-- instructions as they are shown, each in a line of its own: its number, of which the first has this one, and its text
abbrev pub code_lines : (number : ℕ) → List PlainInstr → List (List ℕ)
code_lines number [] = []
code_lines number (instr ∷ instrs) = (decimal number ++ (32 ∷ instr_text instr)) ∷ code_lines (number + 1) instrs

-- the whole code of a program as text: each line of it with its line end
abbrev pub code_text : PlainTree → List ℕ
code_text tree = flat_map (λ line. line ++ 10 ∷ []) (code_lines 0 (code_of tree).instrs)

-- so many rows of the code of the node at a stop, from the instruction of this number on, each as far as the widest
-- screen may show it
abbrev pub code_rows : (rows : ℕ) → PlainTree → PlainStop → (from : ℕ) → List (List ℕ)
code_rows rows tree stop from = take rows (map (take MOST_COLS) (drop from (code_lines 0 (code_at tree stop))))
