-- Code that is kept node by node, as plain data, and the code of a program that it tells.
use Rattle.std.specs.Prelude.{ℕ, ◌+◌, List, [], ◌∷◌, ◌++◌, length, sum, flat_map, Option, Some, None}
use Rattle.std.specs.FinMap.{from_entries}
use Rattle.std.specs.Option.{option_to_list}
use Rattle.plcs_base.specs.Mark.{MarkMap}
use Rattle.plcs_base.specs.Scope.{ItemMap}
use Rattle.template_tree.specs.Checks.Marks.{Marks}
use Rattle.template_tree.specs.Programs.PlainTree.{Forest}
use Rattle.plcs_code.specs.declared.heading_entry.HeadingEntry.{HeadingEntry}
use Rattle.plcs_code.specs.declared.node_span.NodeSpan.{NodeSpan}
use Rattle.plcs_code.specs.Gen.{PlainCode, addresses_in, code_with, codes_joined, node_address, span_by_slot}
use Rattle.plcs_code.specs.OwnCode.{PlainOwnCode, jumps_beside, own_code_by}
use Rattle.plcs_code.specs.PlainInstr.{PlainInstr}
use Rattle.plcs_code.specs.ProgramCode.{program_items}

-- ---- what is kept

-- nodes in order, of each of which the own code is kept, with how many more items its list has room for, and what
-- stands inside it
pub data CodeForest : Type 0 where
  nil : CodeForest
  cons : (own : PlainOwnCode) (spare : ℕ) (inner rest : CodeForest) → CodeForest

-- a kept node: its own code, with how many more nodes there is room for inside it, and what is kept of those inside it
pub record PlainCodeNode : Type 0 where
  pub own : PlainOwnCode
  pub spare : ℕ
  pub inner : CodeForest

-- kept nodes in order as a list
abbrev pub code_nodes : CodeForest → List PlainCodeNode
code_nodes CodeForest.nil = []
code_nodes (CodeForest.cons own spare inner rest) =
    record { own = own; spare = spare; inner = inner } ∷ code_nodes rest

-- what is kept of the code of a program, by these marks and effective items, without room
abbrev pub kept_code : MarkMap → ItemMap → Forest → CodeForest
kept_code marks items Forest.nil = CodeForest.nil
kept_code marks items (Forest.cons label inner rest) =
    CodeForest.cons (own_code_by marks items label) 0 (kept_code marks items inner) (kept_code marks items rest)

-- what is kept of the code of a program, by its own marks and its own effective items
abbrev pub kept_program : (program : Forest) → CodeForest
kept_program program = kept_code (Marks program) (program_items program) program

-- ---- the code that it tells

-- how many instructions own code has, its jumps among them, where the codes inside have these lengths
abbrev pub own_count : PlainOwnCode → (lengths : List ℕ) → ℕ
own_count own lengths =
    let around = jumps_beside own lengths in
    length own.pieces.before
    + (length (option_to_list around.ahead)
    + (length (option_to_list around.between) + (length own.pieces.behind + length (option_to_list around.back))))

-- how many instructions the code of a kept node has, where the codes inside have these lengths
abbrev pub count_around : PlainOwnCode → (lengths : List ℕ) → ℕ
count_around own lengths = own_count own lengths + sum lengths

-- how many instructions the code of each of the kept nodes has
abbrev pub kept_lengths : CodeForest → List ℕ
kept_lengths CodeForest.nil = []
kept_lengths (CodeForest.cons own spare inner rest) = count_around own (kept_lengths inner) ∷ kept_lengths rest

-- the code of each of the kept nodes in order, what stands inside it included
abbrev pub kept_codes : CodeForest → List (List PlainInstr)
kept_codes CodeForest.nil = []
kept_codes (CodeForest.cons own spare inner rest) =
    code_with own.pieces (jumps_beside own (kept_lengths inner)) (kept_codes inner) ∷ kept_codes rest

-- where the codes of kept nodes stand, and of those inside them, the first at an address, with a gap behind the first
abbrev pub kept_spans : (start gap : ℕ) → CodeForest → List NodeSpan
kept_spans start gap CodeForest.nil = []
kept_spans start gap (CodeForest.cons own spare inner rest) =
    let around = jumps_beside own (kept_lengths inner) in
    let whole = count_around own (kept_lengths inner) in
    record { slot = record { 0 = own.slot }; kind = own.kind; start = start; length = whole }
    ∷ (kept_spans (start + length own.pieces.before + length (option_to_list around.ahead))
    (length (option_to_list around.between)) inner
    ++ kept_spans (start + whole + gap) 0 rest)

-- the heading of kept code at an address, by the name by which calls find it, if they do
abbrev pub heading_named : (slot address : ℕ) → Option (List ℕ) → List (List ℕ × HeadingEntry)
heading_named slot address None = []
heading_named slot address (Some name) = (name, record { address = address; slot = record { 0 = slot } }) ∷ []

-- the headings of kept main and procedures in order, by their names, the first at an address
abbrev pub kept_headings : (start : ℕ) → CodeForest → List (List ℕ × HeadingEntry)
kept_headings start CodeForest.nil = []
kept_headings start (CodeForest.cons own spare inner rest) =
    heading_named own.slot start own.name ++ kept_headings (start + count_around own (kept_lengths inner)) rest

-- the code of a program that is kept node by node
abbrev pub told_code : CodeForest → PlainCode
told_code nodes =
    let instrs = codes_joined (kept_codes nodes) in
    let spans = kept_spans 0 0 nodes in
    record {
      instrs = instrs;
      addresses = from_entries (flat_map node_address spans ++ addresses_in 0 instrs);
      headings = from_entries (kept_headings 0 nodes);
      spans = from_entries (flat_map span_by_slot spans);
    }
