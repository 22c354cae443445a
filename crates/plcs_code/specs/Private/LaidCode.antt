-- Code while it is laid node by node, with the lengths that were counted ahead.
use Rattle.std.specs.Prelude.{◌≡◌, ℕ, Bool, true, false, List, [], ◌∷◌, ◌++◌, length, refl}
use Rattle.std.specs.Coded.{Coded, code_by, coded×, coded_list}
use Rattle.std.specs.Option.{option_to_list}
use Rattle.plcs_base.specs.Mark.{MarkMap}
use Rattle.plcs_base.specs.Scope.{ItemMap}
use Rattle.plcs_base.specs.declared.declared.Declared.{Declared}
use Rattle.plcs_grammar.specs.declared.node_kind.Sort.{Sort}
use Rattle.template_tree.specs.Programs.PlainTree.{Forest, Label}
use Rattle.plcs_code.specs.contracts.lengths.NodeLength as length_row
use Rattle.plcs_code.specs.contracts.node_span.NodeSpan as span_row
use Rattle.plcs_code.specs.declared.lengths.NodeLength.{NodeLength}
use Rattle.plcs_code.specs.declared.node_span.NodeSpan.{NodeSpan}
use Rattle.plcs_code.specs.Gen.{codes_around, length_around, node_codes, node_lengths, node_spans}
use Rattle.plcs_code.specs.Pieces.{CodeJumps, count_pieces, first_length, other_lengths, own_jumps, own_pieces, pieces}
use Rattle.plcs_code.specs.PlainInstr.{PlainInstr}
use Rattle.plcs_code.specs.Private.InstrCode.{block_code}

-- ---- items

-- whether the own code of a node of the sort depends on items, by which it is laid
abbrev pub has_items : Sort → Bool
has_items Sort.Main = true
has_items Sort.Procedure = true
has_items Sort.Declaration = false
has_items Sort.Statement = false

-- a node that is laid has the pieces that it has with these items
abbrev pub HasItems : ItemMap → Label → List Declared → Type 0
HasItems map label items = (marks : MarkMap) → own_pieces marks items label ≡ pieces marks map label

-- ---- lengths counted ahead

-- lengths that were counted ahead of code that is laid node by node are told by their list
abbrev pub lengths_code : Coded (List NodeLength)
lengths_code = coded_list length_row.the_row.coded

-- the length of a node's code, counted ahead, inside which the codes of nodes have these lengths
abbrev pub length_of : MarkMap → ItemMap → Label → (lengths : List ℕ) → NodeLength
length_of marks items label lengths =
    record {
      whole = length_around marks items label lengths;
      pieces = count_pieces (pieces marks items label);
      first = first_length lengths;
      others = other_lengths lengths;
    }

-- the lengths of nodes and of those inside them, counted ahead, in listing order
abbrev pub listed_lengths : MarkMap → ItemMap → Forest → List NodeLength
listed_lengths marks items Forest.nil = []
listed_lengths marks items (Forest.cons label inner rest) =
    length_of marks items label (node_lengths marks items inner)
    ∷ (listed_lengths marks items inner ++ listed_lengths marks items rest)

-- ---- code laid so far

-- code while it is laid: the instructions so far, and where nodes stand
pub record PlainLaid : Type 0 where
  pub instrs : List PlainInstr
  pub spans : List NodeSpan

-- code while it is laid is told by its fields
abbrev pub laid_code : Coded PlainLaid
laid_code =
    code_by (List PlainInstr × List NodeSpan) (coded× block_code (coded_list span_row.the_row.coded))
    (λ laid. (laid.instrs, laid.spans)) (λ t. record { instrs = t.0; spans = t.1 }) (λ _. refl)

-- code while it is laid node by node, with some more instructions
abbrev pub with_instrs : List PlainInstr → PlainLaid → PlainLaid
with_instrs code laid = record { instrs = laid.instrs ++ code; spans = laid.spans }

-- code while it is laid node by node, with one more span
abbrev pub with_span : NodeSpan → PlainLaid → PlainLaid
with_span span laid = record { instrs = laid.instrs; spans = laid.spans ++ (span ∷ []) }

-- code while it is laid, with the codes of nodes, the first of which has this behind it
abbrev pub with_nodes : MarkMap → ItemMap → (between : List PlainInstr) → Forest → PlainLaid → PlainLaid
with_nodes marks items between nodes laid =
    record {
      instrs = laid.instrs ++ codes_around between (node_codes marks items nodes);
      spans = laid.spans ++ node_spans marks items (length laid.instrs) (length between) nodes;
    }

-- in code that is laid node by node, the jumps of a node, by the lengths that were counted ahead of the codes of the
-- nodes inside it
abbrev pub jumps_by : MarkMap → ItemMap → Label → NodeLength → CodeJumps
jumps_by marks items label lengths =
    own_jumps marks label lengths.pieces lengths.first lengths.others

-- what is laid in a node's own code before what is inside, with the jump ahead
abbrev pub front : MarkMap → ItemMap → Label → NodeLength → List PlainInstr
front marks items label lengths =
    (pieces marks items label).before ++ option_to_list (jumps_by marks items label lengths).ahead

-- the lengths that were counted ahead begin with these
abbrev pub BeginWith : List NodeLength → List NodeLength → Type 0
BeginWith first lengths = (rest : List NodeLength) × (lengths ≡ first ++ rest)
