-- What the own code of a node is made of: its pieces, and what its jumps depend on beside the lengths of the codes
-- inside it. It is kept with code that is mended where a program is edited.
use Rattle.std.specs.Prelude.{◌≡◌, ℕ, ◌+◌, ◌≤◌, Bool, false, if◌then◌else◌, List, [], ◌∷◌, length, take, Option, Some, None, is_some}
use Rattle.std.specs.Option.{option_to_list}
use Rattle.plcs_base.specs.Mark.{MarkMap}
use Rattle.plcs_base.specs.Scope.{ItemMap}
use Rattle.plcs_grammar.specs.declared.node_kind.NodeKind.{NodeKind}
use Rattle.template_tree.specs.Checks.Environment.{Heading, heading_of, may_be_called}
use Rattle.template_tree.specs.Programs.Part.{part_at}
use Rattle.template_tree.specs.Programs.PlainTree.{Label}
use Rattle.plcs_code.specs.ExprCode.{counter_name}
use Rattle.plcs_code.specs.Pieces.{CodeJumps, CodePieces, count_pieces, first_length, kind_jumps, other_lengths, pieces, suspension}
use Rattle.plcs_code.specs.PlainInstr.{PlainInstr}

-- what the own code of a node is made of: the node's slot and kind, the name by which calls find it, the variable with
-- which it counts, whether what stands in all its parts is stopped, and in the first one alone, and its pieces
pub record PlainOwnCode : Type 0 where
  pub slot : ℕ
  pub kind : NodeKind
  pub name : Option (List ℕ)
  pub counter : Option (List ℕ)
  pub all_stopped : Bool
  pub one_stopped : Bool
  pub pieces : CodePieces

-- the name in a heading by which calls find its procedure, if it is whole and may be called
abbrev pub name_to_call : Option Heading → Option (List ℕ)
name_to_call None = None
name_to_call (Some heading) = if may_be_called heading.name then Some heading.name else None

-- what the own code of a node of a program is made of
abbrev pub own_code_by : MarkMap → ItemMap → Label → PlainOwnCode
own_code_by marks items label =
    record {
      slot = label.slot;
      kind = label.kind;
      name = name_to_call (heading_of label.kind label.parts);
      counter = counter_name (part_at label.parts 0);
      all_stopped = is_some (suspension marks label.slot label.parts);
      one_stopped = is_some (suspension marks label.slot (take 1 label.parts));
      pieces = pieces marks items label;
    }

-- the own code of a node that has none, neither pieces nor jumps
abbrev pub no_own_code : PlainOwnCode
no_own_code =
    record {
      slot = 0;
      kind = NodeKind.ProcedureHole;
      name = None;
      counter = None;
      all_stopped = false;
      one_stopped = false;
      pieces = record { before = []; behind = [] };
    }

-- the jumps of own code, where the first code inside has one length, and the others together have another
abbrev pub jumps_around : PlainOwnCode → (first others : ℕ) → CodeJumps
jumps_around own first others =
    kind_jumps own.slot own.counter own.all_stopped own.one_stopped (count_pieces own.pieces) first others own.kind

-- the jumps of own code, where the codes inside have these lengths
abbrev pub jumps_beside : PlainOwnCode → (lengths : List ℕ) → CodeJumps
jumps_beside own lengths = jumps_around own (first_length lengths) (other_lengths lengths)

-- ---- laws

-- each step of instructions, as of a node's own code, ends at a place of the slot
abbrev pub EndInSlot : (slot : ℕ) → List PlainInstr → Type 0
EndInSlot slot [] = Unit {0}
EndInSlot slot (PlainInstr.place at ∷ instrs) = (at.slot ≡ slot) × EndInSlot slot instrs
EndInSlot slot (other ∷ instrs) = EndInSlot slot instrs

-- the law that the steps of a node's own code end at places of the node's slot
abbrev pub OwnStepsEndInSlot : Type 0
OwnStepsEndInSlot =
    (marks : MarkMap) (items : ItemMap) (label : Label)
    → EndInSlot label.slot (pieces marks items label).before × EndInSlot label.slot (pieces marks items label).behind

-- the law that own code has two jumps at most
abbrev pub JumpsAreFew : Type 0
JumpsAreFew =
    (own : PlainOwnCode) (first others : ℕ)
    → let around = jumps_around own first others in
    length (option_to_list around.ahead)
    + (length (option_to_list around.between) + length (option_to_list around.back))
    ≤ 2
