-- The table of code: the pieces and jumps of each kind of node, beside the codes of the nodes inside it.
use Rattle.std.specs.Prelude.{ℕ, ◌+◌, ◌==◌, pos, neg_ℤ, Bool, true, false, not, ◌||◌, if◌then◌else◌, bytes_eq, List, [], ◌∷◌, ◌++◌, length, sum, take, flat_map, Option, Some, None, is_some, option_map, unwrap_or}
use Rattle.std.specs.FinMap.{get}
use Rattle.std.specs.List.{list_any}
use Rattle.std.specs.Option.{option_to_list}
use Rattle.plcs_base.specs.Mark.{MarkMap}
use Rattle.plcs_base.specs.Scope.{ItemMap}
use Rattle.plcs_base.specs.declared.declared.Declared.{Declared}
use Rattle.plcs_grammar.specs.declared.node_kind.NodeKind.{NodeKind}
use Rattle.plcs_grammar.specs.declared.template.Template.{Template}
use Rattle.plcs_grammar.specs.PlainPhrase.{PlainPhrase}
use Rattle.template_tree.specs.Checks.Environment.{item_named, parameters_given}
use Rattle.template_tree.specs.Checks.Mention.{phrase_at}
use Rattle.template_tree.specs.Programs.Part.{part_at}
use Rattle.template_tree.specs.Positions.Place.{place_at}
use Rattle.template_tree.specs.Programs.PlainTree.{Label}
use Rattle.template_tree.specs.Checks.ProgramMaps.{items_in}
use Rattle.plcs_code.specs.ExprCode.{part_instrs, items_instrs, listed_exprs, listed_instrs, get_targets, counter_name}
use Rattle.plcs_code.specs.PlainInstr.{PlainInstr}

-- ---- where a phrase is missing or marked

-- whether one of the parts is empty, so that a piece stops a run
abbrev pub has_empty : List (Option PlainPhrase) → Bool
has_empty [] = false
has_empty (place ∷ parts) = not (is_some place) || has_empty parts

-- whether one of the parts of the node in the slot is marked, so that a piece stops a run; the first of them has this
-- number
abbrev pub has_marked_part : MarkMap → (slot part : ℕ) → List (Option PlainPhrase) → Bool
has_marked_part marks slot part [] = false
has_marked_part marks slot part (place ∷ parts) =
    is_some (get marks (phrase_at slot part)) || has_marked_part marks slot (part + 1) parts

-- what stops a run that needs the first parts of the node in the slot: one that is empty, or else one that is marked
abbrev pub suspension : MarkMap → (slot : ℕ) → List (Option PlainPhrase) → Option PlainInstr
suspension marks slot parts =
    if has_empty parts then Some PlainInstr.suspend_placeholder
    else (if has_marked_part marks slot 0 parts then Some PlainInstr.suspend_marked else None)

-- the code of a piece, or what stops a run in its place
abbrev pub unless_stopped : Option PlainInstr → List PlainInstr → List PlainInstr
unless_stopped None code = code
unless_stopped (Some stop) code = stop ∷ []

-- ---- the pieces

-- the pieces of a node's own code, which don't depend on what stands inside it: before the code of that, and behind it
pub record CodePieces : Type 0 where
  pub before : List PlainInstr
  pub behind : List PlainInstr

-- how many instructions the pieces of a node have together
abbrev pub count_pieces : CodePieces → ℕ
count_pieces own = length own.before + length own.behind

-- the pieces of a node that has nothing of its own behind what stands inside it
abbrev pub one_piece : List PlainInstr → CodePieces
one_piece code = record { before = code; behind = [] }

-- a piece that begins at a point of a slot
abbrev pub piece_at : (slot point : ℕ) → Option PlainInstr → List PlainInstr → List PlainInstr
piece_at slot point stop code = PlainInstr.place (place_at slot point) ∷ unless_stopped stop code

-- the piece at a point of a slot that runs the code of the first part of the statement there
abbrev pub first_piece : (slot point : ℕ) → Option PlainInstr → List (Option PlainPhrase) → List PlainInstr
first_piece slot point stop parts = piece_at slot point stop (part_instrs (part_at parts 0))

-- the piece before a loop that counts: its first value, its limit and its step
abbrev pub enter_piece : (slot : ℕ) → Option PlainInstr → List (Option PlainPhrase) → List PlainInstr
enter_piece slot stop parts =
    piece_at slot 0 stop
    (part_instrs (part_at parts 1) ++ (part_instrs (part_at parts 2) ++ part_instrs (part_at parts 3)))

-- the piece of a GET
abbrev pub get_piece : (slot : ℕ) → Option PlainInstr → Option PlainPhrase → List PlainInstr
get_piece slot None phrase = items_instrs slot 0 (get_targets phrase)
get_piece slot (Some stop) phrase = PlainInstr.place (place_at slot 0) ∷ stop ∷ []

-- ---- procedures

-- the instruction of a procedure's piece that makes the cell of a parameter: none where no effective item, or an
-- array, has its name
abbrev pub parameter_instr : Option Declared → List PlainInstr
parameter_instr None = []
parameter_instr (Some item) = if item.size == 0 then PlainInstr.parameter item.name item.ty ∷ [] else []

-- the instruction of a procedure's piece that makes the cell of a parameter behind earlier ones, if none of them has
-- its name
abbrev pub new_parameter : List Declared → (earlier : List (List ℕ)) → List ℕ → List PlainInstr
new_parameter items earlier name =
    if list_any (bytes_eq name) earlier then [] else parameter_instr (item_named name items)

-- the instructions of a procedure's piece that make the cells of parameters behind earlier ones, each at its first
-- place in the list
abbrev pub parameters_instrs : List Declared → (earlier names : List (List ℕ)) → List PlainInstr
parameters_instrs items earlier [] = []
parameters_instrs items earlier (name ∷ names) =
    new_parameter items earlier name ++ parameters_instrs items (earlier ++ (name ∷ [])) names

-- the instruction of a procedure's piece that makes the cells of an effective item, if it is no parameter
abbrev pub cell_instr : (parameters : List (List ℕ)) → Declared → List PlainInstr
cell_instr parameters item =
    if list_any (bytes_eq item.name) parameters then [] else PlainInstr.cell item.name item.ty item.size ∷ []

-- the pieces of main or a procedure with these effective items and parameters: its cells, and its end
abbrev pub procedure_pieces : (slot : ℕ) → List Declared → (parameters : List (List ℕ)) → CodePieces
procedure_pieces slot items parameters =
    record {
      before = parameters_instrs items [] parameters ++ flat_map (cell_instr parameters) items;
      behind = PlainInstr.place (place_at slot 1) ∷ PlainInstr.leave ∷ [];
    }

-- ---- the table of pieces

-- the pieces of a node of the template in a slot, with what stops a run that needs all its parts, or the first one
abbrev pub template_pieces : (slot : ℕ) (all one : Option PlainInstr) (parts : List (Option PlainPhrase))
    → List Declared → Template → CodePieces
template_pieces slot all one parts items Template.Fixed = one_piece []
template_pieces slot all one parts items Template.Bit = one_piece []
template_pieces slot all one parts items Template.Char = one_piece []
template_pieces slot all one parts items Template.If = one_piece (first_piece slot 0 all parts)
template_pieces slot all one parts items Template.IfElse = one_piece (first_piece slot 0 all parts)
template_pieces slot all one parts items Template.While = one_piece (first_piece slot 0 all parts)
template_pieces slot all one parts items Template.For =
    record { before = enter_piece slot all parts; behind = piece_at slot 1 one [] }
template_pieces slot all one parts items Template.Until =
    record { before = []; behind = first_piece slot 1 one parts }
template_pieces slot all one parts items Template.Group = one_piece []
template_pieces slot all one parts items Template.Get = one_piece (get_piece slot all (part_at parts 0))
template_pieces slot all one parts items Template.Put =
    one_piece (piece_at slot 0 all (listed_instrs PlainInstr.put (listed_exprs (part_at parts 0))))
template_pieces slot all one parts items Template.PutSkip =
    one_piece (piece_at slot 0 all (listed_instrs PlainInstr.put_skip (listed_exprs (part_at parts 0))))
template_pieces slot all one parts items Template.Call = one_piece (first_piece slot 0 all parts)
template_pieces slot all one parts items Template.Return = one_piece (piece_at slot 0 None (PlainInstr.leave ∷ []))
template_pieces slot all one parts items Template.Comment = one_piece []
template_pieces slot all one parts items Template.Proc = procedure_pieces slot items []
template_pieces slot all one parts items Template.ProcP =
    procedure_pieces slot items (unwrap_or (parameters_given parts) [])

-- the pieces of a node of the kind, as those of a template are told
abbrev pub kind_pieces : (slot : ℕ) (all one : Option PlainInstr) (parts : List (Option PlainPhrase)) → List Declared
    → NodeKind → CodePieces
kind_pieces slot all one parts items NodeKind.DeclarationHole = one_piece []
kind_pieces slot all one parts items NodeKind.StatementHole =
    one_piece (piece_at slot 0 None (PlainInstr.suspend_placeholder ∷ []))
kind_pieces slot all one parts items NodeKind.ProcedureHole = one_piece []
kind_pieces slot all one parts items NodeKind.Main = procedure_pieces slot items []
kind_pieces slot all one parts items NodeKind.Assign = one_piece (first_piece slot 0 all parts)
kind_pieces slot all one parts items (NodeKind.Filled template) = template_pieces slot all one parts items template

-- the pieces of a node, where main or a procedure has these effective items
abbrev pub own_pieces : MarkMap → List Declared → Label → CodePieces
own_pieces marks items label =
    kind_pieces label.slot (suspension marks label.slot label.parts) (suspension marks label.slot (take 1 label.parts))
    label.parts items label.kind

-- ---- the jumps

-- the jumps of a node's own code, each one instruction or none: ahead, before the code of what stands inside it; behind
-- the first node there; and back, behind all
pub record CodeJumps : Type 0 where
  pub ahead : Option PlainInstr
  pub between : Option PlainInstr
  pub back : Option PlainInstr

-- the jumps beside the codes inside a node that has no jumps
abbrev pub no_jumps : CodeJumps
no_jumps = record { ahead = None; between = None; back = None }

-- a jump, but none where the piece that needs it is stopped
abbrev pub jump_unless : (stopped : Bool) → Option PlainInstr → Option PlainInstr
jump_unless true jump = None
jump_unless false jump = jump

-- the jump of a condition, which goes so far ahead where it is false
abbrev pub test_jump : (stopped : Bool) (ahead : ℕ) → Option PlainInstr
test_jump stopped ahead = jump_unless stopped (Some (PlainInstr.jump_false (pos ahead)))

-- the jump of a condition that is tested at the end, which goes so far back where it is false
abbrev pub test_back_jump : (stopped : Bool) (back : ℕ) → Option PlainInstr
test_back_jump stopped back = jump_unless stopped (Some (PlainInstr.jump_false (neg_ℤ (pos back))))

-- the instruction that enters a loop that counts with a variable, or jumps so far ahead
abbrev pub enter_jump : (slot : ℕ) (counter : Option (List ℕ)) (stopped : Bool) (ahead : ℕ) → Option PlainInstr
enter_jump slot counter stopped ahead =
    jump_unless stopped (option_map (λ name. PlainInstr.for_enter slot name (pos ahead)) counter)

-- the instruction for the next iteration of a loop that counts with a variable, which jumps so far back
abbrev pub iteration_jump : (slot : ℕ) (counter : Option (List ℕ)) (stopped : Bool) (back : ℕ) → Option PlainInstr
iteration_jump slot counter stopped back =
    jump_unless stopped (option_map (λ name. PlainInstr.for_next slot name (neg_ℤ (pos back))) counter)

-- the jump that goes so far back
abbrev pub back_jump : (back : ℕ) → Option PlainInstr
back_jump back = Some (PlainInstr.jump (neg_ℤ (pos back)))

-- ---- the table of jumps

-- the jumps of a node of the template in a slot, which counts with the variable, if it is there; where the piece that
-- needs all its parts is stopped or not, and the one that needs the first; where its pieces have so many instructions,
-- and of what is inside the first node has code of one length, and the others together of another
abbrev pub template_jumps : (slot : ℕ) (counter : Option (List ℕ)) (all one : Bool) (own first others : ℕ)
    → Template → CodeJumps
template_jumps slot counter all one own first others Template.Fixed = no_jumps
template_jumps slot counter all one own first others Template.Bit = no_jumps
template_jumps slot counter all one own first others Template.Char = no_jumps
template_jumps slot counter all one own first others Template.If =
    record { ahead = test_jump all (first + others); between = None; back = None }
template_jumps slot counter all one own first others Template.IfElse =
    record { ahead = test_jump all (first + 1); between = Some (PlainInstr.jump (pos others)); back = None }
template_jumps slot counter all one own first others Template.While =
    let test = test_jump all (first + others + 1) in
    record {
      ahead = test;
      between = None;
      back = back_jump (own + length (option_to_list test) + (first + others) + 1);
    }
template_jumps slot counter all one own first others Template.For =
    record {
      ahead = enter_jump slot counter all (first + others + 2);
      between = None;
      back = iteration_jump slot counter one (first + others + 2);
    }
template_jumps slot counter all one own first others Template.Until =
    record { ahead = None; between = None; back = test_back_jump one (own + (first + others) + 1) }
template_jumps slot counter all one own first others Template.Group = no_jumps
template_jumps slot counter all one own first others Template.Get = no_jumps
template_jumps slot counter all one own first others Template.Put = no_jumps
template_jumps slot counter all one own first others Template.PutSkip = no_jumps
template_jumps slot counter all one own first others Template.Call = no_jumps
template_jumps slot counter all one own first others Template.Return = no_jumps
template_jumps slot counter all one own first others Template.Comment = no_jumps
template_jumps slot counter all one own first others Template.Proc = no_jumps
template_jumps slot counter all one own first others Template.ProcP = no_jumps

-- the jumps that the table of code has for each kind of node, told as those of a template are
abbrev pub kind_jumps : (slot : ℕ) (counter : Option (List ℕ)) (all one : Bool) (own first others : ℕ) → NodeKind
    → CodeJumps
kind_jumps slot counter all one own first others NodeKind.DeclarationHole = no_jumps
kind_jumps slot counter all one own first others NodeKind.StatementHole = no_jumps
kind_jumps slot counter all one own first others NodeKind.ProcedureHole = no_jumps
kind_jumps slot counter all one own first others NodeKind.Main = no_jumps
kind_jumps slot counter all one own first others NodeKind.Assign = no_jumps
kind_jumps slot counter all one own first others (NodeKind.Filled template) =
    template_jumps slot counter all one own first others template

-- the jumps that the table of code has for a node whose pieces have so many instructions, where of what is inside the
-- first node has code of one length, and the others together of another
abbrev pub own_jumps : MarkMap → Label → (own first others : ℕ) → CodeJumps
own_jumps marks label own first others =
    kind_jumps label.slot (counter_name (part_at label.parts 0)) (is_some (suspension marks label.slot label.parts))
    (is_some (suspension marks label.slot (take 1 label.parts))) own first others label.kind

-- ---- by the items of a program, and by the lengths of the codes inside

-- in the table of code, the length of the first code inside a node, on which the node's jumps depend
abbrev pub first_length : List ℕ → ℕ
first_length [] = 0
first_length (n ∷ ns) = n

-- in the table of code, the length of the codes inside a node behind the first one, on which the node's jumps depend
abbrev pub other_lengths : List ℕ → ℕ
other_lengths [] = 0
other_lengths (n ∷ ns) = sum ns

-- the pieces of a node's code
abbrev pub pieces : MarkMap → ItemMap → Label → CodePieces
pieces marks items label = own_pieces marks (items_in items label.slot) label

-- the jumps of a node's code, where the codes of the nodes inside it have these lengths
abbrev pub jumps : MarkMap → ItemMap → Label → (lengths : List ℕ) → CodeJumps
jumps marks items label lengths =
    own_jumps marks label (count_pieces (pieces marks items label)) (first_length lengths) (other_lengths lengths)
