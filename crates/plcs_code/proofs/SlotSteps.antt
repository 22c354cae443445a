-- The law `own_codes_stay_in_slots`: the steps of a node's pieces are those that its row of the table says, each at a
-- point of the node's slot, since the code of phrases ends no step; and no row has more than two jumps.
use Rattle.std.proofs.Common.{◌≡◌, ℕ, ◌+◌, ◌≤◌, Bool, true, List, [], ◌∷◌, ◌++◌, length, take, Option, Some, None, refl, arith}
use Rattle.std.specs.Prelude.{flat_map, unwrap_or}
use Rattle.std.specs.Option.{option_to_list}
use Rattle.std.proofs.Math.Bool.{false≢true}
use Rattle.plcs_base.specs.declared.declared.Declared.{Declared}
use Rattle.plcs_grammar.specs.declared.node_kind.NodeKind.{NodeKind}
use Rattle.plcs_grammar.specs.declared.template.Template.{Template}
use Rattle.plcs_grammar.specs.PlainPhrase.{PlainPhrase, PlainVarRef}
use Rattle.template_tree.specs.Checks.Environment.{parameters_given}
use Rattle.template_tree.specs.Checks.ProgramMaps.{items_in}
use Rattle.template_tree.specs.Programs.Part.{part_at}
use Rattle.plcs_code.specs.ExprCode.{get_targets, index_instrs, items_instrs, listed_exprs, listed_instrs, part_instrs, variable_instr}
use Rattle.plcs_code.specs.OwnCode.{EndInSlot, JumpsAreFew, OwnStepsEndInSlot}
use Rattle.plcs_code.specs.Pieces.{CodeJumps, CodePieces, cell_instr, count_pieces, get_piece, kind_jumps, kind_pieces, parameters_instrs, piece_at, procedure_pieces, suspension, template_jumps, template_pieces}
use Rattle.plcs_code.specs.PlainInstr.{PlainInstr}
use Rattle.plcs_code.proofs.CodeActions.{AreActions, IsStop, actions_append, cells_actions, is_action, listed_actions, parameters_actions, part_actions, suspension_stops, target_actions}

-- ---- steps

actions_end : (slot : ℕ) (code : List PlainInstr) → AreActions code → EndInSlot slot code
actions_end slot [] are = tt
actions_end slot (PlainInstr.place at ∷ code) are = absurd (false≢true are.0)
actions_end slot (other ∷ code) are = actions_end slot code are.1

-- what ends no step, before other code
action_then : (slot : ℕ) (instr : PlainInstr) (code : List PlainInstr) → is_action instr ≡ true → EndInSlot slot code
    → EndInSlot slot (instr ∷ code)
action_then slot (PlainInstr.place at) code is end = absurd (false≢true is)
action_then slot other code is end = end

end_append : (slot : ℕ) (one other : List PlainInstr) → EndInSlot slot one → EndInSlot slot other → EndInSlot slot (one ++ other)
end_append slot [] other first second = second
end_append slot (PlainInstr.place at ∷ one) other first second = (first.0, end_append slot one other first.1 second)
end_append slot (instr ∷ one) other first second = end_append slot one other first second

piece_end : (slot point : ℕ) (stop : Option PlainInstr) (code : List PlainInstr) → IsStop stop → AreActions code
    → EndInSlot slot (piece_at slot point stop code)
piece_end slot point None code is are = (refl, actions_end slot code are)
piece_end slot point (Some stop) code is are = (refl, action_then slot stop [] is tt)

items_end : (slot k : ℕ) (targets : List PlainVarRef) → EndInSlot slot (items_instrs slot k targets)
items_end slot k [] = tt
items_end slot k (target ∷ targets) =
    let own = target_actions PlainInstr.get PlainInstr.get_at target (λ _. refl) (λ _. refl) in
    let instr = variable_instr PlainInstr.get PlainInstr.get_at target in
    let more = items_instrs slot (k + 1) targets in (
      refl,
      end_append slot (index_instrs target) (instr ∷ more) (actions_end slot (index_instrs target) own.0)
          (action_then slot instr more own.1 (items_end slot (k + 1) targets)),
    )

get_end : (slot : ℕ) (stop : Option PlainInstr) (part : Option PlainPhrase) → IsStop stop → EndInSlot slot (get_piece slot stop part)
get_end slot None part is = items_end slot 0 (get_targets part)
get_end slot (Some stop) part is = (refl, action_then slot stop [] is tt)

-- both pieces of a node
abbrev BothEnd : (slot : ℕ) → CodePieces → Type 0
BothEnd slot own = EndInSlot slot own.before × EndInSlot slot own.behind

procedure_end : (slot : ℕ) (items : List Declared) (parameters : List (List ℕ)) → BothEnd slot (procedure_pieces slot items parameters)
procedure_end slot items parameters = (
  actions_end slot (parameters_instrs items [] parameters ++ flat_map (cell_instr parameters) items)
      (actions_append (parameters_instrs items [] parameters) (flat_map (cell_instr parameters) items) (parameters_actions items [] parameters)
      (cells_actions parameters items)),
  (refl, tt),
)

template_end : (slot : ℕ) (all one : Option PlainInstr) (parts : List (Option PlainPhrase)) (items : List Declared) (template : Template)
    → IsStop all → IsStop one → BothEnd slot (template_pieces slot all one parts items template)
template_end slot all one parts items Template.Fixed stop first = (tt, tt)
template_end slot all one parts items Template.Bit stop first = (tt, tt)
template_end slot all one parts items Template.Char stop first = (tt, tt)
template_end slot all one parts items Template.Group stop first = (tt, tt)
template_end slot all one parts items Template.Comment stop first = (tt, tt)
template_end slot all one parts items Template.If stop first =
    (piece_end slot 0 all (part_instrs (part_at parts 0)) stop (part_actions (part_at parts 0)), tt)
template_end slot all one parts items Template.IfElse stop first =
    (piece_end slot 0 all (part_instrs (part_at parts 0)) stop (part_actions (part_at parts 0)), tt)
template_end slot all one parts items Template.While stop first =
    (piece_end slot 0 all (part_instrs (part_at parts 0)) stop (part_actions (part_at parts 0)), tt)
template_end slot all one parts items Template.Call stop first =
    (piece_end slot 0 all (part_instrs (part_at parts 0)) stop (part_actions (part_at parts 0)), tt)
template_end slot all one parts items Template.For stop first = (
  piece_end slot 0 all (part_instrs (part_at parts 1) ++ (part_instrs (part_at parts 2) ++ part_instrs (part_at parts 3))) stop
      (actions_append (part_instrs (part_at parts 1)) (part_instrs (part_at parts 2) ++ part_instrs (part_at parts 3))
      (part_actions (part_at parts 1))
      (actions_append (part_instrs (part_at parts 2)) (part_instrs (part_at parts 3)) (part_actions (part_at parts 2))
      (part_actions (part_at parts 3)))),
  piece_end slot 1 one [] first tt,
)
template_end slot all one parts items Template.Until stop first =
    (tt, piece_end slot 1 one (part_instrs (part_at parts 0)) first (part_actions (part_at parts 0)))
template_end slot all one parts items Template.Get stop first = (get_end slot all (part_at parts 0) stop, tt)
template_end slot all one parts items Template.Put stop first = (
  piece_end slot 0 all (listed_instrs PlainInstr.put (listed_exprs (part_at parts 0))) stop
      (listed_actions PlainInstr.put (listed_exprs (part_at parts 0)) (λ _. refl)),
  tt,
)
template_end slot all one parts items Template.PutSkip stop first = (
  piece_end slot 0 all (listed_instrs PlainInstr.put_skip (listed_exprs (part_at parts 0))) stop
      (listed_actions PlainInstr.put_skip (listed_exprs (part_at parts 0)) (λ _. refl)),
  tt,
)
template_end slot all one parts items Template.Return stop first = (piece_end slot 0 None (PlainInstr.leave ∷ []) tt (refl, tt), tt)
template_end slot all one parts items Template.Proc stop first = procedure_end slot items []
template_end slot all one parts items Template.ProcP stop first = procedure_end slot items (unwrap_or (parameters_given parts) [])

kind_end : (slot : ℕ) (all one : Option PlainInstr) (parts : List (Option PlainPhrase)) (items : List Declared) (kind : NodeKind)
    → IsStop all → IsStop one → BothEnd slot (kind_pieces slot all one parts items kind)
kind_end slot all one parts items NodeKind.DeclarationHole stop first = (tt, tt)
kind_end slot all one parts items NodeKind.ProcedureHole stop first = (tt, tt)
kind_end slot all one parts items NodeKind.StatementHole stop first =
    (piece_end slot 0 None (PlainInstr.suspend_placeholder ∷ []) tt (refl, tt), tt)
kind_end slot all one parts items NodeKind.Main stop first = procedure_end slot items []
kind_end slot all one parts items NodeKind.Assign stop first =
    (piece_end slot 0 all (part_instrs (part_at parts 0)) stop (part_actions (part_at parts 0)), tt)
kind_end slot all one parts items (NodeKind.Filled template) stop first = template_end slot all one parts items template stop first

pub own_steps_end_in_slot : OwnStepsEndInSlot
own_steps_end_in_slot marks items label =
    kind_end label.slot (suspension marks label.slot label.parts) (suspension marks label.slot (take 1 label.parts)) label.parts
    (items_in items label.slot) label.kind (suspension_stops marks label.slot label.parts)
    (suspension_stops marks label.slot (take 1 label.parts))

-- ---- jumps

-- one instruction or none
one_at_most : (jump : Option PlainInstr) → length (option_to_list jump) ≤ 1
one_at_most None = omega arith
one_at_most (Some instr) = omega arith

-- how many jumps there are
abbrev jump_count : CodeJumps → ℕ
jump_count jumps =
    length (option_to_list jumps.ahead) + (length (option_to_list jumps.between) + length (option_to_list jumps.back))

-- two where one of the three is never there
two_at_most : (one other : Option PlainInstr) → length (option_to_list one) + length (option_to_list other) ≤ 2
two_at_most one other = omega (arith, one_at_most one, one_at_most other)

template_few : (slot : ℕ) (counter : Option (List ℕ)) (all one : Bool) (own first others : ℕ) (template : Template)
    → jump_count (template_jumps slot counter all one own first others template) ≤ 2
template_few slot counter all one own first others Template.If =
    let around : CodeJumps = template_jumps slot counter all one own first others Template.If in
    omega (arith, one_at_most around.ahead)
template_few slot counter all one own first others Template.IfElse =
    let around : CodeJumps = template_jumps slot counter all one own first others Template.IfElse in
    omega (arith, one_at_most around.ahead, one_at_most around.between)
template_few slot counter all one own first others Template.While =
    let around : CodeJumps = template_jumps slot counter all one own first others Template.While in
    omega (arith, one_at_most around.ahead, one_at_most around.back)
template_few slot counter all one own first others Template.For =
    let around : CodeJumps = template_jumps slot counter all one own first others Template.For in
    omega (arith, one_at_most around.ahead, one_at_most around.back)
template_few slot counter all one own first others Template.Until =
    let around : CodeJumps = template_jumps slot counter all one own first others Template.Until in
    omega (arith, one_at_most around.back)
template_few slot counter all one own first others other = omega arith

kind_few : (slot : ℕ) (counter : Option (List ℕ)) (all one : Bool) (own first others : ℕ) (kind : NodeKind)
    → jump_count (kind_jumps slot counter all one own first others kind) ≤ 2
kind_few slot counter all one own first others (NodeKind.Filled template) =
    template_few slot counter all one own first others template
kind_few slot counter all one own first others other = omega arith

pub jumps_are_few : JumpsAreFew
jumps_are_few own first others =
    kind_few own.slot own.counter own.all_stopped own.one_stopped (count_pieces own.pieces) first others own.kind
