-- Kept nodes located by their slots, and what each has of places.
use Rattle.std.specs.Prelude.{ℕ, suc, ◌+◌, ◌-◌, ◌==◌, Bool, false, ◌&&◌, if◌then◌else◌, List, [], ◌∷◌, length, sum, take, Option, Some, None, option_map}
use Rattle.std.specs.Option.{option_or, option_to_list}
use Rattle.template_tree.specs.Positions.Place.{PlainPlace, passes_in, place_at}
use Rattle.plcs_code.specs.Gen.{has_code, is_call}
use Rattle.plcs_code.specs.OwnCode.{jumps_beside}
use Rattle.plcs_code.specs.PlainInstr.{PlainInstr}
use Rattle.code_patch.specs.CodeForest.{CodeForest, count_around, kept_lengths, PlainCodeNode}
use Rattle.code_patch.specs.Private.PlainCodeNode.{kept_length, length_behind}

-- a kept node with the address at which its code begins
pub record PlainLocated : Type 0 where
  pub start : ℕ
  pub node : PlainCodeNode

-- the first of the kept nodes in order, and of those inside them, that has the slot; the code of the first node begins
-- at the address, with a gap behind it
abbrev pub located_among : (slot start gap : ℕ) → CodeForest → Option PlainLocated
located_among slot start gap CodeForest.nil = None
located_among slot start gap (CodeForest.cons own spare inner rest) =
    let around = jumps_beside own (kept_lengths inner) in
    if own.slot == slot
    then Some record { start = start; node = record { own = own; spare = spare; inner = inner } }
    else
    option_or
    (located_among slot (start + length own.pieces.before + length (option_to_list around.ahead))
    (length (option_to_list around.between)) inner)
    (located_among slot (start + count_around own (kept_lengths inner) + gap) 0 rest)

-- the kept node in the slot among those inside a node whose code begins at the address
abbrev pub located_inside : (slot start : ℕ) → PlainCodeNode → Option PlainLocated
located_inside slot start node =
    let around = jumps_beside node.own (kept_lengths node.inner) in
    located_among slot (start + length node.own.pieces.before + length (option_to_list around.ahead))
    (length (option_to_list around.between)) node.inner

-- the address at which the code of the node of this number inside a kept node begins, whose own code begins at an
-- address
abbrev pub child_start : (start : ℕ) → PlainCodeNode → (k : ℕ) → ℕ
child_start start node k =
    let around = jumps_beside node.own (kept_lengths node.inner) in
    start + length node.own.pieces.before + length (option_to_list around.ahead)
    + sum (take k (kept_lengths node.inner)) + (if k == 0 then 0 else length (option_to_list around.between))

-- the span of a located node, if it has code
abbrev pub located_span : PlainLocated → Option (ℕ × ℕ)
located_span found = if has_code found.node.own.kind then Some (found.start, kept_length found.node) else None

-- whether two places are the same, as a located node asks
abbrev pub is_same_place : PlainPlace → PlainPlace → Bool
is_same_place one other = (one.slot == other.slot) && (one.point == other.point)

-- whether the step of the place ends at an instruction of a located node
abbrev pub is_step : PlainPlace → PlainInstr → Bool
is_step place (PlainInstr.place at) = is_same_place at place
is_step place other = false

-- the number of the first of the instructions at which the step of the place ends, if there is one in a located node
abbrev pub step_number : PlainPlace → List PlainInstr → Option ℕ
step_number place [] = None
step_number place (instr ∷ instrs) = if is_step place instr then Some 0 else option_map suc (step_number place instrs)

-- the address of a point of a located node by its kind, where no step ends there
abbrev pub passed_address : PlainLocated → (point : ℕ) → Option ℕ
passed_address found point =
    if passes_in found.node.own.kind && (point == 0) then Some found.start
    else
    (if is_call found.node.own.kind && (point == 1) then Some (found.start + kept_length found.node) else None)

-- the address of a point of a located node, if it has that
abbrev pub own_address : PlainLocated → (point : ℕ) → Option ℕ
own_address found point =
    let place = place_at found.node.own.slot point in
    option_or (passed_address found point)
    (option_or (option_map (λ k. found.start + k) (step_number place found.node.own.pieces.before))
    (option_map (λ k. found.start + kept_length found.node - length_behind found.node + k)
    (step_number place found.node.own.pieces.behind)))
