-- The law `steps_have_addresses`: a step that stands in the code of a program stands there but once, where its slot
-- does: each place is that of one step of the own code of its node.
use Rattle.std.proofs.Common.{◌≡◌, ℕ, zero, suc, ◌+◌, ◌≤◌, ◌<◌, Bool, true, false, List, [], ◌∷◌, ◌++◌, length, map, take, Option, Some, None, refl, ap, sym, ◌∙◌, arith}
use Rattle.std.specs.Prelude.{◌==◌, ◌&&◌, cond, flat_map, option_map, slice_get, unwrap_or}
use Rattle.std.specs.FinMap.{find, get-from_entries}
use Rattle.std.specs.Option.{option_to_list}
use Rattle.std.specs.Ordering.{eq_by_cmp}
use Rattle.std.proofs.Math.Bool.{false≢true}
use Rattle.std.proofs.lemmas.Bool.{eq-eqb, eqb-true}
use Rattle.std.proofs.lemmas.Option.{none-some}
use Rattle.plcs_base.specs.Mark.{MarkMap}
use Rattle.plcs_base.specs.Scope.{ItemMap}
use Rattle.plcs_base.specs.declared.declared.Declared.{Declared}
use Rattle.plcs_base.specs.declared.place.Place.{Place}
use Rattle.plcs_grammar.specs.declared.node_kind.NodeKind.{NodeKind}
use Rattle.plcs_grammar.specs.declared.template.Template.{Template}
use Rattle.plcs_grammar.specs.PlainPhrase.{PlainPhrase, PlainVarRef}
use Rattle.template_tree.specs.Checks.Environment.{parameters_given}
use Rattle.template_tree.specs.Checks.ProgramMaps.{items_in}
use Rattle.template_tree.specs.Positions.Place.{PlainPlace, place_at}
use Rattle.template_tree.specs.Programs.Part.{part_at}
use Rattle.template_tree.specs.Programs.PlainTree.{Forest}
use Rattle.template_tree.specs.Programs.Slots.{times}
use Rattle.plcs_code.specs.ExprCode.{counter_name, get_targets, index_instrs, items_instrs, listed_exprs, listed_instrs, part_instrs, variable_instr}
use Rattle.plcs_code.specs.Gen.{addresses_in, code_around, codes_around, codes_joined, node_codes, node_spans, place_cmp}
use Rattle.plcs_code.specs.Landing.{StepsHaveAddresses}
use Rattle.plcs_code.specs.Pieces.{CodeJumps, CodePieces, cell_instr, get_piece, jump_unless, jumps, kind_jumps, kind_pieces, parameters_instrs, piece_at, pieces, suspension, template_jumps, template_pieces}
use Rattle.plcs_code.specs.PlainInstr.{PlainInstr, place_of}
use Rattle.plcs_code.proofs.CodeActions.{AreActions, IsStop, actions_append, cells_actions, is_action, listed_actions, parameters_actions, part_actions, suspension_stops, target_actions}
use Rattle.plcs_code.proofs.FoundSites.{one_if}
use Rattle.plcs_code.proofs.KeyOrder.{places_total}
use Rattle.plcs_code.proofs.PlaceAddresses.{endless, place_tied, same_place}
use Rattle.plcs_code.proofs.StoodSteps.{find_behind, none_endless}

-- ---- how often a step stands in code

abbrev is_place : PlainPlace → PlainPlace → Bool
is_place q at = (at.slot == q.slot) && (at.point == q.point)

abbrev step_count : PlainPlace → PlainInstr → ℕ
step_count q (PlainInstr.place at) = one_if (is_place q at)
step_count q other = 0

abbrev steps_in : PlainPlace → List PlainInstr → ℕ
steps_in q [] = 0
steps_in q (instr ∷ code) = step_count q instr + steps_in q code

steps_append : (q : PlainPlace) (one other : List PlainInstr) → steps_in q (one ++ other) ≡ steps_in q one + steps_in q other
steps_append q [] other = omega arith
steps_append q (instr ∷ one) other = let again = steps_append q one other in omega (arith, again)

action_none : (q : PlainPlace) (instr : PlainInstr) → is_action instr ≡ true → step_count q instr ≡ 0
action_none q (PlainInstr.place at) is = absurd (false≢true is)
action_none q other is = refl

actions_none : (q : PlainPlace) (code : List PlainInstr) → AreActions code → steps_in q code ≡ 0
actions_none q [] are = refl
actions_none q (instr ∷ code) are =
    let first = action_none q instr are.0 in let again = actions_none q code are.1 in omega (arith, first, again)

-- ---- the step found first

place_itself : (q : PlainPlace) → is_place q q ≡ true
place_itself q =
    ap (λ (b : Bool). b && (q.point == q.point)) (eq-eqb q.slot q.slot refl) ∙ eq-eqb q.point q.point refl

abbrev instr_or : PlainInstr → Option PlainInstr → PlainInstr
instr_or other None = other
instr_or other (Some there) = there

-- a step that stands in code counts
step_counts : (q : PlainPlace) (code : List PlainInstr) (k : ℕ) → slice_get code k ≡ Some (PlainInstr.place q) → 1 ≤ steps_in q code
step_counts q [] k e = absurd (none-some (PlainInstr.place q) e)
step_counts q (instr ∷ code) zero e =
    let one : step_count q instr ≡ 1 = ap (λ (o : Option PlainInstr). step_count q (instr_or instr o)) e ∙ ap one_if (place_itself q) in omega (arith, one)
step_counts q (instr ∷ code) (suc k) e = let some = step_counts q code k e in omega (arith, some)

place_counts : (q at : PlainPlace) → eq_by_cmp place_cmp (place_of q) (place_of at) ≡ true → one_if (is_place q at) ≡ 1
place_counts q at ties =
    let same = same_place (place_of q) (place_of at) ties in
    let slot : at.slot ≡ q.slot = ap (λ (p : Place). p.slot.0) (sym same) in
    let point : at.point ≡ q.point = ap (λ (p : Place). p.point.0) (sym same) in
    ap one_if (ap (λ (b : Bool). b && (at.point == q.point)) (eq-eqb at.slot q.slot slot) ∙ eq-eqb at.point q.point point)

-- one that stands there but once has the address that is found
step_address : (q : PlainPlace) (from : ℕ) (code : List PlainInstr) (k : ℕ) → steps_in q code ≤ 1 → slice_get code k ≡ Some (PlainInstr.place q)
    → find place_cmp (place_of q) (addresses_in from code) ≡ Some (from + k)
step_address q from [] k once e = absurd (none-some (PlainInstr.place q) e)
step_address q from (instr ∷ code) zero once e =
    let is : instr ≡ PlainInstr.place q = ap (instr_or instr) e in
    ap (λ (i : PlainInstr). find place_cmp (place_of q) (addresses_in from (i ∷ code))) is
    ∙ (ap (λ (b : Bool). cond b (Some from) (find place_cmp (place_of q) (addresses_in (from + 1) code))) (place_tied q.slot q.point q refl refl)
    ∙ ap Some (omega arith))
step_address q from (PlainInstr.place at ∷ code) (suc k) once e =
    by (eq_by_cmp place_cmp (place_of q) (place_of at)) refl
    (step_address q (from + 1) code k (omega (arith, once)) e ∙ ap Some (omega arith))
  where
    by : (b : Bool) → eq_by_cmp place_cmp (place_of q) (place_of at) ≡ b
        → find place_cmp (place_of q) (addresses_in (from + 1) code) ≡ Some (from + suc k)
        → cond b (Some from) (find place_cmp (place_of q) (addresses_in (from + 1) code)) ≡ Some (from + suc k)
    by true ties again =
        let one = place_counts q at ties in
        let some = step_counts q code k e in
        let few : one_if (is_place q at) + steps_in q code ≤ 1 = once in
        absurd (omega (arith, one, some, few))
    by false other again = again
step_address q from (instr ∷ code) (suc k) once e =
    step_address q (from + 1) code k (omega (arith, once)) e ∙ ap Some (omega arith)

-- ---- pieces

and_few : (a b : Bool) → one_if (a && b) ≤ one_if a
and_few true true = omega arith
and_few true false = omega arith
and_few false b = omega arith

piece_steps : (q : PlainPlace) (slot point : ℕ) (stop : Option PlainInstr) (code : List PlainInstr) → IsStop stop → AreActions code
    → steps_in q (piece_at slot point stop code) ≡ one_if ((slot == q.slot) && (point == q.point))
piece_steps q slot point None code is are = let none = actions_none q code are in omega (arith, none)
piece_steps q slot point (Some stop) code is are = let none = action_none q stop is in omega (arith, none)

piece_few : (q : PlainPlace) (slot point : ℕ) (stop : Option PlainInstr) (code : List PlainInstr) → IsStop stop → AreActions code
    → steps_in q (piece_at slot point stop code) + 0 ≤ one_if (slot == q.slot)
piece_few q slot point stop code is are =
    let steps = piece_steps q slot point stop code is are in let few = and_few (slot == q.slot) (point == q.point) in omega (arith, steps, few)

and_false : (a : Bool) → one_if (a && false) ≡ 0
and_false true = refl
and_false false = refl

-- two points are not the same
apart_few : (a b c : Bool) → (b ≡ true → c ≡ true → ⊥) → one_if (a && b) + one_if (a && c) ≤ one_if a
apart_few true true true apart = absurd (apart refl refl)
apart_few true true false apart = omega arith
apart_few true false true apart = omega arith
apart_few true false false apart = omega arith
apart_few false b c apart = omega arith

points_apart : (point : ℕ) → (0 == point) ≡ true → (1 == point) ≡ true → ⊥
points_apart point a b = let x = eqb-true 0 point a in let y = eqb-true 1 point b in omega (arith, x, y)

-- the items of a GET, from one on
items_few : (q : PlainPlace) (slot k : ℕ) (targets : List PlainVarRef)
    → (steps_in q (items_instrs slot k targets) ≤ one_if (slot == q.slot)) × ((q.point < k) → steps_in q (items_instrs slot k targets) ≡ 0)
items_few q slot k [] = (omega arith, λ less. refl)
items_few q slot k (target ∷ targets) =
    let own = target_actions PlainInstr.get PlainInstr.get_at target (λ _. refl) (λ _. refl) in
    let code = index_instrs target in
    let instr = variable_instr PlainInstr.get PlainInstr.get_at target in
    let more = items_instrs slot (k + 1) targets in
    let joined = steps_append q code (instr ∷ more) in
    let none = actions_none q code own.0 in
    let quiet = action_none q instr own.1 in
    let again = items_few q slot (k + 1) targets in
    by (k == q.point) refl joined none quiet again.0 again.1
  where
    by : (b : Bool) → (k == q.point) ≡ b
        → steps_in q (index_instrs target ++ (variable_instr PlainInstr.get PlainInstr.get_at target ∷ items_instrs slot (k + 1) targets))
        ≡ steps_in q (index_instrs target) + steps_in q (variable_instr PlainInstr.get PlainInstr.get_at target ∷ items_instrs slot (k + 1) targets)
        → steps_in q (index_instrs target) ≡ 0 → step_count q (variable_instr PlainInstr.get PlainInstr.get_at target) ≡ 0
        → steps_in q (items_instrs slot (k + 1) targets) ≤ one_if (slot == q.slot)
        → ((q.point < k + 1) → steps_in q (items_instrs slot (k + 1) targets) ≡ 0)
        → (steps_in q (items_instrs slot k (target ∷ targets)) ≤ one_if (slot == q.slot)) × ((q.point < k) → steps_in q (items_instrs slot k (target ∷ targets)) ≡ 0)
    by true e joined none quiet few later =
        let same : k ≡ q.point = eqb-true k q.point e in
        let rest : steps_in q (items_instrs slot (k + 1) targets) ≡ 0 = later (omega (arith, same)) in
        let own : one_if ((slot == q.slot) && (k == q.point)) ≤ one_if (slot == q.slot) = and_few (slot == q.slot) (k == q.point) in
        (omega (arith, joined, none, quiet, rest, own), λ less. absurd (omega (arith, same, less)))
    by false e joined none quiet few later =
        let own : one_if ((slot == q.slot) && (k == q.point)) ≡ 0 = ap (λ (b : Bool). one_if ((slot == q.slot) && b)) e ∙ and_false (slot == q.slot) in (
          omega (arith, joined, none, quiet, few, own),
          λ less.
              let rest : steps_in q (items_instrs slot (k + 1) targets) ≡ 0 = later (omega (arith, less)) in
              omega (arith, joined, none, quiet, rest, own),
        )

get_few : (q : PlainPlace) (slot : ℕ) (stop : Option PlainInstr) (part : Option PlainPhrase) → IsStop stop
    → steps_in q (get_piece slot stop part) + 0 ≤ one_if (slot == q.slot)
get_few q slot None part is = let few = (items_few q slot 0 (get_targets part)).0 in omega (arith, few)
get_few q slot (Some stop) part is =
    let none = action_none q stop is in let few = and_few (slot == q.slot) (0 == q.point) in omega (arith, none, few)

-- the steps of the pieces of a node: one of each point at most
abbrev PiecesFew : PlainPlace → (slot : ℕ) → CodePieces → Type 0
PiecesFew q slot own = steps_in q own.before + steps_in q own.behind ≤ one_if (slot == q.slot)

none_few : (q : PlainPlace) (slot : ℕ) → 0 ≤ one_if (slot == q.slot)
none_few q slot = omega arith

procedure_few : (q : PlainPlace) (slot : ℕ) (items : List Declared) (parameters : List (List ℕ))
    → steps_in q (parameters_instrs items [] parameters ++ flat_map (cell_instr parameters) items)
    + steps_in q (PlainInstr.place (place_at slot 1) ∷ (PlainInstr.leave ∷ [])) ≤ one_if (slot == q.slot)
procedure_few q slot items parameters =
    let none =
    actions_none q (parameters_instrs items [] parameters ++ flat_map (cell_instr parameters) items)
    (actions_append (parameters_instrs items [] parameters) (flat_map (cell_instr parameters) items)
    (parameters_actions items [] parameters) (cells_actions parameters items)) in
    let few = and_few (slot == q.slot) (1 == q.point) in
    omega (arith, none, few)

for_few : (q : PlainPlace) (slot : ℕ) (all one : Option PlainInstr) (code : List PlainInstr) → IsStop all → IsStop one → AreActions code
    → steps_in q (piece_at slot 0 all code) + steps_in q (piece_at slot 1 one []) ≤ one_if (slot == q.slot)
for_few q slot all one code stop first are =
    let a = piece_steps q slot 0 all code stop are in
    let b = piece_steps q slot 1 one [] first tt in
    let few = apart_few (slot == q.slot) (0 == q.point) (1 == q.point) (points_apart q.point) in
    omega (arith, a, b, few)

template_few : (q : PlainPlace) (slot : ℕ) (all one : Option PlainInstr) (parts : List (Option PlainPhrase)) (items : List Declared) (template : Template)
    → IsStop all → IsStop one → PiecesFew q slot (template_pieces slot all one parts items template)
template_few q slot all one parts items Template.Fixed stop first = none_few q slot
template_few q slot all one parts items Template.Bit stop first = none_few q slot
template_few q slot all one parts items Template.Char stop first = none_few q slot
template_few q slot all one parts items Template.Group stop first = none_few q slot
template_few q slot all one parts items Template.Comment stop first = none_few q slot
template_few q slot all one parts items Template.If stop first =
    piece_few q slot 0 all (part_instrs (part_at parts 0)) stop (part_actions (part_at parts 0))
template_few q slot all one parts items Template.IfElse stop first =
    piece_few q slot 0 all (part_instrs (part_at parts 0)) stop (part_actions (part_at parts 0))
template_few q slot all one parts items Template.While stop first =
    piece_few q slot 0 all (part_instrs (part_at parts 0)) stop (part_actions (part_at parts 0))
template_few q slot all one parts items Template.Call stop first =
    piece_few q slot 0 all (part_instrs (part_at parts 0)) stop (part_actions (part_at parts 0))
template_few q slot all one parts items Template.For stop first =
    for_few q slot all one (part_instrs (part_at parts 1) ++ (part_instrs (part_at parts 2) ++ part_instrs (part_at parts 3))) stop first
    (actions_append (part_instrs (part_at parts 1)) (part_instrs (part_at parts 2) ++ part_instrs (part_at parts 3)) (part_actions (part_at parts 1))
    (actions_append (part_instrs (part_at parts 2)) (part_instrs (part_at parts 3)) (part_actions (part_at parts 2)) (part_actions (part_at parts 3))))
template_few q slot all one parts items Template.Until stop first =
    let few = piece_few q slot 1 one (part_instrs (part_at parts 0)) first (part_actions (part_at parts 0)) in omega (arith, few)
template_few q slot all one parts items Template.Get stop first = get_few q slot all (part_at parts 0) stop
template_few q slot all one parts items Template.Put stop first =
    piece_few q slot 0 all (listed_instrs PlainInstr.put (listed_exprs (part_at parts 0))) stop
    (listed_actions PlainInstr.put (listed_exprs (part_at parts 0)) (λ _. refl))
template_few q slot all one parts items Template.PutSkip stop first =
    piece_few q slot 0 all (listed_instrs PlainInstr.put_skip (listed_exprs (part_at parts 0))) stop
    (listed_actions PlainInstr.put_skip (listed_exprs (part_at parts 0)) (λ _. refl))
template_few q slot all one parts items Template.Return stop first = piece_few q slot 0 None (PlainInstr.leave ∷ []) tt (refl, tt)
template_few q slot all one parts items Template.Proc stop first = procedure_few q slot items []
template_few q slot all one parts items Template.ProcP stop first = procedure_few q slot items (unwrap_or (parameters_given parts) [])

kind_few : (q : PlainPlace) (slot : ℕ) (all one : Option PlainInstr) (parts : List (Option PlainPhrase)) (items : List Declared) (kind : NodeKind)
    → IsStop all → IsStop one → PiecesFew q slot (kind_pieces slot all one parts items kind)
kind_few q slot all one parts items NodeKind.DeclarationHole stop first = none_few q slot
kind_few q slot all one parts items NodeKind.ProcedureHole stop first = none_few q slot
kind_few q slot all one parts items NodeKind.StatementHole stop first =
    piece_few q slot 0 None (PlainInstr.suspend_placeholder ∷ []) tt (refl, tt)
kind_few q slot all one parts items NodeKind.Main stop first = procedure_few q slot items []
kind_few q slot all one parts items NodeKind.Assign stop first =
    piece_few q slot 0 all (part_instrs (part_at parts 0)) stop (part_actions (part_at parts 0))
kind_few q slot all one parts items (NodeKind.Filled template) stop first = template_few q slot all one parts items template stop first

-- ---- jumps

abbrev JumpNone : PlainPlace → Option PlainInstr → Type 0
JumpNone q jump = steps_in q (option_to_list jump) ≡ 0

record JumpsNone (q : PlainPlace) (around : CodeJumps) : Type 0 where
  ahead : JumpNone q around.ahead
  between : JumpNone q around.between
  back : JumpNone q around.back

no_steps : (q : PlainPlace) → JumpsNone q record { ahead = None; between = None; back = None }
no_steps q = record { ahead = refl; between = refl; back = refl }

unless_none : (q : PlainPlace) (stopped : Bool) (jump : Option PlainInstr) → JumpNone q jump → JumpNone q (jump_unless stopped jump)
unless_none q true jump none = refl
unless_none q false jump none = none

counter_none : (q : PlainPlace) (make : List ℕ → PlainInstr) (counter : Option (List ℕ)) → ((name : List ℕ) → step_count q (make name) ≡ 0)
    → JumpNone q (option_map make counter)
counter_none q make None none = refl
counter_none q make (Some name) none = let no = none name in omega (arith, no)

template_none : (q : PlainPlace) (slot : ℕ) (counter : Option (List ℕ)) (all one : Bool) (own first others : ℕ) (template : Template)
    → JumpsNone q (template_jumps slot counter all one own first others template)
template_none q slot counter all one own first others Template.If =
    record { ahead = unless_none q all _ refl; between = refl; back = refl }
template_none q slot counter all one own first others Template.IfElse =
    record { ahead = unless_none q all _ refl; between = refl; back = refl }
template_none q slot counter all one own first others Template.While =
    record { ahead = unless_none q all _ refl; between = refl; back = refl }
template_none q slot counter all one own first others Template.For =
    record {
      ahead = unless_none q all _ (counter_none q _ counter (λ name. refl));
      between = refl;
      back = unless_none q one _ (counter_none q _ counter (λ name. refl));
    }
template_none q slot counter all one own first others Template.Until =
    record { ahead = refl; between = refl; back = unless_none q one _ refl }
template_none q slot counter all one own first others other = no_steps q

kind_none : (q : PlainPlace) (slot : ℕ) (counter : Option (List ℕ)) (all one : Bool) (own first others : ℕ) (kind : NodeKind)
    → JumpsNone q (kind_jumps slot counter all one own first others kind)
kind_none q slot counter all one own first others (NodeKind.Filled template) = template_none q slot counter all one own first others template
kind_none q slot counter all one own first others other = no_steps q

-- ---- nodes

around_steps : (q : PlainPlace) (between : List PlainInstr) (codes : List (List PlainInstr))
    → steps_in q (codes_around between codes) ≡ steps_in q between + steps_in q (codes_joined codes)
around_steps q between [] = omega arith
around_steps q between (code ∷ codes) =
    let a = steps_append q code (between ++ codes_joined codes) in
    let b = steps_append q between (codes_joined codes) in
    let c = steps_append q code (codes_joined codes) in
    omega (arith, a, b, c)

-- the steps that end at a place in the code of nodes are no more than its slot stands there
steps_few : (q : PlainPlace) (marks : MarkMap) (items : ItemMap) (nodes : Forest) → steps_in q (codes_joined (node_codes marks items nodes)) ≤ times q.slot nodes
steps_few q marks items Forest.nil = omega arith
steps_few q marks items (Forest.cons label inner rest) =
    let codes = node_codes marks items inner in
    let all = suspension marks label.slot label.parts in
    let one = suspension marks label.slot (take 1 label.parts) in
    let own : CodePieces = pieces marks items label in
    let around : CodeJumps = jumps marks items label (map length codes) in
    let ahead = option_to_list around.ahead in
    let between = option_to_list around.between in
    let back = option_to_list around.back in
    let within = codes_around between codes in
    let few : steps_in q own.before + steps_in q own.behind ≤ one_if (label.slot == q.slot) =
    kind_few q label.slot all one label.parts (items_in items label.slot) label.kind (suspension_stops marks label.slot label.parts)
    (suspension_stops marks label.slot (take 1 label.parts)) in
    let none : JumpsNone q around = kind_none q label.slot (counter_name (part_at label.parts 0)) _ _ _ _ _ label.kind in
    let no_ahead : steps_in q ahead ≡ 0 = none.ahead in
    let no_between : steps_in q between ≡ 0 = none.between in
    let no_back : steps_in q back ≡ 0 = none.back in
    let inside : steps_in q (codes_joined codes) ≤ times q.slot inner = steps_few q marks items inner in
    let behind : steps_in q (codes_joined (node_codes marks items rest)) ≤ times q.slot rest = steps_few q marks items rest in
    let a = steps_append q own.before (ahead ++ (within ++ (own.behind ++ back))) in
    let b = steps_append q ahead (within ++ (own.behind ++ back)) in
    let c = steps_append q within (own.behind ++ back) in
    let d = steps_append q own.behind back in
    let e = around_steps q between codes in
    let f = steps_append q (code_around marks items label codes) (codes_joined (node_codes marks items rest)) in
    omega (arith, few, no_ahead, no_between, no_back, inside, behind, a, b, c, d, e, f)

-- ---- the law

pub steps_have_addresses : StepsHaveAddresses
steps_have_addresses marks items program q found address is once e ends read =
    let nodes = node_spans marks items 0 0 program in
    let instrs = codes_joined (node_codes marks items program) in
    let entries : List (Place × ℕ) = endless nodes ++ addresses_in 0 instrs in
    let few = steps_few q marks items program in
    get-from_entries places_total entries (place_of q)
    ∙ (find_behind q (endless nodes) (addresses_in 0 instrs) (none_endless marks items program q found once e ends)
    ∙ (step_address q 0 instrs address (omega (arith, few, once)) read ∙ ap Some (omega arith)))
