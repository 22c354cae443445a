-- What stands at each place of a program, with the places that follow. It doesn't depend on what a run is in.
use Rattle.std.specs.Prelude.{ℕ, zero, suc, ◌+◌, ◌==◌, Bool, true, false, nat_lt, if◌then◌else◌, List, [], ◌∷◌, slice_get, Option, Some, None, is_none, is_some, option_and_then, option_map}
use Rattle.std.specs.List.{list_all, list_any}
use Rattle.std.specs.Option.{option_or}
use Rattle.plcs_base.specs.declared.declared.Declared.{Declared}
use Rattle.plcs_grammar.specs.declared.node_kind.NodeKind.{NodeKind}
use Rattle.plcs_grammar.specs.declared.template.Template.{Template}
use Rattle.plcs_grammar.specs.PlainPhrase.{PlainExpr, PlainExprs, PlainPhrase, PlainVarRef}
use Rattle.template_tree.specs.Checks.Environment.{Heading, Sig, Signature, heading_of, items_inside, procedure_at}
use Rattle.template_tree.specs.Checks.Marks.{is_phrase_marked}
use Rattle.template_tree.specs.Programs.Part.{part_at}
use Rattle.template_tree.specs.Positions.Place.{PlainPlace, Site, begin, item_count, place_at, site}
use Rattle.template_tree.specs.Programs.PlainTree.{Forest, PlainNode}
use Rattle.plcs_store.specs.declared.reason.Reason.{Reason}

-- ---- procedures that are called

-- what a call that stands at a place needs of a procedure: its slot, the place where a run begins in it, its
-- parameters, and its effective items
pub record Callee : Type 0 where
  pub slot : ℕ
  pub start : PlainPlace
  pub parameters : List (List ℕ)
  pub items : List Declared

-- the place that follows where a call of the procedure stands, or with which main begins: that of its first statement,
-- or one inside that
abbrev pub procedure_start : PlainNode → PlainPlace
procedure_start node = begin node.inner (place_at node.label.slot 1)

-- what the spot of a call has of the procedure that is called, which has this heading
abbrev pub callee_with : PlainNode → Heading → Callee
callee_with node heading =
    record {
      slot = node.label.slot;
      start = procedure_start node;
      parameters = heading.parameters;
      items = items_inside node.inner;
    }

-- what the call that stands at a place needs of a procedure, if each of its parameters has a kind
abbrev pub callee_of : Signature → PlainNode → Option Callee
callee_of signature node =
    if list_all is_some signature.parameters
    then option_map (callee_with node) (heading_of node.label.kind node.label.parts) else None

-- what a call needs of the procedure of the name, if there is one with an effective heading
abbrev pub callee_named : (program : Forest) → (name : List ℕ) → Option Callee
callee_named program name =
    option_and_then (λ signature. option_and_then (callee_of signature) (procedure_at program signature.slot))
    (Sig program name)

-- ---- what stands at a place

-- what stands at a place of a run, with the places that follow
pub data Spot : Type 0 where
  -- the run can't go on
  halts : Reason → Spot
  -- a variable is set
  assigns : PlainVarRef → PlainExpr → (next : PlainPlace) → Spot
  -- a condition is tested: where the run goes on if it holds, and where else
  tests : PlainExpr → (inside other : PlainPlace) → Spot
  -- a For is entered: its slot, its variable, the first value, the limit and the step
  begins : (slot : ℕ) → List ℕ → (first limit step : PlainExpr) → (inside after : PlainPlace) → Spot
  -- a For takes its next iteration
  iterates : (slot : ℕ) → List ℕ → (inside after : PlainPlace) → Spot
  -- an item of the input is read into a variable
  reads : PlainVarRef → (next : PlainPlace) → Spot
  -- values are written, on a new line or not
  writes : (skip : Bool) → PlainExprs → (next : PlainPlace) → Spot
  -- a procedure is called
  calls : Callee → PlainExprs → Spot
  -- the run waits here until the procedure that was called is left
  waits : (next : PlainPlace) → Spot
  -- the procedure is left
  leaves : Spot

-- ---- the parts that are needed

-- whether one of the parts of these numbers is empty, so that the spot halts a run
abbrev pub lacks_part : List (Option PlainPhrase) → (needed : List ℕ) → Bool
lacks_part parts needed = list_any (λ part. is_none (part_at parts part)) needed

-- why a run can't use the parts of these numbers, if it can't: one is empty, or else one is marked
abbrev pub halt_reason : (marked : ℕ → Bool) → List (Option PlainPhrase) → (needed : List ℕ) → Option Reason
halt_reason marked parts needed =
    if lacks_part parts needed then Some Reason.Placeholder
    else (if list_any marked needed then Some Reason.Marked else None)

-- what stands at a place that needs the parts of these numbers
abbrev pub needing : (marked : ℕ → Bool) → List (Option PlainPhrase) → (needed : List ℕ) → Option Spot → Option Spot
needing marked parts needed spot = option_or (option_map Spot.halts (halt_reason marked parts needed)) spot

-- ---- what the parts say

-- the condition in the phrase at a spot
abbrev pub condition_in : PlainPhrase → Option PlainExpr
condition_in (PlainPhrase.condition e) = Some e
condition_in other = None

-- the expression in the phrase at a spot
abbrev pub expression_in : PlainPhrase → Option PlainExpr
expression_in (PlainPhrase.expression e) = Some e
expression_in other = None

-- the expressions in the phrase at a spot
abbrev pub expressions_in : PlainPhrase → Option PlainExprs
expressions_in (PlainPhrase.expression_list es) = Some es
expressions_in other = None

-- the variables in the phrase at a spot
abbrev pub variables_in : PlainPhrase → Option (List PlainVarRef)
variables_in (PlainPhrase.variable_list targets) = Some targets
variables_in other = None

-- the name of the variable in the phrase at a spot
abbrev pub variable_in : PlainPhrase → Option (List ℕ)
variable_in (PlainPhrase.variable_name name) = Some name
variable_in other = None

-- what the phrase in a part says at a spot
abbrev pub said : {A : Type 0} → (PlainPhrase → Option A) → List (Option PlainPhrase) → (part : ℕ) → Option A
said read parts part = option_and_then read (part_at parts part)

-- ---- what stands at the start of each statement

-- what an assignment does
abbrev pub assignment_spot : (next : PlainPlace) → PlainPhrase → Option Spot
assignment_spot next (PlainPhrase.assignment target value) = Some (Spot.assigns target value next)
assignment_spot next other = None

-- what a CALL does
abbrev pub call_spot : (callees : List ℕ → Option Callee) → PlainPhrase → Option Spot
call_spot callees (PlainPhrase.call name arguments) = option_map (λ callee. Spot.calls callee arguments) (callees name)
call_spot callees other = None

-- what a test does that is the first part
abbrev pub test_spot : List (Option PlainPhrase) → (inside other : PlainPlace) → Option Spot
test_spot parts inside other = option_map (λ e. Spot.tests e inside other) (said condition_in parts 0)

-- what a For does where it is entered
abbrev pub for_spot : (slot : ℕ) → List (Option PlainPhrase) → (inside after : PlainPlace) → Option Spot
for_spot slot parts inside after =
    option_and_then (λ name.
    option_and_then (λ first.
    option_and_then (λ limit.
    option_map (λ step. Spot.begins slot name first limit step inside after)
    (said expression_in parts 3)) (said expression_in parts 2)) (said expression_in parts 1)) (said variable_in parts 0)

-- what a For does at its next iteration
abbrev pub iteration_spot : (slot : ℕ) → List (Option PlainPhrase) → (inside after : PlainPlace) → Option Spot
iteration_spot slot parts inside after =
    option_map (λ name. Spot.iterates slot name inside after) (said variable_in parts 0)

-- what PUT and PUT SKIP do
abbrev pub put_spot : (skip : Bool) → List (Option PlainPhrase) → (next : PlainPlace) → Option Spot
put_spot skip parts next = option_map (λ es. Spot.writes skip es next) (said expressions_in parts 0)

-- where a run goes on behind the item of this number in a GET: at the next item, or behind the GET
abbrev pub behind_item : Site → (item : ℕ) → PlainPlace
behind_item found item =
    if nat_lt (item + 1) (item_count found.label.parts) then place_at found.label.slot (item + 1) else found.after

-- what a GET does at the item of this number
abbrev pub get_spot : Site → (item : ℕ) → Option Spot
get_spot found item =
    option_and_then
    (λ targets. option_map (λ target. Spot.reads target (behind_item found item)) (slice_get targets item))
    (said variables_in found.label.parts 0)

-- the nodes behind the first of some inside a node, where the place stands that follows a test which fails
abbrev pub behind_first : Forest → Forest
behind_first Forest.nil = Forest.nil
behind_first (Forest.cons label inner rest) = rest

-- the table of templates: what stands at the start of a statement
abbrev pub template_start : (marked : ℕ → Bool) → (callees : List ℕ → Option Callee) → Site → Template → Option Spot
template_start marked callees found Template.Fixed = None
template_start marked callees found Template.Bit = None
template_start marked callees found Template.Char = None
template_start marked callees found Template.If =
    needing marked found.label.parts (0 ∷ []) (test_spot found.label.parts (begin found.inner found.after) found.after)
template_start marked callees found Template.IfElse =
    needing marked found.label.parts (0 ∷ [])
    (test_spot found.label.parts (begin found.inner found.after) (begin (behind_first found.inner) found.after))
template_start marked callees found Template.While =
    needing marked found.label.parts (0 ∷ [])
    (test_spot found.label.parts (begin found.inner (place_at found.label.slot 0)) found.after)
template_start marked callees found Template.For =
    needing marked found.label.parts (0 ∷ (1 ∷ (2 ∷ (3 ∷ []))))
    (for_spot found.label.slot found.label.parts (begin found.inner (place_at found.label.slot 1)) found.after)
template_start marked callees found Template.Until = None
template_start marked callees found Template.Group = None
template_start marked callees found Template.Get = needing marked found.label.parts (0 ∷ []) (get_spot found 0)
template_start marked callees found Template.Put =
    needing marked found.label.parts (0 ∷ []) (put_spot false found.label.parts found.after)
template_start marked callees found Template.PutSkip =
    needing marked found.label.parts (0 ∷ []) (put_spot true found.label.parts found.after)
template_start marked callees found Template.Call =
    needing marked found.label.parts (0 ∷ []) (option_and_then (call_spot callees) (part_at found.label.parts 0))
template_start marked callees found Template.Return = Some Spot.leaves
template_start marked callees found Template.Comment = None
template_start marked callees found Template.Proc = None
template_start marked callees found Template.ProcP = None

-- what stands at the start of a node
abbrev pub start_spot : (marked : ℕ → Bool) → (callees : List ℕ → Option Callee) → Site → NodeKind → Option Spot
start_spot marked callees found NodeKind.DeclarationHole = None
start_spot marked callees found NodeKind.StatementHole = Some (Spot.halts Reason.Placeholder)
start_spot marked callees found NodeKind.ProcedureHole = None
start_spot marked callees found NodeKind.Main = None
start_spot marked callees found NodeKind.Assign =
    needing marked found.label.parts (0 ∷ [])
    (option_and_then (assignment_spot found.after) (part_at found.label.parts 0))
start_spot marked callees found (NodeKind.Filled template) = template_start marked callees found template

-- ---- what stands at the other points

-- what stands at the spot at point 1 alone
abbrev pub at_one : (point : ℕ) → Option Spot → Option Spot
at_one point spot = if point == 1 then spot else None

-- the table of templates: what stands at a point but the start
abbrev pub template_point : (marked : ℕ → Bool) → Site → (point : ℕ) → Template → Option Spot
template_point marked found point Template.Fixed = None
template_point marked found point Template.Bit = None
template_point marked found point Template.Char = None
template_point marked found point Template.If = None
template_point marked found point Template.IfElse = None
template_point marked found point Template.While = None
template_point marked found point Template.For =
    at_one point
    (needing marked found.label.parts (0 ∷ [])
    (iteration_spot found.label.slot found.label.parts (begin found.inner (place_at found.label.slot 1)) found.after))
template_point marked found point Template.Until =
    at_one point
    (needing marked found.label.parts (0 ∷ [])
    (test_spot found.label.parts found.after (begin found.inner (place_at found.label.slot 1))))
template_point marked found point Template.Group = None
template_point marked found point Template.Get = if marked 0 then None else get_spot found point
template_point marked found point Template.Put = None
template_point marked found point Template.PutSkip = None
template_point marked found point Template.Call = at_one point (Some (Spot.waits found.after))
template_point marked found point Template.Return = None
template_point marked found point Template.Comment = None
template_point marked found point Template.Proc = at_one point (Some Spot.leaves)
template_point marked found point Template.ProcP = at_one point (Some Spot.leaves)

-- what stands at a point of a node but its start
abbrev pub point_spot : (marked : ℕ → Bool) → Site → (point : ℕ) → NodeKind → Option Spot
point_spot marked found point NodeKind.DeclarationHole = None
point_spot marked found point NodeKind.StatementHole = None
point_spot marked found point NodeKind.ProcedureHole = None
point_spot marked found point NodeKind.Main = at_one point (Some Spot.leaves)
point_spot marked found point NodeKind.Assign = None
point_spot marked found point (NodeKind.Filled template) = template_point marked found point template

-- what stands at a point of a site, if the program has this place
abbrev pub site_spot : (marked : ℕ → Bool) → (callees : List ℕ → Option Callee) → Site → (point : ℕ) → Option Spot
site_spot marked callees found zero = start_spot marked callees found found.label.kind
site_spot marked callees found (suc point) = point_spot marked found (suc point) found.label.kind

-- ---- what stands at the places of a program

-- what stands at a place, where it is told of each phrase by its slot and part whether it is marked
abbrev pub spot_by : (marked : (slot part : ℕ) → Bool) → (program : Forest) → PlainPlace → Option Spot
spot_by marked program place =
    option_and_then (λ found. site_spot (marked place.slot) (callee_named program) found place.point)
    (site program place.slot)

-- what stands at a place of the program, if it has this place
abbrev pub spot_at : (program : Forest) → PlainPlace → Option Spot
spot_at program place = spot_by (is_phrase_marked program) program place
