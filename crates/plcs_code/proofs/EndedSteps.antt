-- Where steps end in a node's own code: at the places that a run has in the node, but for the start of what passes it on,
-- which is that of its first item, and for where a call comes back. A GET has a place for each variable of its
-- list, of which there is one at least.
use Rattle.std.proofs.Common.{◌≡◌, ℕ, zero, suc, ◌+◌, ◌<◌, ◌≤◌, Bool, true, false, ◌⊎◌, inl, inr, List, [], ◌∷◌, ◌++◌, length, take, Option, Some, None, refl, sym, subst, arith}
use Rattle.std.specs.Prelude.{◌&&◌, ◌||◌, ◌==◌, IsTrue, flat_map, if◌then◌else◌, nat_lt, not, unwrap_or}
use Rattle.std.proofs.Math.Bool.{false≢true}
use Rattle.std.proofs.lemmas.Bool.{eqb-true, eq-eqb, lt-ltb, ltb-true, or_right, or_left}
use Rattle.plcs_base.specs.Mark.{MarkMap}
use Rattle.plcs_base.specs.declared.declared.Declared.{Declared}
use Rattle.plcs_grammar.specs.declared.category.Category.{Category}
use Rattle.plcs_grammar.specs.declared.category.Category.TheVariants.{VariableList, CommentText}
use Rattle.plcs_grammar.specs.declared.node_kind.NodeKind.{NodeKind}
use Rattle.plcs_grammar.specs.declared.template.Template.{Template}
use Rattle.plcs_grammar.specs.Canon.{Canon}
use Rattle.plcs_grammar.specs.PlainPhrase.{PlainPhrase, PlainVarRef}
use Rattle.plcs_grammar.specs.Reads.{HasReading}
use Rattle.plcs_grammar.specs.Template.{row_of}
use Rattle.plcs_grammar.specs.Token.{Token}
use Rattle.plcs_grammar.specs.PhraseForm.{Form}
use Rattle.template_tree.specs.Checks.Environment.{parameters_given}
use Rattle.template_tree.specs.Programs.Part.{part_at}
use Rattle.template_tree.specs.Positions.Place.{PlainPlace, has_point, has_start, item_count, passes_in}
use Rattle.template_tree.specs.Programs.PlainTree.{Label}
use Rattle.template_tree.specs.Programs.Program.{AreParts, parts_of, sort_of}
use Rattle.plcs_code.specs.CodeLaws.{is_marked_first}
use Rattle.plcs_code.specs.ExprCode.{index_instrs, items_instrs, listed_exprs, listed_instrs, part_instrs, variable_instr}
use Rattle.plcs_code.specs.Gen.{is_call}
use Rattle.plcs_code.specs.Pieces.{cell_instr, get_piece, kind_pieces, parameters_instrs, piece_at, suspension}
use Rattle.plcs_code.specs.PlainInstr.{PlainInstr}
use Rattle.plcs_code.proofs.CodeActions.{AreActions, IsStop, actions_append, cells_actions, is_action, listed_actions, parameters_actions, part_actions, suspension_stops, target_actions}

-- ---- steps that end in code

-- a step ends at the place by the instruction
abbrev pub EndsBy : PlainPlace → PlainInstr → Type 0
EndsBy q (PlainInstr.place at) = (at.slot ≡ q.slot) × (at.point ≡ q.point)
EndsBy q other = ⊥

-- a step ends at the place by one of the instructions
abbrev pub EndsIn : PlainPlace → List PlainInstr → Type 0
EndsIn q [] = ⊥
EndsIn q (instr ∷ code) = EndsBy q instr ⊎ EndsIn q code

pub ends_left : (q : PlainPlace) (one other : List PlainInstr) → EndsIn q one → EndsIn q (one ++ other)
ends_left q [] other h = absurd h
ends_left q (instr ∷ one) other (inl h) = inl h
ends_left q (instr ∷ one) other (inr h) = inr (ends_left q one other h)

pub ends_right : (q : PlainPlace) (one other : List PlainInstr) → EndsIn q other → EndsIn q (one ++ other)
ends_right q [] other h = h
ends_right q (instr ∷ one) other h = inr (ends_right q one other h)

pub ends_either : (q : PlainPlace) (one other : List PlainInstr) → EndsIn q (one ++ other) → EndsIn q one ⊎ EndsIn q other
ends_either q [] other h = inr h
ends_either q (instr ∷ one) other (inl h) = inl (inl h)
ends_either q (instr ∷ one) other (inr h) = elim (ends_either q one other h) as (λ _. EndsIn q (instr ∷ one) ⊎ EndsIn q other) [ inl a ↦ inl (inr a) | inr b ↦ inr b ]

action_ends_not : (q : PlainPlace) (instr : PlainInstr) → is_action instr ≡ true → EndsBy q instr → ⊥
action_ends_not q (PlainInstr.place at) is h = false≢true is
action_ends_not q other is h = h

actions_end_not : (q : PlainPlace) (code : List PlainInstr) → AreActions code → EndsIn q code → ⊥
actions_end_not q [] are h = h
actions_end_not q (instr ∷ code) are (inl h) = action_ends_not q instr are.0 h
actions_end_not q (instr ∷ code) are (inr h) = actions_end_not q code are.1 h

-- the place is this point of the slot
abbrev pub IsPoint : (slot point : ℕ) → PlainPlace → Type 0
IsPoint slot point q = (slot ≡ q.slot) × (point ≡ q.point)

piece_ends : (q : PlainPlace) (slot point : ℕ) (stop : Option PlainInstr) (code : List PlainInstr) → IsStop stop → AreActions code
    → EndsIn q (piece_at slot point stop code) → IsPoint slot point q
piece_ends q slot point None code is are (inl h) = h
piece_ends q slot point None code is are (inr h) = absurd (actions_end_not q code are h)
piece_ends q slot point (Some stop) code is are (inl h) = h
piece_ends q slot point (Some stop) code is are (inr (inl h)) = absurd (action_ends_not q stop is h)
piece_ends q slot point (Some stop) code is are (inr (inr h)) = absurd h

-- ---- the places of a node's own code

-- the place of a node at which no step ends: the start of what passes a run on, or where a call comes back
abbrev pub EndlessPlace : (passes call : Bool) (slot : ℕ) → PlainPlace → Type 0
EndlessPlace true call slot q = IsPoint slot 0 q
EndlessPlace false true slot q = IsPoint slot 1 q
EndlessPlace false false slot q = ⊥

-- the place is one that a node of the kind gives an address: by a step that ends in its pieces, or without one
abbrev pub KindPlace : Option PlainInstr → Option PlainInstr → Label → List Declared → NodeKind → PlainPlace → Type 0
KindPlace all one label items kind q =
    EndlessPlace (passes_in kind) (is_call kind) label.slot q
    ⊎ (EndsIn q (kind_pieces label.slot all one label.parts items kind).before
    ⊎ EndsIn q (kind_pieces label.slot all one label.parts items kind).behind)

-- the place is one that a run has at a node of the kind in its slot
abbrev pub KindHas : Bool → Label → NodeKind → PlainPlace → Type 0
KindHas marked label kind q =
    (label.slot ≡ q.slot) × IsTrue ((has_start (sort_of kind) && (q.point == 0)) || has_point marked label kind q.point)

-- ---- tests of points

or_either : (a b : Bool) → (a || b) ≡ true → (a ≡ true) ⊎ (b ≡ true)
or_either true b e = inl refl
or_either false b e = inr e

is_start : (others : Bool) (point : ℕ) → 0 ≡ point → IsTrue ((point == 0) || others)
is_start others point e = or_left (point == 0) others (eq-eqb point 0 (sym e))

is_one : (others : Bool) (point : ℕ) → 1 ≡ point → IsTrue (others || (point == 1))
is_one others point e = or_right others (point == 1) (eq-eqb point 1 (sym e))

from_start : (point : ℕ) → IsTrue ((point == 0) || false) → 0 ≡ point
from_start point e =
    elim (or_either (point == 0) false e) as (λ _. 0 ≡ point) [ inl a ↦ sym (eqb-true point 0 a) | inr b ↦ absurd (false≢true b) ]

from_two : (point : ℕ) → IsTrue ((point == 0) || (point == 1)) → (0 ≡ point) ⊎ (1 ≡ point)
from_two point e =
    elim (or_either (point == 0) (point == 1) e) as (λ _. (0 ≡ point) ⊎ (1 ≡ point)) [
      | inl a ↦ inl (sym (eqb-true point 0 a))
      | inr b ↦ inr (sym (eqb-true point 1 b))
    ]

from_one : (point : ℕ) → IsTrue (point == 1) → 1 ≡ point
from_one point e = sym (eqb-true point 1 e)

-- ---- a GET

-- the place is of one of so many points of the slot, from a number on
abbrev IsPointFrom : (slot k n : ℕ) → PlainPlace → Type 0
IsPointFrom slot k n q = (slot ≡ q.slot) × (k ≤ q.point) × (q.point < k + n)

-- it is of the first item, or of a later one
later_end : (q : PlainPlace) (slot k n : ℕ) (code : List PlainInstr) (instr : PlainInstr) (more : List PlainInstr) → AreActions code
    → is_action instr ≡ true → (EndsIn q more → IsPointFrom slot (k + 1) n q)
    → EndsIn q code ⊎ EndsIn q (instr ∷ more) → IsPointFrom slot k (suc n) q
later_end q slot k n code instr more are is again (inl a) = absurd (actions_end_not q code are a)
later_end q slot k n code instr more are is again (inr (inl b)) = absurd (action_ends_not q instr is b)
later_end q slot k n code instr more are is again (inr (inr c)) =
    let there = again c in
    let low : k + 1 ≤ q.point = there.1 in
    let high : q.point < (k + 1) + n = there.2 in
    (there.0, omega (arith, low), omega (arith, high))

items_end : (q : PlainPlace) (slot k : ℕ) (targets : List PlainVarRef) → EndsIn q (items_instrs slot k targets)
    → IsPointFrom slot k (length targets) q
items_end q slot k [] h = absurd h
items_end q slot k (target ∷ targets) (inl h) = let e : k ≡ q.point = h.1 in (h.0, omega (arith, e), omega (arith, e))
items_end q slot k (target ∷ targets) (inr h) =
    let own = target_actions PlainInstr.get PlainInstr.get_at target (λ _. refl) (λ _. refl) in
    let code = index_instrs target in
    let instr = variable_instr PlainInstr.get PlainInstr.get_at target in
    later_end q slot k (length targets) code instr (items_instrs slot (k + 1) targets) own.0 own.1 (items_end q slot (k + 1) targets)
    (ends_either q code (instr ∷ items_instrs slot (k + 1) targets) h)

items_begin : (q : PlainPlace) (slot k : ℕ) (targets : List PlainVarRef) → slot ≡ q.slot → (n : ℕ) → n + k ≡ q.point → n < length targets
    → EndsIn q (items_instrs slot k targets)
items_begin q slot k [] same n e few = absurd (omega (arith, few))
items_begin q slot k (target ∷ targets) same zero e few = inl (same, omega (arith, e))
items_begin q slot k (target ∷ targets) same (suc n) e few =
    inr
    (ends_right q (index_instrs target) (variable_instr PlainInstr.get PlainInstr.get_at target ∷ items_instrs slot (k + 1) targets)
    (inr (items_begin q slot (k + 1) targets same n (omega (arith, e)) (omega (arith, few)))))

-- a phrase that may stand in a GET is a list of one variable or more
pub record IsTargetList (phrase : PlainPhrase) : Type 0 where
  pub first : PlainVarRef
  pub more : List PlainVarRef
  pub is : phrase ≡ PlainPhrase.variable_list (first ∷ more)

form_lists : (phrase : PlainPhrase) (tokens : List Token) → Form VariableList tokens phrase → IsTargetList phrase
form_lists (PlainPhrase.variable_list []) tokens form = absurd form.1
form_lists (PlainPhrase.variable_list (first ∷ more)) tokens form = record { first = first; more = more; is = refl }
form_lists (PlainPhrase.assignment target value) tokens form = let wrong : Category.Assignment ≡ VariableList = form.0 in absurd (cc)
form_lists (PlainPhrase.condition e) tokens form = let wrong : Category.Condition ≡ VariableList = form.0 in absurd (cc)
form_lists (PlainPhrase.expression e) tokens form = let wrong : Category.Expression ≡ VariableList = form.0 in absurd (cc)
form_lists (PlainPhrase.expression_list es) tokens form = let wrong : Category.ExpressionList ≡ VariableList = form.0 in absurd (cc)
form_lists (PlainPhrase.variable_name name) tokens form = let wrong : Category.Variable ≡ VariableList = form.0 in absurd (cc)
form_lists (PlainPhrase.call name arguments) tokens form = let wrong : Category.CallRef ≡ VariableList = form.0 in absurd (cc)
form_lists (PlainPhrase.declared_list items) tokens form = let wrong : Category.DeclaredList ≡ VariableList = form.0 in absurd (cc)
form_lists (PlainPhrase.procedure_name name) tokens form = let wrong : Category.ProcedureName ≡ VariableList = form.0 in absurd (cc)
form_lists (PlainPhrase.name_list names) tokens form = let wrong : Category.NameList ≡ VariableList = form.0 in absurd (cc)
form_lists (PlainPhrase.greatest_length n) tokens form = let wrong : Category.Length ≡ VariableList = form.0 in absurd (cc)
form_lists (PlainPhrase.comment bytes) tokens form = let wrong : Category.CommentText ≡ VariableList = form.0 in absurd (cc)

reading_lists : (phrase : PlainPhrase) → HasReading VariableList (Canon phrase) phrase → IsTargetList phrase
reading_lists phrase (inl (pieces, cut)) = form_lists phrase _ cut.form
reading_lists phrase (inr comment) = let wrong : VariableList ≡ CommentText = comment.category_is in absurd (cc)

-- the places of the own code of a GET that isn't stopped
get_begins : (q : PlainPlace) (slot : ℕ) (first : PlainVarRef) (more : List PlainVarRef) → slot ≡ q.slot
    → IsTrue ((q.point == 0) || nat_lt q.point (length (first ∷ more))) → EndsIn q (items_instrs slot 0 (first ∷ more))
get_begins q slot first more same has =
    items_begin q slot 0 (first ∷ more) same q.point (omega arith) (by (or_either (q.point == 0) (nat_lt q.point (length (first ∷ more))) has))
  where
    by : ((q.point == 0) ≡ true) ⊎ (nat_lt q.point (length (first ∷ more)) ≡ true) → q.point < length (first ∷ more)
    by (inl a) = let e : q.point ≡ 0 = eqb-true q.point 0 a in omega (arith, e)
    by (inr b) = ltb-true q.point (length (first ∷ more)) b

-- the parts of a GET: one, which is empty or holds such a list
pub data TargetPart : List (Option PlainPhrase) → Type 0 where
  empty_part : TargetPart (None ∷ [])
  listed_part : {phrase : PlainPhrase} → IsTargetList phrase → TargetPart (Some phrase ∷ [])

pub get_parts : (parts : List (Option PlainPhrase)) → AreParts (VariableList ∷ []) parts → TargetPart parts
get_parts [] are = absurd are
get_parts (part ∷ (other ∷ others)) are = absurd are.1
get_parts (None ∷ []) are = empty_part
get_parts (Some phrase ∷ []) are = listed_part (reading_lists phrase are.0.well_formed.0)

-- ---- from the code to the place

-- a place of a node without code
no_place : (X : Type 0) → ⊥ ⊎ (⊥ ⊎ ⊥) → X
no_place X (inl h) = absurd h
no_place X (inr (inl h)) = absurd h
no_place X (inr (inr h)) = absurd h

-- a place of a node with one piece, at its start
start_place : (q : PlainPlace) (slot : ℕ) (stop : Option PlainInstr) (code : List PlainInstr) → IsStop stop → AreActions code
    → ⊥ ⊎ (EndsIn q (piece_at slot 0 stop code) ⊎ ⊥) → (slot ≡ q.slot) × IsTrue ((q.point == 0) || false)
start_place q slot stop code is are (inl h) = absurd h
start_place q slot stop code is are (inr (inl h)) =
    let there = piece_ends q slot 0 stop code is are h in (there.0, is_start false q.point there.1)
start_place q slot stop code is are (inr (inr h)) = absurd h

-- the start of what passes a run on
passed_place : (q : PlainPlace) (slot : ℕ) → IsPoint slot 0 q ⊎ (⊥ ⊎ ⊥) → (slot ≡ q.slot) × IsTrue ((q.point == 0) || false)
passed_place q slot (inl h) = (h.0, is_start false q.point h.1)
passed_place q slot (inr (inl h)) = absurd h
passed_place q slot (inr (inr h)) = absurd h

-- a place of a call: its start, or where it comes back
call_place : (q : PlainPlace) (slot : ℕ) (stop : Option PlainInstr) (code : List PlainInstr) → IsStop stop → AreActions code
    → IsPoint slot 1 q ⊎ (EndsIn q (piece_at slot 0 stop code) ⊎ ⊥) → (slot ≡ q.slot) × IsTrue ((q.point == 0) || (q.point == 1))
call_place q slot stop code is are (inl h) = (h.0, is_one (q.point == 0) q.point h.1)
call_place q slot stop code is are (inr (inl h)) =
    let there = piece_ends q slot 0 stop code is are h in (there.0, is_start (q.point == 1) q.point there.1)
call_place q slot stop code is are (inr (inr h)) = absurd h

-- a place of a loop that counts: its start, or its next iteration
loop_place : (q : PlainPlace) (slot : ℕ) (all one : Option PlainInstr) (code : List PlainInstr) → IsStop all → IsStop one → AreActions code
    → ⊥ ⊎ (EndsIn q (piece_at slot 0 all code) ⊎ EndsIn q (piece_at slot 1 one []))
    → (slot ≡ q.slot) × IsTrue ((q.point == 0) || (q.point == 1))
loop_place q slot all one code stop first are (inl h) = absurd h
loop_place q slot all one code stop first are (inr (inl h)) =
    let there = piece_ends q slot 0 all code stop are h in (there.0, is_start (q.point == 1) q.point there.1)
loop_place q slot all one code stop first are (inr (inr h)) =
    let there = piece_ends q slot 1 one [] first tt h in (there.0, is_one (q.point == 0) q.point there.1)

-- a place of a loop that tests at its end: its start, which is that of its first item, or the test
tested_place : (q : PlainPlace) (slot : ℕ) (stop : Option PlainInstr) (code : List PlainInstr) → IsStop stop → AreActions code
    → IsPoint slot 0 q ⊎ (⊥ ⊎ EndsIn q (piece_at slot 1 stop code)) → (slot ≡ q.slot) × IsTrue ((q.point == 0) || (q.point == 1))
tested_place q slot stop code is are (inl h) = (h.0, is_start (q.point == 1) q.point h.1)
tested_place q slot stop code is are (inr (inl h)) = absurd h
tested_place q slot stop code is are (inr (inr h)) =
    let there = piece_ends q slot 1 stop code is are h in (there.0, is_one (q.point == 0) q.point there.1)

-- the cells of a procedure
cells_code : (items : List Declared) (parameters : List (List ℕ))
    → AreActions (parameters_instrs items [] parameters ++ flat_map (cell_instr parameters) items)
cells_code items parameters =
    actions_append (parameters_instrs items [] parameters) (flat_map (cell_instr parameters) items)
    (parameters_actions items [] parameters) (cells_actions parameters items)

-- a place of a procedure: where it is left
procedure_place : (q : PlainPlace) (slot : ℕ) (code : List PlainInstr) → AreActions code
    → ⊥ ⊎ (EndsIn q code ⊎ EndsIn q (piece_at slot 1 None (PlainInstr.leave ∷ []))) → (slot ≡ q.slot) × IsTrue (q.point == 1)
procedure_place q slot code are (inl h) = absurd h
procedure_place q slot code are (inr (inl h)) = absurd (actions_end_not q code are h)
procedure_place q slot code are (inr (inr h)) =
    let there = piece_ends q slot 1 None (PlainInstr.leave ∷ []) tt (refl, tt) h in (there.0, eq-eqb q.point 1 (sym there.1))

-- the three expressions of a loop that counts
loop_code : (parts : List (Option PlainPhrase))
    → AreActions (part_instrs (part_at parts 1) ++ (part_instrs (part_at parts 2) ++ part_instrs (part_at parts 3)))
loop_code parts =
    actions_append (part_instrs (part_at parts 1)) (part_instrs (part_at parts 2) ++ part_instrs (part_at parts 3))
    (part_actions (part_at parts 1))
    (actions_append (part_instrs (part_at parts 2)) (part_instrs (part_at parts 3)) (part_actions (part_at parts 2))
    (part_actions (part_at parts 3)))

-- what stops a GET with a list: a mark
get_stop : (marks : MarkMap) (slot : ℕ) (phrase : PlainPhrase) (marked : Bool) → is_marked_first marks slot ≡ marked
    → suspension marks slot (Some phrase ∷ []) ≡ (if marked then Some PlainInstr.suspend_marked else None)
get_stop marks slot phrase true e = rw e refl
get_stop marks slot phrase false e = rw e refl

-- the places of a GET with this list, as it is stopped or not
abbrev GetHas : (marked : Bool) (slot : ℕ) → List PlainVarRef → PlainPlace → Type 0
GetHas marked slot targets q = (slot ≡ q.slot) × IsTrue ((q.point == 0) || (not marked && nat_lt q.point (length targets)))

abbrev GetPlace : Option PlainInstr → (slot : ℕ) → Option PlainPhrase → PlainPlace → Type 0
GetPlace stop slot part q = ⊥ ⊎ (EndsIn q (get_piece slot stop part) ⊎ ⊥)

listed_place : (marked : Bool) (q : PlainPlace) (slot : ℕ) (targets : List PlainVarRef)
    → GetPlace (if marked then Some PlainInstr.suspend_marked else None) slot (Some (PlainPhrase.variable_list targets)) q
    → GetHas marked slot targets q
listed_place marked q slot targets (inl h) = absurd h
listed_place marked q slot targets (inr (inr h)) = absurd h
listed_place true q slot targets (inr (inl (inl h))) = (h.0, is_start false q.point h.1)
listed_place true q slot targets (inr (inl (inr (inl h)))) = absurd h
listed_place true q slot targets (inr (inl (inr (inr h)))) = absurd h
listed_place false q slot targets (inr (inl h)) =
    let there = items_end q slot 0 targets h in
    let few : q.point < length targets = omega (arith, there.2) in
    (there.0, or_right (q.point == 0) (nat_lt q.point (length targets)) (lt-ltb q.point (length targets) few))

empty_place : (q : PlainPlace) (slot : ℕ) (others : Bool) → GetPlace (Some PlainInstr.suspend_placeholder) slot None q
    → (slot ≡ q.slot) × IsTrue ((q.point == 0) || others)
empty_place q slot others (inl h) = absurd h
empty_place q slot others (inr (inr h)) = absurd h
empty_place q slot others (inr (inl (inl h))) = (h.0, is_start others q.point h.1)
empty_place q slot others (inr (inl (inr (inl h)))) = absurd h
empty_place q slot others (inr (inl (inr (inr h)))) = absurd h

-- the places of a GET are those that a run has there
abbrev GetAt : MarkMap → (slot : ℕ) → List (Option PlainPhrase) → PlainPlace → Type 0
GetAt marks slot parts q = GetPlace (suspension marks slot parts) slot (part_at parts 0) q

abbrev GetHasAt : MarkMap → (slot : ℕ) → List (Option PlainPhrase) → PlainPlace → Type 0
GetHasAt marks slot parts q =
    (slot ≡ q.slot) × IsTrue ((q.point == 0) || (not (is_marked_first marks slot) && nat_lt q.point (item_count parts)))

get_place : (marks : MarkMap) (slot : ℕ) (parts : List (Option PlainPhrase)) (q : PlainPlace) → TargetPart parts
    → GetAt marks slot parts q → GetHasAt marks slot parts q
get_place marks slot [] q part h = elim part [ ]
get_place marks slot (None ∷ (other ∷ others)) q part h = elim part [ ]
get_place marks slot (Some phrase ∷ (other ∷ others)) q part h = elim part [ ]
get_place marks slot (None ∷ []) q empty_part h = empty_place q slot (not (is_marked_first marks slot) && nat_lt q.point 0) h
get_place marks slot (Some phrase ∷ []) q (listed_part list) h =
    let targets = list.first ∷ list.more in
    let e : suspension marks slot (Some phrase ∷ []) ≡ (if is_marked_first marks slot then Some PlainInstr.suspend_marked else None) =
    get_stop marks slot phrase (is_marked_first marks slot) refl in
    let there : GetHas (is_marked_first marks slot) slot targets q =
    listed_place (is_marked_first marks slot) q slot targets
    (subst (λ (p : PlainPhrase). GetPlace (if is_marked_first marks slot then Some PlainInstr.suspend_marked else None) slot (Some p) q) list.is
    (subst (λ (s : Option PlainInstr). GetPlace s slot (Some phrase) q) e h)) in
    subst (λ (p : PlainPhrase). GetHasAt marks slot (Some p ∷ []) q) (sym list.is) there

-- ---- from the place to the code

begin_listed : (marked : Bool) (q : PlainPlace) (slot : ℕ) (first : PlainVarRef) (more : List PlainVarRef)
    → GetHas marked slot (first ∷ more) q
    → EndsIn q (get_piece slot (if marked then Some PlainInstr.suspend_marked else None) (Some (PlainPhrase.variable_list (first ∷ more))))
begin_listed true q slot first more has = inl (has.0, from_start q.point has.1)
begin_listed false q slot first more has = get_begins q slot first more has.0 has.1

begin_empty : (q : PlainPlace) (slot : ℕ) (marked : Bool) → (slot ≡ q.slot) × IsTrue ((q.point == 0) || (not marked && nat_lt q.point 0))
    → EndsIn q (get_piece slot (Some PlainInstr.suspend_placeholder) None)
begin_empty q slot true has = inl (has.0, from_start q.point has.1)
begin_empty q slot false has = inl (has.0, by (or_either (q.point == 0) (nat_lt q.point 0) has.1))
  where
    by : ((q.point == 0) ≡ true) ⊎ (nat_lt q.point 0 ≡ true) → 0 ≡ q.point
    by (inl a) = sym (eqb-true q.point 0 a)
    by (inr b) = let wrong : q.point < 0 = ltb-true q.point 0 b in absurd (omega (arith, wrong))

get_begin : (marks : MarkMap) (slot : ℕ) (parts : List (Option PlainPhrase)) (q : PlainPlace) → TargetPart parts
    → GetHasAt marks slot parts q → EndsIn q (get_piece slot (suspension marks slot parts) (part_at parts 0))
get_begin marks slot [] q part has = elim part [ ]
get_begin marks slot (None ∷ (other ∷ others)) q part has = elim part [ ]
get_begin marks slot (Some phrase ∷ (other ∷ others)) q part has = elim part [ ]
get_begin marks slot (None ∷ []) q empty_part has = begin_empty q slot (is_marked_first marks slot) has
get_begin marks slot (Some phrase ∷ []) q (listed_part list) has =
    let e : suspension marks slot (Some phrase ∷ []) ≡ (if is_marked_first marks slot then Some PlainInstr.suspend_marked else None) =
    get_stop marks slot phrase (is_marked_first marks slot) refl in
    let there =
    begin_listed (is_marked_first marks slot) q slot list.first list.more
    (subst (λ (p : PlainPhrase). GetHasAt marks slot (Some p ∷ []) q) list.is has) in
    subst (λ (s : Option PlainInstr). EndsIn q (get_piece slot s (Some phrase))) (sym e)
    (subst (λ (p : PlainPhrase). EndsIn q (get_piece slot (if is_marked_first marks slot then Some PlainInstr.suspend_marked else None) (Some p))) (sym list.is)
    there)

-- a point that a node has at its start
begin_piece : (q : PlainPlace) (slot : ℕ) (stop : Option PlainInstr) (code : List PlainInstr) → slot ≡ q.slot → IsTrue ((q.point == 0) || false)
    → EndsIn q (piece_at slot 0 stop code)
begin_piece q slot stop code same has = inl (same, from_start q.point has)

begin_call : (q : PlainPlace) (slot : ℕ) (stop : Option PlainInstr) (code : List PlainInstr) → slot ≡ q.slot
    → IsTrue ((q.point == 0) || (q.point == 1)) → IsPoint slot 1 q ⊎ (EndsIn q (piece_at slot 0 stop code) ⊎ ⊥)
begin_call q slot stop code same has =
    elim (from_two q.point has) as (λ _. IsPoint slot 1 q ⊎ (EndsIn q (piece_at slot 0 stop code) ⊎ ⊥)) [
      | inl a ↦ inr (inl (inl (same, a)))
      | inr b ↦ inl (same, b)
    ]

begin_loop : (q : PlainPlace) (slot : ℕ) (all one : Option PlainInstr) (code : List PlainInstr) → slot ≡ q.slot
    → IsTrue ((q.point == 0) || (q.point == 1)) → ⊥ ⊎ (EndsIn q (piece_at slot 0 all code) ⊎ EndsIn q (piece_at slot 1 one []))
begin_loop q slot all one code same has =
    elim (from_two q.point has) as (λ _. ⊥ ⊎ (EndsIn q (piece_at slot 0 all code) ⊎ EndsIn q (piece_at slot 1 one []))) [
      | inl a ↦ inr (inl (inl (same, a)))
      | inr b ↦ inr (inr (inl (same, b)))
    ]

begin_tested : (q : PlainPlace) (slot : ℕ) (stop : Option PlainInstr) (code : List PlainInstr) → slot ≡ q.slot
    → IsTrue ((q.point == 0) || (q.point == 1)) → IsPoint slot 0 q ⊎ (⊥ ⊎ EndsIn q (piece_at slot 1 stop code))
begin_tested q slot stop code same has =
    elim (from_two q.point has) as (λ _. IsPoint slot 0 q ⊎ (⊥ ⊎ EndsIn q (piece_at slot 1 stop code))) [
      | inl a ↦ inl (same, a)
      | inr b ↦ inr (inr (inl (same, b)))
    ]

-- ---- by the table

template_place : (marks : MarkMap) (label : Label) (items : List Declared) (template : Template) (q : PlainPlace)
    → AreParts (parts_of (row_of (NodeKind.Filled template)).line) label.parts
    → KindPlace (suspension marks label.slot label.parts) (suspension marks label.slot (take 1 label.parts)) label items (NodeKind.Filled template) q
    → KindHas (is_marked_first marks label.slot) label (NodeKind.Filled template) q
template_place marks label items Template.Fixed q are h = no_place _ h
template_place marks label items Template.Bit q are h = no_place _ h
template_place marks label items Template.Char q are h = no_place _ h
template_place marks label items Template.If q are h =
    start_place q label.slot (suspension marks label.slot label.parts) (part_instrs (part_at label.parts 0))
    (suspension_stops marks label.slot label.parts) (part_actions (part_at label.parts 0)) h
template_place marks label items Template.IfElse q are h =
    start_place q label.slot (suspension marks label.slot label.parts) (part_instrs (part_at label.parts 0))
    (suspension_stops marks label.slot label.parts) (part_actions (part_at label.parts 0)) h
template_place marks label items Template.While q are h =
    start_place q label.slot (suspension marks label.slot label.parts) (part_instrs (part_at label.parts 0))
    (suspension_stops marks label.slot label.parts) (part_actions (part_at label.parts 0)) h
template_place marks label items Template.For q are h =
    loop_place q label.slot (suspension marks label.slot label.parts) (suspension marks label.slot (take 1 label.parts))
    (part_instrs (part_at label.parts 1) ++ (part_instrs (part_at label.parts 2) ++ part_instrs (part_at label.parts 3)))
    (suspension_stops marks label.slot label.parts) (suspension_stops marks label.slot (take 1 label.parts)) (loop_code label.parts) h
template_place marks label items Template.Until q are h =
    tested_place q label.slot (suspension marks label.slot (take 1 label.parts)) (part_instrs (part_at label.parts 0))
    (suspension_stops marks label.slot (take 1 label.parts)) (part_actions (part_at label.parts 0)) h
template_place marks label items Template.Group q are h = passed_place q label.slot h
template_place marks label items Template.Get q are h =
    get_place marks label.slot label.parts q (get_parts label.parts are) h
template_place marks label items Template.Put q are h =
    start_place q label.slot (suspension marks label.slot label.parts) (listed_instrs PlainInstr.put (listed_exprs (part_at label.parts 0)))
    (suspension_stops marks label.slot label.parts) (listed_actions PlainInstr.put (listed_exprs (part_at label.parts 0)) (λ _. refl)) h
template_place marks label items Template.PutSkip q are h =
    start_place q label.slot (suspension marks label.slot label.parts) (listed_instrs PlainInstr.put_skip (listed_exprs (part_at label.parts 0)))
    (suspension_stops marks label.slot label.parts) (listed_actions PlainInstr.put_skip (listed_exprs (part_at label.parts 0)) (λ _. refl)) h
template_place marks label items Template.Call q are h =
    call_place q label.slot (suspension marks label.slot label.parts) (part_instrs (part_at label.parts 0))
    (suspension_stops marks label.slot label.parts) (part_actions (part_at label.parts 0)) h
template_place marks label items Template.Return q are h =
    start_place q label.slot None (PlainInstr.leave ∷ []) tt (refl, tt) h
template_place marks label items Template.Comment q are h = passed_place q label.slot h
template_place marks label items Template.Proc q are h =
    procedure_place q label.slot (parameters_instrs items [] [] ++ flat_map (cell_instr []) items) (cells_code items []) h
template_place marks label items Template.ProcP q are h =
    procedure_place q label.slot
    (parameters_instrs items [] (unwrap_or (parameters_given label.parts) []) ++ flat_map (cell_instr (unwrap_or (parameters_given label.parts) [])) items)
    (cells_code items (unwrap_or (parameters_given label.parts) [])) h

-- a place of a node's own code is one that a run has there
pub place_had : (marks : MarkMap) (label : Label) (items : List Declared) (kind : NodeKind) (q : PlainPlace)
    → AreParts (parts_of (row_of kind).line) label.parts
    → KindPlace (suspension marks label.slot label.parts) (suspension marks label.slot (take 1 label.parts)) label items kind q
    → KindHas (is_marked_first marks label.slot) label kind q
place_had marks label items NodeKind.DeclarationHole q are h = no_place _ h
place_had marks label items NodeKind.StatementHole q are h =
    start_place q label.slot None (PlainInstr.suspend_placeholder ∷ []) tt (refl, tt) h
place_had marks label items NodeKind.ProcedureHole q are h = no_place _ h
place_had marks label items NodeKind.Main q are h =
    procedure_place q label.slot (parameters_instrs items [] [] ++ flat_map (cell_instr []) items) (cells_code items []) h
place_had marks label items NodeKind.Assign q are h =
    start_place q label.slot (suspension marks label.slot label.parts) (part_instrs (part_at label.parts 0))
    (suspension_stops marks label.slot label.parts) (part_actions (part_at label.parts 0)) h
place_had marks label items (NodeKind.Filled template) q are h = template_place marks label items template q are h

template_has : (marks : MarkMap) (label : Label) (items : List Declared) (template : Template) (q : PlainPlace)
    → AreParts (parts_of (row_of (NodeKind.Filled template)).line) label.parts
    → KindHas (is_marked_first marks label.slot) label (NodeKind.Filled template) q
    → KindPlace (suspension marks label.slot label.parts) (suspension marks label.slot (take 1 label.parts)) label items (NodeKind.Filled template) q
template_has marks label items Template.Fixed q are h = absurd (false≢true h.1)
template_has marks label items Template.Bit q are h = absurd (false≢true h.1)
template_has marks label items Template.Char q are h = absurd (false≢true h.1)
template_has marks label items Template.If q are h = inr (inl (begin_piece q label.slot (suspension marks label.slot label.parts) _ h.0 h.1))
template_has marks label items Template.IfElse q are h = inr (inl (begin_piece q label.slot (suspension marks label.slot label.parts) _ h.0 h.1))
template_has marks label items Template.While q are h = inr (inl (begin_piece q label.slot (suspension marks label.slot label.parts) _ h.0 h.1))
template_has marks label items Template.For q are h =
    begin_loop q label.slot (suspension marks label.slot label.parts) (suspension marks label.slot (take 1 label.parts))
    (part_instrs (part_at label.parts 1) ++ (part_instrs (part_at label.parts 2) ++ part_instrs (part_at label.parts 3))) h.0 h.1
template_has marks label items Template.Until q are h =
    begin_tested q label.slot (suspension marks label.slot (take 1 label.parts)) (part_instrs (part_at label.parts 0)) h.0 h.1
template_has marks label items Template.Group q are h = inl (h.0, from_start q.point h.1)
template_has marks label items Template.Get q are h =
    inr (inl (get_begin marks label.slot label.parts q (get_parts label.parts are) h))
template_has marks label items Template.Put q are h = inr (inl (begin_piece q label.slot (suspension marks label.slot label.parts) _ h.0 h.1))
template_has marks label items Template.PutSkip q are h = inr (inl (begin_piece q label.slot (suspension marks label.slot label.parts) _ h.0 h.1))
template_has marks label items Template.Call q are h =
    begin_call q label.slot (suspension marks label.slot label.parts) (part_instrs (part_at label.parts 0)) h.0 h.1
template_has marks label items Template.Return q are h = inr (inl (begin_piece q label.slot None (PlainInstr.leave ∷ []) h.0 h.1))
template_has marks label items Template.Comment q are h = inl (h.0, from_start q.point h.1)
template_has marks label items Template.Proc q are h = inr (inr (inl (h.0, from_one q.point h.1)))
template_has marks label items Template.ProcP q are h = inr (inr (inl (h.0, from_one q.point h.1)))

-- and each place that a run has at a node is one of its own code
pub had_place : (marks : MarkMap) (label : Label) (items : List Declared) (kind : NodeKind) (q : PlainPlace)
    → AreParts (parts_of (row_of kind).line) label.parts
    → KindHas (is_marked_first marks label.slot) label kind q
    → KindPlace (suspension marks label.slot label.parts) (suspension marks label.slot (take 1 label.parts)) label items kind q
had_place marks label items NodeKind.DeclarationHole q are h = absurd (false≢true h.1)
had_place marks label items NodeKind.StatementHole q are h =
    inr (inl (begin_piece q label.slot None (PlainInstr.suspend_placeholder ∷ []) h.0 h.1))
had_place marks label items NodeKind.ProcedureHole q are h = absurd (false≢true h.1)
had_place marks label items NodeKind.Main q are h = inr (inr (inl (h.0, from_one q.point h.1)))
had_place marks label items NodeKind.Assign q are h = inr (inl (begin_piece q label.slot (suspension marks label.slot label.parts) _ h.0 h.1))
had_place marks label items (NodeKind.Filled template) q are h = template_has marks label items template q are h
