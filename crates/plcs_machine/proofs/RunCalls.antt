-- A call by code: the procedure's cells are made from its arguments and from its items, which are those of the frame
-- that the tree's step makes, and the step ends where a run begins in the procedure. The code of the call and that of
-- the cells have no instruction in common, so both together are fetched within as many fetches as there are
-- instructions.
use Rattle.std.specs.Prelude.{◌≡◌, refl, ℕ, zero, suc, ◌+◌, ◌-◌, ◌≤◌, ◌<◌, ◌==◌, nat_le, ℤ, Bool, true, false, not, bytes_eq, flat_map, if◌then◌else◌, List, [], ◌∷◌, ◌++◌, drop, length, map, slice_get, Option, Some, None, is_some, option_and_then, option_map}
use Rattle.std.specs.FinMap.{get}
use Rattle.std.specs.List.{list_all, list_any}
use Rattle.std.proofs.Common.{ap, sym, ◌∙◌, subst, arith, append_assoc, ◌⊎◌, inl, inr}
use Rattle.std.proofs.Math.Bool.{false≢true}
use Rattle.std.proofs.lemmas.Bool.{le-leb}
use Rattle.std.proofs.lemmas.List.{append-nil, length-append}
use Rattle.std.proofs.lemmas.Option.{none-some, same_Some}
use Rattle.plcs_base.specs.declared.declared.Declared.{Declared}
use Rattle.plcs_base.specs.declared.declared.ItemType.{ItemType}
use Rattle.plcs_grammar.specs.Canon.{canon_list}
use Rattle.plcs_grammar.specs.PlainPhrase.{PlainExpr, PlainExprs, PlainVarRef}
use Rattle.template_tree.specs.Checks.Environment.{item_named, parameter_kind, parameter_kinds}
use Rattle.plcs_code.specs.declared.heading_entry.HeadingEntry.{HeadingEntry}
use Rattle.plcs_code.specs.ExprCode.{argument_instrs, arguments_instrs, expr_count, expr_instrs, exprs_instrs, index_instrs, variable_instr}
use Rattle.plcs_code.specs.Gen.{PlainCode}
use Rattle.plcs_code.specs.Pieces.{cell_instr, new_parameter, parameter_instr, parameters_instrs}
use Rattle.plcs_code.specs.PlainInstr.{PlainInstr}
use Rattle.plcs_store.specs.declared.argument.Argument.{Argument}
use Rattle.plcs_store.specs.declared.fault_kind.FaultKind.{FaultKind}
use Rattle.plcs_store.specs.declared.frame.Frame.{Frame}
use Rattle.plcs_store.specs.declared.variable.Variable.{Variable}
use Rattle.plcs_store.specs.Act.{Act, done}
use Rattle.plcs_store.specs.CellAt.{Variables, located, unset_named}
use Rattle.plcs_store.specs.Configuration.{PlainConfiguration}
use Rattle.plcs_store.specs.ExpressionValue.{argument_values}
use Rattle.plcs_store.specs.Limit.{most_frames}
use Rattle.plcs_store.specs.NewFrame.{new_frame, other_variables, parameter_of, parameter_variables}
use Rattle.plcs_store.specs.Outcome.{Outcome, faults, if_there, then_gives}
use Rattle.plcs_store.specs.Spot.{Callee}
use Rattle.plcs_store.specs.Step.{PlainStepAnswer, call_going, enter_going, step_answer}
use Rattle.plcs_machine.specs.Exec.{called}
use Rattle.plcs_machine.specs.Fetched.{Fetched, behind_one, result_of, with_result}
use Rattle.plcs_machine.specs.Lead.{Lead, enters_lead, newest_arguments}
use Rattle.plcs_machine.specs.Passing.{Landing, Making, passed, passing_of, settle, with_unset, with_variable, with_variables}
use Rattle.plcs_machine.specs.Reached.{reached}
use Rattle.plcs_machine.proofs.CalledFrames.{all_parts, first_made, kept_items, parameter_is}
use Rattle.plcs_machine.proofs.FreshVariables.{Added}
use Rattle.plcs_machine.proofs.RunArguments.{arguments_add, arguments_count}
use Rattle.plcs_machine.proofs.RunExpressions.{after, answer, led, one_step}
use Rattle.plcs_machine.proofs.RunLandings.{answer_then}
use Rattle.plcs_machine.proofs.RunSpots.{Meets, meets_after, meets_by, split}
use Rattle.plcs_machine.proofs.StandingCode.{HasAt, has_first, has_second}
use Rattle.plcs_machine.proofs.TreeBegun.{result_behind}

-- ---- code of two sorts

-- code that works on values, none of which comes where a frame is made
abbrev pub AllWork : List PlainInstr → Type 0
AllWork [] = Unit {0}
AllWork (instr ∷ code) = (is_some (passing_of instr) ≡ false) × AllWork code

-- code that makes a frame
abbrev pub AllPass : List PlainInstr → Type 0
AllPass [] = Unit {0}
AllPass (instr ∷ code) = (is_some (passing_of instr) ≡ true) × AllPass code

work_append : (one other : List PlainInstr) → AllWork one → AllWork other → AllWork (one ++ other)
work_append [] other first second = second
work_append (instr ∷ one) other first second = (first.0, work_append one other first.1 second)

pass_append : (one other : List PlainInstr) → AllPass one → AllPass other → AllPass (one ++ other)
pass_append [] other first second = second
pass_append (instr ∷ one) other first second = (first.0, pass_append one other first.1 second)

work_then : (code : List PlainInstr) (instr : PlainInstr) → AllWork code → is_some (passing_of instr) ≡ false → AllWork (code ++ (instr ∷ []))
work_then code instr first last = work_append code (instr ∷ []) first (last, tt)

variable_work : (simple subscripted : List ℕ → PlainInstr) (reference : PlainVarRef) → ((name : List ℕ) → is_some (passing_of (simple name)) ≡ false)
    → ((name : List ℕ) → is_some (passing_of (subscripted name)) ≡ false) → is_some (passing_of (variable_instr simple subscripted reference)) ≡ false
variable_work simple subscripted (PlainVarRef.simple name) one other = one name
variable_work simple subscripted (PlainVarRef.subscripted name index) one other = other name

mutual
  expr_work : (e : PlainExpr) → AllWork (expr_instrs e)
  expr_work (PlainExpr.number z) = (refl, tt)
  expr_work (PlainExpr.text value) = (refl, tt)
  expr_work (PlainExpr.bit value) = (refl, tt)
  expr_work (PlainExpr.variable reference) =
      work_then (index_instrs reference) (variable_instr PlainInstr.load PlainInstr.load_at reference) (index_work reference)
      (variable_work PlainInstr.load PlainInstr.load_at reference (λ _. refl) (λ _. refl))
  expr_work (PlainExpr.unary op a) = work_then (expr_instrs a) (PlainInstr.unary op) (expr_work a) refl
  expr_work (PlainExpr.binary op a b) =
      work_append (expr_instrs a) (expr_instrs b ++ (PlainInstr.binary op ∷ [])) (expr_work a) (work_then (expr_instrs b) (PlainInstr.binary op) (expr_work b) refl)
  expr_work (PlainExpr.builtin function arguments) =
      work_then (exprs_instrs arguments) (PlainInstr.builtin function (expr_count arguments)) (exprs_work arguments) refl
  expr_work (PlainExpr.parenthesized a) = expr_work a

  index_work : (reference : PlainVarRef) → AllWork (index_instrs reference)
  index_work (PlainVarRef.simple name) = tt
  index_work (PlainVarRef.subscripted name index) = expr_work index

  exprs_work : (es : PlainExprs) → AllWork (exprs_instrs es)
  exprs_work PlainExprs.nil = tt
  exprs_work (PlainExprs.cons a rest) = work_append (expr_instrs a) (exprs_instrs rest) (expr_work a) (exprs_work rest)

argument_work : (e : PlainExpr) → AllWork (argument_instrs e)
argument_work (PlainExpr.variable reference) =
    work_then (index_instrs reference) (variable_instr PlainInstr.reference PlainInstr.reference_at reference) (index_work reference)
    (variable_work PlainInstr.reference PlainInstr.reference_at reference (λ _. refl) (λ _. refl))
argument_work (PlainExpr.number z) = (refl, (refl, tt))
argument_work (PlainExpr.text value) = (refl, (refl, tt))
argument_work (PlainExpr.bit value) = (refl, (refl, tt))
argument_work (PlainExpr.unary op a) = work_then (expr_instrs (PlainExpr.unary op a)) PlainInstr.dummy (expr_work (PlainExpr.unary op a)) refl
argument_work (PlainExpr.binary op a b) = work_then (expr_instrs (PlainExpr.binary op a b)) PlainInstr.dummy (expr_work (PlainExpr.binary op a b)) refl
argument_work (PlainExpr.builtin function arguments) =
    work_then (expr_instrs (PlainExpr.builtin function arguments)) PlainInstr.dummy (expr_work (PlainExpr.builtin function arguments)) refl
argument_work (PlainExpr.parenthesized a) = work_then (expr_instrs a) PlainInstr.dummy (expr_work a) refl

arguments_work : (es : PlainExprs) → AllWork (arguments_instrs es)
arguments_work PlainExprs.nil = tt
arguments_work (PlainExprs.cons a rest) = work_append (argument_instrs a) (arguments_instrs rest) (argument_work a) (arguments_work rest)

parameter_pass : (item : Option Declared) → AllPass (parameter_instr item)
parameter_pass None = tt
parameter_pass (Some item) = by (item.size == 0)
  where
    by : (b : Bool) → AllPass (if b then PlainInstr.parameter item.name item.ty ∷ [] else [])
    by true = (refl, tt)
    by false = tt

parameters_pass : (items : List Declared) (earlier names : List (List ℕ)) → AllPass (parameters_instrs items earlier names)
parameters_pass items earlier [] = tt
parameters_pass items earlier (name ∷ names) =
    pass_append (new_parameter items earlier name) (parameters_instrs items (earlier ++ (name ∷ [])) names) (by (list_any (bytes_eq name) earlier))
    (parameters_pass items (earlier ++ (name ∷ [])) names)
  where
    by : (b : Bool) → AllPass (if b then [] else parameter_instr (item_named name items))
    by true = tt
    by false = parameter_pass (item_named name items)

cells_pass : (names : List (List ℕ)) (items : List Declared) → AllPass (flat_map (cell_instr names) items)
cells_pass names [] = tt
cells_pass names (item ∷ items) = pass_append (cell_instr names item) (flat_map (cell_instr names) items) (by (list_any (bytes_eq item.name) names)) (cells_pass names items)
  where
    by : (b : Bool) → AllPass (if b then [] else PlainInstr.cell item.name item.ty item.size ∷ [])
    by true = tt
    by false = (refl, tt)

-- an instruction of either sort
work_read : (instrs : List PlainInstr) (address k : ℕ) (code : List PlainInstr) → HasAt instrs address code → AllWork code → k < length code
    → (instr : PlainInstr) × (slice_get instrs (address + k) ≡ Some instr) × (is_some (passing_of instr) ≡ false)
work_read instrs address k [] has work few = absurd (omega (arith, few))
work_read instrs address zero (instr ∷ code) has work few = (instr, ap (slice_get instrs) (omega arith) ∙ has.0, work.0)
work_read instrs address (suc k) (instr ∷ code) has work few =
    let there = work_read instrs (address + 1) k code has.1 work.1 (omega (arith, few)) in
    (there.0, ap (slice_get instrs) (omega arith) ∙ there.1, there.2)

pass_read : (instrs : List PlainInstr) (address k : ℕ) (code : List PlainInstr) → HasAt instrs address code → AllPass code → k < length code
    → (instr : PlainInstr) × (slice_get instrs (address + k) ≡ Some instr) × (is_some (passing_of instr) ≡ true)
pass_read instrs address k [] has pass few = absurd (omega (arith, few))
pass_read instrs address zero (instr ∷ code) has pass few = (instr, ap (slice_get instrs) (omega arith) ∙ has.0, pass.0)
pass_read instrs address (suc k) (instr ∷ code) has pass few =
    let there = pass_read instrs (address + 1) k code has.1 pass.1 (omega (arith, few)) in
    (there.0, ap (slice_get instrs) (omega arith) ∙ there.1, there.2)

-- code of the two sorts doesn't stand at one address
not_both : (instrs : List PlainInstr) (at : ℕ) → ((one : PlainInstr) × (slice_get instrs at ≡ Some one) × (is_some (passing_of one) ≡ false))
    → ((one : PlainInstr) × (slice_get instrs at ≡ Some one) × (is_some (passing_of one) ≡ true)) → ⊥
not_both instrs at (one, here, work) (other, there, pass) =
    false≢true (sym work ∙ (ap (λ (i : PlainInstr). is_some (passing_of i)) (same_Some one other (sym here ∙ there)) ∙ pass))

le_or : (a b : ℕ) → (a ≤ b) ⊎ (b < a)
le_or zero b = inl (omega arith)
le_or (suc a) zero = inr (omega arith)
le_or (suc a) (suc b) = by (le_or a b)
  where
    by : (a ≤ b) ⊎ (b < a) → (suc a ≤ suc b) ⊎ (suc b < suc a)
    by (inl few) = inl (omega (arith, few))
    by (inr less) = inr (omega (arith, less))

-- so both together are no longer than all code
pub both_fit : (instrs : List PlainInstr) (one other : ℕ) (work pass : List PlainInstr) → HasAt instrs one work → HasAt instrs other pass
    → AllWork work → AllPass pass → one + length work ≤ length instrs → other + length pass ≤ length instrs → 1 ≤ length work → 1 ≤ length pass
    → length work + length pass ≤ length instrs
both_fit instrs one other work pass has made works passes within inside some more = by (le_or (one + length work) other) (le_or (other + length pass) one)
  where
    overlap : (one ≤ other) ⊎ (other < one) → other < one + length work → one < other + length pass → ⊥
    overlap (inl before) less fewer =
        let (k, is) = split one other before in
        not_both instrs other
        (subst (λ (n : ℕ). (i : PlainInstr) × (slice_get instrs n ≡ Some i) × (is_some (passing_of i) ≡ false)) (sym is) (work_read instrs one k work has works (omega (arith, less, is))))
        (subst (λ (n : ℕ). (i : PlainInstr) × (slice_get instrs n ≡ Some i) × (is_some (passing_of i) ≡ true)) (omega arith) (pass_read instrs other 0 pass made passes (omega (arith, more))))
    overlap (inr before) less fewer =
        let (k, is) = split other one (omega (arith, before)) in
        not_both instrs one
        (subst (λ (n : ℕ). (i : PlainInstr) × (slice_get instrs n ≡ Some i) × (is_some (passing_of i) ≡ false)) (omega arith) (work_read instrs one 0 work has works (omega (arith, some))))
        (subst (λ (n : ℕ). (i : PlainInstr) × (slice_get instrs n ≡ Some i) × (is_some (passing_of i) ≡ true)) (sym is) (pass_read instrs other k pass made passes (omega (arith, fewer, is))))

    by : (one + length work ≤ other) ⊎ (other < one + length work) → (other + length pass ≤ one) ⊎ (one < other + length pass) → length work + length pass ≤ length instrs
    by (inl first) second = omega (arith, first, inside)
    by (inr first) (inl second) = omega (arith, second, within)
    by (inr first) (inr second) = absurd (overlap (le_or one other) first second)

-- ---- a frame that is made

abbrev making : Variables → List Argument → Option Making
making variables arguments = Some record { variables = variables; arguments = arguments }

added_first : (before one other : Variables) → Added before (one ++ other) → Added before one
added_first before [] other added = tt
added_first before (own ∷ one) other added = (added.0, added_first (before ++ (own ∷ [])) one other added.1)

added_second : (before one other : Variables) → Added before (one ++ other) → Added (before ++ one) other
added_second before [] other added = subst (λ (vs : Variables). Added vs other) (sym (append-nil before)) added
added_second before (own ∷ one) other added =
    subst (λ (vs : Variables). Added vs other) (append_assoc before (own ∷ []) one) (added_second (before ++ (own ∷ [])) one other added.1)

module _ (frames : List Frame) (instrs : List PlainInstr) where
  -- a parameter takes an argument
  parameter_made : (fetches m address : ℕ) (name : List ℕ) (ty : ItemType) (argument : Argument) (arguments : List Argument) (before : Variables) (variable : Variable)
      → fetches ≡ suc m → slice_get instrs address ≡ Some (PlainInstr.parameter name ty) → parameter_of frames ty argument ≡ Some variable
      → with_variable name variable before ≡ Some (before ++ ((name, variable) ∷ []))
      → result_of (settle frames instrs fetches address (making before (argument ∷ arguments)))
      ≡ result_of (settle frames instrs m (address + 1) (making (before ++ ((name, variable) ∷ [])) arguments))
  parameter_made fetches m address name ty argument arguments before variable same read made added =
      ap (λ (k : ℕ). result_of (settle frames instrs k address (making before (argument ∷ arguments)))) same
      ∙ (ap (λ (o : Option PlainInstr). result_of (option_and_then (passed frames (address + 1) (making before (argument ∷ arguments)) (settle frames instrs m)) (option_and_then passing_of o))) read
      ∙ (ap
      (λ (o : Option Variable).
      result_of (option_map behind_one (option_and_then (λ more. settle frames instrs m (address + 1) (Some more)) (option_map (with_variables record { variables = before; arguments = arguments }) (option_and_then (λ parameter. with_variable name parameter before) o))))) made
      ∙ (ap
      (λ (o : Option Variables).
      result_of (option_map behind_one (option_and_then (λ more. settle frames instrs m (address + 1) (Some more)) (option_map (with_variables record { variables = before; arguments = arguments }) o)))) added
      ∙ result_behind (settle frames instrs m (address + 1) (making (before ++ ((name, variable) ∷ [])) arguments)))))

  -- the cells of an item are made
  cells_made : (fetches m address : ℕ) (item : Declared) (arguments : List Argument) (before : Variables)
      → fetches ≡ suc m → slice_get instrs address ≡ Some (PlainInstr.cell item.name item.ty item.size)
      → with_unset item.name item.ty item.size before ≡ Some (before ++ (unset_named item ∷ []))
      → result_of (settle frames instrs fetches address (making before arguments))
      ≡ result_of (settle frames instrs m (address + 1) (making (before ++ (unset_named item ∷ [])) arguments))
  cells_made fetches m address item arguments before same read added =
      ap (λ (k : ℕ). result_of (settle frames instrs k address (making before arguments))) same
      ∙ (ap (λ (o : Option PlainInstr). result_of (option_and_then (passed frames (address + 1) (making before arguments) (settle frames instrs m)) (option_and_then passing_of o))) read
      ∙ (ap
      (λ (o : Option Variables).
      result_of (option_map behind_one (option_and_then (λ more. settle frames instrs m (address + 1) (Some more)) (option_map (with_variables record { variables = before; arguments = arguments }) o)))) added
      ∙ result_behind (settle frames instrs m (address + 1) (making (before ++ (unset_named item ∷ [])) arguments))))

  -- all parameters take theirs
  parameters_made : (items : List Declared) (earlier names : List (List ℕ)) (arguments : List Argument) (before made : Variables) (fetches m address next : ℕ)
      → list_all is_some (parameter_kinds items earlier names) ≡ true → parameter_variables frames items names arguments ≡ Some made
      → Added before made → HasAt instrs address (parameters_instrs items earlier names)
      → fetches ≡ length (parameters_instrs items earlier names) + m → next ≡ address + length (parameters_instrs items earlier names)
      → result_of (settle frames instrs fetches address (making before arguments)) ≡ result_of (settle frames instrs m next (making (before ++ made) []))
  parameters_made items earlier [] [] before made fetches m address next all e added has fuel end =
      let none : [] ≡ made = same_Some [] made e in
      let same : fetches ≡ m = omega (arith, fuel) in
      let here : address ≡ next = omega (arith, end) in
      ap (λ (k : ℕ). result_of (settle frames instrs k address (making before []))) same
      ∙ (ap (λ (k : ℕ). result_of (settle frames instrs m k (making before []))) here
      ∙ ap (λ (vs : Variables). result_of (settle frames instrs m next (making vs []))) (sym (append-nil before) ∙ ap (λ (vs : Variables). before ++ vs) none))
  parameters_made items earlier [] (argument ∷ arguments) before made fetches m address next all e added has fuel end = absurd (none-some made e)
  parameters_made items earlier (name ∷ names) [] before made fetches m address next all e added has fuel end = absurd (none-some made e)
  parameters_made items earlier (name ∷ names) (argument ∷ arguments) before made fetches m address next all e added has fuel end =
      let both = all_parts (is_some (parameter_kind items earlier name)) (list_all is_some (parameter_kinds items (earlier ++ (name ∷ [])) names)) all in
      let known = parameter_is items earlier name both.0 in
      let first = first_made frames items earlier name names argument arguments made known e in
      let others = parameters_instrs items (earlier ++ (name ∷ [])) names in
      let instr = PlainInstr.parameter known.item.name known.item.ty in
      let one : new_parameter items earlier name ≡ instr ∷ [] =
      ap (λ (b : Bool). if b then [] else parameter_instr (item_named name items)) known.new
      ∙ (ap parameter_instr known.named ∙ ap (λ (b : Bool). if b then instr ∷ [] else []) known.scalar) in
      let joined : new_parameter items earlier name ++ others ≡ instr ∷ others = ap (λ (l : List PlainInstr). l ++ others) one in
      let there : HasAt instrs address (instr ∷ others) = subst (HasAt instrs address) joined has in
      let long : length (new_parameter items earlier name ++ others) ≡ length others + 1 = ap length joined ∙ omega arith in
      let own : Added before ((name, first.variable) ∷ first.others) = subst (Added before) first.is added in
      let named : with_variable known.item.name first.variable before ≡ Some (before ++ ((known.item.name, first.variable) ∷ [])) =
      subst (λ (n : List ℕ). with_variable n first.variable before ≡ Some (before ++ ((n, first.variable) ∷ []))) (sym known.same) own.0 in
      parameter_made fetches (length others + m) address known.item.name known.item.ty argument arguments before first.variable (omega (arith, fuel, long)) there.0 first.own named
      ∙ (ap (λ (n : List ℕ). result_of (settle frames instrs (length others + m) (address + 1) (making (before ++ ((n, first.variable) ∷ [])) arguments))) known.same
      ∙ (parameters_made items (earlier ++ (name ∷ [])) names arguments (before ++ ((name, first.variable) ∷ [])) first.others (length others + m) m (address + 1) next both.1 first.more own.1
      there.1 refl (omega (arith, end, long))
      ∙ ap (λ (vs : Variables). result_of (settle frames instrs m next (making vs []))) (append_assoc before ((name, first.variable) ∷ []) first.others ∙ ap (λ (vs : Variables). before ++ vs) (sym first.is))))

  -- all other cells are made
  others_made : (names : List (List ℕ)) (items : List Declared) (arguments : List Argument) (before : Variables) (fetches m address next : ℕ)
      → Added before (other_variables names items) → HasAt instrs address (flat_map (cell_instr names) items)
      → fetches ≡ length (flat_map (cell_instr names) items) + m → next ≡ address + length (flat_map (cell_instr names) items)
      → result_of (settle frames instrs fetches address (making before arguments))
      ≡ result_of (settle frames instrs m next (making (before ++ other_variables names items) arguments))
  others_made names [] arguments before fetches m address next added has fuel end =
      let same : fetches ≡ m = omega (arith, fuel) in
      let here : address ≡ next = omega (arith, end) in
      ap (λ (k : ℕ). result_of (settle frames instrs k address (making before arguments))) same
      ∙ (ap (λ (k : ℕ). result_of (settle frames instrs m k (making before arguments))) here
      ∙ ap (λ (vs : Variables). result_of (settle frames instrs m next (making vs arguments))) (sym (append-nil before)))
  others_made names (item ∷ items) arguments before fetches m address next added has fuel end =
      by (list_any (bytes_eq item.name) names) added has fuel end
      (λ front n at all there fetched to. others_made names items arguments front n m at next all there fetched to)
    where
      by : (b : Bool) → Added before (map unset_named (if not b then item ∷ (kept_items names items) else (kept_items names items)))
          → HasAt instrs address ((if b then [] else PlainInstr.cell item.name item.ty item.size ∷ []) ++ (flat_map (cell_instr names) items))
          → fetches ≡ length ((if b then [] else PlainInstr.cell item.name item.ty item.size ∷ []) ++ (flat_map (cell_instr names) items)) + m
          → next ≡ address + length ((if b then [] else PlainInstr.cell item.name item.ty item.size ∷ []) ++ (flat_map (cell_instr names) items))
          → ((front : Variables) (n at : ℕ) → Added front (map unset_named (kept_items names items)) → HasAt instrs at (flat_map (cell_instr names) items) → n ≡ length (flat_map (cell_instr names) items) + m → next ≡ at + length (flat_map (cell_instr names) items)
          → result_of (settle frames instrs n at (making front arguments)) ≡ result_of (settle frames instrs m next (making (front ++ map unset_named (kept_items names items)) arguments)))
          → result_of (settle frames instrs fetches address (making before arguments))
          ≡ result_of (settle frames instrs m next (making (before ++ map unset_named (if not b then item ∷ (kept_items names items) else (kept_items names items))) arguments))
      by true added has fuel end again = again before fetches address added has fuel end
      by false added has fuel end again =
          cells_made fetches (length (flat_map (cell_instr names) items) + m) address item arguments before (omega (arith, fuel)) has.0 added.0
          ∙ (again (before ++ (unset_named item ∷ [])) (length (flat_map (cell_instr names) items) + m) (address + 1) added.1 has.1 refl (omega (arith, end))
          ∙ ap (λ (vs : Variables). result_of (settle frames instrs m next (making vs arguments))) (append_assoc before (unset_named item ∷ []) (map unset_named (kept_items names items))))

-- ---- the step of a call

read_within : (instrs : List PlainInstr) (address : ℕ) (instr : PlainInstr) → slice_get instrs address ≡ Some instr → address < length instrs
read_within [] address instr e = absurd (none-some instr e)
read_within (first ∷ instrs) zero instr e = omega arith
read_within (first ∷ instrs) (suc address) instr e = let less = read_within instrs address instr e in omega (arith, less)

-- what the code knows of a procedure that is called
pub record EntersAt (code : PlainCode) (callee : Callee) (name : List ℕ) : Type 0 where
  pub entry : HeadingEntry
  pub known : get code.headings name ≡ Some entry
  pub slot : entry.slot.0 ≡ callee.slot
  pub has :
      HasAt code.instrs entry.address
      ((parameters_instrs callee.items [] callee.parameters ++ flat_map (cell_instr callee.parameters) callee.items)
      ++ (PlainInstr.place callee.start ∷ []))
  pub kinds : list_all is_some (parameter_kinds callee.items [] callee.parameters) ≡ true
  pub added :
      (frames : List Frame) (arguments : List Argument) (made : Variables) → parameter_variables frames callee.items callee.parameters arguments ≡ Some made
      → Added [] (made ++ other_variables callee.parameters callee.items)

has_within : (instrs : List PlainInstr) (address : ℕ) (code : List PlainInstr) → 1 ≤ length code → HasAt instrs address code → address + length code ≤ length instrs
has_within instrs address [] some has = absurd (omega (arith, some))
has_within instrs address (instr ∷ []) some has = let less = read_within instrs address instr has.0 in omega (arith, less)
has_within instrs address (instr ∷ (next ∷ code)) some has =
    let behind = has_within instrs (address + 1) (next ∷ code) (omega arith) has.1 in omega (arith, behind)

-- where there are no more arguments than are taken, the newest are all
all_newest : (n : ℕ) (arguments : List Argument) → length arguments ≡ n → newest_arguments n arguments ≡ arguments
all_newest n arguments count =
    let none : length arguments - n ≡ zero = omega (arith, count) in
    ap (λ (k : ℕ). drop k arguments) none

called_result : (c : PlainConfiguration) (slot : ℕ) (landed : Option (Fetched Landing))
    → result_of (option_map (λ (one : Fetched Landing). behind_one (with_result (called c slot) one)) landed) ≡ option_map (called c slot) (result_of landed)
called_result c slot None = refl
called_result c slot (Some one) = refl

module _ (code : PlainCode) (rest : List ℕ) (c : PlainConfiguration)
    (reach : (name : List ℕ) (subscript : Option ℤ) → reached c.frames name subscript ≡ located c.frames name subscript) where
  -- the procedure's frame is made, and the step ends at its first place
  entered : (callee : Callee) (name : List ℕ) (enters : EntersAt code callee name) (arguments : List Argument) (made : Variables) (m : ℕ)
      → parameter_variables c.frames callee.items callee.parameters arguments ≡ Some made
      → length ((parameters_instrs callee.items [] callee.parameters ++ flat_map (cell_instr callee.parameters) callee.items) ++ (PlainInstr.place callee.start ∷ [])) ≤ m
      → led code rest c m (Outcome.gives (Lead.enters enters.entry.slot.0 enters.entry.address arguments))
      ≡ Some (PlainStepAnswer.stepped (done (Act.call (new_frame callee.slot callee.start (made ++ other_variables callee.parameters callee.items))) callee.start c))
  entered callee name enters arguments made m e few =
      let entry = enters.entry in
      let first = parameters_instrs callee.items [] callee.parameters in
      let second = flat_map (cell_instr callee.parameters) callee.items in
      let last = PlainInstr.place callee.start ∷ [] in
      let a : length ((first ++ second) ++ last) ≡ length (first ++ second) + 1 = length-append (first ++ second) last in
      let b : length (first ++ second) ≡ length first + length second = length-append first second in
      let (n, fuel) = split (length first + (length second + 1)) m (omega (arith, few, a, b)) in
      let cells = has_first code.instrs entry.address (first ++ second) last enters.has in
      let end : ℕ = entry.address + length first + length second in
      let place = has_second code.instrs entry.address end (first ++ second) last (omega (arith, b)) enters.has in
      let added = enters.added c.frames arguments made e in
      let others = other_variables callee.parameters callee.items in
      called_result c entry.slot.0 (settle c.frames code.instrs m entry.address (making [] arguments))
      ∙ (ap (option_map (called c entry.slot.0))
      (parameters_made c.frames code.instrs callee.items [] callee.parameters arguments [] made m (length second + suc n) entry.address (entry.address + length first) enters.kinds e
      (added_first [] made others added) (has_first code.instrs entry.address first second cells) (omega (arith, fuel)) refl
      ∙ (others_made c.frames code.instrs callee.parameters callee.items [] made (length second + suc n) (suc n) (entry.address + length first) end (added_second [] made others added)
      (has_second code.instrs entry.address (entry.address + length first) first second refl cells) refl refl
      ∙ ap (λ (o : Option PlainInstr). result_of (option_and_then (passed c.frames (end + 1) (making (made ++ others) []) (settle c.frames code.instrs n)) (option_and_then passing_of o))) place.0))
      ∙ ap (λ (s : ℕ). Some (PlainStepAnswer.stepped (done (Act.call (new_frame s callee.start (made ++ others))) callee.start c))) enters.slot)

  pub calls_run : (callee : Callee) (name : List ℕ) (es : PlainExprs) (n address : ℕ) → EntersAt code callee name
      → HasAt code.instrs address (arguments_instrs es ++ (PlainInstr.call name (expr_count es) ∷ []))
      → length code.instrs ≤ n → length (canon_list es) ≤ 400
      → Meets (answer code rest c n address [] []) (step_answer c (call_going c.frames callee es))
  calls_run callee name es n address enters has enough short =
      let own = arguments_instrs es in
      let instr = PlainInstr.call name (expr_count es) in
      let at : ℕ = address + length own in
      let entry = enters.entry in
      let prologue =
      (parameters_instrs callee.items [] callee.parameters ++ flat_map (cell_instr callee.parameters) callee.items) ++ (PlainInstr.place callee.start ∷ []) in
      let long : length (own ++ (instr ∷ [])) ≡ length own + 1 = length-append own (instr ∷ []) in
      let more : length prologue ≡ length (parameters_instrs callee.items [] callee.parameters ++ flat_map (cell_instr callee.parameters) callee.items) + 1 =
      length-append (parameters_instrs callee.items [] callee.parameters ++ flat_map (cell_instr callee.parameters) callee.items) (PlainInstr.place callee.start ∷ []) in
      let fit : length (own ++ (instr ∷ [])) + length prologue ≤ length code.instrs =
      both_fit code.instrs address entry.address (own ++ (instr ∷ [])) prologue has enters.has
      (work_then own instr (arguments_work es) refl)
      (pass_append (parameters_instrs callee.items [] callee.parameters ++ flat_map (cell_instr callee.parameters) callee.items) (PlainInstr.place callee.start ∷ [])
      (pass_append (parameters_instrs callee.items [] callee.parameters) (flat_map (cell_instr callee.parameters) callee.items) (parameters_pass callee.items [] callee.parameters)
      (cells_pass callee.parameters callee.items)) (refl, tt))
      (has_within code.instrs address (own ++ (instr ∷ [])) (omega (arith, long)) has)
      (has_within code.instrs entry.address prologue (omega (arith, more)) enters.has) (omega (arith, long)) (omega (arith, more)) in
      let (m, fuel) = split (length own + 1) n (omega (arith, fit, long, enough)) in
      meets_by (answer code rest c n address [] []) (after (argument_values c.frames es) (λ found. answer code rest c (suc m) at [] found))
      (step_answer c (call_going c.frames callee es)) (after (argument_values c.frames es) (λ found. step_answer c (enter_going c.frames callee found)))
      (arguments_add code rest c reach es n (suc m) address at (omega (arith, fuel)) refl short (has_first code.instrs address own (instr ∷ []) has))
      (answer_then c (argument_values c.frames es) (enter_going c.frames callee))
      (meets_after (argument_values c.frames es) (λ found. answer code rest c (suc m) at [] found) (λ found. step_answer c (enter_going c.frames callee found))
      (λ found is.
      let count = arguments_count c.frames es found is in
      let given = newest_arguments (expr_count es) found in
      meets_by (answer code rest c (suc m) at [] found) (led code rest c m (enters_lead c.frames found entry))
      (step_answer c (enter_going c.frames callee found)) (step_answer c (enter_going c.frames callee found))
      (one_step code rest c (suc m) m at [] found instr refl ((has_second code.instrs address at own (instr ∷ []) refl has).0)
      ∙ (ap (λ (b : Bool). led code rest c m (if b then then_gives (if_there (get code.headings name)) (enters_lead c.frames given) else Outcome.undefined))
      (le-leb (expr_count es) (length found) (omega (arith, count)))
      ∙ (ap (λ (o : Option HeadingEntry). led code rest c m (then_gives (if_there o) (enters_lead c.frames given))) enters.known
      ∙ ap (λ (taken : List Argument). led code rest c m (enters_lead c.frames taken entry)) (all_newest (expr_count es) found count))))
      refl
      (by found m (nat_le most_frames (length c.frames)) (parameter_variables c.frames callee.items callee.parameters found) refl (omega (arith, fit, fuel, long, enough)))))
    where
      by : (found : List Argument) (m : ℕ) (full : Bool) (made : Option Variables) → parameter_variables c.frames callee.items callee.parameters found ≡ made
          → length ((parameters_instrs callee.items [] callee.parameters ++ flat_map (cell_instr callee.parameters) callee.items) ++ (PlainInstr.place callee.start ∷ [])) ≤ m
          → Meets
          (led code rest c m (if full then faults FaultKind.CallDepth else Outcome.gives (Lead.enters enters.entry.slot.0 enters.entry.address found)))
          (step_answer c
          (if full then faults FaultKind.CallDepth
          else then_gives (if_there (option_map (λ parameters. new_frame callee.slot callee.start (parameters ++ other_variables callee.parameters callee.items)) made))
          (λ frame. Outcome.gives (Act.call frame, callee.start))))
      by found m true made e few one wanted = wanted
      by found m false None e few one wanted = absurd (none-some one wanted)
      by found m false (Some made) e few one wanted = entered callee name enters found made m e few ∙ wanted
