-- What stands at a place without an offence does an act that its configuration allows, or stops.
use Rattle.std.specs.Prelude.{◌≡◌, refl, ℕ, nat_le, ℤ, ◌+ℤ◌, Bool, if◌then◌else◌, List, [], ◌++◌, length, slice_get, Some, None, is_some, option_map, Ok}
use Rattle.std.proofs.Common.{ap, ◌∙◌, subst}
use Rattle.plcs_base.specs.declared.declared.Declared.{Declared}
use Rattle.plcs_base.specs.declared.value.Kind.{Kind}
use Rattle.plcs_base.specs.declared.value.Value.{Value}
use Rattle.plcs_grammar.specs.PlainPhrase.{PlainExpr, PlainExprs, PlainVarRef}
use Rattle.template_tree.specs.Checks.Environment.{kind_of_type, parameter_kinds}
use Rattle.template_tree.specs.Positions.Place.{PlainPlace}
use Rattle.template_tree.specs.Checks.Verdict.{kind_of, kinds_of, name_kind, reference_kind}
use Rattle.plcs_store.specs.declared.argument.Argument.{Argument}
use Rattle.plcs_store.specs.declared.cell.Location.{Location}
use Rattle.plcs_store.specs.declared.fault_kind.FaultKind.{FaultKind}
use Rattle.plcs_store.specs.declared.frame.Frame.{Frame}
use Rattle.plcs_store.specs.declared.kept_loop.KeptLoop.{KeptLoop}
use Rattle.plcs_store.specs.Act.{Act, done}
use Rattle.plcs_store.specs.CellAt.{Variables, located, value_at, variable_at}
use Rattle.plcs_store.specs.Configuration.{PlainConfiguration}
use Rattle.plcs_store.specs.ExpressionValue.{argument_values, expression_value, expression_values, name_of_reference, reference_location, subscript_value}
use Rattle.plcs_store.specs.Fits.{IsTarget}
use Rattle.plcs_store.specs.InputItem.{next_item}
use Rattle.plcs_store.specs.Limit.{most_frames, most_output}
use Rattle.plcs_store.specs.LoopOfSlot.{NumberedLoop, newest_loop}
use Rattle.plcs_store.specs.NewFrame.{new_frame, other_variables}
use Rattle.plcs_store.specs.Operator.{fixed_value, on_bit, on_number}
use Rattle.plcs_store.specs.Outcome.{Outcome, faults, if_there, then_gives}
use Rattle.plcs_store.specs.OutputItem.{output_with}
use Rattle.plcs_store.specs.Spot.{Callee}
use Rattle.plcs_store.specs.Step.{Going, PlainStepAnswer, assignment_act, begin_going, call_going, called_frame, enter_going, entry_going, going_on, is_over, item_outcome, iteration_going, loop_going, output_act, read_act, step_answer, storing, test_going, write_act}
use Rattle.plcs_store.specs.Undone.{Allows}
use Rattle.plcs_store.proofs.FittingSteps.Callees.{Takes, parameters_there}
use Rattle.plcs_store.proofs.FittingSteps.Expressions.{AreArguments, arguments_so, expression_so, expressions_so, located_kind, reference_so, subscript_so}
use Rattle.plcs_store.proofs.FittingSteps.Found.{name_item}
use Rattle.plcs_store.proofs.FittingSteps.Locations.{HasItems, located_so, read_so, stored_so, target_some}
use Rattle.plcs_store.proofs.FittingSteps.Outcomes.{Gives, Has, chosen_so, either_so, then_so, there_so}
use Rattle.plcs_store.proofs.FittingSteps.ReadItems.{item_so}
use Rattle.plcs_store.proofs.FittingSteps.Values.{IsOf, bit_so, fixed_so, kinds, number_so}
use Rattle.plcs_store.proofs.FittingSteps.Written.{output_kept}

-- an answer of a step of the configuration: where it is another configuration, an act leads to it that is allowed
abbrev pub IsAnswerOf : PlainConfiguration → PlainStepAnswer → Type 0
IsAnswerOf c (PlainStepAnswer.stepped d) = (act : Act) × (next : PlainPlace) × Allows act c × (d ≡ done act next c)
IsAnswerOf c (PlainStepAnswer.stopped reason) = Unit {0}
IsAnswerOf c PlainStepAnswer.ended = Unit {0}

-- the act that goes on somewhere is allowed
abbrev pub MayGo : PlainConfiguration → Going → Type 0
MayGo c going = Allows going.0 c

abbrev pub MayDo : PlainConfiguration → Act → Type 0
MayDo c act = Allows act c

pub answer_so : (c : PlainConfiguration) (part : Outcome Going) → Gives (MayGo c) part → Has (IsAnswerOf c) (step_answer c part)
answer_so c (Outcome.gives going) is = (going.0, going.1, is, refl)
answer_so c (Outcome.stops reason) is = tt
answer_so c Outcome.undefined is = absurd is

pub going_so : (c : PlainConfiguration) (next : PlainPlace) (part : Outcome Act) → Gives (MayDo c) part → Gives (MayGo c) (going_on next part)
going_so c next part is = then_so (MayDo c) (MayGo c) part (λ act. Outcome.gives (act, next)) is (λ act may. may)

module _ (c : PlainConfiguration) (items : List Declared) (has : HasItems c.frames items) where
  may_store : (kind : Kind) (location : Location) (value : Value) → IsTarget c.frames kind location → Allows (Act.store location value) c
  may_store kind location value target = (has.frame, has.top, target_some c.frames kind location target)

  may_enter : (kind : Kind) (location : Location) (value : Value) (kept : KeptLoop) → IsTarget c.frames kind location
      → Allows (Act.enter location value kept) c
  may_enter kind location value kept target = (has.frame, has.top, target_some c.frames kind location target)

  may_read : (kind : Kind) (location : Location) (value : Value) (count : ℕ) → IsTarget c.frames kind location
      → Allows (Act.read location value count) c
  may_read kind location value count target = (has.frame, has.top, target_some c.frames kind location target)

  may_finish : (kind : Kind) (location : Location) (value : Value) (found : NumberedLoop) → IsTarget c.frames kind location
      → slice_get has.frame.loops found.0 ≡ Some found.1 → Allows (Act.finish location value found.0) c
  may_finish kind location value found target e = (has.frame, has.top, (target_some c.frames kind location target, ap is_some e))

  -- ---- assignments and tests

  pub assigns_so : (target : PlainVarRef) (value : PlainExpr) (kind : Kind) → reference_kind items target ≡ Ok kind → kind_of items value ≡ Ok kind
      → Gives (MayDo c) (assignment_act c.frames target value)
  assigns_so target value kind is value_is =
      then_so (λ subscript. Unit {0}) (MayDo c) (subscript_value c.frames target)
      (λ subscript.
      then_gives (expression_value c.frames value) (λ v.
      then_gives (located c.frames (name_of_reference target) subscript) (λ location. storing c.frames location v (Act.store location))))
      (subscript_so c.frames items has target kind is)
      (λ subscript any.
      then_so (IsOf kind) (MayDo c) (expression_value c.frames value)
      (λ v. then_gives (located c.frames (name_of_reference target) subscript) (λ location. storing c.frames location v (Act.store location)))
      (expression_so c.frames items has value kind value_is)
      (λ v of.
      then_so (IsTarget c.frames kind) (MayDo c) (located c.frames (name_of_reference target) subscript)
      (λ location. storing c.frames location v (Act.store location))
      (located_kind c.frames items has target kind is subscript)
      (λ location at_target.
      stored_so (MayDo c) c.frames kind location v (Act.store location) at_target of (λ kept. may_store kind location kept at_target))))

  pub tests_so : (condition : PlainExpr) (inside other : PlainPlace) → kind_of items condition ≡ Ok Kind.Bit
      → Gives (MayGo c) (test_going c.frames condition inside other)
  tests_so condition inside other is =
      then_so (IsOf Kind.Bit) (MayGo c) (expression_value c.frames condition)
      (on_bit (λ b. Outcome.gives (Act.pass, if b then inside else other)))
      (expression_so c.frames items has condition Kind.Bit is)
      (λ value of.
      bit_so (MayGo c) (λ b. Outcome.gives (Act.pass, if b then inside else other)) value of (λ b. (has.frame, has.top, tt)))

  -- ---- loops

  named_so : (name : List ℕ) → name_kind items name ≡ Ok Kind.Fixed → Gives (IsTarget c.frames Kind.Fixed) (located c.frames name None)
  named_so name is =
      let (item, there, kind) = name_item items name Kind.Fixed is in
      subst (λ (one : Kind). Gives (IsTarget c.frames one) (located c.frames name None)) kind (located_so c.frames items has name None item there)

  entry_so : (kept : KeptLoop) (name : List ℕ) (first : ℤ) (inside after : PlainPlace) → name_kind items name ≡ Ok Kind.Fixed
      → Gives (MayGo c) (then_gives (located c.frames name None) (λ location. entry_going c.frames kept location first inside after))
  entry_so kept name first inside after is =
      then_so (IsTarget c.frames Kind.Fixed) (MayGo c) (located c.frames name None)
      (λ location.
      storing c.frames location (Value.Fixed first) (λ value.
      if is_over kept.limit kept.step first then (Act.store location value, after) else (Act.enter location value kept, inside)))
      (named_so name is)
      (λ location target.
      stored_so (MayGo c) c.frames Kind.Fixed location (Value.Fixed first)
      (λ value. if is_over kept.limit kept.step first then (Act.store location value, after) else (Act.enter location value kept, inside))
      target refl
      (λ value.
      chosen_so (MayGo c) (is_over kept.limit kept.step first) (Act.store location value, after) (Act.enter location value kept, inside)
      (may_store Kind.Fixed location value target) (may_enter Kind.Fixed location value kept target)))

  -- an expression that is a whole number, and what is made of it
  whole_so : {A : Type 0} (Then : A → Type 0) (e : PlainExpr) (make : ℤ → Outcome A) → kind_of items e ≡ Ok Kind.Fixed
      → ((z : ℤ) → Gives Then (make z)) → Gives Then (then_gives (expression_value c.frames e) (on_number make))
  whole_so Then e make is all =
      then_so (IsOf Kind.Fixed) Then (expression_value c.frames e) (on_number make) (expression_so c.frames items has e Kind.Fixed is)
      (λ value of. number_so Then make value of all)

  pub begins_so : (slot : ℕ) (name : List ℕ) (first limit step : PlainExpr) (inside after : PlainPlace) → name_kind items name ≡ Ok Kind.Fixed
      → kind_of items first ≡ Ok Kind.Fixed → kind_of items limit ≡ Ok Kind.Fixed → kind_of items step ≡ Ok Kind.Fixed
      → Gives (MayGo c) (begin_going c.frames slot name first limit step inside after)
  begins_so slot name first limit step inside after is first_is limit_is step_is =
      whole_so (MayGo c) first
      (λ a.
      then_gives (expression_value c.frames limit) (on_number (λ b.
      then_gives (expression_value c.frames step) (on_number (λ s.
      then_gives (located c.frames name None) (λ location. entry_going c.frames record { slot = record { 0 = slot }; limit = b; step = s } location a inside after))))))
      first_is
      (λ a.
      whole_so (MayGo c) limit
      (λ b.
      then_gives (expression_value c.frames step) (on_number (λ s.
      then_gives (located c.frames name None) (λ location. entry_going c.frames record { slot = record { 0 = slot }; limit = b; step = s } location a inside after))))
      limit_is
      (λ b.
      whole_so (MayGo c) step
      (λ s. then_gives (located c.frames name None) (λ location. entry_going c.frames record { slot = record { 0 = slot }; limit = b; step = s } location a inside after)) step_is
      (λ s. entry_so record { slot = record { 0 = slot }; limit = b; step = s } name a inside after is)))

  loop_so : (found : NumberedLoop) (location : Location) (z : ℤ) (inside after : PlainPlace) → IsTarget c.frames Kind.Fixed location
      → slice_get has.frame.loops found.0 ≡ Some found.1 → Gives (MayGo c) (loop_going c.frames found.0 found.1 location z inside after)
  loop_so found location z inside after target e =
      stored_so (MayGo c) c.frames Kind.Fixed location (Value.Fixed z)
      (λ value. if is_over found.1.limit found.1.step z then (Act.finish location value found.0, after) else (Act.store location value, inside))
      target refl
      (λ value.
      chosen_so (MayGo c) (is_over found.1.limit found.1.step z) (Act.finish location value found.0, after) (Act.store location value, inside)
      (may_finish Kind.Fixed location value found target e) (may_store Kind.Fixed location value target))

  -- the newest frame keeps a loop of the slot
  pub record KeepsLoop (slot : ℕ) : Type 0 where
    pub found : NumberedLoop
    pub there : slice_get has.frame.loops found.0 ≡ Some found.1
    pub newest : newest_loop slot c.frames ≡ Some found

  pub iterates_so : (slot : ℕ) (name : List ℕ) (inside after : PlainPlace) → name_kind items name ≡ Ok Kind.Fixed → KeepsLoop slot
      → Gives (MayGo c) (iteration_going c.frames slot name inside after)
  iterates_so slot name inside after is keeps =
      there_so (MayGo c) (newest_loop slot c.frames) keeps.found
      (λ found.
      then_gives (located c.frames name None) (λ location.
      then_gives (value_at c.frames location) (on_number (λ z.
      then_gives (fixed_value (z +ℤ found.1.step)) (on_number (λ sum. loop_going c.frames found.0 found.1 location sum inside after))))))
      keeps.newest
      (then_so (IsTarget c.frames Kind.Fixed) (MayGo c) (located c.frames name None)
      (λ location.
      then_gives (value_at c.frames location) (on_number (λ z.
      then_gives (fixed_value (z +ℤ keeps.found.1.step)) (on_number (λ sum. loop_going c.frames keeps.found.0 keeps.found.1 location sum inside after)))))
      (named_so name is)
      (λ location target.
      then_so (IsOf Kind.Fixed) (MayGo c) (value_at c.frames location)
      (on_number (λ z.
      then_gives (fixed_value (z +ℤ keeps.found.1.step)) (on_number (λ sum. loop_going c.frames keeps.found.0 keeps.found.1 location sum inside after))))
      (read_so c.frames Kind.Fixed location has.values target)
      (λ value of.
      number_so (MayGo c)
      (λ z. then_gives (fixed_value (z +ℤ keeps.found.1.step)) (on_number (λ sum. loop_going c.frames keeps.found.0 keeps.found.1 location sum inside after))) value of
      (λ z.
      then_so (IsOf Kind.Fixed) (MayGo c) (fixed_value (z +ℤ keeps.found.1.step))
      (on_number (λ sum. loop_going c.frames keeps.found.0 keeps.found.1 location sum inside after)) (fixed_so (z +ℤ keeps.found.1.step))
      (λ sum sum_of.
      number_so (MayGo c) (λ s. loop_going c.frames keeps.found.0 keeps.found.1 location s inside after) sum sum_of
      (λ s. loop_so keeps.found location s inside after target keeps.there))))))

  -- ---- input and output

  pub reads_so : (rest : List ℕ) (target : PlainVarRef) (kind : Kind) → reference_kind items target ≡ Ok kind
      → Gives (MayDo c) (read_act c.frames rest target)
  reads_so rest target kind is =
      then_so (IsTarget c.frames kind) (MayDo c) (reference_location c.frames target)
      (λ location.
      then_gives (if_there (variable_at c.frames location.frame location.name)) (λ variable.
      then_gives (item_outcome (next_item variable.ty rest)) (λ found.
      storing c.frames location found.0 (λ value. Act.read location value found.1))))
      (reference_so c.frames items has target kind is)
      (λ location at_target.
      there_so (MayDo c) (variable_at c.frames location.frame location.name) at_target.variable
      (λ variable.
      then_gives (item_outcome (next_item variable.ty rest)) (λ found.
      storing c.frames location found.0 (λ value. Act.read location value found.1)))
      at_target.there
      (then_so (λ (found : Value × ℕ). IsOf (kind_of_type at_target.variable.ty) found.0) (MayDo c)
      (item_outcome (next_item at_target.variable.ty rest))
      (λ found. storing c.frames location found.0 (λ value. Act.read location value found.1)) (item_so at_target.variable.ty rest)
      (λ found of.
      stored_so (MayDo c) c.frames kind location found.0 (λ value. Act.read location value found.1) at_target (of ∙ at_target.kind_is)
      (λ kept. may_read kind location kept found.1 at_target))))

  pub writes_so : (skip : Bool) (expressions : PlainExprs) (found : List Kind) → kinds_of items expressions ≡ Ok found
      → Gives (MayDo c) (write_act c.frames c.output skip expressions)
  writes_so skip expressions found is =
      then_so (λ values. kinds values ≡ found) (MayDo c) (expression_values c.frames expressions)
      (λ values. output_act (output_with skip c.output values)) (expressions_so c.frames items has expressions found is)
      (λ values any.
      either_so (MayDo c) (nat_le (length (output_with skip c.output values)) most_output)
      (Outcome.gives (Act.write (output_with skip c.output values))) (faults FaultKind.OutputLimit)
      (has.frame, has.top, output_kept skip c.output values) tt)

  -- ---- calls

  enters_so : (callee : Callee) (arguments : List Argument) (found : List Kind) → Takes (parameter_kinds callee.items [] callee.parameters) found
      → AreArguments c.frames found arguments → Gives (MayGo c) (enter_going c.frames callee arguments)
  enters_so callee arguments found take are =
      let (variables, there) = parameters_there c.frames callee.items [] callee.parameters found arguments take are in
      let frame : Frame = new_frame callee.slot callee.start (variables ++ other_variables callee.parameters callee.items) in
      either_so (MayGo c) (nat_le most_frames (length c.frames)) (faults FaultKind.CallDepth)
      (then_gives (if_there (called_frame c.frames callee arguments)) (λ one. Outcome.gives (Act.call one, callee.start))) tt
      (there_so (MayGo c) (called_frame c.frames callee arguments) frame (λ one. Outcome.gives (Act.call one, callee.start))
      (ap
      (option_map (λ (parameters : Variables). new_frame callee.slot callee.start (parameters ++ other_variables callee.parameters callee.items)))
      there)
      (has.frame, has.top, tt))

  pub calls_so : (callee : Callee) (arguments : PlainExprs) (found : List Kind) → Takes (parameter_kinds callee.items [] callee.parameters) found
      → kinds_of items arguments ≡ Ok found → Gives (MayGo c) (call_going c.frames callee arguments)
  calls_so callee arguments found take is =
      then_so (AreArguments c.frames found) (MayGo c) (argument_values c.frames arguments) (enter_going c.frames callee)
      (arguments_so c.frames items has arguments found is) (λ values are. enters_so callee values found take are)
