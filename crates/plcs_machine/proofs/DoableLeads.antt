-- What an instruction leads to can be done: there is the cell that is set, the loop that is left, room for the loop
-- that is entered and for the frame that is made, and a caller of what is left.
use Rattle.std.specs.Prelude.{◌≡◌, refl, ℕ, ◌==◌, nat_le, ℤ, ◌+ℤ◌, Bool, true, false, if◌then◌else◌, List, [], ◌∷◌, ◌++◌, drop, length, reverse, slice_get, take, Option, Some, None, IsSome, option_and_then, option_map}
use Rattle.std.specs.FinMap.{get}
use Rattle.std.specs.Option.{option_or}
use Rattle.std.proofs.lemmas.Bool.{leb-false}
use Rattle.plcs_base.specs.declared.value.Value.{Value}
use Rattle.plcs_grammar.specs.declared.builtin.Builtin.{Builtin}
use Rattle.plcs_code.specs.Gen.{PlainCode}
use Rattle.plcs_code.specs.PlainInstr.{PlainInstr}
use Rattle.plcs_code.specs.declared.heading_entry.HeadingEntry.{HeadingEntry}
use Rattle.plcs_store.specs.declared.argument.Argument.{Argument}
use Rattle.plcs_store.specs.declared.cell.Location.{Location}
use Rattle.plcs_store.specs.declared.fault_kind.FaultKind.{FaultKind}
use Rattle.plcs_store.specs.declared.frame.Frame.{Frame}
use Rattle.plcs_store.specs.declared.kept_loop.KeptLoop.{KeptLoop}
use Rattle.plcs_store.specs.declared.variable.Variable.{Variable}
use Rattle.plcs_store.specs.Act.{Act}
use Rattle.plcs_store.specs.BuiltinValue.{builtin_value}
use Rattle.plcs_store.specs.CellAt.{cell_at, kept_at, newest, value_at, variable_at}
use Rattle.plcs_store.specs.InputItem.{next_item}
use Rattle.plcs_store.specs.Limit.{most_frames, most_output}
use Rattle.plcs_store.specs.LoopOfSlot.{NumberedLoop, inside_one_more, loop_of_slot, newest_loop}
use Rattle.plcs_store.specs.Operator.{fixed_value, infix_value, on_bit, on_number, prefix_value}
use Rattle.plcs_store.specs.Outcome.{Outcome, faults, if_there, then_gives}
use Rattle.plcs_store.specs.Step.{caller_place, entry_going, is_over, item_act, item_outcome, loop_going, output_act, storing}
use Rattle.plcs_store.specs.OutputItem.{output_with}
use Rattle.plcs_store.specs.Undone.{loop_at}
use Rattle.plcs_machine.specs.Lead.{Lead, address_of, acting_at, add_lead, body_address, builtin_lead, call_lead, enter_lead, enters_lead, for_next_lead, get_lead, has_loop_room, has_operand_room, jump_target, jumped, lead, leave_lead, load_lead, newest_arguments, on_newest, on_newest_number, push_lead, put_lead, reference_lead, store_lead, then_acts}
use Rattle.plcs_machine.specs.Reached.{reached}
use Rattle.plcs_machine.specs.Private.DoableLead.{ActsOn, IsDoable}
use Rattle.plcs_machine.proofs.DefinedReach.{Reaches, reached_there}

-- ---- the loop of a slot

-- the loop that is found is there
abbrev IsThere : List KeptLoop → Option NumberedLoop → Type 0
IsThere loops None = Unit {0}
IsThere loops (Some found) = IsSome (slice_get loops found.0)

loop_there : (slot : ℕ) (loops : List KeptLoop) → IsThere loops (loop_of_slot slot loops)
loop_there slot [] = tt
loop_there slot (kept ∷ loops) = by (loop_of_slot slot loops) (loop_there slot loops)
  where
    own : (its : Bool) → IsThere (kept ∷ loops) (if its then Some (0, kept) else None)
    own true = refl
    own false = tt

    by : (found : Option NumberedLoop) → IsThere loops found
        → IsThere (kept ∷ loops) (option_or (option_map inside_one_more found) (if kept.slot.0 == slot then Some (0, kept) else None))
    by None there = own (kept.slot.0 == slot)
    by (Some found) there = there

-- the loop that is found in the newest frame is there
abbrev IsThereIn : Option Frame → Option NumberedLoop → Type 0
IsThereIn frame None = Unit {0}
IsThereIn frame (Some found) = IsSome (option_and_then (λ one. slice_get one.loops found.0) frame)

loop_there_in : (slot : ℕ) (frame : Option Frame) → IsThereIn frame (option_and_then (λ one. loop_of_slot slot one.loops) frame)
loop_there_in slot None = tt
loop_there_in slot (Some frame) = by (loop_of_slot slot frame.loops) (loop_there slot frame.loops)
  where
    by : (found : Option NumberedLoop) → IsThere frame.loops found → IsThereIn (Some frame) found
    by None there = tt
    by (Some found) there = there

-- ---- the table

module _ (frames : List Frame) where
  -- what follows a part
  then_doable : {A : Type 0} (outcome : Outcome A) (make : A → Outcome Lead) → ((a : A) → IsDoable frames (make a)) → IsDoable frames (then_gives outcome make)
  then_doable (Outcome.gives a) make each = each a
  then_doable (Outcome.stops reason) make each = tt
  then_doable Outcome.undefined make each = tt

  if_doable : (test : Bool) (this that : Outcome Lead) → IsDoable frames this → IsDoable frames that → IsDoable frames (if test then this else that)
  if_doable true this that one other = one
  if_doable false this that one other = other

  newest_doable : (make : Value → List Value → Outcome Lead) → ((value : Value) (others : List Value) → IsDoable frames (make value others))
      → (values : List Value) → IsDoable frames (on_newest make values)
  newest_doable make each [] = tt
  newest_doable make each (value ∷ others) = each value others

  number_doable : (make : ℤ → Outcome Lead) → ((z : ℤ) → IsDoable frames (make z)) → (value : Value) → IsDoable frames (on_number make value)
  number_doable make each (Value.Fixed z) = each z
  number_doable make each (Value.Bit b) = tt
  number_doable make each (Value.Text x) = tt

  newest_number_doable : (make : ℤ → List Value → Outcome Lead) → ((z : ℤ) (others : List Value) → IsDoable frames (make z others))
      → (values : List Value) → IsDoable frames (on_newest_number make values)
  newest_number_doable make each [] = tt
  newest_number_doable make each (value ∷ others) = number_doable (λ z. make z others) (λ z. each z others) value

  push_doable : (next : ℕ) (values : List Value) (arguments : List Argument) (value : Value) → IsDoable frames (push_lead next values arguments value)
  push_doable next values arguments value =
      if_doable (has_operand_room values arguments) (Outcome.gives (Lead.goes_on next (value ∷ values) arguments)) Outcome.undefined tt tt

  add_doable : (next : ℕ) (values : List Value) (arguments : List Argument) (argument : Argument) → IsDoable frames (add_lead next values arguments argument)
  add_doable next values arguments argument =
      if_doable (has_operand_room values arguments) (Outcome.gives (Lead.goes_on next values (arguments ++ (argument ∷ [])))) Outcome.undefined tt tt

  -- what is reached is there for what follows
  reached_doable : (outcome : Outcome Location) (make : Location → Outcome Lead) → Reaches frames outcome
      → ((location : Location) → IsSome (cell_at frames location) → IsDoable frames (make location)) → IsDoable frames (then_gives outcome make)
  reached_doable (Outcome.gives location) make there each = each location there
  reached_doable (Outcome.stops reason) make there each = tt
  reached_doable Outcome.undefined make there each = tt

  load_doable : (next : ℕ) (arguments : List Argument) (name : List ℕ) (subscript : Option ℤ) (values : List Value)
      → IsDoable frames (load_lead frames next arguments name subscript values)
  load_doable next arguments name subscript values =
      then_doable (reached frames name subscript) (λ location. then_gives (value_at frames location) (push_lead next values arguments))
      (λ location. then_doable (value_at frames location) (push_lead next values arguments) (push_doable next values arguments))

  reference_doable : (next : ℕ) (arguments : List Argument) (name : List ℕ) (subscript : Option ℤ) (values : List Value)
      → IsDoable frames (reference_lead frames next arguments name subscript values)
  reference_doable next arguments name subscript values =
      then_doable (reached frames name subscript) (λ location. add_lead next values arguments (Argument.Reference location))
      (λ location. add_doable next values arguments (Argument.Reference location))

  -- an act follows a part
  act_doable : (next : ℕ) (outcome : Outcome Act) → ((act : Act) → outcome ≡ Outcome.gives act → ActsOn frames act) → IsDoable frames (then_acts next outcome)
  act_doable next (Outcome.gives act) can = can act refl
  act_doable next (Outcome.stops reason) can = tt
  act_doable next Outcome.undefined can = tt

  -- a value that is stored where it can be
  storing_doable : (next : ℕ) (location : Location) (kept : Outcome Value) (make : Value → Act) → ((value : Value) → ActsOn frames (make value))
      → IsDoable frames (then_acts next (then_gives kept (λ value. Outcome.gives (make value))))
  storing_doable next location (Outcome.gives value) make can = can value
  storing_doable next location (Outcome.stops reason) make can = tt
  storing_doable next location Outcome.undefined make can = tt

  store_doable : (next : ℕ) (name : List ℕ) (subscript : Option ℤ) (value : Value) → IsDoable frames (store_lead frames next name subscript value)
  store_doable next name subscript value = by (reached frames name subscript) (reached_there frames name subscript)
    where
      by : (outcome : Outcome Location) → Reaches frames outcome
          → IsDoable frames (then_acts next (then_gives outcome (λ location. storing frames location value (Act.store location))))
      by (Outcome.gives location) there = storing_doable next location (kept_at frames location value) (Act.store location) (λ kept. there)
      by (Outcome.stops reason) there = tt
      by Outcome.undefined there = tt

  get_doable : (rest : List ℕ) (next : ℕ) (name : List ℕ) (subscript : Option ℤ) → IsDoable frames (get_lead frames rest next name subscript)
  get_doable rest next name subscript = by (reached frames name subscript) (reached_there frames name subscript)
    where
      item : (location : Location) → IsSome (cell_at frames location) → (outcome : Outcome (Value × ℕ))
          → IsDoable frames (then_acts next (then_gives outcome (λ found. storing frames location found.0 (λ value. Act.read location value found.1))))
      item location there (Outcome.gives found) =
          storing_doable next location (kept_at frames location found.0) (λ value. Act.read location value found.1) (λ kept. there)
      item location there (Outcome.stops reason) = tt
      item location there Outcome.undefined = tt

      variable : (location : Location) → IsSome (cell_at frames location) → (outcome : Outcome Variable)
          → IsDoable frames (then_acts next (then_gives outcome (λ one.
          then_gives (item_outcome (next_item one.ty rest)) (λ found. storing frames location found.0 (λ value. Act.read location value found.1)))))
      variable location there (Outcome.gives one) = item location there (item_outcome (next_item one.ty rest))
      variable location there (Outcome.stops reason) = tt
      variable location there Outcome.undefined = tt

      by : (outcome : Outcome Location) → Reaches frames outcome → IsDoable frames (then_acts next (then_gives outcome (item_act frames rest)))
      by (Outcome.gives location) there = variable location there (if_there (variable_at frames location.frame location.name))
      by (Outcome.stops reason) there = tt
      by Outcome.undefined there = tt

  put_doable : (next : ℕ) (output : List ℕ) (skip : Bool) (n : ℕ) (values : List Value) → IsDoable frames (put_lead next output skip n values)
  put_doable next output skip n values = enough (nat_le n (length values))
    where
      written : (few : Bool) (becomes : List ℕ)
          → IsDoable frames (then_acts next (if few then Outcome.gives (Act.write becomes) else faults FaultKind.OutputLimit))
      written true becomes = tt
      written false becomes = tt

      enough : (there : Bool)
          → IsDoable frames (if there then then_acts next (output_act (output_with skip output (reverse (take n values)))) else Outcome.undefined)
      enough true =
          let becomes = output_with skip output (reverse (take n values)) in
          written (nat_le (length becomes) most_output) becomes
      enough false = tt

  builtin_doable : (next : ℕ) (arguments : List Argument) (function : Builtin) (n : ℕ) (values : List Value)
      → IsDoable frames (builtin_lead next arguments function n values)
  builtin_doable next arguments function n values =
      if_doable (nat_le n (length values))
      (then_gives (builtin_value function (reverse (take n values))) (push_lead next (drop n values) arguments)) Outcome.undefined
      (then_doable (builtin_value function (reverse (take n values))) (push_lead next (drop n values) arguments)
      (push_doable next (drop n values) arguments)) tt

  jump_doable : (next : ℕ) (values : List Value) (arguments : List Argument) (d : ℤ) → IsDoable frames (jumped next values arguments d)
  jump_doable next values arguments d =
      then_doable (if_there (jump_target next d)) (λ target. Outcome.gives (Lead.goes_on target values arguments)) (λ target. tt)

  jump_false_doable : (next : ℕ) (others : List Value) (arguments : List Argument) (d : ℤ) (value : Value)
      → IsDoable frames (on_bit (λ b. if b then Outcome.gives (Lead.goes_on next others arguments) else jumped next others arguments d) value)
  jump_false_doable next others arguments d (Value.Fixed z) = tt
  jump_false_doable next others arguments d (Value.Bit b) =
      if_doable b (Outcome.gives (Lead.goes_on next others arguments)) (jumped next others arguments d) tt (jump_doable next others arguments d)
  jump_false_doable next others arguments d (Value.Text x) = tt

  -- ---- loops

  enter_at_doable : (next : ℕ) (kept : KeptLoop) (location : Location) (first : ℤ) (after : Option ℕ) → IsSome (cell_at frames location)
      → IsDoable frames (then_gives (entry_going frames kept location first (body_address frames next) after) acting_at)
  enter_at_doable next kept location first after there =
      value (kept_at frames location (Value.Fixed first))
    where
      after_doable : (stored : Value) (to : Option ℕ) → IsDoable frames (acting_at (Act.store location stored, to))
      after_doable stored None = tt
      after_doable stored (Some target) = there

      inside_doable : (stored : Value) (room : Bool) → has_loop_room frames ≡ room
          → IsDoable frames (acting_at (Act.enter location stored kept, if room then Some next else None))
      inside_doable stored true is = (there, is)
      inside_doable stored false is = tt

      over : (stored : Value) (is : Bool)
          → IsDoable frames (acting_at (if is then (Act.store location stored, after) else (Act.enter location stored kept, body_address frames next)))
      over stored true = after_doable stored after
      over stored false = inside_doable stored (has_loop_room frames) refl

      value : (outcome : Outcome Value)
          → IsDoable frames (then_gives (then_gives outcome (λ stored. Outcome.gives
          (if is_over kept.limit kept.step first then (Act.store location stored, after) else (Act.enter location stored kept, body_address frames next)))) acting_at)
      value (Outcome.gives stored) = over stored (is_over kept.limit kept.step first)
      value (Outcome.stops reason) = tt
      value Outcome.undefined = tt

  enter_doable : (next : ℕ) (name : List ℕ) (d : ℤ) (kept : KeptLoop) (first : ℤ) → IsDoable frames (enter_lead frames next name d kept first)
  enter_doable next name d kept first =
      reached_doable (reached frames name None)
      (λ location. then_gives (entry_going frames kept location first (body_address frames next) (jump_target next d)) acting_at)
      (reached_there frames name None) (λ location there. enter_at_doable next kept location first (jump_target next d) there)

  iterate_doable : (next number : ℕ) (kept : KeptLoop) (location : Location) (sum : ℤ) (inside : Option ℕ) → IsSome (cell_at frames location)
      → IsSome (loop_at number frames) → IsDoable frames (then_gives (loop_going frames number kept location sum inside (Some next)) acting_at)
  iterate_doable next number kept location sum inside there its =
      value (kept_at frames location (Value.Fixed sum))
    where
      inside_doable : (stored : Value) (to : Option ℕ) → IsDoable frames (acting_at (Act.store location stored, to))
      inside_doable stored None = tt
      inside_doable stored (Some target) = there

      over : (stored : Value) (is : Bool)
          → IsDoable frames (acting_at (if is then (Act.finish location stored number, Some next) else (Act.store location stored, inside)))
      over stored true = (there, its)
      over stored false = inside_doable stored inside

      value : (outcome : Outcome Value)
          → IsDoable frames (then_gives (then_gives outcome (λ stored. Outcome.gives
          (if is_over kept.limit kept.step sum then (Act.finish location stored number, Some next) else (Act.store location stored, inside)))) acting_at)
      value (Outcome.gives stored) = over stored (is_over kept.limit kept.step sum)
      value (Outcome.stops reason) = tt
      value Outcome.undefined = tt

  next_doable : (next slot : ℕ) (name : List ℕ) (d : ℤ) → IsDoable frames (for_next_lead frames next slot name d)
  next_doable next slot name d = by (newest_loop slot frames) (loop_there_in slot (slice_get frames (newest frames)))
    where
      iterated : NumberedLoop → Location → ℤ → Outcome Lead
      iterated found location sum =
          then_gives (loop_going frames found.0 found.1 location sum (jump_target next d) (Some next)) acting_at

      added : NumberedLoop → Location → ℤ → Outcome Lead
      added found location z = then_gives (fixed_value (z +ℤ found.1.step)) (on_number (iterated found location))

      by : (loop : Option NumberedLoop) → IsThereIn (slice_get frames (newest frames)) loop
          → IsDoable frames (then_gives (if_there loop) (λ found.
          then_gives (reached frames name None) (λ location.
          then_gives (value_at frames location) (on_number (λ z.
          then_gives (fixed_value (z +ℤ found.1.step)) (on_number (λ sum.
          then_gives (loop_going frames found.0 found.1 location sum (jump_target next d) (Some next)) acting_at)))))))
      by None its = tt
      by (Some found) its =
          reached_doable (reached frames name None) (λ location. then_gives (value_at frames location) (on_number (added found location)))
          (reached_there frames name None)
          (λ location there. then_doable (value_at frames location) (on_number (added found location))
          (number_doable (added found location)
          (λ z. then_doable (fixed_value (z +ℤ found.1.step)) (on_number (iterated found location))
          (number_doable (iterated found location)
          (λ sum. iterate_doable next found.0 found.1 location sum (jump_target next d) there its)))))

  -- ---- calls

  call_doable : (code : PlainCode) (name : List ℕ) (n : ℕ) (arguments : List Argument) → IsDoable frames (call_lead code frames name n arguments)
  call_doable code name n arguments =
      if_doable (nat_le n (length arguments)) (then_gives (if_there (get code.headings name)) (enters_lead frames given)) Outcome.undefined
      (then_doable (if_there (get code.headings name)) (enters_lead frames given)
      (λ entry. entered entry (nat_le most_frames (length frames)) refl)) tt
    where
      given : List Argument
      given = newest_arguments n arguments

      entered : (entry : HeadingEntry) (many : Bool) → nat_le most_frames (length frames) ≡ many
          → IsDoable frames (if many then faults FaultKind.CallDepth else Outcome.gives (Lead.enters entry.slot.0 entry.address given))
      entered entry true is = tt
      entered entry false is = leb-false most_frames (length frames) is

  leave_doable : (code : PlainCode) → IsDoable frames (leave_lead code frames)
  leave_doable code = by (nat_le (length frames) 1) refl
    where
      by : (main : Bool) → nat_le (length frames) 1 ≡ main
          → IsDoable frames (if main then Outcome.gives Lead.ends else then_gives (if_there (option_and_then (address_of code) (caller_place frames)))
          (λ target. Outcome.gives (Lead.acts Act.leave target)))
      by true is = tt
      by false is =
          then_doable (if_there (option_and_then (address_of code) (caller_place frames))) (λ target. Outcome.gives (Lead.acts Act.leave target))
          (λ target. leb-false (length frames) 1 is)

  -- what the table says of an instruction can be done
  pub doable : (code : PlainCode) (rest output : List ℕ) (next : ℕ) (values : List Value) (arguments : List Argument) (instr : PlainInstr)
      → IsDoable frames (lead code frames rest output next values arguments instr)
  doable code rest output next values arguments (PlainInstr.place place) = tt
  doable code rest output next values arguments PlainInstr.suspend_placeholder = tt
  doable code rest output next values arguments PlainInstr.suspend_marked = tt
  doable code rest output next values arguments (PlainInstr.push_number z) = push_doable next values arguments (Value.Fixed z)
  doable code rest output next values arguments (PlainInstr.push_bit b) = push_doable next values arguments (Value.Bit b)
  doable code rest output next values arguments (PlainInstr.push_text x) = push_doable next values arguments (Value.Text x)
  doable code rest output next values arguments (PlainInstr.load name) = load_doable next arguments name None values
  doable code rest output next values arguments (PlainInstr.load_at name) =
      newest_number_doable (λ z others. load_lead frames next arguments name (Some z) others) (λ z others. load_doable next arguments name (Some z) others) values
  doable code rest output next values arguments (PlainInstr.store name) =
      newest_doable (λ value others. store_lead frames next name None value) (λ value others. store_doable next name None value) values
  doable code rest output next values arguments (PlainInstr.store_at name) =
      newest_doable (λ value others. on_newest_number (λ z more. store_lead frames next name (Some z) value) others)
      (λ value others. newest_number_doable (λ z more. store_lead frames next name (Some z) value) (λ z more. store_doable next name (Some z) value) others) values
  doable code rest output next values arguments (PlainInstr.unary op) =
      newest_doable (λ a others. then_gives (prefix_value op a) (push_lead next others arguments))
      (λ a others. then_doable (prefix_value op a) (push_lead next others arguments) (push_doable next others arguments)) values
  doable code rest output next values arguments (PlainInstr.binary op) =
      newest_doable (λ b others. on_newest (λ a more. then_gives (infix_value op a b) (push_lead next more arguments)) others)
      (λ b others. newest_doable (λ a more. then_gives (infix_value op a b) (push_lead next more arguments))
      (λ a more. then_doable (infix_value op a b) (push_lead next more arguments) (push_doable next more arguments)) others) values
  doable code rest output next values arguments (PlainInstr.builtin function n) = builtin_doable next arguments function n values
  doable code rest output next values arguments (PlainInstr.jump d) = jump_doable next values arguments d
  doable code rest output next values arguments (PlainInstr.jump_false d) =
      newest_doable (λ value others. on_bit (λ b.
      if b then Outcome.gives (Lead.goes_on next others arguments) else jumped next others arguments d) value)
      (λ value others. jump_false_doable next others arguments d value) values
  doable code rest output next values arguments (PlainInstr.for_enter slot name d) =
      let kept : ℤ → ℤ → KeptLoop = λ limit step. record { slot = record { 0 = slot }; limit = limit; step = step } in
      newest_number_doable
      (λ step others. on_newest_number (λ limit more. on_newest_number (λ first left. enter_lead frames next name d (kept limit step) first) more) others)
      (λ step others. newest_number_doable
      (λ limit more. on_newest_number (λ first left. enter_lead frames next name d (kept limit step) first) more)
      (λ limit more. newest_number_doable (λ first left. enter_lead frames next name d (kept limit step) first)
      (λ first left. enter_doable next name d (kept limit step) first) more) others) values
  doable code rest output next values arguments (PlainInstr.for_next slot name d) = next_doable next slot name d
  doable code rest output next values arguments (PlainInstr.get name) = get_doable rest next name None
  doable code rest output next values arguments (PlainInstr.get_at name) =
      newest_number_doable (λ z others. get_lead frames rest next name (Some z)) (λ z others. get_doable rest next name (Some z)) values
  doable code rest output next values arguments (PlainInstr.put n) = put_doable next output false n values
  doable code rest output next values arguments (PlainInstr.put_skip n) = put_doable next output true n values
  doable code rest output next values arguments (PlainInstr.reference name) = reference_doable next arguments name None values
  doable code rest output next values arguments (PlainInstr.reference_at name) =
      newest_number_doable (λ z others. reference_lead frames next arguments name (Some z) others)
      (λ z others. reference_doable next arguments name (Some z) others) values
  doable code rest output next values arguments PlainInstr.dummy =
      newest_doable (λ value others. add_lead next others arguments (Argument.Dummy value))
      (λ value others. add_doable next others arguments (Argument.Dummy value)) values
  doable code rest output next values arguments (PlainInstr.call name n) = call_doable code name n arguments
  doable code rest output next values arguments (PlainInstr.parameter name ty) = tt
  doable code rest output next values arguments (PlainInstr.cell name ty n) = tt
  doable code rest output next values arguments PlainInstr.leave = leave_doable code
