-- The code of the arguments of a call adds what they come to, one after the other, or stops the step as that does.
use Rattle.std.specs.Prelude.{◌≡◌, refl, ℕ, suc, ◌+◌, ◌≤◌, ℤ, Bool, true, false, if◌then◌else◌, List, [], ◌∷◌, ◌++◌, codes, length, Option, Some, None}
use Rattle.std.proofs.Common.{ap, sym, ◌∙◌, arith, append_assoc}
use Rattle.std.proofs.lemmas.List.{append-nil, length-append}
use Rattle.plcs_base.specs.declared.value.Value.{Value}
use Rattle.plcs_grammar.specs.Canon.{canon, canon_behind, canon_list, canon_reference, comma, parenthesized_bytes}
use Rattle.plcs_grammar.specs.PlainPhrase.{PlainExpr, PlainExprs, PlainVarRef}
use Rattle.plcs_code.specs.ExprCode.{argument_instrs, arguments_instrs, expr_count, expr_instrs}
use Rattle.plcs_code.specs.Gen.{PlainCode}
use Rattle.plcs_code.specs.PlainInstr.{PlainInstr}
use Rattle.plcs_store.specs.declared.argument.Argument.{Argument}
use Rattle.plcs_store.specs.declared.cell.Location.{Location}
use Rattle.plcs_store.specs.declared.frame.Frame.{Frame}
use Rattle.plcs_store.specs.CellAt.{located}
use Rattle.plcs_store.specs.Configuration.{PlainConfiguration}
use Rattle.plcs_store.specs.ExpressionValue.{argument_value, argument_values, expression_value, subscript_value}
use Rattle.plcs_store.specs.Operator.{on_number}
use Rattle.plcs_store.specs.Outcome.{Outcome, both_give, then_gives}
use Rattle.plcs_store.specs.Step.{PlainStepAnswer}
use Rattle.plcs_machine.specs.Lead.{Lead, add_lead, has_operand_room, on_newest_number, reference_lead}
use Rattle.plcs_machine.specs.Reached.{reached}
use Rattle.plcs_machine.proofs.RunExpressions.{HasMoreRoom, HasRoomFor, after, after_same, after_then, answer, expr_runs, led, led_on, one_step, room_there, then_assoc}
use Rattle.plcs_machine.proofs.StandingCode.{HasAt, has_first, has_second}

-- an argument is told apart: a variable, or anything else
abbrev pub is_variable : PlainExpr → Bool
is_variable (PlainExpr.variable reference) = true
is_variable other = false

-- how many arguments there are
count_level : (a : Outcome Argument) (rest : Outcome (List Argument)) (n : ℕ) → ((found : List Argument) → rest ≡ Outcome.gives found → length found ≡ n)
    → (found : List Argument) → both_give a rest (λ value values. Outcome.gives (value ∷ values)) ≡ Outcome.gives found → length found ≡ n + 1
count_level (Outcome.gives a) (Outcome.gives rest) n counts found e =
    let own : length rest ≡ n = counts rest refl in
    let same : length (a ∷ rest) ≡ length found = ap (λ (o : Outcome (List Argument)). length (found_or (a ∷ rest) o)) e in
    omega (arith, own, same)
  where
    found_or : List Argument → Outcome (List Argument) → List Argument
    found_or other (Outcome.gives there) = there
    found_or other (Outcome.stops reason) = other
    found_or other Outcome.undefined = other
count_level (Outcome.gives a) (Outcome.stops reason) n counts found e = absurd (cc)
count_level (Outcome.gives a) Outcome.undefined n counts found e = absurd (cc)
count_level (Outcome.stops reason) rest n counts found e = absurd (cc)
count_level Outcome.undefined rest n counts found e = absurd (cc)

pub arguments_count : (frames : List Frame) (es : PlainExprs) (found : List Argument) → argument_values frames es ≡ Outcome.gives found
    → length found ≡ expr_count es
arguments_count frames PlainExprs.nil [] e = refl
arguments_count frames PlainExprs.nil (a ∷ found) e = absurd (cc)
arguments_count frames (PlainExprs.cons a rest) found e =
    count_level (argument_value frames a) (argument_values frames rest) (expr_count rest) (arguments_count frames rest) found e

module _ (code : PlainCode) (rest : List ℕ) (c : PlainConfiguration)
    (reach : (name : List ℕ) (subscript : Option ℤ) → reached c.frames name subscript ≡ located c.frames name subscript) where
  -- what is added
  led_added : (m address next : ℕ) (arguments : List Argument) (argument : Argument) → address ≡ next → has_operand_room [] arguments ≡ true
      → led code rest c m (add_lead address [] arguments argument) ≡ answer code rest c m next [] (arguments ++ (argument ∷ []))
  led_added m address next arguments argument same room =
      ap (λ (b : Bool). led code rest c m (if b then Outcome.gives (Lead.goes_on address [] (arguments ++ (argument ∷ []))) else Outcome.undefined)) room
      ∙ led_on code rest c m address next [] (arguments ++ (argument ∷ [])) same

  -- a variable that is added
  led_reference : (m address next : ℕ) (arguments : List Argument) (name : List ℕ) (subscript : Option ℤ) → address ≡ next → has_operand_room [] arguments ≡ true
      → led code rest c m (reference_lead c.frames address arguments name subscript [])
      ≡ after (located c.frames name subscript) (λ location. answer code rest c m next [] (arguments ++ (Argument.Reference location ∷ [])))
  led_reference m address next arguments name subscript same room =
      ap (λ (o : Outcome Location). led code rest c m (then_gives o (λ location. add_lead address [] arguments (Argument.Reference location)))) (reach name subscript)
      ∙ by (located c.frames name subscript)
    where
      by : (outcome : Outcome Location)
          → led code rest c m (then_gives outcome (λ location. add_lead address [] arguments (Argument.Reference location)))
          ≡ after outcome (λ location. answer code rest c m next [] (arguments ++ (Argument.Reference location ∷ [])))
      by (Outcome.gives location) = led_added m address next arguments (Argument.Reference location) same room
      by (Outcome.stops reason) = refl
      by Outcome.undefined = refl

  -- the code of an argument runs right
  abbrev AddsOne : PlainExpr → Type 0
  AddsOne e =
      (n m address next : ℕ) (arguments : List Argument) → n ≡ length (argument_instrs e) + m → next ≡ address + length (argument_instrs e)
      → HasRoomFor [] arguments (length (canon e)) → HasAt code.instrs address (argument_instrs e)
      → answer code rest c n address [] arguments
      ≡ after (argument_value c.frames e) (λ argument. answer code rest c m next [] (arguments ++ (argument ∷ [])))

  -- by its value
  dummy_adds : (e : PlainExpr) (n m address next : ℕ) (arguments : List Argument) → n ≡ length (expr_instrs e ++ (PlainInstr.dummy ∷ [])) + m
      → next ≡ address + length (expr_instrs e ++ (PlainInstr.dummy ∷ []))
      → HasRoomFor [] arguments (length (canon e)) → HasAt code.instrs address (expr_instrs e ++ (PlainInstr.dummy ∷ []))
      → answer code rest c n address [] arguments
      ≡ after (then_gives (expression_value c.frames e) (λ value. Outcome.gives (Argument.Dummy value)))
      (λ argument. answer code rest c m next [] (arguments ++ (argument ∷ [])))
  dummy_adds e n m address next arguments fuel end room has =
      let own = expr_instrs e in
      let at : ℕ = address + length own in
      let long : length (own ++ (PlainInstr.dummy ∷ [])) ≡ length own + 1 = length-append own (PlainInstr.dummy ∷ []) in
      expr_runs code rest c reach e n (suc m) address at [] arguments (omega (arith, fuel, long)) refl room (has_first code.instrs address own (PlainInstr.dummy ∷ []) has)
      ∙ (after_same (expression_value c.frames e) (λ value. answer code rest c (suc m) at (value ∷ []) arguments)
      (λ value. answer code rest c m next [] (arguments ++ (Argument.Dummy value ∷ [])))
      (λ value is.
      one_step code rest c (suc m) m at (value ∷ []) arguments PlainInstr.dummy refl ((has_second code.instrs address at own (PlainInstr.dummy ∷ []) refl has).0)
      ∙ led_added m (at + 1) next arguments (Argument.Dummy value) (omega (arith, end, long)) (room_there [] arguments (length (canon e)) room))
      ∙ sym (after_then (expression_value c.frames e) (λ value. Outcome.gives (Argument.Dummy value)) (λ argument. answer code rest c m next [] (arguments ++ (argument ∷ [])))))

  argument_adds : (e : PlainExpr) → AddsOne e
  argument_adds (PlainExpr.variable (PlainVarRef.simple name)) n m address next arguments fuel end room has =
      one_step code rest c n m address [] arguments (PlainInstr.reference name) (omega (arith, fuel)) has.0
      ∙ (led_reference m (address + 1) next arguments name None (omega (arith, end)) (room_there [] arguments (length (canon (PlainExpr.variable (PlainVarRef.simple name)))) room)
      ∙ sym (after_then (located c.frames name None) (λ location. Outcome.gives (Argument.Reference location)) (λ argument. answer code rest c m next [] (arguments ++ (argument ∷ [])))))
  argument_adds (PlainExpr.variable (PlainVarRef.subscripted name index)) n m address next arguments fuel end room has =
      let own = expr_instrs index in
      let instr = PlainInstr.reference_at name in
      let at : ℕ = address + length own in
      let long : length (own ++ (instr ∷ [])) ≡ length own + 1 = length-append own (instr ∷ []) in
      let reference = PlainVarRef.subscripted name index in
      let inside : length (canon index) ≤ length (canon_reference reference) =
      omega (arith, length-append name (parenthesized_bytes (canon index)), length-append (codes "(") (canon index ++ codes ")"), length-append (canon index) (codes ")")) in
      let free = room_there [] arguments (length (canon_reference reference)) room in
      let go : Argument → Option PlainStepAnswer = λ argument. answer code rest c m next [] (arguments ++ (argument ∷ [])) in
      let located_then : Option ℤ → Outcome Argument =
      λ subscript. then_gives (located c.frames name subscript) (λ location. Outcome.gives (Argument.Reference location)) in
      expr_runs code rest c reach index n (suc m) address at [] arguments (omega (arith, fuel, long)) refl (omega (arith, room, inside))
      (has_first code.instrs address own (instr ∷ []) has)
      ∙ (after_same (expression_value c.frames index) (λ value. answer code rest c (suc m) at (value ∷ []) arguments)
      (λ value. after (then_gives (on_number (λ z. Outcome.gives (Some z)) value) located_then) go)
      (λ value is.
      one_step code rest c (suc m) m at (value ∷ []) arguments instr refl ((has_second code.instrs address at own (instr ∷ []) refl has).0)
      ∙ by value (omega (arith, end, long)) free)
      ∙ (sym (after_then (expression_value c.frames index) (λ value. then_gives (on_number (λ z. Outcome.gives (Some z)) value) located_then) go)
      ∙ (ap (λ (o : Outcome Argument). after o go) (sym (then_assoc (expression_value c.frames index) (on_number (λ z. Outcome.gives (Some z))) located_then))
      ∙ ap (λ (o : Outcome Argument). after o go)
      (sym (then_assoc (subscript_value c.frames reference) (located c.frames name) (λ location. Outcome.gives (Argument.Reference location)))))))
    where
      by : (value : Value) → address + length (expr_instrs index) + 1 ≡ next → has_operand_room [] arguments ≡ true
          → led code rest c m (on_newest_number (λ z others. reference_lead c.frames (address + length (expr_instrs index) + 1) arguments name (Some z) others) (value ∷ []))
          ≡ after (then_gives (on_number (λ z. Outcome.gives (Some z)) value) (λ subscript. then_gives (located c.frames name subscript) (λ location. Outcome.gives (Argument.Reference location))))
          (λ argument. answer code rest c m next [] (arguments ++ (argument ∷ [])))
      by (Value.Fixed z) same room =
          led_reference m (address + length (expr_instrs index) + 1) next arguments name (Some z) same room
          ∙ sym (after_then (located c.frames name (Some z)) (λ location. Outcome.gives (Argument.Reference location)) (λ argument. answer code rest c m next [] (arguments ++ (argument ∷ []))))
      by (Value.Bit b) same room = refl
      by (Value.Text x) same room = refl
  argument_adds (PlainExpr.number z) n m address next arguments fuel end room has = dummy_adds (PlainExpr.number z) n m address next arguments fuel end room has
  argument_adds (PlainExpr.text x) n m address next arguments fuel end room has = dummy_adds (PlainExpr.text x) n m address next arguments fuel end room has
  argument_adds (PlainExpr.bit b) n m address next arguments fuel end room has = dummy_adds (PlainExpr.bit b) n m address next arguments fuel end room has
  argument_adds (PlainExpr.unary op a) n m address next arguments fuel end room has = dummy_adds (PlainExpr.unary op a) n m address next arguments fuel end room has
  argument_adds (PlainExpr.binary op a b) n m address next arguments fuel end room has = dummy_adds (PlainExpr.binary op a b) n m address next arguments fuel end room has
  argument_adds (PlainExpr.builtin function given) n m address next arguments fuel end room has =
      dummy_adds (PlainExpr.builtin function given) n m address next arguments fuel end room has
  argument_adds (PlainExpr.parenthesized a) n m address next arguments fuel end room has = dummy_adds (PlainExpr.parenthesized a) n m address next arguments fuel end room has

  -- the first of a list of arguments, behind which the others are told
  one_of : (a : PlainExpr) (es : PlainExprs) (n m address next : ℕ) (arguments : List Argument)
      → n ≡ length (arguments_instrs (PlainExprs.cons a es)) + m → next ≡ address + length (arguments_instrs (PlainExprs.cons a es))
      → HasRoomFor [] arguments (length (canon a)) → HasAt code.instrs address (arguments_instrs (PlainExprs.cons a es))
      → ((argument : Argument) → HasAt code.instrs (address + length (argument_instrs a)) (arguments_instrs es)
      → answer code rest c (length (arguments_instrs es) + m) (address + length (argument_instrs a)) [] (arguments ++ (argument ∷ []))
      ≡ after (argument_values c.frames es) (λ found. answer code rest c m next [] ((arguments ++ (argument ∷ [])) ++ found)))
      → answer code rest c n address [] arguments
      ≡ after (argument_values c.frames (PlainExprs.cons a es)) (λ found. answer code rest c m next [] (arguments ++ found))
  one_of a es n m address next arguments fuel end room has behind =
      let own = argument_instrs a in
      let others = arguments_instrs es in
      let middle : ℕ = address + length own in
      let long : length (own ++ others) ≡ length own + length others = length-append own others in
      let go : List Argument → Option PlainStepAnswer = λ found. answer code rest c m next [] (arguments ++ found) in
      argument_adds a n (length others + m) address middle arguments (omega (arith, fuel, long)) refl room (has_first code.instrs address own others has)
      ∙ (after_same (argument_value c.frames a) (λ argument. answer code rest c (length others + m) middle [] (arguments ++ (argument ∷ [])))
      (λ argument. after (then_gives (argument_values c.frames es) (λ found. Outcome.gives (argument ∷ found))) go)
      (λ argument is.
      behind argument (has_second code.instrs address middle own others refl has)
      ∙ (after_same (argument_values c.frames es) (λ found. answer code rest c m next [] ((arguments ++ (argument ∷ [])) ++ found)) (λ found. go (argument ∷ found))
      (λ found it. ap (answer code rest c m next []) (append_assoc arguments (argument ∷ []) found))
      ∙ sym (after_then (argument_values c.frames es) (λ found. Outcome.gives (argument ∷ found)) go)))
      ∙ sym (after_then (argument_value c.frames a) (λ argument. then_gives (argument_values c.frames es) (λ found. Outcome.gives (argument ∷ found))) go))

  more_add : (es : PlainExprs) (n m address next : ℕ) (arguments : List Argument) → n ≡ length (arguments_instrs es) + m
      → next ≡ address + length (arguments_instrs es) → HasMoreRoom [] arguments (length (canon_behind es)) → HasAt code.instrs address (arguments_instrs es)
      → answer code rest c n address [] arguments ≡ after (argument_values c.frames es) (λ found. answer code rest c m next [] (arguments ++ found))
  more_add PlainExprs.nil n m address next arguments fuel end room has =
      let here : n ≡ m = omega (arith, fuel) in
      let there : address ≡ next = omega (arith, end) in
      ap (λ (k : ℕ). answer code rest c k address [] arguments) here
      ∙ (ap (λ (k : ℕ). answer code rest c m k [] arguments) there ∙ ap (answer code rest c m next []) (sym (append-nil arguments)))
  more_add (PlainExprs.cons a es) n m address next arguments fuel end room has =
      let bytes = length-append comma (canon a ++ canon_behind es) in
      let more = length-append (canon a) (canon_behind es) in
      let long : length (argument_instrs a ++ arguments_instrs es) ≡ length (argument_instrs a) + length (arguments_instrs es) =
      length-append (argument_instrs a) (arguments_instrs es) in
      one_of a es n m address next arguments fuel end (omega (arith, room, bytes, more)) has
      (λ argument there.
      let one = length-append arguments (argument ∷ []) in
      more_add es (length (arguments_instrs es) + m) m (address + length (argument_instrs a)) next (arguments ++ (argument ∷ [])) refl (omega (arith, end, long))
      (omega (arith, room, bytes, more, one)) there)

  -- the code of the arguments of a call adds what they come to
  pub arguments_add : (es : PlainExprs) (n m address next : ℕ) → n ≡ length (arguments_instrs es) + m
      → next ≡ address + length (arguments_instrs es) → length (canon_list es) ≤ 400 → HasAt code.instrs address (arguments_instrs es)
      → answer code rest c n address [] [] ≡ after (argument_values c.frames es) (λ found. answer code rest c m next [] found)
  arguments_add PlainExprs.nil n m address next fuel end short has =
      let here : n ≡ m = omega (arith, fuel) in
      let there : address ≡ next = omega (arith, end) in
      ap (λ (k : ℕ). answer code rest c k address [] []) here ∙ ap (λ (k : ℕ). answer code rest c m k [] []) there
  arguments_add (PlainExprs.cons a es) n m address next fuel end short has =
      let bytes = length-append (canon a) (canon_behind es) in
      let long : length (argument_instrs a ++ arguments_instrs es) ≡ length (argument_instrs a) + length (arguments_instrs es) =
      length-append (argument_instrs a) (arguments_instrs es) in
      one_of a es n m address next [] fuel end (omega (arith, short, bytes)) has
      (λ argument there.
      more_add es (length (arguments_instrs es) + m) m (address + length (argument_instrs a)) next (argument ∷ []) refl (omega (arith, end, long))
      (omega (arith, short, bytes)) there)
