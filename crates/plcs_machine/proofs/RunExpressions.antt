-- The code of an expression pushes what the expression comes to, or stops the step as that does. There always is room
-- for the operands: a phrase has at most 400 bytes, and between two operands stand two bytes or more.
use Rattle.std.specs.Prelude.{◌≡◌, refl, ℕ, suc, ◌+◌, ◌≤◌, nat_le, ℤ, Bool, true, if◌then◌else◌, List, [], ◌∷◌, ◌++◌, codes, drop, length, reverse, slice_get, take, Option, Some, None}
use Rattle.std.proofs.Common.{ap, sym, ◌∙◌, arith, append_assoc}
use Rattle.std.proofs.Math.Seq.{drop-append_seam, take-append_seam}
use Rattle.std.proofs.lemmas.Bool.{le-leb, lt-ltb}
use Rattle.std.proofs.lemmas.Grind.{reverse_onto}
use Rattle.std.proofs.lemmas.List.{length-append, length-reverse, reverse-reverse}
use Rattle.plcs_base.specs.declared.value.Value.{Value}
use Rattle.plcs_grammar.specs.Canon.{behind_sign, canon, canon_behind, canon_list, canon_reference, comma, parenthesized_bytes}
use Rattle.plcs_grammar.specs.PlainPhrase.{PlainExpr, PlainExprs, PlainVarRef}
use Rattle.plcs_grammar.specs.Builtin.{builtin_name}
use Rattle.plcs_grammar.specs.Sign.{infix_sign, prefix_sign, sign_bytes}
use Rattle.plcs_code.specs.ExprCode.{expr_count, expr_instrs, exprs_instrs}
use Rattle.plcs_code.specs.Gen.{PlainCode}
use Rattle.plcs_code.specs.PlainInstr.{PlainInstr}
use Rattle.plcs_store.specs.declared.argument.Argument.{Argument}
use Rattle.plcs_store.specs.declared.cell.Location.{Location}
use Rattle.plcs_store.specs.declared.frame.Frame.{Frame}
use Rattle.plcs_store.specs.BuiltinValue.{builtin_value}
use Rattle.plcs_store.specs.CellAt.{located, value_at}
use Rattle.plcs_store.specs.Configuration.{PlainConfiguration}
use Rattle.plcs_store.specs.ExpressionValue.{expression_value, expression_values}
use Rattle.plcs_store.specs.Limit.{most_operands}
use Rattle.plcs_store.specs.Operator.{infix_value, on_number, prefix_value}
use Rattle.plcs_store.specs.Outcome.{Outcome, both_give, if_there, then_gives}
use Rattle.plcs_store.specs.Step.{PlainStepAnswer}
use Rattle.plcs_machine.specs.Exec.{outcome_answer, run_from}
use Rattle.plcs_machine.specs.Fetched.{result_of}
use Rattle.plcs_machine.specs.Lead.{Lead, has_operand_room, lead, load_lead, on_newest_number, on_some, push_lead}
use Rattle.plcs_machine.specs.Passing.{settle}
use Rattle.plcs_machine.specs.Reached.{reached}
use Rattle.plcs_machine.proofs.TreeBegun.{result_behind}
use Rattle.plcs_machine.proofs.StandingCode.{HasAt, has_first, has_second}

-- ---- what follows an outcome

-- the answer behind a part of a step, where it is told how the step goes on
abbrev pub after : {A : Type 0} → Outcome A → (A → Option PlainStepAnswer) → Option PlainStepAnswer
after (Outcome.gives a) go = go a
after (Outcome.stops reason) go = Some (PlainStepAnswer.stopped reason)
after Outcome.undefined go = None

pub after_same : {A : Type 0} (outcome : Outcome A) (one other : A → Option PlainStepAnswer)
    → ((a : A) → outcome ≡ Outcome.gives a → one a ≡ other a) → after outcome one ≡ after outcome other
after_same (Outcome.gives a) one other same = same a refl
after_same (Outcome.stops reason) one other same = refl
after_same Outcome.undefined one other same = refl

pub after_then : {A B : Type 0} (outcome : Outcome A) (make : A → Outcome B) (go : B → Option PlainStepAnswer)
    → after (then_gives outcome make) go ≡ after outcome (λ a. after (make a) go)
after_then (Outcome.gives a) make go = refl
after_then (Outcome.stops reason) make go = refl
after_then Outcome.undefined make go = refl

pub then_assoc : {A B C : Type 0} (outcome : Outcome A) (make : A → Outcome B) (next : B → Outcome C)
    → then_gives (then_gives outcome make) next ≡ then_gives outcome (λ a. then_gives (make a) next)
then_assoc (Outcome.gives a) make next = refl
then_assoc (Outcome.stops reason) make next = refl
then_assoc Outcome.undefined make next = refl

pub then_same : {A B : Type 0} (outcome : Outcome A) (one other : A → Outcome B)
    → ((a : A) → outcome ≡ Outcome.gives a → one a ≡ other a) → then_gives outcome one ≡ then_gives outcome other
then_same (Outcome.gives a) one other same = same a refl
then_same (Outcome.stops reason) one other same = refl
then_same Outcome.undefined one other same = refl

-- ---- how many values expressions come to

count_level : (a : Outcome Value) (rest : Outcome (List Value)) (n : ℕ) → ((values : List Value) → rest ≡ Outcome.gives values → length values ≡ n)
    → (values : List Value) → both_give a rest (λ value values. Outcome.gives (value ∷ values)) ≡ Outcome.gives values → length values ≡ n + 1
count_level (Outcome.gives a) (Outcome.gives rest) n counts values e =
    let own : length rest ≡ n = counts rest refl in
    let same : length (a ∷ rest) ≡ length values = ap (λ (o : Outcome (List Value)). length (values_or (a ∷ rest) o)) e in
    omega (arith, own, same)
  where
    values_or : List Value → Outcome (List Value) → List Value
    values_or other (Outcome.gives there) = there
    values_or other (Outcome.stops reason) = other
    values_or other Outcome.undefined = other
count_level (Outcome.gives a) (Outcome.stops reason) n counts values e = absurd (cc)
count_level (Outcome.gives a) Outcome.undefined n counts values e = absurd (cc)
count_level (Outcome.stops reason) rest n counts values e = absurd (cc)
count_level Outcome.undefined rest n counts values e = absurd (cc)

pub values_count : (frames : List Frame) (es : PlainExprs) (values : List Value) → expression_values frames es ≡ Outcome.gives values
    → length values ≡ expr_count es
values_count frames PlainExprs.nil [] e = refl
values_count frames PlainExprs.nil (value ∷ values) e = absurd (cc)
values_count frames (PlainExprs.cons a rest) values e =
    count_level (expression_value frames a) (expression_values frames rest) (expr_count rest) (values_count frames rest) values e

-- ---- room

-- so many operands and arguments leave room for the code of a text of this length
abbrev pub HasRoomFor : (values : List Value) (arguments : List Argument) (bytes : ℕ) → Type 0
HasRoomFor values arguments bytes = (length values + length arguments) + (length values + length arguments) + bytes ≤ 798

-- and for that of a text that begins with two bytes of its own
abbrev pub HasMoreRoom : (values : List Value) (arguments : List Argument) (bytes : ℕ) → Type 0
HasMoreRoom values arguments bytes = (length values + length arguments) + (length values + length arguments) + bytes ≤ 800

parenthesized_length : (bytes : List ℕ) → length (parenthesized_bytes bytes) ≡ 1 + (length bytes + 1)
parenthesized_length bytes = omega (arith, length-append (codes "(") (bytes ++ codes ")"), length-append bytes (codes ")"))

-- a sign and the blanks around it
sign_length : (sign bytes : List ℕ) → length bytes + 2 ≤ length (codes " " ++ (sign ++ (codes " " ++ bytes)))
sign_length sign bytes =
    omega (arith, length-append (codes " ") (sign ++ (codes " " ++ bytes)), length-append sign (codes " " ++ bytes), length-append (codes " ") bytes)

-- the values of a list newest first, behind which others are
reversed_cons : (value : Value) (found values : List Value) → reverse (value ∷ found) ++ values ≡ reverse found ++ (value ∷ values)
reversed_cons value found values =
    ap (λ (l : List Value). l ++ values) (reverse_onto found value []) ∙ append_assoc (reverse found) (value ∷ []) values

pub room_there : (values : List Value) (arguments : List Argument) (bytes : ℕ) → HasRoomFor values arguments bytes → has_operand_room values arguments ≡ true
room_there values arguments bytes room = lt-ltb (length values + length arguments) most_operands (omega (arith, room))

-- ---- one instruction

module _ (code : PlainCode) (rest : List ℕ) (c : PlainConfiguration) where
  -- the answer of a step that has come to an address
  abbrev pub answer : (fetches address : ℕ) → List Value → List Argument → Option PlainStepAnswer
  answer fetches address values arguments = result_of (run_from code rest c fetches address values arguments)

  -- the answer behind an instruction
  abbrev pub led : (fetches : ℕ) → Outcome Lead → Option PlainStepAnswer
  led fetches outcome = result_of (outcome_answer c (run_from code rest c fetches) (settle c.frames code.instrs fetches) outcome)

  pub one_step : (n m address : ℕ) (values : List Value) (arguments : List Argument) (instr : PlainInstr) → n ≡ suc m
      → slice_get code.instrs address ≡ Some instr
      → answer n address values arguments ≡ led m (lead code c.frames rest c.output (address + 1) values arguments instr)
  one_step n m address values arguments instr same there =
      ap (λ (k : ℕ). answer k address values arguments) same
      ∙ ap (λ (o : Option PlainInstr). led m (then_gives (if_there o) (lead code c.frames rest c.output (address + 1) values arguments))) there

  pub led_on : (m address next : ℕ) (values : List Value) (arguments : List Argument) → address ≡ next
      → led m (Outcome.gives (Lead.goes_on address values arguments)) ≡ answer m next values arguments
  led_on m address next values arguments same =
      result_behind (run_from code rest c m address values arguments) ∙ ap (λ (n : ℕ). answer m n values arguments) same

  -- what is pushed
  pub led_pushed : (m address next : ℕ) (values : List Value) (arguments : List Argument) (outcome : Outcome Value) → address ≡ next
      → has_operand_room values arguments ≡ true
      → led m (then_gives outcome (push_lead address values arguments)) ≡ after outcome (λ value. answer m next (value ∷ values) arguments)
  led_pushed m address next values arguments (Outcome.gives value) same room =
      ap (λ (b : Bool). led m (if b then Outcome.gives (Lead.goes_on address (value ∷ values) arguments) else Outcome.undefined)) room
      ∙ led_on m address next (value ∷ values) arguments same
  led_pushed m address next values arguments (Outcome.stops reason) same room = refl
  led_pushed m address next values arguments Outcome.undefined same room = refl

  -- so many operands that were pushed, newest first
  some_newest : (values others : List Value) (n : ℕ) → length values ≡ n
      → (nat_le n (length (reverse values ++ others)) ≡ true) × (reverse (take n (reverse values ++ others)) ≡ values) × (drop n (reverse values ++ others) ≡ others)
  some_newest values others n same =
      let long : length (reverse values) ≡ n = length-reverse values ∙ same in (
        le-leb n (length (reverse values ++ others)) (omega (arith, long, length-append (reverse values) others)),
        ap reverse (ap (λ (k : ℕ). take k (reverse values ++ others)) (sym long) ∙ take-append_seam (reverse values) others) ∙ reverse-reverse values,
        ap (λ (k : ℕ). drop k (reverse values ++ others)) (sym long) ∙ drop-append_seam (reverse values) others,
      )

  -- what is made of them
  pub led_some : {A : Type 0} (make : List Value → List Value → Outcome A) (values others : List Value) (n : ℕ) → length values ≡ n
      → on_some n make (reverse values ++ others) ≡ make values others
  led_some make values others n same =
      let (few, given, left) = some_newest values others n same in
      ap (λ (b : Bool). if b then make (reverse (take n (reverse values ++ others))) (drop n (reverse values ++ others)) else Outcome.undefined) few
      ∙ (ap (λ (l : List Value). make l (drop n (reverse values ++ others))) given ∙ ap (make values) left)

  -- ---- expressions

  module _ (reach : (name : List ℕ) (subscript : Option ℤ) → reached c.frames name subscript ≡ located c.frames name subscript) where
    -- the code of the expression runs right
    abbrev pub Runs : PlainExpr → Type 0
    Runs e =
        (n m address next : ℕ) (values : List Value) (arguments : List Argument) → n ≡ length (expr_instrs e) + m
        → next ≡ address + length (expr_instrs e) → HasRoomFor values arguments (length (canon e)) → HasAt code.instrs address (expr_instrs e)
        → answer n address values arguments ≡ after (expression_value c.frames e) (λ value. answer m next (value ∷ values) arguments)

    -- the value of a variable is loaded
    led_load : (m address next : ℕ) (values : List Value) (arguments : List Argument) (name : List ℕ) (subscript : Option ℤ) → address ≡ next
        → has_operand_room values arguments ≡ true
        → led m (load_lead c.frames address arguments name subscript values)
        ≡ after (then_gives (located c.frames name subscript) (value_at c.frames)) (λ value. answer m next (value ∷ values) arguments)
    led_load m address next values arguments name subscript same room =
        ap (λ (o : Outcome Location). led m (then_gives o (λ location. then_gives (value_at c.frames location) (push_lead address values arguments)))) (reach name subscript)
        ∙ (ap (led m) (sym (then_assoc (located c.frames name subscript) (value_at c.frames) (push_lead address values arguments)))
        ∙ led_pushed m address next values arguments (then_gives (located c.frames name subscript) (value_at c.frames)) same room)

    -- the value of an element of a variable is loaded
    loaded_at : (m address next : ℕ) (values : List Value) (arguments : List Argument) (name : List ℕ) (value : Value) → address ≡ next
        → has_operand_room values arguments ≡ true
        → led m (on_newest_number (λ z others. load_lead c.frames address arguments name (Some z) others) (value ∷ values))
        ≡ after (then_gives (on_number (λ z. Outcome.gives (Some z)) value) (λ subscript. then_gives (located c.frames name subscript) (value_at c.frames)))
        (λ found. answer m next (found ∷ values) arguments)
    loaded_at m address next values arguments name (Value.Fixed z) same room = led_load m address next values arguments name (Some z) same room
    loaded_at m address next values arguments name (Value.Bit b) same room = refl
    loaded_at m address next values arguments name (Value.Text x) same room = refl

    -- the code of the expressions behind the first one of a list runs right
    abbrev MoreRun : PlainExprs → Type 0
    MoreRun es =
        (n m address next : ℕ) (values : List Value) (arguments : List Argument) → n ≡ length (exprs_instrs es) + m
        → next ≡ address + length (exprs_instrs es) → HasMoreRoom values arguments (length (canon_behind es)) → HasAt code.instrs address (exprs_instrs es)
        → answer n address values arguments ≡ after (expression_values c.frames es) (λ found. answer m next (reverse found ++ values) arguments)

    one_of : (a : PlainExpr) (es : PlainExprs) → Runs a → MoreRun es
        → (n m address next : ℕ) (values : List Value) (arguments : List Argument)
        → n ≡ length (exprs_instrs (PlainExprs.cons a es)) + m → next ≡ address + length (exprs_instrs (PlainExprs.cons a es))
        → HasRoomFor values arguments (length (canon a)) → HasRoomFor values arguments (length (canon_behind es))
        → HasAt code.instrs address (exprs_instrs (PlainExprs.cons a es))
        → answer n address values arguments ≡ after (expression_values c.frames (PlainExprs.cons a es)) (λ found. answer m next (reverse found ++ values) arguments)
    one_of a es first behind n m address next values arguments fuel end room later has =
        let own = expr_instrs a in
        let others = exprs_instrs es in
        let middle : ℕ = address + length own in
        let long : length (own ++ others) ≡ length own + length others = length-append own others in
        first n (length others + m) address middle values arguments (omega (arith, fuel, long)) refl room (has_first code.instrs address own others has)
        ∙ (after_same (expression_value c.frames a) (λ value. answer (length others + m) middle (value ∷ values) arguments)
        (λ value. after (then_gives (expression_values c.frames es) (λ found. Outcome.gives (value ∷ found))) (λ found. answer m next (reverse found ++ values) arguments))
        (λ value e.
        behind (length others + m) m middle next (value ∷ values) arguments refl (omega (arith, end, long)) (omega (arith, later))
        (has_second code.instrs address middle own others refl has)
        ∙ (after_same (expression_values c.frames es) (λ found. answer m next (reverse found ++ (value ∷ values)) arguments)
        (λ found. answer m next (reverse (value ∷ found) ++ values) arguments)
        (λ found f. ap (λ (l : List Value). answer m next l arguments) (sym (reversed_cons value found values)))
        ∙ sym (after_then (expression_values c.frames es) (λ found. Outcome.gives (value ∷ found)) (λ found. answer m next (reverse found ++ values) arguments))))
        ∙ sym (after_then (expression_value c.frames a) (λ value. then_gives (expression_values c.frames es) (λ found. Outcome.gives (value ∷ found))) (λ found. answer m next (reverse found ++ values) arguments)))

    mutual
      pub expr_runs : (e : PlainExpr) → Runs e
      expr_runs (PlainExpr.number z) n m address next values arguments fuel end room has =
          one_step n m address values arguments (PlainInstr.push_number z) (omega (arith, fuel)) has.0
          ∙ led_pushed m (address + 1) next values arguments (Outcome.gives (Value.Fixed z)) (omega (arith, end)) (room_there values arguments (length (canon (PlainExpr.number z))) room)
      expr_runs (PlainExpr.text x) n m address next values arguments fuel end room has =
          one_step n m address values arguments (PlainInstr.push_text x) (omega (arith, fuel)) has.0
          ∙ led_pushed m (address + 1) next values arguments (Outcome.gives (Value.Text x)) (omega (arith, end)) (room_there values arguments (length (canon (PlainExpr.text x))) room)
      expr_runs (PlainExpr.bit b) n m address next values arguments fuel end room has =
          one_step n m address values arguments (PlainInstr.push_bit b) (omega (arith, fuel)) has.0
          ∙ led_pushed m (address + 1) next values arguments (Outcome.gives (Value.Bit b)) (omega (arith, end)) (room_there values arguments (length (canon (PlainExpr.bit b))) room)
      expr_runs (PlainExpr.variable (PlainVarRef.simple name)) n m address next values arguments fuel end room has =
          one_step n m address values arguments (PlainInstr.load name) (omega (arith, fuel)) has.0
          ∙ led_load m (address + 1) next values arguments name None (omega (arith, end)) (room_there values arguments (length (canon (PlainExpr.variable (PlainVarRef.simple name)))) room)
      expr_runs (PlainExpr.variable (PlainVarRef.subscripted name index)) n m address next values arguments fuel end room has =
          let own = expr_instrs index in
          let at : ℕ = address + length own in
          let instr = PlainInstr.load_at name in
          let long : length (own ++ (instr ∷ [])) ≡ length own + 1 = length-append own (instr ∷ []) in
          let bytes : length (canon_reference (PlainVarRef.subscripted name index)) ≡ length name + length (parenthesized_bytes (canon index)) =
          length-append name (parenthesized_bytes (canon index)) in
          let inner : length (parenthesized_bytes (canon index)) ≡ 1 + (length (canon index) + 1) = parenthesized_length (canon index) in
          let free = room_there values arguments (length (canon (PlainExpr.variable (PlainVarRef.subscripted name index)))) room in
          expr_runs index n (suc m) address at values arguments (omega (arith, fuel, long)) refl (omega (arith, room, bytes, inner))
          (has_first code.instrs address own (instr ∷ []) has)
          ∙ (after_same (expression_value c.frames index) (λ value. answer (suc m) at (value ∷ values) arguments)
          (λ value. after (then_gives (on_number (λ z. Outcome.gives (Some z)) value) (λ subscript. then_gives (located c.frames name subscript) (value_at c.frames)))
          (λ found. answer m next (found ∷ values) arguments))
          (λ value e.
          one_step (suc m) m at (value ∷ values) arguments instr refl ((has_second code.instrs address at own (instr ∷ []) refl has).0)
          ∙ loaded_at m (at + 1) next values arguments name value (omega (arith, end, long)) free)
          ∙ (sym (after_then (expression_value c.frames index) (λ value. then_gives (on_number (λ z. Outcome.gives (Some z)) value) (λ subscript. then_gives (located c.frames name subscript) (value_at c.frames)))
          (λ found. answer m next (found ∷ values) arguments))
          ∙ ap (λ (o : Outcome Value). after o (λ found. answer m next (found ∷ values) arguments))
          (sym (then_assoc (expression_value c.frames index) (on_number (λ z. Outcome.gives (Some z))) (λ subscript. then_gives (located c.frames name subscript) (value_at c.frames))))))
      expr_runs (PlainExpr.unary op a) n m address next values arguments fuel end room has =
          let own = expr_instrs a in
          let at : ℕ = address + length own in
          let instr = PlainInstr.unary op in
          let long : length (own ++ (instr ∷ [])) ≡ length own + 1 = length-append own (instr ∷ []) in
          let bytes = length-append (sign_bytes (prefix_sign op)) (canon a) in
          let free = room_there values arguments (length (canon (PlainExpr.unary op a))) room in
          expr_runs a n (suc m) address at values arguments (omega (arith, fuel, long)) refl (omega (arith, room, bytes))
          (has_first code.instrs address own (instr ∷ []) has)
          ∙ (after_same (expression_value c.frames a) (λ value. answer (suc m) at (value ∷ values) arguments)
          (λ value. after (prefix_value op value) (λ found. answer m next (found ∷ values) arguments))
          (λ value e.
          one_step (suc m) m at (value ∷ values) arguments instr refl ((has_second code.instrs address at own (instr ∷ []) refl has).0)
          ∙ led_pushed m (at + 1) next values arguments (prefix_value op value) (omega (arith, end, long)) free)
          ∙ sym (after_then (expression_value c.frames a) (prefix_value op) (λ found. answer m next (found ∷ values) arguments)))
      expr_runs (PlainExpr.binary op a b) n m address next values arguments fuel end room has =
          let one = expr_instrs a in
          let other = expr_instrs b in
          let instr = PlainInstr.binary op in
          let middle : ℕ = address + length one in
          let at : ℕ = middle + length other in
          let long : length (one ++ (other ++ (instr ∷ []))) ≡ length one + length (other ++ (instr ∷ [])) = length-append one (other ++ (instr ∷ [])) in
          let more : length (other ++ (instr ∷ [])) ≡ length other + 1 = length-append other (instr ∷ []) in
          let bytes : length (canon (PlainExpr.binary op a b)) ≡ length (canon a) + length (behind_sign (infix_sign op) (canon b)) =
          length-append (canon a) (behind_sign (infix_sign op) (canon b)) in
          let sign : length (canon b) + 2 ≤ length (behind_sign (infix_sign op) (canon b)) = sign_length (sign_bytes (infix_sign op)) (canon b) in
          let free = room_there values arguments (length (canon (PlainExpr.binary op a b))) room in
          let behind = has_second code.instrs address middle one (other ++ (instr ∷ [])) refl has in
          expr_runs a n (length other + suc m) address middle values arguments (omega (arith, fuel, long, more)) refl (omega (arith, room, bytes))
          (has_first code.instrs address one (other ++ (instr ∷ [])) has)
          ∙ (after_same (expression_value c.frames a) (λ value. answer (length other + suc m) middle (value ∷ values) arguments)
          (λ left. after (then_gives (expression_value c.frames b) (infix_value op left)) (λ found. answer m next (found ∷ values) arguments))
          (λ left e.
          expr_runs b (length other + suc m) (suc m) middle at (left ∷ values) arguments refl refl (omega (arith, room, bytes, sign))
          (has_first code.instrs middle other (instr ∷ []) behind)
          ∙ (after_same (expression_value c.frames b) (λ value. answer (suc m) at (value ∷ (left ∷ values)) arguments)
          (λ right. after (infix_value op left right) (λ found. answer m next (found ∷ values) arguments))
          (λ right f.
          one_step (suc m) m at (right ∷ (left ∷ values)) arguments instr refl ((has_second code.instrs middle at other (instr ∷ []) refl behind).0)
          ∙ led_pushed m (at + 1) next values arguments (infix_value op left right) (omega (arith, end, long, more)) free)
          ∙ sym (after_then (expression_value c.frames b) (infix_value op left) (λ found. answer m next (found ∷ values) arguments))))
          ∙ sym (after_then (expression_value c.frames a) (λ left. then_gives (expression_value c.frames b) (infix_value op left)) (λ found. answer m next (found ∷ values) arguments)))
      expr_runs (PlainExpr.builtin function given) n m address next values arguments fuel end room has =
          let own = exprs_instrs given in
          let at : ℕ = address + length own in
          let instr = PlainInstr.builtin function (expr_count given) in
          let long : length (own ++ (instr ∷ [])) ≡ length own + 1 = length-append own (instr ∷ []) in
          let bytes = length-append (builtin_name function) (parenthesized_bytes (canon_list given)) in
          let inner : length (parenthesized_bytes (canon_list given)) ≡ 1 + (length (canon_list given) + 1) = parenthesized_length (canon_list given) in
          let free = room_there values arguments (length (canon (PlainExpr.builtin function given))) room in
          exprs_run given n (suc m) address at values arguments (omega (arith, fuel, long)) refl (omega (arith, room, bytes, inner))
          (has_first code.instrs address own (instr ∷ []) has)
          ∙ (after_same (expression_values c.frames given) (λ found. answer (suc m) at (reverse found ++ values) arguments)
          (λ found. after (builtin_value function found) (λ value. answer m next (value ∷ values) arguments))
          (λ found e.
          one_step (suc m) m at (reverse found ++ values) arguments instr refl ((has_second code.instrs address at own (instr ∷ []) refl has).0)
          ∙ (ap (led m) (led_some (λ given others. then_gives (builtin_value function given) (push_lead (at + 1) others arguments)) found values (expr_count given) (values_count c.frames given found e))
          ∙ led_pushed m (at + 1) next values arguments (builtin_value function found) (omega (arith, end, long)) free))
          ∙ sym (after_then (expression_values c.frames given) (builtin_value function) (λ value. answer m next (value ∷ values) arguments)))
      expr_runs (PlainExpr.parenthesized a) n m address next values arguments fuel end room has =
          let bytes = length-append (codes "( ") (canon a ++ codes " )") in
          let more = length-append (canon a) (codes " )") in
          expr_runs a n m address next values arguments fuel end (omega (arith, room, bytes, more)) has

      -- the first of a list
      pub exprs_run : (es : PlainExprs) (n m address next : ℕ) (values : List Value) (arguments : List Argument) → n ≡ length (exprs_instrs es) + m
          → next ≡ address + length (exprs_instrs es) → HasRoomFor values arguments (length (canon_list es)) → HasAt code.instrs address (exprs_instrs es)
          → answer n address values arguments ≡ after (expression_values c.frames es) (λ found. answer m next (reverse found ++ values) arguments)
      exprs_run PlainExprs.nil n m address next values arguments fuel end room has =
          let here : n ≡ m = omega (arith, fuel) in
          let there : address ≡ next = omega (arith, end) in
          ap (λ (k : ℕ). answer k address values arguments) here ∙ ap (λ (k : ℕ). answer m k values arguments) there
      exprs_run (PlainExprs.cons a es) n m address next values arguments fuel end room has =
          let bytes = length-append (canon a) (canon_behind es) in
          one_of a es (expr_runs a) (more_run es) n m address next values arguments fuel end (omega (arith, room, bytes)) (omega (arith, room, bytes)) has

      -- those behind it
      more_run : (es : PlainExprs) → MoreRun es
      more_run PlainExprs.nil n m address next values arguments fuel end room has =
          let here : n ≡ m = omega (arith, fuel) in
          let there : address ≡ next = omega (arith, end) in
          ap (λ (k : ℕ). answer k address values arguments) here ∙ ap (λ (k : ℕ). answer m k values arguments) there
      more_run (PlainExprs.cons a es) n m address next values arguments fuel end room has =
          let bytes = length-append comma (canon a ++ canon_behind es) in
          let more = length-append (canon a) (canon_behind es) in
          one_of a es (expr_runs a) (more_run es) n m address next values arguments fuel end (omega (arith, room, bytes, more)) (omega (arith, room, bytes, more)) has
