-- What stands at a place is run by the code that stands behind its address: each part of the step is worked on in its
-- order, and the step ends where the spot says. Only what the tree's step is defined for is told here: in what isn't,
-- kinds may be tested later.
use Rattle.std.specs.Prelude.{◌≡◌, refl, ℕ, zero, suc, ◌+◌, ◌≤◌, ◌<◌, ℤ, pos, ◌+ℤ◌, Bool, true, false, if◌then◌else◌, List, [], ◌∷◌, ◌++◌, codes, length, reverse, slice_get, Option, Some, None}
use Rattle.std.proofs.Common.{ap, sym, ◌∙◌, arith}
use Rattle.std.proofs.lemmas.List.{length-append}
use Rattle.std.proofs.lemmas.Option.{none-some}
use Rattle.plcs_base.specs.declared.value.Value.{Value}
use Rattle.plcs_grammar.specs.Canon.{Canon, behind_sign, canon, canon_list, canon_reference, parenthesized_bytes}
use Rattle.plcs_grammar.specs.declared.sign.Sign.{Sign}
use Rattle.plcs_grammar.specs.Sign.{sign_bytes}
use Rattle.plcs_grammar.specs.PlainPhrase.{PlainExpr, PlainExprs, PlainPhrase, PlainVarRef}
use Rattle.plcs_code.specs.ExprCode.{expr_count, expr_instrs, exprs_instrs, index_instrs, variable_instr}
use Rattle.plcs_code.specs.Gen.{PlainCode}
use Rattle.plcs_code.specs.Landing.{Lands}
use Rattle.plcs_code.specs.PlainInstr.{PlainInstr}
use Rattle.template_tree.specs.Positions.Place.{PlainPlace}
use Rattle.plcs_store.specs.declared.cell.Location.{Location}
use Rattle.plcs_store.specs.declared.kept_loop.KeptLoop.{KeptLoop}
use Rattle.plcs_store.specs.declared.reason.Reason.{Reason}
use Rattle.plcs_store.specs.Act.{Act, done}
use Rattle.plcs_store.specs.CellAt.{kept_at, located, value_at}
use Rattle.plcs_store.specs.Configuration.{PlainConfiguration}
use Rattle.plcs_store.specs.ExpressionValue.{expression_value, expression_values, subscript_value}
use Rattle.plcs_store.specs.LoopOfSlot.{NumberedLoop, newest_loop}
use Rattle.plcs_store.specs.Operator.{fixed_value, on_bit, on_number}
use Rattle.plcs_store.specs.Outcome.{Outcome, if_there, then_gives}
use Rattle.plcs_store.specs.OutputItem.{output_with}
use Rattle.plcs_store.specs.Step.{Going, PlainStepAnswer, assignment_act, begin_going, entry_going, going_on, is_over, item_act, iteration_going, loop_going, output_act, read_act, step_answer, storing, test_going, write_act}
use Rattle.plcs_machine.specs.Lead.{Lead, acting_at, address_at, body_address, has_loop_room, jump_target, lead, then_acts}
use Rattle.plcs_machine.specs.Reached.{reached}
use Rattle.plcs_machine.proofs.RunExpressions.{after, after_same, after_then, answer, expr_runs, exprs_run, led, led_on, led_some, one_step, then_assoc, values_count}
use Rattle.plcs_machine.proofs.RunLandings.{answer_then, going_then, led_acts, led_then_acts, runs_on}
use Rattle.plcs_machine.proofs.StandingCode.{HasAt, has_first, has_second}

-- ---- answers that are met

-- what is got is what is wanted, where something is wanted
abbrev pub Meets : (got wanted : Option PlainStepAnswer) → Type 0
Meets got wanted = (one : PlainStepAnswer) → wanted ≡ Some one → got ≡ Some one

pub meets_same : (got wanted : Option PlainStepAnswer) → got ≡ wanted → Meets got wanted
meets_same got wanted same one e = same ∙ e

pub meets_by : (got had wanted asked : Option PlainStepAnswer) → got ≡ had → wanted ≡ asked → Meets had asked → Meets got wanted
meets_by got had wanted asked same is meets one e = same ∙ meets one (sym is ∙ e)

meets_none : (got : Option PlainStepAnswer) → Meets got None
meets_none got one e = absurd (none-some one e)

pub meets_after : {A : Type 0} (outcome : Outcome A) (got wanted : A → Option PlainStepAnswer)
    → ((a : A) → outcome ≡ Outcome.gives a → Meets (got a) (wanted a)) → Meets (after outcome got) (after outcome wanted)
meets_after (Outcome.gives a) got wanted each one e = each a refl one e
meets_after (Outcome.stops reason) got wanted each one e = e
meets_after Outcome.undefined got wanted each one e = absurd (none-some one e)

-- on a number alone
meets_number : {A : Type 0} (value : Value) (make : ℤ → Outcome A) (got : Option PlainStepAnswer) (go : A → Option PlainStepAnswer)
    → ((z : ℤ) → value ≡ Value.Fixed z → Meets got (after (make z) go)) → Meets got (after (on_number make value) go)
meets_number (Value.Fixed z) make got go each = each z refl
meets_number (Value.Bit b) make got go each = meets_none got
meets_number (Value.Text x) make got go each = meets_none got

meets_bit : {A : Type 0} (value : Value) (make : Bool → Outcome A) (got : Option PlainStepAnswer) (go : A → Option PlainStepAnswer)
    → ((b : Bool) → value ≡ Value.Bit b → Meets got (after (make b) go)) → Meets got (after (on_bit make value) go)
meets_bit (Value.Bit b) make got go each = each b refl
meets_bit (Value.Fixed z) make got go each = meets_none got
meets_bit (Value.Text x) make got go each = meets_none got

-- a number of fetches in two parts
pub split : (k n : ℕ) → k ≤ n → (m : ℕ) × (n ≡ k + m)
split zero n few = (n, omega arith)
split (suc k) zero few = absurd (omega (arith, few))
split (suc k) (suc n) few = let (m, is) = split k n (omega (arith, few)) in (m, omega (arith, is))

-- what is told of an outcome's parts by code is the answer of the step
pub led_each : (code : PlainCode) (rest : List ℕ) (c : PlainConfiguration) {A : Type 0} (fetches : ℕ) (outcome : Outcome A) (make : A → Outcome Lead) (made : A → Outcome Going)
    → ((a : A) → led code rest c fetches (make a) ≡ step_answer c (made a))
    → led code rest c fetches (then_gives outcome make) ≡ step_answer c (then_gives outcome made)
led_each code rest c fetches (Outcome.gives a) make made each = each a
led_each code rest c fetches (Outcome.stops reason) make made each = refl
led_each code rest c fetches Outcome.undefined make made each = refl

led_number : (code : PlainCode) (rest : List ℕ) (c : PlainConfiguration) (fetches : ℕ) (value : Value) (make : ℤ → Outcome Lead) (made : ℤ → Outcome Going)
    → ((z : ℤ) → led code rest c fetches (make z) ≡ step_answer c (made z))
    → led code rest c fetches (on_number make value) ≡ step_answer c (on_number made value)
led_number code rest c fetches (Value.Fixed z) make made each = each z
led_number code rest c fetches (Value.Bit b) make made each = refl
led_number code rest c fetches (Value.Text x) make made each = refl

-- on a number alone
step_number : (c : PlainConfiguration) (value : Value) (make : ℤ → Outcome Going) (got : Option PlainStepAnswer)
    → ((z : ℤ) → value ≡ Value.Fixed z → Meets got (step_answer c (make z))) → Meets got (step_answer c (on_number make value))
step_number c (Value.Fixed z) make got each = each z refl
step_number c (Value.Bit b) make got each = meets_none got
step_number c (Value.Text x) make got each = meets_none got

-- the answer behind a value
abbrev after_of : Outcome Value → (Value → Option PlainStepAnswer) → Option PlainStepAnswer
after_of outcome go = after outcome go

-- lengths of texts within others
behind_longer : (sign bytes : List ℕ) → length bytes ≤ length (codes " " ++ (sign ++ (codes " " ++ bytes)))
behind_longer sign bytes =
    omega (arith, length-append (codes " ") (sign ++ (codes " " ++ bytes)), length-append sign (codes " " ++ bytes), length-append (codes " ") bytes)

pub index_shorter : (name bytes : List ℕ) → length bytes ≤ length (name ++ parenthesized_bytes bytes)
index_shorter name bytes =
    omega
    (arith, length-append name (parenthesized_bytes bytes), length-append (codes "(") (bytes ++ codes ")"), length-append bytes (codes ")"))

module _ (code : PlainCode) (rest : List ℕ) (c : PlainConfiguration)
    (reach : (name : List ℕ) (subscript : Option ℤ) → reached c.frames name subscript ≡ located c.frames name subscript) where
  -- what an act behind a variable's place answers
  reached_acts : (name : List ℕ) (subscript : Option ℤ) (make : Location → Outcome Act) (place : PlainPlace) (address next fetches : ℕ)
      (lands : Lands code.instrs next place) → address ≡ next → lands.jumps < fetches
      → led code rest c fetches (then_acts address (then_gives (reached c.frames name subscript) make))
      ≡ step_answer c (going_on place (then_gives (located c.frames name subscript) make))
  reached_acts name subscript make place address next fetches lands same few =
      led_then_acts code rest c (then_gives (reached c.frames name subscript) make) place address next fetches lands same few
      ∙ ap (λ (o : Outcome Location). step_answer c (going_on place (then_gives o make))) (reach name subscript)

  -- ---- what stops

  pub halts_run : (reason : Reason) (n address : ℕ) (instr : PlainInstr) → 0 < n → slice_get code.instrs address ≡ Some instr
      → lead code c.frames rest c.output (address + 1) [] [] instr ≡ Outcome.stops reason
      → answer code rest c n address [] [] ≡ Some (PlainStepAnswer.stopped reason)
  halts_run reason n address instr some there is =
      let (m, fuel) = split 1 n (omega (arith, some)) in
      one_step code rest c n m address [] [] instr (omega (arith, fuel)) there ∙ ap (led code rest c m) is

  -- ---- assignments

  abbrev stored : (name : List ℕ) (subscript : Option ℤ) (value : Value) → Outcome Act
  stored name subscript value = then_gives (located c.frames name subscript) (λ location. storing c.frames location value (Act.store location))

  pub assigns_run : (target : PlainVarRef) (e : PlainExpr) (place : PlainPlace) (n address next : ℕ)
      → HasAt code.instrs address (index_instrs target ++ (expr_instrs e ++ (variable_instr PlainInstr.store PlainInstr.store_at target ∷ [])))
      → next ≡ address + length (index_instrs target ++ (expr_instrs e ++ (variable_instr PlainInstr.store PlainInstr.store_at target ∷ [])))
      → Lands code.instrs next place → length code.instrs ≤ address + n → length (Canon (PlainPhrase.assignment target e)) ≤ 400
      → Meets (answer code rest c n address [] []) (step_answer c (going_on place (assignment_act c.frames target e)))
  assigns_run (PlainVarRef.simple name) e place n address next has end lands enough short =
      let own = expr_instrs e in
      let instr = PlainInstr.store name in
      let at : ℕ = address + length own in
      let long : length (own ++ (instr ∷ [])) ≡ length own + 1 = length-append own (instr ∷ []) in
      let few = lands.few in
      let (m, fuel) = split (length own + 1) n (omega (arith, few, end, long, enough)) in
      let bytes : length name + length (behind_sign Sign.Equal (canon e)) ≤ 400 = omega (arith, short, length-append name (behind_sign Sign.Equal (canon e))) in
      let sign : length (canon e) ≤ length (behind_sign Sign.Equal (canon e)) = behind_longer (sign_bytes Sign.Equal) (canon e) in
      meets_same (answer code rest c n address [] []) (step_answer c (going_on place (assignment_act c.frames (PlainVarRef.simple name) e)))
      (expr_runs code rest c reach e n (suc m) address at [] [] (omega (arith, fuel)) refl (omega (arith, bytes, sign)) (has_first code.instrs address own (instr ∷ []) has)
      ∙ (after_same (expression_value c.frames e) (λ value. answer code rest c (suc m) at (value ∷ []) []) (λ value. step_answer c (going_on place (stored name None value)))
      (λ value is.
      one_step code rest c (suc m) m at (value ∷ []) [] instr refl ((has_second code.instrs address at own (instr ∷ []) refl has).0)
      ∙ reached_acts name None (λ location. storing c.frames location value (Act.store location)) place (at + 1) next m lands (omega (arith, end, long))
      (omega (arith, few, end, long, fuel, enough)))
      ∙ sym (ap (step_answer c) (going_then place (expression_value c.frames e) (stored name None)) ∙ answer_then c (expression_value c.frames e) (λ value. going_on place (stored name None value)))))
  assigns_run (PlainVarRef.subscripted name index) e place n address next has end lands enough short =
      let first = expr_instrs index in
      let own = expr_instrs e in
      let instr = PlainInstr.store_at name in
      let middle : ℕ = address + length first in
      let at : ℕ = middle + length own in
      let long : length (first ++ (own ++ (instr ∷ []))) ≡ length first + length (own ++ (instr ∷ [])) = length-append first (own ++ (instr ∷ [])) in
      let more : length (own ++ (instr ∷ [])) ≡ length own + 1 = length-append own (instr ∷ []) in
      let few = lands.few in
      let (m, fuel) = split (length first + (length own + 1)) n (omega (arith, few, end, long, more, enough)) in
      let target = PlainVarRef.subscripted name index in
      let bytes : length (canon_reference target) + length (behind_sign Sign.Equal (canon e)) ≤ 400 =
      omega (arith, short, length-append (canon_reference target) (behind_sign Sign.Equal (canon e))) in
      let inside : length (canon index) ≤ length (canon_reference target) = index_shorter name (canon index) in
      let sign : length (canon e) ≤ length (behind_sign Sign.Equal (canon e)) = behind_longer (sign_bytes Sign.Equal) (canon e) in
      let behind = has_second code.instrs address middle first (own ++ (instr ∷ [])) refl has in
      let wanted : Option ℤ → Option PlainStepAnswer =
      λ subscript. step_answer c (going_on place (then_gives (expression_value c.frames e) (stored name subscript))) in
      meets_by (answer code rest c n address [] [])
      (after (expression_value c.frames index) (λ value. answer code rest c (length own + suc m) middle (value ∷ []) []))
      (step_answer c (going_on place (assignment_act c.frames target e)))
      (after (expression_value c.frames index) (λ value. after (on_number (λ z. Outcome.gives (Some z)) value) wanted))
      (expr_runs code rest c reach index n (length own + suc m) address middle [] [] (omega (arith, fuel)) refl (omega (arith, bytes, inside)) (has_first code.instrs address first (own ++ (instr ∷ [])) has))
      (ap (step_answer c) (going_then place (subscript_value c.frames target) (λ subscript. then_gives (expression_value c.frames e) (stored name subscript)))
      ∙ (answer_then c (subscript_value c.frames target) (λ subscript. going_on place (then_gives (expression_value c.frames e) (stored name subscript)))
      ∙ after_then (expression_value c.frames index) (on_number (λ z. Outcome.gives (Some z))) wanted))
      (meets_after (expression_value c.frames index) (λ value. answer code rest c (length own + suc m) middle (value ∷ []) [])
      (λ value. after (on_number (λ z. Outcome.gives (Some z)) value) wanted)
      (λ value is.
      meets_number value (λ z. Outcome.gives (Some z)) (answer code rest c (length own + suc m) middle (value ∷ []) []) wanted
      (λ z number.
      meets_same (answer code rest c (length own + suc m) middle (value ∷ []) []) (wanted (Some z))
      (expr_runs code rest c reach e (length own + suc m) (suc m) middle at (value ∷ []) [] refl refl (omega (arith, bytes, sign)) (has_first code.instrs middle own (instr ∷ []) behind)
      ∙ (after_same (expression_value c.frames e) (λ given. answer code rest c (suc m) at (given ∷ (value ∷ [])) []) (λ given. step_answer c (going_on place (stored name (Some z) given)))
      (λ given it.
      ap (λ (v : Value). answer code rest c (suc m) at (given ∷ (v ∷ [])) []) number
      ∙ (one_step code rest c (suc m) m at (given ∷ (Value.Fixed z ∷ [])) [] instr refl ((has_second code.instrs middle at own (instr ∷ []) refl behind).0)
      ∙ reached_acts name (Some z) (λ location. storing c.frames location given (Act.store location)) place (at + 1) next m lands (omega (arith, end, long, more))
      (omega (arith, few, end, long, more, fuel, enough))))
      ∙ sym (ap (step_answer c) (going_then place (expression_value c.frames e) (stored name (Some z))) ∙ answer_then c (expression_value c.frames e) (λ given. going_on place (stored name (Some z) given))))))))

  -- ---- tests

  tested : (value : Value) (inside other : PlainPlace) (d : ℤ) (m at next target : ℕ) → slice_get code.instrs at ≡ Some (PlainInstr.jump_false d)
      → at + 1 ≡ next → pos target ≡ pos next +ℤ d
      → (within : Lands code.instrs next inside) → (beside : Lands code.instrs target other) → within.jumps < m → beside.jumps < m
      → Meets (answer code rest c (suc m) at (value ∷ []) []) (step_answer c (on_bit (λ b. Outcome.gives (Act.pass, if b then inside else other)) value))
  tested (Value.Fixed z) inside other d m at next target there end goes within beside few less = meets_none (answer code rest c (suc m) at (Value.Fixed z ∷ []) [])
  tested (Value.Text x) inside other d m at next target there end goes within beside few less = meets_none (answer code rest c (suc m) at (Value.Text x ∷ []) [])
  tested (Value.Bit true) inside other d m at next target there end goes within beside few less =
      meets_same (answer code rest c (suc m) at (Value.Bit true ∷ []) []) (Some (PlainStepAnswer.stepped (done Act.pass inside c)))
      (one_step code rest c (suc m) m at (Value.Bit true ∷ []) [] (PlainInstr.jump_false d) refl there
      ∙ (led_on code rest c m (at + 1) next [] [] end ∙ runs_on code rest c inside within.jumps next m [] [] within.by few))
  tested (Value.Bit false) inside other d m at next target there end goes within beside few less =
      meets_same (answer code rest c (suc m) at (Value.Bit false ∷ []) []) (Some (PlainStepAnswer.stepped (done Act.pass other c)))
      (one_step code rest c (suc m) m at (Value.Bit false ∷ []) [] (PlainInstr.jump_false d) refl there
      ∙ (ap (λ (k : ℕ). led code rest c m (then_gives (if_there (jump_target k d)) (λ to. Outcome.gives (Lead.goes_on to [] [])))) end
      ∙ (ap (λ (z : ℤ). led code rest c m (then_gives (if_there (address_at z)) (λ to. Outcome.gives (Lead.goes_on to [] [])))) (sym goes)
      ∙ (led_on code rest c m target target [] [] refl ∙ runs_on code rest c other beside.jumps target m [] [] beside.by less))))

  pub tests_run : (e : PlainExpr) (inside other : PlainPlace) (d : ℤ) (n address next target : ℕ)
      → HasAt code.instrs address (expr_instrs e ++ (PlainInstr.jump_false d ∷ [])) → next ≡ address + (length (expr_instrs e) + 1)
      → pos target ≡ pos next +ℤ d
      → Lands code.instrs next inside → (beside : Lands code.instrs target other) → next + beside.jumps < length code.instrs
      → length code.instrs ≤ address + n → length (canon e) ≤ 400
      → Meets (answer code rest c n address [] []) (step_answer c (test_going c.frames e inside other))
  tests_run e inside other d n address next target has end goes within beside less enough short =
      let own = expr_instrs e in
      let instr = PlainInstr.jump_false d in
      let at : ℕ = address + length own in
      let few = within.few in
      let (m, fuel) = split (length own + 1) n (omega (arith, few, end, enough)) in
      meets_by (answer code rest c n address [] []) (after (expression_value c.frames e) (λ value. answer code rest c (suc m) at (value ∷ []) []))
      (step_answer c (test_going c.frames e inside other))
      (after (expression_value c.frames e) (λ value. step_answer c (on_bit (λ b. Outcome.gives (Act.pass, if b then inside else other)) value)))
      (expr_runs code rest c reach e n (suc m) address at [] [] (omega (arith, fuel)) refl (omega (arith, short)) (has_first code.instrs address own (instr ∷ []) has))
      (answer_then c (expression_value c.frames e) (on_bit (λ b. Outcome.gives (Act.pass, if b then inside else other))))
      (meets_after (expression_value c.frames e) (λ value. answer code rest c (suc m) at (value ∷ []) [])
      (λ value. step_answer c (on_bit (λ b. Outcome.gives (Act.pass, if b then inside else other)) value))
      (λ value is. tested value inside other d m at next target ((has_second code.instrs address at own (instr ∷ []) refl has).0) (omega (arith, end)) goes within beside
      (omega (arith, few, end, fuel, enough)) (omega (arith, less, end, fuel, enough))))

  -- ---- loops

  -- where an act goes on at an address that may be told
  led_acting : (act : Act) (place : PlainPlace) (to : Option ℕ) (target fetches : ℕ) (lands : Lands code.instrs target place) → to ≡ Some target
      → lands.jumps < fetches
      → led code rest c fetches (acting_at (act, to)) ≡ Some (PlainStepAnswer.stepped (done act place c))
  led_acting act place to target fetches lands same few =
      ap (λ (o : Option ℕ). led code rest c fetches (then_gives (if_there o) (λ there. Outcome.gives (Lead.acts act there)))) same
      ∙ led_acts code rest c act place target fetches lands few

  -- one of two acts
  led_either : (over : Bool) (one other : Act) (inside after : PlainPlace) (to beyond : Option ℕ) (next target fetches : ℕ)
      (within : Lands code.instrs next inside) (beside : Lands code.instrs target after) → to ≡ Some next → beyond ≡ Some target
      → within.jumps < fetches → beside.jumps < fetches
      → led code rest c fetches (acting_at (if over then (one, beyond) else (other, to)))
      ≡ step_answer c (Outcome.gives (if over then (one, after) else (other, inside)))
  led_either true one other inside after to beyond next target fetches within beside here there few less =
      led_acting one after beyond target fetches beside there less
  led_either false one other inside after to beyond next target fetches within beside here there few less =
      led_acting other inside to next fetches within here few

  -- an act behind a value that is stored
  led_stored : (location : Location) (kept : Value) (over : Bool) (one other : Value → Act) (inside after : PlainPlace) (to beyond : Option ℕ) (next target fetches : ℕ)
      (within : Lands code.instrs next inside) (beside : Lands code.instrs target after) → to ≡ Some next → beyond ≡ Some target
      → within.jumps < fetches → beside.jumps < fetches
      → led code rest c fetches (then_gives (storing c.frames location kept (λ value. let g : Act × Option ℕ = if over then (one value, beyond) else (other value, to) in g)) acting_at)
      ≡ step_answer c (storing c.frames location kept (λ value. let g : Going = if over then (one value, after) else (other value, inside) in g))
  led_stored location kept over one other inside after to beyond next target fetches within beside here there few less =
      by (kept_at c.frames location kept)
    where
      by : (outcome : Outcome Value)
          → led code rest c fetches (then_gives (then_gives outcome (λ value. Outcome.gives (let g : Act × Option ℕ = if over then (one value, beyond) else (other value, to) in g))) acting_at)
          ≡ step_answer c (then_gives outcome (λ value. Outcome.gives (let g : Going = if over then (one value, after) else (other value, inside) in g)))
      by (Outcome.gives value) = led_either over (one value) (other value) inside after to beyond next target fetches within beside here there few less
      by (Outcome.stops reason) = refl
      by Outcome.undefined = refl

  -- what is there behind a cell
  led_reached : (name : List ℕ) (make : Location → Outcome Lead) (made : Location → Outcome Going) (fetches : ℕ)
      → ((location : Location) → led code rest c fetches (make location) ≡ step_answer c (made location))
      → led code rest c fetches (then_gives (reached c.frames name None) make) ≡ step_answer c (then_gives (located c.frames name None) made)
  led_reached name make made fetches each =
      ap (λ (o : Outcome Location). led code rest c fetches (then_gives o make)) (reach name None) ∙ by (located c.frames name None)
    where
      by : (outcome : Outcome Location) → led code rest c fetches (then_gives outcome make) ≡ step_answer c (then_gives outcome made)
      by (Outcome.gives location) = each location
      by (Outcome.stops reason) = refl
      by Outcome.undefined = refl

  jumped_to : (next target : ℕ) (d : ℤ) → pos target ≡ pos next +ℤ d → jump_target next d ≡ Some target
  jumped_to next target d goes = ap address_at (sym goes)

  pub enters_run : (slot : ℕ) (name : List ℕ) (first limit step : PlainExpr) (inside after : PlainPlace) (d : ℤ) (n address next target : ℕ)
      → HasAt code.instrs address (expr_instrs first ++ (expr_instrs limit ++ (expr_instrs step ++ (PlainInstr.for_enter slot name d ∷ []))))
      → next ≡ address + (length (expr_instrs first) + (length (expr_instrs limit) + (length (expr_instrs step) + 1)))
      → pos target ≡ pos next +ℤ d → next ≤ target → has_loop_room c.frames ≡ true
      → Lands code.instrs next inside → Lands code.instrs target after → length code.instrs ≤ address + n
      → length (canon first) ≤ 400 → length (canon limit) ≤ 400 → length (canon step) ≤ 400
      → Meets (answer code rest c n address [] []) (step_answer c (begin_going c.frames slot name first limit step inside after))
  enters_run slot name first limit step inside after d n address next target has end goes ahead loops within beside enough short shorter shortest =
      let one = expr_instrs first in
      let two = expr_instrs limit in
      let three = expr_instrs step in
      let instr = PlainInstr.for_enter slot name d in
      let second : ℕ = address + length one in
      let third : ℕ = second + length two in
      let at : ℕ = third + length three in
      let few = within.few in
      let less = beside.few in
      let (m, fuel) = split (length one + (length two + (length three + 1))) n (omega (arith, few, end, enough)) in
      let behind = has_second code.instrs address second one (two ++ (three ++ (instr ∷ []))) refl has in
      let later = has_second code.instrs second third two (three ++ (instr ∷ [])) refl behind in
      let there : slice_get code.instrs at ≡ Some instr = (has_second code.instrs third at three (instr ∷ []) refl later).0 in
      let enters : ℤ → ℤ → ℤ → Outcome Going =
      λ a b s. then_gives (located c.frames name None) (λ location. entry_going c.frames (let kept : KeptLoop = record { slot = record { 0 = slot }; limit = b; step = s } in kept) location a inside after) in
      let thirdly : ℤ → ℤ → Value → Outcome Going = λ a b. on_number (λ s. enters a b s) in
      let secondly : ℤ → Value → Outcome Going = λ a. on_number (λ b. then_gives (expression_value c.frames step) (thirdly a b)) in
      let firstly : Value → Outcome Going = on_number (λ a. then_gives (expression_value c.frames limit) (secondly a)) in
      meets_by (answer code rest c n address [] [])
      (after_of (expression_value c.frames first) (λ x. answer code rest c (length two + (length three + suc m)) second (x ∷ []) []))
      (step_answer c (begin_going c.frames slot name first limit step inside after))
      (after_of (expression_value c.frames first) (λ x. step_answer c (firstly x)))
      (expr_runs code rest c reach first n (length two + (length three + suc m)) address second [] [] (omega (arith, fuel)) refl (omega (arith, short))
      (has_first code.instrs address one (two ++ (three ++ (instr ∷ []))) has))
      (answer_then c (expression_value c.frames first) firstly)
      (meets_after (expression_value c.frames first) (λ x. answer code rest c (length two + (length three + suc m)) second (x ∷ []) []) (λ x. step_answer c (firstly x))
      (λ x x_is.
      step_number c x (λ a. then_gives (expression_value c.frames limit) (secondly a)) (answer code rest c (length two + (length three + suc m)) second (x ∷ []) [])
      (λ a x_number.
      meets_by (answer code rest c (length two + (length three + suc m)) second (x ∷ []) [])
      (after_of (expression_value c.frames limit) (λ y. answer code rest c (length three + suc m) third (y ∷ (x ∷ [])) []))
      (step_answer c (then_gives (expression_value c.frames limit) (secondly a)))
      (after_of (expression_value c.frames limit) (λ y. step_answer c (secondly a y)))
      (expr_runs code rest c reach limit (length two + (length three + suc m)) (length three + suc m) second third (x ∷ []) [] refl refl (omega (arith, shorter))
      (has_first code.instrs second two (three ++ (instr ∷ [])) behind))
      (answer_then c (expression_value c.frames limit) (secondly a))
      (meets_after (expression_value c.frames limit) (λ y. answer code rest c (length three + suc m) third (y ∷ (x ∷ [])) []) (λ y. step_answer c (secondly a y))
      (λ y y_is.
      step_number c y (λ b. then_gives (expression_value c.frames step) (thirdly a b)) (answer code rest c (length three + suc m) third (y ∷ (x ∷ [])) [])
      (λ b y_number.
      meets_by (answer code rest c (length three + suc m) third (y ∷ (x ∷ [])) [])
      (after_of (expression_value c.frames step) (λ z. answer code rest c (suc m) at (z ∷ (y ∷ (x ∷ []))) []))
      (step_answer c (then_gives (expression_value c.frames step) (thirdly a b)))
      (after_of (expression_value c.frames step) (λ z. step_answer c (thirdly a b z)))
      (expr_runs code rest c reach step (length three + suc m) (suc m) third at (y ∷ (x ∷ [])) [] refl refl (omega (arith, shortest))
      (has_first code.instrs third three (instr ∷ []) later))
      (answer_then c (expression_value c.frames step) (thirdly a b))
      (meets_after (expression_value c.frames step) (λ z. answer code rest c (suc m) at (z ∷ (y ∷ (x ∷ []))) []) (λ z. step_answer c (thirdly a b z))
      (λ z z_is.
      step_number c z (λ s. enters a b s) (answer code rest c (suc m) at (z ∷ (y ∷ (x ∷ []))) [])
      (λ s z_number.
      meets_same (answer code rest c (suc m) at (z ∷ (y ∷ (x ∷ []))) []) (step_answer c (enters a b s))
      (ap (λ (v : Value). answer code rest c (suc m) at (v ∷ (y ∷ (x ∷ []))) []) z_number
      ∙ (ap (λ (v : Value). answer code rest c (suc m) at (Value.Fixed s ∷ (v ∷ (x ∷ []))) []) y_number
      ∙ (ap (λ (v : Value). answer code rest c (suc m) at (Value.Fixed s ∷ (Value.Fixed b ∷ (v ∷ []))) []) x_number
      ∙ (one_step code rest c (suc m) m at (Value.Fixed s ∷ (Value.Fixed b ∷ (Value.Fixed a ∷ []))) [] instr refl there
      ∙ led_reached name
      (λ location. then_gives (entry_going c.frames (let kept : KeptLoop = record { slot = record { 0 = slot }; limit = b; step = s } in kept) location a (body_address c.frames (at + 1)) (jump_target (at + 1) d)) acting_at)
      (λ location. entry_going c.frames (let kept : KeptLoop = record { slot = record { 0 = slot }; limit = b; step = s } in kept) location a inside after) m
      (λ location.
      led_stored location (Value.Fixed a) (is_over b s a) (λ value. Act.store location value)
      (λ value. Act.enter location value (let kept : KeptLoop = record { slot = record { 0 = slot }; limit = b; step = s } in kept)) inside after
      (body_address c.frames (at + 1)) (jump_target (at + 1) d) next target m within beside
      (ap (λ (room : Bool). if room then Some (at + 1) else None) loops ∙ ap Some (omega (arith, end)))
      (ap (λ (k : ℕ). jump_target k d) (omega (arith, end)) ∙ jumped_to next target d goes)
      (omega (arith, few, end, fuel, enough)) (omega (arith, less, ahead, end, fuel, enough))))))))))))))))

  pub iterates_run : (slot : ℕ) (name : List ℕ) (inside after : PlainPlace) (d : ℤ) (n address next target : ℕ)
      → slice_get code.instrs address ≡ Some (PlainInstr.for_next slot name d) → next ≡ address + 1 → pos target ≡ pos next +ℤ d
      → (within : Lands code.instrs target inside) → (beside : Lands code.instrs next after) → within.jumps + 1 < n → beside.jumps + 1 < n
      → Meets (answer code rest c n address [] []) (step_answer c (iteration_going c.frames slot name inside after))
  iterates_run slot name inside after d n address next target there end goes within beside few less =
      let (m, fuel) = split 1 n (omega (arith, few)) in
      let finds : NumberedLoop → Outcome Going =
      λ found. then_gives (located c.frames name None) (λ location.
      then_gives (value_at c.frames location) (on_number (λ z.
      then_gives (fixed_value (z +ℤ found.1.step)) (on_number (λ sum.
      loop_going c.frames found.0 found.1 location sum inside after))))) in
      meets_same (answer code rest c n address [] []) (step_answer c (iteration_going c.frames slot name inside after))
      (one_step code rest c n m address [] [] (PlainInstr.for_next slot name d) (omega (arith, fuel)) there
      ∙ led_each code rest c m (if_there (newest_loop slot c.frames))
      (λ found. then_gives (reached c.frames name None) (λ location.
      then_gives (value_at c.frames location) (on_number (λ z.
      then_gives (fixed_value (z +ℤ found.1.step)) (on_number (λ sum.
      then_gives (loop_going c.frames found.0 found.1 location sum (jump_target (address + 1) d) (Some (address + 1))) acting_at)))))) finds
      (λ found.
      led_reached name
      (λ location.
      then_gives (value_at c.frames location) (on_number (λ z.
      then_gives (fixed_value (z +ℤ found.1.step)) (on_number (λ sum.
      then_gives (loop_going c.frames found.0 found.1 location sum (jump_target (address + 1) d) (Some (address + 1))) acting_at)))))
      (λ location.
      then_gives (value_at c.frames location) (on_number (λ z.
      then_gives (fixed_value (z +ℤ found.1.step)) (on_number (λ sum.
      loop_going c.frames found.0 found.1 location sum inside after))))) m
      (λ location.
      led_each code rest c m (value_at c.frames location)
      (on_number (λ z. then_gives (fixed_value (z +ℤ found.1.step)) (on_number (λ sum.
      then_gives (loop_going c.frames found.0 found.1 location sum (jump_target (address + 1) d) (Some (address + 1))) acting_at))))
      (on_number (λ z. then_gives (fixed_value (z +ℤ found.1.step)) (on_number (λ sum.
      loop_going c.frames found.0 found.1 location sum inside after))))
      (λ value.
      led_number code rest c m value
      (λ z. then_gives (fixed_value (z +ℤ found.1.step)) (on_number (λ sum.
      then_gives (loop_going c.frames found.0 found.1 location sum (jump_target (address + 1) d) (Some (address + 1))) acting_at)))
      (λ z. then_gives (fixed_value (z +ℤ found.1.step)) (on_number (λ sum.
      loop_going c.frames found.0 found.1 location sum inside after)))
      (λ z.
      led_each code rest c m (fixed_value (z +ℤ found.1.step))
      (on_number (λ sum. then_gives (loop_going c.frames found.0 found.1 location sum (jump_target (address + 1) d) (Some (address + 1))) acting_at))
      (on_number (λ sum. loop_going c.frames found.0 found.1 location sum inside after))
      (λ total.
      led_number code rest c m total
      (λ sum. then_gives (loop_going c.frames found.0 found.1 location sum (jump_target (address + 1) d) (Some (address + 1))) acting_at)
      (λ sum. loop_going c.frames found.0 found.1 location sum inside after)
      (λ sum.
      led_stored location (Value.Fixed sum) (is_over found.1.limit found.1.step sum) (λ kept. Act.finish location kept found.0) (λ kept. Act.store location kept) inside after
      (jump_target (address + 1) d) (Some (address + 1)) target next m within beside
      (ap (λ (k : ℕ). jump_target k d) (omega (arith, end)) ∙ jumped_to next target d goes) (ap Some (omega (arith, end)))
      (omega (arith, few, fuel)) (omega (arith, less, fuel)))))))))

  -- ---- input and output

  pub reads_run : (target : PlainVarRef) (place : PlainPlace) (n address next : ℕ)
      → HasAt code.instrs address (index_instrs target ++ (variable_instr PlainInstr.get PlainInstr.get_at target ∷ []))
      → next ≡ address + (length (index_instrs target) + 1) → Lands code.instrs next place → length code.instrs ≤ address + n
      → length (canon_reference target) ≤ 400
      → Meets (answer code rest c n address [] []) (step_answer c (going_on place (read_act c.frames rest target)))
  reads_run (PlainVarRef.simple name) place n address next has end lands enough short =
      let few = lands.few in
      let (m, fuel) = split 1 n (omega (arith, few, end, enough)) in
      meets_same (answer code rest c n address [] []) (step_answer c (going_on place (read_act c.frames rest (PlainVarRef.simple name))))
      (one_step code rest c n m address [] [] (PlainInstr.get name) (omega (arith, fuel)) has.0
      ∙ reached_acts name None (item_act c.frames rest) place (address + 1) next m lands (omega (arith, end)) (omega (arith, few, end, fuel, enough)))
  reads_run (PlainVarRef.subscripted name index) place n address next has end lands enough short =
      let own = expr_instrs index in
      let instr = PlainInstr.get_at name in
      let at : ℕ = address + length own in
      let few = lands.few in
      let (m, fuel) = split (length own + 1) n (omega (arith, few, end, enough)) in
      let inside : length (canon index) ≤ length (canon_reference (PlainVarRef.subscripted name index)) = index_shorter name (canon index) in
      let wanted : Option ℤ → Option PlainStepAnswer = λ subscript. step_answer c (going_on place (then_gives (located c.frames name subscript) (item_act c.frames rest))) in
      let target = PlainVarRef.subscripted name index in
      meets_by (answer code rest c n address [] []) (after_of (expression_value c.frames index) (λ value. answer code rest c (suc m) at (value ∷ []) []))
      (step_answer c (going_on place (read_act c.frames rest target)))
      (after_of (expression_value c.frames index) (λ value. after (on_number (λ z. Outcome.gives (Some z)) value) wanted))
      (expr_runs code rest c reach index n (suc m) address at [] [] (omega (arith, fuel)) refl (omega (arith, short, inside)) (has_first code.instrs address own (instr ∷ []) has))
      (ap (λ (o : Outcome Act). step_answer c (going_on place o)) (then_assoc (subscript_value c.frames target) (located c.frames name) (item_act c.frames rest))
      ∙ (ap (step_answer c) (going_then place (subscript_value c.frames target) (λ subscript. then_gives (located c.frames name subscript) (item_act c.frames rest)))
      ∙ (answer_then c (subscript_value c.frames target) (λ subscript. going_on place (then_gives (located c.frames name subscript) (item_act c.frames rest)))
      ∙ after_then (expression_value c.frames index) (on_number (λ z. Outcome.gives (Some z))) wanted)))
      (meets_after (expression_value c.frames index) (λ value. answer code rest c (suc m) at (value ∷ []) [])
      (λ value. after (on_number (λ z. Outcome.gives (Some z)) value) wanted)
      (λ value is.
      meets_number value (λ z. Outcome.gives (Some z)) (answer code rest c (suc m) at (value ∷ []) []) wanted
      (λ z number.
      meets_same (answer code rest c (suc m) at (value ∷ []) []) (wanted (Some z))
      (ap (λ (v : Value). answer code rest c (suc m) at (v ∷ []) []) number
      ∙ (one_step code rest c (suc m) m at (Value.Fixed z ∷ []) [] instr refl ((has_second code.instrs address at own (instr ∷ []) refl has).0)
      ∙ reached_acts name (Some z) (item_act c.frames rest) place (at + 1) next m lands (omega (arith, end)) (omega (arith, few, end, fuel, enough)))))))

  -- the instruction that writes so many values
  abbrev pub put_of : Bool → ℕ → PlainInstr
  put_of false n = PlainInstr.put n
  put_of true n = PlainInstr.put_skip n

  led_put : (skip : Bool) (es : PlainExprs) (values : List Value) (place : PlainPlace) (m at next : ℕ) (lands : Lands code.instrs next place)
      → length values ≡ expr_count es → slice_get code.instrs at ≡ Some (put_of skip (expr_count es)) → at + 1 ≡ next → lands.jumps < m
      → answer code rest c (suc m) at (reverse values ++ []) [] ≡ step_answer c (going_on place (output_act (output_with skip c.output values)))
  led_put false es values place m at next lands same there end few =
      one_step code rest c (suc m) m at (reverse values ++ []) [] (PlainInstr.put (expr_count es)) refl there
      ∙ (ap (led code rest c m) (led_some code rest c (λ given others. then_acts (at + 1) (output_act (output_with false c.output given))) values [] (expr_count es) same)
      ∙ led_then_acts code rest c (output_act (output_with false c.output values)) place (at + 1) next m lands end few)
  led_put true es values place m at next lands same there end few =
      one_step code rest c (suc m) m at (reverse values ++ []) [] (PlainInstr.put_skip (expr_count es)) refl there
      ∙ (ap (led code rest c m) (led_some code rest c (λ given others. then_acts (at + 1) (output_act (output_with true c.output given))) values [] (expr_count es) same)
      ∙ led_then_acts code rest c (output_act (output_with true c.output values)) place (at + 1) next m lands end few)

  pub writes_run : (skip : Bool) (es : PlainExprs) (place : PlainPlace) (n address next : ℕ)
      → HasAt code.instrs address (exprs_instrs es ++ (put_of skip (expr_count es) ∷ []))
      → next ≡ address + (length (exprs_instrs es) + 1) → Lands code.instrs next place → length code.instrs ≤ address + n
      → length (canon_list es) ≤ 400
      → Meets (answer code rest c n address [] []) (step_answer c (going_on place (write_act c.frames c.output skip es)))
  writes_run skip es place n address next has end lands enough short =
      let own = exprs_instrs es in
      let instr = put_of skip (expr_count es) in
      let at : ℕ = address + length own in
      let few = lands.few in
      let (m, fuel) = split (length own + 1) n (omega (arith, few, end, enough)) in
      meets_same (answer code rest c n address [] []) (step_answer c (going_on place (write_act c.frames c.output skip es)))
      (exprs_run code rest c reach es n (suc m) address at [] [] (omega (arith, fuel)) refl (omega (arith, short)) (has_first code.instrs address own (instr ∷ []) has)
      ∙ (after_same (expression_values c.frames es) (λ found. answer code rest c (suc m) at (reverse found ++ []) [])
      (λ found. step_answer c (going_on place (output_act (output_with skip c.output found))))
      (λ found is.
      led_put skip es found place m at next lands (values_count c.frames es found is) ((has_second code.instrs address at own (instr ∷ []) refl has).0) (omega (arith, end)) (omega (arith, few, end, fuel, enough)))
      ∙ sym (ap (step_answer c) (going_then place (expression_values c.frames es) (λ found. output_act (output_with skip c.output found)))
      ∙ answer_then c (expression_values c.frames es) (λ found. going_on place (output_act (output_with skip c.output found))))))
