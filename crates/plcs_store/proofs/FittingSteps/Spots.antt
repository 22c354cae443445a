-- What stands at a place of a node goes: it does an act that is allowed, or stops, where no mark stops it first.
use Rattle.std.specs.Prelude.{◌≡◌, refl, ℕ, zero, suc, ◌<◌, ◌≤◌, ◌==◌, nat_lt, Bool, true, false, not, ◌&&◌, ◌||◌, if◌then◌else◌, List, [], ◌∷◌, drop, length, slice_get, Option, Some, None, is_none, option_and_then, option_map, Result, Ok}
use Rattle.std.specs.List.{list_any}
use Rattle.std.specs.Option.{option_or}
use Rattle.std.proofs.Common.{ap, sym, ◌∙◌, subst, arith}
use Rattle.std.proofs.Math.Bool.{false≢true}
use Rattle.std.proofs.lemmas.Bool.{eqb-true, ltb-true, ne_eqb}
use Rattle.std.proofs.lemmas.Option.{none-some}
use Rattle.plcs_base.specs.declared.declared.Declared.{Declared}
use Rattle.plcs_base.specs.declared.mark.MarkKind.{MarkKind}
use Rattle.plcs_base.specs.declared.value.Kind.{Kind}
use Rattle.plcs_grammar.specs.declared.category.Category.{Category}
use Rattle.plcs_grammar.specs.declared.node_kind.NodeKind.{NodeKind}
use Rattle.plcs_grammar.specs.declared.template.Template.{Template}
use Rattle.plcs_grammar.specs.PlainPhrase.{PlainPhrase, PlainVarRef}
use Rattle.plcs_grammar.specs.Template.{row_of}
use Rattle.template_tree.specs.Checks.Environment.{Sig, items_inside}
use Rattle.template_tree.specs.Checks.Marks.{surroundings}
use Rattle.template_tree.specs.Programs.Part.{part_at}
use Rattle.template_tree.specs.Positions.Place.{PlainPlace, Site, begin, has_point, has_start, item_count, passes_in, place_at, place_exists_at}
use Rattle.template_tree.specs.Programs.PlainTree.{Forest, PlainNode}
use Rattle.template_tree.specs.Programs.Program.{AreParts, IsPartPhrase, parts_of, sort_of}
use Rattle.template_tree.specs.Programs.Slots.{times}
use Rattle.template_tree.specs.Checks.Verdict.{Surroundings, both_found, kind_of, kinds_of, name_kind, of_kind, offence_in, reference_kind, references_offence, then_found, verdict}
use Rattle.plcs_store.specs.declared.reason.Reason.{Reason}
use Rattle.plcs_store.specs.Configuration.{PlainConfiguration}
use Rattle.plcs_store.specs.Fits.{is_waiting_place}
use Rattle.plcs_store.specs.Spot.{Callee, Spot, assignment_spot, behind_first, behind_item, call_spot, callee_named, callee_with, condition_in, expression_in, expressions_in, for_spot, get_spot, iteration_spot, lacks_part, needing, point_spot, put_spot, said, site_spot, spot_at, start_spot, template_point, template_start, test_spot, variable_in, variables_in}
use Rattle.plcs_store.specs.Step.{assignment_act, begin_going, call_going, going_on, iteration_going, leave_answer, read_act, spot_answer, test_going, write_act}
use Rattle.plcs_store.proofs.FittingSteps.Acts.{IsAnswerOf, KeepsLoop, answer_so, assigns_so, begins_so, calls_so, going_so, iterates_so, reads_so, tests_so, writes_so}
use Rattle.plcs_store.proofs.FittingSteps.Callees.{Takes, callable, callee_there, procedure_of_signature}
use Rattle.plcs_store.proofs.FittingSteps.Found.{and_both, found_both, found_then, neither, no_offence, no_offences, wanted}
use Rattle.plcs_store.proofs.FittingSteps.Locations.{HasItems}
use Rattle.plcs_store.proofs.FittingSteps.Outcomes.{Has, has_found}
use Rattle.plcs_store.proofs.FittingSteps.Phrases.{assignment_is, call_is, category_is, condition_is, expression_is, expressions_is, filled, part_is, some_variables, variable_is, variables_is}

-- ---- kinds that a phrase without an offence has

kind_wanted : (part : Result Kind MarkKind) (kind : Kind) → offence_in (then_found part (of_kind kind)) ≡ None → part ≡ Ok kind
kind_wanted part kind e =
    let (k, is) = no_offence (then_found part (of_kind kind)) e in
    let (own, found, of) = found_then part (of_kind kind) k is in
    found ∙ ap (λ (one : Kind). let r : Result Kind MarkKind = Ok one in r) (wanted kind own k of).0

kinds_match : (one other : Result Kind MarkKind) → offence_in (both_found one other of_kind) ≡ None
    → (kind : Kind) × (one ≡ Ok kind) × (other ≡ Ok kind)
kinds_match one other e =
    let (k, is) = no_offence (both_found one other of_kind) e in
    let (left, right, left_is, right_is, of) = found_both one other of_kind k is in
    (left, left_is, right_is ∙ ap (λ (x : Kind). let r : Result Kind MarkKind = Ok x in r) (wanted left right k of).0)

abbrev reference_or : PlainVarRef → Option PlainVarRef → PlainVarRef
reference_or other None = other
reference_or other (Some there) = there

references_fine : (items : List Declared) (targets : List PlainVarRef) (k : ℕ) (target : PlainVarRef) → references_offence items targets ≡ None
    → slice_get targets k ≡ Some target → (kind : Kind) × (reference_kind items target ≡ Ok kind)
references_fine items [] k target e there = absurd (none-some target there)
references_fine items (first ∷ rest) zero target e there =
    let own = no_offence (reference_kind items first) (no_offences (offence_in (reference_kind items first)) (references_offence items rest) e).0 in
    (own.0, ap (λ (o : Option PlainVarRef). reference_kind items (reference_or first o)) (sym there) ∙ own.1)
references_fine items (first ∷ rest) (suc k) target e there =
    references_fine items rest k target (no_offences (offence_in (reference_kind items first)) (references_offence items rest) e).1 there

item_there : (targets : List PlainVarRef) (k : ℕ) → k < length targets → (target : PlainVarRef) × (slice_get targets k ≡ Some target)
item_there [] k few = absurd (omega (arith, few))
item_there (target ∷ targets) zero few = (target, refl)
item_there (target ∷ targets) (suc k) few = item_there targets k (omega (arith, few))

no_item : (n : ℕ) → nat_lt n 0 ≡ true → ⊥
no_item n e = let less = ltb-true n 0 e in omega (arith, less)

tested_so : {A : Type 0} (Is : A → Type 0) (test : Bool) (one : Option A) → test ≡ true → Has Is one → Has Is (if test then one else None)
tested_so Is true one e is = is
tested_so Is false one e is = absurd (false≢true e)

untested_so : {A : Type 0} (Is : A → Type 0) (test : Bool) (one : Option A) → test ≡ false → Has Is one → Has Is (if test then None else one)
untested_so Is true one e is = absurd (false≢true (sym e))
untested_so Is false one e is = is

not_so : (test : Bool) → not test ≡ true → test ≡ false
not_so true e = absurd (false≢true e)
not_so false e = refl

later_point : (starts later : Bool) → ((starts && false) || later) ≡ true → later ≡ true
later_point true later e = e
later_point false later e = e

module _ (program : Forest) (input : List ℕ) (c : PlainConfiguration) (node : PlainNode) (found : Site)
    (has : HasItems c.frames (items_inside node.inner)) (marked : ℕ → Bool)
    (checked : (part : ℕ) (phrase : PlainPhrase) → part_at found.label.parts part ≡ Some phrase → marked part ≡ false
    → verdict (surroundings program node found.label.slot) phrase ≡ None)
    (once : (slot : ℕ) → times slot program ≤ 1)
    (leaves : Has (IsAnswerOf c) (leave_answer (spot_at program) c)) where
  abbrev items : List Declared
  items = items_inside node.inner

  abbrev parts : List (Option PlainPhrase)
  parts = found.label.parts

  abbrev around : Surroundings
  around = surroundings program node found.label.slot

  abbrev callees : List ℕ → Option Callee
  callees = callee_named program

  -- what stands at a place goes
  abbrev pub Goes : Spot → Type 0
  Goes spot = Has (IsAnswerOf c) (spot_answer (spot_at program) input c spot)

  -- ---- the parts that are needed

  needing_level : (lacks any : Bool) (spot : Option Spot) → (lacks ≡ false → any ≡ false → Has Goes spot)
      → Has Goes (option_or (option_map Spot.halts (if lacks then Some Reason.Placeholder else (if any then Some Reason.Marked else None))) spot)
  needing_level true any spot more = tt
  needing_level false true spot more = tt
  needing_level false false spot more = more refl refl

  -- a phrase of a part that is filled and not marked
  record Fine (part : ℕ) (category : Category) : Type 0 where
    phrase : PlainPhrase
    there : part_at parts part ≡ Some phrase
    may_stand : IsPartPhrase category phrase
    fine : verdict around phrase ≡ None

  fine_part : (kind : NodeKind) (part : ℕ) (category : Category) → AreParts (parts_of (row_of kind).line) parts
      → slice_get (parts_of (row_of kind).line) part ≡ Some category → is_none (part_at parts part) ≡ false → marked part ≡ false → Fine part category
  fine_part kind part category are named some plain =
      let (phrase, there) = filled (part_at parts part) some in
      record {
        phrase = phrase;
        there = there;
        may_stand = part_is (parts_of (row_of kind).line) parts part category phrase are named there;
        fine = checked part phrase there plain;
      }

  -- where the first part is needed
  first_needed : (kind : NodeKind) (category : Category) (spot : Option Spot) → AreParts (parts_of (row_of kind).line) parts
      → slice_get (parts_of (row_of kind).line) 0 ≡ Some category → (Fine 0 category → Has Goes spot) → Has Goes (needing marked parts (0 ∷ []) spot)
  first_needed kind category spot are named more =
      needing_level (lacks_part parts (0 ∷ [])) (list_any marked (0 ∷ [])) spot
      (λ some plain.
      more
      (fine_part kind 0 category are named (neither (is_none (part_at parts 0)) false some).0 (neither (marked 0) false plain).0))

  -- ---- the statements

  tests_go : (kind : NodeKind) (inside other : PlainPlace) → AreParts (parts_of (row_of kind).line) parts
      → slice_get (parts_of (row_of kind).line) 0 ≡ Some Category.Condition → Has Goes (needing marked parts (0 ∷ []) (test_spot parts inside other))
  tests_go kind inside other are named =
      first_needed kind Category.Condition (test_spot parts inside other) are named
      (λ own.
      let (e, is) = condition_is own.phrase (category_is Category.Condition own.phrase own.may_stand) in
      has_found Goes (test_spot parts inside other) (Spot.tests e inside other)
      (ap (λ (part : Option PlainPhrase). option_map (λ x. Spot.tests x inside other) (option_and_then condition_in part)) (own.there ∙ ap Some is))
      (answer_so c (test_going c.frames e inside other)
      (tests_so c items has e inside other (kind_wanted (kind_of items e) Kind.Bit (ap (verdict around) (sym is) ∙ own.fine)))))

  assigns_go : (kind : NodeKind) → AreParts (parts_of (row_of kind).line) parts
      → slice_get (parts_of (row_of kind).line) 0 ≡ Some Category.Assignment
      → Has Goes (needing marked parts (0 ∷ []) (option_and_then (assignment_spot found.after) (part_at parts 0)))
  assigns_go kind are named =
      first_needed kind Category.Assignment (option_and_then (assignment_spot found.after) (part_at parts 0)) are named
      (λ own.
      let (target, value, is) = assignment_is own.phrase (category_is Category.Assignment own.phrase own.may_stand) in
      let (k, target_is, value_is) = kinds_match (reference_kind items target) (kind_of items value) (ap (verdict around) (sym is) ∙ own.fine) in
      has_found Goes (option_and_then (assignment_spot found.after) (part_at parts 0)) (Spot.assigns target value found.after)
      (ap (option_and_then (assignment_spot found.after)) (own.there ∙ ap Some is))
      (answer_so c (going_on found.after (assignment_act c.frames target value))
      (going_so c found.after (assignment_act c.frames target value) (assigns_so c items has target value k target_is value_is))))

  puts_go : (kind : NodeKind) (skip : Bool) → AreParts (parts_of (row_of kind).line) parts
      → slice_get (parts_of (row_of kind).line) 0 ≡ Some Category.ExpressionList
      → Has Goes (needing marked parts (0 ∷ []) (put_spot skip parts found.after))
  puts_go kind skip are named =
      first_needed kind Category.ExpressionList (put_spot skip parts found.after) are named
      (λ own.
      let (es, is) = expressions_is own.phrase (category_is Category.ExpressionList own.phrase own.may_stand) in
      let (ks, found_kinds) = no_offence (kinds_of items es) (ap (verdict around) (sym is) ∙ own.fine) in
      has_found Goes (put_spot skip parts found.after) (Spot.writes skip es found.after)
      (ap (λ (part : Option PlainPhrase). option_map (λ x. Spot.writes skip x found.after) (option_and_then expressions_in part)) (own.there ∙ ap Some is))
      (answer_so c (going_on found.after (write_act c.frames c.output skip es))
      (going_so c found.after (write_act c.frames c.output skip es) (writes_so c items has skip es ks found_kinds))))

  -- an item of a GET
  reads_go : (own : Fine 0 Category.VariableList) (targets : List PlainVarRef) → own.phrase ≡ PlainPhrase.variable_list targets
      → (item : ℕ) → item < length targets → Has Goes (get_spot found item)
  reads_go own targets is item few =
      let (target, there) = item_there targets item few in
      let (k, target_is) = references_fine items targets item target (ap (verdict around) (sym is) ∙ own.fine) there in
      let next : PlainPlace = behind_item found item in
      has_found Goes (get_spot found item) (Spot.reads target next)
      (ap
      (λ (part : Option PlainPhrase).
      option_and_then (λ (all : List PlainVarRef). option_map (λ one. Spot.reads one next) (slice_get all item)) (option_and_then variables_in part))
      (own.there ∙ ap Some is)
      ∙ ap (option_map (λ one. Spot.reads one next)) there)
      (answer_so c (going_on next (read_act c.frames (drop c.taken input) target))
      (going_so c next (read_act c.frames (drop c.taken input) target) (reads_so c items has (drop c.taken input) target k target_is)))

  gets_go : (kind : NodeKind) → AreParts (parts_of (row_of kind).line) parts
      → slice_get (parts_of (row_of kind).line) 0 ≡ Some Category.VariableList → Has Goes (needing marked parts (0 ∷ []) (get_spot found 0))
  gets_go kind are named =
      first_needed kind Category.VariableList (get_spot found 0) are named
      (λ own.
      let (targets, is) = variables_is own.phrase (category_is Category.VariableList own.phrase own.may_stand) in
      reads_go own targets is 0 (some_variables targets (subst (IsPartPhrase Category.VariableList) is own.may_stand)))

  -- the items that a list of variables counts
  counted : (all : List (Option PlainPhrase)) (targets : List PlainVarRef) → part_at all 0 ≡ Some (PlainPhrase.variable_list targets)
      → item_count all ≡ length targets
  counted [] targets e = absurd (none-some (PlainPhrase.variable_list targets) e)
  counted (None ∷ rest) targets e = absurd (none-some (PlainPhrase.variable_list targets) e)
  counted (Some phrase ∷ rest) targets e = ap (λ (part : Option PlainPhrase). item_count (part ∷ rest)) e

  uncounted : (all : List (Option PlainPhrase)) (item : ℕ) → nat_lt item (item_count all) ≡ true → is_none (part_at all 0) ≡ false
  uncounted [] item e = absurd (no_item item e)
  uncounted (None ∷ rest) item e = absurd (no_item item e)
  uncounted (Some phrase ∷ rest) item e = refl

  gets_on : (kind : NodeKind) (item : ℕ) → AreParts (parts_of (row_of kind).line) parts
      → slice_get (parts_of (row_of kind).line) 0 ≡ Some Category.VariableList → marked 0 ≡ false → nat_lt item (item_count parts) ≡ true
      → Has Goes (get_spot found item)
  gets_on kind item are named plain few =
      let own : Fine 0 Category.VariableList = fine_part kind 0 Category.VariableList are named (uncounted parts item few) plain in
      let (targets, is) = variables_is own.phrase (category_is Category.VariableList own.phrase own.may_stand) in
      reads_go own targets is item
      (subst (λ (n : ℕ). item < n) (counted parts targets (own.there ∙ ap Some is)) (ltb-true item (item_count parts) few))

  calls_go : (kind : NodeKind) → AreParts (parts_of (row_of kind).line) parts
      → slice_get (parts_of (row_of kind).line) 0 ≡ Some Category.CallRef
      → Has Goes (needing marked parts (0 ∷ []) (option_and_then (call_spot callees) (part_at parts 0)))
  calls_go kind are named =
      first_needed kind Category.CallRef (option_and_then (call_spot callees) (part_at parts 0)) are named
      (λ own.
      let (name, arguments, is) = call_is own.phrase (category_is Category.CallRef own.phrase own.may_stand) in
      let call = callable (Sig program name) (kinds_of items arguments) (ap (verdict around) (sym is) ∙ own.fine) in
      let its = procedure_of_signature program name call.sig once call.known in
      let callee : Callee = callee_with its.node its.heading in
      has_found Goes (option_and_then (call_spot callees) (part_at parts 0)) (Spot.calls callee arguments)
      (ap (option_and_then (call_spot callees)) (own.there ∙ ap Some is)
      ∙ ap (option_map (λ (one : Callee). Spot.calls one arguments)) (callee_there program name call.sig call.kinds its call.known call.take))
      (answer_so c (call_going c.frames callee arguments)
      (calls_so c items has callee arguments call.kinds (subst (λ s. Takes s.parameters call.kinds) its.is call.take) call.found)))

  -- ---- loops

  for_level : (inside after : PlainPlace) (own : Fine 0 Category.Variable) (first : Fine 1 Category.Expression) (limit : Fine 2 Category.Expression)
      (step : Fine 3 Category.Expression) → Has Goes (for_spot found.label.slot parts inside after)
  for_level inside after own first limit step =
      let (name, is) = variable_is own.phrase (category_is Category.Variable own.phrase own.may_stand) in
      let (e, e_is) = expression_is first.phrase (category_is Category.Expression first.phrase first.may_stand) in
      let (f, f_is) = expression_is limit.phrase (category_is Category.Expression limit.phrase limit.may_stand) in
      let (g, g_is) = expression_is step.phrase (category_is Category.Expression step.phrase step.may_stand) in
      let slot : ℕ = found.label.slot in
      has_found Goes (for_spot slot parts inside after) (Spot.begins slot name e f g inside after)
      (ap
      (λ (part : Option PlainPhrase).
      option_and_then (λ n.
      option_and_then (λ x.
      option_and_then (λ y.
      option_map (λ z. Spot.begins slot n x y z inside after)
      (said expression_in parts 3)) (said expression_in parts 2)) (said expression_in parts 1)) (option_and_then variable_in part))
      (own.there ∙ ap Some is)
      ∙ (ap
      (λ (part : Option PlainPhrase).
      option_and_then (λ x.
      option_and_then (λ y.
      option_map (λ z. Spot.begins slot name x y z inside after)
      (said expression_in parts 3)) (said expression_in parts 2)) (option_and_then expression_in part))
      (first.there ∙ ap Some e_is)
      ∙ (ap
      (λ (part : Option PlainPhrase).
      option_and_then (λ y.
      option_map (λ z. Spot.begins slot name e y z inside after) (said expression_in parts 3)) (option_and_then expression_in part))
      (limit.there ∙ ap Some f_is)
      ∙ ap (λ (part : Option PlainPhrase). option_map (λ z. Spot.begins slot name e f z inside after) (option_and_then expression_in part))
      (step.there ∙ ap Some g_is))))
      (answer_so c (begin_going c.frames slot name e f g inside after)
      (begins_so c items has slot name e f g inside after
      (kind_wanted (name_kind items name) Kind.Fixed (ap (verdict around) (sym is) ∙ own.fine))
      (kind_wanted (kind_of items e) Kind.Fixed (ap (verdict around) (sym e_is) ∙ first.fine))
      (kind_wanted (kind_of items f) Kind.Fixed (ap (verdict around) (sym f_is) ∙ limit.fine))
      (kind_wanted (kind_of items g) Kind.Fixed (ap (verdict around) (sym g_is) ∙ step.fine))))

  for_goes : (inside after : PlainPlace) → AreParts (parts_of (row_of (NodeKind.Filled Template.For)).line) parts
      → Has Goes (needing marked parts (0 ∷ (1 ∷ (2 ∷ (3 ∷ [])))) (for_spot found.label.slot parts inside after))
  for_goes inside after are =
      needing_level (lacks_part parts (0 ∷ (1 ∷ (2 ∷ (3 ∷ []))))) (list_any marked (0 ∷ (1 ∷ (2 ∷ (3 ∷ []))))) (for_spot found.label.slot parts inside after)
      (λ some plain.
      let some0 = neither (is_none (part_at parts 0)) (lacks_part parts (1 ∷ (2 ∷ (3 ∷ [])))) some in
      let some1 = neither (is_none (part_at parts 1)) (lacks_part parts (2 ∷ (3 ∷ []))) some0.1 in
      let some2 = neither (is_none (part_at parts 2)) (lacks_part parts (3 ∷ [])) some1.1 in
      let some3 = neither (is_none (part_at parts 3)) (lacks_part parts []) some2.1 in
      let plain0 = neither (marked 0) (list_any marked (1 ∷ (2 ∷ (3 ∷ [])))) plain in
      let plain1 = neither (marked 1) (list_any marked (2 ∷ (3 ∷ []))) plain0.1 in
      let plain2 = neither (marked 2) (list_any marked (3 ∷ [])) plain1.1 in
      let plain3 = neither (marked 3) (list_any marked []) plain2.1 in
      for_level inside after
      (fine_part (NodeKind.Filled Template.For) 0 Category.Variable are refl some0.0 plain0.0)
      (fine_part (NodeKind.Filled Template.For) 1 Category.Expression are refl some1.0 plain1.0)
      (fine_part (NodeKind.Filled Template.For) 2 Category.Expression are refl some2.0 plain2.0)
      (fine_part (NodeKind.Filled Template.For) 3 Category.Expression are refl some3.0 plain3.0))

  iterates_go : (inside after : PlainPlace) → AreParts (parts_of (row_of (NodeKind.Filled Template.For)).line) parts
      → KeepsLoop c items has found.label.slot → Has Goes (needing marked parts (0 ∷ []) (iteration_spot found.label.slot parts inside after))
  iterates_go inside after are keeps =
      first_needed (NodeKind.Filled Template.For) Category.Variable (iteration_spot found.label.slot parts inside after) are refl
      (λ own.
      let (name, is) = variable_is own.phrase (category_is Category.Variable own.phrase own.may_stand) in
      let slot : ℕ = found.label.slot in
      has_found Goes (iteration_spot slot parts inside after) (Spot.iterates slot name inside after)
      (ap (λ (part : Option PlainPhrase). option_map (λ n. Spot.iterates slot n inside after) (option_and_then variable_in part)) (own.there ∙ ap Some is))
      (answer_so c (iteration_going c.frames slot name inside after)
      (iterates_so c items has slot name inside after
      (kind_wanted (name_kind items name) Kind.Fixed (ap (verdict around) (sym is) ∙ own.fine)) keeps)))

  -- ---- the tables

  template_starts : (template : Template) → AreParts (parts_of (row_of (NodeKind.Filled template)).line) parts
      → has_start (sort_of (NodeKind.Filled template)) ≡ true → passes_in (NodeKind.Filled template) ≡ false
      → Has Goes (template_start marked callees found template)
  template_starts Template.Fixed are start stays = absurd (false≢true start)
  template_starts Template.Bit are start stays = absurd (false≢true start)
  template_starts Template.Char are start stays = absurd (false≢true start)
  template_starts Template.If are start stays =
      tests_go (NodeKind.Filled Template.If) (begin found.inner found.after) found.after are refl
  template_starts Template.IfElse are start stays =
      tests_go (NodeKind.Filled Template.IfElse) (begin found.inner found.after) (begin (behind_first found.inner) found.after) are refl
  template_starts Template.While are start stays =
      tests_go (NodeKind.Filled Template.While) (begin found.inner (place_at found.label.slot 0)) found.after are refl
  template_starts Template.For are start stays = for_goes (begin found.inner (place_at found.label.slot 1)) found.after are
  template_starts Template.Until are start stays = absurd (false≢true (sym stays))
  template_starts Template.Group are start stays = absurd (false≢true (sym stays))
  template_starts Template.Get are start stays = gets_go (NodeKind.Filled Template.Get) are refl
  template_starts Template.Put are start stays = puts_go (NodeKind.Filled Template.Put) false are refl
  template_starts Template.PutSkip are start stays = puts_go (NodeKind.Filled Template.PutSkip) true are refl
  template_starts Template.Call are start stays = calls_go (NodeKind.Filled Template.Call) are refl
  template_starts Template.Return are start stays = leaves
  template_starts Template.Comment are start stays = absurd (false≢true (sym stays))
  template_starts Template.Proc are start stays = absurd (false≢true start)
  template_starts Template.ProcP are start stays = absurd (false≢true start)

  starts : (kind : NodeKind) → AreParts (parts_of (row_of kind).line) parts → has_start (sort_of kind) ≡ true → passes_in kind ≡ false
      → Has Goes (start_spot marked callees found kind)
  starts NodeKind.DeclarationHole are start stays = absurd (false≢true start)
  starts NodeKind.StatementHole are start stays = tt
  starts NodeKind.ProcedureHole are start stays = absurd (false≢true start)
  starts NodeKind.Main are start stays = absurd (false≢true start)
  starts NodeKind.Assign are start stays = assigns_go NodeKind.Assign are refl
  starts (NodeKind.Filled template) are start stays = template_starts template are start stays

  template_points : (template : Template) (point : ℕ) → AreParts (parts_of (row_of (NodeKind.Filled template)).line) parts
      → has_point (marked 0) found.label (NodeKind.Filled template) (suc point) ≡ true → is_waiting_place (NodeKind.Filled template) (suc point) ≡ false
      → (NodeKind.Filled template ≡ NodeKind.Filled Template.For → suc point ≡ 1 → KeepsLoop c items has found.label.slot)
      → Has Goes (template_point marked found (suc point) template)
  template_points Template.Fixed point are exists ready keeps = absurd (false≢true exists)
  template_points Template.Bit point are exists ready keeps = absurd (false≢true exists)
  template_points Template.Char point are exists ready keeps = absurd (false≢true exists)
  template_points Template.If point are exists ready keeps = absurd (false≢true exists)
  template_points Template.IfElse point are exists ready keeps = absurd (false≢true exists)
  template_points Template.While point are exists ready keeps = absurd (false≢true exists)
  template_points Template.For point are exists ready keeps =
      tested_so Goes (suc point == 1)
      (needing marked parts (0 ∷ []) (iteration_spot found.label.slot parts (begin found.inner (place_at found.label.slot 1)) found.after)) exists
      (iterates_go (begin found.inner (place_at found.label.slot 1)) found.after are (keeps refl (eqb-true (suc point) 1 exists)))
  template_points Template.Until point are exists ready keeps =
      tested_so Goes (suc point == 1)
      (needing marked parts (0 ∷ []) (test_spot parts found.after (begin found.inner (place_at found.label.slot 1)))) exists
      (tests_go (NodeKind.Filled Template.Until) found.after (begin found.inner (place_at found.label.slot 1)) are refl)
  template_points Template.Group point are exists ready keeps = absurd (false≢true exists)
  template_points Template.Get point are exists ready keeps =
      let both = and_both (not (marked 0)) (nat_lt (suc point) (item_count parts)) exists in
      untested_so Goes (marked 0) (get_spot found (suc point)) (not_so (marked 0) both.0)
      (gets_on (NodeKind.Filled Template.Get) (suc point) are refl (not_so (marked 0) both.0) both.1)
  template_points Template.Put point are exists ready keeps = absurd (false≢true exists)
  template_points Template.PutSkip point are exists ready keeps = absurd (false≢true exists)
  template_points Template.Call point are exists ready keeps = absurd (false≢true (sym ready ∙ exists))
  template_points Template.Return point are exists ready keeps = absurd (false≢true exists)
  template_points Template.Comment point are exists ready keeps = absurd (false≢true exists)
  template_points Template.Proc point are exists ready keeps = tested_so Goes (suc point == 1) (Some Spot.leaves) exists leaves
  template_points Template.ProcP point are exists ready keeps = tested_so Goes (suc point == 1) (Some Spot.leaves) exists leaves

  points : (kind : NodeKind) (point : ℕ) → AreParts (parts_of (row_of kind).line) parts
      → has_point (marked 0) found.label kind (suc point) ≡ true → is_waiting_place kind (suc point) ≡ false
      → (kind ≡ NodeKind.Filled Template.For → suc point ≡ 1 → KeepsLoop c items has found.label.slot)
      → Has Goes (point_spot marked found (suc point) kind)
  points NodeKind.DeclarationHole point are exists ready keeps = absurd (false≢true exists)
  points NodeKind.StatementHole point are exists ready keeps = absurd (false≢true exists)
  points NodeKind.ProcedureHole point are exists ready keeps = absurd (false≢true exists)
  points NodeKind.Main point are exists ready keeps = tested_so Goes (suc point == 1) (Some Spot.leaves) exists leaves
  points NodeKind.Assign point are exists ready keeps = absurd (false≢true exists)
  points (NodeKind.Filled template) point are exists ready keeps = template_points template point are exists ready keeps

  -- what stands at a point of the site goes
  pub site_goes : (point : ℕ) → AreParts (parts_of (row_of found.label.kind).line) parts → place_exists_at (marked 0) (Some found) point ≡ true
      → (point ≡ 0 → (has_start (sort_of found.label.kind) ≡ true) × (passes_in found.label.kind ≡ false))
      → is_waiting_place found.label.kind point ≡ false
      → (found.label.kind ≡ NodeKind.Filled Template.For → point ≡ 1 → KeepsLoop c items has found.label.slot)
      → Has Goes (site_spot marked callees found point)
  site_goes zero are exists start ready keeps = let is = start refl in starts found.label.kind are is.0 is.1
  site_goes (suc point) are exists start ready keeps =
      points found.label.kind point are
      (later_point (has_start (sort_of found.label.kind)) (has_point (marked 0) found.label found.label.kind (suc point))
      (ap (λ (b : Bool). (has_start (sort_of found.label.kind) && b) || has_point (marked 0) found.label found.label.kind (suc point))
      (sym (ne_eqb (suc point) 0 (λ same. omega (arith, same))))
      ∙ exists))
      ready keeps
