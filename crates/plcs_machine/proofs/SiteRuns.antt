-- What stands at a place of a site is what the code there runs: by the kind of the node, each spot is the one whose
-- code stands behind the address of the place.
use Rattle.std.specs.Prelude.{◌≡◌, refl, ℕ, zero, suc, ◌+◌, ◌≤◌, ◌<◌, nat_lt, ℤ, pos, neg_ℤ, Bool, true, false, ◌||◌, if◌then◌else◌, List, [], ◌∷◌, ◌++◌, drop, length, map, slice_get, take, Option, Some, None, option_and_then, option_map}
use Rattle.std.specs.FinMap.{get}
use Rattle.std.specs.List.{list_any}
use Rattle.std.specs.Option.{option_or, option_to_list}
use Rattle.std.proofs.Common.{ap, sym, ◌∙◌, subst, arith, ◌⊎◌, inl, inr}
use Rattle.std.proofs.lemmas.Bool.{le-ltb, lt-ltb, ltb-false, ltb-true}
use Rattle.std.proofs.lemmas.Int.{ints}
use Rattle.std.proofs.lemmas.List.{length-append}
use Rattle.std.proofs.lemmas.Option.{none-some, same_Some}
use Rattle.plcs_base.specs.Mark.{MarkMap}
use Rattle.plcs_base.specs.Scope.{ItemMap}
use Rattle.plcs_base.specs.declared.declared.Declared.{Declared}
use Rattle.plcs_grammar.specs.declared.category.Category.{Category}
use Rattle.plcs_grammar.specs.declared.node_kind.NodeKind.{NodeKind}
use Rattle.plcs_grammar.specs.declared.node_kind.Sort.{Sort}
use Rattle.plcs_grammar.specs.declared.template.Template.{Template}
use Rattle.plcs_grammar.specs.Canon.{Canon, canon, canon_call, canon_list, canon_reference, comma, joined, more_joined}
use Rattle.plcs_grammar.specs.PlainPhrase.{PlainExpr, PlainExprs, PlainPhrase, PlainVarRef}
use Rattle.plcs_grammar.specs.Template.{PlainSection, row_of}
use Rattle.template_tree.specs.Checks.ProgramMaps.{items_in}
use Rattle.template_tree.specs.Positions.Place.{PlainPlace, Site, begin, begins_run, goes_on_behind, item_count, place_at}
use Rattle.template_tree.specs.Programs.Part.{part_at}
use Rattle.template_tree.specs.Programs.PlainTree.{Forest, Label}
use Rattle.template_tree.specs.Programs.Program.{AreParts, Fill, IsNode, IsPart, parts_of, sort_of, sorts}
use Rattle.plcs_code.specs.CodeLaws.{LengthsAreTold, ends_step}
use Rattle.plcs_code.specs.ExprCode.{arguments_instrs, expr_count, expr_instrs, exprs_instrs, index_instrs, items_instrs, listed_exprs, listed_instrs, variable_instr}
use Rattle.plcs_code.specs.Gen.{Gen, PlainCode, code_around, code_with, codes_around, is_call, length_around, node_codes, node_lengths}
use Rattle.plcs_code.specs.Landing.{Lands, length_before}
use Rattle.plcs_code.specs.Pieces.{count_pieces, first_length, jumps, no_jumps, one_piece, other_lengths, piece_at, pieces, suspension}
use Rattle.plcs_code.specs.PlainInstr.{PlainInstr, place_of}
use Rattle.plcs_store.specs.declared.reason.Reason.{Reason}
use Rattle.plcs_store.specs.CellAt.{located}
use Rattle.plcs_store.specs.Configuration.{PlainConfiguration}
use Rattle.plcs_store.specs.Outcome.{Outcome}
use Rattle.plcs_store.specs.Spot.{Callee, Spot, assignment_spot, behind_first, behind_item, call_spot, for_spot, get_spot, said, variables_in, halt_reason, iteration_spot, needing, put_spot, start_spot, template_start, test_spot}
use Rattle.plcs_store.specs.Step.{PlainStepAnswer, spot_answer}
use Rattle.plcs_machine.specs.Lead.{Lead, has_loop_room, lead}
use Rattle.plcs_machine.specs.Reached.{reached}
use Rattle.plcs_machine.proofs.RunCalls.{EntersAt, calls_run}
use Rattle.plcs_machine.proofs.RunExpressions.{answer}
use Rattle.plcs_machine.proofs.RunSpots.{Meets, assigns_run, enters_run, halts_run, index_shorter, iterates_run, meets_same, put_of, reads_run, tests_run, writes_run}
use Rattle.plcs_machine.proofs.SiteCode.{IsCodeOf, around_of, code_of, inside_length, own_of, with_length}
use Rattle.plcs_machine.proofs.StandingCode.{HasAt, has_first, has_second}
use Rattle.plcs_machine.proofs.TreeBegun.{filled_begins}
use Rattle.plcs_machine.proofs.Suspensions.{Halts, Stops, first_of_four, first_stops, four_stops, four_there, mark_of}

-- ---- code in parts

pub has_both : (instrs : List PlainInstr) (address behind : ℕ) (one other : List PlainInstr) → behind ≡ address + length one
    → HasAt instrs address one → HasAt instrs behind other → HasAt instrs address (one ++ other)
has_both instrs address behind [] other same first second =
    let here : behind ≡ address = omega (arith, same) in subst (λ (n : ℕ). HasAt instrs n other) here second
has_both instrs address behind (instr ∷ one) other same first second =
    (first.0, has_both instrs (address + 1) behind one other (omega (arith, same)) first.1 second)

pub read_within : (instrs : List PlainInstr) (address : ℕ) (instr : PlainInstr) → slice_get instrs address ≡ Some instr → address < length instrs
read_within [] address instr e = absurd (none-some instr e)
read_within (first ∷ instrs) zero instr e = omega arith
read_within (first ∷ instrs) (suc address) instr e = let less = read_within instrs address instr e in omega (arith, less)

-- the step stands there
abbrev pub lands_here : (instrs : List PlainInstr) (address : ℕ) (place : PlainPlace) → slice_get instrs address ≡ Some (PlainInstr.place place) → Lands instrs address place
lands_here instrs address place e =
    record { jumps = 0; few = let less = read_within instrs address (PlainInstr.place place) e in omega (arith, less); by = e }

-- ---- parts

-- one part
pub one_part : (category : Category) (parts : List (Option PlainPhrase)) → AreParts (category ∷ []) parts
    → (part : Option PlainPhrase) × (parts ≡ part ∷ []) × IsPart category part
one_part category [] are = absurd are
one_part category (part ∷ []) are = (part, refl, are.0)
one_part category (part ∷ (other ∷ parts)) are = absurd are.1

-- four parts
four_parts : (parts : List (Option PlainPhrase)) → AreParts (Category.Variable ∷ (Category.Expression ∷ (Category.Expression ∷ (Category.Expression ∷ [])))) parts
    → (a b d e : Option PlainPhrase) × (parts ≡ a ∷ (b ∷ (d ∷ (e ∷ []))))
    × IsPart Category.Variable a × IsPart Category.Expression b × IsPart Category.Expression d × IsPart Category.Expression e
four_parts [] are = absurd are
four_parts (a ∷ []) are = absurd are.1
four_parts (a ∷ (b ∷ [])) are = absurd are.1.1
four_parts (a ∷ (b ∷ (d ∷ []))) are = absurd are.1.1.1
four_parts (a ∷ (b ∷ (d ∷ (e ∷ [])))) are = (a, b, d, e, refl, are.0, are.1.0, are.1.1.0, are.1.1.1.0)
four_parts (a ∷ (b ∷ (d ∷ (e ∷ (other ∷ parts))))) are = absurd are.1.1.1.1

-- nothing inside
none_inside : (inner : Forest) → sorts inner ≡ [] → inner ≡ Forest.nil
none_inside Forest.nil e = refl
none_inside (Forest.cons label inner rest) e = let no : length (sorts (Forest.cons label inner rest)) ≡ 0 = ap length e in absurd (omega (arith, no))

-- a number is less than another where its next is less than that's next
lt_later : (a b c : ℕ) → c ≡ suc a → nat_lt a b ≡ nat_lt c (suc b)
lt_later a b c same = by (nat_lt a b) refl
  where
    by : (less : Bool) → nat_lt a b ≡ less → nat_lt a b ≡ nat_lt c (suc b)
    by true e = let few = ltb-true a b e in e ∙ sym (lt-ltb c (suc b) (omega (arith, few, same)))
    by false e = let few = ltb-false a b e in e ∙ sym (le-ltb c (suc b) (omega (arith, few, same)))

-- a variable of a list is no longer than the list
targets_short : (targets : List PlainVarRef) (n : ℕ) (one : PlainVarRef) → slice_get targets n ≡ Some one → length (joined canon_reference targets) ≤ 400
    → length (canon_reference one) ≤ 400
targets_short [] n one e short = absurd (none-some one e)
targets_short (own ∷ targets) zero one e short =
    let same = ap (λ (r : PlainVarRef). length (canon_reference r)) (same_Some own one e) in
    omega (arith, same, short, length-append (canon_reference own) (more_joined canon_reference targets))
targets_short (own ∷ targets) (suc n) one e short =
    more_short targets n one e (omega (arith, short, length-append (canon_reference own) (more_joined canon_reference targets)))
  where
    more_short : (targets : List PlainVarRef) (n : ℕ) (one : PlainVarRef) → slice_get targets n ≡ Some one → length (more_joined canon_reference targets) ≤ 400
        → length (canon_reference one) ≤ 400
    more_short [] n one e short = absurd (none-some one e)
    more_short (own ∷ targets) zero one e short =
        let same = ap (λ (r : PlainVarRef). length (canon_reference r)) (same_Some own one e) in
        omega (arith, same, short, length-append comma (canon_reference own ++ more_joined canon_reference targets), length-append (canon_reference own) (more_joined canon_reference targets))
    more_short (own ∷ targets) (suc n) one e short =
        more_short targets n one e
        (omega (arith, short, length-append comma (canon_reference own ++ more_joined canon_reference targets), length-append (canon_reference own) (more_joined canon_reference targets)))

call_short : (name : List ℕ) (es : PlainExprs) → length (canon_call name es) ≤ 400 → length (canon_list es) ≤ 400
call_short name PlainExprs.nil short = omega arith
call_short name (PlainExprs.cons a es) short =
    let inside = index_shorter name (canon_list (PlainExprs.cons a es)) in omega (arith, short, inside)

one_begins : (items : List Sort) → Fill (row_of (NodeKind.Filled Template.If)).sections items → list_any begins_run items ≡ true
one_begins items (own, others, same, are, none) =
    ap (list_any begins_run) same ∙ ap (λ (l : List Sort). list_any begins_run (l ++ others)) are

two_sorts : (items : List Sort) → Fill (row_of (NodeKind.Filled Template.IfElse)).sections items → items ≡ Sort.Statement ∷ (Sort.Statement ∷ [])
two_sorts items (own, others, same, are, (next, more, split, is, none)) =
    same ∙ ap (λ (l : List Sort). l ++ others) are
    ∙ ap (λ (l : List Sort). Sort.Statement ∷ l) (split ∙ ap (λ (l : List Sort). l ++ more) is ∙ ap (λ (l : List Sort). Sort.Statement ∷ l) none)

first_inside : (nodes : Forest) (sort : Sort) (beside : List Sort) → sorts nodes ≡ sort ∷ beside
    → (first : Label) × (within : Forest) × (others : Forest) × (nodes ≡ Forest.cons first within others)
first_inside Forest.nil sort beside e = let no : 0 ≡ suc (length beside) = ap length e in absurd (omega (arith, no))
first_inside (Forest.cons first within others) sort beside e = (first, within, others, refl)

module _ (told : LengthsAreTold) (marks : MarkMap) (items : ItemMap) (program : Forest) (found : Site) (its : IsCodeOf marks items program found)
    (node : IsNode found.label (sorts found.inner)) (callees : List ℕ → Option Callee) (spots : PlainPlace → Option Spot) (input : List ℕ) (c : PlainConfiguration)
    (reach : (name : List ℕ) (subscript : Option ℤ) → reached c.frames name subscript ≡ located c.frames name subscript) where
  abbrev label : Label
  label = found.label

  abbrev slot : ℕ
  slot = found.label.slot

  abbrev inner : Forest
  inner = found.inner

  abbrev code : PlainCode
  code = Gen marks items program

  abbrev instrs : List PlainInstr
  instrs = code.instrs

  abbrev rest : List ℕ
  rest = drop c.taken input

  abbrev codes : List (List PlainInstr)
  codes = node_codes marks items inner

  abbrev declared : List Declared
  declared = items_in items slot

  abbrev start : ℕ
  start = its.start

  -- what stands at the place is what the code there runs
  abbrev pub RunsAt : PlainPlace → Spot → Type 0
  RunsAt place spot =
      (address : ℕ) × (get code.addresses (place_of place) ≡ Some address)
      × Meets (answer code rest c (length instrs) (address + 1) [] []) (spot_answer spots input c spot)

  -- ---- the code, by kind, parts and stops

  abbrev Whole : NodeKind → List (Option PlainPhrase) → (all one : Option PlainInstr) → List PlainInstr
  Whole kind parts all one = code_of slot declared codes kind parts all one

  -- the code stands, and a run goes on behind it
  record StandsAs (kind : NodeKind) (parts : List (Option PlainPhrase)) (all one : Option PlainInstr) : Type 0 where
    has : HasAt instrs start (Whole kind parts all one)
    ends : goes_on_behind (sort_of kind) ≡ true → Lands instrs (start + length (Whole kind parts all one)) found.after
    begins :
        (behind : PlainPlace) → list_any begins_run (sorts inner) ≡ true
        → slice_get instrs (start + (length (own_of slot declared codes kind parts all one).before + length (option_to_list (around_of slot declared codes kind parts all one).ahead)))
        ≡ Some (PlainInstr.place (begin inner behind))
    before :
        length_before marks items label inner
        ≡ length (own_of slot declared codes kind parts all one).before + length (option_to_list (around_of slot declared codes kind parts all one).ahead)

  -- as it is
  stands_itself : StandsAs label.kind label.parts (suspension marks slot label.parts) (suspension marks slot (take 1 label.parts))
  stands_itself =
      record {
        has = its.stands;
        ends = its.ends;
        begins =
            λ behind some.
            ap (λ (lengths : List ℕ). slice_get instrs (start + (length (pieces marks items label).before + length (option_to_list (jumps marks items label lengths).ahead)))) (told marks items inner)
            ∙ its.begins behind some;
        before =
            ap (λ (lengths : List ℕ). length (pieces marks items label).before + length (option_to_list (jumps marks items label lengths).ahead))
            (sym (told marks items inner));
      }

  stands_as : (kind : NodeKind) (parts : List (Option PlainPhrase)) (all one : Option PlainInstr) → label.kind ≡ kind → label.parts ≡ parts
      → suspension marks slot parts ≡ all → suspension marks slot (take 1 parts) ≡ one → StandsAs kind parts all one
  stands_as kind parts all one a b d e =
      subst (λ (o : Option PlainInstr). StandsAs kind parts all o) e
      (subst (λ (o : Option PlainInstr). StandsAs kind parts o (suspension marks slot (take 1 parts))) d
      (subst (λ (l : List (Option PlainPhrase)). StandsAs kind l (suspension marks slot l) (suspension marks slot (take 1 l))) b
      (subst (λ (k : NodeKind). StandsAs k label.parts (suspension marks slot label.parts) (suspension marks slot (take 1 label.parts))) a stands_itself)))

  -- ---- what stops

  halting : (instr : PlainInstr) (why : Reason) (address point : ℕ) → Halts instr why → ends_step label.kind point ≡ true
      → slice_get instrs address ≡ Some (PlainInstr.place (place_at slot point)) → slice_get instrs (address + 1) ≡ Some instr
      → RunsAt (place_at slot point) (Spot.halts why)
  halting instr why address point halts ends place stop = (
    address,
    its.addressed point address ends place,
    meets_same (answer code rest c (length instrs) (address + 1) [] []) (Some (PlainStepAnswer.stopped why))
        (halts_run code rest c reach why (length instrs) (address + 1) instr
        (let less = read_within instrs (address + 1) instr stop in omega (arith, less)) stop (by instr why halts)),
  )
    where
      by : (instr : PlainInstr) (why : Reason) → Halts instr why → lead code c.frames rest c.output (address + 1 + 1) [] [] instr ≡ Outcome.stops why
      by instr why (inl h) =
          ap (lead code c.frames rest c.output (address + 1 + 1) [] []) h.0 ∙ ap (λ (r : Reason). let o : Outcome Lead = Outcome.stops r in o) (sym h.1)
      by instr why (inr h) =
          ap (lead code c.frames rest c.output (address + 1 + 1) [] []) h.0 ∙ ap (λ (r : Reason). let o : Outcome Lead = Outcome.stops r in o) (sym h.1)

  -- a statement that needs its one part
  one_needed : (kind : NodeKind) (part : Option PlainPhrase) (spot : Spot) (wanted : Option Spot) → label.kind ≡ kind → label.parts ≡ part ∷ []
      → ends_step kind 0 ≡ true
      → ((stop : PlainInstr) → (own_of slot declared codes kind (part ∷ []) (Some stop) (Some stop)).before ≡ PlainInstr.place (place_at slot 0) ∷ (stop ∷ []))
      → needing (mark_of marks slot) label.parts (0 ∷ []) wanted ≡ Some spot
      → (StandsAs kind (part ∷ []) None None → wanted ≡ Some spot → RunsAt (place_at slot 0) spot)
      → RunsAt (place_at slot 0) spot
  one_needed kind part spot wanted is parts ends shape e runs =
      by (first_stops marks slot part)
    where
      need : needing (mark_of marks slot) (part ∷ []) (0 ∷ []) wanted ≡ Some spot
      need = ap (λ (l : List (Option PlainPhrase)). needing (mark_of marks slot) l (0 ∷ []) wanted) (sym parts) ∙ e

      by : ((suspension marks slot (part ∷ []) ≡ None) × (halt_reason (mark_of marks slot) (part ∷ []) (0 ∷ []) ≡ None))
          ⊎ ((instr : PlainInstr) × (why : Reason) × (suspension marks slot (part ∷ []) ≡ Some instr) × (halt_reason (mark_of marks slot) (part ∷ []) (0 ∷ []) ≡ Some why) × Halts instr why)
          → RunsAt (place_at slot 0) spot
      by (inl (stop, none)) =
          runs (stands_as kind (part ∷ []) None None is parts stop stop)
          (ap (λ (r : Option Reason). option_or (option_map Spot.halts r) wanted) (sym none) ∙ need)
      by (inr (instr, why, stop, reason, halts)) =
          let stands = stands_as kind (part ∷ []) (Some instr) (Some instr) is parts stop stop in
          let own = own_of slot declared codes kind (part ∷ []) (Some instr) (Some instr) in
          let around = around_of slot declared codes kind (part ∷ []) (Some instr) (Some instr) in
          let first : HasAt instrs start own.before =
          has_first instrs start own.before (option_to_list around.ahead ++ (codes_around (option_to_list around.between) codes ++ (own.behind ++ option_to_list around.back))) stands.has in
          let piece : HasAt instrs start (PlainInstr.place (place_at slot 0) ∷ (instr ∷ [])) = subst (HasAt instrs start) (shape instr) first in
          let same : Spot.halts why ≡ spot =
          same_Some (Spot.halts why) spot (ap (λ (r : Option Reason). option_or (option_map Spot.halts r) wanted) (sym reason) ∙ need) in
          subst (RunsAt (place_at slot 0)) same
          (halting instr why start 0 halts (ap (λ (k : NodeKind). ends_step k 0) is ∙ ends) piece.0 piece.1.0)

  -- ---- statements with nothing inside

  record Leaf (piece : List PlainInstr) : Type 0 where
    has : HasAt instrs start piece
    lands : Lands instrs (start + length piece) found.after

  leaf : (piece : List PlainInstr) → sorts inner ≡ [] → HasAt instrs start (code_with (one_piece piece) no_jumps codes)
      → Lands instrs (start + length (code_with (one_piece piece) no_jumps codes)) found.after → Leaf piece
  leaf piece none has lands =
      let empty_codes : codes ≡ [] = ap (node_codes marks items) (none_inside inner none) in
      let long = with_length (one_piece piece) no_jumps codes in
      let inside = inside_length [] codes in
      let first : first_length (map length codes) ≡ 0 = ap (λ (cs : List (List PlainInstr)). first_length (map length cs)) empty_codes in
      let others : other_lengths (map length codes) ≡ 0 = ap (λ (cs : List (List PlainInstr)). other_lengths (map length cs)) empty_codes in
      record {
        has = has_first instrs start piece ([] ++ (codes_around [] codes ++ ([] ++ []))) has;
        lands = subst (λ (n : ℕ). Lands instrs n found.after) (omega (arith, long, inside, first, others)) lands;
      }

  sections_none : (kind : NodeKind) → label.kind ≡ kind → (row_of kind).sections ≡ [] → sorts inner ≡ []
  sections_none kind is none =
      subst (λ (l : List PlainSection). Fill l (sorts inner)) none (subst (λ (k : NodeKind). Fill (row_of k).sections (sorts inner)) is node.inner)

  pub hole_runs : label.kind ≡ NodeKind.StatementHole → RunsAt (place_at slot 0) (Spot.halts Reason.Placeholder)
  hole_runs is =
      let stands = stands_as NodeKind.StatementHole label.parts (suspension marks slot label.parts) (suspension marks slot (take 1 label.parts)) is refl refl refl in
      halting PlainInstr.suspend_placeholder Reason.Placeholder start 0 (inl (refl, refl)) (ap (λ (k : NodeKind). ends_step k 0) is) stands.has.0 stands.has.1.0

  pub assign_runs : (spot : Spot) → label.kind ≡ NodeKind.Assign → start_spot (mark_of marks slot) callees found NodeKind.Assign ≡ Some spot → RunsAt (place_at slot 0) spot
  assign_runs spot is e =
      let (part, parts, fits) = one_part Category.Assignment label.parts (subst (λ (k : NodeKind). AreParts (parts_of (row_of k).line) label.parts) is node.parts) in
      one_needed NodeKind.Assign part spot (option_and_then (assignment_spot found.after) (part_at label.parts 0)) is parts refl (λ stop. refl) e
      (λ stands wanted. by part fits stands (ap (λ (l : List (Option PlainPhrase)). option_and_then (assignment_spot found.after) (part_at l 0)) (sym parts) ∙ wanted))
    where
      by : (part : Option PlainPhrase) → IsPart Category.Assignment part → StandsAs NodeKind.Assign (part ∷ []) None None
          → option_and_then (assignment_spot found.after) part ≡ Some spot → RunsAt (place_at slot 0) spot
      by None fits stands e = absurd (none-some spot e)
      by (Some (PlainPhrase.assignment target value)) fits stands e =
          let instr = variable_instr PlainInstr.store PlainInstr.store_at target in
          let work = index_instrs target ++ (expr_instrs value ++ (instr ∷ [])) in
          let own = leaf (PlainInstr.place (place_at slot 0) ∷ work) (sections_none NodeKind.Assign is refl) stands.has (stands.ends refl) in
          subst (RunsAt (place_at slot 0)) (same_Some (Spot.assigns target value found.after) spot e) (
            start,
            its.addressed 0 start (ap (λ (k : NodeKind). ends_step k 0) is) own.has.0,
            assigns_run code rest c reach target value found.after (length instrs) (start + 1) (start + length (PlainInstr.place (place_at slot 0) ∷ work)) own.has.1
                (omega arith) own.lands (omega arith) fits.short,
          )
      by (Some other) fits stands e = absurd (none-some spot e)

  pub put_runs : (skip : Bool) (template : Template) (spot : Spot) → label.kind ≡ NodeKind.Filled template → parts_of (row_of (NodeKind.Filled template)).line ≡ Category.ExpressionList ∷ []
      → (row_of (NodeKind.Filled template)).sections ≡ [] → ends_step (NodeKind.Filled template) 0 ≡ true → goes_on_behind (sort_of (NodeKind.Filled template)) ≡ true
      → ((part : Option PlainPhrase) (stop : Option PlainInstr)
      → code_of slot declared codes (NodeKind.Filled template) (part ∷ []) stop stop
      ≡ code_with (one_piece (piece_at slot 0 stop (listed_instrs (put_of code rest c reach skip) (listed_exprs part)))) no_jumps codes)
      → ((part : Option PlainPhrase) (stop : PlainInstr)
      → (own_of slot declared codes (NodeKind.Filled template) (part ∷ []) (Some stop) (Some stop)).before ≡ PlainInstr.place (place_at slot 0) ∷ (stop ∷ []))
      → needing (mark_of marks slot) label.parts (0 ∷ []) (put_spot skip label.parts found.after) ≡ Some spot → RunsAt (place_at slot 0) spot
  put_runs skip template spot is line sections ends goes shape stopped e =
      let (part, parts, fits) =
      one_part Category.ExpressionList label.parts
      (subst (λ (l : List Category). AreParts l label.parts) line (subst (λ (k : NodeKind). AreParts (parts_of (row_of k).line) label.parts) is node.parts)) in
      one_needed (NodeKind.Filled template) part spot (put_spot skip label.parts found.after) is parts ends (stopped part) e
      (λ stands wanted. by part fits stands (ap (λ (l : List (Option PlainPhrase)). put_spot skip l found.after) (sym parts) ∙ wanted))
    where
      by : (part : Option PlainPhrase) → IsPart Category.ExpressionList part → StandsAs (NodeKind.Filled template) (part ∷ []) None None
          → put_spot skip (part ∷ []) found.after ≡ Some spot → RunsAt (place_at slot 0) spot
      by None fits stands e = absurd (none-some spot e)
      by (Some (PlainPhrase.expression_list es)) fits stands e =
          let work = exprs_instrs es ++ (put_of code rest c reach skip (expr_count es) ∷ []) in
          let piece = PlainInstr.place (place_at slot 0) ∷ work in
          let same = shape (Some (PlainPhrase.expression_list es)) None in
          let own =
          leaf piece (sections_none (NodeKind.Filled template) is sections) (subst (HasAt instrs start) same stands.has)
          (subst (λ (l : List PlainInstr). Lands instrs (start + length l) found.after) same (stands.ends goes)) in
          let long : length work ≡ length (exprs_instrs es) + 1 = length-append (exprs_instrs es) (put_of code rest c reach skip (expr_count es) ∷ []) in
          subst (RunsAt (place_at slot 0)) (same_Some (Spot.writes skip es found.after) spot e) (
            start,
            its.addressed 0 start (ap (λ (k : NodeKind). ends_step k 0) is ∙ ends) own.has.0,
            writes_run code rest c reach skip es found.after (length instrs) (start + 1) (start + length piece) own.has.1 (omega (arith, long)) own.lands (omega arith)
                fits.short,
          )
      by (Some other) fits stands e = absurd (none-some spot e)

  pub return_address : label.kind ≡ NodeKind.Filled Template.Return
      → (get code.addresses (place_of (place_at slot 0)) ≡ Some start) × (slice_get instrs (start + 1) ≡ Some PlainInstr.leave)
  return_address is =
      let stands =
      stands_as (NodeKind.Filled Template.Return) label.parts (suspension marks slot label.parts) (suspension marks slot (take 1 label.parts)) is refl refl refl in
      (its.addressed 0 start (ap (λ (k : NodeKind). ends_step k 0) is) stands.has.0, stands.has.1.0)

  -- ---- tests

  test_stands : (template : Template) (d : ℕ) (inside other : PlainPlace) (e : PlainExpr) (behind : List PlainInstr) → length (canon e) ≤ 400
      → label.kind ≡ NodeKind.Filled template → ends_step (NodeKind.Filled template) 0 ≡ true
      → HasAt instrs start (PlainInstr.place (place_at slot 0) ∷ (expr_instrs e ++ (PlainInstr.jump_false (pos d) ∷ behind)))
      → slice_get instrs (start + (length (expr_instrs e) + 2)) ≡ Some (PlainInstr.place inside) → Lands instrs (start + (length (expr_instrs e) + 2) + d) other
      → RunsAt (place_at slot 0) (Spot.tests e inside other)
  test_stands template d inside other e behind short is ends has within beside =
      let own = expr_instrs e in
      let jump = PlainInstr.jump_false (pos d) in
      let later = has_second instrs (start + 1) (start + 1 + length own) own (jump ∷ behind) refl has.1 in
      let less = beside.few in
      let next : ℕ = start + (length own + 2) in (
        start,
        its.addressed 0 start (ap (λ (k : NodeKind). ends_step k 0) is ∙ ends) has.0,
        tests_run code rest c reach e inside other (pos d) (length instrs) (start + 1) next (next + d)
            (has_both instrs (start + 1) (start + 1 + length own) own (jump ∷ []) refl (has_first instrs (start + 1) own (jump ∷ behind) has.1) (later.0, tt))
            (omega arith) (omega (arith, ints)) (lands_here instrs next inside within) beside (omega (arith, less)) (omega arith) short,
      )

  condition_part : (label.kind ≡ NodeKind.Filled Template.If) ⊎ ((label.kind ≡ NodeKind.Filled Template.IfElse) ⊎ (label.kind ≡ NodeKind.Filled Template.While))
      → (part : Option PlainPhrase) × (label.parts ≡ part ∷ []) × IsPart Category.Condition part
  condition_part (inl is) = one_part Category.Condition label.parts (subst (λ (k : NodeKind). AreParts (parts_of (row_of k).line) label.parts) is node.parts)
  condition_part (inr (inl is)) = one_part Category.Condition label.parts (subst (λ (k : NodeKind). AreParts (parts_of (row_of k).line) label.parts) is node.parts)
  condition_part (inr (inr is)) = one_part Category.Condition label.parts (subst (λ (k : NodeKind). AreParts (parts_of (row_of k).line) label.parts) is node.parts)

  -- how long the codes inside are
  abbrev inner_sum : ℕ
  inner_sum = first_length (map length codes) + other_lengths (map length codes)

  fill_as : (kind : NodeKind) → label.kind ≡ kind → Fill (row_of kind).sections (sorts inner)
  fill_as kind is = subst (λ (k : NodeKind). Fill (row_of k).sections (sorts inner)) is node.inner

  pub if_runs : (spot : Spot) → label.kind ≡ NodeKind.Filled Template.If → template_start (mark_of marks slot) callees found Template.If ≡ Some spot
      → RunsAt (place_at slot 0) spot
  if_runs spot is e =
      let (part, parts, fits) = condition_part (inl is) in
      one_needed (NodeKind.Filled Template.If) part spot (test_spot label.parts (begin inner found.after) found.after) is parts refl (λ stop. refl) e
      (λ stands wanted. by part fits stands (ap (λ (l : List (Option PlainPhrase)). test_spot l (begin inner found.after) found.after) (sym parts) ∙ wanted))
    where
      by : (part : Option PlainPhrase) → IsPart Category.Condition part → StandsAs (NodeKind.Filled Template.If) (part ∷ []) None None
          → test_spot (part ∷ []) (begin inner found.after) found.after ≡ Some spot → RunsAt (place_at slot 0) spot
      by None fits stands e = absurd (none-some spot e)
      by (Some (PlainPhrase.condition test)) fits stands e =
          let own = own_of slot declared codes (NodeKind.Filled Template.If) (Some (PlainPhrase.condition test) ∷ []) None None in
          let around = around_of slot declared codes (NodeKind.Filled Template.If) (Some (PlainPhrase.condition test) ∷ []) None None in
          let long = with_length own around codes in
          let within = inside_length [] codes in
          let some = one_begins (sorts inner) (fill_as (NodeKind.Filled Template.If) is) in
          let address : start + (length (PlainInstr.place (place_at slot 0) ∷ expr_instrs test) + 1) ≡ start + (length (expr_instrs test) + 2) = omega arith in
          subst (RunsAt (place_at slot 0)) (same_Some (Spot.tests test (begin inner found.after) found.after) spot e)
          (test_stands Template.If inner_sum (begin inner found.after) found.after test (codes_around [] codes ++ ([] ++ [])) fits.short is refl stands.has
          (ap (slice_get instrs) (sym address) ∙ stands.begins found.after some)
          (subst (λ (n : ℕ). Lands instrs n found.after) (omega (arith, long, within)) (stands.ends refl)))
      by (Some other) fits stands e = absurd (none-some spot e)

  pub while_runs : (spot : Spot) → label.kind ≡ NodeKind.Filled Template.While → template_start (mark_of marks slot) callees found Template.While ≡ Some spot
      → RunsAt (place_at slot 0) spot
  while_runs spot is e =
      let (part, parts, fits) = condition_part (inr (inr is)) in
      one_needed (NodeKind.Filled Template.While) part spot (test_spot label.parts (begin inner (place_at slot 0)) found.after) is parts refl (λ stop. refl) e
      (λ stands wanted. by part fits stands (ap (λ (l : List (Option PlainPhrase)). test_spot l (begin inner (place_at slot 0)) found.after) (sym parts) ∙ wanted))
    where
      by : (part : Option PlainPhrase) → IsPart Category.Condition part → StandsAs (NodeKind.Filled Template.While) (part ∷ []) None None
          → test_spot (part ∷ []) (begin inner (place_at slot 0)) found.after ≡ Some spot → RunsAt (place_at slot 0) spot
      by None fits stands e = absurd (none-some spot e)
      by (Some (PlainPhrase.condition test)) fits stands e =
          let own = own_of slot declared codes (NodeKind.Filled Template.While) (Some (PlainPhrase.condition test) ∷ []) None None in
          let around = around_of slot declared codes (NodeKind.Filled Template.While) (Some (PlainPhrase.condition test) ∷ []) None None in
          let long = with_length own around codes in
          let within = inside_length [] codes in
          let some = filled_begins Sort.Statement [] (sorts inner) refl (fill_as (NodeKind.Filled Template.While) is) in
          let address : start + (length (PlainInstr.place (place_at slot 0) ∷ expr_instrs test) + 1) ≡ start + (length (expr_instrs test) + 2) = omega arith in
          subst (RunsAt (place_at slot 0)) (same_Some (Spot.tests test (begin inner (place_at slot 0)) found.after) spot e)
          (test_stands Template.While (inner_sum + 1) (begin inner (place_at slot 0)) found.after test (codes_around [] codes ++ ([] ++ option_to_list around.back)) fits.short is refl
          stands.has (ap (slice_get instrs) (sym address) ∙ stands.begins (place_at slot 0) some)
          (subst (λ (n : ℕ). Lands instrs n found.after) (omega (arith, long, within)) (stands.ends refl)))
      by (Some other) fits stands e = absurd (none-some spot e)

  pub if_else_runs : (spot : Spot) → label.kind ≡ NodeKind.Filled Template.IfElse → template_start (mark_of marks slot) callees found Template.IfElse ≡ Some spot
      → RunsAt (place_at slot 0) spot
  if_else_runs spot is e =
      let (part, parts, fits) = condition_part (inr (inl is)) in
      one_needed (NodeKind.Filled Template.IfElse) part spot (test_spot label.parts (begin inner found.after) (begin (behind_first inner) found.after)) is parts refl (λ stop. refl) e
      (λ stands wanted.
      by part fits stands (first_inside inner Sort.Statement (Sort.Statement ∷ []) (two_sorts (sorts inner) (fill_as (NodeKind.Filled Template.IfElse) is)))
      (ap (λ (l : List (Option PlainPhrase)). test_spot l (begin inner found.after) (begin (behind_first inner) found.after)) (sym parts) ∙ wanted))
    where
      by : (part : Option PlainPhrase) → IsPart Category.Condition part → StandsAs (NodeKind.Filled Template.IfElse) (part ∷ []) None None
          → ((first : Label) × (within : Forest) × (others : Forest) × (inner ≡ Forest.cons first within others))
          → test_spot (part ∷ []) (begin inner found.after) (begin (behind_first inner) found.after) ≡ Some spot → RunsAt (place_at slot 0) spot
      by None fits stands two e = absurd (none-some spot e)
      by (Some (PlainPhrase.condition test)) fits stands (first, within, others, two) e =
          let some = ap (list_any begins_run) (two_sorts (sorts inner) (fill_as (NodeKind.Filled Template.IfElse) is)) in
          let address : start + (length (PlainInstr.place (place_at slot 0) ∷ expr_instrs test) + 1) ≡ start + (length (expr_instrs test) + 2) = omega arith in
          let d : ℕ = first_length (map length codes) + 1 in
          let second = its.seconds first within others found.after is two in
          let own_length : first_length (map length codes) ≡ length_around marks items first (node_lengths marks items within) =
          ap (λ (f : Forest). first_length (map length (node_codes marks items f))) two ∙ ap first_length (told marks items (Forest.cons first within Forest.nil)) in
          let before = stands.before in
          let there : slice_get instrs (start + (length (expr_instrs test) + 2) + d) ≡ Some (PlainInstr.place (begin (behind_first inner) found.after)) =
          ap (slice_get instrs) (omega (arith, before, own_length)) ∙ (second ∙ ap (λ (f : Forest). Some (PlainInstr.place (begin (behind_first f) found.after))) (sym two)) in
          let around = around_of slot declared codes (NodeKind.Filled Template.IfElse) (Some (PlainPhrase.condition test) ∷ []) None None in
          subst (RunsAt (place_at slot 0)) (same_Some (Spot.tests test (begin inner found.after) (begin (behind_first inner) found.after)) spot e)
          (test_stands Template.IfElse d (begin inner found.after) (begin (behind_first inner) found.after) test (codes_around (option_to_list around.between) codes ++ ([] ++ [])) fits.short is refl
          stands.has (ap (slice_get instrs) (sym address) ∙ stands.begins found.after some)
          (lands_here instrs (start + (length (expr_instrs test) + 2) + d) (begin (behind_first inner) found.after) there))
      by (Some other) fits stands two e = absurd (none-some spot e)

  -- ---- a For

  for_parts : label.kind ≡ NodeKind.Filled Template.For
      → (a b d e : Option PlainPhrase) × (label.parts ≡ a ∷ (b ∷ (d ∷ (e ∷ []))))
      × IsPart Category.Variable a × IsPart Category.Expression b × IsPart Category.Expression d × IsPart Category.Expression e
  for_parts is = four_parts label.parts (subst (λ (k : NodeKind). AreParts (parts_of (row_of k).line) label.parts) is node.parts)

  for_stands : (name : List ℕ) (first limit step : PlainExpr) → label.kind ≡ NodeKind.Filled Template.For → has_loop_room c.frames ≡ true
      → length (canon first) ≤ 400 → length (canon limit) ≤ 400 → length (canon step) ≤ 400
      → StandsAs (NodeKind.Filled Template.For)
      (Some (PlainPhrase.variable_name name) ∷ (Some (PlainPhrase.expression first) ∷ (Some (PlainPhrase.expression limit) ∷ (Some (PlainPhrase.expression step) ∷ [])))) None None
      → RunsAt (place_at slot 0) (Spot.begins slot name first limit step (begin inner (place_at slot 1)) found.after)
  for_stands name first limit step is loops short shorter shortest stands =
      let parts = Some (PlainPhrase.variable_name name) ∷ (Some (PlainPhrase.expression first) ∷ (Some (PlainPhrase.expression limit) ∷ (Some (PlainPhrase.expression step) ∷ []))) in
      let own = own_of slot declared codes (NodeKind.Filled Template.For) parts None None in
      let around = around_of slot declared codes (NodeKind.Filled Template.For) parts None None in
      let one = expr_instrs first in
      let two = expr_instrs limit in
      let three = expr_instrs step in
      let work = one ++ (two ++ three) in
      let enter = PlainInstr.for_enter slot name (pos (inner_sum + 2)) in
      let behind = codes_around [] codes ++ (own.behind ++ option_to_list around.back) in
      let a : length work ≡ length one + length (two ++ three) = length-append one (two ++ three) in
      let b : length (two ++ three) ≡ length two + length three = length-append two three in
      let long = with_length own around codes in
      let within = inside_length [] codes in
      let next : ℕ = start + (length work + 2) in
      let target : ℕ = next + (inner_sum + 2) in
      let first_has : HasAt instrs (start + 1) (work ++ (enter ∷ behind)) = stands.has.1 in
      let works : HasAt instrs (start + 1) work = has_first instrs (start + 1) work (enter ∷ behind) first_has in
      let entry = has_second instrs (start + 1) (start + 1 + length work) work (enter ∷ behind) refl first_has in
      let rest_has : HasAt instrs (start + 1 + length one) (two ++ three) = has_second instrs (start + 1) (start + 1 + length one) one (two ++ three) refl works in
      let last_has : HasAt instrs (start + 1 + length one + length two) three = has_second instrs (start + 1 + length one) (start + 1 + length one + length two) two three refl rest_has in
      let all_has : HasAt instrs (start + 1) (one ++ (two ++ (three ++ (enter ∷ [])))) =
      has_both instrs (start + 1) (start + 1 + length one) one (two ++ (three ++ (enter ∷ []))) refl (has_first instrs (start + 1) one (two ++ three) works)
      (has_both instrs (start + 1 + length one) (start + 1 + length one + length two) two (three ++ (enter ∷ [])) refl (has_first instrs (start + 1 + length one) two three rest_has)
      (has_both instrs (start + 1 + length one + length two) (start + 1 + length work) three (enter ∷ []) (omega (arith, a, b)) last_has (entry.0, tt))) in
      let some = filled_begins Sort.Statement [] (sorts inner) refl (fill_as (NodeKind.Filled Template.For) is) in
      let inside : slice_get instrs next ≡ Some (PlainInstr.place (begin inner (place_at slot 1))) = ap (slice_get instrs) (omega arith) ∙ stands.begins (place_at slot 1) some in (
        start,
        its.addressed 0 start (ap (λ (k : NodeKind). ends_step k 0) is) stands.has.0,
        enters_run code rest c reach slot name first limit step (begin inner (place_at slot 1)) found.after (pos (inner_sum + 2)) (length instrs) (start + 1) next target all_has
            (omega (arith, a, b)) (omega (arith, ints)) (omega arith) loops (lands_here instrs next (begin inner (place_at slot 1)) inside)
            (subst (λ (n : ℕ). Lands instrs n found.after) (omega (arith, long, within)) (stands.ends refl)) (omega arith) short shorter shortest,
      )

  pub for_runs : (spot : Spot) → label.kind ≡ NodeKind.Filled Template.For → has_loop_room c.frames ≡ true
      → template_start (mark_of marks slot) callees found Template.For ≡ Some spot → RunsAt (place_at slot 0) spot
  for_runs spot is loops want =
      let (a, b, d, e, parts, variable, first, limit, step) = for_parts is in
      by a b d e parts variable first limit step
      (ap (λ (l : List (Option PlainPhrase)). needing (mark_of marks slot) l (0 ∷ (1 ∷ (2 ∷ (3 ∷ [])))) (for_spot slot l (begin inner (place_at slot 1)) found.after)) (sym parts) ∙ want)
      (four_stops marks slot a b d e)
    where
      spot_is : (a b d e : Option PlainPhrase) → IsPart Category.Expression b → IsPart Category.Expression d → IsPart Category.Expression e
          → StandsAs (NodeKind.Filled Template.For) (a ∷ (b ∷ (d ∷ (e ∷ [])))) None None
          → for_spot slot (a ∷ (b ∷ (d ∷ (e ∷ [])))) (begin inner (place_at slot 1)) found.after ≡ Some spot → RunsAt (place_at slot 0) spot
      spot_is (Some (PlainPhrase.variable_name name)) (Some (PlainPhrase.expression first)) (Some (PlainPhrase.expression limit)) (Some (PlainPhrase.expression step)) one two three stands e =
          subst (RunsAt (place_at slot 0)) (same_Some (Spot.begins slot name first limit step (begin inner (place_at slot 1)) found.after) spot e)
          (for_stands name first limit step is loops one.short two.short three.short stands)
      spot_is None b d e one two three stands want = absurd (none-some spot want)
      spot_is (Some (PlainPhrase.variable_name name)) None d e one two three stands want = absurd (none-some spot want)
      spot_is (Some (PlainPhrase.variable_name name)) (Some (PlainPhrase.expression first)) None e one two three stands want = absurd (none-some spot want)
      spot_is (Some (PlainPhrase.variable_name name)) (Some (PlainPhrase.expression first)) (Some (PlainPhrase.expression limit)) None one two three stands want = absurd (none-some spot want)
      spot_is (Some (PlainPhrase.variable_name name)) (Some (PlainPhrase.expression first)) (Some (PlainPhrase.expression limit)) (Some other) one two three stands want = absurd (none-some spot want)
      spot_is (Some (PlainPhrase.variable_name name)) (Some (PlainPhrase.expression first)) (Some other) e one two three stands want = absurd (none-some spot want)
      spot_is (Some (PlainPhrase.variable_name name)) (Some other) d e one two three stands want = absurd (none-some spot want)
      spot_is (Some other) b d e one two three stands want = absurd (none-some spot want)

      by : (a b d e : Option PlainPhrase) → label.parts ≡ a ∷ (b ∷ (d ∷ (e ∷ []))) → IsPart Category.Variable a → IsPart Category.Expression b → IsPart Category.Expression d
          → IsPart Category.Expression e
          → needing (mark_of marks slot) (a ∷ (b ∷ (d ∷ (e ∷ [])))) (0 ∷ (1 ∷ (2 ∷ (3 ∷ [])))) (for_spot slot (a ∷ (b ∷ (d ∷ (e ∷ [])))) (begin inner (place_at slot 1)) found.after) ≡ Some spot
          → Stops (suspension marks slot (a ∷ (b ∷ (d ∷ (e ∷ []))))) (halt_reason (mark_of marks slot) (a ∷ (b ∷ (d ∷ (e ∷ [])))) (0 ∷ (1 ∷ (2 ∷ (3 ∷ [])))))
          → RunsAt (place_at slot 0) spot
      by a b d e parts variable first limit step need (inl (stop, none)) =
          spot_is a b d e first limit step
          (stands_as (NodeKind.Filled Template.For) (a ∷ (b ∷ (d ∷ (e ∷ [])))) None None is parts stop (four_there marks slot a b d e stop))
          (ap (λ (r : Option Reason). option_or (option_map Spot.halts r) (for_spot slot (a ∷ (b ∷ (d ∷ (e ∷ [])))) (begin inner (place_at slot 1)) found.after)) (sym none) ∙ need)
      by a b d e parts variable first limit step need (inr (instr, why, stop, reason, halts)) =
          let stands = stands_as (NodeKind.Filled Template.For) (a ∷ (b ∷ (d ∷ (e ∷ [])))) (Some instr) (suspension marks slot (a ∷ [])) is parts stop refl in
          subst (RunsAt (place_at slot 0))
          (same_Some (Spot.halts why) spot
          (ap (λ (r : Option Reason). option_or (option_map Spot.halts r) (for_spot slot (a ∷ (b ∷ (d ∷ (e ∷ [])))) (begin inner (place_at slot 1)) found.after)) (sym reason) ∙ need))
          (halting instr why start 0 halts (ap (λ (k : NodeKind). ends_step k 0) is) stands.has.0 stands.has.1.0)

  -- where what stands inside ends
  end_has : (kind : NodeKind) (parts : List (Option PlainPhrase)) (all one : Option PlainInstr) → StandsAs kind parts all one
      → HasAt instrs
      (start + length (own_of slot declared codes kind parts all one).before + length (option_to_list (around_of slot declared codes kind parts all one).ahead)
      + length (codes_around (option_to_list (around_of slot declared codes kind parts all one).between) codes))
      ((own_of slot declared codes kind parts all one).behind ++ option_to_list (around_of slot declared codes kind parts all one).back)
  end_has kind parts all one stands =
      let own = own_of slot declared codes kind parts all one in
      let around = around_of slot declared codes kind parts all one in
      let ahead = option_to_list around.ahead in
      let within = codes_around (option_to_list around.between) codes in
      let end = own.behind ++ option_to_list around.back in
      has_second instrs (start + length own.before + length ahead) (start + length own.before + length ahead + length within) within end refl
      (has_second instrs (start + length own.before) (start + length own.before + length ahead) ahead (within ++ end) refl
      (has_second instrs start (start + length own.before) own.before (ahead ++ (within ++ end)) refl stands.has))

  pub iteration_runs : (spot : Spot) → label.kind ≡ NodeKind.Filled Template.For
      → needing (mark_of marks slot) label.parts (0 ∷ []) (iteration_spot slot label.parts (begin inner (place_at slot 1)) found.after) ≡ Some spot
      → RunsAt (place_at slot 1) spot
  iteration_runs spot is want =
      let (a, b, d, e, parts, variable, first, limit, step) = for_parts is in
      by a b d e parts
      (ap (λ (l : List (Option PlainPhrase)). needing (mark_of marks slot) l (0 ∷ []) (iteration_spot slot l (begin inner (place_at slot 1)) found.after)) (sym parts) ∙ want)
      (first_of_four marks slot a b d e)
    where
      spot_is : (a b d e : Option PlainPhrase) (all : Option PlainInstr) → StandsAs (NodeKind.Filled Template.For) (a ∷ (b ∷ (d ∷ (e ∷ [])))) all None
          → iteration_spot slot (a ∷ (b ∷ (d ∷ (e ∷ [])))) (begin inner (place_at slot 1)) found.after ≡ Some spot → RunsAt (place_at slot 1) spot
      spot_is (Some (PlainPhrase.variable_name name)) b d e all stands want =
          let parts = Some (PlainPhrase.variable_name name) ∷ (b ∷ (d ∷ (e ∷ []))) in
          let own = own_of slot declared codes (NodeKind.Filled Template.For) parts all None in
          let around = around_of slot declared codes (NodeKind.Filled Template.For) parts all None in
          let at : ℕ = start + length own.before + length (option_to_list around.ahead) + length (codes_around [] codes) in
          let has = end_has (NodeKind.Filled Template.For) parts all None stands in
          let long = with_length own around codes in
          let within = inside_length [] codes in
          let some = filled_begins Sort.Statement [] (sorts inner) refl (fill_as (NodeKind.Filled Template.For) is) in
          let target : ℕ = start + (length own.before + length (option_to_list around.ahead)) in
          let beside : Lands instrs (at + 1 + 1) found.after = subst (λ (n : ℕ). Lands instrs n found.after) (omega (arith, long)) (stands.ends refl) in
          let few = beside.few in
          subst (RunsAt (place_at slot 1)) (same_Some (Spot.iterates slot name (begin inner (place_at slot 1)) found.after) spot want) (
            at,
            its.addressed 1 at (ap (λ (k : NodeKind). ends_step k 1) is) has.0,
            iterates_run code rest c reach slot name (begin inner (place_at slot 1)) found.after (neg_ℤ (pos (inner_sum + 2))) (length instrs) (at + 1) (at + 1 + 1) target has.1.0
                refl (omega (arith, ints, within)) (lands_here instrs target (begin inner (place_at slot 1)) (stands.begins (place_at slot 1) some)) beside (omega (arith, few)) (omega (arith, few)),
          )
      spot_is None b d e all stands want = absurd (none-some spot want)
      spot_is (Some other) b d e all stands want = absurd (none-some spot want)

      by : (a b d e : Option PlainPhrase) → label.parts ≡ a ∷ (b ∷ (d ∷ (e ∷ [])))
          → needing (mark_of marks slot) (a ∷ (b ∷ (d ∷ (e ∷ [])))) (0 ∷ []) (iteration_spot slot (a ∷ (b ∷ (d ∷ (e ∷ [])))) (begin inner (place_at slot 1)) found.after) ≡ Some spot
          → Stops (suspension marks slot (a ∷ [])) (halt_reason (mark_of marks slot) (a ∷ (b ∷ (d ∷ (e ∷ [])))) (0 ∷ []))
          → RunsAt (place_at slot 1) spot
      by a b d e parts need (inl (stop, none)) =
          spot_is a b d e (suspension marks slot (a ∷ (b ∷ (d ∷ (e ∷ [])))))
          (stands_as (NodeKind.Filled Template.For) (a ∷ (b ∷ (d ∷ (e ∷ [])))) (suspension marks slot (a ∷ (b ∷ (d ∷ (e ∷ []))))) None is parts refl stop)
          (ap (λ (r : Option Reason). option_or (option_map Spot.halts r) (iteration_spot slot (a ∷ (b ∷ (d ∷ (e ∷ [])))) (begin inner (place_at slot 1)) found.after)) (sym none) ∙ need)
      by a b d e parts need (inr (instr, why, stop, reason, halts)) =
          let all = suspension marks slot (a ∷ (b ∷ (d ∷ (e ∷ [])))) in
          let stands = stands_as (NodeKind.Filled Template.For) (a ∷ (b ∷ (d ∷ (e ∷ [])))) all (Some instr) is parts refl stop in
          let own = own_of slot declared codes (NodeKind.Filled Template.For) (a ∷ (b ∷ (d ∷ (e ∷ [])))) all (Some instr) in
          let around = around_of slot declared codes (NodeKind.Filled Template.For) (a ∷ (b ∷ (d ∷ (e ∷ [])))) all (Some instr) in
          let at : ℕ = start + length own.before + length (option_to_list around.ahead) + length (codes_around [] codes) in
          let has = end_has (NodeKind.Filled Template.For) (a ∷ (b ∷ (d ∷ (e ∷ [])))) all (Some instr) stands in
          subst (RunsAt (place_at slot 1))
          (same_Some (Spot.halts why) spot
          (ap (λ (r : Option Reason). option_or (option_map Spot.halts r) (iteration_spot slot (a ∷ (b ∷ (d ∷ (e ∷ [])))) (begin inner (place_at slot 1)) found.after)) (sym reason) ∙ need))
          (halting instr why at 1 halts (ap (λ (k : NodeKind). ends_step k 1) is) has.0 has.1.0)

  -- ---- an Until

  pub until_runs : (spot : Spot) → label.kind ≡ NodeKind.Filled Template.Until
      → needing (mark_of marks slot) label.parts (0 ∷ []) (test_spot label.parts found.after (begin inner (place_at slot 1))) ≡ Some spot
      → RunsAt (place_at slot 1) spot
  until_runs spot is want =
      let (part, parts, fits) = one_part Category.Condition label.parts (subst (λ (k : NodeKind). AreParts (parts_of (row_of k).line) label.parts) is node.parts) in
      by part parts fits
      (ap (λ (l : List (Option PlainPhrase)). needing (mark_of marks slot) l (0 ∷ []) (test_spot l found.after (begin inner (place_at slot 1)))) (sym parts) ∙ want)
      (first_stops marks slot part)
    where
      spot_is : (part : Option PlainPhrase) → IsPart Category.Condition part → StandsAs (NodeKind.Filled Template.Until) (part ∷ []) None None
          → test_spot (part ∷ []) found.after (begin inner (place_at slot 1)) ≡ Some spot → RunsAt (place_at slot 1) spot
      spot_is None fits stands want = absurd (none-some spot want)
      spot_is (Some (PlainPhrase.condition test)) fits stands want =
          let parts = Some (PlainPhrase.condition test) ∷ [] in
          let own = own_of slot declared codes (NodeKind.Filled Template.Until) parts None None in
          let around = around_of slot declared codes (NodeKind.Filled Template.Until) parts None None in
          let at : ℕ = start + length own.before + length (option_to_list around.ahead) + length (codes_around [] codes) in
          let has = end_has (NodeKind.Filled Template.Until) parts None None stands in
          let long = with_length own around codes in
          let within = inside_length [] codes in
          let some = filled_begins Sort.Statement [] (sorts inner) refl (fill_as (NodeKind.Filled Template.Until) is) in
          let target : ℕ = start + (length own.before + length (option_to_list around.ahead)) in
          let next : ℕ = at + 1 + (length (expr_instrs test) + 1) in
          let beside : Lands instrs next found.after = subst (λ (n : ℕ). Lands instrs n found.after) (omega (arith, long)) (stands.ends refl) in
          let few = beside.few in
          subst (RunsAt (place_at slot 1)) (same_Some (Spot.tests test found.after (begin inner (place_at slot 1))) spot want) (
            at,
            its.addressed 1 at (ap (λ (k : NodeKind). ends_step k 1) is) has.0,
            tests_run code rest c reach test found.after (begin inner (place_at slot 1)) (neg_ℤ (pos (count_pieces own + inner_sum + 1))) (length instrs) (at + 1) next target
                has.1 refl (omega (arith, ints, within)) beside (lands_here instrs target (begin inner (place_at slot 1)) (stands.begins (place_at slot 1) some)) (omega (arith, few))
                (omega arith) fits.short,
          )
      spot_is (Some other) fits stands want = absurd (none-some spot want)

      by : (part : Option PlainPhrase) → label.parts ≡ part ∷ [] → IsPart Category.Condition part
          → needing (mark_of marks slot) (part ∷ []) (0 ∷ []) (test_spot (part ∷ []) found.after (begin inner (place_at slot 1))) ≡ Some spot
          → Stops (suspension marks slot (part ∷ [])) (halt_reason (mark_of marks slot) (part ∷ []) (0 ∷ []))
          → RunsAt (place_at slot 1) spot
      by part parts fits need (inl (stop, none)) =
          spot_is part fits (stands_as (NodeKind.Filled Template.Until) (part ∷ []) None None is parts stop stop)
          (ap (λ (r : Option Reason). option_or (option_map Spot.halts r) (test_spot (part ∷ []) found.after (begin inner (place_at slot 1)))) (sym none) ∙ need)
      by part parts fits need (inr (instr, why, stop, reason, halts)) =
          let stands = stands_as (NodeKind.Filled Template.Until) (part ∷ []) (Some instr) (Some instr) is parts stop stop in
          let own = own_of slot declared codes (NodeKind.Filled Template.Until) (part ∷ []) (Some instr) (Some instr) in
          let around = around_of slot declared codes (NodeKind.Filled Template.Until) (part ∷ []) (Some instr) (Some instr) in
          let at : ℕ = start + length own.before + length (option_to_list around.ahead) + length (codes_around [] codes) in
          let has = end_has (NodeKind.Filled Template.Until) (part ∷ []) (Some instr) (Some instr) stands in
          subst (RunsAt (place_at slot 1))
          (same_Some (Spot.halts why) spot
          (ap (λ (r : Option Reason). option_or (option_map Spot.halts r) (test_spot (part ∷ []) found.after (begin inner (place_at slot 1)))) (sym reason) ∙ need))
          (halting instr why at 1 halts (ap (λ (k : NodeKind). ends_step k 1) is) has.0 has.1.0)

  -- ---- a GET

  item_runs : (k j address : ℕ) (targets : List PlainVarRef) (target : PlainVarRef) → label.kind ≡ NodeKind.Filled Template.Get
      → HasAt instrs address (items_instrs slot k targets) → Lands instrs (address + length (items_instrs slot k targets)) found.after
      → slice_get targets j ≡ Some target → (each : (one : PlainVarRef) (n : ℕ) → slice_get targets n ≡ Some one → length (canon_reference one) ≤ 400)
      → RunsAt (place_at slot (k + j)) (Spot.reads target (if nat_lt (j + 1) (length targets) then place_at slot (k + j + 1) else found.after))
  item_runs k j address [] target is has lands e each = absurd (none-some target e)
  item_runs k zero address (own ∷ targets) target is has lands e each =
      let more = items_instrs slot (k + 1) targets in
      let instr = variable_instr PlainInstr.get PlainInstr.get_at own in
      let index = index_instrs own in
      let long : length (index ++ (instr ∷ more)) ≡ length index + length (instr ∷ more) = length-append index (instr ∷ more) in
      let later = has_second instrs (address + 1) (address + 1 + length index) index (instr ∷ more) refl has.1 in
      let same : own ≡ target = same_Some own target e in
      let point : k + 0 ≡ k = omega arith in
      let next : ℕ = address + 1 + (length index + 1) in
      subst (λ (t : PlainVarRef). RunsAt (place_at slot (k + 0)) (Spot.reads t (if nat_lt (0 + 1) (length (own ∷ targets)) then place_at slot (k + 0 + 1) else found.after))) same (
        address,
        its.addressed (k + 0) address (ap (λ (kind : NodeKind). ends_step kind (k + 0)) is) (has.0 ∙ ap (λ (n : ℕ). Some (PlainInstr.place (place_at slot n))) (sym point)),
        reads_run code rest c reach own (if nat_lt (0 + 1) (length (own ∷ targets)) then place_at slot (k + 0 + 1) else found.after) (length instrs) (address + 1) next
            (has_both instrs (address + 1) (address + 1 + length index) index (instr ∷ []) refl (has_first instrs (address + 1) index (instr ∷ more) has.1) (later.0, tt)) refl
            (by targets (subst (λ (n : ℕ). HasAt instrs n (items_instrs slot (k + 1) targets)) (omega arith) later.1) (subst (λ (n : ℕ). Lands instrs n found.after) (omega (arith, long)) lands)) (omega arith) (each own 0 refl),
      )
    where
      by : (targets : List PlainVarRef) → HasAt instrs (address + 1 + (length (index_instrs own) + 1)) (items_instrs slot (k + 1) targets)
          → Lands instrs (address + 1 + (length (index_instrs own) + 1) + length (items_instrs slot (k + 1) targets)) found.after
          → Lands instrs (address + 1 + (length (index_instrs own) + 1)) (if nat_lt (0 + 1) (length (own ∷ targets)) then place_at slot (k + 0 + 1) else found.after)
      by [] has lands = subst (λ (n : ℕ). Lands instrs n found.after) (omega arith) lands
      by (one ∷ targets) has lands =
          subst (λ (b : Bool). Lands instrs (address + 1 + (length (index_instrs own) + 1)) (if b then place_at slot (k + 0 + 1) else found.after))
          (sym (lt-ltb (0 + 1) (length (own ∷ (one ∷ targets))) (omega arith)))
          (lands_here instrs (address + 1 + (length (index_instrs own) + 1)) (place_at slot (k + 0 + 1))
          (has.0 ∙ ap (λ (n : ℕ). Some (PlainInstr.place (place_at slot n))) (omega arith)))
  item_runs k (suc j) address (own ∷ targets) target is has lands e each =
      let more = items_instrs slot (k + 1) targets in
      let instr = variable_instr PlainInstr.get PlainInstr.get_at own in
      let index = index_instrs own in
      let long : length (index ++ (instr ∷ more)) ≡ length index + length (instr ∷ more) = length-append index (instr ∷ more) in
      let later = has_second instrs (address + 1) (address + 1 + length index) index (instr ∷ more) refl has.1 in
      let behind : ℕ = address + 1 + length index + 1 in
      let there =
      item_runs (k + 1) j behind targets target is later.1 (subst (λ (n : ℕ). Lands instrs n found.after) (omega (arith, long)) lands) e (λ one n found_one. each one (suc n) found_one) in
      let point : k + 1 + j ≡ k + suc j = omega arith in
      let test : nat_lt (j + 1) (length targets) ≡ nat_lt (suc j + 1) (length (own ∷ targets)) = lt_later (j + 1) (length targets) (suc j + 1) (omega arith) in
      subst (λ (n : ℕ). RunsAt (place_at slot n) (Spot.reads target (if nat_lt (suc j + 1) (length (own ∷ targets)) then place_at slot (n + 1) else found.after))) point
      (subst (λ (b : Bool). RunsAt (place_at slot (k + 1 + j)) (Spot.reads target (if b then place_at slot (k + 1 + j + 1) else found.after))) test there)

  target_part : label.kind ≡ NodeKind.Filled Template.Get → (part : Option PlainPhrase) × (label.parts ≡ part ∷ []) × IsPart Category.VariableList part
  target_part is = one_part Category.VariableList label.parts (subst (λ (k : NodeKind). AreParts (parts_of (row_of k).line) label.parts) is node.parts)

  -- an item of a GET that isn't stopped
  get_item : (item : ℕ) (spot : Spot) (targets : List PlainVarRef) → label.kind ≡ NodeKind.Filled Template.Get
      → label.parts ≡ Some (PlainPhrase.variable_list targets) ∷ [] → length (Canon (PlainPhrase.variable_list targets)) ≤ 400
      → StandsAs (NodeKind.Filled Template.Get) (Some (PlainPhrase.variable_list targets) ∷ []) None None
      → get_spot found item ≡ Some spot → RunsAt (place_at slot item) spot
  get_item item spot targets is parts short stands e =
      by (slice_get targets item) refl
      (ap (λ (l : List (Option PlainPhrase)). option_and_then (λ (ts : List PlainVarRef). option_map (λ target. Spot.reads target (behind_item found item)) (slice_get ts item)) (said variables_in l 0)) (sym parts) ∙ e)
    where
      by : (found_target : Option PlainVarRef) → slice_get targets item ≡ found_target
          → option_map (λ target. Spot.reads target (behind_item found item)) found_target ≡ Some spot → RunsAt (place_at slot item) spot
      by None there e = absurd (none-some spot e)
      by (Some target) there e =
          let own = leaf (items_instrs slot 0 targets) (sections_none (NodeKind.Filled Template.Get) is refl) stands.has (stands.ends refl) in
          let runs = item_runs 0 item start targets target is own.has own.lands there (λ one n at. targets_short targets n one at short) in
          let count : item_count label.parts ≡ length targets = ap item_count parts in
          let point : 0 + item ≡ item = omega arith in
          subst (RunsAt (place_at slot item)) (same_Some (Spot.reads target (behind_item found item)) spot e)
          (subst (λ (n : ℕ). RunsAt (place_at slot item) (Spot.reads target (if nat_lt (item + 1) n then place_at slot (item + 1) else found.after))) (sym count)
          (subst (λ (n : ℕ). RunsAt (place_at slot n) (Spot.reads target (if nat_lt (item + 1) (length targets) then place_at slot (n + 1) else found.after))) point runs))

  pub get_runs : (spot : Spot) → label.kind ≡ NodeKind.Filled Template.Get → needing (mark_of marks slot) label.parts (0 ∷ []) (get_spot found 0) ≡ Some spot
      → RunsAt (place_at slot 0) spot
  get_runs spot is e =
      let (part, parts, fits) = target_part is in
      one_needed (NodeKind.Filled Template.Get) part spot (get_spot found 0) is parts refl (λ stop. refl) e (λ stands wanted. by part parts fits stands wanted)
    where
      by : (part : Option PlainPhrase) → label.parts ≡ part ∷ [] → IsPart Category.VariableList part → StandsAs (NodeKind.Filled Template.Get) (part ∷ []) None None
          → get_spot found 0 ≡ Some spot → RunsAt (place_at slot 0) spot
      by (Some (PlainPhrase.variable_list targets)) parts fits stands e = get_item 0 spot targets is parts fits.short stands e
      by None parts fits stands e = absurd (none-some spot (ap (λ (l : List (Option PlainPhrase)). option_and_then (λ (ts : List PlainVarRef). option_map (λ target. Spot.reads target (behind_item found 0)) (slice_get ts 0)) (said variables_in l 0)) (sym parts) ∙ e))
      by (Some other) parts fits stands e = absurd (none-some spot (ap (λ (l : List (Option PlainPhrase)). option_and_then (λ (ts : List PlainVarRef). option_map (λ target. Spot.reads target (behind_item found 0)) (slice_get ts 0)) (said variables_in l 0)) (sym parts) ∙ e))

  pub get_point_runs : (item : ℕ) (spot : Spot) → label.kind ≡ NodeKind.Filled Template.Get → (if mark_of marks slot 0 then None else get_spot found item) ≡ Some spot
      → RunsAt (place_at slot item) spot
  get_point_runs item spot is e = by (target_part is) (mark_of marks slot 0) refl e
    where
      wanted : (part : Option PlainPhrase) → label.parts ≡ part ∷ [] → get_spot found item ≡ Some spot
          → option_and_then (λ (ts : List PlainVarRef). option_map (λ target. Spot.reads target (behind_item found item)) (slice_get ts item)) (said variables_in (part ∷ []) 0) ≡ Some spot
      wanted part parts e = ap (λ (l : List (Option PlainPhrase)). option_and_then (λ (ts : List PlainVarRef). option_map (λ target. Spot.reads target (behind_item found item)) (slice_get ts item)) (said variables_in l 0)) (sym parts) ∙ e

      listed : (part : Option PlainPhrase) → label.parts ≡ part ∷ [] → IsPart Category.VariableList part → mark_of marks slot 0 ≡ false → get_spot found item ≡ Some spot
          → RunsAt (place_at slot item) spot
      listed (Some (PlainPhrase.variable_list targets)) parts fits plain e =
          let stop : suspension marks slot (Some (PlainPhrase.variable_list targets) ∷ []) ≡ None =
          ap (λ (b : Bool). if b || false then Some PlainInstr.suspend_marked else None) plain in
          get_item item spot targets is parts fits.short (stands_as (NodeKind.Filled Template.Get) (Some (PlainPhrase.variable_list targets) ∷ []) None None is parts stop stop) e
      listed None parts fits plain e = absurd (none-some spot (wanted None parts e))
      listed (Some other) parts fits plain e = absurd (none-some spot (wanted (Some other) parts e))

      by : ((part : Option PlainPhrase) × (label.parts ≡ part ∷ []) × IsPart Category.VariableList part) → (b : Bool) → mark_of marks slot 0 ≡ b
          → (if b then None else get_spot found item) ≡ Some spot → RunsAt (place_at slot item) spot
      by (part, parts, fits) true is e = absurd (none-some spot e)
      by (part, parts, fits) false plain e = listed part parts fits plain e

  -- ---- calls, and the ends of procedures

  pub call_runs : (spot : Spot) → label.kind ≡ NodeKind.Filled Template.Call
      → ((name : List ℕ) (callee : Callee) → callees name ≡ Some callee → EntersAt code callee name)
      → needing (mark_of marks slot) label.parts (0 ∷ []) (option_and_then (call_spot callees) (part_at label.parts 0)) ≡ Some spot
      → RunsAt (place_at slot 0) spot
  call_runs spot is enters e =
      let (part, parts, fits) = one_part Category.CallRef label.parts (subst (λ (k : NodeKind). AreParts (parts_of (row_of k).line) label.parts) is node.parts) in
      one_needed (NodeKind.Filled Template.Call) part spot (option_and_then (call_spot callees) (part_at label.parts 0)) is parts refl (λ stop. refl) e
      (λ stands wanted. by part fits stands (ap (λ (l : List (Option PlainPhrase)). option_and_then (call_spot callees) (part_at l 0)) (sym parts) ∙ wanted))
    where
      by : (part : Option PlainPhrase) → IsPart Category.CallRef part → StandsAs (NodeKind.Filled Template.Call) (part ∷ []) None None
          → option_and_then (call_spot callees) part ≡ Some spot → RunsAt (place_at slot 0) spot
      by None fits stands e = absurd (none-some spot e)
      by (Some (PlainPhrase.call name es)) fits stands e = called (callees name) refl e
        where
          called : (callee : Option Callee) → callees name ≡ callee → option_map (λ one. Spot.calls one es) callee ≡ Some spot → RunsAt (place_at slot 0) spot
          called None there e = absurd (none-some spot e)
          called (Some callee) there e =
              let work = arguments_instrs es ++ (PlainInstr.call name (expr_count es) ∷ []) in
              let own = leaf (PlainInstr.place (place_at slot 0) ∷ work) (sections_none (NodeKind.Filled Template.Call) is refl) stands.has (stands.ends refl) in
              subst (RunsAt (place_at slot 0)) (same_Some (Spot.calls callee es) spot e) (
                start,
                its.addressed 0 start (ap (λ (k : NodeKind). ends_step k 0) is) own.has.0,
                calls_run code rest c reach callee name es (length instrs) (start + 1) (enters name callee there) own.has.1 (omega arith) (call_short name es fits.short),
              )
      by (Some other) fits stands e = absurd (none-some spot e)

  -- where a call comes back
  pub back_lands : label.kind ≡ NodeKind.Filled Template.Call
      → (address : ℕ) × (get code.addresses (place_of (place_at slot 1)) ≡ Some address) × (1 ≤ address) × Lands instrs address found.after
  back_lands is =
      let stands = stands_as (NodeKind.Filled Template.Call) label.parts (suspension marks slot label.parts) (suspension marks slot (take 1 label.parts)) is refl refl refl in
      let whole = code_around marks items label codes in
      let same : whole ≡ Whole (NodeKind.Filled Template.Call) label.parts (suspension marks slot label.parts) (suspension marks slot (take 1 label.parts)) =
      ap (λ (k : NodeKind). Whole k label.parts (suspension marks slot label.parts) (suspension marks slot (take 1 label.parts))) is in
      let long : length whole ≡ length (Whole (NodeKind.Filled Template.Call) label.parts (suspension marks slot label.parts) (suspension marks slot (take 1 label.parts))) = ap length same in (
        start + length whole,
        its.backs (ap is_call is),
        omega (arith, long),
        its.ends (ap (λ (k : NodeKind). goes_on_behind (sort_of k)) is),
      )

  -- the end of a procedure
  end_address : (kind : NodeKind) → label.kind ≡ kind → ends_step kind 1 ≡ true
      → ((all one : Option PlainInstr) → (own_of slot declared codes kind label.parts all one).behind ≡ PlainInstr.place (place_at slot 1) ∷ (PlainInstr.leave ∷ []))
      → (address : ℕ) × (get code.addresses (place_of (place_at slot 1)) ≡ Some address) × (slice_get instrs (address + 1) ≡ Some PlainInstr.leave)
  end_address kind is ends shape =
      let all = suspension marks slot label.parts in
      let one = suspension marks slot (take 1 label.parts) in
      let own = own_of slot declared codes kind label.parts all one in
      let around = around_of slot declared codes kind label.parts all one in
      let at : ℕ = start + length own.before + length (option_to_list around.ahead) + length (codes_around (option_to_list around.between) codes) in
      let has = has_first instrs at own.behind (option_to_list around.back) (end_has kind label.parts all one (stands_as kind label.parts all one is refl refl refl)) in
      let there : HasAt instrs at (PlainInstr.place (place_at slot 1) ∷ (PlainInstr.leave ∷ [])) = subst (HasAt instrs at) (shape all one) has in
      (at, its.addressed 1 at (ap (λ (k : NodeKind). ends_step k 1) is ∙ ends) there.0, there.1.0)

  pub main_end : label.kind ≡ NodeKind.Main
      → (address : ℕ) × (get code.addresses (place_of (place_at slot 1)) ≡ Some address) × (slice_get instrs (address + 1) ≡ Some PlainInstr.leave)
  main_end is = end_address NodeKind.Main is refl (λ all one. refl)

  pub procedure_end : label.kind ≡ NodeKind.Filled Template.Proc
      → (address : ℕ) × (get code.addresses (place_of (place_at slot 1)) ≡ Some address) × (slice_get instrs (address + 1) ≡ Some PlainInstr.leave)
  procedure_end is = end_address (NodeKind.Filled Template.Proc) is refl (λ all one. refl)

  pub parameters_end : label.kind ≡ NodeKind.Filled Template.ProcP
      → (address : ℕ) × (get code.addresses (place_of (place_at slot 1)) ≡ Some address) × (slice_get instrs (address + 1) ≡ Some PlainInstr.leave)
  parameters_end is = end_address (NodeKind.Filled Template.ProcP) is refl (λ all one. refl)
