-- The law `code_begins_as_tree`: the code of a tree begins with main's cells, which are those of main's effective
-- items, and behind them stands the step at which a run begins in main.
use Rattle.std.specs.Prelude.{◌≡◌, refl, ℕ, ◌+◌, ◌≤◌, ◌<◌, Bool, true, false, cond, ◌||◌, flat_map, if◌then◌else◌, List, [], ◌∷◌, ◌++◌, length, map, slice_get, slice_index_or, Option, Some, None, option_and_then, option_map, unwrap_or}
use Rattle.std.specs.FinMap.{find, get, get-from_entries}
use Rattle.std.specs.List.{list_any}
use Rattle.std.specs.Option.{option_or, option_to_list}
use Rattle.std.specs.Ordering.{eq_by_cmp, nat_cmp}
use Rattle.std.proofs.Common.{ap, sym, ◌∙◌, subst, arith, append_assoc}
use Rattle.std.proofs.Math.Bool.{false≢true}
use Rattle.std.proofs.lemmas.Bool.{eq-eqb}
use Rattle.std.proofs.lemmas.Cmp.{nat_cmp_total}
use Rattle.std.proofs.lemmas.List.{append-nil}
use Rattle.std.proofs.lemmas.Option.{none-some, same_Some}
use Rattle.plcs_base.specs.Mark.{MarkMap}
use Rattle.plcs_base.specs.Scope.{ItemMap}
use Rattle.plcs_base.specs.declared.declared.Declared.{Declared}
use Rattle.plcs_grammar.specs.declared.node_kind.NodeKind.{NodeKind}
use Rattle.plcs_grammar.specs.declared.node_kind.Sort.{Sort}
use Rattle.plcs_grammar.specs.declared.template.Template.{Template}
use Rattle.plcs_grammar.specs.Template.{PlainSection, list_of, procedure_sections, program_sections, row_of}
use Rattle.template_tree.specs.Checks.Environment.{items_inside, procedure_at}
use Rattle.template_tree.specs.Checks.ProgramMaps.{ScopeTells, items_in}
use Rattle.template_tree.specs.Positions.Place.{PlainPlace, Site, begin, begins_run, end_at, in_turn, inner_end, place_at, site, site_among}
use Rattle.template_tree.specs.Programs.PlainTree.{Forest, Label, PlainNode}
use Rattle.template_tree.specs.Programs.Program.{Fill, IsProgram, sort_of, sorts}
use Rattle.template_tree.specs.Programs.Slots.{first_slot}
use Rattle.plcs_code.specs.Gen.{Gen, codes_around, codes_joined, has_code, length_around, node_codes, node_lengths, node_spans, span_by_slot}
use Rattle.plcs_code.specs.Landing.{BodiesBegin, length_before}
use Rattle.plcs_code.specs.declared.node_span.NodeSpan.{NodeSpan}
use Rattle.plcs_code.specs.Pieces.{CodeJumps, CodePieces, cell_instr, count_pieces, first_length, jumps, other_lengths, own_jumps, own_pieces, pieces}
use Rattle.plcs_code.specs.PlainInstr.{PlainInstr}
use Rattle.plcs_store.specs.CellAt.{Variables, unset_named}
use Rattle.plcs_store.specs.Configuration.{PlainConfiguration}
use Rattle.plcs_store.specs.NewFrame.{First, new_frame}
use Rattle.plcs_machine.specs.Enter.{Enter, begun_in, new_run}
use Rattle.plcs_machine.specs.Fetched.{Fetched, behind_one, result_of, with_result}
use Rattle.plcs_machine.specs.MachineLaws.{CodeBeginsAsTree}
use Rattle.plcs_machine.specs.Passing.{landing}
use Rattle.plcs_machine.proofs.FreshVariables.{Added, inside_added}

-- ---- results alone

pub result_behind : {A : Type 0} (fetched : Option (Fetched A)) → result_of (option_map behind_one fetched) ≡ result_of fetched
result_behind None = refl
result_behind (Some one) = refl

pub result_with : {A B : Type 0} (make : A → B) (fetched : Option (Fetched A)) → result_of (option_map (with_result make) fetched) ≡ option_map make (result_of fetched)
result_with make None = refl
result_with make (Some one) = refl

-- ---- cells

-- the cells of items come one after the other, and then the step
cells_begun : (its : List Declared) (variables : Variables) (place : PlainPlace) (more : List PlainInstr) → Added variables (map unset_named its)
    → result_of (begun_in (flat_map (cell_instr []) its ++ (PlainInstr.place place ∷ more)) variables)
    ≡ Some (landing place (variables ++ map unset_named its))
cells_begun [] variables place more added = ap (λ (vs : Variables). Some (landing place vs)) (sym (append-nil variables))
cells_begun (item ∷ its) variables place more added =
    let rest = flat_map (cell_instr []) its ++ (PlainInstr.place place ∷ more) in
    ap (λ (o : Option Variables). result_of (option_map behind_one (option_and_then (begun_in rest) o))) added.0
    ∙ (result_behind (begun_in rest (variables ++ (unset_named item ∷ [])))
    ∙ (cells_begun its (variables ++ (unset_named item ∷ [])) place more added.1
    ∙ ap (λ (vs : Variables). Some (landing place vs))
    (append_assoc variables (unset_named item ∷ []) (map unset_named its))))

-- ---- main

abbrev is_main : Sort → Bool
is_main Sort.Main = true
is_main other = false

template_not_main : (template : Template) → is_main (sort_of (NodeKind.Filled template)) ≡ false
template_not_main Template.Fixed = refl
template_not_main other = refl

pub main_kind : (kind : NodeKind) → is_main (sort_of kind) ≡ true → kind ≡ NodeKind.Main
main_kind NodeKind.Main e = refl
main_kind (NodeKind.Filled template) e = absurd (false≢true (sym (template_not_main template) ∙ e))
main_kind other e = absurd (false≢true e)

abbrev first_is_main : List Sort → Bool
first_is_main [] = false
first_is_main (sort ∷ others) = is_main sort

main_first : (items : List Sort) → Fill program_sections items → first_is_main items ≡ true
main_first items (own, others, same, are, rest) =
    ap first_is_main same ∙ ap (λ (front : List Sort). first_is_main (front ++ others)) are

-- ---- in a procedure a run begins

or_right : (one other : Bool) → other ≡ true → (one || other) ≡ true
or_right true other e = refl
or_right false other e = e

any_behind : (own others : List Sort) → list_any begins_run others ≡ true → list_any begins_run (own ++ others) ≡ true
any_behind [] others e = e
any_behind (sort ∷ own) others e = or_right (begins_run sort) (list_any begins_run (own ++ others)) (any_behind own others e)

list_begins : (sort : Sort) (own others : List Sort) → begins_run sort ≡ true → 1 ≤ length own
    → ((k : ℕ) (d : Sort) → k < length own → slice_index_or own k d ≡ sort) → list_any begins_run (own ++ others) ≡ true
list_begins sort [] others begins some all = absurd (omega (arith, some))
list_begins sort (first ∷ own) others begins some all =
    ap (λ (b : Bool). b || list_any begins_run (own ++ others)) (ap begins_run (all 0 sort (omega arith)) ∙ begins)

-- at one of what stands in a list a run begins, if it does at nodes of the sort
pub filled_begins : (sort : Sort) (sections : List PlainSection) (items : List Sort) → begins_run sort ≡ true → Fill (list_of sort ∷ sections) items
    → list_any begins_run items ≡ true
filled_begins sort sections items begins (own, others, same, are, more) =
    ap (list_any begins_run) same ∙ list_begins sort own others begins are.0 are.1

pub procedure_begins : (items : List Sort) → Fill procedure_sections items → list_any begins_run items ≡ true
procedure_begins items (own, others, same, are, rest) =
    ap (list_any begins_run) same ∙ any_behind own others (filled_begins Sort.Statement [] others refl rest)

-- the site of a slot that isn't that of the first node
abbrev site_beside : Label → (inner rest : Forest) → Option Site
site_beside label inner rest =
    option_or (site_among 0 (in_turn (row_of label.kind).sections) inner (end_at label.slot (inner_end label.kind) (place_at 0 1)))
    (site_among 0 false rest (place_at 0 1))

-- ---- what is read behind code

pub read_rest : (front back : List PlainInstr) (instr : PlainInstr) → slice_get (front ++ back) (length front) ≡ Some instr
    → (more : List PlainInstr) × (back ≡ instr ∷ more)
read_rest [] [] instr e = absurd (none-some instr e)
read_rest [] (first ∷ more) instr e = (more, ap (λ (i : PlainInstr). i ∷ more) (same_Some first instr e))
read_rest (own ∷ front) back instr e = read_rest front back instr e

-- ---- the law

-- the span of the first node
own_span : (marks : MarkMap) (items : ItemMap) (label : Label) (inner rest : Forest) → label.slot ≡ 0 → label.kind ≡ NodeKind.Main
    → find nat_cmp 0 (flat_map span_by_slot (node_spans marks items 0 0 (Forest.cons label inner rest)))
    ≡ Some (0, length_around marks items label (node_lengths marks items inner))
own_span marks items label inner rest slot kind =
    let whole = length_around marks items label (node_lengths marks items inner) in
    let others : List NodeSpan =
    node_spans marks items (0 + length (pieces marks items label).before + length (option_to_list (jumps marks items label (node_lengths marks items inner)).ahead))
    (length (option_to_list (jumps marks items label (node_lengths marks items inner)).between)) inner
    ++ node_spans marks items (0 + whole + 0) 0 rest in
    ap (λ (b : Bool). find nat_cmp 0 ((if b then (label.slot, (0, whole)) ∷ [] else []) ++ flat_map span_by_slot others)) (ap has_code kind)
    ∙ ap (λ (n : ℕ). cond (eq_by_cmp nat_cmp 0 n) (Some (0, whole)) (find nat_cmp 0 (flat_map span_by_slot others))) slot

module _ (marks : MarkMap) (items : ItemMap) (label : Label) (inner rest : Forest) (kind : label.kind ≡ NodeKind.Main) where
  abbrev program : Forest
  program = Forest.cons label inner rest

  abbrev instrs : List PlainInstr
  instrs = codes_joined (node_codes marks items program)

  abbrev own : CodePieces
  own = pieces marks items label

  abbrev its : List Declared
  its = items_in items label.slot

  own_before : own.before ≡ flat_map (cell_instr []) its
  own_before = ap (λ (k : NodeKind). (own_pieces marks its (let l : Label = record label { kind = k } in l)).before) kind

  nothing_ahead : (lengths : List ℕ) → option_to_list (jumps marks items label lengths).ahead ≡ []
  nothing_ahead lengths =
      ap (λ (k : NodeKind). option_to_list (own_jumps marks (let l : Label = record label { kind = k } in l) (count_pieces own) (first_length lengths) (other_lengths lengths)).ahead) kind

  cells_first : (place : PlainPlace) → slice_get instrs (0 + length_before marks items label inner) ≡ Some (PlainInstr.place place)
      → (more : List PlainInstr) × (instrs ≡ flat_map (cell_instr []) its ++ (PlainInstr.place place ∷ more))
  cells_first place e =
      let codes = node_codes marks items inner in
      let around : CodeJumps = jumps marks items label (map length codes) in
      let tail : List PlainInstr =
      option_to_list around.ahead
      ++ (codes_around (option_to_list around.between) codes ++ (own.behind ++ option_to_list around.back)) in
      let back : List PlainInstr = tail ++ codes_joined (node_codes marks items rest) in
      let split : instrs ≡ own.before ++ back = append_assoc own.before tail (codes_joined (node_codes marks items rest)) in
      let none : length (option_to_list (jumps marks items label (node_lengths marks items inner)).ahead) ≡ 0 = ap length (nothing_ahead (node_lengths marks items inner)) in
      let long : length own.before ≡ 0 + length_before marks items label inner = omega (arith, none) in
      let (more, is) = read_rest own.before back (PlainInstr.place place) (ap (slice_get (own.before ++ back)) long ∙ (ap (λ (l : List PlainInstr). slice_get l (0 + length_before marks items label inner)) (sym split) ∙ e)) in (
        more,
        split ∙ (ap (λ (l : List PlainInstr). own.before ++ l) is ∙ ap (λ (l : List PlainInstr). l ++ (PlainInstr.place place ∷ more)) own_before),
      )

module _ (bodies : BodiesBegin) where
  -- for a program whose first node is main, in slot 0
  begins_first : (marks : MarkMap) (items : ItemMap) (label : Label) (inner rest : Forest) → IsProgram (Forest.cons label inner rest)
      → ScopeTells items (Forest.cons label inner rest) → label.slot ≡ 0
      → result_of (Enter (Gen marks items (Forest.cons label inner rest))) ≡ Some (First (Forest.cons label inner rest))
  begins_first marks items label inner rest is tells slot =
      let program = Forest.cons label inner rest in
      let found : Site = record { label = label; inner = inner; after = place_at 0 1 } in
      let at_site : site program 0 ≡ Some found = ap (λ (b : Bool). if b then Some found else site_beside label inner rest) (eq-eqb label.slot 0 slot) in
      let kind : label.kind ≡ NodeKind.Main = main_kind label.kind (main_first (sorts program) is.listed) in
      let fill : Fill procedure_sections (sorts inner) =
      subst (λ (k : NodeKind). Fill (row_of k).sections (sorts inner)) kind is.sound.0.inner in
      let place : PlainPlace = begin inner (place_at label.slot 1) in
      let begins = bodies marks items program 0 found (place_at label.slot 1) is at_site (procedure_begins (sorts inner) fill) in
      let entries = flat_map span_by_slot (node_spans marks items 0 0 program) in
      let span : get (Gen marks items program).spans 0 ≡ Some (0, length_around marks items label (node_lengths marks items inner)) =
      get-from_entries nat_cmp_total entries 0 ∙ own_span marks items label inner rest slot kind in
      let start : begins.0 ≡ 0 = ap (λ (o : Option (ℕ × ℕ)). (unwrap_or o (begins.0, 0)).0) (sym begins.2 ∙ span) in
      let its = items_in items label.slot in
      let (more, is_code) =
      cells_first marks items label inner rest kind place
      (ap (λ (n : ℕ). slice_get (codes_joined (node_codes marks items program)) (n + length_before marks items label inner)) (sym start) ∙ begins.3) in
      let own : its ≡ items_inside inner =
      tells label.slot
      ∙ ap (λ (b : Bool). unwrap_or (option_map (λ (node : PlainNode). items_inside node.inner) (if b then Some (let n : PlainNode = record { label = label; inner = inner } in n) else procedure_at rest label.slot)) [])
      (eq-eqb label.slot label.slot refl) in
      let added : Added [] (map unset_named its) = subst (λ (l : List Declared). Added [] (map unset_named l)) (sym own) (inside_added inner) in
      result_with new_run (begun_in (codes_joined (node_codes marks items program)) [])
      ∙ (ap (λ (l : List PlainInstr). option_map new_run (result_of (begun_in l []))) is_code
      ∙ (ap (option_map new_run) (cells_begun its [] place more added)
      ∙ (ap (λ (l : List Declared). Some (let c : PlainConfiguration = record { frames = new_frame 0 place (map unset_named l) ∷ []; taken = 0; output = [] } in c)) own
      ∙ ap (λ (n : ℕ). Some (let c : PlainConfiguration = record { frames = new_frame n place (map unset_named (items_inside inner)) ∷ []; taken = 0; output = [] } in c)) (sym slot))))

  pub code_begins_as_tree : CodeBeginsAsTree
  code_begins_as_tree tree marks items is marked tells = by tree.items is.program tells is.main
    where
      by : (program : Forest) → IsProgram program → ScopeTells items program → first_slot program ≡ Some 0
          → result_of (Enter (Gen marks items program)) ≡ Some (First program)
      by Forest.nil is tells main = absurd (none-some 0 main)
      by (Forest.cons label inner rest) is tells main = begins_first marks items label inner rest is tells (same_Some label.slot 0 main)
