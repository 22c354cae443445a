-- Where code begins. The code of each node at which a run begins starts with the step at its start, but for what passes
-- a run on: this starts with the code of its first item, at which a run begins that comes to it.
use Rattle.std.proofs.Common.{◌≡◌, ℕ, ◌≤◌, ◌<◌, Bool, true, false, List, [], ◌∷◌, ◌++◌, length, map, take, Option, Some, None, refl, ap, sym, subst, ◌∙◌, arith}
use Rattle.std.specs.Prelude.{if◌then◌else◌, is_some, slice_get, slice_index_or}
use Rattle.std.specs.Option.{option_to_list}
use Rattle.std.proofs.Math.Bool.{false≢true}
use Rattle.plcs_base.specs.Mark.{MarkMap}
use Rattle.plcs_base.specs.Scope.{ItemMap}
use Rattle.plcs_base.specs.declared.declared.Declared.{Declared}
use Rattle.plcs_grammar.specs.declared.node_kind.NodeKind.{NodeKind}
use Rattle.plcs_grammar.specs.declared.node_kind.Sort.{Sort}
use Rattle.plcs_grammar.specs.declared.template.Template.{Template}
use Rattle.plcs_grammar.specs.PlainPhrase.{PlainPhrase}
use Rattle.plcs_grammar.specs.Template.{PlainSection, list_of, row_of}
use Rattle.template_tree.specs.Programs.Part.{part_at}
use Rattle.template_tree.specs.Positions.Place.{PlainPlace, begin, begins_run, passes_in, place_at}
use Rattle.template_tree.specs.Programs.PlainTree.{Forest, Label}
use Rattle.template_tree.specs.Programs.Program.{AreNodes, AreParts, Fill, parts_of, sort_of, sorts}
use Rattle.template_tree.specs.Checks.ProgramMaps.{items_in}
use Rattle.plcs_code.specs.ExprCode.{counter_name}
use Rattle.plcs_code.specs.Gen.{code_around, codes_around, codes_joined, node_codes, node_lengths}
use Rattle.plcs_code.specs.Pieces.{count_pieces, first_length, get_piece, jumps, kind_jumps, kind_pieces, other_lengths, pieces, suspension, template_jumps, template_pieces}
use Rattle.plcs_code.specs.PlainInstr.{PlainInstr}
use Rattle.plcs_code.proofs.EndedSteps.{IsTargetList, TargetPart, empty_part, get_parts, listed_part}
use Rattle.plcs_code.proofs.FoundNodes.{inner_jumps, inner_stands, inner_start}
use Rattle.plcs_code.proofs.StoodCode.{StandsAt, first_stands}

-- ---- what begins with a step

-- the code begins with the step that ends at the start of the slot
abbrev pub BeginsAt : (slot : ℕ) → List PlainInstr → Type 0
BeginsAt slot code = (more : List PlainInstr) × (code ≡ PlainInstr.place (place_at slot 0) ∷ more)

-- the code of a GET with a list of variables
listed_begins : (slot : ℕ) (stop : Option PlainInstr) (phrase : PlainPhrase) → IsTargetList phrase → BeginsAt slot (get_piece slot stop (Some phrase))
listed_begins slot stop phrase list =
    subst (λ (p : PlainPhrase). BeginsAt slot (get_piece slot stop (Some p))) (sym list.is) (by stop)
  where
    by : (stop : Option PlainInstr) → BeginsAt slot (get_piece slot stop (Some (PlainPhrase.variable_list (list.first ∷ list.more))))
    by None = (_, refl)
    by (Some instr) = (_, refl)

get_begins : (marks : MarkMap) (slot : ℕ) (parts : List (Option PlainPhrase)) → TargetPart parts
    → BeginsAt slot (get_piece slot (suspension marks slot parts) (part_at parts 0))
get_begins marks slot [] part = elim part [ ]
get_begins marks slot (None ∷ (other ∷ others)) part = elim part [ ]
get_begins marks slot (Some phrase ∷ (other ∷ others)) part = elim part [ ]
get_begins marks slot (None ∷ []) empty_part = (_, refl)
get_begins marks slot (Some phrase ∷ []) (listed_part list) =
    listed_begins slot (suspension marks slot (Some phrase ∷ [])) phrase list

template_begins : (marks : MarkMap) (label : Label) (items : List Declared) (one : Option PlainInstr) (template : Template)
    → AreParts (parts_of (row_of (NodeKind.Filled template)).line) label.parts → begins_run (sort_of (NodeKind.Filled template)) ≡ true
    → passes_in (NodeKind.Filled template) ≡ false
    → BeginsAt label.slot (template_pieces label.slot (suspension marks label.slot label.parts) one label.parts items template).before
template_begins marks label items one Template.If are begins stays = (_, refl)
template_begins marks label items one Template.IfElse are begins stays = (_, refl)
template_begins marks label items one Template.While are begins stays = (_, refl)
template_begins marks label items one Template.For are begins stays = (_, refl)
template_begins marks label items one Template.Get are begins stays = get_begins marks label.slot label.parts (get_parts label.parts are)
template_begins marks label items one Template.Put are begins stays = (_, refl)
template_begins marks label items one Template.PutSkip are begins stays = (_, refl)
template_begins marks label items one Template.Call are begins stays = (_, refl)
template_begins marks label items one Template.Return are begins stays = (_, refl)
template_begins marks label items one Template.Until are begins stays = absurd (false≢true (sym stays))
template_begins marks label items one Template.Group are begins stays = absurd (false≢true (sym stays))
template_begins marks label items one Template.Comment are begins stays = absurd (false≢true (sym stays))
template_begins marks label items one other are begins stays = absurd (false≢true begins)

kind_begins : (marks : MarkMap) (label : Label) (items : List Declared) (one : Option PlainInstr) (kind : NodeKind)
    → AreParts (parts_of (row_of kind).line) label.parts → begins_run (sort_of kind) ≡ true → passes_in kind ≡ false
    → BeginsAt label.slot (kind_pieces label.slot (suspension marks label.slot label.parts) one label.parts items kind).before
kind_begins marks label items one NodeKind.StatementHole are begins stays = (_, refl)
kind_begins marks label items one NodeKind.Assign are begins stays = (_, refl)
kind_begins marks label items one (NodeKind.Filled template) are begins stays =
    template_begins marks label items one template are begins stays
kind_begins marks label items one other are begins stays = absurd (false≢true begins)

-- the code of a node at which a run begins, and which doesn't pass it on, begins with the step at its start
pub node_begins : (marks : MarkMap) (items : ItemMap) (label : Label) (codes : List (List PlainInstr))
    → AreParts (parts_of (row_of label.kind).line) label.parts → begins_run (sort_of label.kind) ≡ true → passes_in label.kind ≡ false
    → BeginsAt label.slot (code_around marks items label codes)
node_begins marks items label codes are begins stays =
    let own = kind_begins marks label (items_in items label.slot) (suspension marks label.slot (take 1 label.parts)) label.kind are begins stays in
    let around = jumps marks items label (map length codes) in
    let rest =
    option_to_list around.ahead
    ++ (codes_around (option_to_list around.between) codes ++ ((pieces marks items label).behind ++ option_to_list around.back)) in
    (own.0 ++ rest, ap (λ (before : List PlainInstr). before ++ rest) own.1)

-- ---- what passes a run on

-- what passes a run on has nothing of its own before what stands inside it
record PassesOn (own ahead : List PlainInstr) : Type 0 where
  before : own ≡ []
  jump : ahead ≡ []

template_passes : (slot : ℕ) (all one : Option PlainInstr) (parts : List (Option PlainPhrase)) (items : List Declared) (counter : Option (List ℕ)) (own first others : ℕ) (template : Template)
    → passes_in (NodeKind.Filled template) ≡ true
    → PassesOn (template_pieces slot all one parts items template).before
    (option_to_list (template_jumps slot counter (is_some all) (is_some one) own first others template).ahead)
template_passes slot all one parts items counter own first others Template.Until is = record { before = refl; jump = refl }
template_passes slot all one parts items counter own first others Template.Group is = record { before = refl; jump = refl }
template_passes slot all one parts items counter own first others Template.Comment is = record { before = refl; jump = refl }
template_passes slot all one parts items counter own first others other is = absurd (false≢true is)

kind_passes : (slot : ℕ) (all one : Option PlainInstr) (parts : List (Option PlainPhrase)) (items : List Declared) (counter : Option (List ℕ)) (own first others : ℕ) (kind : NodeKind)
    → passes_in kind ≡ true
    → PassesOn (kind_pieces slot all one parts items kind).before
    (option_to_list (kind_jumps slot counter (is_some all) (is_some one) own first others kind).ahead)
kind_passes slot all one parts items counter own first others (NodeKind.Filled template) is =
    template_passes slot all one parts items counter own first others template is
kind_passes slot all one parts items counter own first others other is = absurd (false≢true is)

-- what stands inside it begins where it does
passed_start : (marks : MarkMap) (items : ItemMap) (start : ℕ) (label : Label) (inner : Forest) → passes_in label.kind ≡ true
    → inner_start marks items start label inner ≡ start
passed_start marks items start label inner is =
    let on : PassesOn (pieces marks items label).before (option_to_list (inner_jumps marks items label inner).ahead) =
    kind_passes label.slot (suspension marks label.slot label.parts) (suspension marks label.slot (take 1 label.parts)) label.parts
    (items_in items label.slot) (counter_name (part_at label.parts 0)) (count_pieces (pieces marks items label))
    (first_length (node_lengths marks items inner)) (other_lengths (node_lengths marks items inner)) label.kind is in
    let a : length (pieces marks items label).before ≡ 0 = ap length on.before in
    let b : length (option_to_list (inner_jumps marks items label inner).ahead) ≡ 0 = ap length on.jump in
    omega (arith, a, b)

-- ---- the first of nodes

-- a run begins at the first of the sorts
abbrev pub FirstBegins : List Sort → Type 0
FirstBegins [] = ⊥
FirstBegins (sort ∷ others) = begins_run sort ≡ true

-- in a list of one such sort it begins at the first
list_starts : (sort : Sort) (own others : List Sort) → begins_run sort ≡ true → 1 ≤ length own
    → ((k : ℕ) (d : Sort) → k < length own → slice_index_or own k d ≡ sort) → FirstBegins (own ++ others)
list_starts sort [] others begins some all = absurd (omega (arith, some))
list_starts sort (first ∷ own) others begins some all = ap begins_run (all 0 sort (omega (arith, some))) ∙ begins

filled_starts : (sort : Sort) (sections : List PlainSection) (items : List Sort) → begins_run sort ≡ true → Fill (list_of sort ∷ sections) items
    → FirstBegins items
filled_starts sort sections items begins (own, others, same, are, more) =
    subst FirstBegins (sym same) (list_starts sort own others begins are.0 are.1)

template_starts : (template : Template) (items : List Sort) → passes_in (NodeKind.Filled template) ≡ true
    → Fill (row_of (NodeKind.Filled template)).sections items → FirstBegins items
template_starts Template.Until items e fill = filled_starts Sort.Statement [] items refl fill
template_starts Template.Group items e fill = filled_starts Sort.Statement [] items refl fill
template_starts Template.Comment items e fill = filled_starts Sort.Statement [] items refl fill
template_starts other items e fill = absurd (false≢true e)

-- what passes a run on to its first item has one there at which a run begins
pub kind_starts : (kind : NodeKind) (items : List Sort) → passes_in kind ≡ true → Fill (row_of kind).sections items → FirstBegins items
kind_starts (NodeKind.Filled template) items e fill = template_starts template items e fill
kind_starts other items e fill = absurd (false≢true e)

-- ---- what is read where code begins

read_behind : (front : List PlainInstr) (instr : PlainInstr) (back : List PlainInstr) → slice_get (front ++ (instr ∷ back)) (length front) ≡ Some instr
read_behind [] instr back = refl
read_behind (first ∷ front) instr back = read_behind front instr back

-- the first instruction of code that stands at an address is read there
pub stands_read : (instrs : List PlainInstr) (address : ℕ) (instr : PlainInstr) (code : List PlainInstr) → StandsAt instrs address (instr ∷ code)
    → slice_get instrs address ≡ Some instr
stands_read instrs address instr code stands =
    ap (slice_get instrs) (sym stands.long)
    ∙ ap (λ (all : List PlainInstr). slice_get all (length stands.front)) stands.is
    ∙ read_behind stands.front instr (code ++ stands.back)

-- where the code of nodes stands, at the first of which a run begins, a run that comes to them begins
pub begin_read : (marks : MarkMap) (items : ItemMap) (instrs : List PlainInstr) (start : ℕ) (between : List PlainInstr) (nodes : Forest) (behind : PlainPlace)
    → AreNodes nodes → FirstBegins (sorts nodes) → StandsAt instrs start (codes_around between (node_codes marks items nodes))
    → slice_get instrs start ≡ Some (PlainInstr.place (begin nodes behind))
begin_read marks items instrs start between Forest.nil behind are starts stands = absurd starts
begin_read marks items instrs start between (Forest.cons label inner rest) behind are starts stands =
    let code = code_around marks items label (node_codes marks items inner) in
    let own : StandsAt instrs start code = first_stands instrs start code (between ++ codes_joined (node_codes marks items rest)) stands in
    by (passes_in label.kind) refl own
    (λ is. begin_read marks items instrs (inner_start marks items start label inner) (option_to_list (inner_jumps marks items label inner).between) inner behind are.1
    (kind_starts label.kind (sorts inner) is are.0.inner) (inner_stands marks items instrs start label inner own))
    ∙ ap (λ (b : Bool). Some (PlainInstr.place (if b then (if passes_in label.kind then begin inner behind else place_at label.slot 0) else begin rest behind))) (sym starts)
  where
    by : (passes : Bool) → passes_in label.kind ≡ passes
        → StandsAt instrs start (code_around marks items label (node_codes marks items inner))
        → (passes_in label.kind ≡ true → slice_get instrs (inner_start marks items start label inner) ≡ Some (PlainInstr.place (begin inner behind)))
        → slice_get instrs start ≡ Some (PlainInstr.place (if passes then begin inner behind else place_at label.slot 0))
    by true is own inside = ap (slice_get instrs) (sym (passed_start marks items start label inner is)) ∙ inside is
    by false stays own inside =
        let begins = node_begins marks items label (node_codes marks items inner) are.0.parts starts stays in
        stands_read instrs start (PlainInstr.place (place_at label.slot 0)) begins.0 (subst (StandsAt instrs start) begins.1 own)

-- where the code of what passes a run on stands, a run that comes to it begins
pub passed_read : (marks : MarkMap) (items : ItemMap) (instrs : List PlainInstr) (start : ℕ) (label : Label) (inner : Forest) (behind : PlainPlace)
    → Fill (row_of label.kind).sections (sorts inner) → AreNodes inner → passes_in label.kind ≡ true
    → StandsAt instrs start (code_around marks items label (node_codes marks items inner))
    → slice_get instrs start ≡ Some (PlainInstr.place (begin inner behind))
passed_read marks items instrs start label inner behind fill are is stands =
    ap (slice_get instrs) (sym (passed_start marks items start label inner is))
    ∙ begin_read marks items instrs (inner_start marks items start label inner) (option_to_list (inner_jumps marks items label inner).between) inner behind are
    (kind_starts label.kind (sorts inner) is fill) (inner_stands marks items instrs start label inner stands)
