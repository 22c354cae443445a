-- Each jump of a node's code stays in it. A jump goes by the lengths of what it leaves out, so its target is told by
-- where it stands: at the end of the first body, of all, or where the loop tests again. All the rest of a node's own
-- code jumps nowhere, and the jumps of what stands inside it stay there.
use Rattle.std.proofs.Common.{◌≡◌, ℕ, zero, suc, ◌+◌, ◌≤◌, Bool, true, false, List, [], ◌∷◌, ◌++◌, length, map, Option, Some, None, refl, sym, subst, arith}
use Rattle.std.specs.Prelude.{ℤ, ◌+ℤ◌, pos, All, flat_map, is_some, option_and_then, slice_get, sum, take, unwrap_or}
use Rattle.std.specs.Option.{option_to_list}
use Rattle.std.proofs.lemmas.Int.{ints}
use Rattle.std.proofs.lemmas.List.Elements.{All-cons, All-nil}
use Rattle.std.proofs.lemmas.List.Sums.{sum_by-cons}
use Rattle.std.proofs.lemmas.Option.{none-some}
use Rattle.plcs_base.specs.Mark.{MarkMap}
use Rattle.plcs_base.specs.Scope.{ItemMap}
use Rattle.plcs_base.specs.declared.declared.Declared.{Declared}
use Rattle.plcs_grammar.specs.declared.node_kind.NodeKind.{NodeKind}
use Rattle.plcs_grammar.specs.declared.template.Template.{Template}
use Rattle.plcs_grammar.specs.PlainPhrase.{PlainPhrase, PlainVarRef}
use Rattle.template_tree.specs.Checks.Environment.{parameters_given}
use Rattle.template_tree.specs.Programs.Part.{part_at}
use Rattle.template_tree.specs.Programs.PlainTree.{Forest}
use Rattle.template_tree.specs.Checks.ProgramMaps.{items_in}
use Rattle.plcs_code.specs.CodeLaws.{JumpsStayIn, JumpsStayInNodes, JumpsStayInside, jump_of}
use Rattle.plcs_code.specs.ExprCode.{counter_name, get_targets, index_instrs, items_instrs, listed_exprs, part_instrs, variable_instr}
use Rattle.plcs_code.specs.Gen.{code_with, codes_around, codes_joined, node_codes}
use Rattle.plcs_code.specs.Pieces.{CodeJumps, CodePieces, cell_instr, first_length, get_piece, jumps, kind_jumps, kind_pieces, other_lengths, parameters_instrs, piece_at, pieces, suspension, template_jumps, template_pieces}
use Rattle.plcs_code.specs.PlainInstr.{PlainInstr}
use Rattle.plcs_code.proofs.CodeActions.{AreActions, IsStop, actions_append, cells_actions, is_action, listed_actions, parameters_actions, part_actions, suspension_stops, target_actions}
use Rattle.plcs_code.proofs.CodeLengths.{around_length, code_length, joined_length, jump_length}

-- ---- jumps within so many instructions

-- what jumps so far from an address, if it jumps, goes to one of so many instructions, or to their end
abbrev Stays : (address whole : ℕ) → Option ℤ → Type 0
Stays address whole None = Unit {0}
Stays address whole (Some d) = (target : ℕ) × (pos target ≡ pos (address + 1) +ℤ d) × (target ≤ whole)

-- each of the instructions, of which the first stands at an address, goes to one of so many, or to their end
abbrev AllStay : (address whole : ℕ) → List PlainInstr → Type 0
AllStay address whole [] = Unit {0}
AllStay address whole (instr ∷ code) = Stays address whole (jump_of instr) × AllStay (address + 1) whole code

-- the same where as many more instructions stand before, and maybe more behind
stays_later : (address whole n later more : ℕ) (jump : Option ℤ) → later ≡ address + n → whole + n ≤ more → Stays address whole jump → Stays later more jump
stays_later address whole n later more None same fits stays = tt
stays_later address whole n later more (Some d) same fits (target, e, within) =
    (target + n, omega (arith, ints, same, e), omega (arith, fits, within))

all_later : (address whole n later more : ℕ) (code : List PlainInstr) → later ≡ address + n → whole + n ≤ more → AllStay address whole code → AllStay later more code
all_later address whole n later more [] same fits all = tt
all_later address whole n later more (instr ∷ code) same fits all = (
  stays_later address whole n later more (jump_of instr) same fits all.0,
  all_later (address + 1) whole n (later + 1) more code (omega (arith, same)) fits all.1,
)

all_append : (address whole behind : ℕ) (one other : List PlainInstr) → behind ≡ address + length one
    → AllStay address whole one → AllStay behind whole other → AllStay address whole (one ++ other)
all_append address whole behind [] other same first second =
    let e : behind ≡ address = omega (arith, same) in subst (λ (n : ℕ). AllStay n whole other) e second
all_append address whole behind (instr ∷ one) other same first second =
    (first.0, all_append (address + 1) whole behind one other (omega (arith, same)) first.1 second)

-- what is read at an address
stays_read : (address whole : ℕ) (code : List PlainInstr) → AllStay address whole code
    → (k : ℕ) (d : ℤ) → option_and_then jump_of (slice_get code k) ≡ Some d → Stays (address + k) whole (Some d)
stays_read address whole [] all k d e = absurd (none-some d e)
stays_read address whole (instr ∷ code) all zero d e =
    let here : Stays address whole (Some d) = subst (Stays address whole) e all.0 in
    let same : address ≡ address + zero = omega arith in
    subst (λ (n : ℕ). Stays n whole (Some d)) same here
stays_read address whole (instr ∷ code) all (suc k) d e =
    let same : (address + 1) + k ≡ address + suc k = omega arith in
    subst (λ (n : ℕ). Stays n whole (Some d)) same (stays_read (address + 1) whole code all.1 k d e)

-- the jumps of each of the codes stay in it
abbrev EachStays : List (List PlainInstr) → Type 0
EachStays [] = Unit {0}
EachStays (code ∷ codes) = AllStay 0 (length code) code × EachStays codes

-- ---- code that jumps nowhere

abbrev JumpsNowhere : List PlainInstr → Type 0
JumpsNowhere [] = Unit {0}
JumpsNowhere (instr ∷ code) = (jump_of instr ≡ None) × JumpsNowhere code

nowhere_append : (one other : List PlainInstr) → JumpsNowhere one → JumpsNowhere other → JumpsNowhere (one ++ other)
nowhere_append [] other first second = second
nowhere_append (instr ∷ one) other first second = (first.0, nowhere_append one other first.1 second)

nowhere_stays : (address whole : ℕ) (code : List PlainInstr) → JumpsNowhere code → AllStay address whole code
nowhere_stays address whole [] none = tt
nowhere_stays address whole (instr ∷ code) none =
    (subst (Stays address whole) (sym none.0) tt, nowhere_stays (address + 1) whole code none.1)

action_nowhere : (instr : PlainInstr) → is_action instr ≡ true → jump_of instr ≡ None
action_nowhere (PlainInstr.jump d) is = absurd (cc)
action_nowhere (PlainInstr.jump_false d) is = absurd (cc)
action_nowhere (PlainInstr.for_enter slot name d) is = absurd (cc)
action_nowhere (PlainInstr.for_next slot name d) is = absurd (cc)
action_nowhere other is = refl

actions_nowhere : (code : List PlainInstr) → AreActions code → JumpsNowhere code
actions_nowhere [] are = tt
actions_nowhere (instr ∷ code) are = (action_nowhere instr are.0, actions_nowhere code are.1)

piece_nowhere : (slot point : ℕ) (stop : Option PlainInstr) (code : List PlainInstr) → IsStop stop → AreActions code → JumpsNowhere (piece_at slot point stop code)
piece_nowhere slot point None code is are = (refl, actions_nowhere code are)
piece_nowhere slot point (Some stop) code is are = (refl, (action_nowhere stop is, tt))

items_nowhere : (slot k : ℕ) (targets : List PlainVarRef) → JumpsNowhere (items_instrs slot k targets)
items_nowhere slot k [] = tt
items_nowhere slot k (target ∷ targets) =
    let own = target_actions PlainInstr.get PlainInstr.get_at target (λ _. refl) (λ _. refl) in
    let code = index_instrs target in
    let instr = variable_instr PlainInstr.get PlainInstr.get_at target in (
      refl,
      nowhere_append code (instr ∷ items_instrs slot (k + 1) targets) (actions_nowhere code own.0)
          (action_nowhere instr own.1, items_nowhere slot (k + 1) targets),
    )

get_nowhere : (slot : ℕ) (stop : Option PlainInstr) (part : Option PlainPhrase) → IsStop stop → JumpsNowhere (get_piece slot stop part)
get_nowhere slot None part is = items_nowhere slot 0 (get_targets part)
get_nowhere slot (Some stop) part is = (refl, (action_nowhere stop is, tt))

-- pieces that jump nowhere
record PiecesStay (own : CodePieces) : Type 0 where
  before : JumpsNowhere own.before
  behind : JumpsNowhere own.behind

procedure_nowhere : (items : List Declared) (parameters : List (List ℕ))
    → JumpsNowhere (parameters_instrs items [] parameters ++ flat_map (cell_instr parameters) items)
procedure_nowhere items parameters =
    actions_nowhere (parameters_instrs items [] parameters ++ flat_map (cell_instr parameters) items)
    (actions_append (parameters_instrs items [] parameters) (flat_map (cell_instr parameters) items)
    (parameters_actions items [] parameters) (cells_actions parameters items))

template_nowhere : (slot : ℕ) (all one : Option PlainInstr) (parts : List (Option PlainPhrase)) (items : List Declared) (template : Template)
    → IsStop all → IsStop one → PiecesStay (template_pieces slot all one parts items template)
template_nowhere slot all one parts items Template.Fixed stop first = record { before = tt; behind = tt }
template_nowhere slot all one parts items Template.Bit stop first = record { before = tt; behind = tt }
template_nowhere slot all one parts items Template.Char stop first = record { before = tt; behind = tt }
template_nowhere slot all one parts items Template.If stop first =
    record { before = piece_nowhere slot 0 all (part_instrs (part_at parts 0)) stop (part_actions (part_at parts 0)); behind = tt }
template_nowhere slot all one parts items Template.IfElse stop first =
    record { before = piece_nowhere slot 0 all (part_instrs (part_at parts 0)) stop (part_actions (part_at parts 0)); behind = tt }
template_nowhere slot all one parts items Template.While stop first =
    record { before = piece_nowhere slot 0 all (part_instrs (part_at parts 0)) stop (part_actions (part_at parts 0)); behind = tt }
template_nowhere slot all one parts items Template.For stop first =
    record {
      before =
          piece_nowhere slot 0 all (part_instrs (part_at parts 1) ++ (part_instrs (part_at parts 2) ++ part_instrs (part_at parts 3))) stop
          (actions_append (part_instrs (part_at parts 1)) (part_instrs (part_at parts 2) ++ part_instrs (part_at parts 3))
          (part_actions (part_at parts 1))
          (actions_append (part_instrs (part_at parts 2)) (part_instrs (part_at parts 3)) (part_actions (part_at parts 2))
          (part_actions (part_at parts 3))));
      behind = piece_nowhere slot 1 one [] first tt;
    }
template_nowhere slot all one parts items Template.Until stop first =
    record { before = tt; behind = piece_nowhere slot 1 one (part_instrs (part_at parts 0)) first (part_actions (part_at parts 0)) }
template_nowhere slot all one parts items Template.Group stop first = record { before = tt; behind = tt }
template_nowhere slot all one parts items Template.Get stop first =
    record { before = get_nowhere slot all (part_at parts 0) stop; behind = tt }
template_nowhere slot all one parts items Template.Put stop first =
    record {
      before = piece_nowhere slot 0 all _ stop (listed_actions PlainInstr.put (listed_exprs (part_at parts 0)) (λ _. refl));
      behind = tt;
    }
template_nowhere slot all one parts items Template.PutSkip stop first =
    record {
      before = piece_nowhere slot 0 all _ stop (listed_actions PlainInstr.put_skip (listed_exprs (part_at parts 0)) (λ _. refl));
      behind = tt;
    }
template_nowhere slot all one parts items Template.Call stop first =
    record { before = piece_nowhere slot 0 all (part_instrs (part_at parts 0)) stop (part_actions (part_at parts 0)); behind = tt }
template_nowhere slot all one parts items Template.Return stop first = record { before = (refl, (refl, tt)); behind = tt }
template_nowhere slot all one parts items Template.Comment stop first = record { before = tt; behind = tt }
template_nowhere slot all one parts items Template.Proc stop first =
    record { before = procedure_nowhere items []; behind = (refl, (refl, tt)) }
template_nowhere slot all one parts items Template.ProcP stop first =
    record { before = procedure_nowhere items (unwrap_or (parameters_given parts) []); behind = (refl, (refl, tt)) }

kind_nowhere : (slot : ℕ) (all one : Option PlainInstr) (parts : List (Option PlainPhrase)) (items : List Declared) (kind : NodeKind)
    → IsStop all → IsStop one → PiecesStay (kind_pieces slot all one parts items kind)
kind_nowhere slot all one parts items NodeKind.DeclarationHole stop first = record { before = tt; behind = tt }
kind_nowhere slot all one parts items NodeKind.StatementHole stop first = record { before = (refl, (refl, tt)); behind = tt }
kind_nowhere slot all one parts items NodeKind.ProcedureHole stop first = record { before = tt; behind = tt }
kind_nowhere slot all one parts items NodeKind.Main stop first =
    record { before = procedure_nowhere items []; behind = (refl, (refl, tt)) }
kind_nowhere slot all one parts items NodeKind.Assign stop first =
    record { before = piece_nowhere slot 0 all (part_instrs (part_at parts 0)) stop (part_actions (part_at parts 0)); behind = tt }
kind_nowhere slot all one parts items (NodeKind.Filled template) stop first =
    template_nowhere slot all one parts items template stop first

-- ---- the jumps of a node

-- a jump, if there is one
abbrev JumpStays : (address whole : ℕ) → Option PlainInstr → Type 0
JumpStays address whole jump = Stays address whole (option_and_then jump_of jump)

-- how many instructions a node's code has, with so many in its pieces and in the codes inside it
abbrev whole_length : (before behind first others : ℕ) → CodeJumps → ℕ
whole_length before behind first others around =
    before + jump_length around.ahead + first + jump_length around.between + others + behind
    + jump_length around.back

-- the jumps of a node stay among the instructions of its code
record JumpsRight (before behind first others : ℕ) (around : CodeJumps) : Type 0 where
  ahead : JumpStays before (whole_length before behind first others around) around.ahead
  between :
      JumpStays (before + jump_length around.ahead + first) (whole_length before behind first others around) around.between
  back :
      JumpStays
      (before + jump_length around.ahead + first + jump_length around.between + others + behind)
      (whole_length before behind first others around) around.back

-- the jumps of a node without jumps
none_right : (before behind first others : ℕ) → JumpsRight before behind first others record { ahead = None; between = None; back = None }
none_right before behind first others = record { ahead = tt; between = tt; back = tt }

if_right : (slot : ℕ) (counter : Option (List ℕ)) (all one : Bool) (before behind first others : ℕ)
    → JumpsRight before behind first others (template_jumps slot counter all one (before + behind) first others Template.If)
if_right slot counter true one before behind first others = record { ahead = tt; between = tt; back = tt }
if_right slot counter false one before behind first others =
    record {
      ahead = (before + 1 + first + others, omega (arith, ints), omega arith);
      between = tt;
      back = tt;
    }

if_else_right : (slot : ℕ) (counter : Option (List ℕ)) (all one : Bool) (before behind first others : ℕ)
    → JumpsRight before behind first others (template_jumps slot counter all one (before + behind) first others Template.IfElse)
if_else_right slot counter true one before behind first others =
    record {
      ahead = tt;
      between = (before + first + 1 + others, omega (arith, ints), omega arith);
      back = tt;
    }
if_else_right slot counter false one before behind first others =
    record {
      ahead = (before + 1 + first + 1, omega (arith, ints), omega arith);
      between = (before + 1 + first + 1 + others, omega (arith, ints), omega arith);
      back = tt;
    }

while_right : (slot : ℕ) (counter : Option (List ℕ)) (all one : Bool) (before behind first others : ℕ)
    → JumpsRight before behind first others (template_jumps slot counter all one (before + behind) first others Template.While)
while_right slot counter true one before behind first others =
    record {
      ahead = tt;
      between = tt;
      back = (0, omega (arith, ints), omega arith);
    }
while_right slot counter false one before behind first others =
    record {
      ahead = (before + 1 + first + others + 1, omega (arith, ints), omega arith);
      between = tt;
      back = (0, omega (arith, ints), omega arith);
    }

-- behind the body of a loop that counts there are two instructions
for_right : (slot : ℕ) (counter : Option (List ℕ)) (all : Bool) (one : Option PlainInstr) (before first others : ℕ)
    → JumpsRight before (length (piece_at slot 1 one [])) first others
    (template_jumps slot counter all (is_some one) (before + length (piece_at slot 1 one [])) first others Template.For)
for_right slot None true None before first others = record { ahead = tt; between = tt; back = tt }
for_right slot None true (Some stop) before first others = record { ahead = tt; between = tt; back = tt }
for_right slot None false None before first others = record { ahead = tt; between = tt; back = tt }
for_right slot None false (Some stop) before first others = record { ahead = tt; between = tt; back = tt }
for_right slot (Some name) true None before first others =
    record {
      ahead = tt;
      between = tt;
      back = (before, omega (arith, ints), omega arith);
    }
for_right slot (Some name) true (Some stop) before first others = record { ahead = tt; between = tt; back = tt }
for_right slot (Some name) false None before first others =
    record {
      ahead = (before + 1 + first + others + 2, omega (arith, ints), omega arith);
      between = tt;
      back = (before + 1, omega (arith, ints), omega arith);
    }
for_right slot (Some name) false (Some stop) before first others =
    record {
      ahead = (before + 1 + first + others + 2, omega (arith, ints), omega arith);
      between = tt;
      back = tt;
    }

-- the test at the end of a loop goes back to where its code begins
until_right : (slot : ℕ) (counter : Option (List ℕ)) (all one : Bool) (before behind first others : ℕ)
    → JumpsRight before behind first others (template_jumps slot counter all one (before + behind) first others Template.Until)
until_right slot counter all true before behind first others = record { ahead = tt; between = tt; back = tt }
until_right slot counter all false before behind first others =
    record {
      ahead = tt;
      between = tt;
      back = (0, omega (arith, ints), omega arith);
    }

-- the jumps by the table, with the pieces by the table
abbrev TemplateRight : (slot : ℕ) (all one : Option PlainInstr) (parts : List (Option PlainPhrase)) (items : List Declared)
    (counter : Option (List ℕ)) (before first others : ℕ) (template : Template) → Type 0
TemplateRight slot all one parts items counter before first others template =
    JumpsRight before (length (template_pieces slot all one parts items template).behind) first others
    (template_jumps slot counter (is_some all) (is_some one)
    (before + length (template_pieces slot all one parts items template).behind) first others template)

template_right : (slot : ℕ) (all one : Option PlainInstr) (parts : List (Option PlainPhrase)) (items : List Declared)
    (counter : Option (List ℕ)) (before first others : ℕ) (template : Template)
    → TemplateRight slot all one parts items counter before first others template
template_right slot all one parts items counter before first others Template.If =
    if_right slot counter (is_some all) (is_some one) before 0 first others
template_right slot all one parts items counter before first others Template.IfElse =
    if_else_right slot counter (is_some all) (is_some one) before 0 first others
template_right slot all one parts items counter before first others Template.While =
    while_right slot counter (is_some all) (is_some one) before 0 first others
template_right slot all one parts items counter before first others Template.For =
    for_right slot counter (is_some all) one before first others
template_right slot all one parts items counter before first others Template.Until =
    until_right slot counter (is_some all) (is_some one) before
    (length (template_pieces slot all one parts items Template.Until).behind) first others
template_right slot all one parts items counter before first others other = none_right before _ first others

kind_right : (slot : ℕ) (all one : Option PlainInstr) (parts : List (Option PlainPhrase)) (items : List Declared)
    (counter : Option (List ℕ)) (before first others : ℕ) (kind : NodeKind)
    → JumpsRight before (length (kind_pieces slot all one parts items kind).behind) first others
    (kind_jumps slot counter (is_some all) (is_some one) (before + length (kind_pieces slot all one parts items kind).behind)
    first others kind)
kind_right slot all one parts items counter before first others (NodeKind.Filled template) =
    template_right slot all one parts items counter before first others template
kind_right slot all one parts items counter before first others other = none_right before _ first others

-- ---- the code of a node

jump_stays : (address whole : ℕ) (jump : Option PlainInstr) → JumpStays address whole jump → AllStay address whole (option_to_list jump)
jump_stays address whole None stays = tt
jump_stays address whole (Some instr) stays = (stays, tt)

-- codes joined, each of which stays in itself
joined_stays : (address whole : ℕ) (codes : List (List PlainInstr)) → address + sum (map length codes) ≤ whole → EachStays codes
    → AllStay address whole (codes_joined codes)
joined_stays address whole [] fits each = tt
joined_stays address whole (code ∷ codes) fits each =
    let total : sum (map length (code ∷ codes)) ≡ length code + sum (map length codes) = sum_by-cons (λ n. n) (length code) (map length codes) in
    all_append address whole (address + length code) code (codes_joined codes) refl
    (all_later 0 (length code) address address whole code (omega arith) (omega (arith, fits, total)) each.0)
    (joined_stays (address + length code) whole codes (omega (arith, fits, total)) each.1)

-- and around what stands between the first one and the others
around_stays : (address whole : ℕ) (between : Option PlainInstr) (codes : List (List PlainInstr))
    → address + first_length (map length codes) + jump_length between + other_lengths (map length codes) ≤ whole
    → JumpStays (address + first_length (map length codes)) whole between → EachStays codes
    → AllStay address whole (codes_around (option_to_list between) codes)
around_stays address whole between [] fits stays each =
    let same : address + 0 ≡ address = omega arith in
    jump_stays address whole between (subst (λ (n : ℕ). JumpStays n whole between) same stays)
around_stays address whole between (code ∷ codes) fits stays each =
    all_append address whole (address + length code) code (option_to_list between ++ codes_joined codes) refl
    (all_later 0 (length code) address address whole code (omega arith) (omega (arith, fits)) each.0)
    (all_append (address + length code) whole (address + length code + jump_length between) (option_to_list between)
    (codes_joined codes) refl
    (jump_stays (address + length code) whole between stays)
    (joined_stays (address + length code + jump_length between) whole codes fits each.1))

-- the lengths of codes are that of the first one and those of the others
pub lengths_split : (lengths : List ℕ) → sum lengths ≡ first_length lengths + other_lengths lengths
lengths_split [] = refl
lengths_split (n ∷ lengths) = sum_by-cons (λ n. n) n lengths

-- the jumps of the code of a node stay in it
with_stays : (own : CodePieces) (around : CodeJumps) (codes : List (List PlainInstr)) → PiecesStay own
    → JumpsRight (length own.before) (length own.behind) (first_length (map length codes)) (other_lengths (map length codes)) around
    → EachStays codes → AllStay 0 (length (code_with own around codes)) (code_with own around codes)
with_stays own around codes pieces right each =
    let ahead = option_to_list around.ahead in
    let between = option_to_list around.between in
    let back = option_to_list around.back in
    let inside = codes_around between codes in
    let first = first_length (map length codes) in
    let others = other_lengths (map length codes) in
    let before = length own.before in
    let behind = length own.behind in
    let whole = whole_length before behind first others around in
    let start = before + length ahead in
    let end = before + length ahead + first + length between + others in
    let sums : sum (map length codes) ≡ first + others = lengths_split (map length codes) in
    let long : length inside ≡ length between + sum (map length codes) = around_length between codes in
    let total : length (code_with own around codes) ≡ whole = omega (arith, code_length own around codes, sums) in
    let all : AllStay 0 whole (code_with own around codes) =
    all_append 0 whole before own.before (ahead ++ (inside ++ (own.behind ++ back))) (omega arith)
    (nowhere_stays 0 whole own.before pieces.before)
    (all_append before whole start ahead (inside ++ (own.behind ++ back)) refl
    (jump_stays before whole around.ahead right.ahead)
    (all_append start whole end inside (own.behind ++ back) (omega (arith, long, sums))
    (around_stays start whole around.between codes (omega arith) right.between each)
    (all_append end whole (end + behind) own.behind back refl
    (nowhere_stays end whole own.behind pieces.behind)
    (jump_stays (end + behind) whole around.back right.back)))) in
    subst (λ (n : ℕ). AllStay 0 n (code_with own around codes)) (sym total) all

-- ---- the law

codes_stay : (marks : MarkMap) (items : ItemMap) (nodes : Forest) → EachStays (node_codes marks items nodes)
codes_stay marks items Forest.nil = tt
codes_stay marks items (Forest.cons label inner rest) =
    let codes = node_codes marks items inner in
    let all = suspension marks label.slot label.parts in
    let one = suspension marks label.slot (take 1 label.parts) in (
      with_stays (pieces marks items label) (jumps marks items label (map length codes)) codes
          (kind_nowhere label.slot all one label.parts (items_in items label.slot) label.kind
          (suspension_stops marks label.slot label.parts) (suspension_stops marks label.slot (take 1 label.parts)))
          (kind_right label.slot all one label.parts (items_in items label.slot) (counter_name (part_at label.parts 0))
          (length (pieces marks items label).before) (first_length (map length codes)) (other_lengths (map length codes)) label.kind)
          (codes_stay marks items inner),
      codes_stay marks items rest,
    )

-- jumps that stay among all instructions from the first address on stay in the code
stay_in : (code : List PlainInstr) → AllStay 0 (length code) code → JumpsStayIn code
stay_in code all address d e =
    let there : Stays (0 + address) (length code) (Some d) = stays_read 0 (length code) code all address d e in
    (there.0, omega (arith, ints, there.1), there.2)

each_stay_in : (codes : List (List PlainInstr)) → EachStays codes → All JumpsStayIn codes
each_stay_in [] each = All-nil JumpsStayIn
each_stay_in (code ∷ codes) each = All-cons JumpsStayIn code codes (stay_in code each.0) (each_stay_in codes each.1)

pub jumps_stay_in_nodes : JumpsStayInNodes
jumps_stay_in_nodes marks items nodes = each_stay_in (node_codes marks items nodes) (codes_stay marks items nodes)

pub jumps_stay_inside : JumpsStayInside
jumps_stay_inside marks items program =
    let codes = node_codes marks items program in
    let long : length (codes_joined codes) ≡ sum (map length codes) = joined_length codes in
    stay_in (codes_joined codes) (joined_stays 0 (length (codes_joined codes)) codes (omega (arith, long)) (codes_stay marks items program))
