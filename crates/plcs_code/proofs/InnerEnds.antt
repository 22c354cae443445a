-- Where a run goes on at the end of what stands inside a node: at the step that ends there, by the node's own jump, or
-- where it goes on behind the node, at whose end it stands. The kinds of nodes matter here alone.
use Rattle.std.proofs.Common.{◌≡◌, ℕ, zero, suc, ◌+◌, ◌<◌, true, List, [], ◌∷◌, ◌++◌, length, map, Option, Some, None, refl, ap, subst, arith}
use Rattle.std.specs.Prelude.{ℤ, ◌+ℤ◌, pos, neg_ℤ, is_some, slice_get, sum}
use Rattle.std.specs.Option.{option_to_list}
use Rattle.std.proofs.Math.Bool.{false≢true}
use Rattle.std.proofs.lemmas.Int.{ints}
use Rattle.std.proofs.lemmas.List.{length-append}
use Rattle.std.proofs.lemmas.Option.{none-some}
use Rattle.plcs_base.specs.declared.declared.Declared.{Declared}
use Rattle.plcs_grammar.specs.declared.node_kind.NodeKind.{NodeKind}
use Rattle.plcs_grammar.specs.declared.template.Template.{Template}
use Rattle.plcs_grammar.specs.PlainPhrase.{PlainPhrase}
use Rattle.template_tree.specs.Programs.Part.{part_at}
use Rattle.template_tree.specs.Positions.Place.{PlainPlace, end_at, goes_on_behind, inner_end, place_at}
use Rattle.template_tree.specs.Programs.Program.{sort_of}
use Rattle.plcs_code.specs.ExprCode.{part_instrs}
use Rattle.plcs_code.specs.Gen.{code_with, codes_around, has_code}
use Rattle.plcs_code.specs.Landing.{Lands}
use Rattle.plcs_code.specs.Pieces.{CodeJumps, CodePieces, count_pieces, first_length, first_piece, kind_jumps, kind_pieces, other_lengths, template_jumps, template_pieces, unless_stopped}
use Rattle.plcs_code.specs.PlainInstr.{PlainInstr}
use Rattle.plcs_code.proofs.BegunCode.{stands_read}
use Rattle.plcs_code.proofs.CodeLengths.{around_length}
use Rattle.plcs_code.proofs.StayingJumps.{lengths_split}
use Rattle.plcs_code.proofs.StoodCode.{StandsAt, first_stands, second_stands}

-- ---- landing

pub read_within : (instrs : List PlainInstr) (address : ℕ) (instr : PlainInstr) → slice_get instrs address ≡ Some instr → address < length instrs
read_within [] address instr e = absurd (none-some instr e)
read_within (first ∷ instrs) zero instr e = omega arith
read_within (first ∷ instrs) (suc address) instr e = let less = read_within instrs address instr e in omega (arith, less)

module _ {instrs : List PlainInstr} {place : PlainPlace} where
  -- the step stands there
  pub lands_here : (address : ℕ) → slice_get instrs address ≡ Some (PlainInstr.place place) → Lands instrs address place
  lands_here address e =
      record { jumps = 0; few = let less = read_within instrs address (PlainInstr.place place) e in omega (arith, less); by = e }

  -- a jump stands there that goes ahead
  pub lands_ahead : (address n target : ℕ) → target ≡ address + 1 + n → slice_get instrs address ≡ Some (PlainInstr.jump (pos n))
      → Lands instrs target place → Lands instrs address place
  lands_ahead address n target same e on =
      let few = on.few in
      record { jumps = suc on.jumps; few = omega (arith, few, same); by = (pos n, target, e, omega (arith, ints, same), on.by) }

  -- a jump stands there that goes to the step, and more instructions behind it
  pub lands_back : (address target : ℕ) (d : ℤ) → pos target ≡ pos (address + 1) +ℤ d → address + 1 < length instrs
      → slice_get instrs address ≡ Some (PlainInstr.jump d) → slice_get instrs target ≡ Some (PlainInstr.place place) → Lands instrs address place
  lands_back address target d goes few e step = record { jumps = 1; few = few; by = (d, target, e, goes, step) }

  pub lands_at : (one other : ℕ) → one ≡ other → Lands instrs one place → Lands instrs other place
  lands_at one other same on = subst (λ (n : ℕ). Lands instrs n place) same on

-- ---- the parts of a node's code

pub with_length : (own : CodePieces) (around : CodeJumps) (codes : List (List PlainInstr))
    → length (code_with own around codes)
    ≡ length own.before + (length (option_to_list around.ahead)
    + (length (codes_around (option_to_list around.between) codes) + length (own.behind ++ option_to_list around.back)))
with_length own around codes =
    let ahead = option_to_list around.ahead in
    let inside = codes_around (option_to_list around.between) codes in
    let end = own.behind ++ option_to_list around.back in
    omega (arith, length-append own.before (ahead ++ (inside ++ end)), length-append ahead (inside ++ end), length-append inside end)

module _ (instrs : List PlainInstr) (start : ℕ) (own : CodePieces) (around : CodeJumps) (codes : List (List PlainInstr)) where
  -- where what stands inside begins, and where it ends
  abbrev pub inside : ℕ
  inside = start + length own.before + length (option_to_list around.ahead)

  abbrev pub inside_end : ℕ
  inside_end = inside + length (codes_around (option_to_list around.between) codes)

  pub inside_stands : StandsAt instrs start (code_with own around codes)
      → StandsAt instrs inside
      (codes_around (option_to_list around.between) codes ++ (own.behind ++ option_to_list around.back))
  inside_stands stands =
      let ahead = option_to_list around.ahead in
      let within = codes_around (option_to_list around.between) codes in
      let end = own.behind ++ option_to_list around.back in
      second_stands instrs (start + length own.before) inside ahead (within ++ end) refl
      (second_stands instrs start (start + length own.before) own.before (ahead ++ (within ++ end)) refl stands)

  pub end_stands : StandsAt instrs start (code_with own around codes) → StandsAt instrs inside_end (own.behind ++ option_to_list around.back)
  end_stands stands =
      second_stands instrs inside inside_end (codes_around (option_to_list around.between) codes) (own.behind ++ option_to_list around.back) refl
      (inside_stands stands)

-- the end of a node behind what stands inside it
abbrev NoEnd : CodePieces → CodeJumps → Type 0
NoEnd own around = length (own.behind ++ option_to_list around.back) ≡ 0

plain_end : (instrs : List PlainInstr) (start : ℕ) (own : CodePieces) (around : CodeJumps) (codes : List (List PlainInstr)) (after : PlainPlace)
    → NoEnd own around → Lands instrs (start + length (code_with own around codes)) after
    → Lands instrs (inside_end instrs start own around codes) after
plain_end instrs start own around codes after none on =
    lands_at (start + length (code_with own around codes)) (inside_end instrs start own around codes)
    (omega (arith, with_length own around codes, none)) on

-- the step at the end of what stands inside
step_end : (instrs : List PlainInstr) (start : ℕ) (own : CodePieces) (around : CodeJumps) (codes : List (List PlainInstr)) (slot : ℕ) (more : List PlainInstr)
    → own.behind ++ option_to_list around.back ≡ PlainInstr.place (place_at slot 1) ∷ more
    → StandsAt instrs start (code_with own around codes) → Lands instrs (inside_end instrs start own around codes) (place_at slot 1)
step_end instrs start own around codes slot more is stands =
    lands_here (inside_end instrs start own around codes)
    (stands_read instrs (inside_end instrs start own around codes) (PlainInstr.place (place_at slot 1)) more
    (subst (StandsAt instrs (inside_end instrs start own around codes)) is (end_stands instrs start own around codes stands)))

-- the jump back at the end of what stands inside a While
while_end : (instrs : List PlainInstr) (start slot : ℕ) (all : Option PlainInstr) (parts : List (Option PlainPhrase)) (around : CodeJumps) (codes : List (List PlainInstr)) (after : PlainPlace)
    → around.between ≡ None
    → around.back
    ≡ Some (PlainInstr.jump (neg_ℤ (pos (length (first_piece slot 0 all parts) + 0 + length (option_to_list around.ahead)
    + (first_length (map length codes) + other_lengths (map length codes)) + 1))))
    → StandsAt instrs start (code_with (let p : CodePieces = record { before = first_piece slot 0 all parts; behind = [] } in p) around codes)
    → Lands instrs (start + length (code_with (let p : CodePieces = record { before = first_piece slot 0 all parts; behind = [] } in p) around codes)) after
    → Lands instrs (inside_end instrs start (let p : CodePieces = record { before = first_piece slot 0 all parts; behind = [] } in p) around codes) (place_at slot 0)
while_end instrs start slot all parts around codes after none back stands on =
    let own : CodePieces = record { before = first_piece slot 0 all parts; behind = [] } in
    let end : ℕ = inside_end instrs start own around codes in
    let first = first_length (map length codes) in
    let others = other_lengths (map length codes) in
    let n : ℕ = length (first_piece slot 0 all parts) + 0 + length (option_to_list around.ahead) + (first + others) + 1 in
    let within = codes_around (option_to_list around.between) codes in
    let inner : length within ≡ length (option_to_list around.between) + sum (map length codes) = around_length (option_to_list around.between) codes in
    let sums : sum (map length codes) ≡ first + others = lengths_split (map length codes) in
    let gap : length (option_to_list around.between) ≡ 0 = ap (λ (o : Option PlainInstr). length (option_to_list o)) none in
    let jump = PlainInstr.jump (neg_ℤ (pos n)) in
    let read : slice_get instrs end ≡ Some jump =
    stands_read instrs end jump []
    (subst (λ (o : Option PlainInstr). StandsAt instrs end (option_to_list o)) back (end_stands instrs start own around codes stands)) in
    let tail : length (option_to_list around.back) ≡ 1 = ap (λ (o : Option PlainInstr). length (option_to_list o)) back in
    let whole = with_length own around codes in
    let few = on.few in
    let begin : slice_get instrs start ≡ Some (PlainInstr.place (place_at slot 0)) =
    stands_read instrs start (PlainInstr.place (place_at slot 0)) (unless_stopped all (part_instrs (part_at parts 0)))
    (first_stands instrs start own.before (option_to_list around.ahead ++ (within ++ ([] ++ option_to_list around.back))) stands) in
    lands_back end start (neg_ℤ (pos n)) (omega (arith, ints, inner, sums, gap)) (omega (arith, few, whole, tail)) read begin

-- ---- by kind

module _ (instrs : List PlainInstr) (start slot : ℕ) (all one : Option PlainInstr) (parts : List (Option PlainPhrase)) (its : List Declared)
    (counter : Option (List ℕ)) (codes : List (List PlainInstr)) (after : PlainPlace) where
  abbrev own_of : Template → CodePieces
  own_of template = template_pieces slot all one parts its template

  abbrev around_of : Template → CodeJumps
  around_of template =
      template_jumps slot counter (is_some all) (is_some one) (count_pieces (own_of template)) (first_length (map length codes))
      (other_lengths (map length codes)) template

  abbrev TemplateEnds : Template → Type 0
  TemplateEnds template =
      has_code (NodeKind.Filled template) ≡ true → StandsAt instrs start (code_with (own_of template) (around_of template) codes)
      → (goes_on_behind (sort_of (NodeKind.Filled template)) ≡ true
      → Lands instrs (start + length (code_with (own_of template) (around_of template) codes)) after)
      → Lands instrs (inside_end instrs start (own_of template) (around_of template) codes) (end_at slot (inner_end (NodeKind.Filled template)) after)

  pub template_ends : (template : Template) → TemplateEnds template
  template_ends Template.Fixed is stands on = absurd (false≢true is)
  template_ends Template.Bit is stands on = absurd (false≢true is)
  template_ends Template.Char is stands on = absurd (false≢true is)
  template_ends Template.While is stands on =
      while_end instrs start slot all parts (around_of Template.While) codes after refl refl stands (on refl)
  template_ends Template.For is stands on =
      step_end instrs start (own_of Template.For) (around_of Template.For) codes slot _ refl stands
  template_ends Template.Until is stands on =
      step_end instrs start (own_of Template.Until) (around_of Template.Until) codes slot _ refl stands
  template_ends Template.Proc is stands on = step_end instrs start (own_of Template.Proc) (around_of Template.Proc) codes slot _ refl stands
  template_ends Template.ProcP is stands on = step_end instrs start (own_of Template.ProcP) (around_of Template.ProcP) codes slot _ refl stands
  template_ends Template.If is stands on = plain_end instrs start (own_of Template.If) (around_of Template.If) codes after refl (on refl)
  template_ends Template.IfElse is stands on = plain_end instrs start (own_of Template.IfElse) (around_of Template.IfElse) codes after refl (on refl)
  template_ends Template.Group is stands on = plain_end instrs start (own_of Template.Group) (around_of Template.Group) codes after refl (on refl)
  template_ends Template.Get is stands on = plain_end instrs start (own_of Template.Get) (around_of Template.Get) codes after refl (on refl)
  template_ends Template.Put is stands on = plain_end instrs start (own_of Template.Put) (around_of Template.Put) codes after refl (on refl)
  template_ends Template.PutSkip is stands on = plain_end instrs start (own_of Template.PutSkip) (around_of Template.PutSkip) codes after refl (on refl)
  template_ends Template.Call is stands on = plain_end instrs start (own_of Template.Call) (around_of Template.Call) codes after refl (on refl)
  template_ends Template.Return is stands on = plain_end instrs start (own_of Template.Return) (around_of Template.Return) codes after refl (on refl)
  template_ends Template.Comment is stands on = plain_end instrs start (own_of Template.Comment) (around_of Template.Comment) codes after refl (on refl)

  abbrev kind_own : NodeKind → CodePieces
  kind_own kind = kind_pieces slot all one parts its kind

  abbrev kind_around : NodeKind → CodeJumps
  kind_around kind =
      kind_jumps slot counter (is_some all) (is_some one) (count_pieces (kind_own kind)) (first_length (map length codes))
      (other_lengths (map length codes)) kind

  -- at the end of what stands inside a node that has code a run goes on where it does once that is done
  abbrev pub KindEnds : NodeKind → Type 0
  KindEnds kind =
      has_code kind ≡ true → StandsAt instrs start (code_with (kind_own kind) (kind_around kind) codes)
      → (goes_on_behind (sort_of kind) ≡ true → Lands instrs (start + length (code_with (kind_own kind) (kind_around kind) codes)) after)
      → Lands instrs (inside_end instrs start (kind_own kind) (kind_around kind) codes) (end_at slot (inner_end kind) after)

  pub kind_ends : (kind : NodeKind) → KindEnds kind
  kind_ends NodeKind.DeclarationHole is stands on = absurd (false≢true is)
  kind_ends NodeKind.ProcedureHole is stands on = absurd (false≢true is)
  kind_ends NodeKind.StatementHole is stands on =
      plain_end instrs start (kind_own NodeKind.StatementHole) (kind_around NodeKind.StatementHole) codes after refl (on refl)
  kind_ends NodeKind.Assign is stands on =
      plain_end instrs start (kind_own NodeKind.Assign) (kind_around NodeKind.Assign) codes after refl (on refl)
  kind_ends NodeKind.Main is stands on = step_end instrs start (kind_own NodeKind.Main) (kind_around NodeKind.Main) codes slot _ refl stands
  kind_ends (NodeKind.Filled template) is stands on = template_ends template is stands on

-- ---- the first of the two bodies of an IF

pub first_body_ends : (instrs : List PlainInstr) (start slot : ℕ) (all one : Option PlainInstr) (parts : List (Option PlainPhrase)) (its : List Declared) (counter : Option (List ℕ)) (first second : List PlainInstr) (after : PlainPlace)
    → let codes : List (List PlainInstr) = first ∷ (second ∷ []) in
    let own : CodePieces = template_pieces slot all one parts its Template.IfElse in
    let around : CodeJumps =
    template_jumps slot counter (is_some all) (is_some one) (count_pieces own) (first_length (map length codes)) (other_lengths (map length codes)) Template.IfElse in
    StandsAt instrs start (code_with own around codes) → Lands instrs (start + length (code_with own around codes)) after
    → Lands instrs (inside instrs start own around codes + length first) after
first_body_ends instrs start slot all one parts its counter first second after stands on =
    let codes : List (List PlainInstr) = first ∷ (second ∷ []) in
    let own : CodePieces = template_pieces slot all one parts its Template.IfElse in
    let around : CodeJumps =
    template_jumps slot counter (is_some all) (is_some one) (count_pieces own) (first_length (map length codes)) (other_lengths (map length codes)) Template.IfElse in
    let others = other_lengths (map length codes) in
    let at : ℕ = inside instrs start own around codes + length first in
    let jump = PlainInstr.jump (pos others) in
    let within : List PlainInstr = first ++ (jump ∷ (second ++ [])) in
    let there : StandsAt instrs (inside instrs start own around codes) within =
    first_stands instrs (inside instrs start own around codes) within [] (inside_stands instrs start own around codes stands) in
    let read : slice_get instrs at ≡ Some jump =
    stands_read instrs at jump (second ++ [])
    (second_stands instrs (inside instrs start own around codes) at first (jump ∷ (second ++ [])) refl there) in
    let sums : sum (map length codes) ≡ first_length (map length codes) + others = lengths_split (map length codes) in
    let inner : length within ≡ 1 + sum (map length codes) = around_length (jump ∷ []) codes in
    let head : first_length (map length codes) ≡ length first = refl in
    let whole = with_length own around codes in
    lands_ahead at others (start + length (code_with own around codes)) (omega (arith, whole, inner, sums, head)) read on
