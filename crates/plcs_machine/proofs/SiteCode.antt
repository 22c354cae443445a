-- What is known of the code of a site of a program: where it stands, where a run goes on behind it and inside it, and
-- which places have their addresses there. All of it is what the laws of code tell.
use Rattle.std.specs.Prelude.{◌≡◌, refl, ℕ, ◌+◌, ◌≤◌, true, is_some, List, [], ◌∷◌, ◌++◌, length, map, sum, slice_get, Option, Some}
use Rattle.std.specs.FinMap.{get}
use Rattle.std.specs.List.{list_any}
use Rattle.std.specs.Option.{option_to_list}
use Rattle.std.proofs.Common.{ap, sym, ◌∙◌, subst, arith}
use Rattle.std.proofs.lemmas.List.{length-append}
use Rattle.std.proofs.lemmas.List.Sums.{sum_by-cons}
use Rattle.std.proofs.lemmas.Option.{same_Some}
use Rattle.plcs_base.specs.Mark.{MarkMap}
use Rattle.plcs_base.specs.Scope.{ItemMap}
use Rattle.plcs_base.specs.declared.declared.Declared.{Declared}
use Rattle.plcs_grammar.specs.declared.node_kind.NodeKind.{NodeKind}
use Rattle.plcs_grammar.specs.declared.template.Template.{Template}
use Rattle.plcs_grammar.specs.PlainPhrase.{PlainPhrase}
use Rattle.template_tree.specs.Positions.Place.{PlainPlace, Site, begin, begins_run, goes_on_behind, place_at, site}
use Rattle.template_tree.specs.Programs.Part.{part_at}
use Rattle.template_tree.specs.Programs.PlainTree.{Forest, Label}
use Rattle.template_tree.specs.Programs.Program.{IsProgram, sort_of, sorts}
use Rattle.template_tree.specs.Programs.Slots.{times}
use Rattle.plcs_code.specs.CodeLaws.{CallsComeBack, EntriesAreHeadings, EntriesBeginProcedures, LengthsAreTold, SpansHoldCode, ends_step}
use Rattle.plcs_code.specs.ExprCode.{counter_name}
use Rattle.plcs_code.specs.Gen.{Gen, code_around, code_with, codes_around, codes_joined, has_code, is_call, length_around, node_codes, node_lengths}
use Rattle.plcs_code.specs.Landing.{BodiesBegin, Lands, SecondBodiesBegin, StatementsGoOn, StepsHaveAddresses, length_before}
use Rattle.plcs_code.specs.Pieces.{CodeJumps, CodePieces, count_pieces, first_length, kind_jumps, kind_pieces, other_lengths}
use Rattle.plcs_code.specs.PlainInstr.{PlainInstr, place_of}
use Rattle.plcs_machine.proofs.StandingCode.{HasAt, has_at}

-- the laws of code
pub record CodeLawsHold : Type 0 where
  pub told : LengthsAreTold
  pub spans : SpansHoldCode
  pub ends : StatementsGoOn
  pub bodies : BodiesBegin
  pub seconds : SecondBodiesBegin
  pub steps : StepsHaveAddresses
  pub backs : CallsComeBack
  pub headings : EntriesAreHeadings
  pub entries : EntriesBeginProcedures

-- ---- the code of a node by its kind

module _ (slot : ℕ) (its : List Declared) (codes : List (List PlainInstr)) where
  abbrev pub own_of : NodeKind → List (Option PlainPhrase) → (all one : Option PlainInstr) → CodePieces
  own_of kind parts all one = kind_pieces slot all one parts its kind

  abbrev pub around_of : NodeKind → List (Option PlainPhrase) → (all one : Option PlainInstr) → CodeJumps
  around_of kind parts all one =
      kind_jumps slot (counter_name (part_at parts 0)) (is_some all) (is_some one) (count_pieces (own_of kind parts all one))
      (first_length (map length codes)) (other_lengths (map length codes)) kind

  abbrev pub code_of : NodeKind → List (Option PlainPhrase) → (all one : Option PlainInstr) → List PlainInstr
  code_of kind parts all one = code_with (own_of kind parts all one) (around_of kind parts all one) codes

-- ---- a site

pub record IsCodeOf (marks : MarkMap) (items : ItemMap) (program : Forest) (found : Site) : Type 0 where
  pub start : ℕ
  pub stands : HasAt (Gen marks items program).instrs start (code_around marks items found.label (node_codes marks items found.inner))
  pub ends :
      goes_on_behind (sort_of found.label.kind) ≡ true
      → Lands (Gen marks items program).instrs (start + length (code_around marks items found.label (node_codes marks items found.inner))) found.after
  pub begins :
      (behind : PlainPlace) → list_any begins_run (sorts found.inner) ≡ true
      → slice_get (Gen marks items program).instrs (start + length_before marks items found.label found.inner) ≡ Some (PlainInstr.place (begin found.inner behind))
  pub seconds :
      (first : Label) (within rest : Forest) (behind : PlainPlace) → found.label.kind ≡ NodeKind.Filled Template.IfElse
      → found.inner ≡ Forest.cons first within rest
      → slice_get (Gen marks items program).instrs
      (start + length_before marks items found.label found.inner + length_around marks items first (node_lengths marks items within) + 1)
      ≡ Some (PlainInstr.place (begin rest behind))
  pub addressed :
      (point address : ℕ) → ends_step found.label.kind point ≡ true
      → slice_get (Gen marks items program).instrs address ≡ Some (PlainInstr.place (place_at found.label.slot point))
      → get (Gen marks items program).addresses (place_of (place_at found.label.slot point)) ≡ Some address
  pub backs :
      is_call found.label.kind ≡ true
      → get (Gen marks items program).addresses (place_of (place_at found.label.slot 1))
      ≡ Some (start + length (code_around marks items found.label (node_codes marks items found.inner)))
  pub span :
      get (Gen marks items program).spans found.label.slot
      ≡ Some (start, length (code_around marks items found.label (node_codes marks items found.inner)))

same_span : (o : Option (ℕ × ℕ)) (a b c d : ℕ) → o ≡ Some (a, b) → o ≡ Some (c, d) → (a ≡ c) × (b ≡ d)
same_span o a b c d e f =
    let same : (a, b) ≡ (c, d) = same_Some (a, b) (c, d) (sym e ∙ f) in
    (ap (λ (p : ℕ × ℕ). p.0) same, ap (λ (p : ℕ × ℕ). p.1) same)

pub code_of_site : CodeLawsHold → (marks : MarkMap) (items : ItemMap) (program : Forest) (found : Site) → IsProgram program
    → ((slot : ℕ) → times slot program ≤ 1) → site program found.label.slot ≡ Some found → has_code found.label.kind ≡ true
    → IsCodeOf marks items program found
code_of_site laws marks items program found is once e has =
    let code = Gen marks items program in
    let slot = found.label.slot in
    let whole = code_around marks items found.label (node_codes marks items found.inner) in
    let there = laws.spans.held marks items program slot found e has in
    record {
      start = there.0;
      stands = has_at code.instrs there.0 whole there.2;
      ends =
          λ goes.
          let on = laws.ends marks items program slot found is e goes in
          let same = same_span (get code.spans slot) on.0 on.1 there.0 (length whole) on.2 there.1 in
          subst (λ (n : ℕ). Lands code.instrs n found.after) (omega (arith, same.0, same.1)) on.3;
      begins =
          λ behind some.
          let on = laws.bodies marks items program slot found behind is e some in
          let same = same_span (get code.spans slot) on.0 on.1 there.0 (length whole) on.2 there.1 in
          ap (λ (n : ℕ). slice_get code.instrs (n + length_before marks items found.label found.inner)) (sym same.0) ∙ on.3;
      seconds =
          λ first within rest behind kind inner.
          let on = laws.seconds marks items program slot found first within rest behind is e kind inner in
          let same = same_span (get code.spans slot) on.0 on.1 there.0 (length whole) on.2 there.1 in
          ap (λ (n : ℕ). slice_get code.instrs (n + length_before marks items found.label found.inner + length_around marks items first (node_lengths marks items within) + 1)) (sym same.0)
          ∙ on.3;
      addressed = λ point address ends read. laws.steps marks items program (place_at slot point) found address is (once slot) e ends read;
      backs =
          λ call.
          let on = laws.backs marks items program slot found e call in
          let same = same_span (get code.spans slot) on.0 on.1 there.0 (length whole) on.2 there.1 in
          on.3 ∙ ap Some (omega (arith, same.0, same.1));
      span = there.1;
    }

-- ---- lengths

pub joined_length : (codes : List (List PlainInstr)) → length (codes_joined codes) ≡ sum (map length codes)
joined_length [] = refl
joined_length (code ∷ codes) =
    let more : sum (map length (code ∷ codes)) ≡ length code + sum (map length codes) = sum_by-cons (λ n. n) (length code) (map length codes) in
    omega (arith, more, joined_length codes, length-append code (codes_joined codes))

pub inside_length : (between : List PlainInstr) (codes : List (List PlainInstr))
    → length (codes_around between codes) ≡ length between + (first_length (map length codes) + other_lengths (map length codes))
inside_length between [] = omega arith
inside_length between (code ∷ codes) =
    omega (arith, joined_length codes, length-append code (between ++ codes_joined codes), length-append between (codes_joined codes))

pub with_length : (own : CodePieces) (around : CodeJumps) (codes : List (List PlainInstr))
    → length (code_with own around codes)
    ≡ length own.before + (length (option_to_list around.ahead)
    + (length (codes_around (option_to_list around.between) codes) + (length own.behind + length (option_to_list around.back))))
with_length own around codes =
    let ahead = option_to_list around.ahead in
    let back = option_to_list around.back in
    let inside = codes_around (option_to_list around.between) codes in
    omega
    (arith, length-append own.before (ahead ++ (inside ++ (own.behind ++ back))), length-append ahead (inside ++ (own.behind ++ back)), length-append inside (own.behind ++ back), length-append own.behind back)
