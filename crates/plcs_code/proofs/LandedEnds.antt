-- The law `statements_go_on`: at the end of the code of each node behind which a run goes on it does so once that is done.
-- What stands inside a node goes on by the kind of the node; in a list each goes on at the next one, which begins where
-- it ends.
use Rattle.std.proofs.Common.{◌≡◌, ℕ, suc, ◌+◌, ◌<◌, Bool, true, false, ◌⊎◌, inl, inr, List, [], ◌∷◌, ◌++◌, length, map, take, Option, Some, None, refl, ap, sym, subst, ◌∙◌, arith}
use Rattle.std.specs.Prelude.{◌==◌, ◌||◌, flat_map, if◌then◌else◌, is_some, not, pos, slice_index_or, sum}
use Rattle.std.specs.FinMap.{get-from_entries}
use Rattle.std.specs.Option.{option_or, option_to_list}
use Rattle.std.proofs.Math.Bool.{false≢true}
use Rattle.std.proofs.lemmas.Cmp.{nat_cmp_total}
use Rattle.std.proofs.lemmas.List.{length-append}
use Rattle.std.proofs.lemmas.List.Sums.{sum_by-cons}
use Rattle.std.proofs.lemmas.Option.{none-some}
use Rattle.plcs_base.specs.Mark.{MarkMap}
use Rattle.plcs_base.specs.Scope.{ItemMap}
use Rattle.plcs_grammar.specs.declared.node_kind.NodeKind.{NodeKind}
use Rattle.plcs_grammar.specs.declared.node_kind.Sort.{Sort}
use Rattle.plcs_grammar.specs.declared.template.Template.{Template}
use Rattle.plcs_grammar.specs.Template.{PlainSection, list_of, procedure_sections, program_sections, row_of}
use Rattle.template_tree.specs.Programs.Part.{part_at}
use Rattle.template_tree.specs.Positions.Place.{PlainPlace, Site, begin, begins_run, end_at, goes_on_behind, in_turn, inner_end, passes_in, place_at, site_among}
use Rattle.template_tree.specs.Programs.PlainTree.{Forest, Label}
use Rattle.template_tree.specs.Programs.Program.{AreNodes, Fill, IsNode, sort_of, sorts}
use Rattle.template_tree.specs.Checks.ProgramMaps.{items_in}
use Rattle.plcs_code.specs.declared.node_span.NodeSpan.{NodeSpan}
use Rattle.plcs_code.specs.ExprCode.{counter_name}
use Rattle.plcs_code.specs.Gen.{code_around, code_with, codes_around, codes_joined, has_code, length_around, node_codes, node_lengths, node_spans, sort_has_code, span_by_slot}
use Rattle.plcs_code.specs.Landing.{Lands, StatementsGoOn}
use Rattle.plcs_code.specs.Pieces.{CodeJumps, CodePieces, count_pieces, first_length, jumps, kind_jumps, kind_pieces, other_lengths, pieces, suspension, template_jumps, template_pieces}
use Rattle.plcs_code.specs.PlainInstr.{PlainInstr}
use Rattle.plcs_code.proofs.BegunCode.{node_begins, passed_read, stands_read}
use Rattle.plcs_code.proofs.CodeLengths.{around_length, lengths_told}
use Rattle.plcs_code.proofs.FoundNodes.{around_nothing, code_of_site, first_node, first_other, first_own, inner_gap, inner_jumps, inner_stands, inner_start, node_long, nowhere_first, own_node, rest_start}
use Rattle.plcs_code.proofs.FoundSites.{after_node, site_cases, site_of, site_within, siteless_nowhere}
use Rattle.plcs_code.proofs.HeldSpans.{first_span}
use Rattle.plcs_code.proofs.InnerEnds.{first_body_ends, inside, inside_end, kind_ends, lands_at, lands_here}
use Rattle.plcs_code.proofs.StayingJumps.{lengths_split}
use Rattle.plcs_code.proofs.StoodCode.{StandsAt, all_stand, first_stands, second_stands}

-- ---- what may stand inside a node

-- a run begins at nodes of the sort, or they have no code
abbrev is_body : Sort → Bool
is_body sort = begins_run sort || not (sort_has_code sort)

-- each of the sorts is such a one
abbrev pub AreBodies : List Sort → Type 0
AreBodies [] = Unit {0}
AreBodies (sort ∷ others) = (is_body sort ≡ true) × AreBodies others

bodies_append : (one other : List Sort) → AreBodies one → AreBodies other → AreBodies (one ++ other)
bodies_append [] other first second = second
bodies_append (sort ∷ one) other first second = (first.0, bodies_append one other first.1 second)

same_bodies : (sort : Sort) (own : List Sort) → is_body sort ≡ true → ((k : ℕ) (d : Sort) → k < length own → slice_index_or own k d ≡ sort) → AreBodies own
same_bodies sort [] is all = tt
same_bodies sort (first ∷ own) is all = (
  ap is_body (all 0 sort (omega arith)) ∙ is,
  same_bodies sort own is (λ k d few. all (suc k) d (omega (arith, few))),
)

statements_are : (items : List Sort) → Fill (list_of Sort.Statement ∷ []) items → AreBodies items
statements_are items (own, others, same, are, none) =
    subst AreBodies (sym same)
    (bodies_append own others (same_bodies Sort.Statement own refl are.1) (subst AreBodies (sym none) tt))

procedure_bodies : (items : List Sort) → Fill procedure_sections items → AreBodies items
procedure_bodies items (own, others, same, are, rest) =
    subst AreBodies (sym same)
    (bodies_append own others (same_bodies Sort.Declaration own refl are.1) (statements_are others rest))

-- a run goes on behind none of the sorts
abbrev pub NoneGoesOn : List Sort → Type 0
NoneGoesOn [] = Unit {0}
NoneGoesOn (sort ∷ others) = (goes_on_behind sort ≡ false) × NoneGoesOn others

-- ---- nodes without nodes inside

pub none_inside : (inner : Forest) → sorts inner ≡ [] → inner ≡ Forest.nil
none_inside Forest.nil e = refl
none_inside (Forest.cons label inner rest) e = absurd (by e)
  where
    first : List Sort → Bool
    first [] = false
    first (sort ∷ others) = true

    by : sort_of label.kind ∷ sorts rest ≡ [] → ⊥
    by e = false≢true (sym (ap first e))

-- what stands where such nodes do, and a run passes over, has no code
pub passed_over_codeless : (marks : MarkMap) (items : ItemMap) (label : Label) (inner : Forest) (kind : NodeKind) → label.kind ≡ kind
    → Fill (row_of kind).sections (sorts inner) → is_body (sort_of kind) ≡ true → begins_run (sort_of kind) ≡ false
    → length (code_around marks items label (node_codes marks items inner)) ≡ 0
passed_over_codeless marks items label inner kind same fill body none =
    node_long marks items label inner ∙ ap (λ (l : List ℕ). length_around marks items label l) (nothing kind fill body none)
    ∙ by kind same body none
  where
    nothing : (kind : NodeKind) → Fill (row_of kind).sections (sorts inner) → is_body (sort_of kind) ≡ true → begins_run (sort_of kind) ≡ false
        → node_lengths marks items inner ≡ []
    nothing NodeKind.DeclarationHole fill body none = ap (node_lengths marks items) (none_inside inner fill)
    nothing (NodeKind.Filled Template.Fixed) fill body none = ap (node_lengths marks items) (none_inside inner fill)
    nothing (NodeKind.Filled Template.Bit) fill body none = ap (node_lengths marks items) (none_inside inner fill)
    nothing (NodeKind.Filled Template.Char) fill body none = ap (node_lengths marks items) (none_inside inner fill)
    nothing (NodeKind.Filled Template.Proc) fill body none = absurd (false≢true body)
    nothing (NodeKind.Filled Template.ProcP) fill body none = absurd (false≢true body)
    nothing (NodeKind.Filled other) fill body none = absurd (false≢true (sym none))
    nothing NodeKind.ProcedureHole fill body none = absurd (false≢true body)
    nothing NodeKind.Main fill body none = absurd (false≢true body)
    nothing other fill body none = absurd (false≢true (sym none))

    by : (kind : NodeKind) → label.kind ≡ kind → is_body (sort_of kind) ≡ true → begins_run (sort_of kind) ≡ false
        → length_around marks items label [] ≡ 0
    by NodeKind.DeclarationHole same body none =
        ap (λ (k : NodeKind). length_around marks items (let l : Label = record label { kind = k } in l) []) same
    by (NodeKind.Filled Template.Fixed) same body none =
        ap (λ (k : NodeKind). length_around marks items (let l : Label = record label { kind = k } in l) []) same
    by (NodeKind.Filled Template.Bit) same body none =
        ap (λ (k : NodeKind). length_around marks items (let l : Label = record label { kind = k } in l) []) same
    by (NodeKind.Filled Template.Char) same body none =
        ap (λ (k : NodeKind). length_around marks items (let l : Label = record label { kind = k } in l) []) same
    by (NodeKind.Filled Template.Proc) same body none = absurd (false≢true body)
    by (NodeKind.Filled Template.ProcP) same body none = absurd (false≢true body)
    by (NodeKind.Filled other) same body none = absurd (false≢true (sym none))
    by NodeKind.ProcedureHole same body none = absurd (false≢true body)
    by NodeKind.Main same body none = absurd (false≢true body)
    by other same body none = absurd (false≢true (sym none))

module _ (marks : MarkMap) (items : ItemMap) (instrs : List PlainInstr) where
  abbrev code_of : Label → Forest → List PlainInstr
  code_of label inner = code_around marks items label (node_codes marks items inner)

  -- ---- where nodes in order begin

  -- nodes in order, at whose end a run goes on at a place, begin where a run begins that comes to them
  pub begins_landed : (start : ℕ) (nodes : Forest) (place : PlainPlace) → AreNodes nodes → AreBodies (sorts nodes)
      → StandsAt instrs start (codes_joined (node_codes marks items nodes))
      → Lands instrs (start + length (codes_joined (node_codes marks items nodes))) place → Lands instrs start (begin nodes place)
  begins_landed start Forest.nil place are bodies stands on = lands_at (start + 0) start (omega arith) on
  begins_landed start (Forest.cons label inner rest) place are bodies stands on =
      let code = code_of label inner in
      let codes = codes_joined (node_codes marks items rest) in
      by (begins_run (sort_of label.kind)) refl (passes_in label.kind) refl
      (λ none.
      let long : length code ≡ 0 = passed_over_codeless marks items label inner label.kind refl are.0.inner bodies.0 none in
      begins_landed start rest place are.2 bodies.1
      (second_stands instrs start start code codes (omega (arith, long)) stands)
      (lands_at (start + length (code ++ codes)) (start + length codes) (omega (arith, length-append code codes, long)) on))
    where
      by : (begins : Bool) → begins_run (sort_of label.kind) ≡ begins → (passes : Bool) → passes_in label.kind ≡ passes
          → (begins_run (sort_of label.kind) ≡ false → Lands instrs start (begin rest place))
          → Lands instrs start (if begins then (if passes then begin inner place else place_at label.slot 0) else begin rest place)
      by false is passes pass later = later is
      by true is true pass later =
          lands_here start
          (passed_read marks items instrs start label inner place are.0.inner are.1 pass
          (first_stands instrs start (code_of label inner) (codes_joined (node_codes marks items rest)) stands))
      by true is false stays later =
          let begins = node_begins marks items label (node_codes marks items inner) are.0.parts is stays in
          lands_here start
          (stands_read instrs start (PlainInstr.place (place_at label.slot 0)) begins.0
          (subst (StandsAt instrs start) begins.1 (first_stands instrs start (code_of label inner) (codes_joined (node_codes marks items rest)) stands)))

  -- ---- where nodes in order go on

  -- at the end of each of the nodes behind which a run goes on it does so
  abbrev pub GoOn : PlainPlace → Bool → (start gap : ℕ) → Forest → Type 0
  GoOn place turn start gap Forest.nil = Unit {0}
  GoOn place turn start gap (Forest.cons label inner rest) =
      (goes_on_behind (sort_of label.kind) ≡ true → Lands instrs (start + length (code_of label inner)) (after_node turn rest place))
      × GoOn place turn (start + length (code_of label inner) + gap) 0 rest

  -- where they are done in turn, and a run goes on at the place at their end
  turn_goes_on : (start : ℕ) (nodes : Forest) (place : PlainPlace) → AreNodes nodes → AreBodies (sorts nodes)
      → StandsAt instrs start (codes_joined (node_codes marks items nodes))
      → Lands instrs (start + length (codes_joined (node_codes marks items nodes))) place → GoOn place true start 0 nodes
  turn_goes_on start Forest.nil place are bodies stands on = tt
  turn_goes_on start (Forest.cons label inner rest) place are bodies stands on =
      let code = code_of label inner in
      let codes = codes_joined (node_codes marks items rest) in
      let behind : StandsAt instrs (start + length code) codes = second_stands instrs start (start + length code) code codes refl stands in
      let end : Lands instrs (start + length code + length codes) place =
      lands_at (start + length (code ++ codes)) (start + length code + length codes) (omega (arith, length-append code codes)) on in
      let none : start + length code ≡ start + length code + 0 = omega arith in (
        (λ goes. begins_landed (start + length code) rest place are.2 bodies.1 behind end),
        subst (λ (n : ℕ). GoOn place true n 0 rest) none (turn_goes_on (start + length code) rest place are.2 bodies.1 behind end),
      )

  -- nodes behind none of which a run goes on
  pub none_goes_on : (start gap : ℕ) (nodes : Forest) (place : PlainPlace) (turn : Bool) → NoneGoesOn (sorts nodes) → GoOn place turn start gap nodes
  none_goes_on start gap Forest.nil place turn none = tt
  none_goes_on start gap (Forest.cons label inner rest) place turn none = (
    (λ goes. absurd (false≢true (sym none.0 ∙ goes))),
    none_goes_on (start + length (code_of label inner) + gap) 0 rest place turn none.1,
  )

  -- ---- what stands inside a node

  -- what stands inside a node goes on
  abbrev InnerGoesOn : (start : ℕ) → Label → Forest → PlainPlace → NodeKind → Type 0
  InnerGoesOn start label inner after kind =
      GoOn (end_at label.slot (inner_end kind) after) (in_turn (row_of kind).sections) (inner_start marks items start label inner)
      (inner_gap marks items label inner) inner

  module _ (start : ℕ) (label : Label) (inner : Forest) (after : PlainPlace) (node : IsNode label (sorts inner)) (are : AreNodes inner)
      (stands : StandsAt instrs start (code_of label inner))
      (on : goes_on_behind (sort_of label.kind) ≡ true → Lands instrs (start + length (code_of label inner)) after) where
    abbrev codes : List (List PlainInstr)
    codes = node_codes marks items inner

    abbrev own : CodePieces
    own = pieces marks items label

    abbrev around : CodeJumps
    around = jumps marks items label (map length codes)

    same_jumps : around ≡ inner_jumps marks items label inner
    same_jumps = ap (jumps marks items label) (lengths_told marks items inner)

    same_start : inside instrs start own around codes ≡ inner_start marks items start label inner
    same_start = ap (λ (j : CodeJumps). start + length own.before + length (option_to_list j.ahead)) same_jumps

    -- at the end
    inner_ends : has_code label.kind ≡ true → Lands instrs (inside_end instrs start own around codes) (end_at label.slot (inner_end label.kind) after)
    inner_ends is =
        kind_ends instrs start label.slot (suspension marks label.slot label.parts) (suspension marks label.slot (take 1 label.parts)) label.parts
        (items_in items label.slot) (counter_name (part_at label.parts 0)) codes after label.kind is stands on

    -- in turn
    list_goes_on : has_code label.kind ≡ true → around.between ≡ None → in_turn (row_of label.kind).sections ≡ true → AreBodies (sorts inner)
        → InnerGoesOn start label inner after label.kind
    list_goes_on is none turn bodies =
        let there = inner_start marks items start label inner in
        let told : StandsAt instrs there (codes_around (option_to_list (inner_jumps marks items label inner).between) codes) =
        inner_stands marks items instrs start label inner stands in
        let nothing : option_to_list (inner_jumps marks items label inner).between ≡ [] =
        ap (λ (j : CodeJumps). option_to_list j.between) (sym same_jumps) ∙ ap option_to_list none in
        let joined : codes_around (option_to_list (inner_jumps marks items label inner).between) codes ≡ codes_joined codes =
        ap (λ (l : List PlainInstr). codes_around l codes) nothing ∙ around_nothing codes in
        let here : codes_around (option_to_list around.between) codes ≡ codes_joined codes =
        ap (λ (o : Option PlainInstr). codes_around (option_to_list o) codes) none ∙ around_nothing codes in
        let long : length (codes_around (option_to_list around.between) codes) ≡ length (codes_joined codes) = ap length here in
        let gap : inner_gap marks items label inner ≡ 0 = ap length nothing in
        subst (λ (n : ℕ). GoOn (end_at label.slot (inner_end label.kind) after) (in_turn (row_of label.kind).sections) there n inner) (sym gap)
        (subst (λ (b : Bool). GoOn (end_at label.slot (inner_end label.kind) after) b there 0 inner) (sym turn)
        (turn_goes_on there inner (end_at label.slot (inner_end label.kind) after) are bodies (subst (StandsAt instrs there) joined told)
        (lands_at (inside_end instrs start own around codes) (there + length (codes_joined codes)) (omega (arith, same_start, long)) (inner_ends is))))

    -- alone
    pub alone_goes_on : (one : Label) (within : Forest) → inner ≡ Forest.cons one within Forest.nil → has_code label.kind ≡ true
        → around.between ≡ None → in_turn (row_of label.kind).sections ≡ false → InnerGoesOn start label inner after label.kind
    alone_goes_on one within same is none turn =
        let there = inner_start marks items start label inner in
        let place = end_at label.slot (inner_end label.kind) after in
        let only : codes ≡ code_of one within ∷ [] = ap (node_codes marks items) same in
        let here : codes_around (option_to_list around.between) codes ≡ codes_joined codes =
        ap (λ (o : Option PlainInstr). codes_around (option_to_list o) codes) none ∙ around_nothing codes in
        let long : length (codes_around (option_to_list around.between) codes) ≡ length (code_of one within ++ []) =
        ap length here ∙ ap (λ (cs : List (List PlainInstr)). length (codes_joined cs)) only in
        let end : Lands instrs (there + length (code_of one within)) place =
        lands_at (inside_end instrs start own around codes) (there + length (code_of one within))
        (omega (arith, same_start, long, length-append (code_of one within) [])) (inner_ends is) in
        subst (λ (f : Forest). GoOn place (in_turn (row_of label.kind).sections) there (inner_gap marks items label inner) f) (sym same)
        (subst (λ (b : Bool). GoOn place b there (inner_gap marks items label inner) (Forest.cons one within Forest.nil)) (sym turn) ((λ _. end), tt))

    -- one of two
    pub either_goes_on : (one other : Label) (within beside : Forest) → inner ≡ Forest.cons one within (Forest.cons other beside Forest.nil)
        → label.kind ≡ NodeKind.Filled Template.IfElse → InnerGoesOn start label inner after label.kind
    either_goes_on one other within beside same kind =
        let there = inner_start marks items start label inner in
        let place = end_at label.slot (inner_end label.kind) after in
        let first = code_of one within in
        let second = code_of other beside in
        let two : codes ≡ first ∷ (second ∷ []) = ap (node_codes marks items) same in
        let all = suspension marks label.slot label.parts in
        let stop = suspension marks label.slot (take 1 label.parts) in
        let its = items_in items label.slot in
        let counter = counter_name (part_at label.parts 0) in
        let is : has_code label.kind ≡ true = ap has_code kind in
        let there_is : place ≡ after = ap (λ (k : NodeKind). end_at label.slot (inner_end k) after) kind in
        let turn : in_turn (row_of label.kind).sections ≡ false = ap (λ (k : NodeKind). in_turn (row_of k).sections) kind in
        let goes : goes_on_behind (sort_of label.kind) ≡ true = ap (λ (k : NodeKind). goes_on_behind (sort_of k)) kind in
        let told : around.between ≡ Some (PlainInstr.jump (pos (other_lengths (map length codes)))) =
        ap (λ (k : NodeKind). (kind_jumps label.slot counter (is_some all) (is_some stop) (count_pieces own) (first_length (map length codes)) (other_lengths (map length codes)) k).between) kind in
        let gap : length (option_to_list around.between) ≡ 1 = ap (λ (o : Option PlainInstr). length (option_to_list o)) told in
        let gap_told : inner_gap marks items label inner ≡ 1 =
        ap (λ (j : CodeJumps). length (option_to_list j.between)) (sym same_jumps) ∙ gap in
        let long : length (codes_around (option_to_list around.between) codes) ≡ length (option_to_list around.between) + sum (map length codes) =
        around_length (option_to_list around.between) codes in
        let sums : sum (map length codes) ≡ first_length (map length codes) + other_lengths (map length codes) = lengths_split (map length codes) in
        let head : first_length (map length codes) ≡ length first = ap (λ (cs : List (List PlainInstr)). first_length (map length cs)) two in
        let tail : other_lengths (map length codes) ≡ sum (length second ∷ []) = ap (λ (cs : List (List PlainInstr)). other_lengths (map length cs)) two in
        let lone : sum (length second ∷ []) ≡ length second + sum [] = sum_by-cons (λ n. n) (length second) [] in
        let first_end : Lands instrs (inside instrs start own around codes + length first) after =
        subst
        (λ (k : NodeKind).
        let own : CodePieces = kind_pieces label.slot all stop label.parts its k in
        let around : CodeJumps =
        kind_jumps label.slot counter (is_some all) (is_some stop) (count_pieces own) (first_length (map length codes)) (other_lengths (map length codes)) k in
        StandsAt instrs start (code_with own around codes) → Lands instrs (start + length (code_with own around codes)) after
        → Lands instrs (inside instrs start own around codes + length first) after) (sym kind)
        (subst
        (λ (cs : List (List PlainInstr)).
        let own : CodePieces = template_pieces label.slot all stop label.parts its Template.IfElse in
        let around : CodeJumps =
        template_jumps label.slot counter (is_some all) (is_some stop) (count_pieces own) (first_length (map length cs)) (other_lengths (map length cs)) Template.IfElse in
        StandsAt instrs start (code_with own around cs) → Lands instrs (start + length (code_with own around cs)) after
        → Lands instrs (inside instrs start own around cs + length first) after) (sym two)
        (first_body_ends instrs start label.slot all stop label.parts its counter first second after))
        stands (on goes) in
        let second_end : Lands instrs (there + length first + inner_gap marks items label inner + length second) place =
        lands_at (inside_end instrs start own around codes) (there + length first + inner_gap marks items label inner + length second)
        (omega (arith, same_start, long, gap, gap_told, sums, head, tail, lone)) (inner_ends is) in
        subst (λ (f : Forest). GoOn place (in_turn (row_of label.kind).sections) there (inner_gap marks items label inner) f) (sym same)
        (subst (λ (b : Bool). GoOn place b there (inner_gap marks items label inner) (Forest.cons one within (Forest.cons other beside Forest.nil))) (sym turn) (
          (λ _.
              subst (Lands instrs (there + length first)) (sym there_is)
              (lands_at (inside instrs start own around codes + length first) (there + length first) (omega (arith, same_start)) first_end)),
          ((λ _. second_end), tt),
        ))

-- ---- by kind

-- nothing stands inside nodes of the kind
abbrev pub Lone : NodeKind → Type 0
Lone kind = (row_of kind).sections ≡ []

-- the codes of nodes inside stand together, one behind the other
abbrev pub Joins : NodeKind → Type 0
Joins kind =
    (slot : ℕ) (counter : Option (List ℕ)) (all one : Bool) (own first others : ℕ)
    → (kind_jumps slot counter all one own first others kind).between ≡ None

pub record Listed (kind : NodeKind) : Type 0 where
  pub code : has_code kind ≡ true
  pub turn : in_turn (row_of kind).sections ≡ true
  pub bodies : (items : List Sort) → Fill (row_of kind).sections items → AreBodies items
  pub joins : Joins kind

pub none_between : (marks : MarkMap) (items : ItemMap) (label : Label) (lengths : List ℕ) → Joins label.kind → (jumps marks items label lengths).between ≡ None
none_between marks items label lengths joins =
    joins label.slot (counter_name (part_at label.parts 0)) (is_some (suspension marks label.slot label.parts))
    (is_some (suspension marks label.slot (take 1 label.parts))) (count_pieces (pieces marks items label)) (first_length lengths) (other_lengths lengths)

-- what may stand inside nodes of the kind: nothing, lists, one statement, or two
abbrev pub Form : NodeKind → Type 0
Form kind = Lone kind ⊎ (Listed kind ⊎ ((kind ≡ NodeKind.Filled Template.If) ⊎ (kind ≡ NodeKind.Filled Template.IfElse)))

template_form : (template : Template) → Form (NodeKind.Filled template)
template_form Template.If = inr (inr (inl refl))
template_form Template.IfElse = inr (inr (inr refl))
template_form Template.While = inr (inl record { code = refl; turn = refl; bodies = statements_are; joins = λ slot counter all one own first others. refl })
template_form Template.For = inr (inl record { code = refl; turn = refl; bodies = statements_are; joins = λ slot counter all one own first others. refl })
template_form Template.Until = inr (inl record { code = refl; turn = refl; bodies = statements_are; joins = λ slot counter all one own first others. refl })
template_form Template.Group = inr (inl record { code = refl; turn = refl; bodies = statements_are; joins = λ slot counter all one own first others. refl })
template_form Template.Comment = inr (inl record { code = refl; turn = refl; bodies = statements_are; joins = λ slot counter all one own first others. refl })
template_form Template.Proc = inr (inl record { code = refl; turn = refl; bodies = procedure_bodies; joins = λ slot counter all one own first others. refl })
template_form Template.ProcP = inr (inl record { code = refl; turn = refl; bodies = procedure_bodies; joins = λ slot counter all one own first others. refl })
template_form Template.Fixed = inl refl
template_form Template.Bit = inl refl
template_form Template.Char = inl refl
template_form Template.Get = inl refl
template_form Template.Put = inl refl
template_form Template.PutSkip = inl refl
template_form Template.Call = inl refl
template_form Template.Return = inl refl

pub kind_form : (kind : NodeKind) → Form kind
kind_form NodeKind.DeclarationHole = inl refl
kind_form NodeKind.StatementHole = inl refl
kind_form NodeKind.ProcedureHole = inl refl
kind_form NodeKind.Assign = inl refl
kind_form NodeKind.Main =
    inr (inl record { code = refl; turn = refl; bodies = procedure_bodies; joins = λ slot counter all one own first others. refl })
kind_form (NodeKind.Filled template) = template_form template

-- ---- one or two nodes

one_inside : (inner : Forest) (sort : Sort) → sorts inner ≡ sort ∷ [] → (one : Label) × (within : Forest) × (inner ≡ Forest.cons one within Forest.nil)
one_inside Forest.nil sort e = let no : 0 ≡ 1 = ap length e in absurd (omega (arith, no))
one_inside (Forest.cons one within Forest.nil) sort e = (one, within, refl)
one_inside (Forest.cons one within (Forest.cons other beside rest)) sort e =
    let no : length (sorts (Forest.cons one within (Forest.cons other beside rest))) ≡ 1 = ap length e in absurd (omega (arith, no))

two_inside : (inner : Forest) (sort next : Sort) → sorts inner ≡ sort ∷ (next ∷ [])
    → (one : Label) × (within : Forest) × (other : Label) × (beside : Forest) × (inner ≡ Forest.cons one within (Forest.cons other beside Forest.nil))
two_inside Forest.nil sort next e = let no : 0 ≡ 2 = ap length e in absurd (omega (arith, no))
two_inside (Forest.cons one within Forest.nil) sort next e = let no : 1 ≡ 2 = ap length e in absurd (omega (arith, no))
two_inside (Forest.cons one within (Forest.cons other beside Forest.nil)) sort next e = (one, within, other, beside, refl)
two_inside (Forest.cons one within (Forest.cons other beside (Forest.cons last deeper rest))) sort next e =
    let no : length (sorts (Forest.cons one within (Forest.cons other beside (Forest.cons last deeper rest)))) ≡ 2 = ap length e in
    absurd (omega (arith, no))

pub if_sorts : (items : List Sort) → Fill (row_of (NodeKind.Filled Template.If)).sections items → items ≡ Sort.Statement ∷ []
if_sorts items (first, others, same, are, none) =
    same ∙ ap (λ (l : List Sort). l ++ others) are ∙ ap (λ (l : List Sort). Sort.Statement ∷ l) none

pub if_else_sorts : (items : List Sort) → Fill (row_of (NodeKind.Filled Template.IfElse)).sections items → items ≡ Sort.Statement ∷ (Sort.Statement ∷ [])
if_else_sorts items (first, others, same, are, (next, more, split, is, none)) =
    same ∙ ap (λ (l : List Sort). l ++ others) are
    ∙ ap (λ (l : List Sort). Sort.Statement ∷ l) (split ∙ ap (λ (l : List Sort). l ++ more) is ∙ ap (λ (l : List Sort). Sort.Statement ∷ l) none)

-- ---- the site of a slot

module _ (marks : MarkMap) (items : ItemMap) (instrs : List PlainInstr) where
  -- what stands inside a node goes on
  inner_goes_on : (start : ℕ) (label : Label) (inner : Forest) (after : PlainPlace) → IsNode label (sorts inner) → AreNodes inner
      → StandsAt instrs start (code_around marks items label (node_codes marks items inner))
      → (goes_on_behind (sort_of label.kind) ≡ true → Lands instrs (start + length (code_around marks items label (node_codes marks items inner))) after)
      → GoOn marks items instrs (end_at label.slot (inner_end label.kind) after) (in_turn (row_of label.kind).sections) (inner_start marks items start label inner)
      (inner_gap marks items label inner) inner
  inner_goes_on start label inner after node are stands on =
      elim (kind_form label.kind)
      as (λ _. GoOn marks items instrs (end_at label.slot (inner_end label.kind) after) (in_turn (row_of label.kind).sections) (inner_start marks items start label inner) (inner_gap marks items label inner) inner) [
        | inl lone ↦
            let none : inner ≡ Forest.nil = none_inside inner (subst (λ (l : List PlainSection). Fill l (sorts inner)) lone node.inner) in
            subst (λ (f : Forest). GoOn marks items instrs (end_at label.slot (inner_end label.kind) after) (in_turn (row_of label.kind).sections) (inner_start marks items start label inner) (inner_gap marks items label inner) f) (sym none) tt
        | inr other ↦ by other
      ]
    where
      by : Listed label.kind ⊎ ((label.kind ≡ NodeKind.Filled Template.If) ⊎ (label.kind ≡ NodeKind.Filled Template.IfElse))
          → GoOn marks items instrs (end_at label.slot (inner_end label.kind) after) (in_turn (row_of label.kind).sections) (inner_start marks items start label inner) (inner_gap marks items label inner) inner
      by (inl listed) =
          list_goes_on marks items instrs start label inner after node are stands on listed.code
          (none_between marks items label (map length (node_codes marks items inner)) listed.joins) listed.turn (listed.bodies (sorts inner) node.inner)
      by (inr (inl kind)) =
          let (one, within, same) = one_inside inner Sort.Statement (if_sorts (sorts inner) (subst (λ (k : NodeKind). Fill (row_of k).sections (sorts inner)) kind node.inner)) in
          alone_goes_on marks items instrs start label inner after node are stands on one within same (ap has_code kind)
          (none_between marks items label (map length (node_codes marks items inner)) (subst Joins (sym kind) (λ slot counter all one own first others. refl)))
          (ap (λ (k : NodeKind). in_turn (row_of k).sections) kind)
      by (inr (inr kind)) =
          let (one, within, other, beside, same) =
          two_inside inner Sort.Statement Sort.Statement (if_else_sorts (sorts inner) (subst (λ (k : NodeKind). Fill (row_of k).sections (sorts inner)) kind node.inner)) in
          either_goes_on marks items instrs start label inner after node are stands on one other within beside same kind

  -- the node at the site, at whose end a run goes on
  abbrev NodeLanded : Option NodeSpan → Site → Type 0
  NodeLanded node found =
      (start : ℕ) × (node ≡ Some (own_node marks items start found.label found.inner))
      × (goes_on_behind (sort_of found.label.kind) ≡ true → Lands instrs (start + length (code_of_site marks items found)) found.after)

  landed_among : (slot start gap : ℕ) (between : List PlainInstr) (turn : Bool) (nodes : Forest) (place : PlainPlace) (found : Site)
      → length between ≡ gap → AreNodes nodes → StandsAt instrs start (codes_around between (node_codes marks items nodes))
      → GoOn marks items instrs place turn start gap nodes → site_among slot turn nodes place ≡ Some found
      → NodeLanded (first_node slot (node_spans marks items start gap nodes)) found
  landed_among slot start gap between turn Forest.nil place found long are stands on e = absurd (none-some found e)
  landed_among slot start gap between turn (Forest.cons label inner rest) place found long are stands on e =
      let node = own_node marks items start label inner in
      let from = inner_start marks items start label inner in
      let later_from = rest_start marks items start gap label inner in
      let within = node_spans marks items from (inner_gap marks items label inner) inner in
      let behind = node_spans marks items later_from 0 rest in
      let inner_turn = in_turn (row_of label.kind).sections in
      let after = after_node turn rest place in
      let inner_place = end_at label.slot (inner_end label.kind) after in
      let code = code_around marks items label (node_codes marks items inner) in
      let codes = node_codes marks items rest in
      let whole : length code ≡ length_around marks items label (node_lengths marks items inner) = node_long marks items label inner in
      let own_stands : StandsAt instrs start code = first_stands instrs start code (between ++ codes_joined codes) stands in
      let next : StandsAt instrs (start + length code) (between ++ codes_joined codes) =
      second_stands instrs start (start + length code) code (between ++ codes_joined codes) refl stands in
      let last : StandsAt instrs later_from (codes_joined codes) =
      second_stands instrs (start + length code) later_from between (codes_joined codes) (omega (arith, whole, long)) next in
      let later_on : GoOn marks items instrs place turn later_from 0 rest =
      subst (λ (n : ℕ). GoOn marks items instrs place turn n 0 rest) (ap (λ (n : ℕ). start + n + gap) whole) on.1 in
      site_cases (label.slot == slot) (site_of turn label inner rest place) (site_within slot turn label inner rest place)
      (site_among slot turn rest place) found e
      (λ same own.
      subst (NodeLanded (first_node slot (node ∷ (within ++ behind)))) own
      (start, first_own slot node (within ++ behind) same, on.0))
      (λ other inside.
      let there =
      landed_among slot from (inner_gap marks items label inner) (option_to_list (inner_jumps marks items label inner).between) inner_turn inner inner_place found refl are.1
      (inner_stands marks items instrs start label inner own_stands)
      (inner_goes_on start label inner after are.0 are.1 own_stands on.0) inside in (
        there.0,
        first_other slot node within behind other ∙ ap (λ (o : Option NodeSpan). option_or o (first_node slot behind)) there.1,
        there.2,
      ))
      (λ other none later.
      let there =
      landed_among slot later_from 0 [] turn rest place found refl are.2
      (subst (StandsAt instrs later_from) (sym (around_nothing codes)) last) later_on later in (
        there.0,
        first_other slot node within behind other
            ∙ ap (λ (o : Option NodeSpan). option_or o (first_node slot behind))
            (nowhere_first marks items slot from (inner_gap marks items label inner) inner (siteless_nowhere slot inner_turn inner inner_place none))
            ∙ there.1,
        there.2,
      ))

-- ---- the law

-- a node that a run goes on behind has code
done_code : (kind : NodeKind) → goes_on_behind (sort_of kind) ≡ true → has_code kind ≡ true
done_code NodeKind.ProcedureHole is = absurd (false≢true is)
done_code NodeKind.DeclarationHole is = absurd (false≢true is)
done_code NodeKind.Main is = absurd (false≢true is)
done_code NodeKind.StatementHole is = refl
done_code NodeKind.Assign is = refl
done_code (NodeKind.Filled template) is = by (sort_of (NodeKind.Filled template)) is
  where
    by : (sort : Sort) → goes_on_behind sort ≡ true → sort_has_code sort ≡ true
    by Sort.Statement is = refl
    by Sort.Main is = refl
    by Sort.Procedure is = refl
    by Sort.Declaration is = absurd (false≢true is)

same_none : (sort : Sort) (own : List Sort) → goes_on_behind sort ≡ false → ((k : ℕ) (d : Sort) → k < length own → slice_index_or own k d ≡ sort)
    → NoneGoesOn own
same_none sort [] is all = tt
same_none sort (first ∷ own) is all = (
  ap goes_on_behind (all 0 sort (omega arith)) ∙ is,
  same_none sort own is (λ k d few. all (suc k) d (omega (arith, few))),
)

none_append : (one other : List Sort) → NoneGoesOn one → NoneGoesOn other → NoneGoesOn (one ++ other)
none_append [] other first second = second
none_append (sort ∷ one) other first second = (first.0, none_append one other first.1 second)

program_none : (items : List Sort) → Fill program_sections items → NoneGoesOn items
program_none items (first, others, same, are, (next, more, split, is, none)) =
    subst NoneGoesOn
    (sym (same ∙ ap (λ (l : List Sort). l ++ others) are ∙ ap (λ (l : List Sort). Sort.Main ∷ l) (split ∙ ap (λ (l : List Sort). next ++ l) none))) (
      refl,
      none_append next [] (same_none Sort.Procedure next refl is.1) tt,
    )

pub statements_go_on : StatementsGoOn
statements_go_on marks items program slot found is e goes =
    let instrs = codes_joined (node_codes marks items program) in
    let there =
    landed_among marks items instrs slot 0 0 [] false program (place_at 0 1) found refl is.sound
    (subst (StandsAt instrs 0) (sym (around_nothing (node_codes marks items program))) (all_stand instrs))
    (none_goes_on marks items instrs 0 0 program (place_at 0 1) false (program_none (sorts program) is.listed)) e in
    let node = own_node marks items there.0 found.label found.inner in (
      there.0,
      node.length,
      get-from_entries nat_cmp_total (flat_map span_by_slot (node_spans marks items 0 0 program)) slot
          ∙ first_span slot (node_spans marks items 0 0 program) node there.1 (done_code found.label.kind goes),
      lands_at (there.0 + length (code_of_site marks items found)) (there.0 + node.length)
          (ap (λ (n : ℕ). there.0 + n) (node_long marks items found.label found.inner)) (there.2 goes),
    )
