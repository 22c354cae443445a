-- The procedure of a call: the one of the effective heading of its name, which stands among the procedures of the
-- program, and whose code is entered at the address that the code knows of the name.
use Rattle.std.specs.Prelude.{◌≡◌, refl, ℕ, ◌+◌, ◌≤◌, ◌==◌, ◌&&◌, Bool, true, false, bytes_eq, flat_map, if◌then◌else◌, List, [], ◌∷◌, ◌++◌, length, map, slice_get, take, Option, Some, None, is_some, option_and_then, option_map, unwrap_or}
use Rattle.std.specs.FinMap.{get}
use Rattle.std.specs.List.{list_all}
use Rattle.std.specs.Option.{option_or, option_to_list}
use Rattle.std.proofs.Common.{ap, sym, ◌∙◌, subst, arith}
use Rattle.std.proofs.lemmas.Bool.{eq-eqb, eqb-true, ne_eqb}
use Rattle.std.proofs.lemmas.Option.{none-some, same_Some}
use Rattle.plcs_base.specs.Mark.{MarkMap}
use Rattle.plcs_base.specs.Scope.{ItemMap}
use Rattle.plcs_base.specs.declared.declared.Declared.{Declared}
use Rattle.plcs_grammar.specs.declared.node_kind.NodeKind.{NodeKind}
use Rattle.plcs_grammar.specs.declared.template.Template.{Template}
use Rattle.plcs_grammar.specs.PlainPhrase.{PlainPhrase}
use Rattle.plcs_grammar.specs.Template.{PlainSection, procedure_sections, row_of}
use Rattle.template_tree.specs.Checks.Environment.{Heading, Sig, Signature, heading_of, heading_with, items_inside, may_be_called, name_given, parameter_kinds, parameters_given, procedure_at, signature_for, signature_of}
use Rattle.template_tree.specs.Checks.ProgramMaps.{ScopeTells, items_in}
use Rattle.template_tree.specs.Positions.Place.{PlainPlace, Site, begin, end_at, in_turn, inner_end, place_at, site, site_among}
use Rattle.template_tree.specs.Programs.PlainTree.{Forest, Label, PlainNode}
use Rattle.template_tree.specs.Programs.Program.{Fill, IsProgram, sorts}
use Rattle.template_tree.specs.Programs.Slots.{times}
use Rattle.template_tree.specs.Programs.Part.{part_at}
use Rattle.plcs_code.specs.ExprCode.{counter_name}
use Rattle.plcs_code.specs.declared.heading_entry.HeadingEntry.{HeadingEntry}
use Rattle.plcs_code.specs.Gen.{Gen, codes_around, has_code, node_codes, node_lengths}
use Rattle.plcs_code.specs.Pieces.{cell_instr, count_pieces, first_length, jumps, kind_jumps, kind_pieces, other_lengths, parameters_instrs, pieces, suspension}
use Rattle.plcs_code.specs.PlainInstr.{PlainInstr}
use Rattle.plcs_store.specs.Spot.{Callee, callee_named, callee_of, callee_with}
use Rattle.plcs_machine.proofs.CalledFrames.{called_added}
use Rattle.plcs_machine.proofs.FoundSites.{site_is}
use Rattle.plcs_machine.proofs.FreshVariables.{inside_apart, inside_few}
use Rattle.plcs_machine.proofs.RunCalls.{EntersAt}
use Rattle.plcs_machine.proofs.SiteCode.{CodeLawsHold, code_of_site}
use Rattle.plcs_machine.proofs.SiteRuns.{has_both}
use Rattle.plcs_machine.proofs.StandingCode.{HasAt, has_first}
use Rattle.plcs_machine.proofs.TreeBegun.{procedure_begins}

-- ---- slots that stand once

abbrev one_if : (own slot : ℕ) → ℕ
one_if own slot = if own == slot then 1 else 0

counted : (own slot : ℕ) → own ≡ slot → one_if own slot ≡ 1
counted own slot same = ap (λ (b : Bool). if b then 1 else 0) (eq-eqb own slot same)

-- a slot with a site stands somewhere
site_level : (slot : ℕ) (same : Bool) (label : Label) (inner rest : Forest) (own : Site) (within behind : Option Site) (found : Site) → (label.slot == slot) ≡ same
    → (within ≡ Some found → 1 ≤ times slot inner) → (behind ≡ Some found → 1 ≤ times slot rest)
    → (if same then Some own else option_or within behind) ≡ Some found → 1 ≤ times slot (Forest.cons label inner rest)
site_level slot true label inner rest own within behind found is inside later e =
    let one = counted label.slot slot (eqb-true label.slot slot is) in omega (arith, one)
site_level slot false label inner rest own None behind found is inside later e = let some = later e in omega (arith, some)
site_level slot false label inner rest own (Some one) behind found is inside later e = let some = inside e in omega (arith, some)

site_counted : (slot : ℕ) (turn : Bool) (nodes : Forest) (behind : PlainPlace) (found : Site) → site_among slot turn nodes behind ≡ Some found → 1 ≤ times slot nodes
site_counted slot turn Forest.nil behind found e = absurd (none-some found e)
site_counted slot turn (Forest.cons label inner rest) behind found e =
    let after : PlainPlace = if turn then begin rest behind else behind in
    let place = end_at label.slot (inner_end label.kind) after in
    site_level slot (label.slot == slot) label inner rest (let own : Site = record { label = label; inner = inner; after = after } in own)
    (site_among slot (in_turn (row_of label.kind).sections) inner place) (site_among slot turn rest behind) found refl
    (site_counted slot (in_turn (row_of label.kind).sections) inner place found) (site_counted slot turn rest behind found) e

named_level : (same : Bool) (label : Label) (inner rest : Forest) (procedure : ℕ) (node : PlainNode) → (label.slot == procedure) ≡ same
    → (procedure_at rest procedure ≡ Some node → 1 ≤ times procedure rest)
    → (if same then Some (let own : PlainNode = record { label = label; inner = inner } in own) else procedure_at rest procedure) ≡ Some node
    → 1 ≤ times procedure (Forest.cons label inner rest)
named_level true label inner rest procedure node same later e = let one = counted label.slot procedure (eqb-true label.slot procedure same) in omega (arith, one)
named_level false label inner rest procedure node same later e = let some = later e in omega (arith, some)

named_counted : (items : Forest) (procedure : ℕ) (node : PlainNode) → procedure_at items procedure ≡ Some node → 1 ≤ times procedure items
named_counted Forest.nil procedure node e = absurd (none-some node e)
named_counted (Forest.cons label inner rest) procedure node e =
    named_level (label.slot == procedure) label inner rest procedure node refl (named_counted rest procedure node) e

named_first : (label : Label) (inner rest : Forest)
    → procedure_at (Forest.cons label inner rest) label.slot ≡ Some (let own : PlainNode = record { label = label; inner = inner } in own)
named_first label inner rest =
    ap (λ (b : Bool). if b then Some (let own : PlainNode = record { label = label; inner = inner } in own) else procedure_at rest label.slot)
    (eq-eqb label.slot label.slot refl)

named_later : (label : Label) (inner rest : Forest) (procedure : ℕ) → (label.slot ≡ procedure → ⊥)
    → procedure_at (Forest.cons label inner rest) procedure ≡ procedure_at rest procedure
named_later label inner rest procedure apart =
    ap (λ (b : Bool). if b then Some (let own : PlainNode = record { label = label; inner = inner } in own) else procedure_at rest procedure)
    (ne_eqb label.slot procedure apart)

-- a procedure's node is the one at its site
named_site : (items : Forest) (slot : ℕ) (node : PlainNode) (behind : PlainPlace) → times slot items ≤ 1 → procedure_at items slot ≡ Some node
    → site_among slot false items behind ≡ Some (let found : Site = record { label = node.label; inner = node.inner; after = behind } in found)
named_site Forest.nil slot node behind once e = absurd (none-some node e)
named_site (Forest.cons label inner rest) slot node behind once e =
    by (label.slot == slot) refl (site_among slot (in_turn (row_of label.kind).sections) inner (end_at label.slot (inner_end label.kind) behind)) refl e
    (λ few named. named_site rest slot node behind few named)
  where
    own : Site
    own = record { label = label; inner = inner; after = behind }

    by : (same : Bool) → (label.slot == slot) ≡ same → (within : Option Site)
        → site_among slot (in_turn (row_of label.kind).sections) inner (end_at label.slot (inner_end label.kind) behind) ≡ within
        → (if same then Some (let n : PlainNode = record { label = label; inner = inner } in n) else procedure_at rest slot) ≡ Some node
        → (times slot rest ≤ 1 → procedure_at rest slot ≡ Some node
        → site_among slot false rest behind ≡ Some (let found : Site = record { label = node.label; inner = node.inner; after = behind } in found))
        → (if same then Some (let s : Site = record { label = label; inner = inner; after = behind } in s) else option_or within (site_among slot false rest behind))
        ≡ Some (let found : Site = record { label = node.label; inner = node.inner; after = behind } in found)
    by true same within is e again =
        ap (λ (n : PlainNode). Some (let s : Site = record { label = n.label; inner = n.inner; after = behind } in s)) (same_Some (let n : PlainNode = record { label = label; inner = inner } in n) node e)
    by false same None is e again = again (omega (arith, once)) e
    by false same (Some found) is e again =
        let some = site_counted slot (in_turn (row_of label.kind).sections) inner (end_at label.slot (inner_end label.kind) behind) found is in
        let more = named_counted rest slot node e in
        absurd (omega (arith, once, some, more))

-- ---- the procedure of a signature

-- a procedure of the program has the signature
record HasProcedure (items : Forest) (signature : Signature) : Type 0 where
  node : PlainNode
  heading : Heading
  named : procedure_at items signature.slot ≡ Some node
  headed : heading_of node.label.kind node.label.parts ≡ Some heading
  is : signature ≡ signature_of node heading

signed_level : (node : PlainNode) (may : Heading → Bool) (found : Option Heading) (signature : Signature)
    → option_and_then (λ (heading : Heading). if may heading then Some (signature_of node heading) else None) found ≡ Some signature
    → (heading : Heading) × (found ≡ Some heading) × (signature ≡ signature_of node heading)
signed_level node may None signature e = absurd (none-some signature e)
signed_level node may (Some heading) signature e = by (may heading) e
  where
    by : (b : Bool) → (if b then Some (signature_of node heading) else None) ≡ Some signature
        → (one : Heading) × (Some heading ≡ Some one) × (signature ≡ signature_of node one)
    by true e = (heading, refl, sym (same_Some (signature_of node heading) signature e))
    by false e = absurd (none-some signature e)

procedure_of_signature : (items : Forest) (name : List ℕ) (signature : Signature) → ((slot : ℕ) → times slot items ≤ 1)
    → Sig items name ≡ Some signature → HasProcedure items signature
procedure_of_signature Forest.nil name signature once e = absurd (none-some signature e)
procedure_of_signature (Forest.cons label inner rest) name signature once e =
    by (signature_for name node) refl (procedure_of_signature rest name signature (λ slot. let few = once slot in omega (arith, few))) e
  where
    node : PlainNode
    node = record { label = label; inner = inner }

    by : (found : Option Signature) → signature_for name node ≡ found → (Sig rest name ≡ Some signature → HasProcedure rest signature)
        → option_or found (Sig rest name) ≡ Some signature → HasProcedure (Forest.cons label inner rest) signature
    by None is behind later =
        let there : HasProcedure rest signature = behind later in
        let some : 1 ≤ times signature.slot rest = named_counted rest signature.slot there.node there.named in
        let few : times signature.slot (Forest.cons label inner rest) ≤ 1 = once signature.slot in
        record {
          node = there.node;
          heading = there.heading;
          named =
              named_later label inner rest signature.slot (λ same. let one = counted label.slot signature.slot same in omega (arith, few, some, one))
              ∙ there.named;
          headed = there.headed;
          is = there.is;
        }
    by (Some own) is behind later =
        let (heading, headed, same) =
        signed_level node (λ heading. bytes_eq name heading.name && may_be_called name) (heading_of label.kind label.parts) signature (is ∙ later) in
        record {
          node = node;
          heading = heading;
          named = ap (procedure_at (Forest.cons label inner rest)) (ap (λ (s : Signature). s.slot) same) ∙ named_first label inner rest;
          headed = headed;
          is = same;
        }

-- ---- what a heading says

-- a procedure with a heading is of one of two templates, with the parameters of the heading
record Headed (kind : NodeKind) (parts : List (Option PlainPhrase)) (heading : Heading) : Type 0 where
  code : has_code kind ≡ true
  sections : (row_of kind).sections ≡ procedure_sections
  before : (slot : ℕ) (all one : Option PlainInstr) (its : List Declared)
      → (kind_pieces slot all one parts its kind).before ≡ parameters_instrs its [] heading.parameters ++ flat_map (cell_instr heading.parameters) its
  ahead : (slot : ℕ) (counter : Option (List ℕ)) (all one : Bool) (own first others : ℕ)
      → option_to_list (kind_jumps slot counter all one own first others kind).ahead ≡ []

with_is : (name : Option (List ℕ)) (parameters : Option (List (List ℕ))) (heading : Heading) → heading_with name parameters ≡ Some heading → parameters ≡ Some heading.parameters
with_is None parameters heading e = absurd (none-some heading e)
with_is (Some name) None heading e = absurd (none-some heading e)
with_is (Some name) (Some parameters) heading e = ap (λ (h : Heading). Some h.parameters) (same_Some (let h : Heading = record { name = name; parameters = parameters } in h) heading e)

headed_is : (kind : NodeKind) (parts : List (Option PlainPhrase)) (heading : Heading) → heading_of kind parts ≡ Some heading → Headed kind parts heading
headed_is (NodeKind.Filled Template.Proc) parts heading e =
    let none : [] ≡ heading.parameters = same_Some [] heading.parameters (with_is (name_given parts) (Some []) heading e) in
    record {
      code = refl;
      sections = refl;
      before = λ slot all one its. ap (λ (l : List (List ℕ)). parameters_instrs its [] l ++ flat_map (cell_instr l) its) none;
      ahead = λ slot counter all one own first others. refl;
    }
headed_is (NodeKind.Filled Template.ProcP) parts heading e =
    let given : parameters_given parts ≡ Some heading.parameters = with_is (name_given parts) (parameters_given parts) heading e in
    record {
      code = refl;
      sections = refl;
      before =
          λ slot all one its.
          ap (λ (o : Option (List (List ℕ))). parameters_instrs its [] (unwrap_or o []) ++ flat_map (cell_instr (unwrap_or o [])) its) given;
      ahead = λ slot counter all one own first others. refl;
    }
headed_is (NodeKind.Filled other) parts heading e = absurd (none-some heading e)
headed_is other parts heading e = absurd (none-some heading e)

-- ---- the procedure that is entered

module _ (laws : CodeLawsHold) (marks : MarkMap) (items : ItemMap) (program : Forest) (is : IsProgram program) (once : (slot : ℕ) → times slot program ≤ 1)
    (tells : ScopeTells items program) where
  -- the procedure of a heading is entered at its cells
  entered_at : (name : List ℕ) (entry : HeadingEntry) (node : PlainNode) (heading : Heading) → get (Gen marks items program).headings name ≡ Some entry
      → entry.slot.0 ≡ node.label.slot → procedure_at program node.label.slot ≡ Some node → heading_of node.label.kind node.label.parts ≡ Some heading
      → list_all is_some (parameter_kinds (items_inside node.inner) [] heading.parameters) ≡ true
      → EntersAt (Gen marks items program) (callee_with node heading) name
  entered_at name entry node heading known slot named heads kinds =
      let found : Site = record { label = node.label; inner = node.inner; after = place_at 0 1 } in
      let at_site : site program node.label.slot ≡ Some found = named_site program node.label.slot node (place_at 0 1) (once node.label.slot) named in
      let headed = headed_is node.label.kind node.label.parts heading heads in
      let its = code_of_site laws marks items program found is once at_site headed.code in
      let own = site_is node.label.slot false program (place_at 0 1) found is.sound at_site in
      let span = laws.entries marks items program name entry (once entry.slot.0) known in
      let span_here : get (Gen marks items program).spans node.label.slot ≡ Some (entry.address, span.0) = ap (get (Gen marks items program).spans) (sym slot) ∙ span.1 in
      let start : its.start ≡ entry.address = ap (λ (o : Option (ℕ × ℕ)). (unwrap_or o (0, 0)).0) (sym its.span ∙ span_here) in
      let declared : items_in items node.label.slot ≡ items_inside node.inner =
      tells node.label.slot ∙ ap (λ (o : Option PlainNode). unwrap_or (option_map (λ (n : PlainNode). items_inside n.inner) o) []) named in
      let cells = parameters_instrs (items_inside node.inner) [] heading.parameters ++ flat_map (cell_instr heading.parameters) (items_inside node.inner) in
      let before : (pieces marks items node.label).before ≡ cells =
      headed.before node.label.slot (suspension marks node.label.slot node.label.parts) (suspension marks node.label.slot (take 1 node.label.parts)) (items_in items node.label.slot)
      ∙ ap (λ (l : List Declared). parameters_instrs l [] heading.parameters ++ flat_map (cell_instr heading.parameters) l) declared in
      let around = jumps marks items node.label (map length (node_codes marks items node.inner)) in
      let rest =
      option_to_list around.ahead
      ++ (codes_around (option_to_list around.between) (node_codes marks items node.inner) ++ ((pieces marks items node.label).behind ++ option_to_list around.back)) in
      let cells_has : HasAt (Gen marks items program).instrs entry.address cells =
      subst (λ (n : ℕ). HasAt (Gen marks items program).instrs n cells) start
      (subst (HasAt (Gen marks items program).instrs its.start) before
      (has_first (Gen marks items program).instrs its.start (pieces marks items node.label).before rest its.stands)) in
      let ahead : length (option_to_list (jumps marks items node.label (node_lengths marks items node.inner)).ahead) ≡ 0 =
      ap length
      (headed.ahead node.label.slot (counter_name (part_at node.label.parts 0)) (is_some (suspension marks node.label.slot node.label.parts))
      (is_some (suspension marks node.label.slot (take 1 node.label.parts))) (count_pieces (pieces marks items node.label)) (first_length (node_lengths marks items node.inner))
      (other_lengths (node_lengths marks items node.inner))) in
      let fill : Fill procedure_sections (sorts node.inner) =
      subst (λ (l : List PlainSection). Fill l (sorts node.inner)) headed.sections own.node.inner in
      let place = its.begins (place_at node.label.slot 1) (procedure_begins (sorts node.inner) fill) in
      let long : length (pieces marks items node.label).before ≡ length cells = ap length before in
      let there : slice_get (Gen marks items program).instrs (entry.address + length cells) ≡ Some (PlainInstr.place (begin node.inner (place_at node.label.slot 1))) =
      ap (slice_get (Gen marks items program).instrs) (omega (arith, start, ahead, long)) ∙ place in
      record {
        entry = entry;
        known = known;
        slot = slot;
        has =
            has_both (Gen marks items program).instrs entry.address (entry.address + length cells) cells
            (PlainInstr.place (begin node.inner (place_at node.label.slot 1)) ∷ []) refl cells_has (there, tt);
        kinds = kinds;
        added =
            λ frames arguments made e.
            called_added frames (items_inside node.inner) heading.parameters arguments made (inside_apart node.inner) (inside_few node.inner) kinds e;
      }

  pub callee_enters : (name : List ℕ) (callee : Callee) → callee_named program name ≡ Some callee → EntersAt (Gen marks items program) callee name
  callee_enters name callee e = by (Sig program name) refl e
    where
      headed : (signature : Signature) → Sig program name ≡ Some signature → (has : HasProcedure program signature)
          → (b : Bool) → list_all is_some signature.parameters ≡ b
          → (if b then option_map (callee_with has.node) (heading_of has.node.label.kind has.node.label.parts) else None) ≡ Some callee
          → EntersAt (Gen marks items program) callee name
      headed signature known has false all e = absurd (none-some callee e)
      headed signature known has true all e =
          let slot : signature.slot ≡ has.node.label.slot = ap (λ (s : Signature). s.slot) has.is in
          let entry_is = laws.headings marks items program name ∙ ap (option_map (λ (s : Signature). s.slot)) known in
          let same : callee_with has.node has.heading ≡ callee =
          same_Some (callee_with has.node has.heading) callee (ap (option_map (callee_with has.node)) (sym has.headed) ∙ e) in
          entry_of signature (get (Gen marks items program).headings name) refl entry_is
          (λ entry known slot_is.
          subst (λ (one : Callee). EntersAt (Gen marks items program) one name) same
          (entered_at name entry has.node has.heading known (slot_is ∙ slot) (ap (procedure_at program) (sym slot) ∙ has.named) has.headed
          (ap (λ (s : Signature). list_all is_some s.parameters) (sym has.is) ∙ all)))
        where
          entry_of : (signature : Signature) (found : Option HeadingEntry) → get (Gen marks items program).headings name ≡ found
              → option_map (λ entry. entry.slot.0) (get (Gen marks items program).headings name) ≡ Some signature.slot
              → ((entry : HeadingEntry) → get (Gen marks items program).headings name ≡ Some entry → entry.slot.0 ≡ signature.slot → EntersAt (Gen marks items program) callee name)
              → EntersAt (Gen marks items program) callee name
          entry_of signature None is e gives = absurd (none-some signature.slot (sym (ap (option_map (λ (entry : HeadingEntry). entry.slot.0)) is) ∙ e))
          entry_of signature (Some entry) is e gives =
              gives entry is (same_Some entry.slot.0 signature.slot (sym (ap (option_map (λ (one : HeadingEntry). one.slot.0)) is) ∙ e))

      by : (found : Option Signature) → Sig program name ≡ found
          → option_and_then (λ signature. option_and_then (callee_of signature) (procedure_at program signature.slot)) found ≡ Some callee
          → EntersAt (Gen marks items program) callee name
      by None known e = absurd (none-some callee e)
      by (Some signature) known e =
          let has = procedure_of_signature program name signature once known in
          headed signature known has (list_all is_some signature.parameters) refl (ap (option_and_then (callee_of signature)) (sym has.named) ∙ e)
