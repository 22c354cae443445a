-- The entries of code. Headings that are listed by name are effective by the same tests as those of signatures, the
-- first of a name first; and main and the procedures begin where their spans do, since nothing stands between them.
use Rattle.std.proofs.Common.{◌≡◌, ℕ, ◌+◌, ◌≤◌, Bool, true, false, List, [], ◌∷◌, ◌++◌, Option, Some, None, refl, ap, sym, ◌∙◌, arith}
use Rattle.std.specs.Prelude.{◌&&◌, ◌==◌, bytes_eq, cond, flat_map, if◌then◌else◌, option_and_then, option_map}
use Rattle.std.specs.FinMap.{find, get-from_entries}
use Rattle.std.specs.Option.{option_or}
use Rattle.std.specs.Ordering.{eq_by_cmp}
use Rattle.std.proofs.lemmas.Bool.{eq-eqb}
use Rattle.std.proofs.lemmas.Cmp.{nat_cmp_total}
use Rattle.std.proofs.lemmas.Option.{none-some}
use Rattle.std.proofs.lemmas.Slice.Eq.{bytes_eq-Decides}
use Rattle.plcs_base.specs.Mark.{MarkMap}
use Rattle.plcs_base.specs.Scope.{ItemMap}
use Rattle.plcs_grammar.specs.declared.node_kind.NodeKind.{NodeKind}
use Rattle.plcs_grammar.specs.declared.template.Template.{Template}
use Rattle.plcs_grammar.specs.PlainPhrase.{PlainPhrase}
use Rattle.template_tree.specs.Checks.Environment.{Heading, Sig, Signature, heading_of, may_be_called, signature_of, template_heading}
use Rattle.template_tree.specs.Programs.PlainTree.{Forest, PlainNode}
use Rattle.template_tree.specs.Programs.Slots.{times}
use Rattle.plcs_code.specs.CodeLaws.{EntriesAreHeadings, EntriesBeginProcedures}
use Rattle.plcs_code.specs.declared.heading_entry.HeadingEntry.{HeadingEntry}
use Rattle.plcs_code.specs.declared.node_span.NodeSpan.{NodeSpan}
use Rattle.plcs_code.specs.Gen.{has_code, heading_by_name, headings_by_name, length_around, name_cmp, node_lengths, node_spans, span_by_slot}
use Rattle.plcs_code.proofs.FoundNodes.{first_node, first_other, first_own, inner_gap, inner_start, nowhere_first, own_node, rest_start}
use Rattle.plcs_code.proofs.FoundSites.{one_if, other_slot}
use Rattle.plcs_code.proofs.HeldSpans.{first_span}
use Rattle.plcs_code.proofs.KeyOrder.{name_ties, names_total}

-- ---- which headings have entries

abbrev entry_slot : Option HeadingEntry → Option ℕ
entry_slot entry = option_map (λ e. e.slot.0) entry

abbrev signature_slot : Option Signature → Option ℕ
signature_slot signature = option_map (λ s. s.slot) signature

-- the signature of the node's heading, if it has the name
abbrev named_signature : List ℕ → PlainNode → Option Heading → Option Signature
named_signature name node heading =
    option_and_then (λ h. if bytes_eq name h.name && may_be_called name then Some (signature_of node h) else None) heading

-- the entry of a heading
abbrev own_entry : (slot start : ℕ) → HeadingEntry
own_entry slot start = record { address = start; slot = record { 0 = slot } }

heading_same : (name : List ℕ) (node : PlainNode) (start : ℕ) (heading : Option Heading) (rest : List (List ℕ × HeadingEntry)) (others : Option Signature)
    → entry_slot (find name_cmp name rest) ≡ signature_slot others
    → entry_slot (find name_cmp name (heading_by_name node.label.slot start heading ++ rest))
    ≡ signature_slot (option_or (named_signature name node heading) others)
heading_same name node start None rest others same = same
heading_same name node start (Some heading) rest others same =
    by (may_be_called heading.name) (bytes_eq name heading.name) refl refl
  where
    by : (called same_name : Bool) → may_be_called heading.name ≡ called → bytes_eq name heading.name ≡ same_name
        → entry_slot (find name_cmp name ((if called then (heading.name, own_entry node.label.slot start) ∷ [] else []) ++ rest))
        ≡ signature_slot (option_or (if same_name && may_be_called name then Some (signature_of node heading) else None) others)
    by false false c e = same
    by false true c e =
        same
        ∙ ap (λ (b : Bool). signature_slot (option_or (if b then Some (signature_of node heading) else None) others))
        (sym (ap may_be_called ((bytes_eq-Decides name heading.name).0 e) ∙ c))
    by true false c e =
        ap (λ (b : Bool). entry_slot (cond b (Some (own_entry node.label.slot start)) (find name_cmp name rest)))
        (sym (name_ties name heading.name) ∙ e)
        ∙ same
    by true true c e =
        ap (λ (b : Bool). entry_slot (cond b (Some (own_entry node.label.slot start)) (find name_cmp name rest)))
        (sym (name_ties name heading.name) ∙ e)
        ∙ ap (λ (b : Bool). signature_slot (option_or (if b then Some (signature_of node heading) else None) others))
        (sym (ap may_be_called ((bytes_eq-Decides name heading.name).0 e) ∙ c))

headings_same : (marks : MarkMap) (items : ItemMap) (name : List ℕ) (start : ℕ) (nodes : Forest)
    → entry_slot (find name_cmp name (headings_by_name marks items start nodes)) ≡ signature_slot (Sig nodes name)
headings_same marks items name start Forest.nil = refl
headings_same marks items name start (Forest.cons label inner rest) =
    let later : ℕ = start + length_around marks items label (node_lengths marks items inner) in
    heading_same name record { label = label; inner = inner } start (heading_of label.kind label.parts) (headings_by_name marks items later rest)
    (Sig rest name) (headings_same marks items name later rest)

pub entries_are_headings : EntriesAreHeadings
entries_are_headings marks items program name =
    ap entry_slot (get-from_entries names_total (headings_by_name marks items 0 program) name) ∙ headings_same marks items name 0 program

-- ---- where they are entered

-- the entry, or else another
abbrev entry_or : HeadingEntry → Option HeadingEntry → HeadingEntry
entry_or entry None = entry
entry_or entry (Some there) = there

-- what is found is the entry of the heading, or one behind it
entry_cases : {R : Type 0} (name : List ℕ) (slot start : ℕ) (heading : Option Heading) (rest : List (List ℕ × HeadingEntry)) (entry : HeadingEntry)
    → find name_cmp name (heading_by_name slot start heading ++ rest) ≡ Some entry
    → ((h : Heading) → heading ≡ Some h → own_entry slot start ≡ entry → R) → (find name_cmp name rest ≡ Some entry → R) → R
entry_cases name slot start None rest entry e here later = later e
entry_cases {R = R} name slot start (Some heading) rest entry e here later = by (may_be_called heading.name) e
  where
    tie : (b : Bool) → cond b (Some (own_entry slot start)) (find name_cmp name rest) ≡ Some entry → R
    tie true e = here heading refl (ap (entry_or (own_entry slot start)) e)
    tie false e = later e

    by : (called : Bool)
        → find name_cmp name ((if called then (heading.name, own_entry slot start) ∷ [] else []) ++ rest) ≡ Some entry → R
    by true e = tie (eq_by_cmp name_cmp name heading.name) e
    by false e = later e

counted : (b : Bool) → b ≡ true → one_if b ≡ 1
counted b e = rw e refl

-- an entry is of one of the nodes
entry_counted : (marks : MarkMap) (items : ItemMap) (name : List ℕ) (start : ℕ) (nodes : Forest) (entry : HeadingEntry)
    → find name_cmp name (headings_by_name marks items start nodes) ≡ Some entry → 1 ≤ times entry.slot.0 nodes
entry_counted marks items name start Forest.nil entry e = absurd (none-some entry e)
entry_counted marks items name start (Forest.cons label inner rest) entry e =
    let later : ℕ = start + length_around marks items label (node_lengths marks items inner) in
    entry_cases name label.slot start (heading_of label.kind label.parts) (headings_by_name marks items later rest) entry e
    (λ h is own.
    let one : one_if (label.slot == entry.slot.0) ≡ 1 =
    counted (label.slot == entry.slot.0) (eq-eqb label.slot entry.slot.0 (ap (λ (x : HeadingEntry). x.slot.0) own)) in
    omega (arith, one))
    (λ behind. let some : 1 ≤ times entry.slot.0 rest = entry_counted marks items name later rest entry behind in omega (arith, some))

template_code : (template : Template) (parts : List (Option PlainPhrase)) (heading : Heading) → template_heading template parts ≡ Some heading
    → has_code (NodeKind.Filled template) ≡ true
template_code Template.Proc parts heading e = refl
template_code Template.ProcP parts heading e = refl
template_code other parts heading e = absurd (none-some heading e)

-- a node with a heading has code
heading_code : (kind : NodeKind) (parts : List (Option PlainPhrase)) (heading : Heading) → heading_of kind parts ≡ Some heading → has_code kind ≡ true
heading_code (NodeKind.Filled template) parts heading e = template_code template parts heading e
heading_code other parts heading e = absurd (none-some heading e)

-- the node of an entry begins at its address
abbrev EntryNode : HeadingEntry → Option NodeSpan → Type 0
EntryNode entry node = (found : NodeSpan) × (node ≡ Some found) × (found.start ≡ entry.address) × (has_code found.kind ≡ true)

entry_node : (marks : MarkMap) (items : ItemMap) (name : List ℕ) (start from : ℕ) (nodes : Forest) (entry : HeadingEntry) → from ≡ start
    → times entry.slot.0 nodes ≤ 1 → find name_cmp name (headings_by_name marks items start nodes) ≡ Some entry
    → EntryNode entry (first_node entry.slot.0 (node_spans marks items from 0 nodes))
entry_node marks items name start from Forest.nil entry at once e = absurd (none-some entry e)
entry_node marks items name start from (Forest.cons label inner rest) entry at once e =
    let later : ℕ = start + length_around marks items label (node_lengths marks items inner) in
    let later_from = rest_start marks items from 0 label inner in
    let slot = entry.slot.0 in
    let node = own_node marks items from label inner in
    let within = node_spans marks items (inner_start marks items from label inner) (inner_gap marks items label inner) inner in
    let behind = node_spans marks items later_from 0 rest in
    entry_cases name label.slot start (heading_of label.kind label.parts) (headings_by_name marks items later rest) entry e
    (λ h is own. (
      node,
      first_own slot node (within ++ behind) (eq-eqb label.slot slot (ap (λ (x : HeadingEntry). x.slot.0) own)),
      at ∙ ap (λ (x : HeadingEntry). x.address) own,
      heading_code label.kind label.parts h is,
    ))
    (λ next.
    let some : 1 ≤ times slot rest = entry_counted marks items name later rest entry next in
    let none : one_if (label.slot == slot) ≤ 0 = omega (arith, once, some) in
    let there = entry_node marks items name later later_from rest entry (omega (arith, at)) (omega (arith, once)) next in (
      there.0,
      first_other slot node within behind (other_slot (label.slot == slot) none)
          ∙ ap (λ (o : Option NodeSpan). option_or o (first_node slot behind))
          (nowhere_first marks items slot (inner_start marks items from label inner) (inner_gap marks items label inner) inner
          (omega (arith, once, some)))
          ∙ there.1,
      there.2,
      there.3,
    ))

pub entries_begin_procedures : EntriesBeginProcedures
entries_begin_procedures marks items program name entry once e =
    let nodes = node_spans marks items 0 0 program in
    let there =
    entry_node marks items name 0 0 program entry refl once
    (sym (get-from_entries names_total (headings_by_name marks items 0 program) name) ∙ e) in (
      there.0.length,
      get-from_entries nat_cmp_total (flat_map span_by_slot nodes) entry.slot.0
          ∙ first_span entry.slot.0 nodes there.0 there.1 there.3
          ∙ ap (λ (n : ℕ). Some (n, there.0.length)) there.2,
    )
