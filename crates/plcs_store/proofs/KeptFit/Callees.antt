-- What is called is a procedure whose heading is effective: a run begins in it at its first statement, in no loop, and
-- each of its parameters has a kind. The signature and the node are looked up apart, by name and by slot; they are of
-- one procedure, since no slot stands twice.
use Rattle.std.specs.Prelude.{◌≡◌, refl, ℕ, ◌≤◌, ◌==◌, ◌&&◌, Bool, true, false, if◌then◌else◌, bytes_eq, List, [], ◌∷◌, Option, Some, None, is_some, option_and_then, option_map, unwrap_or}
use Rattle.std.specs.List.{IsDistinct, list_all}
use Rattle.std.specs.Option.{option_or}
use Rattle.std.proofs.Common.{ap, sym, ◌∙◌, subst, arith, inl, inr}
use Rattle.std.proofs.lemmas.Bool.{eqb-true, eq-eqb}
use Rattle.std.proofs.lemmas.Option.{none-some, same_Some}
use Rattle.plcs_grammar.specs.declared.node_kind.NodeKind.{NodeKind}
use Rattle.plcs_grammar.specs.declared.template.Template.{Template}
use Rattle.plcs_grammar.specs.PlainPhrase.{PlainPhrase}
use Rattle.template_tree.specs.Checks.Environment.{Heading, Items, Sig, Signature, heading_of, items_inside, may_be_called, parameter_kinds, procedure_at, signature_for, signature_of, template_heading}
use Rattle.template_tree.specs.Positions.Place.{inner_end, place_at}
use Rattle.template_tree.specs.Programs.PlainTree.{Forest, Label, PlainNode}
use Rattle.template_tree.specs.Programs.Slots.{times}
use Rattle.tree_steps.specs.StandingSlot.{StandsInside, loop_by_kind}
use Rattle.plcs_store.specs.Spot.{Callee, callee_named, callee_of, callee_with, procedure_start}
use Rattle.plcs_store.proofs.NewCells.{item_names, names_distinct}
use Rattle.plcs_store.proofs.KeptFit.GoingOn.{AreWithin, GoesOn, SiteLaws, begin_goes_on, end_goes_on}

-- what is called: a procedure of the program with these items, in which a run begins there, and whose parameters have
-- kinds
pub record IsCallee (program : Forest) (callee : Callee) : Type 0 where
  pub start : GoesOn program callee.slot [] callee.start
  pub items : Items program callee.slot ≡ callee.items
  pub distinct : IsDistinct bytes_eq (item_names callee.items)
  pub parameters : list_all is_some (parameter_kinds callee.items [] callee.parameters) ≡ true

-- ---- where a procedure is found

-- the node that is found is one of the outermost, in its slot
pub record FoundProcedure (items : Forest) (slot : ℕ) (node : PlainNode) : Type 0 where
  pub slot_is : node.label.slot ≡ slot
  pub stands : StandsInside items node.label.slot node.label.kind []
  pub within : AreWithin items ((node.label.slot, node.label.kind) ∷ []) node.inner
  pub counted : 1 ≤ times slot items

-- one where the two are the same
abbrev one_if : ℕ → ℕ → ℕ
one_if a b = if a == b then 1 else 0

counted_once : (a b : ℕ) → a ≡ b → one_if a b ≡ 1
counted_once a b e = rw (eq-eqb a b e) refl

procedure_level : (same : Bool) (label : Label) (inner rest : Forest) (slot : ℕ) (node : PlainNode) → (label.slot == slot) ≡ same
    → (procedure_at rest slot ≡ Some node → FoundProcedure rest slot node)
    → (if same then Some record { label = label; inner = inner } else procedure_at rest slot) ≡ Some node
    → FoundProcedure (Forest.cons label inner rest) slot node
procedure_level true label inner rest slot node same later e =
    let here : label.slot ≡ slot = eqb-true label.slot slot same in
    let one : one_if label.slot slot ≡ 1 = counted_once label.slot slot here in
    let own : PlainNode = record { label = label; inner = inner } in
    subst (FoundProcedure (Forest.cons label inner rest) slot) (same_Some own node e)
    record {
      slot_is = here;
      stands = inl (refl, refl, refl);
      within = λ other kind around h. inr (inl h);
      counted = omega (arith, one);
    }
procedure_level false label inner rest slot node same later e =
    let there = later e in
    let some = there.counted in
    record {
      slot_is = there.slot_is;
      stands = inr (inr there.stands);
      within = λ other kind around h. inr (inr (there.within other kind around h));
      counted = omega (arith, some);
    }

pub found_procedure : (items : Forest) (slot : ℕ) (node : PlainNode) → procedure_at items slot ≡ Some node → FoundProcedure items slot node
found_procedure Forest.nil slot node e = absurd (none-some node e)
found_procedure (Forest.cons label inner rest) slot node e =
    procedure_level (label.slot == slot) label inner rest slot node refl (found_procedure rest slot node) e

-- ---- the node of a signature

-- the signature is that of a node of the program with this heading, which its slot finds
record IsSigned (program : Forest) (signature : Signature) : Type 0 where
  node : PlainNode
  heading : Heading
  found : procedure_at program signature.slot ≡ Some node
  heading_is : heading_of node.label.kind node.label.parts ≡ Some heading
  same : signature_of node heading ≡ signature

-- the signature of a node, if it has one, is that of its heading
for_node : (name : List ℕ) (node : PlainNode) (signature : Signature) → signature_for name node ≡ Some signature
    → (heading : Heading) × (heading_of node.label.kind node.label.parts ≡ Some heading) × (signature_of node heading ≡ signature)
for_node name node signature e = by (heading_of node.label.kind node.label.parts) refl e
  where
    level : (named : Bool) (heading : Heading) → (if named then Some (signature_of node heading) else None) ≡ Some signature
        → signature_of node heading ≡ signature
    level true heading h = same_Some (signature_of node heading) signature h
    level false heading h = absurd (none-some signature h)

    by : (got : Option Heading) → heading_of node.label.kind node.label.parts ≡ got
        → option_and_then (λ heading. if bytes_eq name heading.name && may_be_called name then Some (signature_of node heading) else None) got
        ≡ Some signature
        → (heading : Heading) × (heading_of node.label.kind node.label.parts ≡ Some heading) × (signature_of node heading ≡ signature)
    by None is h = absurd (none-some signature h)
    by (Some heading) is h = (heading, is, level (bytes_eq name heading.name && may_be_called name) heading h)

own_procedure : (label : Label) (inner rest : Forest) → procedure_at (Forest.cons label inner rest) label.slot ≡ Some record { label = label; inner = inner }
own_procedure label inner rest =
    ap (λ (here : Bool). if here then Some record { label = label; inner = inner } else procedure_at rest label.slot) (eq-eqb label.slot label.slot refl)

-- a slot that is found behind the first node isn't that of the first
later_procedure : (here : Bool) (label : Label) (inner rest : Forest) (slot : ℕ) (node : PlainNode) → (label.slot == slot) ≡ here
    → times slot (Forest.cons label inner rest) ≤ 1 → procedure_at rest slot ≡ Some node
    → (if here then Some record { label = label; inner = inner } else procedure_at rest slot) ≡ Some node
later_procedure true label inner rest slot node same few found =
    let one : one_if label.slot slot ≡ 1 = counted_once label.slot slot (eqb-true label.slot slot same) in
    let some = (found_procedure rest slot node found).counted in
    absurd (omega (arith, few, one, some))
later_procedure false label inner rest slot node same few found = found

signed : (program : Forest) (name : List ℕ) (signature : Signature) → ((slot : ℕ) → times slot program ≤ 1)
    → Sig program name ≡ Some signature → IsSigned program signature
signed Forest.nil name signature few e = absurd (none-some signature e)
signed (Forest.cons label inner rest) name signature few e =
    by (signature_for name own) refl e (λ h. signed rest name signature fewer h)
  where
    own : PlainNode
    own = record { label = label; inner = inner }

    fewer : (slot : ℕ) → times slot rest ≤ 1
    fewer slot = let all = few slot in omega (arith, all)

    by : (got : Option Signature) → signature_for name own ≡ got → option_or got (Sig rest name) ≡ Some signature
        → (Sig rest name ≡ Some signature → IsSigned rest signature) → IsSigned (Forest.cons label inner rest) signature
    by None is h again =
        let there = again h in
        record {
          node = there.node;
          heading = there.heading;
          found =
              later_procedure (label.slot == signature.slot) label inner rest signature.slot there.node refl (few signature.slot) there.found;
          heading_is = there.heading_is;
          same = there.same;
        }
    by (Some one) is h again =
        let mine = for_node name own signature (is ∙ h) in
        record {
          node = own;
          heading = mine.0;
          found =
              subst (λ (slot : ℕ). procedure_at (Forest.cons label inner rest) slot ≡ Some own) (ap (λ (s : Signature). s.slot) mine.2)
              (own_procedure label inner rest);
          heading_is = mine.1;
          same = mine.2;
        }

-- ---- what has a heading is a procedure

-- what has a heading is left at its point 1, and is no loop
abbrev LeavesAtOne : NodeKind → Option Heading → Type 0
LeavesAtOne kind None = Unit {0}
LeavesAtOne kind (Some heading) = (inner_end kind ≡ Some 1) × ((slot : ℕ) → loop_by_kind kind slot ≡ [])

procedure_leaves : (kind : NodeKind) (heading : Option Heading) → inner_end kind ≡ Some 1 → ((slot : ℕ) → loop_by_kind kind slot ≡ [])
    → LeavesAtOne kind heading
procedure_leaves kind None ends loops = tt
procedure_leaves kind (Some heading) ends loops = (ends, loops)

template_leaves : (template : Template) (parts : List (Option PlainPhrase)) → LeavesAtOne (NodeKind.Filled template) (template_heading template parts)
template_leaves Template.Proc parts =
    procedure_leaves (NodeKind.Filled Template.Proc) (template_heading Template.Proc parts) refl (λ slot. refl)
template_leaves Template.ProcP parts =
    procedure_leaves (NodeKind.Filled Template.ProcP) (template_heading Template.ProcP parts) refl (λ slot. refl)
template_leaves other parts = tt

leaves_at_one : (kind : NodeKind) (parts : List (Option PlainPhrase)) → LeavesAtOne kind (heading_of kind parts)
leaves_at_one (NodeKind.Filled template) parts = template_leaves template parts
leaves_at_one other parts = tt

-- ---- the callee

module _ (laws : SiteLaws) (program : Forest) (few : (slot : ℕ) → times slot program ≤ 1) where
  -- a procedure with this heading, found by its slot
  with_heading : (node : PlainNode) (heading : Heading) (signature : Signature) → procedure_at program signature.slot ≡ Some node
      → heading_of node.label.kind node.label.parts ≡ Some heading → signature_of node heading ≡ signature
      → list_all is_some signature.parameters ≡ true → IsCallee program (callee_with node heading)
  with_heading node heading signature found heading_is same all =
      let there : FoundProcedure program signature.slot node = found_procedure program signature.slot node found in
      let leaves : LeavesAtOne node.label.kind (Some heading) = subst (LeavesAtOne node.label.kind) heading_is (leaves_at_one node.label.kind node.label.parts) in
      let slot : ℕ = node.label.slot in
      record {
        start =
            subst (λ (loops : List ℕ). GoesOn program slot loops (procedure_start node)) (leaves.1 slot)
            (begin_goes_on laws program few (slot, node.label.kind) [] node.inner (place_at slot 1) there.within
            (end_goes_on laws program few slot node.label.kind [] 1 there.stands leaves.0));
        items =
            ap (λ (one : Option PlainNode). unwrap_or (option_map (λ node. items_inside node.inner) one) [])
            (ap (procedure_at program) there.slot_is ∙ found);
        distinct = names_distinct node.inner;
        parameters = ap (λ (s : Signature). list_all is_some s.parameters) same ∙ all;
      }

  -- the callee of the name, if there is one
  pub callee_called : (name : List ℕ) (callee : Callee) → callee_named program name ≡ Some callee → IsCallee program callee
  callee_called name callee e = by (Sig program name) refl e
    where
      with_parts : (signature : Signature) (node : PlainNode) (there : IsSigned program signature) → procedure_at program signature.slot ≡ Some node
          → (all : Bool) → list_all is_some signature.parameters ≡ all
          → (if all then option_map (callee_with node) (heading_of node.label.kind node.label.parts) else None) ≡ Some callee
          → IsCallee program callee
      with_parts signature node there found false all h = absurd (none-some callee h)
      with_parts signature node there found true all h =
          let same_node : there.node ≡ node = same_Some there.node node (sym there.found ∙ found) in
          let heading_is : heading_of node.label.kind node.label.parts ≡ Some there.heading =
          subst (λ (n : PlainNode). heading_of n.label.kind n.label.parts ≡ Some there.heading) same_node there.heading_is in
          subst (IsCallee program)
          (same_Some (callee_with node there.heading) callee
          (sym (ap (option_map (callee_with node)) heading_is) ∙ h))
          (with_heading node there.heading signature found heading_is
          (subst (λ (n : PlainNode). signature_of n there.heading ≡ signature) same_node there.same) all)

      with_node : (signature : Signature) (there : IsSigned program signature) (got : Option PlainNode) → procedure_at program signature.slot ≡ got
          → option_and_then (callee_of signature) got ≡ Some callee → IsCallee program callee
      with_node signature there None is h = absurd (none-some callee h)
      with_node signature there (Some node) is h =
          with_parts signature node there is (list_all is_some signature.parameters) refl h

      by : (got : Option Signature) → Sig program name ≡ got
          → option_and_then (λ signature. option_and_then (callee_of signature) (procedure_at program signature.slot)) got ≡ Some callee
          → IsCallee program callee
      by None is h = absurd (none-some callee h)
      by (Some signature) is h =
          with_node signature (signed program name signature few is) (procedure_at program signature.slot) refl h
