-- What an edit inside main or a procedure leaves that changes no declaration: all by which the phrases of other slots
-- are checked.
use Rattle.std.proofs.Common.{◌≡◌, ℕ, Bool, true, false, List, [], ◌∷◌, ◌++◌, Option, Some, None, refl, ap, sym, ◌∙◌, eqb-true, ne_eqb}
use Rattle.std.specs.Prelude.{◌==◌, ◌&&◌, bytes_eq, if◌then◌else◌, option_and_then}
use Rattle.std.specs.Option.{option_or}
use Rattle.plcs_base.specs.declared.declared.Declared.{Declared}
use Rattle.plcs_base.specs.declared.declared.ItemType.{ItemType}
use Rattle.template_tree.specs.Checks.Environment.{Heading, Sig, Signature, all_declared, declares, effective, heading_of, items_inside, may_be_called, parameter_kinds, signature_for, type_given}
use Rattle.template_tree.specs.Checks.Marks.{declared_before, procedures_before, surroundings, type_in}
use Rattle.template_tree.specs.Edits.Edit.{edit_slot}
use Rattle.template_tree.specs.Programs.PlainTree.{Forest, Label, PlainNode, forest, join}

-- of each of the nodes that is in the slot this is so
abbrev pub AtSlot : (slot : ℕ) → (PlainNode → Type 0) → Forest → Type 0
AtSlot slot It Forest.nil = Unit {0}
AtSlot slot It (Forest.cons label inner rest) =
    (label.slot ≡ slot → It (record { label = label; inner = inner })) × AtSlot slot It inner × AtSlot slot It rest

-- none of main and the procedures is in the slot
abbrev pub NoItem : (slot : ℕ) → Forest → Type 0
NoItem slot Forest.nil = Unit {0}
NoItem slot (Forest.cons label inner rest) = (label.slot ≡ slot → ⊥) × NoItem slot rest

-- nodes in a slot that declare nothing
abbrev pub AreQuiet : (slot : ℕ) → List PlainNode → Type 0
AreQuiet slot [] = Unit {0}
AreQuiet slot (node ∷ nodes) = (node.label.slot ≡ slot) × (declares node.label ≡ []) × AreQuiet slot nodes

module _ (s : ℕ) (change : PlainNode → List PlainNode) where
  -- a node that declares nothing gives way to such nodes
  abbrev pub GivesQuietly : PlainNode → Type 0
  GivesQuietly node = (declares node.label ≡ []) × AreQuiet s (change node)

  -- ---- what is declared

  -- such nodes declare nothing before others
  declared_behind : (nodes : List PlainNode) (rest : Forest) → AreQuiet s nodes
      → all_declared (join (forest nodes) rest) ≡ all_declared rest
  declared_behind [] rest quiet = refl
  declared_behind (node ∷ nodes) rest quiet =
      ap (λ (ds : List Declared). ds ++ all_declared (join (forest nodes) rest)) quiet.1 ∙ declared_behind nodes rest quiet.2

  pub declared_same : (nodes : Forest) → AtSlot s GivesQuietly nodes → all_declared nodes ≡ all_declared (edit_slot s change nodes)
  declared_same Forest.nil quiet = refl
  declared_same (Forest.cons label inner rest) quiet = by (label.slot == s) refl (declared_same rest quiet.2)
    where
      by : (b : Bool) → (label.slot == s) ≡ b → all_declared rest ≡ all_declared (edit_slot s change rest)
          → declares label ++ all_declared rest
          ≡ all_declared
          (if b then join (forest (change record { label = label; inner = inner })) (edit_slot s change rest)
          else Forest.cons label (edit_slot s change inner) (edit_slot s change rest))
      by true e again =
          let here = quiet.0 (eqb-true label.slot s e) in
          ap (λ (ds : List Declared). ds ++ all_declared rest) here.0
          ∙ again
          ∙ sym (declared_behind (change (record { label = label; inner = inner })) (edit_slot s change rest) here.1)
      by false e again = ap (λ (ds : List Declared). declares label ++ ds) again

  -- the effective items
  pub items_same : (nodes : Forest) → AtSlot s GivesQuietly nodes → items_inside nodes ≡ items_inside (edit_slot s change nodes)
  items_same nodes quiet = ap (effective []) (declared_same nodes quiet)

  -- ---- what is declared before a node

  before_behind : (at : ℕ) → (at ≡ s → ⊥) → (nodes : List PlainNode) (rest : Forest) → AreQuiet s nodes
      → declared_before (join (forest nodes) rest) at ≡ declared_before rest at
  before_behind at other [] rest quiet = refl
  before_behind at other (node ∷ nodes) rest quiet =
      ap (λ (b : Bool). if b then [] else declares node.label ++ declared_before (join (forest nodes) rest) at)
      (ne_eqb node.label.slot at (λ e. other (sym e ∙ quiet.0)))
      ∙ ap (λ (ds : List Declared). ds ++ declared_before (join (forest nodes) rest) at) quiet.1
      ∙ before_behind at other nodes rest quiet.2

  before_same : (at : ℕ) → (at ≡ s → ⊥) → (nodes : Forest) → AtSlot s GivesQuietly nodes
      → declared_before nodes at ≡ declared_before (edit_slot s change nodes) at
  before_same at other Forest.nil quiet = refl
  before_same at other (Forest.cons label inner rest) quiet = by (label.slot == s) refl (before_same at other rest quiet.2)
    where
      by : (b : Bool) → (label.slot == s) ≡ b → declared_before rest at ≡ declared_before (edit_slot s change rest) at
          → (if label.slot == at then [] else declares label ++ declared_before rest at)
          ≡ declared_before
          (if b then join (forest (change record { label = label; inner = inner })) (edit_slot s change rest)
          else Forest.cons label (edit_slot s change inner) (edit_slot s change rest))
          at
      by true e again =
          let same = eqb-true label.slot s e in
          let here = quiet.0 same in
          ap (λ (b : Bool). if b then [] else declares label ++ declared_before rest at)
          (ne_eqb label.slot at (λ is. other (sym is ∙ same)))
          ∙ ap (λ (ds : List Declared). ds ++ declared_before rest at) here.0
          ∙ again
          ∙ sym (before_behind at other (change (record { label = label; inner = inner })) (edit_slot s change rest) here.1)
      by false e again =
          ap (λ (ds : List Declared). if label.slot == at then [] else declares label ++ ds) again

  -- ---- the type that a declaration gives

  type_behind : (at : ℕ) → (at ≡ s → ⊥) → (nodes : List PlainNode) (rest : Forest) → AreQuiet s nodes
      → type_in (join (forest nodes) rest) at ≡ type_in rest at
  type_behind at other [] rest quiet = refl
  type_behind at other (node ∷ nodes) rest quiet =
      ap (λ (b : Bool). if b then type_given node.label.kind node.label.parts else type_in (join (forest nodes) rest) at)
      (ne_eqb node.label.slot at (λ e. other (sym e ∙ quiet.0)))
      ∙ type_behind at other nodes rest quiet.2

  type_same : (at : ℕ) → (at ≡ s → ⊥) → (nodes : Forest) → AtSlot s GivesQuietly nodes
      → type_in nodes at ≡ type_in (edit_slot s change nodes) at
  type_same at other Forest.nil quiet = refl
  type_same at other (Forest.cons label inner rest) quiet = by (label.slot == s) refl (type_same at other rest quiet.2)
    where
      by : (b : Bool) → (label.slot == s) ≡ b → type_in rest at ≡ type_in (edit_slot s change rest) at
          → (if label.slot == at then type_given label.kind label.parts else type_in rest at)
          ≡ type_in
          (if b then join (forest (change record { label = label; inner = inner })) (edit_slot s change rest)
          else Forest.cons label (edit_slot s change inner) (edit_slot s change rest))
          at
      by true e again =
          let same = eqb-true label.slot s e in
          let here = quiet.0 same in
          ap (λ (b : Bool). if b then type_given label.kind label.parts else type_in rest at)
          (ne_eqb label.slot at (λ is. other (sym is ∙ same)))
          ∙ again
          ∙ sym (type_behind at other (change (record { label = label; inner = inner })) (edit_slot s change rest) here.1)
      by false e again =
          ap (λ (t : Option ItemType). if label.slot == at then type_given label.kind label.parts else t)
          again

  -- ---- headings

  -- what a call needs of a procedure of these items
  abbrev signature_by : List Declared → Label → Heading → Signature
  signature_by items label heading =
      record { slot = label.slot; parameters = parameter_kinds items [] heading.parameters }

  signature_same : (name : List ℕ) (label : Label) (inner : Forest) → AtSlot s GivesQuietly inner
      → signature_for name (record { label = label; inner = inner })
      ≡ signature_for name (record { label = label; inner = edit_slot s change inner })
  signature_same name label inner quiet =
      ap
      (λ (items : List Declared).
      option_and_then
      (λ (heading : Heading).
      if bytes_eq name heading.name && may_be_called name then Some (signature_by items label heading) else None)
      (heading_of label.kind label.parts))
      (items_same inner quiet)

  headings_same : (name : List ℕ) (program : Forest) → AtSlot s GivesQuietly program → NoItem s program
      → Sig program name ≡ Sig (edit_slot s change program) name
  headings_same name Forest.nil quiet none = refl
  headings_same name (Forest.cons label inner rest) quiet none =
      (λ i. option_or (signature_same name label inner quiet.1 i) (headings_same name rest quiet.2 none.1 i))
      ∙ ap
      (λ (b : Bool).
      Sig
      (if b then join (forest (change record { label = label; inner = inner })) (edit_slot s change rest)
      else Forest.cons label (edit_slot s change inner) (edit_slot s change rest))
      name)
      (sym (ne_eqb label.slot s none.0))

  earlier_same : (name : List ℕ) (at : ℕ) (program : Forest) → AtSlot s GivesQuietly program → NoItem s program
      → Sig (procedures_before program at) name ≡ Sig (procedures_before (edit_slot s change program) at) name
  earlier_same name at Forest.nil quiet none = refl
  earlier_same name at (Forest.cons label inner rest) quiet none =
      either (label.slot == at) (earlier_same name at rest quiet.2 none.1)
      ∙ ap
      (λ (b : Bool).
      Sig
      (procedures_before
      (if b then join (forest (change record { label = label; inner = inner })) (edit_slot s change rest)
      else Forest.cons label (edit_slot s change inner) (edit_slot s change rest))
      at)
      name)
      (sym (ne_eqb label.slot s none.0))
    where
      either : (b : Bool) → Sig (procedures_before rest at) name ≡ Sig (procedures_before (edit_slot s change rest) at) name
          → Sig (if b then Forest.nil else Forest.cons label inner (procedures_before rest at)) name
          ≡ Sig
          (if b then Forest.nil
          else Forest.cons label (edit_slot s change inner) (procedures_before (edit_slot s change rest) at))
          name
      either true again = refl
      either false again =
          (λ i. option_or (signature_same name label inner quiet.1 i) (again i))

  -- ---- all by which the phrases of another slot are checked

  pub surroundings_same : (program : Forest) (label : Label) (inner : Forest) (at : ℕ) → AtSlot s GivesQuietly program → NoItem s program
      → AtSlot s GivesQuietly inner → (at ≡ s → ⊥)
      → surroundings program (record { label = label; inner = inner }) at
      ≡ surroundings (edit_slot s change program) (record { label = label; inner = edit_slot s change inner }) at
  surroundings_same program label inner at quiet none within other =
      (λ i.
      record {
        items = items_same inner within i;
        before = effective [] (before_same at other inner within i);
        gives = type_same at other inner within i;
        headings = (λ name. headings_same name program quiet none i);
        earlier = (λ name. earlier_same name label.slot program quiet none i);
      })
