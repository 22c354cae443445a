-- Where declared lists stand.
use Rattle.std.proofs.Common.{◌≡◌, ℕ, ◌≤◌, zero, suc, Bool, true, false, cond, List, [], ◌∷◌, ◌++◌, Option, Some, None, option_map, slice_get, refl, sym, ap, subst, ◌∙◌, arith, inl, inr}
use Rattle.std.specs.Prelude.{nat_eq}
use Rattle.std.proofs.lemmas.Bool.Decides.{nat_tests}
use Rattle.std.proofs.lemmas.List.{append_assoc}
use Rattle.plcs_base.specs.declared.declared.ItemType.{ItemType}
use Rattle.plcs_grammar.specs.declared.category.Category.{Category}
use Rattle.plcs_grammar.specs.declared.item.Item.{Item}
use Rattle.plcs_grammar.specs.declared.node_kind.NodeKind.{NodeKind}
use Rattle.plcs_grammar.specs.declared.template.Template.{Template}
use Rattle.plcs_grammar.specs.Canon.{Canon}
use Rattle.plcs_grammar.specs.PlainPhrase.{PlainPhrase}
use Rattle.plcs_grammar.specs.Reads.{HasReading}
use Rattle.plcs_grammar.specs.Template.{row_of}
use Rattle.template_tree.specs.Programs.Part.{part_at}
use Rattle.template_tree.specs.Checks.Environment.{all_declared, declares, list_items, procedure_at, type_given, with_type}
use Rattle.template_tree.specs.Checks.Marks.{declared_before, type_in}
use Rattle.template_tree.specs.Positions.Path.{below, node_at}
use Rattle.template_tree.specs.Programs.PlainTree.{Forest, PlainNode, forest}
use Rattle.template_tree.specs.Programs.Program.{AreParts, IsPart, parts_of}
use Rattle.template_tree.specs.Programs.Slots.{times}
use Rattle.type_marks.proofs.LiveSlots.{slot_present}
use Rattle.type_marks.specs.Private.DeclaredItems.{AreDeclaredIn}
use Rattle.type_marks.specs.Private.MarksView.{AreListed}
use Rattle.type_marks.proofs.CalledProcedures.{one_if, slot_lives}

-- ---- a declared list stands in the first part of a declaration

-- a length isn't a declared list
not_length : (text : List ℕ) (items : List Item) → HasReading Category.Length text (PlainPhrase.declared_list items) → ⊥
not_length text items (inl cut) = let is = cut.1.form.0 in absurd (cc)
not_length text items (inr comment) = let is = comment.category_is in absurd (cc)

none_at : {A : Type 0} (k : ℕ) → slice_get (let xs : List A = [] in xs) k ≡ None
none_at zero = refl
none_at (suc k) = refl

-- a declaration without a length
one_part : (parts : List (Option PlainPhrase)) (part : ℕ) (items : List Item) → AreParts (Category.DeclaredList ∷ []) parts
    → part_at parts part ≡ Some (PlainPhrase.declared_list items) → list_items parts ≡ items
one_part [] part items are is = absurd are
one_part (place ∷ []) zero items are is = ap (λ o. list_items (o ∷ [])) is
one_part (place ∷ []) (suc k) items are is = let absent = none_at {A = Option PlainPhrase} k in absurd (cc)
one_part (place ∷ (other ∷ parts)) part items are is = absurd are.1

-- a declaration with one
two_parts : (parts : List (Option PlainPhrase)) (part : ℕ) (items : List Item) → AreParts (Category.DeclaredList ∷ (Category.Length ∷ [])) parts
    → part_at parts part ≡ Some (PlainPhrase.declared_list items) → list_items parts ≡ items
two_parts [] part items are is = absurd are
two_parts (place ∷ []) part items are is = absurd are.1
two_parts (place ∷ (size ∷ [])) zero items are is = ap (λ o. list_items (o ∷ (size ∷ []))) is
two_parts (place ∷ (size ∷ [])) (suc zero) items are is =
    let there : IsPart Category.Length (Some (PlainPhrase.declared_list items)) = subst (IsPart Category.Length) is are.1.0 in
    absurd (not_length (Canon (PlainPhrase.declared_list items)) items there.well_formed.0)
two_parts (place ∷ (size ∷ [])) (suc (suc k)) items are is = let absent = none_at {A = Option PlainPhrase} k in absurd (cc)
two_parts (place ∷ (size ∷ (other ∷ parts))) part items are is = absurd are.1.1

-- so it lists what its node declares
pub lists : (kind : NodeKind) (parts : List (Option PlainPhrase)) (part : ℕ) (items : List Item) → AreParts (parts_of (row_of kind).line) parts
    → part_at parts part ≡ Some (PlainPhrase.declared_list items)
    → with_type (type_given kind parts) items ≡ with_type (type_given kind parts) (list_items parts)
lists NodeKind.DeclarationHole parts part items are is = refl
lists NodeKind.StatementHole parts part items are is = refl
lists NodeKind.ProcedureHole parts part items are is = refl
lists NodeKind.Main parts part items are is = refl
lists NodeKind.Assign parts part items are is = refl
lists (NodeKind.Filled Template.Fixed) parts part items are is =
    ap (with_type (Some ItemType.Fixed)) (sym (one_part parts part items are is))
lists (NodeKind.Filled Template.Bit) parts part items are is =
    ap (with_type (Some ItemType.Bit)) (sym (one_part parts part items are is))
lists (NodeKind.Filled Template.Char) parts part items are is =
    ap (with_type (type_given (NodeKind.Filled Template.Char) parts)) (sym (two_parts parts part items are is))
lists (NodeKind.Filled Template.If) parts part items are is = refl
lists (NodeKind.Filled Template.IfElse) parts part items are is = refl
lists (NodeKind.Filled Template.While) parts part items are is = refl
lists (NodeKind.Filled Template.For) parts part items are is = refl
lists (NodeKind.Filled Template.Until) parts part items are is = refl
lists (NodeKind.Filled Template.Group) parts part items are is = refl
lists (NodeKind.Filled Template.Get) parts part items are is = refl
lists (NodeKind.Filled Template.Put) parts part items are is = refl
lists (NodeKind.Filled Template.PutSkip) parts part items are is = refl
lists (NodeKind.Filled Template.Call) parts part items are is = refl
lists (NodeKind.Filled Template.Return) parts part items are is = refl
lists (NodeKind.Filled Template.Comment) parts part items are is = refl
lists (NodeKind.Filled Template.Proc) parts part items are is = refl
lists (NodeKind.Filled Template.ProcP) parts part items are is = refl

-- ---- the declaration in a slot

-- what the nodes declare is what they declare before the one in the slot, what it declares, and the rest
declared_there : (inner : Forest) (slot : ℕ) (items : List Item)
    → ((child : PlainNode) → procedure_at inner slot ≡ Some child → with_type (type_given child.label.kind child.label.parts) items ≡ declares child.label)
    → AreDeclaredIn inner slot items
declared_there Forest.nil slot items own = ([], refl)
declared_there (Forest.cons label inner rest) slot items own =
    by (nat_eq label.slot slot) refl (λ o. declared_there rest slot items o)
  where
    by : (here : Bool) → nat_eq label.slot slot ≡ here
        → (((child : PlainNode) → procedure_at rest slot ≡ Some child → with_type (type_given child.label.kind child.label.parts) items ≡ declares child.label)
        → AreDeclaredIn rest slot items)
        → AreDeclaredIn (Forest.cons label inner rest) slot items
    by true here again =
        let found : procedure_at (Forest.cons label inner rest) slot ≡ Some record { label = label; inner = inner } =
        ap (λ b. cond b (Some record { label = label; inner = inner }) (procedure_at rest slot)) here in (
          all_declared rest,
          ap (λ ds. ds ++ all_declared rest) (sym (own record { label = label; inner = inner } found))
              ∙ ap (λ b. cond b [] (declares label ++ declared_before rest slot) ++ (with_type (cond b (type_given label.kind label.parts) (type_in rest slot)) items ++ all_declared rest)) (sym here),
        )
    by false here again =
        let behind = again (λ child there. own child (ap (λ b. cond b (Some record { label = label; inner = inner }) (procedure_at rest slot)) here ∙ there)) in (
          behind.0,
          ap (λ ds. declares label ++ ds) behind.1
              ∙ sym (append_assoc (declares label) (declared_before rest slot) (with_type (type_in rest slot) items ++ behind.0))
              ∙ ap (λ b. cond b [] (declares label ++ declared_before rest slot) ++ (with_type (cond b (type_given label.kind label.parts) (type_in rest slot)) items ++ behind.0)) (sym here),
        )

-- ---- a slot has one node

-- the node at a path is the one that is found by its slot among the first ones
one_node : (inner : Forest) (path : List ℕ) (node child : PlainNode) (slot : ℕ) → node_at inner path ≡ Some node → node.label.slot ≡ slot
    → procedure_at inner slot ≡ Some child → times slot inner ≤ 1 → child ≡ node
one_node inner [] node child slot there own found once = absurd (cc)
one_node Forest.nil (k ∷ path) node child slot there own found once = absurd (cc)
one_node (Forest.cons label inner rest) (zero ∷ []) node child slot there own found once =
    let same : record { label = label; inner = inner } ≡ node = cc in
    let here : label.slot ≡ slot = ap (λ (n : PlainNode). n.label.slot) same ∙ own in
    let yes : nat_eq label.slot slot ≡ true = grind (arith, nat_tests) in
    let one : Some record { label = label; inner = inner } ≡ Some child =
    sym (ap (λ b. cond b (Some record { label = label; inner = inner }) (procedure_at rest slot)) yes) ∙ found in
    cc
one_node (Forest.cons label inner rest) (zero ∷ (k ∷ path)) node child slot there own found once =
    by (nat_eq label.slot slot) refl
  where
    inside : node_at inner (k ∷ path) ≡ Some node
    inside = there

    live : 1 ≤ times slot inner
    live = slot_present inner (k ∷ path) slot (ap (option_map (λ (n : PlainNode). n.label.slot)) inside ∙ ap (λ n. Some n) own)

    by : (here : Bool) → nat_eq label.slot slot ≡ here → child ≡ node
    by true here =
        let one : one_if (nat_eq label.slot slot) ≡ 1 = ap one_if here in
        absurd (omega (arith, one, live, once))
    by false here =
        let behind : procedure_at rest slot ≡ Some child = sym (ap (λ b. cond b (Some record { label = label; inner = inner }) (procedure_at rest slot)) here) ∙ found in
        absurd (omega (arith, slot_lives rest slot child behind, live, once))
one_node (Forest.cons label inner rest) (suc k ∷ path) node child slot there own found once =
    by (nat_eq label.slot slot) refl (λ f. one_node rest (k ∷ path) node child slot behind own f (omega (arith, once)))
  where
    behind : node_at rest (k ∷ path) ≡ Some node
    behind = there

    live : 1 ≤ times slot rest
    live = slot_present rest (k ∷ path) slot (ap (option_map (λ (n : PlainNode). n.label.slot)) behind ∙ ap (λ n. Some n) own)

    by : (here : Bool) → nat_eq label.slot slot ≡ here → (procedure_at rest slot ≡ Some child → child ≡ node) → child ≡ node
    by true here again =
        let one : one_if (nat_eq label.slot slot) ≡ 1 = ap one_if here in
        absurd (omega (arith, one, live, once))
    by false here again =
        again (sym (ap (λ b. cond b (Some record { label = label; inner = inner }) (procedure_at rest slot)) here) ∙ found)

-- the same from the procedure on
one_node_below : (procedure : PlainNode) (path : List ℕ) (node child : PlainNode) → below procedure path ≡ Some node
    → procedure_at procedure.inner node.label.slot ≡ Some child → times node.label.slot (forest (procedure ∷ [])) ≤ 1 → child ≡ node
one_node_below procedure [] node child there found once =
    let same : procedure ≡ node = cc in
    let slot : procedure.label.slot ≡ node.label.slot = ap (λ (n : PlainNode). n.label.slot) same in
    let yes : nat_eq procedure.label.slot node.label.slot ≡ true = grind (arith, nat_tests) in
    let one : one_if (nat_eq procedure.label.slot node.label.slot) ≡ 1 = ap one_if yes in
    absurd (omega (arith, one, slot_lives procedure.inner node.label.slot child found, once))
one_node_below procedure (k ∷ path) node child there found once =
    one_node procedure.inner (k ∷ path) node child node.label.slot there refl found (omega (arith, once))

-- each declared list of a node in the procedure stands in the declaration in its slot, if that is one of its nodes
pub are_listed : (procedure : PlainNode) (path : List ℕ) (node : PlainNode) → below procedure path ≡ Some node
    → AreParts (parts_of (row_of node.label.kind).line) node.label.parts → times node.label.slot (forest (procedure ∷ [])) ≤ 1
    → AreListed procedure.inner node.label
are_listed procedure path node there are once part phrase stands items is =
    declared_there procedure.inner node.label.slot items
    (λ child found.
    let same : child ≡ node = one_node_below procedure path node child there found once in
    let own = lists node.label.kind node.label.parts part items are (stands ∙ ap (λ p. Some p) is) in
    subst (λ (c : PlainNode). with_type (type_given c.label.kind c.label.parts) items ≡ declares c.label) (sym same) own)
