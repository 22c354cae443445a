-- Edits give agreement, and steps and going back keep it.
-- What stands in a slot after a step stood there before it; in the tree before, that slot stands at one place.
use Rattle.std.specs.Prelude.{◌≡◌, refl, ℕ, zero, suc, ◌<◌, ◌≤◌, List, [], ◌∷◌, Option, Some, None}
use Rattle.std.proofs.Common.{ap, sym, ◌∙◌, subst, arith, inl, inr}
use Rattle.std.proofs.lemmas.Option.{none-some}
use Rattle.plcs_grammar.specs.declared.node_kind.NodeKind.{NodeKind}
use Rattle.template_tree.specs.Edits.Edit.{node_in_slot, with_hole}
use Rattle.template_tree.specs.Programs.Part.{with_part}
use Rattle.template_tree.specs.Positions.Path.{node_at}
use Rattle.template_tree.specs.Programs.PlainTree.{Forest, PlainNode, PlainTree}
use Rattle.template_tree.specs.Programs.Program.{sort_of}
use Rattle.template_tree.specs.Programs.Slots.{AllBelow}
use Rattle.template_tree.specs.Programs.Tree.{IsTree}
use Rattle.template_tree.specs.Edits.TreeEdit.{TreeEdit, tree_after}
use Rattle.tree_steps.specs.SlotAgreement.{AgreesWith}
use Rattle.tree_steps.specs.AgreementLaws.{AgreementKeepsProcedures, EarlierAgreesAlike, EditsAgree, GoingBackAgrees, GoingBackPastAgrees, EditStepsKeepAgreement}
use Rattle.tree_steps.specs.EditStep.{BringsSort, CameIn, IsEditStep, substance}
use Rattle.tree_steps.specs.StandingSlot.{Around, StandsBelow, StandsInside, outermost_slot}
use Rattle.tree_steps.proofs.EditedSlots.{HasSort, Stood, add_new, drop_new, part_new, put_new, standing_below, stood}
use Rattle.tree_steps.proofs.StandingSlots.{counted_stands, procedures_stand_outermost, stands_once}
use Rattle.tree_steps.proofs.Substances.{stands_same}

-- slots below a number are below a greater one
below_more : (less more : ℕ) (items : Forest) → less ≤ more → AllBelow less items → AllBelow more items
below_more less more Forest.nil le h = tt
below_more less more (Forest.cons label inner rest) le h =
    (omega (arith, le, h.0), below_more less more inner le h.1, below_more less more rest le h.2)

-- ---- the node of an edit

-- what is there, or else the node
abbrev taken : PlainNode → Option PlainNode → PlainNode
taken node None = node
taken node (Some there) = there

-- where a node stands, with what is around it
abbrev StandsThere : Around → Forest → PlainNode → Type 0
StandsThere above items node = (around : Around) × StandsBelow above items node.label.slot node.label.kind around

-- the node at a path stands in its slot
stands_there : (above : Around) (items : Forest) (path : List ℕ) (node : PlainNode) → node_at items path ≡ Some node → StandsThere above items node
stands_there above Forest.nil [] node e = absurd (none-some node e)
stands_there above Forest.nil (k ∷ path) node e = absurd (none-some node e)
stands_there above (Forest.cons label inner rest) [] node e = absurd (none-some node e)
stands_there above (Forest.cons label inner rest) (zero ∷ []) node e =
    let same : record { label = label; inner = inner } ≡ node = ap (taken node) e in
    (above, inl (ap (λ (n : PlainNode). n.label.slot) same, ap (λ (n : PlainNode). n.label.kind) same, refl))
stands_there above (Forest.cons label inner rest) (zero ∷ (j ∷ path)) node e =
    let there = stands_there ((label.slot, label.kind) ∷ above) inner (j ∷ path) node e in
    (there.0, inr (inl there.1))
stands_there above (Forest.cons label inner rest) (suc k ∷ path) node e =
    let there = stands_there above rest (k ∷ path) node e in
    (there.0, inr (inr there.1))

-- each node in the slot of the node is of its sort
sort_there : (tree : PlainTree) (path : List ℕ) (node : PlainNode) → IsTree tree → node_at tree.items path ≡ Some node
    → HasSort (sort_of node.label.kind) node.label.slot [] tree.items
sort_there tree path node is e kind around h =
    let there = stands_there [] tree.items path node e in
    ap sort_of (stands_once [] tree.items node.label.slot kind node.label.kind around there.0 (is.once node.label.slot) h there.1).0

-- ---- one edit

-- what stands in a drawn slot of the tree after an edit stood there
edit_stood : (edit : TreeEdit) (tree : PlainTree) (node : PlainNode) → BringsSort edit node
    → HasSort (sort_of node.label.kind) node.label.slot [] tree.items
    → (slot : ℕ) (kind : NodeKind) (around : Around) → slot < tree.drawn
    → StandsInside (tree_after edit tree node.label.slot).items slot kind around → Stood [] tree.items slot kind around
edit_stood (TreeEdit.put new) tree node sort has slot kind around less h =
    stood (sort_of node.label.kind) node.label.slot tree.drawn (λ _. node_in_slot node.label.slot tree.drawn new ∷ [])
    (put_new (sort_of node.label.kind) node.label.slot tree.drawn new sort)
    [] tree.items has slot kind around less h
edit_stood (TreeEdit.add side) tree node sort has slot kind around less h =
    stood (sort_of node.label.kind) node.label.slot tree.drawn (with_hole tree.drawn side)
    (add_new (sort_of node.label.kind) node.label.slot tree.drawn side)
    [] tree.items has slot kind around less h
edit_stood TreeEdit.drop tree node sort has slot kind around less h =
    stood (sort_of node.label.kind) node.label.slot tree.drawn (λ _. [])
    (drop_new (sort_of node.label.kind) node.label.slot tree.drawn)
    [] tree.items has slot kind around less h
edit_stood (TreeEdit.set_part part place) tree node sort has slot kind around less h =
    stood (sort_of node.label.kind) node.label.slot tree.drawn (λ item. with_part part place item ∷ [])
    (part_new (sort_of node.label.kind) node.label.slot tree.drawn part place)
    [] tree.items has slot kind around less h

-- an edit draws no fewer slots
drawn_more : (edit : TreeEdit) (tree : PlainTree) (slot : ℕ) → tree.drawn ≤ (tree_after edit tree slot).drawn
drawn_more (TreeEdit.put new) tree slot = omega arith
drawn_more (TreeEdit.add side) tree slot = omega arith
drawn_more TreeEdit.drop tree slot = omega arith
drawn_more (TreeEdit.set_part part place) tree slot = omega arith

step_drawn : (before after : PlainTree) → IsEditStep before after → before.drawn ≤ after.drawn
step_drawn before after step =
    let more : before.drawn ≤ (tree_after step.edit before step.node.label.slot).drawn = drawn_more step.edit before step.node.label.slot in
    let same : after.drawn ≡ (tree_after step.edit before step.node.label.slot).drawn = step.became.drawn in
    omega (arith, more, same)

step_stood : (before after : PlainTree) → IsEditStep before after → (slot : ℕ) (kind : NodeKind) (around : Around) → slot < before.drawn
    → StandsInside after.items slot kind around → Stood [] before.items slot kind around
step_stood before after step slot kind around less h =
    edit_stood step.edit before step.node step.sort (sort_there before step.path step.node step.tree_before step.there) slot kind around less
    (subst (λ (T : Type 0). T)
    (stands_same after.items (tree_after step.edit before step.node.label.slot).items slot kind around step.became.items) h)

-- ---- agreement

pub steps_keep_agreement : EditStepsKeepAgreement
steps_keep_agreement earlier before after agrees step =
    record {
      drawn = below_more before.drawn after.drawn earlier.items (step_drawn before after step) agrees.drawn;
      alike = λ slot was now one other earlier_stands stands.
          let less : slot < before.drawn = standing_below before.drawn [] earlier.items slot was one agrees.drawn earlier_stands in
          let there = step_stood before after step slot now other less stands in
          let same = agrees.alike slot was there.0 one other earlier_stands there.2 in
          (same.0 ∙ there.1, same.1);
    }

pub going_back_agrees : GoingBackAgrees
going_back_agrees earlier kept back agrees same more =
    record {
      drawn = below_more kept.drawn back.drawn earlier.items more agrees.drawn;
      alike = λ slot was now one other earlier_stands stands.
          agrees.alike slot was now one other earlier_stands
          (subst (λ (T : Type 0). T) (stands_same back.items kept.items slot now other same) stands);
    }

pub going_back_past_agrees : GoingBackPastAgrees
going_back_past_agrees one other back agrees drawn same =
    record {
      drawn = drawn;
      alike = λ slot was now around later other_stands stands.
          let alike =
          agrees.alike slot now was later around (subst (λ (T : Type 0). T) (stands_same back.items one.items slot now later same) stands)
          other_stands in
          (sym alike.0, sym alike.1);
    }

-- slots are below a number in the substance where they are so in the nodes
below_substance : (number : ℕ) (items : Forest) → AllBelow number (substance items) ≡ AllBelow number items
below_substance number Forest.nil = refl
below_substance number (Forest.cons label inner rest) =
    λ i. (label.slot < number) × below_substance number inner i × below_substance number rest i

pub earlier_agrees_alike : EarlierAgreesAlike
earlier_agrees_alike one other later same agrees =
    record {
      drawn =
          subst (λ (T : Type 0). T)
          (sym (below_substance later.drawn one.items) ∙ (ap (AllBelow later.drawn) same ∙ below_substance later.drawn other.items))
          agrees.drawn;
      alike = λ slot was now around inside earlier_stands stands.
          agrees.alike slot was now around inside
          (subst (λ (T : Type 0). T) (stands_same other.items one.items slot was around (sym same)) earlier_stands) stands;
    }

-- a tree agrees with itself
agrees_itself : (tree : PlainTree) → IsTree tree → AgreesWith tree tree
agrees_itself tree is =
    record {
      drawn = is.drawn;
      alike = λ slot was now one other a b.
          let same = stands_once [] tree.items slot was now one other (is.once slot) a b in
          (ap sort_of same.0, same.1);
    }

came_agrees : (n : ℕ) (before after : PlainTree) → IsTree before → CameIn n before after → AgreesWith before after
came_agrees zero before after is same =
    going_back_agrees before before after (agrees_itself before is) (sym same.items) (omega (arith, same.drawn))
came_agrees (suc n) before after is came =
    steps_keep_agreement before came.0 after (came_agrees n before came.0 is came.1) came.2

pub edits_agree : EditsAgree
edits_agree before after is came = came_agrees came.0 before after is came.1

pub agreement_keeps_procedures : AgreementKeepsProcedures
agreement_keeps_procedures earlier later slot is_earlier is_later agrees lives lives_on =
    let was = counted_stands [] earlier.items slot lives in
    let now = counted_stands [] later.items slot lives_on in
    procedures_stand_outermost earlier.items slot was.0 was.1 (is_earlier.once slot) was.2
    ∙ (ap (λ (around : Around). Some (outermost_slot slot around)) (agrees.alike slot was.0 now.0 was.1 now.1 was.2 now.2).1
    ∙ sym (procedures_stand_outermost later.items slot now.0 now.1 (is_later.once slot) now.2))
