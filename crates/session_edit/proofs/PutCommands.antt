-- Commands that put a node in at the stop of a node.
use Rattle.std.specs.Prelude.{◌≡◌, refl, ℕ, ◌+◌, Bool, true, false, if◌then◌else◌, List, [], ◌∷◌, Option, Some, None, IsSome, IsSomeAnd, is_some, unwrap_or}
use Rattle.std.proofs.Common.{ap, sym, ◌∙◌, subst}
use Rattle.std.proofs.lemmas.Bool.{false≢true, false_from_ne_true}
use Rattle.std.proofs.lemmas.Option.{same_Some}
use Rattle.plcs_grammar.specs.declared.node_kind.NodeKind.{NodeKind}
use Rattle.plcs_grammar.specs.declared.template.Template.{Template}
use Rattle.plcs_grammar.specs.PlainPhrase.{PlainPhrase}
use Rattle.template_tree.specs.declared.stop.Stop.{Stop}
use Rattle.template_tree.specs.declared.tree_fault.TreeFault.{TreeFault}
use Rattle.template_tree.specs.Edits.Edit.{node_in_slot}
use Rattle.template_tree.specs.Edits.Hole.{hole_left, lone}
use Rattle.template_tree.specs.Edits.EditAnswer.{Edits, IsEdit, IsHoleFor, MayTake, Refuses, TakesAssignment, TakesOut, slot_in}
use Rattle.template_tree.specs.Edits.FreshNode.{assignment_node, fresh_node}
use Rattle.template_tree.specs.Positions.Path.{node_at}
use Rattle.template_tree.specs.Programs.PlainTree.{PlainNode, PlainTree, roomless_node, roomless_tree}
use Rattle.template_tree.specs.Programs.Program.{IsSubtree}
use Rattle.template_tree.specs.Edits.Receipt.{PlainReceipt}
use Rattle.template_tree.specs.Programs.Slots.{count}
use Rattle.template_tree.specs.Positions.Stop.{IsStop, MayStand, PlainStop, plain_stop}
use Rattle.template_tree.specs.Programs.Tree.{IsTree}
use Rattle.template_tree.specs.Edits.TreeEdit.{TreeEdit, tree_after}
use Rattle.template_tree.specs.Laws.TreeLaws.{SlotEditIsPathEdit}
use Rattle.clip_store.specs.PlainFragment.{PlainFragment}
use Rattle.session_edit.specs.AppliedEdit.{IsApplied, IsRefused}
use Rattle.session_edit.specs.Cursor.{onward}
use Rattle.session_edit.specs.Edited.{Edited, comes, comes_onward, edited, phrase_entry, outcome_of_node_taking, not_here, outcome_of_taking}
use Rattle.session_edit.specs.Here.{category_in, is_wanted, takes_nodes}
use Rattle.session_edit.specs.PlainEdit.{PlainEdit}
use Rattle.session_edit.proofs.Outcomes.{Node, applied_is, edited_is, node_there, not_here_is, onward_applied, refused_is, stands_after, without_memory}
use Rattle.session_edit.specs.Private.RoomLaws.{RoomLaws}
use Rattle.session_edit.proofs.StopTests.{assignment_true, takes_assignment, takes_at_part, takes_false, takes_true}
use Rattle.session_edit.proofs.VisibleEdits.{first_comes, last_number, seen_here, shelf_of}

pub at_found : (found : Option PlainNode) (P : PlainNode → Type 0) (node : PlainNode) → found ≡ Some node → IsSomeAnd found P → P node
at_found found P node e h = subst (λ o. IsSomeAnd o P) e h

pub of_found : (found : Option PlainNode) (P : PlainNode → Type 0) (node : PlainNode) → found ≡ Some node → P node → IsSomeAnd found P
of_found found P node e h = subst (λ o. IsSomeAnd o P) (sym e) h

-- the edit that was made at the node that stands there
pub edit_there : (edit : TreeEdit) (found : Option PlainNode) (Here : PlainNode → Type 0) (before after : PlainTree) (receipt : PlainReceipt)
    (node : PlainNode)
    → found ≡ Some node → Edits edit found Here before after receipt → Here node × IsEdit edit node.label.slot before after receipt None
edit_there edit found Here before after receipt node e edits =
    (at_found found Here node e edits.here, subst (λ o. IsEdit edit (slot_in o) before after receipt None) e edits.is_edit)

-- the cursor may stand on the node that came
pub put_stands : RoomLaws → SlotEditIsPathEdit → (before after : PlainTree) (at : PlainStop) (n : Node before at) (new : PlainNode) (receipt : PlainReceipt)
    (back : Option PlainNode)
    → at.part ≡ None → IsTree before → IsEdit (TreeEdit.put new) n.node.label.slot before after receipt back → IsStop (roomless_tree after).items at
put_stands room law before after at n new receipt back part tree edit =
    let placed : PlainNode = node_in_slot n.node.label.slot before.drawn new in
    let change : PlainNode → List PlainNode = λ _. placed ∷ [] in
    let shelf = shelf_of before.items at.path n.node n.seen in
    stands_after room law before after at.path n.node change (before.drawn + count new.inner) at placed tree n.there edit.became
    (seen_here change before.items at.path shelf.0 shelf.1
    ∙ first_comes change (last_number at.path) shelf.0 n.node placed [] shelf.2 refl)
    (subst (λ p. MayStand p placed.label.kind) (sym part) tt)

-- templates that fill holes
fill_comes : RoomLaws → (tree : PlainTree) (at : PlainStop) (n : Node tree at) (template : Template) → at.part ≡ None
    → IsHoleFor (NodeKind.Filled template) n.node
    → edited (roomless_tree tree) at (PlainEdit.fill template)
    ≡ comes_onward (TreeEdit.put (fresh_node (NodeKind.Filled template))) (roomless_tree tree) n.node.label.slot at
fill_comes room tree at n template part here =
    edited_is room tree at (PlainEdit.fill template) n.node n.there
    ∙ ap
    (λ (b : Bool).
    if b
    then comes_onward (TreeEdit.put (fresh_node (NodeKind.Filled template))) (roomless_tree tree) n.node.label.slot at
    else not_here)
    (takes_true (NodeKind.Filled template) at.part (roomless_node n.node) part here)

fill_missing : RoomLaws → (tree : PlainTree) (at : PlainStop) (n : Node tree at) (template : Template)
    → takes_nodes (NodeKind.Filled template) at.part (roomless_node n.node) ≡ false
    → edited (roomless_tree tree) at (PlainEdit.fill template) ≡ not_here
fill_missing room tree at n template e =
    edited_is room tree at (PlainEdit.fill template) n.node n.there
    ∙ ap
    (λ (b : Bool).
    if b
    then comes_onward (TreeEdit.put (fresh_node (NodeKind.Filled template))) (roomless_tree tree) n.node.label.slot at
    else not_here)
    e

pub fill_at_part : RoomLaws → (tree : PlainTree) (at : PlainStop) (template : Template) → IsStop (roomless_tree tree).items at → is_some at.part ≡ true
    → edited (roomless_tree tree) at (PlainEdit.fill template) ≡ not_here
fill_at_part room tree at template stop e =
    let n = node_there room tree at stop in
    fill_missing room tree at n template (takes_at_part (NodeKind.Filled template) at.part (roomless_node n.node) e)

pub fill_refused : RoomLaws → (tree : PlainTree) (at : PlainStop) (template : Template) (fault : TreeFault)
    → IsStop (roomless_tree tree).items at → at.part ≡ None
    → Refuses (TreeEdit.put (fresh_node (NodeKind.Filled template))) (node_at tree.items at.path) (IsHoleFor (NodeKind.Filled template)) tree fault
    → IsRefused true (edited (roomless_tree tree) at (PlainEdit.fill template)) fault
fill_refused room tree at template fault stop part refuses =
    let n = node_there room tree at stop in
    let new : PlainNode = fresh_node (NodeKind.Filled template) in
    let to : PlainTree = roomless_tree (tree_after (TreeEdit.put new) (roomless_tree tree) n.node.label.slot) in
    refused_is room (TreeEdit.put new) (TreeEdit.put new) tree n.node (IsHoleFor (NodeKind.Filled template))
    (edited (roomless_tree tree) at (PlainEdit.fill template)) (onward to.items at) None
    (room.edits (TreeEdit.put new) (TreeEdit.put new) tree n.node.label.slot refl)
    (λ here. fill_comes room tree at n template part here)
    (λ missing. fill_missing room tree at n template (takes_false (NodeKind.Filled template) at.part (roomless_node n.node) missing))
    fault
    (subst (λ there. Refuses (TreeEdit.put new) there (IsHoleFor (NodeKind.Filled template)) tree fault) n.there refuses)

pub fill_stands : RoomLaws → SlotEditIsPathEdit → (tree after : PlainTree) (at : PlainStop) (template : Template) (receipt : PlainReceipt)
    → IsTree tree → IsStop (roomless_tree tree).items at → at.part ≡ None
    → Edits (TreeEdit.put (fresh_node (NodeKind.Filled template))) (node_at tree.items at.path) (IsHoleFor (NodeKind.Filled template)) tree after receipt
    → IsStop (roomless_tree after).items at
fill_stands room law tree after at template receipt is_tree stop part edits =
    let n = node_there room tree at stop in
    let new : PlainNode = fresh_node (NodeKind.Filled template) in
    let made = edit_there (TreeEdit.put new) (node_at tree.items at.path) (IsHoleFor (NodeKind.Filled template)) tree after receipt n.node n.there edits in
    put_stands room law tree after at n new receipt None part is_tree made.1

pub fill_applied : RoomLaws → (tree after : PlainTree) (at : PlainStop) (template : Template) (receipt : PlainReceipt) (stop_after : Stop)
    → IsStop (roomless_tree tree).items at → at.part ≡ None
    → Edits (TreeEdit.put (fresh_node (NodeKind.Filled template))) (node_at tree.items at.path) (IsHoleFor (NodeKind.Filled template)) tree after receipt
    → plain_stop stop_after ≡ onward (roomless_tree after).items at → IsStop (roomless_tree after).items (plain_stop stop_after)
    → IsApplied (edited (roomless_tree tree) at (PlainEdit.fill template)) tree after record { receipt = receipt; taken = None; stop = stop_after }
fill_applied room tree after at template receipt stop_after stop part edits there seen =
    let n = node_there room tree at stop in
    let new : PlainNode = fresh_node (NodeKind.Filled template) in
    let made = edit_there (TreeEdit.put new) (node_at tree.items at.path) (IsHoleFor (NodeKind.Filled template)) tree after receipt n.node n.there edits in
    onward_applied room (edited (roomless_tree tree) at (PlainEdit.fill template)) (TreeEdit.put new) (TreeEdit.put new) n.node.label.slot tree after receipt
    stop_after at made.1 (room.edits (TreeEdit.put new) (TreeEdit.put new) tree n.node.label.slot refl) (fill_comes room tree at n template part made.0) there seen

-- assignments at holes and over others
assign_if : RoomLaws → (tree : PlainTree) (at : PlainStop) (n : Node tree at) (phrase : PlainPhrase) (b : Bool) → at.part ≡ None
    → is_wanted phrase (category_in None n.node.label.kind) ≡ b
    → edited (roomless_tree tree) at (PlainEdit.enter phrase)
    ≡ (if b
    then comes_onward (TreeEdit.put (assignment_node phrase)) (roomless_tree tree) n.node.label.slot at
    else not_here)
assign_if room tree at n phrase b part e =
    edited_is room tree at (PlainEdit.enter phrase) n.node n.there
    ∙ (ap
    (λ (p : Option ℕ).
    if is_wanted phrase (category_in p n.node.label.kind)
    then comes_onward (phrase_entry p phrase) (roomless_tree tree) n.node.label.slot at
    else not_here)
    part
    ∙ ap
    (λ (b : Bool).
    if b
    then comes_onward (TreeEdit.put (assignment_node phrase)) (roomless_tree tree) n.node.label.slot at
    else not_here)
    e)

pub assign_refused : RoomLaws → (tree : PlainTree) (at : PlainStop) (phrase : PlainPhrase) (fault : TreeFault)
    → IsStop (roomless_tree tree).items at → at.part ≡ None
    → Refuses (TreeEdit.put (assignment_node phrase)) (node_at tree.items at.path) (TakesAssignment phrase) tree fault
    → IsRefused true (edited (roomless_tree tree) at (PlainEdit.enter phrase)) fault
assign_refused room tree at phrase fault stop part refuses =
    let n = node_there room tree at stop in
    let new : PlainNode = assignment_node phrase in
    let to : PlainTree = roomless_tree (tree_after (TreeEdit.put new) (roomless_tree tree) n.node.label.slot) in
    refused_is room (TreeEdit.put new) (TreeEdit.put new) tree n.node (TakesAssignment phrase)
    (edited (roomless_tree tree) at (PlainEdit.enter phrase)) (onward to.items at) None
    (room.edits (TreeEdit.put new) (TreeEdit.put new) tree n.node.label.slot refl)
    (λ here. assign_if room tree at n phrase true part (assignment_true phrase n.node here))
    (λ missing. assign_if room tree at n phrase false part
    (false_from_ne_true (is_wanted phrase (category_in None n.node.label.kind)) (λ e. missing (takes_assignment phrase n.node e))))
    fault
    (subst (λ there. Refuses (TreeEdit.put new) there (TakesAssignment phrase) tree fault) n.there refuses)

pub assign_stands : RoomLaws → SlotEditIsPathEdit → (tree after : PlainTree) (at : PlainStop) (phrase : PlainPhrase) (receipt : PlainReceipt)
    → IsTree tree → IsStop (roomless_tree tree).items at → at.part ≡ None
    → Edits (TreeEdit.put (assignment_node phrase)) (node_at tree.items at.path) (TakesAssignment phrase) tree after receipt
    → IsStop (roomless_tree after).items at
assign_stands room law tree after at phrase receipt is_tree stop part edits =
    let n = node_there room tree at stop in
    let new : PlainNode = assignment_node phrase in
    let made = edit_there (TreeEdit.put new) (node_at tree.items at.path) (TakesAssignment phrase) tree after receipt n.node n.there edits in
    put_stands room law tree after at n new receipt None part is_tree made.1

pub assign_applied : RoomLaws → (tree after : PlainTree) (at : PlainStop) (phrase : PlainPhrase) (receipt : PlainReceipt) (stop_after : Stop)
    → IsStop (roomless_tree tree).items at → at.part ≡ None
    → Edits (TreeEdit.put (assignment_node phrase)) (node_at tree.items at.path) (TakesAssignment phrase) tree after receipt
    → plain_stop stop_after ≡ onward (roomless_tree after).items at → IsStop (roomless_tree after).items (plain_stop stop_after)
    → IsApplied (edited (roomless_tree tree) at (PlainEdit.enter phrase)) tree after record { receipt = receipt; taken = None; stop = stop_after }
assign_applied room tree after at phrase receipt stop_after stop part edits there seen =
    let n = node_there room tree at stop in
    let new : PlainNode = assignment_node phrase in
    let made = edit_there (TreeEdit.put new) (node_at tree.items at.path) (TakesAssignment phrase) tree after receipt n.node n.there edits in
    onward_applied room (edited (roomless_tree tree) at (PlainEdit.enter phrase)) (TreeEdit.put new) (TreeEdit.put new) n.node.label.slot tree after receipt
    stop_after at made.1 (room.edits (TreeEdit.put new) (TreeEdit.put new) tree n.node.label.slot refl)
    (assign_if room tree at n phrase true part (assignment_true phrase n.node made.0)) there seen

-- nodes inserted
insert_if : RoomLaws → (tree : PlainTree) (at : PlainStop) (n : Node tree at) (new : PlainNode) (b : Bool)
    → takes_nodes new.label.kind at.part (roomless_node n.node) ≡ b
    → edited (roomless_tree tree) at (PlainEdit.insert (PlainFragment.node (roomless_node new)))
    ≡ (if b
    then comes (TreeEdit.put (roomless_node new)) (roomless_tree tree) n.node.label.slot at None
    else not_here)
insert_if room tree at n new b e =
    edited_is room tree at (PlainEdit.insert (PlainFragment.node (roomless_node new))) n.node n.there
    ∙ ap
    (λ (b : Bool).
    if b
    then comes (TreeEdit.put (roomless_node new)) (roomless_tree tree) n.node.label.slot at None
    else not_here)
    e

-- a node without room is the same without room
pub node_twice : RoomLaws → (node : PlainNode) → roomless_node (roomless_node node) ≡ roomless_node node
node_twice room node = λ i. record { label = record node.label { spare = 0 }; inner = room.once node.inner i }

pub insert_at_part : RoomLaws → (tree : PlainTree) (at : PlainStop) (new : PlainNode) → IsStop (roomless_tree tree).items at → is_some at.part ≡ true
    → edited (roomless_tree tree) at (PlainEdit.insert (PlainFragment.node (roomless_node new))) ≡ not_here
insert_at_part room tree at new stop e =
    let n = node_there room tree at stop in
    insert_if room tree at n new false (takes_at_part new.label.kind at.part (roomless_node n.node) e)

pub insert_refused : RoomLaws → (tree : PlainTree) (at : PlainStop) (new : PlainNode) (fault : TreeFault)
    → IsStop (roomless_tree tree).items at → at.part ≡ None
    → Refuses (TreeEdit.put new) (node_at tree.items at.path) (IsHoleFor new.label.kind) tree fault
    → (fault ≡ TreeFault.OutOfMemory → ⊥)
    → IsRefused false (edited (roomless_tree tree) at (PlainEdit.insert (PlainFragment.node (roomless_node new)))) fault
insert_refused room tree at new fault stop part refuses wants =
    let n = node_there room tree at stop in
    let outcome : Edited = edited (roomless_tree tree) at (PlainEdit.insert (PlainFragment.node (roomless_node new))) in
    without_memory outcome fault
    (refused_is room (TreeEdit.put new) (TreeEdit.put (roomless_node new)) tree n.node (IsHoleFor new.label.kind) outcome at None
    (room.edits (TreeEdit.put new) (TreeEdit.put (roomless_node new)) tree n.node.label.slot (ap TreeEdit.put (sym (node_twice room new))))
    (λ here. insert_if room tree at n new true (takes_true new.label.kind at.part (roomless_node n.node) part here))
    (λ missing. insert_if room tree at n new false (takes_false new.label.kind at.part (roomless_node n.node) missing))
    fault
    (subst (λ there. Refuses (TreeEdit.put new) there (IsHoleFor new.label.kind) tree fault) n.there refuses))
    wants

pub insert_applied : RoomLaws → SlotEditIsPathEdit → (tree after : PlainTree) (at : PlainStop) (new : PlainNode) (receipt : PlainReceipt) (stop_after : Stop)
    → IsTree tree → IsStop (roomless_tree tree).items at → at.part ≡ None
    → Edits (TreeEdit.put new) (node_at tree.items at.path) (IsHoleFor new.label.kind) tree after receipt
    → plain_stop stop_after ≡ at
    → IsApplied (edited (roomless_tree tree) at (PlainEdit.insert (PlainFragment.node (roomless_node new)))) tree after
    record { receipt = receipt; taken = None; stop = stop_after }
insert_applied room law tree after at new receipt stop_after is_tree stop part edits there =
    let n = node_there room tree at stop in
    let made = edit_there (TreeEdit.put new) (node_at tree.items at.path) (IsHoleFor new.label.kind) tree after receipt n.node n.there edits in
    applied_is room (edited (roomless_tree tree) at (PlainEdit.insert (PlainFragment.node (roomless_node new)))) (TreeEdit.put new)
    (TreeEdit.put (roomless_node new)) n.node.label.slot tree after receipt None stop_after at made.1
    (room.edits (TreeEdit.put new) (TreeEdit.put (roomless_node new)) tree n.node.label.slot (ap TreeEdit.put (sym (node_twice room new))))
    (insert_if room tree at n new true (takes_true new.label.kind at.part (roomless_node n.node) part made.0)) there
    (subst (λ s. IsStop (roomless_tree after).items s) (sym there) (put_stands room law tree after at n new receipt None part is_tree made.1)) tt

-- nodes taken out
take_if : RoomLaws → (tree : PlainTree) (at : PlainStop) (n : Node tree at) (hole : Option NodeKind) → at.part ≡ None
    → hole_left n.node.label.kind ≡ hole
    → edited (roomless_tree tree) at PlainEdit.take ≡ outcome_of_node_taking (roomless_tree tree) at hole (roomless_node n.node)
take_if room tree at n hole part e =
    edited_is room tree at PlainEdit.take n.node n.there
    ∙ (ap (λ (p : Option ℕ). outcome_of_taking (roomless_tree tree) at p (roomless_node n.node)) part
    ∙ ap (λ (h : Option NodeKind). outcome_of_node_taking (roomless_tree tree) at h (roomless_node n.node)) e)

no_hole : (hole : Option NodeKind) → (IsSome hole → ⊥) → hole ≡ None
no_hole None wrong = refl
no_hole (Some kind) wrong = absurd (wrong refl)

pub take_refused : RoomLaws → (tree : PlainTree) (at : PlainStop) (fault : TreeFault)
    → IsStop (roomless_tree tree).items at → at.part ≡ None → fault ≡ TreeFault.NotHere
    → (IsSomeAnd (node_at tree.items at.path) MayTake → ⊥)
    → IsRefused false (edited (roomless_tree tree) at PlainEdit.take) fault
take_refused room tree at fault stop part e missing =
    let n = node_there room tree at stop in
    not_here_is false (edited (roomless_tree tree) at PlainEdit.take) fault e
    (take_if room tree at n None part
    (no_hole (hole_left n.node.label.kind) (λ may. missing (of_found (node_at tree.items at.path) MayTake n.node n.there may))))

taken_hole : (hole : Option NodeKind) → IsSome hole → (kind : NodeKind) × (hole ≡ Some kind)
taken_hole None h = absurd (false≢true h)
taken_hole (Some kind) h = (kind, refl)

pub take_applied : RoomLaws → SlotEditIsPathEdit → (tree after : PlainTree) (at : PlainStop) (node : PlainNode) (receipt : PlainReceipt) (stop_after : Stop)
    → IsTree tree → IsStop (roomless_tree tree).items at → at.part ≡ None
    → node_at tree.items at.path ≡ Some node → TakesOut node tree after receipt → IsSubtree node
    → plain_stop stop_after ≡ at
    → IsApplied (edited (roomless_tree tree) at PlainEdit.take) tree after record { receipt = receipt; taken = Some node; stop = stop_after }
take_applied room law tree after at node receipt stop_after is_tree stop part found takes sound there =
    let n0 = node_there room tree at stop in
    let same : n0.node ≡ node = same_Some n0.node node (sym n0.there ∙ found) in
    let n : Node tree at =
    record { node = node; seen = n0.seen ∙ ap Some same; there = found; stands = subst (λ (m : PlainNode). MayStand at.part m.label.kind) same n0.stands }
    in
    let hole = taken_hole (hole_left node.label.kind) takes.may_take in
    let made : IsEdit (TreeEdit.put (lone 0 hole.0)) node.label.slot tree after receipt (Some node) =
    subst (λ (h : Option NodeKind). IsEdit (TreeEdit.put (lone 0 (unwrap_or h node.label.kind))) node.label.slot tree after receipt (Some node)) hole.1 takes.is_edit
    in
    applied_is room (edited (roomless_tree tree) at PlainEdit.take) (TreeEdit.put (lone 0 hole.0)) (TreeEdit.put (lone 0 hole.0)) node.label.slot tree after
    receipt (Some node) stop_after at made (room.edits (TreeEdit.put (lone 0 hole.0)) (TreeEdit.put (lone 0 hole.0)) tree node.label.slot refl)
    (take_if room tree at n (Some hole.0) part hole.1) there
    (subst (λ s. IsStop (roomless_tree after).items s) (sym there) (put_stands room law tree after at n (lone 0 hole.0) receipt (Some node) part is_tree made))
    sound
