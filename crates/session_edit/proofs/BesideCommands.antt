-- Holes that come beside list items.
use Rattle.std.specs.Prelude.{◌≡◌, refl, ℕ, zero, suc, ◌+◌, ◌<◌, ◌≤◌, Bool, true, false, if◌then◌else◌, List, [], ◌∷◌, ◌++◌, length, take, Option, Some, None, IsSomeAnd, Result, option_map, option_and_then, slice_get}
use Rattle.std.specs.Option.{option_map_or}
use Rattle.std.proofs.Common.{ap, sym, ◌∙◌, subst, arith}
use Rattle.std.proofs.lemmas.List.{take-append-le}
use Rattle.std.proofs.lemmas.Bool.{false≢true, false_from_ne_true}
use Rattle.std.proofs.lemmas.Option.{none-some}
use Rattle.plcs_grammar.specs.declared.node_kind.NodeKind.{NodeKind}
use Rattle.plcs_grammar.specs.declared.node_kind.Sort.{Sort}
use Rattle.plcs_grammar.specs.declared.template.Template.{Template}
use Rattle.plcs_grammar.specs.Template.{PlainSection, row_of, program_sections}
use Rattle.template_tree.specs.declared.side.Side.{Side}
use Rattle.template_tree.specs.declared.stop.Stop.{Stop}
use Rattle.template_tree.specs.declared.tree_fault.TreeFault.{TreeFault}
use Rattle.template_tree.specs.Edits.Edit.{with_hole}
use Rattle.template_tree.specs.Edits.Hole.{hole_list, hole_of, lone}
use Rattle.template_tree.specs.Edits.EditAnswer.{Edits, IsEdit, IsListItem, Refuses}
use Rattle.template_tree.specs.Edits.ListItem.{is_listed, sections_at}
use Rattle.template_tree.specs.Positions.Path.{added_path, last_child_number, node_at, with_last}
use Rattle.template_tree.specs.Programs.PlainTree.{Forest, PlainNode, PlainTree, nodes, roomless, roomless_node, roomless_tree}
use Rattle.template_tree.specs.Programs.Program.{sort_of}
use Rattle.template_tree.specs.Edits.Receipt.{PlainReceipt}
use Rattle.template_tree.specs.Programs.Slots.{count}
use Rattle.template_tree.specs.Positions.Stop.{IsStop, PlainStop, plain_stop, visible_at, visible_below, node_stop}
use Rattle.template_tree.specs.Programs.Tree.{IsTree}
use Rattle.template_tree.specs.Edits.TreeEdit.{TreeEdit}
use Rattle.template_tree.specs.Laws.TreeLaws.{SlotEditIsPathEdit}
use Rattle.session_edit.specs.declared.applied.Applied.{Applied}
use Rattle.session_edit.specs.AppliedEdit.{IsAnswer, IsApplied, IsRefused}
use Rattle.session_edit.specs.Edited.{Edited, at_node, comes, edited, outcome_of_hole_beside, not_here}
use Rattle.session_edit.specs.Here.{enclosing_item, is_list_item, nearest_item}
use Rattle.session_edit.specs.PlainEdit.{PlainEdit}
use Rattle.session_edit.specs.Private.ShownPath.{IsShown}
use Rattle.session_edit.proofs.DropCommands.{item_listed, item_roomless_is, item_true}
use Rattle.session_edit.proofs.Outcomes.{applied_is, edited_is, node_there, refused_is, stands_after}
use Rattle.session_edit.proofs.PutCommands.{edit_there}
use Rattle.session_edit.specs.Private.RoomLaws.{RoomLaws}
use Rattle.session_edit.proofs.VisibleEdits.{first_comes, last_number, second_comes, seen_beside, seen_here, shelf_of, visible_node}

-- the last number of a path to a node is below the number of nodes
last_small : (items : Forest) (path : List ℕ) (node : PlainNode) → node_at items path ≡ Some node → last_child_number path < count items
last_small items [] node e = absurd (none-some node e)
last_small Forest.nil (k ∷ path) node e = absurd (none-some node e)
last_small (Forest.cons label inner rest) (zero ∷ []) node e = omega arith
last_small (Forest.cons label inner rest) (zero ∷ (j ∷ path)) node e = omega (arith, last_small inner (j ∷ path) node e)
last_small (Forest.cons label inner rest) (suc k ∷ []) node e = omega (arith, last_small rest (k ∷ []) node e)
last_small (Forest.cons label inner rest) (suc k ∷ (j ∷ path)) node e = omega (arith, last_small rest (k ∷ (j ∷ path)) node e)

-- the nearest item of a list round a node, by the numbers of its path
take_all : (path : List ℕ) → take (length path) path ≡ path
take_all [] = refl
take_all (k ∷ path) = ap (λ rest. k ∷ rest) (take_all path)

pub enclosing_here : (items : Forest) (path : List ℕ) → is_list_item items path ≡ true → enclosing_item items path ≡ Some path
enclosing_here items [] h = absurd (false≢true h)
enclosing_here items (k ∷ path) h =
    ap (λ q. if is_list_item items q then Some q else nearest_item items (k ∷ path) (length path)) (take_all (k ∷ path))
    ∙ ap (λ (b : Bool). if b then Some (k ∷ path) else nearest_item items (k ∷ path) (length path)) h

nearest_front : (items : Forest) (path others : List ℕ) (n : ℕ) → n ≤ length path → nearest_item items (path ++ others) n ≡ nearest_item items path n
nearest_front items path others zero within = refl
nearest_front items path others (suc n) within =
    ap (λ q. if is_list_item items q then Some q else nearest_item items (path ++ others) n) (take-append-le (suc n) path others within)
    ∙ ap (λ found. if is_list_item items (take (suc n) path) then Some (take (suc n) path) else found) (nearest_front items path others n (omega arith))

pub one_longer : (path : List ℕ) (k : ℕ) → length (path ++ k ∷ []) ≡ suc (length path)
one_longer [] k = refl
one_longer (j ∷ path) k = ap suc (one_longer path k)

pub enclosing_outer : (items : Forest) (path : List ℕ) (k : ℕ) → is_list_item items (path ++ k ∷ []) ≡ false
    → enclosing_item items (path ++ k ∷ []) ≡ enclosing_item items path
enclosing_outer items path k h =
    let longer : List ℕ = path ++ k ∷ [] in
    let all : take (suc (length path)) longer ≡ longer = ap (λ n. take n longer) (sym (one_longer path k)) ∙ take_all longer in
    ap (nearest_item items longer) (one_longer path k)
    ∙ (ap (λ q. if is_list_item items q then Some q else nearest_item items longer (length path)) all
    ∙ (ap (λ (b : Bool). if b then Some longer else nearest_item items longer (length path)) h
    ∙ nearest_front items path (k ∷ []) (length path) (omega arith)))

nearest_roomless : RoomLaws → (items : Forest) (path : List ℕ) (n : ℕ) → nearest_item (roomless items) path n ≡ nearest_item items path n
nearest_roomless room items path zero = refl
nearest_roomless room items path (suc n) =
    λ i. if item_roomless_is room items (take (suc n) path) i then Some (take (suc n) path) else nearest_roomless room items path n i

pub enclosing_roomless : RoomLaws → (items : Forest) (path : List ℕ) → enclosing_item (roomless items) path ≡ enclosing_item items path
enclosing_roomless room items path = nearest_roomless room items path (length path)

-- what comes of a hole beside the item at a path
abbrev pub beside_outcome : PlainTree → Side → List ℕ → Edited
beside_outcome tree side path = outcome_of_hole_beside (roomless_tree tree) side (enclosing_item (roomless_tree tree).items path)

comes_beside : RoomLaws → (tree : PlainTree) (side : Side) (path : List ℕ) (node : PlainNode) → node_at tree.items path ≡ Some node
    → IsListItem tree.items path node
    → beside_outcome tree side path
    ≡ comes (TreeEdit.add side) (roomless_tree tree) node.label.slot (node_stop (added_path side path)) None
comes_beside room tree side path node e h =
    ap (outcome_of_hole_beside (roomless_tree tree) side)
    (enclosing_roomless room tree.items path ∙ enclosing_here tree.items path (item_true tree.items path node e h))
    ∙ ap
    (at_node
    (λ (n : PlainNode).
    comes (TreeEdit.add side) (roomless_tree tree) n.label.slot (node_stop (added_path side path)) None))
    (room.nodes tree.items path ∙ ap (option_map roomless_node) e)

held_node : (found : Option PlainNode) (P : PlainNode → Type 0) → IsSomeAnd found P → (node : PlainNode) × (found ≡ Some node) × P node
held_node None P h = absurd h
held_node (Some node) P h = (node, refl, h)

-- no item of a list is main
main_in : (kind : NodeKind) → is_listed Sort.Main (row_of kind).sections ≡ false
main_in NodeKind.DeclarationHole = refl
main_in NodeKind.StatementHole = refl
main_in NodeKind.ProcedureHole = refl
main_in NodeKind.Main = refl
main_in NodeKind.Assign = refl
main_in (NodeKind.Filled template) = in_template template
  where
    in_template : (template : Template) → is_listed Sort.Main (row_of (NodeKind.Filled template)).sections ≡ false
    in_template Template.Fixed = refl
    in_template Template.Bit = refl
    in_template Template.Char = refl
    in_template Template.If = refl
    in_template Template.IfElse = refl
    in_template Template.While = refl
    in_template Template.For = refl
    in_template Template.Until = refl
    in_template Template.Group = refl
    in_template Template.Get = refl
    in_template Template.Put = refl
    in_template Template.PutSkip = refl
    in_template Template.Call = refl
    in_template Template.Return = refl
    in_template Template.Comment = refl
    in_template Template.Proc = refl
    in_template Template.ProcP = refl

main_found : (path : List ℕ) (j : ℕ)
    → ((sections : List PlainSection) (items : Forest) → is_listed Sort.Main sections ≡ false → is_listed Sort.Main (sections_at sections items (j ∷ path)) ≡ false)
    → (found : Option PlainNode)
    → is_listed Sort.Main (option_map_or (λ node. sections_at (row_of node.label.kind).sections node.inner (j ∷ path)) found []) ≡ false
main_found path j deeper None = refl
main_found path j deeper (Some node) = deeper (row_of node.label.kind).sections node.inner (main_in node.label.kind)

main_at : (sections : List PlainSection) (items : Forest) (path : List ℕ) → is_listed Sort.Main sections ≡ false
    → is_listed Sort.Main (sections_at sections items path) ≡ false
main_at sections items [] h = refl
main_at sections items (k ∷ []) h = h
main_at sections items (k ∷ (j ∷ path)) h =
    main_found path j (λ s i e. main_at s i (j ∷ path) e) (slice_get (nodes items) k)

hole_by : (sort : Sort) (sections : List PlainSection) → is_listed Sort.Main sections ≡ false → is_listed sort sections ≡ true
    → (kind : NodeKind) × (hole_of sort ≡ Some kind)
hole_by Sort.Main sections none h = absurd (false≢true (sym none ∙ h))
hole_by Sort.Procedure sections none h = (NodeKind.ProcedureHole, refl)
hole_by Sort.Declaration sections none h = (NodeKind.DeclarationHole, refl)
hole_by Sort.Statement sections none h = (NodeKind.StatementHole, refl)

shown_node : (items : Forest) (path : List ℕ) (node : PlainNode) → IsShown items path → node_at items path ≡ Some node → visible_at items path ≡ Some node
shown_node items [] node shown e = absurd (none-some node e)
shown_node items (k ∷ path) node shown e =
    let seen = held_node (visible_at items (k ∷ path)) (λ _. Unit {0}) shown in
    seen.1 ∙ (sym (visible_node items (k ∷ path) seen.0 seen.1) ∙ e)

-- the cursor may stand on the hole that comes beside an item
hole_stands : RoomLaws → SlotEditIsPathEdit → (before after : PlainTree) (side : Side) (path : List ℕ) (node : PlainNode) (receipt : PlainReceipt)
    → IsTree before → IsShown before.items path → node_at before.items path ≡ Some node → IsListItem before.items path node
    → IsEdit (TreeEdit.add side) node.label.slot before after receipt None
    → IsStop (roomless after.items) (node_stop (added_path side path))
hole_stands room law before after Side.Before path node receipt tree shown there listed edit =
    let change : PlainNode → List PlainNode = with_hole before.drawn Side.Before in
    let shelf = shelf_of before.items path node (shown_node before.items path node shown there) in
    let hole = hole_by (sort_of node.label.kind) (sections_at program_sections before.items path) (main_at program_sections before.items path refl) listed in
    stands_after room law before after path node change (before.drawn + 1) (node_stop path) (lone before.drawn hole.0) tree there edit.became
    (seen_here change before.items path shelf.0 shelf.1
    ∙ first_comes change (last_number path) shelf.0 node (lone before.drawn hole.0) (node ∷ []) shelf.2
    (ap (λ kind. hole_list before.drawn kind ++ node ∷ []) hole.1))
    tt
hole_stands room law before after Side.After path node receipt tree shown there listed edit =
    let change : PlainNode → List PlainNode = with_hole before.drawn Side.After in
    let shelf = shelf_of before.items path node (shown_node before.items path node shown there) in
    let hole = hole_by (sort_of node.label.kind) (sections_at program_sections before.items path) (main_at program_sections before.items path refl) listed in
    stands_after room law before after path node change (before.drawn + 1) (node_stop (with_last suc path)) (lone before.drawn hole.0) tree there edit.became
    (seen_beside change suc before.items path shelf.0 shelf.1
    ∙ second_comes change (last_number path) shelf.0 node node (lone before.drawn hole.0) shelf.2
    (ap (λ kind. node ∷ hole_list before.drawn kind) hole.1))
    tt

abbrev pub AddsHole : Side → List ℕ → (before after : PlainTree) → PlainReceipt → Type 0
AddsHole side path before after receipt =
    Edits (TreeEdit.add side) (node_at before.items path) (IsListItem before.items path) before after receipt

held_edit : (tree after : PlainTree) (side : Side) (path : List ℕ) (receipt : PlainReceipt) → AddsHole side path tree after receipt
    → (node : PlainNode) × (node_at tree.items path ≡ Some node)
    × (IsListItem tree.items path node × IsEdit (TreeEdit.add side) node.label.slot tree after receipt None)
held_edit tree after side path receipt adds =
    let held = held_node (node_at tree.items path) (IsListItem tree.items path) adds.here in
    (held.0, held.1, edit_there (TreeEdit.add side) (node_at tree.items path) (IsListItem tree.items path) tree after receipt held.0 held.1 adds)

pub added_small : (tree after : PlainTree) (side : Side) (path : List ℕ) (receipt : PlainReceipt) → IsTree tree → AddsHole side path tree after receipt
    → last_child_number path < 4294967295
added_small tree after side path receipt t adds =
    let made = held_edit tree after side path receipt adds
    in
    omega (arith, t.few, last_small tree.items path made.0 made.1)

pub beside_applied : RoomLaws → SlotEditIsPathEdit → (tree after : PlainTree) (side : Side) (path : List ℕ) (receipt : PlainReceipt) (stop_after : Stop)
    → IsTree tree → IsShown tree.items path → AddsHole side path tree after receipt → plain_stop stop_after ≡ node_stop (added_path side path)
    → IsApplied (outcome_of_hole_beside (roomless_tree tree) side (enclosing_item (roomless_tree tree).items path)) tree after
    record { receipt = receipt; taken = None; stop = stop_after }
beside_applied room law tree after side path receipt stop_after t shown adds there =
    let made = held_edit tree after side path receipt adds
    in
    applied_is room (beside_outcome tree side path) (TreeEdit.add side) (TreeEdit.add side) made.0.label.slot tree after receipt None stop_after
    (node_stop (added_path side path)) made.2.1 (room.edits (TreeEdit.add side) (TreeEdit.add side) tree made.0.label.slot refl) (comes_beside room tree side path made.0 made.1 made.2.0) there
    (subst (λ s. IsStop (roomless after.items) s) (sym there) (hole_stands room law tree after side path made.0 receipt t shown made.1 made.2.0 made.2.1)) tt

not_item : (items : Forest) (path : List ℕ) → (IsSomeAnd (node_at items path) (IsListItem items path) → ⊥) → is_list_item items path ≡ false
not_item items path missing =
    false_from_ne_true (is_list_item items path) (λ e. missing (found (node_at items path) refl e))
  where
    found : (there : Option PlainNode) → node_at items path ≡ there → is_list_item items path ≡ true → IsSomeAnd there (IsListItem items path)
    found None same e =
        absurd (false≢true (sym (ap (λ o. option_map_or (λ (n : PlainNode). is_listed (sort_of n.label.kind) (sections_at program_sections items path)) o false) same) ∙ e))
    found (Some node) same e = item_listed items path node same e

-- where no item of a list stands at a path, a hole comes as for the node round it
pub beside_outer : RoomLaws → (tree : PlainTree) (side : Side) (path outer : List ℕ) (k : ℕ) → path ≡ outer ++ k ∷ []
    → (IsSomeAnd (node_at tree.items path) (IsListItem tree.items path) → ⊥)
    → outcome_of_hole_beside (roomless_tree tree) side (enclosing_item (roomless_tree tree).items path)
    ≡ outcome_of_hole_beside (roomless_tree tree) side (enclosing_item (roomless_tree tree).items outer)
beside_outer room tree side path outer k way missing =
    ap (outcome_of_hole_beside (roomless_tree tree) side)
    (ap (enclosing_item (roomless tree.items)) way
    ∙ enclosing_outer (roomless tree.items) outer k
    (item_roomless_is room tree.items (outer ++ k ∷ []) ∙ (ap (is_list_item tree.items) (sym way) ∙ not_item tree.items path missing)))

pub beside_nothing : (tree : PlainTree) (side : Side) (path : List ℕ) → path ≡ []
    → outcome_of_hole_beside (roomless_tree tree) side (enclosing_item (roomless_tree tree).items path) ≡ not_here
beside_nothing tree side path e = ap (λ p. outcome_of_hole_beside (roomless_tree tree) side (enclosing_item (roomless tree.items) p)) e

abbrev IsSeen : Option PlainNode → Type 0
IsSeen found = IsSomeAnd found (λ _. Unit {0})

outer_item : (path longer : List ℕ) → ((item : PlainNode) → IsSeen (visible_below item longer) → IsSeen (visible_below item path))
    → (found : Option PlainNode) → IsSeen (option_and_then (λ item. visible_below item longer) found)
    → IsSeen (option_and_then (λ item. visible_below item path) found)
outer_item path longer deeper None h = absurd h
outer_item path longer deeper (Some item) h = deeper item h

outer_unless : (b : Bool) (one other : Option PlainNode) → (IsSeen one → IsSeen other) → IsSeen (if b then None else one) → IsSeen (if b then None else other)
outer_unless true one other deeper h = absurd h
outer_unless false one other deeper h = deeper h

outer_below : (path : List ℕ) (k : ℕ) (node : PlainNode) → IsSeen (visible_below node (path ++ k ∷ [])) → IsSeen (visible_below node path)
outer_below [] k node h = tt
outer_below (j ∷ path) k node h =
    outer_unless node.label.elided (option_and_then (λ item. visible_below item (path ++ k ∷ [])) (slice_get (nodes node.inner) j))
    (option_and_then (λ item. visible_below item path) (slice_get (nodes node.inner) j))
    (outer_item path (path ++ k ∷ []) (outer_below path k) (slice_get (nodes node.inner) j)) h

-- the way to a visible node is shown
pub outer_shown : (items : Forest) (path outer : List ℕ) (k : ℕ) → path ≡ outer ++ k ∷ [] → IsShown items path → IsShown items outer
outer_shown items path outer k way shown = from outer (subst (IsShown items) way shown)
  where
    from : (outer : List ℕ) → IsShown items (outer ++ k ∷ []) → IsShown items outer
    from [] h = tt
    from (j ∷ outer) h = outer_item outer (outer ++ k ∷ []) (outer_below outer k) (slice_get (nodes items) j) h

here_of : (edit : TreeEdit) (node : PlainNode) (Here : PlainNode → Type 0) (before : PlainTree) (fault : TreeFault)
    → (fault ≡ TreeFault.NotHere → ⊥) → Refuses edit (Some node) Here before fault → Here node
here_of edit node Here before TreeFault.NotHere other h = absurd (other refl)
here_of edit node Here before TreeFault.TooDeep other h = h.0
here_of edit node Here before TreeFault.TooLarge other h = h.0
here_of edit node Here before TreeFault.SlotsUsedUp other h = h.0
here_of edit node Here before TreeFault.OutOfMemory other h = h.0

-- the answer for the node round the one at a path, where the tree is as before
pub answer_outer : RoomLaws → (tree same after : PlainTree) (side : Side) (path outer : List ℕ) (k : ℕ) (result : Result Applied TreeFault)
    → same ≡ tree → path ≡ outer ++ k ∷ []
    → (IsSomeAnd (node_at tree.items path) (IsListItem tree.items path) → ⊥)
    → IsAnswer true (outcome_of_hole_beside (roomless_tree same) side (enclosing_item (roomless_tree same).items outer)) same after result
    → IsAnswer true (outcome_of_hole_beside (roomless_tree tree) side (enclosing_item (roomless_tree tree).items path)) tree after result
answer_outer room tree same after side path outer k result e way missing answer =
    subst (λ outcome. IsAnswer true outcome tree after result) (sym (beside_outer room tree side path outer k way missing))
    (subst
    (λ (t : PlainTree). IsAnswer true (outcome_of_hole_beside (roomless_tree t) side (enclosing_item (roomless_tree t).items outer)) t after result) e answer)

pub beside_refused : RoomLaws → (tree : PlainTree) (side : Side) (path : List ℕ) (fault : TreeFault)
    → Refuses (TreeEdit.add side) (node_at tree.items path) (IsListItem tree.items path) tree fault → (fault ≡ TreeFault.NotHere → ⊥)
    → IsRefused true (outcome_of_hole_beside (roomless_tree tree) side (enclosing_item (roomless_tree tree).items path)) fault
beside_refused room tree side path fault refuses other =
    on_node (node_at tree.items path) refl refuses
  where
    on_node : (there : Option PlainNode) → node_at tree.items path ≡ there
        → Refuses (TreeEdit.add side) there (IsListItem tree.items path) tree fault
        → IsRefused true (outcome_of_hole_beside (roomless_tree tree) side (enclosing_item (roomless_tree tree).items path)) fault
    on_node None same h = absurd (nothing fault other h)
      where
        nothing : (fault : TreeFault) → (fault ≡ TreeFault.NotHere → ⊥) → Refuses (TreeEdit.add side) None (IsListItem tree.items path) tree fault → ⊥
        nothing TreeFault.NotHere other h = other refl
        nothing TreeFault.TooDeep other h = h
        nothing TreeFault.TooLarge other h = h
        nothing TreeFault.SlotsUsedUp other h = h
        nothing TreeFault.OutOfMemory other h = h
    on_node (Some node) same h =
        refused_is room (TreeEdit.add side) (TreeEdit.add side) tree node (IsListItem tree.items path) (beside_outcome tree side path)
        (node_stop (added_path side path)) None (room.edits (TreeEdit.add side) (TreeEdit.add side) tree node.label.slot refl)
        (λ listed. comes_beside room tree side path node same listed)
        (λ missing. absurd (missing (here_of (TreeEdit.add side) node (IsListItem tree.items path) tree fault other h))) fault h

-- what comes of a hole beside the item round the cursor
pub beside_is : RoomLaws → (tree : PlainTree) (at : PlainStop) (side : Side) → IsStop (roomless_tree tree).items at
    → edited (roomless_tree tree) at (PlainEdit.beside side) ≡ outcome_of_hole_beside (roomless_tree tree) side (enclosing_item (roomless_tree tree).items at.path)
beside_is room tree at side stop =
    let n = node_there room tree at stop in edited_is room tree at (PlainEdit.beside side) n.node n.there

-- the way to the cursor's node is shown
pub shown_there : RoomLaws → (tree : PlainTree) (at : PlainStop) → IsStop (roomless_tree tree).items at → IsShown tree.items at.path
shown_there room tree at stop = let n = node_there room tree at stop in shown at.path n.node n.seen
  where
    shown : (path : List ℕ) (node : PlainNode) → visible_at tree.items path ≡ Some node → IsShown tree.items path
    shown [] node e = tt
    shown (k ∷ path) node e = subst (λ (found : Option PlainNode). IsSomeAnd found (λ _. Unit {0})) (sym e) tt
