-- Nodes with nothing elided: what they are doesn't depend on what is elided.
use Rattle.std.specs.Prelude.{◌≡◌, refl, ℕ, zero, suc, ◌+◌, max, Bool, true, false, ◌&&◌, ◌==◌, nat_lt, if◌then◌else◌, List, [], ◌∷◌, map, find, Option, Some, None, option_map}
use Rattle.std.proofs.Common.{ap, sym, ◌∙◌, subst, arith}
use Rattle.std.proofs.Math.Bool.{false≢true}
use Rattle.plcs_grammar.specs.declared.node_kind.NodeKind.{NodeKind}
use Rattle.plcs_grammar.specs.declared.template.Template.{Template}
use Rattle.plcs_grammar.specs.Template.{program_sections}
use Rattle.template_tree.specs.declared.side.Side.{Side}
use Rattle.template_tree.specs.Edits.Copy.{whole_node}
use Rattle.template_tree.specs.Edits.Edit.{edit_at, edit_below, give_way, procedure_of, whole}
use Rattle.template_tree.specs.Edits.Elision.{is_comment}
use Rattle.template_tree.specs.Edits.Receipt.{PlainUndoing, items_before, with_beside}
use Rattle.template_tree.specs.Edits.Reversal.{comments}
use Rattle.template_tree.specs.Positions.Path.{node_at}
use Rattle.template_tree.specs.Programs.Part.{with_part}
use Rattle.template_tree.specs.Programs.PlainTree.{Forest, Label, PlainNode, PlainTree, forest, join, nodes, roomless_node}
use Rattle.template_tree.specs.Programs.Program.{AreNodes, Fill, IsNode, sorts}
use Rattle.template_tree.specs.Programs.Slots.{AllBelow, count, depth, first_slot, times}
use Rattle.template_tree.specs.Programs.Tree.{IsTree}
use Rattle.template_tree.proofs.Puts.PutTrees.{count_whole, sorts_whole}

-- ---- what doesn't depend on elision

pub times_whole : (slot : ℕ) (items : Forest) → times slot (whole items) ≡ times slot items
times_whole slot Forest.nil = refl
times_whole slot (Forest.cons label inner rest) =
    λ i. (if label.slot == slot then 1 else 0) + (times_whole slot inner i + times_whole slot rest i)

pub comments_whole : (slot : ℕ) (items : Forest) → comments slot (whole items) ≡ comments slot items
comments_whole slot Forest.nil = refl
comments_whole slot (Forest.cons label inner rest) =
    λ i. (if is_comment label.kind && label.slot == slot then 1 else 0) + (comments_whole slot inner i + comments_whole slot rest i)

depth_whole : (items : Forest) → depth (whole items) ≡ depth items
depth_whole Forest.nil = refl
depth_whole (Forest.cons label inner rest) = λ i. max (depth_whole inner i + 1) (depth_whole rest i)

first_whole : (items : Forest) → first_slot (whole items) ≡ first_slot items
first_whole Forest.nil = refl
first_whole (Forest.cons label inner rest) = refl

below_whole : (number : ℕ) (items : Forest) → AllBelow number items → AllBelow number (whole items)
below_whole number Forest.nil h = h
below_whole number (Forest.cons label inner rest) h = (h.0, below_whole number inner h.1, below_whole number rest h.2)

whole_below : (number : ℕ) (items : Forest) → AllBelow number (whole items) → AllBelow number items
whole_below number Forest.nil h = h
whole_below number (Forest.cons label inner rest) h = (h.0, whole_below number inner h.1, whole_below number rest h.2)

pub node_whole : (items : Forest) (path : List ℕ) → node_at (whole items) path ≡ option_map whole_node (node_at items path)
node_whole items [] = refl
node_whole Forest.nil (k ∷ path) = refl
node_whole (Forest.cons label inner rest) (zero ∷ []) = refl
node_whole (Forest.cons label inner rest) (zero ∷ (j ∷ path)) = node_whole inner (j ∷ path)
node_whole (Forest.cons label inner rest) (suc k ∷ path) = node_whole rest (k ∷ path)

procedure_if : (b : Bool) (item : PlainNode) (one other : Option PlainNode)
    → option_map (λ (found : PlainNode). found.label.slot) one ≡ option_map (λ (found : PlainNode). found.label.slot) other
    → option_map (λ (found : PlainNode). found.label.slot) (if b then Some (whole_node item) else one)
    ≡ option_map (λ (found : PlainNode). found.label.slot) (if b then Some item else other)
procedure_if true item one other same = refl
procedure_if false item one other same = same

pub procedure_whole : (items : Forest) (slot : ℕ) → procedure_of (whole items) slot ≡ procedure_of items slot
procedure_whole Forest.nil slot = refl
procedure_whole (Forest.cons label inner rest) slot =
    let holds : PlainNode → Bool = λ item. nat_lt 0 (times slot (forest (item ∷ []))) in
    let item : PlainNode = record { label = label; inner = inner } in
    let same : holds (whole_node item) ≡ holds item =
    ap (λ n. nat_lt 0 ((if label.slot == slot then 1 else 0) + (n + 0))) (times_whole slot inner)
    in
    ap
    (λ (b : Bool).
    option_map (λ (found : PlainNode). found.label.slot) (if b then Some (whole_node item) else find holds (nodes (whole rest))))
    same
    ∙ procedure_if (holds item) item (find holds (nodes (whole rest))) (find holds (nodes rest)) (procedure_whole rest slot)

-- ---- edits

-- two edits do the same to a node, but for elision
abbrev pub SameShown : (one other : PlainNode → List PlainNode) → Type 0
SameShown one other = (node : PlainNode) → map whole_node (one node) ≡ other (whole_node node)

pub whole_join : (items others : Forest) → whole (join items others) ≡ join (whole items) (whole others)
whole_join Forest.nil others = refl
whole_join (Forest.cons label inner rest) others = ap (Forest.cons (record label { elided = false }) (whole inner)) (whole_join rest others)

whole_forest : (items : List PlainNode) → whole (forest items) ≡ forest (map whole_node items)
whole_forest [] = refl
whole_forest (node ∷ rest) = ap (Forest.cons (record node.label { elided = false }) (whole node.inner)) (whole_forest rest)

gives_way : (one other : PlainNode → List PlainNode) → SameShown one other → (k : ℕ) (items : Forest)
    → whole (give_way one k items) ≡ give_way other k (whole items)
gives_way one other same k Forest.nil = refl
gives_way one other same zero (Forest.cons label inner rest) =
    let node : PlainNode = record { label = label; inner = inner } in
    whole_join (forest (one node)) rest
    ∙ ap (λ items. join items (whole rest)) (whole_forest (one node) ∙ ap forest (same node))
gives_way one other same (suc k) (Forest.cons label inner rest) =
    ap (Forest.cons (record label { elided = false }) (whole inner)) (gives_way one other same k rest)

edits_below : (one other : PlainNode → List PlainNode) → SameShown one other → (path : List ℕ)
    → SameShown (edit_below one path) (edit_below other path)
edits_below one other same [] = same
edits_below one other same (k ∷ path) =
    λ node.
    ap (λ (inner : Forest). let new : PlainNode = record { label = record node.label { elided = false }; inner = inner } in new ∷ [])
    (gives_way (edit_below one path) (edit_below other path) (edits_below one other same path) k node.inner)

pub whole_edit : (one other : PlainNode → List PlainNode) → SameShown one other → (path : List ℕ) (items : Forest)
    → whole (edit_at one path items) ≡ edit_at other path (whole items)
whole_edit one other same [] items = refl
whole_edit one other same (k ∷ path) items =
    gives_way (edit_below one path) (edit_below other path) (edits_below one other same path) k items

-- what stands again in place of a node, with nothing elided
abbrev shown_before : PlainUndoing → Option PlainNode → PlainNode → List PlainNode
shown_before (PlainUndoing.put node) back item = whole_node node ∷ []
shown_before PlainUndoing.put_back None item = item ∷ []
shown_before PlainUndoing.put_back (Some node) item = whole_node (roomless_node node) ∷ []
shown_before (PlainUndoing.set_part part place) back item = with_part part place item ∷ []
shown_before PlainUndoing.take_out back item = []
shown_before (PlainUndoing.put_in side node) back item = with_beside side (whole_node node) item

shown_same : (undoing : PlainUndoing) (back : Option PlainNode) → SameShown (items_before undoing back) (shown_before undoing back)
shown_same (PlainUndoing.put node) back = λ item. refl
shown_same PlainUndoing.put_back None = λ item. refl
shown_same PlainUndoing.put_back (Some node) = λ item. refl
shown_same (PlainUndoing.set_part part place) back = λ item. refl
shown_same PlainUndoing.take_out back = λ item. refl
shown_same (PlainUndoing.put_in Side.Before node) back = λ item. refl
shown_same (PlainUndoing.put_in Side.After node) back = λ item. refl

-- nodes that are the same but for elision are so after what comes back
pub whole_undone : (undoing : PlainUndoing) (back : Option PlainNode) (path : List ℕ) (one other : Forest) → whole one ≡ whole other
    → whole (edit_at (items_before undoing back) path one) ≡ whole (edit_at (items_before undoing back) path other)
whole_undone undoing back path one other same =
    whole_edit (items_before undoing back) (shown_before undoing back) (shown_same undoing back) path one
    ∙ (ap (edit_at (shown_before undoing back) path) same
    ∙ sym (whole_edit (items_before undoing back) (shown_before undoing back) (shown_same undoing back) path other))

-- ---- nodes where only comments are elided

-- what is elided among nodes are comments
abbrev pub IsSound : Forest → Type 0
IsSound Forest.nil = Unit {0}
IsSound (Forest.cons label inner rest) =
    (label.elided ≡ true → label.kind ≡ NodeKind.Filled Template.Comment) × IsSound inner × IsSound rest

pub sound_nodes : (items : Forest) → AreNodes items → IsSound items
sound_nodes Forest.nil h = tt
sound_nodes (Forest.cons label inner rest) h = (h.0.elision, sound_nodes inner h.1, sound_nodes rest h.2)

-- the first label of nodes, or else this one, what stands inside it and behind it
abbrev label_of : Label → Forest → Label
label_of other Forest.nil = other
label_of other (Forest.cons label inner rest) = label

abbrev pub inner_of : Forest → Forest
inner_of Forest.nil = Forest.nil
inner_of (Forest.cons label inner rest) = inner

abbrev pub rest_of : Forest → Forest
rest_of Forest.nil = Forest.nil
rest_of (Forest.cons label inner rest) = rest

-- a label with nothing elided
abbrev shown_label : Label → Label
shown_label label = record label { elided = false }

nodes_alike : (one other : Forest) → whole one ≡ whole other → IsSound other → AreNodes one → AreNodes other
nodes_alike Forest.nil Forest.nil e sound h = tt
nodes_alike Forest.nil (Forest.cons label inner rest) e sound h = absurd (omega (arith, ap count e))
nodes_alike (Forest.cons label inner rest) Forest.nil e sound h = absurd (omega (arith, ap count e))
nodes_alike (Forest.cons label inner rest) (Forest.cons label' inner' rest') e sound h =
    let labels : shown_label label ≡ shown_label label' = ap (label_of (shown_label label)) e in
    let inside : whole inner ≡ whole inner' = ap inner_of e in
    let behind : whole rest ≡ whole rest' = ap rest_of e in
    let kinds : sorts inner ≡ sorts inner' = sym (sorts_whole inner) ∙ (ap sorts inside ∙ sorts_whole inner') in
    let bare : IsNode (shown_label label) (sorts inner) =
    record { parts = h.0.parts; inner = h.0.inner; elision = λ is. absurd (false≢true is) } in
    let moved : IsNode (shown_label label') (sorts inner') =
    subst (IsNode (shown_label label')) kinds (subst (λ l. IsNode l (sorts inner)) labels bare) in (
      record { parts = moved.parts; inner = moved.inner; elision = sound.0 },
      nodes_alike inner inner' inside sound.1 h.1,
      nodes_alike rest rest' behind sound.2 h.2,
    )

-- a tree that is the same as another but for elision is one, where comments alone are elided
pub tree_alike : (one other : PlainTree) → whole one.items ≡ whole other.items → one.drawn ≡ other.drawn → one.live ≡ other.live
    → IsSound other.items → IsTree one → IsTree other
tree_alike one other same drawn live sound t =
    let items = one.items in
    let others = other.items in
    let counts : count others ≡ count items = sym (count_whole others) ∙ (ap count (sym same) ∙ count_whole items) in
    let depths : depth others ≡ depth items = sym (depth_whole others) ∙ (ap depth (sym same) ∙ depth_whole items) in
    record {
      program =
          record {
            listed = subst (Fill program_sections) (sym (sorts_whole items) ∙ (ap sorts same ∙ sorts_whole others)) t.program.listed;
            sound = nodes_alike items others same sound t.program.sound;
          };
      shallow = omega (arith, depths, t.shallow);
      few = omega (arith, counts, t.few);
      drawn_few = omega (arith, drawn, t.drawn_few);
      drawn =
          subst (λ n. AllBelow n others) drawn
          (whole_below one.drawn others (subst (AllBelow one.drawn) same (below_whole one.drawn items t.drawn)));
      once = λ slot. omega (arith, times_whole slot items, ap (times slot) same, times_whole slot others, t.once slot);
      main = sym (first_whole others) ∙ (ap first_slot (sym same) ∙ (first_whole items ∙ t.main));
      live = sym live ∙ (t.live ∙ sym counts);
    }
