-- What an edit of a tree makes of its layout: at the path of the edit the node comes, comes in place of another or goes,
-- and all other nodes of the layout stay.
use Rattle.std.specs.Prelude.{◌≡◌, refl, ℕ, zero, suc, ◌+◌, ◌<◌, ◌==◌, Bool, true, false, if◌then◌else◌, List, [], ◌∷◌, length, Option, Some, None, is_some, option_map}
use Rattle.std.proofs.Common.{ap, sym, ◌∙◌, arith, inl, inr}
use Rattle.std.proofs.lemmas.Option.{none-some}
use Rattle.plcs_grammar.specs.PlainPhrase.{PlainPhrase}
use Rattle.plcs_grammar.specs.declared.node_kind.Sort.{Sort}
use Rattle.plcs_grammar.specs.Template.{PlainSection, row_of}
use Rattle.template_tree.specs.Edits.Edit.{edit_below, edit_slot, give_way}
use Rattle.template_tree.specs.Listings.Section.{left_after, left_for, next_lead}
use Rattle.template_tree.specs.Positions.Path.{node_at, slot_at}
use Rattle.template_tree.specs.Programs.Part.{with_part}
use Rattle.template_tree.specs.Programs.PlainTree.{Forest, Label, PlainNode}
use Rattle.template_tree.specs.Programs.Program.{AreNodes, sort_of, sorts}
use Rattle.template_tree.specs.Programs.Slots.{depth, times}
use Rattle.unparse_layout.specs.Bones.{Bone, PlainLayout, bones_of}
use Rattle.unparse_layout.specs.LayoutEdit.{LayoutMend, MayMend, MayMendAt, layout_mended_at, layouts_inside}
use Rattle.unparse_layout.specs.Private.LayoutEditView.{lone_layout}
use Rattle.unparse_layout.specs.Private.LayoutPaths.{bone_depth, bone_times, count_beside, layout_at}
use Rattle.unparse_layout.specs.Private.PlainNodeLayout.{PlainNodeLayout, node_layout_of}
use Rattle.unparse_layout.proofs.KeptLeads.{AreLeadsKept, kept_behind, row_kept, unled_after, unled_bones, unled_for, unled_next}

-- what becomes of a node behind the first one
mended_next : (mend : LayoutMend) (k : ℕ) (path : List ℕ) (bone : Bone) (inner rest : PlainLayout)
    → layout_mended_at mend (suc k ∷ path) (PlainLayout.cons bone inner rest) ≡ PlainLayout.cons bone inner (layout_mended_at mend (k ∷ path) rest)
mended_next LayoutMend.keep k [] bone inner rest = refl
mended_next (LayoutMend.put node) k [] bone inner rest = refl
mended_next (LayoutMend.add node room) k [] bone inner rest = refl
mended_next LayoutMend.drop k [] bone inner rest = refl
mended_next mend k (j ∷ path) bone inner rest = refl

-- the bone of a node, by the sections that are left for it
abbrev bone_in : List PlainSection → Label → Bone
bone_in left label =
    record { slot = label.slot; kind = label.kind; elided = label.elided; led = is_some (next_lead (left_for (sort_of label.kind) left)) }

-- what is there, or else the truth value
abbrev taken : Bool → Option Bool → Bool
taken led None = led
taken led (Some there) = there

abbrev taken_node : PlainNode → Option PlainNode → PlainNode
taken_node node None = node
taken_node node (Some there) = there

abbrev head_or : Sort → List Sort → Sort
head_or sort [] = sort
head_or sort (first ∷ sorts) = first

-- another node in the place of the first one, where the lines before nodes stay as they are
put_first : (node : PlainNode) (left : List PlainSection) (label : Label) (inner rest : Forest) (led : Bool)
    → AreLeadsKept left (sorts (Forest.cons label inner rest)) (sorts (Forest.cons node.label node.inner rest))
    → is_some (next_lead (left_for (sort_of label.kind) left)) ≡ led
    → bones_of left (Forest.cons node.label node.inner rest)
    ≡ PlainLayout.cons (node_layout_of led node).bone (node_layout_of led node).inner (bones_of (left_after (left_for (sort_of label.kind) left)) rest)
put_first node left label inner rest led (inl unled) is =
    let own = unled_for (sort_of node.label.kind) left unled in
    let old = unled_for (sort_of label.kind) left unled in
    let same : is_some (next_lead (left_for (sort_of node.label.kind) left)) ≡ led =
    unled_next (left_for (sort_of node.label.kind) left) own ∙ sym (unled_next (left_for (sort_of label.kind) left) old) ∙ is in
    let behind =
    unled_bones (left_after (left_for (sort_of node.label.kind) left)) (left_after (left_for (sort_of label.kind) left)) rest
    (unled_after (left_for (sort_of node.label.kind) left) own) (unled_after (left_for (sort_of label.kind) left) old) in
    λ i.
    PlainLayout.cons record { slot = node.label.slot; kind = node.label.kind; elided = node.label.elided; led = same i }
    (bones_of (row_of node.label.kind).sections node.inner) (behind i)
put_first node left label inner rest led (inr same) is =
    let sort : sort_of node.label.kind ≡ sort_of label.kind = sym (ap (head_or (sort_of label.kind)) same) in
    let here : left_for (sort_of node.label.kind) left ≡ left_for (sort_of label.kind) left = ap (λ (s : Sort). left_for s left) sort in
    let led_is : is_some (next_lead (left_for (sort_of node.label.kind) left)) ≡ led = ap (λ (l : List PlainSection). is_some (next_lead l)) here ∙ is in
    λ i.
    PlainLayout.cons record { slot = node.label.slot; kind = node.label.kind; elided = node.label.elided; led = led_is i }
    (bones_of (row_of node.label.kind).sections node.inner) (bones_of (left_after (here i)) rest)

-- another node in the place of the one at a path
pub put_bones : (node : PlainNode) (led : Bool) (left : List PlainSection) (items : Forest) (k : ℕ) (path : List ℕ)
    → AreLeadsKept left (sorts items) (sorts (give_way (edit_below (λ _. node ∷ []) path) k items))
    → AreNodes items → AreNodes (give_way (edit_below (λ _. node ∷ []) path) k items)
    → option_map (λ item. item.bone.led) (layout_at (bones_of left items) (k ∷ path)) ≡ Some led
    → bones_of left (give_way (edit_below (λ _. node ∷ []) path) k items)
    ≡ layout_mended_at (LayoutMend.put (lone_layout (node_layout_of led node))) (k ∷ path) (bones_of left items)
put_bones node led left Forest.nil k path kept old new there = absurd (none-some led there)
put_bones node led left (Forest.cons label inner rest) zero [] kept old new there =
    put_first node left label inner rest led kept (ap (taken led) there)
put_bones node led left (Forest.cons label inner rest) zero (j ∷ path) kept old new there =
    let sections = (row_of label.kind).sections in
    let within = row_kept label.kind (sorts inner) (sorts (give_way (edit_below (λ _. node ∷ []) path) j inner)) old.0.inner new.0.inner in
    ap (λ b. PlainLayout.cons (bone_in left label) b (bones_of (left_after (left_for (sort_of label.kind) left)) rest))
    (put_bones node led sections inner j path within old.1 new.1 there)
put_bones node led left (Forest.cons label inner rest) (suc k) path kept old new there =
    let later = left_after (left_for (sort_of label.kind) left) in
    let behind = kept_behind (sort_of label.kind) left (sorts rest) (sorts (give_way (edit_below (λ _. node ∷ []) path) k rest)) kept in
    ap (PlainLayout.cons (bone_in left label) (bones_of (row_of label.kind).sections inner))
    (put_bones node led later rest k path behind old.2 new.2 there)
    ∙ sym (mended_next (LayoutMend.put (lone_layout (node_layout_of led node))) k path (bone_in left label) (bones_of (row_of label.kind).sections inner) (bones_of later rest))

-- no list is as long as with one more
longer : (sort : Sort) (items : List Sort) → (sort ∷ items) ≡ items → ⊥
longer sort items same = let e : length (sort ∷ items) ≡ length items = ap length same in omega (arith, e)

-- the first node goes, where the lines before nodes stay as they are
drop_first : (left : List PlainSection) (label : Label) (inner rest : Forest) → AreLeadsKept left (sorts (Forest.cons label inner rest)) (sorts rest)
    → bones_of left rest ≡ bones_of (left_after (left_for (sort_of label.kind) left)) rest
drop_first left label inner rest (inl unled) =
    let here = unled_for (sort_of label.kind) left unled in
    unled_bones left (left_after (left_for (sort_of label.kind) left)) rest unled (unled_after (left_for (sort_of label.kind) left) here)
drop_first left label inner rest (inr same) = absurd (longer (sort_of label.kind) (sorts rest) same)

-- the node at a path goes
pub drop_bones : (left : List PlainSection) (items : Forest) (k : ℕ) (path : List ℕ)
    → AreLeadsKept left (sorts items) (sorts (give_way (edit_below (λ _. []) path) k items))
    → AreNodes items → AreNodes (give_way (edit_below (λ _. []) path) k items)
    → bones_of left (give_way (edit_below (λ _. []) path) k items) ≡ layout_mended_at LayoutMend.drop (k ∷ path) (bones_of left items)
drop_bones left Forest.nil k [] kept old new = refl
drop_bones left Forest.nil k (j ∷ path) kept old new = refl
drop_bones left (Forest.cons label inner rest) zero [] kept old new = drop_first left label inner rest kept
drop_bones left (Forest.cons label inner rest) zero (j ∷ path) kept old new =
    let within = row_kept label.kind (sorts inner) (sorts (give_way (edit_below (λ _. []) path) j inner)) old.0.inner new.0.inner in
    ap (λ b. PlainLayout.cons (bone_in left label) b (bones_of (left_after (left_for (sort_of label.kind) left)) rest))
    (drop_bones (row_of label.kind).sections inner j path within old.1 new.1)
drop_bones left (Forest.cons label inner rest) (suc k) path kept old new =
    let later = left_after (left_for (sort_of label.kind) left) in
    let behind = kept_behind (sort_of label.kind) left (sorts rest) (sorts (give_way (edit_below (λ _. []) path) k rest)) kept in
    ap (PlainLayout.cons (bone_in left label) (bones_of (row_of label.kind).sections inner)) (drop_bones later rest k path behind old.2 new.2)
    ∙ sym (mended_next LayoutMend.drop k path (bone_in left label) (bones_of (row_of label.kind).sections inner) (bones_of later rest))

-- the first node came, where the lines before nodes stay as they are
add_first : (node : PlainNode) (left : List PlainSection) (label : Label) (inner rest : Forest)
    → AreLeadsKept left (sorts (Forest.cons label inner rest)) (sorts rest) → record { label = label; inner = inner } ≡ node
    → bones_of left (Forest.cons label inner rest)
    ≡ PlainLayout.cons (node_layout_of false node).bone (node_layout_of false node).inner (bones_of left rest)
add_first node left label inner rest (inl unled) is =
    let here = unled_for (sort_of label.kind) left unled in
    let led : is_some (next_lead (left_for (sort_of label.kind) left)) ≡ false = unled_next (left_for (sort_of label.kind) left) here in
    let behind =
    unled_bones (left_after (left_for (sort_of label.kind) left)) left rest (unled_after (left_for (sort_of label.kind) left) here) unled in
    (λ i.
    PlainLayout.cons record { slot = label.slot; kind = label.kind; elided = label.elided; led = led i }
    (bones_of (row_of label.kind).sections inner) (behind i))
    ∙ ap (λ (n : PlainNode). PlainLayout.cons (node_layout_of false n).bone (node_layout_of false n).inner (bones_of left rest)) is
add_first node left label inner rest (inr same) is = absurd (longer (sort_of label.kind) (sorts rest) same)

-- the node at a path came
pub add_bones : (node : PlainNode) (room : ℕ) (left : List PlainSection) (items : Forest) (k : ℕ) (path : List ℕ)
    → AreLeadsKept left (sorts items) (sorts (give_way (edit_below (λ _. []) path) k items))
    → AreNodes items → AreNodes (give_way (edit_below (λ _. []) path) k items) → node_at items (k ∷ path) ≡ Some node
    → bones_of left items
    ≡ layout_mended_at (LayoutMend.add (lone_layout (node_layout_of false node)) room) (k ∷ path) (bones_of left (give_way (edit_below (λ _. []) path) k items))
add_bones node room left Forest.nil k path kept new old there = absurd (none-some node there)
add_bones node room left (Forest.cons label inner rest) zero [] kept new old there =
    add_first node left label inner rest kept (ap (taken_node node) there)
add_bones node room left (Forest.cons label inner rest) zero (j ∷ path) kept new old there =
    let within = row_kept label.kind (sorts inner) (sorts (give_way (edit_below (λ _. []) path) j inner)) new.0.inner old.0.inner in
    ap (λ b. PlainLayout.cons (bone_in left label) b (bones_of (left_after (left_for (sort_of label.kind) left)) rest))
    (add_bones node room (row_of label.kind).sections inner j path within new.1 old.1 there)
add_bones node room left (Forest.cons label inner rest) (suc k) path kept new old there =
    let later = left_after (left_for (sort_of label.kind) left) in
    let behind = kept_behind (sort_of label.kind) left (sorts rest) (sorts (give_way (edit_below (λ _. []) path) k rest)) kept in
    ap (PlainLayout.cons (bone_in left label) (bones_of (row_of label.kind).sections inner)) (add_bones node room later rest k path behind new.2 old.2 there)
    ∙ sym (mended_next (LayoutMend.add (lone_layout (node_layout_of false node)) room) k path (bone_in left label) (bones_of (row_of label.kind).sections inner)
    (bones_of later (give_way (edit_below (λ _. []) path) k rest)))

-- a part of a node isn't kept in a layout
abbrev set_or_not : (is_own : Bool) (part : ℕ) (place : Option PlainPhrase) (label : Label) (inner inside others : Forest) → Forest
set_or_not is_own part place label inner inside others =
    if is_own
    then Forest.cons (with_part part place record { label = label; inner = inner }).label inner others
    else Forest.cons label inside others

part_first : (is_own : Bool) (part : ℕ) (place : Option PlainPhrase) (left : List PlainSection) (label : Label) (inner rest inside others : Forest)
    → bones_of (row_of label.kind).sections inside ≡ bones_of (row_of label.kind).sections inner
    → bones_of (left_after (left_for (sort_of label.kind) left)) others ≡ bones_of (left_after (left_for (sort_of label.kind) left)) rest
    → bones_of left (set_or_not is_own part place label inner inside others) ≡ bones_of left (Forest.cons label inner rest)
part_first true part place left label inner rest inside others within behind =
    ap (PlainLayout.cons (bone_in left label) (bones_of (row_of label.kind).sections inner)) behind
part_first false part place left label inner rest inside others within behind =
    λ i. PlainLayout.cons (bone_in left label) (within i) (behind i)

pub part_bones : (slot part : ℕ) (place : Option PlainPhrase) (left : List PlainSection) (items : Forest)
    → bones_of left (edit_slot slot (λ node. with_part part place node ∷ []) items) ≡ bones_of left items
part_bones slot part place left Forest.nil = refl
part_bones slot part place left (Forest.cons label inner rest) =
    let change = λ (node : PlainNode). with_part part place node ∷ [] in
    part_first (label.slot == slot) part place left label inner rest (edit_slot slot change inner) (edit_slot slot change rest)
    (part_bones slot part place (row_of label.kind).sections inner)
    (part_bones slot part place (left_after (left_for (sort_of label.kind) left)) rest)

-- ---- what stands in a layout

-- the slots at paths are those of the tree
pub bones_slot : (left : List PlainSection) (items : Forest) (path : List ℕ)
    → option_map (λ item. item.bone.slot) (layout_at (bones_of left items) path) ≡ slot_at items path
bones_slot left Forest.nil [] = refl
bones_slot left Forest.nil (k ∷ path) = refl
bones_slot left (Forest.cons label inner rest) [] = refl
bones_slot left (Forest.cons label inner rest) (zero ∷ []) = refl
bones_slot left (Forest.cons label inner rest) (zero ∷ (j ∷ path)) = bones_slot (row_of label.kind).sections inner (j ∷ path)
bones_slot left (Forest.cons label inner rest) (suc k ∷ path) = bones_slot (left_after (left_for (sort_of label.kind) left)) rest (k ∷ path)

-- a slot stands in it as often as in the tree
pub bones_times : (slot : ℕ) (left : List PlainSection) (items : Forest) → bone_times slot (bones_of left items) ≡ times slot items
bones_times slot left Forest.nil = refl
bones_times slot left (Forest.cons label inner rest) =
    λ i.
    (if label.slot == slot then 1 else 0)
    + (bones_times slot (row_of label.kind).sections inner i + bones_times slot (left_after (left_for (sort_of label.kind) left)) rest i)

-- it is as deep as the tree
pub bones_deep : (left : List PlainSection) (items : Forest) → bone_depth (bones_of left items) ≡ depth items
bones_deep left Forest.nil = refl
bones_deep left (Forest.cons label inner rest) =
    let within = bones_deep (row_of label.kind).sections inner in
    let behind = bones_deep (left_after (left_for (sort_of label.kind) left)) rest in
    omega (arith, within, behind)

-- ---- what may become of a node

-- a node that is there is within its list
there_within : (layout : PlainLayout) (k : ℕ) (item : PlainNodeLayout) → layout_at layout (k ∷ []) ≡ Some item → k < length (layouts_inside layout)
there_within PlainLayout.nil k item there = absurd (none-some item there)
there_within (PlainLayout.cons bone inner rest) zero item there = omega arith
there_within (PlainLayout.cons bone inner rest) (suc k) item there = omega (arith, there_within rest k item there)

-- at a path of a layout
pub may_at : (mend : LayoutMend) → ((layout : PlainLayout) (k : ℕ) → k < length (layouts_inside layout) → MayMend mend k layout)
    → (layout : PlainLayout) (k : ℕ) (path : List ℕ) (item : PlainNodeLayout) → layout_at layout (k ∷ path) ≡ Some item → MayMendAt mend (k ∷ path) layout
may_at mend may PlainLayout.nil k path item there = absurd (none-some item there)
may_at mend may (PlainLayout.cons bone inner rest) k [] item there =
    may (PlainLayout.cons bone inner rest) k (there_within (PlainLayout.cons bone inner rest) k item there)
may_at mend may (PlainLayout.cons bone inner rest) zero (j ∷ path) item there = may_at mend may inner j path item there
may_at mend may (PlainLayout.cons bone inner rest) (suc k) (j ∷ path) item there = may_at mend may rest k (j ∷ path) item there

-- a node may come where it stands in the tree after the edit, if there is room
pub may_add : (new : PlainLayout) (room : ℕ) (node : PlainNode) (left : List PlainSection) (items : Forest) (k : ℕ) (path : List ℕ)
    → node_at items (k ∷ path) ≡ Some node
    → count_beside (k ∷ path) (bones_of left (give_way (edit_below (λ _. []) path) k items)) < room
    → MayMendAt (LayoutMend.add new room) (k ∷ path) (bones_of left (give_way (edit_below (λ _. []) path) k items))
may_add new room node left Forest.nil k path there fits = absurd (none-some node there)
may_add new room node left (Forest.cons label inner rest) zero [] there fits = (omega arith, fits)
may_add new room node left (Forest.cons label inner rest) zero (j ∷ path) there fits =
    may_add new room node (row_of label.kind).sections inner j path there fits
may_add new room node left (Forest.cons label inner rest) (suc k) [] there fits =
    let behind = may_add new room node (left_after (left_for (sort_of label.kind) left)) rest k [] there (omega (arith, fits)) in
    (omega (arith, behind.0), fits)
may_add new room node left (Forest.cons label inner rest) (suc k) (j ∷ path) there fits =
    may_add new room node (left_after (left_for (sort_of label.kind) left)) rest k (j ∷ path) there fits
