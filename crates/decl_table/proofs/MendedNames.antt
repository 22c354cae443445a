-- What an edit of a tree makes of the names that are kept of it: at the path of the edit the node comes, comes in place
-- of another, goes or has other parts, and all other nodes stay.
use Rattle.std.specs.Prelude.{◌≡◌, refl, ℕ, zero, suc, ◌+◌, ◌<◌, ◌==◌, if◌then◌else◌, List, [], ◌∷◌, length, map, Option, Some, None, option_map}
use Rattle.std.proofs.Common.{ap, sym, ◌∙◌, arith}
use Rattle.std.proofs.lemmas.Option.{none-some}
use Rattle.plcs_grammar.specs.PlainPhrase.{PlainPhrase}
use Rattle.template_tree.specs.Edits.Edit.{edit_below, give_way}
use Rattle.template_tree.specs.Positions.Path.{node_at, slot_at}
use Rattle.template_tree.specs.Programs.Part.{with_part}
use Rattle.template_tree.specs.Programs.PlainTree.{Forest, Label, PlainNode}
use Rattle.template_tree.specs.Programs.Slots.{count, depth, times}
use Rattle.decl_table.specs.DeclEdit.{MayMendName, MayMendNames, NameMend, names_inside, names_mended}
use Rattle.decl_table.specs.Names.{NameForest, NameLabel, kept_names, names_of}
use Rattle.decl_table.specs.Private.NamePaths.{count_beside, name_count, name_depth, name_times, names_at}
use Rattle.decl_table.specs.Private.PlainNameNode.{PlainNameNode, name_node_of, node_names}

-- what becomes of a node behind the first one
mended_next : (mend : NameMend) (k : ℕ) (path : List ℕ) (label : NameLabel) (inner rest : NameForest)
    → names_mended mend (suc k ∷ path) (NameForest.cons label inner rest) ≡ NameForest.cons label inner (names_mended mend (k ∷ path) rest)
mended_next (NameMend.put node) k [] label inner rest = refl
mended_next (NameMend.set_parts new) k [] label inner rest = refl
mended_next (NameMend.add node room) k [] label inner rest = refl
mended_next NameMend.drop k [] label inner rest = refl
mended_next mend k (j ∷ path) label inner rest = refl

-- what is kept of a node's label
abbrev pub label_names : Label → NameLabel
label_names label = record { slot = label.slot; kind = label.kind; parts = map (option_map kept_names) label.parts }

abbrev taken_node : PlainNode → Option PlainNode → PlainNode
taken_node node None = node
taken_node node (Some there) = there

-- another node in the place of the one at a path
pub put_names : (node : PlainNode) (items : Forest) (k : ℕ) (path : List ℕ)
    → names_of (give_way (edit_below (λ _. node ∷ []) path) k items)
    ≡ names_mended (NameMend.put (node_names (name_node_of node))) (k ∷ path) (names_of items)
put_names node Forest.nil k [] = refl
put_names node Forest.nil k (j ∷ path) = refl
put_names node (Forest.cons label inner rest) zero [] = refl
put_names node (Forest.cons label inner rest) zero (j ∷ path) =
    ap (λ b. NameForest.cons (label_names label) b (names_of rest)) (put_names node inner j path)
put_names node (Forest.cons label inner rest) (suc k) path =
    ap (NameForest.cons (label_names label) (names_of inner)) (put_names node rest k path)
    ∙ sym (mended_next (NameMend.put (node_names (name_node_of node))) k path (label_names label) (names_of inner) (names_of rest))

-- a part is set of the node at a path
pub set_names : (part : ℕ) (place : Option PlainPhrase) (items : Forest) (k : ℕ) (path : List ℕ) (old : PlainNode)
    → node_at items (k ∷ path) ≡ Some old
    → names_of (give_way (edit_below (λ node. with_part part place node ∷ []) path) k items)
    ≡ names_mended (NameMend.set_parts (name_node_of (with_part part place old)).label) (k ∷ path) (names_of items)
set_names part place Forest.nil k path old there = absurd (none-some old there)
set_names part place (Forest.cons label inner rest) zero [] old there =
    ap
    (λ (n : PlainNode). NameForest.cons
    record { slot = label.slot; kind = label.kind; parts = (name_node_of (with_part part place n)).label.parts } (names_of inner) (names_of rest))
    (ap (taken_node old) there)
set_names part place (Forest.cons label inner rest) zero (j ∷ path) old there =
    ap (λ b. NameForest.cons (label_names label) b (names_of rest)) (set_names part place inner j path old there)
set_names part place (Forest.cons label inner rest) (suc k) path old there =
    ap (NameForest.cons (label_names label) (names_of inner)) (set_names part place rest k path old there)
    ∙ sym (mended_next (NameMend.set_parts (name_node_of (with_part part place old)).label) k path (label_names label) (names_of inner) (names_of rest))

-- the node at a path goes
pub drop_names : (items : Forest) (k : ℕ) (path : List ℕ)
    → names_of (give_way (edit_below (λ _. []) path) k items) ≡ names_mended NameMend.drop (k ∷ path) (names_of items)
drop_names Forest.nil k [] = refl
drop_names Forest.nil k (j ∷ path) = refl
drop_names (Forest.cons label inner rest) zero [] = refl
drop_names (Forest.cons label inner rest) zero (j ∷ path) =
    ap (λ b. NameForest.cons (label_names label) b (names_of rest)) (drop_names inner j path)
drop_names (Forest.cons label inner rest) (suc k) path =
    ap (NameForest.cons (label_names label) (names_of inner)) (drop_names rest k path)
    ∙ sym (mended_next NameMend.drop k path (label_names label) (names_of inner) (names_of rest))

-- the node at a path came
pub add_names : (node : PlainNode) (room : ℕ) (items : Forest) (k : ℕ) (path : List ℕ) → node_at items (k ∷ path) ≡ Some node
    → names_of items
    ≡ names_mended (NameMend.add (node_names (name_node_of node)) room) (k ∷ path) (names_of (give_way (edit_below (λ _. []) path) k items))
add_names node room Forest.nil k path there = absurd (none-some node there)
add_names node room (Forest.cons label inner rest) zero [] there =
    ap (λ (n : PlainNode). NameForest.cons (name_node_of n).label (name_node_of n).inner (names_of rest)) (ap (taken_node node) there)
add_names node room (Forest.cons label inner rest) zero (j ∷ path) there =
    ap (λ b. NameForest.cons (label_names label) b (names_of rest)) (add_names node room inner j path there)
add_names node room (Forest.cons label inner rest) (suc k) path there =
    ap (NameForest.cons (label_names label) (names_of inner)) (add_names node room rest k path there)
    ∙ sym (mended_next (NameMend.add (node_names (name_node_of node)) room) k path (label_names label) (names_of inner)
    (names_of (give_way (edit_below (λ _. []) path) k rest)))

-- ---- what stands among the names

-- the slots at paths are those of the tree
pub names_slot : (items : Forest) (path : List ℕ) → option_map (λ item. item.label.slot) (names_at (names_of items) path) ≡ slot_at items path
names_slot Forest.nil [] = refl
names_slot Forest.nil (k ∷ path) = refl
names_slot (Forest.cons label inner rest) [] = refl
names_slot (Forest.cons label inner rest) (zero ∷ []) = refl
names_slot (Forest.cons label inner rest) (zero ∷ (j ∷ path)) = names_slot inner (j ∷ path)
names_slot (Forest.cons label inner rest) (suc k ∷ path) = names_slot rest (k ∷ path)

-- a slot stands there as often as in the tree
pub names_times : (slot : ℕ) (items : Forest) → name_times slot (names_of items) ≡ times slot items
names_times slot Forest.nil = refl
names_times slot (Forest.cons label inner rest) =
    λ i. (if label.slot == slot then 1 else 0) + (names_times slot inner i + names_times slot rest i)

-- they are as many and as deep as the tree's nodes
pub names_count : (items : Forest) → name_count (names_of items) ≡ count items
names_count Forest.nil = refl
names_count (Forest.cons label inner rest) = λ i. names_count inner i + names_count rest i + 1

pub names_deep : (items : Forest) → name_depth (names_of items) ≡ depth items
names_deep Forest.nil = refl
names_deep (Forest.cons label inner rest) = let within = names_deep inner in let behind = names_deep rest in omega (arith, within, behind)

-- ---- what may become of a node

-- a node that is there is within its list
there_within : (names : NameForest) (k : ℕ) (item : PlainNameNode) → names_at names (k ∷ []) ≡ Some item → k < length (names_inside names)
there_within NameForest.nil k item there = absurd (none-some item there)
there_within (NameForest.cons label inner rest) zero item there = omega arith
there_within (NameForest.cons label inner rest) (suc k) item there = omega (arith, there_within rest k item there)

-- at a path
pub may_at : (mend : NameMend) → ((names : NameForest) (k : ℕ) → k < length (names_inside names) → MayMendName mend k names)
    → (names : NameForest) (k : ℕ) (path : List ℕ) (item : PlainNameNode) → names_at names (k ∷ path) ≡ Some item → MayMendNames mend (k ∷ path) names
may_at mend may NameForest.nil k path item there = absurd (none-some item there)
may_at mend may (NameForest.cons label inner rest) k [] item there =
    may (NameForest.cons label inner rest) k (there_within (NameForest.cons label inner rest) k item there)
may_at mend may (NameForest.cons label inner rest) zero (j ∷ path) item there = may_at mend may inner j path item there
may_at mend may (NameForest.cons label inner rest) (suc k) (j ∷ path) item there = may_at mend may rest k (j ∷ path) item there

-- a node may come where it stands in the tree after the edit, if there is room
pub may_add : (new : NameForest) (room : ℕ) (node : PlainNode) (items : Forest) (k : ℕ) (path : List ℕ)
    → node_at items (k ∷ path) ≡ Some node
    → count_beside (k ∷ path) (names_of (give_way (edit_below (λ _. []) path) k items)) < room
    → MayMendNames (NameMend.add new room) (k ∷ path) (names_of (give_way (edit_below (λ _. []) path) k items))
may_add new room node Forest.nil k path there fits = absurd (none-some node there)
may_add new room node (Forest.cons label inner rest) zero [] there fits = (omega arith, fits)
may_add new room node (Forest.cons label inner rest) zero (j ∷ path) there fits = may_add new room node inner j path there fits
may_add new room node (Forest.cons label inner rest) (suc k) [] there fits =
    let behind = may_add new room node rest k [] there (omega (arith, fits)) in
    (omega (arith, behind.0), fits)
may_add new room node (Forest.cons label inner rest) (suc k) (j ∷ path) there fits = may_add new room node rest k (j ∷ path) there fits
