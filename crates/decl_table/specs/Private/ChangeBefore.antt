-- The names that are kept of a tree before one kind of change.
use Rattle.std.specs.Prelude.{◌≡◌, ℕ, ◌≤◌, List, [], Option, Some, None, option_map, slice_get}
use Rattle.std.specs.Option.{option_flatten}
use Rattle.plcs_base.specs.declared.place.PhraseAt.{PhraseAt}
use Rattle.template_tree.specs.Checks.Mention.{phrase_at}
use Rattle.template_tree.specs.Positions.Path.{node_at}
use Rattle.template_tree.specs.declared.change.Change.{Change}
use Rattle.template_tree.specs.declared.change.What.{What}
use Rattle.template_tree.specs.Edits.Edit.{DifferBy, Differs, changed_in}
use Rattle.template_tree.specs.Programs.PlainTree.{Forest, PlainNode, PlainTree}
use Rattle.template_tree.specs.Programs.Slots.{times}
use Rattle.template_tree.specs.Programs.Tree.{IsTree}
use Rattle.decl_table.specs.DeclEdit.{NameMend, PlainNameEdit}
use Rattle.decl_table.specs.Names.{NameForest, names_of}
use Rattle.decl_table.specs.Private.NamePaths.{names_below}
use Rattle.decl_table.specs.Private.PlainNameNode.{PlainNameNode, kept_mention, kept_mentions, kept_place, name_node_of, name_places, node_names}

-- the names are those of a tree from which this one differs by the change
abbrev pub AreNamesBefore : NameForest → (after : PlainTree) → Change → Type 0
AreNamesBefore names after change =
    (before : PlainTree) × IsTree before × (names ≡ names_of before.items) × Differs before after change

-- the names are those of a tree from which this one differs by what was done in a slot that stands where that was done
pub record IsBeforeChange (what : What) (slot : ℕ) (names : NameForest) (after : PlainTree) : Type 0 where
  pub before : PlainTree
  pub tree : IsTree before
  pub agrees : names ≡ names_of before.items
  pub differ : DifferBy what slot before.items after.items
  pub stands : 1 ≤ times slot (changed_in what before.items after.items)

-- the nodes in a slot before an edit and after it, of which names are kept at the path of the edit of names: where a
-- part was set, of the node's own label
abbrev pub IsEditOf : What → (slot : ℕ) → (before after : Forest) → PlainNameEdit → Type 0
IsEditOf What.Node slot before after edit =
    (old new : PlainNode) × (node_at before edit.path ≡ Some old) × (node_at after edit.path ≡ Some new)
    × (old.label.slot ≡ slot) × (new.label.slot ≡ slot) × (edit.mend ≡ NameMend.put (node_names (name_node_of new)))
IsEditOf (What.Part part) slot before after edit =
    (old new : PlainNode) × (node_at before edit.path ≡ Some old) × (node_at after edit.path ≡ Some new)
    × (old.label.slot ≡ slot) × (new.label.slot ≡ slot) × (edit.mend ≡ NameMend.set_parts (name_node_of new).label)
IsEditOf What.Added slot before after edit =
    (new : PlainNode) × (room : ℕ) × (node_at after edit.path ≡ Some new) × (new.label.slot ≡ slot)
    × (edit.mend ≡ NameMend.add (node_names (name_node_of new)) room)
IsEditOf What.Dropped slot before after edit =
    (old : PlainNode) × (node_at before edit.path ≡ Some old) × (old.label.slot ≡ slot) × (edit.mend ≡ NameMend.drop)

-- the part that was set, if one alone was
abbrev pub part_of : What → Option ℕ
part_of What.Node = None
part_of (What.Part part) = Some part
part_of What.Added = None
part_of What.Dropped = None

-- the places of the phrases that mention a name in the part of a node, or else in the node and inside it
abbrev pub places_by : (part : Option ℕ) → PlainNameNode → List ℕ → List PhraseAt
places_by None node name = kept_mentions name (node_names node)
places_by (Some part) node name =
    kept_mention name (phrase_at node.label.slot part) (option_flatten (slice_get node.label.parts part))

-- those in the node that is there, if one is
abbrev pub places_of : (part : Option ℕ) → Option PlainNameNode → List ℕ → List PhraseAt
places_of part None name = []
places_of part (Some node) name = places_by part node name

-- the places of the phrases in the part of a node, or else in the node and inside it
abbrev pub spots_by : (part : Option ℕ) → PlainNameNode → List PhraseAt
spots_by None node = name_places (node_names node)
spots_by (Some part) node = kept_place (phrase_at node.label.slot part) (option_flatten (slice_get node.label.parts part))

-- those in the node that is there, if one is
abbrev pub spots_of : (part : Option ℕ) → Option PlainNameNode → List PhraseAt
spots_of part None = []
spots_of part (Some node) = spots_by part node

-- the node that stood where something becomes of it: none where one comes
abbrev pub old_by : NameMend → Option PlainNameNode → Option PlainNameNode
old_by (NameMend.put node) found = found
old_by (NameMend.set_parts label) found = found
old_by (NameMend.add node room) found = None
old_by NameMend.drop found = found

-- the node whose names are kept that stood at the path of the edit below a root, if one did
abbrev pub old_node : PlainNameEdit → PlainNameNode → Option PlainNameNode
old_node edit root = old_by edit.mend (names_below root edit.path)

-- the node whose names are kept that came by an edit; where a part was set, its label alone is that of the node there
abbrev pub IsNewNode : NameMend → Option PlainNameNode → Type 0
IsNewNode (NameMend.put node) found = option_map node_names found ≡ Some node
IsNewNode (NameMend.set_parts label) found = option_map (λ node. node.label) found ≡ Some label
IsNewNode (NameMend.add node room) found = option_map node_names found ≡ Some node
IsNewNode NameMend.drop found = found ≡ None
