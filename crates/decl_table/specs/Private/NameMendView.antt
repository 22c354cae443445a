-- What becomes of a node in memory whose names are kept, as plain data.
use Rattle.decl_table.specs.declared.name_edit.NameMend.{NameMend as Mend}
use Rattle.std.specs.Prelude.{ℕ, List}
use Rattle.decl_table.specs.DeclEdit.{NameMend, names_mended}
use Rattle.decl_table.specs.Private.PlainNameNode.{PlainNameNode, name_forest, node_names}

-- the plain form of what becomes of a node in memory whose names are kept
abbrev pub plain_mend : Mend → NameMend
plain_mend (Mend.Put node) = NameMend.put (node_names node)
plain_mend (Mend.SetParts node) = NameMend.set_parts node.label
plain_mend (Mend.Add node room) = NameMend.add (node_names node) room
plain_mend Mend.Drop = NameMend.drop

-- a node whose names are kept after this became of the node at a path below it
abbrev pub with_mend : NameMend → List ℕ → PlainNameNode → PlainNameNode
with_mend mend path node = record node { inner = names_mended mend path node.inner }

-- a node with these nodes inside it, whose names are kept
abbrev pub with_inside : List PlainNameNode → PlainNameNode → PlainNameNode
with_inside items node = record node { inner = name_forest items }

-- a node with these names in its parts
abbrev pub with_parts_of : PlainNameNode → PlainNameNode → PlainNameNode
with_parts_of other node = record node { label = record node.label { parts = other.label.parts } }
