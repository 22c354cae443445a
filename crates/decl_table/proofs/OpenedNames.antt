-- What is kept in a node in memory whose names are kept.
use Rattle.std.specs.Prelude.{slice_get, ◌≡◌, ℕ}
use Rattle.std.proofs.Common.{ap, sym, ◌∙◌}
use Rattle.decl_table.specs.declared.name_node.NameNode.TheInside.{Inside}
use Rattle.decl_table.specs.Private.NameNodeView.{seen_names}
use Rattle.decl_table.specs.Private.PlainNameNode.{PlainNameNode, name_nodes, name_nodes_forest}

-- an item is found in what is seen as in what is kept
pub found_again : (a : Inside) (node : PlainNameNode) (k : ℕ) → seen_names a ≡ node → slice_get (name_nodes node.inner) k ≡ slice_get a.inner.items k
found_again a node k view =
    sym (ap (λ (o : PlainNameNode). slice_get (name_nodes o.inner) k) view) ∙ ap (λ xs. slice_get xs k) (name_nodes_forest a.inner.items)

-- the nodes inside it are those that are kept
pub items_are : (a : Inside) (node : PlainNameNode) → seen_names a ≡ node → name_nodes node.inner ≡ a.inner.items
items_are a node view = sym (ap (λ (o : PlainNameNode). name_nodes o.inner) view) ∙ name_nodes_forest a.inner.items
