-- A node as the site of its slot.
use Rattle.template_tree.specs.Positions.Place.{PlainPlace, Site}
use Rattle.template_tree.specs.Programs.PlainTree.{PlainNode}

-- the site of a node's slot, behind which a run goes on at a place
abbrev pub site_of : PlainNode → (after : PlainPlace) → Site
site_of node after = record { label = node.label; inner = node.inner; after = after }
