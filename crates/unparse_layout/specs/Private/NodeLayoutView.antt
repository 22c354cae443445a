-- What a node of a layout in memory is seen as.
use Rattle.std.specs.Prelude.{◌≡◌, map}
use Rattle.unparse_layout.specs.declared.node_layout.NodeLayout.TheInside.{Inside}
use Rattle.unparse_layout.specs.Private.PlainNodeLayout.{PlainNodeLayout, bones}
use Rattle.unparse_layout.specs.Private.Height.{height}

-- what a node of a layout in memory is seen as: its fields, with the list of the nodes inside it as nodes in order
abbrev pub seen : Inside → PlainNodeLayout
seen a =
    record {
      bone =
          record
          { slot = a.slot.0; kind = a.kind; elided = a.elided; led = a.led };
      inner = bones a.inner.items;
    }

-- the heights that a node of a layout in memory keeps are those of the nodes inside it, one by one
pub record IsRight (a : Inside) : Type 0 where
  pub heights : a.heights.numbers ≡ map height a.inner.items
