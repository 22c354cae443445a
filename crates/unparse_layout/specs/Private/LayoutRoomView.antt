-- Room for a list of nodes of a layout.
use Rattle.std.specs.Prelude.{◌≡◌, []}
use Rattle.unparse_layout.specs.declared.layout_edit.LayoutRoom.TheInside.{Inside}

-- the room for a list of nodes of a layout holds none yet
pub record IsEmpty (a : Inside) : Type 0 where
  pub list : a.list.items ≡ []
  pub heights : a.heights.numbers ≡ []
