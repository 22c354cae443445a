-- Room for a list of nodes whose names are kept.
use Rattle.std.specs.Prelude.{◌≡◌, []}
use Rattle.decl_table.specs.declared.name_edit.NameRoom.TheInside.{Inside}

-- the room for a list of nodes whose names are kept holds none yet
pub record IsEmpty (a : Inside) : Type 0 where
  pub list : a.list.items ≡ []
