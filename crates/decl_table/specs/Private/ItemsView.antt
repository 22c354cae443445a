-- What the effective items of a procedure are seen as, and what is kept of them.
use Rattle.std.specs.Prelude.{ℕ, List, map, bytes_eq}
use Rattle.std.specs.Coded.{Coded, coded_list}
use Rattle.std.specs.List.{IsDistinct}
use Rattle.std.specs.Map.{keys_of}
use Rattle.plcs_base.specs.declared.declared.Declared.{Declared}
use Rattle.plcs_base.specs.contracts.declared.Declared as declared_row
use Rattle.decl_table.specs.declared.items.Shape.{Shape}
use Rattle.decl_table.specs.declared.items.Items.TheInside.{Inside}

-- the effective item of the name, with the type and size that are kept of it
abbrev pub shaped : List ℕ → Shape → Declared
shaped name shape = record { name = name; ty = shape.ty; size = shape.size }

-- the effective items that the entries of the map are seen as
abbrev pub items_of : List (List ℕ × Shape) → List Declared
items_of entries = map (λ entry. shaped entry.0 entry.1) entries

-- the effective items of a procedure that are seen, in the order of the map
abbrev pub seen : Inside → List Declared
seen a = items_of a.shapes.entries

-- what is kept of effective items of a procedure: no name stands twice
pub record IsKept (a : Inside) : Type 0 where
  pub once : IsDistinct bytes_eq (keys_of a.shapes.entries)

-- how the effective items of a procedure, as they are seen, are told apart
abbrev pub items_code : Coded (List Declared)
items_code = coded_list declared_row.the_row.coded
