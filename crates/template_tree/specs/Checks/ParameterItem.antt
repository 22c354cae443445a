-- Which effective item a parameter has.
use Rattle.std.specs.Prelude.{ℕ, if◌then◌else◌, ◌==◌, bytes_eq, List, Option, Some, None, option_and_then}
use Rattle.std.specs.List.{list_any}
use Rattle.plcs_base.specs.declared.declared.Declared.{Declared}
use Rattle.template_tree.specs.Checks.Environment.{item_named}

-- the item of a parameter, if it is a scalar
abbrev pub scalar_item : Declared → Option Declared
scalar_item item = if item.size == 0 then Some item else None

-- the item of a parameter behind earlier ones, if it has one: it is named here first, and an effective item of the name
-- is a scalar
abbrev pub parameter_item : (items : List Declared) (earlier : List (List ℕ)) → List ℕ → Option Declared
parameter_item items earlier name =
    if list_any (bytes_eq name) earlier then None else option_and_then scalar_item (item_named name items)
