-- What each procedure declares.
use Rattle.std.specs.Prelude.{ℕ, List, Option, option_and_then, slice_get}
use Rattle.std.specs.Ordering.{nat_cmp}
use Rattle.std.specs.FinMap.{FinMap, get}
use Rattle.plcs_base.specs.declared.declared.Declared.{Declared}

-- the effective items of each procedure, by its slot, in listing order
abbrev pub ItemMap : Type 0
ItemMap = FinMap nat_cmp (List Declared)

-- the effective item of this number, counted from 0, that the procedure in this slot declares, if there is one
abbrev pub item_at : ItemMap → ℕ → ℕ → Option Declared
item_at scope slot k = option_and_then (λ items. slice_get items k) (get scope slot)
