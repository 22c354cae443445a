-- What a map of items and a map of marks, as a `Scope` and a `Marked` of any type have them, tell of a program.
use Rattle.std.specs.Prelude.{◌≡◌, ℕ, List, [], unwrap_or}
use Rattle.std.specs.FinMap.{get}
use Rattle.plcs_base.specs.Mark.{MarkMap}
use Rattle.plcs_base.specs.Scope.{ItemMap}
use Rattle.plcs_base.specs.declared.declared.Declared.{Declared}
use Rattle.template_tree.specs.Checks.Environment.{Items}
use Rattle.template_tree.specs.Checks.Marks.{Marks}
use Rattle.template_tree.specs.Programs.PlainTree.{Forest}

-- the items that a map of items, as a `Scope` has one, tells of the procedure in the slot
abbrev pub items_in : ItemMap → ℕ → List Declared
items_in items slot = unwrap_or (get items slot) []

-- the map of items tells of the program: it has the effective items of each procedure, in listing order
abbrev pub ScopeTells : ItemMap → (program : Forest) → Type 0
ScopeTells items program = (slot : ℕ) → items_in items slot ≡ Items program slot

-- the map of marks tells of the program: it has the offences of its phrases
abbrev pub MarksTell : MarkMap → (program : Forest) → Type 0
MarksTell marks program = marks ≡ Marks program
