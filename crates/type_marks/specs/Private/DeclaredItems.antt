-- Declared items among those of a procedure, and what is wrong with one of them.
use Rattle.std.specs.Prelude.{◌≡◌, ℕ, ◌==◌, Bool, ◌&&◌, if◌then◌else◌, bytes_eq, List, ◌++◌, map, true, Option, Some, None}
use Rattle.std.specs.List.{list_any}
use Rattle.plcs_base.specs.declared.declared.Declared.{Declared}
use Rattle.plcs_base.specs.declared.mark.MarkKind.{MarkKind}
use Rattle.plcs_grammar.specs.declared.item.Item.{Item}
use Rattle.plcs_grammar.specs.Builtin.{is_builtin_name}
use Rattle.plcs_grammar.specs.PlainPhrase.{PlainPhrase}
use Rattle.template_tree.specs.Checks.Environment.{all_declared, cells_of, item_named, items_inside, with_type}
use Rattle.template_tree.specs.Checks.Marks.{declared_before, type_in}
use Rattle.template_tree.specs.Programs.PlainTree.{Forest, PlainNode}
use Rattle.template_tree.specs.Checks.ProgramMaps.{items_in}
use Rattle.decl_table.specs.PlainDecls.{PlainDecls}

-- whether the declared item has the name and takes so many cells
abbrev pub is_such : (name : List ℕ) (cells : ℕ) → Declared → Bool
is_such name cells item = bytes_eq name item.name && (cells_of item == cells)

-- whether one of the declared items has the name and takes so many cells
abbrev pub has_such : (name : List ℕ) (cells : ℕ) → List Declared → Bool
has_such name cells items = list_any (is_such name cells) items

-- what is wrong with an item that is declared behind these, where this is the effective item of its name: that one is
-- the first of the name that takes as many cells
abbrev pub judged_as : (earlier : List Declared) → Declared → (effective : Option Declared) → Option MarkKind
judged_as earlier item None = Some MarkKind.TooManyCells
judged_as earlier item (Some known) =
    if has_such item.name (cells_of known) earlier then Some MarkKind.Duplicate
    else (if cells_of item == cells_of known then None else Some MarkKind.TooManyCells)

-- what is wrong with a declared item among those of a procedure, behind these, where this is the effective item of its
-- name: that the name is reserved comes first
abbrev pub judged_item : (earlier : List Declared) → Declared → (effective : Option Declared) → Option MarkKind
judged_item earlier item effective =
    if is_builtin_name item.name then Some MarkKind.Reserved else judged_as earlier item effective

-- these items are what the declaration in the slot declares, if it is one of the nodes
abbrev pub AreDeclaredIn : (inner : Forest) → (slot : ℕ) → List Item → Type 0
AreDeclaredIn inner slot items =
    (rest : List Declared)
    × (all_declared inner ≡ declared_before inner slot ++ (with_type (type_in inner slot) items ++ rest))

-- where the phrase is a declared list, its items stand among the declared items of a procedure as those of the
-- declaration in the slot, if that is one of the nodes
abbrev pub IsListIn : (inner : Forest) → (slot : ℕ) → PlainPhrase → Type 0
IsListIn inner slot phrase =
    (items : List Item) → phrase ≡ PlainPhrase.declared_list items → AreDeclaredIn inner slot items

-- the table has, of the declared items of a procedure, those that have the names of these
abbrev pub KnowsListed : PlainDecls → (procedure : PlainNode) → List Item → Type 0
KnowsListed decls procedure items =
    (name : List ℕ) → list_any (bytes_eq name) (map (λ item. item.name) items) ≡ true
    → item_named name (items_in decls.items procedure.label.slot) ≡ item_named name (items_inside procedure.inner)
