-- What a table says of a program while it is gathered in it what has to be known there.
use Rattle.std.specs.Prelude.{◌≡◌, ◌⊎◌, ℕ, Bool, false, true, bytes_eq, nat_eq, List, [], ◌∷◌, slice_get, Option, Some, None, option_map}
use Rattle.std.specs.FinMap.{empty, get, insert}
use Rattle.std.specs.Map.{lookup}
use Rattle.std.specs.Option.{option_map_or}
use Rattle.plcs_base.specs.Scope.{ItemMap}
use Rattle.plcs_base.specs.declared.declared.Declared.{Declared}
use Rattle.template_tree.specs.Checks.Environment.{Items, Sig, item_named}
use Rattle.template_tree.specs.Checks.ProgramMaps.{items_in}
use Rattle.template_tree.specs.Programs.PlainTree.{Forest, PlainNode, nodes}
use Rattle.decl_table.specs.DeclEdit.{changed_or}
use Rattle.decl_table.specs.Knowledge.{KnowsHeading}
use Rattle.decl_table.specs.PlainDecls.{PlainDecls, slot_of}
use Rattle.decl_table.specs.declared.decl_edit.ItemChange.{ItemChange}

-- the table has the item that the program has of the name in the procedure in the slot
abbrev pub KnowsItem : PlainDecls → (program : Forest) → (slot : ℕ) → (name : List ℕ) → Type 0
KnowsItem table program slot name = item_named name (items_in table.items slot) ≡ item_named name (Items program slot)

-- the table says nothing of the program that isn't so
pub record SaysTrue (table : PlainDecls) (program : Forest) : Type 0 where
  pub items : (slot : ℕ) (name : List ℕ)
      → (item_named name (items_in table.items slot) ≡ None) ⊎ KnowsItem table program slot name
  pub headings : (name : List ℕ) → (slot_of name table.headings ≡ None) ⊎ KnowsHeading table program name

-- a table that says nothing of the program that isn't so has become another one, which knows all that it knew
pub record Learns (program : Forest) (old new : PlainDecls) : Type 0 where
  pub says : SaysTrue old program → SaysTrue new program
  pub items : (slot : ℕ) (name : List ℕ) → KnowsItem old program slot name → KnowsItem new program slot name
  pub headings : (name : List ℕ) → KnowsHeading old program name → KnowsHeading new program name

-- whether what becomes of the items of a procedure is of the one in the slot
abbrev pub is_changed : ItemChange → (slot : ℕ) → Bool
is_changed ItemChange.Stay slot = false
is_changed (ItemChange.Set own) slot = nat_eq own.0 slot
is_changed (ItemChange.Gone own) slot = nat_eq own.0 slot

-- the items of procedures in a table that has those alone that one gets
abbrev pub items_only : Option (ℕ × Option (List Declared)) → ItemMap
items_only None = empty
items_only (Some change) = option_map_or (λ list. insert empty change.0 list) change.1 empty

-- a program is known by a table from before an edit, where it is of other procedures than the one whose items change,
-- and the changes of headings
pub record IsSource (before : PlainDecls) (headings : List (List ℕ × Option ℕ)) (items : ItemChange) (program : Forest) : Type 0
  where
    pub items_stay : (slot : ℕ) → is_changed items slot ≡ false → (name : List ℕ) → KnowsItem before program slot name
    pub headings_are : (name : List ℕ) → changed_or (lookup (bytes_eq name) headings) (slot_of name before.headings)
        ≡ option_map (λ signature. signature.slot) (Sig program name)

-- a table in which it is gathered what is known of a program says nothing that isn't so, and has all items of the
-- procedure whose items change
pub record IsGathering (items : ItemChange) (program : Forest) (table : PlainDecls) : Type 0 where
  pub says : SaysTrue table program
  pub own : (slot : ℕ) → is_changed items slot ≡ true → (name : List ℕ) → KnowsItem table program slot name

-- a table has the same items as before of the procedure whose items change
pub record KeepsOwn (items : ItemChange) (old new : PlainDecls) : Type 0 where
  pub stays : (slot : ℕ) → is_changed items slot ≡ true → get new.items slot ≡ get old.items slot

-- main or the procedure to which a path leads, or in which it leads to a node
abbrev pub item_on : (program : Forest) → (path : List ℕ) → Option PlainNode
item_on program [] = None
item_on program (k ∷ path) = slice_get (nodes program) k
