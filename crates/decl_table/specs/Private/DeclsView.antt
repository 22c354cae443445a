-- What a table in memory is seen as, and what is taken into it of a procedure.
use Rattle.std.specs.Prelude.{◌≡◌, ℕ, List, option_map, refl}
use Rattle.std.specs.Coded.{Coded, code_by, coded×, coded_list, coded_ℕ}
use Rattle.std.specs.FinMap.{code, insert}
use Rattle.std.specs.Option.{option_or}
use Rattle.plcs_base.specs.Scope.{ItemMap}
use Rattle.template_tree.specs.Checks.Environment.{Items, Sig, items_inside, signature_for}
use Rattle.template_tree.specs.Checks.ProgramMaps.{items_in}
use Rattle.template_tree.specs.Programs.PlainTree.{Forest, PlainNode}
use Rattle.decl_table.specs.PlainDecls.{DeclRoom, PlainHeadings, PlainDecls, PlainUses, slot_of}
use Rattle.decl_table.specs.Private.ItemsView.{items_code}
use Rattle.decl_table.specs.Names.{NameForest}
use Rattle.decl_table.specs.Private.NamesCode.{name_forest_code}
use Rattle.decl_table.specs.Private.UsesView.{uses_code}

-- the effective items of procedures by their slots, with how many more procedures there is room for
pub record RoomyItems : Type 0 where
  pub items : ItemMap
  pub spare : ℕ

-- the effective headings of a table, with how many more there is room for
pub record RoomyHeadings : Type 0 where
  pub headings : PlainHeadings
  pub spare : ℕ

-- the code of the items of procedures in what a table in memory is seen as
abbrev pub item_map_code : Coded ItemMap
item_map_code = code coded_ℕ items_code

-- the code of the items of procedures with the room for more
abbrev pub roomy_items_code : Coded RoomyItems
roomy_items_code =
    code_by (ItemMap × ℕ) (coded× item_map_code coded_ℕ) (λ a. (a.items, a.spare))
    (λ t. record { items = t.0; spare = t.1 }) (λ _. refl)

-- the code of the headings in what a table in memory is seen as
abbrev pub headings_code : Coded PlainHeadings
headings_code = coded_list (coded× (coded_list coded_ℕ) coded_ℕ)

-- the code of the headings with the room for more
abbrev pub roomy_headings_code : Coded RoomyHeadings
roomy_headings_code =
    code_by (PlainHeadings × ℕ) (coded× headings_code coded_ℕ) (λ a. (a.headings, a.spare))
    (λ t. record { headings = t.0; spare = t.1 }) (λ _. refl)

-- the code of the room in a table
abbrev pub room_code : Coded DeclRoom
room_code =
    code_by (ℕ × (ℕ × ℕ)) (coded× coded_ℕ (coded× coded_ℕ coded_ℕ)) (λ room. (room.procedures, (room.headings, room.names)))
    (λ t. record { procedures = t.0; headings = t.1.0; names = t.1.1 }) (λ _. refl)

-- the code of what a table in memory is seen as
abbrev pub decls_code : Coded PlainDecls
decls_code =
    code_by (ItemMap × (PlainHeadings × (PlainUses × (NameForest × DeclRoom))))
    (coded× item_map_code (coded× headings_code (coded× uses_code (coded× name_forest_code room_code))))
    (λ decls. (decls.items, (decls.headings, (decls.uses, (decls.names, decls.spare)))))
    (λ t. record { items = t.0; headings = t.1.0; uses = t.1.1.0; names = t.1.1.1.0; spare = t.1.1.1.1 })
    (λ _. refl)

-- the heading of a procedure was taken into the table, and comes before those of later ones
abbrev pub TakesHeading : PlainNode → PlainHeadings → PlainHeadings → Type 0
TakesHeading node old new =
    (name : List ℕ) → slot_of name new
    ≡ option_or (option_map (λ signature. signature.slot) (signature_for name node)) (slot_of name old)

-- a procedure was taken into the table with its items and its heading, and comes before later ones
pub record TakesProcedure (node : PlainNode) (old new : PlainDecls) : Type 0 where
  pub items : new.items ≡ insert old.items node.label.slot (items_inside node.inner)
  pub headings : TakesHeading node old.headings new.headings
  pub uses : new.uses ≡ old.uses
  pub names : new.names ≡ old.names

-- the table has the items and the headings that these main and procedures say
pub record IsRead (decls : PlainDecls) (rest : Forest) : Type 0 where
  pub items : (slot : ℕ) → items_in decls.items slot ≡ Items rest slot
  pub headings : (name : List ℕ) → slot_of name decls.headings ≡ option_map (λ signature. signature.slot) (Sig rest name)
