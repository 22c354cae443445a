-- A table of declarations as plain data.
use Rattle.std.specs.Prelude.{ℕ, List, [], Option, bytes_eq, unwrap_or}
use Rattle.std.specs.Map.{lookup}
use Rattle.plcs_base.specs.Scope.{ItemMap}
use Rattle.plcs_base.specs.declared.place.PhraseAt.{PhraseAt}
use Rattle.decl_table.specs.Names.{NameForest}

-- the effective headings in a table: names with the slots of their headings
abbrev pub PlainHeadings : Type 0
PlainHeadings = List (List ℕ × ℕ)

-- the uses of names in a table of declarations as plain data: names with the places of the phrases that mention them
abbrev pub PlainUses : Type 0
PlainUses = List (List ℕ × List PhraseAt)

-- how many new procedures, headings and mentioned names a table of declarations has room for
pub record DeclRoom : Type 0 where
  pub procedures : ℕ
  pub headings : ℕ
  pub names : ℕ

-- room for nothing new
abbrev pub no_room : DeclRoom
no_room = record { procedures = 0; headings = 0; names = 0 }

-- a table of declarations: the effective items of each procedure by its slot, the slot of the effective heading of
-- each name that has one, where each name is mentioned, and which names each node mentions; and how much room it has
pub record PlainDecls : Type 0 where
  pub items : ItemMap
  pub headings : PlainHeadings
  pub uses : PlainUses
  pub names : NameForest
  pub spare : DeclRoom

-- the slot of the heading that a table has under the name
abbrev pub slot_of : List ℕ → PlainHeadings → Option ℕ
slot_of name headings = lookup (bytes_eq name) headings

-- the places that a table has under the name, of the phrases that mention it
abbrev pub mentions_of : List ℕ → PlainUses → List PhraseAt
mentions_of name uses = unwrap_or (lookup (bytes_eq name) uses) []

-- the table of declarations without its room
abbrev pub roomless_decls : PlainDecls → PlainDecls
roomless_decls decls = record decls { spare = no_room }
