-- What a prepared edit makes of a table of declarations.
use Rattle.std.specs.Prelude.{◌≡◌, ℕ, zero, suc, ◌<◌, ◌≤◌, List, [], ◌∷◌, bytes_eq, length, slice_get, Contains, IsSomeAnd, Option, Some, None, option_map}
use Rattle.std.specs.FinMap.{get, insert, remove}
use Rattle.std.specs.Map.{lookup}
use Rattle.plcs_base.specs.Scope.{ItemMap}
use Rattle.plcs_base.specs.declared.declared.Declared.{Declared}
use Rattle.plcs_base.specs.declared.place.PhraseAt.{PhraseAt}
use Rattle.plcs_grammar.specs.PlainPhrase.{PlainPhrase}
use Rattle.template_tree.specs.declared.change.Change.{Change}
use Rattle.template_tree.specs.Checks.Environment.{Sig}
use Rattle.template_tree.specs.Checks.Mention.{AreUses}
use Rattle.template_tree.specs.Checks.ProgramMaps.{ScopeTells}
use Rattle.template_tree.specs.Programs.PlainTree.{Forest, PlainNode, PlainTree}
use Rattle.decl_table.specs.Due.{AreDue, AreGone}
use Rattle.decl_table.specs.Knowledge.{Knows, Stands}
use Rattle.decl_table.specs.Names.{NameForest, NameLabel, names_of}
use Rattle.decl_table.specs.PlainDecls.{PlainDecls, PlainHeadings, PlainUses, mentions_of, slot_of}

-- ---- the names of nodes after an edit

-- what becomes of the node of a number in a list of nodes with their names: another one, which stands alone in a list,
-- comes in its place, or before it into a list with this much room; the names in its parts are those of this label; or
-- it goes
pub data NameMend : Type 0 where
  put : NameForest → NameMend
  set_parts : NameLabel → NameMend
  add : (node : NameForest) (room : ℕ) → NameMend
  drop : NameMend

-- the nodes of the one with their names, and those of the other behind them
abbrev pub join_names : NameForest → NameForest → NameForest
join_names NameForest.nil others = others
join_names (NameForest.cons label inner rest) others = NameForest.cons label inner (join_names rest others)

-- nodes with their names where the one of this number gives way to what a function makes of it
abbrev pub name_gives_way : (NameLabel → NameForest → NameForest) → (number : ℕ) → NameForest → NameForest
name_gives_way change number NameForest.nil = NameForest.nil
name_gives_way change zero (NameForest.cons label inner rest) = join_names (change label inner) rest
name_gives_way change (suc number) (NameForest.cons label inner rest) =
    NameForest.cons label inner (name_gives_way change number rest)

-- nodes with their names where another one comes before the one of this number, or behind all
abbrev pub name_added : (node : NameForest) → (number : ℕ) → NameForest → NameForest
name_added node zero names = join_names node names
name_added node (suc number) NameForest.nil = node
name_added node (suc number) (NameForest.cons label inner rest) =
    NameForest.cons label inner (name_added node number rest)

-- a node, alone in a list, with these names in its parts
abbrev pub with_part_names : List (Option (List (List ℕ))) → NameLabel → NameForest → NameForest
with_part_names parts label inner = NameForest.cons (record label { parts = parts }) inner NameForest.nil

-- a list of nodes with their names after this became of the node of the number
abbrev pub name_mended : NameMend → (number : ℕ) → NameForest → NameForest
name_mended (NameMend.put node) number names = name_gives_way (λ label inner. node) number names
name_mended (NameMend.set_parts new) number names = name_gives_way (with_part_names new.parts) number names
name_mended (NameMend.add node room) number names = name_added node number names
name_mended NameMend.drop number names = name_gives_way (λ label inner. NameForest.nil) number names

-- a node, alone in a list, with what a function makes of the nodes inside it
abbrev pub with_names_inside : (NameForest → NameForest) → NameLabel → NameForest → NameForest
with_names_inside change label inner = NameForest.cons label (change inner) NameForest.nil

-- nodes with their names after this became of the node at a path
abbrev pub names_mended : NameMend → (path : List ℕ) → NameForest → NameForest
names_mended mend [] names = names
names_mended mend (k ∷ []) names = name_mended mend k names
names_mended mend (k ∷ (j ∷ path)) names = name_gives_way (with_names_inside (names_mended mend (j ∷ path))) k names

-- what becomes of the names of nodes by a prepared edit, and at which path
pub record PlainNameEdit : Type 0 where
  pub path : List ℕ
  pub mend : NameMend

-- ---- a prepared edit

-- an edit that was prepared for a table of declarations: which phrases are due for a check, and which went; a table
-- that knows what is asked where those that are due are checked; the effective items of the procedure of the change, if
-- these may change, or that it is one no more; of names that may get another effective heading the slot of that, or
-- none; the uses of names that get other ones, none where a name is mentioned no more; and what becomes of the names of
-- nodes
pub record PlainDeclEdit : Type 0 where
  pub due : List PhraseAt
  pub gone : List PhraseAt
  pub decls : PlainDecls
  pub items : Option (ℕ × Option (List Declared))
  pub headings : List (List ℕ × Option ℕ)
  pub uses : PlainUses
  pub names : PlainNameEdit

-- the effective items of procedures where those of the procedure in the slot come to be these, or it is one no more
abbrev pub with_items_of : (slot : ℕ) → Option (List Declared) → ItemMap → ItemMap
with_items_of slot None items = remove items slot
with_items_of slot (Some list) items = insert items slot list

-- the effective items of procedures where those of one change, if they do
abbrev pub items_changed : Option (ℕ × Option (List Declared)) → ItemMap → ItemMap
items_changed None items = items
items_changed (Some change) items = with_items_of change.0 change.1 items

-- what a table of declarations has in place of this, where a prepared edit has something for it, or else this
abbrev pub changed_or : {A : Type 0} → Option A → A → A
changed_or None kept = kept
changed_or (Some changed) kept = changed

-- the effective items of a program after a prepared edit, of those in the table before it
abbrev pub items_after : PlainDeclEdit → ItemMap → ItemMap
items_after edit items = items_changed edit.items items

-- the slot of the effective heading of a name after a prepared edit, if it has one then
abbrev pub heading_after : PlainDeclEdit → PlainHeadings → (name : List ℕ) → Option ℕ
heading_after edit headings name = changed_or (lookup (bytes_eq name) edit.headings) (slot_of name headings)

-- the uses of a name after a prepared edit
abbrev pub uses_after : PlainDeclEdit → PlainUses → (name : List ℕ) → List PhraseAt
uses_after edit uses name = changed_or (lookup (bytes_eq name) edit.uses) (mentions_of name uses)

-- the names of nodes after a prepared edit
abbrev pub names_after : PlainDeclEdit → NameForest → NameForest
names_after edit names = names_mended edit.names.mend edit.names.path names

-- ---- what a prepared edit promises

-- with the prepared edit the table of declarations is that of the program after it
pub record IsDeclsAfter (decls : PlainDecls) (edit : PlainDeclEdit) (program : Forest) : Type 0 where
  pub items_are : ScopeTells (items_after edit decls.items) program
  pub headings_are : (name : List ℕ)
      → heading_after edit decls.headings name ≡ option_map (λ signature. signature.slot) (Sig program name)
  pub uses_are : (name : List ℕ) → AreUses name program (uses_after edit decls.uses name)
  pub names_are : names_after edit decls.names ≡ names_of program

-- the table of a prepared edit knows what is asked where the phrases that are due are checked
abbrev pub KnowsDue : PlainDeclEdit → (program : Forest) → Type 0
KnowsDue edit program =
    (at : PhraseAt) (procedure : PlainNode) (phrase : PlainPhrase) → Contains edit.due at
    → Stands program at procedure phrase → Knows edit.decls program procedure phrase

-- the edit was prepared for a table of declarations of the tree before, and is the one that made the tree after
pub record IsDeclEdit (before after : PlainTree) (change : Change) (decls : PlainDecls) (edit : PlainDeclEdit) : Type 0
  where
    pub decls_after : IsDeclsAfter decls edit after.items
    pub due_are : AreDue before.items after.items change edit.due
    pub gone_are : AreGone before.items change edit.gone
    pub known : KnowsDue edit after.items

-- ---- putting a prepared edit in place

-- what stands inside each of the nodes with their names, as a list
abbrev pub names_inside : NameForest → List NameForest
names_inside NameForest.nil = []
names_inside (NameForest.cons label inner rest) = inner ∷ names_inside rest

-- this may become of the node of the number in a list of nodes with their names: the node is there, or the list fits
-- into the room with one more
abbrev pub MayMendName : NameMend → (number : ℕ) → NameForest → Type 0
MayMendName (NameMend.put node) number names = number < length (names_inside names)
MayMendName (NameMend.set_parts new) number names = number < length (names_inside names)
MayMendName (NameMend.add node room) number names =
    (number ≤ length (names_inside names)) × (length (names_inside names) < room)
MayMendName NameMend.drop number names = number < length (names_inside names)

-- this may become of the node at a path among nodes with their names
abbrev pub MayMendNames : NameMend → (path : List ℕ) → NameForest → Type 0
MayMendNames mend [] names = ⊥
MayMendNames mend (k ∷ []) names = MayMendName mend k names
MayMendNames mend (k ∷ (j ∷ path)) names = IsSomeAnd (slice_get (names_inside names) k) (MayMendNames mend (j ∷ path))

-- the map has these items under the slot, if there are some
abbrev pub HasItemsUnder : ItemMap → (slot : ℕ) → Option (List Declared) → Type 0
HasItemsUnder items slot None = Unit {0}
HasItemsUnder items slot (Some list) = get items slot ≡ Some list

-- the map has the items that the procedure of a change gets, if one gets some
abbrev pub HasItemsOf : ItemMap → Option (ℕ × Option (List Declared)) → Type 0
HasItemsOf items None = Unit {0}
HasItemsOf items (Some change) = HasItemsUnder items change.0 change.1

-- a prepared edit can be put in place in the table of declarations: there is room for what comes, and the edit's table
-- has the items that come
pub record CanPutInTable (edit : PlainDeclEdit) (decls : PlainDecls) : Type 0 where
  pub table : HasItemsOf edit.decls.items edit.items
  pub items : 1 ≤ decls.spare.procedures
  pub headings : length edit.headings ≤ decls.spare.headings
  pub uses : length edit.uses ≤ decls.spare.names
  pub names : MayMendNames edit.names.mend edit.names.path decls.names

-- a prepared edit was put in place in the table of declarations
pub record IsPutInPlace (edit : PlainDeclEdit) (before now : PlainDecls) : Type 0 where
  pub items : now.items ≡ items_after edit before.items
  pub headings : (name : List ℕ) → slot_of name now.headings ≡ heading_after edit before.headings name
  pub uses : (name : List ℕ) → mentions_of name now.uses ≡ uses_after edit before.uses name
  pub names : now.names ≡ names_after edit before.names
