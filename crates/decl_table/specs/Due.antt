-- Which phrases are due for a check once a program was edited.
use Rattle.std.specs.Prelude.{◌≡◌, ◌≢◌, ◌↔◌, ℕ, ◌+◌, Bool, true, false, ◌||◌, if◌then◌else◌, List, [], ◌∷◌, ◌++◌, flat_map, Contains, Option, Some, None}
use Rattle.std.specs.List.Sorted.{IsStrictlySortedBy}
use Rattle.std.specs.Option.{option_map_or}
use Rattle.plcs_base.specs.declared.place.PhraseAt.{PhraseAt}
use Rattle.plcs_base.specs.Mark.{phrase_cmp}
use Rattle.plcs_grammar.specs.declared.node_kind.Sort.{Sort}
use Rattle.plcs_grammar.specs.PlainPhrase.{PlainPhrase}
use Rattle.template_tree.specs.declared.change.Change.{Change}
use Rattle.template_tree.specs.declared.change.What.{What}
use Rattle.template_tree.specs.Checks.Environment.{Items, Sig, item_named, procedure_at}
use Rattle.template_tree.specs.Checks.Mention.{mentioned, mentions, phrase_at}
use Rattle.template_tree.specs.Positions.Place.{site}
use Rattle.template_tree.specs.Programs.Part.{part_at}
use Rattle.template_tree.specs.Programs.PlainTree.{Forest}
use Rattle.template_tree.specs.Programs.Program.{sort_of}

-- ---- what stands where an edit changed a program

-- the place of a phrase, if one stands there
abbrev pub filled_place : PhraseAt → Option PlainPhrase → List PhraseAt
filled_place at None = []
filled_place at (Some phrase) = at ∷ []

-- the places of the phrases in a node's parts, from the part of this number on
abbrev pub filled_places : (slot part : ℕ) → List (Option PlainPhrase) → List PhraseAt
filled_places slot part [] = []
filled_places slot part (place ∷ parts) =
    filled_place (phrase_at slot part) place ++ filled_places slot (part + 1) parts

-- the places of all phrases of nodes in order, and of those inside them
abbrev pub phrase_places : Forest → List PhraseAt
phrase_places Forest.nil = []
phrase_places (Forest.cons label inner rest) =
    filled_places label.slot 0 label.parts ++ (phrase_places inner ++ phrase_places rest)

-- of a program before an edit or after it, the places of the phrases that stand where it was changed: in the one
-- part, or in the node or the item in the slot
abbrev pub changed_places : What → (slot : ℕ) → Forest → List PhraseAt
changed_places (What.Part part) slot program =
    option_map_or (λ found. filled_place (phrase_at slot part) (part_at found.label.parts part)) (site program slot) []
changed_places What.Node slot program =
    option_map_or (λ found. phrase_places (Forest.cons found.label found.inner Forest.nil)) (site program slot) []
changed_places What.Added slot program =
    option_map_or (λ found. phrase_places (Forest.cons found.label found.inner Forest.nil)) (site program slot) []
changed_places What.Dropped slot program =
    option_map_or (λ found. phrase_places (Forest.cons found.label found.inner Forest.nil)) (site program slot) []

-- ---- declarations and headings that an edit changed

-- whether nodes of the sort bind names: declarations do, and main and procedures, which have declarations and headings
abbrev pub binds_names : Sort → Bool
binds_names Sort.Main = true
binds_names Sort.Procedure = true
binds_names Sort.Declaration = true
binds_names Sort.Statement = false

-- whether what stands in the slot, if it is live, binds names
abbrev pub binds_at : Forest → (slot : ℕ) → Bool
binds_at program slot = option_map_or (λ found. binds_names (sort_of found.label.kind)) (site program slot) false

-- whether an edit changed a declaration or a heading: what stands in its slot, before it or after it, binds names
abbrev pub changes_binding : (before after : Forest) → (slot : ℕ) → Bool
changes_binding before after slot = binds_at before slot || binds_at after slot

-- the names that stand in a part
abbrev pub part_names : Option PlainPhrase → List (List ℕ)
part_names None = []
part_names (Some phrase) = mentioned phrase

-- the names that stand in declarations and headings, of nodes in order and of those inside them
abbrev pub bound_names : Forest → List (List ℕ)
bound_names Forest.nil = []
bound_names (Forest.cons label inner rest) =
    (if binds_names (sort_of label.kind) then flat_map part_names label.parts ++ bound_names inner else [])
    ++ bound_names rest

-- of a program before an edit or after it, the names that stand in the declaration or heading that was changed: where
-- a part was set, those in all parts of its node, and else those in the node or the item in the slot
abbrev pub changed_names : What → (slot : ℕ) → Forest → List (List ℕ)
changed_names (What.Part part) slot program =
    option_map_or (λ found. bound_names (Forest.cons found.label Forest.nil Forest.nil)) (site program slot) []
changed_names What.Node slot program =
    option_map_or (λ found. bound_names (Forest.cons found.label found.inner Forest.nil)) (site program slot) []
changed_names What.Added slot program =
    option_map_or (λ found. bound_names (Forest.cons found.label found.inner Forest.nil)) (site program slot) []
changed_names What.Dropped slot program =
    option_map_or (λ found. bound_names (Forest.cons found.label found.inner Forest.nil)) (site program slot) []

-- why an edit affects a name
pub data IsAffected (before after : Forest) (change : Change) (name : List ℕ) : Type 0 where
  -- it stood in the declaration or heading that was changed
  stood : Contains (changed_names change.what change.slot.0 before) name → IsAffected before after change name
  -- it stands in the declaration or heading that was changed
  stands : Contains (changed_names change.what change.slot.0 after) name → IsAffected before after change name
  -- a procedure has another effective item of it than before, or only now, or no more
  declared : (slot : ℕ) → item_named name (Items before slot) ≢ item_named name (Items after slot)
      → IsAffected before after change name
  -- its effective heading is another one, or has other kinds of parameters
  headed : Sig before name ≢ Sig after name → IsAffected before after change name

-- ---- what is due

-- whether the phrase is a declared list or a list of parameters
abbrev pub is_name_list : PlainPhrase → Bool
is_name_list (PlainPhrase.assignment target value) = false
is_name_list (PlainPhrase.condition e) = false
is_name_list (PlainPhrase.expression e) = false
is_name_list (PlainPhrase.expression_list es) = false
is_name_list (PlainPhrase.variable_list targets) = false
is_name_list (PlainPhrase.variable_name name) = false
is_name_list (PlainPhrase.call name arguments) = false
is_name_list (PlainPhrase.declared_list items) = true
is_name_list (PlainPhrase.procedure_name name) = false
is_name_list (PlainPhrase.name_list names) = true
is_name_list (PlainPhrase.greatest_length n) = false
is_name_list (PlainPhrase.comment bytes) = false

-- the place of a phrase, if a declared list or a list of parameters stands there
abbrev pub list_place : PhraseAt → Option PlainPhrase → List PhraseAt
list_place at None = []
list_place at (Some phrase) = if is_name_list phrase then at ∷ [] else []

-- the places of the declared lists and the list of parameters in a node's parts, from the part of this number on
abbrev pub list_places : (slot part : ℕ) → List (Option PlainPhrase) → List PhraseAt
list_places slot part [] = []
list_places slot part (place ∷ parts) = list_place (phrase_at slot part) place ++ list_places slot (part + 1) parts

-- the places of the declared lists of nodes in order; what stands inside them has none
abbrev pub all_list_places : Forest → List PhraseAt
all_list_places Forest.nil = []
all_list_places (Forest.cons label inner rest) = list_places label.slot 0 label.parts ++ all_list_places rest

-- the places of the declared lists and of the list of parameters of the procedure in the slot: none where no procedure
-- has it
abbrev pub procedure_lists : (program : Forest) → (slot : ℕ) → List PhraseAt
procedure_lists program slot =
    option_map_or (λ node. list_places node.label.slot 0 node.label.parts ++ all_list_places node.inner)
    (procedure_at program slot) []

-- why a phrase of an edited program is due for a check
pub data IsDue (before after : Forest) (change : Change) (at : PhraseAt) : Type 0 where
  -- the edit put it in, if only again
  put_in : Contains (changed_places change.what change.slot.0 after) at → IsDue before after change at
  -- a declaration or heading was changed of the procedure whose declared list or list of parameters it is
  listed : changes_binding before after change.slot.0 ≡ true
      → Contains (procedure_lists after change.procedure.0) at → IsDue before after change at
  -- it mentions a name that the edit affects
  affected : (name : List ℕ) → IsAffected before after change name → Contains (mentions name after) at
      → IsDue before after change at

-- which phrases of an edited program are due for a check: those at these places, each once, in order of slot and part
pub record AreDue (before after : Forest) (change : Change) (due : List PhraseAt) : Type 0 where
  pub increasing : IsStrictlySortedBy phrase_cmp due
  pub each : (at : PhraseAt) → Contains due at ↔ IsDue before after change at

-- which phrases an edit of a program took away, if only to put them in again: those at these places, each once, in
-- order of slot and part
pub record AreGone (before : Forest) (change : Change) (gone : List PhraseAt) : Type 0 where
  pub increasing : IsStrictlySortedBy phrase_cmp gone
  pub each : (at : PhraseAt) → Contains gone at ↔ Contains (changed_places change.what change.slot.0 before) at
