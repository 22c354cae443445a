-- How many phrases are due for a check once a program was edited: of each of its phrases, by its place and by what it
-- mentions, is told whether it is.
use Rattle.std.specs.Prelude.{ℕ, ◌+◌, ◌==◌, Bool, not, ◌&&◌, ◌||◌, if◌then◌else◌, bytes_eq, List, [], ◌∷◌, ◌++◌, map, Option, Some, None}
use Rattle.std.specs.List.{list_any}
use Rattle.std.specs.Option.{option_eq, option_map_or}
use Rattle.std.specs.Ordering.{eq_by_cmp}
use Rattle.plcs_base.specs.Mark.{phrase_cmp}
use Rattle.plcs_base.specs.declared.declared.Declared.{Declared}
use Rattle.plcs_base.specs.declared.declared.ItemType.{ItemType}
use Rattle.plcs_base.specs.declared.place.PhraseAt.{PhraseAt}
use Rattle.plcs_base.specs.declared.value.Kind.{Kind}
use Rattle.plcs_grammar.specs.PlainPhrase.{PlainPhrase}
use Rattle.template_tree.specs.declared.change.What.{What}
use Rattle.template_tree.specs.Checks.Environment.{Items, Sig, Signature, item_named}
use Rattle.template_tree.specs.Checks.Mention.{mentioned, phrase_at}
use Rattle.template_tree.specs.Edits.Edit.{changed_in, procedure_of}
use Rattle.template_tree.specs.Programs.PlainTree.{Forest, nodes}
use Rattle.decl_table.specs.Due.{changed_names, changed_places, changes_binding, procedure_lists}

-- ---- items and headings that are the same

-- the number of a type of items: those of texts are numbered by their length
abbrev pub type_number : ItemType → ℕ
type_number ItemType.Fixed = 0
type_number ItemType.Bit = 1
type_number (ItemType.Text n) = 2 + n

-- whether items have the same name, type and size
abbrev pub is_same_item : (one other : Declared) → Bool
is_same_item one other =
    bytes_eq one.name other.name && (type_number one.ty == type_number other.ty && one.size == other.size)

-- the number of the kind of a parameter, 0 where it has none
abbrev pub kind_number : Option Kind → ℕ
kind_number None = 0
kind_number (Some Kind.Fixed) = 1
kind_number (Some Kind.Bit) = 2
kind_number (Some Kind.Text) = 3

-- whether headings stand in the same slot, with as many parameters of the same kinds
abbrev pub is_same_signature : (one other : Signature) → Bool
is_same_signature one other =
    one.slot == other.slot && bytes_eq (map kind_number one.parameters) (map kind_number other.parameters)

-- ---- names that an edit affects

-- whether the procedure in the slot has another effective item of the name after an edit than before it, or only now,
-- or no more
abbrev pub is_item_other : (before after : Forest) → (name : List ℕ) → (slot : ℕ) → Bool
is_item_other before after name slot =
    not (option_eq is_same_item (item_named name (Items before slot)) (item_named name (Items after slot)))

-- whether one of the procedures before an edit or after it has
abbrev pub is_declared_otherwise : (before after : Forest) → (name : List ℕ) → Bool
is_declared_otherwise before after name =
    list_any (λ procedure. is_item_other before after name procedure.label.slot) (nodes before ++ nodes after)

-- whether the effective heading of the name is another one after an edit, or has other kinds of parameters
abbrev pub is_headed_otherwise : (before after : Forest) → (name : List ℕ) → Bool
is_headed_otherwise before after name = not (option_eq is_same_signature (Sig before name) (Sig after name))

-- whether an edit that did this in the slot affects the name: it stood or stands in the declaration or heading that was
-- changed, or is declared or headed otherwise
abbrev pub is_affected : What → (slot : ℕ) → (before after : Forest) → (name : List ℕ) → Bool
is_affected what slot before after name =
    list_any (bytes_eq name) (changed_names what slot before)
    || (list_any (bytes_eq name) (changed_names what slot after)
    || (is_declared_otherwise before after name || is_headed_otherwise before after name))

-- ---- phrases that are due

-- whether the place is one of these
abbrev pub is_one_of : PhraseAt → List PhraseAt → Bool
is_one_of at places = list_any (eq_by_cmp phrase_cmp at) places

-- the places of the declared lists and of the list of parameters of the procedure of which an edit that did this in the
-- slot changed a declaration or the heading: none where it changed none
abbrev pub changed_lists : What → (slot : ℕ) → (before after : Forest) → List PhraseAt
changed_lists what slot before after =
    if changes_binding before after slot
    then option_map_or (procedure_lists after) (procedure_of (changed_in what before after) slot) []
    else []

-- whether the phrase at the place is due for a check after an edit that did this in the slot: it was put in, it is such
-- a list, or it mentions a name that the edit affects
abbrev pub is_phrase_due : What → (slot : ℕ) → (before after : Forest) → PhraseAt → PlainPhrase → Bool
is_phrase_due what slot before after at phrase =
    is_one_of at (changed_places what slot after)
    || (is_one_of at (changed_lists what slot before after)
    || list_any (is_affected what slot before after) (mentioned phrase))

-- ---- how many they are

-- how many of the phrases in a node's parts, from the part of this number on, are due by a test
abbrev pub due_parts : (is_due : PhraseAt → PlainPhrase → Bool) → (slot part : ℕ) → List (Option PlainPhrase) → ℕ
due_parts is_due slot part [] = 0
due_parts is_due slot part (None ∷ parts) = due_parts is_due slot (part + 1) parts
due_parts is_due slot part (Some phrase ∷ parts) =
    (if is_due (phrase_at slot part) phrase then 1 else 0) + due_parts is_due slot (part + 1) parts

-- how many of the phrases of nodes in order, and of those inside them, are due by a test
abbrev pub due_phrases : (is_due : PhraseAt → PlainPhrase → Bool) → Forest → ℕ
due_phrases is_due Forest.nil = 0
due_phrases is_due (Forest.cons label inner rest) =
    due_parts is_due label.slot 0 label.parts + (due_phrases is_due inner + due_phrases is_due rest)

-- how many phrases of a program are due for a check after an edit that did this in the slot
abbrev pub due_count : What → (slot : ℕ) → (before after : Forest) → ℕ
due_count what slot before after = due_phrases (is_phrase_due what slot before after) after
