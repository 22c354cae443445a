-- Parts of nodes, and what they take.
use Rattle.std.specs.Prelude.{◌≡◌, ℕ, List, IsTrue, Option, Some, None, slice_get, slice_set}
use Rattle.std.specs.Option.{option_flatten}
use Rattle.plcs_grammar.specs.declared.category.Category.{Category}
use Rattle.plcs_grammar.specs.declared.node_kind.NodeKind.{NodeKind}
use Rattle.plcs_grammar.specs.PlainPhrase.{PlainPhrase, category_of}
use Rattle.plcs_grammar.specs.Template.{row_of}
use Rattle.template_tree.specs.Programs.PlainTree.{PlainNode}
use Rattle.template_tree.specs.Programs.Program.{parts_of, may_be_empty, IsPartPhrase}

-- the phrase that stands in the part of this number among the parts of a node, if one does
abbrev pub part_at : List (Option PlainPhrase) → ℕ → Option PlainPhrase
part_at parts part = option_flatten (slice_get parts part)

-- the category of a part of a node of the kind, if it has this part
abbrev pub part_category : NodeKind → ℕ → Option Category
part_category kind part = slice_get (parts_of (row_of kind).line) part

-- a part of the category, if there is one, takes this: a phrase of the category, or nothing where it may be empty
abbrev pub Takes : Option Category → Option PlainPhrase → Type 0
Takes None place = ⊥
Takes (Some category) None = IsTrue (may_be_empty category)
Takes (Some category) (Some phrase) = category_of phrase ≡ category

-- what is to be put into a part, if it is a phrase, may stand in some part
abbrev pub IsPhrasePlace : Option PlainPhrase → Type 0
IsPhrasePlace None = Unit {0}
IsPhrasePlace (Some phrase) = IsPartPhrase (category_of phrase) phrase

-- a node with this, a phrase or nothing, in its part of this number
abbrev pub with_part : ℕ → Option PlainPhrase → PlainNode → PlainNode
with_part part place node = record node { label = record node.label { parts = slice_set node.label.parts part place } }
