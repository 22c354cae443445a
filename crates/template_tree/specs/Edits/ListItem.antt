-- Lists of items: which items stand in one, and the sections and the nodes among which a node stands.
use Rattle.std.specs.Prelude.{ℕ, ◌+◌, Bool, true, false, if◌then◌else◌, List, [], ◌∷◌, slice_get}
use Rattle.std.specs.Option.{option_map_or}
use Rattle.plcs_grammar.specs.declared.node_kind.Sort.{Sort}
use Rattle.plcs_grammar.specs.declared.row.Amount.{Amount}
use Rattle.plcs_grammar.specs.Template.{PlainSection, row_of}
use Rattle.template_tree.specs.Programs.PlainTree.{Forest, nodes}
use Rattle.template_tree.specs.Listings.Section.{same_sort}

-- whether the items of a section of this amount stand in a list of items, and not one alone
abbrev pub is_list : Amount → Bool
is_list Amount.One = false
is_list Amount.Many = true

-- whether items of the sort stand in a list, and not alone, where these are the sections of a row
abbrev pub is_listed : Sort → List PlainSection → Bool
is_listed sort [] = false
is_listed sort (section ∷ sections) =
    if same_sort section.sort sort then is_list section.amount else is_listed sort sections

-- the sections among whose items the node at a path stands, or would stand; the first are those of the outermost nodes
abbrev pub sections_at : List PlainSection → Forest → List ℕ → List PlainSection
sections_at sections items [] = []
sections_at sections items (k ∷ []) = sections
sections_at sections items (k ∷ (j ∷ path)) =
    option_map_or (λ node. sections_at (row_of node.label.kind).sections node.inner (j ∷ path))
    (slice_get (nodes items) k) []

-- the nodes among which the node at a path stands, or would stand
abbrev pub siblings_at : Forest → List ℕ → Forest
siblings_at items [] = Forest.nil
siblings_at items (k ∷ []) = items
siblings_at items (k ∷ (j ∷ path)) =
    option_map_or (λ node. siblings_at node.inner (j ∷ path)) (slice_get (nodes items) k) Forest.nil

-- how many items stand in the list of the sort, where these are the sorts of the nodes among which a node stands
abbrev pub how_many : Sort → List Sort → ℕ
how_many sort [] = 0
how_many sort (one ∷ others) = (if same_sort sort one then 1 else 0) + how_many sort others
