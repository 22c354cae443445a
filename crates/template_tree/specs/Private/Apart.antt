-- Sections whose lists are told apart by the sorts of their items.
use Rattle.std.specs.Prelude.{◌≡◌, Bool, true, false, ◌||◌, is_some, List, [], ◌∷◌}
use Rattle.plcs_grammar.specs.declared.node_kind.Sort.{Sort}
use Rattle.plcs_grammar.specs.declared.row.Amount.{Amount}
use Rattle.plcs_grammar.specs.Template.{PlainSection}
use Rattle.template_tree.specs.Listings.Section.{same_sort}
use Rattle.template_tree.specs.Edits.Hole.{hole_of}

-- whether one of the sections behind a list holds items of the sort
abbrev pub sections_have_sort : Sort → List PlainSection → Bool
sections_have_sort sort [] = false
sections_have_sort sort (section ∷ sections) = same_sort section.sort sort || sections_have_sort sort sections

-- a section that is a list is told apart: it has holes, and no section behind it holds items of its sort
abbrev pub IsApart : Amount → Sort → List PlainSection → Type 0
IsApart Amount.One sort sections = Unit {0}
IsApart Amount.Many sort sections = (is_some (hole_of sort) ≡ true) × (sections_have_sort sort sections ≡ false)

-- each list among the sections is told apart from those behind it
abbrev pub AreApart : List PlainSection → Type 0
AreApart [] = Unit {0}
AreApart (section ∷ sections) = IsApart section.amount section.sort sections × AreApart sections
