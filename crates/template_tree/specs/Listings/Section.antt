-- Which section of a node's row each of its items stands in.
use Rattle.std.specs.Prelude.{ℕ, Bool, true, false, if◌then◌else◌, List, [], ◌∷◌, Option, None}
use Rattle.plcs_grammar.specs.declared.node_kind.Sort.{Sort}
use Rattle.plcs_grammar.specs.declared.row.Amount.{Amount}
use Rattle.plcs_grammar.specs.Template.{PlainSection}

-- whether the sort of a section and that of an item are the same
abbrev pub same_sort : Sort → Sort → Bool
same_sort Sort.Main Sort.Main = true
same_sort Sort.Main Sort.Procedure = false
same_sort Sort.Main Sort.Declaration = false
same_sort Sort.Main Sort.Statement = false
same_sort Sort.Procedure Sort.Main = false
same_sort Sort.Procedure Sort.Procedure = true
same_sort Sort.Procedure Sort.Declaration = false
same_sort Sort.Procedure Sort.Statement = false
same_sort Sort.Declaration Sort.Main = false
same_sort Sort.Declaration Sort.Procedure = false
same_sort Sort.Declaration Sort.Declaration = true
same_sort Sort.Declaration Sort.Statement = false
same_sort Sort.Statement Sort.Main = false
same_sort Sort.Statement Sort.Procedure = false
same_sort Sort.Statement Sort.Declaration = false
same_sort Sort.Statement Sort.Statement = true

-- the sections that are left for an item of the sort and those after it: a list ends where another sort comes
abbrev pub left_for : Sort → List PlainSection → List PlainSection
left_for sort [] = []
left_for sort (section ∷ sections) = if same_sort section.sort sort then section ∷ sections else left_for sort sections

-- the sections that are left after an item of the one section: the others, where it holds one item; a list goes on, and
-- the line before it is written already
abbrev pub left_in : Amount → PlainSection → List PlainSection → List PlainSection
left_in Amount.One section sections = sections
left_in Amount.Many section sections = record section { lead = None } ∷ sections

-- the sections that are left after an item of the first one among them
abbrev pub left_after : List PlainSection → List PlainSection
left_after [] = []
left_after (section ∷ sections) = left_in section.amount section sections

-- the line that the section of the next item has before it, if it has one that isn't written yet
abbrev pub next_lead : List PlainSection → Option (List ℕ)
next_lead [] = None
next_lead (section ∷ sections) = section.lead
