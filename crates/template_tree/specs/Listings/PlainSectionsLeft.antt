-- The plain form of the sections that are left.
use Rattle.std.specs.Prelude.{Bool, true, false, List, [], ◌∷◌, map, None}
use Rattle.plcs_grammar.specs.Template.{PlainSection, plain_section}
use Rattle.template_tree.specs.declared.sections_left.SectionsLeft.{SectionsLeft}

-- the sections that are left, the first without the line before it where it has items already
abbrev pub begun_if : Bool → List PlainSection → List PlainSection
begun_if false sections = sections
begun_if true [] = []
begun_if true (section ∷ sections) = record section { lead = None } ∷ sections

-- the plain form of the sections that are left: as they are written in a row
abbrev pub plain_sections_left : SectionsLeft → List PlainSection
plain_sections_left left = begun_if left.begun (map plain_section left.sections.now)
