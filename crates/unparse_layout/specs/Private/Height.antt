-- How many lines of the screen nodes of a layout have.
use Rattle.std.specs.Prelude.{ℕ, Bool, ◌+◌, if◌then◌else◌, List, Option, Some, None}
use Rattle.plcs_grammar.specs.Template.{row_of}
use Rattle.unparse_layout.specs.Bones.{Bone, PlainLayout}
use Rattle.unparse_layout.specs.Private.PlainNodeLayout.{PlainNodeLayout}

-- how many lines of the screen an entry of the table of templates takes: one where it is there
abbrev pub line_count : Option (List ℕ) → ℕ
line_count None = 0
line_count (Some bytes) = 1

-- how many lines of a node's height stand before it by the table of templates: one where it is led
abbrev pub one_if : Bool → ℕ
one_if led = if led then 1 else 0

-- how many lines a node of a layout has, the line before it among them, where what stands inside it has so many
abbrev pub height_around : Bone → ℕ → ℕ
height_around bone inside =
    one_if bone.led + (1 + ((if bone.elided then 1 else inside) + line_count (row_of bone.kind).last))

-- how many lines of the screen nodes of a layout have together
abbrev pub heights : PlainLayout → ℕ
heights PlainLayout.nil = 0
heights (PlainLayout.cons bone inner rest) = height_around bone (heights inner) + heights rest

-- how many lines of the screen a node of a layout has, by what stands inside it
abbrev pub height : PlainNodeLayout → ℕ
height node_layout = height_around node_layout.bone (heights node_layout.inner)
