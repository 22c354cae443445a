-- The lines of one node, and what is still to be put.
use Rattle.std.specs.Prelude.{ℕ, ◌+◌, false, List, ◌∷◌, ◌++◌}
use Rattle.plcs_base.specs.Put.{PutsAll}
use Rattle.plcs_grammar.specs.Template.{row_of}
use Rattle.template_tree.specs.Listings.Line.{Line, fixed_line, head_line, lines}
use Rattle.template_tree.specs.Programs.PlainTree.{PlainNode}

-- the lines of one node in the listing, without the line before it
abbrev pub node_lines : ℕ → PlainNode → List Line
node_lines level node =
    head_line level node.label
    ∷ (lines false (level + 1) (row_of node.label.kind).sections node.inner
    ++ fixed_line level (row_of node.label.kind).last)

-- where the rest of a node's lines is put now, the whole was put from the beginning on
abbrev pub LacksRest : {Out : Type 0} (puts : Out → ℕ → Out → Type 0) (before : Out) (whole : List ℕ) (now : Out)
    (rest : List ℕ) → Type 0
LacksRest {Out = Out} puts before whole now rest =
    (after : Out) → PutsAll puts now rest after → PutsAll puts before whole after
