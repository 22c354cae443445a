-- What is put for each line, node after node.
use Rattle.std.specs.Prelude.{◌≡◌, refl, ℕ, ◌+◌, ◌-◌, ◌≤◌, false, List, [], ◌∷◌, ◌++◌, length, map, Option}
use Rattle.std.proofs.Common.{ap, sym, ◌∙◌, arith, append_assoc}
use Rattle.plcs_base.specs.Put.{PutsAll}
use Rattle.plcs_base.specs.Putting.{puts_append, puts_same}
use Rattle.plcs_grammar.specs.declared.row.Segment.{Segment}
use Rattle.plcs_grammar.specs.PlainPhrase.{PlainPhrase}
use Rattle.plcs_grammar.specs.Template.{PlainSection, row_of, plain_segment}
use Rattle.template_tree.specs.Programs.PlainTree.{Forest, PlainNode, forest}
use Rattle.template_tree.specs.Programs.Program.{sort_of}
use Rattle.template_tree.specs.Programs.Slots.{depth}
use Rattle.template_tree.specs.Listings.Section.{left_for, left_after, next_lead}
use Rattle.template_tree.specs.Listings.Line.{Line, line_bytes, fixed_line, head_line, lines, parts_after, segment_text, segments_text}
use Rattle.template_tree.specs.Listings.Listing.{bytes_of_lines}
use Rattle.template_tree.specs.Private.NodeLines.{node_lines, LacksRest}
use Rattle.template_tree.specs.Private.Weight.{forest_weight, weight}

-- the first node is no heavier than its list, and the others are no heavier either
pub first_light : (nodes more : List PlainNode) (node : PlainNode) → nodes ≡ node ∷ more
    → (weight node ≤ forest_weight (forest nodes)) × (forest_weight (forest more) ≤ forest_weight (forest nodes))
first_light nodes more node is =
    let whole = ap (λ n. forest_weight (forest n)) is in (omega (arith, whole), omega (arith, whole))

-- what stands inside it is less deep, and the others are no deeper
pub first_shallow : (nodes more : List PlainNode) (node : PlainNode) → nodes ≡ node ∷ more
    → (depth node.inner + 1 ≤ depth (forest nodes)) × (depth (forest more) ≤ depth (forest nodes))
first_shallow nodes more node is =
    let whole = ap (λ n. depth (forest n)) is in (omega (arith, whole), omega (arith, whole))

-- some lines and then some more
pub bytes_append : (xs ys : List Line) → bytes_of_lines (xs ++ ys) ≡ bytes_of_lines xs ++ bytes_of_lines ys
bytes_append [] ys = refl
bytes_append (x ∷ xs) ys =
    ap (λ z. line_bytes x ++ (10 ∷ z)) (bytes_append xs ys) ∙ sym (append_assoc (line_bytes x) (10 ∷ bytes_of_lines xs) (bytes_of_lines ys))

-- the line before the first node, the node, and the others
pub first_lines : (level : ℕ) (left : List PlainSection) (node : PlainNode) (rest : Forest)
    → bytes_of_lines (lines false level left (Forest.cons node.label node.inner rest))
    ≡ bytes_of_lines (fixed_line (level - 1) (next_lead (left_for (sort_of node.label.kind) left)))
    ++ (bytes_of_lines (node_lines level node)
    ++ bytes_of_lines (lines false level (left_after (left_for (sort_of node.label.kind) left)) rest))
first_lines level left node rest =
    let here = left_for (sort_of node.label.kind) left in
    let inner = lines false (level + 1) (row_of node.label.kind).sections node.inner in
    let last = fixed_line level (row_of node.label.kind).last in
    let more = lines false level (left_after here) rest in
    let lead = fixed_line (level - 1) (next_lead here) in
    ap (λ z. bytes_of_lines (lead ++ (head_line level node.label ∷ z))) (sym (append_assoc inner last more))
    ∙ bytes_append lead (node_lines level node ++ more)
    ∙ ap (λ z. bytes_of_lines lead ++ z) (bytes_append (node_lines level node) more)

-- one node more was put, with the line before it
pub put_next : {Out : Type 0} {puts : Out → ℕ → Out → Type 0} {before now led done : Out} (whole : List ℕ)
    (level : ℕ) (left here later : List PlainSection) (lead : Option (List ℕ)) (nodes more : List PlainNode) (node : PlainNode)
    → nodes ≡ node ∷ more
    → here ≡ left_for (sort_of node.label.kind) left → lead ≡ next_lead here → later ≡ left_after here
    → LacksRest puts before whole now (bytes_of_lines (lines false level left (forest nodes)))
    → PutsAll puts now (bytes_of_lines (fixed_line (level - 1) lead)) led → PutsAll puts led (bytes_of_lines (node_lines level node)) done
    → LacksRest puts before whole done (bytes_of_lines (lines false level later (forest more)))
put_next whole level left here later lead nodes more node first here_is lead_is later_is lacks one two after rest =
    lacks after
    (puts_same
    (sym (ap (λ n. bytes_of_lines (lines false level left (forest n))) first ∙ first_lines level left node (forest more)))
    (puts_append (puts_same (ap (λ z. bytes_of_lines (fixed_line (level - 1) z)) (lead_is ∙ ap next_lead here_is)) one)
    (puts_append two
    (puts_same (ap (λ z. bytes_of_lines (lines false level z (forest more))) (later_is ∙ ap left_after here_is)) rest))))

-- a list without length has nothing in it
pub nothing_left : {X : Type 0} (items : List X) → length items ≡ 0 → items ≡ []
nothing_left [] none = refl
nothing_left (x ∷ xs) none = absurd (omega (arith, none))

-- one segment more was put
pub put_next_segment : {Out : Type 0} {puts : Out → ℕ → Out → Type 0} {before now done : Out} (whole : List ℕ)
    (segments more : List Segment) (segment : Segment) (parts later : List (Option PlainPhrase))
    → segments ≡ segment ∷ more → later ≡ parts_after (plain_segment segment) parts
    → LacksRest puts before whole now (segments_text (map plain_segment segments) parts)
    → PutsAll puts now (segment_text (plain_segment segment) parts) done
    → LacksRest puts before whole done (segments_text (map plain_segment more) later)
put_next_segment whole segments more segment parts later first later_is lacks one after rest =
    lacks after
    (puts_same (sym (ap (λ n. segments_text (map plain_segment n) parts) first))
    (puts_append one (puts_same (ap (segments_text (map plain_segment more)) later_is) rest)))
