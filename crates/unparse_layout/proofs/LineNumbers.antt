-- The lines of nodes and their number.
use Rattle.std.specs.Prelude.{◌≡◌, refl, codes, drop, ℕ, zero, suc, ◌+◌, ◌-◌, Bool, true, false, if◌then◌else◌, List, [], ◌∷◌, ◌++◌, length, map, flat_map, Option, Some, None, is_some}
use Rattle.std.proofs.Common.{ap, sym, ◌∙◌, arith, append_assoc, length-append, add-one}
use Rattle.std.proofs.lemmas.List.{map-append, append-nil}
use Rattle.std.proofs.lemmas.List.Concat.{flat_map-cons}
use Rattle.plcs_grammar.specs.declared.category.Category.{Category}
use Rattle.plcs_grammar.specs.PlainPhrase.{PlainPhrase}
use Rattle.plcs_grammar.specs.Template.{PlainSegment, PlainSection, row_of}
use Rattle.template_tree.specs.Programs.PlainTree.{Label, Forest, PlainNode}
use Rattle.template_tree.specs.Programs.Program.{sort_of}
use Rattle.template_tree.specs.Listings.Section.{left_for, left_after, next_lead}
use Rattle.template_tree.specs.Listings.Line.{Line, lines, fixed_line, elision_line, segment_text, segments_text, parts_after, part_text}
use Rattle.unparse_layout.specs.declared.line.LineKind.{LineKind}
use Rattle.template_tree.specs.Programs.Part.{part_at}
use Rattle.unparse_layout.specs.OwnedLine.{OwnedLine, Stretch, bare_line, first_line, owned_lines, partless_line, stretches_of, table_line}
use Rattle.unparse_layout.specs.Bones.{bones_of}
use Rattle.unparse_layout.specs.Private.PlainNodeLayout.{node_layout_of}
use Rattle.unparse_layout.specs.Private.Height.{line_count, one_if, height, heights}
use Rattle.unparse_layout.specs.Private.ItemLines.{item_lines}

-- the lines of the first node, the line before it among them, and those of the others
pub lines_split : (owner level : ℕ) (left : List PlainSection) (label : Label) (inner rest : Forest)
    → owned_lines owner level left (Forest.cons label inner rest)
    ≡ item_lines owner level (next_lead (left_for (sort_of label.kind) left)) record { label = label; inner = inner }
    ++ owned_lines owner level (left_after (left_for (sort_of label.kind) left)) rest
lines_split owner level left label inner rest =
    let here = left_for (sort_of label.kind) left in
    let lead = table_line owner LineKind.Lead (level - 1) (next_lead here) in
    let middle =
    if label.elided
    then partless_line label.slot LineKind.Elision (level + 1) (codes "...") ∷ []
    else owned_lines label.slot (level + 1) (row_of label.kind).sections inner in
    let last = table_line label.slot LineKind.Last level (row_of label.kind).last in
    let more = owned_lines owner level (left_after here) rest in
    ap (λ z. lead ++ (first_line level label ∷ z)) (sym (append_assoc middle last more))
    ∙ sym (append_assoc lead (first_line level label ∷ (middle ++ last)) more)

-- how many lines a line of the table is
pub table_length : (slot : ℕ) (kind : LineKind) (level : ℕ) (line : Option (List ℕ)) → length (table_line slot kind level line) ≡ line_count line
table_length slot kind level None = refl
table_length slot kind level (Some bytes) = refl

pub one_if_some : (line : Option (List ℕ)) → one_if (is_some line) ≡ line_count line
one_if_some None = refl
one_if_some (Some bytes) = refl

-- how many lines stand below the first line of a node
pub inside_length : (elided : Bool) (slot level inside : ℕ) (inner : List OwnedLine) → length inner ≡ inside
    → length (if elided then partless_line slot LineKind.Elision (level + 1) (codes "...") ∷ [] else inner) ≡ (if elided then 1 else inside)
inside_length true slot level inside inner e = refl
inside_length false slot level inside inner e = e

-- how many lines a node has, where what stands inside it has as many as its layout says
pub item_length : (owner level : ℕ) (lead : Option (List ℕ)) (node : PlainNode)
    → length (owned_lines node.label.slot (level + 1) (row_of node.label.kind).sections node.inner)
    ≡ heights (bones_of (row_of node.label.kind).sections node.inner)
    → length (item_lines owner level lead node) ≡ height (node_layout_of (is_some lead) node)
item_length owner level lead node inside =
    let own = owned_lines node.label.slot (level + 1) (row_of node.label.kind).sections node.inner in
    let middle =
    if node.label.elided then partless_line node.label.slot LineKind.Elision (level + 1) (codes "...") ∷ [] else own in
    let last = table_line node.label.slot LineKind.Last level (row_of node.label.kind).last in
    let a = length-append (table_line owner LineKind.Lead (level - 1) lead) (first_line level node.label ∷ (middle ++ last)) in
    let b = length-append middle last in
    let d = table_length owner LineKind.Lead (level - 1) lead in
    let e = table_length node.label.slot LineKind.Last level (row_of node.label.kind).last in
    let f =
    inside_length node.label.elided node.label.slot level (heights (bones_of (row_of node.label.kind).sections node.inner)) own inside in
    let g = one_if_some lead in
    omega (arith, a, b, d, e, f, g)

-- how many lines nodes have
pub lines_length : (owner level : ℕ) (left : List PlainSection) (items : Forest)
    → length (owned_lines owner level left items) ≡ heights (bones_of left items)
lines_length owner level left Forest.nil = refl
lines_length owner level left (Forest.cons label inner rest) =
    let here = left_for (sort_of label.kind) left in
    let node : PlainNode = record { label = label; inner = inner } in
    let split = ap length (lines_split owner level left label inner rest) in
    let parts = length-append (item_lines owner level (next_lead here) node) (owned_lines owner level (left_after here) rest) in
    let own = item_length owner level (next_lead here) node (lines_length label.slot (level + 1) (row_of label.kind).sections inner) in
    let more = lines_length owner level (left_after here) rest in
    omega (arith, split, parts, own, more)

-- what is written in one stretch
pub one_stretch : (stretch : Stretch) → flat_map (λ (s : Stretch). s.bytes) (stretch ∷ []) ≡ stretch.bytes
one_stretch stretch = flat_map-cons (λ (s : Stretch). s.bytes) stretch [] ∙ append-nil stretch.bytes

-- a line without its node is the line
pub bare_table : (slot : ℕ) (kind : LineKind) (level : ℕ) (line : Option (List ℕ)) → map bare_line (table_line slot kind level line) ≡ fixed_line level line
bare_table slot kind level None = refl
bare_table slot kind level (Some bytes) =
    ap (λ text. let l : Line = record { level = level; text = text } in l ∷ []) (one_stretch record { part = None; filled = false; bytes = bytes })

pub bare_elision : (slot level : ℕ) → map bare_line (partless_line slot LineKind.Elision level (codes "...") ∷ []) ≡ elision_line level ∷ []
bare_elision slot level =
    ap (λ text. let l : Line = record { level = level; text = text } in l ∷ []) (one_stretch record { part = None; filled = false; bytes = codes "..." })

-- the part of this number is the first of those from it on
pub first_part : (category : Category) (parts : List (Option PlainPhrase)) (n : ℕ)
    → segment_text (PlainSegment.part category) (drop n parts) ≡ part_text category (part_at parts n)
first_part category [] zero = refl
first_part category [] (suc n) = refl
first_part category (part ∷ parts) zero = refl
first_part category (part ∷ parts) (suc n) = first_part category parts n

pub other_parts : (category : Category) (parts : List (Option PlainPhrase)) (n : ℕ)
    → parts_after (PlainSegment.part category) (drop n parts) ≡ drop (suc n) parts
other_parts category [] zero = refl
other_parts category [] (suc n) = refl
other_parts category (part ∷ parts) zero = refl
other_parts category (part ∷ parts) (suc n) = other_parts category parts n

-- what is written in a node's first line
pub stretch_text : (n : ℕ) (segments : List PlainSegment) (parts : List (Option PlainPhrase))
    → flat_map (λ (s : Stretch). s.bytes) (stretches_of n segments parts) ≡ segments_text segments (drop n parts)
stretch_text n [] parts = refl
stretch_text n (PlainSegment.words bytes ∷ segments) parts =
    flat_map-cons (λ (s : Stretch). s.bytes) record { part = None; filled = false; bytes = bytes } (stretches_of n segments parts)
    ∙ ap (λ z. bytes ++ z) (stretch_text n segments parts)
stretch_text n (PlainSegment.part category ∷ segments) parts =
    flat_map-cons (λ (s : Stretch). s.bytes) record { part = Some n; filled = is_some (part_at parts n); bytes = part_text category (part_at parts n) } (stretches_of (n + 1) segments parts)
    ∙ ap (λ z. part_text category (part_at parts n) ++ z)
    (stretch_text (n + 1) segments parts ∙ ap (λ k. segments_text segments (drop k parts)) (add-one n))
    ∙ ap (λ z. z ++ segments_text segments (drop (suc n) parts)) (sym (first_part category parts n))
    ∙ ap (λ z. segment_text (PlainSegment.part category) (drop n parts) ++ segments_text segments z) (sym (other_parts category parts n))

-- the lines below a node's first one
pub bare_middle : (elided : Bool) (slot level : ℕ) (own : List OwnedLine) (plain : List Line) → map bare_line own ≡ plain
    → map bare_line (if elided then partless_line slot LineKind.Elision (level + 1) (codes "...") ∷ [] else own)
    ≡ (if elided then elision_line (level + 1) ∷ [] else plain)
bare_middle true slot level own plain e = bare_elision slot (level + 1)
bare_middle false slot level own plain e = e

-- five stretches of lines, each without its nodes
pub joined : (lead : List OwnedLine) (first : OwnedLine) (middle last more : List OwnedLine)
    (lead' : List Line) (first' : Line) (middle' last' more' : List Line)
    → map bare_line lead ≡ lead' → bare_line first ≡ first' → map bare_line middle ≡ middle' → map bare_line last ≡ last'
    → map bare_line more ≡ more'
    → map bare_line (lead ++ (first ∷ (middle ++ (last ++ more)))) ≡ lead' ++ (first' ∷ (middle' ++ (last' ++ more')))
joined lead first middle last more lead' first' middle' last' more' a b d e f =
    map-append bare_line lead (first ∷ (middle ++ (last ++ more)))
    ∙ ap (λ z. map bare_line lead ++ (bare_line first ∷ z))
    (map-append bare_line middle (last ++ more) ∙ ap (λ z. map bare_line middle ++ z) (map-append bare_line last more))
    ∙ (λ i. a i ++ (b i ∷ (d i ++ (e i ++ f i))))

-- nodes' lines without the nodes are their lines
pub bare_lines : (owner level : ℕ) (left : List PlainSection) (items : Forest)
    → map bare_line (owned_lines owner level left items) ≡ lines true level left items
bare_lines owner level left Forest.nil = refl
bare_lines owner level left (Forest.cons label inner rest) =
    let here = left_for (sort_of label.kind) left in
    let lead = table_line owner LineKind.Lead (level - 1) (next_lead here) in
    let own = owned_lines label.slot (level + 1) (row_of label.kind).sections inner in
    let middle = if label.elided then partless_line label.slot LineKind.Elision (level + 1) (codes "...") ∷ [] else own in
    let last = table_line label.slot LineKind.Last level (row_of label.kind).last in
    let more = owned_lines owner level (left_after here) rest in
    joined lead (first_line level label) middle last more _ _ _ _ _
    (bare_table owner LineKind.Lead (level - 1) (next_lead here))
    (ap (λ text. let l : Line = record { level = level; text = text } in l) (stretch_text 0 (row_of label.kind).line label.parts))
    (bare_middle label.elided label.slot level own (lines true (level + 1) (row_of label.kind).sections inner) (bare_lines label.slot (level + 1) (row_of label.kind).sections inner))
    (bare_table label.slot LineKind.Last level (row_of label.kind).last)
    (bare_lines owner level (left_after here) rest)
