-- The lines of visible nodes rise.
use Rattle.std.specs.Prelude.{◌≡◌, refl, ℕ, ◌+◌, ◌-◌, ◌≤◌, Bool, true, false, ◌&&◌, if◌then◌else◌, List, [], ◌∷◌, ◌++◌, length, map, Option, Some, None}
use Rattle.std.proofs.Common.{arith}
use Rattle.std.proofs.lemmas.List.{length-append}
use Rattle.plcs_grammar.specs.Template.{PlainSection, row_of}
use Rattle.template_tree.specs.Programs.PlainTree.{Label, Forest}
use Rattle.template_tree.specs.Programs.Program.{sort_of}
use Rattle.template_tree.specs.Listings.Section.{left_for, left_after, next_lead}
use Rattle.template_tree.specs.Listings.Line.{Line, elision_line, fixed_line, head_line, lines}
use Rattle.template_tree.specs.Positions.Stop.{VisibleNode, inside, part_stops, visible_nodes}

-- the lines rise from the one number on, up to the other
abbrev pub Rises : ℕ → ℕ → List VisibleNode → Type 0
Rises low high [] = low ≤ high
Rises low high (node ∷ nodes) = (low ≤ node.line) × Rises (node.line + 1) high nodes

-- they end where they begin at least
pub rises_on : (low high : ℕ) (nodes : List VisibleNode) → Rises low high nodes → low ≤ high
rises_on low high [] h = h
rises_on low high (node ∷ nodes) h = omega (arith, h.0, rises_on (node.line + 1) high nodes h.1)

-- they may begin lower and end higher
pub rises_wider : (low high lower higher : ℕ) (nodes : List VisibleNode) → lower ≤ low → high ≤ higher → Rises low high nodes → Rises lower higher nodes
rises_wider low high lower higher [] l g h = omega (arith, l, g, h)
rises_wider low high lower higher (node ∷ nodes) l g h =
    (omega (arith, l, h.0), rises_wider (node.line + 1) high (node.line + 1) higher nodes (omega arith) g h.1)

-- the one list and then the other
pub rises_append : (low mid high : ℕ) (xs ys : List VisibleNode) → Rises low mid xs → Rises mid high ys → Rises low high (xs ++ ys)
rises_append low mid high [] ys h g = rises_wider mid high low high ys h (omega arith) g
rises_append low mid high (x ∷ xs) ys h g = (h.0, rises_append (x.line + 1) mid high xs ys h.1 g)

-- the paths are no matter
pub rises_inside : (k low high : ℕ) (nodes : List VisibleNode) → Rises low high nodes → Rises low high (map (inside k) nodes)
rises_inside k low high [] h = h
rises_inside k low high (node ∷ nodes) h = (h.0, rises_inside k (node.line + 1) high nodes h.1)

-- those before a node stand on lines before its line
pub rises_before : (low high : ℕ) (before : List VisibleNode) (here : VisibleNode) (behind : List VisibleNode)
    → Rises low high (before ++ here ∷ behind) → Rises low here.line before
rises_before low high [] here behind h = h.0
rises_before low high (node ∷ before) here behind h = (h.0, rises_before (node.line + 1) high before here behind h.1)

-- those behind it on lines behind its line
pub rises_behind : (low high : ℕ) (before : List VisibleNode) (here : VisibleNode) (behind : List VisibleNode)
    → Rises low high (before ++ here ∷ behind) → Rises (here.line + 1) high behind
rises_behind low high [] here behind h = h.1
rises_behind low high (node ∷ before) here behind h = rises_behind (node.line + 1) high before here behind h.1

-- a line that is there or not is one at each level
fixed_length : (level other : ℕ) (text : Option (List ℕ)) → length (fixed_line level text) ≡ length (fixed_line other text)
fixed_length level other None = refl
fixed_length level other (Some text) = refl

-- how many lines a forest has, by those of its first node and the others
lines_length : (elides : Bool) (level : ℕ) (left : List PlainSection) (label : Label) (inner rest : Forest)
    → let here = left_for (sort_of label.kind) left in
    length (lines elides level left (Forest.cons label inner rest))
    ≡ length (fixed_line 0 (next_lead here))
    + (1
    + (length (if elides && label.elided then elision_line (level + 1) ∷ [] else lines elides (level + 1) (row_of label.kind).sections inner)
    + (length (fixed_line 0 (row_of label.kind).last) + length (lines elides level (left_after here) rest))))
lines_length elides level left label inner rest =
    let here = left_for (sort_of label.kind) left in
    let within : List Line = if elides && label.elided then elision_line (level + 1) ∷ [] else lines elides (level + 1) (row_of label.kind).sections inner in
    let last = fixed_line level (row_of label.kind).last in
    let others = lines elides level (left_after here) rest in
    let one = length-append (fixed_line (level - 1) (next_lead here)) (head_line level label ∷ (within ++ (last ++ others))) in
    let two = length-append within (last ++ others) in
    let three = length-append last others in
    let lead = fixed_length (level - 1) 0 (next_lead here) in
    let end = fixed_length level 0 (row_of label.kind).last in
    omega (arith, one, two, three, lead, end)

-- a line for the elided refinement, or its lines, which are as many
elision_length : (elided : Bool) (level other : ℕ) (xs ys : List Line) → length xs ≡ length ys
    → length (if elided then elision_line level ∷ [] else xs) ≡ length (if elided then elision_line other ∷ [] else ys)
elision_length true level other xs ys e = refl
elision_length false level other xs ys e = e

-- there are as many lines at each level
lines_level : (elides : Bool) (level other : ℕ) (left : List PlainSection) (items : Forest)
    → length (lines elides level left items) ≡ length (lines elides other left items)
lines_level elides level other left Forest.nil = refl
lines_level elides level other left (Forest.cons label inner rest) =
    let here = left_for (sort_of label.kind) left in
    let sections = (row_of label.kind).sections in
    let within =
    elision_length (elides && label.elided) (level + 1) (other + 1) (lines elides (level + 1) sections inner)
    (lines elides (other + 1) sections inner) (lines_level elides (level + 1) (other + 1) sections inner) in
    let others = lines_level elides level other (left_after here) rest in
    let one = lines_length elides level left label inner rest in
    let two = lines_length elides other left label inner rest in
    omega (arith, within, others, one, two)

-- the lines in a node, where they are shown
rises_in_node : (elided : Bool) (line : ℕ) (left : List PlainSection) (inner : Forest)
    → Rises line (line + length (lines true 0 left inner)) (visible_nodes left 0 line inner)
    → Rises line (line + length (if elided then elision_line 1 ∷ [] else lines true 1 left inner))
    (if elided then [] else visible_nodes left 0 line inner)
rises_in_node true line left inner h = omega arith
rises_in_node false line left inner h =
    rises_wider line (line + length (lines true 0 left inner)) line (line + length (lines true 1 left inner)) (visible_nodes left 0 line inner)
    (omega arith) (omega (arith, lines_level true 0 1 left inner)) h

-- the lines of visible nodes rise, within as many lines as the nodes have
pub rises : (left : List PlainSection) (k line : ℕ) (items : Forest)
    → Rises line (line + length (lines true 0 left items)) (visible_nodes left k line items)
rises left k line Forest.nil = omega arith
rises left k line (Forest.cons label inner rest) =
    let here = left_for (sort_of label.kind) left in
    let lead = length (fixed_line 0 (next_lead here)) in
    let first = line + lead in
    let own : VisibleNode = record { path = []; line = first; parts = part_stops label.kind } in
    let sections = (row_of label.kind).sections in
    let in_node = if label.elided then [] else visible_nodes sections 0 (first + 1) inner in
    let within = length (if label.elided then elision_line 1 ∷ [] else lines true 1 sections inner) in
    let later = line + length (lines true 0 left (Forest.cons label inner Forest.nil)) in
    let others = visible_nodes (left_after here) (k + 1) later rest in
    let inside_rises : Rises (first + 1) (first + 1 + within) in_node =
    rises_in_node label.elided (first + 1) sections inner (rises sections 0 (first + 1) inner) in
    let one = lines_length true 0 left label inner Forest.nil in
    let all = lines_length true 0 left label inner rest in
    let item_rises : Rises line later (own ∷ in_node) =
    (omega arith, rises_wider (first + 1) (first + 1 + within) (first + 1) later in_node (omega arith) (omega (arith, one)) inside_rises) in
    rises_append line later (line + length (lines true 0 left (Forest.cons label inner rest))) (map (inside k) (own ∷ in_node)) others
    (rises_inside k line later (own ∷ in_node) item_rises)
    (rises_wider later (later + length (lines true 0 (left_after here) rest)) later (line + length (lines true 0 left (Forest.cons label inner rest)))
    others (omega arith) (omega (arith, one, all)) (rises (left_after here) (k + 1) later rest))
