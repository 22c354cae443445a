-- The line of a number.
use Rattle.std.specs.Prelude.{◌≡◌, refl, ℕ, zero, suc, ◌+◌, ◌-◌, ◌<◌, ◌≤◌, Bool, true, false, if◌then◌else◌, List, [], ◌∷◌, ◌++◌, length, map, sum, take, Option, Some, None, is_some, option_map, slice_get, slice_index}
use Rattle.std.proofs.Common.{ap, sym, ◌∙◌, arith}
use Rattle.std.proofs.lemmas.List.Sums.{sum_by-cons, sum_by_more_le}
use Rattle.std.proofs.lemmas.Option.{slice_get_past}
use Rattle.plcs_grammar.specs.Template.{PlainSection, row_of, program_sections}
use Rattle.template_tree.specs.Programs.PlainTree.{Forest, PlainNode, nodes}
use Rattle.template_tree.specs.Programs.Program.{sort_of}
use Rattle.plcs_grammar.specs.declared.node_kind.Sort.{Sort}
use Rattle.plcs_grammar.specs.declared.row.Amount.{Amount}
use Rattle.template_tree.specs.Listings.Section.{left_for, left_after, left_in, next_lead, same_sort}
use Rattle.unparse_layout.specs.declared.line.LineKind.{LineKind}
use Rattle.unparse_layout.specs.OwnedLine.{owned_lines, partless_line, table_line}
use Rattle.unparse_layout.specs.Bones.{bones_of}
use Rattle.unparse_layout.specs.Private.PlainNodeLayout.{PlainNodeLayout, node_layouts, node_layout_of}
use Rattle.unparse_layout.specs.Private.Height.{one_if, height}
use Rattle.unparse_layout.specs.Private.ItemLines.{item_lines, lines_below, node_lines, lead_at}
use Rattle.unparse_layout.proofs.LineNumbers.{lines_split, lines_length, item_length}
use Rattle.unparse_layout.proofs.Heights.{heights_sum}

-- what stands in the first of two lists
pub get_left : {X : Type 0} (xs ys : List X) (i : ℕ) → i < length xs → slice_get (xs ++ ys) i ≡ slice_get xs i
get_left [] ys i within = absurd (omega (arith, within))
get_left (x ∷ xs) ys zero within = refl
get_left (x ∷ xs) ys (suc i) within = get_left xs ys i (omega arith)

-- what stands in the second
pub get_right : {X : Type 0} (xs ys : List X) (i : ℕ) → length xs ≤ i → slice_get (xs ++ ys) i ≡ slice_get ys (i - length xs)
get_right [] ys i past = ap (slice_get ys) (omega arith)
get_right (x ∷ xs) ys zero past = absurd (omega (arith, past))
get_right (x ∷ xs) ys (suc i) past = get_right xs ys i (omega arith) ∙ ap (slice_get ys) (omega arith)

-- the lines of a node among those of its list
pub found_line : (items : Forest) (left : List PlainSection) (owner level i rest : ℕ) (node : PlainNode)
    → slice_get (nodes items) i ≡ Some node → rest < slice_index (map height (node_layouts (bones_of left items))) i
    → slice_get (owned_lines owner level left items) (sum (take i (map height (node_layouts (bones_of left items)))) + rest)
    ≡ slice_get (item_lines owner level (lead_at left items i) node) rest
found_line Forest.nil left owner level i rest node there within = absurd (cc)
found_line (Forest.cons label inner others) left owner level zero rest node there within =
    let own : PlainNode = record { label = label; inner = inner } in
    let same : own ≡ node = cc in
    let here = left_for (sort_of label.kind) left in
    let long = item_length owner level (next_lead here) own (lines_length label.slot (level + 1) (row_of label.kind).sections inner) in
    let at : sum (take zero (map height (node_layouts (bones_of left (Forest.cons label inner others))))) + rest ≡ rest = omega arith in
    ap (slice_get (owned_lines owner level left (Forest.cons label inner others))) at
    ∙ ap (λ xs. slice_get xs rest) (lines_split owner level left label inner others)
    ∙ get_left (item_lines owner level (next_lead here) own) (owned_lines owner level (left_after here) others) rest (omega (arith, long, within))
    ∙ ap (λ n. slice_get (item_lines owner level (next_lead here) n) rest) same
found_line (Forest.cons label inner others) left owner level (suc i) rest node there within =
    let own : PlainNode = record { label = label; inner = inner } in
    let here = left_for (sort_of label.kind) left in
    let item = item_lines owner level (next_lead here) own in
    let long = item_length owner level (next_lead here) own (lines_length label.slot (level + 1) (row_of label.kind).sections inner) in
    let hs = map height (node_layouts (bones_of (left_after here) others)) in
    let h = height (node_layout_of (is_some (next_lead here)) own) in
    let total : sum (take (suc i) (h ∷ hs)) ≡ h + sum (take i hs) = sum_by-cons (λ n. n) h (take i hs) in
    let at : sum (take (suc i) (h ∷ hs)) + rest - length item ≡ sum (take i hs) + rest = omega (arith, total, long) in
    ap (λ xs. slice_get xs (sum (take (suc i) (h ∷ hs)) + rest)) (lines_split owner level left label inner others)
    ∙ get_right item (owned_lines owner level (left_after here) others) (sum (take (suc i) (h ∷ hs)) + rest) (omega (arith, total, long))
    ∙ ap (slice_get (owned_lines owner level (left_after here) others)) at
    ∙ found_line others (left_after here) owner level i rest node there within

-- behind all lines there is none
pub no_line : (items : Forest) (left : List PlainSection) (owner level at : ℕ)
    → sum (map height (node_layouts (bones_of left items))) ≤ at → slice_get (owned_lines owner level left items) at ≡ None
no_line items left owner level at past =
    slice_get_past (owned_lines owner level left items) at
    (omega (arith, lines_length owner level left items, heights_sum (bones_of left items), past))

-- what is kept of an item
pub same_item : (items : Forest) (left : List PlainSection) (i : ℕ)
    → slice_get (node_layouts (bones_of left items)) i ≡ option_map (node_layout_of (is_some (lead_at left items i))) (slice_get (nodes items) i)
same_item Forest.nil left i = refl
same_item (Forest.cons label inner rest) left zero = refl
same_item (Forest.cons label inner rest) left (suc i) = same_item rest (left_after (left_for (sort_of label.kind) left)) i

-- an item is kept where it stands
pub item_kept : (items : Forest) (left : List PlainSection) (i : ℕ) (item : PlainNodeLayout) (node : PlainNode)
    → slice_get (node_layouts (bones_of left items)) i ≡ Some item → slice_get (nodes items) i ≡ Some node
    → item ≡ node_layout_of (is_some (lead_at left items i)) node
item_kept items left i item node kept there =
    let e : Some item ≡ Some (node_layout_of (is_some (lead_at left items i)) node) =
    sym kept ∙ same_item items left i ∙ ap (option_map (node_layout_of (is_some (lead_at left items i)))) there in
    cc

-- no line stands before any of the sections
abbrev pub Leadless : List PlainSection → Type 0
Leadless [] = Unit {0}
Leadless (section ∷ sections) = (section.lead ≡ None) × Leadless sections

pub leadless_for : (sort : Sort) (left : List PlainSection) → Leadless left → Leadless (left_for sort left)
leadless_for sort [] l = tt
leadless_for sort (section ∷ sections) l = chosen (same_sort section.sort sort) (leadless_for sort sections l.1)
  where
    chosen : (same : Bool) → Leadless (left_for sort sections) → Leadless (if same then section ∷ sections else left_for sort sections)
    chosen true others = l
    chosen false others = others

pub leadless_after : (left : List PlainSection) → Leadless left → Leadless (left_after left)
leadless_after [] l = tt
leadless_after (section ∷ sections) l = after section.amount
  where
    after : (amount : Amount) → Leadless (left_in amount section sections)
    after Amount.One = l.1
    after Amount.Many = (refl, l.1)

pub leadless_next : (left : List PlainSection) → Leadless left → next_lead left ≡ None
leadless_next [] l = refl
leadless_next (section ∷ sections) l = l.0

pub leadless_at : (items : Forest) (left : List PlainSection) (i : ℕ) → Leadless left → lead_at left items i ≡ None
leadless_at Forest.nil left i l = refl
leadless_at (Forest.cons label inner rest) left zero l =
    leadless_next (left_for (sort_of label.kind) left) (leadless_for (sort_of label.kind) left l)
leadless_at (Forest.cons label inner rest) left (suc i) l =
    leadless_at rest (left_after (left_for (sort_of label.kind) left)) i
    (leadless_after (left_for (sort_of label.kind) left) (leadless_for (sort_of label.kind) left l))

-- before an item of a program no line stands
pub no_lead : (items : Forest) (i : ℕ) → lead_at program_sections items i ≡ None
no_lead items i = leadless_at items program_sections i (refl, (refl, tt))

-- a number is no more than the sum up to it and itself
pub within_sum : (numbers : List ℕ) (i rest : ℕ) → i < length numbers → rest < slice_index numbers i → sum (take i numbers) + rest < sum numbers
within_sum numbers i rest there within = omega (arith, sum_by_more_le (λ n. n) numbers i 0 there, within)

-- below the first line of a node whose refinement is shown: a line of what stands inside it
pub below_inside : (level : ℕ) (node : PlainNode) (i rest : ℕ) (child : PlainNode) → node.label.elided ≡ false
    → slice_get (nodes node.inner) i ≡ Some child
    → i < length (map height (node_layouts (bones_of (row_of node.label.kind).sections node.inner)))
    → rest < slice_index (map height (node_layouts (bones_of (row_of node.label.kind).sections node.inner))) i
    → slice_get (lines_below level node) (sum (take i (map height (node_layouts (bones_of (row_of node.label.kind).sections node.inner)))) + rest)
    ≡ slice_get (item_lines node.label.slot (level + 1) (lead_at (row_of node.label.kind).sections node.inner i) child) rest
below_inside level node i rest child shown there inside within =
    let sections = (row_of node.label.kind).sections in
    let hs = map height (node_layouts (bones_of sections node.inner)) in
    let own = owned_lines node.label.slot (level + 1) sections node.inner in
    let last = table_line node.label.slot LineKind.Last level (row_of node.label.kind).last in
    let at : ℕ = sum (take i hs) + rest in
    let lines : lines_below level node ≡ own ++ last = rw shown refl in
    let below : at < length own =
    omega (arith, within_sum hs i rest inside within, lines_length node.label.slot (level + 1) sections node.inner, heights_sum (bones_of sections node.inner)) in
    ap (λ xs. slice_get xs at) lines
    ∙ get_left own last at below
    ∙ found_line node.inner sections node.label.slot (level + 1) i rest child there within

-- or its last line
pub below_last : (level : ℕ) (node : PlainNode) (at : ℕ) → node.label.elided ≡ false
    → sum (map height (node_layouts (bones_of (row_of node.label.kind).sections node.inner))) ≤ at
    → slice_get (lines_below level node) at
    ≡ slice_get (table_line node.label.slot LineKind.Last level (row_of node.label.kind).last)
    (at - sum (map height (node_layouts (bones_of (row_of node.label.kind).sections node.inner))))
below_last level node at shown past =
    let sections = (row_of node.label.kind).sections in
    let own = owned_lines node.label.slot (level + 1) sections node.inner in
    let last = table_line node.label.slot LineKind.Last level (row_of node.label.kind).last in
    let lines : lines_below level node ≡ own ++ last = rw shown refl in
    let long = lines_length node.label.slot (level + 1) sections node.inner in
    let total = heights_sum (bones_of sections node.inner) in
    ap (λ xs. slice_get xs at) lines
    ∙ get_right own last at (omega (arith, long, total, past))
    ∙ ap (slice_get last) (omega (arith, long, total))

-- the line before a node, or one of its own
pub item_lead : (owner level : ℕ) (lead : Option (List ℕ)) (node : PlainNode) (at : ℕ) → at < one_if (is_some lead)
    → slice_get (item_lines owner (level + 1) lead node) at ≡ slice_get (table_line owner LineKind.Lead level lead) 0
item_lead owner level None node at before = absurd (omega (arith, before))
item_lead owner level (Some bytes) node zero before = ap (λ n. Some (partless_line owner LineKind.Lead n bytes)) (omega arith)
item_lead owner level (Some bytes) node (suc at) before = absurd (omega (arith, before))

pub item_own : (owner level : ℕ) (lead : Option (List ℕ)) (node : PlainNode) (at : ℕ) → one_if (is_some lead) ≤ at
    → slice_get (item_lines owner level lead node) at ≡ slice_get (node_lines level node) (at - one_if (is_some lead))
item_own owner level None node at past = ap (slice_get (node_lines level node)) (omega arith)
item_own owner level (Some bytes) node zero past = absurd (omega (arith, past))
item_own owner level (Some bytes) node (suc at) past = ap (slice_get (node_lines level node)) (omega arith)
