-- The line that a plan is of.
use Rattle.std.specs.Prelude.{◌≡◌, refl, ℕ, zero, suc, ◌+◌, ◌-◌, ◌<◌, ◌≤◌, Bool, true, false, codes, List, [], ◌∷◌, length, map, sum, take, Option, Some, None, is_some, option_and_then, slice_get, slice_index}
use Rattle.std.proofs.Common.{ap, sym, ◌∙◌, arith, subst}
use Rattle.std.proofs.lemmas.List.{length-map}
use Rattle.plcs_grammar.specs.Template.{PlainSection, row_of, program_sections}
use Rattle.template_tree.specs.Programs.PlainTree.{Forest, PlainNode, nodes}
use Rattle.template_tree.specs.Positions.Path.{node_at}
use Rattle.template_tree.specs.Programs.Program.{sort_of}
use Rattle.template_tree.specs.Listings.Section.{left_for, left_after}
use Rattle.template_tree.specs.Programs.Slots.{depth}
use Rattle.unparse_layout.specs.declared.line.LineKind.{LineKind}
use Rattle.unparse_layout.specs.declared.node_layout.NodeLayout.TheInside.{Inside}
use Rattle.unparse_layout.specs.OwnedLine.{OwnedLines, partless_line, table_line}
use Rattle.unparse_layout.specs.Bones.{bones_of}
use Rattle.unparse_layout.specs.Private.NodeLayoutView.{IsRight, seen}
use Rattle.unparse_layout.specs.Private.PlainNodeLayout.{PlainNodeLayout, node_layouts, node_layout_of}
use Rattle.unparse_layout.specs.Private.Height.{one_if, height}
use Rattle.unparse_layout.specs.Private.ItemLines.{item_lines, lines_below, node_lines, lead_at}
use Rattle.unparse_layout.proofs.Opened.{numbers_are}
use Rattle.unparse_layout.proofs.FoundLines.{below_inside, below_last, item_lead, item_own, item_kept, found_line, no_lead}

-- where nothing is found, the list ends before
pub past_where_none : {X : Type 0} (xs : List X) (i : ℕ) → slice_get xs i ≡ None → length xs ≤ i
past_where_none [] i none = omega arith
past_where_none (x ∷ xs) zero none = absurd (cc)
past_where_none (x ∷ xs) (suc i) none = omega (arith, past_where_none xs i none)

-- as many are kept as there are
pub kept_length : (items : Forest) (left : List PlainSection) → length (node_layouts (bones_of left items)) ≡ length (nodes items)
kept_length Forest.nil left = refl
kept_length (Forest.cons label inner rest) left = ap suc (kept_length rest (left_after (left_for (sort_of label.kind) left)))

-- what stands inside an item is less deep
pub item_shallow : (items : Forest) (i : ℕ) (node : PlainNode) → slice_get (nodes items) i ≡ Some node → depth node.inner + 1 ≤ depth items
item_shallow Forest.nil i node there = absurd (cc)
item_shallow (Forest.cons label inner rest) zero node there =
    let same : record { label = label; inner = inner } ≡ node = cc in rw (← same) (omega arith)
item_shallow (Forest.cons label inner rest) (suc i) node there = omega (arith, item_shallow rest i node there)

-- the item at a path of one number
pub one_step : (o : Option PlainNode) → option_and_then (λ item. Some item) o ≡ o
one_step None = refl
one_step (Some node) = refl

pub at_one : (items : Forest) (path : List ℕ) (k : ℕ) → path ≡ k ∷ [] → node_at items path ≡ slice_get (nodes items) k
at_one items path k one = ap (node_at items) one ∙ one_step (slice_get (nodes items) k)

-- the numbers that a node of a layout keeps
pub plan_numbers : (a : Inside) (self : PlainNodeLayout) (node : PlainNode) → seen a ≡ self → IsRight a → self ≡ node_layout_of self.bone.led node
    → a.heights.numbers ≡ map height (node_layouts (bones_of (row_of node.label.kind).sections node.inner))
plan_numbers a self node view right agrees =
    numbers_are a self view right ∙ ap (λ (o : PlainNodeLayout). map height (node_layouts o.inner)) agrees

-- whether the node is elided
pub plan_elided : (a : Inside) (self : PlainNodeLayout) (node : PlainNode) (elided : Bool) → seen a ≡ self → self ≡ node_layout_of self.bone.led node
    → a.elided ≡ elided → node.label.elided ≡ elided
plan_elided a self node elided view agrees e =
    sym (ap (λ (o : PlainNodeLayout). o.bone.elided) view ∙ ap (λ (o : PlainNodeLayout). o.bone.elided) agrees) ∙ e

-- a number within those that are kept is that of an item
pub number_within : (numbers : List ℕ) (items : Forest) (left : List PlainSection) (i : ℕ)
    → numbers ≡ map height (node_layouts (bones_of left items)) → i < length numbers → i < length (nodes items)
number_within numbers items left i same within =
    omega (arith, within, ap length same, length-map (node_layouts (bones_of left items)) height, kept_length items left)

-- the item that is found and the child that is found
pub child_led : (self item : PlainNodeLayout) (led : Bool) (node child : PlainNode) (i : ℕ) → self ≡ node_layout_of led node
    → slice_get (node_layouts self.inner) i ≡ Some item → slice_get (nodes node.inner) i ≡ Some child
    → item ≡ node_layout_of (is_some (lead_at (row_of node.label.kind).sections node.inner i)) child
child_led self item led node child i agrees kept there =
    item_kept node.inner (row_of node.label.kind).sections i item child
    (sym (ap (λ (o : PlainNodeLayout). slice_get (node_layouts o.inner) i) agrees) ∙ kept) there

pub led_again : (item : PlainNodeLayout) (led : Bool) (child : PlainNode) → item ≡ node_layout_of led child → item ≡ node_layout_of item.bone.led child
led_again item led child agrees = agrees ∙ ap (λ b. node_layout_of b child) (sym (ap (λ (o : PlainNodeLayout). o.bone.led) agrees))

-- below the first line where the refinement is elided
pub elided_below : (level : ℕ) (node : PlainNode) (at : ℕ) → node.label.elided ≡ true → 0 < at
    → slice_get (partless_line node.label.slot LineKind.Elision (level + 1) (codes "...") ∷ table_line node.label.slot LineKind.Last level (row_of node.label.kind).last) (at - 1)
    ≡ slice_get (node_lines level node) at
elided_below level node zero hidden below = absurd (omega (arith, below))
elided_below level node (suc n) hidden below =
    let all = partless_line node.label.slot LineKind.Elision (level + 1) (codes "...") ∷ table_line node.label.slot LineKind.Last level (row_of node.label.kind).last in
    let lines : lines_below level node ≡ all = rw hidden refl in
    ap (slice_get all) (omega arith) ∙ ap (λ xs. slice_get xs n) (sym lines)

-- a line below the first one
pub below_first : (level : ℕ) (node : PlainNode) (at : ℕ) → 0 < at → slice_get (node_lines level node) at ≡ slice_get (lines_below level node) (at - 1)
below_first level node zero below = absurd (omega (arith, below))
below_first level node (suc n) below = ap (slice_get (lines_below level node)) (omega arith)

-- the last line
pub last_below : (level : ℕ) (node : PlainNode) (at total : ℕ) (numbers : List ℕ) → node.label.elided ≡ false → 0 < at
    → numbers ≡ map height (node_layouts (bones_of (row_of node.label.kind).sections node.inner)) → total ≡ sum numbers → sum numbers ≤ at - 1
    → slice_get (table_line node.label.slot LineKind.Last level (row_of node.label.kind).last) (at - 1 - total) ≡ slice_get (node_lines level node) at
last_below level node at total numbers shown below same total_is past =
    let sums : sum numbers ≡ sum (map height (node_layouts (bones_of (row_of node.label.kind).sections node.inner))) = ap sum same in
    ap (λ n. slice_get (table_line node.label.slot LineKind.Last level (row_of node.label.kind).last) (at - 1 - n)) (total_is ∙ sums)
    ∙ sym (below_last level node (at - 1) shown (omega (arith, sums, past)))
    ∙ sym (below_first level node at below)

-- a line of what stands inside
pub record IsChildLine (level : ℕ) (node : PlainNode) (at i rest : ℕ) (child : PlainNode) : Type 0 where
  pub line : slice_get (node_lines level node) at
      ≡ slice_get (item_lines node.label.slot (level + 1) (lead_at (row_of node.label.kind).sections node.inner i) child) rest

pub child_line : (level : ℕ) (node : PlainNode) (at i rest : ℕ) (child : PlainNode) (numbers : List ℕ) → node.label.elided ≡ false → 0 < at
    → numbers ≡ map height (node_layouts (bones_of (row_of node.label.kind).sections node.inner))
    → slice_get (nodes node.inner) i ≡ Some child → i < length numbers → sum (take i numbers) + rest ≡ at - 1 → rest < slice_index numbers i
    → IsChildLine level node at i rest child
child_line level node at i rest child numbers shown below same there inside place within = record {
  line =
      below_first level node at below
      ∙ ap (slice_get (lines_below level node)) (sym place ∙ ap (λ ns. sum (take i ns) + rest) same)
      ∙ below_inside level node i rest child shown there (subst (λ ns. i < length ns) same inside) (subst (λ ns. rest < slice_index ns i) same within);
}

-- the line before a child
pub lead_of_child : (level : ℕ) (node : PlainNode) (at i rest : ℕ) (child : PlainNode) → IsChildLine level node at i rest child
    → rest < one_if (is_some (lead_at (row_of node.label.kind).sections node.inner i))
    → slice_get (table_line node.label.slot LineKind.Lead level (lead_at (row_of node.label.kind).sections node.inner i)) 0
    ≡ slice_get (node_lines level node) at
lead_of_child level node at i rest child l before =
    sym (l.line ∙ item_lead node.label.slot level (lead_at (row_of node.label.kind).sections node.inner i) child rest before)

-- a line of a child's own
pub own_of_child : (level : ℕ) (node : PlainNode) (at i rest : ℕ) (child : PlainNode) (lead : ℕ) → IsChildLine level node at i rest child
    → lead ≡ one_if (is_some (lead_at (row_of node.label.kind).sections node.inner i)) → lead ≤ rest
    → slice_get (node_lines (level + 1) child) (rest - lead) ≡ slice_get (node_lines level node) at
own_of_child level node at i rest child lead l lead_is past =
    ap (λ n. slice_get (node_lines (level + 1) child) (rest - n)) lead_is
    ∙ sym (l.line ∙ item_own node.label.slot (level + 1) (lead_at (row_of node.label.kind).sections node.inner i) child rest (omega (arith, lead_is, past)))

-- a line of an item of a program
pub program_line : (items : Forest) (at i rest : ℕ) (node : PlainNode) (numbers : List ℕ)
    → numbers ≡ map height (node_layouts (bones_of program_sections items))
    → slice_get (nodes items) i ≡ Some node → sum (take i numbers) + rest ≡ at → rest < slice_index numbers i
    → slice_get (node_lines 0 node) rest ≡ slice_get (OwnedLines items) at
program_line items at i rest node numbers same there place within =
    let found = found_line items program_sections 0 0 i rest node there (subst (λ ns. rest < slice_index ns i) same within) in
    let none = no_lead items i in
    sym (ap (slice_get (OwnedLines items)) (sym place ∙ ap (λ ns. sum (take i ns) + rest) same)
    ∙ found
    ∙ ap (λ lead. slice_get (item_lines 0 0 lead node) rest) none)
