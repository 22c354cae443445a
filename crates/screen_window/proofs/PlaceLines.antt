-- The line of a place of a run, found by the path of its slot. A slot that stands once stands on its path alone, so
-- what is looked for beside that isn't found, and an elided node of the path hides all below it.
use Rattle.std.proofs.Common.{◌≡◌, ◌≤◌, ℕ, ◌+◌, suc, zero, List, [], ◌∷◌, Option, Some, None, refl, ap, sym, ◌∙◌, arith}
use Rattle.std.specs.Prelude.{Bool, true, false, ◌==◌, if◌then◌else◌}
use Rattle.std.proofs.lemmas.Bool.{eq-eqb}
use Rattle.std.proofs.lemmas.Option.{none-some}
use Rattle.template_tree.specs.Positions.Path.{slot_at}
use Rattle.template_tree.specs.Programs.PlainTree.{Forest, Label}
use Rattle.template_tree.specs.Programs.Slots.{times}
use Rattle.unparse_layout.specs.declared.line.LineKind.TheVariants.{Elision}
use Rattle.screen_window.specs.declared.node_line.NodeLine.{NodeLine}
use Rattle.screen_window.specs.NodeLine.{place_line, point_line}
use Rattle.screen_window.specs.Private.PathLine.{line_on_path}

-- a node in the slot counts
counted : (a b n : ℕ) → a ≡ b → 1 ≤ (if a == b then 1 else 0) + n
counted a b n same = rw (eq-eqb a b same) (omega arith)

-- where another node is in the slot, this one isn't
other : (b : Bool) (n : ℕ) → (if b then 1 else 0) + n ≤ 1 → 1 ≤ n → b ≡ false
other true n once some = absurd (omega arith)
other false n once some = refl

-- where no node is in the slot, this one isn't
not_one : (b : Bool) (n : ℕ) → (if b then 1 else 0) + n ≡ 0 → b ≡ false
not_one true n none = absurd (omega arith)
not_one false n none = refl

-- the slot that was found, or else this one
abbrev or_slot : ℕ → Option ℕ → ℕ
or_slot slot None = slot
or_slot slot (Some found) = found

-- the slot to which a path leads stands among the nodes
stands : (items : Forest) (path : List ℕ) (slot : ℕ) → slot_at items path ≡ Some slot → 1 ≤ times slot items
stands Forest.nil [] slot leads = absurd (none-some slot leads)
stands Forest.nil (k ∷ path) slot leads = absurd (none-some slot leads)
stands (Forest.cons label inner rest) [] slot leads = absurd (none-some slot leads)
stands (Forest.cons label inner rest) (zero ∷ []) slot leads = counted label.slot slot _ (ap (or_slot slot) leads)
stands (Forest.cons label inner rest) (zero ∷ (j ∷ path)) slot leads =
    let h : 1 ≤ times slot inner = stands inner (j ∷ path) slot leads in omega arith
stands (Forest.cons label inner rest) (suc k ∷ path) slot leads =
    let h : 1 ≤ times slot rest = stands rest (k ∷ path) slot leads in omega arith

-- the place of a slot that doesn't stand among the nodes has no line
pub no_line : (slot point : ℕ) (items : Forest) → times slot items ≡ 0 → place_line slot point items ≡ None
no_line slot point Forest.nil none = refl
no_line slot point (Forest.cons label inner rest) none =
    rw (not_one (label.slot == slot) _ none)
    (rw (no_line slot point inner (omega arith)) (no_line slot point rest (omega arith)))

-- the line that stands for what is inside a node: where that is elided, or else the line that it has there
abbrev line_through : Label → NodeLine → NodeLine
line_through label line = if label.elided then record { slot = label.slot; kind = Elision } else line

-- what is inside the first node shows the place through it
inside_first : (slot point : ℕ) (label : Label) (inner rest : Forest) (line : NodeLine) → (label.slot == slot) ≡ false
    → place_line slot point inner ≡ Some line
    → place_line slot point (Forest.cons label inner rest) ≡ Some (line_through label line)
inside_first slot point label inner rest line not_here there = rw (not_here, there) refl

-- the first node, in which the slot isn't, doesn't show the place
after_first : (slot point : ℕ) (label : Label) (inner rest : Forest) → (label.slot == slot) ≡ false
    → place_line slot point inner ≡ None → place_line slot point (Forest.cons label inner rest) ≡ place_line slot point rest
after_first slot point label inner rest not_here none = rw (not_here, none) refl

-- one of two lines
one_of : (b : Bool) (one another : NodeLine) → (if b then Some one else Some another) ≡ Some (if b then one else another)
one_of true one another = refl
one_of false one another = refl

-- a path into the first node leads through it
through_first : (point : ℕ) (label : Label) (inner rest : Forest) (j : ℕ) (path : List ℕ) (line : NodeLine)
    → line_on_path point inner (j ∷ path) ≡ Some line
    → line_on_path point (Forest.cons label inner rest) (zero ∷ (j ∷ path)) ≡ Some (line_through label line)
through_first point label inner rest j path line there =
    let elision : NodeLine = record { slot = label.slot; kind = Elision } in
    ap (λ (found : Option NodeLine). if label.elided then Some elision else found) there ∙ one_of label.elided elision line

-- a line is that of a place of a run, and that on the path
abbrev HaveLine : (slot point : ℕ) → Forest → List ℕ → Type 0
HaveLine slot point items path =
    (line : NodeLine) × (place_line slot point items ≡ Some line) × (line_on_path point items path ≡ Some line)

have_line : (slot point : ℕ) (items : Forest) (path : List ℕ) → times slot items ≤ 1 → slot_at items path ≡ Some slot
    → HaveLine slot point items path
have_line slot point Forest.nil [] once leads = absurd (none-some slot leads)
have_line slot point Forest.nil (k ∷ path) once leads = absurd (none-some slot leads)
have_line slot point (Forest.cons label inner rest) [] once leads = absurd (none-some slot leads)
have_line slot point (Forest.cons label inner rest) (zero ∷ []) once leads =
    (point_line label point, rw (eq-eqb label.slot slot (ap (or_slot slot) leads)) refl, refl)
have_line slot point (Forest.cons label inner rest) (zero ∷ (j ∷ path)) once leads =
    let inside : 1 ≤ times slot inner = stands inner (j ∷ path) slot leads in
    let there : HaveLine slot point inner (j ∷ path) = have_line slot point inner (j ∷ path) (omega arith) leads in (
      line_through label there.0,
      inside_first slot point label inner rest there.0 (other (label.slot == slot) _ once (omega arith)) there.1,
      through_first point label inner rest j path there.0 there.2,
    )
have_line slot point (Forest.cons label inner rest) (suc k ∷ path) once leads =
    let behind : 1 ≤ times slot rest = stands rest (k ∷ path) slot leads in
    let there : HaveLine slot point rest (k ∷ path) = have_line slot point rest (k ∷ path) (omega arith) leads in (
      there.0,
      after_first slot point label inner rest (other (label.slot == slot) _ once (omega arith))
          (no_line slot point inner (omega arith))
          ∙ there.1,
      there.2,
    )

-- the line of a place of a run is that on the path to its slot
pub place_on_path : (slot point : ℕ) (items : Forest) (path : List ℕ) → times slot items ≤ 1 → slot_at items path ≡ Some slot
    → place_line slot point items ≡ line_on_path point items path
place_on_path slot point items path once leads =
    let there : HaveLine slot point items path = have_line slot point items path once leads in there.1 ∙ sym there.2
