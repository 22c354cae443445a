-- The new program is a tree.
use Rattle.std.specs.Prelude.{◌≡◌, refl, ℕ, zero, suc, ◌<◌, ◌≤◌, if◌then◌else◌, ◌==◌, List, [], ◌∷◌, All}
use Rattle.std.proofs.Common.{ap, sym, ◌∙◌, subst, arith}
use Rattle.std.proofs.Math.Bool.{false≢true}
use Rattle.std.proofs.lemmas.Bool.{ne_eqb}
use Rattle.plcs_grammar.specs.declared.node_kind.NodeKind.{NodeKind}
use Rattle.plcs_grammar.specs.declared.node_kind.Sort.{Sort}
use Rattle.plcs_grammar.specs.Template.{program_sections, procedure_sections}
use Rattle.template_tree.specs.Programs.PlainTree.{Forest, PlainNode, forest, roomless, with_spare}
use Rattle.template_tree.specs.Programs.Program.{sorts, Fill, AreNodes, IsNode}
use Rattle.template_tree.specs.Programs.Slots.{count, first_slot, times, AllBelow}
use Rattle.template_tree.specs.Programs.Tree.{IsTree}
use Rattle.template_tree.specs.Programs.NewTree.{bare_label, new_items}
use Rattle.template_tree.proofs.Room.Rooms.{sorts_roomless, count_roomless, depth_roomless, first_roomless, times_roomless, below_roomless, nodes_roomless}

-- a bare node before others, without room
bare_first : (node : PlainNode) (slot : ℕ) (kind : NodeKind) → with_spare 0 node ≡ record { label = bare_label slot kind; inner = Forest.nil }
    → (rest : List PlainNode) → roomless (forest (node ∷ rest)) ≡ Forest.cons (bare_label slot kind) Forest.nil (roomless (forest rest))
bare_first node slot kind e rest = ap (λ (n : PlainNode). Forest.cons n.label (roomless n.inner) (roomless (forest rest))) e

-- what the new tree's items are made of
pub record Made (items inner : List PlainNode) (main : PlainNode) : Type 0 where
  pub declaration : PlainNode
  pub statement : PlainNode
  pub procedure : PlainNode
  pub declaration_is : with_spare 0 declaration ≡ record { label = bare_label 1 NodeKind.DeclarationHole; inner = Forest.nil }
  pub statement_is : with_spare 0 statement ≡ record { label = bare_label 2 NodeKind.StatementHole; inner = Forest.nil }
  pub procedure_is : with_spare 0 procedure ≡ record { label = bare_label 3 NodeKind.ProcedureHole; inner = Forest.nil }
  pub inner_is : inner ≡ declaration ∷ (statement ∷ [])
  pub main_is : with_spare 0 main ≡ record { label = bare_label 0 NodeKind.Main; inner = forest inner }
  pub items_are : items ≡ main ∷ (procedure ∷ [])

-- they are the new program
pub new_is : (items inner : List PlainNode) (main : PlainNode) → Made items inner main → roomless (forest items) ≡ new_items
new_is items inner main m =
    let holes : roomless (forest inner)
    ≡ Forest.cons (bare_label 1 NodeKind.DeclarationHole) Forest.nil
    (Forest.cons (bare_label 2 NodeKind.StatementHole) Forest.nil Forest.nil)
    = ap (λ i. roomless (forest i)) m.inner_is
    ∙ (bare_first m.declaration 1 NodeKind.DeclarationHole m.declaration_is (m.statement ∷ [])
    ∙ ap (Forest.cons (bare_label 1 NodeKind.DeclarationHole) Forest.nil)
    (bare_first m.statement 2 NodeKind.StatementHole m.statement_is []))
    in
    let last = bare_first m.procedure 3 NodeKind.ProcedureHole m.procedure_is [] in
    ap (λ i. roomless (forest i)) m.items_are
    ∙ (ap (λ (n : PlainNode). Forest.cons n.label (roomless n.inner) (roomless (forest (m.procedure ∷ [])))) m.main_is
    ∙ λ i. Forest.cons (bare_label 0 NodeKind.Main) (holes i) (last i))

-- a lower slot is another one
abbrev one_if : ℕ → ℕ → ℕ
one_if a b = if a == b then 1 else 0

lower : (a b : ℕ) → a < b → one_if a b ≡ 0
lower a b less = rw (ne_eqb a b (λ same. omega arith)) refl

-- each slot stands in it but once
once : (slot : ℕ) → times slot new_items ≤ 1
once zero = omega arith
once (suc zero) = omega arith
once (suc (suc zero)) = omega arith
once (suc (suc (suc zero))) = omega arith
once (suc (suc (suc (suc slot)))) =
    omega (
      arith,
      lower 0 (suc (suc (suc (suc slot)))) (omega arith),
      lower 1 (suc (suc (suc (suc slot)))) (omega arith),
      lower 2 (suc (suc (suc (suc slot)))) (omega arith),
      lower 3 (suc (suc (suc (suc slot)))) (omega arith),
    )

-- a node with nothing inside and no parts
hole_is : (slot : ℕ) → IsNode (bare_label slot NodeKind.DeclarationHole) [] × IsNode (bare_label slot NodeKind.StatementHole) [] × IsNode (bare_label slot NodeKind.ProcedureHole) []
hole_is slot = (
  record { parts = tt; inner = refl; elision = λ e. absurd (false≢true e) },
  record { parts = tt; inner = refl; elision = λ e. absurd (false≢true e) },
  record { parts = tt; inner = refl; elision = λ e. absurd (false≢true e) },
)

one_of : {sort : Sort} → All (λ item. item ≡ sort) (sort ∷ [])
one_of zero d h = refl
one_of (suc k) d h = absurd (omega arith)

pub block_filled : Fill procedure_sections (Sort.Declaration ∷ (Sort.Statement ∷ []))
block_filled = (
  Sort.Declaration ∷ [],
  Sort.Statement ∷ [],
  refl,
  (omega arith, one_of),
  (Sort.Statement ∷ [], [], refl, (omega arith, one_of), refl),
)

pub program_filled : Fill program_sections (Sort.Main ∷ (Sort.Procedure ∷ []))
program_filled = (
  Sort.Main ∷ [],
  Sort.Procedure ∷ [],
  refl,
  refl,
  (Sort.Procedure ∷ [], [], refl, (omega arith, one_of), refl),
)

nodes_are : AreNodes new_items
nodes_are = (
  record { parts = tt; inner = block_filled; elision = λ e. absurd (false≢true e) },
  ((hole_is 1).0, tt, ((hole_is 2).1, tt, tt)),
  ((hole_is 3).2, tt, tt),
)

below_four : AllBelow 4 new_items
below_four = (omega arith, (omega arith, tt, (omega arith, tt, tt)), (omega arith, tt, tt))

-- the new program is a tree, whatever room its lists have
pub new_is_tree : (items : Forest) (spare : ℕ) → roomless items ≡ new_items
    → IsTree record { items = items; spare = spare; drawn = 4; live = 4 }
new_is_tree items spare e =
    record {
      program =
          record {
            listed = subst (Fill program_sections) (sym (ap sorts e) ∙ sorts_roomless items) program_filled;
            sound = nodes_roomless items (subst AreNodes (sym e) nodes_are);
          };
      shallow = rw (← depth_roomless items, e) (omega arith);
      few = rw (← count_roomless items, e) (omega arith);
      drawn_few = omega arith;
      drawn = below_roomless 4 items (subst (AllBelow 4) (sym e) below_four);
      once = λ slot. rw (← times_roomless slot items, e) (once slot);
      main = sym (first_roomless items) ∙ ap first_slot e;
      live = sym (sym (count_roomless items) ∙ ap count e);
    }
