-- The definitions at work: a step, trees that agree, and trees that don't.
-- A hole is added to the new program behind its statement hole or its declaration hole; both are drawn the same slot.
use Rattle.std.specs.Prelude.{◌≡◌, refl, ℕ, zero, suc, ◌<◌, ◌≤◌, [], ◌∷◌, All}
use Rattle.std.proofs.Common.{ap, sym, arith, inl, inr}
use Rattle.std.proofs.Math.Bool.{false≢true}
use Rattle.std.proofs.lemmas.Bool.{ne_eqb}
use Rattle.plcs_grammar.specs.declared.node_kind.NodeKind.{NodeKind}
use Rattle.plcs_grammar.specs.declared.node_kind.Sort.{Sort}
use Rattle.plcs_grammar.specs.Template.{procedure_sections, program_sections}
use Rattle.template_tree.specs.declared.side.Side.{Side}
use Rattle.template_tree.specs.Programs.NewTree.{bare_label, new_tree}
use Rattle.template_tree.specs.Positions.Place.{has_start}
use Rattle.template_tree.specs.Programs.PlainTree.{Forest, PlainTree}
use Rattle.template_tree.specs.Programs.Program.{Fill, IsNode}
use Rattle.template_tree.specs.Programs.Slots.{times}
use Rattle.template_tree.specs.Programs.Tree.{IsTree}
use Rattle.template_tree.specs.Edits.TreeEdit.{TreeEdit, tree_after}
use Rattle.tree_steps.specs.EditStep.{IsEditStep}
use Rattle.tree_steps.specs.SlotAgreement.{AgreesWith}
use Rattle.tree_steps.specs.StandingSlot.{Around, StandsInside}
use Rattle.tree_steps.proofs.AgreeingTrees.{edits_agree, going_back_past_agrees}
use Rattle.tree_steps.proofs.CallSteps.{steps_are_ways}
use Rattle.tree_steps.proofs.StandingSlots.{one_if}

-- the new tree with one more statement hole, in slot 4
abbrev statement_added : PlainTree
statement_added = tree_after (TreeEdit.add Side.After) new_tree 2

-- the new tree with one more declaration hole, in slot 4
abbrev declaration_added : PlainTree
declaration_added = tree_after (TreeEdit.add Side.After) new_tree 1

-- ---- they are trees

lower : (a b : ℕ) → a < b → one_if a b ≡ 0
lower a b less = rw (ne_eqb a b (λ same. omega arith)) refl

once_new : (slot : ℕ) → times slot new_tree.items ≤ 1
once_new zero = omega arith
once_new (suc zero) = omega arith
once_new (suc (suc zero)) = omega arith
once_new (suc (suc (suc zero))) = omega arith
once_new (suc (suc (suc (suc slot)))) =
    omega (
      arith,
      lower 0 (suc (suc (suc (suc slot)))) (omega arith),
      lower 1 (suc (suc (suc (suc slot)))) (omega arith),
      lower 2 (suc (suc (suc (suc slot)))) (omega arith),
      lower 3 (suc (suc (suc (suc slot)))) (omega arith),
    )

once_added : (slot : ℕ) → times slot statement_added.items ≤ 1
once_added zero = omega arith
once_added (suc zero) = omega arith
once_added (suc (suc zero)) = omega arith
once_added (suc (suc (suc zero))) = omega arith
once_added (suc (suc (suc (suc zero)))) = omega arith
once_added (suc (suc (suc (suc (suc slot))))) =
    omega (
      arith,
      lower 0 (suc (suc (suc (suc (suc slot))))) (omega arith),
      lower 1 (suc (suc (suc (suc (suc slot))))) (omega arith),
      lower 2 (suc (suc (suc (suc (suc slot))))) (omega arith),
      lower 3 (suc (suc (suc (suc (suc slot))))) (omega arith),
      lower 4 (suc (suc (suc (suc (suc slot))))) (omega arith),
    )

once_declared : (slot : ℕ) → times slot declaration_added.items ≤ 1
once_declared zero = omega arith
once_declared (suc zero) = omega arith
once_declared (suc (suc zero)) = omega arith
once_declared (suc (suc (suc zero))) = omega arith
once_declared (suc (suc (suc (suc zero)))) = omega arith
once_declared (suc (suc (suc (suc (suc slot))))) =
    omega (
      arith,
      lower 0 (suc (suc (suc (suc (suc slot))))) (omega arith),
      lower 1 (suc (suc (suc (suc (suc slot))))) (omega arith),
      lower 2 (suc (suc (suc (suc (suc slot))))) (omega arith),
      lower 3 (suc (suc (suc (suc (suc slot))))) (omega arith),
      lower 4 (suc (suc (suc (suc (suc slot))))) (omega arith),
    )

declaration_is : (slot : ℕ) → IsNode (bare_label slot NodeKind.DeclarationHole) []
declaration_is slot = record { parts = tt; inner = refl; elision = λ e. absurd (false≢true e) }

statement_is : (slot : ℕ) → IsNode (bare_label slot NodeKind.StatementHole) []
statement_is slot = record { parts = tt; inner = refl; elision = λ e. absurd (false≢true e) }

procedure_is : (slot : ℕ) → IsNode (bare_label slot NodeKind.ProcedureHole) []
procedure_is slot = record { parts = tt; inner = refl; elision = λ e. absurd (false≢true e) }

one_of : {sort : Sort} → All (λ item. item ≡ sort) (sort ∷ [])
one_of zero d h = refl
one_of (suc k) d h = absurd (omega arith)

two_of : {sort : Sort} → All (λ item. item ≡ sort) (sort ∷ (sort ∷ []))
two_of zero d h = refl
two_of (suc zero) d h = refl
two_of (suc (suc k)) d h = absurd (omega arith)

program_filled : Fill program_sections (Sort.Main ∷ (Sort.Procedure ∷ []))
program_filled = (Sort.Main ∷ [], Sort.Procedure ∷ [], refl, refl, (Sort.Procedure ∷ [], [], refl, (omega arith, one_of), refl))

new_filled : Fill procedure_sections (Sort.Declaration ∷ (Sort.Statement ∷ []))
new_filled =
    (Sort.Declaration ∷ [], Sort.Statement ∷ [], refl, (omega arith, one_of), (Sort.Statement ∷ [], [], refl, (omega arith, one_of), refl))

added_filled : Fill procedure_sections (Sort.Declaration ∷ (Sort.Statement ∷ (Sort.Statement ∷ [])))
added_filled = (
  Sort.Declaration ∷ [],
  Sort.Statement ∷ (Sort.Statement ∷ []),
  refl,
  (omega arith, one_of),
  (Sort.Statement ∷ (Sort.Statement ∷ []), [], refl, (omega arith, two_of), refl),
)

declared_filled : Fill procedure_sections (Sort.Declaration ∷ (Sort.Declaration ∷ (Sort.Statement ∷ [])))
declared_filled = (
  Sort.Declaration ∷ (Sort.Declaration ∷ []),
  Sort.Statement ∷ [],
  refl,
  (omega arith, two_of),
  (Sort.Statement ∷ [], [], refl, (omega arith, one_of), refl),
)

new_is : IsTree new_tree
new_is =
    record {
      program =
          record {
            listed = program_filled;
            sound = (
              record { parts = tt; inner = new_filled; elision = λ e. absurd (false≢true e) },
              (declaration_is 1, tt, (statement_is 2, tt, tt)),
              (procedure_is 3, tt, tt),
            );
          };
      shallow = omega arith;
      few = omega arith;
      drawn_few = omega arith;
      drawn = (omega arith, (omega arith, tt, (omega arith, tt, tt)), (omega arith, tt, tt));
      once = once_new;
      main = refl;
      live = refl;
    }

added_is : IsTree statement_added
added_is =
    record {
      program =
          record {
            listed = program_filled;
            sound = (
              record { parts = tt; inner = added_filled; elision = λ e. absurd (false≢true e) },
              (declaration_is 1, tt, (statement_is 2, tt, (statement_is 4, tt, tt))),
              (procedure_is 3, tt, tt),
            );
          };
      shallow = omega arith;
      few = omega arith;
      drawn_few = omega arith;
      drawn = (omega arith, (omega arith, tt, (omega arith, tt, (omega arith, tt, tt))), (omega arith, tt, tt));
      once = once_added;
      main = refl;
      live = refl;
    }

declared_is : IsTree declaration_added
declared_is =
    record {
      program =
          record {
            listed = program_filled;
            sound = (
              record { parts = tt; inner = declared_filled; elision = λ e. absurd (false≢true e) },
              (declaration_is 1, tt, (declaration_is 4, tt, (statement_is 2, tt, tt))),
              (procedure_is 3, tt, tt),
            );
          };
      shallow = omega arith;
      few = omega arith;
      drawn_few = omega arith;
      drawn = (omega arith, (omega arith, tt, (omega arith, tt, (omega arith, tt, tt))), (omega arith, tt, tt));
      once = once_declared;
      main = refl;
      live = refl;
    }

-- ---- a step, and what agrees by it

-- the hole that was added is a step
add_steps : IsEditStep new_tree statement_added
add_steps =
    record {
      edit = TreeEdit.add Side.After;
      path = 0 ∷ (1 ∷ []);
      node = record { label = bare_label 2 NodeKind.StatementHole; inner = Forest.nil };
      there = refl;
      sort = tt;
      tree_before = new_is;
      tree = added_is;
      became = record { items = refl; drawn = refl };
    }

-- so the tree with it agrees with the new one
add_agrees : AgreesWith new_tree statement_added
add_agrees = edits_agree new_tree statement_added new_is (steps_are_ways new_tree statement_added add_steps)

-- the same with the other hole
declare_steps : IsEditStep new_tree declaration_added
declare_steps =
    record {
      edit = TreeEdit.add Side.After;
      path = 0 ∷ (0 ∷ []);
      node = record { label = bare_label 1 NodeKind.DeclarationHole; inner = Forest.nil };
      there = refl;
      sort = tt;
      tree_before = new_is;
      tree = declared_is;
      became = record { items = refl; drawn = refl };
    }

declare_agrees : AgreesWith new_tree declaration_added
declare_agrees = edits_agree new_tree declaration_added new_is (steps_are_ways new_tree declaration_added declare_steps)

-- ---- going back

-- the new tree again, where slot 4 stays drawn
abbrev undone : PlainTree
undone = record new_tree { drawn = 5 }

-- it agrees with the tree that was undone, in which slot 4 is live
undone_agrees : AgreesWith statement_added undone
undone_agrees =
    going_back_past_agrees new_tree statement_added undone add_agrees
    (omega arith, (omega arith, tt, (omega arith, tt, (omega arith, tt, tt))), (omega arith, tt, tt)) refl

-- and the tree with the declaration hole agrees with it
declared_agrees : AgreesWith undone declaration_added
declared_agrees = record { drawn = declare_agrees.drawn; alike = declare_agrees.alike }

-- ---- trees that don't agree

-- main alone is around
abbrev in_main : Around
in_main = (0, NodeKind.Main) ∷ []

statement_stands : StandsInside statement_added.items 4 NodeKind.StatementHole in_main
statement_stands = inr (inl (inr (inr (inr (inr (inl (refl, refl, refl)))))))

declaration_stands : StandsInside declaration_added.items 4 NodeKind.DeclarationHole in_main
declaration_stands = inr (inl (inr (inr (inl (refl, refl, refl)))))

-- a slot that comes back with another meaning: slot 4 drawn again, for a declaration hole. Agreement isn't transitive:
-- each of the two before holds, through a tree without that slot
comes_back_otherwise : AgreesWith statement_added declaration_added → ⊥
comes_back_otherwise agrees =
    let alike = agrees.alike 4 NodeKind.StatementHole NodeKind.DeclarationHole in_main in_main statement_stands declaration_stands in
    false≢true (sym (ap has_start alike.0))
