-- Assignments as they come in place of holes and assignments.
use Rattle.std.specs.Prelude.{◌≡◌, refl, ℕ, ◌⊎◌, List, Some}
use Rattle.std.proofs.Common.{ap, sym, ◌∙◌, subst, arith, inl, inr}
use Rattle.std.proofs.Math.Bool.{false≢true}
use Rattle.plcs_grammar.specs.declared.category.Category.{Category}
use Rattle.plcs_grammar.specs.declared.node_kind.NodeKind.{NodeKind}
use Rattle.plcs_grammar.specs.declared.node_kind.Sort.{Sort}
use Rattle.plcs_grammar.specs.PlainPhrase.{PlainPhrase, category_of}
use Rattle.template_tree.specs.Programs.PlainTree.{PlainNode, PlainTree, roomless_node}
use Rattle.template_tree.specs.Programs.Part.{IsPhrasePlace}
use Rattle.template_tree.specs.Positions.Path.{node_at}
use Rattle.template_tree.specs.Programs.Program.{IsPartPhrase, IsSubtree, sort_of}
use Rattle.template_tree.specs.Programs.Tree.{IsTree}
use Rattle.template_tree.specs.Edits.Edit.{Put}
use Rattle.template_tree.specs.Edits.Elision.{is_comment}
use Rattle.template_tree.specs.Edits.FreshNode.{assignment_node}
use Rattle.template_tree.specs.Edits.EditAnswer.{IsWithin, TakesAssignment}
use Rattle.template_tree.specs.Private.Exchange.{MayReplace}
use Rattle.template_tree.proofs.Puts.PutLimits.{path_short, put_within}
use Rattle.template_tree.proofs.Room.RoomlessEdits.{same_roomless}
use Rattle.template_tree.proofs.Puts.Holes.{not_both_first, subtree_with_room}
use Rattle.template_tree.proofs.Puts.Refusals.{within_like}

-- an assignment is a part of a program
pub assignment_subtree : (phrase : PlainPhrase) → IsPhrasePlace (Some phrase) → category_of phrase ≡ Category.Assignment → IsSubtree (assignment_node phrase)
assignment_subtree phrase place is =
    (record { parts = (subst (λ c. IsPartPhrase c phrase) is place, tt); inner = refl; elision = λ e. absurd (false≢true e) }, tt)

-- what becomes an assignment is a statement
statement : (kind : NodeKind) → (kind ≡ NodeKind.StatementHole) ⊎ (kind ≡ NodeKind.Assign) → sort_of kind ≡ Sort.Statement
statement kind (inl hole) = ap sort_of hole
statement kind (inr assign) = ap sort_of assign

-- an assignment breaks no limit
pub assignment_within : (tree : PlainTree) (path : List ℕ) (there : PlainNode) (phrase : PlainPhrase) → IsTree tree → node_at tree.items path ≡ Some there
    → IsWithin (Put tree there.label.slot (assignment_node phrase))
assignment_within tree path there phrase t at =
    put_within tree path there (assignment_node phrase) t at
    (omega (arith, path_short tree.items path there at, t.shallow)) (omega (arith, t.live, t.few)) (omega (arith, t.drawn_few))

-- so it may come, whatever room it has
pub assignment_may_replace : (tree : PlainTree) (path : List ℕ) (there node : PlainNode) (phrase : PlainPhrase) → IsTree tree
    → node_at tree.items path ≡ Some there → TakesAssignment phrase there → IsPhrasePlace (Some phrase) → roomless_node node ≡ assignment_node phrase
    → MayReplace tree node there
assignment_may_replace tree path there node phrase t at takes place same =
    record {
      subtree = subtree_with_room node (subst IsSubtree (sym same) (assignment_subtree phrase place takes.1));
      sort = ap (λ (n : PlainNode). sort_of n.label.kind) same ∙ sym (statement there.label.kind takes.0);
      apart =
          not_both_first (is_comment node.label.kind) (is_comment there.label.kind)
          (ap (λ (n : PlainNode). is_comment n.label.kind) same);
      within =
          within_like tree there.label.slot (assignment_node phrase) node (sym (same_roomless node (assignment_node phrase) same))
          (assignment_within tree path there phrase t at);
    }
