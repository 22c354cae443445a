-- Main and the procedures of a program, and the nodes in them.
use Rattle.std.proofs.Common.{◌≡◌, ℕ, ◌+◌, ◌≤◌, zero, suc, Bool, true, false, cond, List, [], ◌∷◌, ◌++◌, Option, Some, None, slice_get, refl, ap, subst, ◌∙◌, arith}
use Rattle.std.specs.Prelude.{nat_eq, option_and_then}
use Rattle.std.proofs.lemmas.Bool.Decides.{nat_tests}
use Rattle.plcs_grammar.specs.PlainPhrase.{PlainPhrase}
use Rattle.decl_table.specs.Agreement.{IsDeclsOf}
use Rattle.decl_table.specs.PlainDecls.{PlainDecls}
use Rattle.template_tree.specs.Checks.Environment.{item_named, procedure_at}
use Rattle.template_tree.specs.Programs.Limit.{most_slots}
use Rattle.template_tree.specs.Positions.Path.{below}
use Rattle.template_tree.specs.Programs.PlainTree.{Forest, PlainNode, PlainTree, forest, nodes}
use Rattle.template_tree.specs.Programs.Program.{IsSubtree}
use Rattle.template_tree.specs.Programs.Slots.{count, times}
use Rattle.template_tree.specs.Programs.Tree.{IsTree}
use Rattle.decl_table.specs.Knowledge.{Knows}
use Rattle.type_marks.specs.Private.MarksView.{AreListed, IsIn, IsProcedureItem}
use Rattle.type_marks.proofs.DeclaredLists.{are_listed}
use Rattle.type_marks.proofs.CalledProcedures.{one_if}

-- the table of a program knows all that is asked for
pub knows : (decls : PlainDecls) (program : Forest) → IsDeclsOf decls program → (procedure : PlainNode) (phrase : PlainPhrase)
    → Knows decls program procedure phrase
knows decls program are procedure phrase =
    record {
      items = λ name is. ap (item_named name) (are.items_are procedure.label.slot);
      headings = λ name is. are.headings_are name;
      parameters = λ name is signature there other among. ap (item_named other) (are.items_are signature.slot);
    }

-- ---- one of the items

pub own_slot : (node : PlainNode) → 1 ≤ times node.label.slot (forest (node ∷ []))
own_slot node =
    let yes : nat_eq node.label.slot node.label.slot ≡ true = grind (arith, nat_tests) in
    let one : one_if (nat_eq node.label.slot node.label.slot) ≡ 1 = ap one_if yes in
    omega (arith, one)

-- a slot stands in an item no more often than in the program
pub times_item : (items : Forest) (k : ℕ) (node : PlainNode) (slot : ℕ) → slice_get (nodes items) k ≡ Some node
    → times slot (forest (node ∷ [])) ≤ times slot items
times_item Forest.nil zero node slot there = absurd (cc)
times_item Forest.nil (suc k) node slot there = absurd (cc)
times_item (Forest.cons label inner rest) zero node slot there =
    let same : record { label = label; inner = inner } ≡ node = cc in
    subst (λ (n : PlainNode). times slot (forest (n ∷ [])) ≤ times slot (Forest.cons label inner rest)) same (omega arith)
times_item (Forest.cons label inner rest) (suc k) node slot there = omega (arith, times_item rest k node slot there)

-- an item is found by its slot
pub found_item : (items : Forest) (k : ℕ) (node : PlainNode) → slice_get (nodes items) k ≡ Some node → times node.label.slot items ≤ 1
    → procedure_at items node.label.slot ≡ Some node
found_item Forest.nil zero node there once = absurd (cc)
found_item Forest.nil (suc k) node there once = absurd (cc)
found_item (Forest.cons label inner rest) zero node there once =
    let same : record { label = label; inner = inner } ≡ node = cc in
    let slot : label.slot ≡ node.label.slot = ap (λ (n : PlainNode). n.label.slot) same in
    let yes : nat_eq label.slot node.label.slot ≡ true = grind (arith, nat_tests) in
    ap (λ b. cond b (Some record { label = label; inner = inner }) (procedure_at rest node.label.slot)) yes ∙ ap (λ n. Some n) same
found_item (Forest.cons label inner rest) (suc k) node there once =
    by (nat_eq label.slot node.label.slot) refl (found_item rest k node there (omega (arith, once)))
  where
    by : (here : Bool) → nat_eq label.slot node.label.slot ≡ here → procedure_at rest node.label.slot ≡ Some node
        → procedure_at (Forest.cons label inner rest) node.label.slot ≡ Some node
    by true here behind =
        let one : one_if (nat_eq label.slot node.label.slot) ≡ 1 = ap one_if here in
        absurd (omega (arith, one, once, own_slot node, times_item rest k node node.label.slot there))
    by false here behind =
        ap (λ b. cond b (Some record { label = label; inner = inner }) (procedure_at rest node.label.slot)) here ∙ behind

pub is_item : (tree : PlainTree) (k : ℕ) (procedure : PlainNode) → IsTree tree → slice_get (nodes tree.items) k ≡ Some procedure
    → IsSubtree procedure → count procedure.inner + 1 ≤ most_slots → IsProcedureItem tree.items procedure
is_item tree k procedure is there subtree few =
    record {
      found = found_item tree.items k procedure there (is.once procedure.label.slot);
      subtree = subtree;
      few = omega (arith, few);
      once = λ slot. omega (arith, is.once slot, times_item tree.items k procedure slot there);
    }

-- ---- nodes in a procedure

-- a node in a node that stands in the procedure stands in it too
below_child : (procedure : PlainNode) (path : List ℕ) (node : PlainNode) (k : ℕ) (child : PlainNode) → below procedure path ≡ Some node
    → slice_get (nodes node.inner) k ≡ Some child → below procedure (path ++ (k ∷ [])) ≡ Some child
below_child procedure [] node k child there is =
    let same : procedure ≡ node = cc in
    ap (λ (p : PlainNode). option_and_then (λ (item : PlainNode). Some item) (slice_get (nodes p.inner) k)) same
    ∙ ap (option_and_then (λ (item : PlainNode). Some item)) is
below_child procedure (j ∷ path) node k child there is =
    by (slice_get (nodes procedure.inner) j) there (λ item t. below_child item path node k child t is)
  where
    by : (o : Option PlainNode) → option_and_then (λ item. below item path) o ≡ Some node
        → ((item : PlainNode) → below item path ≡ Some node → below item (path ++ (k ∷ [])) ≡ Some child)
        → option_and_then (λ item. below item (path ++ (k ∷ []))) o ≡ Some child
    by None t again = absurd (cc)
    by (Some item) t again = again item t

pub child_in : (procedure node : PlainNode) (k : ℕ) (child : PlainNode) → IsIn procedure node → slice_get (nodes node.inner) k ≡ Some child
    → IsIn procedure child
child_in procedure node k child inside is = (inside.0 ++ (k ∷ []), below_child procedure inside.0 node k child inside.1 is)

-- each declared list of a node stands where it belongs
pub listed_in : (program : Forest) (procedure node : PlainNode) → IsProcedureItem program procedure → IsIn procedure node → IsSubtree node
    → AreListed procedure.inner node.label
listed_in program procedure node item inside subtree =
    are_listed procedure inside.0 node inside.1 subtree.0.parts (item.once node.label.slot)
