-- What is known of a place where a phrase stands.
use Rattle.std.proofs.Common.{◌≡◌, ℕ, ◌+◌, ◌≤◌, List, [], ◌∷◌, Option, Some, None, option_map, slice_get, refl, sym, ap, subst, ◌∙◌}
use Rattle.std.specs.Prelude.{true, is_some, option_and_then}
use Rattle.std.specs.FinMap.{get}
use Rattle.plcs_base.specs.declared.place.PhraseAt.{PhraseAt}
use Rattle.template_tree.specs.Programs.Part.{part_at}
use Rattle.template_tree.specs.Checks.Marks.{Verdicts, surroundings}
use Rattle.template_tree.specs.Positions.Path.{below, node_at, slot_at}
use Rattle.template_tree.specs.Programs.PlainTree.{Forest, PlainNode, PlainTree, nodes}
use Rattle.template_tree.specs.Programs.Slots.{count, times}
use Rattle.template_tree.specs.Programs.Tree.{IsTree}
use Rattle.template_tree.specs.Checks.Verdict.{verdict}
use Rattle.plcs_grammar.specs.PlainPhrase.{PlainPhrase}
use Rattle.template_tree.specs.Checks.Environment.{procedure_at}
use Rattle.template_tree.specs.Programs.Limit.{most_slots}
use Rattle.template_tree.specs.Programs.Program.{IsSubtree}
use Rattle.decl_table.specs.Knowledge.{Stands}
use Rattle.type_marks.specs.Private.DeclaredItems.{IsListIn}
use Rattle.type_marks.specs.Private.MarksView.{IsIn, IsProcedureItem, procedure_item_on}
use Rattle.type_marks.proofs.PlacedVerdicts.{no_verdict, verdict_at}
use Rattle.type_marks.proofs.Programs.{is_item, listed_in}

-- a path to a node leads to main or a procedure, and from there to the node
pub record Leads (program : Forest) (path : List ℕ) (node : PlainNode) : Type 0 where
  pub first : ℕ
  pub others : List ℕ
  pub procedure : PlainNode
  pub item_is : slice_get (nodes program) first ≡ Some procedure
  pub on_is : procedure_item_on program path ≡ Some procedure
  pub node_is : below procedure others ≡ Some node

pub leads : (program : Forest) (path : List ℕ) (node : PlainNode) → node_at program path ≡ Some node → Leads program path node
leads program [] node there = absurd (cc)
leads program (k ∷ path) node there = by (slice_get (nodes program) k) refl there
  where
    by : (o : Option PlainNode) → slice_get (nodes program) k ≡ o → option_and_then (λ item. below item path) o ≡ Some node → Leads program (k ∷ path) node
    by None is there = absurd (cc)
    by (Some item) is there =
        record { first = k; others = path; procedure = item; item_is = is; on_is = is; node_is = there }

-- the slot of the node at a path
pub slot_of_node : (program : Forest) (path : List ℕ) (node : PlainNode) (slot : ℕ) → node_at program path ≡ Some node
    → slot_at program path ≡ Some slot → node.label.slot ≡ slot
slot_of_node program path node slot there is =
    some_is (sym (ap (option_map (λ (n : PlainNode). n.label.slot)) there) ∙ is)
  where
    some_is : Some node.label.slot ≡ Some slot → node.label.slot ≡ slot
    some_is e = cc

-- ---- a filled phrase

module _ (tree : PlainTree) (at : PhraseAt) (is : IsTree tree) (filled : is_some (get (Verdicts tree.items) at) ≡ true) where
  -- its slot is live
  pub not_dead : times at.slot.0 tree.items ≡ 0 → ⊥
  not_dead absent = let none = no_verdict tree.items at absent in absurd (cc (ap is_some none))

  -- the part is filled, and its verdict is kept
  module _ (path : List ℕ) (node procedure : PlainNode) (there : node_at tree.items path ≡ Some node) (slot : node.label.slot ≡ at.slot.0)
      (on : procedure_item_on tree.items path ≡ Some procedure) where
    kept_at : (l : Leads tree.items path node) → l.procedure ≡ procedure
        → get (Verdicts tree.items) at ≡ option_map (verdict (surroundings tree.items procedure at.slot.0)) (part_at node.label.parts at.part)
    kept_at l same =
        verdict_at tree.items at l.first l.others l.procedure node l.item_is l.node_is slot (is.once at.slot.0)
        ∙ ap (λ (p : PlainNode). option_map (verdict (surroundings tree.items p at.slot.0)) (part_at node.label.parts at.part)) same

    one_item : (l : Leads tree.items path node) → l.procedure ≡ procedure
    one_item l = some_is (sym l.on_is ∙ on)
      where
        some_is : Some l.procedure ≡ Some procedure → l.procedure ≡ procedure
        some_is e = cc

    pub kept : get (Verdicts tree.items) at ≡ option_map (verdict (surroundings tree.items procedure at.slot.0)) (part_at node.label.parts at.part)
    kept = kept_at (leads tree.items path node there) (one_item (leads tree.items path node there))

    pub not_empty : part_at node.label.parts at.part ≡ None → ⊥
    not_empty none =
        let absent : get (Verdicts tree.items) at ≡ None = kept ∙ ap (option_map (verdict (surroundings tree.items procedure at.slot.0))) none in
        absurd (cc (ap is_some absent))

    pub kept_phrase : (phrase : PlainPhrase) → part_at node.label.parts at.part ≡ Some phrase
        → get (Verdicts tree.items) at ≡ Some (verdict (surroundings tree.items procedure at.slot.0) phrase)
    kept_phrase phrase there = kept ∙ ap (option_map (verdict (surroundings tree.items procedure at.slot.0))) there

    -- the phrase stands in the procedure
    pub stands : (phrase : PlainPhrase) → part_at node.label.parts at.part ≡ Some phrase → Stands tree.items at procedure phrase
    stands phrase filled =
        stands_by (leads tree.items path node there) (one_item (leads tree.items path node there))
      where
        stands_by : (l : Leads tree.items path node) → l.procedure ≡ procedure → Stands tree.items at procedure phrase
        stands_by l same =
            subst (λ p. Stands tree.items at p phrase) same
            record {
              number = l.first;
              path = l.others;
              node = node;
              item_is = l.item_is;
              node_is = l.node_is;
              slot_is = slot;
              phrase_is = filled;
            }

    -- and its procedure is an item of the program
    pub item_of : IsSubtree procedure → count procedure.inner + 1 ≤ most_slots → IsProcedureItem tree.items procedure
    item_of subtree few = item_by (leads tree.items path node there) (one_item (leads tree.items path node there))
      where
        item_by : (l : Leads tree.items path node) → l.procedure ≡ procedure → IsProcedureItem tree.items procedure
        item_by l same = is_item tree l.first procedure is (l.item_is ∙ ap (λ p. Some p) same) subtree few

    -- in which the node stands
    pub inside : IsIn procedure node
    inside = in_by (leads tree.items path node there) (one_item (leads tree.items path node there))
      where
        in_by : (l : Leads tree.items path node) → l.procedure ≡ procedure → IsIn procedure node
        in_by l same = (l.others, ap (λ (p : PlainNode). below p l.others) (sym same) ∙ l.node_is)

-- ---- what the call finds

-- the phrase stands in the procedure, which is an item of the program, and its verdict is kept
pub record IsKept (tree : PlainTree) (at : PhraseAt) (procedure : PlainNode) (phrase : PlainPhrase) : Type 0 where
  pub found : procedure_at tree.items procedure.label.slot ≡ Some procedure
  pub stands : Stands tree.items at procedure phrase
  pub listed : IsListIn procedure.inner at.slot.0 phrase
  pub verdict_is : get (Verdicts tree.items) at ≡ Some (verdict (surroundings tree.items procedure at.slot.0) phrase)

pub is_kept : (tree : PlainTree) (at : PhraseAt) (path : List ℕ) (node procedure : PlainNode) (phrase : PlainPhrase) → IsTree tree
    → is_some (get (Verdicts tree.items) at) ≡ true → slot_at tree.items path ≡ Some at.slot.0 → Some node ≡ node_at tree.items path
    → IsSubtree node → Some procedure ≡ procedure_item_on tree.items path → IsSubtree procedure → count procedure.inner + 1 ≤ most_slots
    → Some phrase ≡ part_at node.label.parts at.part → IsKept tree at procedure phrase
is_kept tree at path node procedure phrase is filled slot found subtree on procedure_subtree few there =
    let own = slot_of_node tree.items path node at.slot.0 (sym found) slot in
    let item = item_of tree at is filled path node procedure (sym found) own (sym on) procedure_subtree few in
    let within = inside tree at is filled path node procedure (sym found) own (sym on) in
    record {
      found = item.found;
      stands = stands tree at is filled path node procedure (sym found) own (sym on) phrase (sym there);
      listed =
          subst (λ s. IsListIn procedure.inner s phrase) own
          (listed_in tree.items procedure node item within subtree at.part phrase (sym there));
      verdict_is = kept_phrase tree at is filled path node procedure (sym found) own (sym on) phrase (sym there);
    }
