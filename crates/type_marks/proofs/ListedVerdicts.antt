-- The verdict of a declared list is what is wrong with the list of its node among those of its procedure.
use Rattle.std.proofs.Common.{◌≡◌, ℕ, zero, suc, ◌+◌, ◌≤◌, Bool, true, cond, List, [], ◌∷◌, Option, Some, None, slice_get, refl, sym, ap, subst, ◌∙◌, arith, eq-eqb, ne_eqb}
use Rattle.std.specs.Prelude.{◌==◌, if◌then◌else◌, is_some, nat_eq, option_and_then}
use Rattle.std.specs.FinMap.{get}
use Rattle.std.specs.Map.{lookup}
use Rattle.std.specs.Option.{option_flatten}
use Rattle.std.proofs.lemmas.Option.{same_Some}
use Rattle.plcs_base.specs.declared.declared.Declared.{Declared}
use Rattle.plcs_base.specs.declared.declared.ItemType.{ItemType}
use Rattle.plcs_base.specs.declared.mark.MarkKind.{MarkKind}
use Rattle.plcs_base.specs.declared.place.PhraseAt.{PhraseAt}
use Rattle.plcs_grammar.specs.declared.item.Item.{Item}
use Rattle.plcs_grammar.specs.PlainPhrase.{PlainPhrase}
use Rattle.template_tree.specs.Checks.Environment.{declares, effective, procedure_at, type_given, with_type}
use Rattle.template_tree.specs.Checks.Marks.{Verdicts, declared_before, surroundings, type_in}
use Rattle.template_tree.specs.Checks.Verdict.{declared_offence, verdict}
use Rattle.template_tree.specs.Positions.Path.{below, node_at, slot_at}
use Rattle.template_tree.specs.Programs.Limit.{most_slots}
use Rattle.template_tree.specs.Programs.Part.{part_at}
use Rattle.template_tree.specs.Programs.PlainTree.{Forest, PlainNode, PlainTree, forest, nodes}
use Rattle.template_tree.specs.Programs.Program.{IsSubtree}
use Rattle.template_tree.specs.Programs.Slots.{count, times}
use Rattle.template_tree.specs.Programs.Tree.{IsTree}
use Rattle.decl_table.specs.ListOffences.{ListOffencesAreVerdicts, list_offences}
use Rattle.type_marks.specs.Private.CheckedLists.{AreListsOf, IsListAt, offence_on}
use Rattle.type_marks.specs.Private.MarksView.{procedure_item_on}
use Rattle.type_marks.proofs.CheckedDue.{lists_more}
use Rattle.type_marks.proofs.CheckedPlaces.{is_kept, item_of, slot_of_node}
use Rattle.type_marks.proofs.DeclaredLists.{lists}
use Rattle.type_marks.proofs.FoundPhrases.{once_here}
use Rattle.type_marks.proofs.Programs.{found_item, own_slot, times_item}

-- the type that a node of a procedure gives
type_of_item : (inner : Forest) (k : ℕ) (node : PlainNode) → slice_get (nodes inner) k ≡ Some node → times node.label.slot inner ≤ 1
    → type_in inner node.label.slot ≡ type_given node.label.kind node.label.parts
type_of_item Forest.nil zero node there once = absurd (cc)
type_of_item Forest.nil (suc k) node there once = absurd (cc)
type_of_item (Forest.cons label inner rest) zero node there once =
    let same : record { label = label; inner = inner } ≡ node = cc in
    ap (λ (b : Bool). if b then type_given label.kind label.parts else type_in rest node.label.slot)
    (eq-eqb label.slot node.label.slot (ap (λ (n : PlainNode). n.label.slot) same))
    ∙ ap (λ (n : PlainNode). type_given n.label.kind n.label.parts) same
type_of_item (Forest.cons label inner rest) (suc k) node there once =
    let live : 1 ≤ times node.label.slot rest = omega (arith, own_slot node, times_item rest k node node.label.slot there) in
    ap (λ (b : Bool). if b then type_given label.kind label.parts else type_in rest node.label.slot)
    (ne_eqb label.slot node.label.slot (λ same. omega (arith, once_here label.slot node.label.slot same, live, once)))
    ∙ type_of_item rest k node there (omega (arith, once))

-- the node of a number inside a node
inside_is : (o : Option PlainNode) → option_and_then (λ (item : PlainNode). Some item) o ≡ o
inside_is None = refl
inside_is (Some item) = refl

pub list_verdict : ListOffencesAreVerdicts → (program : Forest) (path : List ℕ) (node procedure : PlainNode) (phrase : PlainPhrase)
    (k part : ℕ) → node_at program path ≡ Some node → procedure_item_on program path ≡ Some procedure → IsListAt phrase path k
    → IsSubtree node → times node.label.slot (forest (procedure ∷ [])) ≤ 1 → part_at node.label.parts part ≡ Some phrase
    → option_flatten (slice_get (list_offences [] procedure.inner) k) ≡ verdict (surroundings program procedure node.label.slot) phrase
list_verdict law program path node procedure phrase k part there on is subtree once stands =
    let at_path : node_at program (is.first ∷ (k ∷ [])) ≡ Some node = ap (node_at program) (sym is.path_is) ∙ there in
    let on_path : slice_get (nodes program) is.first ≡ Some procedure = ap (procedure_item_on program) (sym is.path_is) ∙ on in
    let inside : slice_get (nodes procedure.inner) k ≡ Some node =
    sym (inside_is (slice_get (nodes procedure.inner) k))
    ∙ sym (ap (λ (o : Option PlainNode). option_and_then (λ (item : PlainNode). below item (k ∷ [])) o) on_path)
    ∙ at_path in
    let few : times node.label.slot procedure.inner ≤ 1 = omega (arith, once) in
    ap option_flatten (law procedure.inner k node inside few)
    ∙ ap (declared_offence (effective [] (declared_before procedure.inner node.label.slot)))
    (sym (lists node.label.kind node.label.parts part is.items subtree.0.parts (stands ∙ ap (λ p. Some p) is.is_list))
    ∙ ap (λ (t : Option ItemType). with_type t is.items) (sym (type_of_item procedure.inner k node inside few)))
    ∙ ap (verdict (surroundings program procedure node.label.slot)) (sym is.is_list)

-- the offence on a path whose procedure is this
pub offence_there : (program : Forest) (path : List ℕ) (procedure : PlainNode) (k : ℕ) → procedure_item_on program path ≡ Some procedure
    → offence_on program path k ≡ option_flatten (slice_get (list_offences [] procedure.inner) k)
offence_there program path procedure k on =
    ap (option_and_then (λ (p : PlainNode). option_flatten (slice_get (list_offences [] p.inner) k))) on

-- ---- what the calls find

-- the verdict of a declared list that is filled is what is wrong with it on its path
pub listed_verdict : ListOffencesAreVerdicts → (tree : PlainTree) (at : PhraseAt) (path : List ℕ) (node procedure : PlainNode)
    (phrase : PlainPhrase) (k : ℕ) → IsTree tree → is_some (get (Verdicts tree.items) at) ≡ true → slot_at tree.items path ≡ Some at.slot.0
    → Some node ≡ node_at tree.items path → IsSubtree node → Some procedure ≡ procedure_item_on tree.items path → IsSubtree procedure
    → count procedure.inner + 1 ≤ most_slots → Some phrase ≡ part_at node.label.parts at.part → IsListAt phrase path k
    → get (Verdicts tree.items) at ≡ Some (offence_on tree.items path k)
listed_verdict law tree at path node procedure phrase k is filled slot found subtree on procedure_subtree few there list =
    let own = slot_of_node tree.items path node at.slot.0 (sym found) slot in
    let item = item_of tree at is filled path node procedure (sym found) own (sym on) procedure_subtree few in
    (is_kept tree at path node procedure phrase is filled slot found subtree on procedure_subtree few there).verdict_is
    ∙ ap (λ (n : ℕ). Some (verdict (surroundings tree.items procedure n) phrase)) (sym own)
    ∙ ap (λ (o : Option MarkKind). Some o)
    (sym
    (offence_there tree.items path procedure k (sym on)
    ∙ list_verdict law tree.items path node procedure phrase k at.part (sym found) (sym on) list subtree (item.once node.label.slot) (sym there)))

module _ (tree : PlainTree) (path : List ℕ) (procedure : PlainNode) (slot k : ℕ) (is : IsTree tree)
    (on : Some procedure ≡ procedure_item_on tree.items path) (own : slot ≡ procedure.label.slot) where
  -- the procedure on the path is found by its slot
  found_on : procedure_at tree.items slot ≡ Some procedure
  found_on = by path (sym on)
    where
      by : (way : List ℕ) → procedure_item_on tree.items way ≡ Some procedure → procedure_at tree.items slot ≡ Some procedure
      by [] there = absurd (cc)
      by (j ∷ rest) there =
          ap (procedure_at tree.items) own ∙ found_item tree.items j procedure there (is.once procedure.label.slot)

  -- what is kept of its lists
  pub kept_offence : (entries : List (ℕ × List (Option MarkKind))) (offences : List (Option MarkKind)) → AreListsOf tree.items entries
      → lookup (nat_eq slot) entries ≡ Some offences → option_flatten (slice_get offences k) ≡ offence_on tree.items path k
  kept_offence entries offences are there =
      ap (λ (list : List (Option MarkKind)). option_flatten (slice_get list k)) (are slot offences procedure there found_on)
      ∙ sym (offence_there tree.items path procedure k (sym on))

  -- and what was made of them
  pub made_offence : (offences : List (Option MarkKind)) → offences ≡ list_offences [] procedure.inner
      → option_flatten (slice_get offences k) ≡ offence_on tree.items path k
  made_offence offences made =
      ap (λ (list : List (Option MarkKind)). option_flatten (slice_get list k)) made
      ∙ sym (offence_there tree.items path procedure k (sym on))

  pub made_lists : (before after : List (ℕ × List (Option MarkKind))) (offences : List (Option MarkKind))
      → offences ≡ list_offences [] procedure.inner → AreListsOf tree.items before
      → ((q : ℕ) → lookup (nat_eq q) after ≡ cond (nat_eq slot q) (Some offences) (lookup (nat_eq q) before)) → AreListsOf tree.items after
  made_lists before after offences made are comes =
      lists_more tree.items slot procedure before after offences found_on made are comes
