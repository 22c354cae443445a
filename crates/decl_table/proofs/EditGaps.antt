-- The gap of an edit with the nodes whose names are kept: which headings and which effective items stay.
use Rattle.std.specs.Prelude.{◌≡◌, refl, ℕ, Bool, true, false, ◌||◌, nat_lt, List, [], ◌∷◌, bytes_eq, length, Option, Some, None, option_and_then, option_map, slice_get, unwrap_or}
use Rattle.std.specs.List.{list_any}
use Rattle.std.specs.Option.{option_flatten}
use Rattle.std.proofs.Common.{ap, sym, ◌∙◌, subst, arith, le-ltb, lt-ltb, true≢false}
use Rattle.std.proofs.lemmas.Option.{none-some}
use Rattle.plcs_base.specs.declared.declared.ItemType.{ItemType}
use Rattle.plcs_grammar.specs.PlainPhrase.{PlainPhrase}
use Rattle.plcs_grammar.specs.declared.node_kind.NodeKind.{NodeKind}
use Rattle.plcs_grammar.specs.declared.template.Template.{Template}
use Rattle.template_tree.specs.declared.change.What.{What}
use Rattle.template_tree.specs.Checks.Environment.{Items, list_items, type_given, with_type}
use Rattle.template_tree.specs.Laws.RoomLaws.{NodesIgnoreRoom, SlotsIgnoreRoom}
use Rattle.template_tree.specs.Laws.TreeLaws.{SlotEditIsPathEdit}
use Rattle.template_tree.specs.Positions.Path.{below, node_at, slot_at}
use Rattle.template_tree.specs.Programs.Part.{with_part}
use Rattle.template_tree.specs.Programs.PlainTree.{Forest, PlainNode, PlainTree, forest, nodes}
use Rattle.template_tree.specs.Programs.Program.{sort_of}
use Rattle.template_tree.specs.Programs.Tree.{IsTree}
use Rattle.decl_table.specs.DeclEdit.{PlainNameEdit}
use Rattle.decl_table.specs.Due.{binds_names}
use Rattle.decl_table.specs.Names.{NameForest, NameLabel}
use Rattle.decl_table.specs.Private.ChangeBefore.{IsBeforeChange, IsEditOf, IsNewNode, old_by, old_node, part_of}
use Rattle.decl_table.specs.Private.HeadingChangesView.{stands_in}
use Rattle.decl_table.specs.Private.NamePaths.{names_below}
use Rattle.decl_table.specs.Private.PlainNameNode.{PlainNameNode, name_node_of, node_names}
use Rattle.decl_table.specs.Private.ReachView.{has_heading, has_items, item_reach, names_bind, reach_of}
use Rattle.decl_table.proofs.EditedHeadings.{Headless, deep_at, headed, headed_alike, headed_deep, headed_gap, unheaded}
use Rattle.decl_table.proofs.EditedNodes.{HasGapOf, StandsAt, alike_set, below_root, gap_add, gap_drop, gap_put, gap_set, part_kept}
use Rattle.decl_table.proofs.EditedScopes.{AreApart, DeclareNone, IsElsewhere, IsQuiet, elsewhere_here, elsewhere_inside, items_alike, items_elsewhere, items_quiet, quiet_here, quiet_inside}
use Rattle.decl_table.proofs.Gaps.{filled}
use Rattle.decl_table.proofs.PreparedNames.{node_roomless}
use Rattle.decl_table.proofs.SlotNodes.{node_of_slot}

-- the node whose names are kept, if it is there, has the label of the node in a list, if one is there
abbrev pub Matches : Option PlainNameNode → List PlainNode → Type 0
Matches None [] = Unit {0}
Matches None (node ∷ nodes) = ⊥
Matches (Some item) [] = ⊥
Matches (Some item) (node ∷ []) = item.label ≡ (name_node_of node).label
Matches (Some item) (node ∷ (other ∷ nodes)) = ⊥

-- all of the nodes are in the slot
abbrev pub AllIn : ℕ → List PlainNode → Type 0
AllIn slot [] = Unit {0}
AllIn slot (node ∷ nodes) = (node.label.slot ≡ slot) × AllIn slot nodes

-- one node stood there, and another one came with the same slot and the same inside
abbrev pub IsSet : (old new : List PlainNode) → Type 0
IsSet old new =
    (one other : PlainNode) × (old ≡ one ∷ []) × (new ≡ other ∷ []) × (one.label.slot ≡ other.label.slot) × (one.inner ≡ other.inner)

-- what stood in a gap and what came there, with the nodes whose names are kept
pub record EditGap (part : Option ℕ) (slot : ℕ) (path : List ℕ) (before after : Forest) (old new : Option PlainNameNode) : Type 0 where
  pub gone : List PlainNode
  pub came : List PlainNode
  pub gap : HasGapOf path before after gone came
  pub old_is : Matches old gone
  pub new_is : Matches new came
  pub gone_in : AllIn slot gone
  pub came_in : AllIn slot came
  pub set : (number : ℕ) → part ≡ Some number → IsSet gone came

-- ---- of each kind of edit

none_is_some : {X : Type 0} (number : ℕ) → (let o : Option ℕ = None in o) ≡ Some number → X
none_is_some number e = absurd (none-some number e)

matched : (found : Option PlainNameNode) (node : PlainNode) → option_map (λ (n : PlainNameNode). n.label) found ≡ Some (name_node_of node).label
    → Matches found (node ∷ [])
matched None node is = absurd (none-some (name_node_of node).label is)
matched (Some item) node is = ap (taken item.label) is
  where
    taken : NameLabel → Option NameLabel → NameLabel
    taken label None = label
    taken label (Some there) = there

matched_names : (found : Option PlainNameNode) (node : PlainNode) → option_map node_names found ≡ Some (node_names (name_node_of node))
    → Matches found (node ∷ [])
matched_names None node is = absurd (none-some (node_names (name_node_of node)) is)
matched_names (Some item) node is = ap (λ (o : Option NameForest). first item.label o) is
  where
    first : NameLabel → Option NameForest → NameLabel
    first label None = label
    first label (Some NameForest.nil) = label
    first label (Some (NameForest.cons own inner rest)) = own

matched_none : (found : Option PlainNameNode) → found ≡ None → Matches found []
matched_none found is = subst (λ (o : Option PlainNameNode). Matches o []) (sym is) tt

pub edit_gap : SlotEditIsPathEdit → NodesIgnoreRoom → SlotsIgnoreRoom → (what : What) (names : NameForest) (slot : ℕ) (after : PlainTree) → IsTree after
    → (b : IsBeforeChange what slot names after) → (edit : PlainNameEdit) → IsEditOf what slot b.before.items after.items edit
    → (root : PlainNameNode) → root.inner ≡ names → (new : Option PlainNameNode) → IsNewNode edit.mend new
    → EditGap (part_of what) slot edit.path b.before.items after.items (old_node edit root) new
edit_gap law rooms slots What.Node names slot after is b edit (old, node, stood, there, was_in, in_it, mend) root inner new is_new =
    let kept = below_root root b.before.items edit.path old (inner ∙ b.agrees) stood in
    record {
      gone = old ∷ [];
      came = node ∷ [];
      gap = gap_put law rooms slots names slot after is b edit.path old node stood there was_in in_it;
      old_is =
          matched (old_node edit root) old
          (ap (λ m. option_map (λ (n : PlainNameNode). n.label) (old_by m (names_below root edit.path))) mend
          ∙ ap (option_map (λ (n : PlainNameNode). n.label)) kept);
      new_is = matched_names new node (subst (λ m. IsNewNode m new) mend is_new);
      gone_in = (was_in, tt);
      came_in = (in_it, tt);
      set = λ number e. none_is_some number e;
    }
edit_gap law rooms slots (What.Part part) names slot after is b edit (old, node, stood, there, was_in, in_it, mend) root inner new is_new =
    let kept = below_root root b.before.items edit.path old (inner ∙ b.agrees) stood in
    let made = with_part part b.differ.0 old in
    let alike = node_roomless node made (alike_set law rooms names slot part after b edit.path old node stood there was_in) in
    record {
      gone = old ∷ [];
      came = made ∷ [];
      gap = gap_set law names slot part after b edit.path old stood was_in;
      old_is =
          matched (old_node edit root) old
          (ap (λ m. option_map (λ (n : PlainNameNode). n.label) (old_by m (names_below root edit.path))) mend
          ∙ ap (option_map (λ (n : PlainNameNode). n.label)) kept);
      new_is = matched new made (subst (λ m. IsNewNode m new) mend is_new ∙ ap (λ (n : PlainNameNode). Some n.label) alike);
      gone_in = (was_in, tt);
      came_in = (was_in, tt);
      set = λ number e. (old, made, refl, refl, refl, refl);
    }
edit_gap law rooms slots What.Added names slot after is b edit (node, room, there, in_it, mend) root inner new is_new =
    record {
      gone = [];
      came = node ∷ [];
      gap = gap_add law names slot after is b edit.path node there in_it;
      old_is = matched_none (old_node edit root) (ap (λ m. old_by m (names_below root edit.path)) mend);
      new_is = matched_names new node (subst (λ m. IsNewNode m new) mend is_new);
      gone_in = tt;
      came_in = (in_it, tt);
      set = λ number e. none_is_some number e;
    }
edit_gap law rooms slots What.Dropped names slot after is b edit (old, stood, was_in, mend) root inner new is_new =
    let kept = below_root root b.before.items edit.path old (inner ∙ b.agrees) stood in
    record {
      gone = old ∷ [];
      came = [];
      gap = gap_drop law names slot after b edit.path old stood was_in;
      old_is =
          matched (old_node edit root) old
          (ap (λ m. option_map (λ (n : PlainNameNode). n.label) (old_by m (names_below root edit.path))) mend
          ∙ ap (option_map (λ (n : PlainNameNode). n.label)) kept);
      new_is = matched_none new (subst (λ m. IsNewNode m new) mend is_new);
      gone_in = (was_in, tt);
      came_in = tt;
      set = λ number e. none_is_some number e;
    }

-- ---- how long the path is

pub short : (k : ℕ) → nat_lt 1 (length (k ∷ [])) ≡ false
short k = le-ltb 1 (length (k ∷ [])) (omega arith)

pub long : (k j : ℕ) (way : List ℕ) → nat_lt 1 (length (k ∷ (j ∷ way))) ≡ true
long k j way = lt-ltb 1 (length (k ∷ (j ∷ way))) (omega arith)

-- ---- which headings stay

headless : (name : List ℕ) (found : Option PlainNameNode) (there : List PlainNode) → Matches found there → stands_in found name ≡ false
    → Headless name there
headless name None [] is none = tt
headless name None (node ∷ rest) is none = absurd is
headless name (Some item) [] is none = absurd is
headless name (Some item) (node ∷ []) is none = (
  unheaded name node
      (sym
      (ap (λ (l : NameLabel). list_any (bytes_eq name) (unwrap_or (option_flatten (slice_get l.parts 0)) [])) is
      ∙ ap (λ (o : Option (List (List ℕ))). list_any (bytes_eq name) (unwrap_or o [])) (part_kept node.label.parts 0))
      ∙ none),
  tt,
)
headless name (Some item) (node ∷ (other ∷ rest)) is none = absurd is

module _ (part : Option ℕ) (slot : ℕ) (path : List ℕ) (before after : Forest) (old new : Option PlainNameNode)
    (e : EditGap part slot path before after old new) where
  -- those of names that stood and stand in no changed heading
  pub heading_stays : (name : List ℕ) → stands_in old name ≡ false → stands_in new name ≡ false → headed name before ≡ headed name after
  heading_stays name gone came =
      headed_alike name before (filled (forest e.gone) e.gap.gap) e.gap.was
      ∙ headed_gap name e.gone e.came e.gap.gap (headless name old e.gone e.old_is gone) (headless name new e.came e.new_is came)
      ∙ sym (headed_alike name after (filled (forest e.came) e.gap.gap) e.gap.is)

  -- all, where the edit was made inside main or a procedure
  pub headings_stay : has_heading (reach_of (nat_lt 1 (length path)) (names_bind old || names_bind new) part) ≡ false → (name : List ℕ)
      → headed name before ≡ headed name after
  headings_stay none name = by path e.gap.place none
    where
      no_item : (p : Option ℕ) → has_heading (item_reach p) ≡ true
      no_item None = refl
      no_item (Some number) = refl

      by : (way : List ℕ) → StandsAt way e.gap.gap
          → has_heading (reach_of (nat_lt 1 (length way)) (names_bind old || names_bind new) part) ≡ false
          → headed name before ≡ headed name after
      by [] at out = absurd at
      by (k ∷ []) at out =
          absurd
          (true≢false
          (sym (no_item part) ∙ sym (ap (λ b. has_heading (reach_of b (names_bind old || names_bind new) part)) (short k)) ∙ out))
      by (k ∷ (j ∷ way)) at out =
          headed_alike name before (filled (forest e.gone) e.gap.gap) e.gap.was
          ∙ headed_deep name (forest e.gone) (forest e.came) e.gap.gap (deep_at k j way e.gap.gap at)
          ∙ sym (headed_alike name after (filled (forest e.came) e.gap.gap) e.gap.is)

-- ---- nodes that bind no names declare nothing

no_type : (kind : NodeKind) (parts : List (Option PlainPhrase)) → binds_names (sort_of kind) ≡ false → type_given kind parts ≡ None
no_type NodeKind.DeclarationHole parts other = refl
no_type NodeKind.StatementHole parts other = refl
no_type NodeKind.ProcedureHole parts other = refl
no_type NodeKind.Main parts other = refl
no_type NodeKind.Assign parts other = refl
no_type (NodeKind.Filled Template.Fixed) parts other = absurd (true≢false other)
no_type (NodeKind.Filled Template.Bit) parts other = absurd (true≢false other)
no_type (NodeKind.Filled Template.Char) parts other = absurd (true≢false other)
no_type (NodeKind.Filled Template.If) parts other = refl
no_type (NodeKind.Filled Template.IfElse) parts other = refl
no_type (NodeKind.Filled Template.While) parts other = refl
no_type (NodeKind.Filled Template.For) parts other = refl
no_type (NodeKind.Filled Template.Until) parts other = refl
no_type (NodeKind.Filled Template.Group) parts other = refl
no_type (NodeKind.Filled Template.Get) parts other = refl
no_type (NodeKind.Filled Template.Put) parts other = refl
no_type (NodeKind.Filled Template.PutSkip) parts other = refl
no_type (NodeKind.Filled Template.Call) parts other = refl
no_type (NodeKind.Filled Template.Return) parts other = refl
no_type (NodeKind.Filled Template.Comment) parts other = refl
no_type (NodeKind.Filled Template.Proc) parts other = refl
no_type (NodeKind.Filled Template.ProcP) parts other = refl

undeclared : (found : Option PlainNameNode) (there : List PlainNode) → Matches found there → names_bind found ≡ false → DeclareNone there
undeclared None [] is none = tt
undeclared None (node ∷ rest) is none = absurd is
undeclared (Some item) [] is none = absurd is
undeclared (Some item) (node ∷ []) is none = (
  ap (λ (t : Option ItemType). with_type t (list_items node.label.parts))
      (no_type node.label.kind node.label.parts (sym (ap (λ (l : NameLabel). binds_names (sort_of l.kind)) is) ∙ none)),
  tt,
)
undeclared (Some item) (node ∷ (other ∷ rest)) is none = absurd is

or_false : (a b : Bool) → (a || b) ≡ false → (a ≡ false) × (b ≡ false)
or_false true b is = absurd (true≢false is)
or_false false b is = (refl, is)

-- ---- which effective items stay

apart : (slot q : ℕ) (there : List PlainNode) → AllIn slot there → (slot ≡ q → ⊥) → AreApart q there
apart slot q [] are other = tt
apart slot q (node ∷ rest) are other = ((λ same. other (sym are.0 ∙ same)), apart slot q rest are.1 other)

module _ (part : Option ℕ) (slot : ℕ) (path : List ℕ) (before after : Forest) (old new : Option PlainNameNode)
    (e : EditGap part slot path before after old new) where
  -- through the gap
  across : (q : ℕ) → Items (filled (forest e.gone) e.gap.gap) q ≡ Items (filled (forest e.came) e.gap.gap) q → Items before q ≡ Items after q
  across q same =
      items_alike q before (filled (forest e.gone) e.gap.gap) e.gap.was
      ∙ same
      ∙ sym (items_alike q after (filled (forest e.came) e.gap.gap) e.gap.is)

  -- all, where no declaration of a procedure was changed
  pub items_stay : has_items (reach_of (nat_lt 1 (length path)) (names_bind old || names_bind new) part) ≡ false → (q : ℕ)
      → Items before q ≡ Items after q
  items_stay none q = across q (items_quiet q e.gone e.came e.gap.gap (by path e.gap.place none))
    where
      inside : (binds : Bool) → has_items (reach_of true binds part) ≡ false → binds ≡ false
      inside true out = absurd (true≢false out)
      inside false out = refl

      here : (k : ℕ) → StandsAt (k ∷ []) e.gap.gap → (p : Option ℕ) → part ≡ p → has_items (item_reach p) ≡ false
          → IsQuiet e.gone e.came e.gap.gap
      here k at None same out = absurd (true≢false out)
      here k at (Some number) same out =
          let set = e.set number same in
          subst (λ g. IsQuiet g e.came e.gap.gap) (sym set.2)
          (subst (λ c. IsQuiet (set.0 ∷ []) c e.gap.gap) (sym set.3) (quiet_here k set.0 set.1 e.gap.gap at set.4 set.5))

      by : (way : List ℕ) → StandsAt way e.gap.gap
          → has_items (reach_of (nat_lt 1 (length way)) (names_bind old || names_bind new) part) ≡ false
          → IsQuiet e.gone e.came e.gap.gap
      by [] at out = absurd at
      by (k ∷ []) at out =
          here k at part refl (sym (ap (λ b. has_items (reach_of b (names_bind old || names_bind new) part)) (short k)) ∙ out)
      by (k ∷ (j ∷ way)) at out =
          let neither = or_false (names_bind old) (names_bind new)
          (inside (names_bind old || names_bind new)
          (sym (ap (λ b. has_items (reach_of b (names_bind old || names_bind new) part)) (long k j way)) ∙ out)) in
          quiet_inside k j way e.gone e.came e.gap.gap at (undeclared old e.gone e.old_is neither.0) (undeclared new e.came e.new_is neither.1)

  -- those of other main and procedures than that of the edit, whose slot this is
  pub items_apart : SlotsIgnoreRoom → (k : ℕ) (way : List ℕ) → path ≡ k ∷ way → (own : ℕ) → (way ≡ [] → own ≡ slot)
      → ((j : ℕ) (rest : List ℕ) → way ≡ j ∷ rest → slot_at after (k ∷ []) ≡ Some own)
      → (q : ℕ) → (own ≡ q → ⊥) → Items before q ≡ Items after q
  items_apart slots k way is own here there q other =
      across q (items_elsewhere q e.gone e.came e.gap.gap (by way refl (subst (λ p. StandsAt p e.gap.gap) is e.gap.place)))
    where
      by : (rest : List ℕ) → way ≡ rest → StandsAt (k ∷ rest) e.gap.gap
          → IsElsewhere q e.gone e.came e.gap.gap
      by [] same at =
          let own_is = here same in
          elsewhere_here q k e.gone e.came e.gap.gap at (apart slot q e.gone e.gone_in (λ f. other (own_is ∙ f)))
          (apart slot q e.came e.came_in (λ f. other (own_is ∙ f)))
      by (j ∷ rest) same at =
          let found =
          node_of_slot (node_at (filled (forest e.came) e.gap.gap) (k ∷ [])) own
          (sym (slots (filled (forest e.came) e.gap.gap) (k ∷ [])) ∙ sym (ap (λ f. slot_at f (k ∷ [])) e.gap.is) ∙ slots after (k ∷ [])
          ∙ there j rest same) in
          elsewhere_inside q k j rest e.gone e.came (forest e.came) e.gap.gap found.0 at
          (first (slice_get (nodes (filled (forest e.came) e.gap.gap)) k) found.0 found.1) (λ f. other (sym found.2 ∙ f))
        where
          first : (o : Option PlainNode) (node : PlainNode)
              → option_and_then (λ (item : PlainNode). below item []) o ≡ Some node
              → o ≡ Some node
          first None node f = f
          first (Some item) node f = f
