-- Where main or a procedure was changed as a whole, or a part of its heading was set: its effective items and headings stay
-- of a name that is bound neither in what stood there nor in what stands there.
use Rattle.std.proofs.Common.{◌≡◌, ℕ, Bool, true, false, List, [], ◌∷◌, Some, None, refl, ap, sym, subst, ◌∙◌, ◌⊎◌, inl, inr, eq-eqb, eqb-true, true≢false}
use Rattle.std.specs.Prelude.{◌==◌, ◌&&◌, ◌||◌, flat_map}
use Rattle.std.proofs.lemmas.Option.{none-some}
use Rattle.template_tree.specs.declared.change.What.{What}
use Rattle.template_tree.specs.Checks.Environment.{Items, Sig, item_named}
use Rattle.template_tree.specs.Laws.CheckLaws.{ChecksIgnoreRoom}
use Rattle.template_tree.specs.Laws.RoomLaws.{NodesIgnoreRoom, SlotsIgnoreRoom}
use Rattle.template_tree.specs.Laws.TreeLaws.{SlotEditIsPathEdit}
use Rattle.template_tree.specs.Positions.Path.{node_at}
use Rattle.template_tree.specs.Programs.Part.{with_part}
use Rattle.template_tree.specs.Programs.PlainTree.{Forest, Label, PlainNode, PlainTree}
use Rattle.template_tree.specs.Programs.Program.{sort_of}
use Rattle.template_tree.specs.Programs.Tree.{IsTree}
use Rattle.decl_table.specs.DeclEdit.{PlainNameEdit}
use Rattle.decl_table.specs.Due.{binds_at, binds_names, bound_names, changed_names, part_names}
use Rattle.decl_table.specs.Names.{NameForest}
use Rattle.decl_table.specs.Private.ChangeBefore.{IsBeforeChange, IsEditOf, part_of}
use Rattle.decl_table.proofs.AffectedHeadings.{is_in}
use Rattle.decl_table.proofs.AffectedNames.{sig_here, unbound_head}
use Rattle.decl_table.proofs.BoundNames.{bound_first, unbound_item}
use Rattle.decl_table.proofs.BoundSites.{own_site, site_binds, whole_site}
use Rattle.decl_table.proofs.EditProcedures.{added_fresh, dropped_gone, item_at, item_binds}
use Rattle.decl_table.proofs.EditedNodes.{alike_set, gap_add, gap_drop, gap_put, gap_set}
use Rattle.decl_table.proofs.EditedScopes.{items_nowhere, items_there}
use Rattle.decl_table.proofs.FoundSites.{site_at}

-- ---- what was changed binds names

-- main or a procedure does, before the edit or after it
pub top_binds : (what : What) (names : NameForest) (slot : ℕ) (after : PlainTree) → IsTree after → (b : IsBeforeChange what slot names after)
    (edit : PlainNameEdit) → IsEditOf what slot b.before.items after.items edit → (k : ℕ) → edit.path ≡ k ∷ []
    → (binds_at b.before.items slot ≡ true) ⊎ (binds_at after.items slot ≡ true)
top_binds What.Node names slot after is b edit (old, node, stood, there, was_in, in_it, mend) k way =
    inr
    (site_binds after.items slot node (site_at after.items slot edit.path node (is.once slot) there in_it)
    ∙ item_binds after is k node (sym (ap (node_at after.items) way) ∙ there))
top_binds (What.Part part) names slot after is b edit (old, node, stood, there, was_in, in_it, mend) k way =
    inr
    (site_binds after.items slot node (site_at after.items slot edit.path node (is.once slot) there in_it)
    ∙ item_binds after is k node (sym (ap (node_at after.items) way) ∙ there))
top_binds What.Added names slot after is b edit (node, room, there, in_it, mend) k way =
    inr
    (site_binds after.items slot node (site_at after.items slot edit.path node (is.once slot) there in_it)
    ∙ item_binds after is k node (sym (ap (node_at after.items) way) ∙ there))
top_binds What.Dropped names slot after is b edit (old, stood, was_in, mend) k way =
    inl
    (site_binds b.before.items slot old (site_at b.before.items slot edit.path old (b.tree.once slot) stood was_in)
    ∙ item_binds b.before b.tree k old (sym (ap (node_at b.before.items) way) ∙ stood))

-- where a part was set, the node binds names before exactly where it does after
pub set_binds : SlotEditIsPathEdit → NodesIgnoreRoom → (what : What) (names : NameForest) (slot : ℕ) (after : PlainTree) → IsTree after
    → (b : IsBeforeChange what slot names after) (edit : PlainNameEdit) → IsEditOf what slot b.before.items after.items edit
    → (number : ℕ) → part_of what ≡ Some number → binds_at b.before.items slot ≡ binds_at after.items slot
set_binds law rooms What.Node names slot after is b edit of number set = absurd (none-some number set)
set_binds law rooms (What.Part part) names slot after is b edit (old, node, stood, there, was_in, in_it, mend) number set =
    site_binds b.before.items slot old (site_at b.before.items slot edit.path old (b.tree.once slot) stood was_in)
    ∙ sym
    (ap (λ (n : PlainNode). binds_names (sort_of n.label.kind)) (alike_set law rooms names slot part after b edit.path old node stood there was_in))
    ∙ sym (site_binds after.items slot node (site_at after.items slot edit.path node (is.once slot) there in_it))
set_binds law rooms What.Added names slot after is b edit of number set = absurd (none-some number set)
set_binds law rooms What.Dropped names slot after is b edit of number set = absurd (none-some number set)

-- ---- a name that isn't bound there

-- the effective heading of the name stays, and what each procedure has of it
pub record IsQuietName (name : List ℕ) (before after : Forest) : Type 0 where
  pub heading : Sig before name ≡ Sig after name
  pub items : (slot : ℕ) → item_named name (Items before slot) ≡ item_named name (Items after slot)

unbound_inside : (name : List ℕ) (label : Label) (inner : Forest) → binds_names (sort_of label.kind) ≡ true
    → is_in name (bound_names (Forest.cons label inner Forest.nil)) ≡ false → is_in name (bound_names inner) ≡ false
unbound_inside name label inner binds unbound =
    by (is_in name (flat_map part_names label.parts)) (is_in name (bound_names inner))
    (ap (λ (b : Bool). (b && (is_in name (flat_map part_names label.parts) || is_in name (bound_names inner))) || false) (sym binds)
    ∙ sym (bound_first name label inner Forest.nil) ∙ unbound)
  where
    by : (x y : Bool) → ((true && (x || y)) || false) ≡ false → y ≡ false
    by true true e = e
    by true false e = refl
    by false true e = e
    by false false e = refl

item_none : (tree : PlainTree) → IsTree tree → (slot k : ℕ) (node : PlainNode) → node_at tree.items (k ∷ []) ≡ Some node → node.label.slot ≡ slot
    → (name : List ℕ) → is_in name (bound_names (Forest.cons node.label node.inner Forest.nil)) ≡ false
    → item_named name (Items tree.items slot) ≡ None
item_none tree is slot k node there in_it name unbound =
    ap (λ (n : ℕ). item_named name (Items tree.items n)) (sym in_it)
    ∙ ap (item_named name) (items_there tree.items k node (sym (item_at tree.items k) ∙ there) (is.once node.label.slot))
    ∙ unbound_item name node.inner (unbound_inside name node.label node.inner (item_binds tree is k node there) unbound)

-- of the slot of the edit, and of the others
items_quiet : (name : List ℕ) (before after : Forest) (slot : ℕ) → ((q : ℕ) → (slot ≡ q → ⊥) → Items before q ≡ Items after q)
    → item_named name (Items before slot) ≡ item_named name (Items after slot) → (q : ℕ)
    → item_named name (Items before q) ≡ item_named name (Items after q)
items_quiet name before after slot others own q = by (slot == q) refl
  where
    by : (b : Bool) → (slot == q) ≡ b → item_named name (Items before q) ≡ item_named name (Items after q)
    by true e =
        subst (λ (n : ℕ). item_named name (Items before n) ≡ item_named name (Items after n)) (eqb-true slot q e) own
    by false e = ap (item_named name) (others q (λ same. true≢false (sym (eq-eqb slot q same) ∙ e)))

pub top_quiet : SlotEditIsPathEdit → NodesIgnoreRoom → SlotsIgnoreRoom → ChecksIgnoreRoom → (what : What) (names : NameForest) (slot : ℕ)
    (after : PlainTree) → IsTree after → (b : IsBeforeChange what slot names after) (edit : PlainNameEdit)
    → IsEditOf what slot b.before.items after.items edit → (k : ℕ) → edit.path ≡ k ∷ []
    → ((q : ℕ) → (slot ≡ q → ⊥) → Items b.before.items q ≡ Items after.items q)
    → ((number : ℕ) → part_of what ≡ Some number → (q : ℕ) → Items b.before.items q ≡ Items after.items q)
    → (name : List ℕ) → is_in name (changed_names what slot b.before.items) ≡ false → is_in name (changed_names what slot after.items) ≡ false
    → IsQuietName name b.before.items after.items
top_quiet law rooms slots room What.Node names slot after is b edit (old, node, stood, there, was_in, in_it, mend) k way others set name gone came =
    let at_before : node_at b.before.items (k ∷ []) ≡ Some old = sym (ap (node_at b.before.items) way) ∙ stood in
    let at_after : node_at after.items (k ∷ []) ≡ Some node = sym (ap (node_at after.items) way) ∙ there in
    let gap = gap_put law rooms slots names slot after is b (k ∷ []) old node at_before at_after was_in in_it in
    let unbound_old : is_in name (bound_names (Forest.cons old.label old.inner Forest.nil)) ≡ false =
    sym (ap (is_in name) (whole_site b.before.items slot old (site_at b.before.items slot edit.path old (b.tree.once slot) stood was_in)))
    ∙ gone in
    let unbound_new : is_in name (bound_names (Forest.cons node.label node.inner Forest.nil)) ≡ false =
    sym (ap (is_in name) (whole_site after.items slot node (site_at after.items slot edit.path node (is.once slot) there in_it))) ∙ came in
    record {
      heading =
          sig_here room b.before.items after.items (old ∷ []) (node ∷ []) gap.gap gap.was gap.is k gap.place name
          (unbound_head name old.label old.inner old.inner unbound_old, tt) (unbound_head name node.label node.inner node.inner unbound_new, tt);
      items =
          items_quiet name b.before.items after.items slot others
          (item_none b.before b.tree slot k old at_before was_in name unbound_old
          ∙ sym (item_none after is slot k node at_after in_it name unbound_new));
    }
top_quiet law rooms slots room (What.Part part) names slot after is b edit (old, node, stood, there, was_in, in_it, mend) k way others set name gone came =
    let at_before : node_at b.before.items (k ∷ []) ≡ Some old = sym (ap (node_at b.before.items) way) ∙ stood in
    let gap = gap_set law names slot part after b (k ∷ []) old at_before was_in in
    let made = with_part part b.differ.0 old in
    let unbound_old : is_in name (bound_names (Forest.cons old.label Forest.nil Forest.nil)) ≡ false =
    sym (ap (is_in name) (own_site b.before.items slot old (site_at b.before.items slot edit.path old (b.tree.once slot) stood was_in))) ∙ gone in
    let unbound_new : is_in name (bound_names (Forest.cons made.label Forest.nil Forest.nil)) ≡ false =
    sym
    (ap (λ (n : PlainNode). is_in name (bound_names (Forest.cons n.label Forest.nil Forest.nil)))
    (alike_set law rooms names slot part after b edit.path old node stood there was_in))
    ∙ sym (ap (is_in name) (own_site after.items slot node (site_at after.items slot edit.path node (is.once slot) there in_it)))
    ∙ came in
    record {
      heading =
          sig_here room b.before.items after.items (old ∷ []) (made ∷ []) gap.gap gap.was gap.is k gap.place name
          (unbound_head name old.label old.inner Forest.nil unbound_old, tt) (unbound_head name made.label made.inner Forest.nil unbound_new, tt);
      items = λ q. ap (item_named name) (set part refl q);
    }
top_quiet law rooms slots room What.Added names slot after is b edit (node, spare, there, in_it, mend) k way others set name gone came =
    let at_after : node_at after.items (k ∷ []) ≡ Some node = sym (ap (node_at after.items) way) ∙ there in
    let gap = gap_add law names slot after is b (k ∷ []) node at_after in_it in
    let unbound_new : is_in name (bound_names (Forest.cons node.label node.inner Forest.nil)) ≡ false =
    sym (ap (is_in name) (whole_site after.items slot node (site_at after.items slot edit.path node (is.once slot) there in_it))) ∙ came in
    record {
      heading =
          sig_here room b.before.items after.items [] (node ∷ []) gap.gap gap.was gap.is k gap.place name tt
          (unbound_head name node.label node.inner node.inner unbound_new, tt);
      items =
          items_quiet name b.before.items after.items slot others
          (ap (item_named name) (items_nowhere b.before.items slot (added_fresh law names slot after is b edit.path node there in_it))
          ∙ sym (item_none after is slot k node at_after in_it name unbound_new));
    }
top_quiet law rooms slots room What.Dropped names slot after is b edit (old, stood, was_in, mend) k way others set name gone came =
    let at_before : node_at b.before.items (k ∷ []) ≡ Some old = sym (ap (node_at b.before.items) way) ∙ stood in
    let gap = gap_drop law names slot after b (k ∷ []) old at_before was_in in
    let unbound_old : is_in name (bound_names (Forest.cons old.label old.inner Forest.nil)) ≡ false =
    sym (ap (is_in name) (whole_site b.before.items slot old (site_at b.before.items slot edit.path old (b.tree.once slot) stood was_in)))
    ∙ gone in
    record {
      heading =
          sig_here room b.before.items after.items (old ∷ []) [] gap.gap gap.was gap.is k gap.place name
          (unbound_head name old.label old.inner old.inner unbound_old, tt) tt;
      items =
          items_quiet name b.before.items after.items slot others
          (item_none b.before b.tree slot k old at_before was_in name unbound_old
          ∙ sym (ap (item_named name) (items_nowhere after.items slot (dropped_gone law names slot after b edit.path old stood was_in))));
    }
