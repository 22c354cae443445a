-- The site of a slot, where the node in it is found by its path, and the places of phrases that stand there.
use Rattle.std.specs.Prelude.{◌≡◌, refl, ℕ, zero, suc, ◌≤◌, Bool, false, if◌then◌else◌, List, [], ◌∷◌, Contains, Option, Some, None, option_map, slice_get}
use Rattle.std.specs.Option.{option_flatten, option_map_or, option_or}
use Rattle.std.proofs.Common.{ap, sym, ◌∙◌, subst, arith, eq-eqb, ne_eqb}
use Rattle.std.proofs.lemmas.Option.{none-some}
use Rattle.plcs_base.specs.declared.place.PhraseAt.{PhraseAt}
use Rattle.plcs_grammar.specs.Template.{row_of}
use Rattle.template_tree.specs.declared.change.Change.{Change}
use Rattle.template_tree.specs.declared.change.What.{What}
use Rattle.template_tree.specs.Checks.Mention.{phrase_at}
use Rattle.template_tree.specs.Positions.Path.{node_at}
use Rattle.template_tree.specs.Positions.Place.{PlainPlace, Site, begin, end_at, in_turn, inner_end, place_at, site, site_among}
use Rattle.template_tree.specs.Programs.Part.{part_at}
use Rattle.template_tree.specs.Programs.PlainTree.{Forest, Label, PlainNode, PlainTree, forest}
use Rattle.template_tree.specs.Programs.Slots.{times}
use Rattle.template_tree.specs.Programs.Tree.{IsTree}
use Rattle.decl_table.specs.Due.{AreGone, changed_places, filled_place, phrase_places}
use Rattle.decl_table.specs.Names.{NameForest, NameLabel}
use Rattle.decl_table.specs.DeclEdit.{PlainNameEdit}
use Rattle.decl_table.specs.Private.ChangeBefore.{IsBeforeChange, IsEditOf, IsNewNode, old_by, old_node, part_of, spots_of}
use Rattle.decl_table.specs.Private.NamePaths.{names_below}
use Rattle.decl_table.specs.Private.PlainNameNode.{PlainNameNode, kept_place, name_node_of, name_places, node_names}
use Rattle.decl_table.specs.Private.UsesView.{IsSettled}
use Rattle.decl_table.proofs.EditedNodes.{below_root, part_kept}
use Rattle.decl_table.proofs.EditedScopes.{counted}
use Rattle.decl_table.proofs.KeptMentions.{place_is, places_are}
use Rattle.decl_table.proofs.SlotNodes.{slot_counted}

abbrev taken : PlainNode → Option PlainNode → PlainNode
taken node None = node
taken node (Some there) = there

-- ---- the site of a slot

-- the site of a node in a slot
pub record IsSiteOf (found : Option Site) (node : PlainNode) : Type 0 where
  pub site : Site
  pub is : found ≡ Some site
  pub label : site.label ≡ node.label
  pub inner : site.inner ≡ node.inner

module _ (slot : ℕ) where
  -- what is found among nodes, by whether the first one is in the slot
  abbrev chosen : Bool → (label : Label) (inner : Forest) (after : PlainPlace) → (within behind : Option Site) → Option Site
  chosen own label inner after within behind =
      if own then Some record { label = label; inner = inner; after = after } else option_or within behind

  -- no site is where the slot doesn't stand
  pub site_nowhere : (turn : Bool) (nodes : Forest) (behind : PlainPlace) → times slot nodes ≡ 0 → site_among slot turn nodes behind ≡ None
  site_nowhere turn Forest.nil behind absent = refl
  site_nowhere turn (Forest.cons label inner rest) behind absent =
      let after : PlainPlace = if turn then begin rest behind else behind in
      let last = end_at label.slot (inner_end label.kind) after in
      ap
      (λ b.
      chosen b label inner after (site_among slot (in_turn (row_of label.kind).sections) inner last) (site_among slot turn rest behind))
      (ne_eqb label.slot slot (λ same. let one = counted label.slot slot same in omega (arith, one, absent)))
      ∙ (λ i.
      option_or (site_nowhere (in_turn (row_of label.kind).sections) inner last (omega (arith, absent)) i)
      (site_nowhere turn rest behind (omega (arith, absent)) i))

  or_none : (within behind : Option Site) → within ≡ None → option_or within behind ≡ behind
  or_none within behind none = ap (λ o. option_or o behind) none

  -- the site of the slot where the node in it is at a path
  pub site_found : (turn : Bool) (items : Forest) (behind : PlainPlace) (k : ℕ) (path : List ℕ) (node : PlainNode) → times slot items ≤ 1
      → node_at items (k ∷ path) ≡ Some node → node.label.slot ≡ slot → IsSiteOf (site_among slot turn items behind) node
  site_found turn Forest.nil behind k path node once there own = absurd (none-some node there)
  site_found turn (Forest.cons label inner rest) behind zero [] node once there own =
      let after : PlainPlace = if turn then begin rest behind else behind in
      let last = end_at label.slot (inner_end label.kind) after in
      let same : record { label = label; inner = inner } ≡ node = ap (taken node) there in
      record {
        site = record { label = label; inner = inner; after = after };
        is =
            ap
            (λ b.
            chosen b label inner after (site_among slot (in_turn (row_of label.kind).sections) inner last) (site_among slot turn rest behind))
            (eq-eqb label.slot slot (ap (λ (n : PlainNode). n.label.slot) same ∙ own));
        label = ap (λ (n : PlainNode). n.label) same;
        inner = ap (λ (n : PlainNode). n.inner) same;
      }
  site_found turn (Forest.cons label inner rest) behind zero (j ∷ path) node once there own =
      let after : PlainPlace = if turn then begin rest behind else behind in
      let last = end_at label.slot (inner_end label.kind) after in
      let more = slot_counted inner (j ∷ path) slot (ap (option_map (λ (n : PlainNode). n.label.slot)) there ∙ ap Some own) in
      let within = site_found (in_turn (row_of label.kind).sections) inner last j path node (omega (arith, once)) there own in
      record {
        site = within.site;
        is =
            ap
            (λ b.
            chosen b label inner after (site_among slot (in_turn (row_of label.kind).sections) inner last) (site_among slot turn rest behind))
            (ne_eqb label.slot slot (λ same. let one = counted label.slot slot same in omega (arith, one, more, once)))
            ∙ ap (λ o. option_or o (site_among slot turn rest behind)) within.is;
        label = within.label;
        inner = within.inner;
      }
  site_found turn (Forest.cons label inner rest) behind (suc k) path node once there own =
      let after : PlainPlace = if turn then begin rest behind else behind in
      let last = end_at label.slot (inner_end label.kind) after in
      let more = slot_counted rest (k ∷ path) slot (ap (option_map (λ (n : PlainNode). n.label.slot)) there ∙ ap Some own) in
      let later = site_found turn rest behind k path node (omega (arith, once)) there own in
      record {
        site = later.site;
        is =
            ap
            (λ b.
            chosen b label inner after (site_among slot (in_turn (row_of label.kind).sections) inner last) (site_among slot turn rest behind))
            (ne_eqb label.slot slot (λ same. let one = counted label.slot slot same in omega (arith, one, more, once)))
            ∙ or_none (site_among slot (in_turn (row_of label.kind).sections) inner last) (site_among slot turn rest behind)
            (site_nowhere (in_turn (row_of label.kind).sections) inner last (omega (arith, more, once)))
            ∙ later.is;
        label = later.label;
        inner = later.inner;
      }

-- the site of the node at a path in a tree
pub site_at : (items : Forest) (slot : ℕ) (path : List ℕ) (node : PlainNode) → times slot items ≤ 1 → node_at items path ≡ Some node
    → node.label.slot ≡ slot → IsSiteOf (site items slot) node
site_at items slot [] node once there own = absurd (none-some node there)
site_at items slot (k ∷ path) node once there own = site_found slot false items (place_at 0 1) k path node once there own

-- ---- the places of its phrases

whole_places : (program : Forest) (slot : ℕ) (node : PlainNode) → IsSiteOf (site program slot) node
    → option_map_or (λ (found : Site). phrase_places (Forest.cons found.label found.inner Forest.nil)) (site program slot) []
    ≡ name_places (node_names (name_node_of node))
whole_places program slot node s =
    ap (λ (o : Option Site). option_map_or (λ (found : Site). phrase_places (Forest.cons found.label found.inner Forest.nil)) o []) s.is
    ∙ (λ i. phrase_places (Forest.cons (s.label i) (s.inner i) Forest.nil))
    ∙ sym (places_are (forest (node ∷ [])))

part_places : (program : Forest) (slot part : ℕ) (node : PlainNode) → node.label.slot ≡ slot → IsSiteOf (site program slot) node
    → option_map_or (λ (found : Site). filled_place (phrase_at slot part) (part_at found.label.parts part)) (site program slot) []
    ≡ kept_place (phrase_at node.label.slot part) (option_flatten (slice_get (name_node_of node).label.parts part))
part_places program slot part node own s =
    ap (λ (o : Option Site). option_map_or (λ (found : Site). filled_place (phrase_at slot part) (part_at found.label.parts part)) o []) s.is
    ∙ ap (λ (l : Label). filled_place (phrase_at slot part) (part_at l.parts part)) s.label
    ∙ ap (λ (n : ℕ). filled_place (phrase_at n part) (part_at node.label.parts part)) (sym own)
    ∙ sym (place_is (phrase_at node.label.slot part) (part_at node.label.parts part))
    ∙ ap (kept_place (phrase_at node.label.slot part)) (sym (part_kept node.label.parts part))

-- those that stood where an edit was made are those that are kept of the node there
pub spots_before : (what : What) (names : NameForest) (slot : ℕ) (after : PlainTree) (b : IsBeforeChange what slot names after) (edit : PlainNameEdit)
    → IsEditOf what slot b.before.items after.items edit → (root : PlainNameNode) → root.inner ≡ names
    → times slot b.before.items ≤ 1 → (what ≡ What.Added → times slot b.before.items ≡ 0)
    → changed_places what slot b.before.items ≡ spots_of (part_of what) (old_node edit root)
spots_before What.Node names slot after b edit (old, node, stood, there, was_in, in_it, mend) root inner once fresh =
    whole_places b.before.items slot old (site_at b.before.items slot edit.path old once stood was_in)
    ∙ ap (spots_of None)
    (sym
    (ap (λ m. old_by m (names_below root edit.path)) mend ∙ below_root root b.before.items edit.path old (inner ∙ b.agrees) stood))
spots_before (What.Part part) names slot after b edit (old, node, stood, there, was_in, in_it, mend) root inner once fresh =
    part_places b.before.items slot part old was_in (site_at b.before.items slot edit.path old once stood was_in)
    ∙ ap (spots_of (Some part))
    (sym
    (ap (λ m. old_by m (names_below root edit.path)) mend ∙ below_root root b.before.items edit.path old (inner ∙ b.agrees) stood))
spots_before What.Added names slot after b edit (node, room, there, in_it, mend) root inner once fresh =
    ap
    (λ (o : Option Site). option_map_or (λ (found : Site). phrase_places (Forest.cons found.label found.inner Forest.nil)) o [])
    (site_nowhere slot false b.before.items (place_at 0 1) (fresh refl))
    ∙ ap (spots_of None) (sym (ap (λ m. old_by m (names_below root edit.path)) mend))
spots_before What.Dropped names slot after b edit (old, stood, was_in, mend) root inner once fresh =
    whole_places b.before.items slot old (site_at b.before.items slot edit.path old once stood was_in)
    ∙ ap (spots_of None)
    (sym
    (ap (λ m. old_by m (names_below root edit.path)) mend ∙ below_root root b.before.items edit.path old (inner ∙ b.agrees) stood))

-- the places in the node that is there
node_spots : (found : Option PlainNameNode) (node : PlainNode) → option_map node_names found ≡ Some (node_names (name_node_of node))
    → name_places (node_names (name_node_of node)) ≡ spots_of None found
node_spots None node is = absurd (none-some (node_names (name_node_of node)) is)
node_spots (Some item) node is = ap name_places (sym (ap (taken_names (node_names item)) is))
  where
    taken_names : NameForest → Option NameForest → NameForest
    taken_names names None = names
    taken_names names (Some there) = there

-- the place in a part of the node that is there
label_spots : (found : Option PlainNameNode) (label : NameLabel) (part : ℕ) → option_map (λ (n : PlainNameNode). n.label) found ≡ Some label
    → kept_place (phrase_at label.slot part) (option_flatten (slice_get label.parts part)) ≡ spots_of (Some part) found
label_spots None label part is = absurd (none-some label is)
label_spots (Some item) label part is =
    ap (λ (l : NameLabel). kept_place (phrase_at l.slot part) (option_flatten (slice_get l.parts part))) (sym (ap (taken_label item.label) is))
  where
    taken_label : NameLabel → Option NameLabel → NameLabel
    taken_label own None = own
    taken_label own (Some there) = there

-- those that stand there after the edit are those that are kept of the node that came
pub spots_after : (what : What) (names : NameForest) (slot : ℕ) (after : PlainTree) → IsTree after → (b : IsBeforeChange what slot names after)
    → (edit : PlainNameEdit) → IsEditOf what slot b.before.items after.items edit → (new : Option PlainNameNode) → IsNewNode edit.mend new
    → (what ≡ What.Dropped → times slot after.items ≡ 0)
    → changed_places what slot after.items ≡ spots_of (part_of what) new
spots_after What.Node names slot after is b edit (old, node, stood, there, was_in, in_it, mend) new is_new gone =
    whole_places after.items slot node (site_at after.items slot edit.path node (is.once slot) there in_it)
    ∙ node_spots new node (subst (λ m. IsNewNode m new) mend is_new)
spots_after (What.Part part) names slot after is b edit (old, node, stood, there, was_in, in_it, mend) new is_new gone =
    part_places after.items slot part node in_it (site_at after.items slot edit.path node (is.once slot) there in_it)
    ∙ label_spots new (name_node_of node).label part (subst (λ m. IsNewNode m new) mend is_new)
spots_after What.Added names slot after is b edit (node, room, there, in_it, mend) new is_new gone =
    whole_places after.items slot node (site_at after.items slot edit.path node (is.once slot) there in_it)
    ∙ node_spots new node (subst (λ m. IsNewNode m new) mend is_new)
spots_after What.Dropped names slot after is b edit (old, stood, was_in, mend) new is_new gone =
    ap
    (λ (o : Option Site). option_map_or (λ (found : Site). phrase_places (Forest.cons found.label found.inner Forest.nil)) o [])
    (site_nowhere slot false after.items (place_at 0 1) (gone refl))
    ∙ sym (ap (spots_of None) (subst (λ m. IsNewNode m new) mend is_new))

-- so the places that are settled of them are those that went
pub are_gone : (before : Forest) (change : Change) (places gone : List PhraseAt) → changed_places change.what change.slot.0 before ≡ places
    → IsSettled places gone → AreGone before change gone
are_gone before change places gone is settled = record {
  increasing = settled.increasing;
  each = λ at. (
    λ there. subst (λ ps. Contains ps at) (sym is) ((settled.each at).0 there),
    λ there. (settled.each at).1 (subst (λ ps. Contains ps at) is there),
  );
}
