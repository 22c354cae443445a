-- The names that stood and stand in a declaration or a heading that was changed, by the names that are kept of its nodes.
use Rattle.std.proofs.Common.{◌≡◌, ℕ, Bool, true, false, List, [], ◌∷◌, map, Option, Some, None, refl, ap, sym, subst, ◌∙◌}
use Rattle.std.specs.Prelude.{◌&&◌, ◌||◌, bytes_eq, flat_map, if◌then◌else◌, option_map}
use Rattle.std.specs.Option.{option_map_or}
use Rattle.std.proofs.lemmas.List.Concat.{flat_map-cons}
use Rattle.std.proofs.lemmas.List.Folds.{list_any-append}
use Rattle.std.proofs.lemmas.Option.{none-some}
use Rattle.plcs_grammar.specs.PlainPhrase.{PlainPhrase}
use Rattle.template_tree.specs.declared.change.What.{What}
use Rattle.template_tree.specs.Checks.Mention.{mentioned}
use Rattle.template_tree.specs.Positions.Place.{Site, place_at, site}
use Rattle.template_tree.specs.Programs.PlainTree.{Forest, Label, PlainNode, PlainTree, forest}
use Rattle.template_tree.specs.Programs.Program.{sort_of}
use Rattle.template_tree.specs.Programs.Slots.{times}
use Rattle.template_tree.specs.Programs.Tree.{IsTree}
use Rattle.decl_table.specs.DeclEdit.{PlainNameEdit}
use Rattle.decl_table.specs.Due.{binds_at, binds_names, bound_names, changed_names, part_names}
use Rattle.decl_table.specs.Names.{NameForest, NameLabel, kept_names, names_of}
use Rattle.decl_table.specs.Private.ChangeBefore.{IsBeforeChange, IsEditOf, IsNewNode, old_by, old_node, part_of}
use Rattle.decl_table.specs.Private.NamePaths.{names_below}
use Rattle.decl_table.specs.Private.NameTests.{bound_has, bound_of, part_has, parts_have}
use Rattle.decl_table.specs.Private.PlainNameNode.{PlainNameNode, name_node_of, node_names}
use Rattle.decl_table.specs.Private.ReachView.{names_bind}
use Rattle.decl_table.proofs.AffectedHeadings.{is_in}
use Rattle.decl_table.proofs.BoundNames.{bound_first}
use Rattle.decl_table.proofs.EditedNodes.{below_root}
use Rattle.decl_table.proofs.FoundSites.{IsSiteOf, site_at, site_nowhere}
use Rattle.decl_table.proofs.KeptMentions.{any_reverse}

-- ---- names that are kept

part_has_is : (name : List ℕ) (place : Option PlainPhrase) → part_has (option_map kept_names place) name ≡ is_in name (part_names place)
part_has_is name None = refl
part_has_is name (Some phrase) = any_reverse (bytes_eq name) (mentioned phrase)

pub parts_have_are : (name : List ℕ) (parts : List (Option PlainPhrase))
    → parts_have (map (option_map kept_names) parts) name ≡ is_in name (flat_map part_names parts)
parts_have_are name [] = refl
parts_have_are name (place ∷ parts) =
    (λ i. part_has_is name place i || parts_have_are name parts i)
    ∙ sym (list_any-append (bytes_eq name) (part_names place) (flat_map part_names parts))
    ∙ sym (ap (is_in name) (flat_map-cons part_names place parts))

as_and : (b x : Bool) → (if b then x else false) ≡ (b && x)
as_and true x = refl
as_and false x = refl

pub bound_has_is : (name : List ℕ) (items : Forest) → bound_has (names_of items) name ≡ is_in name (bound_names items)
bound_has_is name Forest.nil = refl
bound_has_is name (Forest.cons label inner rest) =
    (λ i.
    (if binds_names (sort_of label.kind) then (parts_have_are name label.parts i || bound_has_is name inner i) else false)
    || bound_has_is name rest i)
    ∙ ap (λ (b : Bool). b || is_in name (bound_names rest))
    (as_and (binds_names (sort_of label.kind)) (is_in name (flat_map part_names label.parts) || is_in name (bound_names inner)))
    ∙ sym (bound_first name label inner rest)

-- ---- of the node at a site

-- those that a node binds, where it binds some
abbrev with_bind : Option PlainNameNode → Bool → Bool
with_bind found b = names_bind found && b

pub bind_twice : (b x : Bool) → ((if b then x else false) || false) ≡ (b && ((if b then x else false) || false))
bind_twice true x = refl
bind_twice false x = refl

-- those of the node with what is inside it, and those of its own parts
pub whole_site : (program : Forest) (slot : ℕ) (node : PlainNode) → IsSiteOf (site program slot) node
    → option_map_or (λ (found : Site). bound_names (Forest.cons found.label found.inner Forest.nil)) (site program slot) []
    ≡ bound_names (Forest.cons node.label node.inner Forest.nil)
whole_site program slot node s =
    ap (λ (o : Option Site). option_map_or (λ (found : Site). bound_names (Forest.cons found.label found.inner Forest.nil)) o []) s.is
    ∙ (λ i. bound_names (Forest.cons (s.label i) (s.inner i) Forest.nil))

pub own_site : (program : Forest) (slot : ℕ) (node : PlainNode) → IsSiteOf (site program slot) node
    → option_map_or (λ (found : Site). bound_names (Forest.cons found.label Forest.nil Forest.nil)) (site program slot) []
    ≡ bound_names (Forest.cons node.label Forest.nil Forest.nil)
own_site program slot node s =
    ap (λ (o : Option Site). option_map_or (λ (found : Site). bound_names (Forest.cons found.label Forest.nil Forest.nil)) o []) s.is
    ∙ ap (λ (l : Label). bound_names (Forest.cons l Forest.nil Forest.nil)) s.label

whole_names : (name : List ℕ) (program : Forest) (slot : ℕ) (node : PlainNode) → IsSiteOf (site program slot) node
    → is_in name (option_map_or (λ (found : Site). bound_names (Forest.cons found.label found.inner Forest.nil)) (site program slot) [])
    ≡ (binds_names (sort_of node.label.kind) && bound_has (node_names (name_node_of node)) name)
whole_names name program slot node s =
    ap (is_in name) (whole_site program slot node s)
    ∙ sym (bound_has_is name (forest (node ∷ [])))
    ∙ bind_twice (binds_names (sort_of node.label.kind))
    (parts_have (name_node_of node).label.parts name || bound_has (name_node_of node).inner name)

own_names : (name : List ℕ) (program : Forest) (slot : ℕ) (node : PlainNode) → IsSiteOf (site program slot) node
    → is_in name (option_map_or (λ (found : Site). bound_names (Forest.cons found.label Forest.nil Forest.nil)) (site program slot) [])
    ≡ (binds_names (sort_of node.label.kind) && parts_have (name_node_of node).label.parts name)
own_names name program slot node s =
    ap (is_in name) (own_site program slot node s)
    ∙ bound_first name node.label Forest.nil Forest.nil
    ∙ plain (binds_names (sort_of node.label.kind)) (is_in name (flat_map part_names node.label.parts))
    ∙ ap (λ (b : Bool). binds_names (sort_of node.label.kind) && b) (sym (parts_have_are name node.label.parts))
  where
    plain : (b x : Bool) → ((b && (x || false)) || false) ≡ (b && x)
    plain true true = refl
    plain true false = refl
    plain false x = refl

pub site_binds : (program : Forest) (slot : ℕ) (node : PlainNode) → IsSiteOf (site program slot) node
    → binds_at program slot ≡ binds_names (sort_of node.label.kind)
site_binds program slot node s =
    ap (λ (o : Option Site). option_map_or (λ (found : Site). binds_names (sort_of found.label.kind)) o false) s.is
    ∙ ap (λ (l : Label). binds_names (sort_of l.kind)) s.label

no_site_names : (name : List ℕ) (program : Forest) (slot : ℕ) → times slot program ≡ 0
    → is_in name (option_map_or (λ (found : Site). bound_names (Forest.cons found.label found.inner Forest.nil)) (site program slot) []) ≡ false
no_site_names name program slot none =
    ap
    (λ (o : Option Site).
    is_in name (option_map_or (λ (found : Site). bound_names (Forest.cons found.label found.inner Forest.nil)) o []))
    (site_nowhere slot false program (place_at 0 1) none)

no_site_binds : (program : Forest) (slot : ℕ) → times slot program ≡ 0 → binds_at program slot ≡ false
no_site_binds program slot none =
    ap (λ (o : Option Site). option_map_or (λ (found : Site). binds_names (sort_of found.label.kind)) o false)
    (site_nowhere slot false program (place_at 0 1) none)

-- ---- of the node that is there

-- what is told of the names of a node whose names are kept
pub record IsBoundBy (name : List ℕ) (part : Option ℕ) (found : Option PlainNameNode) (bound binds : Bool) : Type 0 where
  pub names : bound ≡ (names_bind found && bound_of part found name)
  pub sort : binds ≡ names_bind found

by_names : (name : List ℕ) (found : Option PlainNameNode) (node : PlainNode) (bound binds : Bool)
    → option_map node_names found ≡ Some (node_names (name_node_of node))
    → bound ≡ (binds_names (sort_of node.label.kind) && bound_has (node_names (name_node_of node)) name)
    → binds ≡ binds_names (sort_of node.label.kind) → IsBoundBy name None found bound binds
by_names name None node bound binds is same sort = absurd (none-some (node_names (name_node_of node)) is)
by_names name (Some item) node bound binds is same sort =
    let alike : node_names (name_node_of node) ≡ node_names item = sym (ap (taken_names (node_names item)) is) in
    record {
      names =
          same
          ∙ (λ i. first_binds (binds_names (sort_of node.label.kind)) (alike i) && bound_has (alike i) name);
      sort = sort ∙ ap (first_binds (binds_names (sort_of node.label.kind))) alike;
    }
  where
    taken_names : NameForest → Option NameForest → NameForest
    taken_names names None = names
    taken_names names (Some there) = there

    first_binds : Bool → NameForest → Bool
    first_binds none NameForest.nil = none
    first_binds none (NameForest.cons label inner rest) = binds_names (sort_of label.kind)

by_label : (name : List ℕ) (part : ℕ) (found : Option PlainNameNode) (label : NameLabel) (bound binds : Bool)
    → option_map (λ (n : PlainNameNode). n.label) found ≡ Some label
    → bound ≡ (binds_names (sort_of label.kind) && parts_have label.parts name)
    → binds ≡ binds_names (sort_of label.kind) → IsBoundBy name (Some part) found bound binds
by_label name part None label bound binds is same sort = absurd (none-some label is)
by_label name part (Some item) label bound binds is same sort =
    let alike : label ≡ item.label = sym (ap (taken_label item.label) is) in
    record {
      names = same ∙ ap (λ (l : NameLabel). binds_names (sort_of l.kind) && parts_have l.parts name) alike;
      sort = sort ∙ ap (λ (l : NameLabel). binds_names (sort_of l.kind)) alike;
    }
  where
    taken_label : NameLabel → Option NameLabel → NameLabel
    taken_label own None = own
    taken_label own (Some there) = there

by_none : (name : List ℕ) (part : Option ℕ) (found : Option PlainNameNode) (bound binds : Bool) → found ≡ None → bound ≡ false → binds ≡ false
    → IsBoundBy name part found bound binds
by_none name part found bound binds none same sort = record {
  names = same ∙ ap (λ (o : Option PlainNameNode). names_bind o && bound_of part o name) (sym none);
  sort = sort ∙ ap names_bind (sym none);
}

-- those that stood in what was changed
pub bound_before : (name : List ℕ) (what : What) (names : NameForest) (slot : ℕ) (after : PlainTree) (b : IsBeforeChange what slot names after)
    (edit : PlainNameEdit) → IsEditOf what slot b.before.items after.items edit → (root : PlainNameNode) → root.inner ≡ names
    → (what ≡ What.Added → times slot b.before.items ≡ 0)
    → IsBoundBy name (part_of what) (old_node edit root) (is_in name (changed_names what slot b.before.items)) (binds_at b.before.items slot)
bound_before name What.Node names slot after b edit (old, node, stood, there, was_in, in_it, mend) root inner fresh =
    let s = site_at b.before.items slot edit.path old (b.tree.once slot) stood was_in in
    by_names name (old_node edit root) old (is_in name (changed_names What.Node slot b.before.items)) (binds_at b.before.items slot)
    (ap (λ m. option_map node_names (old_by m (names_below root edit.path))) mend
    ∙ ap (option_map node_names) (below_root root b.before.items edit.path old (inner ∙ b.agrees) stood))
    (whole_names name b.before.items slot old s) (site_binds b.before.items slot old s)
bound_before name (What.Part part) names slot after b edit (old, node, stood, there, was_in, in_it, mend) root inner fresh =
    let s = site_at b.before.items slot edit.path old (b.tree.once slot) stood was_in in
    by_label name part (old_node edit root) (name_node_of old).label (is_in name (changed_names (What.Part part) slot b.before.items))
    (binds_at b.before.items slot)
    (ap (λ m. option_map (λ (n : PlainNameNode). n.label) (old_by m (names_below root edit.path))) mend
    ∙ ap (option_map (λ (n : PlainNameNode). n.label)) (below_root root b.before.items edit.path old (inner ∙ b.agrees) stood))
    (own_names name b.before.items slot old s) (site_binds b.before.items slot old s)
bound_before name What.Added names slot after b edit (node, room, there, in_it, mend) root inner fresh =
    by_none name None (old_node edit root) (is_in name (changed_names What.Added slot b.before.items)) (binds_at b.before.items slot)
    (ap (λ m. old_by m (names_below root edit.path)) mend) (no_site_names name b.before.items slot (fresh refl))
    (no_site_binds b.before.items slot (fresh refl))
bound_before name What.Dropped names slot after b edit (old, stood, was_in, mend) root inner fresh =
    let s = site_at b.before.items slot edit.path old (b.tree.once slot) stood was_in in
    by_names name (old_node edit root) old (is_in name (changed_names What.Dropped slot b.before.items)) (binds_at b.before.items slot)
    (ap (λ m. option_map node_names (old_by m (names_below root edit.path))) mend
    ∙ ap (option_map node_names) (below_root root b.before.items edit.path old (inner ∙ b.agrees) stood))
    (whole_names name b.before.items slot old s) (site_binds b.before.items slot old s)

-- and those that stand there now
pub bound_after : (name : List ℕ) (what : What) (names : NameForest) (slot : ℕ) (after : PlainTree) → IsTree after
    → (b : IsBeforeChange what slot names after) (edit : PlainNameEdit) → IsEditOf what slot b.before.items after.items edit
    → (new : Option PlainNameNode) → IsNewNode edit.mend new → (what ≡ What.Dropped → times slot after.items ≡ 0)
    → IsBoundBy name (part_of what) new (is_in name (changed_names what slot after.items)) (binds_at after.items slot)
bound_after name What.Node names slot after is b edit (old, node, stood, there, was_in, in_it, mend) new is_new gone =
    let s = site_at after.items slot edit.path node (is.once slot) there in_it in
    by_names name new node (is_in name (changed_names What.Node slot after.items)) (binds_at after.items slot)
    (subst (λ m. IsNewNode m new) mend is_new) (whole_names name after.items slot node s) (site_binds after.items slot node s)
bound_after name (What.Part part) names slot after is b edit (old, node, stood, there, was_in, in_it, mend) new is_new gone =
    let s = site_at after.items slot edit.path node (is.once slot) there in_it in
    by_label name part new (name_node_of node).label (is_in name (changed_names (What.Part part) slot after.items)) (binds_at after.items slot)
    (subst (λ m. IsNewNode m new) mend is_new) (own_names name after.items slot node s) (site_binds after.items slot node s)
bound_after name What.Added names slot after is b edit (node, room, there, in_it, mend) new is_new gone =
    let s = site_at after.items slot edit.path node (is.once slot) there in_it in
    by_names name new node (is_in name (changed_names What.Added slot after.items)) (binds_at after.items slot)
    (subst (λ m. IsNewNode m new) mend is_new) (whole_names name after.items slot node s) (site_binds after.items slot node s)
bound_after name What.Dropped names slot after is b edit (old, stood, was_in, mend) new is_new gone =
    by_none name None new (is_in name (changed_names What.Dropped slot after.items)) (binds_at after.items slot)
    (subst (λ m. IsNewNode m new) mend is_new) (no_site_names name after.items slot (gone refl))
    (no_site_binds after.items slot (gone refl))
