-- The places that are gathered as due for a check are those of the phrases that are due.
use Rattle.std.proofs.Common.{◌≡◌, ℕ, Bool, true, false, List, [], ◌++◌, length, Option, Some, None, refl, ap, sym, subst, ◌∙◌, arith}
use Rattle.std.specs.Prelude.{◌||◌, Contains, nat_lt, option_map, unwrap_or}
use Rattle.std.specs.FinMap.{empty}
use Rattle.std.specs.Option.{option_map_or}
use Rattle.plcs_base.specs.Scope.{ItemMap}
use Rattle.plcs_base.specs.declared.place.PhraseAt.{PhraseAt}
use Rattle.template_tree.specs.declared.change.Change.{Change}
use Rattle.template_tree.specs.Checks.Environment.{Items, items_inside, procedure_at}
use Rattle.template_tree.specs.Checks.Mention.{AreUses}
use Rattle.template_tree.specs.Checks.ProgramMaps.{ScopeTells, items_in}
use Rattle.template_tree.specs.Edits.Edit.{changed_in, procedure_of}
use Rattle.template_tree.specs.Laws.CheckLaws.{ChecksIgnoreRoom}
use Rattle.template_tree.specs.Laws.RoomLaws.{NodesIgnoreRoom, SlotsIgnoreRoom}
use Rattle.template_tree.specs.Laws.TreeLaws.{SlotEditIsPathEdit}
use Rattle.template_tree.specs.Programs.PlainTree.{Forest, PlainNode, PlainTree}
use Rattle.template_tree.specs.Programs.Tree.{IsTree}
use Rattle.decl_table.specs.Agreement.{IsDeclsBefore}
use Rattle.decl_table.specs.DeclEdit.{PlainNameEdit}
use Rattle.decl_table.specs.Due.{AreDue, IsDue, all_list_places, changed_places, changes_binding, list_places, procedure_lists}
use Rattle.decl_table.specs.Names.{NameForest}
use Rattle.decl_table.specs.PlainDecls.{PlainDecls, PlainUses, slot_of}
use Rattle.decl_table.specs.Private.ChangeBefore.{IsBeforeChange, IsEditOf, IsNewNode, old_node, part_of, spots_of}
use Rattle.decl_table.specs.Private.DuePlaces.{AreDueBy, IsDueBy, due_lists, uses_now}
use Rattle.decl_table.specs.Private.ItemChangeView.{items_become, plain_item_change, procedure_left}
use Rattle.decl_table.specs.Private.KnownTable.{items_only}
use Rattle.decl_table.specs.Private.PlainNameNode.{PlainNameNode}
use Rattle.decl_table.specs.Private.ReachView.{has_items, has_lists, names_bind, reach_of}
use Rattle.decl_table.specs.declared.decl_edit.ItemChange.{ItemChange}
use Rattle.decl_table.specs.declared.reach.Reach.{Reach}
use Rattle.decl_table.proofs.AffectedSites.{affected_gathered, bind_lists, gathered_affected, lists_bind, mine, now, was}
use Rattle.decl_table.proofs.EditProcedures.{IsOwnProcedure, gone_after, own_procedure}
use Rattle.decl_table.proofs.EditedHeadings.{headed}
use Rattle.decl_table.proofs.FoundSites.{spots_after}
use Rattle.decl_table.proofs.KnownStart.{list_found, nothing_in}
use Rattle.decl_table.proofs.PreparedNames.{before_change}

-- ---- the items that are taken

taken_by : (program : Forest) (own slot : ℕ) (table : ItemMap) (procedure : Option PlainNode) → procedure_at program own ≡ procedure
    → ((node : PlainNode) → procedure ≡ Some node → node.label.slot ≡ own) → table ≡ items_only (items_become true slot procedure)
    → items_in table own ≡ Items program own
taken_by program own slot table None found in_own is =
    ap (λ (m : ItemMap). items_in m own) is
    ∙ nothing_in own
    ∙ sym (ap (λ (o : Option PlainNode). unwrap_or (option_map (λ (n : PlainNode). items_inside n.inner) o) []) found)
taken_by program own slot table (Some node) found in_own is =
    ap (items_in table) (sym (in_own node refl))
    ∙ list_found empty table node.label.slot (items_inside node.inner) is
    ∙ sym (ap (λ (o : Option PlainNode). unwrap_or (option_map (λ (n : PlainNode). items_inside n.inner) o) []) found)

-- where the items of the procedure may have changed, all that it has after the edit are taken
pub taken_items : (program : Forest) (slot own : ℕ) (path : List ℕ) (left procedure : Option PlainNode) → IsOwnProcedure program slot own path left
    → procedure ≡ left → (reach : Reach) (items : ItemChange) (table : ItemMap)
    → plain_item_change items table ≡ items_become (has_items reach) slot procedure → table ≡ items_only (plain_item_change items table)
    → has_items reach ≡ true → items_in table own ≡ Items program own
taken_items program slot own path left procedure mine procedure_is reach items table are only has =
    taken_by program own slot table procedure (mine.found ∙ sym procedure_is) (λ node some. mine.in_slot node (sym procedure_is ∙ some))
    (only
    ∙ ap items_only are
    ∙ ap (λ (b : Bool). items_only (items_become b slot procedure)) has)

-- ---- what is due

lists_of : (o : Option PlainNode)
    → option_map_or (λ (node : PlainNode). list_places node.label.slot 0 node.label.parts ++ all_list_places node.inner) o []
    ≡ due_lists true o
lists_of None = refl
lists_of (Some node) = refl

module _ (law : SlotEditIsPathEdit) (rooms : NodesIgnoreRoom) (slots : SlotsIgnoreRoom) (room : ChecksIgnoreRoom) (names : NameForest)
    (change : Change) (after : PlainTree) (is : IsTree after) (b : IsBeforeChange change.what change.slot.0 names after) (edit : PlainNameEdit)
    (of : IsEditOf change.what change.slot.0 b.before.items after.items edit) (root : PlainNameNode) (inner : root.inner ≡ names)
    (new : Option PlainNameNode) (is_new : IsNewNode edit.mend new)
    (within : procedure_of (changed_in change.what b.before.items after.items) change.slot.0 ≡ Some change.procedure.0)
    (decls : PlainDecls) (tells : ScopeTells decls.items b.before.items)
    (heads : (name : List ℕ) → slot_of name decls.headings ≡ headed name b.before.items) (table : ItemMap) (reach : Reach)
    (reach_is : reach ≡ reach_of (nat_lt 1 (length edit.path)) (names_bind (old_node edit root) || names_bind new) (part_of change.what))
    (procedure : Option PlainNode) (procedure_is : procedure ≡ procedure_left change.what edit.path after.items)
    (taken : has_items reach ≡ true → items_in table change.procedure.0 ≡ Items after.items change.procedure.0) (changed : PlainUses)
    (uses : (name : List ℕ) → AreUses name after.items (uses_now decls.uses changed name)) where
  abbrev Gathered : PhraseAt → Type 0
  Gathered at =
      IsDueBy reach (part_of change.what) (old_node edit root) new decls changed (items_in decls.items change.procedure.0)
      (items_in table change.procedure.0) procedure at

  -- the lists of names of the procedure
  lists_are : procedure_lists after.items change.procedure.0 ≡ due_lists true procedure
  lists_are =
      ap
      (λ (o : Option PlainNode).
      option_map_or (λ (node : PlainNode). list_places node.label.slot 0 node.label.parts ++ all_list_places node.inner) o [])
      ((mine law rooms slots room names change after is b edit of root inner new is_new within decls tells heads table reach reach_is procedure
      procedure_is taken).found
      ∙ sym procedure_is)
      ∙ lists_of procedure

  -- a declaration or a heading was changed
  bindings_are : changes_binding b.before.items after.items change.slot.0 ≡ (names_bind (old_node edit root) || names_bind new)
  bindings_are =
      λ i.
      (was law rooms slots room names change after is b edit of root inner new is_new within decls tells heads table reach reach_is procedure
      procedure_is taken []).sort i
      || (now law rooms slots room names change after is b edit of root inner new is_new within decls tells heads table reach reach_is procedure
      procedure_is taken []).sort i

  spots_are : changed_places change.what change.slot.0 after.items ≡ spots_of (part_of change.what) new
  spots_are =
      spots_after change.what names change.slot.0 after is b edit of new is_new (gone_after law change.what names change.slot.0 after b edit of)

  -- what is gathered is due
  listed_due : (at : PhraseAt) (has : Bool) → has_lists reach ≡ has → Contains (due_lists has procedure) at
      → IsDue b.before.items after.items change at
  listed_due at false has there = absurd (omega (arith, there.1))
  listed_due at true has there =
      IsDue.listed
      (bindings_are
      ∙ lists_bind law rooms slots room names change after is b edit of root inner new is_new within decls tells heads table reach reach_is procedure
      procedure_is taken has)
      (subst (λ (ps : List PhraseAt). Contains ps at) (sym lists_are) there)

  told : (at : PhraseAt) → Gathered at → IsDue b.before.items after.items change at
  told at (IsDueBy.put_in there) = IsDue.put_in (subst (λ (ps : List PhraseAt). Contains ps at) (sym spots_are) there)
  told at (IsDueBy.listed there) = listed_due at (has_lists reach) refl there
  told at (IsDueBy.affected name reason there) =
      IsDue.affected name
      (gathered_affected law rooms slots room names change after is b edit of root inner new is_new within decls tells heads table reach reach_is
      procedure procedure_is taken name reason)
      (((uses name).each at).0 there)

  -- and what is due is gathered
  back : (at : PhraseAt) → IsDue b.before.items after.items change at → Gathered at
  back at (IsDue.put_in there) = IsDueBy.put_in (subst (λ (ps : List PhraseAt). Contains ps at) spots_are there)
  back at (IsDue.listed binds there) =
      IsDueBy.listed
      (subst (λ (x : Bool). Contains (due_lists x procedure) at)
      (sym
      (bind_lists law rooms slots room names change after is b edit of root inner new is_new within decls tells heads table reach reach_is procedure
      procedure_is taken (sym bindings_are ∙ binds)))
      (subst (λ (ps : List PhraseAt). Contains ps at) lists_are there))
  back at (IsDue.affected name reason there) =
      IsDueBy.affected name
      (affected_gathered law rooms slots room names change after is b edit of root inner new is_new within decls tells heads table reach reach_is
      procedure procedure_is taken name reason)
      (((uses name).each at).1 there)

  pub due_found : (due : List PhraseAt)
      → AreDueBy reach (part_of change.what) (old_node edit root) new decls changed (items_in decls.items change.procedure.0)
      (items_in table change.procedure.0) procedure due
      → AreDue b.before.items after.items change due
  due_found due gathered = record {
    increasing = gathered.increasing;
    each = λ at. ((λ there. told at ((gathered.each at).0 there)), (λ reason. (gathered.each at).1 (back at reason)));
  }

-- by what the calls of `edit_of` find
pub due_edited : SlotEditIsPathEdit → NodesIgnoreRoom → SlotsIgnoreRoom → ChecksIgnoreRoom → (decls : PlainDecls) (edit : PlainNameEdit)
    (changed : PlainUses) (root : PlainNameNode) → root.inner ≡ decls.names → (change : Change) (before after : PlainTree) → IsTree after
    → IsDeclsBefore decls before after change → IsEditOf change.what change.slot.0 before.items after.items edit
    → (part : Option ℕ) (old new : Option PlainNameNode) → part ≡ part_of change.what → old ≡ old_node edit root → IsNewNode edit.mend new
    → (reach : Reach) (procedure : Option PlainNode) → reach ≡ reach_of (nat_lt 1 (length edit.path)) (names_bind old || names_bind new) part
    → procedure ≡ procedure_left change.what edit.path after.items → (items : ItemChange) (table : ItemMap)
    → plain_item_change items table ≡ items_become (has_items reach) change.slot.0 procedure → table ≡ items_only (plain_item_change items table)
    → ((name : List ℕ) → AreUses name after.items (uses_now decls.uses changed name)) → (due : List PhraseAt)
    → AreDueBy reach part old new decls changed (items_in decls.items change.procedure.0) (items_in table change.procedure.0) procedure due
    → AreDue before.items after.items change due
due_edited law rooms slots room decls edit changed root inner change before after is b of part old new part_is old_is is_new reach procedure reach_is
    procedure_is items table are only uses due gathered =
    let w = before_change change.what change decls.names after refl (before, b.tree, b.decls_are.names_are, b.differs) in
    let deep = nat_lt 1 (length edit.path) in
    let own =
    own_procedure law change.what decls.names change.slot.0 change.procedure.0 after is w edit of b.differs.within edit.path refl in
    due_found law rooms slots room decls.names change after is w edit of root inner new is_new b.differs.within decls b.decls_are.items_are
    b.decls_are.headings_are table reach
    (reach_is
    ∙ ap (λ (o : Option PlainNameNode). reach_of deep (names_bind o || names_bind new) part) old_is
    ∙ ap (λ (p : Option ℕ). reach_of deep (names_bind (old_node edit root) || names_bind new) p) part_is)
    procedure procedure_is
    (taken_items after.items change.slot.0 change.procedure.0 edit.path (procedure_left change.what edit.path after.items) procedure own procedure_is
    reach items table are only)
    changed uses due
    (subst
    (λ (o : Option PlainNameNode).
    AreDueBy reach (part_of change.what) o new decls changed (items_in decls.items change.procedure.0) (items_in table change.procedure.0) procedure due)
    old_is
    (subst
    (λ (p : Option ℕ).
    AreDueBy reach p old new decls changed (items_in decls.items change.procedure.0) (items_in table change.procedure.0) procedure due)
    part_is gathered))
