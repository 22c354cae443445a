-- What the calls of `edit_of` ask for and find: nodes with few parts, the places that went, and the table before anything is
-- gathered in it.
use Rattle.std.specs.Prelude.{◌≡◌, refl, ℕ, List, [], Option, None, IfSome}
use Rattle.std.specs.Option.{option_copied}
use Rattle.std.proofs.Common.{Bor, ap, sym, ◌∙◌, subst}
use Rattle.plcs_base.specs.declared.place.PhraseAt.{PhraseAt}
use Rattle.plcs_base.specs.declared.declared.Declared.{Declared}
use Rattle.template_tree.specs.declared.change.Change.{Change}
use Rattle.template_tree.specs.Checks.ProgramMaps.{ScopeTells}
use Rattle.template_tree.specs.Laws.TreeLaws.{SlotEditIsPathEdit}
use Rattle.template_tree.specs.Programs.PlainTree.{Forest, PlainTree}
use Rattle.template_tree.specs.Programs.Tree.{IsTree}
use Rattle.decl_table.specs.Agreement.{IsDeclsBefore}
use Rattle.decl_table.specs.DeclEdit.{IsDeclsAfter, PlainDeclEdit, PlainNameEdit, items_changed}
use Rattle.decl_table.specs.Due.{AreGone}
use Rattle.decl_table.specs.PlainDecls.{PlainDecls}
use Rattle.decl_table.specs.Private.ChangeBefore.{IsEditOf, IsNewNode, old_node, part_of, spots_of}
use Rattle.decl_table.specs.Private.ItemChangeView.{plain_item_change}
use Rattle.decl_table.specs.Private.KnownTable.{IsGathering, IsSource, items_only}
use Rattle.decl_table.specs.Private.PlainNameNode.{HaveFewParts, PlainNameNode, node_names}
use Rattle.decl_table.specs.Private.UsesView.{IsSettled}
use Rattle.decl_table.specs.declared.decl_edit.ItemChange.{ItemChange}
use Rattle.decl_table.proofs.EditProcedures.{fresh_before}
use Rattle.decl_table.proofs.EditedNodes.{few_came, few_gone, lent}
use Rattle.decl_table.proofs.FoundSites.{are_gone, spots_before}
use Rattle.decl_table.proofs.KnownStart.{gathering_of, source_of}
use Rattle.decl_table.proofs.PreparedNames.{before_change}

module _ (decls : PlainDecls) (change : Change) (before after : PlainTree) (is : IsTree after) (b : IsDeclsBefore decls before after change)
    (edit : PlainNameEdit) (of : IsEditOf change.what change.slot.0 before.items after.items edit) where
  -- the node that went has few parts
  pub old_few : (root : PlainNameNode) → root.inner ≡ decls.names → (old : Option (Bor PlainNameNode))
      → option_copied old ≡ old_node edit root → IfSome old (λ node. HaveFewParts (node_names node.now))
  old_few root inner old old_is =
      lent (λ (n : PlainNameNode). HaveFewParts (node_names n)) old
      (λ item there.
      few_gone change.what decls.names change.slot.0 after
      (before_change change.what change decls.names after refl (before, b.tree, b.decls_are.names_are, b.differs)) edit of root inner item
      (sym old_is ∙ there))

  -- and so has the node that came, unless a part alone was set
  pub new_few : (new : Option (Bor PlainNameNode)) → IsNewNode edit.mend (option_copied new) → (part : Option ℕ) → part ≡ part_of change.what
      → part ≡ None → IfSome new (λ node. HaveFewParts (node_names node.now))
  new_few new is_new part part_is none =
      lent (λ (n : PlainNameNode). HaveFewParts (node_names n)) new
      (λ item there.
      few_came change.what decls.names change.slot.0 after is
      (before_change change.what change decls.names after refl (before, b.tree, b.decls_are.names_are, b.differs)) edit of (option_copied new) is_new
      (sym part_is ∙ none) item there)

  -- the places that went
  pub gone_found : SlotEditIsPathEdit → (root : PlainNameNode) → root.inner ≡ decls.names → (part : Option ℕ) (old : Option PlainNameNode)
      → part ≡ part_of change.what → old ≡ old_node edit root → (gone : List PhraseAt) → IsSettled (spots_of part old) gone
      → AreGone before.items change gone
  gone_found law root inner part old part_is old_is gone settled =
      let w = before_change change.what change decls.names after refl (before, b.tree, b.decls_are.names_are, b.differs) in
      are_gone before.items change (spots_of part old) gone
      (spots_before change.what decls.names change.slot.0 after w edit of root inner (b.tree.once change.slot.0)
      (fresh_before law change.what decls.names change.slot.0 after is w edit of)
      ∙ ap (λ (p : Option ℕ). spots_of p (old_node edit root)) (sym part_is)
      ∙ ap (spots_of part) (sym old_is))
      settled

-- ---- before anything is gathered

module _ (decls table : PlainDecls) (edit : PlainDeclEdit) (program : Forest) (after : IsDeclsAfter decls edit program) (items : ItemChange)
    (items_are : edit.items ≡ plain_item_change items table.items) where
  tells : ScopeTells (items_changed (plain_item_change items table.items) decls.items) program
  tells =
      subst (λ (c : Option (ℕ × Option (List Declared))). ScopeTells (items_changed c decls.items) program) items_are after.items_are

  pub source_found : IsSource decls edit.headings items program
  source_found = source_of decls table edit.headings items program tells after.headings_are

  pub gathering_found : table.items ≡ items_only (plain_item_change items table.items) → table.headings ≡ [] → IsGathering items program table
  gathering_found only bare = gathering_of decls table edit.headings items program tells only bare

-- ---- once it is gathered

-- another table of its own, with the same items of the procedure whose items change, makes the edit the same
pub after_filled : (decls : PlainDecls) (edit : PlainDeclEdit) (table : PlainDecls) (changed : Option (ℕ × Option (List Declared)))
    (program : Forest) → IsDeclsAfter decls edit program → changed ≡ edit.items
    → IsDeclsAfter decls (record edit { decls = table; items = changed }) program
after_filled decls edit table changed program after same = record {
  items_are =
      subst (λ (c : Option (ℕ × Option (List Declared))). ScopeTells (items_changed c decls.items) program) (sym same) after.items_are;
  headings_are = after.headings_are;
  uses_are = after.uses_are;
  names_are = after.names_are;
}
