-- A prepared edit makes the table of declarations that of the program after it: its items, its headings, its uses, and the
-- names of its nodes.
use Rattle.std.specs.Prelude.{◌≡◌, ◌⊎◌, refl, ℕ, Bool, true, false, ◌||◌, List, [], bytes_eq, length, nat_lt, Option, None}
use Rattle.std.specs.Map.{lookup}
use Rattle.std.proofs.Common.{ap, sym, ◌∙◌, subst, inl, inr}
use Rattle.std.proofs.lemmas.Option.{none-some}
use Rattle.template_tree.specs.declared.change.Change.{Change}
use Rattle.template_tree.specs.Checks.ProgramMaps.{ScopeTells}
use Rattle.template_tree.specs.Laws.RoomLaws.{NodesIgnoreRoom, SlotsIgnoreRoom}
use Rattle.template_tree.specs.Laws.TreeLaws.{SlotEditIsPathEdit}
use Rattle.template_tree.specs.Programs.PlainTree.{Forest, PlainTree}
use Rattle.template_tree.specs.Programs.Tree.{IsTree}
use Rattle.decl_table.specs.Agreement.{IsDeclsBefore}
use Rattle.decl_table.specs.DeclEdit.{IsDeclsAfter, PlainDeclEdit, changed_or, items_changed, names_mended}
use Rattle.decl_table.specs.Names.{names_of}
use Rattle.decl_table.specs.PlainDecls.{PlainDecls, PlainHeadings, PlainUses, mentions_of, slot_of}
use Rattle.decl_table.specs.Private.ChangeBefore.{IsEditOf, IsNewNode, old_node, part_of, places_of}
use Rattle.decl_table.specs.Private.HeadingChangesView.{IsHeadingNoted, MayBeNoted, stands_in}
use Rattle.decl_table.specs.Private.ItemChangeView.{items_become, procedure_left}
use Rattle.decl_table.specs.Private.PlainNameNode.{PlainNameNode}
use Rattle.decl_table.specs.Private.ReachView.{has_heading, has_items, names_bind, reach_of}
use Rattle.decl_table.specs.Private.UsesView.{IsNameMended, IsSettled}
use Rattle.decl_table.proofs.EditGaps.{EditGap, edit_gap, heading_stays, headings_stay}
use Rattle.decl_table.proofs.EditedHeadings.{headed}
use Rattle.decl_table.proofs.EditedItems.{items_after_edit}
use Rattle.decl_table.proofs.EditedNodes.{outside}
use Rattle.decl_table.proofs.EditedUses.{uses_edited}
use Rattle.decl_table.proofs.PreparedNames.{before_change}

-- the headings after an edit, where those are noted that may have changed
pub headings_after_edit : (part : Option ℕ) (slot : ℕ) (path : List ℕ) (before after : Forest) (old new : Option PlainNameNode)
    → EditGap part slot path before after old new → (headings : PlainHeadings) (changes : List (List ℕ × Option ℕ))
    → ((name : List ℕ) → slot_of name headings ≡ headed name before)
    → (has_heading (reach_of (nat_lt 1 (length path)) (names_bind old || names_bind new) part) ≡ false → changes ≡ [])
    → MayBeNoted after changes
    → (has_heading (reach_of (nat_lt 1 (length path)) (names_bind old || names_bind new) part) ≡ true → (name : List ℕ)
    → (stands_in old name || stands_in new name) ≡ true → IsHeadingNoted after changes name)
    → (name : List ℕ) → changed_or (lookup (bytes_eq name) changes) (slot_of name headings) ≡ headed name after
headings_after_edit part slot path before after old new e headings changes are none right noted name =
    by (has_heading (reach_of (nat_lt 1 (length path)) (names_bind old || names_bind new) part)) refl
  where
    either : (a c : Bool) → stands_in old name ≡ a → stands_in new name ≡ c
        → has_heading (reach_of (nat_lt 1 (length path)) (names_bind old || names_bind new) part) ≡ true
        → lookup (bytes_eq name) changes ≡ None → headed name before ≡ headed name after
    either false false f g h nowhere = heading_stays part slot path before after old new e name f g
    either true c f g h nowhere =
        absurd (none-some (headed name after) (sym nowhere ∙ noted h name (ap (λ b. b || stands_in new name) f)))
    either false true f g h nowhere =
        absurd (none-some (headed name after) (sym nowhere ∙ noted h name (ap (λ b. b || stands_in new name) f ∙ g)))

    found : has_heading (reach_of (nat_lt 1 (length path)) (names_bind old || names_bind new) part) ≡ true
        → ((lookup (bytes_eq name) changes ≡ None) ⊎ IsHeadingNoted after changes name)
        → changed_or (lookup (bytes_eq name) changes) (slot_of name headings) ≡ headed name after
    found h (inl nowhere) =
        ap (λ o. changed_or o (slot_of name headings)) nowhere ∙ are name
        ∙ either (stands_in old name) (stands_in new name) refl refl h nowhere
    found h (inr is) = ap (λ o. changed_or o (slot_of name headings)) is

    by : (b : Bool) → has_heading (reach_of (nat_lt 1 (length path)) (names_bind old || names_bind new) part) ≡ b
        → changed_or (lookup (bytes_eq name) changes) (slot_of name headings) ≡ headed name after
    by false h =
        ap (λ l. changed_or (lookup (bytes_eq name) l) (slot_of name headings)) (none h) ∙ are name
        ∙ headings_stay part slot path before after old new e h name
    by true h = found h (right name)

-- what is prepared of an edit: each piece by its own rule
pub record IsPieced (decls : PlainDecls) (edit : PlainDeclEdit) (root : PlainNameNode) (new : Option PlainNameNode) (change : Change)
    (after : PlainTree) (gone came : PlainUses) : Type 0 where
  pub names : names_mended edit.names.mend edit.names.path decls.names ≡ names_of after.items
  pub new_is : IsNewNode edit.names.mend new
  pub went : (name : List ℕ) → IsSettled (places_of (part_of change.what) (old_node edit.names root) name) (mentions_of name gone)
  pub comes : (name : List ℕ) → IsSettled (places_of (part_of change.what) new name) (mentions_of name came)
  pub mended : (name : List ℕ) → IsNameMended decls.uses gone came edit.uses name
  pub items : edit.items
      ≡ items_become
      (has_items
      (reach_of (nat_lt 1 (length edit.names.path)) (names_bind (old_node edit.names root) || names_bind new) (part_of change.what)))
      change.slot.0 (procedure_left change.what edit.names.path after.items)
  pub none :
      has_heading
      (reach_of (nat_lt 1 (length edit.names.path)) (names_bind (old_node edit.names root) || names_bind new) (part_of change.what))
      ≡ false → edit.headings ≡ []
  pub right : MayBeNoted after.items edit.headings
  pub noted :
      has_heading
      (reach_of (nat_lt 1 (length edit.names.path)) (names_bind (old_node edit.names root) || names_bind new) (part_of change.what))
      ≡ true → (name : List ℕ) → (stands_in (old_node edit.names root) name || stands_in new name) ≡ true
      → IsHeadingNoted after.items edit.headings name

-- the pieces make the table that of the program after the edit
pub decls_after_edit : SlotEditIsPathEdit → NodesIgnoreRoom → SlotsIgnoreRoom → (decls : PlainDecls) (edit : PlainDeclEdit) (root : PlainNameNode)
    → root.inner ≡ decls.names → (new : Option PlainNameNode) (change : Change) (before after : PlainTree) → IsTree after
    → (b : IsDeclsBefore decls before after change) → (gone came : PlainUses)
    → IsEditOf change.what change.slot.0 before.items after.items edit.names
    → IsPieced decls edit root new change after gone came → IsDeclsAfter decls edit after.items
decls_after_edit law rooms slots decls edit root inner new change before after is b gone came of p =
    let was = before_change change.what change decls.names after refl (before, b.tree, b.decls_are.names_are, b.differs) in
    let gap = edit_gap law rooms slots change.what decls.names change.slot.0 after is was edit.names of root inner new p.new_is in
    let outer = outside law rooms slots change.what decls.names change.slot.0 after is was edit.names of root inner new p.new_is in
    record {
      items_are =
          subst (λ c. ScopeTells (items_changed c decls.items) after.items) (sym p.items)
          (items_after_edit law slots change.what decls.names change.slot.0 after is was edit.names of (old_node edit.names root) new gap decls.items
          b.decls_are.items_are);
      headings_are =
          headings_after_edit (part_of change.what) change.slot.0 edit.names.path before.items after.items (old_node edit.names root) new gap
          decls.headings edit.headings b.decls_are.headings_are p.none p.right p.noted;
      uses_are =
          uses_edited before.items after.items (places_of (part_of change.what) (old_node edit.names root)) (places_of (part_of change.what) new) outer
          decls.uses gone came edit.uses b.decls_are.uses_are p.went p.comes p.mended;
      names_are = p.names;
    }
