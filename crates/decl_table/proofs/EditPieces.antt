-- A prepared edit makes the table that of the program after it, where its pieces are told by what the calls of `edit_of` found.
use Rattle.std.specs.Prelude.{◌≡◌, ℕ, true, false, ◌||◌, List, [], length, nat_lt, Option}
use Rattle.std.proofs.Common.{ap, ◌∙◌, subst}
use Rattle.template_tree.specs.declared.change.Change.{Change}
use Rattle.template_tree.specs.Laws.RoomLaws.{NodesIgnoreRoom, SlotsIgnoreRoom}
use Rattle.template_tree.specs.Laws.TreeLaws.{SlotEditIsPathEdit}
use Rattle.template_tree.specs.Programs.PlainTree.{PlainNode, PlainTree}
use Rattle.template_tree.specs.Programs.Tree.{IsTree}
use Rattle.decl_table.specs.Agreement.{IsDeclsBefore}
use Rattle.decl_table.specs.DeclEdit.{IsDeclsAfter, PlainDeclEdit, names_mended}
use Rattle.decl_table.specs.Names.{names_of}
use Rattle.decl_table.specs.PlainDecls.{PlainDecls, PlainUses, mentions_of}
use Rattle.decl_table.specs.Private.ChangeBefore.{IsEditOf, IsNewNode, old_node, part_of, places_of}
use Rattle.decl_table.specs.Private.HeadingChangesView.{IsHeadingNoted, MayBeNoted, stands_in}
use Rattle.decl_table.specs.Private.ItemChangeView.{items_become, procedure_left}
use Rattle.decl_table.specs.Private.PlainNameNode.{PlainNameNode}
use Rattle.decl_table.specs.Private.ReachView.{has_heading, has_items, names_bind, reach_of}
use Rattle.decl_table.specs.Private.UsesView.{IsNameMended, IsSettled}
use Rattle.decl_table.specs.declared.reach.Reach.{Reach}
use Rattle.decl_table.proofs.PreparedDecls.{decls_after_edit}

pub pieces_after : SlotEditIsPathEdit → NodesIgnoreRoom → SlotsIgnoreRoom → (decls : PlainDecls) (edit : PlainDeclEdit) (root : PlainNameNode)
    → root.inner ≡ decls.names → (change : Change) (before after : PlainTree) → IsTree after → (b : IsDeclsBefore decls before after change)
    → IsEditOf change.what change.slot.0 before.items after.items edit.names
    → (part : Option ℕ) (old new : Option PlainNameNode) (gone came : PlainUses) (reach : Reach) (procedure : Option PlainNode)
    → part ≡ part_of change.what → old ≡ old_node edit.names root → IsNewNode edit.names.mend new
    → reach ≡ reach_of (nat_lt 1 (length edit.names.path)) (names_bind old || names_bind new) part
    → procedure ≡ procedure_left change.what edit.names.path after.items
    → names_mended edit.names.mend edit.names.path decls.names ≡ names_of after.items
    → ((name : List ℕ) → IsSettled (places_of part old name) (mentions_of name gone))
    → ((name : List ℕ) → IsSettled (places_of part new name) (mentions_of name came))
    → ((name : List ℕ) → IsNameMended decls.uses gone came edit.uses name)
    → edit.items ≡ items_become (has_items reach) change.slot.0 procedure → (has_heading reach ≡ false → edit.headings ≡ [])
    → MayBeNoted after.items edit.headings
    → (has_heading reach ≡ true → (name : List ℕ) → (stands_in old name || stands_in new name) ≡ true
    → IsHeadingNoted after.items edit.headings name)
    → IsDeclsAfter decls edit after.items
pieces_after law rooms slots decls edit root inner change before after is b of part old new gone came reach procedure part_is old_is new_is reach_is
    procedure_is names went comes mended items none right noted =
    let deep = nat_lt 1 (length edit.names.path) in
    let stood = old_node edit.names root in
    let now : reach ≡ reach_of deep (names_bind stood || names_bind new) (part_of change.what) =
    reach_is
    ∙ ap (λ (o : Option PlainNameNode). reach_of deep (names_bind o || names_bind new) part) old_is
    ∙ ap (λ (p : Option ℕ). reach_of deep (names_bind stood || names_bind new) p) part_is in
    decls_after_edit law rooms slots decls edit root inner new change before after is b gone came of
    record {
      names = names;
      new_is = new_is;
      went =
          λ name.
          subst (λ (p : Option ℕ). IsSettled (places_of p stood name) (mentions_of name gone)) part_is
          (subst (λ (o : Option PlainNameNode). IsSettled (places_of part o name) (mentions_of name gone)) old_is (went name));
      comes = λ name. subst (λ (p : Option ℕ). IsSettled (places_of p new name) (mentions_of name came)) part_is (comes name);
      mended = mended;
      items =
          items
          ∙ ap (λ (r : Reach). items_become (has_items r) change.slot.0 procedure) now
          ∙ ap (λ (p : Option PlainNode). items_become (has_items (reach_of deep (names_bind stood || names_bind new) (part_of change.what))) change.slot.0 p)
          procedure_is;
      none = λ h. none (ap has_heading now ∙ h);
      right = right;
      noted =
          λ h name stands.
          noted (ap has_heading now ∙ h) name
          (ap (λ (o : Option PlainNameNode). stands_in o name || stands_in new name) old_is ∙ stands);
    }
