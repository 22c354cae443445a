-- The pieces tell the program after the edit, and so does what is gathered: the table keeps the items that were taken into it.
use Rattle.std.specs.Prelude.{◌≡◌, refl, [], List, Contains, IfOk, Result}
use Rattle.std.proofs.Common.{sym, subst}
use Rattle.plcs_base.specs.declared.memory.OutOfMemory.{OutOfMemory}
use Rattle.plcs_base.specs.declared.place.PhraseAt.{PhraseAt}
use Rattle.decl_table.specs.DeclEdit.{HasItemsOf, IsDeclsAfter, KnowsDue, MayMendNames, PlainDeclEdit}
use Rattle.decl_table.specs.Due.{AreDue, AreGone}
use Rattle.decl_table.specs.Private.ItemChangeView.{plain_item_change}
use Rattle.decl_table.specs.Private.KnownTable.{items_only}
use Rattle.decl_table.proofs.FoundEdits.{after_filled, gathering_found, source_found}
use Rattle.decl_table.proofs.KeptOwn.{change_kept, there_still}
use Rattle.decl_table.proofs.OkAnswers.{comes_ok}
use Rattle.decl_table.proofs.decls.Decls.edit_of.Goals as goal

pub know_due-known-requires-clause-source : goal.know_due-known-requires-clause-source
know_due-known-requires-clause-source c =
    let program = c.args.tree.now.items in
    source_found c.args.self.now c.filled.inside.table _ program
    (subst (λ (e : PlainDeclEdit). IsDeclsAfter c.args.self.now e program) (sym c.filled.view_is)
    (c.in-Ok.ensures.after c.requires.before.0 c.requires.before.1))
    c.filled.inside.items refl

pub know_due-known-requires-clause-gathering : goal.know_due-known-requires-clause-gathering
know_due-known-requires-clause-gathering c =
    let program = c.args.tree.now.items in
    gathering_found c.args.self.now c.filled.inside.table _ program
    (subst (λ (e : PlainDeclEdit). IsDeclsAfter c.args.self.now e program) (sym c.filled.view_is)
    (c.in-Ok.ensures.after c.requires.before.0 c.requires.before.1))
    c.filled.inside.items refl
    (subst (λ (e : PlainDeclEdit). e.decls.items ≡ items_only e.items) (sym c.filled.view_is) c.in-Ok.ensures.only)
    (subst (λ (e : PlainDeclEdit). e.decls.headings ≡ []) (sym c.filled.view_is) c.in-Ok.ensures.headings)

pub returns-clause-after : goal.returns-clause-after
returns-clause-after c =
    let first : PlainDeclEdit = record {
      due = c.filled.inside.due;
      gone = c.filled.inside.gone;
      decls = c.filled.inside.table;
      items = plain_item_change c.filled.inside.items c.filled.inside.table.items;
      headings = c.filled.inside.headings;
      uses = c.filled.inside.uses.uses;
      names = c.filled.inside.names;
    } in
    let edit : PlainDeclEdit = record {
      due = c.filled.inside.due;
      gone = c.filled.inside.gone;
      decls = c.know_due-known.new.table;
      items = plain_item_change c.filled.inside.items c.know_due-known.new.table.items;
      headings = c.filled.inside.headings;
      uses = c.filled.inside.uses.uses;
      names = c.filled.inside.names;
    } in
    λ before b.
    subst (λ (r : Result PlainDeclEdit OutOfMemory). IfOk r (λ e. IsDeclsAfter c.args.self.now e c.args.tree.now.items)) (sym c.and.ensures)
    (comes_ok c.know_due-known.result edit (λ e. IsDeclsAfter c.args.self.now e c.args.tree.now.items) _
    (λ own.
    after_filled c.args.self.now first c.know_due-known.new.table (plain_item_change c.filled.inside.items c.know_due-known.new.table.items)
    c.args.tree.now.items
    (subst (λ (e : PlainDeclEdit). IsDeclsAfter c.args.self.now e c.args.tree.now.items) (sym c.filled.view_is) (c.in-Ok.ensures.after before b))
    (change_kept c.filled.inside.items c.filled.inside.table c.know_due-known.new.table own))
    c.know_due-known.ensures.own)

pub returns-clause-due : goal.returns-clause-due
returns-clause-due c =
    let edit : PlainDeclEdit = record {
      due = c.filled.inside.due;
      gone = c.filled.inside.gone;
      decls = c.know_due-known.new.table;
      items = plain_item_change c.filled.inside.items c.know_due-known.new.table.items;
      headings = c.filled.inside.headings;
      uses = c.filled.inside.uses.uses;
      names = c.filled.inside.names;
    } in
    λ before b.
    subst (λ (r : Result PlainDeclEdit OutOfMemory). IfOk r (λ e. AreDue before.items c.args.tree.now.items c.args.change.now e.due)) (sym c.and.ensures)
    (comes_ok c.know_due-known.result edit (λ e. AreDue before.items c.args.tree.now.items c.args.change.now e.due) _
    (λ own.
    subst (λ (e : PlainDeclEdit). AreDue before.items c.args.tree.now.items c.args.change.now e.due) (sym c.filled.view_is)
    (c.in-Ok.ensures.due before b))
    c.know_due-known.ensures.own)

pub returns-clause-gone : goal.returns-clause-gone
returns-clause-gone c =
    let edit : PlainDeclEdit = record {
      due = c.filled.inside.due;
      gone = c.filled.inside.gone;
      decls = c.know_due-known.new.table;
      items = plain_item_change c.filled.inside.items c.know_due-known.new.table.items;
      headings = c.filled.inside.headings;
      uses = c.filled.inside.uses.uses;
      names = c.filled.inside.names;
    } in
    λ before b.
    subst (λ (r : Result PlainDeclEdit OutOfMemory). IfOk r (λ e. AreGone before.items c.args.change.now e.gone)) (sym c.and.ensures)
    (comes_ok c.know_due-known.result edit (λ e. AreGone before.items c.args.change.now e.gone) _
    (λ own.
    subst (λ (e : PlainDeclEdit). AreGone before.items c.args.change.now e.gone) (sym c.filled.view_is) (c.in-Ok.ensures.gone before b))
    c.know_due-known.ensures.own)

pub returns-clause-known : goal.returns-clause-known
returns-clause-known c =
    let edit : PlainDeclEdit = record {
      due = c.filled.inside.due;
      gone = c.filled.inside.gone;
      decls = c.know_due-known.new.table;
      items = plain_item_change c.filled.inside.items c.know_due-known.new.table.items;
      headings = c.filled.inside.headings;
      uses = c.filled.inside.uses.uses;
      names = c.filled.inside.names;
    } in
    subst (λ (r : Result PlainDeclEdit OutOfMemory). IfOk r (λ e. KnowsDue e c.args.tree.now.items)) (sym c.and.ensures)
    (comes_ok c.know_due-known.result edit (λ e. KnowsDue e c.args.tree.now.items) _
    (λ knows at procedure phrase there stands.
    knows at procedure phrase (subst (λ (ps : List PhraseAt). Contains ps at) (sym c.as_slice.ensures) there) stands)
    c.know_due-known.ensures.knows)

pub returns-clause-names : goal.returns-clause-names
returns-clause-names c =
    let edit : PlainDeclEdit = record {
      due = c.filled.inside.due;
      gone = c.filled.inside.gone;
      decls = c.know_due-known.new.table;
      items = plain_item_change c.filled.inside.items c.know_due-known.new.table.items;
      headings = c.filled.inside.headings;
      uses = c.filled.inside.uses.uses;
      names = c.filled.inside.names;
    } in
    subst (λ (r : Result PlainDeclEdit OutOfMemory). IfOk r (λ e. MayMendNames e.names.mend e.names.path c.args.self.now.names)) (sym c.and.ensures)
    (comes_ok c.know_due-known.result edit (λ e. MayMendNames e.names.mend e.names.path c.args.self.now.names) _
    (λ own.
    subst (λ (e : PlainDeclEdit). MayMendNames e.names.mend e.names.path c.args.self.now.names) (sym c.filled.view_is) c.in-Ok.ensures.names)
    c.know_due-known.ensures.own)

pub returns-clause-table : goal.returns-clause-table
returns-clause-table c =
    let edit : PlainDeclEdit = record {
      due = c.filled.inside.due;
      gone = c.filled.inside.gone;
      decls = c.know_due-known.new.table;
      items = plain_item_change c.filled.inside.items c.know_due-known.new.table.items;
      headings = c.filled.inside.headings;
      uses = c.filled.inside.uses.uses;
      names = c.filled.inside.names;
    } in
    subst (λ (r : Result PlainDeclEdit OutOfMemory). IfOk r (λ e. HasItemsOf e.decls.items e.items)) (sym c.and.ensures)
    (comes_ok c.know_due-known.result edit (λ e. HasItemsOf e.decls.items e.items) _
    (λ own.
    there_still c.filled.inside.items c.filled.inside.table c.know_due-known.new.table own
    (subst (λ (e : PlainDeclEdit). HasItemsOf e.decls.items e.items) (sym c.filled.view_is) c.in-Ok.ensures.table))
    c.know_due-known.ensures.own)
