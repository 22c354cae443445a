-- Each table is changed by its own piece of the edit, in its own room.
use Rattle.std.specs.Prelude.{bytes_eq, length}
use Rattle.std.specs.Map.{lookup}
use Rattle.std.proofs.Common.{ap, sym, ◌∙◌, subst, arith}
use Rattle.decl_table.specs.DeclEdit.{HasItemsOf, MayMendNames, PlainDeclEdit, changed_or, items_changed, names_after, names_mended}
use Rattle.decl_table.specs.PlainDecls.{PlainDecls, mentions_of, slot_of}
use Rattle.decl_table.specs.Private.ItemChangeView.{plain_item_change}
use Rattle.decl_table.specs.Private.PlainNameNode.{PlainNameNode}
use Rattle.decl_table.proofs.decls.Decls.commit.Goals as goal

pub change-requires-clause-room : goal.change-requires-clause-room
change-requires-clause-room c = omega (arith, ap (λ (d : PlainDecls). d.spare.procedures) c.self.view_is, c.requires.ready.items)

pub change-requires-clause-there : goal.change-requires-clause-there
change-requires-clause-there c =
    let moved : HasItemsOf c.edit.inside.table.items (plain_item_change c.edit.inside.items c.edit.inside.table.items) =
    subst (λ (e : PlainDeclEdit). HasItemsOf e.decls.items e.items) (sym c.edit.view_is) c.requires.ready.table in
    subst (λ (d : PlainDecls). HasItemsOf d.items (plain_item_change c.edit.inside.items d.items)) (sym c.table.view_is) moved

pub put_in_place-requires : goal.put_in_place-requires
put_in_place-requires c = record {
  room =
      omega (
        arith,
        ap (λ (d : PlainDecls). d.spare.headings) c.self.view_is,
        ap (λ (e : PlainDeclEdit). length e.headings) c.edit.view_is,
        c.requires.ready.headings,
      );
}

pub put_in_place-requires-2 : goal.put_in_place-requires-2
put_in_place-requires-2 c = record {
  room =
      omega
      (arith, ap (λ (d : PlainDecls). d.spare.names) c.self.view_is, ap (λ (e : PlainDeclEdit). length e.uses) c.edit.view_is, c.requires.ready.uses);
}

pub put_in_place-requires-3 : goal.put_in_place-requires-3
put_in_place-requires-3 c = record {
  there =
      subst (λ (d : PlainDecls). MayMendNames c.edit.inside.names.mend c.edit.inside.names.path d.names) (sym c.self.view_is)
      (subst (λ (e : PlainDeclEdit). MayMendNames e.names.mend e.names.path c.args.self.now.names) (sym c.edit.view_is) c.requires.ready.names);
}

pub returns : goal.returns
returns c =
    let own = c.self.inside in
    let edit = c.edit.inside in
    record {
      items =
          c.change.ensures
          ∙ ap (λ (d : PlainDecls). items_changed (plain_item_change edit.items d.items) own.scopes.items) c.table.view_is
          ∙ ap (λ (e : PlainDeclEdit). items_changed e.items own.scopes.items) c.edit.view_is
          ∙ ap (λ (d : PlainDecls). items_changed c.args.edit.items d.items) c.self.view_is;
      headings =
          λ name.
          c.put_in_place.ensures name
          ∙ ap (λ (e : PlainDeclEdit). changed_or (lookup (bytes_eq name) e.headings) (slot_of name own.headings.headings)) c.edit.view_is
          ∙ ap (λ (d : PlainDecls). changed_or (lookup (bytes_eq name) c.args.edit.headings) (slot_of name d.headings)) c.self.view_is;
      uses =
          λ name.
          c.put_in_place-2.ensures name
          ∙ ap (λ (e : PlainDeclEdit). changed_or (lookup (bytes_eq name) e.uses) (mentions_of name own.uses.uses)) c.edit.view_is
          ∙ ap (λ (d : PlainDecls). changed_or (lookup (bytes_eq name) c.args.edit.uses) (mentions_of name d.uses)) c.self.view_is;
      names =
          ap (λ (n : PlainNameNode). n.inner) c.put_in_place-3.ensures
          ∙ ap (λ (e : PlainDeclEdit). names_mended e.names.mend e.names.path own.names.inner) c.edit.view_is
          ∙ ap (λ (d : PlainDecls). names_after c.args.edit d.names) c.self.view_is;
    }
