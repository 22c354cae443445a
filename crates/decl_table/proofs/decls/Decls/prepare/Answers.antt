-- The edit is that of the table before, which making room leaves as it is.
use Rattle.std.specs.Prelude.{length, IfOk, Result}
use Rattle.std.proofs.Common.{sym, ap, subst, arith}
use Rattle.plcs_base.specs.declared.memory.OutOfMemory.{OutOfMemory}
use Rattle.decl_table.specs.DeclEdit.{CanPutInTable, IsDeclEdit, MayMendNames, PlainDeclEdit}
use Rattle.decl_table.specs.PlainDecls.{PlainDecls}
use Rattle.decl_table.proofs.OkAnswers.{both_ok, comes_ok}
use Rattle.decl_table.proofs.ReadyDecls.{after_alike}
use Rattle.decl_table.proofs.decls.Decls.prepare.Goals as goal

pub returns-clause-edit : goal.returns-clause-edit
returns-clause-edit c =
    let table = c.make_room-room.new.self in
    λ before is.
    subst (λ (r : Result PlainDeclEdit OutOfMemory). IfOk r (IsDeclEdit before c.args.tree.now c.args.change.now table)) (sym c.and.ensures)
    (comes_ok c.make_room-room.result c.in-Ok.edit (IsDeclEdit before c.args.tree.now c.args.change.now table) _
    (λ room.
    record {
      decls_after =
          after_alike c.args.self.now table c.in-Ok.edit c.args.tree.now.items (sym c.make_room-room.ensures.same) (c.in-Ok.ensures.after before is);
      due_are = c.in-Ok.ensures.due before is;
      gone_are = c.in-Ok.ensures.gone before is;
      known = c.in-Ok.ensures.known;
    })
    c.make_room-room.ensures.procedures)

pub returns-clause-ready : goal.returns-clause-ready
returns-clause-ready c =
    let table = c.make_room-room.new.self in
    subst (λ (r : Result PlainDeclEdit OutOfMemory). IfOk r (λ edit. CanPutInTable edit table)) (sym c.and.ensures)
    (comes_ok c.make_room-room.result c.in-Ok.edit (λ edit. CanPutInTable edit table) _
    (λ room.
    record {
      table = c.in-Ok.ensures.table;
      items = room.0;
      headings = omega (arith, c.len.ensures, ap (λ (e : PlainDeclEdit). length e.headings) c.edit.view_is, room.1.0);
      uses = omega (arith, c.len-2.ensures, ap (λ (e : PlainDeclEdit). length e.uses) c.edit.view_is, room.1.1);
      names =
          subst (λ (d : PlainDecls). MayMendNames c.in-Ok.edit.names.mend c.in-Ok.edit.names.path d.names) (sym c.make_room-room.ensures.same)
          c.in-Ok.ensures.names;
    })
    (both_ok c.make_room-room.result _ _ c.make_room-room.ensures.procedures
    (both_ok c.make_room-room.result _ _ c.make_room-room.ensures.headings c.make_room-room.ensures.names)))
