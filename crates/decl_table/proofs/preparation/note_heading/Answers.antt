use Rattle.std.specs.Prelude.{OnOk, Option, None}
use Rattle.std.specs.Option.{option_copied}
use Rattle.std.proofs.Common.{Bor, sym, subst, refl}
use Rattle.decl_table.specs.Private.HeadingChangesView.{NotesHeadings, stands_in}
use Rattle.decl_table.specs.Private.PlainNameNode.{PlainNameNode}
use Rattle.decl_table.proofs.NotedHeadings.{notes_nothing}
use Rattle.decl_table.proofs.preparation.note_heading.Goals as goal

pub returns-in-Some : goal.returns-in-Some
returns-in-Some c =
    subst
    (λ (o : Option (Bor PlainNameNode)).
    OnOk c.note.result
    (NotesHeadings (stands_in (option_copied o)) c.args.tree.now.items c.args.changes.now c.note.new.self))
    (sym c.in-Some.is) c.note.ensures

pub returns-in-None : goal.returns-in-None
returns-in-None c =
    subst
    (λ (o : Option (Bor PlainNameNode)).
    NotesHeadings (stands_in (option_copied o)) c.args.tree.now.items c.args.changes.now c.args.changes.now)
    (sym c.in-None.is) (notes_nothing c.args.tree.now.items (stands_in (let o : Option PlainNameNode = None in o)) c.args.changes.now (λ name. refl))
