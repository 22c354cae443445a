use Rattle.std.proofs.Common.{ℕ, Option, List, [], sym, ap, subst}
use Rattle.std.specs.Prelude.{OnOk, bytes_eq, unwrap_or}
use Rattle.std.specs.List.{list_any}
use Rattle.decl_table.specs.Private.HeadingChangesView.{NotesHeadings, stands_first}
use Rattle.decl_table.proofs.NotedHeadings.{notes_nothing}
use Rattle.decl_table.proofs.heading_changes.HeadingChanges.note.Goals as goal

pub returns-in-Some : goal.returns-in-Some
returns-in-Some c =
    subst
    (λ (o : Option (List (List ℕ))).
    OnOk c.note_names.result
    (NotesHeadings (λ name. list_any (bytes_eq name) (unwrap_or o [])) c.args.tree.now.items c.args.self.now c.note_names.new.self))
    c.in-Some.ensures
    (subst
    (λ (l : List (List ℕ)).
    OnOk c.note_names.result
    (NotesHeadings (λ name. list_any (bytes_eq name) l) c.args.tree.now.items c.args.self.now c.note_names.new.self))
    c.as_slice.ensures c.note_names.ensures)

pub returns-in-None : goal.returns-in-None
returns-in-None c =
    notes_nothing c.args.tree.now.items (stands_first c.args.procedure.now) c.args.self.now
    (λ name. ap (λ (o : Option (List (List ℕ))). list_any (bytes_eq name) (unwrap_or o [])) (sym c.in-None.ensures))
