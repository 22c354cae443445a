use Rattle.std.proofs.Common.{◌∙◌, List, ℕ, Option, option_map, is_some, sym, ap, subst}
use Rattle.std.specs.Prelude.{bytes_eq}
use Rattle.std.specs.Map.{lookup}
use Rattle.decl_table.specs.Private.HeadingChangesView.{NotesHeadings, plain_heading_changes}
use Rattle.decl_table.proofs.NotedHeadings.{notes_one, notes_there}
use Rattle.decl_table.proofs.TableMaps.{changes_turn}
use Rattle.decl_table.proofs.heading_changes.HeadingChanges.note_name.Goals as goal

pub returns-then-has : goal.returns-then-has
returns-then-has c = notes_there c.args.tree.now.items c.args.self.now c.args.name.now (sym c.has.ensures ∙ c.if-has.true)

pub returns : goal.returns
returns c =
    let old = c.self.inside.list.items in
    let slot = c.first_headed-slot.result in
    subst (λ (all : List (List ℕ × Option ℕ)). NotesHeadings (bytes_eq c.args.name.now) c.args.tree.now.items all (plain_heading_changes c.push.new.self.items))
    c.self.view_is
    (notes_one c.args.tree.now.items (plain_heading_changes old) (plain_heading_changes c.push.new.self.items) c.args.name.now c.copy.result
    (option_map (λ s. s.0) slot) c.copy.ensures
    (ap plain_heading_changes c.in_ok-push.ensures.items ∙ changes_turn old record { name = c.copy.result; slot = slot })
    (ap (λ all. is_some (lookup (bytes_eq c.args.name.now) all)) c.self.view_is ∙ sym c.has.ensures ∙ c.if-has.false)
    c.first_headed-slot.ensures)
