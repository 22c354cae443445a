-- The items that come are those that the other table has under the slot.
use Rattle.std.specs.Prelude.{◌≡◌, [], List, Option, Some, unwrap_or}
use Rattle.std.specs.FinMap.{get, insert}
use Rattle.std.proofs.Common.{ap, sym, ◌∙◌, subst, true≢false}
use Rattle.std.proofs.lemmas.Option.{none-some}
use Rattle.plcs_base.specs.declared.declared.Declared.{Declared}
use Rattle.template_tree.specs.Checks.ProgramMaps.{items_in}
use Rattle.decl_table.specs.DeclEdit.{HasItemsOf, items_changed}
use Rattle.decl_table.specs.Private.ItemChangeView.{plain_item_change}
use Rattle.decl_table.proofs.scopes.Scopes.change.Goals as goal

pub returns-in-Stay : goal.returns-in-Stay
returns-in-Stay c = ap (λ change. items_changed (plain_item_change change c.args.other.now.items) c.args.self.now.items) (sym c.in-Stay.is)

pub returns-in-Gone : goal.returns-in-Gone
returns-in-Gone c =
    c.take.ensures.left
    ∙ ap (λ change. items_changed (plain_item_change change c.args.other.now.items) c.args.self.now.items) (sym c.in-Gone.is)

pub unreachable-requires : goal.unreachable-requires
unreachable-requires c =
    let slot = c.in-Set.slot.0 in
    let has : get c.args.other.now.items slot ≡ Some (items_in c.args.other.now.items slot) =
    subst (λ change. HasItemsOf c.args.other.now.items (plain_item_change change c.args.other.now.items)) c.in-Set.is c.requires.there in
    none-some (items_in c.args.other.now.items slot) (c.in_default.ensures.taken ∙ has)

pub unreachable-requires-in-Err : goal.unreachable-requires-in-Err
unreachable-requires-in-Err c = true≢false (sym (c.in-Err.ensures.succeeds c.requires.room))

pub returns-in-Ok : goal.returns-in-Ok
returns-in-Ok c =
    let slot = c.in-Set.slot.0 in
    c.in-Ok.ensures.put
    ∙ ap (insert c.args.self.now.items slot) (ap (λ (o : Option (List Declared)). unwrap_or o []) c.in-Some.ensures.taken)
    ∙ ap (λ change. items_changed (plain_item_change change c.args.other.now.items) c.args.self.now.items) (sym c.in-Set.is)
