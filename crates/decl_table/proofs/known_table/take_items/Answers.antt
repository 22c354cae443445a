-- Nothing is taken where no items change; else those of the procedure, if it is there.
use Rattle.std.specs.Prelude.{Bool, true, List, Option, Some}
use Rattle.std.specs.Option.{option_copied}
use Rattle.std.proofs.Common.{Bor, ap, sym, ◌∙◌}
use Rattle.plcs_base.specs.declared.declared.Declared.{Declared}
use Rattle.template_tree.specs.Checks.Environment.{items_inside}
use Rattle.template_tree.specs.Checks.ProgramMaps.{items_in}
use Rattle.template_tree.specs.Programs.PlainTree.{PlainNode}
use Rattle.decl_table.specs.Private.ItemChangeView.{items_become}
use Rattle.decl_table.proofs.EditedItems.{found_insert}
use Rattle.decl_table.proofs.KnownStart.{change_is, list_found, only_insert}
use Rattle.decl_table.proofs.known_table.take_items.Goals as goal

pub returns-then-not-has_items-clause-items : goal.returns-then-not-has_items-clause-items
returns-then-not-has_items-clause-items c =
    ap (λ (b : Bool). items_become b c.args.change.now.slot.0 (option_copied c.args.procedure)) (sym (sym c.has_items.ensures ∙ c.if-not-has_items.true))

pub returns-then-not-has_items-clause-only : goal.returns-then-not-has_items-clause-only
returns-then-not-has_items-clause-only c = λ is. is

pub returns-in_default-clause-items : goal.returns-in_default-clause-items
returns-in_default-clause-items c =
    ap (λ (o : Option (Bor PlainNode)). items_become true c.args.change.now.slot.0 (option_copied o)) (sym c.in_default.is)
    ∙ ap (λ (b : Bool). items_become b c.args.change.now.slot.0 (option_copied c.args.procedure)) (sym (sym c.has_items.ensures ∙ c.if-not-has_items.false))

pub returns-in_default-clause-only : goal.returns-in_default-clause-only
returns-in_default-clause-only c = λ is. is

pub returns-clause-items : goal.returns-clause-items
returns-clause-items c =
    change_is c.slot-slot.result.0 c.in-Some.node.now.label.slot (items_in c.put_items.new.self.items c.slot-slot.result.0) (items_inside c.in-Some.node.now.inner)
    c.slot-slot.ensures
    (list_found c.args.table.now.items c.put_items.new.self.items c.slot-slot.result.0 c.in-Ok.items c.in_ok-put_items.ensures.items ∙ c.in-Ok.ensures)
    ∙ ap (λ (o : Option (Bor PlainNode)). items_become true c.args.change.now.slot.0 (option_copied o)) (sym c.in-Some.is)
    ∙ ap (λ (b : Bool). items_become b c.args.change.now.slot.0 (option_copied c.args.procedure)) (sym (sym c.has_items.ensures ∙ c.if-not-has_items.false))

pub returns-clause-there : goal.returns-clause-there
returns-clause-there c =
    let own = c.slot-slot.result.0 in
    let found = found_insert c.args.table.now.items c.put_items.new.self.items own c.in-Ok.items c.in_ok-put_items.ensures.items in
    found
    ∙ ap (λ (list : List Declared). Some list)
    (sym (list_found c.args.table.now.items c.put_items.new.self.items own c.in-Ok.items c.in_ok-put_items.ensures.items))

pub returns-clause-only : goal.returns-clause-only
returns-clause-only c =
    λ is.
    only_insert c.args.table.now.items c.put_items.new.self.items c.slot-slot.result.0 c.in-Ok.items c.in_ok-put_items.ensures.items is
