use Rattle.std.proofs.Common.{rules, ◌∙◌, map, sym, ap}
use Rattle.template_tree.specs.Checks.Environment.{declared_as}
use Rattle.template_tree.specs.Checks.Marks.{declared_before}
use Rattle.type_marks.specs.Private.DeclaredItems.{has_such, judged_item}
use Rattle.type_marks.proofs.EffectiveItems.{is_free, judged_apart, judged_same}
use Rattle.type_marks.proofs.declared_items.item_offence.Goals as goal

pub returns-then-cells_of_item-cells : goal.returns-then-cells_of_item-cells
returns-then-cells_of_item-cells c =
    λ ty.
    let before = declared_before c.args.procedure.now.inner c.args.slot.0 in
    let later = map (declared_as ty) c.args.earlier.now in
    let item = declared_as ty c.args.item.now in
    let known = c.in-Some.effective in
    judged_same before later item known
    (is_free c.args.item.now.name c.read.result (search rules) (search rules))
    (search rules)
    (ap (λ n. has_such c.args.item.now.name n later) (sym c.cells_of-cells.ensures) ∙ sym (c.has_such.ensures ty) ∙ c.if-has_such.false)
    (search rules)
    ∙ ap (judged_item _ item) (sym c.in-Some.is)

pub returns-else-cells_of_item-cells : goal.returns-else-cells_of_item-cells
returns-else-cells_of_item-cells c =
    λ ty.
    let before = declared_before c.args.procedure.now.inner c.args.slot.0 in
    let later = map (declared_as ty) c.args.earlier.now in
    let item = declared_as ty c.args.item.now in
    let known = c.in-Some.effective in
    judged_apart before later item known
    (is_free c.args.item.now.name c.read.result (search rules) (search rules))
    (search rules)
    (ap (λ n. has_such c.args.item.now.name n later) (sym c.cells_of-cells.ensures) ∙ sym (c.has_such.ensures ty) ∙ c.if-has_such.false)
    (search rules)
    ∙ ap (judged_item _ item) (sym c.in-Some.is)
