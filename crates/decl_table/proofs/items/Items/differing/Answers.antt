use Rattle.std.proofs.Common.{◌∙◌, true, false, sym}
use Rattle.std.specs.Option.{option_copied}
use Rattle.decl_table.specs.Private.ItemTests.{lost_at}
use Rattle.decl_table.proofs.ComparedItems.{lost_told}
use Rattle.decl_table.proofs.items.Items.differing.Goals as goal

pub returns-then-same_shapes : goal.returns-then-same_shapes
returns-then-same_shapes c =
    sym
    (lost_told c.in-Some.name.now c.in-Some.field-0-1.now c.self.inside.shapes.entries c.others.inside.shapes.entries c.args.k
    (option_copied c.get.result) (option_copied c.get-2.result) true c.in-Some.ensures.entry c.get.ensures.value c.get-2.ensures.value
    (sym c.if-same_shapes.true ∙ c.same_shapes.ensures))
    ∙ (λ i. lost_at (c.self.view_is i) (c.others.view_is i) c.args.k)

pub returns-else-same_shapes : goal.returns-else-same_shapes
returns-else-same_shapes c =
    sym
    (lost_told c.in-Some.name.now c.in-Some.field-0-1.now c.self.inside.shapes.entries c.others.inside.shapes.entries c.args.k
    (option_copied c.get.result) (option_copied c.get-2.result) false c.in-Some.ensures.entry c.get.ensures.value c.get-2.ensures.value
    (sym c.if-same_shapes.false ∙ c.same_shapes.ensures))
    ∙ (λ i. lost_at (c.self.view_is i) (c.others.view_is i) c.args.k)
