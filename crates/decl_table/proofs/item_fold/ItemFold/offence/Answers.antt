use Rattle.std.proofs.Common.{◌∙◌, sym}
use Rattle.decl_table.specs.Private.ItemsView.{shaped}
use Rattle.decl_table.proofs.ItemLists.{is_duplicate, is_fine, is_reserved, is_too_large, large_told, reserved_told, small_told}
use Rattle.decl_table.proofs.item_fold.ItemFold.offence.Goals as goal

pub returns-then-is_some : goal.returns-then-is_some
returns-then-is_some c =
    is_reserved c.args.self.now (shaped c.args.name.now c.args.shape)
    (reserved_told c.args.name.now c.as_bytes.result.now c.read.result c.is_some.result c.as_bytes.ensures.bytes c.read.ensures c.is_some.ensures
    ∙ c.if-is_some.true)

pub returns-then-has : goal.returns-then-has
returns-then-has c =
    rw (← c.self.view_is)
    (is_duplicate c.self.inside.items (shaped c.args.name.now c.args.shape)
    (reserved_told c.args.name.now c.as_bytes.result.now c.read.result c.is_some.result c.as_bytes.ensures.bytes c.read.ensures c.is_some.ensures
    ∙ c.if-is_some.false)
    (sym c.has.ensures ∙ c.if-has.true))

pub returns-then-cells-self : goal.returns-then-cells-self
returns-then-cells-self c =
    let before = c.self.inside.items in
    let item = shaped c.args.name.now c.args.shape in
    rw (← c.self.view_is)
    (is_too_large before item
    (reserved_told c.args.name.now c.as_bytes.result.now c.read.result c.is_some.result c.as_bytes.ensures.bytes c.read.ensures c.is_some.ensures
    ∙ c.if-is_some.false)
    (sym c.has.ensures ∙ c.if-has.false)
    (large_told c.self.inside.cells c.cells.result before item c.self.invariant.counted c.cells.ensures c.if-cells-self.true
    c.self.invariant.few))

pub returns : goal.returns
returns c =
    let before = c.self.inside.items in
    let item = shaped c.args.name.now c.args.shape in
    rw (← c.self.view_is)
    (is_fine before item
    (reserved_told c.args.name.now c.as_bytes.result.now c.read.result c.is_some.result c.as_bytes.ensures.bytes c.read.ensures c.is_some.ensures
    ∙ c.if-is_some.false)
    (sym c.has.ensures ∙ c.if-has.false)
    (small_told c.self.inside.cells c.cells.result before item c.self.invariant.counted c.cells.ensures c.if-cells-self.false
    c.self.invariant.few))
