use Rattle.std.proofs.Common.{rules, tests, ◌∙◌}
use Rattle.std.proofs.lemmas.Iterator.{YieldsList-from_slice}
use Rattle.std.proofs.lemmas.Iterator.Search.{any_from_yields_List}
use Rattle.plcs_base.specs.declared.declared.ItemType.{ItemType}
use Rattle.plcs_grammar.specs.declared.item.Item.{Item}
use Rattle.template_tree.specs.Checks.Environment.{declared_as}
use Rattle.type_marks.specs.Private.DeclaredItems.{is_such}
use Rattle.type_marks.proofs.DeclaredOffences.{such_listed}
use Rattle.type_marks.proofs.declared_items.has_such.Goals as goal

pub returns : goal.returns
returns c =
    let name = c.args.name.now in
    let cells = c.args.cells in
    let items = c.args.items.now in
    λ ty.
    any_from_yields_List (λ (item : Item). is_such name cells (declared_as ItemType.Fixed item)) _ _ _ c.any.ensures.ran
    (YieldsList-from_slice items cc) (λ x b q k. search (rules, tests))
    ∙ such_listed name cells ty items
