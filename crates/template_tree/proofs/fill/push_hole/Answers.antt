use Rattle.std.proofs.Common.{sym, ap, ◌∙◌}
use Rattle.template_tree.specs.Programs.PlainTree.{forest, join, roomless}
use Rattle.template_tree.specs.Edits.Hole.{hole_list}
use Rattle.template_tree.proofs.Puts.FreshNodes.{pushed, join_nil, on_ok}
use Rattle.template_tree.proofs.Puts.Holes.{bare_is}
use Rattle.template_tree.proofs.fill.push_hole.Goals as goal

pub returns-in_default : goal.returns-in_default
returns-in_default c =
    sym (join_nil (roomless (forest c.args.list.now.items)))
    ∙ ap (λ o. join (roomless (forest c.args.list.now.items)) (forest (hole_list 0 o))) (sym c.in_default.is ∙ c.hole_of.ensures)

pub returns : goal.returns
returns c =
    let old = roomless (forest c.args.list.now.items) in
    on_ok c.put_last.result
    (λ put.
    ap (λ items. roomless (forest items)) put
    ∙ (pushed c.args.list.now.items c.bare.result c.in-Some.kind (bare_is c.bare.result 0 c.in-Some.kind c.bare.ensures)
    ∙ ap (λ o. join old (forest (hole_list 0 o))) (sym c.in-Some.is ∙ c.hole_of.ensures)))
    c.put_last.ensures
