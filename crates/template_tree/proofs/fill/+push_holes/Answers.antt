use Rattle.std.specs.Prelude.{◌≡◌, ◌∷◌, [], map}
use Rattle.std.proofs.Common.{sym, ap, ◌∙◌}
use Rattle.std.proofs.lemmas.List.{nil_from_length}
use Rattle.plcs_grammar.specs.Template.{plain_section}
use Rattle.template_tree.specs.Programs.PlainTree.{forest, join, roomless}
use Rattle.template_tree.specs.Edits.Hole.{hole_list, hole_of}
use Rattle.template_tree.specs.Edits.FreshNode.{section_holes}
use Rattle.template_tree.proofs.Puts.FreshNodes.{one_more, join_nil, on_ok}
use Rattle.template_tree.proofs.fill.+push_holes.Goals as goal

pub returns-in_default : goal.returns-in_default
returns-in_default t c =
    let none : c.args.sections.now ≡ [] = nil_from_length c.args.sections.now c.in_default.ensures.cases in
    sym (join_nil (roomless (forest c.args.list.now.items)))
    ∙ ap (λ ss. join (roomless (forest c.args.list.now.items)) (section_holes (map plain_section ss))) (sym none)

pub returns : goal.returns
returns t c =
    let whole : c.args.sections.now ≡ c.in-Some.section.now ∷ c.in-Some.others.now = c.in-Some.ensures.cases.0 in
    let old = roomless (forest c.args.list.now.items) in
    on_ok c.push_holes.result
    (λ rest.
    one_more (forest (hole_list 0 (hole_of c.in-Some.section.now.sort))) (roomless (forest c.push_hole.new.list.items))
    (section_holes (map plain_section c.in-Some.others.now)) (roomless (forest c.push_holes.new.list.items)) old c.in_default-push_hole.ensures rest
    ∙ ap (λ ss. join old (section_holes (map plain_section ss))) (sym whole))
    c.push_holes.ensures
