use Rattle.std.specs.Prelude.{◌≡◌, suc, ◌∷◌, Some, length, map, slice_get, List}
use Rattle.std.proofs.Common.{arith, ap, sym, ◌∙◌}
use Rattle.plcs_grammar.specs.declared.node_kind.NodeKind.{NodeKind}
use Rattle.plcs_grammar.specs.Template.{PlainRow, PlainSection, plain_section, row_of}
use Rattle.template_tree.specs.Programs.PlainTree.{PlainNode, forest}
use Rattle.template_tree.specs.Edits.ListItem.{sections_at}
use Rattle.template_tree.specs.contracts.node.Node.{the_view}
use Rattle.template_tree.proofs.Lists.BesidePaths.{here_sections, no_sections, item_sections}
use Rattle.template_tree.proofs.around_path.+sections_of.Goals as goal

pub returns-then-is_empty : goal.returns-then-is_empty
returns-then-is_empty t c =
    here_sections (map plain_section c.args.sections.now) (forest c.args.nodes.now.items) c.in-Some.k.now c.args.path.now c.in-Some.rest.now
    c.in-Some.ensures.cases.0 c.if-is_empty.ensures

pub returns-in_default-get : goal.returns-in_default-get
returns-in_default-get t c =
    no_sections (map plain_section c.args.sections.now) c.args.nodes.now.items c.in-Some.k.now c.args.path.now c.in-Some.rest.now
    c.in-Some.ensures.cases.0 c.if-is_empty.ensures (sym c.in_default-get.ensures)

pub sections_of-requires : goal.sections_of-requires
sections_of-requires t c =
    let way : c.args.path.now ≡ c.in-Some.k.now ∷ c.in-Some.rest.now = c.in-Some.ensures.cases.0 in
    let shorter : length c.args.path.now ≡ suc (length c.in-Some.rest.now) = ap length way in
    (omega (arith, shorter, c.decreases), tt)

pub returns : goal.returns
returns t c =
    let node : PlainNode = the_view c.node.inside in
    let there : slice_get c.args.nodes.now.items c.in-Some.k.now ≡ Some node =
    sym c.in-Some-get.ensures ∙ ap Some (sym c.node.view_is) in
    let own : map plain_section c.row.result.sections.now ≡ (row_of node.label.kind).sections =
    ap (λ (r : PlainRow). r.sections) c.row.ensures ∙ ap (λ (k : NodeKind). (row_of k).sections) (c.kind.ensures ∙ ap (λ (n : PlainNode). n.label.kind) (sym c.node.view_is)) in
    c.sections_of.ensures
    ∙ (ap (λ (s : List PlainSection). sections_at s node.inner c.in-Some.rest.now) own
    ∙ item_sections (map plain_section c.args.sections.now) c.args.nodes.now.items c.in-Some.k.now c.args.path.now c.in-Some.rest.now node
    c.in-Some.ensures.cases.0 c.if-is_empty.ensures there)
