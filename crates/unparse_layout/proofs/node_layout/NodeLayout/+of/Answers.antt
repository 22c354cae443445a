-- After each turn the nodes made so far, with those that are still to be made for the sections left, are the whole
-- layout; so at the end they are all of it. Their lines are counted in 32 bits, since no node has more than four.
use Rattle.std.specs.Prelude.{◌≡◌, refl, Some, is_some, slice_get}
use Rattle.std.proofs.Common.{arith, ap, sym, ◌∙◌}
use Rattle.std.proofs.lemmas.Option.{slice_get_within}
use Rattle.plcs_grammar.specs.Template.{PlainRow, row_of}
use Rattle.template_tree.specs.Programs.PlainTree.{nodes}
use Rattle.template_tree.specs.Listings.Section.{left_for, next_lead}
use Rattle.unparse_layout.specs.Bones.{bones_of}
use Rattle.template_tree.specs.Listings.PlainSectionsLeft.{plain_sections_left}
use Rattle.unparse_layout.specs.Private.PlainNodeLayout.{PlainNodeLayout, node_layout_of}
use Rattle.unparse_layout.proofs.Heights.{count_bones, item_few, nodes_few, node_layouts_few}
use Rattle.unparse_layout.proofs.MadeBones.{made_all, made_few, made_next, made_none, push_fits, same_node_layout, some_mapped}
use Rattle.unparse_layout.proofs.PlanLines.{past_where_none}
use Rattle.unparse_layout.proofs.node_layout.NodeLayout.+of.Goals as goal

pub loop-child-init : goal.loop-child-init
loop-child-init t c = record {
  made =
      made_none (row_of c.args.node.now.label.kind).sections c.args.node.now.inner c.bare-node_layout.result.inner
      (plain_sections_left c.of-left.result) (ap (λ (o : PlainNodeLayout). o.inner) c.bare-node_layout.ensures)
      (c.of-left.ensures ∙ ap (λ (r : PlainRow). r.sections) (c.row.ensures ∙ ap row_of c.kind-2.ensures));
  bone = refl;
  within = omega arith;
}

pub of-requires : goal.of-requires
of-requires t c =
    let few = item_few c.args.node.now.inner c.loop-child.k c.in-Some.child.now (sym c.in-Some.ensures) in
    (omega (arith, few), omega (arith, few, c.requires.few))

pub push-requires-clause-few : goal.push-requires-clause-few
push-requires-clause-few t c =
    let sections = (row_of c.args.node.now.label.kind).sections in
    let whole = bones_of sections c.args.node.now.inner in
    let few = made_few whole c.loop-child.node_layout.inner (plain_sections_left c.loop-child.left) _ c.loop-child.invariant.made in
    omega (arith, few, count_bones sections c.args.node.now.inner, node_layouts_few c.loop-child.node_layout.inner, c.requires.few)

pub push-requires-clause-fits : goal.push-requires-clause-fits
push-requires-clause-fits t c =
    let sections = (row_of c.args.node.now.label.kind).sections in
    let fits =
    push_fits (bones_of sections c.args.node.now.inner) c.loop-child.node_layout.inner (plain_sections_left c.loop-child.left)
    (nodes c.args.node.now.inner) c.loop-child.k c.in-Some.child.now c.in_ok-of.field-0 c.is_some.result (sym c.in-Some.ensures)
    c.in_ok-of.ensures c.loop-child.invariant.made in
    omega (arith, fits, count_bones sections c.args.node.now.inner, c.requires.few)

pub overflow_add-k : goal.overflow_add-k
overflow_add-k t c =
    let there : slice_get (nodes c.args.node.now.inner) c.loop-child.k ≡ Some c.in-Some.child.now = sym c.in-Some.ensures in
    let within = slice_get_within (nodes c.args.node.now.inner) c.loop-child.k c.in-Some.child.now there in
    omega (arith, within, nodes_few c.args.node.now.inner, c.requires.few)

pub loop-child-smaller : goal.loop-child-smaller
loop-child-smaller t c =
    let there : slice_get (nodes c.args.node.now.inner) c.loop-child.k ≡ Some c.in-Some.child.now = sym c.in-Some.ensures in
    let within = slice_get_within (nodes c.args.node.now.inner) c.loop-child.k c.in-Some.child.now there in
    omega (arith, within)

pub loop-child-preserved : goal.loop-child-preserved
loop-child-preserved t c =
    let node = c.in-Some.child.now in
    let there : slice_get (nodes c.args.node.now.inner) c.loop-child.k ≡ Some node = sym c.in-Some.ensures in
    let within = slice_get_within (nodes c.args.node.now.inner) c.loop-child.k node there in
    let here : plain_sections_left c.at-left.result ≡ left_for (row_of node.label.kind).sort (plain_sections_left c.loop-child.left) =
    c.at-left.ensures
    ∙ ap (λ (r : PlainRow). left_for r.sort (plain_sections_left c.loop-child.left)) (c.row-in-Some.ensures ∙ ap row_of c.kind-in-Some.ensures) in
    let led : c.is_some.result ≡ is_some (next_lead (plain_sections_left c.at-left.result)) =
    c.is_some.ensures ∙ some_mapped (λ bytes. bytes.now) c.lead.result ∙ ap is_some c.lead.ensures in
    record {
      made =
          made_next (bones_of (row_of c.args.node.now.label.kind).sections c.args.node.now.inner) c.loop-child.node_layout.inner
          (plain_sections_left c.loop-child.left) (plain_sections_left c.at-left.result) (plain_sections_left c.after-left.result) (nodes c.args.node.now.inner)
          c.loop-child.k node c.in_ok-of.field-0 c.push.new.self.inner there here c.after-left.ensures
          (c.in_ok-of.ensures ∙ ap (λ b. node_layout_of b node) led)
          (ap (λ (o : PlainNodeLayout). o.inner) c.in_ok-push.ensures) c.loop-child.invariant.made;
      bone = ap (λ (o : PlainNodeLayout). o.bone) c.in_ok-push.ensures ∙ c.loop-child.invariant.bone;
      within = omega (arith, within);
    }

pub returns : goal.returns
returns t c =
    let node = c.args.node.now in
    let whole = bones_of (row_of node.label.kind).sections node.inner in
    let past = past_where_none (nodes node.inner) c.loop-child.k (sym c.in_default.ensures) in
    same_node_layout c.loop-child.node_layout (node_layout_of c.args.led node)
    (c.loop-child.invariant.bone ∙ ap (λ (o : PlainNodeLayout). o.bone) c.bare-node_layout.ensures ∙ cc)
    (made_all whole c.loop-child.node_layout.inner (plain_sections_left c.loop-child.left) (nodes node.inner) c.loop-child.k past c.loop-child.invariant.made)
