-- After each item the nodes made so far, with those that are still to be made for the items left, are the layout of the
-- whole program; where there is no item left they are all of it.
use Rattle.std.specs.Prelude.{◌≡◌, Some, None, is_some, slice_get}
use Rattle.std.proofs.Common.{arith, ap, sym, ◌∙◌}
use Rattle.std.proofs.lemmas.Option.{slice_get_within}
use Rattle.plcs_grammar.specs.Template.{PlainRow, row_of, program_sections}
use Rattle.template_tree.specs.Programs.PlainTree.{nodes}
use Rattle.template_tree.specs.Listings.Section.{left_for, next_lead}
use Rattle.unparse_layout.specs.Bones.{bones_of}
use Rattle.template_tree.specs.Listings.PlainSectionsLeft.{plain_sections_left}
use Rattle.unparse_layout.specs.Private.PlainNodeLayout.{PlainNodeLayout, node_layout_of}
use Rattle.unparse_layout.proofs.Heights.{count_bones, nodes_few, node_layouts_few}
use Rattle.unparse_layout.proofs.MadeBones.{made_all, made_few, made_next, made_none, push_fits, some_mapped}
use Rattle.unparse_layout.proofs.PlanLines.{at_one, past_where_none}
use Rattle.unparse_layout.proofs.layout.Layout.new.Goals as goal

pub loop-item-init : goal.loop-item-init
loop-item-init g c = record {
  made =
      made_none program_sections c.args.tree.now.items c.bare-root.result.inner (plain_sections_left c.of-left.result)
      (ap (λ (o : PlainNodeLayout). o.inner) c.bare-root.ensures) (c.of-left.ensures ∙ c.program_sections.ensures);
  within = omega arith;
}

pub push-requires-clause-few : goal.push-requires-clause-few
push-requires-clause-few g c =
    let items = c.args.tree.now.items in
    let few = made_few (bones_of program_sections items) c.loop-item.root.inner (plain_sections_left c.loop-item.left) _ c.loop-item.invariant.made in
    omega (arith, few, count_bones program_sections items, node_layouts_few c.loop-item.root.inner, c.requires.tree.few)

pub push-requires-clause-fits : goal.push-requires-clause-fits
push-requires-clause-fits g c =
    let items = c.args.tree.now.items in
    let there : slice_get (nodes items) c.loop-item.k ≡ Some c.in-Some.item.now =
    sym (at_one items c.path_of_item.result.items c.loop-item.k c.path_of_item.ensures) ∙ sym c.in-Some.ensures.found in
    let fits =
    push_fits (bones_of program_sections items) c.loop-item.root.inner (plain_sections_left c.loop-item.left) (nodes items) c.loop-item.k
    c.in-Some.item.now c.in_ok-of.field-0 c.is_some.result there c.in_ok-of.ensures c.loop-item.invariant.made in
    omega (arith, fits, count_bones program_sections items, c.requires.tree.few)

pub overflow_add-k : goal.overflow_add-k
overflow_add-k g c =
    let items = c.args.tree.now.items in
    let there : slice_get (nodes items) c.loop-item.k ≡ Some c.in-Some.item.now =
    sym (at_one items c.path_of_item.result.items c.loop-item.k c.path_of_item.ensures) ∙ sym c.in-Some.ensures.found in
    let within = slice_get_within (nodes items) c.loop-item.k c.in-Some.item.now there in
    omega (arith, within, nodes_few items, c.requires.tree.few)

pub loop-item-smaller : goal.loop-item-smaller
loop-item-smaller g c =
    let items = c.args.tree.now.items in
    let there : slice_get (nodes items) c.loop-item.k ≡ Some c.in-Some.item.now =
    sym (at_one items c.path_of_item.result.items c.loop-item.k c.path_of_item.ensures) ∙ sym c.in-Some.ensures.found in
    let within = slice_get_within (nodes items) c.loop-item.k c.in-Some.item.now there in
    omega (arith, within)

pub loop-item-preserved : goal.loop-item-preserved
loop-item-preserved g c =
    let items = c.args.tree.now.items in
    let node = c.in-Some.item.now in
    let there : slice_get (nodes items) c.loop-item.k ≡ Some node =
    sym (at_one items c.path_of_item.result.items c.loop-item.k c.path_of_item.ensures) ∙ sym c.in-Some.ensures.found in
    let within = slice_get_within (nodes items) c.loop-item.k node there in
    let here : plain_sections_left c.at-left.result ≡ left_for (row_of node.label.kind).sort (plain_sections_left c.loop-item.left) =
    c.at-left.ensures
    ∙ ap (λ (r : PlainRow). left_for r.sort (plain_sections_left c.loop-item.left)) (c.row.ensures ∙ ap row_of c.kind.ensures) in
    let led : c.is_some.result ≡ is_some (next_lead (plain_sections_left c.at-left.result)) =
    c.is_some.ensures ∙ some_mapped (λ bytes. bytes.now) c.lead.result ∙ ap is_some c.lead.ensures in
    record {
      made =
          made_next (bones_of program_sections items) c.loop-item.root.inner (plain_sections_left c.loop-item.left)
          (plain_sections_left c.at-left.result) (plain_sections_left c.after-left.result) (nodes items) c.loop-item.k node c.in_ok-of.field-0
          c.push.new.self.inner there here c.after-left.ensures (c.in_ok-of.ensures ∙ ap (λ b. node_layout_of b node) led)
          (ap (λ (o : PlainNodeLayout). o.inner) c.in_ok-push.ensures) c.loop-item.invariant.made;
      within = omega (arith, within);
    }

pub returns : goal.returns
returns g c =
    let items = c.args.tree.now.items in
    let none : slice_get (nodes items) c.loop-item.k ≡ None =
    sym (at_one items c.path_of_item.result.items c.loop-item.k c.path_of_item.ensures) ∙ sym c.in_default.ensures.found in
    made_all (bones_of program_sections items) c.loop-item.root.inner (plain_sections_left c.loop-item.left) (nodes items) c.loop-item.k
    (past_where_none (nodes items) c.loop-item.k none) c.loop-item.invariant.made
