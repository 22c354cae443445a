use Rattle.std.proofs.Common.{◌∙◌, ◌+◌, ◌++◌, List, append-nil, append_assoc, drop, sym, ap, arith}
use Rattle.std.proofs.lemmas.Option.{slice_get_within}
use Rattle.plcs_base.specs.ListLeft.{left_from, none_left}
use Rattle.plcs_base.specs.declared.place.PhraseAt.{PhraseAt}
use Rattle.template_tree.specs.Programs.PlainTree.{Forest, forest, forest_nodes, nodes}
use Rattle.decl_table.specs.Due.{all_list_places, list_places}
use Rattle.decl_table.proofs.MadeNames.{few_parts}
use Rattle.decl_table.proofs.due_phrases.add_lists.Goals as goal

pub add_lists_of-requires : goal.add_lists_of-requires
add_lists_of-requires c = record { few = few_parts c.args.procedure.now c.requires.subtree }

pub loop-node-init : goal.loop-node-init
loop-node-init c =
    let inner = c.args.procedure.now.inner in
    let own = list_places c.args.procedure.now.label.slot 0 c.args.procedure.now.label.parts in
    let before = c.args.places.now in
    record {
      made =
          ap (λ (places : List PhraseAt). places ++ all_list_places (forest (nodes inner))) c.in_ok-add_lists_of.ensures
          ∙ append_assoc before own (all_list_places (forest (nodes inner)))
          ∙ ap (λ (f : Forest). before ++ (own ++ all_list_places f)) (forest_nodes inner);
      within = omega arith;
    }

pub add_lists_of-requires-in-Some : goal.add_lists_of-requires-in-Some
add_lists_of-requires-in-Some c =
    let inner = c.args.procedure.now.inner in
    record {
      few =
          few_parts c.in-Some.node.now
          (c.items_are_nodes.ensures.subtrees inner c.loop-node.k c.in-Some.node.now (sym c.in-Some.ensures) c.requires.subtree.1);
    }

pub overflow_add-k : goal.overflow_add-k
overflow_add-k c =
    let within = slice_get_within (nodes c.args.procedure.now.inner) c.loop-node.k c.in-Some.node.now (sym c.in-Some.ensures) in
    omega (arith, within, c.items_are_nodes.ensures.few c.args.procedure.now.inner, c.requires.few)

pub loop-node-smaller : goal.loop-node-smaller
loop-node-smaller c =
    let within = slice_get_within (nodes c.args.procedure.now.inner) c.loop-node.k c.in-Some.node.now (sym c.in-Some.ensures) in
    omega (arith, within)

pub loop-node-preserved : goal.loop-node-preserved
loop-node-preserved c =
    let all = nodes c.args.procedure.now.inner in
    let node = c.in-Some.node.now in
    let before = c.loop-node.places in
    let own = list_places node.label.slot 0 node.label.parts in
    let rest = all_list_places (forest (drop (c.loop-node.k + 1) all)) in
    let within = slice_get_within all c.loop-node.k node (sym c.in-Some.ensures) in
    record {
      made =
          ap (λ (places : List PhraseAt). places ++ rest) c.in_ok-add_lists_of-2.ensures
          ∙ append_assoc before own rest
          ∙ ap (λ left. before ++ all_list_places (forest left)) (sym (left_from all c.loop-node.k node (sym c.in-Some.ensures)))
          ∙ c.loop-node.invariant.made;
      within = omega (arith, within);
    }

pub returns : goal.returns
returns c =
    sym (append-nil c.loop-node.places)
    ∙ ap (λ left. c.loop-node.places ++ all_list_places (forest left))
    (sym (none_left (nodes c.args.procedure.now.inner) c.loop-node.k (sym c.in_default.ensures)))
    ∙ c.loop-node.invariant.made
