-- After each turn the place isn't in the items before the next one, whose lines were passed; so where it is in the next
-- one, it is behind those lines. They are counted in 32 bits, since no node has more than three.
use Rattle.std.proofs.Common.{◌≡◌, ◌+◌, ◌<◌, Some, arith, ap, sym, ◌∙◌, subst}
use Rattle.std.specs.Prelude.{false, length, slice_get}
use Rattle.std.proofs.lemmas.Option.{slice_get_within}
use Rattle.plcs_grammar.specs.Template.{PlainRow, program_sections, row_of}
use Rattle.plcs_store.specs.Configuration.{plain_place}
use Rattle.template_tree.specs.Listings.Line.{lines}
use Rattle.template_tree.specs.Listings.PlainSectionsLeft.{plain_sections_left}
use Rattle.template_tree.specs.Listings.Section.{left_for, next_lead}
use Rattle.template_tree.specs.Positions.Path.{node_at}
use Rattle.template_tree.specs.Programs.PlainTree.{nodes}
use Rattle.program_run.specs.StoppedLine.{lines_to_place, node_line_count}
use Rattle.program_run.specs.Private.SoughtLine.{fixed_count}
use Rattle.program_run.proofs.SoughtLines.{IsBelow, counted_here, counted_next, counted_none, inside_below, lines_few, nodes_few, past_where_none, place_below, sought_all, sought_found, sought_next, sought_none}
use Rattle.program_run.proofs.line_search.lines_to_place.Goals as goal

pub loop-item-init : goal.loop-item-init
loop-item-init c =
    let items = c.args.tree.now.items in
    let sections = c.of-left.ensures ∙ c.program_sections.ensures in
    record {
      sought = sought_none (plain_place c.args.place) program_sections (plain_sections_left c.of-left.result) items sections;
      counted = counted_none program_sections (plain_sections_left c.of-left.result) items sections;
      within = omega arith;
    }

pub overflow_add-passed : goal.overflow_add-passed
overflow_add-passed c =
    let items = c.args.tree.now.items in
    let item = c.in-Some.item.now in
    let there : slice_get (nodes items) c.loop-item.k ≡ Some item =
    sym (ap (node_at items) c.path_of_item.ensures ∙ c.items_are_nodes.ensures.found items c.loop-item.k) ∙ sym c.in-Some.ensures.found in
    let place = plain_place c.args.place in
    let here = plain_sections_left c.at-left.result in
    let here_is : here ≡ left_for (row_of item.label.kind).sort (plain_sections_left c.loop-item.left) =
    c.at-left.ensures
    ∙ ap (λ (r : PlainRow). left_for r.sort (plain_sections_left c.loop-item.left)) (c.row.ensures ∙ ap row_of c.kind.ensures) in
    let lead : c.fixed_count-passed.result ≡ fixed_count (next_lead here) = c.fixed_count-passed.ensures.count ∙ ap fixed_count c.lead.ensures in
    let all =
    counted_here (length (lines false 0 program_sections items)) c.loop-item.passed (plain_sections_left c.loop-item.left) here (nodes items) c.loop-item.k item
    there here_is c.loop-item.invariant.counted in
    omega (arith, all, lead, lines_few program_sections items, c.requires.few)

pub overflow_add-result : goal.overflow_add-result
overflow_add-result c =
    let items = c.args.tree.now.items in
    let item = c.in-Some.item.now in
    let there : slice_get (nodes items) c.loop-item.k ≡ Some item =
    sym (ap (node_at items) c.path_of_item.ensures ∙ c.items_are_nodes.ensures.found items c.loop-item.k) ∙ sym c.in-Some.ensures.found in
    let place = plain_place c.args.place in
    let here = plain_sections_left c.at-left.result in
    let here_is : here ≡ left_for (row_of item.label.kind).sort (plain_sections_left c.loop-item.left) =
    c.at-left.ensures
    ∙ ap (λ (r : PlainRow). left_for r.sort (plain_sections_left c.loop-item.left)) (c.row.ensures ∙ ap row_of c.kind.ensures) in
    let lead : c.fixed_count-passed.result ≡ fixed_count (next_lead here) = c.fixed_count-passed.ensures.count ∙ ap fixed_count c.lead.ensures in
    let all =
    counted_here (length (lines false 0 program_sections items)) c.loop-item.passed (plain_sections_left c.loop-item.left) here (nodes items) c.loop-item.k item
    there here_is c.loop-item.invariant.counted in
    let below : c.in-Some-lines_to_inside.count < node_line_count item.label item.inner =
    subst (IsBelow (node_line_count item.label item.inner)) (sym c.in-Some-lines_to_inside.ensures)
    (inside_below place item (place_below place (row_of item.label.kind).sections item.inner)) in
    omega (arith, all, lead, below, lines_few program_sections items, c.requires.few)

pub returns-in-Some-lines_to_inside-clause-count : goal.returns-in-Some-lines_to_inside-clause-count
returns-in-Some-lines_to_inside-clause-count c =
    let items = c.args.tree.now.items in
    let item = c.in-Some.item.now in
    let there : slice_get (nodes items) c.loop-item.k ≡ Some item =
    sym (ap (node_at items) c.path_of_item.ensures ∙ c.items_are_nodes.ensures.found items c.loop-item.k) ∙ sym c.in-Some.ensures.found in
    let place = plain_place c.args.place in
    let here = plain_sections_left c.at-left.result in
    let here_is : here ≡ left_for (row_of item.label.kind).sort (plain_sections_left c.loop-item.left) =
    c.at-left.ensures
    ∙ ap (λ (r : PlainRow). left_for r.sort (plain_sections_left c.loop-item.left)) (c.row.ensures ∙ ap row_of c.kind.ensures) in
    let lead : c.fixed_count-passed.result ≡ fixed_count (next_lead here) = c.fixed_count-passed.ensures.count ∙ ap fixed_count c.lead.ensures in
    sym
    (sought_found place (lines_to_place place program_sections items) c.loop-item.passed (c.loop-item.passed + c.fixed_count-passed.result)
    (plain_sections_left c.loop-item.left) here (nodes items) c.loop-item.k item c.in-Some-lines_to_inside.count there here_is (omega (arith, lead))
    (sym c.in-Some-lines_to_inside.ensures) c.loop-item.invariant.sought)

pub returns-in-Some-lines_to_inside-clause-few : goal.returns-in-Some-lines_to_inside-clause-few
returns-in-Some-lines_to_inside-clause-few c =
    let items = c.args.tree.now.items in
    let item = c.in-Some.item.now in
    let there : slice_get (nodes items) c.loop-item.k ≡ Some item =
    sym (ap (node_at items) c.path_of_item.ensures ∙ c.items_are_nodes.ensures.found items c.loop-item.k) ∙ sym c.in-Some.ensures.found in
    let place = plain_place c.args.place in
    let here = plain_sections_left c.at-left.result in
    let here_is : here ≡ left_for (row_of item.label.kind).sort (plain_sections_left c.loop-item.left) =
    c.at-left.ensures
    ∙ ap (λ (r : PlainRow). left_for r.sort (plain_sections_left c.loop-item.left)) (c.row.ensures ∙ ap row_of c.kind.ensures) in
    let lead : c.fixed_count-passed.result ≡ fixed_count (next_lead here) = c.fixed_count-passed.ensures.count ∙ ap fixed_count c.lead.ensures in
    let all =
    counted_here (length (lines false 0 program_sections items)) c.loop-item.passed (plain_sections_left c.loop-item.left) here (nodes items) c.loop-item.k item
    there here_is c.loop-item.invariant.counted in
    let below : c.in-Some-lines_to_inside.count < node_line_count item.label item.inner =
    subst (IsBelow (node_line_count item.label item.inner)) (sym c.in-Some-lines_to_inside.ensures)
    (inside_below place item (place_below place (row_of item.label.kind).sections item.inner)) in
    omega (arith, all, lead, below, lines_few program_sections items, c.requires.few)

pub overflow_add-passed-in-Some : goal.overflow_add-passed-in-Some
overflow_add-passed-in-Some c =
    let items = c.args.tree.now.items in
    let item = c.in-Some.item.now in
    let there : slice_get (nodes items) c.loop-item.k ≡ Some item =
    sym (ap (node_at items) c.path_of_item.ensures ∙ c.items_are_nodes.ensures.found items c.loop-item.k) ∙ sym c.in-Some.ensures.found in
    let place = plain_place c.args.place in
    let here = plain_sections_left c.at-left.result in
    let here_is : here ≡ left_for (row_of item.label.kind).sort (plain_sections_left c.loop-item.left) =
    c.at-left.ensures
    ∙ ap (λ (r : PlainRow). left_for r.sort (plain_sections_left c.loop-item.left)) (c.row.ensures ∙ ap row_of c.kind.ensures) in
    let lead : c.fixed_count-passed.result ≡ fixed_count (next_lead here) = c.fixed_count-passed.ensures.count ∙ ap fixed_count c.lead.ensures in
    let all =
    counted_here (length (lines false 0 program_sections items)) c.loop-item.passed (plain_sections_left c.loop-item.left) here (nodes items) c.loop-item.k item
    there here_is c.loop-item.invariant.counted in
    omega (arith, all, lead, c.node_line_count-passed.ensures, lines_few program_sections items, c.requires.few)

pub overflow_add-k : goal.overflow_add-k
overflow_add-k c =
    let items = c.args.tree.now.items in
    let item = c.in-Some.item.now in
    let there : slice_get (nodes items) c.loop-item.k ≡ Some item =
    sym (ap (node_at items) c.path_of_item.ensures ∙ c.items_are_nodes.ensures.found items c.loop-item.k) ∙ sym c.in-Some.ensures.found in
    let within = slice_get_within (nodes items) c.loop-item.k item there in
    omega (arith, within, nodes_few items, c.requires.few)

pub loop-item-smaller : goal.loop-item-smaller
loop-item-smaller c =
    let items = c.args.tree.now.items in
    let item = c.in-Some.item.now in
    let there : slice_get (nodes items) c.loop-item.k ≡ Some item =
    sym (ap (node_at items) c.path_of_item.ensures ∙ c.items_are_nodes.ensures.found items c.loop-item.k) ∙ sym c.in-Some.ensures.found in
    let within = slice_get_within (nodes items) c.loop-item.k item there in
    omega (arith, within)

pub loop-item-preserved : goal.loop-item-preserved
loop-item-preserved c =
    let items = c.args.tree.now.items in
    let item = c.in-Some.item.now in
    let there : slice_get (nodes items) c.loop-item.k ≡ Some item =
    sym (ap (node_at items) c.path_of_item.ensures ∙ c.items_are_nodes.ensures.found items c.loop-item.k) ∙ sym c.in-Some.ensures.found in
    let place = plain_place c.args.place in
    let here = plain_sections_left c.at-left.result in
    let here_is : here ≡ left_for (row_of item.label.kind).sort (plain_sections_left c.loop-item.left) =
    c.at-left.ensures
    ∙ ap (λ (r : PlainRow). left_for r.sort (plain_sections_left c.loop-item.left)) (c.row.ensures ∙ ap row_of c.kind.ensures) in
    let lead : c.fixed_count-passed.result ≡ fixed_count (next_lead here) = c.fixed_count-passed.ensures.count ∙ ap fixed_count c.lead.ensures in
    let within = slice_get_within (nodes items) c.loop-item.k item there in
    let passed = c.loop-item.passed + c.fixed_count-passed.result + c.node_line_count-passed.result in
    record {
      sought =
          sought_next place (lines_to_place place program_sections items) c.loop-item.passed passed (plain_sections_left c.loop-item.left) here
          (plain_sections_left c.after-left.result) (nodes items) c.loop-item.k item there here_is c.after-left.ensures
          (omega (arith, lead, c.node_line_count-passed.ensures)) (sym c.in_default-lines_to_inside.ensures) c.loop-item.invariant.sought;
      counted =
          counted_next (length (lines false 0 program_sections items)) c.loop-item.passed passed (plain_sections_left c.loop-item.left) here
          (plain_sections_left c.after-left.result) (nodes items) c.loop-item.k item there here_is c.after-left.ensures
          (omega (arith, lead, c.node_line_count-passed.ensures)) c.loop-item.invariant.counted;
      within = omega (arith, within);
    }

pub returns-clause-count : goal.returns-clause-count
returns-clause-count c =
    let items = c.args.tree.now.items in
    let none = sym (ap (node_at items) c.path_of_item.ensures ∙ c.items_are_nodes.ensures.found items c.loop-item.k) ∙ sym c.in_default.ensures.found in
    sym
    (sought_all (plain_place c.args.place) (lines_to_place (plain_place c.args.place) program_sections items) c.loop-item.passed
    (plain_sections_left c.loop-item.left) (nodes items) c.loop-item.k (past_where_none (nodes items) c.loop-item.k none) c.loop-item.invariant.sought)
