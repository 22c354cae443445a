-- After each turn the lines so far, with those of the nodes that are left for the sections left, are all lines; so at
-- the end they are all of them. They are counted in 32 bits, since no node has more than three.
use Rattle.std.proofs.Common.{◌≡◌, ◌+◌, arith, ap, sym, ◌∙◌}
use Rattle.std.proofs.lemmas.Option.{slice_get_within}
use Rattle.plcs_grammar.specs.Template.{PlainRow, row_of}
use Rattle.template_tree.specs.Listings.PlainSectionsLeft.{plain_sections_left}
use Rattle.template_tree.specs.Listings.Section.{left_for, next_lead}
use Rattle.template_tree.specs.Programs.PlainTree.{nodes}
use Rattle.program_run.specs.StoppedLine.{inner_line_count}
use Rattle.program_run.specs.Private.SoughtLine.{fixed_count}
use Rattle.program_run.proofs.SoughtLines.{counted_all, counted_here, counted_next, counted_none, item_few, lines_few, nodes_few, past_where_none}
use Rattle.program_run.proofs.line_search.+counted.Goals as goal

pub inner_line_count-loop-child-init : goal.inner_line_count-loop-child-init
inner_line_count-loop-child-init t c = record {
  counted =
      counted_none (row_of c.args.node.now.label.kind).sections (plain_sections_left c.of-left.result) c.args.node.now.inner
      (c.of-left.ensures ∙ ap (λ (r : PlainRow). r.sections) (c.row.ensures ∙ ap row_of c.kind.ensures));
  within = omega arith;
}

pub inner_line_count-node_line_count-requires : goal.inner_line_count-node_line_count-requires
inner_line_count-node_line_count-requires t c =
    let few = item_few c.args.node.now.inner c.loop-child.k c.in-Some.child.now (sym c.in-Some.ensures) in
    (omega (arith, few), omega (arith, few, c.requires.few))

pub inner_line_count-overflow_add-lines : goal.inner_line_count-overflow_add-lines
inner_line_count-overflow_add-lines t c =
    let node = c.args.node.now in
    let child = c.in-Some.child.now in
    let here = plain_sections_left c.at-left.result in
    let here_is : here ≡ left_for (row_of child.label.kind).sort (plain_sections_left c.loop-child.left) =
    c.at-left.ensures
    ∙ ap (λ (r : PlainRow). left_for r.sort (plain_sections_left c.loop-child.left)) (c.row-in-Some.ensures ∙ ap row_of c.kind-in-Some.ensures) in
    let lead : c.fixed_count.result ≡ fixed_count (next_lead here) = c.fixed_count.ensures.count ∙ ap fixed_count c.lead.ensures in
    let all =
    counted_here (inner_line_count node.label node.inner) c.loop-child.lines (plain_sections_left c.loop-child.left) here (nodes node.inner) c.loop-child.k child
    (sym c.in-Some.ensures) here_is c.loop-child.invariant.counted in
    omega (arith, all, lead, c.node_line_count.ensures, lines_few (row_of node.label.kind).sections node.inner, c.requires.few)

pub inner_line_count-overflow_add-lines-in-Some : goal.inner_line_count-overflow_add-lines-in-Some
inner_line_count-overflow_add-lines-in-Some t c =
    let node = c.args.node.now in
    let child = c.in-Some.child.now in
    let here = plain_sections_left c.at-left.result in
    let here_is : here ≡ left_for (row_of child.label.kind).sort (plain_sections_left c.loop-child.left) =
    c.at-left.ensures
    ∙ ap (λ (r : PlainRow). left_for r.sort (plain_sections_left c.loop-child.left)) (c.row-in-Some.ensures ∙ ap row_of c.kind-in-Some.ensures) in
    let lead : c.fixed_count.result ≡ fixed_count (next_lead here) = c.fixed_count.ensures.count ∙ ap fixed_count c.lead.ensures in
    let all =
    counted_here (inner_line_count node.label node.inner) c.loop-child.lines (plain_sections_left c.loop-child.left) here (nodes node.inner) c.loop-child.k child
    (sym c.in-Some.ensures) here_is c.loop-child.invariant.counted in
    omega (arith, all, lead, c.node_line_count.ensures, lines_few (row_of node.label.kind).sections node.inner, c.requires.few)

pub inner_line_count-overflow_add-k : goal.inner_line_count-overflow_add-k
inner_line_count-overflow_add-k t c =
    let within = slice_get_within (nodes c.args.node.now.inner) c.loop-child.k c.in-Some.child.now (sym c.in-Some.ensures) in
    omega (arith, within, nodes_few c.args.node.now.inner, c.requires.few)

pub inner_line_count-loop-child-smaller : goal.inner_line_count-loop-child-smaller
inner_line_count-loop-child-smaller t c =
    let within = slice_get_within (nodes c.args.node.now.inner) c.loop-child.k c.in-Some.child.now (sym c.in-Some.ensures) in
    omega (arith, within)

pub inner_line_count-loop-child-preserved : goal.inner_line_count-loop-child-preserved
inner_line_count-loop-child-preserved t c =
    let node = c.args.node.now in
    let child = c.in-Some.child.now in
    let here = plain_sections_left c.at-left.result in
    let here_is : here ≡ left_for (row_of child.label.kind).sort (plain_sections_left c.loop-child.left) =
    c.at-left.ensures
    ∙ ap (λ (r : PlainRow). left_for r.sort (plain_sections_left c.loop-child.left)) (c.row-in-Some.ensures ∙ ap row_of c.kind-in-Some.ensures) in
    let lead : c.fixed_count.result ≡ fixed_count (next_lead here) = c.fixed_count.ensures.count ∙ ap fixed_count c.lead.ensures in
    let within = slice_get_within (nodes node.inner) c.loop-child.k child (sym c.in-Some.ensures) in
    record {
      counted =
          counted_next (inner_line_count node.label node.inner) c.loop-child.lines (c.loop-child.lines + (c.fixed_count.result + c.node_line_count.result))
          (plain_sections_left c.loop-child.left) here (plain_sections_left c.after-left.result) (nodes node.inner) c.loop-child.k child
          (sym c.in-Some.ensures) here_is c.after-left.ensures (omega (arith, lead, c.node_line_count.ensures)) c.loop-child.invariant.counted;
      within = omega (arith, within);
    }

pub inner_line_count-returns : goal.inner_line_count-returns
inner_line_count-returns t c =
    let node = c.args.node.now in
    counted_all (inner_line_count node.label node.inner) c.loop-child.lines (plain_sections_left c.loop-child.left) (nodes node.inner) c.loop-child.k
    (past_where_none (nodes node.inner) c.loop-child.k (sym c.in_default.ensures)) c.loop-child.invariant.counted

pub node_line_count-overflow_add-result : goal.node_line_count-overflow_add-result
node_line_count-overflow_add-result t c =
    let node = c.args.node.now in
    omega (arith, c.inner_line_count.ensures, lines_few (row_of node.label.kind).sections node.inner, c.requires.few)

pub node_line_count-overflow_add-result-2 : goal.node_line_count-overflow_add-result-2
node_line_count-overflow_add-result-2 t c =
    let node = c.args.node.now in
    omega (arith, c.inner_line_count.ensures, c.fixed_count.ensures.few, lines_few (row_of node.label.kind).sections node.inner, c.requires.few)
