-- A node's lines are its head line, those inside it and its last one, put one after the other; the loop has put the
-- lines of the nodes before, by the sections that are left for the others. Both get smaller by the node that they go
-- into.
use Rattle.std.proofs.Common.{rules, ◌≡◌, ◌+◌, ◌<◌, ◌∙◌, sym, ap, arith, false, length, map, option_map}
use Rattle.plcs_base.specs.Put.{puts_nothing, puts_next}
use Rattle.plcs_base.specs.Putting.{puts_append, puts_same}
use Rattle.plcs_grammar.specs.Template.{PlainRow, plain_row, plain_section, row_of}
use Rattle.template_tree.specs.Listings.Line.{fixed_line, lines, segments_text}
use Rattle.template_tree.specs.Listings.Listing.{bytes_of_lines}
use Rattle.template_tree.specs.Programs.PlainPhrasePlace.{plain_phrase_place}
use Rattle.template_tree.specs.Programs.PlainTree.{PlainNode, forest}
use Rattle.template_tree.specs.Listings.PlainSectionsLeft.{plain_sections_left}
use Rattle.template_tree.specs.Listings.Section.{left_for}
use Rattle.template_tree.proofs.Listings.PutLines.{bytes_append, first_light, first_shallow, nothing_left, put_next}
use Rattle.template_tree.proofs.listing.+lines.Goals as goal

pub put_node-returns : goal.put_node-returns
put_node-returns g t c =
    let level = c.args.level in
    let node = c.args.node.now in
    let row : plain_row c.args.row.now ≡ row_of node.label.kind = c.requires.row in
    let parts : map plain_phrase_place c.as_slice.result.now ≡ node.label.parts =
    ap (map plain_phrase_place) c.as_slice.ensures.value ∙ ap (λ (n : PlainNode). n.label.parts) c.node.view_is in
    let items : forest c.as_slice-2.result.now ≡ node.inner =
    ap forest c.as_slice-2.ensures ∙ ap (λ (n : PlainNode). n.inner) c.node.view_is in
    let inner_lines = lines false (level + 1) (row_of node.label.kind).sections node.inner in
    let last_line = fixed_line level (row_of node.label.kind).last in
    let head =
    puts_same
    (ap (λ (r : PlainRow). segments_text r.line (map plain_phrase_place c.as_slice.result.now)) row
    ∙ ap (segments_text (row_of node.label.kind).line) parts)
    c.put_segments.ensures in
    let inner =
    puts_same
    (ap (λ (r : PlainRow). bytes_of_lines (lines false (level + 1) r.sections (forest c.as_slice-2.result.now))) row
    ∙ ap (λ f. bytes_of_lines (lines false (level + 1) (row_of node.label.kind).sections f)) items)
    c.put_inner.ensures in
    let last = puts_same (ap (λ (r : PlainRow). bytes_of_lines (fixed_line level r.last)) row) c.put_fixed_line.ensures in
    puts_append (puts_append c.put_blanks.ensures head)
    (puts_next c.put.ensures (puts_same (sym (bytes_append inner_lines last_line)) (puts_append inner last)))

pub put_inner-returns-else-nodes-gt0 : goal.put_inner-returns-else-nodes-gt0
put_inner-returns-else-nodes-gt0 g t c =
    let none = nothing_left c.args.nodes.now (omega arith) in
    puts_same (sym (ap (λ n. bytes_of_lines (lines false c.args.level (map plain_section c.args.sections.now) (forest n))) none)) puts_nothing

pub put_nodes-put_node-requires : goal.put_nodes-put_node-requires
put_nodes-put_node-requires g t c κs within =
    let first = c.in-Some.ensures.cases.0 in
    let light = first_light c.loop-node.rest.now c.in-Some.later.now c.in-Some.node.now first in
    let shallow = first_shallow c.loop-node.rest.now c.in-Some.later.now c.in-Some.node.now first in (
      omega (arith, light.0, c.loop-node.invariant.light),
      (search rules, (c.table_row-row.ensures ∙ ap row_of c.kind.ensures, omega (arith, shallow.0, c.loop-node.invariant.shallow))),
    )

pub put_nodes-loop-node-init : goal.put_nodes-loop-node-init
put_nodes-loop-node-init g t c =
    record {
      lacks = λ after rest. puts_same (ap (λ s. bytes_of_lines (lines false c.args.level s (forest c.args.nodes.now))) c.of-left.ensures) rest;
      shallow = c.requires.shallow;
      light = omega arith;
    }

pub put_nodes-loop-node-preserved : goal.put_nodes-loop-node-preserved
put_nodes-loop-node-preserved g t c =
    let node = c.in-Some.node.now in
    let more = c.in-Some.later.now in
    let first = c.in-Some.ensures.cases.0 in
    let row : plain_row c.table_row-row.result.now ≡ row_of node.label.kind = c.table_row-row.ensures ∙ ap row_of c.kind.ensures in
    let light = first_light c.loop-node.rest.now more node first in
    let shallow = first_shallow c.loop-node.rest.now more node first in
    record {
      lacks =
          put_next _ c.args.level (plain_sections_left c.loop-node.left) (plain_sections_left c.at-left.result) (plain_sections_left c.after-left.result)
          (option_map (λ bytes. bytes.now) c.lead.result) c.loop-node.rest.now more node first
          (c.at-left.ensures ∙ ap (λ (r : PlainRow). left_for r.sort (plain_sections_left c.loop-node.left)) row)
          c.lead.ensures c.after-left.ensures c.loop-node.invariant.lacks
          (puts_same
          (ap (λ n. bytes_of_lines (fixed_line n (option_map (λ bytes. bytes.now) c.lead.result))) c.saturating_sub.ensures)
          c.put_fixed_line.ensures)
          c.put_node.ensures;
      shallow = omega (arith, shallow.1, c.loop-node.invariant.shallow);
      light = omega (arith, light.1, c.loop-node.invariant.light);
    }

pub put_nodes-returns : goal.put_nodes-returns
put_nodes-returns g t c =
    let end = nothing_left c.loop-node.rest.now c.in_default.ensures.cases in
    c.loop-node.invariant.lacks _
    (puts_same (sym (ap (λ n. bytes_of_lines (lines false c.args.level (plain_sections_left c.loop-node.left) (forest n))) end)) puts_nothing)
