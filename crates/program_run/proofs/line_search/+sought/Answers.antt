-- After each turn the place isn't in the nodes before the next one, whose lines were passed; so where it is in the next
-- one, it is behind those lines. They are counted in 32 bits, since no node has more than three.
use Rattle.std.proofs.Common.{◌≡◌, ◌+◌, ◌<◌, Bool, false, Some, arith, ap, sym, ◌∙◌, subst}
use Rattle.std.specs.Prelude.{◌==◌, if◌then◌else◌, option_map}
use Rattle.std.proofs.lemmas.Option.{slice_get_within}
use Rattle.plcs_grammar.specs.Template.{PlainRow, row_of}
use Rattle.plcs_store.specs.Configuration.{plain_place}
use Rattle.template_tree.specs.Listings.PlainSectionsLeft.{plain_sections_left}
use Rattle.template_tree.specs.Listings.Section.{left_for, next_lead}
use Rattle.template_tree.specs.Programs.PlainTree.{nodes}
use Rattle.program_run.specs.StoppedLine.{inner_line_count, lines_to_place, lines_to_point, node_line_count}
use Rattle.program_run.specs.Private.SoughtLine.{fixed_count}
use Rattle.program_run.proofs.SoughtLines.{IsBelow, counted_here, counted_next, counted_none, inside_below, item_few, lines_few, nodes_few, other_number, past_where_none, place_below, sought_all, sought_found, sought_next, sought_none}
use Rattle.program_run.proofs.line_search.+sought.Goals as goal

pub loop-child-init : goal.loop-child-init
loop-child-init t c =
    let node = c.args.node.now in
    let sections = c.of-left.ensures ∙ ap (λ (r : PlainRow). r.sections) (c.row.ensures ∙ ap row_of c.kind.ensures) in
    record {
      sought = sought_none (plain_place c.args.place) (row_of node.label.kind).sections (plain_sections_left c.of-left.result) node.inner sections;
      counted = counted_none (row_of node.label.kind).sections (plain_sections_left c.of-left.result) node.inner sections;
      within = omega arith;
    }

pub overflow_add-passed : goal.overflow_add-passed
overflow_add-passed t c =
    let node = c.args.node.now in
    let place = plain_place c.args.place in
    let child = c.in-Some.child.now in
    let here = plain_sections_left c.at-left.result in
    let here_is : here ≡ left_for (row_of child.label.kind).sort (plain_sections_left c.loop-child.left) =
    c.at-left.ensures
    ∙ ap (λ (r : PlainRow). left_for r.sort (plain_sections_left c.loop-child.left)) (c.row-in-Some.ensures ∙ ap row_of c.kind-in-Some.ensures) in
    let lead : c.fixed_count-passed.result ≡ fixed_count (next_lead here) = c.fixed_count-passed.ensures.count ∙ ap fixed_count c.lead.ensures in
    let all =
    counted_here (inner_line_count node.label node.inner) c.loop-child.passed (plain_sections_left c.loop-child.left) here (nodes node.inner) c.loop-child.k child
    (sym c.in-Some.ensures) here_is c.loop-child.invariant.counted in
    omega (arith, all, lead, lines_few (row_of node.label.kind).sections node.inner, c.requires.few)

pub lines_to_inside-requires : goal.lines_to_inside-requires
lines_to_inside-requires t c =
    let few = item_few c.args.node.now.inner c.loop-child.k c.in-Some.child.now (sym c.in-Some.ensures) in
    (omega (arith, few), omega (arith, few, c.requires.few))

pub overflow_add-result : goal.overflow_add-result
overflow_add-result t c =
    let node = c.args.node.now in
    let place = plain_place c.args.place in
    let child = c.in-Some.child.now in
    let here = plain_sections_left c.at-left.result in
    let here_is : here ≡ left_for (row_of child.label.kind).sort (plain_sections_left c.loop-child.left) =
    c.at-left.ensures
    ∙ ap (λ (r : PlainRow). left_for r.sort (plain_sections_left c.loop-child.left)) (c.row-in-Some.ensures ∙ ap row_of c.kind-in-Some.ensures) in
    let lead : c.fixed_count-passed.result ≡ fixed_count (next_lead here) = c.fixed_count-passed.ensures.count ∙ ap fixed_count c.lead.ensures in
    let all =
    counted_here (inner_line_count node.label node.inner) c.loop-child.passed (plain_sections_left c.loop-child.left) here (nodes node.inner) c.loop-child.k child
    (sym c.in-Some.ensures) here_is c.loop-child.invariant.counted in
    omega (arith, all, lead, lines_few (row_of node.label.kind).sections node.inner, c.requires.few)

pub overflow_add-result-in-Some-lines_to_inside : goal.overflow_add-result-in-Some-lines_to_inside
overflow_add-result-in-Some-lines_to_inside t c =
    let node = c.args.node.now in
    let place = plain_place c.args.place in
    let child = c.in-Some.child.now in
    let here = plain_sections_left c.at-left.result in
    let here_is : here ≡ left_for (row_of child.label.kind).sort (plain_sections_left c.loop-child.left) =
    c.at-left.ensures
    ∙ ap (λ (r : PlainRow). left_for r.sort (plain_sections_left c.loop-child.left)) (c.row-in-Some.ensures ∙ ap row_of c.kind-in-Some.ensures) in
    let lead : c.fixed_count-passed.result ≡ fixed_count (next_lead here) = c.fixed_count-passed.ensures.count ∙ ap fixed_count c.lead.ensures in
    let all =
    counted_here (inner_line_count node.label node.inner) c.loop-child.passed (plain_sections_left c.loop-child.left) here (nodes node.inner) c.loop-child.k child
    (sym c.in-Some.ensures) here_is c.loop-child.invariant.counted in
    let below : c.in-Some-lines_to_inside.count < node_line_count child.label child.inner =
    subst (IsBelow (node_line_count child.label child.inner)) (sym c.in-Some-lines_to_inside.ensures)
    (inside_below place child (place_below place (row_of child.label.kind).sections child.inner)) in
    omega (arith, all, lead, below, lines_few (row_of node.label.kind).sections node.inner, c.requires.few)

pub returns-in-Some-lines_to_inside : goal.returns-in-Some-lines_to_inside
returns-in-Some-lines_to_inside t c =
    let node = c.args.node.now in
    let place = plain_place c.args.place in
    let child = c.in-Some.child.now in
    let here = plain_sections_left c.at-left.result in
    let here_is : here ≡ left_for (row_of child.label.kind).sort (plain_sections_left c.loop-child.left) =
    c.at-left.ensures
    ∙ ap (λ (r : PlainRow). left_for r.sort (plain_sections_left c.loop-child.left)) (c.row-in-Some.ensures ∙ ap row_of c.kind-in-Some.ensures) in
    let lead : c.fixed_count-passed.result ≡ fixed_count (next_lead here) = c.fixed_count-passed.ensures.count ∙ ap fixed_count c.lead.ensures in
    let within = lines_to_place place (row_of node.label.kind).sections node.inner in
    let found =
    sought_found place within c.loop-child.passed (c.loop-child.passed + c.fixed_count-passed.result) (plain_sections_left c.loop-child.left) here
    (nodes node.inner) c.loop-child.k child c.in-Some-lines_to_inside.count (sym c.in-Some.ensures) here_is (omega (arith, lead))
    (sym c.in-Some-lines_to_inside.ensures) c.loop-child.invariant.sought in
    let other : (node.label.slot == place.slot) ≡ false = other_number node.label.slot place.slot (λ same. c.if-slot-place.false (c.slot.ensures ∙ same)) in
    let sum : 1 + (c.loop-child.passed + c.fixed_count-passed.result + c.in-Some-lines_to_inside.count)
    ≡ 1 + (c.loop-child.passed + c.fixed_count-passed.result) + c.in-Some-lines_to_inside.count = omega arith in
    sym
    (ap (λ (b : Bool). if b then Some (lines_to_point node.label node.inner place.point) else option_map (λ n. 1 + n) within) other
    ∙ ap (option_map (λ n. 1 + n)) found
    ∙ ap (λ n. Some n) sum)

pub node_line_count-passed-requires : goal.node_line_count-passed-requires
node_line_count-passed-requires t c =
    let few = item_few c.args.node.now.inner c.loop-child.k c.in-Some.child.now (sym c.in-Some.ensures) in
    record { few = omega (arith, few, c.requires.few) }

pub overflow_add-passed-in-Some : goal.overflow_add-passed-in-Some
overflow_add-passed-in-Some t c =
    let node = c.args.node.now in
    let place = plain_place c.args.place in
    let child = c.in-Some.child.now in
    let here = plain_sections_left c.at-left.result in
    let here_is : here ≡ left_for (row_of child.label.kind).sort (plain_sections_left c.loop-child.left) =
    c.at-left.ensures
    ∙ ap (λ (r : PlainRow). left_for r.sort (plain_sections_left c.loop-child.left)) (c.row-in-Some.ensures ∙ ap row_of c.kind-in-Some.ensures) in
    let lead : c.fixed_count-passed.result ≡ fixed_count (next_lead here) = c.fixed_count-passed.ensures.count ∙ ap fixed_count c.lead.ensures in
    let all =
    counted_here (inner_line_count node.label node.inner) c.loop-child.passed (plain_sections_left c.loop-child.left) here (nodes node.inner) c.loop-child.k child
    (sym c.in-Some.ensures) here_is c.loop-child.invariant.counted in
    omega (arith, all, lead, c.node_line_count-passed.ensures, lines_few (row_of node.label.kind).sections node.inner, c.requires.few)

pub overflow_add-k : goal.overflow_add-k
overflow_add-k t c =
    let within = slice_get_within (nodes c.args.node.now.inner) c.loop-child.k c.in-Some.child.now (sym c.in-Some.ensures) in
    omega (arith, within, nodes_few c.args.node.now.inner, c.requires.few)

pub loop-child-smaller : goal.loop-child-smaller
loop-child-smaller t c =
    let within = slice_get_within (nodes c.args.node.now.inner) c.loop-child.k c.in-Some.child.now (sym c.in-Some.ensures) in
    omega (arith, within)

pub loop-child-preserved : goal.loop-child-preserved
loop-child-preserved t c =
    let node = c.args.node.now in
    let place = plain_place c.args.place in
    let child = c.in-Some.child.now in
    let here = plain_sections_left c.at-left.result in
    let here_is : here ≡ left_for (row_of child.label.kind).sort (plain_sections_left c.loop-child.left) =
    c.at-left.ensures
    ∙ ap (λ (r : PlainRow). left_for r.sort (plain_sections_left c.loop-child.left)) (c.row-in-Some.ensures ∙ ap row_of c.kind-in-Some.ensures) in
    let lead : c.fixed_count-passed.result ≡ fixed_count (next_lead here) = c.fixed_count-passed.ensures.count ∙ ap fixed_count c.lead.ensures in
    let within = slice_get_within (nodes node.inner) c.loop-child.k child (sym c.in-Some.ensures) in
    let passed = c.loop-child.passed + c.fixed_count-passed.result + c.node_line_count-passed.result in
    record {
      sought =
          sought_next place (lines_to_place place (row_of node.label.kind).sections node.inner) c.loop-child.passed passed (plain_sections_left c.loop-child.left)
          here (plain_sections_left c.after-left.result) (nodes node.inner) c.loop-child.k child (sym c.in-Some.ensures) here_is c.after-left.ensures
          (omega (arith, lead, c.node_line_count-passed.ensures)) (sym c.in_default-lines_to_inside.ensures) c.loop-child.invariant.sought;
      counted =
          counted_next (inner_line_count node.label node.inner) c.loop-child.passed passed (plain_sections_left c.loop-child.left) here
          (plain_sections_left c.after-left.result) (nodes node.inner) c.loop-child.k child (sym c.in-Some.ensures) here_is c.after-left.ensures
          (omega (arith, lead, c.node_line_count-passed.ensures)) c.loop-child.invariant.counted;
      within = omega (arith, within);
    }

pub returns : goal.returns
returns t c =
    let node = c.args.node.now in
    let place = plain_place c.args.place in
    let within = lines_to_place place (row_of node.label.kind).sections node.inner in
    let none =
    sought_all place within c.loop-child.passed (plain_sections_left c.loop-child.left) (nodes node.inner) c.loop-child.k
    (past_where_none (nodes node.inner) c.loop-child.k (sym c.in_default.ensures)) c.loop-child.invariant.sought in
    let other : (node.label.slot == place.slot) ≡ false = other_number node.label.slot place.slot (λ same. c.if-slot-place.false (c.slot.ensures ∙ same)) in
    sym
    (ap (λ (b : Bool). if b then Some (lines_to_point node.label node.inner place.point) else option_map (λ n. 1 + n) within) other
    ∙ ap (option_map (λ n. 1 + n)) none)
