use Rattle.std.proofs.Common.{arith, ap, sym, ◌∙◌}
use Rattle.plcs_grammar.specs.Template.{PlainRow, row_of}
use Rattle.template_tree.specs.Programs.PlainTree.{nodes}
use Rattle.template_tree.specs.Listings.Section.{left_for}
use Rattle.template_tree.specs.Listings.PlainSectionsLeft.{plain_sections_left}
use Rattle.unparse_layout.proofs.Leads.{lead_first, lead_next, lead_here, lead_past}
use Rattle.unparse_layout.proofs.PlanLines.{past_where_none}
use Rattle.unparse_layout.proofs.plan.lead_before.Goals as goal

pub loop-i-init : goal.loop-i-init
loop-i-init c =
    lead_first (row_of c.args.node.now.label.kind).sections (plain_sections_left c.of-left.result) c.args.node.now.inner c.args.k
    (c.of-left.ensures ∙ ap (λ (r : PlainRow). r.sections) (c.row.ensures ∙ ap row_of c.kind.ensures))

pub returns-in_default : goal.returns-in_default
returns-in_default c =
    let past = past_where_none (nodes c.args.node.now.inner) c.loop-i.i (sym c.in_default.ensures) in
    sym (lead_past (row_of c.args.node.now.label.kind).sections c.args.node.now.inner c.args.k (omega (arith, past, c.loop-i-test.true)))

pub loop-i-preserved : goal.loop-i-preserved
loop-i-preserved c =
    let node = c.in-Some.child.now in
    lead_next (plain_sections_left c.loop-i.left) (plain_sections_left c.at.result) (plain_sections_left c.after-left.result) (nodes c.args.node.now.inner) c.loop-i.i
    c.args.k node (sym c.in-Some.ensures) c.loop-i-test.true
    (c.at.ensures ∙ ap (λ (r : PlainRow). left_for r.sort (plain_sections_left c.loop-i.left)) (c.row-in-loop-i.ensures ∙ ap row_of c.kind-in-loop-i.ensures))
    c.after-left.ensures
    ∙ c.loop-i.invariant

pub returns-in_default-child : goal.returns-in_default-child
returns-in_default-child c =
    let past = past_where_none (nodes c.args.node.now.inner) c.args.k (sym c.in_default-child.ensures) in
    sym (lead_past (row_of c.args.node.now.label.kind).sections c.args.node.now.inner c.args.k past)

pub returns : goal.returns
returns c =
    let node = c.in-Some-child.child.now in
    c.lead.ensures
    ∙ lead_here (plain_sections_left c.loop-i.left) (plain_sections_left c.at-2.result) (nodes c.args.node.now.inner) c.loop-i.i c.args.k node
    (sym c.in-Some-child.ensures) (omega arith)
    (c.at-2.ensures ∙ ap (λ (r : PlainRow). left_for r.sort (plain_sections_left c.loop-i.left)) (c.row-2.ensures ∙ ap row_of c.kind-2.ensures))
    ∙ c.loop-i.invariant
