use Rattle.std.specs.Prelude.{◌≡◌, ◌-◌, drop}
use Rattle.plcs_grammar.specs.Template.{row_of}
use Rattle.template_tree.specs.Programs.PlainTree.{forest, nodes}
use Rattle.unparse_layout.specs.Private.ItemLines.{lead_at}
use Rattle.template_tree.specs.Listings.PlainSectionsLeft.{plain_sections_left}
use Rattle.unparse_layout.proofs.plan.lead_before.Given as goal

abbrev pub invariant-loop-i : goal.invariant-loop-i
invariant-loop-i l =
    lead_at (plain_sections_left l.left) (forest (drop l.i (nodes l.node.inner))) (l.k - l.i)
    ≡ lead_at (row_of l.node.label.kind).sections l.node.inner l.k
