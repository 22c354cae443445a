use Rattle.std.specs.Prelude.{◌≡◌}
use Rattle.template_tree.specs.Positions.Place.{PlainPlace, site_start}
use Rattle.template_tree.specs.Programs.Program.{IsSubtree}
use Rattle.template_tree.specs.Programs.Slots.{count}
use Rattle.suspend_state.specs.Private.NodeSite.{site_of}
use Rattle.suspend_state.proofs.start.begin_slot.Given as goal

abbrev pub decreases-loop-inside : goal.decreases-loop-inside
decreases-loop-inside l = count l.inside.inner

abbrev pub invariant-loop-inside : goal.invariant-loop-inside
invariant-loop-inside l = record {
  subtree : IsSubtree l.inside;
  begins : (after : PlainPlace) → site_start (site_of l.node after) ≡ site_start (site_of l.inside after);
}
