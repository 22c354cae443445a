use Rattle.std.specs.Prelude.{◌≡◌, map, take, Some}
use Rattle.plcs_store.specs.Resume.{template_held}
use Rattle.suspend_state.proofs.kept_copy.copied_templates.Given as goal

abbrev pub invariant-loop-frame : goal.invariant-loop-frame
invariant-loop-frame l =
    map (λ frame. template_held l.tree.items frame.place.slot.0) (take l.frame-index l.frames) ≡ map Some l.held.items
