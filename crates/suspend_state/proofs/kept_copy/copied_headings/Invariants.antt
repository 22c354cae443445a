use Rattle.std.specs.Prelude.{◌≡◌, map, take, Some}
use Rattle.plcs_store.specs.Resume.{heading_parts}
use Rattle.suspend_state.proofs.kept_copy.copied_headings.Given as goal

abbrev pub invariant-loop-frame : goal.invariant-loop-frame
invariant-loop-frame l =
    map (λ frame. heading_parts l.tree.items frame.procedure.0) (take l.frame-index l.frames) ≡ map Some l.headings.items
