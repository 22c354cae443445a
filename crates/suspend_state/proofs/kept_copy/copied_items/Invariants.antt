use Rattle.std.specs.Prelude.{◌≡◌, map, take}
use Rattle.template_tree.specs.Checks.ProgramMaps.{items_in}
use Rattle.suspend_state.proofs.kept_copy.copied_items.Given as goal

abbrev pub invariant-loop-frame : goal.invariant-loop-frame
invariant-loop-frame l = map (λ frame. items_in l.decls.items frame.procedure.0) (take l.frame-index l.frames) ≡ l.lists.items
