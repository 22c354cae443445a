use Rattle.std.specs.Prelude.{◌≡◌, refl, ℕ, List, Option, Some, None, option_map}
use Rattle.std.proofs.Common.{ap, sym, ◌∙◌}
use Rattle.template_tree.specs.Positions.Path.{node_at}
use Rattle.template_tree.specs.Programs.PlainTree.{PlainTree, roomless_tree}
use Rattle.template_tree.specs.Positions.Stop.{node_stop}
use Rattle.session_edit.specs.ShownStop.{shown_at, shown_path}
use Rattle.session_edit.specs.Private.ShownPath.{shown_numbers}
use Rattle.session_edit.proofs.Room.{stop_roomless}
use Rattle.session_edit.proofs.ShownPaths.{no_path, shown_is, shown_roomless, seen_shown, there}
use Rattle.session_edit.proofs.slot_stop.shown_stop.Goals as goal

-- where a slot is shown, by its path
shown_by : (tree : PlainTree) (slot : ℕ) (path : Option (List ℕ)) → shown_path slot 0 tree.items ≡ path
    → option_map node_stop path ≡ shown_at (roomless_tree tree) slot
unfolding shown_at
shown_by tree slot path e = ap (option_map node_stop) (sym e ∙ sym (shown_roomless slot tree.items 0))

pub returns-in_default-clause-shown : goal.returns-in_default-clause-shown
returns-in_default-clause-shown c =
    shown_by c.args.tree.now c.args.slot.0 None (no_path c.args.slot.0 c.args.tree.now.items 0 (c.in_default.ensures.none.0 refl))

pub returns-clause-shown : goal.returns-clause-shown
returns-clause-shown c =
    ap (λ path. Some (node_stop path)) c.shown_part.ensures
    ∙ shown_by c.args.tree.now c.args.slot.0 (Some (shown_numbers c.args.tree.now.items c.in-Some.path.items))
    (shown_is c.args.slot.0 c.args.tree.now.items c.in-Some.path.items (c.requires.tree.once c.args.slot.0) c.in-Some.ensures.path)

pub returns-clause-stop : goal.returns-clause-stop
returns-clause-stop c =
    rw c.shown_part.ensures
    (stop_roomless c.room_laws.ensures c.args.tree.now.items (node_stop (shown_numbers c.args.tree.now.items c.in-Some.path.items))
    (seen_shown c.args.tree.now.items c.in-Some.path.items
    (there (node_at c.args.tree.now.items c.in-Some.path.items) c.args.slot.0 c.in-Some.ensures.path)))
