-- An item that was dropped is sought among what is kept, and all else in the tree.
use Rattle.std.proofs.Common.{sym, ◌∙◌}
use Rattle.code_patch.proofs.SoughtWays.{kept_none, kept_way, tree_none, tree_way}
use Rattle.code_patch.proofs.code_tree.CodeTree.way_to.Goals as goal

pub returns-then-is_dropped : goal.returns-then-is_dropped
returns-then-is_dropped g c =
    let dropped = sym c.is_dropped.ensures ∙ c.if-is_dropped.true in
    let change = c.args.change.now in
    let code = c.args.self.now in
    let after = c.args.tree.now.items in
    record {
      none = kept_none (λ path. path.items) change.what change.slot.0 code after c.path_kept.result dropped c.path_kept.ensures.none;
      way = kept_way (λ path. path.items) change.what change.slot.0 code after c.path_kept.result dropped c.path_kept.ensures.path;
    }

pub returns : goal.returns
returns g c =
    let other = sym c.is_dropped.ensures ∙ c.if-is_dropped.false in
    let change = c.args.change.now in
    let code = c.args.self.now in
    let after = c.args.tree.now.items in
    record {
      none = tree_none (λ path. path.items) change.what change.slot.0 code after c.path_of.result other c.path_of.ensures.none;
      way = tree_way (λ path. path.items) change.what change.slot.0 code after c.path_of.result other c.path_of.ensures.path;
    }
