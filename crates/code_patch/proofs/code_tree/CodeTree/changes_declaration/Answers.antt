-- Of an item that came only what stands there after the edit counts, and of one that went only what stood there before.
use Rattle.std.proofs.Common.{sym, ◌∙◌}
use Rattle.code_patch.specs.Private.KeptPaths.{kept_below, root_of}
use Rattle.template_tree.specs.Positions.Path.{node_at}
use Rattle.code_patch.proofs.ChangedDeclarations.{of_added, of_both, of_dropped, of_kept}
use Rattle.code_patch.proofs.code_tree.CodeTree.changes_declaration.Goals as goal

pub returns-then-is_added : goal.returns-then-is_added
returns-then-is_added g c =
    c.has_declaration.ensures
    ∙ sym
    (of_added c.args.change.now.what (kept_below (root_of c.args.self.now) c.args.way.now.items)
    (node_at c.args.tree.now.items c.args.way.now.items) (sym c.is_added.ensures ∙ c.if-is_added.true))

pub returns-then-is_dropped : goal.returns-then-is_dropped
returns-then-is_dropped g c =
    c.keeps_declaration.ensures
    ∙ sym
    (of_dropped c.args.change.now.what (kept_below (root_of c.args.self.now) c.args.way.now.items)
    (node_at c.args.tree.now.items c.args.way.now.items) (sym c.is_dropped.ensures ∙ c.if-is_dropped.true))

pub returns-then-keeps_declaration : goal.returns-then-keeps_declaration
returns-then-keeps_declaration g c =
    sym
    (of_kept c.args.change.now.what (kept_below (root_of c.args.self.now) c.args.way.now.items)
    (node_at c.args.tree.now.items c.args.way.now.items) (sym c.is_added.ensures ∙ c.if-is_added.false)
    (sym c.keeps_declaration-2.ensures ∙ c.if-keeps_declaration.true))

pub returns : goal.returns
returns g c =
    c.has_declaration-2.ensures
    ∙ sym
    (of_both c.args.change.now.what (kept_below (root_of c.args.self.now) c.args.way.now.items)
    (node_at c.args.tree.now.items c.args.way.now.items) (sym c.is_dropped.ensures ∙ c.if-is_dropped.false)
    (sym c.keeps_declaration-2.ensures ∙ c.if-keeps_declaration.false))
