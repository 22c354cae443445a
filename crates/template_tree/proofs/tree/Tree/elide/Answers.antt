use Rattle.std.specs.Prelude.{◌∷◌, []}
use Rattle.std.proofs.Common.{ap, sym}
use Rattle.template_tree.specs.Programs.PlainTree.{Forest}
use Rattle.template_tree.specs.Edits.Elision.{toggled}
use Rattle.template_tree.proofs.Parts.KeptTrees.{kept_tree, turned_relabels}
use Rattle.template_tree.proofs.Edits.SameEdits.{edits_alike, edit_nowhere}
use Rattle.template_tree.proofs.tree.Tree.elide.Goals as goal

pub returns-in_default-clause-changed : goal.returns-in_default-clause-changed
returns-in_default-clause-changed c =
    ap (λ (items : Forest). record c.args.self.now { items = items })
    (sym (edit_nowhere toggled c.args.self.now.items c.args.path.now.items (sym c.in_default.ensures.found)))

pub returns-clause-changed : goal.returns-clause-changed
returns-clause-changed c =
    ap (λ (items : Forest). record c.args.self.now { items = items })
    (edits_alike (λ _. c.toggle.new.self ∷ []) toggled c.args.self.now.items c.args.path.now.items c.in-Some.node.now
    (sym c.in-Some.ensures.found) (sym c.toggle.ensures.turned))

pub returns-clause-tree : goal.returns-clause-tree
returns-clause-tree c =
    kept_tree c.args.self.now c.args.path.now.items c.in-Some.node.now c.toggle.new.self c.requires.tree (sym c.in-Some.ensures.found)
    (turned_relabels c.in-Some.node.now c.toggle.new.self c.in-Some.ensures.subtree c.toggle.ensures.turned)
