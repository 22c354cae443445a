use Rattle.std.proofs.Common.{arith}
use Rattle.template_tree.specs.declared.change.What.{What}
use Rattle.decl_table.proofs.EditedNodes.{edited_drop}
use Rattle.decl_table.proofs.PreparedNames.{before_deep, before_few, before_stands, prepared_drop}
use Rattle.decl_table.proofs.name_node.NameNode.dropping.Goals as goal

pub path_near-requires-clause-shallow : goal.path_near-requires-clause-shallow
path_near-requires-clause-shallow c =
    omega (arith, before_deep What.Dropped c.args.change.now.slot.0 c.args.self.now.inner c.requires.before.0 c.requires.before.2)

pub path_near-requires-clause-few : goal.path_near-requires-clause-few
path_near-requires-clause-few c =
    omega (arith, before_few What.Dropped c.args.change.now.slot.0 c.args.self.now.inner c.requires.before.0 c.requires.before.2)

pub unreachable-requires : goal.unreachable-requires
unreachable-requires c =
    absurd (omega (
      arith,
      c.in_default.ensures.none,
      before_stands c.args.change.now.slot.0 c.args.self.now.inner c.requires.before.0 c.requires.before.2,
    ))

pub returns-clause-after : goal.returns-clause-after
returns-clause-after c =
    λ after is before.
    (prepared_drop c.slot_edit_is_path_edit.ensures c.args.self.now.inner c.args.change.now.slot.0 after is before c.in-Some.path.items c.in-Some.ensures.path).made

pub returns-clause-there : goal.returns-clause-there
returns-clause-there c =
    (prepared_drop c.slot_edit_is_path_edit.ensures c.args.self.now.inner c.args.change.now.slot.0 c.requires.before.0 c.requires.before.1 c.requires.before.2
    c.in-Some.path.items c.in-Some.ensures.path).there

pub returns-clause-edit : goal.returns-clause-edit
returns-clause-edit c =
    λ after is before. edited_drop c.args.self.now.inner c.args.change.now.slot.0 after before c.in-Some.path.items c.in-Some.ensures.path
