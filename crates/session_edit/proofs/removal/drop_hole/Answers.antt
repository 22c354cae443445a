use Rattle.std.specs.Prelude.{None}
use Rattle.std.proofs.Common.{ap, sym, ◌∙◌}
use Rattle.plcs_grammar.specs.declared.node_kind.Sort.{Sort}
use Rattle.template_tree.specs.Programs.PlainTree.{PlainNode}
use Rattle.template_tree.specs.Programs.Program.{sort_of}
use Rattle.template_tree.specs.Positions.Stop.{plain_stop, node_stop}
use Rattle.session_edit.proofs.StopTests.{no_part}
use Rattle.session_edit.proofs.DropCommands.{drop_applied, drop_is_tree, no_node, not_dropped, part_not_dropped}
use Rattle.session_edit.proofs.removal.drop_hole.Goals as goal

pub returns-then-is_some-clause-not_here : goal.returns-then-is_some-clause-not_here
returns-then-is_some-clause-not_here c =
    part_not_dropped c.room_laws.ensures c.args.tree.now (plain_stop c.args.at.now) c.requires.stop (sym c.is_some.ensures ∙ c.if-is_some.true)

pub returns-in_default-drop_hole-clause-not_here : goal.returns-in_default-drop_hole-clause-not_here
returns-in_default-drop_hole-clause-not_here c =
    not_dropped c.room_laws.ensures c.args.tree.now (plain_stop c.args.at.now) c.requires.stop c.in_default-drop_hole.ensures.refused.1

pub returns-in_default-clause-not_here : goal.returns-in_default-clause-not_here
returns-in_default-clause-not_here c =
    absurd (no_node c.room_laws.ensures Sort (λ (node : PlainNode). sort_of node.label.kind) c.args.tree.now (plain_stop c.args.at.now) c.requires.stop c.in_default.ensures)

pub path_after_drop-path-requires : goal.path_after_drop-path-requires
path_after_drop-path-requires c =
    record { tree = drop_is_tree c.room_laws.ensures c.args.tree.now c.drop_hole.new.self (plain_stop c.args.at.now) c.in-Ok.receipt c.requires.stop c.in-Ok.ensures.edited }

pub returns-clause-dropped : goal.returns-clause-dropped
returns-clause-dropped c =
    drop_applied c.room_laws.ensures c.slot_edit_is_path_edit.ensures c.args.tree.now c.drop_hole.new.self (plain_stop c.args.at.now) c.in-Ok.receipt
    record { path = c.path_after_drop-path.result; part = None } c.in-Some.sort c.requires.tree c.requires.stop
    (no_part c.args.at.now.part (sym c.is_some.ensures ∙ c.if-is_some.false)) c.in-Ok.ensures.edited c.in-Some.ensures
    (ap node_stop c.path_after_drop-path.ensures)
