use Rattle.std.specs.Prelude.{option_and_then}
use Rattle.std.proofs.Common.{ap, sym, ◌∙◌}
use Rattle.template_tree.specs.Programs.PlainTree.{PlainNode}
use Rattle.template_tree.specs.Positions.Stop.{plain_stop}
use Rattle.session_edit.specs.Here.{category_in}
use Rattle.session_edit.proofs.StopNodes.{category_is}
use Rattle.session_edit.proofs.here.wanted.Goals as goal

pub returns-in_default : goal.returns-in_default
returns-in_default c =
    ap (option_and_then (λ (node : PlainNode). category_in c.args.at.now.part node.label.kind)) c.in_default.ensures.found
    ∙ sym (category_is c.room_laws.ensures c.args.tree.now (plain_stop c.args.at.now))

pub returns : goal.returns
returns c =
    c.category_in.ensures
    ∙ (ap (category_in c.args.at.now.part) c.kind.ensures
    ∙ (ap (option_and_then (λ (node : PlainNode). category_in c.args.at.now.part node.label.kind)) c.in-Some.ensures.found
    ∙ sym (category_is c.room_laws.ensures c.args.tree.now (plain_stop c.args.at.now))))
