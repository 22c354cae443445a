use Rattle.std.specs.Prelude.{◌≡◌}
use Rattle.std.proofs.Common.{ap, sym, subst}
use Rattle.template_tree.specs.Edits.Lend.{with_node}
use Rattle.template_tree.specs.Programs.Part.{with_part}
use Rattle.template_tree.specs.Programs.PlainPhrasePlace.{plain_phrase_place}
use Rattle.template_tree.specs.Programs.PlainTree.{PlainNode}
use Rattle.template_tree.proofs.Reversals.Exchanges.{part_exchanged}
use Rattle.template_tree.proofs.tree.Tree.set_again.Goals as goal

pub returns : goal.returns
returns c =
    let node : PlainNode = c.in-Some.node.now in
    let held = plain_phrase_place c.swap_part-there.result in
    part_exchanged c.args.part (plain_phrase_place c.args.place) held node c.args.back c.args.path.items c.args.self.now
    (with_node c.args.self.now c.args.path.items c.swap_part-there.new.self)
    (ap (with_node c.args.self.now c.args.path.items) c.swap_part-there.ensures.came)
    (subst (λ (n : PlainNode). with_part c.args.part held n ≡ node) c.swap_part-there.ensures.came c.swap_part-there.ensures.gone)
    (sym c.in-Some.ensures.found)
