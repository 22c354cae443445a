use Rattle.std.proofs.Common.{◌≡◌, true, sym, arith}
use Rattle.std.proofs.lemmas.Grind.{common_steps}
use Rattle.std.proofs.lemmas.Slice.Eq.{bytes_eq-Decides}
use Rattle.std.specs.Str.{bytes_eq}
use Rattle.template_tree.specs.Positions.Stop.{plain_stop}
use Rattle.template_tree.specs.Programs.PlainTree.{roomless_tree}
use Rattle.synth_session.proofs.StopsOrComments.{shown_somewhere, stands_bare, stands_shown}
use Rattle.synth_session.proofs.program.stop_or_comment.Goals as goal

pub unreachable-requires-in_default-shown_stop : goal.unreachable-requires-in_default-shown_stop
unreachable-requires-in_default-shown_stop c =
    shown_somewhere c.room_is_not_shown.ensures.nodes c.args.tree.now c.args.stop.path.items c.in-Some.node.now c.slot.result.0
    c.in-Some.ensures.found c.slot.ensures (sym c.in_default-shown_stop.ensures.shown)

pub returns-then-eq-clause-stop : goal.returns-then-eq-clause-stop
returns-then-eq-clause-stop c =
    let tree = c.args.tree.now in
    let stop = plain_stop c.args.stop in
    let shown = plain_stop c.in-Some-shown_stop.shown in
    let told = c.eq.ensures in
    let test = c.if-eq.true in
    let same : bytes_eq c.in-Some-shown_stop.shown.path.items c.args.stop.path.items ≡ true = grind (arith, common_steps) in
    stands_shown (roomless_tree tree).items shown stop ((bytes_eq-Decides shown.path stop.path).0 same) c.in-Some-shown_stop.ensures.stop
    (stands_bare c.room_is_not_shown.ensures.nodes tree.items stop c.requires.there)
