use Rattle.std.proofs.Common.{◌≡◌, ◌∙◌, List, ap, sym, subst}
use Rattle.template_tree.specs.Programs.PlainTree.{roomless_tree}
use Rattle.edit_undo.specs.EarlierTree.{EarlierTree, trees_before}
use Rattle.synth_session.specs.PlainSession.{PlainSession}
use Rattle.synth_session.specs.SessionView.{plain_session}
use Rattle.synth_session.specs.Tick.{settled}
use Rattle.synth_session.proofs.TriedSteps.{HeldGoesOn, rests, rests_fit, rests_go_on}
use Rattle.synth_session.proofs.session.Session.rest.Goals as goal

pub returns-clause-rested : goal.returns-clause-rested
returns-clause-rested g c =
    let old = c.args.self.now in
    c.settle.ensures.settled
    ∙ ap (λ (s : PlainSession). settled s)
    (rests (plain_session old) (roomless_tree old.program.tree).items old.run.undos c.rest.new.self.undos c.args.reason c.reason_notice.result old.run.run
    c.rest.new.self.run c.requires.stands c.rest.ensures.run c.rest.ensures.undos c.reason_notice.ensures)

pub returns-clause-fits : goal.returns-clause-fits
returns-clause-fits g c goes_on =
    let old = c.args.self.now in
    let new = c.settle.new.self in
    let earlier : trees_before new.edits (roomless_tree new.program.tree) ≡ (plain_session old).earlier =
    λ i. trees_before (c.settle.ensures.edits i) (roomless_tree (c.settle.ensures.program i).tree) in
    subst (λ (e : List EarlierTree). HeldGoesOn (roomless_tree new.program.tree) e new.run.undos new.run.run) (sym earlier)
    (rests_go_on old.program new.program old.run c.rest.new.self new.run c.args.reason c.settle.ensures.program
    c.settle.ensures.run c.rest.ensures.run c.rest.ensures.undos (plain_session old).earlier goes_on)

pub returns-clause-stays_fit : goal.returns-clause-stays_fit
returns-clause-stays_fit g c =
    let old = c.args.self.now in
    rests_fit old.program c.settle.new.self.program old.run c.rest.new.self c.settle.new.self.run c.args.reason c.settle.ensures.program
    c.settle.ensures.run c.rest.ensures.run c.rest.ensures.undos
