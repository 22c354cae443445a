use Rattle.std.proofs.Common.{◌≡◌, List, arith, option_map, sym, ap, subst, ◌∙◌}
use Rattle.std.proofs.lemmas.Grind.{common_steps}
use Rattle.template_tree.specs.Edits.Elision.{with_toggled_at}
use Rattle.template_tree.specs.Programs.PlainTree.{PlainTree, roomless_tree}
use Rattle.template_tree.specs.Programs.Tree.{IsTree}
use Rattle.template_tree.specs.Positions.Stop.{IsStop, plain_stop}
use Rattle.synth_session.specs.KeyOutcome.{KeyOutcome, line_acceptance_outcome}
use Rattle.synth_session.specs.PlainSession.{PlainSession}
use Rattle.synth_session.specs.Private.MemorylessKey.{HasOutcome}
use Rattle.std.specs.List.{All}
use Rattle.edit_undo.specs.EarlierTree.{EarlierTree, trees_before}
use Rattle.synth_session.specs.SessionView.{AgreeInTurn, EditsFit, HasStop, plain_run, plain_session}
use Rattle.synth_session.proofs.EarlierAgreements.{turn_same}
use Rattle.synth_session.proofs.KeptRuns.{MayGoOnIfStands, turned_may, turned_same}
use Rattle.synth_session.proofs.TurnedStops.{comment_turned, turned_stop}
use Rattle.synth_session.proofs.session.Session.toggle_comment.Goals as goal

pub accept_line-requires-clause-placed : goal.accept_line-requires-clause-placed
accept_line-requires-clause-placed g c =
    record {
      stop = subst (λ (t : PlainTree). IsStop t.items (plain_stop c.args.self.now.stop)) (sym c.toggle_elision.ensures.turned)
          (turned_stop (roomless_tree c.args.self.now.program.tree).items (plain_stop c.args.self.now.stop) c.requires.session.placed.stop);
      top = c.requires.session.placed.top;
    }

pub accept_line-requires-clause-run : goal.accept_line-requires-clause-run
accept_line-requires-clause-run g c =
    let path = c.args.self.now.stop.path.items in
    let tree = roomless_tree c.args.self.now.program.tree in
    let run = c.args.self.now.run in
    let edits = c.args.self.now.edits in
    let is : IsTree tree = (c.room_is_not_shown.ensures.trees c.args.self.now.program.tree).0 c.requires.session.agrees.tree in
    let stay = c.toggles_leave_earlier.ensures tree path edits is c.requires.edits.fits in
    subst (λ (t : PlainTree). MayGoOnIfStands t (trees_before edits t) run.undos run.run) (sym c.toggle_elision.ensures.turned)
    (subst (λ (earlier : List EarlierTree). MayGoOnIfStands (with_toggled_at path tree) earlier run.undos run.run) (sym stay.1)
    (turned_may c.runs_ignore_room_and_elision.ensures.elision c.edits_follow.ensures.turns c.agreement_lasts.ensures.back
    c.undone_trees_check_alike.ensures tree path (trees_before edits tree) run.undos run.run c.requires.run))

pub accept_line-requires-clause-edits : goal.accept_line-requires-clause-edits
accept_line-requires-clause-edits g c =
    let path = c.args.self.now.stop.path.items in
    let tree = roomless_tree c.args.self.now.program.tree in
    let edits = c.args.self.now.edits in
    let is : IsTree tree = (c.room_is_not_shown.ensures.trees c.args.self.now.program.tree).0 c.requires.session.agrees.tree in
    let stay = c.toggles_leave_earlier.ensures tree path edits is c.requires.edits.fits in
    subst (EditsFit edits) (sym c.toggle_elision.ensures.turned)
    (record {
      fits = stay.0;
      stops = subst (All HasStop) (sym stay.1) c.requires.edits.stops;
      agree =
          subst (AgreeInTurn (with_toggled_at path tree)) (sym stay.1)
          (turn_same c.agreement_lasts.ensures.back tree (with_toggled_at path tree) (sym (c.edits_follow.ensures.turns tree path).items)
          (omega arith) (trees_before edits tree) c.requires.edits.agree);
    })

pub returns : goal.returns
returns g c =
    let s = plain_session c.args.self.now in
    let run = c.args.self.now.run in
    let edits = c.args.self.now.edits in
    let is : IsTree s.tree = (c.room_is_not_shown.ensures.trees c.args.self.now.program.tree).0 c.requires.session.agrees.tree in
    let stay = c.toggles_leave_earlier.ensures s.tree s.stop.path edits is c.requires.edits.fits in
    let seen : plain_session (record c.args.self.now { program = c.toggle_elision.new.self }) ≡ record s { tree = with_toggled_at s.stop.path s.tree } =
    ap
    (λ (t : PlainTree). record s { tree = t; run = option_map (plain_run t.items run.undos) run.run; earlier = trees_before edits t })
    c.toggle_elision.ensures.turned
    ∙ (λ i.
    record s {
      tree = with_toggled_at s.stop.path s.tree;
      run = turned_same c.runs_ignore_room_and_elision.ensures.elision s.tree s.stop.path run.undos run.run i;
      earlier = stay.1 i;
    })
    in
    comment_turned s (λ (outcome : KeyOutcome). HasOutcome outcome c.args.self.now c.accept_line.new.self c.accept_line.result)
    (grind (arith, common_steps))
    (record {
      session = c.accept_line.ensures.session;
      screens = c.accept_line.ensures.screens;
      after = c.accept_line.ensures.after ∙ ap (λ (t : PlainSession). (line_acceptance_outcome t).after) seen;
      answered = c.accept_line.ensures.answered;
    })
