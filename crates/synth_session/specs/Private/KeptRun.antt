-- A session whose run keeps what is asked for when it goes on, as before an edit and after it.
use Rattle.std.specs.Prelude.{IfSome, IsSome, List}
use Rattle.template_tree.specs.Programs.PlainTree.{roomless_tree}
use Rattle.edit_undo.specs.EarlierTree.{EarlierTree}
use Rattle.synth_session.specs.declared.session.Session.{Session}
use Rattle.synth_session.specs.SessionView.{CameToStand, plain_run}

-- the session's run, if one stands, keeps what is asked for when it goes on
abbrev pub HasKeptRun : {W : Type 0} → Session W → Type 0
HasKeptRun s = IfSome s.run.run (λ run. IsSome run.kept)

-- the session's run, if one stands, came to stand in a program with which its own agrees by its slots, and these
-- earlier ones once they come back, and keeps what is asked for when it goes on, as after an edit, before its history
-- is emptied
abbrev pub HasForgottenRun : {W : Type 0} → Session W → List EarlierTree → Type 0
HasForgottenRun s earlier =
    IfSome s.run.run (λ run. IsSome run.kept)
    × IfSome s.run.run (λ run.
    CameToStand (roomless_tree s.program.tree) earlier
    (plain_run (roomless_tree s.program.tree).items s.run.undos run))
