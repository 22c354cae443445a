-- `UndoComesBack` and `EditsAreKept`: the tree that comes back is the one before the edit but for elision, which no
-- check, code or resumption looks at; and the latest is kept where it isn't over the limit itself.
use Rattle.std.proofs.Common.{◌≡◌, ◌-◌, ◌≤◌, Bool, true, if◌then◌else◌, nat_le, List, [], ◌∷◌, refl, sym, ap, subst, ◌∙◌}
use Rattle.std.proofs.lemmas.Bool.{le-leb}
use Rattle.plcs_code.specs.ProgramCode.{ProgramCodeIgnoresAllElision}
use Rattle.resume_rule.specs.ResumeLaws.{AnswersFollowFrames, SubstanceHasSame}
use Rattle.template_tree.specs.Edits.Edit.{whole}
use Rattle.template_tree.specs.Edits.Reversal.{Back}
use Rattle.template_tree.specs.Laws.CheckLaws.{ChecksIgnoreAllElision}
use Rattle.template_tree.specs.Positions.Stop.{PlainStop}
use Rattle.template_tree.specs.Programs.PlainTree.{PlainTree, roomless}
use Rattle.edit_undo.specs.EarlierTree.{EarlierTree, as_kept, kept_trees}
use Rattle.edit_undo.specs.EditLaws.{UndoneTreesCheckAlike}
use Rattle.edit_undo.specs.EditLimit.{latest_within, most_taken_slots}
use Rattle.synth_session.specs.EditCommands.{kept_before}
use Rattle.synth_session.specs.PlainSession.{PlainSession}
use Rattle.synth_session.specs.ProgramCode.{code_of}
use Rattle.synth_session.specs.UndoCommand.{stop_or_comment, undone_to}
use Rattle.synth_session.specs.UndoLaw.{CameBack, EditsAreKept, UndoComesBack}

-- the latest is kept where it isn't over the limit itself
kept_if : (b : Bool) (latest : EarlierTree) (kept : List EarlierTree) → b ≡ true → (if b then latest ∷ kept else []) ≡ latest ∷ kept
kept_if b latest kept is = ap (λ x. if x then latest ∷ kept else []) is

-- the others that are kept with it
abbrev others_kept : EarlierTree → List EarlierTree → List EarlierTree
others_kept latest earlier = latest_within (λ (e : EarlierTree). e.weight) 49 (most_taken_slots - latest.weight) earlier

latest_kept : (latest : EarlierTree) (earlier : List EarlierTree) → latest.weight ≤ most_taken_slots
    → kept_trees (latest ∷ earlier) ≡ latest ∷ others_kept latest earlier
latest_kept latest earlier light =
    kept_if (nat_le latest.weight most_taken_slots) latest (others_kept latest earlier) (le-leb latest.weight most_taken_slots light)

pub edits_are_kept : EditsAreKept
edits_are_kept s tree stop taken what slot light =
    let latest : EarlierTree = kept_before s tree taken what slot in (others_kept latest s.earlier, latest_kept latest s.earlier light)

module _ (undone : UndoneTreesCheckAlike) (checks : ChecksIgnoreAllElision) (code : ProgramCodeIgnoresAllElision)
    (frames : AnswersFollowFrames) (same_for : SubstanceHasSame) where
  came_back : (s : PlainSession) (tree : PlainTree) (latest : EarlierTree) (others : List EarlierTree)
      → latest.tree ≡ as_kept tree s.tree → latest.stop ≡ s.stop
      → (later : PlainSession) → CameBack s (undone_to later (latest ∷ others)).after
  unfolding code_of
  came_back s tree latest others is stop_is later =
      let now : PlainTree = Back later.tree latest.tree in
      let shown : whole now.items ≡ whole s.tree.items =
      (undone later.tree latest.tree).0
      ∙ (ap (λ (t : PlainTree). whole t.items) is ∙ (undone (record tree { items = whole tree.items }) s.tree).0) in
      let same : roomless (whole now.items) ≡ roomless (whole s.tree.items) = ap roomless shown in
      record {
        tree = shown;
        checks = checks now.items s.tree.items same;
        code = code now.items s.tree.items same;
        stop = ap (λ (at : PlainStop). stop_or_comment now at) stop_is;
        resumes = λ kept c answer. frames s.tree.items now.items c kept answer (same_for s.tree.items now.items c (sym same));
      }

  pub undo_comes_back : UndoComesBack
  undo_comes_back s later tree taken what slot others is =
      subst (λ (earlier : List EarlierTree). CameBack s (undone_to later earlier).after) (sym is)
      (came_back s tree (kept_before s tree taken what slot) others refl refl later)
