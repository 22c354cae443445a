-- The run that a session holds may go on, where a key begins it, takes steps of it back, or lets go of its earlier
-- configurations.
use Rattle.std.proofs.Common.{◌≡◌, ℕ, zero, suc, ◌-◌, false, List, [], ◌∷◌, drop, length, min, Option, Some, None, refl, sym, ap, subst, ◌∙◌}
use Rattle.std.proofs.Math.Bool.{false≢true}
use Rattle.std.specs.Prelude.{IfSome, IsSome, is_some, option_map, unwrap_or}
use Rattle.std.proofs.lemmas.List.Elements.{All-drop, All-head, All-nil, All-tail}
use Rattle.std.specs.List.{All}
use Rattle.session_words.specs.declared.message.Notice.{Notice}
use Rattle.template_tree.specs.Checks.Marks.{Marks}
use Rattle.template_tree.specs.Laws.RoomLaws.{TreesIgnoreRoom}
use Rattle.template_tree.specs.Programs.PlainTree.{PlainTree, roomless_tree}
use Rattle.template_tree.specs.Programs.Tree.{IsTree}
use Rattle.plcs_store.specs.declared.kept.Kept.{Kept}
use Rattle.plcs_store.specs.declared.reason.RunReason.{RunReason}
use Rattle.plcs_store.specs.declared.run_state.Run.{Run}
use Rattle.plcs_store.specs.declared.run_state.RunState.{RunState}
use Rattle.plcs_store.specs.declared.undo.Undo.{Undo}
use Rattle.plcs_store.specs.Configuration.{PlainConfiguration, plain_configuration}
use Rattle.plcs_store.specs.Fits.{Fits}
use Rattle.plcs_store.specs.NewFrame.{First}
use Rattle.plcs_store.specs.Resume.{kept_of}
use Rattle.plcs_store.specs.StepLaws.{NewRunsFit}
use Rattle.back_steps.specs.EarlierConfigurations.{configurations_before}
use Rattle.plcs_code.specs.Gen.{PlainCode}
use Rattle.plcs_code.specs.ProgramCode.{ProgramItemsTell, program_items}
use Rattle.plcs_machine.specs.Enter.{Enter}
use Rattle.plcs_machine.specs.Fetched.{result_of}
use Rattle.plcs_machine.specs.MachineLaws.{CodeBeginsAsTree}
use Rattle.edit_undo.specs.EarlierTree.{EarlierTree}
use Rattle.suspend_state.specs.Suspension.{paused}
use Rattle.synth_session.specs.declared.answer.Refusal.TheVariants as why
use Rattle.synth_session.specs.KeyOutcome.{KeyOutcome, line_notice_outcome, refusal_outcome}
use Rattle.synth_session.specs.PlainHeldRun.{PlainHeldRun}
use Rattle.synth_session.specs.PlainRun.{PlainRun, without_earlier}
use Rattle.synth_session.specs.PlainSession.{PlainSession}
use Rattle.synth_session.specs.ProgramCode.{code_of}
use Rattle.synth_session.specs.RunCommands.{back_outcome, back_to, begun_run, from_back, run_back}
use Rattle.synth_session.specs.RunStop.{with_cursor_at_run}
use Rattle.synth_session.specs.Private.HeldRunKept.{WentBack, WentBackIfStands}
use Rattle.synth_session.specs.SessionView.{CameToStand, MayGoOn, plain_run}

-- the run that is held, if one is, may go on in the tree
abbrev pub FitsHeld : PlainTree → List EarlierTree → List Undo → Option Run → Type 0
FitsHeld tree earlier undos held = IfSome held (λ run. MayGoOn tree earlier (is_some run.kept) (plain_run tree.items undos run))

-- ---- a run without its earlier configurations

came_to_stand : (tree : PlainTree) (earlier : List EarlierTree) (run : PlainRun) → CameToStand tree earlier run
    → CameToStand tree earlier (without_earlier run)
came_to_stand tree earlier run stood =
    record {
      before = stood.before;
      is_tree = stood.is_tree;
      agrees = stood.agrees;
      earlier_agree = stood.earlier_agree;
      fits = stood.fits;
      kept = stood.kept;
    }

pub forgotten_held : (tree : PlainTree) (earlier : List EarlierTree) (undos undos_now : List Undo) (held now : Option Run) → now ≡ held → undos_now ≡ []
    → FitsHeld tree earlier undos held → FitsHeld tree earlier undos_now now
forgotten_held tree earlier undos undos_now held now same none fits =
    subst (λ (u : List Undo). FitsHeld tree earlier u now) (sym none)
    (subst (λ (h : Option Run). FitsHeld tree earlier [] h) (sym same) (by held fits))
  where
    by : (held : Option Run) → FitsHeld tree earlier undos held → FitsHeld tree earlier [] held
    by None fits = tt
    by (Some run) fits =
        record {
          unkept = fits.unkept;
          stood = λ kept. came_to_stand tree earlier (plain_run tree.items undos run) (fits.stood kept);
          earlier = All-nil (Fits tree.items);
          with_earlier = λ some. absurd (some refl);
        }

-- the run that came to stand, and keeps what is asked for when it goes on, may once its earlier configurations are
-- let go of
pub forgotten_may : (tree : PlainTree) (earlier : List EarlierTree) (undos : List Undo) (held : Option Run)
    → IfSome held (λ run. IsSome run.kept) → IfSome held (λ run. CameToStand tree earlier (plain_run tree.items undos run))
    → FitsHeld tree earlier [] held
forgotten_may tree earlier undos None kept stood = tt
forgotten_may tree earlier undos (Some run) kept stood =
    record {
      unkept = λ unkept. absurd (false≢true (sym unkept ∙ kept));
      stood = λ _. came_to_stand tree earlier (plain_run tree.items undos run) stood;
      earlier = All-nil (Fits tree.items);
      with_earlier = λ some. absurd (some refl);
    }

-- ---- a run of which steps are taken back

module _ (tree : PlainTree) (earlier : List EarlierTree) (run back : Run) (undos undos_now : List Undo) (steps : ℕ)
    (fits : MayGoOn tree earlier (is_some run.kept) (plain_run tree.items undos run)) (went : WentBack steps undos undos_now run back) where
  -- the configuration to which it goes back fits the tree, and so do those before it
  left_fit : All (Fits tree.items) (plain_configuration back.state ∷ configurations_before undos_now (plain_configuration back.state))
  left_fit =
      subst (All (Fits tree.items)) went.went
      (All-drop (Fits tree.items) (min steps (length (configurations_before undos (plain_configuration run.state))) - 1)
      (configurations_before undos (plain_configuration run.state)) fits.earlier)

  run_back_fits : MayGoOn tree earlier (is_some back.kept) (plain_run tree.items undos_now back)
  run_back_fits =
      let there = All-head (Fits tree.items) (plain_configuration back.state) (configurations_before undos_now (plain_configuration back.state)) left_fit in
      let none : is_some back.kept ≡ false = ap is_some went.dropped in
      record {
        unkept = λ _. there;
        stood = λ kept. absurd (cc);
        earlier = All-tail (Fits tree.items) (plain_configuration back.state) (configurations_before undos_now (plain_configuration back.state)) left_fit;
        with_earlier = λ _. there;
      }

pub back_held : (tree : PlainTree) (earlier : List EarlierTree) (undos undos_now : List Undo) (steps : ℕ) (held now : Option Run)
    → WentBackIfStands steps undos undos_now held now → FitsHeld tree earlier undos held → FitsHeld tree earlier undos_now now
back_held tree earlier undos undos_now steps None now went fits = absurd went
back_held tree earlier undos undos_now steps (Some run) now went fits =
    subst (FitsHeld tree earlier undos_now) (sym went.1) (run_back_fits tree earlier run went.0 undos undos_now steps fits went.2)

-- ---- what comes of a key by which steps are taken back

drop_none : (k : ℕ) → ◌≡◌ {A = List PlainConfiguration} (drop k []) []
drop_none zero = refl
drop_none (suc k) = refl

-- the plain form of a run that went back
back_plain : (tree : PlainTree) (undos : List Undo) (back : Run) → back.reason ≡ RunReason.Paused → back.kept ≡ None
    → plain_run tree.items undos back
    ≡ run_back tree (plain_configuration back.state) (configurations_before undos (plain_configuration back.state))
back_plain tree undos back paused none =
    ap (λ (reason : RunReason). let run : PlainRun = record (plain_run tree.items undos back) { reason = reason } in run) paused
    ∙ ap (λ (kept : Option Kept).
    let run : PlainRun = record (run_back tree (plain_configuration back.state) (configurations_before undos (plain_configuration back.state)))
    { kept = unwrap_or kept (kept_of tree.items (plain_configuration back.state)) } in run) none

module _ (s : PlainSession) (steps : ℕ) (undos : List Undo) where
  -- where no run stands
  pub back_runless : (held : Option Run) → is_some held ≡ false
      → back_outcome s steps (option_map (plain_run s.tree.items undos) held) ≡ refusal_outcome s why.NoRun
  back_runless None none = refl
  back_runless (Some run) none = absurd (cc)

  -- where no step is held
  pub back_stays : (held : Option Run) → IsSome held → undos ≡ []
      → back_outcome s steps (option_map (plain_run s.tree.items undos) held) ≡ refusal_outcome s why.NoHistory
  back_stays None stands none = absurd (cc)
  back_stays (Some run) stands none =
      ap (λ (u : List Undo). back_to s (from_back steps (configurations_before u (plain_configuration run.state)))) none
      ∙ ap (back_to s) (drop_none (min steps 0 - 1))

  -- where the run went back
  pub back_goes : (undos_now : List Undo) (held now : Option Run) → WentBackIfStands steps undos undos_now held now
      → back_outcome s steps (option_map (plain_run s.tree.items undos) held)
      ≡ line_notice_outcome (with_cursor_at_run (record s { run = option_map (plain_run s.tree.items undos_now) now })) Notice.Paused
  back_goes undos_now None now went = absurd went
  back_goes undos_now (Some run) now went =
      let told : Option PlainRun → KeyOutcome = λ plain. line_notice_outcome (with_cursor_at_run (record s { run = plain })) Notice.Paused in
      ap (back_to s) went.2.went
      ∙ sym (ap (λ (plain : PlainRun). told (Some plain)) (back_plain s.tree undos_now went.0 went.2.reason went.2.dropped))
      ∙ sym (ap (λ (h : Option Run). told (option_map (plain_run s.tree.items undos_now) h)) went.1)

-- the same run in the same tree
pub same_held : (tree tree_now : PlainTree) (earlier : List EarlierTree) (held now : PlainHeldRun) → tree_now ≡ tree → now ≡ held
    → FitsHeld tree earlier held.undos held.run → FitsHeld tree_now earlier now.undos now.run
same_held tree tree_now earlier held now same_tree same fits =
    subst (λ (t : PlainTree). FitsHeld t earlier now.undos now.run) (sym same_tree)
    (subst (λ (h : PlainHeldRun). FitsHeld tree earlier h.undos h.run) (sym same) fits)

-- ---- a run that begins

-- a run of which nothing is kept that fits the tree, and has no earlier configuration
alone_fits : (tree : PlainTree) (earlier : List EarlierTree) (state : RunState) → Fits tree.items (plain_configuration state)
    → FitsHeld tree earlier [] (Some (paused state))
alone_fits tree earlier state fits =
    record { unkept = λ _. fits; stood = λ kept. absurd (cc); earlier = All-nil (Fits tree.items); with_earlier = λ some. absurd (some refl) }

alone_begun : (tree : PlainTree) (state : RunState) → plain_configuration state ≡ First tree.items
    → plain_run tree.items [] (paused state) ≡ begun_run tree
alone_begun tree state first = ap run_there first
  where
    run_there : PlainConfiguration → PlainRun
    run_there c = record { configuration = c; reason = RunReason.Paused; kept = kept_of tree.items c; earlier = [] }

some_same : (one other : PlainConfiguration) → Some one ≡ Some other → one ≡ other
some_same one other same = ap (λ (o : Option PlainConfiguration). unwrap_or o one) same

module _ (begins : CodeBeginsAsTree) (items : ProgramItemsTell) (trees : TreesIgnoreRoom) (tree : PlainTree) (is_tree : IsTree tree)
    (code : PlainCode) (of_tree : code ≡ code_of (roomless_tree tree)) where
  -- the code of the tree begins a run, which is the new run of the tree
  pub code_begins : result_of (Enter code) ≡ Some (First (roomless_tree tree).items)
  unfolding code_of
  code_begins =
      ap (λ (k : PlainCode). result_of (Enter k)) of_tree
      ∙ begins (roomless_tree tree) (Marks (roomless_tree tree).items) (program_items (roomless_tree tree).items) ((trees tree).0 is_tree) refl
      (items (roomless_tree tree).items)

  pub code_enters : IsSome (Enter code)
  code_enters = by (Enter code) code_begins
    where
      by : (entered : Option _) → result_of entered ≡ Some (First (roomless_tree tree).items) → IsSome entered
      by None there = absurd (cc)
      by (Some fetched) there = refl

  module _ (state : RunState) (undos : List Undo) (held : Option Run) (there : held ≡ Some (paused state)) (none : undos ≡ [])
      (began : result_of (Enter code) ≡ Some (plain_configuration state)) where
    first : plain_configuration state ≡ First (roomless_tree tree).items
    first = some_same (plain_configuration state) (First (roomless_tree tree).items) (sym began ∙ code_begins)

    -- the run that begins may go on
    pub begun_held : NewRunsFit → (earlier : List EarlierTree) → FitsHeld (roomless_tree tree) earlier undos held
    begun_held fit earlier =
        subst (λ (u : List Undo). FitsHeld (roomless_tree tree) earlier u held) (sym none)
        (subst (λ (h : Option Run). FitsHeld (roomless_tree tree) earlier [] h) (sym there)
        (alone_fits (roomless_tree tree) earlier state
        (subst (Fits (roomless_tree tree).items) (sym first) (fit (roomless_tree tree) ((trees tree).0 is_tree)))))

    -- and it is the new run of the program
    pub begun_plain : option_map (plain_run (roomless_tree tree).items undos) held ≡ Some (begun_run (roomless_tree tree))
    begun_plain =
        ap (option_map (plain_run (roomless_tree tree).items undos)) there
        ∙ ap (λ (u : List Undo). Some (plain_run (roomless_tree tree).items u (paused state))) none
        ∙ ap Some (alone_begun (roomless_tree tree) state first)
