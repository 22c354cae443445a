-- keep_for_run, edit, cut and toggle_comment: before an edit what the program holds is kept for the run that
-- stands, which changes nothing that is seen of it; afterwards it came to stand in a program with which this one
-- agrees by its slots, and those to which can be gone back. Where a comment is turned it fits as before.
use Rattle.std.proofs.Common.{◌≡◌, ℕ, ◌≤◌, Bool, true, List, Option, Some, None, is_some, option_map, slice_index_or, refl, sym, ap, subst, arith, ◌∙◌}
use Rattle.std.specs.Prelude.{IfSome, IsSome, OnErr, OnOk, Result, Ok, Err, unwrap_or}
use Rattle.template_tree.specs.Edits.Elision.{with_toggled_at}
use Rattle.template_tree.specs.Laws.RoomLaws.{RoomGoesOnce, TreesIgnoreRoom}
use Rattle.template_tree.specs.Programs.PlainTree.{Forest, PlainTree, roomless_tree}
use Rattle.template_tree.specs.Programs.Tree.{IsTree}
use Rattle.tree_steps.specs.AgreementLaws.{EarlierAgreesAlike, EditsAgree, GoingBackAgrees, GoingBackPastAgrees}
use Rattle.tree_steps.specs.EditStep.{substance}
use Rattle.tree_steps.specs.EditStepLaws.{RoomIsNoEdit, TogglesAreNoEdits}
use Rattle.tree_steps.specs.SlotAgreement.{AgreesWith}
use Rattle.edit_undo.specs.EarlierTree.{EarlierTree}
use Rattle.edit_undo.specs.EditLaws.{UndoneTreesCheckAlike}
use Rattle.plcs_store.specs.declared.kept.Kept.{Kept}
use Rattle.plcs_store.specs.declared.run_state.Run.{Run}
use Rattle.plcs_store.specs.declared.undo.Undo.{Undo}
use Rattle.plcs_store.specs.Configuration.{plain_configuration}
use Rattle.plcs_store.specs.Resume.{kept_of}
use Rattle.plcs_store.specs.RunsAlike.{KeptIsOne, RunsAlike, RunsIgnoreElision, RunsIgnoreRoom}
use Rattle.back_steps.specs.EarlierConfigurations.{configurations_before}
use Rattle.suspend_state.specs.Suspension.{FitsUnlessKept, KeepsBeside}
use Rattle.synth_session.specs.PlainHeldRun.{PlainHeldRun}
use Rattle.synth_session.specs.PlainRun.{PlainRun}
use Rattle.synth_session.specs.Private.HeldRunKept.{KeepsIfStands}
use Rattle.synth_session.specs.SessionView.{AgreeInTurn, CameToStand, MayGoOn, plain_run}
use Rattle.synth_session.proofs.EarlierAgreements.{AgreesBack, agrees_back, back_from}

-- the run that is held, if one stands, may be asked whether it goes on in the program
abbrev pub MayGoOnIfStands : PlainTree → List EarlierTree → List Undo → Option Run → Type 0
MayGoOnIfStands tree earlier undos run = IfSome run (λ run. MayGoOn tree earlier (is_some run.kept) (plain_run tree.items undos run))

-- a run as it is seen where this is kept for it
abbrev with_kept : List Undo → Run → Kept → PlainRun
with_kept undos run kept = record {
  configuration = plain_configuration run.state;
  reason = run.reason;
  kept = kept;
  earlier = configurations_before undos (plain_configuration run.state);
}

-- ---- before an edit

-- a run of which nothing is kept yet fits the program with its room
pub fits_unless_kept : RunsIgnoreRoom → (tree : PlainTree) (earlier : List EarlierTree) (undos : List Undo) (run : Option Run)
    → MayGoOnIfStands (roomless_tree tree) earlier undos run → IfSome run (FitsUnlessKept tree.items)
fits_unless_kept room tree earlier undos None may = tt
fits_unless_kept room tree earlier undos (Some run) may =
    λ unkept. ((room tree.items).fits (plain_configuration run.state)).0 (may.unkept (ap (λ (kept : Option Kept). is_some kept) unkept))

-- what is kept is what the program holds, as it was told before
kept_beside : RunsIgnoreRoom → KeptIsOne → (tree : PlainTree) (undos : List Undo) (old new : Run) (before : Option Kept) → old.kept ≡ before
    → KeepsBeside before tree.items old new
    → plain_run (roomless_tree tree).items undos new ≡ plain_run (roomless_tree tree).items undos old
kept_beside room one tree undos old new (Some before) was same = ap (plain_run (roomless_tree tree).items undos) same
kept_beside room one tree undos old new None was (kept, keeping, is) =
    let c = plain_configuration old.state in
    let told : kept ≡ kept_of (roomless_tree tree).items c = one tree.items c kept is ∙ sym ((room tree.items).kept c) in
    let before : unwrap_or old.kept (kept_of (roomless_tree tree).items c) ≡ kept_of (roomless_tree tree).items c =
    ap (λ (k : Option Kept). unwrap_or k (kept_of (roomless_tree tree).items c)) was in
    ap (plain_run (roomless_tree tree).items undos) keeping
    ∙ ap (with_kept undos old) (told ∙ sym before)

-- so it is for the run that is held, if one stands
pub kept_plain : RunsIgnoreRoom → KeptIsOne → (tree : PlainTree) (undos : List Undo) (old new : Option Run) → KeepsIfStands tree.items old new
    → option_map (plain_run (roomless_tree tree).items undos) new ≡ option_map (plain_run (roomless_tree tree).items undos) old
kept_plain room one tree undos None new keeps = ap (option_map (plain_run (roomless_tree tree).items undos)) keeps
kept_plain room one tree undos (Some old) new (keeping, is, keeps) =
    ap (option_map (plain_run (roomless_tree tree).items undos)) is
    ∙ ap (λ (run : PlainRun). Some run) (kept_beside room one tree undos old keeping old.kept refl keeps)

-- the program in which a run comes to stand is the tree without room, and the trees to which can be gone back agree
-- with it
abbrev pub StandsHere : PlainTree → List EarlierTree → Type 0
StandsHere tree earlier = AgreesWith tree (roomless_tree tree) × AgreesBack tree (roomless_tree tree) earlier

-- so it is in a session
pub stands_here : RoomGoesOnce → TreesIgnoreRoom → RoomIsNoEdit → EditsAgree → GoingBackPastAgrees → EarlierAgreesAlike → UndoneTreesCheckAlike
    → (tree : PlainTree) → IsTree tree → (earlier : List EarlierTree) → AgreeInTurn (roomless_tree tree) earlier → StandsHere tree earlier
stands_here once trees no_edit agree past alike undone tree is earlier turn =
    let bare : PlainTree = roomless_tree tree in
    let twice : roomless_tree tree ≡ roomless_tree bare =
    sym (ap (λ (items : Forest). record bare { items = items }) (once tree.items)) in
    let same = no_edit tree bare twice in
    (agree tree bare is (0, same), agrees_back past alike undone tree bare (sym same.items) ((trees tree).0 is) earlier turn)

-- a run that keeps what the program holds came to stand there
keeping_stands : RunsIgnoreRoom → (tree : PlainTree) → IsTree tree → (earlier : List EarlierTree) → StandsHere tree earlier
    → (undos : List Undo) (old new : Run) (before : Option Kept) → old.kept ≡ before → KeepsBeside before tree.items old new
    → MayGoOn (roomless_tree tree) earlier (is_some old.kept) (plain_run (roomless_tree tree).items undos old)
    → MayGoOn (roomless_tree tree) earlier (is_some new.kept) (plain_run (roomless_tree tree).items undos new)
keeping_stands room tree is earlier here undos old new (Some before) was keeps may =
    subst (λ (run : Run). MayGoOn (roomless_tree tree) earlier (is_some run.kept) (plain_run (roomless_tree tree).items undos run)) (sym keeps)
    may
keeping_stands room tree is earlier here undos old new None was (kept, keeping, of) may =
    let c = plain_configuration old.state in
    subst (λ (run : Run). MayGoOn (roomless_tree tree) earlier (is_some run.kept) (plain_run (roomless_tree tree).items undos run)) (sym keeping)
    (record {
      unkept = λ isnt. absurd (cc);
      stood = λ _.
          record {
            before = tree;
            is_tree = is;
            agrees = here.0;
            earlier_agree = here.1;
            fits = ((room tree.items).fits c).0 (may.unkept (ap (λ (kept : Option Kept). is_some kept) was));
            kept = of;
          };
      earlier = may.earlier;
      with_earlier = may.with_earlier;
    })

pub kept_may : RunsIgnoreRoom → (tree : PlainTree) → IsTree tree → (earlier : List EarlierTree) → StandsHere tree earlier
    → (undos : List Undo) (old new : Option Run) → KeepsIfStands tree.items old new
    → MayGoOnIfStands (roomless_tree tree) earlier undos old → MayGoOnIfStands (roomless_tree tree) earlier undos new
kept_may room tree is earlier here undos None new keeps may =
    subst (λ (run : Option Run). MayGoOnIfStands (roomless_tree tree) earlier undos run) (sym keeps) tt
kept_may room tree is earlier here undos (Some old) new (keeping, new_is, keeps) may =
    subst (λ (run : Option Run). MayGoOnIfStands (roomless_tree tree) earlier undos run) (sym new_is)
    (keeping_stands room tree is earlier here undos old keeping old.kept refl keeps may)

-- where memory runs out, nothing is kept
pub kept_plain_or_not : RunsIgnoreRoom → KeptIsOne → (tree : PlainTree) (old new : PlainHeldRun) → {T E : Type 0} (result : Result T E)
    → OnOk result (KeepsIfStands tree.items old.run new.run) → OnErr result (new ≡ old)
    → option_map (plain_run (roomless_tree tree).items old.undos) new.run ≡ option_map (plain_run (roomless_tree tree).items old.undos) old.run
kept_plain_or_not room one tree old new (Ok value) keeps same = kept_plain room one tree old.undos old.run new.run keeps
kept_plain_or_not room one tree old new (Err error) keeps same =
    ap (λ (held : PlainHeldRun). option_map (plain_run (roomless_tree tree).items old.undos) held.run) same

pub kept_may_or_not : RunsIgnoreRoom → (tree : PlainTree) → IsTree tree → (earlier : List EarlierTree) → StandsHere tree earlier
    → (old new : PlainHeldRun) → {T E : Type 0} (result : Result T E) → OnOk result (KeepsIfStands tree.items old.run new.run)
    → OnErr result (new ≡ old) → MayGoOnIfStands (roomless_tree tree) earlier old.undos old.run
    → MayGoOnIfStands (roomless_tree tree) earlier old.undos new.run
kept_may_or_not room tree is earlier here old new (Ok value) keeps same may =
    kept_may room tree is earlier here old.undos old.run new.run keeps may
kept_may_or_not room tree is earlier here old new (Err error) keeps same may =
    subst (λ (held : PlainHeldRun). MayGoOnIfStands (roomless_tree tree) earlier old.undos held.run) (sym same) may

-- ---- after an edit

-- a run of which something is kept is seen the same in every program
kept_alike : (before after : Forest) (undos : List Undo) (run : Run) (kept : Option Kept) → run.kept ≡ kept → is_some kept ≡ true
    → plain_run after undos run ≡ plain_run before undos run
kept_alike before after undos run None is some = absurd (cc)
kept_alike before after undos run (Some kept) is some =
    let c = plain_configuration run.state in
    let now : unwrap_or run.kept (kept_of after c) ≡ kept = ap (λ (k : Option Kept). unwrap_or k (kept_of after c)) is in
    let was : unwrap_or run.kept (kept_of before c) ≡ kept = ap (λ (k : Option Kept). unwrap_or k (kept_of before c)) is in
    ap (with_kept undos run) (now ∙ sym was)

pub kept_same : (before after : Forest) (undos : List Undo) (run : Option Run) → IfSome run (λ run. IsSome run.kept)
    → option_map (plain_run after undos) run ≡ option_map (plain_run before undos) run
kept_same before after undos None some = refl
kept_same before after undos (Some run) some = ap (λ (run : PlainRun). Some run) (kept_alike before after undos run run.kept refl some)

-- a run of which something is kept came to stand in a program with which the edited one agrees, and those before it
pub kept_stood : (before after : PlainTree) (earlier earlier_now : List EarlierTree)
    → ((stood : PlainTree) → AgreesWith stood before → AgreesBack stood before earlier
    → AgreesWith stood after × AgreesBack stood after earlier_now)
    → (undos : List Undo) (run : Option Run) → IfSome run (λ run. IsSome run.kept) → MayGoOnIfStands before earlier undos run
    → IfSome run (λ run. CameToStand after earlier_now (plain_run after.items undos run))
kept_stood before after earlier earlier_now agree undos None some may = tt
kept_stood before after earlier earlier_now agree undos (Some run) some may =
    let stood = may.stood some in
    let now = agree stood.before stood.agrees stood.earlier_agree in
    subst (λ (seen : PlainRun). CameToStand after earlier_now seen) (sym (kept_alike before.items after.items undos run run.kept refl some))
    (record {
      before = stood.before;
      is_tree = stood.is_tree;
      agrees = now.0;
      earlier_agree = now.1;
      fits = stood.fits;
      kept = stood.kept;
    })

-- ---- a comment that is turned

-- what may go on in a program may in one of its substance, in which runs are alike
may_alike : GoingBackAgrees → UndoneTreesCheckAlike → (before after : PlainTree) → substance after.items ≡ substance before.items
    → before.drawn ≤ after.drawn → RunsAlike after.items before.items → (earlier : List EarlierTree) (is_kept : Bool) (run : PlainRun)
    → MayGoOn before earlier is_kept run → MayGoOn after earlier is_kept run
may_alike back undone before after same more alike earlier is_kept run may =
    record {
      unkept = λ unkept. (alike.fits run.configuration).1 (may.unkept unkept);
      stood = λ kept.
          let stood = may.stood kept in
          record {
            before = stood.before;
            is_tree = stood.is_tree;
            agrees = back stood.before before after stood.agrees same more;
            earlier_agree = back_from back undone stood.before before after more earlier stood.earlier_agree;
            fits = stood.fits;
            kept = stood.kept;
          };
      earlier = λ k c within. (alike.fits (slice_index_or run.earlier k c)).1 (may.earlier k c within);
      with_earlier = λ some. (alike.fits run.configuration).1 (may.with_earlier some);
    }

-- a run is seen the same with a comment turned
seen_alike : (before after : Forest) → RunsAlike after before → (undos : List Undo) (run : Run) → plain_run after undos run ≡ plain_run before undos run
seen_alike before after alike undos run =
    ap (λ (k : Kept). with_kept undos run (unwrap_or run.kept k)) (alike.kept (plain_configuration run.state))

pub turned_same : RunsIgnoreElision → (tree : PlainTree) (path : List ℕ) (undos : List Undo) (run : Option Run)
    → option_map (plain_run (with_toggled_at path tree).items undos) run ≡ option_map (plain_run tree.items undos) run
turned_same elision tree path undos None = refl
turned_same elision tree path undos (Some run) =
    ap (λ (run : PlainRun). Some run) (seen_alike tree.items (with_toggled_at path tree).items (elision tree.items path) undos run)

pub turned_may : RunsIgnoreElision → TogglesAreNoEdits → GoingBackAgrees → UndoneTreesCheckAlike → (tree : PlainTree) (path : List ℕ)
    (earlier : List EarlierTree) (undos : List Undo) (run : Option Run) → MayGoOnIfStands tree earlier undos run
    → MayGoOnIfStands (with_toggled_at path tree) earlier undos run
turned_may elision turns back undone tree path earlier undos None may = tt
turned_may elision turns back undone tree path earlier undos (Some run) may =
    let alike = elision tree.items path in
    let after = with_toggled_at path tree in
    subst (λ (seen : PlainRun). MayGoOn after earlier (is_some run.kept) seen) (sym (seen_alike tree.items after.items alike undos run))
    (may_alike back undone tree after (sym (turns tree path).items) (omega arith) alike earlier (is_some run.kept)
    (plain_run tree.items undos run) may)
