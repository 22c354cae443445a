-- The session is opened over what was loaded, and then told the first refusal; told so, that is the first session of
-- the definition. A message changes neither the size nor the grids.
use Rattle.std.proofs.Common.{◌≡◌, Option, Some, None, refl, sym, ap, subst, ◌∙◌, List, ℕ, option_map}
use Rattle.template_tree.specs.Programs.PlainTree.{PlainTree, roomless_tree}
use Rattle.file_store.specs.declared.refusal.FileRefusal.{FileRefusal}
use Rattle.screen_window.specs.PlainGrid.{blank_grid}
use Rattle.synth_session.specs.CheckedPhrases.{phrase_count}
use Rattle.synth_session.specs.CountedKey.{CountsProgram}
use Rattle.synth_session.specs.OpenedSession.{opened_session, tree_at_first}
use Rattle.synth_session.specs.PlainScreenSize.{PlainScreenSize}
use Rattle.synth_session.specs.PlainSession.{PlainSession}
use Rattle.synth_session.specs.ProgramCode.{code_length}
use Rattle.synth_session.specs.SessionView.{plain_session}
use Rattle.synth_top.specs.declared.loading.FileLoad.{FileLoad}
use Rattle.synth_top.specs.Loads.{first_refusal, first_session, loaded_input, loaded_program, refusal_told}
use Rattle.synth_top.specs.Private.Loading.{load_content}
use Rattle.synth_top.specs.Private.PlainForms.{plain_first_loads, plain_options, program_reply}
use Rattle.synth_top.proofs.editor.Editor.open.Goals as goal

-- a program that was loaded, without its room
same_program : (load : FileLoad PlainTree) → option_map roomless_tree (load_content load) ≡ loaded_program (program_reply load)
same_program FileLoad.NotAsked = refl
same_program (FileLoad.Loaded tree) = refl
same_program (FileLoad.Refused refusal) = refl

-- a message leaves the size as it is
size_told : (refusal : Option FileRefusal) (s : PlainSession) → (refusal_told refusal s).size ≡ s.size
size_told None s = refl
size_told (Some refusal) s = refl

size_opened : (size : PlainScreenSize) (tree : Option PlainTree) (input : List ℕ) → (opened_session size tree input).size ≡ size
unfolding opened_session
size_opened size tree input = refl

-- the editor has the session that the loads make, on a blank screen
pub returns-clause-opened : goal.returns-clause-opened
returns-clause-opened g c =
    let size = c.args.options.now.size in
    let loads = plain_first_loads c.args.loads in
    let told : plain_session c.tell.new.self.session ≡ first_session (plain_options c.args.options.now) loads =
    c.tell.ensures.session
    ∙ ap (λ (r : Option FileRefusal). refusal_told r (plain_session c.in-Ok.session)) c.first_refusal-refusal.ensures
    ∙ ap (λ (s : PlainSession). refusal_told (first_refusal loads) s)
    (c.in-Ok.ensures.opened
    ∙ ap (λ (t : Option PlainTree). opened_session size (option_map roomless_tree t) c.bytes-input.result.items) c.loaded.ensures
    ∙ ap (λ (t : Option PlainTree). opened_session size t c.bytes-input.result.items) (same_program c.args.loads.program)
    ∙ ap (λ (i : List ℕ). opened_session size (loaded_program loads.program) i) c.bytes-input.ensures) in
    let sized : (plain_session c.tell.new.self.session).size ≡ size =
    ap (λ (s : PlainSession). s.size) told ∙ size_told (first_refusal loads) _ ∙ size_opened size (loaded_program loads.program) (loaded_input loads.input) in
    record {
      unshown = record {
        ready = c.tell.ensures.ready;
        painted = c.tell.ensures.shown ∙ c.in-Ok.ensures.shown ∙ ap (λ (e : PlainScreenSize). blank_grid e.rows e.cols) (sym sized);
      };
      session = told;
    }

-- each phrase of the program that was loaded was checked at most, and each instruction emitted, or of the new one
pub returns-clause-counts : goal.returns-clause-counts
returns-clause-counts g c =
    subst
    (λ (tree : Option PlainTree). CountsProgram (phrase_count (tree_at_first tree)) (code_length (tree_at_first tree)) (g.W.Work.counts c.args.work.now) (g.W.Work.counts c.open.new.work))
    (ap (λ (tree : Option PlainTree). option_map roomless_tree tree) c.loaded.ensures ∙ same_program c.args.loads.program) c.in-Ok.ensures.counts

pub returns-in_default-clause-counts : goal.returns-in_default-clause-counts
returns-in_default-clause-counts g c =
    subst
    (λ (tree : Option PlainTree). CountsProgram (phrase_count (tree_at_first tree)) (code_length (tree_at_first tree)) (g.W.Work.counts c.args.work.now) (g.W.Work.counts c.open.new.work))
    (ap (λ (tree : Option PlainTree). option_map roomless_tree tree) c.loaded.ensures ∙ same_program c.args.loads.program) c.in_default.ensures.counts
