-- A whole run: the loads, the keys, and what is saved at the end.
use Rattle.std.proofs.Common.{◌≡◌, inl, inr, ℕ, List, Option, Some, None, codes, refl, ap, ◌∙◌, subst, arith}
use Rattle.std.specs.Prelude.{option_map}
use Rattle.std.specs.FinMap.{insert}
use Rattle.plcs_base.specs.PlainCounts.{PlainCounts}
use Rattle.synth_outside.specs.Files.{FileMap, PlainFiles}
use Rattle.template_tree.specs.Listings.Listing.{Listing}
use Rattle.synth_session.specs.CountedKey.{CountsProgram}
use Rattle.synth_session.specs.PlainSession.{PlainSession}
use Rattle.synth_top.specs.declared.status.Status.{Status}
use Rattle.synth_top.specs.declared.status.Status.TheVariants.{NoMemory}
use Rattle.synth_top.specs.Counted.{CountsFor}
use Rattle.synth_top.specs.Loads.{PlainFirstLoads, first_session, first_state, opening_bill}
use Rattle.synth_top.specs.Options.{PlainOptions}
use Rattle.synth_top.specs.Private.Loading.{BothLoad, LoadsNothing, OnlyRead}
use Rattle.synth_top.specs.Private.EditorRuns.{Rescues, EditorRuns}
use Rattle.synth_top.specs.Rescue.{NoRescue, Rescue, RescueFailed, RescueWanted, Rescued, files_with}
use Rattle.synth_top.specs.WholeRun.{Ended, Ran, Stopped, Told, ToldStreams, all_shots, fetches_due, run_bill, state_after}
use Rattle.synth_top.specs.Turn.{IsToldAs, EditorState, both_bills}
use Rattle.synth_top.proofs.ClaimedFiles.{told_through}
use Rattle.synth_top.proofs.CountsInTurn.{counts_after_none, counts_program}

-- ---- the loads

-- the program was loaded, and then memory ran out over the input
pub loads_nothing_after : (count : ℕ) (a b c : PlainFiles) → OnlyRead count a b → LoadsNothing b c → LoadsNothing a c
loads_nothing_after count a b c read nothing = record {
  stored = nothing.stored ∙ read.stored;
  faults = omega (arith, read.later, nothing.faults);
  wants = omega (arith, read.wants, nothing.wants);
}

-- ---- what is saved at the end

-- what was saved in a map is claimed of one of which no more is claimed
rescue_less : (f g now : Option FileMap) (x y : List ℕ) → x ≡ y → IsToldAs f g → IsToldAs (option_map (λ (map : FileMap). insert map (codes "RESCUE") x) g) now
    → IsToldAs (option_map (λ (map : FileMap). insert map (codes "RESCUE") y) f) now
rescue_less None g now x y same told saved = tt
rescue_less (Some map) g now x y same told saved =
    subst (λ bytes. now ≡ Some (insert map (codes "RESCUE") bytes)) same
    (subst (λ files. IsToldAs (option_map (λ (map : FileMap). insert map (codes "RESCUE") x) files) now) told saved)

-- so is what was saved of the state that the keys make, where files tell more
files_with_less : (rescue : Rescue) (s t : EditorState) (now : Option FileMap) → t.session ≡ s.session → IsToldAs s.files t.files
    → IsToldAs (files_with rescue t) now → IsToldAs (files_with rescue s) now
files_with_less NoRescue s t now same told saved = told_through s.files t.files now told saved
files_with_less RescueFailed s t now same told saved = told_through s.files t.files now told saved
files_with_less RescueWanted s t now same told saved = told_through s.files t.files now told saved
files_with_less Rescued s t now same told saved =
    rescue_less s.files t.files now (Listing t.session.tree.items) (Listing s.session.tree.items) (ap (λ (z : PlainSession). Listing z.tree.items) same) told saved

-- ---- all of it

-- a state of a session and a map
abbrev state_with : PlainSession → Option FileMap → EditorState
state_with s stored = record { session = s; files = stored }

-- the state of an editor that was opened over the loads, before its first screen
pub opened_first : (options : PlainOptions) (loads : PlainFirstLoads) (stored loaded : Option FileMap) (s : PlainSession) → s ≡ first_session options loads
    → loaded ≡ stored → state_with s loaded ≡ first_state options stored loads
opened_first options loads stored loaded s opened same =
    ap (λ (z : PlainSession). state_with z loaded) opened ∙ ap (λ (f : Option FileMap). state_with (first_session options loads) f) same

-- what is told of keys and screens, of files and of counts
abbrev whole : ToldStreams → PlainFiles → PlainCounts → Told
whole streams files counts = record { streams = streams; files = files; counts = counts }

-- the loads, the run from the session that they make, and the rescue after it
pub ran : (status : Status) (options : PlainOptions) (loads : PlainFirstLoads) (before now : ToldStreams) (files loaded at_end files_now : PlainFiles)
    (counts opened counts_now : PlainCounts) (first : EditorState) (after_reads after_fault : Type 0) (session : PlainSession)
    → BothLoad options loads files loaded → CountsProgram (opening_bill loads).checks (opening_bill loads).emits counts opened → first ≡ first_state options files.stored loads
    → EditorRuns status options first (whole before loaded opened) (whole now at_end counts_now) after_reads after_fault session
    → Rescues status session at_end files_now
    → Ran status options (whole before files counts) (whole now files_now counts_now) after_reads after_fault
ran status options loads before now files loaded at_end files_now counts opened counts_now first after_reads after_fault session load opening is runs_first rescue =
    let runs : EditorRuns status options (first_state options files.stored loads) (whole before loaded opened) (whole now at_end counts_now) after_reads after_fault session =
    subst (λ (s : EditorState). EditorRuns status options s (whole before loaded opened) (whole now at_end counts_now) after_reads after_fault session) is runs_first in
    -- why it stopped, from the files' first count of wants on, and what was counted under its bill
    let stopped : (why : Stopped runs.course files.wants at_end.wants status)
    × CountsFor (run_bill runs.course files.wants at_end.wants status why) (all_shots runs.course)
    (fetches_due runs.course files.wants at_end.wants status why) opened counts_now =
    subst
    (λ (n : ℕ). (why : Stopped runs.course n at_end.wants status)
    × CountsFor (run_bill runs.course n at_end.wants status why) (all_shots runs.course) (fetches_due runs.course n at_end.wants status why) opened counts_now)
    load.read.wants (runs.stopped, runs.counts) in
    record {
      loads = loads;
      can_load = load.can;
      course = runs.course;
      wants = at_end.wants;
      wants_later = omega (arith, load.read.wants, runs.wants);
      stopped = stopped.0;
      source = runs.source;
      rescue = rescue.rescue;
      rescued = rescue.rescued;
      wants_now = rescue.wants;
      files = files_with_less rescue.rescue (state_after runs.course) (record { session = session; files = at_end.stored }) files_now.stored
          runs.session_is runs.files rescue.files;
      faults = omega (arith, load.read.faults, runs.faults, rescue.faults);
      counts = counts_after_none (opening_bill loads) (run_bill runs.course files.wants at_end.wants status stopped.0)
          (both_bills (opening_bill loads) (run_bill runs.course files.wants at_end.wants status stopped.0)) (all_shots runs.course)
          (fetches_due runs.course files.wants at_end.wants status stopped.0) counts opened counts_now (omega arith) (omega arith)
          (counts_program (opening_bill loads) counts opened opening) stopped.1;
    }

-- no session was opened, since memory ran out over a load
pub unloaded : (options : PlainOptions) (told : ToldStreams) (files files_now : PlainFiles) (counts : PlainCounts) (after_reads after_fault : Type 0)
    → LoadsNothing files files_now → after_reads
    → Ended NoMemory options (whole told files counts) (whole told files_now counts) after_reads after_fault
unloaded options told files files_now counts after_reads after_fault nothing led =
    inl (record {
      wanted = refl;
      same = refl;
      source = led;
      stored = nothing.stored;
      faults = nothing.faults;
      wants = nothing.wants;
      counts = inl refl;
    })

-- no session was opened, since memory ran out after the loads
pub unopened : (options : PlainOptions) (loads : PlainFirstLoads) (told : ToldStreams) (files files_now : PlainFiles) (counts counts_now : PlainCounts)
    (after_reads after_fault : Type 0) → BothLoad options loads files files_now → CountsProgram (opening_bill loads).checks (opening_bill loads).emits counts counts_now → after_reads
    → Ended NoMemory options (whole told files counts) (whole told files_now counts_now) after_reads after_fault
unopened options loads told files files_now counts counts_now after_reads after_fault load opening led =
    inl (record {
      wanted = refl;
      same = refl;
      source = led;
      stored = load.read.stored;
      faults = load.read.later;
      wants = omega (arith, load.read.wants);
      counts = inr (record { loads = loads; can_load = load.can; counts = opening });
    })
