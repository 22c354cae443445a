-- The program that is saved where memory ran out.
use Rattle.std.specs.Prelude.{◌≡◌, ◌≢◌, ℕ, codes, Option, option_map}
use Rattle.std.specs.FinMap.{insert}
use Rattle.plcs_base.specs.Count.{Rose}
use Rattle.synth_outside.specs.Files.{FileMap}
use Rattle.template_tree.specs.Listings.Listing.{Listing}
use Rattle.synth_top.specs.declared.status.Status.{Status}
use Rattle.synth_top.specs.declared.status.Status.TheVariants.{NoMemory}
use Rattle.synth_top.specs.Turn.{EditorState}

-- what was saved at the end of a run: nothing was to be saved; the program was; or it wasn't, since a call on the files
-- failed, or since they wanted memory
pub data Rescue : Type 0 where
  NoRescue : Rescue
  Rescued : Rescue
  RescueFailed : Rescue
  RescueWanted : Rescue

-- a run that ends so saves so: to save the program is tried exactly where memory ran out
abbrev pub IsRescue : Status → Rescue → Type 0
IsRescue NoMemory rescue = rescue ≢ NoRescue
IsRescue status rescue = rescue ≡ NoRescue

-- the map of the files after a rescue: where the program was saved, it has its listing under the name `RESCUE`
abbrev pub files_with : Rescue → EditorState → Option FileMap
files_with Rescued state =
    option_map (λ map. insert map (codes "RESCUE") (Listing state.session.tree.items)) state.files
files_with other state = state.files

-- how many failures a rescue is
abbrev pub rescue_failure : Rescue → ℕ
rescue_failure RescueFailed = 1
rescue_failure other = 0

-- the count of wants of the files over a rescue: it rose where they wanted memory, and else it is as before
abbrev pub CountsRescueWant : Rescue → ℕ → ℕ → Type 0
CountsRescueWant RescueWanted before now = Rose before now
CountsRescueWant other before now = now ≡ before
