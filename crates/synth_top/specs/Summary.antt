-- The summary of a program that was made and run: four lines, a number or the output in each.
use Rattle.std.specs.Prelude.{ℕ, ◌+◌, ◌==◌, if◌then◌else◌, List, [], ◌∷◌, ◌++◌, codes, decimal}
use Rattle.template_tree.specs.Listings.Listing.{Listing}
use Rattle.template_tree.specs.Programs.Slots.{count}
use Rattle.synth_session.specs.PlainSession.{PlainSession}
use Rattle.synth_session.specs.SessionScreen.{run_output}

-- how many lines a text of a summary has, each of which ends with the byte 10
abbrev pub lines_in : List ℕ → ℕ
lines_in [] = 0
lines_in (byte ∷ rest) = if byte == 10 then lines_in rest + 1 else lines_in rest

-- a line of a summary: its word, a blank, what it tells, and the line end
abbrev pub summary_line : (word told : List ℕ) → List ℕ
summary_line word told = word ++ (32 ∷ (told ++ (10 ∷ [])))

-- the summary of a session: its program's live slots, the lines of the program's listing, the steps that the newest
-- key of a run made, and the output of the run
unfoldable pub summary : PlainSession → List ℕ
summary s =
    summary_line (codes "slots") (decimal (count s.tree.items))
    ++ (summary_line (codes "lines") (decimal (lines_in (Listing s.tree.items)))
    ++ (summary_line (codes "steps") (decimal s.made)
    ++ summary_line (codes "output") (run_output s.run)))
