-- The texts that a value holds.
use Rattle.std.specs.Prelude.{ℕ, ◌≤◌, List, length}
use Rattle.plcs_base.specs.declared.text.TheConstants.{LONGEST_TEXT}

-- how many bytes the text of a value may have
abbrev pub longest_text : ℕ
longest_text = LONGEST_TEXT

-- the bytes are few enough for the text of a value; which bytes a phrase can spell is the grammar's rule
abbrev pub IsTextValue : List ℕ → Type 0
IsTextValue bytes = length bytes ≤ longest_text
