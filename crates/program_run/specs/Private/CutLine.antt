-- One line, cut out of a listing while that is put.
use Rattle.std.specs.Prelude.{◌≡◌, ℕ, ◌-◌, ◌==◌, Bool, true, if◌then◌else◌, List, [], ◌∷◌, ◌++◌, length, nat_lt}
use Rattle.program_run.specs.declared.stopped_line.TheConstants.{LONGEST_SHOWN}

-- what is cut out of a listing so far: how many line ends are still to come before the line, whether its own came,
-- and its first bytes
pub record PlainLineCut : Type 0 where
  pub ends : ℕ
  pub over : Bool
  pub text : List ℕ

-- what is cut out once a line ends
abbrev pub line_ended : PlainLineCut → PlainLineCut
line_ended cut = if cut.ends == 0 then record cut { over = true } else record cut { ends = cut.ends - 1 }

-- what is cut out once a byte of the line came, which is dropped where enough came before
abbrev pub with_shown : ℕ → PlainLineCut → PlainLineCut
with_shown byte cut =
    if nat_lt (length cut.text) LONGEST_SHOWN then record cut { text = cut.text ++ (byte ∷ []) } else cut

-- what is cut out once a byte of the listing was put
abbrev pub cut_after : PlainLineCut → ℕ → PlainLineCut
cut_after cut byte =
    if cut.over then cut
    else (if byte == 10 then line_ended cut
    else (if cut.ends == 0 then with_shown byte cut else cut))

-- a byte of the listing was put
abbrev pub PutsCut : PlainLineCut → ℕ → PlainLineCut → Type 0
PutsCut before byte after = after ≡ cut_after before byte
