-- No byte changes a terminal's size.
use Rattle.std.proofs.Common.{◌≡◌, ◌==◌, ℕ, Bool, true, false, cond, List, [], ◌∷◌, refl, ◌∙◌}
use Rattle.plcs_base.specs.Byte.{is_digit, is_printable}
use Rattle.screen_window.specs.declared.sequence.Sequence.{Sequence}
use Rattle.screen_window.specs.declared.sequence.Sequence.TheVariants.{Absent, Escape, Behind}
use Rattle.screen_window.specs.declared.sequence.Gathered.{Gathered}
use Rattle.screen_window.specs.declared.sequence.Gathered.TheVariants.{Nothing, Digit, Number, Row, Position, Other}
use Rattle.screen_window.specs.PlainTerminal.{PlainTerminal}
use Rattle.screen_window.specs.Terminal.{Term, ended, terminal_after, terminal_after_in}

-- a terminal of the same size
pub record IsAsLarge (z y : PlainTerminal) : Type 0 where
  pub rows : y.rows ≡ z.rows
  pub cols : y.cols ≡ z.cols

same_size : (z : PlainTerminal) → IsAsLarge z z
same_size z = record { rows = refl; cols = refl }

by_test : (z : PlainTerminal) (b : Bool) (x y : PlainTerminal) → IsAsLarge z x → IsAsLarge z y → IsAsLarge z (cond b x y)
by_test z true x y first second = first
by_test z false x y first second = second

-- what ends a sequence
ended_size : (z : PlainTerminal) (gathered : Gathered) (byte : ℕ) → IsAsLarge z (ended z gathered byte)
ended_size z Nothing byte = by_test z (byte == 75) _ _ (record { rows = refl; cols = refl }) (same_size z)
ended_size z (Digit digit) byte =
    by_test z (byte == 74) _ _ (by_test z (digit == 2) _ _ (record { rows = refl; cols = refl }) (same_size z))
    (by_test z (byte == 109) _ _
    (by_test z (digit == 7) _ _ (record { rows = refl; cols = refl }) (by_test z (digit == 0) _ _ (record { rows = refl; cols = refl }) (same_size z)))
    (same_size z))
ended_size z (Number value) byte = same_size z
ended_size z (Row row) byte = same_size z
ended_size z (Position row col) byte = by_test z (byte == 72) _ _ (record { rows = refl; cols = refl }) (same_size z)
ended_size z Other byte = same_size z

-- one byte
step_size : (sequence : Sequence) (z : PlainTerminal) (byte : ℕ) → IsAsLarge z (terminal_after_in sequence z byte)
step_size Absent z byte =
    by_test z (byte == 27) _ _ (record { rows = refl; cols = refl })
    (by_test z (is_printable byte) _ _ (record { rows = refl; cols = refl }) (same_size z))
step_size Escape z byte = record { rows = refl; cols = refl }
step_size (Behind gathered) z byte =
    by_test z (is_digit byte) _ _ (record { rows = refl; cols = refl })
    (by_test z (byte == 59) _ _ (record { rows = refl; cols = refl })
    (record { rows = (ended_size z gathered byte).rows; cols = (ended_size z gathered byte).cols }))

-- some bytes
pub term_size : (z : PlainTerminal) (bytes : List ℕ) → IsAsLarge z (Term z bytes)
unfolding Term
term_size z [] = same_size z
term_size z (byte ∷ bytes) =
    let first = step_size z.sequence z byte in
    let rest = term_size (terminal_after z byte) bytes in
    record { rows = rest.rows ∙ first.rows; cols = rest.cols ∙ first.cols }
