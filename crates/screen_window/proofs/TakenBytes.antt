-- What a terminal makes of bytes, one after the other.
use Rattle.std.proofs.Common.{◌≡◌, ℕ, List, [], ◌∷◌, ◌++◌, refl, ap, ◌∙◌}
use Rattle.std.proofs.lemmas.List.Sums.{fold-append}
use Rattle.screen_window.specs.PlainTerminal.{PlainTerminal}
use Rattle.screen_window.specs.Terminal.{Term, terminal_after}

-- no byte
pub after_none : (z : PlainTerminal) → Term z [] ≡ z
unfolding Term
after_none z = refl

-- one byte, and then the others
pub after_byte : (z : PlainTerminal) (byte : ℕ) (bytes : List ℕ) → Term z (byte ∷ bytes) ≡ Term (terminal_after z byte) bytes
unfolding Term
after_byte z byte bytes = refl

-- some bytes, and then others
pub after_both : (z y w : PlainTerminal) (xs ys : List ℕ) → Term z xs ≡ y → Term y ys ≡ w → Term z (xs ++ ys) ≡ w
unfolding Term
after_both z y w xs ys first second = fold-append terminal_after z xs ys ∙ ap (λ t. Term t ys) first ∙ second
