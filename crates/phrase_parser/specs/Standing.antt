-- What a text is in a category: a phrase, over a limit, or wrong somewhere.
use Rattle.std.specs.Prelude.{ℕ, List}
use Rattle.plcs_grammar.specs.declared.category.Category.{Category}
use Rattle.plcs_grammar.specs.PlainPhrase.{PlainPhrase}
use Rattle.plcs_grammar.specs.OverLimit.{OverLimit}
use Rattle.plcs_grammar.specs.Reads.{Outline, Reads, IsOver}
use Rattle.plcs_grammar.specs.SyntaxOffset.{SyntaxAt}

-- a standing: a phrase within the limits, what goes past a limit first, or the place where the text goes wrong
pub data Standing : Type 0 where
  phrase : PlainPhrase → Standing
  over : OverLimit → Standing
  wrong_at : ℕ → Standing

-- the text has this standing in the category
abbrev pub HasStanding : Category → List ℕ → Standing → Type 0
HasStanding category x (phrase p) = Reads category x p
HasStanding category x (over limit) = IsOver category x limit
HasStanding category x (wrong_at place) = (¬ (Outline category x)) × SyntaxAt category x place
