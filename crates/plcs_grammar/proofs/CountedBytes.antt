-- Bytes that are counted, up to the greatest number of a u32.
use Rattle.std.proofs.Common.{ℕ, ◌+◌, ◌≤◌, ◌≡◌, List, length, min, arith}
use Rattle.plcs_base.specs.Put.{PutsAll, puts_nothing, puts_next}
use Rattle.plcs_grammar.specs.Canon.{longest_shown}

-- bytes that are put raise the count by their number, up to the longest
pub counted : {Out : Type 0} (count : Out → ℕ) {before after : Out} {bytes : List ℕ}
    → count before ≤ longest_shown
    → PutsAll (λ b byte a. count a ≡ min (count b + 1) longest_shown) before bytes after
    → count after ≡ min (count before + length bytes) longest_shown
counted count small puts_nothing = omega arith
counted count small (puts_next one rest) = let more = counted count (omega arith) rest in omega arith
