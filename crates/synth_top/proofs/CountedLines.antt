-- Line ends of a listing that are counted: where the listing is short, all are.
use Rattle.std.proofs.Common.{◌≡◌, ◌≤◌, ℕ, ◌+◌, ◌==◌, Bool, true, false, if◌then◌else◌, List, length, min, arith}
use Rattle.plcs_base.specs.Put.{PutsAll, puts_nothing, puts_next}
use Rattle.synth_top.specs.Private.CountedLines.{counted_after}
use Rattle.synth_top.specs.Summary.{lines_in}

-- one byte raises the count by one at most
one_more : (test : Bool) (count : ℕ) → (if test then min (count + 1) 4294967295 else count) ≤ count + 1
one_more true count = omega arith
one_more false count = omega arith

-- a byte and those after it
and_rest : (test : Bool) (count rest : ℕ) → count + 1 ≤ 4294967295
    → (if test then min (count + 1) 4294967295 else count) + rest ≡ count + (if test then rest + 1 else rest)
and_rest true count rest small = omega (arith, small)
and_rest false count rest small = omega arith

-- bytes that are put raise the count by their line ends
pub counted_lines : {Out : Type 0} (count : Out → ℕ) {before after : Out} {bytes : List ℕ}
    → count before + length bytes ≤ 4294967295
    → PutsAll (λ b byte a. count a ≡ counted_after (count b) byte) before bytes after
    → count after ≡ count before + lines_in bytes
counted_lines count small puts_nothing = omega arith
counted_lines count {before = before} small (puts_next {byte = byte} {bytes = bytes} one rest) =
    let once = one_more (byte == 10) (count before) in
    let more = counted_lines count (omega (arith, one, once, small)) rest in
    let all = and_rest (byte == 10) (count before) (lines_in bytes) (omega (arith, small)) in
    omega (arith, one, more, all)
