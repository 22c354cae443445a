-- A buffer that is filled from a file, piece after piece.
use Rattle.std.proofs.Common.{◌≡◌, ℕ, ◌+◌, ◌-◌, ◌≤◌, List, [], ◌∷◌, ◌++◌, length, take, drop, min, sym, ap, ◌∙◌, arith}
use Rattle.std.proofs.lemmas.Grind.{common_steps}
use Rattle.std.proofs.lemmas.List.{drop-drop, take-append-le}
use Rattle.std.proofs.Math.Seq.{take-add, take-append-add}
use Rattle.key_journal.specs.Disk.{DiskState, Newest, ReadsRange}
use Rattle.key_journal.specs.DiskFile.{ReadsFront, ReadsSome}

-- the front of a buffer, once some more bytes stand behind those that were read
more_bytes : (count more : ℕ) (buf rest past_end : List ℕ) → count ≤ length buf → more ≤ length rest →
    take (count + more) (take count buf ++ (rest ++ past_end)) ≡ take count buf ++ take more rest
more_bytes count more buf rest past_end within many =
    let front : length (take count buf) ≡ count = grind (arith, common_steps) in
    ap (λ (n : ℕ). take (n + more) (take count buf ++ (rest ++ past_end))) (sym front)
    ∙ take-append-add (take count buf) (rest ++ past_end) more
    ∙ ap (λ (bytes : List ℕ). take count buf ++ bytes) (take-append-le more rest past_end many)

-- some bytes were read, and then some more behind them
pub reads_more : (at count more : ℕ) (buf rest past_end : List ℕ) (past : List DiskState) →
    count ≤ length buf → more ≤ length rest → Newest (ReadsFront at count (take count buf)) past →
    Newest (ReadsSome (at + count) more (take more rest)) past →
    Newest (ReadsFront at (count + more) (take (count + more) (take count buf ++ (rest ++ past_end)))) past
reads_more at count more buf rest past_end [] within many front some = tt
reads_more at count more buf rest past_end (state ∷ past) within many front some = record {
  within = omega (arith, front.within, some.front.within);
  same =
      more_bytes count more buf rest past_end within many
      ∙ ap (λ (bytes : List ℕ). bytes ++ take more rest) front.same
      ∙ ap (λ (bytes : List ℕ). take count (drop at state.bytes) ++ bytes)
      (some.front.same ∙ ap (λ (bytes : List ℕ). take more bytes) (sym (drop-drop count at state.bytes)))
      ∙ sym (take-add count more (drop at state.bytes));
}

-- the buffer is full
pub fills : (at : ℕ) (buf : List ℕ) (count : ℕ) (past : List DiskState) → count ≡ length buf →
    Newest (ReadsFront at count (take count buf)) past →
    Newest (ReadsRange at (length buf) count (take count buf)) past
fills at buf count [] full front = tt
fills at buf count (state ∷ past) full front =
    record { exact = omega (arith, full, front.within); same = front.same }

-- the file is at its end
pub fills_to_end : (at count more : ℕ) (buf given : List ℕ) (past : List DiskState) →
    count ≤ length buf → more ≡ 0 → Newest (ReadsFront at count (take count buf)) past →
    Newest (ReadsSome (at + count) more given) past →
    Newest (ReadsRange at (length buf) count (take count buf)) past
fills_to_end at count more buf given [] within none front some = tt
fills_to_end at count more buf given (state ∷ past) within none front some =
    record { exact = omega (arith, within, front.within, some.exact_end none); same = front.same }
