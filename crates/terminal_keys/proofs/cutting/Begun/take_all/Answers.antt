use Rattle.std.proofs.Common.{◌≡◌, ◌+◌, ◌∷◌, ◌++◌, drop, get_or, arith, ap, refl, ◌∙◌, sym, add-one}
use Rattle.std.proofs.Math.Seq.{drop-cons}
use Rattle.terminal_keys.specs.Sequence.{bell, of_sequences, passed_of_sequence}
use Rattle.terminal_keys.proofs.cutting.Begun.take_all.Goals as goal

-- no byte was taken yet
pub loop-byte-init : goal.loop-byte-init
loop-byte-init c = record {
  passed = λ rest. rw c.requires.no_passes refl;
  rung = λ rest. rw c.requires.no_bells refl;
  few = rw c.requires.no_passes (omega arith);
  few_bells = rw c.requires.no_bells (omega arith);
}

-- what this byte gives was appended too
pub loop-byte-preserved : goal.loop-byte-preserved
loop-byte-preserved c =
    let bytes = c.args.bytes.now in
    let i = c.loop-byte.byte-index in
    let next : drop i bytes ≡ get_or bytes i 0 ∷ drop (i + 1) bytes =
    drop-cons bytes i 0 c.loop-byte-test.true ∙ ap (λ n. get_or bytes i 0 ∷ drop n bytes) (sym (add-one i)) in
    record {
      passed = λ rest.
          c.loop-byte.invariant.passed rest
          ∙ ap (λ left. c.loop-byte.passes.items ++ of_sequences passed_of_sequence c.loop-byte.self.bytes.items (left ++ rest)) next
          ∙ c.take.ensures.passes (drop (i + 1) bytes ++ rest);
      rung = λ rest.
          c.loop-byte.invariant.rung rest
          ∙ ap (λ left. c.loop-byte.bells.items ++ of_sequences bell c.loop-byte.self.bytes.items (left ++ rest)) next
          ∙ c.take.ensures.bells (drop (i + 1) bytes ++ rest);
      few = omega arith;
      few_bells = omega arith;
    }
