-- What was passed and rung of the bytes that were read so far.
use Rattle.std.proofs.Common.{◌≡◌, ◌⊎◌, inl, inr, ℕ, ◌≤◌, false, List, [], ◌++◌, refl, sym, ap, ◌∙◌, subst, append_assoc, append-nil, arith}
use Rattle.std.proofs.KnownBytes.{Appends-nil, Appends-trans, Consumes-nil, Consumes-trans}
use Rattle.std.specs.Io.KnownBytes.{Appends, Consumes, IsAtEnd}
use Rattle.plcs_base.specs.Count.{Rose}
use Rattle.synth_outside.specs.Sink.{AppendsFront}
use Rattle.synth_outside.specs.Source.{LosesAtMost}
use Rattle.synth_outside.specs.declared.faults.SinkFault.{SinkFault}
use Rattle.terminal_keys.specs.declared.ending.Ending.{Ending}
use Rattle.terminal_keys.specs.declared.ending.Ending.TheVariants.{Done, ReadFault, WriteFault, NoMemory, ReadLimit}
use Rattle.terminal_keys.specs.declared.passing.TheConstants.{MOST_READ}
use Rattle.terminal_keys.specs.PassedKeys.{PassesFront, PassesKeys, PassesRead, Streams}
use Rattle.terminal_keys.specs.Private.PassedSoFar.{GivesBehind, PassedSoFar, RingsLast, fault_ending}
use Rattle.terminal_keys.specs.Sequence.{bell, bells_of, is_whole, of_sequences, passed_of, passed_of_sequence}
use Rattle.terminal_keys.proofs.Cuts.{ended_passes}
use Rattle.terminal_keys.proofs.Fronts.{front_all, front_behind, front_more, front_whole}

-- ---- what bytes give

-- what some bytes give, and then some others
pub gives_in_turn : (given : List ℕ → List ℕ) (begun one other gives more between now : List ℕ)
    → GivesBehind given begun one gives between → GivesBehind given between other more now
    → GivesBehind given begun (one ++ other) (gives ++ more) now
gives_in_turn given begun one other gives more between now first second = λ rest.
    ap (of_sequences given begun) (append_assoc one other rest)
    ∙ first (other ++ rest)
    ∙ ap (λ all. gives ++ all) (second rest)
    ∙ sym (append_assoc gives more (of_sequences given now rest))

-- what bytes give where no byte comes behind them
pub gives_at_end : (given : List ℕ → List ℕ) (bytes gives now : List ℕ) → GivesBehind given [] bytes gives now
    → of_sequences given [] bytes ≡ gives ++ of_sequences given now []
gives_at_end given bytes gives now behind =
    ap (of_sequences given []) (sym (append-nil bytes)) ∙ behind []

-- ---- what was passed so far

-- no byte was read yet
pub none_so_far : (streams : Streams) → PassedSoFar streams streams []
none_so_far streams = record {
  bytes = [];
  passes = [];
  rings = [];
  read = Consumes-nil streams.left;
  passed = Appends-nil streams.passed;
  rung = Appends-nil streams.rung;
  all_passed = λ rest. refl;
  all_rung = λ rest. refl;
}

-- some more bytes were read, and what they give was written
pub more_so_far : (before between now : Streams) (begun begun_now bytes passes rings : List ℕ) → PassedSoFar before between begun
    → Consumes between.left now.left bytes → Appends between.passed now.passed passes → Appends between.rung now.rung rings
    → GivesBehind passed_of_sequence begun bytes passes begun_now → GivesBehind bell begun bytes rings begun_now
    → PassedSoFar before now begun_now
more_so_far before between now begun begun_now bytes passes rings so_far read are_passed are_rung all_passed all_rung = record {
  bytes = so_far.bytes ++ bytes;
  passes = so_far.passes ++ passes;
  rings = so_far.rings ++ rings;
  read = Consumes-trans before.left between.left now.left so_far.bytes bytes so_far.read read;
  passed = Appends-trans before.passed between.passed now.passed so_far.passes passes so_far.passed are_passed;
  rung = Appends-trans before.rung between.rung now.rung so_far.rings rings so_far.rung are_rung;
  all_passed = gives_in_turn passed_of_sequence [] so_far.bytes bytes so_far.passes passes begun begun_now so_far.all_passed all_passed;
  all_rung = gives_in_turn bell [] so_far.bytes bytes so_far.rings rings begun begun_now so_far.all_rung all_rung;
}

-- all that passes of the bytes so far
pub passes_all : (before now : Streams) (begun : List ℕ) → is_whole begun ≡ false → (so_far : PassedSoFar before now begun)
    → so_far.passes ≡ passed_of so_far.bytes
passes_all before now begun lacks so_far =
    sym (gives_at_end passed_of_sequence so_far.bytes so_far.passes begun so_far.all_passed
    ∙ ap (λ all. so_far.passes ++ all) (ended_passes begun lacks)
    ∙ append-nil so_far.passes)

-- ---- the endings

-- what follows only loses bytes: a read that failed, or none
pub read_ends : (before between now : Streams) (begun : List ℕ) → is_whole begun ≡ false → PassedSoFar before between begun
    → LosesAtMost between.left now.left MOST_READ → now.passed ≡ between.passed → now.rung ≡ between.rung
    → (bytes : List ℕ) × PassesRead before now bytes
read_ends before between now begun lacks so_far lost same_passed same_rung = (
  so_far.bytes,
  record {
    between = between.left;
    read = so_far.read;
    lost = lost;
    passed = subst (λ taken. Appends before.passed taken (passed_of so_far.bytes)) (sym same_passed)
        (subst (Appends before.passed between.passed) (passes_all before between begun lacks so_far) so_far.passed);
    rung = subst (λ taken. AppendsFront before.rung taken (bells_of so_far.bytes)) (sym same_rung)
        (subst (AppendsFront before.rung between.rung) (sym (gives_at_end bell so_far.bytes so_far.rings begun so_far.all_rung))
        (front_all before.rung between.rung so_far.rings (of_sequences bell begun []) so_far.rung));
  },
)

-- the same of weaker words
pub front_of_read : (before now : Streams) → (bytes : List ℕ) × PassesRead before now bytes
    → (bytes : List ℕ) × PassesFront before now bytes
front_of_read before now read = (
  read.0,
  record {
    between = read.1.between;
    read = read.1.read;
    lost = read.1.lost;
    passed = front_whole before.passed now.passed (passed_of read.0) read.1.passed;
    rung = read.1.rung;
  },
)

-- more bytes were read, but what they give couldn't be written
pub write_ends : (before between now : Streams) (begun begun_now bytes passes rings : List ℕ) → PassedSoFar before between begun
    → Consumes between.left now.left bytes
    → AppendsFront between.passed now.passed passes → AppendsFront between.rung now.rung rings
    → GivesBehind passed_of_sequence begun bytes passes begun_now → GivesBehind bell begun bytes rings begun_now
    → (bytes : List ℕ) × PassesFront before now bytes
write_ends before between now begun begun_now bytes passes rings so_far read passed_front rung_front all_passed all_rung =
    let both_passed = gives_at_end passed_of_sequence (so_far.bytes ++ bytes) (so_far.passes ++ passes) begun_now
    (gives_in_turn passed_of_sequence [] so_far.bytes bytes so_far.passes passes begun begun_now so_far.all_passed all_passed)
    ∙ append_assoc so_far.passes passes (of_sequences passed_of_sequence begun_now []) in
    let both_rung = gives_at_end bell (so_far.bytes ++ bytes) (so_far.rings ++ rings) begun_now
    (gives_in_turn bell [] so_far.bytes bytes so_far.rings rings begun begun_now so_far.all_rung all_rung)
    ∙ append_assoc so_far.rings rings (of_sequences bell begun_now []) in (
      so_far.bytes ++ bytes,
      record {
        between = now.left;
        read = Consumes-trans before.left between.left now.left so_far.bytes bytes so_far.read read;
        lost = ([], omega arith, Consumes-nil now.left);
        passed = subst (AppendsFront before.passed now.passed) (sym both_passed)
            (front_more before.passed between.passed now.passed so_far.passes passes (of_sequences passed_of_sequence begun_now []) so_far.passed passed_front);
        rung = subst (AppendsFront before.rung now.rung) (sym both_rung)
            (front_more before.rung between.rung now.rung so_far.rings rings (of_sequences bell begun_now []) so_far.rung rung_front);
      },
    )

-- a write of what one read gave failed
pub fault_ends : (fault : SinkFault) (before now : Streams) → (bytes : List ℕ) × PassesFront before now bytes
    → PassesKeys (fault_ending fault) before now
fault_ends SinkFault.Failed before now front = front
fault_ends SinkFault.OutOfMemory before now front = front

-- the last bell couldn't be rung
last_front : (before between now : Streams) (begun : List ℕ) → is_whole begun ≡ false → PassedSoFar before between begun
    → Consumes between.left now.left [] → now.passed ≡ between.passed → AppendsFront between.rung now.rung (of_sequences bell begun [])
    → (bytes : List ℕ) × PassesFront before now bytes
last_front before between now begun lacks so_far read same_passed rings = (
  so_far.bytes,
  record {
    between = now.left;
    read = subst (Consumes before.left now.left) (append-nil so_far.bytes)
        (Consumes-trans before.left between.left now.left so_far.bytes [] so_far.read read);
    lost = ([], omega arith, Consumes-nil now.left);
    passed = front_whole before.passed now.passed (passed_of so_far.bytes)
        (subst (λ taken. Appends before.passed taken (passed_of so_far.bytes)) (sym same_passed)
        (subst (Appends before.passed between.passed) (passes_all before between begun lacks so_far) so_far.passed));
    rung = subst (AppendsFront before.rung now.rung) (sym (gives_at_end bell so_far.bytes so_far.rings begun so_far.all_rung))
        (front_behind before.rung between.rung now.rung so_far.rings (of_sequences bell begun []) so_far.rung rings);
  },
)

-- the terminal's bytes were at their end, and the last bell was rung or couldn't be
pub end_ends : (ending : Ending) (before between now : Streams) (begun : List ℕ) → is_whole begun ≡ false → PassedSoFar before between begun
    → Consumes between.left now.left [] → IsAtEnd now.left → now.passed ≡ between.passed → RingsLast ending begun between.rung now.rung
    → PassesKeys ending before now
end_ends Done before between now begun lacks so_far read ended same_passed rings = (
  so_far.bytes,
  record {
    read = subst (Consumes before.left now.left) (append-nil so_far.bytes)
        (Consumes-trans before.left between.left now.left so_far.bytes [] so_far.read read);
    ended = ended;
    passed = subst (λ taken. Appends before.passed taken (passed_of so_far.bytes)) (sym same_passed)
        (subst (Appends before.passed between.passed) (passes_all before between begun lacks so_far) so_far.passed);
    rung = subst (Appends before.rung now.rung) (sym (gives_at_end bell so_far.bytes so_far.rings begun so_far.all_rung))
        (Appends-trans before.rung between.rung now.rung so_far.rings (of_sequences bell begun []) so_far.rung rings);
  },
)
end_ends WriteFault before between now begun lacks so_far read ended same_passed rings =
    last_front before between now begun lacks so_far read same_passed rings
end_ends NoMemory before between now begun lacks so_far read ended same_passed rings =
    last_front before between now begun lacks so_far read same_passed rings
end_ends ReadFault before between now begun lacks so_far read ended same_passed rings = absurd rings
end_ends ReadLimit before between now begun lacks so_far read ended same_passed rings = absurd rings

-- ---- the causes

-- where a count rose after a moment, it rose since one before
pub rose_since : (first before now : ℕ) → first ≤ before → Rose before now → Rose first now
rose_since first before now later rose = omega (arith, later, rose)

-- the same of two counts, of which one rose
pub either_rose : (a b c p q r : ℕ) → a ≤ b → p ≤ q → Rose b c ⊎ Rose q r → Rose a c ⊎ Rose p r
either_rose a b c p q r first second (inl rose) = inl (rose_since a b c first rose)
either_rose a b c p q r first second (inr rose) = inr (rose_since p q r second rose)

-- the fault that makes the ending WriteFault
pub write_fault : (fault : SinkFault) → fault_ending fault ≡ WriteFault → fault ≡ SinkFault.Failed
write_fault SinkFault.Failed same = refl
write_fault SinkFault.OutOfMemory same = absurd (cc)
