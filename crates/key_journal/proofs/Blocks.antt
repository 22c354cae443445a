-- A journal's bytes as blocks, and what is recovered from them.
use Rattle.std.proofs.Common.{◌≡◌, ◌≢◌, ℕ, zero, suc, ◌+◌, ◌*◌, ◌≤◌, ◌<◌, ◌⊎◌, inl, inr, List, [], ◌∷◌, ◌++◌, length, take, drop, refl, sym, ap, ◌∙◌, arith, append_assoc, length-append, true, false, Bool, append-nil, length-drop, get_or, drop-cons, add-one}
use Rattle.std.specs.Prelude.{◌==◌, if◌then◌else◌}
use Rattle.std.proofs.lemmas.Grind.{common_steps}
use Rattle.std.proofs.lemmas.Bool.Decides.{nat_tests}
use Rattle.std.proofs.lemmas.List.{take-append-drop}
use Rattle.std.proofs.Math.Seq.{take-append_seam, drop-append-add}
use Rattle.key_journal.specs.Disk.{Torn, overwritten}
use Rattle.key_journal.specs.Recovered.{recovered}
use Rattle.key_journal.specs.Private.Stages.{blocks, IsShut, IsCut}

pub recovered_blocks : (keys tail : List ℕ) → recovered (blocks keys ++ tail) ≡ keys ++ recovered tail
recovered_blocks [] tail = refl
recovered_blocks (key ∷ keys) tail = ap (λ more. key ∷ more) (recovered_blocks keys tail)

pub length_blocks : (keys : List ℕ) → length (blocks keys) ≡ 2 * length keys
length_blocks [] = refl
length_blocks (key ∷ keys) = grind (arith, length_blocks keys)

pub blocks_append : (keys more : List ℕ) → blocks (keys ++ more) ≡ blocks keys ++ blocks more
blocks_append [] more = refl
blocks_append (key ∷ keys) more = ap (λ bytes. 1 ∷ key ∷ bytes) (blocks_append keys more)

-- nothing is recovered behind a gate that isn't open
pub shut_recovers : (gate : ℕ) (rest : List ℕ) → gate ≢ 1 → recovered (gate ∷ rest) ≡ []
shut_recovers gate [] shut = refl
shut_recovers gate (key ∷ rest) shut = grind (arith, common_steps)

-- nothing is recovered from one byte
pub cut_recovers : (rest : List ℕ) → length rest ≤ 1 → recovered rest ≡ []
cut_recovers [] short = refl
cut_recovers (gate ∷ []) short = refl
cut_recovers (gate ∷ key ∷ rest) short = absurd (omega arith)

-- one more block in front, where its gate is open
one_block : (is_open : Bool) (count gate key : ℕ) (rest found : List ℕ) → (is_open ≡ true → gate ≡ 1) →
    suc count ≤ length (if is_open then key ∷ found else []) →
    rest ≡ blocks (take count found) ++ drop (2 * count) rest →
    gate ∷ key ∷ rest ≡
    blocks (take (suc count) (if is_open then key ∷ found else [])) ++ drop (2 * suc count) (gate ∷ key ∷ rest)
one_block false count gate key rest found opens enough behind = absurd (omega arith)
one_block true count gate key rest found opens enough behind =
    let two : 2 * suc count ≡ suc (suc (2 * count)) = omega arith in
    rw (two, opens refl) (ap (λ (bytes : List ℕ). 1 ∷ key ∷ bytes) behind)

-- bytes from which keys are recovered begin with their blocks
pub blocks_of : (count : ℕ) (bytes : List ℕ) → count ≤ length (recovered bytes) →
    bytes ≡ blocks (take count (recovered bytes)) ++ drop (2 * count) bytes
blocks_of zero bytes enough = refl
blocks_of (suc count) [] enough = absurd (omega arith)
blocks_of (suc count) (gate ∷ []) enough = absurd (omega arith)
blocks_of (suc count) (gate ∷ key ∷ rest) enough =
    one_block (gate == 1) count gate key rest (recovered rest) (opened_at gate) enough
    (blocks_of count rest (enough_behind (gate == 1) count key (recovered rest) enough)) where
      opened_at : (gate : ℕ) → (gate == 1) ≡ true → gate ≡ 1
      opened_at gate = grind (arith, nat_tests)

      enough_behind : (is_open : Bool) (count key : ℕ) (found : List ℕ) →
          suc count ≤ length (if is_open then key ∷ found else []) → count ≤ length found
      enough_behind false count key found enough = absurd (omega arith)
      enough_behind true count key found enough = omega arith

-- keys are recovered up to a gate that isn't open
pub recovered_shut : (keys rest : List ℕ) (gate : ℕ) → gate ≢ 1 →
    recovered (blocks keys ++ gate ∷ rest) ≡ keys
recovered_shut keys rest gate shut =
    recovered_blocks keys (gate ∷ rest) ∙ ap (λ (more : List ℕ). keys ++ more) (shut_recovers gate rest shut) ∙ append-nil keys

-- and up to less than a block
pub recovered_cut : (keys rest : List ℕ) → length rest ≤ 1 → recovered (blocks keys ++ rest) ≡ keys
recovered_cut keys rest short =
    recovered_blocks keys rest ∙ ap (λ (more : List ℕ). keys ++ more) (cut_recovers rest short) ∙ append-nil keys

-- what a journal recovers that is shut after its keys
pub shut_count : (count : ℕ) (bytes : List ℕ) (shut : IsShut count bytes) → recovered bytes ≡ shut.keys
shut_count count bytes shut = ap recovered shut.whole ∙ recovered_shut shut.keys shut.rest shut.gate shut.shut

-- where the fronts are the same, an image begins as the bytes do
pub image_front : (at : ℕ) (front rest bytes image : List ℕ) → length front ≡ at →
    bytes ≡ front ++ rest → take at image ≡ take at bytes → image ≡ front ++ drop at image
image_front at front rest bytes image many whole same =
    let seam : take at bytes ≡ front =
    rw (whole, ← many) (take-append_seam front rest) in
    sym (take-append-drop at image) ∙ ap (λ (bytes : List ℕ). bytes ++ drop at image) (same ∙ seam)

-- the bytes with a piece written behind the front
pub written_front : (at : ℕ) (front rest bytes piece : List ℕ) → length front ≡ at →
    bytes ≡ front ++ rest → overwritten bytes at piece ≡ front ++ (piece ++ drop (length piece) rest)
written_front at front rest bytes piece many whole =
    rw (whole, ← many, take-append_seam front rest, drop-append-add front rest (length piece))
    (append_assoc front piece (drop (length piece) rest))

-- bytes with a key that stands behind its gate, which isn't open, and a gate behind it
pub record HasKey (count key : ℕ) (bytes : List ℕ) : Type 0 where
  pub keys : List ℕ
  pub gate : ℕ
  pub rest : List ℕ
  pub whole : bytes ≡ blocks keys ++ gate ∷ key ∷ 0 ∷ rest
  pub many : length keys ≡ count
  pub shut : gate ≢ 1

-- the blocks and the gate behind them, as a front
gate_length : (count gate : ℕ) (keys : List ℕ) → length keys ≡ count →
    length (blocks keys ++ gate ∷ []) ≡ 2 * count + 1
gate_length count gate keys many = grind (arith, length-append, length_blocks keys)

-- a key that is written behind its gate in part: the same keys are recovered
pub torn_key : (count : ℕ) (bytes image : List ℕ) → IsShut count bytes →
    Torn (2 * count + 1) 2 bytes image → recovered image ≡ recovered bytes
torn_key count bytes image shut torn =
    let whole : bytes ≡ (blocks shut.keys ++ shut.gate ∷ []) ++ shut.rest =
    shut.whole ∙ sym (append_assoc (blocks shut.keys) (shut.gate ∷ []) shut.rest) in
    let front : image ≡ (blocks shut.keys ++ shut.gate ∷ []) ++ drop (2 * count + 1) image =
    image_front (2 * count + 1) (blocks shut.keys ++ shut.gate ∷ []) shut.rest bytes image
    (gate_length count shut.gate shut.keys shut.many) whole torn.front in
    let found : recovered image ≡ shut.keys =
    ap recovered (front ∙ append_assoc (blocks shut.keys) (shut.gate ∷ []) (drop (2 * count + 1) image)) ∙
    recovered_shut shut.keys (drop (2 * count + 1) image) shut.gate shut.shut in
    found ∙ sym (shut_count count bytes shut)

-- a key that is written behind its gate
pub written_key : (count key : ℕ) (bytes : List ℕ) (shut : IsShut count bytes) →
    (has : HasKey count key (overwritten bytes (2 * count + 1) (key ∷ 0 ∷ []))) × (has.keys ≡ shut.keys)
written_key count key bytes shut =
    let whole : bytes ≡ (blocks shut.keys ++ shut.gate ∷ []) ++ shut.rest =
    shut.whole ∙ sym (append_assoc (blocks shut.keys) (shut.gate ∷ []) shut.rest) in (
      record {
        keys = shut.keys;
        gate = shut.gate;
        rest = drop 2 shut.rest;
        whole =
            written_front (2 * count + 1) (blocks shut.keys ++ shut.gate ∷ []) shut.rest bytes (key ∷ 0 ∷ [])
            (gate_length count shut.gate shut.keys shut.many) whole ∙
            append_assoc (blocks shut.keys) (shut.gate ∷ []) (key ∷ 0 ∷ drop 2 shut.rest);
        many = shut.many;
        shut = shut.shut;
      },
      refl,
    )

-- where one byte behind the front is torn, all but that byte is as before
torn_byte : (at byte : ℕ) (front rest bytes image : List ℕ) → length front ≡ at →
    bytes ≡ front ++ byte ∷ rest → Torn at 1 bytes image → (torn : ℕ) × (image ≡ front ++ torn ∷ rest)
torn_byte at byte front rest bytes image many whole torn =
    let begins : image ≡ front ++ drop at image =
    image_front at front (byte ∷ rest) bytes image many whole torn.front in
    let long : at < length image =
    let sum : length bytes ≡ at + (1 + length rest) = rw (whole, length-append, many) (omega arith) in
    omega (arith, torn.no_shorter) in
    let behind : drop (at + 1) image ≡ rest =
    torn.back ∙ rw (whole, ← many) (drop-append-add front (byte ∷ rest) 1) in
    let first : drop at image ≡ get_or image at 0 ∷ drop (suc at) image = drop-cons image at 0 long in
    let same : drop (suc at) image ≡ rest = rw (← add-one) behind in
    (get_or image at 0, begins ∙ ap (λ (more : List ℕ). front ++ more) (first ∙ ap (λ (more : List ℕ). get_or image at 0 ∷ more) same))

-- a gate that is opened in part: the key behind it is recovered, or isn't
pub torn_gate : (count key : ℕ) (bytes image : List ℕ) (has : HasKey count key bytes) →
    Torn (2 * count) 1 bytes image →
    (recovered image ≡ has.keys) ⊎ (recovered image ≡ has.keys ++ key ∷ [])
torn_gate count key bytes image has torn =
    let byte : (gate : ℕ) × (image ≡ blocks has.keys ++ gate ∷ key ∷ 0 ∷ has.rest) =
    torn_byte (2 * count) has.gate (blocks has.keys) (key ∷ 0 ∷ has.rest) bytes image
    (length_blocks has.keys ∙ ap (λ (n : ℕ). 2 * n) has.many) has.whole torn in
    opened (byte.0 == 1) (ap recovered byte.1 ∙ recovered_blocks has.keys (byte.0 ∷ key ∷ 0 ∷ has.rest)) where
      zero_shut : (rest : List ℕ) → recovered (0 ∷ rest) ≡ []
      zero_shut [] = refl
      zero_shut (other ∷ rest) = refl

      opened : (is_open : Bool) → recovered image ≡ has.keys ++ (if is_open then key ∷ recovered (0 ∷ has.rest) else []) →
          (recovered image ≡ has.keys) ⊎ (recovered image ≡ has.keys ++ key ∷ [])
      opened true found = inr (found ∙ ap (λ (more : List ℕ). has.keys ++ key ∷ more) (zero_shut has.rest))
      opened false found = inl (found ∙ append-nil has.keys)

-- what is recovered while the key isn't behind an open gate yet
pub key_recovers : (count key : ℕ) (bytes : List ℕ) (has : HasKey count key bytes) →
    recovered bytes ≡ has.keys
key_recovers count key bytes has =
    ap recovered has.whole ∙ recovered_shut has.keys (key ∷ 0 ∷ has.rest) has.gate has.shut

-- a gate that is opened
pub written_gate : (count key : ℕ) (bytes : List ℕ) (has : HasKey count key bytes) →
    (shut : IsShut (count + 1) (overwritten bytes (2 * count) (1 ∷ []))) × (shut.keys ≡ has.keys ++ key ∷ [])
written_gate count key bytes has =
    let many : length (blocks has.keys) ≡ 2 * count =
    length_blocks has.keys ∙ ap (λ (n : ℕ). 2 * n) has.many in
    let open_gate : overwritten bytes (2 * count) (1 ∷ []) ≡ blocks has.keys ++ 1 ∷ key ∷ 0 ∷ has.rest =
    written_front (2 * count) (blocks has.keys) (has.gate ∷ key ∷ 0 ∷ has.rest) bytes (1 ∷ []) many has.whole in (
      record {
        keys = has.keys ++ key ∷ [];
        gate = 0;
        rest = has.rest;
        whole = open_gate ∙ sym (rw (blocks_append has.keys (key ∷ [])) (append_assoc (blocks has.keys) (1 ∷ key ∷ []) (0 ∷ has.rest)));
        many = rw (length-append, has.many) refl;
        shut = λ never. cc;
      },
      refl,
    )

-- a gate that is shut behind the last whole block, in part: the same keys are recovered
pub torn_cut : (count : ℕ) (bytes image : List ℕ) → IsCut count bytes → Torn (2 * count) 1 bytes image →
    recovered image ≡ recovered bytes
torn_cut count bytes image cut torn =
    let many : length (blocks cut.keys) ≡ 2 * count =
    length_blocks cut.keys ∙ ap (λ (n : ℕ). 2 * n) cut.many in
    let begins : image ≡ blocks cut.keys ++ drop (2 * count) image =
    image_front (2 * count) (blocks cut.keys) cut.rest bytes image many cut.whole torn.front in
    let total : length bytes ≡ 2 * count + length cut.rest = rw (cut.whole, length-append, many) refl in
    let short : length (drop (2 * count) image) ≤ 1 =
    omega (arith, torn.no_longer, total, cut.short, length-drop (2 * count) image) in
    ap recovered begins ∙ recovered_cut cut.keys (drop (2 * count) image) short ∙
    sym (ap recovered cut.whole ∙ recovered_cut cut.keys cut.rest cut.short)

-- and whole
pub written_cut : (count : ℕ) (bytes : List ℕ) → IsCut count bytes →
    IsShut count (overwritten bytes (2 * count) (0 ∷ []))
written_cut count bytes cut =
    let many : length (blocks cut.keys) ≡ 2 * count =
    length_blocks cut.keys ∙ ap (λ (n : ℕ). 2 * n) cut.many in
    record {
      keys = cut.keys;
      gate = 0;
      rest = drop 1 cut.rest;
      whole = written_front (2 * count) (blocks cut.keys) cut.rest bytes (0 ∷ []) many cut.whole;
      many = cut.many;
      shut = λ never. cc;
    }

-- with a key there, a journal whose first byte is torn has no key, or the same ones
pub torn_first : (bytes image : List ℕ) → 1 ≤ length (recovered bytes) → Torn 0 1 bytes image →
    (recovered image ≡ []) ⊎ (recovered image ≡ recovered bytes)
torn_first [] image enough torn = absurd (omega arith)
torn_first (gate ∷ []) image enough torn = absurd (omega arith)
torn_first (gate ∷ key ∷ rest) image enough torn =
    let byte : (first : ℕ) × (image ≡ first ∷ key ∷ rest) =
    torn_byte 0 gate [] (key ∷ rest) (gate ∷ key ∷ rest) image refl refl torn in
    opened (byte.0 == 1) (gate == 1) (ap recovered byte.1) enough where
      opened : (is_open was_open : Bool) →
          recovered image ≡ (if is_open then key ∷ recovered rest else []) →
          1 ≤ length (if was_open then key ∷ recovered rest else []) →
          (recovered image ≡ []) ⊎ (recovered image ≡ (if was_open then key ∷ recovered rest else []))
      opened false was_open found enough = inl found
      opened true false found enough = absurd (omega arith)
      opened true true found enough = inr found
