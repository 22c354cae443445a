-- Sequences that are cut off one after the other, for what bytes give behind a begun sequence.
use Rattle.std.proofs.Common.{◌≡◌, ◌<◌, ℕ, Bool, true, false, not, ◌&&◌, ◌||◌, cond, List, [], ◌∷◌, ◌++◌, length, nat_le, flat_map, arith, leb-false, refl, sym, ap, ◌∙◌, append_assoc, append-nil}
use Rattle.terminal_keys.specs.Private.PassedSoFar.{GivesMore}
use Rattle.terminal_keys.specs.Sequence.{bell, can_follow, is_whole, of_sequences, passed_of_sequence, passed_of_whole, sequences}

-- ---- sequences that lack bytes

or_first : (a b : Bool) → (a || b) ≡ false → a ≡ false
or_first true b none = none
or_first false b none = refl

-- a sequence that lacks bytes is shorter than the longest
pub lacking_short : (begun : List ℕ) → is_whole begun ≡ false → length begun < 32
unfolding is_whole
lacking_short begun lacks =
    let short : nat_le 32 (length begun) ≡ false =
    or_first _ _ lacks in
    leb-false 32 (length begun) short

-- ---- one byte more

-- no byte is no whole sequence
pub nothing_lacks : is_whole [] ≡ false
unfolding is_whole
nothing_lacks = refl

-- any byte begins a sequence
pub any_begins : (byte : ℕ) → can_follow [] byte ≡ true
unfolding can_follow
any_begins byte = refl

-- a byte that can follow goes on with the begun sequence
goes_on : (begun : List ℕ) (byte : ℕ) (rest : List ℕ) → is_whole begun ≡ false → can_follow begun byte ≡ true
    → sequences begun (byte ∷ rest) ≡ sequences (begun ++ byte ∷ []) rest
unfolding sequences
goes_on begun byte rest lacks follows =
    let belongs : (not (is_whole begun) && can_follow begun byte) ≡ true =
    ap (λ b. not b && can_follow begun byte) lacks ∙ follows in
    ap (λ b. cond b (sequences (begun ++ byte ∷ []) rest) (begun ∷ sequences (byte ∷ []) rest)) belongs

-- a byte that can't follow begins the next sequence
breaks_off : (begun : List ℕ) (byte : ℕ) (rest : List ℕ) → is_whole begun ≡ false → can_follow begun byte ≡ false
    → sequences begun (byte ∷ rest) ≡ begun ∷ sequences (byte ∷ []) rest
unfolding sequences
breaks_off begun byte rest lacks follows =
    let belongs : (not (is_whole begun) && can_follow begun byte) ≡ false =
    ap (λ b. not b && can_follow begun byte) lacks ∙ follows in
    ap (λ b. cond b (sequences (begun ++ byte ∷ []) rest) (begun ∷ sequences (byte ∷ []) rest)) belongs

-- the first byte of all begins a sequence
begins : (byte : ℕ) (rest : List ℕ) → sequences [] (byte ∷ rest) ≡ sequences (byte ∷ []) rest
begins byte rest = goes_on [] byte rest nothing_lacks (any_begins byte)

-- behind a whole sequence the next one begins
next_begins : (whole : List ℕ) (byte : ℕ) (rest : List ℕ) → is_whole whole ≡ true
    → sequences whole (byte ∷ rest) ≡ whole ∷ sequences [] (byte ∷ rest)
unfolding sequences
next_begins whole byte rest is =
    let belongs : (not (is_whole whole) && can_follow whole byte) ≡ false =
    ap (λ b. not b && can_follow whole byte) is in
    ap (λ b. cond b (sequences (whole ++ byte ∷ []) rest) (whole ∷ sequences (byte ∷ []) rest)) belongs
    ∙ ap (λ all. whole ∷ all) (sym (begins byte rest))

-- a whole sequence is cut off
is_cut : (whole rest : List ℕ) → is_whole whole ≡ true → sequences whole rest ≡ whole ∷ sequences [] rest
unfolding sequences
is_cut [] [] is = let never : true ≡ false = sym is ∙ nothing_lacks in absurd (cc)
is_cut (first ∷ more) [] is = refl
is_cut whole (byte ∷ rest) is = next_begins whole byte rest is

-- ---- what they give

-- the same of what the sequences give
given_on : (given : List ℕ → List ℕ) (begun : List ℕ) (byte : ℕ) (rest : List ℕ) → is_whole begun ≡ false → can_follow begun byte ≡ true
    → of_sequences given begun (byte ∷ rest) ≡ of_sequences given (begun ++ byte ∷ []) rest
given_on given begun byte rest lacks follows = ap (flat_map given) (goes_on begun byte rest lacks follows)

given_cut : (given : List ℕ → List ℕ) (whole rest : List ℕ) → is_whole whole ≡ true
    → of_sequences given whole rest ≡ given whole ++ of_sequences given [] rest
given_cut given whole rest is = ap (flat_map given) (is_cut whole rest is)

given_broken : (given : List ℕ → List ℕ) (begun : List ℕ) (byte : ℕ) (rest : List ℕ) → is_whole begun ≡ false → can_follow begun byte ≡ false
    → of_sequences given begun (byte ∷ rest) ≡ given begun ++ of_sequences given [] (byte ∷ rest)
given_broken given begun byte rest lacks follows =
    ap (flat_map given) (breaks_off begun byte rest lacks follows ∙ ap (λ all. begun ∷ all) (sym (begins byte rest)))

-- ---- what a byte gives behind a begun sequence

-- nothing, where the sequence then lacks bytes
pub more_lacking : (given : List ℕ → List ℕ) (begun : List ℕ) (byte : ℕ) (before : List ℕ) → is_whole begun ≡ false → can_follow begun byte ≡ true
    → GivesMore given begun (byte ∷ []) before before (begun ++ byte ∷ [])
more_lacking given begun byte before lacks follows = λ rest. ap (λ all. before ++ all) (given_on given begun byte rest lacks follows)

-- what the sequence gives, where it is whole then
pub more_whole : (given : List ℕ → List ℕ) (begun : List ℕ) (byte : ℕ) (before after : List ℕ)
    → is_whole begun ≡ false → can_follow begun byte ≡ true
    → is_whole (begun ++ byte ∷ []) ≡ true → after ≡ before ++ given (begun ++ byte ∷ [])
    → GivesMore given begun (byte ∷ []) before after []
more_whole given begun byte before after lacks follows is same = λ rest.
    ap (λ all. before ++ all) (given_on given begun byte rest lacks follows ∙ given_cut given (begun ++ byte ∷ []) rest is)
    ∙ sym (append_assoc before (given (begun ++ byte ∷ [])) (of_sequences given [] rest))
    ∙ ap (λ all. all ++ of_sequences given [] rest) (sym same)

-- what the begun sequence gives and then the next, where the byte can't follow
pub more_broken : (given : List ℕ → List ℕ) (begun : List ℕ) (byte : ℕ) (before between after now : List ℕ)
    → is_whole begun ≡ false → can_follow begun byte ≡ false → between ≡ before ++ given begun
    → GivesMore given [] (byte ∷ []) between after now → GivesMore given begun (byte ∷ []) before after now
more_broken given begun byte before between after now lacks follows same more = λ rest.
    ap (λ all. before ++ all) (given_broken given begun byte rest lacks follows)
    ∙ sym (append_assoc before (given begun) (of_sequences given [] (byte ∷ rest)))
    ∙ ap (λ all. all ++ of_sequences given [] (byte ∷ rest)) (sym same)
    ∙ more rest

-- nothing passes of a sequence that lacks bytes
pub lacking_passes : (begun : List ℕ) → is_whole begun ≡ false → passed_of_sequence begun ≡ []
lacking_passes begun lacks = ap (λ b. cond b (passed_of_whole begun) []) lacks

-- it rings
pub lacking_rings : (begun : List ℕ) → is_whole begun ≡ false → bell begun ≡ 7 ∷ []
lacking_rings begun lacks = ap (λ text. cond (nat_le (length text) 0) (7 ∷ []) []) (lacking_passes begun lacks)

-- so nothing more passes at the end
pub ended_passes : (begun : List ℕ) → is_whole begun ≡ false → of_sequences passed_of_sequence begun [] ≡ []
unfolding sequences
ended_passes [] lacks = refl
ended_passes (first ∷ rest) lacks = append-nil (passed_of_sequence (first ∷ rest)) ∙ lacking_passes (first ∷ rest) lacks

-- and no bell is rung where no sequence has begun
pub ended_silent : (begun : List ℕ) → length begun ≡ 0 → of_sequences bell begun [] ≡ []
unfolding sequences
ended_silent [] none = refl
ended_silent (first ∷ rest) none = absurd (omega (arith, none))

pub ended_rings : (begun : List ℕ) → 0 < length begun → is_whole begun ≡ false → of_sequences bell begun [] ≡ 7 ∷ []
unfolding sequences
ended_rings [] some lacks = absurd (omega (arith, some))
ended_rings (first ∷ rest) some lacks = append-nil (bell (first ∷ rest)) ∙ lacking_rings (first ∷ rest) lacks
