-- The keys of a byte before others, for the reader's clauses.
use Rattle.std.proofs.Common.{◌≡◌, ℕ, Bool, false, ◌&&◌, eqb, cond, List, [], ◌∷◌, refl, ap}
use Rattle.synth_session.specs.declared.key.Key.TheVariants.{Other}
use Rattle.synth_top.specs.Keys.{begins_move, completed, key_of, keys, move_of}

-- a pair that begins no move is a key, and then what is behind it
keys_apart : (byte next : ℕ) (rest : List ℕ) → begins_move byte next ≡ false → keys (byte ∷ next ∷ rest) ≡ key_of byte ∷ keys (next ∷ rest)
unfolding keys
keys_apart byte next [] none = ap (λ b. cond b (Other ∷ []) (key_of byte ∷ keys (next ∷ []))) none
keys_apart byte next (last ∷ rest) none = ap (λ b. cond b (move_of last ∷ keys rest) (key_of byte ∷ keys (next ∷ last ∷ rest))) none

completed_apart : (byte next : ℕ) (rest : List ℕ) → begins_move byte next ≡ false
    → completed (byte ∷ next ∷ rest) ≡ key_of byte ∷ completed (next ∷ rest)
unfolding completed
completed_apart byte next [] none = ap (λ b. cond b [] (key_of byte ∷ completed (next ∷ []))) none
completed_apart byte next (last ∷ rest) none = ap (λ b. cond b (move_of last ∷ completed rest) (key_of byte ∷ completed (next ∷ last ∷ rest))) none

and_false : (a b : Bool) → a ≡ false → (a && b) ≡ false
and_false a b e = ap (λ c. c && b) e

-- a byte that isn't ESC is a key by itself
pub keys_first : (byte : ℕ) (rest : List ℕ) → eqb byte 27 ≡ false → keys (byte ∷ rest) ≡ key_of byte ∷ keys rest
unfolding keys
keys_first byte [] other = refl
keys_first byte (next ∷ rest) other = keys_apart byte next rest (and_false (eqb byte 27) (eqb next 91) other)

pub completed_first : (byte : ℕ) (rest : List ℕ) → eqb byte 27 ≡ false → completed (byte ∷ rest) ≡ key_of byte ∷ completed rest
unfolding completed
completed_first byte [] other = ap (λ b. cond b [] (key_of byte ∷ [])) other
completed_first byte (next ∷ rest) other = completed_apart byte next rest (and_false (eqb byte 27) (eqb next 91) other)

-- ESC is a key by itself before a byte that isn't [
pub keys_escape : (next : ℕ) (rest : List ℕ) → eqb next 91 ≡ false → keys (27 ∷ next ∷ rest) ≡ Other ∷ keys (next ∷ rest)
keys_escape next rest other = keys_apart 27 next rest other

pub completed_escape : (next : ℕ) (rest : List ℕ) → eqb next 91 ≡ false → completed (27 ∷ next ∷ rest) ≡ Other ∷ completed (next ∷ rest)
completed_escape next rest other = completed_apart 27 next rest other
