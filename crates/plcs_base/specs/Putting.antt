-- What follows for bytes that are put in turn: putting some and then others puts them joined.
use Rattle.std.proofs.Common.{ℕ, List, [], ◌∷◌, ◌++◌, ◌≡◌, subst}
use Rattle.plcs_base.specs.Put.{PutsAll, puts_nothing, puts_next, PutsInTurn}

-- putting some bytes in turn and then others puts them joined, which follows byte by byte
pub puts_append : {Out : Type 0} {puts : Out → ℕ → Out → Type 0} {before between after : Out} {first second : List ℕ}
    → PutsAll puts before first between → PutsAll puts between second after
    → PutsAll puts before (first ++ second) after
puts_append puts_nothing more = more
puts_append (puts_next one rest) more = puts_next one (puts_append rest more)

-- putting a byte puts the list of that byte
pub puts_one : {Out : Type 0} {puts : Out → ℕ → Out → Type 0} {before after : Out} {byte : ℕ}
    → puts before byte after → PutsAll puts before (byte ∷ []) after
puts_one one = puts_next one puts_nothing

-- putting bytes puts each list that is equal to them
pub puts_same : {Out : Type 0} {puts : Out → ℕ → Out → Type 0} {before after : Out} {bytes same : List ℕ}
    → bytes ≡ same → PutsAll puts before bytes after → PutsAll puts before same after
puts_same {puts = puts} {before = before} {after = after} e done =
    subst (λ bytes. PutsAll puts before bytes after) e done

-- putting bytes and then one more byte puts them joined
pub puts_behind : {Out : Type 0} {puts : Out → ℕ → Out → Type 0} {before between after : Out} {byte : ℕ}
    {bytes : List ℕ}
    → PutsAll puts before bytes between → puts between byte after → PutsAll puts before (bytes ++ (byte ∷ [])) after
puts_behind done one = puts_append done (puts_one one)

-- putting three lists of bytes, one after the other, puts them joined
pub puts_three : {Out : Type 0} {puts : Out → ℕ → Out → Type 0} {a b c d : Out} {first second third : List ℕ}
    → PutsAll puts a first b → PutsAll puts b second c → PutsAll puts c third d
    → PutsAll puts a (first ++ (second ++ third)) d
puts_three one two three = puts_append one (puts_append two three)

-- bytes that are put in one go are put in two parts, one after the other
pub puts_apart : {Out : Type 0} {puts : Out → ℕ → Out → Type 0} {before after : Out} (first second : List ℕ)
    → PutsAll puts before (first ++ second) after
    → (between : Out) × PutsAll puts before first between × PutsAll puts between second after
puts_apart {before = before} [] second done = (before, puts_nothing, done)
puts_apart (byte ∷ first) second (puts_next one rest) =
    let parts = puts_apart first second rest in (parts.0, puts_next one parts.1, parts.2)

-- several bytes are put in turn as the law `PutsInTurn` says, whatever they are put into
pub puts_in_turn : {Out : Type 0} (puts : Out → ℕ → Out → Type 0) → PutsInTurn puts
puts_in_turn puts before after first second =
    (λ parts. puts_append parts.1 parts.2, λ whole. puts_apart first second whole)
