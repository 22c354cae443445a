-- Runs of the machine: those that do not stop, with the levels that their tokens open, and those that do.
use Rattle.std.proofs.Common.{◌≡◌, refl, ℕ, List, [], ◌∷◌, ◌++◌, Option, Some, None, ap, ◌∙◌}
use Rattle.plcs_grammar.specs.Token.{Token}
use Rattle.phrase_parser.specs.Private.Machine.{ParseState, shift, shift_if, shift_all}
use Rattle.phrase_parser.specs.Private.MachineLevels.{opens, machine_levels}

-- the tokens lead from one state to another, and open the levels
pub data Goes : ParseState → List Token → List ℕ → ParseState → Type 0 where
  there : {s : ParseState} → Goes s [] [] s
  by : {s r z : ParseState} {k : Token} {ks : List Token} {l : ℕ} {ls : List ℕ}
      → shift s k ≡ Some r → opens s k ≡ l → Goes r ks ls z → Goes s (k ∷ ks) (l ∷ ls) z

-- a run leads on where another run goes on
pub joins : {a b c : ParseState} {xs ys : List Token} {ls ms : List ℕ} → Goes a xs ls b → Goes b ys ms c
    → Goes a (xs ++ ys) (ls ++ ms) c
joins there q = q
joins (by e o p) q = by e o (joins p q)

-- the state that a run comes to
pub goes_runs : {a z : ParseState} {ks : List Token} {ls : List ℕ} → Goes a ks ls z → shift_all ks (Some a) ≡ Some z
goes_runs there = refl
goes_runs (by {ks = ks} e o p) = ap (shift_all ks) e ∙ goes_runs p

-- the levels that the tokens of a run open
pub goes_opens : {a z : ParseState} {ks : List Token} {ls : List ℕ} → Goes a ks ls z → machine_levels ks (Some a) ≡ ls
goes_opens there = refl
goes_opens (by {s = s} {k = k} {ks = ks} {l = l} e o p) =
    ap (λ n. n ∷ machine_levels ks (shift s k)) o ∙ ap (λ r. l ∷ machine_levels ks r) e ∙ ap (λ r. l ∷ r) (goes_opens p)

-- running over tokens and then more is running over all of them
pub run_append : (xs ys : List Token) (s : Option ParseState) → shift_all (xs ++ ys) s ≡ shift_all ys (shift_all xs s)
run_append [] ys s = refl
run_append (x ∷ xs) ys s = run_append xs ys (shift_if s x)

-- a machine that stopped stays so
pub run_none : (ks : List Token) → shift_all ks None ≡ None
run_none [] = refl
run_none (k ∷ ks) = run_none ks
