-- What a step of the builder fails with, the whole fails with.
use Rattle.std.proofs.Common.{◌≡◌, ℕ, ◌<◌, ◌+◌, List, map, drop, length, get_or, Option, Some, sym, ap, ◌∙◌}
use Rattle.std.proofs.lemmas.List.{at_drop_more}
use Rattle.phrase_parser.specs.declared.not_read.NotRead.{NotRead}
use Rattle.phrase_parser.specs.declared.not_read.NotRead.TheVariants.{OutOfMemory, Refused}
use Rattle.phrase_parser.specs.NotRead.{Fails}
use Rattle.plcs_grammar.specs.Token.{Token}
use Rattle.phrase_parser.specs.declared.token.Placed.{Placed}
use Rattle.phrase_parser.specs.Private.Machine.{ParseState, shift, shift_all, phrase_of_if}
use Rattle.phrase_parser.proofs.Machine.MachineRuns.{run_none}

-- what fails at a state fails after all tokens
pub fails_behind : (e : NotRead) (tokens : List Token) (s : Option ParseState) → Fails e s → Fails e (phrase_of_if (shift_all tokens s))
fails_behind OutOfMemory tokens s h = tt
fails_behind Refused tokens s h = ap (λ (o : Option ParseState). phrase_of_if (shift_all tokens o)) h ∙ ap phrase_of_if (run_none tokens)

-- what fails at a token fails for all tokens
pub fails_at : (e : NotRead) (f : Placed → Token) (tokens : List Placed) (i : ℕ) (d : Placed) (s : ParseState) (first : Option ParseState)
    → i < length tokens
    → shift_all (map f (drop i tokens)) (Some s) ≡ shift_all (map f tokens) first
    → Fails e (shift s (f (get_or tokens i d)))
    → Fails e (phrase_of_if (shift_all (map f tokens) first))
fails_at OutOfMemory f tokens i d s first lt same h = tt
fails_at Refused f tokens i d s first lt same h =
    let here : shift_all (map f (drop i tokens)) (Some s) ≡ shift_all (map f (drop (i + 1) tokens)) (shift s (f (get_or tokens i d))) =
    at_drop_more (λ (rest : List Placed). shift_all (map f rest) (Some s)) tokens i d lt in
    ap phrase_of_if (sym same ∙ here ∙ ap (shift_all (map f (drop (i + 1) tokens))) h ∙ run_none (map f (drop (i + 1) tokens)))
