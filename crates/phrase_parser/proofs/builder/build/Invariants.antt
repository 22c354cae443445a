use Rattle.std.proofs.Common.{◌≡◌, map, drop, Some}
use Rattle.phrase_parser.specs.Private.Machine.{start_state, shift_all}
use Rattle.phrase_parser.specs.Private.TokenIn.{token_in}
use Rattle.phrase_parser.specs.Private.Views.{state_of}
use Rattle.phrase_parser.proofs.builder.build.Given as goal

abbrev pub invariant-loop-token : goal.invariant-loop-token
invariant-loop-token l =
    shift_all (map (token_in l.text) (drop l.token-index l.tokens)) (Some (state_of l.state))
    ≡ shift_all (map (token_in l.text) l.tokens) (start_state l.fn.category)
