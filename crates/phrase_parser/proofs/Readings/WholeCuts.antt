-- Every text is cut into tokens, up to its end or up to a place where no token can be made.
use Rattle.std.proofs.Common.{◌≡◌, inl, inr, refl, ℕ, zero, suc, ◌+◌, ◌<◌, ◌≤◌, List, [], ◌∷◌, ◌++◌, length, drop, Option, Some, None, arith}
use Rattle.std.proofs.lemmas.Bool.{cases_lt}
use Rattle.plcs_grammar.specs.Cuts.{Piece, Cuts, blanks}
use Rattle.phrase_parser.specs.declared.token.Placed.{Placed}
use Rattle.phrase_parser.specs.Private.PlacedToken.{AreTokens}
use Rattle.phrase_parser.specs.Private.Front.{front_of, placed_at}
use Rattle.phrase_parser.proofs.Tokens.CutSoFar.{CutSoFar, nothing_cut, start_within, token_within, one_more_cut, all_cut, cut_stops}

-- the text is cut into some pieces
abbrev pub IsCut : List ℕ → Type 0
IsCut x = (placed : List Placed) × (stop : Option ℕ) × AreTokens placed stop x

-- the text is cut from here on, where it is from behind the token that is found
cut_at_token : (x : List ℕ) (placed : List Placed) (start : ℕ) (found : Option Placed) → CutSoFar x placed start → start < length x
    → placed_at start (front_of (drop start x)) ≡ found
    → ((more : List Placed) (next : ℕ) → CutSoFar x more next → start < next → IsCut x) → IsCut x
cut_at_token x placed start None so_far before h further = (placed, Some start, cut_stops x placed start so_far before h)
cut_at_token x placed start (Some token) so_far before h further =
    let within = token_within x start token (start_within x so_far.place start so_far.within so_far.at_start) h in
    let next = token.end + blanks (drop token.end x) in
    further (placed ++ (token ∷ [])) next (one_more_cut x placed start token next so_far h refl) (omega (arith, within.0))

-- the text is cut from here on, where no more than so many bytes are left
cut_on : (left : ℕ) (x : List ℕ) (placed : List Placed) (start : ℕ) → CutSoFar x placed start → length x ≤ start + left → IsCut x
cut_on zero x placed start so_far h = (placed, None, all_cut x placed start so_far (omega (arith, h)))
cut_on (suc left) x placed start so_far h =
    elim (cases_lt start (length x)) [
      | inl before ↦
          cut_at_token x placed start (placed_at start (front_of (drop start x))) so_far before refl
          (λ more next cut further. cut_on left x more next cut (omega (arith, h, further)))
      | inr past ↦ (placed, None, all_cut x placed start so_far past)
    ]

-- every text is cut
pub cut_whole : (x : List ℕ) → (pieces : List Piece) × (stop : Option ℕ) × Cuts pieces 0 x stop
cut_whole x =
    let start = 0 + blanks (drop 0 x) in
    let cut = cut_on (length x) x [] start (nothing_cut x start refl) (omega arith) in
    (cut.2.0, cut.1, cut.2.1)
