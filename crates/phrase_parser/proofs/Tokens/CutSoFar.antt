-- The part of a text that is cut already, token after token.
use Rattle.std.proofs.Common.{◌≡◌, ℕ, ◌+◌, ◌<◌, ◌≤◌, List, [], ◌∷◌, ◌++◌, length, map, drop, refl, sym, ap, ◌∙◌, subst, arith, Option, Some, None}
use Rattle.std.proofs.lemmas.List.{drop_at, drop-drop, length-append, length-drop, append_assoc, map_push, drop_all, append-nil}
use Rattle.std.proofs.lemmas.List.Sums.{prefix_len-le-length}
use Rattle.std.proofs.lemmas.Option.{same_Some, none-some}
use Rattle.plcs_grammar.specs.Token.{Token, LongestToken, NoToken}
use Rattle.plcs_base.specs.Byte.{is_blank}
use Rattle.plcs_grammar.specs.Cuts.{Piece, Cuts, blanks, unblanked}
use Rattle.phrase_parser.specs.declared.front.Front.{Front}
use Rattle.phrase_parser.specs.declared.token.Placed.{Placed}
use Rattle.phrase_parser.specs.Private.PlacedToken.{placed_of, kept_kind, AreTokens}
use Rattle.phrase_parser.specs.Private.Front.{front_of, placed_at}
use Rattle.phrase_parser.proofs.Tokens.FrontTokens.{found_tells}
use Rattle.phrase_parser.proofs.Tokens.OneCut.{found_first, none_found, token_not_empty}

-- the text is cut into the pieces that are kept, and goes on behind blanks at the place start
pub record CutSoFar (x : List ℕ) (placed : List Placed) (start : ℕ) : Type 0 where
  pub pieces : List Piece
  -- the place behind the last piece
  pub place : ℕ
  pub within : place ≤ length x
  pub at_start : start ≡ place + blanks (drop place x)
  pub same : placed ≡ map placed_of pieces
  pub goes_on : (rest : List Piece) (stop : Option ℕ) → Cuts rest place (drop place x) stop → Cuts (pieces ++ rest) 0 x stop

-- at first nothing is cut
pub nothing_cut : (x : List ℕ) (start : ℕ) → start ≡ 0 + blanks (drop 0 x) → CutSoFar x [] start
nothing_cut x start h = record {
  pieces = [];
  place = 0;
  within = omega arith;
  at_start = h;
  same = refl;
  goes_on = λ rest stop cuts. cuts;
}

-- the next token begins within the text
pub start_within : (x : List ℕ) (place start : ℕ) → place ≤ length x → start ≡ place + blanks (drop place x) → start ≤ length x
start_within x place start within h = omega (arith, h, prefix_len-le-length is_blank (drop place x), length-drop place x)

-- a token that is found is within the text, and not empty
pub front_within : (x : List ℕ) (front : Front) → front_of x ≡ Some front → (1 ≤ front.length) × (front.length ≤ length x)
front_within x front found =
    let told = found_tells x front found in (
      omega (arith, told.same_length, token_not_empty told.token told.bytes told.behind told.is_token),
      omega (arith, told.same_length, ap length told.whole, length-append told.bytes told.behind),
    )

placed_parts : (start : ℕ) (o : Option Front) (token : Placed) → placed_at start o ≡ Some token
    → (front : Front) × (o ≡ Some front) × (record { kind = front.kind; start = start; end = start + front.length } ≡ token)
placed_parts start None token h = absurd (none-some token h)
placed_parts start (Some front) token h =
    (front, refl, same_Some (record { kind = front.kind; start = start; end = start + front.length }) token h)

placed_none : (start : ℕ) (o : Option Front) → placed_at start o ≡ None → o ≡ None
placed_none start None h = refl
placed_none start (Some front) h = absurd (none-some (record { kind = front.kind; start = start; end = start + front.length }) (sym h))

-- a token that is found ends within the text, behind its start
pub token_within : (x : List ℕ) (start : ℕ) (token : Placed) → start ≤ length x
    → placed_at start (front_of (drop start x)) ≡ Some token
    → (start < token.end) × (token.end ≤ length x)
token_within x start token within h =
    let (front, found, same) = placed_parts start (front_of (drop start x)) token h in
    let size = front_within (drop start x) front found in
    let end = ap (λ (p : Placed). p.end) same in
    (omega (arith, size.0, end), omega (arith, size.1, end, within, length-drop start x))

same_placed : (token : Token) (front : Front) (start end : ℕ) (placed : Placed) → kept_kind token ≡ front.kind
    → end ≡ start + front.length
    → record { kind = front.kind; start = start; end = start + front.length } ≡ placed
    → placed ≡ placed_of (record { token = token; start = start; end = end })
same_placed token front start end placed kind_is end_is same =
    sym same ∙ ap (λ (n : ℕ). record { kind = front.kind; start = start; end = n }) (sym end_is)
    ∙ ap (λ (k : _). record { kind = k; start = start; end = end }) (sym kind_is)

-- one more token is cut
pub one_more_cut : (x : List ℕ) (placed : List Placed) (start : ℕ) (token : Placed) (next : ℕ) → CutSoFar x placed start
    → placed_at start (front_of (drop start x)) ≡ Some token → next ≡ token.end + blanks (drop token.end x)
    → CutSoFar x (placed ++ (token ∷ [])) next
one_more_cut x placed start token next so_far h after =
    let (front, found, same) = placed_parts start (front_of (drop start x)) token h in
    let told = found_tells (drop start x) front found in
    let bounds = token_within x start token (start_within x so_far.place start so_far.within so_far.at_start) h in
    let end = ap (λ (p : Placed). p.end) same in
    let piece : Piece = record { token = told.token; start = start; end = token.end } in
    let here : unblanked (drop so_far.place x) ≡ drop start x =
    drop-drop (blanks (drop so_far.place x)) so_far.place x ∙ ap (λ (n : ℕ). drop n x) (sym so_far.at_start) in
    let first : LongestToken (unblanked (drop so_far.place x)) told.token told.bytes told.behind =
    subst (λ (y : List ℕ). LongestToken y told.token told.bytes told.behind) (sym here) (found_first (drop start x) front found told) in
    let size : token.end ≡ start + length told.bytes = omega (arith, end, told.same_length) in
    let behind : drop token.end x ≡ told.behind =
    ap (λ (n : ℕ). drop n x) size ∙ sym (drop-drop (length told.bytes) start x)
    ∙ ap (λ (y : List ℕ). drop (length told.bytes) y) told.whole ∙ drop_at told.bytes told.behind (length told.bytes) refl in
    record {
      pieces = so_far.pieces ++ (piece ∷ []);
      place = token.end;
      within = bounds.1;
      at_start = after;
      same = ap (λ (l : List Placed). l ++ (token ∷ [])) so_far.same
          ∙ ap (λ (p : Placed). map placed_of so_far.pieces ++ (p ∷ [])) (same_placed told.token front start token.end token told.same_kind (sym end) same)
          ∙ sym (map_push placed_of so_far.pieces piece);
      goes_on = λ rest stop cuts.
          let further : Cuts rest token.end told.behind stop = subst (λ (y : List ℕ). Cuts rest token.end y stop) behind cuts in
          subst (λ (l : List Piece). Cuts l 0 x stop) (sym (append_assoc so_far.pieces (piece ∷ []) rest))
          (so_far.goes_on (piece ∷ rest) stop (told.bytes, told.behind, first, so_far.at_start, size, further));
    }

-- behind the last token stands nothing but blanks
pub all_cut : (x : List ℕ) (placed : List Placed) (start : ℕ) → CutSoFar x placed start → length x ≤ start
    → AreTokens placed None x
all_cut x placed start so_far past =
    let here : unblanked (drop so_far.place x) ≡ drop start x =
    drop-drop (blanks (drop so_far.place x)) so_far.place x ∙ ap (λ (n : ℕ). drop n x) (sym so_far.at_start) in (
      so_far.pieces ++ [],
      so_far.goes_on [] None (here ∙ drop_all start x past),
      so_far.same ∙ ap (map placed_of) (sym (append-nil so_far.pieces)),
    )

-- behind the last token no further one can be made
pub cut_stops : (x : List ℕ) (placed : List Placed) (start : ℕ) → CutSoFar x placed start → start < length x
    → placed_at start (front_of (drop start x)) ≡ None → AreTokens placed (Some start) x
cut_stops x placed start so_far before h =
    let here : unblanked (drop so_far.place x) ≡ drop start x =
    drop-drop (blanks (drop so_far.place x)) so_far.place x ∙ ap (λ (n : ℕ). drop n x) (sym so_far.at_start) in
    let none = none_found (drop start x) (placed_none start (front_of (drop start x)) h) in
    let more : unblanked (drop so_far.place x) ≡ [] → ⊥ = λ e. omega (arith, before, ap length (sym here ∙ e), length-drop start x) in (
      so_far.pieces ++ [],
      so_far.goes_on [] (Some start) (more, subst NoToken (sym here) none, so_far.at_start),
      so_far.same ∙ ap (map placed_of) (sym (append-nil so_far.pieces)),
    )
