-- A text has one longest token at its front, and is cut in one way.
use Rattle.std.proofs.Common.{◌≡◌, ℕ, ◌≤◌, true, false, List, [], ◌∷◌, ◌++◌, length, take, drop, refl, sym, ap, ◌∙◌, subst, inl, inr, arith, Option, Some, None}
use Rattle.std.proofs.lemmas.Bool.{false≢true}
use Rattle.std.proofs.lemmas.Option.{same_Some}
use Rattle.std.proofs.lemmas.List.{take_at, drop_at, length-append}
use Rattle.plcs_base.specs.Name.{is_word, IsName}
use Rattle.plcs_grammar.specs.declared.sign.Sign.{Sign}
use Rattle.plcs_grammar.specs.Sign.{sign_bytes}
use Rattle.plcs_grammar.specs.Token.{Token, IsToken, LongestToken, NoToken}
use Rattle.plcs_grammar.specs.Cuts.{Piece, Cuts, unblanked}
use Rattle.phrase_parser.specs.declared.front.Front.{Front}
use Rattle.phrase_parser.specs.declared.token.TokenKind.{TokenKind}
use Rattle.phrase_parser.specs.Private.PlacedToken.{kept_kind}
use Rattle.phrase_parser.specs.Private.Front.{front_of}
use Rattle.phrase_parser.proofs.Tokens.FrontTokens.{Tells, found_tells}
use Rattle.phrase_parser.proofs.Tokens.LongestFront.{Covers, token_covered}
use Rattle.phrase_parser.proofs.Tokens.Words.{name_word, keyword_word}
use Rattle.phrase_parser.proofs.Tokens.ConstantValues.{one_value}

covers_at : (k : TokenKind) (n : ℕ) (front : Front) → Covers k n (Some front) → n ≤ front.length
covers_at k n front (inl less) = omega (arith, less)
covers_at k n front (inr same) = omega (arith, same.0)

covered_at : (x : List ℕ) (o : Option Front) → front_of x ≡ o → (token : Token) (bytes behind : List ℕ) → x ≡ bytes ++ behind
    → IsToken token bytes behind → Covers (kept_kind token) (length bytes) o
covered_at x o found token bytes behind whole is =
    subst (λ (p : Option Front). Covers (kept_kind token) (length bytes) p) (ap front_of (sym whole) ∙ found) (token_covered token bytes behind is)

-- the front that is found is that of the longest token
pub found_first : (x : List ℕ) (front : Front) → front_of x ≡ Some front → (t : Tells x front) → LongestToken x t.token t.bytes t.behind
found_first x front found t = record {
  whole = t.whole;
  is_token = t.is_token;
  longest = λ other ahead back cut is.
      let at_most : length ahead ≤ front.length =
      covers_at (kept_kind other) (length ahead) front (covered_at x (Some front) found other ahead back cut is) in
      omega (arith, at_most, t.same_length);
}

-- where no front is found, no token can be made
pub none_found : (x : List ℕ) → front_of x ≡ None → NoToken x
none_found x found token bytes behind whole is = covered_at x None found token bytes behind whole is

empty_no_sign : (s : Sign) → [] ≡ sign_bytes s → ⊥
empty_no_sign Sign.Plus h = absurd (omega (arith, ap length h))
empty_no_sign Sign.Minus h = absurd (omega (arith, ap length h))
empty_no_sign Sign.Times h = absurd (omega (arith, ap length h))
empty_no_sign Sign.Divide h = absurd (omega (arith, ap length h))
empty_no_sign Sign.Join h = absurd (omega (arith, ap length h))
empty_no_sign Sign.Equal h = absurd (omega (arith, ap length h))
empty_no_sign Sign.NotEqual h = absurd (omega (arith, ap length h))
empty_no_sign Sign.Less h = absurd (omega (arith, ap length h))
empty_no_sign Sign.LessEqual h = absurd (omega (arith, ap length h))
empty_no_sign Sign.Greater h = absurd (omega (arith, ap length h))
empty_no_sign Sign.GreaterEqual h = absurd (omega (arith, ap length h))
empty_no_sign Sign.Ampersand h = absurd (omega (arith, ap length h))
empty_no_sign Sign.Bar h = absurd (omega (arith, ap length h))
empty_no_sign Sign.Caret h = absurd (omega (arith, ap length h))
empty_no_sign Sign.OpenParenthesis h = absurd (omega (arith, ap length h))
empty_no_sign Sign.CloseParenthesis h = absurd (omega (arith, ap length h))
empty_no_sign Sign.Comma h = absurd (omega (arith, ap length h))

empty_no_token : (token : Token) (behind : List ℕ) → IsToken token [] behind → ⊥
empty_no_token (Token.name n) behind is = false≢true (name_word [] (subst IsName (sym is.0) is.1))
empty_no_token (Token.keyword word) behind is = false≢true (ap is_word is.0 ∙ keyword_word word is.1)
empty_no_token (Token.number n) behind is = omega (arith, is.0.0)
empty_no_token (Token.text value) behind is = omega (arith, ap length is.0)
empty_no_token (Token.bit false) behind is = absurd cc
empty_no_token (Token.bit true) behind is = absurd cc
empty_no_token (Token.sign s) behind is = empty_no_sign s is

-- no token is empty
pub token_not_empty : (token : Token) (bytes behind : List ℕ) → IsToken token bytes behind → 1 ≤ length bytes
token_not_empty token [] behind is = absurd (empty_no_token token behind is)
token_not_empty token (byte ∷ rest) behind is = omega arith

-- bytes are one token of a kind
pub one_token : (j k : Token) (bytes behind : List ℕ) → IsToken j bytes behind → IsToken k bytes behind
    → kept_kind j ≡ kept_kind k → j ≡ k
one_token (Token.name m) (Token.name n) bytes behind is so same = ap Token.name (sym is.0 ∙ so.0)
one_token (Token.name m) k bytes behind is so same = absurd cc
one_token (Token.keyword m) (Token.keyword n) bytes behind is so same = ap Token.keyword (sym is.0 ∙ so.0)
one_token (Token.keyword m) k bytes behind is so same = absurd cc
one_token (Token.number m) (Token.number n) bytes behind is so same = ap Token.number (sym is.1 ∙ so.1)
one_token (Token.number m) k bytes behind is so same = absurd cc
one_token (Token.text v) (Token.text w) bytes behind is so same = ap Token.text (one_value v w (sym is.0 ∙ so.0))
one_token (Token.text v) k bytes behind is so same = absurd cc
one_token (Token.bit b) (Token.bit c) bytes behind is so same = let e : b ≡ c = cc in ap Token.bit e
one_token (Token.bit b) k bytes behind is so same = absurd cc
one_token (Token.sign s) (Token.sign t) bytes behind is so same = let e : s ≡ t = cc in ap Token.sign e
one_token (Token.sign s) k bytes behind is so same = absurd cc

covers_exactly : (k : TokenKind) (n : ℕ) (front : Front) → Covers k n (Some front) → front.length ≤ n
    → (n ≡ front.length) × (k ≡ front.kind)
covers_exactly k n front (inl less) at_most = absurd (omega (arith, less, at_most))
covers_exactly k n front (inr same) at_most = same

same_front : (k : TokenKind) (n : ℕ) (front : Front) → n ≡ front.length → k ≡ front.kind
    → front ≡ record { kind = k; length = n }
same_front k n front size same =
    ap (λ (t : TokenKind). record { kind = t; length = front.length }) (sym same) ∙ ap (λ (m : ℕ). record { kind = k; length = m }) (sym size)

found_is : (x : List ℕ) (token : Token) (bytes behind : List ℕ) (o : Option Front) → front_of x ≡ o → LongestToken x token bytes behind
    → o ≡ Some (record { kind = kept_kind token; length = length bytes })
found_is x token bytes behind None found first = absurd (covered_at x None found token bytes behind first.whole first.is_token)
found_is x token bytes behind (Some front) found first =
    let t = found_tells x front found in
    let at_most : length t.bytes ≤ length bytes = first.longest t.token t.bytes t.behind t.whole t.is_token in
    let same = covers_exactly (kept_kind token) (length bytes) front (covered_at x (Some front) found token bytes behind first.whole first.is_token)
    (omega (arith, at_most, t.same_length)) in
    ap (λ (f : Front). Some f) (same_front (kept_kind token) (length bytes) front same.0 same.1)

-- the longest token has the front that is found
pub first_found : (x : List ℕ) (token : Token) (bytes behind : List ℕ) → LongestToken x token bytes behind
    → front_of x ≡ Some (record { kind = kept_kind token; length = length bytes })
first_found x token bytes behind first = found_is x token bytes behind (front_of x) refl first

same_cut : (w v y z : List ℕ) → length w ≡ length v → w ++ y ≡ v ++ z → (w ≡ v) × (y ≡ z)
same_cut w v y z size same = (
  sym (take_at w y (length v) size) ∙ ap (λ (x : List ℕ). take (length v) x) same ∙ take_at v z (length v) refl,
  sym (drop_at w y (length v) size) ∙ ap (λ (x : List ℕ). drop (length v) x) same ∙ drop_at v z (length v) refl,
)

-- a text has one longest token at its front
pub one_first : (x : List ℕ) (j k : Token) (w v y z : List ℕ) → LongestToken x j w y → LongestToken x k v z → (j ≡ k) × (w ≡ v) × (y ≡ z)
one_first x j k w v y z a b =
    let below : length w ≤ length v = b.longest j w y a.whole a.is_token in
    let above : length v ≤ length w = a.longest k v z b.whole b.is_token in
    let size : length w ≡ length v = omega arith in
    let cut = same_cut w v y z size (sym a.whole ∙ b.whole) in
    let found = same_Some (record { kind = kept_kind j; length = length w }) (record { kind = kept_kind k; length = length v })
    (sym (first_found x j w y a) ∙ first_found x k v z b) in
    let there : IsToken k w y =
    subst (λ (t : List ℕ). IsToken k w t) (sym cut.1) (subst (λ (u : List ℕ). IsToken k u z) (sym cut.0) b.is_token) in
    (one_token j k w y a.is_token there (ap (λ (f : Front). f.kind) found), cut.0, cut.1)

same_piece : (p q : Piece) → p.token ≡ q.token → p.start ≡ q.start → p.end ≡ q.end → p ≡ q
same_piece p q a b c =
    ap (λ (t : Token). record { token = t; start = p.start; end = p.end }) a
    ∙ ap (λ (n : ℕ). record { token = q.token; start = n; end = p.end }) b
    ∙ ap (λ (n : ℕ). record { token = q.token; start = q.start; end = n }) c

no_first_at_end : (x : List ℕ) (token : Token) (bytes behind : List ℕ) → x ≡ [] → LongestToken x token bytes behind → ⊥
no_first_at_end x token bytes behind end first =
    omega (arith, token_not_empty token bytes behind first.is_token, ap length (sym end ∙ first.whole), length-append bytes behind)

-- a text is cut in one way
pub one_cut : (ps qs : List Piece) (place : ℕ) (x : List ℕ) (stop other : Option ℕ) → Cuts ps place x stop
    → Cuts qs place x other
    → (ps ≡ qs) × (stop ≡ other)
one_cut [] [] place x None None a b = (refl, refl)
one_cut [] [] place x None (Some t) a b = absurd (b.0 a)
one_cut [] [] place x (Some s) None a b = absurd (a.0 b)
one_cut [] [] place x (Some s) (Some t) a b = (refl, ap (λ (n : ℕ). Some n) (a.2 ∙ sym b.2))
one_cut [] (q ∷ qs) place x None other a (w, y, first, start, end, rest) = absurd (no_first_at_end (unblanked x) q.token w y a first)
one_cut [] (q ∷ qs) place x (Some s) other a (w, y, first, start, end, rest) = absurd (a.1 q.token w y first.whole first.is_token)
one_cut (p ∷ ps) [] place x stop None (w, y, first, start, end, rest) b = absurd (no_first_at_end (unblanked x) p.token w y b first)
one_cut (p ∷ ps) [] place x stop (Some t) (w, y, first, start, end, rest) b = absurd (b.1 p.token w y first.whole first.is_token)
one_cut (p ∷ ps) (q ∷ qs) place x stop other (w, y, first, start, end, rest) (v, z, second, begin, finish, more) =
    let same = one_first (unblanked x) p.token q.token w v y z first second in
    let starts : p.start ≡ q.start = start ∙ sym begin in
    let ends : p.end ≡ q.end = omega (arith, end, finish, starts, ap length same.1) in
    let there : Cuts qs p.end y other =
    subst (λ (n : ℕ). Cuts qs n y other) (sym ends) (subst (λ (u : List ℕ). Cuts qs q.end u other) (sym same.2) more) in
    let further = one_cut ps qs p.end y stop other rest there in
    (ap (λ (r : Piece). r ∷ ps) (same_piece p q same.0 starts ends) ∙ ap (λ (rs : List Piece). q ∷ rs) further.0, further.1)
