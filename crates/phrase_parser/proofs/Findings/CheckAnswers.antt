-- What the check of the tokens of a text answers says what the text is.
use Rattle.std.proofs.Common.{◌≡◌, ℕ, ◌≤◌, List, map, length, Option, Some, None, All, ap, sym, subst, ◌∙◌}
use Rattle.std.proofs.lemmas.Option.{same_Some, none-some}
use Rattle.plcs_grammar.specs.declared.category.Category.{Category}
use Rattle.plcs_grammar.specs.declared.phrase.Phrase.{Phrase}
use Rattle.plcs_grammar.specs.PlainPhrase.{PlainPhrase, plain_phrase}
use Rattle.plcs_grammar.specs.Cuts.{Piece, Cuts}
use Rattle.plcs_grammar.specs.Reads.{Reads}
use Rattle.phrase_parser.specs.declared.check.finding.Finding.{Finding}
use Rattle.phrase_parser.specs.declared.check.finding.Finding.TheVariants.{Fine, SyntaxAt, Over}
use Rattle.phrase_parser.specs.declared.fault.PhraseFault.TheVariants as fault
use Rattle.phrase_parser.specs.declared.token.Placed.{Placed}
use Rattle.phrase_parser.specs.Private.PlacedToken.{placed_of, AreTokens}
use Rattle.phrase_parser.specs.Private.Machine.{shift_all, start_state, phrase_of_if}
use Rattle.phrase_parser.specs.Private.Recognizer.{Shape, first_shape}
use Rattle.phrase_parser.specs.Private.Findings.{seen_of, findings}
use Rattle.phrase_parser.specs.Private.Shapes.{seen_in}
use Rattle.phrase_parser.specs.Private.FindingViews.{as_found, over_of, over_offset}
use Rattle.phrase_parser.specs.Private.TokenIn.{token_in, IsPlacedIn, LiesIn}
use Rattle.phrase_parser.specs.Answers.{FaultSays, over_fault}
use Rattle.phrase_parser.proofs.Findings.PlacedTokens.{cut_seen, cut_lies, cut_few, cut_tokens, cut_placed}
use Rattle.phrase_parser.proofs.Findings.FindingOffsets.{FindingWithin, places_within}
use Rattle.phrase_parser.proofs.Findings.FindingsOfText.{SaysOfText, finding_says}

pub tokens_lie : (tokens : List Placed) (stop : Option ℕ) (x : List ℕ) → AreTokens tokens stop x → All (LiesIn x) tokens
tokens_lie tokens stop x h = subst (λ z. All (LiesIn x) z) (sym h.2) (cut_lies x h.0 stop h.1)

pub tokens_few : (tokens : List Placed) (stop : Option ℕ) (x : List ℕ) → AreTokens tokens stop x → length tokens ≤ length x
tokens_few tokens stop x h = subst (λ z. length z ≤ length x) (sym h.2) (cut_few x h.0 stop h.1)

-- tokens that are a phrase within the limits, which the text reads as
pub record IsRead (c : Category) (x : List ℕ) (tokens : List Placed) : Type 0 where
  pub phrase : PlainPhrase
  pub built : phrase_of_if (shift_all (map (token_in x) tokens) (start_state c)) ≡ Some phrase
  pub reads : Reads c x phrase
  pub placed : All (IsPlacedIn x) tokens

-- what an answer of the check says
abbrev pub CheckSays : Category → List ℕ → List Placed → Finding → Type 0
CheckSays c x tokens Fine = IsRead c x tokens
CheckSays c x tokens (SyntaxAt place) = (place ≤ length x) × FaultSays c x (fault.Syntax place)
CheckSays c x tokens (Over over) = (over_offset (over_of over) ≤ length x) × FaultSays c x (over_fault (over_of over))

told_if : (c : Category) (x : List ℕ) (pieces : List Piece) (stop : Option ℕ) (found : Finding) → Cuts pieces 0 x stop
    → SaysOfText c x pieces (as_found found) → FindingWithin (length x) (as_found found) → CheckSays c x (map placed_of pieces) found
told_if c x pieces stop Fine cut h w =
    record {
      phrase = h.0;
      built = ap (λ z. phrase_of_if (shift_all z (start_state c))) (cut_tokens x pieces stop cut h.3) ∙ h.1;
      reads = h.2;
      placed = cut_placed x pieces stop cut h.3;
    }
told_if c x pieces stop (SyntaxAt place) cut h w = (w, h)
told_if c x pieces stop (Over over) cut h w = (w, h)

pub told : (c : Category) (x : List ℕ) (tokens : List Placed) (stop : Option ℕ) (shape : Shape) (found : Finding) → first_shape c ≡ Some shape
    → AreTokens tokens stop x → as_found found ≡ findings (map (seen_in x) tokens) stop (length x) shape None → CheckSays c x tokens found
told c x tokens stop shape found e (pieces, cut, same) f =
    let g : findings (map seen_of pieces) stop (length x) shape None ≡ as_found found =
    ap (λ z. findings z stop (length x) shape None) (sym (cut_seen x pieces stop cut))
    ∙ ap (λ z. findings (map (seen_in x) z) stop (length x) shape None) (sym same) ∙ sym f in
    subst (λ z. CheckSays c x z found) (sym same)
    (told_if c x pieces stop found cut (subst (SaysOfText c x pieces) g (finding_says c x pieces stop shape e cut))
    (subst (FindingWithin (length x)) g (places_within x pieces stop shape cut)))

-- the phrase that is built is what the text reads as
pub built_reads : (c : Category) (x : List ℕ) (tokens : List Placed) (phrase : Phrase) → IsRead c x tokens
    → phrase_of_if (shift_all (map (token_in x) tokens) (start_state c)) ≡ Some (plain_phrase phrase) → Reads c x (plain_phrase phrase)
built_reads c x tokens phrase read built =
    let same : read.phrase ≡ plain_phrase phrase = same_Some read.phrase (plain_phrase phrase) (sym read.built ∙ built) in
    subst (Reads c x) same read.reads

-- a phrase is built of tokens that are one: the builder refuses none
pub not_refused : (c : Category) (x : List ℕ) (tokens : List Placed) → IsRead c x tokens
    → phrase_of_if (shift_all (map (token_in x) tokens) (start_state c)) ≡ None → ⊥
not_refused c x tokens read refused = none-some read.phrase (sym refused ∙ read.built)

-- what an answer of the check says, of the tokens as they were lent to it
pub told_known : (c : Category) (x : List ℕ) (stop : Option ℕ) {tokens lent : List Placed} {shape : Shape} {found known : Finding}
    → lent ≡ tokens → first_shape c ≡ Some shape → AreTokens tokens stop x
    → as_found found ≡ findings (map (seen_in x) lent) stop (length x) shape None → found ≡ known → CheckSays c x lent known
told_known c x stop {lent = lent} {shape = shape} {found = found} same first are answered known_is =
    subst (CheckSays c x lent) known_is
    (told c x lent stop shape found first (subst (λ z. AreTokens z stop x) (sym same) are) answered)
