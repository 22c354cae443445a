-- One more token that can stand there leaves the rest to be found in the tokens behind it.
use Rattle.std.proofs.Common.{◌≡◌, refl, ℕ, suc, ◌+◌, ◌<◌, length, map, drop, List, ◌∷◌, Option, Some, None, ap, sym, ◌∙◌, arith}
use Rattle.std.specs.Prelude.{get_or}
use Rattle.std.specs.Option.{option_or}
use Rattle.std.proofs.Math.Seq.{drop-cons}
use Rattle.plcs_grammar.specs.OverLimit.{OverLimit}
use Rattle.phrase_parser.specs.declared.check.finding.Over.{Over}
use Rattle.phrase_parser.specs.declared.token.Placed.{Placed}
use Rattle.phrase_parser.specs.declared.check.token_class.TokenClass.{TokenClass}
use Rattle.phrase_parser.specs.Private.Recognizer.{Shape, next, level_of}
use Rattle.phrase_parser.specs.Private.Findings.{Seen, found_at, seen_over, findings}
use Rattle.phrase_parser.specs.Private.Shapes.{seen_in}
use Rattle.phrase_parser.specs.Private.FindingViews.{over_if}

pub or_as : (a b : Option Over) → over_if (option_or a b) ≡ option_or (over_if a) (over_if b)
or_as None b = refl
or_as (Some a) b = refl

module _ (text : List ℕ) (stop : Option ℕ) (end : ℕ) where
  go_on_behind : (seen : Seen) (rest : List Seen) (shape behind : Shape) (over : Option OverLimit) → next shape seen.class ≡ Some behind
      → findings (seen ∷ rest) stop end shape over ≡ findings rest stop end behind (option_or over (seen_over seen (level_of shape seen.class)))
  go_on_behind seen rest shape behind over n =
      ap (λ z. found_at z seen.start (λ y. findings rest stop end y (option_or over (seen_over seen (level_of shape seen.class))))) n

  pub go_on : (tokens : List Placed) (i : ℕ) (d : Placed) (shape behind : Shape) (class : TokenClass) (level : ℕ) (over later both : Option OverLimit)
      → i < length tokens → class ≡ (seen_in text (get_or tokens i d)).class → next shape class ≡ Some behind → level ≡ level_of shape class
      → later ≡ seen_over (record { class = class; start = (get_or tokens i d).start }) level → both ≡ option_or over later
      → findings (map (seen_in text) (drop (i + 1) tokens)) stop end behind both ≡ findings (map (seen_in text) (drop i tokens)) stop end shape over
  go_on tokens i d shape behind class level over later both inside k n l o b =
      let seen = seen_in text (get_or tokens i d) in
      let one : i + 1 ≡ suc i = omega arith in
      let later_is : later ≡ seen_over seen (level_of shape seen.class) =
      o ∙ ap (seen_over (record { class = class; start = seen.start })) l
      ∙ ap (λ z. seen_over (record { class = z; start = seen.start }) (level_of shape z)) k in
      sym (ap (λ z. findings (map (seen_in text) z) stop end shape over) (drop-cons tokens i d inside)
      ∙ go_on_behind seen (map (seen_in text) (drop (suc i) tokens)) shape behind over (ap (next shape) (sym k) ∙ n)
      ∙ ap (λ z. findings (map (seen_in text) (drop (suc i) tokens)) stop end behind (option_or over z)) (sym later_is)
      ∙ ap (λ z. findings (map (seen_in text) (drop (suc i) tokens)) stop end behind z) (sym b)
      ∙ ap (λ j. findings (map (seen_in text) (drop j tokens)) stop end behind both) (sym one))
