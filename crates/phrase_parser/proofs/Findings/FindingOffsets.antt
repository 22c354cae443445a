-- The places that the check finds lie in the text, or at its end.
use Rattle.std.proofs.Common.{ℕ, ◌≤◌, cond, ltb, map, List, [], ◌∷◌, Option, Some, None, arith, length, subst}
use Rattle.std.specs.Option.{option_or}
use Rattle.std.specs.List.{AllByRecursion}
use Rattle.std.proofs.lemmas.Bool.{cond_both}
use Rattle.plcs_grammar.specs.Cuts.{Piece, Cuts}
use Rattle.plcs_grammar.specs.Limit.{greatest_nesting}
use Rattle.plcs_grammar.specs.OverLimit.{OverLimit}
use Rattle.phrase_parser.specs.Private.Recognizer.{Shape, next, may_end, level_of}
use Rattle.phrase_parser.specs.Private.Findings.{Finding, finding_of, found_at, found_at_end, Seen, seen_of, is_large, seen_over, findings}
use Rattle.phrase_parser.specs.Private.FindingViews.{over_offset}
use Rattle.phrase_parser.proofs.Tokens.CutPieces.{InOrder, cut_in_order, stop_within}

module _ (limit : ℕ) where
  -- what goes past a limit does so within the text
  abbrev pub OverWithin : OverLimit → Type 0
  OverWithin over = over_offset over ≤ limit

  -- what goes past a limit, if something does, does so within the text
  abbrev pub OverIf : Option OverLimit → Type 0
  OverIf None = Unit {0}
  OverIf (Some over) = OverWithin over

  -- the text stops being tokens within it, if it does
  abbrev pub StopIf : Option ℕ → Type 0
  StopIf None = Unit {0}
  StopIf (Some stop) = stop ≤ limit

  -- what is found lies within the text
  abbrev pub FindingWithin : Finding → Type 0
  FindingWithin Finding.fine = Unit {0}
  FindingWithin (Finding.syntax_at place) = place ≤ limit
  FindingWithin (Finding.over over) = OverWithin over

  finding_within : (over : Option OverLimit) → OverIf over → FindingWithin (finding_of over)
  finding_within None h = tt
  finding_within (Some over) h = h

  end_within : (stop : Option ℕ) (end : ℕ) (shape : Shape) (found : Option OverLimit) → StopIf stop → end ≤ limit → OverIf found
      → FindingWithin (found_at_end stop end shape found)
  end_within (Some stop) end shape found s e h = s
  end_within None end shape found s e h =
      cond_both (may_end shape) (finding_of found) (Finding.syntax_at end) FindingWithin (λ t. finding_within found h) (λ t. e)

  over_within : (seen : Seen) (level : ℕ) → seen.start ≤ limit → OverIf (seen_over seen level)
  over_within seen level h =
      cond_both (is_large seen.class) (Some (OverLimit.number_too_large seen.start))
      (cond (ltb greatest_nesting level) (Some (OverLimit.too_deep seen.start)) None) OverIf (λ t. h)
      (λ t. cond_both (ltb greatest_nesting level) (Some (OverLimit.too_deep seen.start)) None OverIf (λ u. h) (λ u. tt))

  or_within : (a b : Option OverLimit) → OverIf a → OverIf b → OverIf (option_or a b)
  or_within None b h k = k
  or_within (Some a) b h k = h

  next_within : (r : Option Shape) (place : ℕ) (behind : Shape → Finding) → place ≤ limit → ((z : Shape) → FindingWithin (behind z))
      → FindingWithin (found_at r place behind)
  next_within None place behind h go = h
  next_within (Some z) place behind h go = go z

  pub findings_within : (seens : List Seen) (stop : Option ℕ) (end : ℕ) (shape : Shape) (found : Option OverLimit)
      → AllByRecursion (λ seen. seen.start ≤ limit) seens → StopIf stop → end ≤ limit → OverIf found
      → FindingWithin (findings seens stop end shape found)
  findings_within [] stop end shape found all s e h = end_within stop end shape found s e h
  findings_within (seen ∷ rest) stop end shape found all s e h =
      next_within (next shape seen.class) seen.start
      (λ z. findings rest stop end z (option_or found (seen_over seen (level_of shape seen.class)))) all.0
      (λ z. findings_within rest stop end z (option_or found (seen_over seen (level_of shape seen.class))) all.1 s e
      (or_within found (seen_over seen (level_of shape seen.class)) h (over_within seen (level_of shape seen.class) all.0)))

order_last : (pieces : List Piece) (place last : ℕ) → InOrder place pieces last → place ≤ last
order_last [] place last h = h
order_last (piece ∷ pieces) place last h = omega (arith, h.0, h.1, order_last pieces piece.end last h.2)

starts_within : (pieces : List Piece) (place last : ℕ) → InOrder place pieces last → AllByRecursion (λ seen. seen.start ≤ last) (map seen_of pieces)
starts_within [] place last h = tt
starts_within (piece ∷ pieces) place last h =
    (omega (arith, h.1, order_last pieces piece.end last h.2), starts_within pieces piece.end last h.2)

stop_if : (pieces : List Piece) (x : List ℕ) (stop : Option ℕ) → Cuts pieces 0 x stop → StopIf (length x) stop
stop_if pieces x None cut = tt
stop_if pieces x (Some stop) cut = let h = stop_within pieces 0 x stop cut in omega (arith, h.1)

pub places_within : (x : List ℕ) (pieces : List Piece) (stop : Option ℕ) (shape : Shape) → Cuts pieces 0 x stop
    → FindingWithin (length x) (findings (map seen_of pieces) stop (length x) shape None)
places_within x pieces stop shape cut =
    let order : InOrder 0 pieces (length x) = subst (λ n. InOrder 0 pieces n) (omega arith) (cut_in_order pieces 0 x stop cut) in
    findings_within (length x) (map seen_of pieces) stop (length x) shape None (starts_within pieces 0 (length x) order)
    (stop_if pieces x stop cut) (omega arith) tt
