-- How far a line has been searched for a divider.
use Rattle.std.proofs.Common.{◌≡◌, ℕ, suc, ◌+◌, ◌-◌, ◌<◌, ◌≤◌, Bool, true, false, ◌&&◌, not, List, [], ◌∷◌, ◌++◌, take, drop, length, get_or, Some, sym, ap, subst, ◌∙◌, arith}
use Rattle.std.proofs.lemmas.Bool.{cond-true}
use Rattle.std.proofs.lemmas.List.{append-nil, drop-drop, take-append-drop, take_all, length-drop}
use Rattle.std.proofs.Math.Seq.{drop-cons, take-suc}
use Rattle.phrase_parser.specs.LineParts.{with_front, is_quoted_behind, cut_from, cut_at}
use Rattle.phrase_parser.proofs.Lines.DividedTexts.{begins_here, Passes, passes_byte, passes_append}

-- the divider begins nowhere outside of quotes in the front of the line that ends at this place, inside of quotes or
-- outside
pub record IsUncut (divider text : List ℕ) (inside : Bool) (place : ℕ) : Type 0 where
  pub within : place ≤ length text
  pub passes : Passes divider false (take place text) inside (drop place text)

-- the first byte of a line behind the place
byte_there : (text : List ℕ) (place : ℕ) → place < length text → drop place text ≡ get_or text place 0 ∷ drop (suc place) text
byte_there text place h = drop-cons text place 0 h

-- a line has been searched for one byte more
pub uncut_more : (divider text : List ℕ) (inside : Bool) (place : ℕ) (still : Bool) → IsUncut divider text inside place → place < length text
    → not inside && begins_here divider (drop place text) ≡ false → still ≡ is_quoted_behind inside (get_or text place 0)
    → IsUncut divider text still (place + 1)
uncut_more divider text inside place still so_far h no_divider then =
    let byte = get_or text place 0 in
    let behind = drop (suc place) text in
    let there = byte_there text place h in
    let one = passes_byte divider inside byte behind (subst (λ (x : List ℕ). not inside && begins_here divider x ≡ false) there no_divider) in
    let joined = passes_append divider false inside (is_quoted_behind inside byte) (take place text) (byte ∷ []) behind
    (subst (λ (x : List ℕ). Passes divider false (take place text) inside x) there so_far.passes) one in
    let next : suc place ≡ place + 1 = omega arith in
    record {
      within = omega (arith, h);
      passes = subst (λ (n : ℕ). Passes divider false (take n text) still (drop n text)) next
          (subst (λ (x : List ℕ). Passes divider false x still behind) (sym (take-suc text place 0 h))
          (subst (λ (b : Bool). Passes divider false (take place text ++ (byte ∷ [])) b behind) (sym then) joined));
    }

-- where a text isn't empty and begins with the divider, it is cut
cut_first : (divider x : List ℕ) (inside : Bool) (byte : ℕ) (rest : List ℕ) → x ≡ byte ∷ rest
    → not inside && begins_here divider x ≡ true → cut_from inside divider x ≡ Some ([], drop (length divider) x)
cut_first divider x inside byte rest e h =
    subst (λ (z : List ℕ). not inside && begins_here divider z ≡ true → cut_from inside divider z ≡ Some ([], drop (length divider) z)) (sym e)
    (λ t. cond-true (not inside && begins_here divider (byte ∷ rest)) _ _ t) h

-- the line is cut where the divider stands
pub cut_found : (divider text : List ℕ) (inside : Bool) (place : ℕ) → IsUncut divider text inside place → place < length text
    → not inside && begins_here divider (drop place text) ≡ true
    → cut_at divider text ≡ Some (take place text, drop (place + length divider) text)
cut_found divider text inside place so_far h divides =
    let here = cut_first divider (drop place text) inside (get_or text place 0) (drop (suc place) text) (byte_there text place h) divides in
    ap (cut_at divider) (sym (take-append-drop place text)) ∙ so_far.passes ∙ ap (with_front (take place text)) here
    ∙ ap (λ (front : List ℕ). Some (front, drop (length divider) (drop place text))) (append-nil (take place text))
    ∙ ap (λ (back : List ℕ). Some (take place text, back)) (drop-drop (length divider) place text)

-- as many bytes as stand behind the place are all that stand there
pub rest_from : (text : List ℕ) (place : ℕ) → take (length text - place) (drop place text) ≡ drop place text
rest_from text place = take_all (length text - place) (drop place text) (omega (arith, length-drop place text))
