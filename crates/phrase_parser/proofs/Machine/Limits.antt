-- A phrase keeps both limits exactly where none of its tokens goes past one.
use Rattle.std.proofs.Common.{◌≡◌, refl, ℕ, ◌+◌, ◌-◌, ◌≤◌, max, Bool, true, false, cond, ltb, ltb-false, le-ltb, List, [], ◌∷◌, ◌++◌, Option, Some, None, ap, sym, subst, ◌∙◌, arith, lit≤, zero-le, flat_map}
use Rattle.std.specs.Option.{option_or}
use Rattle.std.specs.List.{AllByRecursion}
use Rattle.std.proofs.Math.Nat.{le-max_left, le-max_right, max-le}
use Rattle.std.proofs.lemmas.List.Elements.{All-from_recursion, recursion_from_All}
use Rattle.plcs_grammar.specs.declared.category.Category.{Category}
use Rattle.plcs_grammar.specs.declared.sign.Sign.{Sign}
use Rattle.plcs_grammar.specs.Token.{Token}
use Rattle.plcs_grammar.specs.Cuts.{Piece, tokens_of}
use Rattle.plcs_grammar.specs.PlainPhrase.{PlainExpr, PlainExprs, PlainVarRef, PlainPhrase}
use Rattle.plcs_grammar.specs.PhraseForm.{Form}
use Rattle.plcs_grammar.specs.Limit.{greatest_number, greatest_nesting, nesting, reference_nesting, deepest, deepest_reference, arguments_nesting, phrase_nesting, numbers, reference_numbers, numbers_of_all, size_numbers, phrase_numbers, IsWithinLimits}
use Rattle.plcs_grammar.specs.OpenedLevel.{opened_levels, reference_opened_levels, opened_levels_of_all, opened_levels_behind, opened_levels_of_more_references, opened_levels_of_references, opened_levels_of_call, phrase_opened_levels}
use Rattle.plcs_grammar.specs.OverLimit.{OverLimit, is_too_large, over_at, first_over}
use Rattle.phrase_parser.proofs.Machine.AllOfLists.{all_append, append_all}
use Rattle.phrase_parser.proofs.Machine.ExprSpelling.{spell, spell_reference, spell_all, spell_behind}
use Rattle.phrase_parser.proofs.Machine.PhraseSpelling.{spell_name, spell_item, spell_sized, spell_call, spell_more, spell_listed, spell_phrase, form_spelled}

-- a token that is a number is no larger than the greatest
abbrev pub NumberFits : Token → Type 0
NumberFits (Token.number n) = n ≤ greatest_number
NumberFits (Token.name name) = Unit {0}
NumberFits (Token.keyword word) = Unit {0}
NumberFits (Token.text value) = Unit {0}
NumberFits (Token.bit value) = Unit {0}
NumberFits (Token.sign sign) = Unit {0}

-- no token goes past a limit
abbrev pub AllFine : List Token → List ℕ → Type 0
AllFine [] levels = Unit {0}
AllFine (k ∷ ks) [] = NumberFits k × AllFine ks []
AllFine (k ∷ ks) (level ∷ levels) = NumberFits k × (level ≤ greatest_nesting) × AllFine ks levels

over_if : (b : Bool) (o : OverLimit) (r : Option OverLimit) → cond b (Some o) r ≡ None → (b ≡ false) × (r ≡ None)
over_if true o r e = absurd (cc)
over_if false o r e = (refl, e)

large_fits : (k : Token) → is_too_large k ≡ false → NumberFits k
large_fits (Token.number n) not_large = ltb-false greatest_number n not_large
large_fits (Token.name name) not_large = tt
large_fits (Token.keyword word) not_large = tt
large_fits (Token.text value) not_large = tt
large_fits (Token.bit value) not_large = tt
large_fits (Token.sign sign) not_large = tt

fits_large : (k : Token) → NumberFits k → is_too_large k ≡ false
fits_large (Token.number n) fits = le-ltb greatest_number n fits
fits_large (Token.name name) fits = refl
fits_large (Token.keyword word) fits = refl
fits_large (Token.text value) fits = refl
fits_large (Token.bit value) fits = refl
fits_large (Token.sign sign) fits = refl

at_none : (piece : Piece) (level : ℕ) → over_at piece level ≡ None → NumberFits piece.token × (level ≤ greatest_nesting)
at_none piece level none =
    let number_none = over_if (is_too_large piece.token) (OverLimit.number_too_large piece.start) (cond (ltb greatest_nesting level) (Some (OverLimit.too_deep piece.start)) None) none in
    let level_none = over_if (ltb greatest_nesting level) (OverLimit.too_deep piece.start) None number_none.1 in
    (large_fits piece.token number_none.0, ltb-false greatest_nesting level level_none.0)

none_at : (piece : Piece) (level : ℕ) → NumberFits piece.token → level ≤ greatest_nesting → over_at piece level ≡ None
none_at piece level fits shallow =
    ap (λ b. cond b (Some (OverLimit.number_too_large piece.start)) (cond (ltb greatest_nesting level) (Some (OverLimit.too_deep piece.start)) None))
    (fits_large piece.token fits)
    ∙ ap (λ b. cond b (Some (OverLimit.too_deep piece.start)) None) (le-ltb greatest_nesting level shallow)

both_none : (a b : Option OverLimit) → option_or a b ≡ None → (a ≡ None) × (b ≡ None)
both_none None b none = (refl, none)
both_none (Some o) b none = absurd (cc)

none_both : (a b : Option OverLimit) → a ≡ None → b ≡ None → option_or a b ≡ None
none_both a b a_none b_none = ap (λ z. option_or z b) a_none ∙ b_none

-- no piece is over a limit where all tokens go past none
pub fine_none : (pieces : List Piece) (levels : List ℕ) → AllFine (tokens_of pieces) levels → first_over pieces levels ≡ None
fine_none [] levels fine = refl
fine_none (piece ∷ pieces) [] fine =
    none_both (over_at piece 0) (first_over pieces []) (none_at piece 0 fine.0 zero-le) (fine_none pieces [] fine.1)
fine_none (piece ∷ pieces) (level ∷ levels) fine =
    none_both (over_at piece level) (first_over pieces levels) (none_at piece level fine.0 fine.1) (fine_none pieces levels fine.2)

-- where no piece is over a limit all tokens go past none
pub none_fine : (pieces : List Piece) (levels : List ℕ) → first_over pieces levels ≡ None → AllFine (tokens_of pieces) levels
none_fine [] levels none = tt
none_fine (piece ∷ pieces) [] none =
    let each_none = both_none (over_at piece 0) (first_over pieces []) none in
    ((at_none piece 0 each_none.0).0, none_fine pieces [] each_none.1)
none_fine (piece ∷ pieces) (level ∷ levels) none =
    let each_none = both_none (over_at piece level) (first_over pieces levels) none in
    let first_fine = at_none piece level each_none.0 in
    (first_fine.0, first_fine.1, none_fine pieces levels each_none.1)

-- there is a level for each token
pub data Even : List Token → List ℕ → Type 0 where
  done : Even [] []
  more : {k : Token} {ks : List Token} {l : ℕ} {ls : List ℕ} → Even ks ls → Even (k ∷ ks) (l ∷ ls)

even_append : {xs ys : List Token} {ls ms : List ℕ} → Even xs ls → Even ys ms → Even (xs ++ ys) (ls ++ ms)
even_append done ys_even = ys_even
even_append (more xs_even) ys_even = more (even_append xs_even ys_even)

mutual
  even_expr : (t : PlainExpr) (d : ℕ) → Even (spell t) (opened_levels t d)
  even_expr (PlainExpr.number z) d = more done
  even_expr (PlainExpr.text value) d = more done
  even_expr (PlainExpr.bit value) d = more done
  even_expr (PlainExpr.variable reference) d = even_reference reference d
  even_expr (PlainExpr.unary op a) d = more (even_expr a (d + 1))
  even_expr (PlainExpr.binary op a b) d = even_append (even_expr a d) (more (even_expr b d))
  even_expr (PlainExpr.builtin function ts) d = more (more (even_append (even_all ts (d + 1)) (more done)))
  even_expr (PlainExpr.parenthesized a) d = more (even_append (even_expr a (d + 1)) (more done))

  even_reference : (reference : PlainVarRef) (d : ℕ) → Even (spell_reference reference) (reference_opened_levels reference d)
  even_reference (PlainVarRef.simple name) d = more done
  even_reference (PlainVarRef.subscripted name index) d = more (more (even_append (even_expr index (d + 1)) (more done)))

  even_all : (ts : PlainExprs) (d : ℕ) → Even (spell_all ts) (opened_levels_of_all ts d)
  even_all PlainExprs.nil d = done
  even_all (PlainExprs.cons a rest) d = even_append (even_expr a d) (even_behind rest d)

  even_behind : (ts : PlainExprs) (d : ℕ) → Even (spell_behind ts) (opened_levels_behind ts d)
  even_behind PlainExprs.nil d = done
  even_behind (PlainExprs.cons a rest) d = more (even_append (even_expr a d) (even_behind rest d))

fine_append : {xs : List Token} {ls : List ℕ} (ys : List Token) (ms : List ℕ) → Even xs ls → AllFine xs ls → AllFine ys ms
    → AllFine (xs ++ ys) (ls ++ ms)
fine_append ys ms done xs_fine ys_fine = ys_fine
fine_append ys ms (more even) xs_fine ys_fine = (xs_fine.0, xs_fine.1, fine_append ys ms even xs_fine.2 ys_fine)

append_fine : {xs : List Token} {ls : List ℕ} (ys : List Token) (ms : List ℕ) → Even xs ls → AllFine (xs ++ ys) (ls ++ ms)
    → AllFine xs ls × AllFine ys ms
append_fine ys ms done fine = (tt, fine)
append_fine ys ms (more even) fine = let rest_fine = append_fine ys ms even fine.2 in ((fine.0, fine.1, rest_fine.0), rest_fine.1)

-- no number is above the greatest
abbrev pub Small : List ℕ → Type 0
Small ns = AllByRecursion (λ n. n ≤ greatest_number) ns

small_append : (xs ys : List ℕ) → Small xs → Small ys → Small (xs ++ ys)
small_append xs ys xs_small ys_small = all_append (λ n. n ≤ greatest_number) xs ys xs_small ys_small

append_small : (xs ys : List ℕ) → Small (xs ++ ys) → Small xs × Small ys
append_small xs ys small = append_all (λ n. n ≤ greatest_number) xs ys small

-- the greater of two keeps a limit where both do
max_under : (a b d k : ℕ) → max a b + d ≤ k → (a + d ≤ k) × (b + d ≤ k)
max_under a b d k under = let a_below = le-max_left a b in let b_below = le-max_right a b in (omega arith, omega arith)

under_max : (a b d k : ℕ) → a + d ≤ k → b + d ≤ k → max a b + d ≤ k
under_max a b d k a_under b_under =
    let greater : max a b ≤ k - d = max-le (omega arith) (omega arith) in
    omega arith

outside : (n k : ℕ) → n ≤ k → n + 0 ≤ k
outside n k under = omega arith

from_outside : (n k : ℕ) → n + 0 ≤ k → n ≤ k
from_outside n k under = omega arith

-- a closing parenthesis goes past no limit
abbrev fine_close : AllFine (Token.sign Sign.CloseParenthesis ∷ []) (0 ∷ [])
fine_close = (tt, zero-le, tt)

mutual
  -- an expression within the limits, so many levels in, has no token that goes past one
  pub expr_fine : (t : PlainExpr) (d : ℕ) → Small (numbers t) → nesting t + d ≤ greatest_nesting → AllFine (spell t) (opened_levels t d)
  expr_fine (PlainExpr.number z) d small shallow = (small.0, zero-le, tt)
  expr_fine (PlainExpr.text value) d small shallow = (tt, zero-le, tt)
  expr_fine (PlainExpr.bit value) d small shallow = (tt, zero-le, tt)
  expr_fine (PlainExpr.variable reference) d small shallow = reference_fine reference d small shallow
  expr_fine (PlainExpr.unary op a) d small shallow = (tt, omega arith, expr_fine a (d + 1) small (omega arith))
  expr_fine (PlainExpr.binary op a b) d small shallow =
      let each_small = append_small (numbers a) (numbers b) small in
      let each_shallow = max_under (nesting a) (nesting b) d greatest_nesting shallow in
      fine_append _ _ (even_expr a d) (expr_fine a d each_small.0 each_shallow.0) (tt, zero-le, expr_fine b d each_small.1 each_shallow.1)
  expr_fine (PlainExpr.builtin function ts) d small shallow =
      (tt, zero-le, (tt, omega arith, fine_append _ _ (even_all ts (d + 1)) (all_fine ts (d + 1) small (omega arith)) fine_close))
  expr_fine (PlainExpr.parenthesized a) d small shallow =
      (tt, omega arith, fine_append _ _ (even_expr a (d + 1)) (expr_fine a (d + 1) small (omega arith)) fine_close)

  -- a variable within the limits, so many levels in, has no token that goes past one
  pub reference_fine : (reference : PlainVarRef) (d : ℕ) → Small (reference_numbers reference)
      → reference_nesting reference + d ≤ greatest_nesting → AllFine (spell_reference reference) (reference_opened_levels reference d)
  reference_fine (PlainVarRef.simple name) d small shallow = (tt, zero-le, tt)
  reference_fine (PlainVarRef.subscripted name index) d small shallow =
      (tt, zero-le, (tt, omega arith, fine_append _ _ (even_expr index (d + 1)) (expr_fine index (d + 1) small (omega arith)) fine_close))

  -- expressions joined by commas, within the limits and so many levels in, have no token that goes past one
  pub all_fine : (ts : PlainExprs) (d : ℕ) → Small (numbers_of_all ts) → deepest ts + d ≤ greatest_nesting
      → AllFine (spell_all ts) (opened_levels_of_all ts d)
  all_fine PlainExprs.nil d small shallow = tt
  all_fine (PlainExprs.cons a rest) d small shallow =
      let each_small = append_small (numbers a) (numbers_of_all rest) small in
      let each_shallow = max_under (nesting a) (deepest rest) d greatest_nesting shallow in
      fine_append _ _ (even_expr a d) (expr_fine a d each_small.0 each_shallow.0) (behind_fine rest d each_small.1 each_shallow.1)

  behind_fine : (ts : PlainExprs) (d : ℕ) → Small (numbers_of_all ts) → deepest ts + d ≤ greatest_nesting
      → AllFine (spell_behind ts) (opened_levels_behind ts d)
  behind_fine PlainExprs.nil d small shallow = tt
  behind_fine (PlainExprs.cons a rest) d small shallow =
      let each_small = append_small (numbers a) (numbers_of_all rest) small in
      let each_shallow = max_under (nesting a) (deepest rest) d greatest_nesting shallow in
      (tt, zero-le, fine_append _ _ (even_expr a d) (expr_fine a d each_small.0 each_shallow.0) (behind_fine rest d each_small.1 each_shallow.1))

mutual
  -- an expression none of whose tokens goes past a limit is within the limits
  pub fine_expr : (t : PlainExpr) (d : ℕ) → d ≤ greatest_nesting → AllFine (spell t) (opened_levels t d)
      → Small (numbers t) × (nesting t + d ≤ greatest_nesting)
  fine_expr (PlainExpr.number z) d d_within fine = ((fine.0, tt), omega arith)
  fine_expr (PlainExpr.text value) d d_within fine = (tt, omega arith)
  fine_expr (PlainExpr.bit value) d d_within fine = (tt, omega arith)
  fine_expr (PlainExpr.variable reference) d d_within fine = fine_reference reference d d_within fine
  fine_expr (PlainExpr.unary op a) d d_within fine = let last_keeps = fine_expr a (d + 1) fine.1 fine.2 in (last_keeps.0, omega (arith, last_keeps.1))
  fine_expr (PlainExpr.binary op a b) d d_within fine =
      let each_fine = append_fine _ _ (even_expr a d) fine in
      let first_keeps = fine_expr a d d_within each_fine.0 in
      let last_keeps = fine_expr b d d_within each_fine.1.2 in
      (small_append (numbers a) (numbers b) first_keeps.0 last_keeps.0, under_max (nesting a) (nesting b) d greatest_nesting first_keeps.1 last_keeps.1)
  fine_expr (PlainExpr.builtin function ts) d d_within fine =
      let each_fine = append_fine _ _ (even_all ts (d + 1)) fine.2.2 in
      let last_keeps = fine_all ts (d + 1) fine.2.1 each_fine.0 in
      (last_keeps.0, omega (arith, last_keeps.1))
  fine_expr (PlainExpr.parenthesized a) d d_within fine =
      let each_fine = append_fine _ _ (even_expr a (d + 1)) fine.2 in
      let last_keeps = fine_expr a (d + 1) fine.1 each_fine.0 in
      (last_keeps.0, omega (arith, last_keeps.1))

  -- a variable none of whose tokens goes past a limit is within the limits
  pub fine_reference : (reference : PlainVarRef) (d : ℕ) → d ≤ greatest_nesting
      → AllFine (spell_reference reference) (reference_opened_levels reference d)
      → Small (reference_numbers reference) × (reference_nesting reference + d ≤ greatest_nesting)
  fine_reference (PlainVarRef.simple name) d d_within fine = (tt, omega arith)
  fine_reference (PlainVarRef.subscripted name index) d d_within fine =
      let each_fine = append_fine _ _ (even_expr index (d + 1)) fine.2.2 in
      let last_keeps = fine_expr index (d + 1) fine.2.1 each_fine.0 in
      (last_keeps.0, omega (arith, last_keeps.1))

  -- expressions joined by commas none of whose tokens goes past a limit are within the limits
  pub fine_all : (ts : PlainExprs) (d : ℕ) → d ≤ greatest_nesting → AllFine (spell_all ts) (opened_levels_of_all ts d)
      → Small (numbers_of_all ts) × (deepest ts + d ≤ greatest_nesting)
  fine_all PlainExprs.nil d d_within fine = (tt, omega arith)
  fine_all (PlainExprs.cons a rest) d d_within fine =
      let each_fine = append_fine _ _ (even_expr a d) fine in
      let first_keeps = fine_expr a d d_within each_fine.0 in
      let last_keeps = fine_behind rest d d_within each_fine.1 in
      (small_append (numbers a) (numbers_of_all rest) first_keeps.0 last_keeps.0, under_max (nesting a) (deepest rest) d greatest_nesting first_keeps.1 last_keeps.1)

  fine_behind : (ts : PlainExprs) (d : ℕ) → d ≤ greatest_nesting → AllFine (spell_behind ts) (opened_levels_behind ts d)
      → Small (numbers_of_all ts) × (deepest ts + d ≤ greatest_nesting)
  fine_behind PlainExprs.nil d d_within fine = (tt, omega arith)
  fine_behind (PlainExprs.cons a rest) d d_within fine =
      let each_fine = append_fine _ _ (even_expr a d) fine.2 in
      let first_keeps = fine_expr a d d_within each_fine.0 in
      let last_keeps = fine_behind rest d d_within each_fine.1 in
      (small_append (numbers a) (numbers_of_all rest) first_keeps.0 last_keeps.0, under_max (nesting a) (deepest rest) d greatest_nesting first_keeps.1 last_keeps.1)

references_fine : (targets : List PlainVarRef) → Small (flat_map reference_numbers targets) → deepest_reference targets + 0 ≤ greatest_nesting
    → AllFine (spell_more spell_reference targets) (opened_levels_of_more_references targets)
references_fine [] small shallow = tt
references_fine (reference ∷ rest) small shallow =
    let each_small = append_small (reference_numbers reference) (flat_map reference_numbers rest) small in
    let each_shallow = max_under (reference_nesting reference) (deepest_reference rest) 0 greatest_nesting shallow in
    (tt, zero-le, fine_append _ _ (even_reference reference 0) (reference_fine reference 0 each_small.0 each_shallow.0) (references_fine rest each_small.1 each_shallow.1))

fine_references : (targets : List PlainVarRef) → AllFine (spell_more spell_reference targets) (opened_levels_of_more_references targets)
    → Small (flat_map reference_numbers targets) × (deepest_reference targets + 0 ≤ greatest_nesting)
fine_references [] fine = (tt, zero-le)
fine_references (reference ∷ rest) fine =
    let each_fine = append_fine _ _ (even_reference reference 0) fine.2 in
    let first_keeps = fine_reference reference 0 zero-le each_fine.0 in
    let last_keeps = fine_references rest each_fine.1 in (
      small_append (reference_numbers reference) (flat_map reference_numbers rest) first_keeps.0 last_keeps.0,
      under_max (reference_nesting reference) (deepest_reference rest) 0 greatest_nesting first_keeps.1 last_keeps.1,
    )

-- where no level is told, numbers alone count
plain_append : (xs ys : List Token) → AllFine xs [] → AllFine ys [] → AllFine (xs ++ ys) []
plain_append [] ys xs_plain ys_plain = ys_plain
plain_append (x ∷ xs) ys xs_plain ys_plain = (xs_plain.0, plain_append xs ys xs_plain.1 ys_plain)

append_plain : (xs ys : List Token) → AllFine (xs ++ ys) [] → AllFine xs [] × AllFine ys []
append_plain [] ys plain = (tt, plain)
append_plain (x ∷ xs) ys plain = let rest_plain = append_plain xs ys plain.1 in ((plain.0, rest_plain.0), rest_plain.1)

module _ {X : Type 0} (f : X → List Token) (g : X → List ℕ)
    (there : (x : X) → Small (g x) → AllFine (f x) []) (back : (x : X) → AllFine (f x) [] → Small (g x)) where
  plain_more : (xs : List X) → Small (flat_map g xs) → AllFine (spell_more f xs) []
  plain_more [] small = tt
  plain_more (x ∷ xs) small =
      let each_small = append_small (g x) (flat_map g xs) small in
      (tt, plain_append (f x) (spell_more f xs) (there x each_small.0) (plain_more xs each_small.1))

  plain_listed : (xs : List X) → Small (flat_map g xs) → AllFine (spell_listed f xs) []
  plain_listed [] small = tt
  plain_listed (x ∷ xs) small =
      let each_small = append_small (g x) (flat_map g xs) small in
      plain_append (f x) (spell_more f xs) (there x each_small.0) (plain_more xs each_small.1)

  more_plain : (xs : List X) → AllFine (spell_more f xs) [] → Small (flat_map g xs)
  more_plain [] plain = tt
  more_plain (x ∷ xs) plain =
      let each_plain = append_plain (f x) (spell_more f xs) plain.1 in
      small_append (g x) (flat_map g xs) (back x each_plain.0) (more_plain xs each_plain.1)

  listed_plain : (xs : List X) → AllFine (spell_listed f xs) [] → Small (flat_map g xs)
  listed_plain [] plain = tt
  listed_plain (x ∷ xs) plain =
      let each_plain = append_plain (f x) (spell_more f xs) plain in
      small_append (g x) (flat_map g xs) (back x each_plain.0) (more_plain xs each_plain.1)

sized_plain : (name : List ℕ) (size : Option ℕ) → Small (size_numbers size) → AllFine (spell_sized name size) []
sized_plain name None small = (tt, tt)
sized_plain name (Some size) small = (tt, (tt, (small.0, (tt, tt))))

plain_sized : (name : List ℕ) (size : Option ℕ) → AllFine (spell_sized name size) [] → Small (size_numbers size)
plain_sized name None plain = tt
plain_sized name (Some size) plain = (plain.1.1.0, tt)

names_plain : (names : List (List ℕ)) → AllFine (spell_more spell_name names) []
names_plain [] = tt
names_plain (name ∷ rest) = (tt, (tt, names_plain rest))

listed_names_plain : (names : List (List ℕ)) → AllFine (spell_listed spell_name names) []
listed_names_plain [] = tt
listed_names_plain (name ∷ rest) = (tt, names_plain rest)

-- the numbers of a phrase are small, and it is nested no deeper than the limit
abbrev pub KeepsLimits : PlainPhrase → Type 0
KeepsLimits p = Small (phrase_numbers p) × (phrase_nesting p ≤ greatest_nesting)

call_fine : (name : List ℕ) (passed : PlainExprs) → Small (numbers_of_all passed) → arguments_nesting passed ≤ greatest_nesting
    → AllFine (spell_call name passed) (opened_levels_of_call passed)
call_fine name PlainExprs.nil small shallow = (tt, zero-le, tt)
call_fine name (PlainExprs.cons a rest) small shallow =
    (tt, zero-le, (tt, lit≤ tt, fine_append _ _ (even_all (PlainExprs.cons a rest) 1) (all_fine (PlainExprs.cons a rest) 1 small shallow) fine_close))

fine_call : (name : List ℕ) (passed : PlainExprs) → AllFine (spell_call name passed) (opened_levels_of_call passed)
    → Small (numbers_of_all passed) × (arguments_nesting passed ≤ greatest_nesting)
fine_call name PlainExprs.nil fine = (tt, zero-le)
fine_call name (PlainExprs.cons a rest) fine =
    let each_fine = append_fine _ _ (even_all (PlainExprs.cons a rest) 1) fine.2.2 in
    fine_all (PlainExprs.cons a rest) 1 (lit≤ tt) each_fine.0

listed_references_fine : (targets : List PlainVarRef) → Small (flat_map reference_numbers targets) → deepest_reference targets ≤ greatest_nesting
    → AllFine (spell_listed spell_reference targets) (opened_levels_of_references targets)
listed_references_fine [] small shallow = tt
listed_references_fine (reference ∷ rest) small shallow =
    let each_small = append_small (reference_numbers reference) (flat_map reference_numbers rest) small in
    let each_shallow = max_under (reference_nesting reference) (deepest_reference rest) 0 greatest_nesting (outside _ _ shallow) in
    fine_append _ _ (even_reference reference 0) (reference_fine reference 0 each_small.0 each_shallow.0) (references_fine rest each_small.1 each_shallow.1)

fine_listed_references : (targets : List PlainVarRef) → AllFine (spell_listed spell_reference targets) (opened_levels_of_references targets)
    → Small (flat_map reference_numbers targets) × (deepest_reference targets ≤ greatest_nesting)
fine_listed_references [] fine = (tt, zero-le)
fine_listed_references (reference ∷ rest) fine =
    let each_fine = append_fine _ _ (even_reference reference 0) fine in
    let first_keeps = fine_reference reference 0 zero-le each_fine.0 in
    let last_keeps = fine_references rest each_fine.1 in (
      small_append (reference_numbers reference) (flat_map reference_numbers rest) first_keeps.0 last_keeps.0,
      from_outside _ _ (under_max (reference_nesting reference) (deepest_reference rest) 0 greatest_nesting first_keeps.1 last_keeps.1),
    )

-- a phrase within the limits has no token that goes past one
phrase_fine : (p : PlainPhrase) → KeepsLimits p → AllFine (spell_phrase p) (phrase_opened_levels p)
phrase_fine (PlainPhrase.assignment target value) keeps =
    let s = append_small (reference_numbers target) (numbers value) keeps.0 in
    let each_shallow = max_under (reference_nesting target) (nesting value) 0 greatest_nesting (outside _ _ keeps.1) in
    fine_append _ _ (even_reference target 0) (reference_fine target 0 s.0 each_shallow.0) (tt, zero-le, expr_fine value 0 s.1 each_shallow.1)
phrase_fine (PlainPhrase.condition e) keeps = expr_fine e 0 keeps.0 (outside _ _ keeps.1)
phrase_fine (PlainPhrase.expression e) keeps = expr_fine e 0 keeps.0 (outside _ _ keeps.1)
phrase_fine (PlainPhrase.expression_list es) keeps = all_fine es 0 keeps.0 (outside _ _ keeps.1)
phrase_fine (PlainPhrase.variable_list targets) keeps = listed_references_fine targets keeps.0 keeps.1
phrase_fine (PlainPhrase.variable_name name) keeps = (tt, tt)
phrase_fine (PlainPhrase.call name passed) keeps = call_fine name passed keeps.0 keeps.1
phrase_fine (PlainPhrase.declared_list items) keeps =
    plain_listed spell_item (λ item. size_numbers item.size) (λ item s. sized_plain item.name item.size s)
    (λ item s. plain_sized item.name item.size s) items keeps.0
phrase_fine (PlainPhrase.procedure_name name) keeps = (tt, tt)
phrase_fine (PlainPhrase.name_list names) keeps = listed_names_plain names
phrase_fine (PlainPhrase.greatest_length n) keeps = (keeps.0.0, tt)
phrase_fine (PlainPhrase.comment bytes) keeps = tt

-- a phrase none of whose tokens goes past a limit is within the limits
fine_phrase : (p : PlainPhrase) → AllFine (spell_phrase p) (phrase_opened_levels p) → KeepsLimits p
fine_phrase (PlainPhrase.assignment target value) fine =
    let p = append_fine _ _ (even_reference target 0) fine in
    let first_keeps = fine_reference target 0 zero-le p.0 in
    let last_keeps = fine_expr value 0 zero-le p.1.2 in (
      small_append (reference_numbers target) (numbers value) first_keeps.0 last_keeps.0,
      from_outside _ _ (under_max (reference_nesting target) (nesting value) 0 greatest_nesting first_keeps.1 last_keeps.1),
    )
fine_phrase (PlainPhrase.condition e) fine = let last_keeps = fine_expr e 0 zero-le fine in (last_keeps.0, from_outside _ _ last_keeps.1)
fine_phrase (PlainPhrase.expression e) fine = let last_keeps = fine_expr e 0 zero-le fine in (last_keeps.0, from_outside _ _ last_keeps.1)
fine_phrase (PlainPhrase.expression_list es) fine = let last_keeps = fine_all es 0 zero-le fine in (last_keeps.0, from_outside _ _ last_keeps.1)
fine_phrase (PlainPhrase.variable_list targets) fine = fine_listed_references targets fine
fine_phrase (PlainPhrase.variable_name name) fine = (tt, zero-le)
fine_phrase (PlainPhrase.call name passed) fine = fine_call name passed fine
fine_phrase (PlainPhrase.declared_list items) fine = (
  listed_plain spell_item (λ item. size_numbers item.size) (λ item s. sized_plain item.name item.size s)
      (λ item s. plain_sized item.name item.size s) items fine,
  zero-le,
)
fine_phrase (PlainPhrase.procedure_name name) fine = (tt, zero-le)
fine_phrase (PlainPhrase.name_list names) fine = (tt, zero-le)
fine_phrase (PlainPhrase.greatest_length n) fine = ((fine.0, tt), zero-le)
fine_phrase (PlainPhrase.comment bytes) fine = (tt, zero-le)

-- a phrase within the limits has no token over one
pub within : (c : Category) (pieces : List Piece) (p : PlainPhrase) → Form c (tokens_of pieces) p → IsWithinLimits p
    → first_over pieces (phrase_opened_levels p) ≡ None
within c pieces p form limits =
    let spelled = form_spelled c (tokens_of pieces) p form in
    fine_none pieces (phrase_opened_levels p)
    (subst (λ ks. AllFine ks (phrase_opened_levels p)) (sym spelled.2)
    (phrase_fine p (recursion_from_All _ (phrase_numbers p) limits.numbers_fit, limits.nesting_fits)))

-- a phrase with no token over a limit is within the limits
pub none_over : (c : Category) (pieces : List Piece) (p : PlainPhrase) → Form c (tokens_of pieces) p
    → first_over pieces (phrase_opened_levels p) ≡ None → IsWithinLimits p
none_over c pieces p form none =
    let spelled = form_spelled c (tokens_of pieces) p form in
    let keeps = fine_phrase p (subst (λ ks. AllFine ks (phrase_opened_levels p)) spelled.2 (none_fine pieces (phrase_opened_levels p) none)) in
    record { numbers_fit = All-from_recursion _ (phrase_numbers p) keeps.0; nesting_fits = keeps.1 }
