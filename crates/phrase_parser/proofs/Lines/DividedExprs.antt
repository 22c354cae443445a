-- In the canonical text of an expression no divider of expressions begins.
use Rattle.std.proofs.Common.{◌≡◌, refl, ℕ, pos, negsuc, false, List, [], ◌∷◌, ◌++◌}
use Rattle.plcs_base.specs.Name.{IsName}
use Rattle.plcs_grammar.specs.declared.sign.Sign.{Sign}
use Rattle.plcs_grammar.specs.Builtin.{builtin_name}
use Rattle.plcs_grammar.specs.Sign.{sign_bytes, prefix_sign, infix_sign}
use Rattle.plcs_grammar.specs.Token.{Token}
use Rattle.plcs_grammar.specs.Level.{priority, tightest}
use Rattle.plcs_grammar.specs.PlainPhrase.{PlainExpr, PlainExprs, PlainVarRef}
use Rattle.plcs_grammar.specs.Canon.{canon, canon_reference, canon_list, canon_behind, parenthesized_bytes}
use Rattle.phrase_parser.proofs.Machine.ExprSpelling.{spell, spell_reference, spell_all, spell_behind, Fits, FitsReference, FitsAll, FitsBehind}
use Rattle.phrase_parser.proofs.Readings.CanonicalTokens.{AllWritable, writable_split, inner_writable, small_number}
use Rattle.phrase_parser.proofs.Lines.TextFronts.{Ends, HoldsAtTokens, front_more, expr_front}
use Rattle.phrase_parser.proofs.Lines.DividedTexts.{begins_here, Clear, passes_nothing, passes_append, IsApart, clear_blank, clear_text, clear_bit, clear_name, clear_number, clear_sign}

-- the divider doesn't begin at a blank before the text
abbrev pub Fresh : List ℕ → List ℕ → Type 0
Fresh divider y = begins_here divider (32 ∷ y) ≡ false

module _ (first : ℕ) (rest : List ℕ) (apart : IsApart first) (fronts : HoldsAtTokens (Fresh (first ∷ rest))) where
  -- the divider doesn't begin at a blank before an expression
  expr_fresh : (t : PlainExpr) (level : ℕ) → Fits t level → AllWritable (spell t) → (behind : List ℕ) → Ends behind
      → Fresh (first ∷ rest) (canon t ++ behind)
  expr_fresh t level fits writable behind ends = expr_front (Fresh (first ∷ rest)) fronts t level fits writable behind ends

  -- the divider doesn't begin at a blank before an expression with more behind it
  fresh_more : (x y behind : List ℕ) → Fresh (first ∷ rest) (x ++ (y ++ behind)) → Fresh (first ∷ rest) ((x ++ y) ++ behind)
  fresh_more x y behind h = front_more (Fresh (first ∷ rest)) fronts x y behind h

  -- the divider
  abbrev divider : List ℕ
  divider = first ∷ rest

  -- the divider begins nowhere in one text and then another, where it begins in neither
  pub clear_append : (x z y : List ℕ) → Clear divider x (z ++ y) → Clear divider z y → Clear divider (x ++ z) y
  clear_append x z y h k = passes_append divider false false false x z y h k

  -- the divider begins nowhere in a text in parentheses behind a name
  pub clear_called : (name x behind : List ℕ) → IsName name → Clear divider x (41 ∷ behind)
      → Clear divider (name ++ parenthesized_bytes x) behind
  clear_called name x behind named inner =
      clear_append name (parenthesized_bytes x) behind (clear_name first rest apart name (parenthesized_bytes x ++ behind) named)
      (clear_append (40 ∷ []) (x ++ (41 ∷ [])) behind (clear_sign first rest apart Sign.OpenParenthesis ((x ++ (41 ∷ [])) ++ behind))
      (clear_append x (41 ∷ []) behind inner (clear_sign first rest apart Sign.CloseParenthesis behind)))

  -- the divider begins nowhere in a text behind a blank
  pub clear_behind_blank : (x behind : List ℕ) → Fresh (first ∷ rest) (x ++ behind) → Clear divider x behind → Clear divider (32 ∷ x) behind
  clear_behind_blank x behind fresh inner = clear_append (32 ∷ []) x behind (clear_blank first rest (x ++ behind) fresh) inner

  -- the divider begins nowhere in a text behind a sign between blanks
  pub clear_behind_sign : (sign : Sign) (x behind : List ℕ) → Fresh (first ∷ rest) (x ++ behind) → Clear divider x behind
      → Clear divider (32 ∷ (sign_bytes sign ++ (32 ∷ x))) behind
  clear_behind_sign sign x behind fresh inner =
      clear_behind_blank (sign_bytes sign ++ (32 ∷ x)) behind
      (fresh_more (sign_bytes sign) (32 ∷ x) behind (fronts.at_sign sign ((32 ∷ x) ++ behind)))
      (clear_append (sign_bytes sign) (32 ∷ x) behind (clear_sign first rest apart sign ((32 ∷ x) ++ behind))
      (clear_behind_blank x behind fresh inner))

  -- behind an expression in a list stands a comma, or what stands behind the list
  behind_ends : (ts : PlainExprs) (behind : List ℕ) → Ends behind → Ends (canon_behind ts ++ behind)
  behind_ends PlainExprs.nil behind ends = ends
  behind_ends (PlainExprs.cons a more) behind ends = refl

  mutual
    -- the divider begins nowhere in an expression
    pub expr_clear : (t : PlainExpr) (level : ℕ) → Fits t level → AllWritable (spell t) → (behind : List ℕ) → Ends behind
        → Clear divider (canon t) behind
    expr_clear (PlainExpr.number (pos n)) level fits writable behind ends =
        clear_number first rest apart n behind (small_number n writable.0.1)
    expr_clear (PlainExpr.number (negsuc n)) level fits writable behind ends = absurd fits
    expr_clear (PlainExpr.text value) level fits writable behind ends = clear_text first rest apart value behind
    expr_clear (PlainExpr.bit value) level fits writable behind ends = clear_bit first rest apart value behind
    expr_clear (PlainExpr.variable reference) level fits writable behind ends = reference_clear reference fits.1 writable behind ends
    expr_clear (PlainExpr.unary op a) level fits writable behind ends =
        clear_append (sign_bytes (prefix_sign op)) (canon a) behind (clear_sign first rest apart (prefix_sign op) (canon a ++ behind))
        (expr_clear a tightest fits writable.1 behind ends)
    expr_clear (PlainExpr.binary op a b) level fits writable behind ends =
        let parts = writable_split (spell a) (Token.sign (infix_sign op) ∷ spell b) writable in
        let right = 32 ∷ (sign_bytes (infix_sign op) ++ (32 ∷ canon b)) in
        clear_append (canon a) right behind (expr_clear a (priority op) fits.1 parts.0 (right ++ behind) refl)
        (clear_behind_sign (infix_sign op) (canon b) behind (expr_fresh b _ fits.2 parts.1.1 behind ends)
        (expr_clear b _ fits.2 parts.1.1 behind ends))
    expr_clear (PlainExpr.builtin function arguments) level fits writable behind ends =
        clear_called (builtin_name function) (canon_list arguments) behind writable.0.0
        (list_clear arguments fits (inner_writable (spell_all arguments) writable.1) (41 ∷ behind) refl)
    expr_clear (PlainExpr.parenthesized a) level fits writable behind ends =
        let right = 32 ∷ 41 ∷ [] in
        let inner = inner_writable (spell a) writable in
        clear_append (40 ∷ []) (32 ∷ (canon a ++ right)) behind
        (clear_sign first rest apart Sign.OpenParenthesis ((32 ∷ (canon a ++ right)) ++ behind))
        (clear_behind_blank (canon a ++ right) behind (fresh_more (canon a) right behind (expr_fresh a 1 fits inner (right ++ behind) refl))
        (clear_append (canon a) right behind (expr_clear a 1 fits inner (right ++ behind) refl)
        (clear_behind_blank (41 ∷ []) behind (fronts.at_sign Sign.CloseParenthesis behind)
        (clear_sign first rest apart Sign.CloseParenthesis behind))))

    -- the divider begins nowhere in a variable
    pub reference_clear : (reference : PlainVarRef) → FitsReference reference → AllWritable (spell_reference reference) → (behind : List ℕ)
        → Ends behind → Clear divider (canon_reference reference) behind
    reference_clear (PlainVarRef.simple name) fits writable behind ends = clear_name first rest apart name behind writable.0.0
    reference_clear (PlainVarRef.subscripted name index) fits writable behind ends =
        clear_called name (canon index) behind writable.0.0
        (expr_clear index 1 fits (inner_writable (spell index) writable.1) (41 ∷ behind) refl)

    -- the divider begins nowhere in expressions joined by commas
    pub list_clear : (ts : PlainExprs) → FitsAll ts → AllWritable (spell_all ts) → (behind : List ℕ) → Ends behind
        → Clear divider (canon_list ts) behind
    list_clear PlainExprs.nil fits writable behind ends = absurd fits
    list_clear (PlainExprs.cons a more) fits writable behind ends =
        let parts = writable_split (spell a) (spell_behind more) writable in
        clear_append (canon a) (canon_behind more) behind
        (expr_clear a 1 fits.0 parts.0 (canon_behind more ++ behind) (behind_ends more behind ends))
        (behind_clear more fits.1 parts.1 behind ends)

    -- the divider begins nowhere in expressions that stand behind a comma each
    behind_clear : (ts : PlainExprs) → FitsBehind ts → AllWritable (spell_behind ts) → (behind : List ℕ) → Ends behind
        → Clear divider (canon_behind ts) behind
    behind_clear PlainExprs.nil fits writable behind ends = passes_nothing divider false behind
    behind_clear (PlainExprs.cons a more) fits writable behind ends =
        let parts = writable_split (spell a) (spell_behind more) writable.1 in
        let follows = behind_ends more behind ends in
        clear_append (44 ∷ []) (32 ∷ (canon a ++ canon_behind more)) behind
        (clear_sign first rest apart Sign.Comma ((32 ∷ (canon a ++ canon_behind more)) ++ behind))
        (clear_behind_blank (canon a ++ canon_behind more) behind
        (fresh_more (canon a) (canon_behind more) behind (expr_fresh a 1 fits.0 parts.0 (canon_behind more ++ behind) follows))
        (clear_append (canon a) (canon_behind more) behind (expr_clear a 1 fits.0 parts.0 (canon_behind more ++ behind) follows)
        (behind_clear more fits.1 parts.1 behind ends)))
