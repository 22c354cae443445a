-- A part of a line ends at the divider that stands behind it.
use Rattle.std.proofs.Common.{◌≡◌, inl, inr, refl, ℕ, Bool, false, ◌&&◌, not, List, [], ◌∷◌, ◌++◌, drop, length, Option, Some, None, sym, ap, subst, ◌∙◌, append_assoc}
use Rattle.std.specs.Prelude.{decimal, codes}
use Rattle.std.proofs.lemmas.Bool.{and_parts, cond_both}
use Rattle.std.proofs.lemmas.List.{append-nil}
use Rattle.std.proofs.lemmas.Option.{same_Some, none-some}
use Rattle.plcs_grammar.specs.declared.category.Category.{Category}
use Rattle.plcs_grammar.specs.declared.category.Category.TheVariants.{CommentText}
use Rattle.plcs_grammar.specs.declared.item.Item.{Item}
use Rattle.plcs_grammar.specs.declared.sign.Sign.{Sign}
use Rattle.plcs_grammar.specs.Token.{Token}
use Rattle.plcs_grammar.specs.PlainPhrase.{PlainPhrase, category_of}
use Rattle.plcs_grammar.specs.Placeholder.{placeholder}
use Rattle.plcs_grammar.specs.Canon.{more_joined, joined, canon_sized, canon_item, parenthesized_bytes, Canon, IsWellFormed}
use Rattle.phrase_parser.specs.LineParts.{with_front, is_quoted_behind, cut_from, cut_at, Divides, IsPartOfLine}
use Rattle.phrase_parser.proofs.Machine.PhraseSpelling.{spell_more, spell_listed, spell_sized, spell_item}
use Rattle.phrase_parser.proofs.Readings.CanonicalTokens.{AllWritable, writable_split, inner_writable, small_number}
use Rattle.phrase_parser.proofs.Readings.CanonicalText.{IsWritable, cut_writable}
use Rattle.phrase_parser.proofs.Lines.DividedTexts.{begins_here, Clear, passes_nothing, passes_append, clear_blank, clear_name, clear_number, clear_sign}
use Rattle.phrase_parser.proofs.Lines.DividedExprs.{expr_clear}
use Rattle.phrase_parser.proofs.Lines.DividerWords.{blank_apart, colon_apart, begins_is, to_apart, by_apart, parenthesis_before_name}

-- ---- declared names: a divider that begins with a blank and a parenthesis
module _ (rest : List ℕ) where
  -- the divider
  abbrev behind_names : List ℕ
  behind_names = 32 ∷ 41 ∷ rest

  -- the divider begins nowhere in one text and then another, where it begins in neither
  clear_append : (x z y : List ℕ) → Clear behind_names x (z ++ y) → Clear behind_names z y → Clear behind_names (x ++ z) y
  clear_append x z y h k = passes_append behind_names false false false x z y h k

  sized_clear : (name : List ℕ) (size : Option ℕ) → AllWritable (spell_sized name size) → (behind : List ℕ)
      → Clear behind_names (canon_sized name size) behind
  sized_clear name None writable behind = clear_name 32 (41 ∷ rest) blank_apart name behind writable.0.0
  sized_clear name (Some size) writable behind =
      let inner = inner_writable (Token.number size ∷ []) writable.1 in
      clear_append name (parenthesized_bytes (decimal size)) behind
      (clear_name 32 (41 ∷ rest) blank_apart name (parenthesized_bytes (decimal size) ++ behind) writable.0.0)
      (clear_append (40 ∷ []) (decimal size ++ (41 ∷ [])) behind
      (clear_sign 32 (41 ∷ rest) blank_apart Sign.OpenParenthesis ((decimal size ++ (41 ∷ [])) ++ behind))
      (clear_append (decimal size) (41 ∷ []) behind
      (clear_number 32 (41 ∷ rest) blank_apart size (41 ∷ behind) (small_number size inner.0.1))
      (clear_sign 32 (41 ∷ rest) blank_apart Sign.CloseParenthesis behind)))

  sized_fresh : (name : List ℕ) (size : Option ℕ) → AllWritable (spell_sized name size) → (behind : List ℕ)
      → begins_here (41 ∷ rest) (canon_sized name size ++ behind) ≡ false
  sized_fresh name None writable behind = parenthesis_before_name rest name behind writable.0.0
  sized_fresh name (Some size) writable behind =
      subst (λ (x : List ℕ). begins_here (41 ∷ rest) x ≡ false) (sym (append_assoc name (parenthesized_bytes (decimal size)) behind))
      (parenthesis_before_name rest name (parenthesized_bytes (decimal size) ++ behind) writable.0.0)

  -- the divider begins nowhere in declared items, each behind a comma
  more_clear : (items : List Item) → AllWritable (spell_more spell_item items) → (behind : List ℕ)
      → Clear behind_names (more_joined canon_item items) behind
  more_clear [] writable behind = passes_nothing behind_names false behind
  more_clear (item ∷ items) writable behind =
      let parts = writable_split (spell_item item) (spell_more spell_item items) writable.1 in
      let text = canon_item item ++ more_joined canon_item items in
      clear_append (44 ∷ []) (32 ∷ text) behind (clear_sign 32 (41 ∷ rest) blank_apart Sign.Comma ((32 ∷ text) ++ behind))
      (clear_append (32 ∷ []) text behind
      (clear_blank 32 (41 ∷ rest) (text ++ behind)
      (subst (λ (x : List ℕ). begins_here (41 ∷ rest) x ≡ false) (sym (append_assoc (canon_item item) (more_joined canon_item items) behind))
      (sized_fresh item.name item.size parts.0 (more_joined canon_item items ++ behind))))
      (clear_append (canon_item item) (more_joined canon_item items) behind
      (sized_clear item.name item.size parts.0 (more_joined canon_item items ++ behind))
      (more_clear items parts.1 behind)))

  -- the divider begins nowhere in declared items joined by commas
  items_clear : (items : List Item) → AllWritable (spell_listed spell_item items) → (behind : List ℕ)
      → Clear behind_names (joined canon_item items) behind
  items_clear [] writable behind = passes_nothing behind_names false behind
  items_clear (item ∷ items) writable behind =
      let parts = writable_split (spell_item item) (spell_more spell_item items) writable in
      clear_append (canon_item item) (more_joined canon_item items) behind
      (sized_clear item.name item.size parts.0 (more_joined canon_item items ++ behind))
      (more_clear items parts.1 behind)

-- ---- each divider in its category
-- a divider begins nowhere in the phrase that it stands behind
phrase_clear : (p : PlainPhrase) (divider : List ℕ) → Divides (category_of p) divider → IsWritable p → (y : List ℕ)
    → Clear divider (Canon p) (divider ++ y)
phrase_clear (PlainPhrase.assignment target value) divider d writable y = absurd (elim d [ ])
phrase_clear (PlainPhrase.condition e) divider d writable y = absurd (elim d [ ])
phrase_clear (PlainPhrase.expression e) _ Divides.limit writable y =
    expr_clear 32 (84 ∷ 79 ∷ 32 ∷ []) blank_apart to_apart e 1 writable.fits writable.tokens (32 ∷ 84 ∷ 79 ∷ 32 ∷ y) refl
phrase_clear (PlainPhrase.expression e) _ Divides.step writable y =
    expr_clear 32 (66 ∷ 89 ∷ 32 ∷ []) blank_apart by_apart e 1 writable.fits writable.tokens (32 ∷ 66 ∷ 89 ∷ 32 ∷ y) refl
phrase_clear (PlainPhrase.expression_list es) divider d writable y = absurd (elim d [ ])
phrase_clear (PlainPhrase.variable_list targets) divider d writable y = absurd (elim d [ ])
phrase_clear (PlainPhrase.variable_name name) _ Divides.first_value writable y =
    clear_name 32 (61 ∷ 32 ∷ []) blank_apart name _ writable.tokens.0.0
phrase_clear (PlainPhrase.call name arguments) divider d writable y = absurd (elim d [ ])
phrase_clear (PlainPhrase.declared_list items) _ Divides.declared writable y = items_clear (32 ∷ []) items writable.tokens _
phrase_clear (PlainPhrase.declared_list items) _ Divides.character writable y =
    items_clear (drop 2 (codes " ) CHARACTER ( ")) items writable.tokens _
phrase_clear (PlainPhrase.procedure_name name) _ Divides.procedure writable y =
    clear_name 58 (drop 1 (codes ": PROCEDURE")) colon_apart name _ writable.tokens.0.0
phrase_clear (PlainPhrase.procedure_name name) _ Divides.parameters writable y =
    clear_name 58 (drop 1 (codes ": PROCEDURE ( ")) colon_apart name _ writable.tokens.0.0
phrase_clear (PlainPhrase.name_list names) divider d writable y = absurd (elim d [ ])
phrase_clear (PlainPhrase.greatest_length n) _ Divides.varying writable y =
    clear_number 32 (drop 1 (codes " ) VARYING;")) blank_apart n _ (small_number n writable.tokens.0.1)
phrase_clear (PlainPhrase.comment bytes) divider d writable y = absurd (elim d [ ])

-- a text that begins with a divider is cut there
cut_here : (c : Category) (divider : List ℕ) → Divides c divider → (y : List ℕ) → cut_at divider (divider ++ y) ≡ Some ([], y)
cut_here _ _ Divides.first_value y = refl
cut_here _ _ Divides.limit y = refl
cut_here _ _ Divides.step y = refl
cut_here _ _ Divides.declared y = refl
cut_here _ _ Divides.character y = refl
cut_here _ _ Divides.varying y = refl
cut_here _ _ Divides.procedure y = refl
cut_here _ _ Divides.parameters y = refl

-- a placeholder ends at each divider of its category
placeholder_cut : (c : Category) (divider : List ℕ) → Divides c divider → (y : List ℕ)
    → cut_at divider (placeholder c ++ (divider ++ y)) ≡ Some (placeholder c, y)
placeholder_cut _ _ Divides.first_value y = refl
placeholder_cut _ _ Divides.limit y = refl
placeholder_cut _ _ Divides.step y = refl
placeholder_cut _ _ Divides.declared y = refl
placeholder_cut _ _ Divides.character y = refl
placeholder_cut _ _ Divides.varying y = refl
placeholder_cut _ _ Divides.procedure y = refl
placeholder_cut _ _ Divides.parameters y = refl

-- no divider stands behind a comment's text
comment_undivided : (c : Category) (divider : List ℕ) → Divides c divider → c ≡ CommentText → ⊥
comment_undivided _ _ Divides.first_value e = absurd (cc)
comment_undivided _ _ Divides.limit e = absurd (cc)
comment_undivided _ _ Divides.step e = absurd (cc)
comment_undivided _ _ Divides.declared e = absurd (cc)
comment_undivided _ _ Divides.character e = absurd (cc)
comment_undivided _ _ Divides.varying e = absurd (cc)
comment_undivided _ _ Divides.procedure e = absurd (cc)
comment_undivided _ _ Divides.parameters e = absurd (cc)

-- the canonical text of a well-formed phrase ends at each divider of its category
phrase_cut : (c : Category) (divider : List ℕ) → Divides c divider → (p : PlainPhrase) → IsWellFormed c p → (y : List ℕ)
    → cut_at divider (Canon p ++ (divider ++ y)) ≡ Some (Canon p, y)
phrase_cut c divider d p (inl (pieces, cut), limits) y =
    let writable = cut_writable c (Canon p) pieces p cut limits in
    let mine = subst (λ (a : Category). Divides a divider) (sym cut.form.0) d in
    phrase_clear p divider mine writable y ∙ ap (with_front (Canon p)) (cut_here c divider d y)
    ∙ ap (λ (front : List ℕ). Some (front, y)) (append-nil (Canon p))
phrase_cut c divider d p (inr comment, limits) y = absurd (comment_undivided c divider d comment.category_is)

-- a part of a line ends at each divider of its category
pub part_cut : (c : Category) (divider x y : List ℕ) → Divides c divider → IsPartOfLine c x
    → cut_at divider (x ++ (divider ++ y)) ≡ Some (x, y)
part_cut c divider x y d (inl (p, formed, is)) =
    subst (λ (z : List ℕ). cut_at divider (z ++ (divider ++ y)) ≡ Some (z, y)) (sym is) (phrase_cut c divider d p formed y)
part_cut c divider x y d (inr is) =
    subst (λ (z : List ℕ). cut_at divider (z ++ (divider ++ y)) ≡ Some (z, y)) (sym is) (placeholder_cut c divider d y)

-- what stands before a divider and behind it are told by the whole text
pub parts_tell : (c : Category) (divider x y z w : List ℕ) → Divides c divider → IsPartOfLine c x → IsPartOfLine c z
    → x ++ (divider ++ y) ≡ z ++ (divider ++ w) → (x ≡ z) × (y ≡ w)
parts_tell c divider x y z w d a b same =
    let cut = same_Some (x, y) (z, w)
    (sym (part_cut c divider x y d a) ∙ ap (cut_at divider) same ∙ part_cut c divider z w d b) in
    (ap (λ (parts : List ℕ × List ℕ). parts.0) cut, ap (λ (parts : List ℕ × List ℕ). parts.1) cut)

-- ---- what is cut
front_parts : (byte : ℕ) (o : Option (List ℕ × List ℕ)) (x y : List ℕ) → with_front (byte ∷ []) o ≡ Some (x, y)
    → (z : List ℕ) × (x ≡ byte ∷ z) × (o ≡ Some (z, y))
front_parts byte None x y h = absurd (none-some (x, y) h)
front_parts byte (Some parts) x y h =
    let same = same_Some (byte ∷ parts.0, parts.1) (x, y) h in (
      parts.0,
      sym (ap (λ (both : List ℕ × List ℕ). both.0) same),
      ap (λ (behind : List ℕ). Some (parts.0, behind)) (ap (λ (both : List ℕ × List ℕ). both.1) same),
    )

cut_from_joins : (inside : Bool) (divider text x y : List ℕ) → cut_from inside divider text ≡ Some (x, y) → text ≡ x ++ (divider ++ y)
cut_from_joins inside divider [] x y h = absurd (none-some (x, y) h)
cut_from_joins inside divider (byte ∷ rest) x y h =
    cond_both (not inside && begins_here divider (byte ∷ rest)) (Some ([], drop (length divider) (byte ∷ rest)))
    (with_front (byte ∷ []) (cut_from (is_quoted_behind inside byte) divider rest))
    (λ (o : Option (List ℕ × List ℕ)). o ≡ Some (x, y) → byte ∷ rest ≡ x ++ (divider ++ y))
    (λ here e.
    let same = same_Some ([], drop (length divider) (byte ∷ rest)) (x, y) e in
    begins_is divider (byte ∷ rest) (and_parts (not inside) (begins_here divider (byte ∷ rest)) here).1
    ∙ ap (λ (both : List ℕ × List ℕ). both.0 ++ (divider ++ both.1)) same)
    (λ not_here e.
    let (z, front, further) = front_parts byte (cut_from (is_quoted_behind inside byte) divider rest) x y e in
    ap (λ (text : List ℕ). byte ∷ text) (cut_from_joins (is_quoted_behind inside byte) divider rest z y further)
    ∙ ap (λ (text : List ℕ). text ++ (divider ++ y)) (sym front))
    h

-- a text that is cut is what stands before the divider, the divider, and what stands behind it
pub cut_joins : (divider text x y : List ℕ) → cut_at divider text ≡ Some (x, y) → text ≡ x ++ (divider ++ y)
cut_joins divider text x y h = cut_from_joins false divider text x y h
