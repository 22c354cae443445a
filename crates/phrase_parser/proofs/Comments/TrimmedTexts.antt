-- Trimmed texts: what stays of a text, that nothing more is trimmed, and that a comment's is a comment's text.
use Rattle.std.proofs.Common.{◌≡◌, ℕ, ◌+◌, Bool, true, false, List, [], ◌∷◌, ◌++◌, take, drop, reverse, refl, sym, ap, ◌∙◌, append_assoc}
use Rattle.std.specs.List.{list_all, prefix_len}
use Rattle.std.proofs.lemmas.Bool.{and_parts, cond-false, cond_both}
use Rattle.std.proofs.lemmas.List.{reverse-append, reverse-reverse, take-append-drop}
use Rattle.std.proofs.lemmas.List.Folds.{list_all-append}
use Rattle.plcs_base.specs.Byte.{is_blank, is_printable}
use Rattle.plcs_grammar.specs.Token.{begins_with}
use Rattle.plcs_grammar.specs.Cuts.{blanks, unblanked}
use Rattle.plcs_grammar.specs.TrimmedText.{trimmed}
use Rattle.plcs_grammar.specs.Comment.{IsCommentText}
use Rattle.phrase_parser.proofs.Tokens.ByteRuns.{run_none, run_ends, drop_one_more}

-- the text without the blanks at its front begins with its trimmed text
pub trimmed_first : (x : List ℕ) → (behind : List ℕ) × (unblanked x ≡ trimmed x ++ behind)
trimmed_first x =
    let turned = reverse (unblanked x) in (
      reverse (take (blanks turned) turned),
      sym (reverse-reverse (unblanked x)) ∙ ap (λ (z : List ℕ). reverse z) (sym (take-append-drop (blanks turned) turned))
          ∙ reverse-append (take (blanks turned) turned) (unblanked turned),
    )

-- a byte that is no blank stays, with all behind it
unblanked_keeps : (front : List ℕ) (byte : ℕ) (rest : List ℕ) → is_blank byte ≡ false
    → (left : List ℕ) × (unblanked (front ++ (byte ∷ rest)) ≡ left ++ (byte ∷ rest))
unblanked_keeps [] byte rest h =
    ([], ap (λ k. drop k (byte ∷ rest)) (cond-false (is_blank byte) (1 + prefix_len is_blank rest) 0 h))
unblanked_keeps (b ∷ front) byte rest h =
    cond_both (is_blank b) (1 + prefix_len is_blank (front ++ (byte ∷ rest))) 0
    (λ k. (left : List ℕ) × (drop k (b ∷ (front ++ (byte ∷ rest))) ≡ left ++ (byte ∷ rest)))
    (λ e. let r = unblanked_keeps front byte rest h in
    (r.0, drop_one_more b (front ++ (byte ∷ rest)) (prefix_len is_blank (front ++ (byte ∷ rest))) ∙ r.1))
    (λ e. (b ∷ front, refl))

-- two bytes that are no blanks stay side by side in the trimmed text
pub trimmed_keeps : (front : List ℕ) (a b : ℕ) (rest : List ℕ) → is_blank a ≡ false → is_blank b ≡ false
    → (left right : List ℕ) × (trimmed (front ++ (a ∷ b ∷ rest)) ≡ left ++ (a ∷ b ∷ right))
trimmed_keeps front a b rest h k =
    let r = unblanked_keeps front a (b ∷ rest) h in
    let turned : reverse (r.0 ++ (a ∷ b ∷ rest)) ≡ reverse rest ++ (b ∷ a ∷ reverse r.0) =
    reverse-append r.0 (a ∷ b ∷ rest) ∙ ap (λ z. z ++ reverse r.0) (reverse-append (a ∷ b ∷ []) rest)
    ∙ append_assoc (reverse rest) (b ∷ a ∷ []) (reverse r.0) in
    let q = unblanked_keeps (reverse rest) b (a ∷ reverse r.0) k in (
      r.0,
      reverse q.0,
      ap (λ z. reverse (unblanked (reverse z))) r.1 ∙ ap (λ z. reverse (unblanked z)) turned ∙ ap reverse q.1
          ∙ reverse-append q.0 (b ∷ a ∷ reverse r.0)
          ∙ ap (λ z. z ++ reverse q.0) (reverse-append (b ∷ a ∷ []) (reverse r.0) ∙ ap (λ z. z ++ (a ∷ b ∷ [])) (reverse-reverse r.0))
          ∙ append_assoc r.0 (a ∷ b ∷ []) (reverse q.0),
    )

-- the text is its trimmed text between blanks
pub surrounded : (x : List ℕ) → (left right : List ℕ) × (x ≡ left ++ (trimmed x ++ right))
surrounded x =
    let first = trimmed_first x in
    (take (blanks x) x, first.0, sym (take-append-drop (blanks x) x) ∙ ap (λ z. take (blanks x) x ++ z) first.1)

-- where a text begins with no byte of a class, so does each front of it
front_begins : (test : ℕ → Bool) (front behind : List ℕ) → begins_with test (front ++ behind) ≡ false → begins_with test front ≡ false
front_begins test [] behind h = refl
front_begins test (byte ∷ rest) behind h = h

-- a text that begins with no blank is left as it is
unblanked_same : (x : List ℕ) → begins_with is_blank x ≡ false → unblanked x ≡ x
unblanked_same x h = ap (λ (n : ℕ). drop n x) (run_none is_blank x h)

-- a trimmed text begins with no blank
trimmed_begins : (x : List ℕ) → begins_with is_blank (trimmed x) ≡ false
trimmed_begins x =
    let first = trimmed_first x in
    front_begins is_blank (trimmed x) first.0 (ap (λ (z : List ℕ). begins_with is_blank z) (sym first.1) ∙ run_ends is_blank x)

-- a trimmed text is its own trimmed text
pub trimmed_again : (x : List ℕ) → trimmed (trimmed x) ≡ trimmed x
trimmed_again x =
    let back = unblanked (reverse (unblanked x)) in
    ap (λ (z : List ℕ). reverse (unblanked (reverse z))) (unblanked_same (trimmed x) (trimmed_begins x))
    ∙ ap (λ (z : List ℕ). reverse (unblanked z)) (reverse-reverse back)
    ∙ ap (λ (z : List ℕ). reverse z) (unblanked_same back (run_ends is_blank (reverse (unblanked x))))

-- the bytes of a trimmed text are bytes of the text
trimmed_all : (test : ℕ → Bool) (x : List ℕ) → list_all test x ≡ true → list_all test (trimmed x) ≡ true
trimmed_all test x h =
    let first = trimmed_first x in
    let behind = and_parts (list_all test (take (blanks x) x)) (list_all test (unblanked x))
    (sym (list_all-append test (take (blanks x) x) (unblanked x)) ∙ ap (λ (z : List ℕ). list_all test z) (take-append-drop (blanks x) x) ∙ h) in
    (and_parts (list_all test (trimmed x)) (list_all test first.0)
    (sym (list_all-append test (trimmed x) first.0) ∙ ap (λ (z : List ℕ). list_all test z) (sym first.1) ∙ behind.1)).0

-- a comment's trimmed text is a comment's text
pub trimmed_comment : (x : List ℕ) → IsCommentText x → IsCommentText (trimmed x)
trimmed_comment x h =
    let same = trimmed_again x in
    record {
      printable = trimmed_all is_printable x h.printable;
      not_empty = λ e. h.not_empty (sym same ∙ e);
      no_placeholder = λ e. h.no_placeholder (sym same ∙ e);
      no_end = λ front back e. h.no_end front back (sym same ∙ e);
    }
