-- What the answers say of a text excludes each other.
use Rattle.std.proofs.Common.{◌≡◌, inl, inr, refl, ℕ, List, ◌++◌, Option, Some, None, Result, Ok, Err, ap, sym, subst, ◌∙◌, length, map}
use Rattle.plcs_grammar.specs.declared.category.Category.{Category}
use Rattle.plcs_grammar.specs.declared.category.Category.TheVariants.{Assignment, Condition, Expression, ExpressionList, VariableList, Variable, CallRef, DeclaredList, ProcedureName, NameList, Length, CommentText}
use Rattle.plcs_grammar.specs.declared.phrase.Phrase.{Phrase}
use Rattle.plcs_grammar.specs.Token.{Token}
use Rattle.plcs_grammar.specs.PlainPhrase.{PlainPhrase, plain_phrase}
use Rattle.plcs_grammar.specs.Cuts.{Piece, tokens_of}
use Rattle.plcs_grammar.specs.PhraseForm.{Form, Begins}
use Rattle.plcs_grammar.specs.Limit.{IsWithinLimits}
use Rattle.plcs_grammar.specs.OpenedLevel.{phrase_opened_levels}
use Rattle.plcs_grammar.specs.OverLimit.{OverLimit, first_over}
use Rattle.plcs_grammar.specs.Reads.{IsCutAs, HasReading, Outline, Reads, IsOver}
use Rattle.plcs_grammar.specs.SyntaxOffset.{GoesWrong, SyntaxAt}
use Rattle.phrase_parser.specs.declared.fault.PhraseFault.{PhraseFault}
use Rattle.phrase_parser.specs.declared.fault.PhraseFault.TheVariants.{Syntax, NumberTooLarge, TooDeep, OutOfMemory}
use Rattle.phrase_parser.specs.Private.Machine.{shift_all, start_state, phrase_of_if}
use Rattle.phrase_parser.specs.Private.Recognizer.{Shape, first_shape}
use Rattle.phrase_parser.specs.Private.Findings.{Finding, seen_of, findings}
use Rattle.phrase_parser.specs.Answers.{Answers, Only, OnlyFault, over_fault}
use Rattle.phrase_parser.proofs.Tokens.OneCut.{one_cut}
use Rattle.phrase_parser.proofs.Machine.Completeness.{complete, unique}
use Rattle.phrase_parser.proofs.Machine.MachineRuns.{run_none}
use Rattle.phrase_parser.proofs.Machine.Limits.{within}
use Rattle.phrase_parser.proofs.Findings.FindingsComplete.{finds_wrong}

-- no tokens are the phrase of a comment, or begin one
pub comment_no_form : (c : Category) (ks : List Token) (p : PlainPhrase) → c ≡ CommentText → Form c ks p → ⊥
comment_no_form c ks p e h =
    let a = ap (λ z. phrase_of_if (shift_all ks (start_state z))) (sym e) ∙ complete c ks p h in
    let b = run_none ks in
    absurd (cc)

comment_no_begins : (c : Category) (ks : List Token) → c ≡ CommentText → Begins c ks → ⊥
comment_no_begins c ks e h = comment_no_form c (ks ++ h.0) h.1 e h.2

comment_not_wrong : (c : Category) (pieces : List Piece) (end : ℕ) (stop : Option ℕ) (place : ℕ) → c ≡ CommentText
    → GoesWrong c pieces end stop place → ⊥
comment_not_wrong c pieces end stop _ e (GoesWrong.at_token front piece back whole b n) = comment_no_begins c (tokens_of front) e b
comment_not_wrong c pieces end _ _ e (GoesWrong.at_byte at b) = comment_no_begins c (tokens_of pieces) e b
comment_not_wrong c pieces end _ _ e (GoesWrong.at_end b n) = comment_no_begins c (tokens_of pieces) e b

pub no_shape : (c : Category) → first_shape c ≡ None → c ≡ CommentText
no_shape Assignment e = absurd (cc)
no_shape Condition e = absurd (cc)
no_shape Expression e = absurd (cc)
no_shape ExpressionList e = absurd (cc)
no_shape VariableList e = absurd (cc)
no_shape Variable e = absurd (cc)
no_shape CallRef e = absurd (cc)
no_shape DeclaredList e = absurd (cc)
no_shape ProcedureName e = absurd (cc)
no_shape NameList e = absurd (cc)
no_shape Length e = absurd (cc)
no_shape CommentText e = refl

-- a text is cut as one phrase
one_phrase : (c : Category) (x : List ℕ) (ps qs : List Piece) (p q : PlainPhrase) → IsCutAs c x ps p → IsCutAs c x qs q → p ≡ q
one_phrase c x ps qs p q a b =
    let same = one_cut ps qs 0 x None None a.cuts b.cuts in
    unique c (tokens_of ps) p q a.form (subst (λ pieces. Form c (tokens_of pieces) q) (sym same.0) b.form)

-- a text has one reading
pub one_outline : (c : Category) (x : List ℕ) (p q : PlainPhrase) → HasReading c x p → HasReading c x q → p ≡ q
one_outline c x p q (inl (ps, a)) (inl (qs, b)) = one_phrase c x ps qs p q a b
one_outline c x p q (inl (ps, a)) (inr b) = absurd (comment_no_form c (tokens_of ps) p b.category_is a.form)
one_outline c x p q (inr a) (inl (qs, b)) = absurd (comment_no_form c (tokens_of qs) q a.category_is b.form)
one_outline c x p q (inr a) (inr b) = a.phrase_is ∙ sym b.phrase_is

pub one_reading : (c : Category) (x : List ℕ) (p q : PlainPhrase) → Reads c x p → Reads c x q → p ≡ q
one_reading c x p q a b = one_outline c x p q a.0 b.0

-- one thing goes past a limit first
pub one_over : (c : Category) (x : List ℕ) (f g : OverLimit) → IsOver c x f → IsOver c x g → f ≡ g
one_over c x f g (ps, p, a, e) (qs, q, b, k) =
    let cut = one_cut ps qs 0 x None None a.cuts b.cuts in
    let phrase = one_phrase c x ps qs p q a b in
    let same : first_over ps (phrase_opened_levels p) ≡ first_over qs (phrase_opened_levels q) =
    ap (λ z. first_over z (phrase_opened_levels p)) cut.0 ∙ ap (λ z. first_over qs (phrase_opened_levels z)) phrase in
    cc

-- what reads goes past no limit
pub reads_not_over : (c : Category) (x : List ℕ) (p : PlainPhrase) (f : OverLimit) → Reads c x p → IsOver c x f → ⊥
reads_not_over c x p f (inl (ps, a), w) (qs, q, b, k) =
    let phrase = one_phrase c x qs ps q p b a in
    let none = within c qs q b.form (subst IsWithinLimits (sym phrase) w) in
    absurd (cc)
reads_not_over c x p f (inr a, w) (qs, q, b, k) = comment_no_form c (tokens_of qs) q a.category_is b.form

pub reads_outline : (c : Category) (x : List ℕ) (p : PlainPhrase) → Reads c x p → Outline c x
reads_outline c x p h = (p, h.0)

pub over_outline : (c : Category) (x : List ℕ) (f : OverLimit) → IsOver c x f → Outline c x
over_outline c x f (ps, p, a, e) = (p, inl (ps, a))

-- the pieces of a text go wrong at one place
one_place : (c : Category) (ps qs : List Piece) (s t : Option ℕ) (end a b : ℕ) (shape : Option Shape) → first_shape c ≡ shape
    → ps ≡ qs → s ≡ t → GoesWrong c ps end s a → GoesWrong c qs end t b → a ≡ b
one_place c ps qs s t end a b None e p k g h = absurd (comment_not_wrong c ps end s a (no_shape c e) g)
one_place c ps qs s t end a b (Some shape) e p k g h =
    let first = finds_wrong c ps s end shape a e g in
    let second = finds_wrong c qs t end shape b e h in
    let joined : findings (map seen_of ps) s end shape None ≡ findings (map seen_of qs) t end shape None =
    ap (λ z. findings (map seen_of z) s end shape None) p ∙ ap (λ z. findings (map seen_of qs) z end shape None) k in
    let same : Finding.syntax_at a ≡ Finding.syntax_at b = sym first ∙ joined ∙ second in
    cc

pub one_wrong : (c : Category) (x : List ℕ) (a b : ℕ) → SyntaxAt c x a → SyntaxAt c x b → a ≡ b
one_wrong c x a b (inl (ps, s, cut, g)) (inl (qs, t, other, h)) =
    let same = one_cut ps qs 0 x s t cut other in
    one_place c ps qs s t (length x) a b (first_shape c) refl same.0 same.1 g h
one_wrong c x a b (inl (ps, s, cut, g)) (inr k) = absurd (comment_not_wrong c ps (length x) s a k.0 g)
one_wrong c x a b (inr k) (inl (qs, t, other, h)) = absurd (comment_not_wrong c qs (length x) t b k.0 h)
one_wrong c x a b (inr j) (inr k) = let e = sym j.1 ∙ k.1 in cc

-- each fact about a text forces its answer
pub only : (c : Category) (x : List ℕ) (answer : Result Phrase PhraseFault) (p : PlainPhrase) → Answers c x answer → Reads c x p → Only answer p
only c x (Ok phrase) p says h = one_reading c x (plain_phrase phrase) p says h
only c x (Err (Syntax at)) p says h = absurd (says.0 (reads_outline c x p h))
only c x (Err (NumberTooLarge at)) p says h = absurd (reads_not_over c x p (OverLimit.number_too_large at) h says)
only c x (Err (TooDeep at)) p says h = absurd (reads_not_over c x p (OverLimit.too_deep at) h says)
only c x (Err OutOfMemory) p says h = refl

pub only_over : (c : Category) (x : List ℕ) (answer : Result Phrase PhraseFault) (over : OverLimit) → Answers c x answer
    → IsOver c x over → OnlyFault answer (over_fault over)
only_over c x (Ok phrase) over says h = reads_not_over c x (plain_phrase phrase) over says h
only_over c x (Err (Syntax at)) over says h = absurd (says.0 (over_outline c x over h))
only_over c x (Err (NumberTooLarge at)) over says h = inl (ap over_fault (one_over c x (OverLimit.number_too_large at) over says h))
only_over c x (Err (TooDeep at)) over says h = inl (ap over_fault (one_over c x (OverLimit.too_deep at) over says h))
only_over c x (Err OutOfMemory) over says h = inr refl

pub only_syntax : (c : Category) (x : List ℕ) (answer : Result Phrase PhraseFault) (place : ℕ) → Answers c x answer
    → (Outline c x → ⊥) → SyntaxAt c x place → OnlyFault answer (Syntax place)
only_syntax c x (Ok phrase) place says none h = none (reads_outline c x (plain_phrase phrase) says)
only_syntax c x (Err (Syntax at)) place says none h = inl (ap (λ n. Syntax n) (one_wrong c x at place says.1 h))
only_syntax c x (Err (NumberTooLarge at)) place says none h = absurd (none (over_outline c x (OverLimit.number_too_large at) says))
only_syntax c x (Err (TooDeep at)) place says none h = absurd (none (over_outline c x (OverLimit.too_deep at) says))
only_syntax c x (Err OutOfMemory) place says none h = inr refl
