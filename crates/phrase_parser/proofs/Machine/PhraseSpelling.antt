-- The tokens of a phrase as a list, and what its parts keep.
use Rattle.std.proofs.Common.{◌≡◌, refl, ℕ, ◌≤◌, List, [], ◌∷◌, ◌++◌, Option, Some, None, ap, sym, subst, ◌∙◌, ap₂}
use Rattle.plcs_base.specs.Text.{longest_text}
use Rattle.plcs_grammar.specs.declared.category.Category.{Category}
use Rattle.plcs_grammar.specs.declared.item.Item.{Item}
use Rattle.plcs_grammar.specs.declared.sign.Sign.{Sign}
use Rattle.plcs_grammar.specs.Token.{Token}
use Rattle.plcs_grammar.specs.PlainPhrase.{PlainExprs, PlainPhrase, category_of}
use Rattle.plcs_grammar.specs.Level.{in_parentheses, IsReference, IsNameToken}
use Rattle.plcs_grammar.specs.ListForm.{IsListOf, IsMoreOf}
use Rattle.plcs_grammar.specs.PhraseForm.{Form, IsPhrase, IsCall, IsItem, IsSizedName}
use Rattle.phrase_parser.proofs.Machine.ExprSpelling.{spell, spell_reference, spell_all, Fits, FitsReference, FitsAll, spelled, spelled_reference, spelled_all, levelled, levelled_reference, levelled_all}

module _ {X : Type 0} (f : X → List Token) where
  -- the tokens of a list's elements, each behind a comma
  abbrev pub spell_more : List X → List Token
  spell_more [] = []
  spell_more (x ∷ xs) = Token.sign Sign.Comma ∷ (f x ++ spell_more xs)

  -- the tokens of a list's elements, joined by commas
  abbrev pub spell_listed : List X → List Token
  spell_listed [] = []
  spell_listed (x ∷ xs) = f x ++ spell_more xs

module _ {X : Type 0} (Fit : X → Type 0) where
  -- each element of a list keeps what it has to
  abbrev pub EachFits : List X → Type 0
  EachFits [] = Unit {0}
  EachFits (x ∷ xs) = Fit x × EachFits xs

  -- each element of a list keeps what it has to, and there is one
  abbrev pub FitsListed : List X → Type 0
  FitsListed [] = ⊥
  FitsListed (x ∷ xs) = Fit x × EachFits xs

module _ {X : Type 0} (Is : X → List Token → Type 0) (f : X → List Token) (Fit : X → Type 0)
    (reads : (x : X) (ks : List Token) → Is x ks → Fit x × (ks ≡ f x)) where
  spelled_more : (xs : List X) (ks : List Token) → IsMoreOf Is xs ks → EachFits Fit xs × (ks ≡ spell_more f xs)
  spelled_more [] ks h = (tt, h)
  spelled_more (x ∷ xs) ks h =
      let p = reads x h.0 h.3 in
      let q = spelled_more xs h.1 h.4 in
      ((p.0, q.0), h.2 ∙ ap₂ (λ a b. Token.sign Sign.Comma ∷ (a ++ b)) p.1 q.1)

  -- tokens that are a list are those of its elements, joined by commas
  pub spelled_listed : (xs : List X) (ks : List Token) → IsListOf Is xs ks → FitsListed Fit xs × (ks ≡ spell_listed f xs)
  spelled_listed [] ks h = absurd h
  spelled_listed (x ∷ xs) ks h =
      let p = reads x h.0 h.3 in
      let q = spelled_more xs h.1 h.4 in
      ((p.0, q.0), h.2 ∙ ap₂ (λ a b. a ++ b) p.1 q.1)

module _ {X : Type 0} (Is : X → List Token → Type 0) (f : X → List Token) (Fit : X → Type 0)
    (makes : (x : X) → Fit x → Is x (f x)) where
  more_is : (xs : List X) → EachFits Fit xs → IsMoreOf Is xs (spell_more f xs)
  more_is [] h = refl
  more_is (x ∷ xs) h = (f x, spell_more f xs, refl, makes x h.0, more_is xs h.1)

  -- the tokens of a list's elements, joined by commas, are the list
  pub listed_is : (xs : List X) → FitsListed Fit xs → IsListOf Is xs (spell_listed f xs)
  listed_is [] h = absurd h
  listed_is (x ∷ xs) h = (f x, spell_more f xs, refl, makes x h.0, more_is xs h.1)

-- the token of a name
abbrev pub spell_name : List ℕ → List Token
spell_name name = Token.name name ∷ []

-- a name has nothing to keep
abbrev pub AnyName : List ℕ → Type 0
AnyName name = Unit {0}

-- the tokens of a declared name
abbrev pub spell_sized : List ℕ → Option ℕ → List Token
spell_sized name None = spell_name name
spell_sized name (Some size) = Token.name name ∷ in_parentheses (Token.number size ∷ [])

-- the tokens of a declared item
abbrev pub spell_item : Item → List Token
spell_item item = spell_sized item.name item.size

-- the size of an array, if there is one, is at least 1
abbrev pub FitsSize : Option ℕ → Type 0
FitsSize None = Unit {0}
FitsSize (Some size) = 1 ≤ size

-- the size of a declared item, if it has one, is at least 1
abbrev pub FitsItem : Item → Type 0
FitsItem item = FitsSize item.size

-- the tokens of a call
abbrev pub spell_call : List ℕ → PlainExprs → List Token
spell_call name PlainExprs.nil = spell_name name
spell_call name (PlainExprs.cons a rest) = Token.name name ∷ in_parentheses (spell_all (PlainExprs.cons a rest))

-- a call's arguments keep their levels
abbrev pub FitsCall : PlainExprs → Type 0
FitsCall PlainExprs.nil = Unit {0}
FitsCall (PlainExprs.cons a rest) = FitsAll (PlainExprs.cons a rest)

-- the tokens of a phrase
abbrev pub spell_phrase : PlainPhrase → List Token
spell_phrase (PlainPhrase.assignment target value) = spell_reference target ++ (Token.sign Sign.Equal ∷ spell value)
spell_phrase (PlainPhrase.condition e) = spell e
spell_phrase (PlainPhrase.expression e) = spell e
spell_phrase (PlainPhrase.expression_list es) = spell_all es
spell_phrase (PlainPhrase.variable_list targets) = spell_listed spell_reference targets
spell_phrase (PlainPhrase.variable_name name) = spell_name name
spell_phrase (PlainPhrase.call name passed) = spell_call name passed
spell_phrase (PlainPhrase.declared_list items) = spell_listed spell_item items
spell_phrase (PlainPhrase.procedure_name name) = spell_name name
spell_phrase (PlainPhrase.name_list names) = spell_listed spell_name names
spell_phrase (PlainPhrase.greatest_length n) = Token.number n ∷ []
spell_phrase (PlainPhrase.comment bytes) = []

-- the parts of a phrase keep what they have to
abbrev pub FitsPhrase : PlainPhrase → Type 0
FitsPhrase (PlainPhrase.assignment target value) = FitsReference target × Fits value 1
FitsPhrase (PlainPhrase.condition e) = Fits e 1
FitsPhrase (PlainPhrase.expression e) = Fits e 1
FitsPhrase (PlainPhrase.expression_list es) = FitsAll es
FitsPhrase (PlainPhrase.variable_list targets) = FitsListed FitsReference targets
FitsPhrase (PlainPhrase.variable_name name) = Unit {0}
FitsPhrase (PlainPhrase.call name passed) = FitsCall passed
FitsPhrase (PlainPhrase.declared_list items) = FitsListed FitsItem items
FitsPhrase (PlainPhrase.procedure_name name) = Unit {0}
FitsPhrase (PlainPhrase.name_list names) = FitsListed AnyName names
FitsPhrase (PlainPhrase.greatest_length n) = (1 ≤ n) × (n ≤ longest_text)
FitsPhrase (PlainPhrase.comment bytes) = ⊥

spelled_sized : (name : List ℕ) (size : Option ℕ) (ks : List Token) → IsSizedName name size ks
    → FitsSize size × (ks ≡ spell_sized name size)
spelled_sized name None ks h = (tt, h)
spelled_sized name (Some size) ks h = h

sized_is : (name : List ℕ) (size : Option ℕ) → FitsSize size → IsSizedName name size (spell_sized name size)
sized_is name None f = refl
sized_is name (Some size) f = (f, refl)

spelled_call : (name : List ℕ) (ts : PlainExprs) (ks : List Token) → IsCall name ts ks → FitsCall ts × (ks ≡ spell_call name ts)
spelled_call name PlainExprs.nil ks h = (tt, h)
spelled_call name (PlainExprs.cons a rest) ks h =
    let r = spelled_all (PlainExprs.cons a rest) h.0 h.2 in
    (r.0, h.1 ∙ ap (λ z. Token.name name ∷ in_parentheses z) r.1)

call_is : (name : List ℕ) (ts : PlainExprs) → FitsCall ts → IsCall name ts (spell_call name ts)
call_is name PlainExprs.nil f = refl
call_is name (PlainExprs.cons a rest) f = (spell_all (PlainExprs.cons a rest), refl, levelled_all (PlainExprs.cons a rest) f)

-- tokens that are a phrase are its tokens, and its parts keep what they have to
pub spelled_phrase : (p : PlainPhrase) (ks : List Token) → IsPhrase p ks → FitsPhrase p × (ks ≡ spell_phrase p)
spelled_phrase (PlainPhrase.assignment target value) ks h =
    let p = spelled_reference target h.0 h.3 in
    let q = spelled value 1 h.1 h.4 in
    ((p.0, q.0), h.2 ∙ ap₂ (λ a b. a ++ (Token.sign Sign.Equal ∷ b)) p.1 q.1)
spelled_phrase (PlainPhrase.condition e) ks h = spelled e 1 ks h
spelled_phrase (PlainPhrase.expression e) ks h = spelled e 1 ks h
spelled_phrase (PlainPhrase.expression_list es) ks h = spelled_all es ks h
spelled_phrase (PlainPhrase.variable_list targets) ks h =
    spelled_listed IsReference spell_reference FitsReference spelled_reference targets ks h
spelled_phrase (PlainPhrase.variable_name name) ks h = (tt, h)
spelled_phrase (PlainPhrase.call name passed) ks h = spelled_call name passed ks h
spelled_phrase (PlainPhrase.declared_list items) ks h =
    spelled_listed IsItem spell_item FitsItem (λ item ks h. spelled_sized item.name item.size ks h) items ks h
spelled_phrase (PlainPhrase.procedure_name name) ks h = (tt, h)
spelled_phrase (PlainPhrase.name_list names) ks h =
    spelled_listed IsNameToken spell_name AnyName (λ name ks h. (tt, h)) names ks h
spelled_phrase (PlainPhrase.greatest_length n) ks h = ((h.0, h.1), h.2)
spelled_phrase (PlainPhrase.comment bytes) ks h = absurd h

-- the tokens of a phrase whose parts keep what they have to are the phrase
pub phrase_is : (p : PlainPhrase) → FitsPhrase p → IsPhrase p (spell_phrase p)
phrase_is (PlainPhrase.assignment target value) f =
    (spell_reference target, spell value, refl, levelled_reference target f.0, levelled value 1 f.1)
phrase_is (PlainPhrase.condition e) f = levelled e 1 f
phrase_is (PlainPhrase.expression e) f = levelled e 1 f
phrase_is (PlainPhrase.expression_list es) f = levelled_all es f
phrase_is (PlainPhrase.variable_list targets) f = listed_is IsReference spell_reference FitsReference levelled_reference targets f
phrase_is (PlainPhrase.variable_name name) f = refl
phrase_is (PlainPhrase.call name passed) f = call_is name passed f
phrase_is (PlainPhrase.declared_list items) f =
    listed_is IsItem spell_item FitsItem (λ item f. sized_is item.name item.size f) items f
phrase_is (PlainPhrase.procedure_name name) f = refl
phrase_is (PlainPhrase.name_list names) f = listed_is IsNameToken spell_name AnyName (λ name f. refl) names f
phrase_is (PlainPhrase.greatest_length n) f = (f.0, f.1, refl)
phrase_is (PlainPhrase.comment bytes) f = absurd f

-- the form of a category is a phrase of it that keeps what it has to, with its tokens
pub form_spelled : (c : Category) (ks : List Token) (p : PlainPhrase) → Form c ks p
    → (category_of p ≡ c) × FitsPhrase p × (ks ≡ spell_phrase p)
form_spelled c ks p h = let r = spelled_phrase p ks h.1 in (h.0, r.0, r.1)

-- a phrase that keeps what it has to is the form of its category, with its tokens
pub form_from : (c : Category) (ks : List Token) (p : PlainPhrase) → category_of p ≡ c → FitsPhrase p → ks ≡ spell_phrase p
    → Form c ks p
form_from c ks p e f s = (e, subst (λ z. IsPhrase p z) (sym s) (phrase_is p f))
