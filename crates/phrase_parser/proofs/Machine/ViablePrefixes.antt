-- Tokens that the machine takes can be finished to a phrase: what is open is closed, and what is wanted is added.
use Rattle.std.proofs.Common.{◌≡◌, refl, ℕ, pos, List, [], ◌∷◌, ◌++◌, Some, None, ap, sym, subst, ◌∙◌, append_assoc, append-nil, le_refl, lit≤}
use Rattle.plcs_grammar.specs.declared.category.Category.{Category}
use Rattle.plcs_grammar.specs.declared.item.Item.{Item}
use Rattle.plcs_grammar.specs.declared.sign.Sign.{Sign}
use Rattle.plcs_grammar.specs.Sign.{prefix_sign, infix_sign}
use Rattle.plcs_grammar.specs.Token.{Token}
use Rattle.plcs_grammar.specs.PlainPhrase.{PlainExpr, PlainExprs, PlainVarRef, PlainPhrase, category_of}
use Rattle.plcs_grammar.specs.Builtin.{builtin_name}
use Rattle.plcs_grammar.specs.PhraseForm.{Form, Begins}
use Rattle.phrase_parser.specs.Private.Machine.{Base, ParseStack, Role, ParseState, expr_push, shift_all, start_state, phrase_of_if}
use Rattle.phrase_parser.proofs.Machine.ExprSpelling.{spell, spell_reference, Fits, FitsReference}
use Rattle.phrase_parser.proofs.Machine.PhraseSpelling.{spell_name, spell_item, spell_call, spell_listed, spell_phrase, FitsPhrase, FitsItem, AnyName, form_from}
use Rattle.phrase_parser.proofs.Machine.Completeness.{complete, alive}
use Rattle.phrase_parser.proofs.Machine.ConsumedTokens.{spell_before, all_push, call_push, all_fit, call_fits, spell_each, listed_last, listed_fits, flat_base, flat_stack, flat_role, flat, hole, SoundBase, SoundStack, SoundRole, Sound, base_category, stack_category, role_category, state_category}
use Rattle.phrase_parser.proofs.Machine.Soundness.TakenTokens.{close, open_, regroup}
use Rattle.phrase_parser.proofs.Machine.Soundness.ClosedParentheses.{arguments_tokens}
use Rattle.phrase_parser.proofs.Machine.Soundness.ReadTokens.{has_read}

-- the token that is the sign of an assignment
abbrev equal : Token
equal = Token.sign Sign.Equal

-- a number, where any operand does
abbrev anything : PlainExpr
anything = PlainExpr.number (pos 0)

begins_by : (c : Category) (p : PlainPhrase) (ks more : List Token) → category_of p ≡ c → FitsPhrase p → ks ++ more ≡ spell_phrase p
    → Begins c ks
begins_by c p ks more e f s = (more, p, form_from c (ks ++ more) p e f s)

-- what begins a phrase begins it without its last tokens
begins_front : (c : Category) (xs ys : List Token) → Begins c (xs ++ ys) → Begins c xs
begins_front c xs ys h = (ys ++ h.0, h.1, subst (λ z. Form c z h.1) (append_assoc xs ys h.0) h.2)

begins_as : (c : Category) (xs ys : List Token) → xs ≡ ys → Begins c xs → Begins c ys
begins_as c xs ys e h = subst (Begins c) e h

-- a whole phrase begins itself
begins_whole : (c : Category) (p : PlainPhrase) (ks : List Token) → category_of p ≡ c → FitsPhrase p → ks ≡ spell_phrase p → Begins c ks
begins_whole c p ks e f s = begins_by c p ks [] e f (append-nil ks ∙ s)

-- a sound operand at the phrase's own expression begins a phrase
plug_base : (b : Base) (t : PlainExpr) → SoundBase b → Fits t 1 → Begins (base_category b) (flat_base b ++ spell t)
plug_base Base.condition t h f = begins_whole _ (PlainPhrase.condition t) (spell t) refl f refl
plug_base Base.expression t h f = begins_whole _ (PlainPhrase.expression t) (spell t) refl f refl
plug_base (Base.expressions done) t h f =
    begins_whole _ (PlainPhrase.expression_list (expr_push done t)) (spell_before done ++ spell t) refl (all_fit done t h f) (sym (all_push done t))
plug_base (Base.assigned reference) t h f =
    begins_whole _ (PlainPhrase.assignment reference t) ((spell_reference reference ++ (equal ∷ [])) ++ spell t) refl (h, f)
    (append_assoc (spell_reference reference) (equal ∷ []) (spell t))
plug_base (Base.target_subscript name) t h f =
    begins_by _ (PlainPhrase.assignment (PlainVarRef.subscripted name t) anything) (Token.name name ∷ open_ ∷ spell t)
    (close ∷ equal ∷ spell anything) refl (f, tt)
    (ap (λ z. Token.name name ∷ open_ ∷ z) (sym (append_assoc (spell t) (close ∷ []) (equal ∷ spell anything))))
plug_base (Base.variable_subscript done name) t h f =
    begins_by _ (PlainPhrase.variable_list (done ++ (PlainVarRef.subscripted name t ∷ [])))
    ((spell_each spell_reference done ++ (Token.name name ∷ open_ ∷ [])) ++ spell t) (close ∷ []) refl
    (listed_fits FitsReference done (PlainVarRef.subscripted name t) h f)
    (sym (regroup (spell_each spell_reference done) (Token.name name ∷ open_ ∷ []) (spell t) (close ∷ []))
    ∙ sym (listed_last spell_reference done (PlainVarRef.subscripted name t)))
plug_base (Base.call_arguments name done) t h f =
    begins_by _ (PlainPhrase.call name (expr_push done t)) (Token.name name ∷ open_ ∷ (spell_before done ++ spell t)) (close ∷ []) refl
    (call_fits (expr_push done t) (all_fit done t h f))
    (sym (call_push name done t ∙ arguments_tokens [] (Token.name name) done t))

-- a sound operand on a stack begins a phrase: all that is open is closed behind it
pub plug : (s : ParseStack) (t : PlainExpr) → SoundStack s → Fits t (hole s) → Begins (stack_category s) (flat_stack s ++ spell t)
plug (ParseStack.base b) t h f = plug_base b t h f
plug (ParseStack.prefix op s) t h f =
    begins_as _ _ _ (sym (append_assoc (flat_stack s) (Token.sign (prefix_sign op) ∷ []) (spell t))) (plug s (PlainExpr.unary op t) h f)
plug (ParseStack.left a op s) t h f =
    begins_as _ _ _
    (ap (λ z. flat_stack s ++ z) (sym (append_assoc (spell a) (Token.sign (infix_sign op) ∷ []) (spell t)))
    ∙ sym (append_assoc (flat_stack s) (spell a ++ (Token.sign (infix_sign op) ∷ [])) (spell t)))
    (plug s (PlainExpr.binary op a t) h.2 (h.0, h.1, f))
plug (ParseStack.parenthesis s) t h f =
    begins_front _ ((flat_stack s ++ (open_ ∷ [])) ++ spell t) (close ∷ [])
    (begins_as _ _ _ (regroup (flat_stack s) (open_ ∷ []) (spell t) (close ∷ [])) (plug s (PlainExpr.parenthesized t) h f))
plug (ParseStack.subscript name s) t h f =
    begins_front _ ((flat_stack s ++ (Token.name name ∷ open_ ∷ [])) ++ spell t) (close ∷ [])
    (begins_as _ _ _ (regroup (flat_stack s) (Token.name name ∷ open_ ∷ []) (spell t) (close ∷ []))
    (plug s (PlainExpr.variable (PlainVarRef.subscripted name t)) h.1 (h.0, f)))
plug (ParseStack.arguments function done s) t h f =
    begins_front _ ((flat_stack s ++ (Token.name (builtin_name function) ∷ open_ ∷ spell_before done)) ++ spell t) (close ∷ [])
    (begins_as _ _ _ (arguments_tokens (flat_stack s) (Token.name (builtin_name function)) done t)
    (plug s (PlainExpr.builtin function (expr_push done t)) h.1 (all_fit done t h.0 f)))

begins_by_role : (role : Role) (name : List ℕ) → SoundRole role
    → Begins (role_category role) (flat_role role ++ (Token.name name ∷ []))
begins_by_role Role.target name h =
    begins_by _ (PlainPhrase.assignment (PlainVarRef.simple name) anything) (Token.name name ∷ []) (equal ∷ spell anything) refl (tt, tt) refl
begins_by_role (Role.variables done) name h =
    begins_whole _ (PlainPhrase.variable_list (done ++ (PlainVarRef.simple name ∷ []))) (spell_each spell_reference done ++ (Token.name name ∷ []))
    refl (listed_fits FitsReference done (PlainVarRef.simple name) h tt) (sym (listed_last spell_reference done (PlainVarRef.simple name)))
begins_by_role Role.callee name h = begins_whole _ (PlainPhrase.call name PlainExprs.nil) (Token.name name ∷ []) refl tt refl
begins_by_role (Role.items done) name h =
    begins_whole _ (PlainPhrase.declared_list (done ++ (record { name = name; size = None } ∷ []))) (spell_each spell_item done ++ (Token.name name ∷ []))
    refl (listed_fits FitsItem done (record { name = name; size = None }) h tt)
    (sym (listed_last spell_item done (record { name = name; size = None })))
begins_by_role (Role.names done) name h =
    begins_whole _ (PlainPhrase.name_list (done ++ (name ∷ []))) (spell_each spell_name done ++ (Token.name name ∷ []))
    refl (listed_fits AnyName done name h tt) (sym (listed_last spell_name done name))
begins_by_role Role.variable name h = begins_whole _ (PlainPhrase.variable_name name) (Token.name name ∷ []) refl tt refl
begins_by_role Role.procedure name h = begins_whole _ (PlainPhrase.procedure_name name) (Token.name name ∷ []) refl tt refl

begins_sized : (done : List Item) (name : List ℕ) (n : ℕ) → Sound (ParseState.size_had done name n)
    → Begins (state_category (ParseState.size_had done name n)) (flat (ParseState.size_had done name n))
begins_sized done name n h =
    begins_by _ (PlainPhrase.declared_list (done ++ (record { name = name; size = Some n } ∷ []))) (flat (ParseState.size_had done name n)) (close ∷ [])
    refl (listed_fits FitsItem done (record { name = name; size = Some n }) h.1 h.0)
    (append_assoc (spell_each spell_item done) (Token.name name ∷ open_ ∷ Token.number n ∷ []) (close ∷ [])
    ∙ sym (listed_last spell_item done (record { name = name; size = Some n })))

-- what was read in a sound state begins a phrase
pub begins : (s : ParseState) → Sound s → Begins (state_category s) (flat s)
begins (ParseState.wanted s) h = begins_front _ (flat_stack s) (spell anything) (plug s anything h tt)
begins (ParseState.had s t) h = plug s t h.0 (h.1 (hole s))
begins (ParseState.name_wanted role) h = begins_front _ (flat_role role) (Token.name [] ∷ []) (begins_by_role role [] h)
begins (ParseState.name_had role name) h = begins_by_role role name h
begins (ParseState.target_had reference) h =
    begins_by _ (PlainPhrase.assignment reference anything) (spell_reference reference) (equal ∷ spell anything) refl (h, tt) refl
begins (ParseState.variable_had done) h = begins_whole _ (PlainPhrase.variable_list done) (spell_listed spell_reference done) refl h refl
begins (ParseState.call_had name passed) h = begins_whole _ (PlainPhrase.call name passed) (spell_call name passed) refl (call_fits passed h) refl
begins (ParseState.size_wanted done name) h =
    begins_front _ (flat (ParseState.size_wanted done name)) (Token.number 1 ∷ [])
    (begins_as _ _ _ (sym (append_assoc (spell_each spell_item done) (Token.name name ∷ open_ ∷ []) (Token.number 1 ∷ [])))
    (begins_sized done name 1 (le_refl _, h)))
begins (ParseState.size_had done name n) h = begins_sized done name n h
begins (ParseState.item_had done) h = begins_whole _ (PlainPhrase.declared_list done) (spell_listed spell_item done) refl h refl
begins ParseState.length_wanted h =
    begins_by _ (PlainPhrase.greatest_length 1) [] (Token.number 1 ∷ []) refl (le_refl _, lit≤ tt) refl
begins (ParseState.length_had n) h = begins_whole _ (PlainPhrase.greatest_length n) (Token.number n ∷ []) refl h refl

-- tokens that don't stop the machine begin a phrase of the category
pub viable : (c : Category) (ks : List Token) (s : ParseState) → shift_all ks (start_state c) ≡ Some s → Begins c ks
viable c ks s e =
    let r = has_read c ks s e in
    subst (λ d. Begins d ks) r.category (begins_as (state_category s) (flat s) ks r.tokens (begins s r.sound))

-- where the machine has stopped no phrase begins
pub stopped : (c : Category) (ks : List Token) → shift_all ks (start_state c) ≡ None → Begins c ks → ⊥
stopped c ks e h = let r = alive c ks h in let a = r.1 in absurd (cc)

-- where the machine reads no phrase the tokens are no phrase
pub no_form : (c : Category) (ks : List Token) → phrase_of_if (shift_all ks (start_state c)) ≡ None → (p : PlainPhrase) → Form c ks p → ⊥
no_form c ks e p h = let a = complete c ks p h in absurd (cc)
