-- The tokens of each phrase are read as the phrase, which is the only one.
use Rattle.std.proofs.Common.{◌≡◌, refl, ℕ, ◌&&◌, leb, le-leb, List, [], ◌∷◌, ◌++◌, Option, Some, None, ap, sym, subst, ◌∙◌, le_refl, lit≤}
use Rattle.std.specs.Option.{option_or}
use Rattle.std.specs.List.{AllByRecursion}
use Rattle.std.proofs.lemmas.Bool.{cond-true, and_from}
use Rattle.plcs_base.specs.Text.{longest_text}
use Rattle.plcs_grammar.specs.declared.category.Category.{Category}
use Rattle.plcs_grammar.specs.declared.item.Item.{Item}
use Rattle.plcs_grammar.specs.declared.sign.Sign.{Sign}
use Rattle.plcs_grammar.specs.Token.{Token}
use Rattle.plcs_grammar.specs.Cuts.{Piece, tokens_of}
use Rattle.plcs_grammar.specs.PlainPhrase.{PlainExpr, PlainExprs, PlainVarRef, PlainPhrase, category_of}
use Rattle.plcs_grammar.specs.PhraseForm.{Form, Begins}
use Rattle.plcs_grammar.specs.OpenedLevel.{opened_levels as levels, reference_opened_levels as reference_levels, opened_levels_of_all as levels_of_all, opened_levels_of_more_references, phrase_opened_levels}
use Rattle.plcs_grammar.specs.OverLimit.{first_over, over_at}
use Rattle.phrase_parser.specs.Private.Machine.{Base, ParseStack, ParseState, Role, Operand, shift, shift_all, start_state, shift_close_stack, phrase_of_stack, phrase_of, phrase_of_if}
use Rattle.phrase_parser.specs.Private.MachineLevels.{stack_depth, opens, machine_levels}
use Rattle.phrase_parser.proofs.Machine.AllOfLists.{all_append}
use Rattle.phrase_parser.proofs.Machine.ExprSpelling.{spell, spell_reference, Fits, FitsReference, FitsAll}
use Rattle.phrase_parser.proofs.Machine.PhraseSpelling.{spell_phrase, spell_name, spell_item, spell_sized, FitsPhrase, FitsItem, FitsSize, FitsCall, AnyName, FitsListed, form_spelled}
use Rattle.phrase_parser.proofs.Machine.MachineRuns.{Goes, there, by, joins, goes_runs, goes_opens, run_append, run_none}
use Rattle.phrase_parser.proofs.Machine.ListedItems.{Listing, levels_more, levels_listed, reads_listed}
use Rattle.phrase_parser.proofs.Machine.ExprsRead.{Holds, arrives, arrives_all}

-- each number of a list is 0
abbrev pub NoLevels : List ℕ → Type 0
NoLevels levels = AllByRecursion (λ level. level ≡ 0) levels

no_levels_append : (xs ys : List ℕ) → NoLevels xs → NoLevels ys → NoLevels (xs ++ ys)
no_levels_append xs ys xs_none ys_none = all_append (λ level. level ≡ 0) xs ys xs_none ys_none

-- tokens that open no level are over no other limit than those of which no level is told
pub over_none : (pieces : List Piece) (ls : List ℕ) → NoLevels ls → first_over pieces ls ≡ first_over pieces []
over_none [] ls no_levels = refl
over_none (piece ∷ pieces) [] no_levels = refl
over_none (piece ∷ pieces) (l ∷ ls) no_levels =
    ap (λ n. option_or (over_at piece n) (first_over pieces ls)) no_levels.0
    ∙ ap (λ r. option_or (over_at piece 0) r) (over_none pieces ls no_levels.1)

-- the tokens lead from the first state of the phrase's category to one that ends as the phrase
pub record Reaches (p : PlainPhrase) : Type 0 where
  pub first : ParseState
  pub end : ParseState
  pub traced : List ℕ
  pub begins : start_state (category_of p) ≡ Some first
  pub goes : Goes first (spell_phrase p) traced end
  pub ends : phrase_of end ≡ Some p
  pub agrees : (pieces : List Piece) → first_over pieces traced ≡ first_over pieces (phrase_opened_levels p)

-- an expression that stands in no other is read
at_base : (b : Base) (t : PlainExpr) → Fits t 1
    → (z : ParseState) × Goes (ParseState.wanted (ParseStack.base b)) (spell t) (levels t (stack_depth (ParseStack.base b))) z
    × (phrase_of z ≡ phrase_of_stack (ParseStack.base b) t) × (shift z (Token.sign Sign.CloseParenthesis) ≡ shift_close_stack (ParseStack.base b) t)
    × (opens z (Token.sign Sign.CloseParenthesis) ≡ 0)
at_base b t fits =
    let reached = arrives t 1 (ParseStack.base b) (lit≤ tt) fits tt in (
      ParseState.had reached.stack reached.top,
      reached.goes,
      ap (λ (o : Operand). phrase_of_stack o.0 o.1) (reached.same 1 (le_refl _)),
      ap (λ (o : Operand). shift_close_stack o.0 o.1) (reached.same 1 (le_refl _)),
      refl,
    )

-- a target is read, and `=` and what follows behind it
behind_target : (reference : PlainVarRef) (ks : List Token) (ls : List ℕ) (z : ParseState) → FitsReference reference
    → Goes (ParseState.wanted (ParseStack.base (Base.assigned reference))) ks ls z
    → Goes (ParseState.name_wanted Role.target) (spell_reference reference ++ (Token.sign Sign.Equal ∷ ks))
    (reference_levels reference 0 ++ (0 ∷ ls)) z
behind_target (PlainVarRef.simple name) ks ls z fits value_goes = by refl refl (by refl refl value_goes)
behind_target (PlainVarRef.subscripted name index) ks ls z fits value_goes =
    let reached = at_base (Base.target_subscript name) index fits in
    by refl refl (by refl refl (joins (joins reached.1 (by reached.3 reached.4 there)) (by refl refl value_goes)))

-- how variables are listed
abbrev variable_has : List PlainVarRef → PlainVarRef → ParseState
variable_has done (PlainVarRef.simple name) = ParseState.name_had (Role.variables done) name
variable_has done (PlainVarRef.subscripted name index) = ParseState.variable_had (done ++ (PlainVarRef.subscripted name index ∷ []))

-- the levels that a variable of a list opens
abbrev variable_levels : PlainVarRef → List ℕ
variable_levels reference = reference_levels reference 0

variable_reads : (done : List PlainVarRef) (reference : PlainVarRef) → FitsReference reference
    → Goes (ParseState.name_wanted (Role.variables done)) (spell_reference reference) (variable_levels reference)
    (variable_has done reference)
variable_reads done (PlainVarRef.simple name) fits = by refl refl there
variable_reads done (PlainVarRef.subscripted name index) fits =
    let reached = at_base (Base.variable_subscript done name) index fits in
    by refl refl (by refl refl (joins reached.1 (by reached.3 reached.4 there)))

variable_comma : (done : List PlainVarRef) (reference : PlainVarRef)
    → shift (variable_has done reference) (Token.sign Sign.Comma)
    ≡ Some (ParseState.name_wanted (Role.variables (done ++ (reference ∷ []))))
variable_comma done (PlainVarRef.simple name) = refl
variable_comma done (PlainVarRef.subscripted name index) = refl

variable_opens : (done : List PlainVarRef) (reference : PlainVarRef)
    → opens (variable_has done reference) (Token.sign Sign.Comma) ≡ 0
variable_opens done (PlainVarRef.simple name) = refl
variable_opens done (PlainVarRef.subscripted name index) = refl

variable_ends : (done : List PlainVarRef) (reference : PlainVarRef)
    → phrase_of (variable_has done reference) ≡ Some (PlainPhrase.variable_list (done ++ (reference ∷ [])))
variable_ends done (PlainVarRef.simple name) = refl
variable_ends done (PlainVarRef.subscripted name index) = refl

-- variables are read as a list
abbrev variables_listing : Listing PlainVarRef spell_reference variable_levels FitsReference
variables_listing = record {
  wants = λ done. ParseState.name_wanted (Role.variables done);
  has = variable_has;
  reads = variable_reads;
  comma = variable_comma;
  none = variable_opens;
}

variables_levels : (targets : List PlainVarRef) → levels_more variable_levels targets ≡ opened_levels_of_more_references targets
variables_levels [] = refl
variables_levels (reference ∷ rest) = ap (λ z. 0 ∷ (variable_levels reference ++ z)) (variables_levels rest)

-- how declared names are listed
abbrev item_has_sized : List Item → List ℕ → Option ℕ → ParseState
item_has_sized done name None = ParseState.name_had (Role.items done) name
item_has_sized done name (Some size) = ParseState.item_had (done ++ (record { name = name; size = Some size } ∷ []))

-- the state after a declared name, with a size or without one
abbrev item_has : List Item → Item → ParseState
item_has done item = item_has_sized done item.name item.size

-- the levels that a declared name opens, with a size or without one: none
abbrev sized_levels : Option ℕ → List ℕ
sized_levels None = 0 ∷ []
sized_levels (Some size) = 0 ∷ 0 ∷ 0 ∷ 0 ∷ []

-- the levels that a declared item opens: none
abbrev item_levels : Item → List ℕ
item_levels item = sized_levels item.size

sized_reads : (done : List Item) (name : List ℕ) (size : Option ℕ) → FitsSize size
    → Goes (ParseState.name_wanted (Role.items done)) (spell_sized name size) (sized_levels size) (item_has_sized done name size)
sized_reads done name None fits = by refl refl there
sized_reads done name (Some size) fits =
    by refl refl (by refl refl (by (cond-true (leb 1 size) _ _ (le-leb 1 size fits)) refl (by refl refl there)))

sized_comma : (done : List Item) (name : List ℕ) (size : Option ℕ)
    → shift (item_has_sized done name size) (Token.sign Sign.Comma)
    ≡ Some (ParseState.name_wanted (Role.items (done ++ (record { name = name; size = size } ∷ []))))
sized_comma done name None = refl
sized_comma done name (Some size) = refl

sized_opens : (done : List Item) (name : List ℕ) (size : Option ℕ)
    → opens (item_has_sized done name size) (Token.sign Sign.Comma) ≡ 0
sized_opens done name None = refl
sized_opens done name (Some size) = refl

sized_ends : (done : List Item) (name : List ℕ) (size : Option ℕ)
    → phrase_of (item_has_sized done name size) ≡ Some (PlainPhrase.declared_list (done ++ (record { name = name; size = size } ∷ [])))
sized_ends done name None = refl
sized_ends done name (Some size) = refl

-- declared items are read as a list
abbrev items_listing : Listing Item spell_item item_levels FitsItem
items_listing = record {
  wants = λ done. ParseState.name_wanted (Role.items done);
  has = item_has;
  reads = λ done item. sized_reads done item.name item.size;
  comma = λ done item. sized_comma done item.name item.size;
  none = λ done item. sized_opens done item.name item.size;
}

sized_none : (size : Option ℕ) → NoLevels (sized_levels size)
sized_none None = (refl, tt)
sized_none (Some size) = (refl, (refl, (refl, (refl, tt))))

-- how names are listed
abbrev name_levels : List ℕ → List ℕ
name_levels name = 0 ∷ []

-- names are read as a list
abbrev names_listing : Listing (List ℕ) spell_name name_levels AnyName
names_listing = record {
  wants = λ done. ParseState.name_wanted (Role.names done);
  has = λ done name. ParseState.name_had (Role.names done) name;
  reads = λ done name fits. by refl refl there;
  comma = λ done name. refl;
  none = λ done name. refl;
}

module _ {X : Type 0} (g : X → List ℕ) (opens_none : (x : X) → NoLevels (g x)) where
  more_none : (xs : List X) → NoLevels (levels_more g xs)
  more_none [] = tt
  more_none (x ∷ xs) = (refl, no_levels_append (g x) (levels_more g xs) (opens_none x) (more_none xs))

  listed_none : (xs : List X) → NoLevels (levels_listed g xs)
  listed_none [] = tt
  listed_none (x ∷ xs) = no_levels_append (g x) (levels_more g xs) (opens_none x) (more_none xs)

reaches_expression : (p : PlainPhrase) (b : Base) (t : PlainExpr) → Fits t 1 → start_state (category_of p) ≡ Some (ParseState.wanted (ParseStack.base b))
    → spell_phrase p ≡ spell t → phrase_of_stack (ParseStack.base b) t ≡ Some p → stack_depth (ParseStack.base b) ≡ 0 → phrase_opened_levels p ≡ levels t 0
    → Reaches p
reaches_expression p b t fits begins tokens ends zero opens =
    let reached = at_base b t fits in
    record {
      first = ParseState.wanted (ParseStack.base b);
      end = reached.0;
      traced = levels t (stack_depth (ParseStack.base b));
      begins = begins;
      goes = subst (λ ks. Goes (ParseState.wanted (ParseStack.base b)) ks (levels t (stack_depth (ParseStack.base b))) reached.0) (sym tokens) reached.1;
      ends = reached.2 ∙ ends;
      agrees = λ pieces. ap (λ d. first_over pieces (levels t d)) zero ∙ ap (first_over pieces) (sym opens);
    }

reaches_variables : (targets : List PlainVarRef) → FitsListed FitsReference targets → Reaches (PlainPhrase.variable_list targets)
reaches_variables [] fits = absurd fits
reaches_variables (reference ∷ rest) fits =
    let reached = reads_listed spell_reference variable_levels FitsReference variables_listing (reference ∷ rest) fits in
    record {
      first = ParseState.name_wanted (Role.variables []);
      end = variable_has reached.front reached.last;
      traced = levels_listed variable_levels (reference ∷ rest);
      begins = refl;
      goes = reached.goes;
      ends = variable_ends reached.front reached.last ∙ ap (λ z. Some (PlainPhrase.variable_list z)) reached.whole;
      agrees = λ pieces. ap (λ z. first_over pieces (variable_levels reference ++ z)) (variables_levels rest);
    }

reaches_call : (name : List ℕ) (passed : PlainExprs) → FitsCall passed → Reaches (PlainPhrase.call name passed)
reaches_call name PlainExprs.nil fits = record {
  first = ParseState.name_wanted Role.callee;
  end = ParseState.name_had Role.callee name;
  traced = 0 ∷ [];
  begins = refl;
  goes = by refl refl there;
  ends = refl;
  agrees = λ pieces. refl;
}
reaches_call name (PlainExprs.cons a rest) fits =
    let frame : PlainExprs → ParseStack = λ done. ParseStack.base (Base.call_arguments name done) in
    let holds : Holds frame 1 = record { ends = λ done t. refl; comma = λ done t. refl; blocks = λ done. tt; deep = λ done. refl } in
    let reached = arrives_all (PlainExprs.cons a rest) frame 1 holds PlainExprs.nil fits in
    record {
      first = ParseState.name_wanted Role.callee;
      end = ParseState.call_had name (PlainExprs.cons a rest);
      traced = 0 ∷ 1 ∷ (levels_of_all (PlainExprs.cons a rest) 1 ++ (0 ∷ []));
      begins = refl;
      goes = by refl refl (by refl refl (joins reached.goes
          (by (ap (λ (o : Operand). shift_close_stack o.0 o.1) reached.same ∙ ap (λ z. Some (ParseState.call_had name z)) reached.whole) refl there)));
      ends = refl;
      agrees = λ pieces. refl;
    }

reaches_expressions : (es : PlainExprs) → FitsAll es → Reaches (PlainPhrase.expression_list es)
reaches_expressions es fits =
    let frame : PlainExprs → ParseStack = λ done. ParseStack.base (Base.expressions done) in
    let holds : Holds frame 0 = record { ends = λ done t. refl; comma = λ done t. refl; blocks = λ done. tt; deep = λ done. refl } in
    let reached = arrives_all es frame 0 holds PlainExprs.nil fits in
    record {
      first = ParseState.wanted (frame PlainExprs.nil);
      end = ParseState.had reached.stack reached.top;
      traced = levels_of_all es 0;
      begins = refl;
      goes = reached.goes;
      ends = ap (λ (o : Operand). phrase_of_stack o.0 o.1) reached.same ∙ ap (λ z. Some (PlainPhrase.expression_list z)) reached.whole;
      agrees = λ pieces. refl;
    }

-- each phrase whose parts keep what they have to is read
pub reaches : (p : PlainPhrase) → FitsPhrase p → Reaches p
reaches (PlainPhrase.assignment target value) fits =
    let reached = at_base (Base.assigned target) value fits.1 in
    record {
      first = ParseState.name_wanted Role.target;
      end = reached.0;
      traced = reference_levels target 0 ++ (0 ∷ levels value 0);
      begins = refl;
      goes = behind_target target (spell value) (levels value 0) reached.0 fits.0 reached.1;
      ends = reached.2;
      agrees = λ pieces. refl;
    }
reaches (PlainPhrase.condition e) fits = reaches_expression (PlainPhrase.condition e) Base.condition e fits refl refl refl refl refl
reaches (PlainPhrase.expression e) fits = reaches_expression (PlainPhrase.expression e) Base.expression e fits refl refl refl refl refl
reaches (PlainPhrase.expression_list es) fits = reaches_expressions es fits
reaches (PlainPhrase.variable_list targets) fits = reaches_variables targets fits
reaches (PlainPhrase.variable_name name) fits = record {
  first = ParseState.name_wanted Role.variable;
  end = ParseState.name_had Role.variable name;
  traced = 0 ∷ [];
  begins = refl;
  goes = by refl refl there;
  ends = refl;
  agrees = λ pieces. over_none pieces (0 ∷ []) (refl, tt);
}
reaches (PlainPhrase.call name passed) fits = reaches_call name passed fits
reaches (PlainPhrase.declared_list items) fits =
    let reached = reads_listed spell_item item_levels FitsItem items_listing items fits in
    record {
      first = ParseState.name_wanted (Role.items []);
      end = item_has reached.front reached.last;
      traced = levels_listed item_levels items;
      begins = refl;
      goes = reached.goes;
      ends = sized_ends reached.front reached.last.name reached.last.size ∙ ap (λ z. Some (PlainPhrase.declared_list z)) reached.whole;
      agrees = λ pieces. over_none pieces (levels_listed item_levels items) (listed_none item_levels (λ item. sized_none item.size) items);
    }
reaches (PlainPhrase.procedure_name name) fits = record {
  first = ParseState.name_wanted Role.procedure;
  end = ParseState.name_had Role.procedure name;
  traced = 0 ∷ [];
  begins = refl;
  goes = by refl refl there;
  ends = refl;
  agrees = λ pieces. over_none pieces (0 ∷ []) (refl, tt);
}
reaches (PlainPhrase.name_list names) fits =
    let reached = reads_listed spell_name name_levels AnyName names_listing names fits in
    record {
      first = ParseState.name_wanted (Role.names []);
      end = ParseState.name_had (Role.names reached.front) reached.last;
      traced = levels_listed name_levels names;
      begins = refl;
      goes = reached.goes;
      ends = ap (λ z. Some (PlainPhrase.name_list z)) reached.whole;
      agrees = λ pieces. over_none pieces (levels_listed name_levels names) (listed_none name_levels (λ name. (refl, tt)) names);
    }
reaches (PlainPhrase.greatest_length n) fits = record {
  first = ParseState.length_wanted;
  end = ParseState.length_had n;
  traced = 0 ∷ [];
  begins = refl;
  goes = by (cond-true (leb 1 n && leb n longest_text) _ _ (and_from (leb 1 n) (leb n longest_text) (le-leb 1 n fits.0) (le-leb n longest_text fits.1))) refl there;
  ends = refl;
  agrees = λ pieces. over_none pieces (0 ∷ []) (refl, tt);
}
reaches (PlainPhrase.comment bytes) fits = absurd fits

-- where the machine comes to over the tokens of a phrase, and the levels that it opens
runs_form : (c : Category) (ks : List Token) (p : PlainPhrase) → Form c ks p
    → (z : ParseState) × (shift_all ks (start_state c) ≡ Some z) × (phrase_of z ≡ Some p)
    × ((pieces : List Piece) → first_over pieces (machine_levels ks (start_state c)) ≡ first_over pieces (phrase_opened_levels p))
runs_form c ks p form =
    let spelled = form_spelled c ks p form in
    let reached = reaches p spelled.1 in
    let from : start_state c ≡ Some reached.first = sym (ap start_state spelled.0) ∙ reached.begins in (
      reached.end,
      ap (λ s. shift_all ks s) from ∙ ap (λ z. shift_all z (Some reached.first)) spelled.2 ∙ goes_runs reached.goes,
      reached.ends,
      λ pieces. ap (λ s. first_over pieces (machine_levels ks s)) from ∙ ap (λ z. first_over pieces (machine_levels z (Some reached.first))) spelled.2
          ∙ ap (first_over pieces) (goes_opens reached.goes) ∙ reached.agrees pieces,
    )

-- the tokens of a phrase are read as the phrase
pub complete : (c : Category) (ks : List Token) (p : PlainPhrase) → Form c ks p → phrase_of_if (shift_all ks (start_state c)) ≡ Some p
complete c ks p form = let reached = runs_form c ks p form in ap phrase_of_if reached.1 ∙ reached.2

-- by the levels that the machine opens, the first token over a limit is the phrase's
pub traced_over : (c : Category) (pieces : List Piece) (p : PlainPhrase) → Form c (tokens_of pieces) p
    → first_over pieces (machine_levels (tokens_of pieces) (start_state c)) ≡ first_over pieces (phrase_opened_levels p)
traced_over c pieces p form = (runs_form c (tokens_of pieces) p form).3 pieces

-- tokens are one phrase of a category at most
pub unique : (c : Category) (ks : List Token) (p q : PlainPhrase) → Form c ks p → Form c ks q → p ≡ q
unique c ks p q p_form q_form = let reads_p = complete c ks p p_form in let reads_q = complete c ks q q_form in cc

runs_before : (more : List Token) (s : Option ParseState) (z : ParseState) → shift_all more s ≡ Some z → (y : ParseState) × (s ≡ Some y)
runs_before more None z ends = let stopped = run_none more in absurd (cc)
runs_before more (Some y) z ends = (y, refl)

-- tokens that begin a phrase don't stop the machine
pub alive : (c : Category) (ks : List Token) → Begins c ks → (s : ParseState) × (shift_all ks (start_state c) ≡ Some s)
alive c ks begun =
    let reached = runs_form c (ks ++ begun.0) begun.1 begun.2 in
    runs_before begun.0 (shift_all ks (start_state c)) reached.0 (sym (run_append ks begun.0 (start_state c)) ∙ reached.1)
