-- An expression without an offence comes to a value of its kind, or stops for a fault; so do variables where they are
-- used, and arguments.
use Rattle.std.specs.Prelude.{◌≡◌, ℤ, List, [], ◌∷◌, Option, Some, Ok}
use Rattle.std.proofs.Common.{ap, sym, ◌∙◌, subst}
use Rattle.plcs_base.specs.declared.declared.Declared.{Declared}
use Rattle.plcs_base.specs.declared.value.Kind.{Kind}
use Rattle.plcs_grammar.specs.PlainPhrase.{PlainExpr, PlainExprs, PlainVarRef}
use Rattle.template_tree.specs.Checks.Environment.{item_named, kind_of_type}
use Rattle.template_tree.specs.Checks.KindTable.{infix_takes, prefix_kind}
use Rattle.template_tree.specs.Checks.Verdict.{array_kind, builtin_found, infix_found, is_pair, kind_of, kinds_of, of_kind, reference_kind, then_found}
use Rattle.plcs_store.specs.declared.argument.Argument.{Argument}
use Rattle.plcs_store.specs.declared.frame.Frame.{Frame}
use Rattle.plcs_store.specs.BuiltinValue.{builtin_value}
use Rattle.plcs_store.specs.CellAt.{located, value_at}
use Rattle.plcs_store.specs.ExpressionValue.{argument_value, argument_values, expression_value, expression_values, name_of_reference, reference_location, subscript_value}
use Rattle.plcs_store.specs.Fits.{IsTarget, kind_of_value}
use Rattle.plcs_store.specs.Operator.{infix_value, on_number, prefix_value}
use Rattle.plcs_store.specs.Outcome.{Outcome, then_gives}
use Rattle.plcs_store.proofs.FittingSteps.Found.{array_item, found_both, found_then, infix_kinds, name_item, same_finding, wanted}
use Rattle.plcs_store.proofs.FittingSteps.Locations.{HasItems, located_so, read_so}
use Rattle.plcs_store.proofs.FittingSteps.Outcomes.{Gives, then_so}
use Rattle.plcs_store.proofs.FittingSteps.Values.{IsOf, builtin_so, infix_so, kinds, number_so, prefix_so}

-- the item of a variable where it is used
pub reference_item : (items : List Declared) (reference : PlainVarRef) (k : Kind) → reference_kind items reference ≡ Ok k
    → (item : Declared) × (item_named (name_of_reference reference) items ≡ Some item) × (kind_of_type item.ty ≡ k)
reference_item items (PlainVarRef.simple name) k e = name_item items name k e
reference_item items (PlainVarRef.subscripted name index) k e =
    let (index_kind, index_found, found) = found_then (then_found (kind_of items index) (of_kind Kind.Fixed)) (λ kind. array_kind items name) k e in
    array_item items name k found

-- an argument of a call is of the kind: a cell of the kind, or a value
abbrev pub IsArgument : List Frame → Kind → Argument → Type 0
IsArgument frames kind (Argument.Reference location) = IsTarget frames kind location
IsArgument frames kind (Argument.Dummy value) = IsOf kind value

-- arguments are of the kinds, one by one
abbrev pub AreArguments : List Frame → List Kind → List Argument → Type 0
AreArguments frames [] [] = Unit {0}
AreArguments frames [] (argument ∷ arguments) = ⊥
AreArguments frames (kind ∷ others) [] = ⊥
AreArguments frames (kind ∷ others) (argument ∷ arguments) = IsArgument frames kind argument × AreArguments frames others arguments

module _ (frames : List Frame) (items : List Declared) (has : HasItems frames items) where
  -- the location of a variable is of its kind, where its subscript comes to something
  pub located_kind : (reference : PlainVarRef) (k : Kind) → reference_kind items reference ≡ Ok k → (subscript : Option ℤ)
      → Gives (IsTarget frames k) (located frames (name_of_reference reference) subscript)
  located_kind reference k e subscript =
      let (item, there, kind) = reference_item items reference k e in
      subst (λ (one : Kind). Gives (IsTarget frames one) (located frames (name_of_reference reference) subscript)) kind
      (located_so frames items has (name_of_reference reference) subscript item there)

  mutual
    pub expression_so : (e : PlainExpr) (k : Kind) → kind_of items e ≡ Ok k → Gives (IsOf k) (expression_value frames e)
    expression_so (PlainExpr.number z) k is = same_finding Kind.Fixed k is
    expression_so (PlainExpr.text x) k is = same_finding Kind.Text k is
    expression_so (PlainExpr.bit b) k is = same_finding Kind.Bit k is
    expression_so (PlainExpr.variable reference) k is =
        then_so (λ subscript. Unit {0}) (IsOf k) (subscript_value frames reference)
        (λ subscript. then_gives (located frames (name_of_reference reference) subscript) (value_at frames))
        (subscript_so reference k is)
        (λ subscript any.
        then_so (IsTarget frames k) (IsOf k) (located frames (name_of_reference reference) subscript) (value_at frames)
        (located_kind reference k is subscript) (λ location target. read_so frames k location has.values target))
    expression_so (PlainExpr.unary op a) k is =
        let (inner, found, of) = found_then (kind_of items a) (of_kind (prefix_kind op)) k is in
        let kinds_are = wanted (prefix_kind op) inner k of in
        then_so (IsOf inner) (IsOf k) (expression_value frames a) (prefix_value op) (expression_so a inner found)
        (λ value kind.
        subst (λ (one : Kind). Gives (IsOf one) (prefix_value op value)) (sym kinds_are.0 ∙ kinds_are.1) (prefix_so op value (kind ∙ kinds_are.0)))
    expression_so (PlainExpr.binary op a b) k is =
        let (one, other, found, found_other, both) = found_both (kind_of items a) (kind_of items b) (infix_found op) k is in
        let (pair, gives) = infix_kinds op one other k both in
        then_so (IsOf one) (IsOf k) (expression_value frames a) (λ left. then_gives (expression_value frames b) (infix_value op left))
        (expression_so a one found)
        (λ left left_kind.
        then_so (IsOf other) (IsOf k) (expression_value frames b) (infix_value op left) (expression_so b other found_other)
        (λ right right_kind.
        subst (λ (kind : Kind). Gives (IsOf kind) (infix_value op left right)) gives
        (infix_so op left right
        (ap (λ (kind : Kind). is_pair (infix_takes op) kind (kind_of_value right)) left_kind
        ∙ (ap (λ (kind : Kind). is_pair (infix_takes op) one kind) right_kind ∙ pair)))))
    expression_so (PlainExpr.builtin function arguments) k is =
        let (found, all, gives) = found_then (kinds_of items arguments) (builtin_found function) k is in
        then_so (λ values. kinds values ≡ found) (IsOf k) (expression_values frames arguments) (builtin_value function)
        (expressions_so arguments found all)
        (λ values are. builtin_so function values k (ap (builtin_found function) are ∙ gives))
    expression_so (PlainExpr.parenthesized a) k is = expression_so a k is

    pub subscript_so : (reference : PlainVarRef) (k : Kind) → reference_kind items reference ≡ Ok k
        → Gives (λ subscript. Unit {0}) (subscript_value frames reference)
    subscript_so (PlainVarRef.simple name) k is = tt
    subscript_so (PlainVarRef.subscripted name index) k is =
        let (index_kind, index_found, found) = found_then (then_found (kind_of items index) (of_kind Kind.Fixed)) (λ kind. array_kind items name) k is in
        let (inner, inner_found, of) = found_then (kind_of items index) (of_kind Kind.Fixed) index_kind index_found in
        let kinds_are = wanted Kind.Fixed inner index_kind of in
        then_so (IsOf inner) (λ subscript. Unit {0}) (expression_value frames index) (on_number (λ z. Outcome.gives (Some z)))
        (expression_so index inner inner_found)
        (λ value kind. number_so (λ subscript. Unit {0}) (λ z. Outcome.gives (Some z)) value (kind ∙ kinds_are.0) (λ z. tt))

    pub expressions_so : (es : PlainExprs) (found : List Kind) → kinds_of items es ≡ Ok found
        → Gives (λ values. kinds values ≡ found) (expression_values frames es)
    expressions_so PlainExprs.nil found is = same_finding [] found is
    expressions_so (PlainExprs.cons a rest) found is =
        let (one, others, first, behind, both) =
        found_both (kind_of items a) (kinds_of items rest) (λ kind more. Ok (kind ∷ more)) found is in
        then_so (IsOf one) (λ values. kinds values ≡ found) (expression_value frames a)
        (λ value. then_gives (expression_values frames rest) (λ values. Outcome.gives (value ∷ values)))
        (expression_so a one first)
        (λ value kind.
        then_so (λ values. kinds values ≡ others) (λ values. kinds values ≡ found) (expression_values frames rest)
        (λ values. Outcome.gives (value ∷ values)) (expressions_so rest others behind)
        (λ values are.
        ap (λ (k : Kind). k ∷ kinds values) kind ∙ (ap (λ (ks : List Kind). one ∷ ks) are ∙ same_finding (one ∷ others) found both)))

  pub reference_so : (reference : PlainVarRef) (k : Kind) → reference_kind items reference ≡ Ok k
      → Gives (IsTarget frames k) (reference_location frames reference)
  reference_so reference k is =
      then_so (λ subscript. Unit {0}) (IsTarget frames k) (subscript_value frames reference) (located frames (name_of_reference reference))
      (subscript_so reference k is) (λ subscript any. located_kind reference k is subscript)

  dummy_so : (e : PlainExpr) (k : Kind) → kind_of items e ≡ Ok k
      → Gives (IsArgument frames k) (then_gives (expression_value frames e) (λ value. Outcome.gives (Argument.Dummy value)))
  dummy_so e k is =
      then_so (IsOf k) (IsArgument frames k) (expression_value frames e) (λ value. Outcome.gives (Argument.Dummy value)) (expression_so e k is)
      (λ value kind. kind)

  argument_so : (e : PlainExpr) (k : Kind) → kind_of items e ≡ Ok k → Gives (IsArgument frames k) (argument_value frames e)
  argument_so (PlainExpr.variable reference) k is =
      then_so (IsTarget frames k) (IsArgument frames k) (reference_location frames reference) (λ location. Outcome.gives (Argument.Reference location))
      (reference_so reference k is) (λ location target. target)
  argument_so other k is = dummy_so other k is

  pub arguments_so : (es : PlainExprs) (found : List Kind) → kinds_of items es ≡ Ok found → Gives (AreArguments frames found) (argument_values frames es)
  arguments_so PlainExprs.nil found is =
      subst (λ (ks : List Kind). AreArguments frames ks []) (same_finding [] found is) tt
  arguments_so (PlainExprs.cons a rest) found is =
      let (one, others, first, behind, both) =
      found_both (kind_of items a) (kinds_of items rest) (λ kind more. Ok (kind ∷ more)) found is in
      subst (λ (ks : List Kind). Gives (AreArguments frames ks) (argument_values frames (PlainExprs.cons a rest))) (same_finding (one ∷ others) found both)
      (then_so (IsArgument frames one) (AreArguments frames (one ∷ others)) (argument_value frames a)
      (λ value. then_gives (argument_values frames rest) (λ values. Outcome.gives (value ∷ values)))
      (argument_so a one first)
      (λ value kind.
      then_so (AreArguments frames others) (AreArguments frames (one ∷ others)) (argument_values frames rest)
      (λ values. Outcome.gives (value ∷ values)) (arguments_so rest others behind) (λ values are. (kind, are))))
