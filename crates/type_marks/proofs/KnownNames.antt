-- A phrase has one verdict under two lists of items that agree on its names.
use Rattle.std.proofs.Common.{◌≡◌, ℕ, true, cond, List, [], ◌∷◌, ◌++◌, Option, Some, None, option_map, refl, ap, subst, ◌∙◌}
use Rattle.std.specs.Prelude.{bytes_eq, count_by, flat_map, is_some, nat_lt, ok_or, option_and_then, unwrap_or, Ok, Err}
use Rattle.std.specs.List.{list_any}
use Rattle.std.specs.Option.{option_or}
use Rattle.std.proofs.lemmas.List.Concat.{flat_map-cons}
use Rattle.std.proofs.lemmas.List.Folds.{list_any-append}
use Rattle.std.proofs.lemmas.Slice.Eq.{bytes_eq-Decides}
use Rattle.std.proofs.lemmas.Bool.{or_right, or_left}
use Rattle.plcs_base.specs.declared.declared.Declared.{Declared}
use Rattle.plcs_base.specs.declared.mark.MarkKind.{MarkKind}
use Rattle.plcs_base.specs.declared.value.Kind.{Kind}
use Rattle.plcs_grammar.specs.Builtin.{is_builtin_name}
use Rattle.plcs_grammar.specs.PlainPhrase.{PlainExpr, PlainExprs, PlainPhrase, PlainVarRef}
use Rattle.template_tree.specs.Checks.ProgramMaps.{items_in}
use Rattle.decl_table.specs.PlainDecls.{PlainDecls}
use Rattle.template_tree.specs.Checks.Environment.{items_inside, item_named, parameter_kind, parameter_kinds, procedure_at, scalar_kind}
use Rattle.template_tree.specs.Checks.KindTable.{prefix_kind}
use Rattle.template_tree.specs.Checks.Marks.{surroundings}
use Rattle.template_tree.specs.Checks.Mention.{mentioned, names_in, names_in_all, reference_names}
use Rattle.template_tree.specs.Programs.PlainTree.{Forest, PlainNode}
use Rattle.template_tree.specs.Checks.Verdict.{array_kind, both_found, builtin_found, call_offence, cell_found, infix_found, kind_of, kinds_of, name_kind, of_kind, offence_in, parameter_offence, parameters_offence, reference_kind, references_offence, scalar_found, then_found, verdict}
use Rattle.decl_table.specs.Knowledge.{KnowsItems}
use Rattle.type_marks.specs.Private.MarksView.{known_surroundings}

-- two lists of items agree on the names
abbrev pub Agree : (items others : List Declared) → List (List ℕ) → Type 0
Agree items others names = (name : List ℕ) → list_any (bytes_eq name) names ≡ true → item_named name items ≡ item_named name others

module _ (items others : List Declared) where
  -- they agree on the first of the names, and on the others
  pub on_first : (name : List ℕ) (names : List (List ℕ)) → Agree items others (name ∷ names) → item_named name items ≡ item_named name others
  on_first name names agree =
      agree name (or_left (bytes_eq name name) (list_any (bytes_eq name) names) ((bytes_eq-Decides name name).1 refl))

  pub on_rest : (name : List ℕ) (names : List (List ℕ)) → Agree items others (name ∷ names) → Agree items others names
  on_rest name names agree other there = agree other (or_right (bytes_eq other name) (list_any (bytes_eq other) names) there)

  -- they agree on the names in front, and on those behind them
  pub on_front : (front behind : List (List ℕ)) → Agree items others (front ++ behind) → Agree items others front
  on_front front behind agree name there =
      agree name
      (list_any-append (bytes_eq name) front behind ∙ or_left (list_any (bytes_eq name) front) (list_any (bytes_eq name) behind) there)

  pub on_behind : (front behind : List (List ℕ)) → Agree items others (front ++ behind) → Agree items others behind
  on_behind front behind agree name there =
      agree name
      (list_any-append (bytes_eq name) front behind ∙ or_right (list_any (bytes_eq name) front) (list_any (bytes_eq name) behind) there)

  -- ---- names, expressions and variables

  pub same_name : (name : List ℕ) → item_named name items ≡ item_named name others → name_kind items name ≡ name_kind others name
  same_name name is =
      ap (λ (o : Option Declared). then_found (cond (is_builtin_name name) (Err MarkKind.Reserved) (ok_or o MarkKind.Undeclared)) scalar_found) is

  same_array : (name : List ℕ) → item_named name items ≡ item_named name others → array_kind items name ≡ array_kind others name
  same_array name is =
      ap (λ (o : Option Declared). then_found (cond (is_builtin_name name) (Err MarkKind.Reserved) (ok_or o MarkKind.Undeclared)) cell_found) is

  mutual
    pub same_kind_of : (e : PlainExpr) → Agree items others (names_in e) → kind_of items e ≡ kind_of others e
    same_kind_of (PlainExpr.number z) agree = refl
    same_kind_of (PlainExpr.text value) agree = refl
    same_kind_of (PlainExpr.bit value) agree = refl
    same_kind_of (PlainExpr.variable reference) agree = same_reference reference agree
    same_kind_of (PlainExpr.unary op a) agree = ap (λ f. then_found f (of_kind (prefix_kind op))) (same_kind_of a agree)
    same_kind_of (PlainExpr.binary op a b) agree =
        ap (λ f. both_found f (kind_of items b) (infix_found op)) (same_kind_of a (on_front (names_in a) (names_in b) agree))
        ∙ ap (λ f. both_found (kind_of others a) f (infix_found op)) (same_kind_of b (on_behind (names_in a) (names_in b) agree))
    same_kind_of (PlainExpr.builtin function arguments) agree =
        ap (λ f. then_found f (builtin_found function)) (same_kinds arguments agree)
    same_kind_of (PlainExpr.parenthesized a) agree = same_kind_of a agree

    pub same_reference : (reference : PlainVarRef) → Agree items others (reference_names reference)
        → reference_kind items reference ≡ reference_kind others reference
    same_reference (PlainVarRef.simple name) agree = same_name name (on_first name [] agree)
    same_reference (PlainVarRef.subscripted name index) agree =
        ap (λ f. then_found (then_found f (of_kind Kind.Fixed)) (λ kind. array_kind items name)) (same_kind_of index (on_rest name (names_in index) agree))
        ∙ ap (λ a. then_found (then_found (kind_of others index) (of_kind Kind.Fixed)) (λ kind. a)) (same_array name (on_first name (names_in index) agree))

    pub same_kinds : (es : PlainExprs) → Agree items others (names_in_all es) → kinds_of items es ≡ kinds_of others es
    same_kinds PlainExprs.nil agree = refl
    same_kinds (PlainExprs.cons a rest) agree =
        ap (λ f. both_found f (kinds_of items rest) (λ kind kinds. Ok (kind ∷ kinds))) (same_kind_of a (on_front (names_in a) (names_in_all rest) agree))
        ∙ ap (λ f. both_found (kind_of others a) f (λ kind kinds. Ok (kind ∷ kinds))) (same_kinds rest (on_behind (names_in a) (names_in_all rest) agree))

  -- ---- lists of variables and of parameters

  pub same_references : (references : List PlainVarRef) → Agree items others (flat_map reference_names references)
      → references_offence items references ≡ references_offence others references
  same_references [] agree = refl
  same_references (reference ∷ rest) agree =
      let all : Agree items others (reference_names reference ++ flat_map reference_names rest) =
      subst (Agree items others) (flat_map-cons reference_names reference rest) agree in
      ap (λ f. option_or (offence_in f) (references_offence items rest))
      (same_reference reference (on_front (reference_names reference) (flat_map reference_names rest) all))
      ∙ ap (λ o. option_or (offence_in (reference_kind others reference)) o)
      (same_references rest (on_behind (reference_names reference) (flat_map reference_names rest) all))

  pub same_parameters : (all names : List (List ℕ)) → Agree items others names → parameters_offence items all names ≡ parameters_offence others all names
  same_parameters all [] agree = refl
  same_parameters all (name ∷ rest) agree =
      ap (λ (o : Option Declared).
      option_or
      (cond (is_builtin_name name) (Some MarkKind.Reserved)
      (cond (nat_lt 1 (count_by (bytes_eq name) all)) (Some MarkKind.Duplicate)
      (cond (is_some (option_and_then scalar_kind o)) None (Some MarkKind.ParameterUndeclared))))
      (parameters_offence items all rest)) (on_first name rest agree)
      ∙ ap (λ o. option_or (parameter_offence others all name) o) (same_parameters all rest (on_rest name rest agree))

  pub same_parameter_kinds : (earlier names : List (List ℕ)) → Agree items others names → parameter_kinds items earlier names ≡ parameter_kinds others earlier names
  same_parameter_kinds earlier [] agree = refl
  same_parameter_kinds earlier (name ∷ rest) agree =
      ap (λ (o : Option Declared).
      cond (list_any (bytes_eq name) earlier) None (option_and_then scalar_kind o) ∷ parameter_kinds items (earlier ++ (name ∷ [])) rest) (on_first name rest agree)
      ∙ ap (λ ks. parameter_kind others earlier name ∷ ks) (same_parameter_kinds (earlier ++ (name ∷ [])) rest (on_rest name rest agree))

-- ---- a phrase

-- what the table knows of a procedure that is found in its slot
pub known_items : (decls : PlainDecls) (program : Forest) (procedure : PlainNode) (names : List (List ℕ))
    → procedure_at program procedure.label.slot ≡ Some procedure → KnowsItems decls program procedure.label.slot names
    → Agree (items_in decls.items procedure.label.slot) (items_inside procedure.inner) names
known_items decls program procedure names there knows name is =
    knows name is
    ∙ ap (λ (o : Option PlainNode). item_named name (unwrap_or (option_map (λ (node : PlainNode). items_inside node.inner) o) [])) there

-- the verdict is the one under the items that the table has
module _ (decls : PlainDecls) (program : Forest) (procedure : PlainNode) (slot : ℕ)
    (there : procedure_at program procedure.label.slot ≡ Some procedure) where
  pub same_verdict : (phrase : PlainPhrase) → KnowsItems decls program procedure.label.slot (mentioned phrase)
      → verdict (known_surroundings decls program procedure slot) phrase ≡ verdict (surroundings program procedure slot) phrase
  same_verdict (PlainPhrase.assignment target value) knows =
      let all = known_items decls program procedure (reference_names target ++ names_in value) there knows in
      let items = items_in decls.items procedure.label.slot in
      let others = items_inside procedure.inner in
      ap (λ f. offence_in (both_found f (kind_of items value) of_kind)) (same_reference items others target (on_front items others (reference_names target) (names_in value) all))
      ∙ ap (λ f. offence_in (both_found (reference_kind others target) f of_kind)) (same_kind_of items others value (on_behind items others (reference_names target) (names_in value) all))
  same_verdict (PlainPhrase.condition e) knows =
      ap (λ f. offence_in (then_found f (of_kind Kind.Bit)))
      (same_kind_of (items_in decls.items procedure.label.slot) (items_inside procedure.inner) e (known_items decls program procedure (names_in e) there knows))
  same_verdict (PlainPhrase.expression e) knows =
      ap (λ f. offence_in (then_found f (of_kind Kind.Fixed)))
      (same_kind_of (items_in decls.items procedure.label.slot) (items_inside procedure.inner) e (known_items decls program procedure (names_in e) there knows))
  same_verdict (PlainPhrase.expression_list es) knows =
      ap offence_in
      (same_kinds (items_in decls.items procedure.label.slot) (items_inside procedure.inner) es (known_items decls program procedure (names_in_all es) there knows))
  same_verdict (PlainPhrase.variable_list targets) knows =
      same_references (items_in decls.items procedure.label.slot) (items_inside procedure.inner) targets
      (known_items decls program procedure (flat_map reference_names targets) there knows)
  same_verdict (PlainPhrase.variable_name name) knows =
      ap (λ f. offence_in (then_found f (of_kind Kind.Fixed)))
      (same_name (items_in decls.items procedure.label.slot) (items_inside procedure.inner) name
      (on_first (items_in decls.items procedure.label.slot) (items_inside procedure.inner) name [] (known_items decls program procedure (name ∷ []) there knows)))
  same_verdict (PlainPhrase.call name arguments) knows =
      let items = items_in decls.items procedure.label.slot in
      let others = items_inside procedure.inner in
      ap (λ f. call_offence ((surroundings program procedure slot).headings name) f)
      (same_kinds items others arguments
      (on_rest items others name (names_in_all arguments) (known_items decls program procedure (name ∷ names_in_all arguments) there knows)))
  same_verdict (PlainPhrase.declared_list items) knows = refl
  same_verdict (PlainPhrase.procedure_name name) knows = refl
  same_verdict (PlainPhrase.name_list names) knows =
      same_parameters (items_in decls.items procedure.label.slot) (items_inside procedure.inner) names names (known_items decls program procedure names there knows)
  same_verdict (PlainPhrase.greatest_length n) knows = refl
  same_verdict (PlainPhrase.comment bytes) knows = refl
