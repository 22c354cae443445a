-- A phrase has one verdict in two surroundings that agree on its names and, where it is a declared list, on what is
-- declared before it.
use Rattle.std.proofs.Common.{◌≡◌, ℕ, Bool, true, cond, List, [], ◌∷◌, Option, Some, None, refl, ap, ◌∙◌}
use Rattle.std.specs.Prelude.{◌||◌, bytes_eq, codes, flat_map, is_some}
use Rattle.std.specs.List.{list_any}
use Rattle.std.proofs.lemmas.Slice.Eq.{bytes_eq-Decides}
use Rattle.std.proofs.lemmas.Bool.{or_left}
use Rattle.plcs_base.specs.declared.mark.MarkKind.{MarkKind}
use Rattle.plcs_base.specs.declared.value.Kind.{Kind}
use Rattle.plcs_grammar.specs.declared.item.Item.{Item}
use Rattle.plcs_grammar.specs.Builtin.{is_builtin_name}
use Rattle.plcs_grammar.specs.PlainPhrase.{PlainPhrase}
use Rattle.template_tree.specs.Checks.Environment.{Signature, with_type}
use Rattle.template_tree.specs.Checks.Mention.{mentioned, names_in, names_in_all, reference_names}
use Rattle.template_tree.specs.Checks.Verdict.{Surroundings, both_found, call_offence, declared_offence, kind_of, kinds_of, of_kind, offence_in, reference_kind, then_found, verdict}
use Rattle.type_marks.proofs.KnownNames.{Agree, on_behind, on_first, on_front, on_rest, same_kind_of, same_kinds, same_name, same_parameters, same_reference, same_references}

-- two surroundings agree on a phrase
pub record AgreeOn (one other : Surroundings) (phrase : PlainPhrase) : Type 0 where
  pub items : Agree one.items other.items (mentioned phrase)
  pub headings : (name : List ℕ) → list_any (bytes_eq name) (mentioned phrase) ≡ true → one.headings name ≡ other.headings name
  pub earlier : (name : List ℕ) → list_any (bytes_eq name) (mentioned phrase) ≡ true
      → is_some (one.earlier name) ≡ is_some (other.earlier name)
  pub listed : (items : List Item) → phrase ≡ PlainPhrase.declared_list items
      → declared_offence one.before (with_type one.gives items) ≡ declared_offence other.before (with_type other.gives items)

-- the first of some names is among them
first_is : (name : List ℕ) (names : List (List ℕ)) → list_any (bytes_eq name) (name ∷ names) ≡ true
first_is name names = or_left (bytes_eq name name) (list_any (bytes_eq name) names) ((bytes_eq-Decides name name).1 refl)

module _ (one other : Surroundings) where
  pub agreed : (phrase : PlainPhrase) → AgreeOn one other phrase → verdict one phrase ≡ verdict other phrase
  agreed (PlainPhrase.assignment target value) agree =
      ap (λ f. offence_in (both_found f (kind_of one.items value) of_kind))
      (same_reference one.items other.items target
      (on_front one.items other.items (reference_names target) (names_in value) agree.items))
      ∙ ap (λ f. offence_in (both_found (reference_kind other.items target) f of_kind))
      (same_kind_of one.items other.items value
      (on_behind one.items other.items (reference_names target) (names_in value) agree.items))
  agreed (PlainPhrase.condition e) agree =
      ap (λ f. offence_in (then_found f (of_kind Kind.Bit))) (same_kind_of one.items other.items e agree.items)
  agreed (PlainPhrase.expression e) agree =
      ap (λ f. offence_in (then_found f (of_kind Kind.Fixed))) (same_kind_of one.items other.items e agree.items)
  agreed (PlainPhrase.expression_list es) agree = ap offence_in (same_kinds one.items other.items es agree.items)
  agreed (PlainPhrase.variable_list targets) agree = same_references one.items other.items targets agree.items
  agreed (PlainPhrase.variable_name name) agree =
      ap (λ f. offence_in (then_found f (of_kind Kind.Fixed)))
      (same_name one.items other.items name (on_first one.items other.items name [] agree.items))
  agreed (PlainPhrase.call name arguments) agree =
      ap (λ (o : Option Signature). call_offence o (kinds_of one.items arguments))
      (agree.headings name (first_is name (names_in_all arguments)))
      ∙ ap (λ f. call_offence (other.headings name) f)
      (same_kinds one.items other.items arguments (on_rest one.items other.items name (names_in_all arguments) agree.items))
  agreed (PlainPhrase.declared_list items) agree = agree.listed items refl
  agreed (PlainPhrase.procedure_name name) agree =
      ap
      (λ (b : Bool).
      cond (is_builtin_name name) (Some MarkKind.Reserved)
      (cond (bytes_eq name (codes "main") || b) (Some MarkKind.Duplicate) None))
      (agree.earlier name (first_is name []))
  agreed (PlainPhrase.name_list names) agree = same_parameters one.items other.items names names agree.items
  agreed (PlainPhrase.greatest_length n) agree = refl
  agreed (PlainPhrase.comment bytes) agree = refl
