-- What is found in chains of operators.
use Rattle.std.proofs.Common.{◌≡◌, Bool, true, false, cond, Option, Some, None, refl, sym, ap, ◌∙◌}
use Rattle.std.specs.Prelude.{Result, Ok, Err}
use Rattle.std.specs.Option.{option_or}
use Rattle.plcs_base.specs.declared.mark.MarkKind.{MarkKind}
use Rattle.plcs_base.specs.declared.value.Kind.{Kind}
use Rattle.plcs_grammar.specs.declared.operator.InfixOp.{InfixOp}
use Rattle.template_tree.specs.Checks.KindTable.{infix_gives, infix_takes}
use Rattle.template_tree.specs.Checks.Verdict.{both_found, infix_found, is_pair, offence_in}
use Rattle.type_marks.specs.declared.chain.Link.{Link}
use Rattle.type_marks.specs.Private.Chain.{with_later}

-- an operator without an offence gives its kind
fine : (op : InfixOp) (found right : Result Kind MarkKind) (kind : Kind) → both_found found right (infix_found op) ≡ Ok kind → kind ≡ infix_gives op
fine op (Err offence) right kind is = absurd (cc)
fine op (Ok a) (Err offence) kind is = absurd (cc)
fine op (Ok a) (Ok b) kind is = by (is_pair (infix_takes op) a b) is
  where
    by : (pair : Bool) → cond pair (Ok (infix_gives op)) (Err MarkKind.TypeMismatch) ≡ Ok kind → kind ≡ infix_gives op
    by true is = cc
    by false is = absurd (cc)

-- so an offence in an operator is known where its left operand has none
pub ends_before : (next : Link) (past : Option MarkKind) (gives : Kind) (op : InfixOp) (right found : Result Kind MarkKind) (later : Option MarkKind)
    → later ≡ option_or (offence_in (both_found (Ok (infix_gives op)) next.right (infix_found next.op))) past
    → with_later later gives (both_found found right (infix_found op))
    ≡ with_later past gives (both_found (both_found found right (infix_found op)) next.right (infix_found next.op))
ends_before next past gives op right found later is =
    by (both_found found right (infix_found op)) (fine op found right)
  where
    pick : (past : Option MarkKind) (kind other : Kind) → with_later past gives (Ok kind) ≡ with_later past gives (Ok other)
    pick None kind other = refl
    pick (Some offence) kind other = refl

    joined : (kind : Kind) (both : Result Kind MarkKind)
        → with_later (option_or (offence_in both) past) gives (Ok kind) ≡ with_later past gives both
    joined kind (Err offence) = refl
    joined kind (Ok other) = pick past kind other

    by : (front : Result Kind MarkKind) → ((kind : Kind) → front ≡ Ok kind → kind ≡ infix_gives op)
        → with_later later gives front ≡ with_later past gives (both_found front next.right (infix_found next.op))
    by (Err offence) known = refl
    by (Ok kind) known =
        ap (λ l. with_later l gives (Ok kind)) is
        ∙ joined kind (both_found (Ok (infix_gives op)) next.right (infix_found next.op))
        ∙ ap (λ k. with_later past gives (both_found (Ok k) next.right (infix_found next.op))) (sym (known kind refl))
