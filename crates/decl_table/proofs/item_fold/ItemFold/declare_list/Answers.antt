use Rattle.std.proofs.Common.{◌≡◌, ◌∙◌, ◌≤◌, ◌+◌, ◌∷◌, Some, drop, length, refl, sym, ap, arith}
use Rattle.std.specs.Option.{option_or}
use Rattle.std.proofs.Math.ListN.{drop_of_length-le}
use Rattle.template_tree.specs.Checks.Environment.{declared_as, effective, item_offence, with_declared, with_type}
use Rattle.template_tree.specs.Checks.Verdict.{declared_offence}
use Rattle.decl_table.proofs.AddedUses.{left_behind}
use Rattle.decl_table.proofs.ItemLists.{offence_turn, or_none}
use Rattle.decl_table.proofs.item_fold.ItemFold.declare_list.Goals as goal

pub loop-item-init : goal.loop-item-init
loop-item-init c = record { items = refl; offence = refl }

pub loop-item-preserved : goal.loop-item-preserved
loop-item-preserved c =
    let list = c.args.list.now in
    let ty = c.args.ty in
    let k = c.loop-item.item-index in
    let item = c.item-item.result in
    let old = c.loop-item.self in
    let rest = with_type (Some ty) (drop (k + 1) list) in
    let turn : with_type (Some ty) (drop k list) ≡ declared_as ty item ∷ rest =
    ap (with_type (Some ty)) (left_behind list k item c.loop-item-test.true c.item-item.is) in
    let new_is : c.declare.new.self ≡ with_declared old (declared_as ty item) =
    c.in_ok-offence.ensures.items ∙ ap (with_declared old) c.declared.ensures in
    record {
      items =
          ap (λ items. effective items rest) new_is
          ∙ ap (effective old) (sym turn)
          ∙ c.loop-item.invariant.items;
      offence =
          offence_turn c.loop-item.first c.in_ok-offence.offence c.or-first.result old c.declare.new.self (declared_as ty item) rest
          c.or-first.ensures (c.in_ok-offence.ensures.offence ∙ ap (item_offence old) c.declared.ensures) new_is
          ∙ ap (λ all. option_or c.loop-item.first (declared_offence old all)) (sym turn)
          ∙ c.loop-item.invariant.offence;
    }

pub returns-clause-items : goal.returns-clause-items
returns-clause-items c =
    let list = c.args.list.now in
    let past : length list ≤ c.loop-item.item-index = omega (arith, c.loop-item-test.false) in
    ap (λ left. effective c.loop-item.self (with_type (Some c.args.ty) left)) (sym (drop_of_length-le list past)) ∙ c.loop-item.invariant.items

pub returns-clause-offence : goal.returns-clause-offence
returns-clause-offence c =
    let list = c.args.list.now in
    let past : length list ≤ c.loop-item.item-index = omega (arith, c.loop-item-test.false) in
    sym (or_none c.loop-item.first)
    ∙ ap (λ left. option_or c.loop-item.first (declared_offence c.loop-item.self (with_type (Some c.args.ty) left)))
    (sym (drop_of_length-le list past))
    ∙ c.loop-item.invariant.offence
