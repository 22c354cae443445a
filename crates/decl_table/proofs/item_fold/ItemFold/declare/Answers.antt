use Rattle.std.proofs.Common.{◌≡◌, ◌∙◌, ◌+◌, ◌≤◌, ◌∷◌, ◌++◌, [], List, false, is_some, sym, ap, subst, arith}
use Rattle.plcs_base.specs.declared.declared.Declared.{Declared}
use Rattle.template_tree.specs.Checks.Environment.{cells, item_offence, with_declared}
use Rattle.template_tree.specs.Programs.Limit.{most_cells}
use Rattle.decl_table.specs.Private.ItemsView.{shaped}
use Rattle.decl_table.proofs.ItemLists.{cells_push, few_told, has_no_offence, one_more, refused}
use Rattle.decl_table.proofs.item_fold.ItemFold.declare.Goals as goal

pub returns-in-Some-clause-items : goal.returns-in-Some-clause-items
returns-in-Some-clause-items c = refused c.args.self.now (shaped c.args.name.now c.args.shape) c.in-Some.offence c.in-Some.ensures

pub overflow_add-cells : goal.overflow_add-cells
overflow_add-cells c =
    let before = c.self.inside.items in
    let item = shaped c.args.name.now c.args.shape in
    let fine : is_some (item_offence before item) ≡ false =
    subst (λ (items : List Declared). is_some (item_offence items item) ≡ false) (sym c.self.view_is) (sym (ap is_some c.in_default.ensures)) in
    let few : c.self.inside.cells + c.cells.result ≤ most_cells =
    few_told c.self.inside.cells c.cells.result before item c.self.invariant.counted c.cells.ensures (has_no_offence before item fine).1 in
    omega (arith, few)

pub invariant_of-self : goal.invariant_of-self
invariant_of-self c = record {
  counted =
      subst (λ (items : List Declared). c.self.inside.cells ≡ cells items) (sym c.in_err-put.ensures.refused) c.self.invariant.counted;
  few = c.self.invariant.few;
}

pub invariant_of-self-2 : goal.invariant_of-self-2
invariant_of-self-2 c =
    let before = c.self.inside.items in
    let item = shaped c.args.name.now c.args.shape in
    let fine : is_some (item_offence before item) ≡ false =
    subst (λ (items : List Declared). is_some (item_offence items item) ≡ false) (sym c.self.view_is) (sym (ap is_some c.in_default.ensures)) in
    let made : c.put.new.self ≡ before ++ (item ∷ []) = c.in_ok-put.ensures.last (has_no_offence before item fine).0 in
    record {
      counted =
          subst (λ (items : List Declared). c.self.inside.cells + c.cells.result ≡ cells items) (sym made)
          (omega (arith, cells_push before item, c.self.invariant.counted, c.cells.ensures));
      few = few_told c.self.inside.cells c.cells.result before item c.self.invariant.counted c.cells.ensures (has_no_offence before item fine).1;
    }

pub returns-clause-items : goal.returns-clause-items
returns-clause-items c =
    let before = c.self.inside.items in
    let item = shaped c.args.name.now c.args.shape in
    let fine : is_some (item_offence before item) ≡ false =
    subst (λ (items : List Declared). is_some (item_offence items item) ≡ false) (sym c.self.view_is) (sym (ap is_some c.in_default.ensures)) in
    let made : c.put.new.self ≡ before ++ (item ∷ []) = c.in_ok-put.ensures.last (has_no_offence before item fine).0 in
    subst (λ (items : List Declared). c.put.new.self ≡ with_declared items item) c.self.view_is (made ∙ sym (one_more before item fine))
