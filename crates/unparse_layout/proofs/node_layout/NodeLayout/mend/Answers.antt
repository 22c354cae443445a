-- What becomes of the node of a number, case by case: one is set, inserted or removed in the list, which is what the
-- definition makes of the nodes in order.
use Rattle.std.specs.Prelude.{◌≤◌}
use Rattle.std.proofs.Common.{arith, ap, sym, ◌∙◌, subst}
use Rattle.template_tree.specs.Programs.Limit.{most_slots}
use Rattle.unparse_layout.specs.Bones.{bone_count}
use Rattle.unparse_layout.specs.LayoutEdit.{LayoutMend, MayMend, layout_mended}
use Rattle.unparse_layout.specs.declared.layout_edit.LayoutMend.{LayoutMend as Mend}
use Rattle.unparse_layout.specs.Private.LayoutEditView.{lone_layout, plain_mend}
use Rattle.unparse_layout.specs.Private.PlainNodeLayout.{PlainNodeLayout}
use Rattle.unparse_layout.proofs.MendedLists.{insides_length, list_inserted, list_removed, list_set}
use Rattle.unparse_layout.proofs.node_layout.NodeLayout.mend.Goals as goal

pub returns-in-Keep : goal.returns-in-Keep
returns-in-Keep c =
    ap (λ (a : Mend). let n : PlainNodeLayout = record c.args.self.now { inner = layout_mended (plain_mend a) c.args.k c.args.self.now.inner } in n) (sym c.in-Keep.is)

pub put-requires-clause-there : goal.put-requires-clause-there
put-requires-clause-there c =
    let inner = c.args.self.now.inner in
    let may : MayMend (LayoutMend.put (lone_layout c.in-Put.item)) c.args.k inner =
    subst (λ a. MayMend (plain_mend a) c.args.k inner) c.in-Put.is c.requires.there in
    omega (arith, may, insides_length inner)

pub put-requires-clause-few : goal.put-requires-clause-few
put-requires-clause-few c =
    let inner = c.args.self.now.inner in
    let few : bone_count (layout_mended (LayoutMend.put (lone_layout c.in-Put.item)) c.args.k inner) ≤ most_slots =
    subst (λ a. bone_count (layout_mended (plain_mend a) c.args.k inner) ≤ most_slots) c.in-Put.is c.requires.few in
    omega (arith, few, ap bone_count (list_set c.in-Put.item c.args.k inner))

pub returns-in-Put : goal.returns-in-Put
returns-in-Put c =
    let old = c.args.self.now in
    c.put.ensures
    ∙ ap (λ l. let n : PlainNodeLayout = record old { inner = l } in n) (sym (list_set c.in-Put.item c.args.k old.inner))
    ∙ ap (λ (a : Mend). let n : PlainNodeLayout = record old { inner = layout_mended (plain_mend a) c.args.k old.inner } in n) (sym c.in-Put.is)

pub add-requires-clause-there : goal.add-requires-clause-there
add-requires-clause-there c =
    let inner = c.args.self.now.inner in
    let may : MayMend (LayoutMend.add (lone_layout c.in-Add.item) c.in-Add.room) c.args.k inner =
    subst (λ a. MayMend (plain_mend a) c.args.k inner) c.in-Add.is c.requires.there in
    omega (arith, may.0, insides_length inner)

pub add-requires-clause-fits : goal.add-requires-clause-fits
add-requires-clause-fits c =
    let inner = c.args.self.now.inner in
    let may : MayMend (LayoutMend.add (lone_layout c.in-Add.item) c.in-Add.room) c.args.k inner =
    subst (λ a. MayMend (plain_mend a) c.args.k inner) c.in-Add.is c.requires.there in
    omega (arith, may.1, insides_length inner)

pub add-requires-clause-few : goal.add-requires-clause-few
add-requires-clause-few c =
    let inner = c.args.self.now.inner in
    let may : MayMend (LayoutMend.add (lone_layout c.in-Add.item) c.in-Add.room) c.args.k inner =
    subst (λ a. MayMend (plain_mend a) c.args.k inner) c.in-Add.is c.requires.there in
    let few : bone_count (layout_mended (LayoutMend.add (lone_layout c.in-Add.item) c.in-Add.room) c.args.k inner) ≤ most_slots =
    subst (λ a. bone_count (layout_mended (plain_mend a) c.args.k inner) ≤ most_slots) c.in-Add.is c.requires.few in
    omega (arith, few, ap bone_count (list_inserted c.in-Add.item c.args.k inner (omega (arith, may.0, insides_length inner))))

pub returns-in-Add : goal.returns-in-Add
returns-in-Add c =
    let old = c.args.self.now in
    let may : MayMend (LayoutMend.add (lone_layout c.in-Add.item) c.in-Add.room) c.args.k old.inner =
    subst (λ a. MayMend (plain_mend a) c.args.k old.inner) c.in-Add.is c.requires.there in
    c.add.ensures
    ∙ ap (λ l. let n : PlainNodeLayout = record old { inner = l } in n)
    (sym (list_inserted c.in-Add.item c.args.k old.inner (omega (arith, may.0, insides_length old.inner))))
    ∙ ap (λ (a : Mend). let n : PlainNodeLayout = record old { inner = layout_mended (plain_mend a) c.args.k old.inner } in n) (sym c.in-Add.is)

pub drop_item-requires : goal.drop_item-requires
drop_item-requires c =
    let inner = c.args.self.now.inner in
    let may : MayMend LayoutMend.drop c.args.k inner = subst (λ a. MayMend (plain_mend a) c.args.k inner) c.in-Drop.is c.requires.there in
    record { there = omega (arith, may, insides_length inner) }

pub returns-in-Drop : goal.returns-in-Drop
returns-in-Drop c =
    let old = c.args.self.now in
    c.drop_item.ensures
    ∙ ap (λ l. let n : PlainNodeLayout = record old { inner = l } in n) (sym (list_removed c.args.k old.inner))
    ∙ ap (λ (a : Mend). let n : PlainNodeLayout = record old { inner = layout_mended (plain_mend a) c.args.k old.inner } in n) (sym c.in-Drop.is)
