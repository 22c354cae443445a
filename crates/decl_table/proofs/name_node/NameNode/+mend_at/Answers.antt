use Rattle.std.specs.Prelude.{◌≡◌, ◌∷◌, Some, None, length, slice_get, slice_set}
use Rattle.std.proofs.Common.{arith, ap, sym, ◌∙◌, subst}
use Rattle.decl_table.specs.DeclEdit.{MayMendNames}
use Rattle.decl_table.specs.Private.NameMendView.{plain_mend, with_mend}
use Rattle.decl_table.specs.Private.PlainNameNode.{PlainNameNode, name_forest, name_nodes}
use Rattle.decl_table.proofs.MendedNameLists.{empty, mended_inside, may_inside, may_there}
use Rattle.decl_table.proofs.OpenedNames.{found_again, items_are}
use Rattle.decl_table.proofs.name_node.NameNode.+mend_at.Goals as goal

pub mend-requires : goal.mend-requires
mend-requires t c = record {
  there =
      subst (λ path. MayMendNames (plain_mend c.args.mend) (c.args.k ∷ path) c.args.self.now.inner) (empty c.args.path.now c.in_default.ensures.cases)
      c.requires.there;
}

pub returns-in_default : goal.returns-in_default
returns-in_default t c =
    c.mend.ensures
    ∙ ap (λ path. with_mend (plain_mend c.args.mend) (c.args.k ∷ path) c.args.self.now) (sym (empty c.args.path.now c.in_default.ensures.cases))

pub unreachable-requires : goal.unreachable-requires
unreachable-requires t c =
    let none : slice_get (name_nodes c.args.self.now.inner) c.args.k ≡ None =
    found_again c.self.inside c.args.self.now c.args.k c.self.view_is ∙ sym c.in_default-get_mut.ensures.found in
    absurd (may_there (plain_mend c.args.mend) c.args.k c.in-Some.next.now c.args.path.now c.in-Some.rest.now c.args.self.now.inner
    c.in-Some.ensures.cases.0 none c.requires.there)

pub mend_at-requires : goal.mend_at-requires
mend_at-requires t c =
    let inner = c.args.self.now.inner in
    let item = c.in-Some-get_mut.item.now in
    let way : c.args.path.now ≡ c.in-Some.next.now ∷ c.in-Some.rest.now = c.in-Some.ensures.cases.0 in
    let there : slice_get (name_nodes inner) c.args.k ≡ Some item =
    found_again c.self.inside c.args.self.now c.args.k c.self.view_is ∙ sym c.in-Some-get_mut.ensures.found in (
      omega (arith, ap length way),
      may_inside (plain_mend c.args.mend) c.args.k c.in-Some.next.now c.args.path.now c.in-Some.rest.now inner item way there
          c.requires.there,
    )

pub returns : goal.returns
returns t c =
    let mend = plain_mend c.args.mend in
    let old = c.args.self.now in
    let item = c.in-Some-get_mut.item.now in
    let way : c.args.path.now ≡ c.in-Some.next.now ∷ c.in-Some.rest.now = c.in-Some.ensures.cases.0 in
    let there : slice_get (name_nodes old.inner) c.args.k ≡ Some item =
    found_again c.self.inside old c.args.k c.self.view_is ∙ sym c.in-Some-get_mut.ensures.found in
    let is = mended_inside mend c.args.k c.in-Some.next.now c.args.path.now c.in-Some.rest.now old.inner item way there in
    (λ i. record {
      label = (ap (λ (o : PlainNameNode). o.label) c.self.view_is) i;
      inner = name_forest (slice_set c.self.inside.inner.items c.args.k c.mend_at.new.self);
    })
    ∙ ap
    (λ items. let n : PlainNameNode = record { label = old.label; inner = name_forest (slice_set items c.args.k c.mend_at.new.self) } in n)
    (sym (items_are c.self.inside old c.self.view_is))
    ∙ ap
    (λ o. let n : PlainNameNode = record { label = old.label; inner = name_forest (slice_set (name_nodes old.inner) c.args.k o) } in n)
    c.mend_at.ensures
    ∙ ap (λ l. let n : PlainNameNode = record { label = old.label; inner = l } in n) (sym is)
