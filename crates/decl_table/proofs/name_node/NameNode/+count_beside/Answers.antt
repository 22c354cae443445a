use Rattle.std.specs.Prelude.{◌≡◌, ◌∷◌, Some, None, length, slice_get}
use Rattle.std.proofs.Common.{ap, sym, ◌∙◌}
use Rattle.decl_table.specs.Private.NamePaths.{count_beside}
use Rattle.decl_table.specs.Private.PlainNameNode.{PlainNameNode, name_nodes, name_nodes_forest}
use Rattle.decl_table.proofs.MendedNameLists.{empty, insides_length}
use Rattle.decl_table.proofs.FoundNames.{beside_inside, beside_none}
use Rattle.decl_table.proofs.OpenedNames.{found_again}
use Rattle.decl_table.proofs.name_node.NameNode.+count_beside.Goals as goal

pub returns-in_default : goal.returns-in_default
returns-in_default t c =
    let inner = c.args.self.now.inner in
    c.len.ensures ∙ ap length (sym (name_nodes_forest c.self.inside.inner.items))
    ∙ ap (λ (o : PlainNameNode). length (name_nodes o.inner)) c.self.view_is
    ∙ sym (insides_length inner) ∙ sym (ap (λ path. count_beside (c.args.k ∷ path) inner) (empty c.args.path.now c.in_default.ensures.cases))

pub returns-in_default-get : goal.returns-in_default-get
returns-in_default-get t c =
    let none : slice_get (name_nodes c.args.self.now.inner) c.args.k ≡ None =
    found_again c.self.inside c.args.self.now c.args.k c.self.view_is ∙ sym c.in_default-get.ensures in
    sym (beside_none c.args.k c.in-Some.next.now c.args.path.now c.in-Some.rest.now c.args.self.now.inner c.in-Some.ensures.cases.0 none)

pub returns : goal.returns
returns t c =
    let item = c.in-Some-get.item.now in
    let there : slice_get (name_nodes c.args.self.now.inner) c.args.k ≡ Some item =
    found_again c.self.inside c.args.self.now c.args.k c.self.view_is ∙ sym c.in-Some-get.ensures in
    c.count_beside.ensures
    ∙ sym (beside_inside c.args.k c.in-Some.next.now c.args.path.now c.in-Some.rest.now c.args.self.now.inner item c.in-Some.ensures.cases.0 there)
