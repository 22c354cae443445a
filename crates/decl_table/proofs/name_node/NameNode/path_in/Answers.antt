use Rattle.std.specs.Prelude.{◌≡◌, Some, option_map, slice_get}
use Rattle.std.proofs.Common.{arith, ap, sym, ◌∙◌}
use Rattle.decl_table.specs.Private.NamePaths.{names_at}
use Rattle.decl_table.specs.Private.PlainNameNode.{PlainNameNode, name_nodes}
use Rattle.decl_table.proofs.FoundNames.{item_depth, name_node_few, path_through}
use Rattle.decl_table.proofs.OpenedNames.{found_again}
use Rattle.decl_table.proofs.name_node.NameNode.path_in.Goals as goal

pub path_inside-requires-clause-shallow : goal.path_inside-requires-clause-shallow
path_inside-requires-clause-shallow c =
    let inner = c.args.self.now.inner in
    let there : slice_get (name_nodes inner) c.args.k ≡ Some c.in-Some.item.now =
    found_again c.self.inside c.args.self.now c.args.k c.self.view_is ∙ sym c.in-Some.ensures in
    omega (arith, item_depth inner c.args.k c.in-Some.item.now there, c.requires.shallow)

pub path_inside-requires-clause-few : goal.path_inside-requires-clause-few
path_inside-requires-clause-few c =
    let inner = c.args.self.now.inner in
    let there : slice_get (name_nodes inner) c.args.k ≡ Some c.in-Some.item.now =
    found_again c.self.inside c.args.self.now c.args.k c.self.view_is ∙ sym c.in-Some.ensures in
    omega (arith, name_node_few inner c.args.k c.in-Some.item.now there, c.requires.few)

pub with_first-requires : goal.with_first-requires
with_first-requires c =
    let inner = c.args.self.now.inner in
    let there : slice_get (name_nodes inner) c.args.k ≡ Some c.in-Some.item.now =
    found_again c.self.inside c.args.self.now c.args.k c.self.view_is ∙ sym c.in-Some.ensures in
    record { room = omega (arith, item_depth inner c.args.k c.in-Some.item.now there, c.in-Some-path_inside.ensures.short, c.requires.shallow) }

pub returns : goal.returns
returns c =
    let inner = c.args.self.now.inner in
    let there : slice_get (name_nodes inner) c.args.k ≡ Some c.in-Some.item.now =
    found_again c.self.inside c.args.self.now c.args.k c.self.view_is ∙ sym c.in-Some.ensures in
    ap (λ path. option_map (λ (o : PlainNameNode). o.label.slot) (names_at inner path)) c.with_first.ensures
    ∙ path_through inner c.args.k c.in-Some.item.now c.in-Some-path_inside.path.items c.args.slot.0 there c.in-Some-path_inside.ensures.path
