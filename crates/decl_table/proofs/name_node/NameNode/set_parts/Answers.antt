use Rattle.std.specs.Prelude.{◌≡◌, None, slice_get}
use Rattle.std.proofs.Common.{arith, sym, ◌∙◌}
use Rattle.decl_table.specs.Private.PlainNameNode.{name_nodes}
use Rattle.plcs_base.specs.ListLeft.{past_where_none}
use Rattle.decl_table.proofs.OpenedNames.{found_again}
use Rattle.decl_table.proofs.name_node.NameNode.set_parts.Goals as goal

pub unreachable-requires : goal.unreachable-requires
unreachable-requires c =
    let none : slice_get (name_nodes c.args.self.now.inner) c.args.k ≡ None =
    found_again c.self.inside c.args.self.now c.args.k c.self.view_is ∙ sym c.in_default.ensures.found in
    absurd (omega (arith, c.requires.there, past_where_none (name_nodes c.args.self.now.inner) c.args.k none))
