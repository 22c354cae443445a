use Rattle.std.proofs.Common.{sym, ap, subst, ◌∙◌}
use Rattle.template_tree.specs.Checks.Mention.{AreUses}
use Rattle.decl_table.specs.PlainDecls.{mentions_of}
use Rattle.decl_table.specs.Private.PlainNameNode.{PlainNameNode}
use Rattle.decl_table.specs.Private.UsesView.{RoomyUses}
use Rattle.decl_table.proofs.ReadProcedures.{root_few, uses_read}
use Rattle.decl_table.proofs.decls.Decls.take_names.Goals as goal

pub of-requires : goal.of-requires
of-requires c = record {
  few =
      root_few c.replace.new.dest c.args.tree.now.items c.requires.tree.program.sound
      (ap (λ (n : PlainNameNode). n.inner) c.replace.ensures.after ∙ c.in_ok-names.ensures.inner)
      (ap (λ (n : PlainNameNode). n.label.parts) c.replace.ensures.after ∙ c.in_ok-names.ensures.parts);
}

pub returns-clause-uses : goal.returns-clause-uses
returns-clause-uses c = λ name.
    subst (λ (u : RoomyUses). AreUses name c.args.tree.now.items (mentions_of name u.uses)) (sym c.replace-2.ensures.after)
    (uses_read name c.args.tree.now.items c.replace.new.dest (mentions_of name c.in_ok-uses.uses.uses)
    (ap (λ (n : PlainNameNode). n.inner) c.replace.ensures.after ∙ c.in_ok-names.ensures.inner)
    (ap (λ (n : PlainNameNode). n.label.parts) c.replace.ensures.after ∙ c.in_ok-names.ensures.parts) (c.in_ok-uses.ensures name))
