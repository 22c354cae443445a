-- What becomes of the names of nodes is prepared first.
use Rattle.std.specs.Prelude.{◌≡◌}
use Rattle.std.proofs.Common.{ap, ◌∙◌, subst}
use Rattle.decl_table.specs.DeclEdit.{MayMendNames, names_mended}
use Rattle.decl_table.specs.Names.{names_of}
use Rattle.decl_table.specs.PlainDecls.{PlainDecls}
use Rattle.decl_table.proofs.decls.Decls.pieces_of.Goals as goal

pub of-requires-clause-before : goal.of-requires-clause-before
of-requires-clause-before c =
    let b = c.requires.before in
    (b.0, b.1.tree, ap (λ (d : PlainDecls). d.names) c.self.view_is ∙ b.1.decls_are.names_are, b.1.differs)

pub pieces_with-requires-clause-edit : goal.pieces_with-requires-clause-edit
pieces_with-requires-clause-edit c =
    λ before is agrees differs.
    c.in_ok-names.ensures.edit before is (ap (λ (d : PlainDecls). d.names) c.self.view_is ∙ agrees) differs

pub pieces_with-requires-clause-after : goal.pieces_with-requires-clause-after
pieces_with-requires-clause-after c =
    subst (λ (d : PlainDecls). names_mended c.in_ok-names.names.mend c.in_ok-names.names.path d.names ≡ names_of c.args.tree.now.items) c.self.view_is
    c.in_ok-names.ensures.after

pub pieces_with-requires-clause-there : goal.pieces_with-requires-clause-there
pieces_with-requires-clause-there c =
    subst (λ (d : PlainDecls). MayMendNames c.in_ok-names.names.mend c.in_ok-names.names.path d.names) c.self.view_is c.in_ok-names.ensures.there
