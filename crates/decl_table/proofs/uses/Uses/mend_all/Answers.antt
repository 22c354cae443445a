use Rattle.std.proofs.Common.{subst}
use Rattle.std.specs.Prelude.{bytes_eq}
use Rattle.std.specs.List.{list_any}
use Rattle.std.specs.Map.{keys_of}
use Rattle.decl_table.specs.PlainDecls.{PlainUses}
use Rattle.decl_table.specs.Private.UsesView.{MendsNames}
use Rattle.decl_table.proofs.AddedUses.{then_ok}
use Rattle.decl_table.proofs.MendedUses.{mends_all}
use Rattle.decl_table.proofs.uses.Uses.mend_all.Goals as goal

pub returns : goal.returns
returns c =
    let before = c.args.before.now.uses in
    let went = c.args.went.now.uses in
    let came = c.args.came.now.uses in
    then_ok c.mend_names-2.result
    (mends_all before went came c.mend_names.new.self.uses c.mend_names-2.new.self.uses c.requires.before
    (subst (λ (none : PlainUses). MendsNames (λ name. list_any (bytes_eq name) (keys_of went)) before went came none c.mend_names.new.self.uses)
    c.requires.none c.in-Ok.ensures))
    c.mend_names-2.ensures
