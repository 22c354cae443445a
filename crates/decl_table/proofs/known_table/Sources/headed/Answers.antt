use Rattle.std.proofs.Common.{◌∙◌, ap}
use Rattle.decl_table.specs.DeclEdit.{changed_or}
use Rattle.decl_table.specs.PlainDecls.{slot_of}
use Rattle.decl_table.proofs.known_table.Sources.headed.Goals as goal

pub returns-in-Some : goal.returns-in-Some
returns-in-Some c =
    ap (λ o. changed_or o (slot_of c.args.name.now c.args.self.now.before.now.headings)) c.in-Some.ensures
    ∙ c.requires.source.headings_are c.args.name.now

pub returns-in-None : goal.returns-in-None
returns-in-None c =
    c.signature.ensures
    ∙ ap (λ o. changed_or o (slot_of c.args.name.now c.args.self.now.before.now.headings)) c.in-None.ensures
    ∙ c.requires.source.headings_are c.args.name.now
