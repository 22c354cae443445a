use Rattle.decl_table.proofs.AddedUses.{then_ok}
use Rattle.decl_table.proofs.KnownSources.{gathering_stays}
use Rattle.decl_table.proofs.KnownTables.{learns_more}
use Rattle.decl_table.proofs.KeptOwn.{keeps_more}
use Rattle.decl_table.proofs.known_table.Sources.know_these.Goals as goal

pub know_headings-requires-clause-gathering : goal.know_headings-requires-clause-gathering
know_headings-requires-clause-gathering c =
    gathering_stays c.args.self.now.items c.args.self.now.tree.now.items c.args.table.now c.know_items.new.table c.in-Ok.ensures.learns c.requires.gathering

pub returns-clause-learns : goal.returns-clause-learns
returns-clause-learns c =
    then_ok c.know_headings.result
    (learns_more c.args.self.now.tree.now.items c.args.table.now c.know_items.new.table c.know_headings.new.table c.in-Ok.ensures.learns)
    c.know_headings.ensures.learns

pub returns-clause-items : goal.returns-clause-items
returns-clause-items c =
    then_ok c.know_headings.result (λ learns name there. learns.items c.args.procedure.0 name (c.in-Ok.ensures.knows name there))
    c.know_headings.ensures.learns

pub returns-clause-own : goal.returns-clause-own
returns-clause-own c =
    then_ok c.know_headings.result
    (keeps_more c.args.self.now.items c.args.table.now c.know_items.new.table c.know_headings.new.table c.in-Ok.ensures.own)
    c.know_headings.ensures.own
