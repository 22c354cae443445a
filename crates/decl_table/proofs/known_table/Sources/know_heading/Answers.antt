use Rattle.std.proofs.Common.{sym}
use Rattle.decl_table.proofs.AddedUses.{then_ok}
use Rattle.decl_table.proofs.KnownTables.{knows_heading, knows_no_heading, learns_heading, learns_nothing}
use Rattle.decl_table.proofs.KeptOwn.{keeps_all, keeps_items}
use Rattle.decl_table.proofs.known_table.Sources.know_heading.Goals as goal

pub returns-in-Some-clause-learns : goal.returns-in-Some-clause-learns
returns-in-Some-clause-learns c =
    then_ok c.note_heading.result
    (λ noted.
    learns_heading c.args.self.now.tree.now.items c.args.table.now c.note_heading.new.self c.args.name.now c.in-Some.slot.0 c.in-Some.ensures noted
    c.note_heading.ensures.items)
    c.note_heading.ensures.noted

pub returns-in-Some-clause-knows : goal.returns-in-Some-clause-knows
returns-in-Some-clause-knows c =
    then_ok c.note_heading.result
    (λ noted.
    knows_heading c.args.self.now.tree.now.items c.args.table.now c.note_heading.new.self c.args.name.now c.in-Some.slot.0 c.in-Some.ensures noted
    c.note_heading.ensures.items)
    c.note_heading.ensures.noted

pub returns-in-None-clause-learns : goal.returns-in-None-clause-learns
returns-in-None-clause-learns c = learns_nothing c.args.self.now.tree.now.items c.args.table.now

pub returns-in-None-clause-knows : goal.returns-in-None-clause-knows
returns-in-None-clause-knows c =
    knows_no_heading c.args.self.now.tree.now.items c.args.table.now c.args.name.now c.requires.gathering.says (sym c.in-None.ensures)

pub returns-in-Some-clause-own : goal.returns-in-Some-clause-own
returns-in-Some-clause-own c =
    then_ok c.note_heading.result (λ noted. keeps_items c.args.self.now.items c.args.table.now c.note_heading.new.self c.note_heading.ensures.items) c.note_heading.ensures.noted

pub returns-in-None-clause-own : goal.returns-in-None-clause-own
returns-in-None-clause-own c = keeps_all c.args.self.now.items c.args.table.now
