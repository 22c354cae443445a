use Rattle.std.proofs.Common.{◌∙◌, sym}
use Rattle.decl_table.proofs.AddedUses.{then_ok}
use Rattle.decl_table.proofs.KnownSources.{both_ok, item_known, item_so, no_item}
use Rattle.decl_table.proofs.KnownTables.{knows_noted, learns_item, learns_nothing}
use Rattle.decl_table.proofs.KeptOwn.{keeps_all, keeps_elsewhere}
use Rattle.decl_table.proofs.known_table.Sources.know_item.Goals as goal

pub returns-then-is_of-clause-learns : goal.returns-then-is_of-clause-learns
returns-then-is_of-clause-learns c = learns_nothing c.args.self.now.tree.now.items c.args.table.now

pub returns-then-is_of-clause-knows : goal.returns-then-is_of-clause-knows
returns-then-is_of-clause-knows c = c.requires.gathering.own c.args.procedure.0 (sym c.is_of.ensures ∙ c.if-is_of.true) c.args.name.now

pub returns-in-Some-clause-learns : goal.returns-in-Some-clause-learns
returns-in-Some-clause-learns c =
    let program = c.args.self.now.tree.now.items in
    let elsewhere = sym c.is_of.ensures ∙ c.if-is_of.false in
    both_ok c.note_item.result
    (λ named others.
    learns_item program c.args.table.now c.note_item.new.self c.args.procedure.0 c.in-Some.item
    (item_so c.args.self.now.before.now c.args.self.now.headings.now c.args.self.now.items program c.requires.source c.args.procedure.0
    c.args.name.now elsewhere c.in-Some.item c.in-Some.ensures)
    named others c.note_item.ensures.headings)
    c.note_item.ensures.named c.note_item.ensures.others

pub returns-in-Some-clause-knows : goal.returns-in-Some-clause-knows
returns-in-Some-clause-knows c =
    let program = c.args.self.now.tree.now.items in
    let before = c.args.self.now.before.now in
    let elsewhere = sym c.is_of.ensures ∙ c.if-is_of.false in
    both_ok c.note_item.result
    (λ named others.
    item_known before c.args.self.now.headings.now c.args.self.now.items program c.requires.source c.args.procedure.0 c.args.name.now elsewhere
    c.in-Some.item c.note_item.new.self c.in-Some.ensures
    (knows_noted program c.args.table.now c.note_item.new.self c.args.procedure.0 c.in-Some.item
    (item_so before c.args.self.now.headings.now c.args.self.now.items program c.requires.source c.args.procedure.0 c.args.name.now elsewhere
    c.in-Some.item c.in-Some.ensures)
    named others c.note_item.ensures.headings))
    c.note_item.ensures.named c.note_item.ensures.others

pub returns-in-None-clause-learns : goal.returns-in-None-clause-learns
returns-in-None-clause-learns c = learns_nothing c.args.self.now.tree.now.items c.args.table.now

pub returns-in-None-clause-knows : goal.returns-in-None-clause-knows
returns-in-None-clause-knows c =
    no_item c.args.self.now.before.now c.args.self.now.headings.now c.args.self.now.items c.args.self.now.tree.now.items c.requires.source c.args.procedure.0
    c.args.name.now (sym c.is_of.ensures ∙ c.if-is_of.false) c.args.table.now c.requires.gathering.says c.in-None.ensures

pub returns-then-is_of-clause-own : goal.returns-then-is_of-clause-own
returns-then-is_of-clause-own c = keeps_all c.args.self.now.items c.args.table.now

pub returns-in-Some-clause-own : goal.returns-in-Some-clause-own
returns-in-Some-clause-own c =
    then_ok c.note_item.result
    (keeps_elsewhere c.args.self.now.items c.args.table.now c.note_item.new.self c.args.procedure.0 (sym c.is_of.ensures ∙ c.if-is_of.false))
    c.note_item.ensures.others

pub returns-in-None-clause-own : goal.returns-in-None-clause-own
returns-in-None-clause-own c = keeps_all c.args.self.now.items c.args.table.now
