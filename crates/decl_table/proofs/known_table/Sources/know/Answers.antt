use Rattle.std.proofs.Common.{ℕ, sym, subst}
use Rattle.plcs_grammar.specs.PlainPhrase.{plain_phrase}
use Rattle.template_tree.specs.Checks.Mention.{mentioned}
use Rattle.decl_table.specs.Knowledge.{KnowsItems}
use Rattle.decl_table.proofs.AddedUses.{then_ok}
use Rattle.decl_table.proofs.KnownSources.{both_ok, found_knows, gathering_stays, knows_call, knows_names}
use Rattle.decl_table.proofs.KnownTables.{learns_more, learns_nothing}
use Rattle.decl_table.proofs.KeptOwn.{keeps_all, keeps_more}
use Rattle.decl_table.proofs.known_table.Sources.know.Goals as goal

pub returns-in_default-clause-learns : goal.returns-in_default-clause-learns
returns-in_default-clause-learns c = learns_nothing c.args.self.now.tree.now.items c.args.table.now

pub returns-in_default-clause-knows : goal.returns-in_default-clause-knows
returns-in_default-clause-knows c =
    λ procedure phrase stands. absurd (c.in_default.ensures procedure phrase stands)

pub know_called-requires-clause-gathering : goal.know_called-requires-clause-gathering
know_called-requires-clause-gathering c =
    gathering_stays c.args.self.now.items c.args.self.now.tree.now.items c.args.table.now c.know_names.new.table c.in_ok-know_names.ensures.learns c.requires.gathering

pub returns-in-Some-called-clause-learns : goal.returns-in-Some-called-clause-learns
returns-in-Some-called-clause-learns c =
    then_ok c.know_called.result
    (learns_more c.args.self.now.tree.now.items c.args.table.now c.know_names.new.table c.know_called.new.table c.in_ok-know_names.ensures.learns)
    c.know_called.ensures.learns

pub returns-in-Some-called-clause-knows : goal.returns-in-Some-called-clause-knows
returns-in-Some-called-clause-knows c =
    let program = c.args.self.now.tree.now.items in
    let own = c.in-Some.procedure.now in
    let found = plain_phrase c.in-Some.phrase.now in
    both_ok c.know_called.result
    (λ learns knows procedure phrase stands.
    found_knows program c.know_called.new.table own found procedure phrase (c.in-Some.ensures procedure phrase stands).0
    (c.in-Some.ensures procedure phrase stands).1
    (knows_call program c.know_names.new.table c.know_called.new.table own found c.in-Some-called.name.now (sym c.in-Some-called.ensures)
    (subst (λ (n : ℕ). KnowsItems c.know_names.new.table program n (mentioned found)) c.slot.ensures c.in_ok-know_names.ensures.items)
    c.in_ok-know_names.ensures.headings learns knows))
    c.know_called.ensures.learns c.know_called.ensures.knows

pub returns-in-None-clause-knows : goal.returns-in-None-clause-knows
returns-in-None-clause-knows c =
    let program = c.args.self.now.tree.now.items in
    let own = c.in-Some.procedure.now in
    let found = plain_phrase c.in-Some.phrase.now in
    λ procedure phrase stands.
    found_knows program c.know_names.new.table own found procedure phrase (c.in-Some.ensures procedure phrase stands).0
    (c.in-Some.ensures procedure phrase stands).1
    (knows_names program c.know_names.new.table own found (sym c.in-None.ensures)
    (subst (λ (n : ℕ). KnowsItems c.know_names.new.table program n (mentioned found)) c.slot.ensures c.in_ok-know_names.ensures.items)
    c.in_ok-know_names.ensures.headings)

pub returns-in_default-clause-own : goal.returns-in_default-clause-own
returns-in_default-clause-own c = keeps_all c.args.self.now.items c.args.table.now

pub returns-in-Some-called-clause-own : goal.returns-in-Some-called-clause-own
returns-in-Some-called-clause-own c =
    then_ok c.know_called.result
    (keeps_more c.args.self.now.items c.args.table.now c.know_names.new.table c.know_called.new.table c.in_ok-know_names.ensures.own)
    c.know_called.ensures.own
