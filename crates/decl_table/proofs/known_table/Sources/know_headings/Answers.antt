use Rattle.std.proofs.Common.{◌≡◌, ◌≤◌, List, ℕ, length, subst, true, arith}
use Rattle.decl_table.specs.Knowledge.{KnowsHeading}
use Rattle.decl_table.specs.Private.NameTests.{has_name}
use Rattle.decl_table.proofs.AddedUses.{left_behind}
use Rattle.decl_table.proofs.KnownSources.{gathering_stays, names_known, none_known, take_all}
use Rattle.decl_table.proofs.KnownTables.{learns_more, learns_nothing}
use Rattle.decl_table.proofs.KeptOwn.{keeps_all, keeps_more}
use Rattle.decl_table.proofs.known_table.Sources.know_headings.Goals as goal

pub loop-name-init : goal.loop-name-init
loop-name-init c = record {
  learnt = learns_nothing c.args.self.now.tree.now.items c.args.table.now;
  kept = keeps_all c.args.self.now.items c.args.table.now;
  knows = none_known (λ name. KnowsHeading c.args.table.now c.args.self.now.tree.now.items name) c.args.names.now;
}

pub know_heading-requires-clause-gathering : goal.know_heading-requires-clause-gathering
know_heading-requires-clause-gathering c =
    gathering_stays c.args.self.now.items c.args.self.now.tree.now.items c.args.table.now c.loop-name.table c.loop-name.invariant.learnt c.requires.gathering

pub loop-name-preserved : goal.loop-name-preserved
loop-name-preserved c =
    let program = c.args.self.now.tree.now.items in
    let names = c.args.names.now in
    let k = c.loop-name.name-index in
    let own = c.name-item.result in
    record {
      kept = keeps_more c.args.self.now.items c.args.table.now c.loop-name.table c.know_heading.new.table c.loop-name.invariant.kept c.in_ok-know_heading.ensures.own;
      learnt =
          learns_more program c.args.table.now c.loop-name.table c.know_heading.new.table c.loop-name.invariant.learnt c.in_ok-know_heading.ensures.learns;
      knows =
          names_known (λ name. KnowsHeading c.loop-name.table c.args.self.now.tree.now.items name) (λ name. KnowsHeading c.know_heading.new.table c.args.self.now.tree.now.items name) names k own
          (left_behind names k own c.loop-name-test.true c.name-item.is)
          c.in_ok-know_heading.ensures.learns.headings
          c.loop-name.invariant.knows c.in_ok-know_heading.ensures.knows;
    }

pub returns-clause-learns : goal.returns-clause-learns
returns-clause-learns c = c.loop-name.invariant.learnt

pub returns-clause-knows : goal.returns-clause-knows
returns-clause-knows c =
    let names = c.args.names.now in
    let past : length names ≤ c.loop-name.name-index = omega (arith, c.loop-name-test.false) in
    subst (λ (all : List (List ℕ)). (name : List ℕ) → has_name all name ≡ true → KnowsHeading c.loop-name.table c.args.self.now.tree.now.items name)
    (take_all names c.loop-name.name-index past) c.loop-name.invariant.knows

pub returns-clause-own : goal.returns-clause-own
returns-clause-own c = c.loop-name.invariant.kept
