-- None where the edit reaches no further; else those that are bound where it was, and those beyond.
use Rattle.std.proofs.Common.{◌≡◌, ◌∙◌, List, ℕ, true, subst, sym}
use Rattle.std.specs.Prelude.{◌↔◌, ◌||◌}
use Rattle.std.specs.Option.{option_copied}
use Rattle.template_tree.specs.Checks.ProgramMaps.{items_in}
use Rattle.decl_table.specs.Private.AffectedView.{IsGathered}
use Rattle.decl_table.specs.Private.NameTests.{AddsNames, bound_of, has_name}
use Rattle.decl_table.proofs.AddedUses.{then_ok}
use Rattle.decl_table.proofs.GatheredTests.{gathers, gathers_none}
use Rattle.decl_table.proofs.decls.Decls.add_affected.Goals as goal

pub returns-then-not-has_lists : goal.returns-then-not-has_lists
returns-then-not-has_lists c =
    let part = c.args.nodes.now.part in
    let stood = option_copied c.args.nodes.now.old in
    let stands = option_copied c.args.nodes.now.new in
    let headings = c.args.self.now.headings in
    let old = items_in c.args.self.now.items c.args.change.now.procedure.0 in
    let new = items_in c.args.table.now.items c.args.change.now.procedure.0 in
    let procedure = option_copied c.args.procedure in
    λ name.
    subst
    (λ (names : List (List ℕ)). has_name names name ≡ true ↔ IsGathered c.args.reach part stood stands headings old new procedure name)
    (sym c.requires.none)
    (gathers_none c.args.reach part stood stands headings old new procedure (sym c.has_lists.ensures ∙ c.if-not-has_lists.true) name)

pub returns : goal.returns
returns c =
    let part = c.args.nodes.now.part in
    let stood = option_copied c.args.nodes.now.old in
    let stands = option_copied c.args.nodes.now.new in
    let headings = c.args.self.now.headings in
    let old = items_in c.args.self.now.items c.args.change.now.procedure.0 in
    let new = items_in c.args.table.now.items c.args.change.now.procedure.0 in
    let procedure = option_copied c.args.procedure in
    then_ok c.add_inside.result
    (gathers c.args.reach part stood stands headings old new procedure c.add_bound.new.names c.add_inside.new.names
    (sym c.has_lists.ensures ∙ c.if-not-has_lists.false)
    (subst
    (λ (names : List (List ℕ)). AddsNames (λ name. bound_of part stood name || bound_of part stands name) names c.add_bound.new.names)
    c.requires.none c.in-Ok.ensures))
    c.add_inside.ensures
