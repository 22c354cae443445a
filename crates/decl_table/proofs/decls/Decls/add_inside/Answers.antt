use Rattle.std.proofs.Common.{false, refl, subst, sym}
use Rattle.std.specs.Prelude.{OnOk}
use Rattle.std.specs.Option.{option_copied}
use Rattle.template_tree.specs.Checks.ProgramMaps.{items_in}
use Rattle.decl_table.specs.Private.ItemTests.{turns_inside}
use Rattle.decl_table.specs.Private.NameTests.{AddsNames}
use Rattle.decl_table.specs.declared.reach.Reach.{Reach}
use Rattle.decl_table.proofs.AddedNames.{adds_no_names}
use Rattle.decl_table.proofs.decls.Decls.add_inside.Goals as goal

pub returns-in-Statement : goal.returns-in-Statement
returns-in-Statement c =
    subst
    (λ (r : Reach).
    AddsNames
    (turns_inside r c.args.self.now.headings (items_in c.args.self.now.items c.args.change.now.procedure.0)
    (items_in c.args.table.now.items c.args.change.now.procedure.0) (option_copied c.args.procedure))
    c.args.names.now c.args.names.now)
    (sym c.in-Statement.is)
    (adds_no_names c.args.names.now (λ name. false) (λ name. refl))

pub returns-in-Declaration : goal.returns-in-Declaration
returns-in-Declaration c =
    subst
    (λ (r : Reach).
    OnOk c.add_turned.result
    (AddsNames
    (turns_inside r c.args.self.now.headings (items_in c.args.self.now.items c.args.change.now.procedure.0)
    (items_in c.args.table.now.items c.args.change.now.procedure.0) (option_copied c.args.procedure))
    c.args.names.now c.add_turned.new.names))
    (sym c.in-Declaration.is) c.add_turned.ensures

pub returns-in-Heading : goal.returns-in-Heading
returns-in-Heading c =
    subst
    (λ (r : Reach).
    AddsNames
    (turns_inside r c.args.self.now.headings (items_in c.args.self.now.items c.args.change.now.procedure.0)
    (items_in c.args.table.now.items c.args.change.now.procedure.0) (option_copied c.args.procedure))
    c.args.names.now c.args.names.now)
    (sym c.in-Heading.is)
    (adds_no_names c.args.names.now (λ name. false) (λ name. refl))

pub returns-in-Procedure : goal.returns-in-Procedure
returns-in-Procedure c =
    subst
    (λ (r : Reach).
    AddsNames
    (turns_inside r c.args.self.now.headings (items_in c.args.self.now.items c.args.change.now.procedure.0)
    (items_in c.args.table.now.items c.args.change.now.procedure.0) (option_copied c.args.procedure))
    c.args.names.now c.args.names.now)
    (sym c.in-Procedure.is)
    (adds_no_names c.args.names.now (λ name. false) (λ name. refl))
