-- The items before the edit and after it are those that the two tables have of the procedure.
use Rattle.std.proofs.Common.{Bor, List, Option, Some, false, refl, subst, sym}
use Rattle.std.specs.Prelude.{OnOk}
use Rattle.std.specs.Option.{option_copied}
use Rattle.plcs_base.specs.declared.declared.Declared.{Declared}
use Rattle.template_tree.specs.Checks.ProgramMaps.{items_in}
use Rattle.template_tree.specs.Programs.PlainTree.{PlainNode}
use Rattle.decl_table.specs.Private.ItemTests.{names_turn}
use Rattle.decl_table.specs.Private.NameTests.{AddsNames}
use Rattle.decl_table.proofs.AddedNames.{adds_no_names}
use Rattle.decl_table.proofs.decls.Decls.add_turned.Goals as goal

pub returns-in_default : goal.returns-in_default
returns-in_default c =
    subst
    (λ (o : Option (Bor PlainNode)).
    AddsNames
    (names_turn c.args.self.now.headings (items_in c.args.self.now.items c.args.slot.0) (items_in c.args.table.now.items c.args.slot.0) (option_copied o))
    c.args.names.now c.args.names.now)
    (sym c.in_default.is)
    (adds_no_names c.args.names.now (λ name. false) (λ name. refl))

pub returns : goal.returns
returns c =
    let headings = c.args.self.now.headings in
    let now = items_in c.args.table.now.items c.args.slot.0 in
    let node = c.in-Some.procedure.now in
    let adds = λ (old new : List Declared) (o : Option (Bor PlainNode)).
    OnOk c.add_turned_by-added.result (AddsNames (names_turn headings old new (option_copied o)) c.args.names.now c.add_turned_by-added.new.names) in
    subst (adds (items_in c.args.self.now.items c.args.slot.0) now) (sym c.in-Some.is)
    (subst (λ (old : List Declared). adds old now (Some c.in-Some.procedure)) (c.items_or-old.ensures c.new-none.ensures)
    (subst (λ (new : List Declared). adds c.items_or-old.result.now new (Some c.in-Some.procedure)) (c.items_or-new.ensures c.new-none.ensures)
    c.add_turned_by-added.ensures))
