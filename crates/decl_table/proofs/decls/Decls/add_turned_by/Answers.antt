-- The items that are lost one way, those that are the other way, and the heading of the procedure: one after the other.
use Rattle.std.specs.Prelude.{◌||◌, refl, Some}
use Rattle.decl_table.specs.Private.ItemTests.{is_lost, names_turn, own_turns}
use Rattle.decl_table.proofs.AddedNames.{adds_then}
use Rattle.decl_table.proofs.AddedUses.{then_ok}
use Rattle.decl_table.proofs.decls.Decls.add_turned_by.Goals as goal

pub returns : goal.returns
returns c =
    let headings = c.args.self.now.headings in
    let node = c.args.procedure.now in
    let old = c.args.old.now in
    let new = c.args.new.now in
    then_ok c.add_headed.result
    (λ more.
    adds_then c.args.names.now c.add_differing.new.self c.add_headed.new.names (is_lost old new)
    (λ name. is_lost new old name || own_turns headings old new node name) (names_turn headings old new (Some node)) c.in_ok-add_differing.ensures
    (adds_then c.add_differing.new.self c.add_differing-2.new.self c.add_headed.new.names (is_lost new old) (own_turns headings old new node)
    (λ name. is_lost new old name || own_turns headings old new node name) c.in_ok-add_differing-2.ensures more (λ name. refl))
    (λ name. refl))
    c.add_headed.ensures
