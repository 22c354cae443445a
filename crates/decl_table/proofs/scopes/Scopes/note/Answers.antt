-- The item is put among those that are lent, or among none; both put what comes of it under the procedure's slot.
use Rattle.std.proofs.Common.{◌≡◌, ◌∙◌, List, Option, Some, [], ap, refl, subst}
use Rattle.std.specs.Prelude.{IsSome, unwrap_or}
use Rattle.std.specs.FinMap.{from_entries, insert}
use Rattle.plcs_base.specs.Scope.{ItemMap}
use Rattle.plcs_base.specs.declared.declared.Declared.{Declared}
use Rattle.template_tree.specs.Checks.ProgramMaps.{items_in}
use Rattle.decl_table.specs.Private.DeclsView.{RoomyItems}
use Rattle.decl_table.specs.Private.ItemsView.{shaped}
use Rattle.decl_table.proofs.AddedUses.{then_ok}
use Rattle.decl_table.proofs.NotedItems.{items_found, noted_item, noted_others}
use Rattle.decl_table.proofs.TableMaps.{put}
use Rattle.decl_table.proofs.scopes.Scopes.note.Goals as goal

pub returns-in-Some-clause-named : goal.returns-in-Some-clause-named
returns-in-Some-clause-named c =
    let old = c.self.inside.procedures.entries in
    let slot = c.args.procedure.0 in
    let item = c.args.item.now in
    let new = (c.get_mut.follows.lender c.put.new.self).entries in
    let through = c.get_mut.follows.holds c.put.new.self in
    let held = c.in-Some.ensures.value in
    let now : ItemMap = from_entries new in
    let is : now ≡ insert c.args.self.now.items slot c.put.new.self =
    subst (λ (m : RoomyItems). now ≡ insert m.items slot c.put.new.self) c.self.view_is
    (put slot c.put.new.self old new (λ q. (through.3 (subst IsSome held refl)).0 q)) in
    let was : c.in-Some.items.now ≡ items_in c.args.self.now.items slot =
    items_found old slot (Some c.in-Some.items.now) held ∙ ap (λ (m : RoomyItems). items_in m.items slot) c.self.view_is in
    then_ok c.put.result
    (λ named. noted_item c.args.self.now.items now slot c.put.new.self is item (shaped item.name c.of.result) c.in-Some.items.now c.of.ensures was named)
    c.put.ensures.named

pub returns-in-Some-clause-others : goal.returns-in-Some-clause-others
returns-in-Some-clause-others c =
    let old = c.self.inside.procedures.entries in
    let slot = c.args.procedure.0 in
    let new = (c.get_mut.follows.lender c.put.new.self).entries in
    let through = c.get_mut.follows.holds c.put.new.self in
    let held = c.in-Some.ensures.value in
    let now : ItemMap = from_entries new in
    let is : now ≡ insert c.args.self.now.items slot c.put.new.self =
    subst (λ (m : RoomyItems). now ≡ insert m.items slot c.put.new.self) c.self.view_is
    (put slot c.put.new.self old new (λ q. (through.3 (subst IsSome held refl)).0 q)) in
    then_ok c.put.result (λ named. noted_others c.args.self.now.items now slot c.put.new.self is) c.put.ensures.named

pub returns-clause-named : goal.returns-clause-named
returns-clause-named c =
    let old = c.self.inside.procedures.entries in
    let slot = c.args.procedure.0 in
    let item = c.args.item.now in
    let list = c.in-Ok.items in
    let none : List Declared = [] in
    let was : none ≡ items_in c.args.self.now.items slot =
    ap (λ (o : Option (List Declared)). unwrap_or o []) c.in_default.ensures.value
    ∙ items_found old slot _ refl ∙ ap (λ (m : RoomyItems). items_in m.items slot) c.self.view_is in
    then_ok c.put-2.result
    (λ is.
    noted_item c.args.self.now.items c.put-2.new.self.items slot list
    (is
    ∙ ap (λ m. insert (let n : ItemMap = from_entries m.entries in n) slot list) c.get_mut.follows.holds-at-none
    ∙ ap (λ (m : RoomyItems). insert m.items slot list) c.self.view_is)
    item item none refl was c.in-Ok.ensures)
    c.put-2.ensures.put

pub returns-clause-others : goal.returns-clause-others
returns-clause-others c =
    let slot = c.args.procedure.0 in
    let list = c.in-Ok.items in
    then_ok c.put-2.result
    (λ is.
    noted_others c.args.self.now.items c.put-2.new.self.items slot list
    (is
    ∙ ap (λ m. insert (let n : ItemMap = from_entries m.entries in n) slot list) c.get_mut.follows.holds-at-none
    ∙ ap (λ (m : RoomyItems). insert m.items slot list) c.self.view_is))
    c.put-2.ensures.put
