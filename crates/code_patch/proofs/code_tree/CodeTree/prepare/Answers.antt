-- What is kept of the program before the edit is near what is kept after it, by how the edit is prepared; so what is
-- prepared makes of it what is kept after the edit. Before that only room is made.
use Rattle.std.specs.Prelude.{◌||◌, ℕ, Bool, List, Some}
use Rattle.std.specs.FinMap.{from_entries}
use Rattle.std.proofs.Common.{arith, ap, sym, subst, ◌∙◌}
use Rattle.template_tree.specs.Checks.Marks.{Marks}
use Rattle.template_tree.specs.Checks.ProgramMaps.{ScopeTells}
use Rattle.template_tree.specs.Positions.Path.{node_at}
use Rattle.plcs_code.specs.ProgramCode.{program_items}
use Rattle.code_patch.specs.ItemNames.{NumberMap}
use Rattle.code_patch.specs.Bill.{edit_bill, is_touched}
use Rattle.code_patch.specs.CodeEdit.{PlainCodeTree, edited_code, roomless_code}
use Rattle.code_patch.specs.PreparedEdit.{CanPutInCode}
use Rattle.code_patch.specs.Private.EditCosts.{list_cost}
use Rattle.code_patch.specs.Private.KeptPaths.{LeadsToChange, changes_declaration, kept_below, root_of}
use Rattle.code_patch.specs.Private.NearCode.{is_dropped}
use Rattle.code_patch.specs.Private.PreparedNodes.{plain_plan}
use Rattle.code_patch.proofs.CountedCode.{emits_more, emits_none}
use Rattle.code_patch.proofs.KeptPlaces.{kept_count, kept_deep}
use Rattle.code_patch.proofs.NameMaps.{names_kept}
use Rattle.code_patch.proofs.PreparedEdits.{way_fits, way_leads, way_there}
use Rattle.code_patch.proofs.SoughtSlots.{leads_roomless}
use Rattle.code_patch.proofs.ToldCode.{alike_told, kept_of_program, kept_told}
use Rattle.code_patch.proofs.TouchedSlots.{covers_touched}
use Rattle.code_patch.proofs.code_tree.CodeTree.prepare.Goals as goal

pub way_to-requires : goal.way_to-requires
way_to-requires g c =
    let (before, is_before, keeps, differs) = c.requires.before in
    let marks = Marks before.items in
    let items = program_items before.items in
    record {
      tree = c.requires.tree;
      shallow = omega (arith, kept_deep marks items c.args.self.now.items before.items keeps, is_before.shallow);
      few = omega (arith, kept_count marks items c.args.self.now.items before.items keeps, is_before.few);
    }

pub unreachable-requires : goal.unreachable-requires
unreachable-requires g c =
    let (before, is_before, keeps, differs) = c.requires.before in
    let there =
    way_there c.checks_ignore_room_and_elision.ensures.room c.room_is_not_shown.ensures.nodes c.slot_edit_is_path_edit.ensures
    c.programs_have_one_code.ensures.items c.args.change.now before.items c.args.tree.now.items (root_of c.args.self.now) keeps is_before.once
    c.requires.tree.once differs.by differs.within in
    omega (arith, there, c.in_default.ensures.none)

pub make_room-requires : goal.make_room-requires
make_room-requires g c =
    let (before, is_before, keeps, differs) = c.requires.before in
    let marks = Marks before.items in
    let items = program_items before.items in
    let root = root_of c.args.self.now in
    let after = c.args.tree.now.items in
    let change = c.args.change.now in
    record {
      few = omega (arith, kept_count marks items c.args.self.now.items before.items keeps, is_before.few);
      there =
          way_leads c.checks_ignore_room_and_elision.ensures.room c.room_is_not_shown.ensures.nodes c.slot_edit_is_path_edit.ensures
          c.programs_have_one_code.ensures.items change before.items after root keeps is_before.once c.requires.tree.once differs.by
          differs.within c.as_slice-way.result.now
          (subst (λ (w : List ℕ). LeadsToChange (is_dropped change.what) change.slot.0 w root after) (sym c.as_slice-way.ensures.value)
          c.in-Some.ensures.way);
    }

pub prepared-requires : goal.prepared-requires
prepared-requires g c =
    let (before, is_before, keeps, differs) = c.requires.before in
    let change = c.args.change.now in
    let after = c.args.tree.now.items in
    let code = c.make_room.new.self in
    let root = root_of code in
    let its = c.make_room.ensures.same ∙ keeps in
    let way = c.as_slice-way.result.now in
    let on = c.as_slice-way.ensures.value in
    let of = c.of-plan.ensures in
    let plan = plain_plan (g.M.Marked.marks c.of-plan.result.marks.now) (g.D.Scope.items c.of-plan.result.scope.now) c.of-plan.result in
    let declared = c.changes_declaration-declares.result in
    let fits =
    way_fits c.checks_ignore_room_and_elision.ensures.room c.room_is_not_shown.ensures.nodes c.slot_edit_is_path_edit.ensures
    c.programs_have_one_code.ensures.items change before.items after root its is_before.once c.requires.tree.once differs.by differs.within plan
    (ap g.M.Marked.marks of.marks ∙ c.requires.marks)
    (subst (λ scope. ScopeTells (g.D.Scope.items scope) after) (sym of.scope) c.requires.scope) declared way
    (λ i.
    record {
      marks = plan.marks;
      items = plan.items;
      what = of.what i;
      everywhere = (of.everywhere ∙ ap (λ (b : Bool). declared || b) c.leads_to_item-is_item.ensures) i;
      procedure = of.procedure i;
    })
    (c.changes_declaration-declares.ensures
    ∙ sym (ap (λ (w : List ℕ). changes_declaration change.what (kept_below root w) (node_at after w)) on))
    (leads_roomless change.what change.slot.0 way c.args.self.now code after (sym c.make_room.ensures.same)
    (subst (λ (w : List ℕ). LeadsToChange (is_dropped change.what) change.slot.0 w (root_of c.args.self.now) after) (sym on) c.in-Some.ensures.way))
    c.in_ok-make_room.ensures.room in
    record {
      tree = c.requires.tree;
      fits = fits.fits;
      near = fits.near;
      names = λ deep.
          sym (names_kept (Marks before.items) (program_items before.items) before.items code.items its)
          ∙ ap (λ (es : List (List ℕ × ℕ)). let m : NumberMap = from_entries es in m) (fits.names deep);
    }

pub returns-in_err-make_room-clause-same : goal.returns-in_err-make_room-clause-same
returns-in_err-make_room-clause-same g c = c.make_room.ensures.same

pub returns-in_err-prepared-clause-same : goal.returns-in_err-prepared-clause-same
returns-in_err-prepared-clause-same g c = c.make_room.ensures.same

pub returns-in_err-make_room-clause-counts : goal.returns-in_err-make_room-clause-counts
returns-in_err-make_room-clause-counts g c = λ before is_before keeps differs.
    let change = c.args.change.now in
    emits_none (edit_bill change.what change.slot.0 before.items c.args.tree.now.items) (g.W.Work.counts c.args.work.now)

pub returns-in_err-prepared-clause-counts : goal.returns-in_err-prepared-clause-counts
returns-in_err-prepared-clause-counts g c = λ before is_before keeps differs.
    let change = c.args.change.now in
    let after = c.args.tree.now.items in
    let code = c.make_room.new.self in
    let root = root_of code in
    let its = c.make_room.ensures.same ∙ keeps in
    let way = c.as_slice-way.result.now in
    let on = c.as_slice-way.ensures.value in
    let of = c.of-plan.ensures in
    let plan = plain_plan (g.M.Marked.marks c.of-plan.result.marks.now) (g.D.Scope.items c.of-plan.result.scope.now) c.of-plan.result in
    let declared = c.changes_declaration-declares.result in
    let fits =
    way_fits c.checks_ignore_room_and_elision.ensures.room c.room_is_not_shown.ensures.nodes c.slot_edit_is_path_edit.ensures
    c.programs_have_one_code.ensures.items change before.items after root its is_before.once c.requires.tree.once differs.by differs.within plan
    (ap g.M.Marked.marks of.marks ∙ c.requires.marks)
    (subst (λ scope. ScopeTells (g.D.Scope.items scope) after) (sym of.scope) c.requires.scope) declared way
    (λ i.
    record {
      marks = plan.marks;
      items = plan.items;
      what = of.what i;
      everywhere = (of.everywhere ∙ ap (λ (b : Bool). declared || b) c.leads_to_item-is_item.ensures) i;
      procedure = of.procedure i;
    })
    (c.changes_declaration-declares.ensures
    ∙ sym (ap (λ (w : List ℕ). changes_declaration change.what (kept_below root w) (node_at after w)) on))
    (leads_roomless change.what change.slot.0 way c.args.self.now code after (sym c.make_room.ensures.same)
    (subst (λ (w : List ℕ). LeadsToChange (is_dropped change.what) change.slot.0 w (root_of c.args.self.now) after) (sym on) c.in-Some.ensures.way))
    c.in_ok-make_room.ensures.room in
    emits_more (list_cost plan (Some way) code.items after) (edit_bill change.what change.slot.0 before.items after) (g.W.Work.counts c.args.work.now)
    (g.W.Work.counts c.prepared.new.work) (fits.cost (is_touched change.what change.slot.0 before.items after) (covers_touched before.items after change differs.within)) c.prepared.ensures.counts

pub returns-clause-counts : goal.returns-clause-counts
returns-clause-counts g c = λ before is_before keeps differs.
    let change = c.args.change.now in
    let after = c.args.tree.now.items in
    let code = c.make_room.new.self in
    let root = root_of code in
    let its = c.make_room.ensures.same ∙ keeps in
    let way = c.as_slice-way.result.now in
    let on = c.as_slice-way.ensures.value in
    let of = c.of-plan.ensures in
    let plan = plain_plan (g.M.Marked.marks c.of-plan.result.marks.now) (g.D.Scope.items c.of-plan.result.scope.now) c.of-plan.result in
    let declared = c.changes_declaration-declares.result in
    let fits =
    way_fits c.checks_ignore_room_and_elision.ensures.room c.room_is_not_shown.ensures.nodes c.slot_edit_is_path_edit.ensures
    c.programs_have_one_code.ensures.items change before.items after root its is_before.once c.requires.tree.once differs.by differs.within plan
    (ap g.M.Marked.marks of.marks ∙ c.requires.marks)
    (subst (λ scope. ScopeTells (g.D.Scope.items scope) after) (sym of.scope) c.requires.scope) declared way
    (λ i.
    record {
      marks = plan.marks;
      items = plan.items;
      what = of.what i;
      everywhere = (of.everywhere ∙ ap (λ (b : Bool). declared || b) c.leads_to_item-is_item.ensures) i;
      procedure = of.procedure i;
    })
    (c.changes_declaration-declares.ensures
    ∙ sym (ap (λ (w : List ℕ). changes_declaration change.what (kept_below root w) (node_at after w)) on))
    (leads_roomless change.what change.slot.0 way c.args.self.now code after (sym c.make_room.ensures.same)
    (subst (λ (w : List ℕ). LeadsToChange (is_dropped change.what) change.slot.0 w (root_of c.args.self.now) after) (sym on) c.in-Some.ensures.way))
    c.in_ok-make_room.ensures.room in
    emits_more (list_cost plan (Some way) code.items after) (edit_bill change.what change.slot.0 before.items after) (g.W.Work.counts c.args.work.now)
    (g.W.Work.counts c.prepared.new.work) (fits.cost (is_touched change.what change.slot.0 before.items after) (covers_touched before.items after change differs.within)) c.prepared.ensures.counts

pub returns-in_err-make_room-clause-same_code : goal.returns-in_err-make_room-clause-same_code
returns-in_err-make_room-clause-same_code g c = alike_told c.make_room.new.self.items c.args.self.now.items c.make_room.ensures.same

pub returns-in_err-prepared-clause-same_code : goal.returns-in_err-prepared-clause-same_code
returns-in_err-prepared-clause-same_code g c = alike_told c.make_room.new.self.items c.args.self.now.items c.make_room.ensures.same

pub returns-clause-same : goal.returns-clause-same
returns-clause-same g c = ap (λ (t : PlainCodeTree). roomless_code t.items) c.reserve_homes.ensures ∙ c.make_room.ensures.same

pub returns-clause-same_code : goal.returns-clause-same_code
returns-clause-same_code g c =
    alike_told c.reserve_homes.new.self.items c.args.self.now.items
    (ap (λ (t : PlainCodeTree). roomless_code t.items) c.reserve_homes.ensures ∙ c.make_room.ensures.same)

pub returns-clause-ready : goal.returns-clause-ready
returns-clause-ready g c =
    subst (λ (t : PlainCodeTree). CanPutInCode c.in_ok-prepared.prepared t) (sym c.reserve_homes.ensures) c.in_ok-prepared.ensures.fits

pub returns-clause-after : goal.returns-clause-after
returns-clause-after g c =
    let after = c.args.tree.now.items in
    let of = c.of-plan.ensures in
    ap (λ (t : PlainCodeTree). roomless_code (edited_code c.in_ok-prepared.prepared.steps t.items)) c.reserve_homes.ensures
    ∙ c.in_ok-prepared.ensures.made
    ∙ kept_of_program c.programs_have_one_code.ensures.items after (g.M.Marked.marks c.of-plan.result.marks.now)
    (g.D.Scope.items c.of-plan.result.scope.now) (ap g.M.Marked.marks of.marks ∙ c.requires.marks)
    (subst (λ scope. ScopeTells (g.D.Scope.items scope) after) (sym of.scope) c.requires.scope)

pub returns-clause-code : goal.returns-clause-code
returns-clause-code g c =
    let after = c.args.tree.now.items in
    let of = c.of-plan.ensures in
    kept_told c.lengths_are_told.ensures.own c.lengths_are_told.ensures.told
    (edited_code c.in_ok-prepared.prepared.steps c.reserve_homes.new.self.items) (Marks after) (program_items after) after
    (ap (λ (t : PlainCodeTree). roomless_code (edited_code c.in_ok-prepared.prepared.steps t.items)) c.reserve_homes.ensures
    ∙ c.in_ok-prepared.ensures.made
    ∙ kept_of_program c.programs_have_one_code.ensures.items after (g.M.Marked.marks c.of-plan.result.marks.now)
    (g.D.Scope.items c.of-plan.result.scope.now) (ap g.M.Marked.marks of.marks ∙ c.requires.marks)
    (subst (λ scope. ScopeTells (g.D.Scope.items scope) after) (sym of.scope) c.requires.scope))
