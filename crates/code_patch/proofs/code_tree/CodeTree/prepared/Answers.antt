-- The steps are those of the list inside the root; what they make is what is kept of the program after the edit, so
-- that it is sound and has the names of that.
use Rattle.std.specs.Prelude.{◌≡◌, Some}
use Rattle.std.proofs.Common.{ap, sym, subst, ◌∙◌}
use Rattle.plcs_code.specs.Counts.{EmitsAtMost}
use Rattle.code_patch.specs.CodeEdit.{CodeEdit, edited_code, roomless_code}
use Rattle.code_patch.specs.CodeForest.{kept_code, PlainCodeNode}
use Rattle.code_patch.specs.PreparedEdit.{StepsFit}
use Rattle.code_patch.specs.Private.EditCosts.{list_cost}
use Rattle.code_patch.specs.Private.NearCode.{Near, item_edited}
use Rattle.code_patch.specs.Private.PreparedNodes.{WayFits, plain_plan}
use Rattle.code_patch.specs.Private.StepsView.{edit_of_steps}
use Rattle.code_patch.proofs.NameMaps.{names_fit}
use Rattle.code_patch.proofs.RoomlessCode.{root_is}
use Rattle.code_patch.proofs.SoundCode.{sound_kept}
use Rattle.code_patch.proofs.code_tree.CodeTree.prepared.Goals as goal

pub list_edit-requires : goal.list_edit-requires
list_edit-requires g c =
    let plan = plain_plan (g.M.Marked.marks c.args.plan.now.marks.now) (g.D.Scope.items c.args.plan.now.scope.now) c.args.plan.now in
    let after = c.args.tree.now.items in
    let way = Some c.args.way.now in
    let is = sym (root_is c.self.inside c.args.self.now c.self.view_is c.self.invariant) in
    record {
      outer = c.requires.tree;
      fits = subst (λ (n : PlainCodeNode). WayFits plan.what way n after) is c.requires.fits;
      near = subst (λ (n : PlainCodeNode). Near plan way 0 (item_edited plan way n.inner after) after) is c.requires.near;
    }

pub returns-clause-fits : goal.returns-clause-fits
returns-clause-fits g c =
    let marks = g.M.Marked.marks c.args.plan.now.marks.now in
    let items = g.D.Scope.items c.args.plan.now.scope.now in
    let code = c.args.self.now in
    let after = c.args.tree.now.items in
    let root = root_is c.self.inside code c.self.view_is c.self.invariant in
    let steps : CodeEdit = c.of.result in
    let made : roomless_code (edited_code steps code.items) ≡ kept_code marks items after =
    ap (λ (e : CodeEdit). roomless_code (edited_code e code.items)) c.of.ensures
    ∙ sym (ap (λ (n : PlainCodeNode). roomless_code (edited_code (edit_of_steps c.in_ok-list.list.steps.items) n.inner)) root)
    ∙ c.in_ok-list.ensures.made in
    record {
      steps =
          subst (λ (e : CodeEdit). StepsFit e code.spare code.items) (sym c.of.ensures)
          (subst (λ (n : PlainCodeNode). StepsFit (edit_of_steps c.in_ok-list.list.steps.items) n.spare n.inner) root
          c.in_ok-list.ensures.list.fit);
      names =
          names_fit marks items after c.in_ok-names.names code.items (edited_code steps code.items) made c.in_ok-names.ensures.none
          c.in_ok-names.ensures.some c.requires.names;
      sound =
          sound_kept c.own_codes_stay_in_slots.ensures.steps marks items after (edited_code steps code.items) c.requires.tree.once made;
    }

pub returns-clause-made : goal.returns-clause-made
returns-clause-made g c =
    let code = c.args.self.now in
    ap (λ (e : CodeEdit). roomless_code (edited_code e code.items)) c.of.ensures
    ∙ sym
    (ap (λ (n : PlainCodeNode). roomless_code (edited_code (edit_of_steps c.in_ok-list.list.steps.items) n.inner))
    (root_is c.self.inside code c.self.view_is c.self.invariant))
    ∙ c.in_ok-list.ensures.made

pub returns-in_err-list-clause-counts : goal.returns-in_err-list-clause-counts
returns-in_err-list-clause-counts g c =
    let plan = plain_plan (g.M.Marked.marks c.args.plan.now.marks.now) (g.D.Scope.items c.args.plan.now.scope.now) c.args.plan.now in
    subst
    (λ (n : PlainCodeNode).
    EmitsAtMost (list_cost plan (Some c.args.way.now) n.inner c.args.tree.now.items) (g.W.Work.counts c.args.work.now)
    (g.W.Work.counts c.list_edit.new.work))
    (root_is c.self.inside c.args.self.now c.self.view_is c.self.invariant) c.list_edit.ensures.counts

pub returns-in_err-names-clause-counts : goal.returns-in_err-names-clause-counts
returns-in_err-names-clause-counts g c =
    let plan = plain_plan (g.M.Marked.marks c.args.plan.now.marks.now) (g.D.Scope.items c.args.plan.now.scope.now) c.args.plan.now in
    subst
    (λ (n : PlainCodeNode).
    EmitsAtMost (list_cost plan (Some c.args.way.now) n.inner c.args.tree.now.items) (g.W.Work.counts c.args.work.now)
    (g.W.Work.counts c.list_edit.new.work))
    (root_is c.self.inside c.args.self.now c.self.view_is c.self.invariant) c.list_edit.ensures.counts

pub returns-clause-counts : goal.returns-clause-counts
returns-clause-counts g c =
    let plan = plain_plan (g.M.Marked.marks c.args.plan.now.marks.now) (g.D.Scope.items c.args.plan.now.scope.now) c.args.plan.now in
    subst
    (λ (n : PlainCodeNode).
    EmitsAtMost (list_cost plan (Some c.args.way.now) n.inner c.args.tree.now.items) (g.W.Work.counts c.args.work.now)
    (g.W.Work.counts c.list_edit.new.work))
    (root_is c.self.inside c.args.self.now c.self.view_is c.self.invariant) c.list_edit.ensures.counts
