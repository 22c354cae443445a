use Rattle.std.proofs.Common.{ap, sym, subst, ◌∙◌}
use Rattle.template_tree.specs.Checks.Marks.{offences}
use Rattle.template_tree.specs.Laws.CheckLaws.{CheckAlike}
use Rattle.template_tree.specs.Programs.PlainTree.{PlainTree, roomless, roomless_tree}
use Rattle.decl_table.specs.Agreement.{IsDeclsOf}
use Rattle.synth_session.specs.SessionView.{IsCodeFor}
use Rattle.synth_session.proofs.ProgramCodes.{code_turned}
use Rattle.synth_session.proofs.program.Program.toggle_elision.Goals as goal

pub returns-clause-agrees : goal.returns-clause-agrees
returns-clause-agrees g c =
    let alike : CheckAlike c.elide.new.self.items c.args.self.now.tree.items =
    subst (λ (t : PlainTree). CheckAlike t.items c.args.self.now.tree.items) (sym c.elide.ensures.changed)
    (c.checks_ignore_room_and_elision.ensures.elision c.args.self.now.tree.items c.args.path.now.items) in
    let decls = c.args.self.now.dependents.decls in
    let turned =
    (c.tables_ignore_room_and_elision.ensures.elision decls c.args.self.now.tree.items c.args.path.now.items).1
    c.requires.agrees.dependents.decls in
    record {
      tree = c.elide.ensures.tree;
      dependents =
          record {
            layout = c.elided.ensures;
            decls = subst (λ (t : PlainTree). IsDeclsOf decls t.items) (sym c.elide.ensures.changed) turned;
            marks = c.requires.agrees.dependents.marks ∙ sym alike.verdicts;
          };
      lines = c.forget.ensures (offences c.args.self.now.dependents.marks.verdicts) (roomless c.elide.new.self.items);
    }

pub returns-clause-code : goal.returns-clause-code
returns-clause-code g c =
    let tree = c.args.self.now.tree in
    let path = c.args.path.now.items in
    let code = c.args.self.now.dependents.code in
    λ has.
    subst (λ (t : PlainTree). IsCodeFor code t)
    (sym (ap roomless_tree c.elide.ensures.changed ∙ sym (c.room_is_not_shown.ensures.turns tree path)))
    (code_turned c.kept_code_ignores_room_and_elision.ensures.elision c.programs_have_one_code.ensures.elision code (roomless_tree tree) path
    has)
