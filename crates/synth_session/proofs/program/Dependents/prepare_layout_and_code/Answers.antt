use Rattle.std.proofs.Common.{subst, sym, ◌∙◌}
use Rattle.unparse_layout.specs.Bones.{PlainLayout}
use Rattle.unparse_layout.specs.LayoutEdit.{IsLayoutBefore}
use Rattle.synth_session.proofs.program.Dependents.prepare_layout_and_code.Goals as goal

pub prepare-requires-clause-before : goal.prepare-requires-clause-before
prepare-requires-clause-before g c =
    subst (λ (l : PlainLayout). IsLayoutBefore l c.args.tree.now c.args.change.now) (sym c.prepare_code.ensures.same.layout)
    c.requires.layout_before

pub returns-in-Ok-prepare-clause-layout : goal.returns-in-Ok-prepare-clause-layout
returns-in-Ok-prepare-clause-layout g c = record { ready = c.in-Ok-prepare.ensures.ready; becomes = c.in-Ok-prepare.ensures.after }

pub returns-in-Ok-prepare-clause-same : goal.returns-in-Ok-prepare-clause-same
returns-in-Ok-prepare-clause-same g c =
    let same = c.prepare_code.ensures.same in
    record {
      layout = c.prepare.ensures.same ∙ same.layout;
      decls = same.decls;
      marks = same.marks;
      code = same.code;
      told = same.told;
    }

pub returns-in-Err-prepare-clause-same : goal.returns-in-Err-prepare-clause-same
returns-in-Err-prepare-clause-same g c =
    let same = c.prepare_code.ensures.same in
    record {
      layout = c.prepare.ensures.same ∙ same.layout;
      decls = same.decls;
      marks = same.marks;
      code = same.code;
      told = same.told;
    }
