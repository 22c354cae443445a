use Rattle.std.proofs.Common.{OnOk, length, subst}
use Rattle.std.proofs.lemmas.Result.{IfOk-weaker}
use Rattle.plcs_code.specs.Counts.{Emits}
use Rattle.plcs_code.specs.Gen.{PlainCode}
use Rattle.template_tree.specs.Checks.Marks.{offences}
use Rattle.program_run.proofs.running.code_of.Goals as goal
use Rattle.std.proofs.Common.{◌∙◌}

pub returns-clause-code : goal.returns-clause-code
returns-clause-code g c =
    let tree = c.args.tree.now in
    let marks = offences c.args.marks.now.verdicts in
    let items = c.args.decls.now.items in
    let own = c.programs_have_one_code.ensures.made tree.items marks items c.requires.marks c.requires.decls.items_are in
    IfOk-weaker c.generate.result _ _
    (λ code same. record {
      marks = marks;
      items = items;
      marks_tell = c.requires.marks;
      items_tell = c.requires.decls.items_are;
      generated = same;
      own = same ∙ own;
    })
    c.generate.ensures.code

pub returns-clause-counted : goal.returns-clause-counted
returns-clause-counted g c =
    let tree = c.args.tree.now in
    let marks = offences c.args.marks.now.verdicts in
    let items = c.args.decls.now.items in
    let own = c.programs_have_one_code.ensures.made tree.items marks items c.requires.marks c.requires.decls.items_are in
    subst (λ (code : PlainCode). OnOk c.generate.result (Emits (length code.instrs) (g.W.Work.counts c.args.work.now) (g.W.Work.counts c.generate.new.work)))
    own c.generate.ensures.counted
