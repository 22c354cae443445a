use Rattle.template_tree.specs.Checks.Marks.{offences}
use Rattle.run_cases.proofs.code.generated.Goals as goal

pub returns-in-Ok : goal.returns-in-Ok
returns-in-Ok c =
    record {
      tree = c.args.tree.now;
      marks = offences c.args.marks.now.verdicts;
      items = c.args.decls.now.items;
      is_tree = c.requires.tree;
      marks_tell = c.requires.marks;
      items_tell = c.requires.decls.items_are;
      generated = c.in-Ok.ensures.code;
    }
