use Rattle.resume_cases.proofs.code.code_under.Goals as goal

pub returns-in-Ok : goal.returns-in-Ok
returns-in-Ok c =
    record {
      marks = _;
      items = _;
      marks_tell = c.requires.marks;
      items_tell = c.requires.decls.items_are;
      generated = c.in-Ok.ensures.code;
    }
