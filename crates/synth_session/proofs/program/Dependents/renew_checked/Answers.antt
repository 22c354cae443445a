-- What is prepared in each part can be put in place together.
use Rattle.synth_session.proofs.PreparedPrograms.{all_ready}
use Rattle.synth_session.proofs.program.Dependents.renew_checked.Goals as goal

pub commit-requires : goal.commit-requires
commit-requires g c = (
  c.args.tree.now,
  all_ready c.in-Ok.layout c.args.decls c.args.marks c.in-Ok.code c.args.self.now c.prepare_layout_and_code.new.self
      c.args.tree.now c.prepare_layout_and_code.ensures.same c.requires.checks c.in-Ok.ensures.layout c.in-Ok.ensures.code,
)

pub returns-in-Ok-clause-depend : goal.returns-in-Ok-clause-depend
returns-in-Ok-clause-depend g c =
    c.commit.ensures.depend c.args.tree.now
    (all_ready c.in-Ok.layout c.args.decls c.args.marks c.in-Ok.code c.args.self.now c.prepare_layout_and_code.new.self
    c.args.tree.now c.prepare_layout_and_code.ensures.same c.requires.checks c.in-Ok.ensures.layout c.in-Ok.ensures.code)

pub returns-in-Ok-clause-code : goal.returns-in-Ok-clause-code
returns-in-Ok-clause-code g c =
    c.commit.ensures.code c.args.tree.now
    (all_ready c.in-Ok.layout c.args.decls c.args.marks c.in-Ok.code c.args.self.now c.prepare_layout_and_code.new.self
    c.args.tree.now c.prepare_layout_and_code.ensures.same c.requires.checks c.in-Ok.ensures.layout c.in-Ok.ensures.code)
