use Rattle.std.proofs.Common.{◌∙◌}
use Rattle.program_cases.proofs.rechecking.follow_beside.Goals as goal

pub returns-after-same_before-clause-decls : goal.returns-after-same_before-clause-decls
returns-after-same_before-clause-decls c =
    c.put_in_place_agrees.ensures c.in-Ok.edit c.prepared.new.self.decls c.put_in_place.new.self.decls c.args.tree.now.items
    c.in-Ok.ensures.decls c.put_in_place.ensures.decls

pub returns-after-same_before-clause-marks : goal.returns-after-same_before-clause-marks
returns-after-same_before-clause-marks c = c.put_in_place.ensures.marks ∙ c.in-Ok.ensures.marks
