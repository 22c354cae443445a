use Rattle.std.proofs.Common.{◌≡◌, ◌+◌, ◌<◌, [], ◌∷◌, ◌++◌, length, arith, ap, ◌∙◌, sym}
use Rattle.std.proofs.lemmas.Grind.{common_steps}
use Rattle.terminal_keys.proofs.Cuts.{ended_passes, ended_rings, ended_silent}
use Rattle.terminal_keys.proofs.cutting.Begun.end.Goals as goal

-- nothing passes of a sequence that lacks bytes
pub returns-then-not-is_empty-clause-passes : goal.returns-then-not-is_empty-clause-passes
returns-then-not-is_empty-clause-passes c = ended_passes c.args.self.bytes.items c.args.self.lacks

pub returns-else-not-is_empty-clause-passes : goal.returns-else-not-is_empty-clause-passes
returns-else-not-is_empty-clause-passes c = ended_passes c.args.self.bytes.items c.args.self.lacks

-- a sequence that has begun rings
pub returns-then-not-is_empty-clause-bells : goal.returns-then-not-is_empty-clause-bells
returns-then-not-is_empty-clause-bells c =
    let some : 0 < length c.args.self.bytes.items = grind (arith, common_steps, c.is_empty.ensures, c.if-not-is_empty.true) in
    ended_rings c.args.self.bytes.items some c.args.self.lacks
    ∙ sym (c.push.ensures.items ∙ ap (λ bells. bells ++ 7 ∷ []) c.new-bells.ensures)

-- and none doesn't
pub returns-else-not-is_empty-clause-bells : goal.returns-else-not-is_empty-clause-bells
returns-else-not-is_empty-clause-bells c =
    let none : length c.args.self.bytes.items ≡ 0 = grind (arith, common_steps, c.is_empty.ensures, c.if-not-is_empty.false) in
    ended_silent c.args.self.bytes.items none ∙ sym c.new-bells.ensures
