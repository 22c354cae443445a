use Rattle.std.proofs.Common.{◌∙◌, ap, arith, subst}
use Rattle.code_patch.specs.SoundCode.{AreSound}
use Rattle.code_patch.specs.CodeEdit.{PlainCodeTree}
use Rattle.code_patch.specs.Private.LocatedNode.{located_among}
use Rattle.code_patch.proofs.CodeRoots.{root_located}
use Rattle.code_patch.proofs.code_tree.CodeTree.located_noted.Goals as goal

pub located_by-requires : goal.located_by-requires
located_by-requires g c =
    record { short = omega (arith, c.self.invariant.short); once = c.self.invariant.sound.once c.args.slot.0 }

pub returns-clause-found : goal.returns-clause-found
returns-clause-found g c =
    c.in-Some-located_by.ensures.found
    ∙ root_located c.self.inside.root c.self.invariant.own c.args.slot.0
    ∙ ap (λ (t : PlainCodeTree). located_among c.args.slot.0 0 0 t.items) c.self.view_is

pub returns-clause-short : goal.returns-clause-short
returns-clause-short g c = omega (arith, c.in-Some-located_by.ensures.short, c.self.invariant.short)

pub returns-in_default-clause-sound : goal.returns-in_default-clause-sound
returns-in_default-clause-sound g c = subst (λ (t : PlainCodeTree). AreSound t.items) c.self.view_is c.self.invariant.sound

pub returns-in_default-located_by-clause-sound : goal.returns-in_default-located_by-clause-sound
returns-in_default-located_by-clause-sound g c = subst (λ (t : PlainCodeTree). AreSound t.items) c.self.view_is c.self.invariant.sound

pub returns-clause-sound : goal.returns-clause-sound
returns-clause-sound g c = subst (λ (t : PlainCodeTree). AreSound t.items) c.self.view_is c.self.invariant.sound
