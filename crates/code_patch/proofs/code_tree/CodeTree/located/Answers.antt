use Rattle.std.proofs.Common.{◌∙◌, ap, arith, subst}
use Rattle.code_patch.specs.SoundCode.{AreSound}
use Rattle.code_patch.specs.CodeEdit.{PlainCodeTree}
use Rattle.code_patch.specs.Private.LocatedNode.{located_among}
use Rattle.code_patch.proofs.CodeRoots.{root_located}
use Rattle.code_patch.proofs.code_tree.CodeTree.located.Goals as goal

pub located_inside-requires : goal.located_inside-requires
located_inside-requires g c = record { short = omega (arith, c.self.invariant.short) }

pub returns-in-Some-located_inside-clause-found : goal.returns-in-Some-located_inside-clause-found
returns-in-Some-located_inside-clause-found g c =
    c.in-Some-located_inside.ensures.found
    ∙ root_located c.self.inside.root c.self.invariant.own c.args.slot.0
    ∙ ap (λ (t : PlainCodeTree). located_among c.args.slot.0 0 0 t.items) c.self.view_is

pub returns-in-Some-located_inside-clause-short : goal.returns-in-Some-located_inside-clause-short
returns-in-Some-located_inside-clause-short g c =
    omega (arith, c.in-Some-located_inside.ensures.short, c.self.invariant.short)

pub returns-in-None-clause-found : goal.returns-in-None-clause-found
returns-in-None-clause-found g c =
    c.in-None.ensures.found
    ∙ root_located c.self.inside.root c.self.invariant.own c.args.slot.0
    ∙ ap (λ (t : PlainCodeTree). located_among c.args.slot.0 0 0 t.items) c.self.view_is

pub returns-in-Some-clause-sound : goal.returns-in-Some-clause-sound
returns-in-Some-clause-sound g c = c.in-Some.ensures.sound

pub returns-in-Some-located_inside-clause-sound : goal.returns-in-Some-located_inside-clause-sound
returns-in-Some-located_inside-clause-sound g c = subst (λ (t : PlainCodeTree). AreSound t.items) c.self.view_is c.self.invariant.sound

pub returns-in-None-clause-sound : goal.returns-in-None-clause-sound
returns-in-None-clause-sound g c = subst (λ (t : PlainCodeTree). AreSound t.items) c.self.view_is c.self.invariant.sound
