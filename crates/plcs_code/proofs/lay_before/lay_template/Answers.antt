use Rattle.std.proofs.Common.{List, Option, None, refl}
use Rattle.std.specs.Prelude.{option_map}
use Rattle.plcs_base.specs.declared.declared.Declared.{Declared}
use Rattle.plcs_grammar.specs.declared.template.Template.{Template}
use Rattle.template_tree.specs.Programs.PlainTree.{Label}
use Rattle.plcs_code.specs.Pieces.{template_pieces}
use Rattle.plcs_code.specs.PlainInstr.{PlainInstr}
use Rattle.plcs_code.specs.Private.PlainHalt.{plain_halt}
use Rattle.plcs_code.proofs.LaidPieces.{laid_nothing}
use Rattle.plcs_code.proofs.lay_before.lay_template.Goals as goal

-- what stands before the nodes inside, by the template
abbrev before_of : List Declared → Label → Option PlainInstr → Template → List PlainInstr
before_of items label stop template = (template_pieces label.slot stop None label.parts items template).before

pub returns-in-Fixed : goal.returns-in-Fixed
returns-in-Fixed g c =
    laid_nothing (before_of c.args.items.now c.args.node.now.label (option_map plain_halt c.args.stop)) _ _ c.in-Fixed.is refl

pub returns-in-Bit : goal.returns-in-Bit
returns-in-Bit g c =
    laid_nothing (before_of c.args.items.now c.args.node.now.label (option_map plain_halt c.args.stop)) _ _ c.in-Bit.is refl

pub returns-in-Char : goal.returns-in-Char
returns-in-Char g c =
    laid_nothing (before_of c.args.items.now c.args.node.now.label (option_map plain_halt c.args.stop)) _ _ c.in-Char.is refl

pub returns-in-Until : goal.returns-in-Until
returns-in-Until g c =
    laid_nothing (before_of c.args.items.now c.args.node.now.label (option_map plain_halt c.args.stop)) _ _ c.in-Until.is refl

pub returns-in-Group : goal.returns-in-Group
returns-in-Group g c =
    laid_nothing (before_of c.args.items.now c.args.node.now.label (option_map plain_halt c.args.stop)) _ _ c.in-Group.is refl

pub returns-in-Comment : goal.returns-in-Comment
returns-in-Comment g c =
    laid_nothing (before_of c.args.items.now c.args.node.now.label (option_map plain_halt c.args.stop)) _ _ c.in-Comment.is refl
