use Rattle.std.proofs.Common.{List, [], Option, None, refl}
use Rattle.std.specs.Prelude.{option_map}
use Rattle.plcs_grammar.specs.declared.template.Template.{Template}
use Rattle.template_tree.specs.Programs.PlainTree.{Label}
use Rattle.plcs_code.specs.Pieces.{template_pieces}
use Rattle.plcs_code.specs.PlainInstr.{PlainInstr}
use Rattle.plcs_code.specs.Private.PlainHalt.{plain_halt}
use Rattle.plcs_code.proofs.LaidPieces.{laid_nothing}
use Rattle.plcs_code.proofs.lay_behind.lay_template.Goals as goal

-- what stands behind the nodes inside, by the template
abbrev behind_of : Label → Option PlainInstr → Template → List PlainInstr
behind_of label stop template = (template_pieces label.slot None stop label.parts [] template).behind

pub returns-in-Fixed : goal.returns-in-Fixed
returns-in-Fixed g c = laid_nothing (behind_of c.args.node.now.label (option_map plain_halt c.args.stop)) _ _ c.in-Fixed.is refl

pub returns-in-Bit : goal.returns-in-Bit
returns-in-Bit g c = laid_nothing (behind_of c.args.node.now.label (option_map plain_halt c.args.stop)) _ _ c.in-Bit.is refl

pub returns-in-Char : goal.returns-in-Char
returns-in-Char g c = laid_nothing (behind_of c.args.node.now.label (option_map plain_halt c.args.stop)) _ _ c.in-Char.is refl

pub returns-in-If : goal.returns-in-If
returns-in-If g c = laid_nothing (behind_of c.args.node.now.label (option_map plain_halt c.args.stop)) _ _ c.in-If.is refl

pub returns-in-IfElse : goal.returns-in-IfElse
returns-in-IfElse g c = laid_nothing (behind_of c.args.node.now.label (option_map plain_halt c.args.stop)) _ _ c.in-IfElse.is refl

pub returns-in-While : goal.returns-in-While
returns-in-While g c = laid_nothing (behind_of c.args.node.now.label (option_map plain_halt c.args.stop)) _ _ c.in-While.is refl

pub returns-in-Group : goal.returns-in-Group
returns-in-Group g c = laid_nothing (behind_of c.args.node.now.label (option_map plain_halt c.args.stop)) _ _ c.in-Group.is refl

pub returns-in-Get : goal.returns-in-Get
returns-in-Get g c = laid_nothing (behind_of c.args.node.now.label (option_map plain_halt c.args.stop)) _ _ c.in-Get.is refl

pub returns-in-Put : goal.returns-in-Put
returns-in-Put g c = laid_nothing (behind_of c.args.node.now.label (option_map plain_halt c.args.stop)) _ _ c.in-Put.is refl

pub returns-in-PutSkip : goal.returns-in-PutSkip
returns-in-PutSkip g c = laid_nothing (behind_of c.args.node.now.label (option_map plain_halt c.args.stop)) _ _ c.in-PutSkip.is refl

pub returns-in-Call : goal.returns-in-Call
returns-in-Call g c = laid_nothing (behind_of c.args.node.now.label (option_map plain_halt c.args.stop)) _ _ c.in-Call.is refl

pub returns-in-Return : goal.returns-in-Return
returns-in-Return g c = laid_nothing (behind_of c.args.node.now.label (option_map plain_halt c.args.stop)) _ _ c.in-Return.is refl

pub returns-in-Comment : goal.returns-in-Comment
returns-in-Comment g c = laid_nothing (behind_of c.args.node.now.label (option_map plain_halt c.args.stop)) _ _ c.in-Comment.is refl
