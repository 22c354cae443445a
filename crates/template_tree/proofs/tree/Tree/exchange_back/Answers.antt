use Rattle.std.proofs.Common.{subst}
use Rattle.template_tree.specs.declared.receipt.Undoing.{Undoing}
use Rattle.template_tree.specs.Edits.Receipt.{items_before}
use Rattle.template_tree.specs.Private.ReceiptView.{plain_undoing}
use Rattle.template_tree.specs.Private.Restored.{with_edit}
use Rattle.template_tree.specs.Programs.PlainTree.{roomless_tree}
use Rattle.template_tree.specs.Programs.Program.{IsProgram}
use Rattle.template_tree.proofs.tree.Tree.exchange_back.Goals as goal

pub take_again-requires-clause-program : goal.take_again-requires-clause-program
take_again-requires-clause-program c =
    subst
    (λ (u : Undoing).
    IsProgram (with_edit (items_before (plain_undoing u) c.args.back) c.args.path.items (roomless_tree c.args.self.now)).items)
    c.in-TakeOut.is c.requires.program

pub returns-in-Put : goal.returns-in-Put
returns-in-Put c = rw c.in-Put.is c.put_again.ensures

pub returns-in-PutBack : goal.returns-in-PutBack
returns-in-PutBack c = rw c.in-PutBack.is c.give_back.ensures

pub returns-in-SetPart : goal.returns-in-SetPart
returns-in-SetPart c = rw c.in-SetPart.is c.set_again.ensures

pub returns-in-TakeOut : goal.returns-in-TakeOut
returns-in-TakeOut c = rw c.in-TakeOut.is c.take_again.ensures

pub returns-in-PutIn : goal.returns-in-PutIn
returns-in-PutIn c = rw c.in-PutIn.is c.insert_again.ensures
