use Rattle.template_tree.proofs.tree.Tree.restore.Goals as goal

pub returns-in-Put : goal.returns-in-Put
returns-in-Put c = rw c.in-Put.is c.restore_node.ensures

pub returns-in-PutBack : goal.returns-in-PutBack
returns-in-PutBack c = rw c.in-PutBack.is c.restore_node-in-PutBack.ensures

pub returns-in-SetPart : goal.returns-in-SetPart
returns-in-SetPart c = rw c.in-SetPart.is c.restore_part.ensures

pub returns-in-TakeOut : goal.returns-in-TakeOut
returns-in-TakeOut c = rw c.in-TakeOut.is c.drop_item.ensures.others

pub returns-in-PutIn : goal.returns-in-PutIn
returns-in-PutIn c = rw c.in-PutIn.is c.restore_dropped.ensures
