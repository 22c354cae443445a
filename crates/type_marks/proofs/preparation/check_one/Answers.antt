-- The verdict that was made is kept, and all others are as they were.
use Rattle.type_marks.proofs.CheckedDue.{checked_more, entries_more}
use Rattle.type_marks.proofs.preparation.check_one.Goals as goal

pub returns-in-Ok-insert-clause-checked : goal.returns-in-Ok-insert-clause-checked
returns-in-Ok-insert-clause-checked g c =
    λ due k within same before.
    checked_more c.args.tree.now.items due k c.args.at c.in-Ok.verdict c.args.phrases.now.entries c.insert.new.self.entries within same
    c.in-Ok.ensures.verdict before (λ q. c.in-Ok-insert.ensures.updates.0 q)

pub returns-in-Ok-insert-clause-few : goal.returns-in-Ok-insert-clause-few
returns-in-Ok-insert-clause-few g c = entries_more _ _ _ c.in-Ok-insert.ensures.len
