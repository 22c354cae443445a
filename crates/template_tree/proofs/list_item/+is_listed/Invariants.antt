use Rattle.std.specs.Prelude.{length}
use Rattle.template_tree.proofs.list_item.+is_listed.Given as goal

abbrev pub decreases-is_listed : goal.decreases-is_listed
decreases-is_listed l = length l.sections.now
