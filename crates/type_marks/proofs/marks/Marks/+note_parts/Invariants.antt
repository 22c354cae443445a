use Rattle.std.proofs.Common.{◌-◌, length}
use Rattle.type_marks.proofs.marks.Marks.+note_parts.Given as goal

abbrev pub decreases-note_parts : goal.decreases-note_parts
decreases-note_parts g l = length l.node.now.label.parts - l.part
