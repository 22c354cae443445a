use Rattle.std.proofs.Common.{rules}
use Rattle.key_journal.proofs.MemDisks.{place_within, holds_written}
use Rattle.key_journal.proofs.mem_disk.MemDiskDisk.write_at.Goals as goal

pub written_over-requires-clause-within : goal.written_over-requires-clause-within
written_over-requires-clause-within c =
    let within = rw (← c.self.view_is) at c.requires in
    rw c.as_slice.ensures.value (place_within c.args.at _ _ c.self.invariant within)

pub invariant_of-self-2 : goal.invariant_of-self-2
invariant_of-self-2 c =
    let within = rw (← c.self.view_is) at c.requires in
    rw c.in_ok-note_write.ensures.ok
    (holds_written c.self.inside.bytes.items _ c.args.at c.args.piece.now _ c.self.invariant
    (place_within c.args.at _ _ c.self.invariant within) (search rules)
    (rw c.as_slice.ensures.value at c.in_ok-bytes.ensures))
