use Rattle.std.proofs.Common.{rules}
use Rattle.key_journal.proofs.Fillings.{reads_more}
use Rattle.key_journal.proofs.std_disk.fill_at.Goals as goal

pub loop-count-preserved : goal.loop-count-preserved
loop-count-preserved g c = record {
  within = search rules;
  inside = search rules;
  front =
      reads_more c.args.at c.loop-count.count c.in_ok-more.more c.loop-count.buf c.read_some.new.buf _ _
      c.loop-count.invariant.within c.in_ok-more.ensures.count c.loop-count.invariant.front
      (rw c.loop-count.invariant.same at c.in_ok-more.ensures.bytes);
  same = search rules;
}
