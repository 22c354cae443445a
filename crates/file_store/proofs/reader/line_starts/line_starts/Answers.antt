use Rattle.std.proofs.Common.{[], subst}
use Rattle.std.proofs.lemmas.List.{append-nil}
use Rattle.file_store.specs.Private.LineStarts.{AreStarts}
use Rattle.file_store.proofs.reader.line_starts.line_starts.Goals as goal

pub returns : goal.returns
returns c = subst (AreStarts c.args.text.now) (append-nil c.loop-more.starts.items) (c.loop-more.invariant.lead [] c.in_default.ensures)
