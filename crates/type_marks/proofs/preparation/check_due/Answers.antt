-- The phrases that were gone through are checked, each for one check; at the end these are all.
use Rattle.std.proofs.Common.{◌+◌, List, length, refl, ap, subst, arith}
use Rattle.plcs_base.specs.declared.place.PhraseAt.{PhraseAt}
use Rattle.template_tree.specs.Checks.Marks.{VerdictList}
use Rattle.type_marks.specs.Private.CheckedLists.{AreChecked}
use Rattle.type_marks.proofs.CheckedDue.{contains_at, no_lists, none_checked, read_again, take_past}
use Rattle.type_marks.proofs.preparation.check_due.Goals as goal

pub loop-at-init : goal.loop-at-init
loop-at-init g c =
    record {
      checked = none_checked c.args.tree.now.items c.args.due.now c.new-phrases.result.entries c.new-phrases.ensures.empty;
      few = omega (arith, ap (λ (list : VerdictList). length list) c.new-phrases.ensures.empty);
      lists = no_lists c.args.tree.now.items c.new-lists.result.procedures.entries c.new-lists.ensures;
      counts = c.counts_add_up.ensures.checks.none 0 (g.W.Work.counts c.args.work.now) (g.W.Work.counts c.args.work.now) refl;
    }

pub check_one-requires-clause-filled : goal.check_one-requires-clause-filled
check_one-requires-clause-filled g c =
    c.requires.due.filled _
    (contains_at c.args.due.now c.loop-at.at-index _ c.loop-at-test.true (read_again c.args.due.now c.loop-at.at-index _ c.loop-at-test.true))

pub check_one-requires-clause-known : goal.check_one-requires-clause-known
check_one-requires-clause-known g c =
    λ procedure phrase stands.
    c.requires.due.known _ procedure phrase
    (contains_at c.args.due.now c.loop-at.at-index _ c.loop-at-test.true (read_again c.args.due.now c.loop-at.at-index _ c.loop-at-test.true)) stands

pub loop-at-preserved : goal.loop-at-preserved
loop-at-preserved g c =
    let k = c.loop-at.at-index in
    record {
      checked =
          c.in-Ok.ensures.checked c.args.due.now k c.loop-at-test.true (read_again c.args.due.now k _ c.loop-at-test.true) c.loop-at.invariant.checked;
      few = omega (arith, c.loop-at.invariant.few, c.in-Ok.ensures.few);
      lists = c.in-Ok.ensures.lists;
      counts =
          c.counts_add_up.ensures.checks.joined k 1 (k + 1) (g.W.Work.counts c.args.work.now) (g.W.Work.counts c.loop-at.work)
          (g.W.Work.counts c.check_one.new.work) (omega arith) c.loop-at.invariant.counts c.check_one.ensures.counts;
    }

pub returns-in_default-clause-counts : goal.returns-in_default-clause-counts
returns-in_default-clause-counts g c =
    let k = c.loop-at.at-index in
    c.counts_add_up.ensures.checks.joined k 1 (length c.args.due.now) (g.W.Work.counts c.args.work.now) (g.W.Work.counts c.loop-at.work)
    (g.W.Work.counts c.check_one.new.work) (omega (arith, c.loop-at-test.true)) c.loop-at.invariant.counts c.check_one.ensures.counts

pub returns-clause-checked : goal.returns-clause-checked
returns-clause-checked g c =
    subst (λ (places : List PhraseAt). AreChecked c.args.tree.now.items places c.loop-at.phrases.entries)
    (take_past c.args.due.now c.loop-at.at-index (omega (arith, c.loop-at-test.false))) c.loop-at.invariant.checked
