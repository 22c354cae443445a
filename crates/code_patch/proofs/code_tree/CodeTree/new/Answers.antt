-- The root holds what is kept of the items, which tells the program's code; the names are those of the items, and what
-- is kept of a tree is sound.
use Rattle.std.specs.Prelude.{◌≡◌, length, sum}
use Rattle.std.proofs.Common.{arith, ap, sym, ◌∙◌}
use Rattle.plcs_base.specs.Mark.{MarkMap}
use Rattle.plcs_base.specs.Scope.{ItemMap}
use Rattle.template_tree.specs.Programs.PlainTree.{Forest}
use Rattle.plcs_code.specs.CodeLaws.{LengthsAreTold}
use Rattle.plcs_code.specs.Gen.{Gen, node_codes, node_lengths}
use Rattle.code_patch.proofs.CountedCode.{emits_both, emits_more, emits_nothing}
use Rattle.code_patch.proofs.FoundInstrs.{joined_length}
use Rattle.code_patch.proofs.NameMaps.{names_kept}
use Rattle.code_patch.proofs.SoundCode.{sound_kept}
use Rattle.code_patch.proofs.ToldCode.{kept_told}
use Rattle.code_patch.proofs.code_tree.CodeTree.new.Goals as goal

-- the code is as long as its nodes
whole : LengthsAreTold → (marks : MarkMap) (items : ItemMap) (program : Forest)
    → sum (node_lengths marks items program) ≡ length (Gen marks items program).instrs
whole told marks items program =
    sym (joined_length (node_codes marks items program) ∙ ap sum (told marks items program))

pub returns-in_err-root-clause-counts : goal.returns-in_err-root-clause-counts
returns-in_err-root-clause-counts g c =
    let marks = g.M.Marked.marks c.args.marks.now in
    let items = g.D.Scope.items c.args.scope.now in
    let program = c.args.tree.now.items in
    emits_more (sum (node_lengths marks items program)) (length (Gen marks items program).instrs) (g.W.Work.counts c.args.work.now) (g.W.Work.counts c.inside.new.work)
    (omega (arith, whole c.lengths_are_told.ensures.told marks items program)) c.inside.ensures.counts

pub returns-in-Err-clause-counts : goal.returns-in-Err-clause-counts
returns-in-Err-clause-counts g c =
    let marks = g.M.Marked.marks c.args.marks.now in
    let items = g.D.Scope.items c.args.scope.now in
    let program = c.args.tree.now.items in
    emits_more (sum (node_lengths marks items program)) (length (Gen marks items program).instrs) (g.W.Work.counts c.args.work.now) (g.W.Work.counts c.inside.new.work)
    (omega (arith, whole c.lengths_are_told.ensures.told marks items program)) c.inside.ensures.counts

pub invariant_of-result : goal.invariant_of-result
invariant_of-result g c =
    let marks = g.M.Marked.marks c.args.marks.now in
    let items = g.D.Scope.items c.args.scope.now in
    let program = c.args.tree.now.items in
    let root = c.in_ok-root.root in
    record {
      own = c.in_ok-root.ensures.own;
      names = c.in-Ok.ensures ∙ names_kept marks items program root.inner c.in_ok-root.ensures.inner;
      sound = sound_kept c.own_codes_stay_in_slots.ensures.steps marks items program root.inner c.requires.tree.once c.in_ok-root.ensures.inner;
      short = c.in_ok-root.ensures.short;
    }

pub returns-in-Ok-clause-counted : goal.returns-in-Ok-clause-counted
returns-in-Ok-clause-counted g c =
    let marks = g.M.Marked.marks c.args.marks.now in
    let items = g.D.Scope.items c.args.scope.now in
    let program = c.args.tree.now.items in
    emits_both (sum (node_lengths marks items program)) 0 (length (Gen marks items program).instrs) (g.W.Work.counts c.args.work.now)
    (g.W.Work.counts c.inside.new.work) (g.W.Work.counts c.inside.new.work)
    (omega (arith, whole c.lengths_are_told.ensures.told marks items program)) c.in_ok-root.ensures.counted (emits_nothing (g.W.Work.counts c.inside.new.work))

pub returns-in-Ok-clause-counts : goal.returns-in-Ok-clause-counts
returns-in-Ok-clause-counts g c =
    let marks = g.M.Marked.marks c.args.marks.now in
    let items = g.D.Scope.items c.args.scope.now in
    let program = c.args.tree.now.items in
    emits_more (sum (node_lengths marks items program)) (length (Gen marks items program).instrs) (g.W.Work.counts c.args.work.now) (g.W.Work.counts c.inside.new.work)
    (omega (arith, whole c.lengths_are_told.ensures.told marks items program)) c.inside.ensures.counts

pub returns-in-Ok-clause-code : goal.returns-in-Ok-clause-code
returns-in-Ok-clause-code g c =
    kept_told c.lengths_are_told.ensures.own c.lengths_are_told.ensures.told c.in_ok-root.root.inner
    (g.M.Marked.marks c.args.marks.now) (g.D.Scope.items c.args.scope.now) c.args.tree.now.items c.in_ok-root.ensures.inner
