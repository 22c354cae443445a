-- The node is there, so that it can go; it is the first step, so that what is made before is what is kept.
use Rattle.std.specs.Prelude.{◌≡◌, ◌-◌, ◌==◌, if◌then◌else◌, ℕ, Some, slice_get, sum, take}
use Rattle.std.proofs.Common.{arith, ap, sym, ◌∙◌}
use Rattle.plcs_base.specs.ListLeft.{past_where_none}
use Rattle.code_patch.specs.CodeForest.{CodeForest, kept_lengths, code_nodes}
use Rattle.code_patch.specs.Private.PreparedNodes.{made_by}
use Rattle.code_patch.proofs.ExchangedNodes.{take_grows, within_sum}
use Rattle.code_patch.proofs.PreparedLists.{before_is, dropped_list, dropped_made, list_short}
use Rattle.code_patch.proofs.code_node.CodeNode.drop_child.Goals as goal

pub unreachable-requires : goal.unreachable-requires
unreachable-requires g c =
    let past = past_where_none (code_nodes c.args.self.now.inner) c.args.k (sym c.in_default.ensures) in
    omega (arith, past, c.requires.there)

pub overflow_sub-list : goal.overflow_sub-list
overflow_sub-list g c =
    let inner = c.args.self.now.inner in
    let same : sum (kept_lengths (made_by c.args.list.now inner)) ≡ sum (kept_lengths inner) =
    ap (λ (f : CodeForest). sum (kept_lengths f)) (before_is c.args.list.now c.args.list.now c.args.self.now.spare inner c.args.k c.requires.fresh) in
    omega (arith, within_sum inner c.args.k c.in-Some.child.now (sym c.in-Some.ensures), c.length.ensures.length, c.requires.list.total, same)

pub overflow_sub-second : goal.overflow_sub-second
overflow_sub-second g c =
    omega (arith, take_grows (kept_lengths c.args.self.now.inner), c.length_to.ensures, c.length_to-2.ensures)

pub returns-clause-list : goal.returns-clause-list
returns-clause-list g c =
    let inner = c.args.self.now.inner in
    let spare = c.args.self.now.spare in
    let k = c.args.k in
    let child = c.in-Some.child.now in
    let there : slice_get (code_nodes inner) k ≡ Some child = sym c.in-Some.ensures in
    let old = c.args.list.now in
    let new = c.push.new.self in
    let same : sum (kept_lengths (made_by old inner)) ≡ sum (kept_lengths inner) =
    ap (λ (f : CodeForest). sum (kept_lengths f)) (before_is old new spare inner k c.requires.fresh) in
    let within = within_sum inner k child there in
    let short = list_short old spare inner c.requires.list in
    let second : c.length_to.result - c.length_to-2.result ≡ sum (take 2 (kept_lengths inner)) - sum (take 1 (kept_lengths inner)) =
    (λ i. c.length_to.ensures i - c.length_to-2.ensures i) in
    let first : new.first ≡ (if k == 0 then sum (take 2 (kept_lengths inner)) - sum (take 1 (kept_lengths inner)) else old.first) =
    c.push.ensures.first ∙ c.first_length-list.ensures ∙ ap (λ (n : ℕ). if k == 0 then n else old.first) second in
    dropped_list old new spare inner k c.requires.fresh child there c.in_ok-push.ensures.step c.requires.list
    (omega (arith, c.push.ensures.total, c.length.ensures.length, within, c.requires.list.total, same)) first
    (omega (arith, c.push.ensures.total, short, c.requires.list.total))

pub returns-clause-made : goal.returns-clause-made
returns-clause-made g c =
    dropped_made c.args.list.now c.push.new.self c.args.self.now.spare c.args.self.now.inner c.args.k c.requires.fresh c.in-Some.child.now
    (sym c.in-Some.ensures) c.in_ok-push.ensures.step
