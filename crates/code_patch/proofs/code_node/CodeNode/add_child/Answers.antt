-- The node is made anew; it is the first step, so that what is made before is what is kept.
use Rattle.std.specs.Prelude.{◌==◌, if◌then◌else◌, ℕ}
use Rattle.std.proofs.Common.{arith, ap, ◌∙◌}
use Rattle.code_patch.proofs.PreparedLists.{added_list, added_made}
use Rattle.code_patch.proofs.code_node.CodeNode.add_child.Goals as goal

pub returns-in_ok-exchange-in-Ok-clause-list : goal.returns-in_ok-exchange-in-Ok-clause-list
returns-in_ok-exchange-in-Ok-clause-list g c =
    let old = c.args.list.now in
    let new = c.exchange.new.self in
    let k = c.args.k in
    let node = c.in-Ok.fresh in
    let long = c.length-length.ensures.length in
    let first = c.in_ok-exchange-in-Ok.ensures.first ∙ ap (λ (n : ℕ). if k == 0 then n else old.first) long in
    added_list old new c.args.self.now.spare c.args.self.now.inner k c.requires.fresh node c.in_ok-exchange-in-Ok.ensures.step c.requires.list
    c.requires.there c.requires.room (omega (arith, c.in_ok-exchange-in-Ok.ensures.total, long)) first c.in_ok-exchange-in-Ok.ensures.short

pub returns-in_ok-exchange-in-Ok-clause-made : goal.returns-in_ok-exchange-in-Ok-clause-made
returns-in_ok-exchange-in-Ok-clause-made g c =
    let node = c.in-Ok.fresh in (
      node,
      added_made c.args.list.now c.exchange.new.self c.args.self.now.spare c.args.self.now.inner c.args.k c.requires.fresh node
          c.in_ok-exchange-in-Ok.ensures.step,
      c.in-Ok.ensures.kept,
    )
