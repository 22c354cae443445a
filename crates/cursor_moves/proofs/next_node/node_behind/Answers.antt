use Rattle.std.specs.Prelude.{◌≡◌, refl, ◌+◌, ◌-◌, ◌∷◌, [], length, take, None, Some}
use Rattle.std.proofs.Common.{ap, sym, ◌∙◌, arith, subst, length-append, lit<}
use Rattle.std.proofs.lemmas.List.{take_at}
use Rattle.template_tree.specs.Positions.Path.{node_at}
use Rattle.cursor_moves.specs.Private.NextPath.{LeadsOn, next_with}
use Rattle.cursor_moves.proofs.FoundNodes.{told, untold}
use Rattle.cursor_moves.proofs.Nodes.PathSteps.{climbed_on, climbed_to, leads_shallow, leads_shorter}
use Rattle.cursor_moves.proofs.next_node.node_behind.Goals as goal

pub overflow_add-k : goal.overflow_add-k
overflow_add-k c =
    let items = c.args.tree.now.items in
    let leads = subst (LeadsOn items) c.in-Some.ensures.items c.loop-k.invariant.there in
    let shorter = leads_shorter items c.pop.new.self.items c.in-Some.k leads in
    omega (arith, shorter.1, c.requires.tree.few)

pub push-requires : goal.push-requires
push-requires c =
    let shallow = leads_shallow c.args.tree.now.items c.loop-k.next.items c.loop-k.invariant.there in
    let length_is = ap length c.in-Some.ensures.items ∙ length-append c.pop.new.self.items (c.in-Some.k ∷ []) in
    (lit< tt, omega (arith, shallow, length_is, c.requires.tree.shallow))

pub returns-then-is_some : goal.returns-then-is_some
returns-then-is_some c =
    let items = c.args.tree.now.items in
    let there = told (λ node. node.now) c.node.result (node_at items c.push.new.self.items) c.node.ensures.found (sym c.is_some.ensures ∙ c.if-is_some.true) in
    ap Some c.push.ensures.items
    ∙ sym
    (c.loop-k.invariant.same
    ∙ climbed_to items c.loop-k.next.items c.pop.new.self.items c.in-Some.k there.0 c.in-Some.ensures.items
    (sym (ap (node_at items) c.push.ensures.items) ∙ there.1))

pub loop-k-preserved : goal.loop-k-preserved
loop-k-preserved c =
    let items = c.args.tree.now.items in
    let none = untold (λ node. node.now) c.node.result (node_at items c.push.new.self.items) c.node.ensures.found (sym c.is_some.ensures ∙ c.if-is_some.false) in
    let shorter : length c.push.new.self.items - 1 ≡ length c.pop.new.self.items = omega (arith, c.push.ensures.len) in
    let back : c.pop-in-Some.new.self.items ≡ c.pop.new.self.items =
    c.pop-in-Some.ensures.rest
    ∙ ap (λ n. take n c.push.new.self.items) shorter
    ∙ ap (take (length c.pop.new.self.items)) c.push.ensures.items
    ∙ take_at c.pop.new.self.items ((c.in-Some.k + 1) ∷ []) (length c.pop.new.self.items) refl in
    let leads = subst (LeadsOn items) c.in-Some.ensures.items c.loop-k.invariant.there in
    record {
      there = subst (LeadsOn items) (sym back) (leads_shorter items c.pop.new.self.items c.in-Some.k leads).0;
      same =
          c.loop-k.invariant.same
          ∙ climbed_on items c.loop-k.next.items c.pop.new.self.items c.in-Some.k c.in-Some.ensures.items
          (sym (ap (node_at items) c.push.ensures.items) ∙ none)
          ∙ sym (ap (next_with None items) back);
    }
