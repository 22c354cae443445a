-- A node on the way is taken out, gets the room, and is put back: all else is as it was, and as long.
use Rattle.std.specs.Prelude.{◌≡◌, ◌≤◌, ◌∷◌, ℕ, suc, List, Some, length, map, slice_get, slice_set}
use Rattle.std.specs.Option.{option_to_list}
use Rattle.std.proofs.Common.{arith, ap, sym, subst, ◌∙◌}
use Rattle.std.proofs.lemmas.Option.{same_Some, slice_get_within}
use Rattle.std.proofs.lemmas.Result.{on_ok_weaker}
use Rattle.plcs_code.specs.BlockLimit.{most_instrs}
use Rattle.plcs_code.specs.OwnCode.{jumps_beside}
use Rattle.code_patch.specs.CodeEdit.{roomless_code}
use Rattle.code_patch.specs.CodeForest.{count_around, PlainCodeNode, code_nodes}
use Rattle.code_patch.specs.Private.PlainCodeNode.{PlainCodeNodes, code_forest, code_nodes_forest, kept_length, roomless_code_node}
use Rattle.code_patch.specs.Private.PreparedNodes.{LeadsToList}
use Rattle.code_patch.proofs.ActedNodes.{taken_many}
use Rattle.code_patch.proofs.Opened.{found_again}
use Rattle.code_patch.proofs.ReservedNodes.{leads_on, put_there, room_here, room_on, room_short, same_lengths, same_roomless}
use Rattle.code_patch.proofs.SoughtSlots.{child_fewer, many_few}
use Rattle.code_patch.proofs.code_node.CodeNode.+reserve_at.Goals as goal

pub returns-in_default-clause-room : goal.returns-in_default-clause-room
returns-in_default-clause-room g t c = room_short c.args.way.now c.args.self.now c.in_default.ensures.cases

pub reserve_one-requires : goal.reserve_one-requires
reserve_one-requires g t c = record { few = omega (arith, many_few c.args.self.now.inner, c.requires.few) }

pub returns-then-is_empty : goal.returns-then-is_empty
returns-then-is_empty g t c =
    record {
      same =
          (λ i. record { own = c.reserve_one.ensures.own i; spare = 0; inner = roomless_code (c.reserve_one.ensures.inner i) });
      room =
          on_ok_weaker c.reserve_one.result
          (room_here c.in-Some.k.now c.in-Some.rest.now c.args.way.now c.reserve_one.new.self c.in-Some.ensures.cases.0 c.if-is_empty.ensures)
          c.reserve_one.ensures.room;
    }

pub take-child-requires : goal.take-child-requires
take-child-requires g t c =
    let on = leads_on c.in-Some.k.now c.in-Some.rest.now c.args.way.now c.args.self.now c.in-Some.ensures.cases.0 c.if-is_empty.ensures c.requires.there in
    let there = sym (found_again c.self.inside c.args.self.now c.self.view_is c.self.invariant c.in-Some.k.now) ∙ on.1 in
    record { there = omega (arith, slice_get_within c.self.inside.inner.items c.in-Some.k.now on.0 there) }

pub reserve_at-reserved-requires : goal.reserve_at-reserved-requires
reserve_at-reserved-requires g t c κs within =
    let k = c.in-Some.k.now in
    let way : c.args.way.now ≡ k ∷ c.in-Some.rest.now = c.in-Some.ensures.cases.0 in
    let shorter : length c.args.way.now ≡ suc (length c.in-Some.rest.now) = ap length way in
    let on = leads_on k c.in-Some.rest.now c.args.way.now c.args.self.now way c.if-is_empty.ensures c.requires.there in
    let there = sym (found_again c.self.inside c.args.self.now c.self.view_is c.self.invariant k) ∙ on.1 in
    let same : on.0 ≡ c.take-child.result = same_Some on.0 c.take-child.result (sym there ∙ sym c.take-child.ensures.taken) in
    let fewer = child_fewer c.args.self.now.inner k c.take-child.result (on.1 ∙ ap (λ (n : PlainCodeNode). Some n) same) in (
      omega (arith, shorter),
      (within, (omega (arith, fewer, c.requires.few), subst (λ (n : PlainCodeNode). LeadsToList c.in-Some.rest.now n) same on.2)),
    )

pub put-requires : goal.put-requires
put-requires g t c =
    let k = c.in-Some.k.now in
    let old = c.self.inside.inner in
    let child = c.reserve_at-reserved.new.self in
    let many = taken_many k old c.take-child.new.self child (c.take-child.ensures.rest child) in
    record { there = omega (arith, many, slice_get_within old.items k c.take-child.result (sym c.take-child.ensures.taken)) }

pub invariant_of-self : goal.invariant_of-self
invariant_of-self g t c =
    let k = c.in-Some.k.now in
    let own = c.self.inside.own in
    let old = c.self.inside.inner.items in
    let child = c.reserve_at-reserved.new.self in
    let put : c.put.new.self.items ≡ slice_set old k child =
    ap (λ (l : PlainCodeNodes). l.items) (c.put.ensures ∙ c.take-child.ensures.rest child) in
    let same : map kept_length old ≡ map kept_length c.put.new.self.items =
    sym (ap (map kept_length) put ∙ same_lengths old k c.take-child.result child (sym c.take-child.ensures.taken) c.reserve_at-reserved.ensures.same) in
    record {
      lengths = c.self.invariant.lengths ∙ same;
      ahead = c.self.invariant.ahead ∙ ap (λ (ns : List ℕ). option_to_list (jumps_beside own ns).ahead) same;
      between = c.self.invariant.between ∙ ap (λ (ns : List ℕ). option_to_list (jumps_beside own ns).between) same;
      back = c.self.invariant.back ∙ ap (λ (ns : List ℕ). option_to_list (jumps_beside own ns).back) same;
      short = subst (λ (ns : List ℕ). count_around own ns ≤ most_instrs) same c.self.invariant.short;
    }

pub returns-clause-same : goal.returns-clause-same
returns-clause-same g t c =
    let k = c.in-Some.k.now in
    let old = c.self.inside.inner.items in
    let child = c.reserve_at-reserved.new.self in
    let put : c.put.new.self.items ≡ slice_set old k child =
    ap (λ (l : PlainCodeNodes). l.items) (c.put.ensures ∙ c.take-child.ensures.rest child) in
    let inner : roomless_code (code_forest c.put.new.self.items) ≡ roomless_code (code_forest old) =
    ap (λ (ns : List PlainCodeNode). roomless_code (code_forest ns)) put
    ∙ same_roomless old k c.take-child.result child (sym c.take-child.ensures.taken) c.reserve_at-reserved.ensures.same in
    (λ i. record { own = c.self.inside.own; spare = 0; inner = inner i }) ∙ ap roomless_code_node c.self.view_is

pub returns-clause-room : goal.returns-clause-room
returns-clause-room g t c =
    let k = c.in-Some.k.now in
    let rest = c.in-Some.rest.now in
    let old = c.self.inside.inner.items in
    let child = c.reserve_at-reserved.new.self in
    let put : c.put.new.self.items ≡ slice_set old k child =
    ap (λ (l : PlainCodeNodes). l.items) (c.put.ensures ∙ c.take-child.ensures.rest child) in
    let there : slice_get (code_nodes (code_forest c.put.new.self.items)) k ≡ Some child =
    ap (λ (ns : List PlainCodeNode). slice_get ns k) (code_nodes_forest c.put.new.self.items ∙ put)
    ∙ put_there old k child (slice_get_within old k c.take-child.result (sym c.take-child.ensures.taken)) in
    on_ok_weaker c.reserve_at-reserved.result
    (λ room. room_on k rest c.args.way.now _ child c.in-Some.ensures.cases.0 c.if-is_empty.ensures there room)
    c.reserve_at-reserved.ensures.room
