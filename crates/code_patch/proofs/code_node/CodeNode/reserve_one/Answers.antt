-- Only room is made: the nodes and the lengths of their codes are the same, so that the jumps are right as before.
use Rattle.std.specs.Prelude.{◌≡◌, ◌≤◌, ℕ, List, length, map}
use Rattle.std.proofs.Common.{arith, ap, sym, subst, ◌∙◌}
use Rattle.std.proofs.lemmas.List.{length-map}
use Rattle.std.proofs.lemmas.Result.{on_ok_weaker}
use Rattle.std.specs.Option.{option_to_list}
use Rattle.plcs_code.specs.BlockLimit.{most_instrs}
use Rattle.plcs_code.specs.OwnCode.{jumps_beside}
use Rattle.code_patch.specs.CodeForest.{count_around, PlainCodeNode}
use Rattle.code_patch.specs.Private.PlainCodeNode.{code_forest, kept_length}
use Rattle.code_patch.proofs.Opened.{many_are}
use Rattle.code_patch.proofs.code_node.CodeNode.reserve_one.Goals as goal

pub reserve_both-requires : goal.reserve_both-requires
reserve_both-requires g c =
    let inside = c.self.inside in
    let many : length inside.lengths.numbers ≡ length inside.inner.items =
    ap length c.self.invariant.lengths ∙ length-map inside.inner.items kept_length in
    record {
      few =
          omega (arith, many, many_are inside c.args.self.now c.self.view_is c.self.invariant, c.requires.few);
    }

pub invariant_of-self : goal.invariant_of-self
invariant_of-self g c =
    let same : map kept_length c.self.inside.inner.items ≡ map kept_length c.reserve_both.new.inner.items =
    ap (map kept_length) (sym c.reserve_both.ensures.items) in
    record {
      lengths = c.reserve_both.ensures.numbers ∙ c.self.invariant.lengths ∙ same;
      ahead = c.self.invariant.ahead ∙ ap (λ (ns : List ℕ). option_to_list (jumps_beside c.self.inside.own ns).ahead) same;
      between = c.self.invariant.between ∙ ap (λ (ns : List ℕ). option_to_list (jumps_beside c.self.inside.own ns).between) same;
      back = c.self.invariant.back ∙ ap (λ (ns : List ℕ). option_to_list (jumps_beside c.self.inside.own ns).back) same;
      short = subst (λ (ns : List ℕ). count_around c.self.inside.own ns ≤ most_instrs) same c.self.invariant.short;
    }

pub returns-clause-own : goal.returns-clause-own
returns-clause-own g c = ap (λ (n : PlainCodeNode). n.own) c.self.view_is

pub returns-clause-inner : goal.returns-clause-inner
returns-clause-inner g c = ap code_forest c.reserve_both.ensures.items ∙ ap (λ (n : PlainCodeNode). n.inner) c.self.view_is

pub returns-clause-room : goal.returns-clause-room
returns-clause-room g c =
    on_ok_weaker c.reserve_both.result (λ room. omega (arith, room.0, room.1)) c.reserve_both.ensures.room
