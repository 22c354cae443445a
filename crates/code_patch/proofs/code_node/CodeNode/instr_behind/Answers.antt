use Rattle.std.specs.Prelude.{◌≡◌, ◌-◌, ◌≤◌, length, slice_get}
use Rattle.std.specs.Option.{option_to_list}
use Rattle.std.proofs.Common.{arith, ap, sym, ◌∙◌}
use Rattle.plcs_code.specs.OwnCode.{PlainOwnCode, jumps_beside}
use Rattle.code_patch.specs.CodeForest.{kept_lengths}
use Rattle.code_patch.proofs.FoundInstrs.{get_right}
use Rattle.code_patch.proofs.Opened.{back_is, own_is}
use Rattle.code_patch.proofs.code_node.CodeNode.instr_behind.Goals as goal

pub returns : goal.returns
returns g c =
    let node = c.args.self.now in
    let own = own_is c.self.inside node c.self.view_is c.self.invariant in
    let back = back_is c.self.inside node c.self.view_is c.self.invariant in
    let long : c.length-own.result ≡ length node.own.pieces.behind =
    c.length-own.ensures.length ∙ ap length (c.behind.ensures ∙ ap (λ (o : PlainOwnCode). o.pieces.behind) own) in
    let past : length node.own.pieces.behind ≤ c.args.at = omega (arith, long, c.if-at-own.false) in
    c.get-2.ensures ∙ (λ i. slice_get (back i) (c.args.at - long i))
    ∙ sym (get_right node.own.pieces.behind (option_to_list (jumps_beside node.own (kept_lengths node.inner)).back) c.args.at past)
