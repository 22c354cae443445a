use Rattle.std.specs.Prelude.{◌≡◌, ◌==◌, Bool, ℕ, List, if◌then◌else◌, length, sum, take}
use Rattle.std.specs.Option.{option_to_list}
use Rattle.std.proofs.Common.{arith, ap, ne_eqb, ◌∙◌}
use Rattle.plcs_code.specs.OwnCode.{jumps_beside}
use Rattle.code_patch.specs.CodeForest.{kept_lengths}
use Rattle.code_patch.proofs.Opened.{between_is, numbers_are}
use Rattle.code_patch.proofs.code_node.CodeNode.child_start.Goals as goal

pub returns : goal.returns
returns g c =
    let node = c.args.self.now in
    let between = ap length (between_is c.self.inside node c.self.view_is c.self.invariant) in
    let before = c.before-2.ensures ∙ ap (λ (ns : List ℕ). sum (take c.args.k ns)) (numbers_are c.self.inside node c.self.view_is c.self.invariant) in
    let gap = length (option_to_list (jumps_beside node.own (kept_lengths node.inner)).between) in
    let later : (if c.args.k == 0 then 0 else gap) ≡ gap = ap (λ (b : Bool). if b then 0 else gap) (ne_eqb c.args.k 0 c.if-k-eq0.false) in
    omega (arith, c.length_before.ensures, before, c.length.ensures.length, between, later)
