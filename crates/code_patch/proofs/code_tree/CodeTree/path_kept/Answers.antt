-- The root of what is kept has the items inside it, and no own code.
use Rattle.std.specs.Prelude.{◌≡◌, Some}
use Rattle.std.proofs.Common.{arith, ap}
use Rattle.code_patch.specs.CodeForest.{PlainCodeNode}
use Rattle.code_patch.specs.Private.KeptPaths.{kept_depth}
use Rattle.code_patch.specs.Private.PlainCodeNode.{count_kept}
use Rattle.code_patch.proofs.RoomlessCode.{root_is}
use Rattle.code_patch.proofs.SoughtWays.{root_none, root_way}
use Rattle.code_patch.proofs.code_tree.CodeTree.path_kept.Goals as goal

pub path_inside-requires : goal.path_inside-requires
path_inside-requires g c =
    let is = root_is c.self.inside c.args.self.now c.self.view_is c.self.invariant in
    let deep : kept_depth c.self.inside.root.inner ≡ kept_depth c.args.self.now.items = ap (λ (n : PlainCodeNode). kept_depth n.inner) is in
    let many : count_kept c.self.inside.root.inner ≡ count_kept c.args.self.now.items = ap (λ (n : PlainCodeNode). count_kept n.inner) is in
    record { shallow = omega (arith, deep, c.requires.shallow); few = omega (arith, many, c.requires.few) }

pub returns-in-Some-clause-path : goal.returns-in-Some-clause-path
returns-in-Some-clause-path g c =
    let is = root_is c.self.inside c.args.self.now c.self.view_is c.self.invariant in
    root_way (λ path. path.items) c.args.slot.0 c.args.self.now c.self.inside.root (Some c.in-Some.path) is c.in-Some.ensures

pub returns-clause-none : goal.returns-clause-none
returns-clause-none g c =
    let is = root_is c.self.inside c.args.self.now c.self.view_is c.self.invariant in
    root_none (λ path. path.items) c.args.slot.0 c.args.self.now c.self.inside.root c.path_inside.result is c.path_inside.ensures.none

pub returns-clause-path : goal.returns-clause-path
returns-clause-path g c =
    let is = root_is c.self.inside c.args.self.now c.self.view_is c.self.invariant in
    root_way (λ path. path.items) c.args.slot.0 c.args.self.now c.self.inside.root c.path_inside.result is c.path_inside.ensures.path
