use Rattle.std.proofs.Common.{◌≡◌, ◌+◌, ◌-◌, ◌∷◌, ◌++◌, [], drop, ◌<◌, length, sym, ap, ◌∙◌, append_assoc, arith}
use Rattle.std.proofs.Math.Dec.{ltb}
use Rattle.std.proofs.Math.ListN.{drop_of_length-le}
use Rattle.std.proofs.lemmas.Bool.Decides.{Decides-ltb, not_from_Decides}
use Rattle.std.proofs.lemmas.List.{append-nil}
use Rattle.std.specs.Prelude.{flat_map}
use Rattle.std.specs.FinMap.{from_entries}
use Rattle.plcs_code.specs.Gen.{AddressMap, addresses_in, node_address}
use Rattle.plcs_code.specs.Private.CodeMaps.{with_all}
use Rattle.plcs_code.proofs.CodeMaps.{all_before}
use Rattle.plcs_code.proofs.ReadParts.{left_at}
use Rattle.plcs_code.proofs.addresses.Addresses.of.Goals as goal

pub loop-k-init : goal.loop-k-init
loop-k-init g c =
    let code = addresses_in 0 c.args.code.now in
    record {
      noted =
          c.in-Ok.ensures
          ∙ ap (λ (m : AddressMap). with_all code m) c.new-addresses.ensures
          ∙ all_before code []
          ∙ ap (λ es. let m : AddressMap = from_entries es in m) (append-nil code)
          ∙ ap (λ ns. let m : AddressMap = from_entries (flat_map node_address ns ++ code) in m) (sym (drop_of_length-le c.args.nodes.now (omega arith)));
      within = omega arith;
    }

pub loop-k-preserved : goal.loop-k-preserved
loop-k-preserved g c =
    let all = c.args.nodes.now in
    let code = addresses_in 0 c.args.code.now in
    let k = c.loop-k.k in
    let own = node_address c.in-Some.node.now in
    let next : k - 1 + 1 ≡ k = omega (arith, c.loop-k-test.true) in
    let inside : k - 1 < length all = omega (arith, c.loop-k-test.true, c.loop-k.invariant.within) in
    record {
      noted =
          c.in-Ok-note_node.ensures
          ∙ ap (λ (m : AddressMap). with_all own m) c.loop-k.invariant.noted
          ∙ all_before own (flat_map node_address (drop k all) ++ code)
          ∙ ap (λ es. let m : AddressMap = from_entries es in m) (sym (append_assoc own (flat_map node_address (drop k all)) code))
          ∙ ap (λ n. let m : AddressMap = from_entries (flat_map node_address (c.in-Some.node.now ∷ drop n all) ++ code) in m) (sym next)
          ∙ ap (λ ns. let m : AddressMap = from_entries (flat_map node_address ns ++ code) in m) (sym (left_at all (k - 1) c.in-Some.node.now inside c.in-Some.ensures.lookup.1));
      within = omega (arith, c.loop-k.invariant.within);
    }

pub returns : goal.returns
returns g c =
    let none : c.loop-k.k ≡ 0 = omega (arith, c.loop-k-test.false) in
    c.loop-k.invariant.noted
    ∙ ap (λ k. let m : AddressMap = from_entries (flat_map node_address (drop k c.args.nodes.now) ++ addresses_in 0 c.args.code.now) in m) none

pub unreachable-requires : goal.unreachable-requires
unreachable-requires g c =
    let all = c.args.nodes.now in
    let inside : c.loop-k.k - 1 < length all = omega (arith, c.loop-k-test.true, c.loop-k.invariant.within) in
    not_from_Decides (ltb (c.loop-k.k - 1) (length all)) (Decides-ltb (c.loop-k.k - 1) (length all)) (sym c.in_default-get.ensures.lookup.0) inside
