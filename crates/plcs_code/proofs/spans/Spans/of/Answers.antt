use Rattle.std.proofs.Common.{◌≡◌, ◌+◌, ◌-◌, ◌∷◌, drop, ◌<◌, length, sym, ap, ◌∙◌, arith}
use Rattle.std.proofs.Math.Dec.{ltb}
use Rattle.std.proofs.Math.ListN.{drop_of_length-le}
use Rattle.std.proofs.lemmas.Bool.Decides.{Decides-ltb, not_from_Decides}
use Rattle.std.specs.Prelude.{flat_map}
use Rattle.std.specs.FinMap.{from_entries}
use Rattle.plcs_code.specs.Gen.{SpanMap, span_by_slot}
use Rattle.plcs_code.specs.Private.CodeMaps.{with_all}
use Rattle.plcs_code.proofs.CodeMaps.{all_before}
use Rattle.plcs_code.proofs.ReadParts.{left_at}
use Rattle.plcs_code.proofs.spans.Spans.of.Goals as goal

pub loop-k-init : goal.loop-k-init
loop-k-init c = record {
  noted = c.new-spans.ensures ∙ ap (λ ns. let m : SpanMap = from_entries (flat_map span_by_slot ns) in m) (sym (drop_of_length-le c.args.nodes.now (omega arith)));
  within = omega arith;
}

pub loop-k-preserved : goal.loop-k-preserved
loop-k-preserved c =
    let all = c.args.nodes.now in
    let k = c.loop-k.k in
    let next : k - 1 + 1 ≡ k = omega (arith, c.loop-k-test.true) in
    let inside : k - 1 < length all = omega (arith, c.loop-k-test.true, c.loop-k.invariant.within) in
    record {
      noted =
          c.in-Ok.ensures
          ∙ ap (λ (m : SpanMap). with_all (span_by_slot c.in-Some.node.now) m) c.loop-k.invariant.noted
          ∙ all_before (span_by_slot c.in-Some.node.now) (flat_map span_by_slot (drop k all))
          ∙ ap (λ n. let m : SpanMap = from_entries (flat_map span_by_slot (c.in-Some.node.now ∷ drop n all)) in m) (sym next)
          ∙ ap (λ ns. let m : SpanMap = from_entries (flat_map span_by_slot ns) in m) (sym (left_at all (k - 1) c.in-Some.node.now inside c.in-Some.ensures.lookup.1));
      within = omega (arith, c.loop-k.invariant.within);
    }

pub returns : goal.returns
returns c =
    let none : c.loop-k.k ≡ 0 = omega (arith, c.loop-k-test.false) in
    c.loop-k.invariant.noted ∙ ap (λ k. let m : SpanMap = from_entries (flat_map span_by_slot (drop k c.args.nodes.now)) in m) none

pub unreachable-requires : goal.unreachable-requires
unreachable-requires c =
    let all = c.args.nodes.now in
    let inside : c.loop-k.k - 1 < length all = omega (arith, c.loop-k-test.true, c.loop-k.invariant.within) in
    not_from_Decides (ltb (c.loop-k.k - 1) (length all)) (Decides-ltb (c.loop-k.k - 1) (length all)) (sym c.in_default.ensures.lookup.0) inside
