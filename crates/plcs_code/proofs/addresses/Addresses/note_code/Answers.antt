use Rattle.std.proofs.Common.{◌≡◌, List, ◌+◌, ◌-◌, ◌++◌, Some, drop, slice_get, sym, ap, ◌∙◌, arith}
use Rattle.std.proofs.Math.ListN.{drop_of_length-le}
use Rattle.plcs_code.specs.Gen.{AddressMap, address_by_place, addresses_in}
use Rattle.plcs_code.specs.PlainInstr.{PlainInstr, plain_instr}
use Rattle.plcs_code.specs.Private.CodeMaps.{with_all}
use Rattle.plcs_code.proofs.CodeMaps.{all_both}
use Rattle.plcs_code.proofs.ReadParts.{left_with}
use Rattle.plcs_code.proofs.addresses.Addresses.note_code.Goals as goal

pub loop-k-init : goal.loop-k-init
loop-k-init g c = record {
  noted =
      ap (λ (code : List PlainInstr). with_all (addresses_in c.length-k.result code) c.args.self.now)
      (sym (drop_of_length-le c.args.code.now (omega (arith, c.length-k.ensures.length))));
  within = omega (arith, c.length-k.ensures.length);
}

pub loop-k-preserved : goal.loop-k-preserved
loop-k-preserved g c =
    let all = c.args.code.now in
    let old = c.args.self.now in
    let k = c.loop-k.k in
    let next : k - 1 + 1 ≡ k = omega (arith, c.loop-k-test.true) in
    let instr = plain_instr c.instr.result.now in
    let there : slice_get all (k - 1) ≡ Some instr = sym c.get.ensures ∙ ap Some (sym c.instr.ensures) in
    record {
      noted =
          c.in-Ok.ensures
          ∙ ap (λ (m : AddressMap). with_all (address_by_place (k - 1) instr) m) c.loop-k.invariant.noted
          ∙ sym (all_both (address_by_place (k - 1) instr) (addresses_in k (drop k all)) old)
          ∙ ap (λ n. with_all (address_by_place (k - 1) instr ++ addresses_in n (drop n all)) old) (sym next)
          ∙ ap (λ code. with_all (addresses_in (k - 1) code) old) (sym (left_with all (k - 1) instr there));
      within = omega (arith, c.loop-k.invariant.within);
    }

pub returns : goal.returns
returns g c =
    let none : c.loop-k.k ≡ 0 = omega (arith, c.loop-k-test.false) in
    c.loop-k.invariant.noted ∙ ap (λ k. with_all (addresses_in k (drop k c.args.code.now)) c.args.self.now) none
