use Rattle.std.proofs.Common.{◌≡◌, ◌∙◌, ◌<◌, ◌-◌, suc, [], ◌∷◌, length, take, ap, arith}
use Rattle.decl_table.proofs.GatheredNames.{gathered_all, gathered_next, take_turn}
use Rattle.decl_table.proofs.name_list.NameList.add_names.Goals as goal

pub loop-k-preserved : goal.loop-k-preserved
loop-k-preserved c =
    let names = c.args.names.now in
    let k = c.loop-k.k - 1 in
    let item = c.index-names-k.result in
    let turn : c.loop-k.k ≡ suc k = omega (arith, c.loop-k-test.true) in
    let within : k < length names = omega (arith, c.loop-k.invariant.within, c.loop-k-test.true) in
    record {
      gathered =
          gathered_next c.args.self.now c.loop-k.self c.add.new.self (take c.loop-k.k names) (take k names) (item ∷ []) names c.in_ok-add.ensures
          (ap (λ n. take n names) turn ∙ take_turn names k item within c.index-names-k.is) c.loop-k.invariant.gathered;
      within = omega (arith, within);
    }

pub returns : goal.returns
returns c =
    let names = c.args.names.now in
    let none : c.loop-k.k ≡ 0 = omega (arith, c.loop-k-test.false) in
    gathered_all c.args.self.now c.loop-k.self (take c.loop-k.k names) names (ap (λ n. take n names) none) c.loop-k.invariant.gathered
