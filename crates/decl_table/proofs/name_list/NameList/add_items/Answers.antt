use Rattle.std.proofs.Common.{◌≡◌, ◌∙◌, ◌<◌, ◌-◌, suc, [], ◌∷◌, ◌++◌, length, map, take, sym, ap, arith}
use Rattle.plcs_grammar.specs.declared.item.Item.{Item}
use Rattle.decl_table.proofs.GatheredNames.{gathered_all, gathered_next, items_turn, take_turn}
use Rattle.decl_table.proofs.name_list.NameList.add_items.Goals as goal

pub loop-k-preserved : goal.loop-k-preserved
loop-k-preserved c =
    let items = c.args.items.now in
    let k = c.loop-k.k - 1 in
    let item = c.index-items-k.result in
    let turn : c.loop-k.k ≡ suc k = omega (arith, c.loop-k-test.true) in
    let within : k < length items = omega (arith, c.loop-k.invariant.within, c.loop-k-test.true) in
    record {
      gathered =
          gathered_next c.args.self.now c.loop-k.self c.add.new.self (map (λ (i : Item). i.name) (take c.loop-k.k items))
          (map (λ (i : Item). i.name) (take k items)) (item.name ∷ []) (map (λ (i : Item). i.name) items)
          (c.in_ok-add.ensures ∙ ap (λ (i : Item). c.loop-k.self ++ (i.name ∷ [])) (sym c.index-items-k.is))
          (ap (λ n. map (λ (i : Item). i.name) (take n items)) turn
          ∙ ap (map (λ (i : Item). i.name)) (take_turn items k item within c.index-items-k.is)
          ∙ items_turn (take k items) item)
          c.loop-k.invariant.gathered;
      within = omega (arith, within);
    }

pub returns : goal.returns
returns c =
    let items = c.args.items.now in
    let none : c.loop-k.k ≡ 0 = omega (arith, c.loop-k-test.false) in
    gathered_all c.args.self.now c.loop-k.self (map (λ (i : Item). i.name) (take c.loop-k.k items)) (map (λ (i : Item). i.name) items)
    (ap (λ n. map (λ (i : Item). i.name) (take n items)) none) c.loop-k.invariant.gathered
