use Rattle.std.proofs.Common.{◌≡◌, ◌∙◌, ◌<◌, ◌-◌, suc, length, map, take, ap, arith}
use Rattle.std.specs.Prelude.{flat_map}
use Rattle.plcs_grammar.specs.PlainPhrase.{plain_var_ref}
use Rattle.template_tree.specs.Checks.Mention.{reference_names}
use Rattle.decl_table.proofs.GatheredNames.{gathered_all, gathered_next, take_turn, variables_turn}
use Rattle.decl_table.proofs.name_list.NameList.add_variables.Goals as goal

pub loop-k-preserved : goal.loop-k-preserved
loop-k-preserved c =
    let variables = c.args.variables.now in
    let k = c.loop-k.k - 1 in
    let item = c.index-variables-k.result in
    let turn : c.loop-k.k ≡ suc k = omega (arith, c.loop-k-test.true) in
    let within : k < length variables = omega (arith, c.loop-k.invariant.within, c.loop-k-test.true) in
    record {
      gathered =
          gathered_next c.args.self.now c.loop-k.self c.add_variable.new.self (flat_map reference_names (map plain_var_ref (take c.loop-k.k variables)))
          (flat_map reference_names (map plain_var_ref (take k variables))) (reference_names (plain_var_ref item))
          (flat_map reference_names (map plain_var_ref variables)) c.in_ok-add_variable.ensures
          (ap (λ n. flat_map reference_names (map plain_var_ref (take n variables))) turn
          ∙ ap (λ xs. flat_map reference_names (map plain_var_ref xs)) (take_turn variables k item within c.index-variables-k.is)
          ∙ variables_turn (take k variables) item)
          c.loop-k.invariant.gathered;
      within = omega (arith, within);
    }

pub returns : goal.returns
returns c =
    let variables = c.args.variables.now in
    let none : c.loop-k.k ≡ 0 = omega (arith, c.loop-k-test.false) in
    gathered_all c.args.self.now c.loop-k.self (flat_map reference_names (map plain_var_ref (take c.loop-k.k variables)))
    (flat_map reference_names (map plain_var_ref variables)) (ap (λ n. flat_map reference_names (map plain_var_ref (take n variables))) none)
    c.loop-k.invariant.gathered
