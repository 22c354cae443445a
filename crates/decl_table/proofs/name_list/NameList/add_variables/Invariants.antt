use Rattle.std.specs.Prelude.{◌≤◌, flat_map, length, map, take}
use Rattle.plcs_grammar.specs.PlainPhrase.{plain_var_ref}
use Rattle.template_tree.specs.Checks.Mention.{reference_names}
use Rattle.decl_table.proofs.GatheredNames.{Gathered}
use Rattle.decl_table.proofs.name_list.NameList.add_variables.Given as goal

abbrev pub invariant-loop-k : goal.invariant-loop-k
invariant-loop-k l = record {
  gathered :
      Gathered l.fn.self l.self (flat_map reference_names (map plain_var_ref (take l.k l.variables)))
      (flat_map reference_names (map plain_var_ref l.variables));
  within : l.k ≤ length l.variables;
}

abbrev pub decreases-loop-k : goal.decreases-loop-k
decreases-loop-k l = l.k
