use Rattle.std.proofs.Common.{◌∙◌, ◌+◌, ◌++◌, ◌∷◌, [], List, Option, append-nil, append_assoc, drop, sym, ap, refl, arith}
use Rattle.std.proofs.lemmas.Option.{slice_get_within}
use Rattle.plcs_base.specs.ListLeft.{left_from, none_left}
use Rattle.plcs_base.specs.declared.declared.Declared.{Declared}
use Rattle.plcs_base.specs.declared.mark.MarkKind.{MarkKind}
use Rattle.template_tree.specs.Checks.Environment.{declares}
use Rattle.template_tree.specs.Checks.Verdict.{declared_offence}
use Rattle.template_tree.specs.Programs.PlainTree.{forest, forest_nodes, nodes}
use Rattle.decl_table.specs.ListOffences.{list_offences}
use Rattle.decl_table.proofs.list_offences.ListOffences.note_all.Goals as goal

pub loop-node-init : goal.loop-node-init
loop-node-init c = record {
  made = rw (c.self.view_is, c.requires.none, c.requires.bare, forest_nodes c.args.procedure.now.inner) refl;
  within = omega arith;
}

pub overflow_add-k : goal.overflow_add-k
overflow_add-k c =
    let within = slice_get_within (nodes c.args.procedure.now.inner) c.loop-node.k c.in-Some.node.now (sym c.in-Some.ensures) in
    omega (arith, within, c.items_are_nodes.ensures.few c.args.procedure.now.inner, c.requires.few)

pub loop-node-smaller : goal.loop-node-smaller
loop-node-smaller c =
    let within = slice_get_within (nodes c.args.procedure.now.inner) c.loop-node.k c.in-Some.node.now (sym c.in-Some.ensures) in
    omega (arith, within)

pub loop-node-preserved : goal.loop-node-preserved
loop-node-preserved c =
    let all = nodes c.args.procedure.now.inner in
    let rest = forest (drop (c.loop-node.k + 1) all) in
    let label = c.in-Some.node.now.label in
    let fold = c.loop-node.fold in
    let done = c.loop-node.self-inside.list.items in
    let within = slice_get_within all c.loop-node.k c.in-Some.node.now (sym c.in-Some.ensures) in
    record {
      made =
          ap (λ (items : List (Option MarkKind)). items ++ list_offences c.declare_all.new.self rest) c.in_ok-push.ensures.items
          ∙ append_assoc done (c.in_ok-offence.offence ∷ []) (list_offences c.declare_all.new.self rest)
          ∙ ap (λ (o : Option MarkKind). done ++ (o ∷ list_offences c.declare_all.new.self rest)) c.in_ok-offence.ensures.offence
          ∙ ap (λ (items : List Declared). done ++ (declared_offence fold (declares label) ∷ list_offences items rest)) c.in_ok-offence.ensures.items
          ∙ ap (λ left. done ++ list_offences fold (forest left)) (sym (left_from all c.loop-node.k c.in-Some.node.now (sym c.in-Some.ensures)))
          ∙ c.loop-node.invariant.made;
      within = omega (arith, within);
    }

pub returns : goal.returns
returns c =
    sym (append-nil c.loop-node.self-inside.list.items)
    ∙ ap (λ left. c.loop-node.self-inside.list.items ++ list_offences c.loop-node.fold (forest left))
    (sym (none_left (nodes c.args.procedure.now.inner) c.loop-node.k (sym c.in_default.ensures)))
    ∙ c.loop-node.invariant.made
