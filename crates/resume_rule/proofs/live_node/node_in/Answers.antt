use Rattle.std.specs.Prelude.{refl, false, option_map}
use Rattle.std.proofs.Common.{ap, sym, ◌∙◌}
use Rattle.template_tree.specs.Positions.Place.{place_at}
use Rattle.template_tree.specs.Programs.PlainTree.{PlainNode}
use Rattle.resume_rule.proofs.FoundSlots.{found_then, label_there, no_site, site_of_path}
use Rattle.resume_rule.proofs.live_node.node_in.Goals as goal

pub returns-in_default-clause-found : goal.returns-in_default-clause-found
returns-in_default-clause-found c =
    sym (ap (option_map label_there) (no_site c.args.slot.0 false c.args.tree.now.items (place_at 0 1) (c.in_default.ensures.none.0 refl)))

pub returns-clause-found : goal.returns-clause-found
returns-clause-found c =
    found_then (λ node. node.now) (λ (node : PlainNode). node.label) c.node.result c.node.ensures.found
    ∙ site_of_path c.args.tree.now.items c.in-Some.path.items c.args.slot.0 c.in-Some.ensures.path (c.requires.tree.once c.args.slot.0)
