use Rattle.std.specs.Prelude.{List, Option}
use Rattle.std.proofs.Common.{ap, sym, ◌∙◌}
use Rattle.plcs_grammar.specs.PlainPhrase.{PlainPhrase}
use Rattle.template_tree.specs.contracts.node.Node.{the_view}
use Rattle.template_tree.specs.Programs.Part.{with_part}
use Rattle.template_tree.specs.Programs.PlainPhrasePlace.{plain_phrase_place}
use Rattle.template_tree.specs.Programs.PlainTree.{PlainNode}
use Rattle.template_tree.proofs.Parts.PartEdits.{set_back}
use Rattle.template_tree.proofs.Parts.PartLists.{part_read, part_written}
use Rattle.template_tree.proofs.node.Node.swap_part.Goals as goal

pub returns-clause-came : goal.returns-clause-came
returns-clause-came c =
    rw (← c.self.view_is)
    (ap (λ (parts : List (Option PlainPhrase)). let node = the_view c.self.inside in record node { label = record node.label { parts = parts } })
    (part_written c.self.inside.parts.items c.args.part c.replace.new.dest c.args.place c.replace.ensures.after))

pub returns-clause-gone : goal.returns-clause-gone
returns-clause-gone c =
    let node : PlainNode = the_view c.self.inside in
    let held : Option PlainPhrase = plain_phrase_place c.replace.result in
    ap (with_part c.args.part held) (returns-clause-came c ∙ ap (with_part c.args.part (plain_phrase_place c.args.place)) (sym c.self.view_is))
    ∙ (ap (λ (parts : List (Option PlainPhrase)). let n : PlainNode = record node { label = record node.label { parts = parts } } in n)
    (set_back node.label.parts c.args.part (plain_phrase_place c.args.place) held
    (part_read c.self.inside.parts.items c.args.part c.replace.result c.in-Some.ensures.item.3.0
    (c.replace.ensures.value ∙ (c.in-Some.ensures.item.3.1 c.replace.result))))
    ∙ c.self.view_is)
