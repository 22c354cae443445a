use Rattle.std.specs.Prelude.{◌≤◌, List, length, Option}
use Rattle.std.proofs.Common.{arith, sym, ap, ◌∙◌, subst}
use Rattle.std.proofs.lemmas.List.{length-map}
use Rattle.plcs_grammar.specs.PlainPhrase.{PlainPhrase}
use Rattle.plcs_grammar.specs.Template.{row_of}
use Rattle.template_tree.specs.Programs.Program.{AreParts, parts_of}
use Rattle.template_tree.specs.contracts.node.Node.{the_view}
use Rattle.template_tree.specs.Programs.Part.{Takes, part_category}
use Rattle.template_tree.specs.Programs.PlainPhrasePlace.{plain_phrase_place}
use Rattle.template_tree.specs.Programs.PlainTree.{PlainNode}
use Rattle.template_tree.proofs.Parts.PartLists.{takes_in_node, part_read, part_written}
use Rattle.template_tree.proofs.node.Node.put_part.Goals as goal

pub returns-in_default-clause-fits : goal.returns-in_default-clause-fits
returns-in_default-clause-fits c =
    let takes : Takes (part_category c.self.inside.kind c.args.part) (plain_phrase_place c.args.place) = c.takes.ensures.0 c.if-not-takes.false in
    let parts = subst (λ (node : PlainNode). AreParts (parts_of (row_of node.label.kind).line) node.label.parts) (sym c.self.view_is) c.requires.node.0.parts in
    let within = takes_in_node (the_view c.self.inside) c.args.part (plain_phrase_place c.args.place) parts takes in
    let past : length c.self.inside.parts.items ≤ c.args.part = c.in_default.ensures.item.3 in
    absurd (omega (arith, within, past, length-map c.self.inside.parts.items plain_phrase_place))

pub returns-clause-set : goal.returns-clause-set
returns-clause-set c =
    rw (← c.self.view_is) (
      part_read c.self.inside.parts.items c.args.part c.replace.result c.in-Some.ensures.item.3.0
          (c.replace.ensures.value ∙ (c.in-Some.ensures.item.3.1 c.replace.result)),
      ap (λ (parts : List (Option PlainPhrase)). let node = the_view c.self.inside in record node { label = record node.label { parts = parts } })
          (part_written c.self.inside.parts.items c.args.part c.replace.new.dest c.args.place c.replace.ensures.after),
    )
