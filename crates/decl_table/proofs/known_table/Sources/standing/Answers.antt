-- The path of the slot leads to the node in which the phrase stands.
use Rattle.std.proofs.Common.{◌∙◌, sym, refl}
use Rattle.std.proofs.lemmas.Option.{none-some, same_Some}
use Rattle.plcs_grammar.specs.PlainPhrase.{plain_phrase}
use Rattle.decl_table.proofs.CalledParameters.{node_missing, stands_on, stands_somewhere}
use Rattle.decl_table.proofs.known_table.Sources.standing.Goals as goal

pub returns-in_default : goal.returns-in_default
returns-in_default c =
    λ procedure phrase stands.
    absurd (stands_somewhere c.args.self.now.tree.now.items c.args.at procedure phrase stands (c.in_default.ensures.none.0 refl))

pub returns-in_default-node : goal.returns-in_default-node
returns-in_default-node c =
    λ procedure phrase stands.
    absurd (node_missing c.args.self.now.tree.now.items c.in-Some.path.items c.args.at.slot.0 c.in-Some.ensures.path c.in_default-node.ensures.found)

pub returns-in_default-item_on : goal.returns-in_default-item_on
returns-in_default-item_on c =
    λ procedure phrase stands.
    absurd
    (none-some procedure
    (c.in_default-item_on.ensures
    ∙ (stands_on c.args.self.now.tree.now.items c.args.at procedure phrase stands c.in-Some.path.items c.in-Some-node.node.now c.in-Some.ensures.path
    (sym c.in-Some-node.ensures.found) (c.requires.tree.once c.args.at.slot.0)).0))

pub returns-in_default-phrase_in : goal.returns-in_default-phrase_in
returns-in_default-phrase_in c =
    λ procedure phrase stands.
    absurd
    (none-some phrase
    (c.in_default-phrase_in.ensures
    ∙ (stands_on c.args.self.now.tree.now.items c.args.at procedure phrase stands c.in-Some.path.items c.in-Some-node.node.now c.in-Some.ensures.path
    (sym c.in-Some-node.ensures.found) (c.requires.tree.once c.args.at.slot.0)).1))

pub returns : goal.returns
returns c =
    λ procedure phrase stands.
    let on =
    stands_on c.args.self.now.tree.now.items c.args.at procedure phrase stands c.in-Some.path.items c.in-Some-node.node.now c.in-Some.ensures.path
    (sym c.in-Some-node.ensures.found) (c.requires.tree.once c.args.at.slot.0) in (
      same_Some c.in-Some-item_on.procedure.now procedure (c.in-Some-item_on.ensures ∙ on.0),
      same_Some (plain_phrase c.in-Some-phrase_in.phrase.now) phrase (c.in-Some-phrase_in.ensures ∙ on.1),
    )
