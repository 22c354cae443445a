-- The places of phrases in nodes, gathered part after part and node after node.
use Rattle.std.specs.Prelude.{◌≡◌, ℕ, ◌+◌, ◌<◌, List, [], ◌∷◌, ◌++◌, drop, length, slice_get, Option}
use Rattle.std.specs.Option.{option_flatten}
use Rattle.std.proofs.Common.{ap, sym, ◌∙◌, append_assoc}
use Rattle.std.proofs.lemmas.List.{append-nil}
use Rattle.plcs_base.specs.ListLeft.{left_from}
use Rattle.plcs_base.specs.declared.place.PhraseAt.{PhraseAt}
use Rattle.template_tree.specs.Checks.Mention.{phrase_at}
use Rattle.decl_table.specs.Names.{NameForest}
use Rattle.decl_table.specs.Private.PlainNameNode.{PlainNameNode, kept_place, kept_places, name_forest, name_places, node_names}
use Rattle.decl_table.proofs.AddedUses.{there_is}

-- one more part
pub parts_turn : (slot part : ℕ) (parts : List (Option (List (List ℕ)))) → part < length parts
    → kept_places slot part (drop part parts)
    ≡ kept_place (phrase_at slot part) (option_flatten (slice_get parts part)) ++ kept_places slot (part + 1) (drop (part + 1) parts)
parts_turn slot part parts within =
    let found = there_is parts part within in
    ap (kept_places slot part) (left_from parts part found.0 found.1)
    ∙ ap (λ o. kept_place (phrase_at slot part) (option_flatten o) ++ kept_places slot (part + 1) (drop (part + 1) parts)) (sym found.1)

-- one more is gathered: with those that are left, all are
pub more_gathered : (old now new own left rest whole : List PhraseAt) → new ≡ now ++ own → left ≡ own ++ rest → now ++ left ≡ old ++ whole
    → new ++ rest ≡ old ++ whole
more_gathered old now new own left rest whole new_is left_is all =
    ap (λ xs. xs ++ rest) new_is ∙ append_assoc now own rest ∙ ap (λ xs. now ++ xs) (sym left_is) ∙ all

-- none is left
pub all_gathered : (old now left whole : List PhraseAt) → left ≡ [] → now ++ left ≡ old ++ whole → now ≡ old ++ whole
all_gathered old now left whole none all = sym (append-nil now) ∙ ap (λ xs. now ++ xs) (sym none) ∙ all

-- the places of the first node and of those behind it
pub nodes_turn : (nodes : List PlainNameNode) (k : ℕ) (node : PlainNameNode) → drop k nodes ≡ node ∷ drop (k + 1) nodes
    → name_places (name_forest (drop k nodes)) ≡ name_places (node_names node) ++ name_places (name_forest (drop (k + 1) nodes))
nodes_turn nodes k node turn =
    let own = kept_places node.label.slot 0 node.label.parts in
    let within = name_places node.inner in
    let rest = name_places (name_forest (drop (k + 1) nodes)) in
    ap (λ xs. name_places (name_forest xs)) turn
    ∙ sym (append_assoc own within rest)
    ∙ ap (λ xs. (own ++ xs) ++ rest) (sym (append-nil within))

-- a node's own places and those inside it
pub node_places : (old mid new : List PhraseAt) (node : PlainNameNode) (inside : NameForest) → inside ≡ node.inner
    → mid ≡ old ++ kept_places node.label.slot 0 node.label.parts → new ≡ mid ++ name_places inside
    → new ≡ old ++ name_places (node_names node)
node_places old mid new node inside same mid_is new_is =
    let own = kept_places node.label.slot 0 node.label.parts in
    new_is
    ∙ ap (λ xs. xs ++ name_places inside) mid_is
    ∙ append_assoc old own (name_places inside)
    ∙ ap (λ f. old ++ (own ++ name_places f)) same
    ∙ ap (λ xs. old ++ (own ++ xs)) (sym (append-nil (name_places node.inner)))
