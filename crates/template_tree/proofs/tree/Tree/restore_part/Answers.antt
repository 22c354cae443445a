use Rattle.std.specs.Prelude.{refl, List, [], ◌∷◌}
use Rattle.std.proofs.Common.{ap, sym, ◌∙◌}
use Rattle.template_tree.specs.Programs.Part.{with_part}
use Rattle.template_tree.specs.Programs.PlainPhrasePlace.{plain_phrase_place}
use Rattle.template_tree.specs.Programs.PlainTree.{Forest, PlainNode, PlainTree, roomless, roomless_tree}
use Rattle.template_tree.proofs.Room.RoomlessEdits.{with_edit_is, nowhere_is}
use Rattle.template_tree.proofs.Edits.SameEdits.{edits_alike}
use Rattle.template_tree.proofs.tree.Tree.restore_part.Goals as goal

pub returns-in_default : goal.returns-in_default
returns-in_default c =
    let change : PlainNode → List PlainNode = λ item. with_part c.args.part (plain_phrase_place c.args.place) item ∷ [] in
    nowhere_is change change (λ _. refl) c.args.path.now.items c.args.self.now (sym c.in_default.ensures.found)

pub returns : goal.returns
returns c =
    let change : PlainNode → List PlainNode = λ item. with_part c.args.part (plain_phrase_place c.args.place) item ∷ [] in
    ap (λ (items : Forest). let t : PlainTree = record (roomless_tree c.args.self.now) { items = roomless items } in t)
    (edits_alike (λ _. c.swap_part.new.self ∷ []) change c.args.self.now.items c.args.path.now.items c.in-Some.node.now
    (sym c.in-Some.ensures.found) (ap (λ n. n ∷ []) c.swap_part.ensures.came))
    ∙ with_edit_is change change (λ _. refl) c.args.path.now.items c.args.self.now
