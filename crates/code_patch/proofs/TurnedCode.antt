-- What is kept of a program asks neither of room nor of elision: a turned comment changes nothing of it.
use Rattle.std.proofs.Common.{◌≡◌, ℕ, zero, suc, Bool, true, false, List, [], ◌∷◌, refl, ap, ◌∙◌}
use Rattle.std.specs.Prelude.{if◌then◌else◌, not}
use Rattle.plcs_base.specs.Mark.{MarkMap}
use Rattle.plcs_base.specs.Scope.{ItemMap}
use Rattle.template_tree.specs.Checks.Marks.{Marks, offences}
use Rattle.template_tree.specs.Edits.Edit.{edit_at, edit_below, give_way}
use Rattle.template_tree.specs.Edits.Elision.{is_comment, toggled}
use Rattle.template_tree.specs.Laws.CheckLaws.{CheckAlike, ChecksIgnoreElision, ChecksIgnoreRoom}
use Rattle.template_tree.specs.Programs.PlainTree.{Forest, PlainNode, forest, join, roomless}
use Rattle.plcs_code.specs.ProgramCode.{ProgramItemsTell, program_items}
use Rattle.code_patch.specs.CodeForest.{CodeForest, kept_code, kept_program, PlainCodeNode}
use Rattle.code_patch.specs.KeptCodeLaws.{KeptCodeIgnoresElision, KeptCodeIgnoresRoom}
use Rattle.code_patch.specs.Private.PlainCodeNode.{kept_node}
use Rattle.code_patch.proofs.RoomlessTrees.{kept_roomless}
use Rattle.code_patch.proofs.ToldCode.{kept_of_program}

module _ (marks : MarkMap) (items : ItemMap) where
  -- a change of an item of which the same is kept, and which gives one item
  record KeepsCode (change : PlainNode → List PlainNode) : Type 0 where
    new : PlainNode → PlainNode
    one : (node : PlainNode) → change node ≡ new node ∷ []
    same : (node : PlainNode) → kept_node marks items (new node) ≡ kept_node marks items node

  gives_code : (change : PlainNode → List PlainNode) → KeepsCode change → (k : ℕ) (nodes : Forest)
      → kept_code marks items (give_way change k nodes) ≡ kept_code marks items nodes
  gives_code change keeps k Forest.nil = refl
  gives_code change keeps zero (Forest.cons label inner rest) =
      let node : PlainNode = record { label = label; inner = inner } in
      ap (λ (ns : List PlainNode). kept_code marks items (join (forest ns) rest)) (keeps.one node)
      ∙ ap (λ (n : PlainCodeNode). CodeForest.cons n.own 0 n.inner (kept_code marks items rest)) (keeps.same node)
  gives_code change keeps (suc k) (Forest.cons label inner rest) =
      let node : PlainCodeNode = kept_node marks items record { label = label; inner = inner } in
      ap (λ (f : CodeForest). CodeForest.cons node.own 0 node.inner f) (gives_code change keeps k rest)

  code_below : (change : PlainNode → List PlainNode) → KeepsCode change → (path : List ℕ) → KeepsCode (edit_below change path)
  code_below change keeps [] = keeps
  code_below change keeps (k ∷ path) =
      record {
        new = λ node. record node { inner = give_way (edit_below change path) k node.inner };
        one = λ node. refl;
        same = λ node.
            ap
            (λ (f : CodeForest).
            let other : PlainCodeNode = record (kept_node marks items node) { inner = f } in other)
            (gives_code (edit_below change path) (code_below change keeps path) k node.inner);
      }

  abbrev turned_or_not : Bool → PlainNode → PlainNode
  turned_or_not b node = if b then record node { label = record node.label { elided = not node.label.elided } } else node

  turned_same : (b : Bool) (node : PlainNode) → kept_node marks items (turned_or_not b node) ≡ kept_node marks items node
  turned_same true node = refl
  turned_same false node = refl

  turn_keeps : KeepsCode toggled
  turn_keeps =
      record {
        new = λ node. turned_or_not (is_comment node.label.kind) node;
        one = λ node. refl;
        same = λ node. turned_same (is_comment node.label.kind) node;
      }

  kept_turned : (path : List ℕ) (program : Forest) → kept_code marks items (edit_at toggled path program) ≡ kept_code marks items program
  kept_turned [] program = refl
  kept_turned (k ∷ path) program = gives_code (edit_below toggled path) (code_below toggled turn_keeps path) k program

-- what is kept of a program by the marks and the items of one that checks alike
alike_kept : ProgramItemsTell → (one other : Forest) → CheckAlike one other
    → kept_code (Marks one) (program_items one) other ≡ kept_program other
alike_kept its one other alike =
    kept_of_program its other (Marks one) (program_items one) (ap offences alike.verdicts) (λ slot. its one slot ∙ alike.items slot)

pub kept_ignores_room : ChecksIgnoreRoom → ProgramItemsTell → KeptCodeIgnoresRoom
kept_ignores_room room its program =
    kept_roomless (Marks (roomless program)) (program_items (roomless program)) program ∙ alike_kept its (roomless program) program (room program)

pub kept_ignores_elision : ChecksIgnoreElision → ProgramItemsTell → KeptCodeIgnoresElision
kept_ignores_elision elision its program path =
    let turned = edit_at toggled path program in
    kept_turned (Marks turned) (program_items turned) path program ∙ alike_kept its turned program (elision program path)
