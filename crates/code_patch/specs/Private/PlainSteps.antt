-- Kept nodes after one step of a prepared edit, and whether it can be made.
use Rattle.std.specs.Prelude.{◌≡◌, ℕ, ◌+◌, ◌-◌, ◌<◌, ◌≤◌, length, Some, slice_get, [], ◌∷◌, unwrap_or}
use Rattle.code_patch.specs.declared.code_edit.Act.{Act}
use Rattle.code_patch.specs.declared.code_edit.Step.{Step}
use Rattle.code_patch.specs.CodeEdit.{code_added, code_gives_way, edited_code, mended_node, room_after}
use Rattle.code_patch.specs.CodeForest.{CodeForest, PlainCodeNode, code_nodes}
use Rattle.code_patch.specs.PreparedEdit.{AreJumps, StepsFit}
use Rattle.code_patch.specs.Private.PlainCodeNode.{code_forest}
use Rattle.code_patch.specs.Private.StepsView.{plain_jumps}

-- kept nodes after this was done with the one of the number
abbrev pub after_act : {W : Type 0} → (number : ℕ) → Act W → CodeForest → CodeForest
after_act number (Act.Mend mending) nodes =
    code_gives_way (mended_node mending.own (edited_code mending.inner) (room_after mending.inner)) number nodes
after_act number (Act.Put node) nodes = code_gives_way (λ was spare within. code_forest (node ∷ [])) number nodes
after_act number (Act.Add node) nodes = code_added (code_forest (node ∷ [])) number nodes
after_act number Act.Drop nodes = code_gives_way (λ was spare within. CodeForest.nil) number nodes

-- kept nodes after a step of a prepared edit
abbrev pub stepped : {W : Type 0} → Step W → CodeForest → CodeForest
stepped step nodes = after_act step.number step.act nodes

-- the room of their list after this was done with one of them
abbrev pub room_acted : {W : Type 0} → Act W → (spare : ℕ) → ℕ
room_acted (Act.Mend mending) spare = spare
room_acted (Act.Put node) spare = spare
room_acted (Act.Add node) spare = spare - 1
room_acted Act.Drop spare = spare + 1

-- the room of their list after a step of a prepared edit
abbrev pub room_stepped : {W : Type 0} → Step W → (spare : ℕ) → ℕ
room_stepped step spare = room_acted step.act spare

-- this can be done with the kept node of the number
abbrev pub ActFits : {W : Type 0} → (number : ℕ) → Act W → (spare : ℕ) → CodeForest → Type 0
ActFits number (Act.Mend mending) spare nodes =
    (node : PlainCodeNode) × (slice_get (code_nodes nodes) number ≡ Some node)
    × StepsFit mending.inner node.spare node.inner
    × AreJumps (unwrap_or mending.own node.own) (edited_code mending.inner node.inner) (plain_jumps mending.jumps)
ActFits number (Act.Put node) spare nodes = number < length (code_nodes nodes)
ActFits number (Act.Add node) spare nodes = (number ≤ length (code_nodes nodes)) × (0 < spare)
ActFits number Act.Drop spare nodes = number < length (code_nodes nodes)

-- a step of a prepared edit can be made
abbrev pub StepFits : {W : Type 0} → Step W → (spare : ℕ) → CodeForest → Type 0
StepFits step spare nodes = ActFits step.number step.act spare nodes
