-- What is prepared for a kept node by its own code, if that is new, and what becomes of the list inside it.
use Rattle.std.specs.Prelude.{◌≡◌, Option, unwrap_or}
use Rattle.plcs_code.specs.OwnCode.{PlainOwnCode}
use Rattle.code_patch.specs.declared.list_edit.ListEdit.{ListEdit}
use Rattle.code_patch.specs.declared.list_edit.NodeEdit.{NodeEdit}
use Rattle.code_patch.specs.CodeForest.{count_around, kept_lengths, PlainCodeNode}
use Rattle.code_patch.specs.PreparedEdit.{AreJumps}
use Rattle.code_patch.specs.Private.PreparedNodes.{made_by}
use Rattle.code_patch.specs.Private.StepsView.{edit_of_steps, plain_jumps}

-- what is prepared for a kept node has this own code and these steps, and the jumps and the length that go with them
pub record IsEditBy {W : Type 0} (edit : NodeEdit W) (new : Option PlainOwnCode) (list : ListEdit W) (kept : PlainCodeNode)
    : Type 0 where
  pub own : edit.mending.own ≡ new
  pub inner : edit.mending.inner ≡ edit_of_steps list.steps.items
  pub jumps : AreJumps (unwrap_or new kept.own) (made_by list kept.inner) (plain_jumps edit.mending.jumps)
  pub length : edit.length ≡ count_around (unwrap_or new kept.own) (kept_lengths (made_by list kept.inner))
