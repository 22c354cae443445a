-- The steps by which what is prepared for a list of kept nodes goes on.
use Rattle.std.specs.Prelude.{◌≡◌, ℕ, ◌+◌, ◌-◌, ◌≤◌, ◌==◌, if◌then◌else◌, ◌++◌, ◌∷◌, [], MatchOption, Option}
use Rattle.plcs_code.specs.BlockLimit.{most_instrs}
use Rattle.code_patch.specs.declared.code_edit.Act.{Act}
use Rattle.code_patch.specs.declared.list_edit.ListEdit.{ListEdit}
use Rattle.code_patch.specs.declared.list_edit.NodeEdit.{NodeEdit}
use Rattle.code_patch.specs.Private.StepsView.{step_at}

-- what is prepared has one step more, by which the node of the number, whose code had the one length, has the other
pub record IsExchanged {W : Type 0} (old new : ListEdit W) (k : ℕ) (act : Act W) (was after : ℕ) : Type 0 where
  pub step : new.steps.items ≡ old.steps.items ++ step_at k act ∷ []
  pub total : new.total ≡ old.total - was + after
  pub first : new.first ≡ (if k == 0 then after else old.first)
  pub short : new.total ≤ most_instrs

-- what is prepared has one step more, by which the node of the number, whose code had this length, is mended, if
-- something becomes of it, and is as it was else
abbrev pub IsMended : {W : Type 0} (old new : ListEdit W) (k : ℕ) → Option (NodeEdit W) → (was : ℕ) → Type 0
IsMended old new k edit was =
    MatchOption edit (new ≡ old) (λ edit. IsExchanged old new k (Act.Mend edit.mending) was edit.length)
