use Rattle.std.proofs.Common.{ap}
use Rattle.plcs_code.specs.Private.PlainDraft.{PlainDraft}
use Rattle.plcs_code.proofs.Laying.{drafted, ok_then, whole_code}
use Rattle.plcs_code.proofs.own_code.block_before.Goals as goal

pub returns-clause-code : goal.returns-clause-code
returns-clause-code g c =
    whole_code c.into_whole.result (drafted c.lay_before.ensures) (ap (λ (draft : PlainDraft). draft.instrs) c.new-draft.ensures)
    c.into_whole.ensures.whole c.into_whole.ensures.instrs

pub returns-clause-counted : goal.returns-clause-counted
returns-clause-counted g c = ok_then c.into_whole.result (drafted c.lay_before.ensures).counted c.into_whole.ensures.whole

pub returns-clause-counts : goal.returns-clause-counts
returns-clause-counts g c = (drafted c.lay_before.ensures).counts
