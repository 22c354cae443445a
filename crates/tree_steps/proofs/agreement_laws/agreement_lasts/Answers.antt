use Rattle.tree_steps.proofs.AgreeingTrees.{agreement_keeps_procedures, earlier_agrees_alike, edits_agree, going_back_agrees, going_back_past_agrees, steps_keep_agreement}
use Rattle.tree_steps.proofs.agreement_laws.agreement_lasts.Goals as goal

pub returns-clause-edits : goal.returns-clause-edits
returns-clause-edits c = edits_agree

pub returns-clause-steps : goal.returns-clause-steps
returns-clause-steps c = steps_keep_agreement

pub returns-clause-back : goal.returns-clause-back
returns-clause-back c = going_back_agrees

pub returns-clause-past : goal.returns-clause-past
returns-clause-past c = going_back_past_agrees

pub returns-clause-elision : goal.returns-clause-elision
returns-clause-elision c = earlier_agrees_alike

pub returns-clause-procedures : goal.returns-clause-procedures
returns-clause-procedures c = agreement_keeps_procedures
