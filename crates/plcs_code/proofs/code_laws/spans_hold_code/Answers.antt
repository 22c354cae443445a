use Rattle.plcs_code.proofs.HeldSpans.{spans_hold_code}
use Rattle.plcs_code.proofs.code_laws.spans_hold_code.Goals as goal

pub returns : goal.returns
returns c = spans_hold_code
