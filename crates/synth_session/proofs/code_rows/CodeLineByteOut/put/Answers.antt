use Rattle.std.proofs.Common.{◌∙◌, [], ◌∷◌, arith}
use Rattle.synth_session.specs.declared.code_rows.TheConstants.{LONGEST_CODE_ROW}
use Rattle.std.proofs.lemmas.Bool.Decides.{nat_tests}
use Rattle.synth_session.proofs.CodeRowTexts.{byte_within}
use Rattle.synth_session.proofs.LineTexts.{put_beyond}
use Rattle.synth_session.proofs.code_rows.CodeLineByteOut.put.Goals as goal

pub returns-then-not-is_full : goal.returns-then-not-is_full
returns-then-not-is_full c =
    let value = c.if-not-is_full.ensures.value in
    let fits = c.if-not-is_full.ensures.fits in
    c.push.ensures.items ∙ byte_within c.args.self.now.bytes.items c.args.byte (grind (arith, nat_tests))

pub returns-else-not-is_full : goal.returns-else-not-is_full
returns-else-not-is_full c =
    let value = c.if-not-is_full.ensures.value in
    put_beyond LONGEST_CODE_ROW c.args.self.now.bytes.items (c.args.byte ∷ []) (grind (arith, nat_tests))
