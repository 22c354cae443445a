use Rattle.std.proofs.Common.{◌∙◌, [], ◌∷◌, arith}
use Rattle.synth_session.specs.declared.typed_line.TheConstants.{LINE_LIMIT}
use Rattle.std.proofs.lemmas.Bool.Decides.{nat_tests}
use Rattle.synth_session.proofs.LineTexts.{put_beyond, put_within}
use Rattle.synth_session.proofs.typed_line.LineTextByteOut.put.Goals as goal

pub returns-then-not-is_full : goal.returns-then-not-is_full
returns-then-not-is_full c =
    let value = c.if-not-is_full.ensures.value in
    let fits = c.if-not-is_full.ensures.fits in
    c.push.ensures.items ∙ put_within c.args.self.now.bytes.items c.args.byte (grind (arith, nat_tests))

pub returns-else-not-is_full : goal.returns-else-not-is_full
returns-else-not-is_full c =
    let value = c.if-not-is_full.ensures.value in
    put_beyond LINE_LIMIT c.args.self.now.bytes.items (c.args.byte ∷ []) (grind (arith, nat_tests))
