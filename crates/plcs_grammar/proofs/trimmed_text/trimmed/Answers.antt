use Rattle.std.proofs.Common.{◌∙◌, sym, ap, take, length, ◌-◌, [], ◌∷◌, reverse}
use Rattle.std.proofs.lemmas.Bool.Decides.{Decides-eqb}
use Rattle.std.proofs.lemmas.Slice.Eq.{ends_is}
use Rattle.plcs_grammar.specs.Cuts.{unblanked}
use Rattle.plcs_grammar.proofs.TrimmedTexts.{trim_last, trim_done}
use Rattle.plcs_grammar.proofs.trimmed_text.trimmed.Goals as goal

pub loop-rest-preserved : goal.loop-rest-preserved
loop-rest-preserved c =
    let rest = c.loop-rest.rest.now in
    let last = (ends_is Decides-eqb rest (32 ∷ []) c.ends_with.result c.ends_with.ensures.value).0 c.loop-rest-test.true in
    sym (ap (λ z. reverse (unblanked (reverse z))) last ∙ trim_last (take (length rest - 1) rest)) ∙ c.loop-rest.invariant

pub returns : goal.returns
returns c =
    let rest = c.loop-rest.rest.now in
    let ended = (ends_is Decides-eqb rest (32 ∷ []) c.ends_with.result c.ends_with.ensures.value).1 in
    sym (trim_done rest (λ front e. let k = ended front e in let n = c.loop-rest-test.false in absurd (cc))) ∙ c.loop-rest.invariant
