use Rattle.std.proofs.Common.{◌≡◌, ◌-◌, ◌+◌, ◌++◌, ◌∷◌, take, length, subst, sym}
use Rattle.std.proofs.lemmas.List.{take_rest}
use Rattle.file_store.specs.Loaded.{HasNoEnd}
use Rattle.file_store.specs.Private.LineStarts.{AreStarts}
use Rattle.file_store.proofs.LineStarts.{first_line}
use Rattle.file_store.proofs.reader.split_line.Goals as goal

pub returns : goal.returns
returns c =
    let text = c.args.text.now in
    let end = length text - c.in-Some.start.now - 1 in
    subst (λ more. (text ≡ take end text ++ (10 ∷ more)) × HasNoEnd (take end text) × AreStarts more c.in-Some.later.now)
    (sym (take_rest text (end + 1)))
    (first_line text c.in-Some.start.now c.in-Some.later.now (subst (AreStarts text) c.in-Some.ensures.cases.0 c.requires.starts))
