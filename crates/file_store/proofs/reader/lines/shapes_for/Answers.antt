use Rattle.file_store.proofs.LineTexts.{none_from}
use Rattle.file_store.proofs.reader.lines.shapes_for.Goals as goal

pub returns-in-Some-clause-others : goal.returns-in-Some-clause-others
returns-in-Some-clause-others c =
    none_from c.in-Some.byte.now c.in-Some.field-0-1.now c.args.text.now c.shapes_from.result.now c.in-Some.ensures.cases.0 c.shapes_from.ensures
