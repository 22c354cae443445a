use Rattle.std.proofs.Common.{◌≡◌, ℕ, List, Option, None, Result, subst, sym, ap, ◌∙◌}
use Rattle.plcs_grammar.specs.declared.category.Category.{Category}
use Rattle.plcs_grammar.specs.declared.category.Category.TheVariants.{CommentText}
use Rattle.plcs_grammar.specs.declared.phrase.Phrase.{Phrase}
use Rattle.phrase_parser.specs.declared.fault.PhraseFault.{PhraseFault}
use Rattle.phrase_parser.specs.declared.check.shape.Shape.{Shape}
use Rattle.phrase_parser.specs.Private.Recognizer.{first_shape}
use Rattle.phrase_parser.specs.Private.Shapes.{shape_if}
use Rattle.phrase_parser.specs.Answers.{Answers}
use Rattle.phrase_parser.proofs.Readings.CanonicalText.{answer_well_formed}
use Rattle.phrase_parser.proofs.Readings.OneAnswer.{no_shape, only, only_over, only_syntax}
use Rattle.phrase_parser.proofs.Readings.Standings.{answer_category}
use Rattle.phrase_parser.proofs.parser.parse.Goals as goal

-- where no shape is wanted first, the category is that of comments
comment_says : (c : Category) (x : List ℕ) (answer : Result Phrase PhraseFault) {first : Option Shape}
    → shape_if first ≡ first_shape c → first ≡ None → Answers CommentText x answer → Answers c x answer
comment_says c x answer wanted none says =
    subst (λ (d : Category). Answers d x answer) (sym (no_shape c (sym wanted ∙ ap shape_if none))) says

pub returns-in-Some : goal.returns-in-Some
returns-in-Some c =
    let says = c.phrase.ensures in
    record {
      says = says;
      well_formed = answer_well_formed c.args.category c.args.text.now c.phrase.result says;
      only = λ phrase. only c.args.category c.args.text.now c.phrase.result phrase says;
      over = λ over. only_over c.args.category c.args.text.now c.phrase.result over says;
      syntax = λ place. only_syntax c.args.category c.args.text.now c.phrase.result place says;
      category = answer_category c.args.category c.args.text.now c.phrase.result says;
    }

pub returns-in-None : goal.returns-in-None
returns-in-None c =
    let says = comment_says c.args.category c.args.text.now c.comment.result c.first_shape.ensures c.in-None.is c.comment.ensures.says in
    record {
      says = says;
      well_formed = answer_well_formed c.args.category c.args.text.now c.comment.result says;
      only = λ phrase. only c.args.category c.args.text.now c.comment.result phrase says;
      over = λ over. only_over c.args.category c.args.text.now c.comment.result over says;
      syntax = λ place. only_syntax c.args.category c.args.text.now c.comment.result place says;
      category = answer_category c.args.category c.args.text.now c.comment.result says;
    }
