use Rattle.std.proofs.Common.{ap}
use Rattle.plcs_grammar.specs.declared.category.Category.{Category}
use Rattle.plcs_grammar.specs.PlainPhrase.{category_of, plain_phrase}
use Rattle.plcs_grammar.proofs.UnlikePhrases.{unlike}
use Rattle.plcs_grammar.proofs.EqualPlainPhrases.{told_through, names_told, items_told, declared_lists, name_lists}
use Rattle.plcs_grammar.proofs.phrase_equality.same_phrase.Goals as goal

pub returns-in-DeclaredList-DeclaredList : goal.returns-in-DeclaredList-DeclaredList
returns-in-DeclaredList-DeclaredList c =
    let one = c.in-DeclaredList-DeclaredList in
    told_through _ (declared_lists _ _ one.all one.others one.is-0 one.is-1)
    (items_told one.all.items one.others.items _ c.eq-in-DeclaredList-DeclaredList.ensures)

pub returns-in-NameList-NameList : goal.returns-in-NameList-NameList
returns-in-NameList-NameList c =
    let one = c.in-NameList-NameList in
    told_through _ (name_lists _ _ one.all one.others one.is-0 one.is-1)
    (names_told one.all.items one.others.items _ c.eq-in-NameList-NameList.ensures)

-- The two phrases are of different categories, one goal for each category of the first.
pub returns-in_default : goal.returns-in_default
returns-in_default c =
    unlike _ _ Category.Assignment (ap (λ p. category_of (plain_phrase p)) c.in_default.is-0) (λ of. c.in_default.not-Assignment-1 of.0 of.1 of.2)

pub returns-in_default-2 : goal.returns-in_default-2
returns-in_default-2 c =
    unlike _ _ Category.Condition (ap (λ p. category_of (plain_phrase p)) c.in_default.is-0) (λ of. c.in_default.not-Condition-1 of.0 of.1)

pub returns-in_default-3 : goal.returns-in_default-3
returns-in_default-3 c =
    unlike _ _ Category.Expression (ap (λ p. category_of (plain_phrase p)) c.in_default.is-0) (λ of. c.in_default.not-Expression-1 of.0 of.1)

pub returns-in_default-4 : goal.returns-in_default-4
returns-in_default-4 c =
    unlike _ _ Category.ExpressionList (ap (λ p. category_of (plain_phrase p)) c.in_default.is-0) (λ of. c.in_default.not-ExpressionList-1 of.0 of.1)

pub returns-in_default-5 : goal.returns-in_default-5
returns-in_default-5 c =
    unlike _ _ Category.VariableList (ap (λ p. category_of (plain_phrase p)) c.in_default.is-0) (λ of. c.in_default.not-VariableList-1 of.0 of.1)

pub returns-in_default-6 : goal.returns-in_default-6
returns-in_default-6 c =
    unlike _ _ Category.Variable (ap (λ p. category_of (plain_phrase p)) c.in_default.is-0) (λ of. c.in_default.not-Variable-1 of.0 of.1)

pub returns-in_default-7 : goal.returns-in_default-7
returns-in_default-7 c =
    unlike _ _ Category.CallRef (ap (λ p. category_of (plain_phrase p)) c.in_default.is-0) (λ of. c.in_default.not-CallRef-1 of.0 of.1 of.2)

pub returns-in_default-8 : goal.returns-in_default-8
returns-in_default-8 c =
    unlike _ _ Category.DeclaredList (ap (λ p. category_of (plain_phrase p)) c.in_default.is-0) (λ of. c.in_default.not-DeclaredList-1 of.0 of.1)

pub returns-in_default-9 : goal.returns-in_default-9
returns-in_default-9 c =
    unlike _ _ Category.ProcedureName (ap (λ p. category_of (plain_phrase p)) c.in_default.is-0) (λ of. c.in_default.not-ProcedureName-1 of.0 of.1)

pub returns-in_default-10 : goal.returns-in_default-10
returns-in_default-10 c =
    unlike _ _ Category.NameList (ap (λ p. category_of (plain_phrase p)) c.in_default.is-0) (λ of. c.in_default.not-NameList-1 of.0 of.1)

pub returns-in_default-11 : goal.returns-in_default-11
returns-in_default-11 c =
    unlike _ _ Category.Length (ap (λ p. category_of (plain_phrase p)) c.in_default.is-0) (λ of. c.in_default.not-Length-1 of.0 of.1)

pub returns-in_default-12 : goal.returns-in_default-12
returns-in_default-12 c =
    unlike _ _ Category.CommentText (ap (λ p. category_of (plain_phrase p)) c.in_default.is-0) (λ of. c.in_default.not-CommentText-1 of.0 of.1)
