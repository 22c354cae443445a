-- ---- the definitions at work
-- the values of the limits of phrases
mod Limits
-- small cases that the definitions give by computing; no clause needs them
mod Examples
-- no template or sign is forgotten in its table: `Template::read` and `Sign::read`
mod WholeTables
-- the names of the built-in functions by their length: `Builtin::read`
mod BuiltinNames
-- ---- plain forms
-- where a chain of operators ends, and how deep its left operands are: `show`, `copy_phrase`
mod ChainOperands
-- plain forms that are equal part by part: `same_phrase`
mod EqualPlainPhrases
-- phrases of different categories, whose plain forms differ: `same_phrase`
mod UnlikePhrases
-- expressions of different variants, whose plain forms differ: `same_phrase`
mod UnlikeExprs
-- ---- bytes that are put in turn
-- a text in parentheses behind a name: `show` of calls, subscripts and sizes
mod ParenthesizedTexts
-- bytes that are counted: `shown_len`
mod CountedBytes
-- a number with its sign: `put_number`
mod NegativeNumbers
-- quotes that are doubled: `put_quoted`
mod DoubledQuotes
-- ---- canonical texts
-- the text of a value that is known in another way: `show`
mod EqualShown
-- the text of a list, element by element: `show` of lists and arguments
mod JoinedTexts
-- the text of a chain of operators, half by half: `show` of expressions
mod ChainTexts
-- ---- the law `canonical_texts_show`
-- texts that begin and end with a byte of a token
mod SolidTexts
-- what is known of the names and constants among the tokens of a text
mod FineTokens
-- each phrase that such tokens are has such a text
mod ShownPhrases
-- a trimmed text has no blank at its ends: comments
mod TrimmedEnds
-- the law `canonical_texts_show` itself, from these
mod ShownTexts
-- ---- copies
-- a chain that is taken apart and put together again: `copy_phrase`
mod LinkedChains
-- ---- texts of arguments and comments
-- a blank at a text's end is left out: `trimmed`
mod TrimmedTexts
-- one digit more: `numeral_value`
mod Numerals
