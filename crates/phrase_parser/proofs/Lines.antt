-- Parts of lines, and where they end.
-- `part_ends_at_divider`, `no_keyword_begins_part`: what holds at each token holds where a phrase begins
pub mod TextFronts
-- `part_ends_at_divider`: texts without a divider, put together
pub mod DividedTexts
-- `part_ends_at_divider`: ` TO ` and ` BY ` in expressions
pub mod DividedExprs
-- `part_has_no_colon`: phrases of all categories but comments
pub mod DividedPhrases
-- `part_ends_at_divider`: how each divider begins
pub mod DividerWords
-- `part_ends_at_divider`, `divided_parts_tell`, `cut_texts_join`
pub mod LineParts
-- the clause of `cut_at`
pub mod CutLines
-- `no_keyword_begins_part`
pub mod KeywordFronts
-- `part_has_no_colon`
pub mod ColonFreeParts
-- `divided_parts_tell` serves each line that has several parts
pub mod LineExamples
