-- In each row of the table of templates the lists are told apart by the sorts of their items.
use Rattle.std.specs.Prelude.{refl}
use Rattle.plcs_grammar.specs.declared.node_kind.NodeKind.{NodeKind}
use Rattle.plcs_grammar.specs.declared.node_kind.NodeKind.TheVariants.{DeclarationHole, StatementHole, ProcedureHole, Main, Assign, Filled}
use Rattle.plcs_grammar.specs.declared.template.Template.{Template}
use Rattle.plcs_grammar.specs.declared.template.Template.TheVariants.{Fixed, Bit, Char, If, IfElse, While, For, Until, Group, Get, Put, PutSkip, Call, Return, Comment, Proc, ProcP}
use Rattle.plcs_grammar.specs.Template.{procedure_sections, program_sections, row_of, template_row}
use Rattle.template_tree.specs.Private.Apart.{AreApart}

block_apart : AreApart procedure_sections
block_apart = ((refl, refl), ((refl, refl), tt))

template_apart : (template : Template) → AreApart (template_row template).sections
template_apart Fixed = tt
template_apart Bit = tt
template_apart Char = tt
template_apart If = (tt, tt)
template_apart IfElse = (tt, (tt, tt))
template_apart While = ((refl, refl), tt)
template_apart For = ((refl, refl), tt)
template_apart Until = ((refl, refl), tt)
template_apart Group = ((refl, refl), tt)
template_apart Get = tt
template_apart Put = tt
template_apart PutSkip = tt
template_apart Call = tt
template_apart Return = tt
template_apart Comment = ((refl, refl), tt)
template_apart Proc = block_apart
template_apart ProcP = block_apart

-- the lists in a node
pub row_apart : (kind : NodeKind) → AreApart (row_of kind).sections
row_apart DeclarationHole = tt
row_apart StatementHole = tt
row_apart ProcedureHole = tt
row_apart Main = block_apart
row_apart Assign = tt
row_apart (Filled template) = template_apart template

-- the list of procedures
pub program_apart : AreApart program_sections
program_apart = (tt, ((refl, refl), tt))
