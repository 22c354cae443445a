use Rattle.plcs_grammar.specs.Template.{program_sections}
use Rattle.unparse_layout.proofs.LineNumbers.{bare_lines}
use Rattle.unparse_layout.proofs.line_laws.owned_lines_are_lines.Goals as goal

pub returns : goal.returns
returns c = λ items. bare_lines 0 0 program_sections items
