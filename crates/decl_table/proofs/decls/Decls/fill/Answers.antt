use Rattle.std.proofs.Common.{◌∙◌, ap}
use Rattle.template_tree.specs.Checks.ProgramMaps.{items_in}
use Rattle.decl_table.specs.PlainDecls.{slot_of}
use Rattle.decl_table.proofs.decls.Decls.fill.Goals as goal

pub returns : goal.returns
returns c = record {
  items_are = λ slot. ap (λ m. items_in m slot) c.in_ok-take_names.ensures.items ∙ c.in_ok-take_all.ensures.items slot;
  headings_are = λ name. ap (slot_of name) c.in_ok-take_names.ensures.headings ∙ c.in_ok-take_all.ensures.headings name;
  uses_are = c.in_ok-take_names.ensures.uses;
  names_are = c.in_ok-take_names.ensures.names;
}
