use Rattle.file_store.proofs.LoadedFiles.{loads_only, misses_load, refuses_load}
use Rattle.file_store.proofs.loading.load.Goals as goal

pub returns-clause-only : goal.returns-clause-only
returns-clause-only g c = λ x items content spells deep many. loads_only c.line_laws.ensures _ _ x items _ content spells deep many c.load_listing.ensures.says

pub returns-clause-refused : goal.returns-clause-refused
returns-clause-refused g c = λ x refusal content refused. refuses_load c.line_laws.ensures _ _ x refusal _ content refused c.load_listing.ensures.says

pub returns-clause-missing : goal.returns-clause-missing
returns-clause-missing g c = λ none. misses_load _ _ _ none c.load_listing.ensures.says
