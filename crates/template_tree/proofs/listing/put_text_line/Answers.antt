use Rattle.plcs_base.specs.Putting.{puts_append, puts_behind}
use Rattle.template_tree.proofs.listing.put_text_line.Goals as goal

pub returns : goal.returns
returns g c = puts_behind (puts_append c.put_blanks.ensures c.put_bytes.ensures) c.put.ensures
