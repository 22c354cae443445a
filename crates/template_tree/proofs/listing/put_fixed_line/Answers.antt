use Rattle.std.proofs.Common.{sym, ap, option_map}
use Rattle.plcs_base.specs.Put.{puts_nothing}
use Rattle.plcs_base.specs.Putting.{puts_same}
use Rattle.template_tree.specs.Listings.Line.{fixed_line}
use Rattle.template_tree.specs.Listings.Listing.{bytes_of_lines}
use Rattle.template_tree.proofs.listing.put_fixed_line.Goals as goal

pub returns-in-Some : goal.returns-in-Some
returns-in-Some g c =
    puts_same (ap (λ text. bytes_of_lines (fixed_line c.args.level (option_map (λ bytes. bytes.now) text))) (sym c.in-Some.is))
    c.put_text_line.ensures

pub returns-in_default : goal.returns-in_default
returns-in_default g c =
    puts_same (ap (λ text. bytes_of_lines (fixed_line c.args.level (option_map (λ bytes. bytes.now) text))) (sym c.in_default.is))
    puts_nothing
