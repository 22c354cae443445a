use Rattle.template_tree.proofs.listing_laws.listing_splits_in_lines.Goals as goal
use Rattle.template_tree.proofs.Listings.PrintableLines.{listing_splits}

pub returns : goal.returns
returns c = listing_splits c.canonical_texts_show.ensures
