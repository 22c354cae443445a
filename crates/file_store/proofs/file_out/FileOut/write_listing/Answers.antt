use Rattle.template_tree.specs.Listings.Listing.{Listing}
use Rattle.file_store.proofs.Sending.{written_more}
use Rattle.file_store.proofs.file_out.FileOut.write_listing.Goals as goal

pub returns-clause-written : goal.returns-clause-written
returns-clause-written g c =
    written_more _ _ _ (Listing c.args.tree.now.items) c.put_listing.ensures.sent c.flush.ensures.sent
    c.requires.none c.requires.fine c.flush.ensures.none
