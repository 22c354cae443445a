use Rattle.file_store.specs.Private.Desk.{desk}
use Rattle.file_store.proofs.Sending.{all_kept, all_sent}
use Rattle.file_store.proofs.file_out.FileOut.put_listing.Goals as goal

pub returns-clause-sent : goal.returns-clause-sent
returns-clause-sent g c = all_sent _ (λ out. desk (g.F.Files.told out.files.now) (g.F.Files.begun out.files.now) out.wait out.fault)
    (λ a d b h. h.0) c.put_listing.ensures

pub returns-clause-files : goal.returns-clause-files
returns-clause-files g c = all_kept _ (λ out. out.files.ghost_name) (λ a d b h. h.1) c.put_listing.ensures
