use Rattle.std.proofs.Common.{w16, sym, ◌∙◌, arith, eqb-true}
use Rattle.std.proofs.lemmas.Bool.{not-false}
use Rattle.std.proofs.lemmas.Simd.{length-chunk, bitmask_splat, none_from_empty_mask}
use lib.Lanes.{chunk}
use Rattle.lane_rows.proofs.CellLanes.{unequal}
use Rattle.lane_rows.proofs.cell_rows.are_blank.Goals as goal

pub returns : goal.returns
returns c none k from to =
    let row = c.args.a.now in
    let at = c.args.at in
    let mask = bitmask_splat w16 unequal (chunk at 32 row) 32 32 (length-chunk at 32 row c.requires) (omega arith) in
    let empty = sym mask ∙ eqb-true _ 0 none in
    eqb-true _ _ (not-false _ (none_from_empty_mask (λ x. unequal x 32) row at 32 0 c.requires empty k from to))
