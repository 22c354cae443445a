use Rattle.std.proofs.Common.{[], ◌∷◌, ap, sym}
use Rattle.plcs_code.specs.Private.PutInstr.{put_instr}
use Rattle.plcs_code.proofs.LaidLists.{counted}
use Rattle.plcs_code.proofs.Laying.{lays_append, lays_same}
use Rattle.plcs_code.proofs.lay_pieces.lay_listed.Goals as goal

pub returns : goal.returns
returns g c =
    lays_append c.lay_exprs.ensures
    (lays_same (ap (λ n. put_instr c.args.skip n ∷ []) (sym (counted c.args.exprs.now))) c.put_counted.ensures)
