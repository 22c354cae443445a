use Rattle.std.proofs.Common.{arith}
use Rattle.screen_window.proofs.cursor.+bytes_before.Goals as goal

pub bytes_before-behind-requires : goal.bytes_before-behind-requires
bytes_before-behind-requires t c =
    let whole = c.in-Some.ensures.cases.1 in
    (omega (arith, whole), omega (arith, whole, c.requires))

pub bytes_before-behind-requires-in-Part-2 : goal.bytes_before-behind-requires-in-Part-2
bytes_before-behind-requires-in-Part-2 t c =
    let whole = c.in-Some.ensures.cases.1 in
    (omega (arith, whole), omega (arith, whole, c.requires))
