-- Rows of cells as plain data.
use Rattle.std.specs.Prelude.{ℕ, List, map, Vec}
use Rattle.std.specs.declared.alloc.Global.{Global}

-- the rows of cells that are kept, as plain data
abbrev pub plain_lines : Vec (Vec ℕ Global) Global → List (List ℕ)
plain_lines lines = map (λ line. line.items) lines.items
