-- The value of the limit: the definitions cite the code's constant, so a change of it is refused here.
use Rattle.std.specs.Prelude.{◌≡◌, refl}
use Rattle.unparse_layout.specs.LaidLine.{longest_line}

-- a line of the screen has at most 158 cells
longest_line_is : longest_line ≡ 158
longest_line_is = refl
