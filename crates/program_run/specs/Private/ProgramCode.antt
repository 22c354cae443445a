-- The code of the program that is run.
use Rattle.std.specs.Prelude.{◌≡◌}
use Rattle.plcs_base.specs.Mark.{MarkMap}
use Rattle.plcs_base.specs.Scope.{ItemMap}
use Rattle.plcs_code.specs.Gen.{Gen, PlainCode}
use Rattle.plcs_code.specs.ProgramCode.{program_code}
use Rattle.template_tree.specs.Checks.ProgramMaps.{MarksTell, ScopeTells}
use Rattle.template_tree.specs.Programs.PlainTree.{PlainTree}

-- the code is that of the tree, and was made by marks and effective items that tell of it
pub record IsCodeOf (tree : PlainTree) (code : PlainCode) : Type 0 where
  pub marks : MarkMap
  pub items : ItemMap
  pub marks_tell : MarksTell marks tree.items
  pub items_tell : ScopeTells items tree.items
  pub generated : code ≡ Gen marks items tree.items
  pub own : code ≡ program_code tree.items
