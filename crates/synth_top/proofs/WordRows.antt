-- Words of the command and what they give, written out.
use Rattle.std.proofs.Common.{◌≡◌, [], ◌∷◌, Some, None, refl, codes}
use Rattle.synth_top.specs.Given.{given_in, values_in}
use Rattle.synth_top.specs.Number.{number_in_digits}
use Rattle.synth_top.specs.Task.{task_of}
use Rattle.synth_top.specs.Task.PlainTask.{Make}

pub rows_and_program : given_in (codes "--rows" ∷ codes "30" ∷ codes "P" ∷ []) ≡
    Some (record {
      rows = Some (codes "30");
      cols = None;
      keys = None;
      input = None;
      make = None;
      program = Some (codes "P");
    })
unfolding values_in
rows_and_program = refl

pub twice : given_in (codes "--rows" ∷ codes "30" ∷ codes "--rows=30" ∷ []) ≡ None
unfolding values_in
twice = refl

pub behind_the_end : given_in (codes "--input=-x=y" ∷ codes "--" ∷ codes "--rows" ∷ []) ≡
    Some (record {
      rows = None;
      cols = None;
      keys = None;
      input = Some (codes "-x=y");
      make = None;
      program = Some (codes "--rows");
    })
unfolding values_in
behind_the_end = refl

pub hyphened : given_in (codes "--rows" ∷ codes "-5" ∷ []) ≡ None
unfolding values_in
hyphened = refl

-- the word that asks for a program to be made stands alone; behind it `--` alone may stand
pub make_alone : task_of (codes "--make" ∷ codes "2" ∷ codes "--" ∷ []) ≡ Some (Make 2)
unfolding task_of values_in number_in_digits
make_alone = refl

pub make_with_rows : task_of (codes "--make" ∷ codes "2" ∷ codes "--rows" ∷ codes "24" ∷ []) ≡ None
unfolding task_of values_in number_in_digits
make_with_rows = refl

pub make_too_many : task_of (codes "--make=2001" ∷ []) ≡ None
unfolding task_of values_in number_in_digits
make_too_many = refl
