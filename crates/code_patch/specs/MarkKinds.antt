-- The kinds of marks, told apart by their numbers.
use Rattle.std.specs.Prelude.{ℕ, ◌==◌, Bool}
use Rattle.plcs_base.specs.declared.mark.MarkKind.{MarkKind}

-- the number of a kind of marks, in the order in which they are declared
abbrev pub mark_number : MarkKind → ℕ
mark_number MarkKind.Undeclared = 0
mark_number MarkKind.TypeMismatch = 1
mark_number MarkKind.NotArray = 2
mark_number MarkKind.NeedsSubscript = 3
mark_number MarkKind.Duplicate = 4
mark_number MarkKind.UnknownProcedure = 5
mark_number MarkKind.WrongCount = 6
mark_number MarkKind.ArgumentType = 7
mark_number MarkKind.ParameterUndeclared = 8
mark_number MarkKind.TooManyCells = 9
mark_number MarkKind.Reserved = 10

-- whether two kinds of marks are the same
abbrev pub is_same_kind : (one other : MarkKind) → Bool
is_same_kind one other = mark_number one == mark_number other
