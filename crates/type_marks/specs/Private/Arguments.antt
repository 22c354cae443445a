-- The arguments of a built-in function, gone through one after the other.
use Rattle.std.specs.Prelude.{ℕ, Bool, true, if◌then◌else◌, List, ◌++◌, length, Option, Some, None, option_to_list, Result, Ok, Err}
use Rattle.plcs_base.specs.declared.mark.MarkKind.{MarkKind}
use Rattle.plcs_base.specs.declared.value.Kind.{Kind}
use Rattle.template_tree.specs.Checks.KindTable.{same_kind}
use Rattle.template_tree.specs.Checks.Verdict.{fit, is_count, then_found}
use Rattle.type_marks.specs.declared.kind_table.BuiltinRow.{BuiltinRow}

-- the kinds that a built-in function takes of its arguments, one after the other, with the one that it perhaps takes at
-- last
abbrev pub taken_of : BuiltinRow → List Kind
taken_of row = row.takes.now ++ option_to_list row.perhaps

-- whether the kind of the next argument of a built-in function is right where it takes this, or nothing
abbrev pub takes_kind : Option Kind → Kind → Bool
takes_kind None kind = true
takes_kind (Some wanted) kind = same_kind wanted kind

-- whether the kinds fit that are found in the arguments of a built-in function, once these are gone through, or the
-- offence that is found
abbrev pub fit_found : List Kind → Result (List Kind) MarkKind → Result Bool MarkKind
fit_found taken found = then_found found (λ kinds. Ok (fit taken kinds))

-- what is found in the call of a built-in function once its arguments were gone through: so many, whose kinds fit or
-- not
abbrev pub judged : BuiltinRow → ℕ → Result Bool MarkKind → Result Kind MarkKind
judged row count found =
    then_found found
    (λ fits.
    if is_count (length row.takes.now) row.perhaps count
    then (if fits then Ok row.gives else Err MarkKind.TypeMismatch) else Err MarkKind.WrongCount)
