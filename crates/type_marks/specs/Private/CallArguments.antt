-- The arguments of a call beside its parameters.
use Rattle.std.specs.Prelude.{Bool, false, List, Option, Some, None, Result, Ok, Err}
use Rattle.plcs_base.specs.declared.mark.MarkKind.{MarkKind}
use Rattle.plcs_base.specs.declared.value.Kind.{Kind}
use Rattle.template_tree.specs.Checks.KindTable.{same_kind}
use Rattle.template_tree.specs.Checks.Verdict.{arguments_offence}

-- whether the parameter of a call has a kind, and the argument beside it was found to be of that kind
abbrev pub is_taken : Option Kind → Result Kind MarkKind → Bool
is_taken (Some taken) (Ok kind) = same_kind taken kind
is_taken (Some taken) (Err offence) = false
is_taken None found = false

-- the first argument that its parameter doesn't take, where no argument has an offence of its own
abbrev pub arguments_judged : List (Option Kind) → Result (List Kind) MarkKind → Option MarkKind
arguments_judged parameters (Ok kinds) = arguments_offence parameters kinds
arguments_judged parameters (Err offence) = None
