-- A value that is handed out once something is done with it.
use Rattle.std.proofs.Common.{◌≡◌, ap, ◌∙◌, sym, subst}
use Rattle.std.specs.Prelude.{IfOk, OnOk, Result, Ok, Err}
use Rattle.std.specs.Result.{result_and}
use Rattle.decl_table.proofs.OkAnswers.{comes_ok}

-- what holds, holds where it was done
pub on_ok : {D E : Type 0} (done : Result D E) {P : Type 0} → P → OnOk done P
on_ok (Ok d) holds = holds
on_ok (Err e) holds = tt

-- what holds of the value where it was done, holds of what is handed out
pub handed : {D T E : Type 0} (done : Result D E) (value : T) (result : Result T E) (P : T → Type 0)
    → result ≡ result_and done (Ok value) → OnOk done (P value) → IfOk result P
handed done value result P is holds = subst (λ r. IfOk r P) (sym is) (comes_ok done value P (P value) (λ p. p) holds)

-- and where the value is known as another one
pub handed_out : {D T E : Type 0} (done : Result D E) (value made : T) (result : Result T E) (P : T → Type 0) → value ≡ made
    → result ≡ result_and done (Ok value) → OnOk done (P made) → IfOk result P
handed_out done value made result P same is holds = handed done made result P (is ∙ ap (λ v. result_and done (Ok v)) same) holds
