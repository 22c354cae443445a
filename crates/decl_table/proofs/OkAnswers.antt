-- What an answer holds that is given where a call is Ok.
use Rattle.std.specs.Prelude.{IfOk, OnOk, Result, Ok, Err}
use Rattle.std.specs.Result.{result_and}

-- what follows from both
pub both_ok : {A E : Type 0} (r : Result A E) (P Q : Type 0) → OnOk r P → OnOk r Q → OnOk r (P × Q)
both_ok (Ok x) P Q p q = (p, q)
both_ok (Err e) P Q p q = p

-- what holds of the answer where something else does
pub ok_then : {A E : Type 0} (r : Result A E) (P Q : A → Type 0) → ((a : A) → P a → Q a) → IfOk r P → IfOk r Q
ok_then (Ok a) P Q f holds = f a holds
ok_then (Err e) P Q f holds = holds

-- the answer that comes with it
pub comes_ok : {A B E : Type 0} (r : Result A E) (b : B) (S : B → Type 0) (P : Type 0) → (P → S b) → OnOk r P → IfOk (result_and r (Ok b)) S
comes_ok (Ok x) b S P f holds = f holds
comes_ok (Err e) b S P f holds = holds
