-- What holds of what a part of a step gives, if it gives something: each part hands on what holds to the one behind it.
-- What is stopped or undefined gives nothing, so nothing has to be shown of it. With these a step is followed part by
-- part, as it is defined.
use Rattle.std.specs.Prelude.{◌≡◌, refl, ℤ, Bool, Option, Some, None, option_and_then, option_map}
use Rattle.plcs_base.specs.declared.value.Value.{Value}
use Rattle.plcs_store.specs.Operator.{on_bit, on_number}
use Rattle.plcs_store.specs.Outcome.{Outcome, if_there, then_gives}

-- ---- what may be there

-- it holds of what is there, if something is
abbrev pub WhenThere : {A : Type 0} (F : A → Type 0) → Option A → Type 0
WhenThere F None = Unit {0}
WhenThere F (Some a) = F a

pub there_map : {A B : Type 0} (F : B → Type 0) (make : A → B) (found : Option A) → ((a : A) → found ≡ Some a → F (make a))
    → WhenThere F (option_map make found)
there_map F make None holds = tt
there_map F make (Some a) holds = holds a refl

pub there_then : {A B : Type 0} (F : B → Type 0) (make : A → Option B) (found : Option A) → ((a : A) → found ≡ Some a → WhenThere F (make a))
    → WhenThere F (option_and_then make found)
there_then F make None holds = tt
there_then F make (Some a) holds = holds a refl

pub there_follow : {A B : Type 0} (P : A → Type 0) (F : B → Type 0) (make : A → B) (found : Option A) → WhenThere P found
    → ((a : A) → P a → F (make a)) → WhenThere F (option_map make found)
there_follow P F make None holds next = tt
there_follow P F make (Some a) holds next = next a holds

-- ---- what a part gives

-- it holds of what the part gives, if it gives something
abbrev pub Makes : {A : Type 0} (F : A → Type 0) → Outcome A → Type 0
Makes F (Outcome.gives a) = F a
Makes F (Outcome.stops reason) = Unit {0}
Makes F Outcome.undefined = Unit {0}

pub makes_then : {A B : Type 0} (F : B → Type 0) (make : A → Outcome B) (part : Outcome A) → ((a : A) → Makes F (make a))
    → Makes F (then_gives part make)
makes_then F make (Outcome.gives a) holds = holds a
makes_then F make (Outcome.stops reason) holds = tt
makes_then F make Outcome.undefined holds = tt

pub makes_follow : {A B : Type 0} (P : A → Type 0) (F : B → Type 0) (make : A → Outcome B) (part : Outcome A) → Makes P part
    → ((a : A) → P a → Makes F (make a)) → Makes F (then_gives part make)
makes_follow P F make (Outcome.gives a) holds next = next a holds
makes_follow P F make (Outcome.stops reason) holds next = tt
makes_follow P F make Outcome.undefined holds next = tt

pub makes_there : {A : Type 0} (F : A → Type 0) (found : Option A) → WhenThere F found → Makes F (if_there found)
makes_there F None holds = tt
makes_there F (Some a) holds = holds

pub makes_number : {A : Type 0} (F : A → Type 0) (make : ℤ → Outcome A) (value : Value) → ((z : ℤ) → Makes F (make z))
    → Makes F (on_number make value)
makes_number F make (Value.Fixed z) holds = holds z
makes_number F make (Value.Bit b) holds = tt
makes_number F make (Value.Text x) holds = tt

pub makes_bit : {A : Type 0} (F : A → Type 0) (make : Bool → Outcome A) (value : Value) → ((b : Bool) → Makes F (make b))
    → Makes F (on_bit make value)
makes_bit F make (Value.Fixed z) holds = tt
makes_bit F make (Value.Bit b) holds = holds b
makes_bit F make (Value.Text x) holds = tt

pub there_weaken : {A : Type 0} (P F : A → Type 0) (found : Option A) → WhenThere P found → ((a : A) → P a → F a) → WhenThere F found
there_weaken P F None holds next = tt
there_weaken P F (Some a) holds next = next a holds
