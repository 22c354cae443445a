-- How many bytes of keys are taken at most, whatever the words.
use Rattle.std.proofs.Common.{◌≡◌, ◌≤◌, ℕ, Bool, true, false, List, Option, Some, None, refl, arith}
use Rattle.std.proofs.lemmas.Bool.{leb-true}
use Rattle.std.specs.Prelude.{IfSome, ◌&&◌, nat_le, if◌then◌else◌, option_and_then, option_map}
use Rattle.screen_window.specs.declared.limit.TheConstants.{FEWEST_ROWS, MOST_ROWS, FEWEST_COLS, MOST_COLS}
use Rattle.synth_top.specs.Given.{PlainGiven, given_in}
use Rattle.synth_top.specs.Number.{is_number, number_in_digits, value_of}
use Rattle.synth_top.specs.Options.{PlainOptions, count_given, is_name_given, options_with}
use Rattle.synth_top.specs.Task.{PlainTask, gives_no_option, task_by, task_of, task_with}
use Rattle.synth_top.specs.Task.PlainTask.{Edit, Make}

-- these options have no greater limit
abbrev pub IsLimited : PlainOptions → Type 0
IsLimited options = options.key_limit ≤ 1000000000

-- nor has this task
abbrev pub IsLimitedTask : PlainTask → Type 0
IsLimitedTask (Edit options) = IsLimited options
IsLimitedTask (Make number) = Unit {0}

-- what may be made of a value that may be there
and_then_all : {X Y : Type 0} (o : Option X) (f : X → Option Y) (P : Y → Type 0) → ((x : X) → IfSome (f x) P) → IfSome (option_and_then f o) P
and_then_all None f P all = tt
and_then_all (Some x) f P all = all x

and_then_some : {X Y : Type 0} (o : Option X) (f : X → Option Y) (Q : X → Type 0) (P : Y → Type 0) → IfSome o Q → ((x : X) → Q x → IfSome (f x) P)
    → IfSome (option_and_then f o) P
and_then_some None f Q P some all = tt
and_then_some (Some x) f Q P some all = all x some

tested : {X : Type 0} (test : Bool) (x : X) (P : X → Type 0) → (test ≡ true → P x) → IfSome (if test then Some x else None) P
tested true x P all = all refl
tested false x P all = tt

-- the last of tests that are all passed
last_passed : (tests last : Bool) → (tests && last) ≡ true → last ≡ true
last_passed true last passed = passed
last_passed false last passed = absurd (cc)

-- a text of digits is a number within the bound
number_limited : (most : ℕ) (word : List ℕ) → IfSome (number_in_digits most word) (λ n. n ≤ most)
unfolding number_in_digits
number_limited most word =
    tested (is_number most word) (value_of word) (λ n. n ≤ most) (λ is. leb-true (value_of word) most (last_passed _ (nat_le (value_of word) most) is))

-- a number that words give is in its range
count_limited : (least most usual : ℕ) (word : Option (List ℕ)) → usual ≤ most → IfSome (count_given least most usual word) (λ n. n ≤ most)
count_limited least most usual None within = within
count_limited least most usual (Some word) within =
    and_then_some (number_in_digits most word) (λ n. if nat_le least n then Some n else None) (λ n. n ≤ most) (λ n. n ≤ most) (number_limited most word)
    (λ n few. tested (nat_le least n) n (λ m. m ≤ most) (λ is. few))

-- whatever the words give
limited_with : (given : PlainGiven) → IfSome (options_with given) IsLimited
limited_with given =
    and_then_all (count_given FEWEST_ROWS MOST_ROWS 24 given.rows) _ IsLimited (λ rows.
    and_then_all (count_given FEWEST_COLS MOST_COLS 80 given.cols) _ IsLimited (λ cols.
    and_then_some (count_given 1 1000000000 1000000000 given.keys) _ (λ n. n ≤ 1000000000) IsLimited
    (count_limited 1 1000000000 1000000000 given.keys (omega arith))
    (λ keys few. tested (is_name_given given.program && is_name_given given.input) _ IsLimited (λ is. few))))

-- to edit with such options is a task
task_limited : (options : Option PlainOptions) → IfSome options IsLimited → IfSome (option_map Edit options) IsLimitedTask
task_limited None limited = tt
task_limited (Some options) limited = limited

-- nor takes the making of a program any
making_limited : (alone : Bool) (number : Option ℕ)
    → IfSome (if alone then option_map Make number else None) IsLimitedTask
making_limited true None = tt
making_limited true (Some number) = tt
making_limited false number = tt

-- by whether they ask for one
task_by_limited : (given : PlainGiven) (make : Option (List ℕ)) → IfSome (task_by given make) IsLimitedTask
task_by_limited given None = task_limited (options_with given) (limited_with given)
task_by_limited given (Some number) = making_limited (gives_no_option given) _

-- whatever the words ask for
pub limited : (words : List (List ℕ)) → IfSome (task_of words) IsLimitedTask
unfolding task_of
limited words = given_limited (given_in words) where
  given_limited : (given : Option PlainGiven) → IfSome (option_and_then task_with given) IsLimitedTask
  given_limited None = tt
  given_limited (Some given) = task_by_limited given given.make
