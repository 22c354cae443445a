-- Built-in functions.
use Rattle.std.specs.Prelude.{refl, [], ◌∷◌, true, codes}
use Rattle.plcs_grammar.specs.declared.builtin.Builtin.{Builtin}
use Rattle.plcs_store.specs.declared.fault_kind.FaultKind.{FaultKind}
use Rattle.plcs_store.specs.BuiltinValue.{builtin_value}
use Rattle.plcs_store.specs.Outcome.{Outcome}
use Rattle.plcs_store.proofs.Examples.Row.{Rows, bit, fault, long, neg, num, ok, text}

magnitudes : Rows
    ((builtin_value Builtin.Abs (num 5 ∷ []), ok (num 5))
    ∷ (builtin_value Builtin.Abs (neg 5 ∷ []), ok (num 5))
    ∷ (builtin_value Builtin.Abs (num 0 ∷ []), ok (num 0))
    ∷ (builtin_value Builtin.Abs (neg 2147483647 ∷ []), ok (num 2147483647))
    ∷ (builtin_value Builtin.Abs (neg 2147483648 ∷ []), fault FaultKind.FixedOverflow)
    ∷ (builtin_value Builtin.Abs (num 2147483647 ∷ []), ok (num 2147483647))
    ∷ (builtin_value Builtin.Abs [], Outcome.undefined)
    ∷ (builtin_value Builtin.Abs (bit true ∷ []), Outcome.undefined) ∷ [])
magnitudes = refl

residues : Rows
    ((builtin_value Builtin.Mod (neg 7 ∷ num 3 ∷ []), ok (num 2))
    ∷ (builtin_value Builtin.Mod (num 7 ∷ num 3 ∷ []), ok (num 1))
    ∷ (builtin_value Builtin.Mod (num 7 ∷ neg 3 ∷ []), ok (num 1))
    ∷ (builtin_value Builtin.Mod (neg 7 ∷ neg 3 ∷ []), ok (num 2))
    ∷ (builtin_value Builtin.Mod (neg 6 ∷ num 3 ∷ []), ok (num 0))
    ∷ (builtin_value Builtin.Mod (num 0 ∷ num 3 ∷ []), ok (num 0))
    ∷ (builtin_value Builtin.Mod (num 2 ∷ num 3 ∷ []), ok (num 2))
    ∷ (builtin_value Builtin.Mod (neg 1 ∷ num 1 ∷ []), ok (num 0))
    ∷ (builtin_value Builtin.Mod (neg 2147483648 ∷ neg 1 ∷ []), ok (num 0))
    ∷ (builtin_value Builtin.Mod (neg 2147483648 ∷ num 2147483647 ∷ []), ok (num 2147483646))
    ∷ (builtin_value Builtin.Mod (neg 1 ∷ neg 2147483648 ∷ []), ok (num 2147483647))
    ∷ (builtin_value Builtin.Mod (num 2147483647 ∷ neg 2147483648 ∷ []), ok (num 2147483647))
    ∷ (builtin_value Builtin.Mod (neg 2147483648 ∷ neg 2147483648 ∷ []), ok (num 0))
    ∷ (builtin_value Builtin.Mod (num 5 ∷ num 0 ∷ []), fault FaultKind.ZeroDivide)
    ∷ (builtin_value Builtin.Mod (num 0 ∷ num 0 ∷ []), fault FaultKind.ZeroDivide)
    ∷ (builtin_value Builtin.Mod (num 0 ∷ []), Outcome.undefined) ∷ [])
residues = refl

least_and_greatest : Rows
    ((builtin_value Builtin.Min (num 3 ∷ num 5 ∷ []), ok (num 3))
    ∷ (builtin_value Builtin.Min (num 5 ∷ num 3 ∷ []), ok (num 3))
    ∷ (builtin_value Builtin.Min (neg 5 ∷ num 3 ∷ []), ok (neg 5))
    ∷ (builtin_value Builtin.Min (neg 2147483648 ∷ num 2147483647 ∷ []), ok (neg 2147483648))
    ∷ (builtin_value Builtin.Min (num 4 ∷ num 4 ∷ []), ok (num 4))
    ∷ (builtin_value Builtin.Max (num 3 ∷ num 5 ∷ []), ok (num 5))
    ∷ (builtin_value Builtin.Max (num 5 ∷ num 3 ∷ []), ok (num 5))
    ∷ (builtin_value Builtin.Max (neg 5 ∷ neg 7 ∷ []), ok (neg 5))
    ∷ (builtin_value Builtin.Max (neg 2147483648 ∷ num 2147483647 ∷ []), ok (num 2147483647))
    ∷ (builtin_value Builtin.Max (num 4 ∷ num 4 ∷ []), ok (num 4))
    ∷ (builtin_value Builtin.Max (num 4 ∷ []), Outcome.undefined) ∷ [])
least_and_greatest = refl

lengths : Rows
    ((builtin_value Builtin.Length (text [] ∷ []), ok (num 0))
    ∷ (builtin_value Builtin.Length (text (codes "ab ") ∷ []), ok (num 3))
    ∷ (builtin_value Builtin.Length (long 256 ∷ []), ok (num 256))
    ∷ (builtin_value Builtin.Length (num 1 ∷ []), Outcome.undefined)
    ∷ (builtin_value Builtin.Length (text (codes "a") ∷ text (codes "b") ∷ []), Outcome.undefined) ∷ [])
lengths = refl

parts : Rows
    ((builtin_value Builtin.Substr (text (codes "hello") ∷ num 1 ∷ []), ok (text (codes "hello")))
    ∷ (builtin_value Builtin.Substr (text (codes "hello") ∷ num 2 ∷ []), ok (text (codes "ello")))
    ∷ (builtin_value Builtin.Substr (text (codes "hello") ∷ num 5 ∷ []), ok (text (codes "o")))
    ∷ (builtin_value Builtin.Substr (text (codes "hello") ∷ num 6 ∷ []), ok (text []))
    ∷ (builtin_value Builtin.Substr (text (codes "hello") ∷ num 0 ∷ []), fault FaultKind.StringRange)
    ∷ (builtin_value Builtin.Substr (text (codes "hello") ∷ num 7 ∷ []), fault FaultKind.StringRange)
    ∷ (builtin_value Builtin.Substr (text (codes "hello") ∷ neg 1 ∷ []), fault FaultKind.StringRange)
    ∷ (builtin_value Builtin.Substr (text (codes "hello") ∷ neg 2147483648 ∷ []), fault FaultKind.StringRange)
    ∷ (builtin_value Builtin.Substr (text (codes "hello") ∷ num 2147483647 ∷ []), fault FaultKind.StringRange)
    ∷ (builtin_value Builtin.Substr (text (codes "hello") ∷ num 1 ∷ num 5 ∷ []), ok (text (codes "hello")))
    ∷ (builtin_value Builtin.Substr (text (codes "hello") ∷ num 1 ∷ num 0 ∷ []), ok (text []))
    ∷ (builtin_value Builtin.Substr (text (codes "hello") ∷ num 6 ∷ num 0 ∷ []), ok (text []))
    ∷ (builtin_value Builtin.Substr (text (codes "hello") ∷ num 2 ∷ num 3 ∷ []), ok (text (codes "ell")))
    ∷ (builtin_value Builtin.Substr (text (codes "hello") ∷ num 5 ∷ num 1 ∷ []), ok (text (codes "o")))
    ∷ (builtin_value Builtin.Substr (text (codes "hello") ∷ num 1 ∷ num 1 ∷ []), ok (text (codes "h")))
    ∷ (builtin_value Builtin.Substr (text (codes "hello") ∷ num 1 ∷ num 6 ∷ []), fault FaultKind.StringRange)
    ∷ (builtin_value Builtin.Substr (text (codes "hello") ∷ num 6 ∷ num 1 ∷ []), fault FaultKind.StringRange)
    ∷ (builtin_value Builtin.Substr (text (codes "hello") ∷ num 0 ∷ num 1 ∷ []), fault FaultKind.StringRange)
    ∷ (builtin_value Builtin.Substr (text (codes "hello") ∷ num 7 ∷ num 0 ∷ []), fault FaultKind.StringRange)
    ∷ (builtin_value Builtin.Substr (text (codes "hello") ∷ num 1 ∷ neg 1 ∷ []), fault FaultKind.StringRange)
    ∷ (builtin_value Builtin.Substr (text (codes "hello") ∷ num 2 ∷ neg 1 ∷ []), fault FaultKind.StringRange)
    ∷ (builtin_value Builtin.Substr (text (codes "hello") ∷ neg 1 ∷ num 3 ∷ []), fault FaultKind.StringRange)
    ∷ (builtin_value Builtin.Substr (text (codes "hello") ∷ num 2147483647 ∷ num 2147483647 ∷ []), fault FaultKind.StringRange)
    ∷ (builtin_value Builtin.Substr (text (codes "hello") ∷ num 1 ∷ num 2147483647 ∷ []), fault FaultKind.StringRange)
    ∷ (builtin_value Builtin.Substr (text [] ∷ num 1 ∷ []), ok (text []))
    ∷ (builtin_value Builtin.Substr (text [] ∷ num 2 ∷ []), fault FaultKind.StringRange)
    ∷ (builtin_value Builtin.Substr (text [] ∷ num 1 ∷ num 0 ∷ []), ok (text []))
    ∷ (builtin_value Builtin.Substr (text [] ∷ num 1 ∷ num 1 ∷ []), fault FaultKind.StringRange)
    ∷ (builtin_value Builtin.Substr (long 256 ∷ num 257 ∷ []), ok (text []))
    ∷ (builtin_value Builtin.Substr (long 256 ∷ num 1 ∷ num 256 ∷ []), ok (long 256))
    ∷ (builtin_value Builtin.Substr (long 256 ∷ num 256 ∷ num 1 ∷ []), ok (long 1))
    ∷ (builtin_value Builtin.Substr (long 256 ∷ num 256 ∷ num 2 ∷ []), fault FaultKind.StringRange)
    ∷ (builtin_value Builtin.Substr (long 1 ∷ []), Outcome.undefined)
    ∷ (builtin_value Builtin.Substr (num 1 ∷ num 1 ∷ []), Outcome.undefined) ∷ [])
parts = refl

found : Rows
    ((builtin_value Builtin.Index (text (codes "banana") ∷ text (codes "an") ∷ []), ok (num 2))
    ∷ (builtin_value Builtin.Index (text (codes "banana") ∷ text (codes "ana") ∷ []), ok (num 2))
    ∷ (builtin_value Builtin.Index (text (codes "banana") ∷ text (codes "na") ∷ []), ok (num 3))
    ∷ (builtin_value Builtin.Index (text (codes "banana") ∷ text (codes "banana") ∷ []), ok (num 1))
    ∷ (builtin_value Builtin.Index (text (codes "banana") ∷ text (codes "a") ∷ []), ok (num 2))
    ∷ (builtin_value Builtin.Index (text (codes "banana") ∷ text (codes "b") ∷ []), ok (num 1))
    ∷ (builtin_value Builtin.Index (text (codes "banana") ∷ text (codes "nab") ∷ []), ok (num 0))
    ∷ (builtin_value Builtin.Index (text (codes "banana") ∷ text (codes "bananas") ∷ []), ok (num 0))
    ∷ (builtin_value Builtin.Index (text (codes "banana") ∷ text [] ∷ []), ok (num 0))
    ∷ (builtin_value Builtin.Index (text [] ∷ text (codes "a") ∷ []), ok (num 0))
    ∷ (builtin_value Builtin.Index (text [] ∷ text [] ∷ []), ok (num 0))
    ∷ (builtin_value Builtin.Index (text (codes "aab") ∷ text (codes "ab") ∷ []), ok (num 2))
    ∷ (builtin_value Builtin.Index (long 256 ∷ text (codes "y") ∷ []), ok (num 0))
    ∷ (builtin_value Builtin.Index (long 256 ∷ long 256 ∷ []), ok (num 1)) ∷ [])
found = refl
