-- What stops a run at a piece of code stops it in the tree's step, and for the same reason: a part that is needed is
-- empty, or marked.
use Rattle.std.specs.Prelude.{◌≡◌, refl, ℕ, ◌+◌, Bool, true, false, not, ◌||◌, if◌then◌else◌, [], ◌∷◌, Option, Some, None, is_none, is_some}
use Rattle.std.specs.FinMap.{get}
use Rattle.std.specs.List.{list_any}
use Rattle.std.proofs.Common.{sym, ◌⊎◌, inl, inr}
use Rattle.std.proofs.Math.Bool.{false≢true}
use Rattle.plcs_base.specs.Mark.{MarkMap}
use Rattle.plcs_grammar.specs.PlainPhrase.{PlainPhrase}
use Rattle.template_tree.specs.Checks.Mention.{phrase_at}
use Rattle.plcs_code.specs.Pieces.{has_marked_part, suspension}
use Rattle.plcs_code.specs.PlainInstr.{PlainInstr}
use Rattle.plcs_store.specs.declared.reason.Reason.{Reason}
use Rattle.plcs_store.specs.Spot.{halt_reason}

-- an instruction stops a run for this reason
abbrev pub Halts : PlainInstr → Reason → Type 0
Halts instr why =
    ((instr ≡ PlainInstr.suspend_placeholder) × (why ≡ Reason.Placeholder)) ⊎ ((instr ≡ PlainInstr.suspend_marked) × (why ≡ Reason.Marked))

-- a run isn't stopped at a piece that needs parts, or is: in code, and in the tree
abbrev pub Stops : Option PlainInstr → Option Reason → Type 0
Stops stop reason =
    ((stop ≡ None) × (reason ≡ None))
    ⊎ ((instr : PlainInstr) × (why : Reason) × (stop ≡ Some instr) × (reason ≡ Some why) × Halts instr why)

goes : Stops None None
goes = inl (refl, refl)

empty : Stops (Some PlainInstr.suspend_placeholder) (Some Reason.Placeholder)
empty = inr (PlainInstr.suspend_placeholder, Reason.Placeholder, refl, refl, inl (refl, refl))

marked : Stops (Some PlainInstr.suspend_marked) (Some Reason.Marked)
marked = inr (PlainInstr.suspend_marked, Reason.Marked, refl, refl, inr (refl, refl))

by_tests : (none other some : Bool) → none ≡ other → (marked same : Bool) → marked ≡ same
    → Stops (if none then Some PlainInstr.suspend_placeholder else (if marked then Some PlainInstr.suspend_marked else None))
    (if other then Some Reason.Placeholder else (if same then Some Reason.Marked else None))
by_tests true true some e marks same f = empty
by_tests true false some e marks same f = absurd (false≢true (sym e))
by_tests false true some e marks same f = absurd (false≢true e)
by_tests false false some e true true f = marked
by_tests false false some e true false f = absurd (false≢true (sym f))
by_tests false false some e false true f = absurd (false≢true f)
by_tests false false some e false false f = goes

-- whether the part of this number is marked
abbrev pub mark_of : MarkMap → (slot part : ℕ) → Bool
mark_of marks slot part = is_some (get marks (phrase_at slot part))

is_none_not : (part : Option PlainPhrase) → not (is_some part) ≡ is_none part
is_none_not None = refl
is_none_not (Some phrase) = refl

-- of the first part
pub first_stops : (marks : MarkMap) (slot : ℕ) (part : Option PlainPhrase)
    → Stops (suspension marks slot (part ∷ [])) (halt_reason (mark_of marks slot) (part ∷ []) (0 ∷ []))
first_stops marks slot None = empty
first_stops marks slot (Some phrase) = by_tests false false false refl (has_marked_part marks slot 0 (Some phrase ∷ [])) (list_any (mark_of marks slot) (0 ∷ [])) refl

pub first_of_four : (marks : MarkMap) (slot : ℕ) (a b c d : Option PlainPhrase)
    → Stops (suspension marks slot (a ∷ [])) (halt_reason (mark_of marks slot) (a ∷ (b ∷ (c ∷ (d ∷ [])))) (0 ∷ []))
first_of_four marks slot None b c d = empty
first_of_four marks slot (Some phrase) b c d =
    by_tests false false false refl (has_marked_part marks slot 0 (Some phrase ∷ [])) (list_any (mark_of marks slot) (0 ∷ [])) refl

-- of four parts
pub four_stops : (marks : MarkMap) (slot : ℕ) (a b c d : Option PlainPhrase)
    → Stops (suspension marks slot (a ∷ (b ∷ (c ∷ (d ∷ []))))) (halt_reason (mark_of marks slot) (a ∷ (b ∷ (c ∷ (d ∷ [])))) (0 ∷ (1 ∷ (2 ∷ (3 ∷ [])))))
four_stops marks slot None b c d = empty
four_stops marks slot (Some a) None c d = empty
four_stops marks slot (Some a) (Some b) None d = empty
four_stops marks slot (Some a) (Some b) (Some c) None = empty
four_stops marks slot (Some a) (Some b) (Some c) (Some d) =
    by_tests false false false refl (has_marked_part marks slot 0 (Some a ∷ (Some b ∷ (Some c ∷ (Some d ∷ [])))))
    (list_any (mark_of marks slot) (0 ∷ (1 ∷ (2 ∷ (3 ∷ []))))) refl

-- where four parts stop nothing, they are there and the first stops nothing
pub four_there : (marks : MarkMap) (slot : ℕ) (a b c d : Option PlainPhrase) → suspension marks slot (a ∷ (b ∷ (c ∷ (d ∷ [])))) ≡ None
    → suspension marks slot (a ∷ []) ≡ None
four_there marks slot None b c d e = e
four_there marks slot (Some a) None c d e = absurd (cc)
four_there marks slot (Some a) (Some b) None d e = absurd (cc)
four_there marks slot (Some a) (Some b) (Some c) None e = absurd (cc)
four_there marks slot (Some a) (Some b) (Some c) (Some d) e =
    by (mark_of marks slot 0) (has_marked_part marks slot (0 + 1) (Some b ∷ (Some c ∷ (Some d ∷ [])))) e
  where
    by : (own others : Bool) → (if own || others then Some PlainInstr.suspend_marked else None) ≡ None → (if own || false then Some PlainInstr.suspend_marked else None) ≡ None
    by true others e = e
    by false others e = refl
