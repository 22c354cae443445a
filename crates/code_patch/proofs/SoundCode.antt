-- What is kept of a tree is sound: its slots are those of the tree, each of which stands once, and the steps of each
-- node's own code end at places of the node's slot.
use Rattle.std.proofs.Common.{◌≡◌, ℕ, ◌+◌, ◌≤◌, refl, ap, sym, subst, ◌∙◌, arith}
use Rattle.std.specs.Prelude.{◌==◌, if◌then◌else◌}
use Rattle.plcs_base.specs.Mark.{MarkMap}
use Rattle.plcs_base.specs.Scope.{ItemMap}
use Rattle.template_tree.specs.Programs.PlainTree.{Forest}
use Rattle.template_tree.specs.Programs.Slots.{times}
use Rattle.plcs_code.specs.OwnCode.{OwnStepsEndInSlot}
use Rattle.code_patch.specs.SoundCode.{times_kept, OwnSteps, AreSound}
use Rattle.code_patch.specs.CodeEdit.{roomless_code}
use Rattle.code_patch.specs.CodeForest.{CodeForest, kept_code}

-- ---- slots

times_in_program : (marks : MarkMap) (items : ItemMap) (slot : ℕ) (program : Forest) → times_kept slot (kept_code marks items program) ≡ times slot program
times_in_program marks items slot Forest.nil = refl
times_in_program marks items slot (Forest.cons label inner rest) =
    (λ i. (if label.slot == slot then 1 else 0) + (times_in_program marks items slot inner i + times_in_program marks items slot rest i))

times_roomless : (slot : ℕ) (nodes : CodeForest) → times_kept slot (roomless_code nodes) ≡ times_kept slot nodes
times_roomless slot CodeForest.nil = refl
times_roomless slot (CodeForest.cons own spare inner rest) =
    (λ i. (if own.slot == slot then 1 else 0) + (times_roomless slot inner i + times_roomless slot rest i))

-- ---- steps

steps_kept : OwnStepsEndInSlot → (marks : MarkMap) (items : ItemMap) (program : Forest) → OwnSteps (kept_code marks items program)
steps_kept stay marks items Forest.nil = tt
steps_kept stay marks items (Forest.cons label inner rest) =
    let own = stay marks items label in
    (own.0, own.1, steps_kept stay marks items inner, steps_kept stay marks items rest)

steps_roomless : (nodes : CodeForest) → OwnSteps (roomless_code nodes) → OwnSteps nodes
steps_roomless CodeForest.nil are = tt
steps_roomless (CodeForest.cons own spare inner rest) are =
    (are.0, are.1, steps_roomless inner are.2, steps_roomless rest are.3)

-- ---- the whole

pub sound_kept : OwnStepsEndInSlot → (marks : MarkMap) (items : ItemMap) (program : Forest) (kept : CodeForest)
    → ((slot : ℕ) → times slot program ≤ 1) → roomless_code kept ≡ kept_code marks items program → AreSound kept
sound_kept stay marks items program kept once is =
    record {
      once = λ slot.
          let same : times_kept slot kept ≡ times slot program =
          sym (times_roomless slot kept) ∙ ap (times_kept slot) is ∙ times_in_program marks items slot program in
          omega (arith, same, once slot);
      steps = steps_roomless kept (subst OwnSteps (sym is) (steps_kept stay marks items program));
    }

-- kept nodes that are the same but for room
pub times_alike : (slot : ℕ) (one other : CodeForest) → roomless_code one ≡ roomless_code other → times_kept slot one ≡ times_kept slot other
times_alike slot one other same = sym (times_roomless slot one) ∙ ap (times_kept slot) same ∙ times_roomless slot other

steps_roomy : (nodes : CodeForest) → OwnSteps nodes → OwnSteps (roomless_code nodes)
steps_roomy CodeForest.nil are = tt
steps_roomy (CodeForest.cons own spare inner rest) are = (are.0, are.1, steps_roomy inner are.2, steps_roomy rest are.3)

pub steps_alike : (one other : CodeForest) → roomless_code one ≡ roomless_code other → OwnSteps one → OwnSteps other
steps_alike one other same are = steps_roomless other (subst OwnSteps same (steps_roomy one are))

-- a slot stands as often among what is kept as in the program
pub times_of : (marks : MarkMap) (items : ItemMap) (slot : ℕ) (kept : CodeForest) (program : Forest)
    → roomless_code kept ≡ kept_code marks items program → times_kept slot kept ≡ times slot program
times_of marks items slot kept program is =
    sym (times_roomless slot kept) ∙ ap (times_kept slot) is ∙ times_in_program marks items slot program
