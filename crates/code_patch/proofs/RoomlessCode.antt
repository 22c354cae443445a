-- The room of kept nodes plays no part in the invariant of a code tree.
use Rattle.std.proofs.Common.{◌≡◌, ℕ, ap, sym, ◌∙◌, arith}
use Rattle.std.specs.FinMap.{from_entries}
use Rattle.std.specs.Prelude.{List}
use Rattle.code_patch.specs.declared.code_tree.CodeTree.TheInside.{Inside}
use Rattle.code_patch.specs.SoundCode.{times_kept, AreSound}
use Rattle.code_patch.specs.ItemNames.{NumberMap, numbers_by_name, item_numbers}
use Rattle.code_patch.specs.CodeEdit.{PlainCodeTree, roomless_code}
use Rattle.code_patch.specs.CodeForest.{CodeForest, kept_lengths}
use Rattle.code_patch.specs.Private.CodeTreeView.{IsCodeTreeRight, code_tree_seen}
use Rattle.code_patch.specs.Private.KeptPaths.{root_of}
use Rattle.code_patch.proofs.NameMaps.{numbers_roomless}
use Rattle.code_patch.proofs.SoundCode.{steps_alike, times_alike}
use Rattle.code_patch.proofs.ToldCode.{roomless_lengths}

module _ (one other : CodeForest) (same : roomless_code one ≡ roomless_code other) where
  pub numbers_alike : item_numbers one ≡ item_numbers other
  numbers_alike =
      ap (λ (es : List (List ℕ × ℕ)). let m : NumberMap = from_entries es in m)
      (sym (numbers_roomless 0 one) ∙ ap (numbers_by_name 0) same ∙ numbers_roomless 0 other)

  pub lengths_alike : kept_lengths one ≡ kept_lengths other
  lengths_alike = sym (roomless_lengths one) ∙ ap kept_lengths same ∙ roomless_lengths other

  pub sound_alike : AreSound one → AreSound other
  sound_alike sound =
      record {
        once = λ slot.
            let often : times_kept slot other ≡ times_kept slot one = sym (times_alike slot one other same) in
            omega (arith, often, sound.once slot);
        steps = steps_alike one other same sound.steps;
      }

-- the root of a code tree in memory
pub root_is : {W : Type 0} (a : Inside W) (code : PlainCodeTree) → code_tree_seen a ≡ code → IsCodeTreeRight a → a.root ≡ root_of code
root_is {W} a code view right =
    (λ i. record { own = right.own i; spare = a.root.spare; inner = a.root.inner }) ∙ ap root_of view
