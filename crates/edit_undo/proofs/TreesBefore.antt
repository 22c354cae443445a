-- The trees before the edits that are kept.
use Rattle.std.specs.Prelude.{◌≡◌, refl, ℕ, zero, suc, ◌-◌, nat_le, Bool, true, false, if◌then◌else◌, List, [], ◌∷◌}
use Rattle.std.proofs.Common.{ap, sym, ◌∙◌, subst}
use Rattle.template_tree.specs.Edits.Reversal.{Before}
use Rattle.template_tree.specs.Programs.PlainTree.{PlainTree}
use Rattle.edit_undo.specs.EarlierTree.{EarlierTree, RingFits, earlier_tree, kept_trees, trees_before}
use Rattle.edit_undo.specs.EditLimit.{kept_edits, latest_within, most_edits, most_taken_slots}
use Rattle.edit_undo.specs.declared.edit_record.EditRecord.{EditRecord}
use Rattle.edit_undo.proofs.LatestEdits.{weighed}

-- the weight of a tree before
abbrev pub tree_weight : EarlierTree → ℕ
tree_weight earlier = earlier.weight

-- where an edit is kept, so is the tree before it
tree_if : (b : Bool) (edit : EditRecord) (kept : List EditRecord) (tree : PlainTree) (others : List EarlierTree)
    → trees_before kept (Before tree edit.receipt edit.back) ≡ others
    → trees_before (if b then edit ∷ kept else []) tree ≡ (if b then earlier_tree edit tree ∷ others else [])
tree_if true edit kept tree others same = ap (λ trees. earlier_tree edit tree ∷ trees) same
tree_if false edit kept tree others same = refl

pub latest_trees : (most heaviest : ℕ) (edits : List EditRecord) (tree : PlainTree)
    → trees_before (latest_within weighed most heaviest edits) tree ≡ latest_within tree_weight most heaviest (trees_before edits tree)
latest_trees zero heaviest edits tree = refl
latest_trees (suc most) heaviest [] tree = refl
latest_trees (suc most) heaviest (edit ∷ edits) tree =
    let before = Before tree edit.receipt edit.back in
    let left = heaviest - weighed edit in
    tree_if (nat_le (weighed edit) heaviest) edit (latest_within weighed most left edits) tree
    (latest_within tree_weight most left (trees_before edits before)) (latest_trees most left edits before)

-- edits that are kept fit as all do
fit_if : (b : Bool) (edit : EditRecord) (kept : List EditRecord) (tree : PlainTree) → RingFits (edit ∷ kept) tree
    → RingFits (if b then edit ∷ kept else []) tree
fit_if true edit kept tree fits = fits
fit_if false edit kept tree fits = tt

pub latest_fit : (most heaviest : ℕ) (edits : List EditRecord) (tree : PlainTree) → RingFits edits tree
    → RingFits (latest_within weighed most heaviest edits) tree
latest_fit zero heaviest edits tree fits = tt
latest_fit (suc most) heaviest [] tree fits = tt
latest_fit (suc most) heaviest (edit ∷ edits) tree fits =
    let left = heaviest - weighed edit in
    fit_if (nat_le (weighed edit) heaviest) edit (latest_within weighed most left edits) tree
    (fits.0, latest_fit most left edits (Before tree edit.receipt edit.back) fits.1)

-- ---- an edit that is noted

-- with those that are kept of an edit and the others, the trees are kept that were before these
pub kept_before : (edit : EditRecord) (old new : List EditRecord) → new ≡ kept_edits (edit ∷ old) → (tree : PlainTree)
    → trees_before new tree ≡ kept_trees (earlier_tree edit tree ∷ trees_before old (Before tree edit.receipt edit.back))
kept_before edit old new is tree =
    ap (λ (edits : List EditRecord). trees_before edits tree) is ∙ latest_trees most_edits most_taken_slots (edit ∷ old) tree

pub kept_fit : (edit : EditRecord) (old new : List EditRecord) → new ≡ kept_edits (edit ∷ old) → (tree : PlainTree)
    → RingFits (edit ∷ old) tree → RingFits new tree
kept_fit edit old new is tree fits =
    subst (λ (edits : List EditRecord). RingFits edits tree) (sym is) (latest_fit most_edits most_taken_slots (edit ∷ old) tree fits)
