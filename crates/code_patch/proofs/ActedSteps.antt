-- One step of a prepared edit, made in the list of kept nodes and in the lengths of their codes, by what it does.
use Rattle.std.proofs.Common.{◌≡◌, ℕ, ◌+◌, ◌-◌, ◌<◌, ◌≤◌, [], ◌∷◌, length, map, min, sum, ap, sym, subst, ◌∙◌, arith}
use Rattle.std.specs.Prelude.{slice_set}
use Rattle.std.specs.List.{insert}
use Rattle.prefix_sums.specs.PlainPrefixSums.{PlainPrefixSums, with_number_inserted, with_number_removed, with_number_set}
use Rattle.plcs_code.specs.BlockLimit.{most_instrs}
use Rattle.code_patch.specs.declared.code_edit.Act.{Act}
use Rattle.code_patch.specs.CodeEdit.{code_added}
use Rattle.code_patch.specs.CodeForest.{kept_lengths, PlainCodeNode}
use Rattle.code_patch.specs.Private.ActedLists.{CanAct, IsActed}
use Rattle.code_patch.specs.Private.PlainCodeNode.{PlainCodeNodes, code_forest, kept_length, with_code_set, with_kept_inserted, with_kept_removed}
use Rattle.code_patch.specs.Private.PlainSteps.{after_act, room_acted}
use Rattle.code_patch.proofs.ActedNodes.{insert_short, numbers_insert, numbers_remove, numbers_set, set_short}
use Rattle.code_patch.proofs.GivenWay.{forest_insert, forest_remove}

-- two lists have room for so many more together as one of them, if it has less
rooms : (a b c d : ℕ) → a ≡ c → b ≡ d → min a b ≡ min c d
rooms a b c d one other = (λ i. min (one i) (other i))

-- ---- a node is another one then

module _ {W : Type 0} (act : Act W) (stays : (spare : ℕ) → room_acted act spare ≡ spare) (k : ℕ) (node : PlainCodeNode)
    (old new : PlainCodeNodes) (lengths numbers : PlainPrefixSums)
    (are : lengths.numbers ≡ map kept_length old.items)
    (is : code_forest (slice_set old.items k node) ≡ after_act k act (code_forest old.items)) where
  -- the lengths stay within what they may be
  pub set_fits : sum (kept_lengths (after_act k act (code_forest old.items))) ≤ most_instrs
      → sum (slice_set lengths.numbers k (kept_length node)) ≤ most_instrs
  set_fits short = set_short old.items lengths.numbers k are node (after_act k act (code_forest old.items)) is short

  -- the list and the lengths then
  pub set_made : new ≡ with_code_set old k node → numbers ≡ with_number_set lengths k (kept_length node)
      → IsActed act k old new lengths numbers
  set_made nodes sums =
      record {
        items = ap (λ (l : PlainCodeNodes). code_forest l.items) nodes ∙ is;
        spare =
            rooms new.spare numbers.spare old.spare lengths.spare (ap (λ (l : PlainCodeNodes). l.spare) nodes)
            (ap (λ (l : PlainPrefixSums). l.spare) sums)
            ∙ sym (stays (min old.spare lengths.spare));
        lengths =
            ap (λ (l : PlainPrefixSums). l.numbers) sums ∙ numbers_set old.items lengths.numbers k are node
            ∙ sym (ap (λ (l : PlainCodeNodes). map kept_length l.items) nodes);
      }

-- ---- a node comes, or goes

-- the lengths stay within what they may be
pub add_fits : (k : ℕ) (node : PlainCodeNode) (old new : PlainCodeNodes) (lengths numbers : PlainPrefixSums)
    → lengths.numbers ≡ map kept_length old.items → k ≤ length old.items
    → sum (kept_lengths (code_added (code_forest (node ∷ [])) k (code_forest old.items))) ≤ most_instrs
    → sum (insert lengths.numbers k (kept_length node)) ≤ most_instrs
add_fits k node old new lengths numbers are within short =
    insert_short old.items lengths.numbers k are node (code_added (code_forest (node ∷ [])) k (code_forest old.items))
    (forest_insert k old.items node within) short

module _ {W : Type 0} (k : ℕ) (node : PlainCodeNode) (old new : PlainCodeNodes) (lengths numbers : PlainPrefixSums)
    (are : lengths.numbers ≡ map kept_length old.items) where
  pub add_made : k ≤ length old.items → new ≡ with_kept_inserted old k node
      → numbers ≡ with_number_inserted lengths k (kept_length node) → IsActed {W = W} (Act.Add node) k old new lengths numbers
  add_made within nodes sums =
      let less : min (old.spare - 1) (lengths.spare - 1) ≡ min old.spare lengths.spare - 1 = omega arith in
      record {
        items = ap (λ (l : PlainCodeNodes). code_forest l.items) nodes ∙ forest_insert k old.items node within;
        spare =
            rooms new.spare numbers.spare (old.spare - 1) (lengths.spare - 1) (ap (λ (l : PlainCodeNodes). l.spare) nodes)
            (ap (λ (l : PlainPrefixSums). l.spare) sums)
            ∙ less;
        lengths =
            ap (λ (l : PlainPrefixSums). l.numbers) sums ∙ numbers_insert old.items lengths.numbers k are node
            ∙ sym (ap (λ (l : PlainCodeNodes). map kept_length l.items) nodes);
      }

  pub drop_made : k < length old.items → new ≡ with_kept_removed old k → numbers ≡ with_number_removed lengths k
      → IsActed {W = W} Act.Drop k old new lengths numbers
  drop_made within nodes sums =
      let more : min (old.spare + 1) (lengths.spare + 1) ≡ min old.spare lengths.spare + 1 = omega arith in
      record {
        items = ap (λ (l : PlainCodeNodes). code_forest l.items) nodes ∙ forest_remove k old.items within;
        spare =
            rooms new.spare numbers.spare (old.spare + 1) (lengths.spare + 1) (ap (λ (l : PlainCodeNodes). l.spare) nodes)
            (ap (λ (l : PlainPrefixSums). l.spare) sums)
            ∙ more;
        lengths =
            ap (λ (l : PlainPrefixSums). l.numbers) sums ∙ numbers_remove old.items lengths.numbers k are
            ∙ sym (ap (λ (l : PlainCodeNodes). map kept_length l.items) nodes);
      }

-- ---- a step that is told by what it does

-- what one step makes the same step makes
pub acted_as : {W : Type 0} (step act : Act W) (is : step ≡ act) (k : ℕ) (old new : PlainCodeNodes) (lengths numbers : PlainPrefixSums)
    → IsActed act k old new lengths numbers → IsActed step k old new lengths numbers
acted_as {W} step act is k old new lengths numbers made = subst (λ (a : Act W). IsActed a k old new lengths numbers) (sym is) made

-- and what can be done by one can be done by the other
pub can_act_as : {W : Type 0} (step act : Act W) (is : step ≡ act) (k : ℕ) (list : PlainCodeNodes) (sums : PlainPrefixSums)
    → CanAct step k list sums → CanAct act k list sums
can_act_as {W} step act is k list sums can = subst (λ (a : Act W). CanAct a k list sums) is can
