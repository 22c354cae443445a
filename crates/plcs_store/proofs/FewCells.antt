-- `callers_wait`: a frame has no more cells than its procedure's effective items.
-- The variables of a frame have different names, and each has the cells of an item of its name; so item after item is
-- set against a variable, and none twice.
use Rattle.std.specs.Prelude.{◌≡◌, refl, ℕ, ◌+◌, ◌≤◌, Bool, true, false, cond, bytes_eq, if◌then◌else◌, List, [], ◌∷◌, length, sum_by, Option, Some, None, option_map, unwrap_or}
use Rattle.std.specs.List.{AllByRecursion, IsDistinct}
use Rattle.std.specs.Map.{keys_of}
use Rattle.std.proofs.Common.{ap, sym, ◌∙◌, arith}
use Rattle.std.proofs.Math.Bool.{false≢true}
use Rattle.std.proofs.lemmas.List.Sums.{sum_by-cons}
use Rattle.std.proofs.lemmas.Option.{none-some, same_Some}
use Rattle.std.proofs.lemmas.Slice.Eq.{bytes_eq-Decides}
use Rattle.plcs_base.specs.declared.declared.Declared.{Declared}
use Rattle.plcs_base.specs.declared.declared.ItemType.{ItemType}
use Rattle.template_tree.specs.Checks.Environment.{Items, cells, cells_in, cells_of, item_named, items_inside, procedure_at}
use Rattle.template_tree.specs.Programs.Limit.{most_cells}
use Rattle.template_tree.specs.Programs.PlainTree.{Forest, PlainNode}
use Rattle.plcs_store.specs.declared.variable.Variable.{Variable}
use Rattle.plcs_store.specs.CellAt.{Variables, variable_named}
use Rattle.plcs_store.specs.Fits.{AreVariables, declared_part, variable_part}
use Rattle.plcs_store.specs.StepLaws.{FittingCellsFew}
use Rattle.plcs_store.proofs.ItemLimits.{items_keep_limits}
use Rattle.plcs_store.proofs.KeptFit.FittingFrames.{fitting_frames, of_each}

-- ---- items without one

-- items without the first of a name
abbrev without : List ℕ → List Declared → List Declared
without name [] = []
without name (item ∷ items) = if bytes_eq name item.name then items else item ∷ without name items

without_cells : (name : List ℕ) (items : List Declared) (item : Declared) → item_named name items ≡ Some item
    → cells items ≡ cells_of item + cells (without name items)
without_cells name [] item e = absurd (none-some item e)
without_cells name (one ∷ items) item e = by (bytes_eq name one.name) e (without_cells name items item)
  where
    by : (here : Bool) → cond here (Some one) (item_named name items) ≡ Some item
        → (item_named name items ≡ Some item → cells items ≡ cells_of item + cells (without name items))
        → cells (one ∷ items) ≡ cells_of item + cells (if here then items else one ∷ without name items)
    by true found rest = sum_by-cons cells_of one items ∙ ap (λ (its : Declared). cells_of its + cells items) (same_Some one item found)
    by false found rest =
        let first = sum_by-cons cells_of one items in
        let others = rest found in
        let later = sum_by-cons cells_of one (without name items) in
        omega (arith, first, others, later)

without_other : (name other : List ℕ) (items : List Declared) (item : Declared) → bytes_eq other name ≡ false
    → item_named other items ≡ Some item → item_named other (without name items) ≡ Some item
without_other name other [] item differ e = e
without_other name other (one ∷ items) item differ e =
    by (bytes_eq name one.name) refl (bytes_eq other one.name) refl e (without_other name other items item differ)
  where
    by : (gone : Bool) → bytes_eq name one.name ≡ gone → (here : Bool) → bytes_eq other one.name ≡ here
        → cond here (Some one) (item_named other items) ≡ Some item
        → (item_named other items ≡ Some item → item_named other (without name items) ≡ Some item)
        → item_named other (if gone then items else one ∷ without name items) ≡ Some item
    by true g true h found rest =
        absurd (false≢true (sym differ ∙ ap (bytes_eq other) ((bytes_eq-Decides name one.name).0 g) ∙ h))
    by true g false h found rest = found
    by false g true h found rest = ap (λ (b : Bool). cond b (Some one) (item_named other (without name items))) h ∙ found
    by false g false h found rest = ap (λ (b : Bool). cond b (Some one) (item_named other (without name items))) h ∙ rest found

-- ---- variables

-- an item of the name has as many cells as the variable
record Told (items : List Declared) (name : List ℕ) (variable : Variable) : Type 0 where
  item : Declared
  named : item_named name items ≡ Some item
  as_many : length variable.cells ≡ cells_of item

not_named : (name : List ℕ) (variables : Variables) → AllByRecursion (λ other. bytes_eq name other ≡ false) (keys_of variables)
    → variable_named name variables ≡ None
not_named name [] all = refl
not_named name (one ∷ variables) all =
    ap (λ (b : Bool). cond b (Some one.1) (variable_named name variables)) all.0 ∙ not_named name variables all.1

abbrev cell_sum : Variables → ℕ
cell_sum variables = sum_by (λ named. length named.1.cells) variables

abbrev AllTold : List Declared → Variables → Type 0
AllTold items variables = (name : List ℕ) (variable : Variable) → variable_named name variables ≡ Some variable → Told items name variable

own_named : (name : List ℕ) (variable : Variable) (variables : Variables) → variable_named name ((name, variable) ∷ variables) ≡ Some variable
own_named name variable variables =
    ap (λ (b : Bool). cond b (Some variable) (variable_named name variables)) ((bytes_eq-Decides name name).1 refl)

others_told : (name : List ℕ) (own : Variable) (variables : Variables) (items : List Declared) → variable_named name variables ≡ None
    → AllTold items ((name, own) ∷ variables) → AllTold (without name items) variables
others_told name own variables items none told other variable found = by (bytes_eq other name) refl
  where
    by : (same : Bool) → bytes_eq other name ≡ same → Told (without name items) other variable
    by true e =
        absurd
        (none-some variable
        (sym none ∙ sym (ap (λ (n : List ℕ). variable_named n variables) ((bytes_eq-Decides other name).0 e)) ∙ found))
    by false e =
        let one = told other variable (ap (λ (b : Bool). cond b (Some own) (variable_named other variables)) e ∙ found) in
        record { item = one.item; named = without_other name other items one.item e one.named; as_many = one.as_many }

few_cells : (variables : Variables) (items : List Declared) → IsDistinct bytes_eq (keys_of variables) → AllTold items variables
    → cell_sum variables ≤ cells items
unfolding IsDistinct
few_cells [] items distinct told = omega arith
few_cells ((name, own) ∷ variables) items distinct told =
    let one = told name own (own_named name own variables) in
    let others =
    few_cells variables (without name items) distinct.1
    (others_told name own variables items (not_named name variables distinct.0) told) in
    let all = without_cells name items one.item one.named in
    let first : cell_sum ((name, own) ∷ variables) ≡ length own.cells + cell_sum variables =
    sum_by-cons (λ (named : List ℕ × Variable). length named.1.cells) (name, own) variables in
    let many = one.as_many in
    omega (arith, first, others, all, many)

-- ---- the variables of a procedure

told_level : (items : List Declared) (name : List ℕ) (variable : Variable) (found : Option Declared) → item_named name items ≡ found
    → Some (variable_part variable) ≡ option_map declared_part found → length variable.cells ≡ cells_in variable.size → Told items name variable
told_level items name variable None e same whole = absurd (none-some (variable_part variable) (sym same))
told_level items name variable (Some item) e same whole =
    record {
      item = item;
      named = e;
      as_many =
          whole ∙ ap (λ (part : ItemType × ℕ). cells_in part.1) (same_Some (variable_part variable) (declared_part item) same);
    }

are_told : (items : List Declared) (variables : Variables) → AreVariables items variables → AllTold items variables
are_told items variables are name variable found =
    told_level items name variable (item_named name items) refl (sym (ap (option_map variable_part) found) ∙ are.same name)
    (are.whole name variable found)

items_few : (program : Forest) (procedure : ℕ) → cells (Items program procedure) ≤ most_cells
items_few program procedure = by (procedure_at program procedure)
  where
    by : (found : Option PlainNode) → cells (unwrap_or (option_map (λ (n : PlainNode). items_inside n.inner) found) []) ≤ most_cells
    by None = omega arith
    by (Some n) = (items_keep_limits n.inner).few

pub cells_few : FittingCellsFew
cells_few tree c number frame is fits there =
    let items : List Declared = Items tree.items frame.procedure.0 in
    let are : AreVariables items frame.cells =
    of_each tree.items c.frames (λ one. AreVariables (Items tree.items one.procedure.0) one.cells) (fitting_frames tree.items c fits)
    (λ waits one fit. fit.cells) number frame there in
    let few = few_cells frame.cells items are.once (are_told items frame.cells are) in
    let within = items_few tree.items frame.procedure.0 in
    omega (arith, few, within)
