-- The item of a tree in which something was changed: none where it was dropped itself.
use Rattle.std.proofs.Common.{◌≡◌, ℕ, true, false, List, [], ◌∷◌, length, Option, None, refl, ap, sym, ◌∙◌, arith, ne_eqb, true≢false}
use Rattle.std.specs.Prelude.{◌==◌, slice_get}
use Rattle.template_tree.specs.declared.change.What.{What}
use Rattle.template_tree.specs.Programs.PlainTree.{Forest, PlainNode, nodes}
use Rattle.decl_table.specs.Private.ItemChangeView.{drops_item, item_left, procedure_left}

pub dropped_whole : (path : List ℕ) → (length path == 0) ≡ drops_item What.Dropped path
dropped_whole [] = refl
dropped_whole (k ∷ path) = ne_eqb (length (k ∷ path)) 0 (λ same. omega (arith, same))

none_left : (what : What) (path : List ℕ) (found : Option PlainNode) → drops_item what path ≡ true → item_left what path found ≡ None
none_left What.Node path found is = absurd (true≢false (sym is))
none_left (What.Part part) path found is = absurd (true≢false (sym is))
none_left What.Added path found is = absurd (true≢false (sym is))
none_left What.Dropped [] found is = refl
none_left What.Dropped (j ∷ path) found is = absurd (true≢false (sym is))

all_left : (what : What) (path : List ℕ) (found : Option PlainNode) → drops_item what path ≡ false → item_left what path found ≡ found
all_left What.Node path found is = refl
all_left (What.Part part) path found is = refl
all_left What.Added path found is = refl
all_left What.Dropped [] found is = absurd (true≢false is)
all_left What.Dropped (j ∷ path) found is = refl

pub left_nowhere : (what : What) (way : List ℕ) (items : Forest) → way ≡ [] → None ≡ procedure_left what way items
left_nowhere what way items none = sym (ap (λ (p : List ℕ). procedure_left what p items) none)

pub left_none : (what : What) (way : List ℕ) (k : ℕ) (path : List ℕ) (items : Forest) → way ≡ k ∷ path → drops_item what path ≡ true
    → None ≡ procedure_left what way items
left_none what way k path items is dropped =
    sym (none_left what path (slice_get (nodes items) k) dropped) ∙ sym (ap (λ (p : List ℕ). procedure_left what p items) is)

pub left_some : (what : What) (way : List ℕ) (k : ℕ) (path : List ℕ) (items : Forest) → way ≡ k ∷ path → drops_item what path ≡ false
    → slice_get (nodes items) k ≡ procedure_left what way items
left_some what way k path items is stays =
    sym (all_left what path (slice_get (nodes items) k) stays) ∙ sym (ap (λ (p : List ℕ). procedure_left what p items) is)
