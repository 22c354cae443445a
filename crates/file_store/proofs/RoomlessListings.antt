-- A listing as that of a tree without its room: what is shown of a tree, and its slots, don't depend on it.
use Rattle.std.proofs.Common.{◌≡◌, ℕ, ◌+◌, false, List, Some, None, refl, sym, ap, ◌∙◌}
use Rattle.template_tree.specs.Edits.Edit.{whole}
use Rattle.template_tree.specs.Programs.PlainTree.{Forest, PlainTree, roomless, roomless_tree}
use Rattle.template_tree.specs.Laws.RoomLaws.{CountsIgnoreRoom, ListingIgnoresRoom, TreesIgnoreRoom}
use Rattle.template_tree.specs.Programs.Slots.{count, with_slots_from}
use Rattle.template_tree.specs.Programs.Tree.{IsTree}
use Rattle.file_store.specs.FileReading.{LoadingIgnoresRoom}
use Rattle.file_store.specs.Loaded.{IsListingOf}

-- slots are drawn alike without room
slots_without_room : CountsIgnoreRoom → (first : ℕ) (items : Forest)
    → with_slots_from first (roomless items) ≡ roomless (with_slots_from first items)
slots_without_room counts first Forest.nil = refl
slots_without_room counts first (Forest.cons label inner rest) =
    ap (λ n. Forest.cons (record label { slot = first; spare = 0 }) (with_slots_from (first + 1) (roomless inner)) (with_slots_from (first + 1 + n) (roomless rest)))
    (counts inner)
    ∙ ap (λ i. Forest.cons (record label { slot = first; spare = 0 }) i (with_slots_from (first + 1 + count inner) (roomless rest)))
    (slots_without_room counts (first + 1) inner)
    ∙ ap (λ r. Forest.cons (record label { slot = first; spare = 0 }) (roomless (with_slots_from (first + 1) inner)) r)
    (slots_without_room counts (first + 1 + count inner) rest)

-- so is everything shown
whole_without_room : (items : Forest) → whole (roomless items) ≡ roomless (whole items)
whole_without_room Forest.nil = refl
whole_without_room (Forest.cons label inner rest) =
    ap (λ i. Forest.cons (record label { elided = false; spare = 0 }) i (whole (roomless rest))) (whole_without_room inner)
    ∙ ap (λ r. Forest.cons (record label { elided = false; spare = 0 }) (roomless (whole inner)) r) (whole_without_room rest)

module _ (trees : TreesIgnoreRoom) (counts : CountsIgnoreRoom) (listings : ListingIgnoresRoom) where
  -- bytes are the listing of a tree without room too
  listing_without_room : (x : List ℕ) (tree : PlainTree) → IsListingOf x tree → IsListingOf x (roomless_tree tree)
  listing_without_room x tree is =
      let without : IsTree (roomless_tree tree) = (trees tree).0 is.is_tree in
      record {
        spells = record { program = without.program; listed = is.spells.listed ∙ sym (listings tree.items) };
        is_tree = without;
        slots = slots_without_room counts 0 tree.items ∙ ap roomless is.slots;
        drawn = is.drawn ∙ sym (counts tree.items);
        unelided = whole_without_room tree.items ∙ ap roomless is.unelided;
      }

  -- so is the content of a file
  pub loading_ignores_room : LoadingIgnoresRoom
  loading_ignores_room None name tree says = tt
  loading_ignores_room (Some map) name tree says = (says.0, says.1, listing_without_room says.0 tree says.2)
