-- The map of the items' names: a map in memory finds by a test of names what the finite map finds by their order.
use Rattle.std.proofs.Common.{◌≡◌, ℕ, ◌+◌, Bool, true, false, List, [], ◌∷◌, ◌++◌, drop, Option, Some, None, refl, sym, ap, ◌∙◌}
use Rattle.std.specs.Prelude.{IfNone, IfSome, bytes_eq, cond, slice_get, unwrap_or}
use Rattle.std.specs.FinMap.{find, from_entries, get, get-from_entries, get-insert, insert, nat_cmp-IsAntisymmetric, same_map, slice_cmp-IsAntisymmetric, IsAntisymmetric}
use Rattle.std.specs.Map.{lookup}
use Rattle.std.specs.Ordering.{eq_by_cmp, is_eq}
use Rattle.std.specs.declared.cmp.Ordering.{Ordering}
use Rattle.std.specs.declared.cmp.Ordering.TheVariants.{Less, Equal, Greater}
use Rattle.std.proofs.lemmas.Cmp.{eq_by_cmp_equiv, nat_list_cmp_total}
use Rattle.std.proofs.lemmas.Slice.Eq.{bytes_eq-Decides}
use Rattle.plcs_base.specs.ListLeft.{left_from}
use Rattle.plcs_base.specs.Mark.{MarkMap}
use Rattle.plcs_base.specs.Scope.{ItemMap}
use Rattle.template_tree.specs.Checks.Environment.{heading_of}
use Rattle.template_tree.specs.Programs.PlainTree.{Forest, PlainNode, forest, nodes}
use Rattle.plcs_code.specs.Gen.{name_cmp}
use Rattle.plcs_code.specs.OwnCode.{name_to_call}
use Rattle.code_patch.specs.ItemNames.{NumberMap, number_named, numbers_by_name, item_numbers}
use Rattle.code_patch.specs.CodeEdit.{roomless_code}
use Rattle.code_patch.specs.CodeForest.{CodeForest, kept_code}
use Rattle.code_patch.specs.PreparedEdit.{NamesFit}
use Rattle.code_patch.specs.Private.ItemNames.{numbered_items, with_numbers}

-- ---- names

names_differ : IsAntisymmetric name_cmp
names_differ = slice_cmp-IsAntisymmetric nat_cmp-IsAntisymmetric

-- the test of names is that of their order
name_ties : (x y : List ℕ) → bytes_eq x y ≡ eq_by_cmp name_cmp x y
name_ties x y = by (bytes_eq x y) (name_cmp x y) refl refl
  where
    by : (b : Bool) (o : Ordering) → bytes_eq x y ≡ b → name_cmp x y ≡ o → b ≡ is_eq o
    by true o e f =
        sym ((eq_by_cmp_equiv nat_list_cmp_total).refl x)
        ∙ ap (λ z. eq_by_cmp name_cmp x z) ((bytes_eq-Decides x y).0 e)
        ∙ ap is_eq f
    by false Less e f = refl
    by false Equal e f = sym e ∙ (bytes_eq-Decides x y).1 (names_differ x y f)
    by false Greater e f = refl

-- the finite map finds what the test finds
pub number_found : (entries : List (List ℕ × ℕ)) (name : List ℕ)
    → get (from_entries {R = name_cmp} entries) name ≡ lookup (bytes_eq name) entries
number_found entries name = get-from_entries nat_list_cmp_total entries name ∙ listed entries
  where
    listed : (es : List (List ℕ × ℕ)) → find name_cmp name es ≡ lookup (bytes_eq name) es
    listed [] = refl
    listed (e ∷ es) =
        ap (λ b. cond b (Some e.1) (find name_cmp name es)) (sym (name_ties name e.0))
        ∙ ap (λ o. cond (bytes_eq name e.0) (Some e.1) o) (listed es)

-- what is put under a name is inserted
pub number_put : (name : List ℕ) (number : ℕ) (old new : List (List ℕ × ℕ))
    → ((other : List ℕ) → lookup (bytes_eq other) new ≡ cond (bytes_eq name other) (Some number) (lookup (bytes_eq other) old))
    → from_entries {R = name_cmp} new ≡ insert (from_entries {R = name_cmp} old) name number
number_put name number old new is =
    same_map nat_list_cmp_total names_differ _ _
    (λ q. number_found new q
    ∙ is q
    ∙ ap (λ b. cond b (Some number) (lookup (bytes_eq q) old)) (name_ties name q ∙ (eq_by_cmp_equiv nat_list_cmp_total).symm name q)
    ∙ ap (λ o. cond (eq_by_cmp name_cmp q name) (Some number) o) (sym (number_found old q))
    ∙ sym (get-insert nat_list_cmp_total (from_entries {R = name_cmp} old) name number q))

-- ---- items from the last on

-- entries before those of a map
numbers_before : (es fs : List (List ℕ × ℕ)) → with_numbers es (from_entries fs) ≡ from_entries (es ++ fs)
numbers_before [] fs = refl
numbers_before (e ∷ es) fs = ap (λ (m : NumberMap). insert m e.0 e.1) (numbers_before es fs)

-- the item before those that are noted
pub item_noted : (program : Forest) (k : ℕ) (item : PlainNode) (map : NumberMap) → slice_get (nodes program) k ≡ Some item
    → map ≡ from_entries (numbered_items (k + 1) (forest (drop (k + 1) (nodes program))))
    → with_numbers (number_named k (name_to_call (heading_of item.label.kind item.label.parts))) map
    ≡ from_entries (numbered_items k (forest (drop k (nodes program))))
item_noted program k item map there is =
    let own = number_named k (name_to_call (heading_of item.label.kind item.label.parts)) in
    ap (λ (m : NumberMap). with_numbers own m) is
    ∙ numbers_before own (numbered_items (k + 1) (forest (drop (k + 1) (nodes program))))
    ∙ ap (λ (items : List PlainNode). let m : NumberMap = from_entries (numbered_items k (forest items)) in m)
    (sym (left_from (nodes program) k item there))

-- ---- what is kept of items

-- the numbers of kept items are those of the items
pub numbers_kept : (marks : MarkMap) (items : ItemMap) (number : ℕ) (program : Forest)
    → numbers_by_name number (kept_code marks items program) ≡ numbered_items number program
numbers_kept marks items number Forest.nil = refl
numbers_kept marks items number (Forest.cons label inner rest) =
    ap (λ es. number_named number (name_to_call (heading_of label.kind label.parts)) ++ es) (numbers_kept marks items (number + 1) rest)

-- room plays no part
pub numbers_roomless : (number : ℕ) (kept : CodeForest) → numbers_by_name number (roomless_code kept) ≡ numbers_by_name number kept
numbers_roomless number CodeForest.nil = refl
numbers_roomless number (CodeForest.cons own spare inner rest) =
    ap (λ es. number_named number own.name ++ es) (numbers_roomless (number + 1) rest)

-- the names of a program are those of what is kept of it
pub names_kept : (marks : MarkMap) (items : ItemMap) (program : Forest) (kept : CodeForest) → roomless_code kept ≡ kept_code marks items program
    → from_entries (numbered_items 0 program) ≡ item_numbers kept
names_kept marks items program kept is =
    ap (λ es. let m : NumberMap = from_entries es in m)
    (sym (numbers_kept marks items 0 program) ∙ ap (numbers_by_name 0) (sym is) ∙ numbers_roomless 0 kept)

-- ---- a prepared edit

-- the names once it is put in place are those of the items then
pub names_then : (names : Option NumberMap) (was : NumberMap) (before after : CodeForest) → was ≡ item_numbers before
    → NamesFit names before after → unwrap_or names was ≡ item_numbers after
names_then None was before after is fit = is ∙ sym fit
names_then (Some names) was before after is fit = fit

-- the names that are prepared are those of the items then; where none are, those of the items before are these
pub names_fit : {P : Type 0} (marks : MarkMap) (items : ItemMap) (after : Forest) (names : Option NumberMap) (before made : CodeForest)
    → roomless_code made ≡ kept_code marks items after → IfNone names P
    → IfSome names (λ ns. ns ≡ from_entries (numbered_items 0 after)) → (P → item_numbers before ≡ from_entries (numbered_items 0 after))
    → NamesFit names before made
names_fit marks items after None before made is none some same = sym (names_kept marks items after made is) ∙ sym (same none)
names_fit marks items after (Some names) before made is none some same = some ∙ names_kept marks items after made is
