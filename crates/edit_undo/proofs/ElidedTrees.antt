-- Trees that are the same but for what is elided in them.
use Rattle.std.specs.Prelude.{◌≡◌, refl, ℕ, Bool, true, false, ◌&&◌, ◌==◌, if◌then◌else◌, List, [], ◌∷◌, Option, Some, None, option_map, unwrap_or}
use Rattle.std.specs.Option.{option_or}
use Rattle.std.proofs.Common.{ap, sym, ◌∙◌}
use Rattle.template_tree.specs.Edits.Edit.{whole}
use Rattle.template_tree.specs.Edits.Elision.{is_comment, with_toggled_at}
use Rattle.template_tree.specs.Edits.Reversal.{Back, Before, CanRevert, elided_now, elision_in, reverse_of, with_elision_of}
use Rattle.template_tree.specs.Laws.CheckLaws.{CheckAlike, ChecksIgnoreAllElision}
use Rattle.template_tree.specs.Laws.TreeLaws.{RevertAlike, RevertsIgnoreElision, TurnsAreElision}
use Rattle.template_tree.specs.Positions.Stop.{plain_stop}
use Rattle.template_tree.specs.Programs.PlainTree.{Forest, Label, PlainTree, roomless}
use Rattle.template_tree.specs.Programs.Tree.{IsTree}
use Rattle.edit_undo.specs.EarlierTree.{RingFits, as_kept, earlier_tree, trees_before}
use Rattle.edit_undo.specs.EditLimit.{edit_weight}
use Rattle.edit_undo.specs.declared.edit_record.EditRecord.{EditRecord}

-- the elision of other nodes makes no other nodes
pub whole_with : (now items : Forest) → whole (with_elision_of now items) ≡ whole items
whole_with now Forest.nil = refl
whole_with now (Forest.cons label inner rest) =
    λ i. Forest.cons (record label { elided = false }) (whole_with now inner i) (whole_with now rest i)

-- so a tree that comes back checks as the earlier one
pub back_checks : ChecksIgnoreAllElision → (now earlier : PlainTree) → CheckAlike (Back now earlier).items earlier.items
back_checks law now earlier =
    law (Back now earlier).items earlier.items (ap roomless (whole_with now.items earlier.items))

-- ---- a tree as it is kept

-- the elision of a comment that stands, were it shown
abbrev shown : Option Bool → Option Bool
shown found = option_map (λ (_ : Bool). false) found

abbrev found_of : (comment same is_elided : Bool) (inner rest : Option Bool) → Option Bool
found_of comment same is_elided inner rest = if comment && same then Some is_elided else option_or inner rest

found_shown : (comment same here : Bool) (inner rest : Option Bool)
    → found_of comment same false (shown inner) (shown rest) ≡ shown (found_of comment same here inner rest)
found_shown true true here inner rest = refl
found_shown true false here (Some x) rest = refl
found_shown true false here None rest = refl
found_shown false same here (Some x) rest = refl
found_shown false same here None rest = refl

whole_found : (slot : ℕ) (items : Forest) → elision_in slot (whole items) ≡ shown (elision_in slot items)
whole_found slot Forest.nil = refl
whole_found slot (Forest.cons label inner rest) =
    (λ i. found_of (is_comment label.kind) (label.slot == slot) false (whole_found slot inner i) (whole_found slot rest i))
    ∙ found_shown (is_comment label.kind) (label.slot == slot) label.elided (elision_in slot inner) (elision_in slot rest)

-- a comment that stands now is elided as it is now, however it was kept
kept_if : (comment here : Bool) (found : Option Bool)
    → (if comment then unwrap_or found (if comment then unwrap_or (shown found) here else here)
    else (if comment then unwrap_or (shown found) here else here))
    ≡ (if comment then unwrap_or found here else here)
kept_if true here None = refl
kept_if true here (Some x) = refl
kept_if false here found = refl

kept_label : (now : Forest) (label : Label)
    → elided_now now (record label { elided = elided_now (whole now) label }) ≡ elided_now now label
kept_label now label =
    ap
    (λ (found : Option Bool).
    if is_comment label.kind
    then unwrap_or (elision_in label.slot now) (if is_comment label.kind then unwrap_or found label.elided else label.elided)
    else (if is_comment label.kind then unwrap_or found label.elided else label.elided))
    (whole_found label.slot now)
    ∙ kept_if (is_comment label.kind) label.elided (elision_in label.slot now)

kept_items : (now items : Forest) → with_elision_of now (with_elision_of (whole now) items) ≡ with_elision_of now items
kept_items now Forest.nil = refl
kept_items now (Forest.cons label inner rest) =
    λ i. Forest.cons (record label { elided = kept_label now label i }) (kept_items now inner i) (kept_items now rest i)

-- what comes back of a tree as it is kept is what comes back of it
pub back_kept : (now earlier : PlainTree) → Back now (as_kept now earlier) ≡ Back now earlier
back_kept now earlier =
    λ i. record earlier { items = kept_items now.items earlier.items i; drawn = now.drawn }

-- as it is kept it is the same once it came back
kept_thrice : (comment here : Bool) (found : Option Bool)
    → (if comment
    then unwrap_or (shown found)
    (if comment then unwrap_or found (if comment then unwrap_or (shown found) here else here)
    else (if comment then unwrap_or (shown found) here else here))
    else (if comment then unwrap_or found (if comment then unwrap_or (shown found) here else here)
    else (if comment then unwrap_or (shown found) here else here)))
    ≡ (if comment then unwrap_or (shown found) here else here)
kept_thrice true here None = refl
kept_thrice true here (Some x) = refl
kept_thrice false here found = refl

-- the elision of a label where these are found now, one after the other
abbrev elided_by : Label → Option Bool → Bool → Bool
elided_by label found here = if is_comment label.kind then unwrap_or found here else here

thrice_label : (now : Forest) (label : Label)
    → elided_by label (elision_in label.slot (whole now))
    (elided_by label (elision_in label.slot now) (elided_by label (elision_in label.slot (whole now)) label.elided))
    ≡ elided_by label (elision_in label.slot (whole now)) label.elided
thrice_label now label =
    (λ i.
    elided_by label (whole_found label.slot now i)
    (elided_by label (elision_in label.slot now) (elided_by label (whole_found label.slot now i) label.elided)))
    ∙ (kept_thrice (is_comment label.kind) label.elided (elision_in label.slot now)
    ∙ ap (λ (found : Option Bool). elided_by label found label.elided) (sym (whole_found label.slot now)))

thrice_items : (now items : Forest)
    → with_elision_of (whole now) (with_elision_of now (with_elision_of (whole now) items)) ≡ with_elision_of (whole now) items
thrice_items now Forest.nil = refl
thrice_items now (Forest.cons label inner rest) =
    λ i. Forest.cons (record label { elided = thrice_label now label i }) (thrice_items now inner i) (thrice_items now rest i)

pub kept_again : (now earlier : PlainTree) → as_kept now (Back now (as_kept now earlier)) ≡ record (as_kept now earlier) { drawn = now.drawn }
kept_again now earlier = λ i. record earlier { items = thrice_items now.items earlier.items i; drawn = now.drawn }

-- ---- the trees before a tree that is the same but for elision

-- the tree before it is the same, shown where its comments stand now too
same_earlier : (edit : EditRecord) (one other : PlainTree) → one.spare ≡ other.spare → RevertAlike edit.receipt edit.back one other
    → earlier_tree edit one ≡ earlier_tree edit other
same_earlier edit one other spare alike =
    λ i.
    record {
      tree = record { items = alike.shown i; spare = spare i; drawn = edit.receipt.drawn; live = edit.receipt.live };
      stop = plain_stop edit.stop;
      weight = edit_weight edit.back;
      what = reverse_of edit.receipt.change.what;
      slot = edit.receipt.change.slot.0;
    }

pub shown_fit : RevertsIgnoreElision → (edits : List EditRecord) (one other : PlainTree) → IsTree one → IsTree other
    → whole one.items ≡ whole other.items → one.drawn ≡ other.drawn → one.spare ≡ other.spare → RingFits edits one → RingFits edits other
shown_fit law [] one other t u same drawn spare fits = tt
shown_fit law (edit ∷ edits) one other t u same drawn spare fits =
    let alike = law edit.receipt edit.back one other t u same drawn fits.0 in
    let can : CanRevert edit.receipt edit.back one = fits.0 in (
      alike.fits,
      shown_fit law edits (Before one edit.receipt edit.back) (Before other edit.receipt edit.back) can.before alike.fits.before alike.before
          drawn spare fits.1,
    )

pub shown_before : RevertsIgnoreElision → (edits : List EditRecord) (one other : PlainTree) → IsTree one → IsTree other
    → whole one.items ≡ whole other.items → one.drawn ≡ other.drawn → one.spare ≡ other.spare → RingFits edits one
    → trees_before edits one ≡ trees_before edits other
shown_before law [] one other t u same drawn spare fits = refl
shown_before law (edit ∷ edits) one other t u same drawn spare fits =
    let alike = law edit.receipt edit.back one other t u same drawn fits.0 in
    let can : CanRevert edit.receipt edit.back one = fits.0 in
    let latest : earlier_tree edit one ≡ earlier_tree edit other = same_earlier edit one other spare alike in
    let earlier =
    shown_before law edits (Before one edit.receipt edit.back) (Before other edit.receipt edit.back) can.before alike.fits.before alike.before
    drawn spare fits.1 in
    λ i. latest i ∷ earlier i

-- so it is where a comment was turned
pub turned_earlier : RevertsIgnoreElision → TurnsAreElision → (tree : PlainTree) (path : List ℕ) (edits : List EditRecord) → IsTree tree
    → RingFits edits tree
    → RingFits edits (with_toggled_at path tree) × (trees_before edits (with_toggled_at path tree) ≡ trees_before edits tree)
turned_earlier law turns tree path edits t fits =
    let turned = turns tree path t in (
      shown_fit law edits tree (with_toggled_at path tree) t turned.0 (sym turned.1) refl refl fits,
      sym (shown_before law edits tree (with_toggled_at path tree) t turned.0 (sym turned.1) refl refl fits),
    )
