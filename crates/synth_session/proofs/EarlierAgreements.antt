-- The trees to which can be gone back agree with the tree now, whether it is edited, one of them comes back or a
-- comment is turned; and a run that came to stand agrees with each of them once it comes back.
use Rattle.std.proofs.Common.{◌≡◌, ℕ, zero, suc, ◌-◌, ◌≤◌, Bool, true, false, if◌then◌else◌, nat_le, List, [], ◌∷◌, arith, slice_index_or, refl, sym, ap, subst, ◌∙◌}
use Rattle.std.proofs.lemmas.List.Elements.{All-cons, All-head, All-nil, All-tail}
use Rattle.std.specs.List.{All}
use Rattle.template_tree.specs.Edits.Edit.{whole}
use Rattle.template_tree.specs.Edits.Reversal.{Back}
use Rattle.template_tree.specs.Laws.RoomLaws.{RoomGoesOnce}
use Rattle.template_tree.specs.Programs.PlainTree.{Forest, PlainTree, roomless, roomless_tree}
use Rattle.template_tree.specs.Programs.Tree.{IsTree}
use Rattle.tree_steps.specs.AgreementLaws.{EarlierAgreesAlike, EditStepsKeepAgreement, EditsAgree, GoingBackAgrees, GoingBackPastAgrees}
use Rattle.tree_steps.specs.EditStep.{IsEditStep, substance}
use Rattle.tree_steps.specs.EditStepLaws.{RoomIsNoEdit}
use Rattle.tree_steps.specs.SlotAgreement.{AgreesWith}
use Rattle.edit_undo.specs.EarlierTree.{EarlierTree, as_kept, kept_trees}
use Rattle.edit_undo.specs.EditLaws.{UndoneTreesCheckAlike}
use Rattle.edit_undo.specs.EditLimit.{latest_within, most_edits, most_taken_slots}
use Rattle.synth_session.specs.SessionView.{AgreeInTurn}

-- what holds of each of a list holds so
all_map : {A : Type 0} (P Q : A → Type 0) → ((item : A) → P item → Q item) → (items : List A) → All P items → All Q items
all_map P Q to items all = λ k other within. to (slice_index_or items k other) (all k other within)

-- the earlier tree agrees with the tree now, and no more slots were drawn in it
abbrev pub AgreesEarlier : PlainTree → EarlierTree → Type 0
AgreesEarlier now earlier = AgreesWith earlier.tree now × (earlier.tree.drawn ≤ now.drawn)

-- each of them does, where they agree in turn
pub turn_all : (now : PlainTree) (earlier : List EarlierTree) → AgreeInTurn now earlier → All (AgreesEarlier now) earlier
turn_all now [] turn = All-nil (AgreesEarlier now)
turn_all now (latest ∷ others) turn = turn.0

-- ---- those that are kept

module _ (P : EarlierTree → Type 0) where
  all_if : (b : Bool) (latest : EarlierTree) (kept : List EarlierTree) → P latest → All P kept → All P (if b then latest ∷ kept else [])
  all_if true latest kept holds all = All-cons P latest kept holds all
  all_if false latest kept holds all = All-nil P

  latest_all : (most heaviest : ℕ) (earlier : List EarlierTree) → All P earlier
      → All P (latest_within (λ (e : EarlierTree). e.weight) most heaviest earlier)
  latest_all zero heaviest earlier all = All-nil P
  latest_all (suc most) heaviest [] all = All-nil P
  latest_all (suc most) heaviest (latest ∷ others) all =
      let left = heaviest - latest.weight in
      all_if (nat_le latest.weight heaviest) latest (latest_within (λ (e : EarlierTree). e.weight) most left others)
      (All-head P latest others all) (latest_all most left others (All-tail P latest others all))

  pub kept_all : (earlier : List EarlierTree) → All P earlier → All P (kept_trees earlier)
  kept_all earlier all = latest_all most_edits most_taken_slots earlier all

turn_if : (b : Bool) (now : PlainTree) (latest : EarlierTree) (kept : List EarlierTree) → All (AgreesEarlier now) (latest ∷ kept)
    → AgreeInTurn latest.tree kept → AgreeInTurn now (if b then latest ∷ kept else [])
turn_if true now latest kept all turn = (all, turn)
turn_if false now latest kept all turn = tt

latest_turn : (most heaviest : ℕ) (now : PlainTree) (earlier : List EarlierTree) → AgreeInTurn now earlier
    → AgreeInTurn now (latest_within (λ (e : EarlierTree). e.weight) most heaviest earlier)
latest_turn zero heaviest now earlier turn = tt
latest_turn (suc most) heaviest now [] turn = tt
latest_turn (suc most) heaviest now (latest ∷ others) turn =
    let left = heaviest - latest.weight in
    let kept = latest_within (λ (e : EarlierTree). e.weight) most left others in
    turn_if (nat_le latest.weight heaviest) now latest kept
    (All-cons (AgreesEarlier now) latest kept (All-head (AgreesEarlier now) latest others turn.0)
    (latest_all (AgreesEarlier now) most left others (All-tail (AgreesEarlier now) latest others turn.0)))
    (latest_turn most left latest.tree others turn.1)

pub kept_turn : (now : PlainTree) (earlier : List EarlierTree) → AgreeInTurn now earlier → AgreeInTurn now (kept_trees earlier)
kept_turn now earlier turn = latest_turn most_edits most_taken_slots now earlier turn

-- ---- trees of one substance

-- a tree that comes back has its substance
pub back_substance : UndoneTreesCheckAlike → (now earlier : PlainTree) → substance (Back now earlier).items ≡ substance earlier.items
back_substance law now earlier = ap roomless (law now earlier).0

-- and so has one that is kept
pub kept_substance : UndoneTreesCheckAlike → (now earlier : PlainTree) → substance (as_kept now earlier).items ≡ substance earlier.items
kept_substance law now earlier = ap roomless (law (record now { items = whole now.items }) earlier).0

-- trees that agree in turn with one agree so with one of its substance, in which no fewer slots are drawn
pub turn_same : GoingBackAgrees → (one other : PlainTree) → substance other.items ≡ substance one.items → one.drawn ≤ other.drawn
    → (earlier : List EarlierTree) → AgreeInTurn one earlier → AgreeInTurn other earlier
turn_same back one other same more [] turn = tt
turn_same back one other same more (latest ∷ others) turn = (
  all_map (AgreesEarlier one) (AgreesEarlier other)
      (λ e agrees. (back e.tree one other agrees.0 same more, omega (arith, agrees.1, more))) (latest ∷ others) turn.0,
  turn.1,
)

-- a tree agrees with each of these once it comes back
abbrev pub AgreesBack : (stood now : PlainTree) → List EarlierTree → Type 0
AgreesBack stood now earlier = All (λ (e : EarlierTree). AgreesWith stood (Back now e.tree)) earlier

-- so it does where they come back from another tree, in which no fewer slots are drawn
pub back_from : GoingBackAgrees → UndoneTreesCheckAlike → (stood one other : PlainTree) → one.drawn ≤ other.drawn
    → (earlier : List EarlierTree) → AgreesBack stood one earlier → AgreesBack stood other earlier
back_from back alike stood one other more earlier all =
    all_map (λ (e : EarlierTree). AgreesWith stood (Back one e.tree)) (λ (e : EarlierTree). AgreesWith stood (Back other e.tree))
    (λ e agrees.
    back stood (Back one e.tree) (Back other e.tree) agrees (back_substance alike other e.tree ∙ sym (back_substance alike one e.tree)) more)
    earlier all

-- ---- a run that comes to stand

-- a tree agrees with those to which can be gone back from it, once they come back
pub agrees_back : GoingBackPastAgrees → EarlierAgreesAlike → UndoneTreesCheckAlike → (stood now : PlainTree)
    → substance now.items ≡ substance stood.items → IsTree now → (earlier : List EarlierTree) → AgreeInTurn now earlier
    → AgreesBack stood now earlier
agrees_back past alike undone stood now same is earlier turn =
    all_map (AgreesEarlier now) (λ (e : EarlierTree). AgreesWith stood (Back now e.tree))
    (λ e agrees.
    alike now stood (Back now e.tree) same (past e.tree now (Back now e.tree) agrees.0 is.drawn (back_substance undone now e.tree)))
    earlier (turn_all now earlier turn)

-- ---- an edit

-- what agrees with the tree before an edit agrees with the one after it
abbrev pub KeepsAgreeing : (before after : PlainTree) → Type 0
KeepsAgreeing before after = (earlier : PlainTree) → AgreesWith earlier before → AgreesWith earlier after

-- so it is for both trees without room
pub step_agrees : GoingBackAgrees → EditStepsKeepAgreement → RoomGoesOnce → RoomIsNoEdit → (before after : PlainTree) → IsEditStep before after
    → KeepsAgreeing (roomless_tree before) (roomless_tree after)
step_agrees back steps once no_edit before after step earlier agrees =
    back earlier after (roomless_tree after)
    (steps earlier before after (back earlier (roomless_tree before) before agrees (bare before) (omega arith)) step)
    (sym (bare after)) (omega arith)
  where
    bare : (tree : PlainTree) → substance tree.items ≡ substance (roomless tree.items)
    bare tree =
        (no_edit tree (roomless_tree tree) (sym (ap (λ (items : Forest). record (roomless_tree tree) { items = items }) (once tree.items)))).items

-- the tree before an edit, as it is noted, and those before that agree in turn with the tree after it
pub noted_turn : GoingBackAgrees → EarlierAgreesAlike → EditsAgree → UndoneTreesCheckAlike → (before after : PlainTree) → IsTree before
    → KeepsAgreeing before after → before.drawn ≤ after.drawn → (latest : EarlierTree) → latest.tree ≡ as_kept after before
    → (earlier : List EarlierTree) → AgreeInTurn before earlier → AgreeInTurn after (kept_trees (latest ∷ earlier))
noted_turn back alike agree undone before after is_tree keeps more latest is earlier turn =
    let kept = as_kept after before in
    let same : substance kept.items ≡ substance before.items = kept_substance undone after before in
    let agrees : AgreesWith before after =
    keeps before (agree before before is_tree (0, record { items = refl; drawn = refl })) in
    let own : AgreesEarlier after latest =
    subst (λ (tree : PlainTree). AgreesWith tree after × (tree.drawn ≤ after.drawn)) (sym is)
    (alike before kept after (sym same) agrees, more) in
    let others : All (AgreesEarlier after) earlier =
    all_map (AgreesEarlier before) (AgreesEarlier after) (λ e was. (keeps e.tree was.0, omega (arith, was.1, more))) earlier
    (turn_all before earlier turn) in
    kept_turn after (latest ∷ earlier) (
      All-cons (AgreesEarlier after) latest earlier own others,
      subst (λ (tree : PlainTree). AgreeInTurn tree earlier) (sym is)
          (turn_same back before kept same (omega arith) earlier turn),
    )

-- a run that stood before an edit agrees with the tree before it, as it is noted, and those before that
pub noted_back : GoingBackAgrees → UndoneTreesCheckAlike → (stood before after : PlainTree) → AgreesWith stood before
    → before.drawn ≤ after.drawn → (latest : EarlierTree) → latest.tree ≡ as_kept after before → (earlier : List EarlierTree)
    → AgreesBack stood before earlier → AgreesBack stood after (kept_trees (latest ∷ earlier))
noted_back back undone stood before after agrees more latest is earlier all =
    let AgreesThen : EarlierTree → Type 0 = λ e. AgreesWith stood (Back after e.tree) in
    let own : AgreesThen latest =
    subst (λ (tree : PlainTree). AgreesWith stood (Back after tree)) (sym is)
    (back stood before (Back after (as_kept after before)) agrees
    (back_substance undone after (as_kept after before) ∙ kept_substance undone after before) more) in
    kept_all AgreesThen (latest ∷ earlier)
    (All-cons AgreesThen latest earlier own (back_from back undone stood before after more earlier all))

-- ---- an edit that is undone

-- the trees before the one that comes back agree with it in turn
pub undone_turn : GoingBackAgrees → UndoneTreesCheckAlike → (now : PlainTree) (latest : EarlierTree) (others : List EarlierTree)
    → AgreeInTurn now (latest ∷ others) → AgreeInTurn (Back now latest.tree) others
undone_turn back undone now latest others turn =
    turn_same back latest.tree (Back now latest.tree) (back_substance undone now latest.tree)
    (All-head (AgreesEarlier now) latest others turn.0).1 others turn.1

-- and a run that stood agrees with it, and with them once they come back
pub undone_stood : (stood now : PlainTree) (latest : EarlierTree) (others : List EarlierTree) → AgreesBack stood now (latest ∷ others)
    → AgreesWith stood (Back now latest.tree)
undone_stood stood now latest others all = All-head (λ (e : EarlierTree). AgreesWith stood (Back now e.tree)) latest others all

pub undone_back : GoingBackAgrees → UndoneTreesCheckAlike → (stood now : PlainTree) (latest : EarlierTree) (others : List EarlierTree)
    → AgreesBack stood now (latest ∷ others) → AgreesBack stood (Back now latest.tree) others
undone_back back undone stood now latest others all =
    back_from back undone stood now (Back now latest.tree) (omega arith) others
    (All-tail (λ (e : EarlierTree). AgreesWith stood (Back now e.tree)) latest others all)
