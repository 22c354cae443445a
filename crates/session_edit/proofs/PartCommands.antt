-- Commands that set a part at the stop of the part.
use Rattle.std.specs.Prelude.{◌≡◌, refl, ℕ, ◌<◌, Bool, true, false, ◌&&◌, if◌then◌else◌, List, [], ◌∷◌, Option, Some, None, IsSome, IsSomeAnd, is_some, is_none}
use Rattle.std.specs.Option.{option_map_or}
use Rattle.std.proofs.Common.{ap, sym, ◌∙◌, subst}
use Rattle.std.proofs.lemmas.Bool.{false≢true, false_from_ne_true, and_right}
use Rattle.plcs_grammar.specs.PlainPhrase.{PlainPhrase}
use Rattle.template_tree.specs.declared.stop.Stop.{Stop}
use Rattle.template_tree.specs.declared.tree_fault.TreeFault.{TreeFault}
use Rattle.template_tree.specs.Edits.EditAnswer.{Edits, IsEdit, TakesAtStop}
use Rattle.template_tree.specs.Programs.Part.{part_at, part_category, with_part}
use Rattle.template_tree.specs.Positions.Path.{node_at}
use Rattle.template_tree.specs.Programs.PlainTree.{PlainNode, PlainTree, roomless_node, roomless_tree}
use Rattle.template_tree.specs.Edits.Receipt.{PlainReceipt}
use Rattle.template_tree.specs.Positions.Stop.{IsStop, MayStand, PlainStop, part_stops, plain_stop}
use Rattle.template_tree.specs.Programs.Tree.{IsTree}
use Rattle.template_tree.specs.Edits.TreeEdit.{TreeEdit}
use Rattle.template_tree.specs.Laws.TreeLaws.{SlotEditIsPathEdit}
use Rattle.clip_store.specs.PlainFragment.{PlainFragment}
use Rattle.session_edit.specs.AppliedEdit.{IsApplied, IsRefused}
use Rattle.session_edit.specs.Cursor.{onward}
use Rattle.session_edit.specs.Edited.{comes, comes_onward, edited, phrase_entry, not_here, outcome_of_phrase_insertion, outcome_of_taking}
use Rattle.session_edit.specs.Here.{can_take, category_in, is_wanted, takes_at, takes_phrase}
use Rattle.session_edit.specs.PlainEdit.{PlainEdit}
use Rattle.session_edit.proofs.Outcomes.{Node, applied_is, edited_is, node_there, not_here_is, onward_applied, stands_after}
use Rattle.session_edit.proofs.PutCommands.{edit_there, of_found}
use Rattle.session_edit.specs.Private.RoomLaws.{RoomLaws}
use Rattle.session_edit.proofs.StopNodes.{takes_is}
use Rattle.session_edit.proofs.StopTests.{part_empties, wanted_takes, wanted_true}
use Rattle.session_edit.proofs.VisibleEdits.{first_comes, last_number, seen_here, shelf_of}

-- how a part at the stop is set
abbrev pub SetsPart : PlainStop → Option PlainPhrase → (before after : PlainTree) → PlainReceipt → Type 0
SetsPart at place before after receipt =
    IsSomeAnd at.part (λ part. Edits (TreeEdit.set_part part place) (node_at before.items at.path) (TakesAtStop part place) before after receipt)

-- the part at the stop takes a phrase, or takes being empty
abbrev pub TakesThere : PlainStop → Option PlainPhrase → PlainTree → Type 0
TakesThere at place tree = IsSomeAnd at.part (λ part. IsSomeAnd (node_at tree.items at.path) (TakesAtStop part place))

pub some_part : (part : Option ℕ) → IsSome part → (k : ℕ) × (part ≡ Some k)
some_part None h = absurd (false≢true h)
some_part (Some k) h = (k, refl)

held_part : (part : Option ℕ) (P : ℕ → Type 0) → IsSomeAnd part P → (k : ℕ) × (part ≡ Some k) × P k
held_part None P h = absurd h
held_part (Some k) P h = (k, refl, h)

-- the part that was set at a stop, and the edit that set it
record Setting (at : PlainStop) (place : Option PlainPhrase) (before after : PlainTree) (n : Node before at) (receipt : PlainReceipt) : Type 0 where
  part : ℕ
  is : at.part ≡ Some part
  takes : TakesAtStop part place n.node
  edit : IsEdit (TreeEdit.set_part part place) n.node.label.slot before after receipt None

setting : (at : PlainStop) (place : Option PlainPhrase) (before after : PlainTree) (n : Node before at) (receipt : PlainReceipt)
    → SetsPart at place before after receipt → Setting at place before after n receipt
setting at place before after n receipt sets =
    let held = held_part at.part
    (λ part. Edits (TreeEdit.set_part part place) (node_at before.items at.path) (TakesAtStop part place) before after receipt) sets
    in
    let made = edit_there (TreeEdit.set_part held.0 place) (node_at before.items at.path) (TakesAtStop held.0 place) before after receipt n.node n.there held.2
    in
    record { part = held.0; is = held.1; takes = made.0; edit = made.1 }

-- the cursor may stand at the part that was set
stands : RoomLaws → SlotEditIsPathEdit → (before after : PlainTree) (at : PlainStop) (n : Node before at) (part : ℕ) (place : Option PlainPhrase) (receipt : PlainReceipt)
    → IsTree before → IsEdit (TreeEdit.set_part part place) n.node.label.slot before after receipt None → IsStop (roomless_tree after).items at
stands room law before after at n part place receipt tree edit =
    let change : PlainNode → List PlainNode = λ node. with_part part place node ∷ [] in
    let shelf = shelf_of before.items at.path n.node n.seen in
    stands_after room law before after at.path n.node change before.drawn at (with_part part place n.node) tree n.there edit.became
    (seen_here change before.items at.path shelf.0 shelf.1
    ∙ first_comes change (last_number at.path) shelf.0 n.node (with_part part place n.node) [] shelf.2 refl)
    n.stands

pub part_stands : RoomLaws → SlotEditIsPathEdit → (before after : PlainTree) (at : PlainStop) (place : Option PlainPhrase) (receipt : PlainReceipt)
    → IsTree before → IsStop (roomless_tree before).items at → SetsPart at place before after receipt → IsStop (roomless_tree after).items at
part_stands room law before after at place receipt tree stop sets =
    let n = node_there room before at stop in
    let s = setting at place before after n receipt sets in
    stands room law before after at n s.part place receipt tree s.edit

-- phrase text at a part
enter_if : RoomLaws → (tree : PlainTree) (at : PlainStop) (n : Node tree at) (phrase : PlainPhrase) (k : ℕ) (b : Bool) → at.part ≡ Some k
    → is_wanted phrase (part_category n.node.label.kind k) ≡ b
    → edited (roomless_tree tree) at (PlainEdit.enter phrase)
    ≡ (if b
    then comes_onward (TreeEdit.set_part k (Some phrase)) (roomless_tree tree) n.node.label.slot at
    else not_here)
enter_if room tree at n phrase k b part e =
    edited_is room tree at (PlainEdit.enter phrase) n.node n.there
    ∙ (ap
    (λ (p : Option ℕ).
    if is_wanted phrase (category_in p n.node.label.kind)
    then comes_onward (phrase_entry p phrase) (roomless_tree tree) n.node.label.slot at
    else not_here)
    part
    ∙ ap
    (λ (b : Bool).
    if b
    then comes_onward (TreeEdit.set_part k (Some phrase)) (roomless_tree tree) n.node.label.slot at
    else not_here)
    e)

pub enter_applied : RoomLaws → (tree after : PlainTree) (at : PlainStop) (phrase : PlainPhrase) (receipt : PlainReceipt) (stop_after : Stop)
    → IsStop (roomless_tree tree).items at → SetsPart at (Some phrase) tree after receipt
    → plain_stop stop_after ≡ onward (roomless_tree after).items at → IsStop (roomless_tree after).items (plain_stop stop_after)
    → IsApplied (edited (roomless_tree tree) at (PlainEdit.enter phrase)) tree after record { receipt = receipt; taken = None; stop = stop_after }
enter_applied room tree after at phrase receipt stop_after stop sets there seen =
    let n = node_there room tree at stop in
    let s = setting at (Some phrase) tree after n receipt sets in
    let te : TreeEdit = TreeEdit.set_part s.part (Some phrase) in
    onward_applied room (edited (roomless_tree tree) at (PlainEdit.enter phrase)) te te n.node.label.slot tree after receipt stop_after at s.edit
    (room.edits te te tree n.node.label.slot refl)
    (enter_if room tree at n phrase s.part true s.is (wanted_true phrase (part_category n.node.label.kind s.part) s.takes.1)) there seen

-- the phrase isn't wanted where the stop doesn't take it
unwanted : (tree : PlainTree) (at : PlainStop) (n : Node tree at) (phrase : PlainPhrase) (k : ℕ) → at.part ≡ Some k
    → (TakesThere at (Some phrase) tree → ⊥) → is_wanted phrase (part_category n.node.label.kind k) ≡ false
unwanted tree at n phrase k part missing =
    false_from_ne_true (is_wanted phrase (part_category n.node.label.kind k))
    (λ e.
    missing
    (subst (λ (p : Option ℕ). IsSomeAnd p (λ part. IsSomeAnd (node_at tree.items at.path) (TakesAtStop part (Some phrase)))) (sym part)
    (of_found (node_at tree.items at.path) (TakesAtStop k (Some phrase)) n.node n.there
    (subst (λ (p : Option ℕ). MayStand p n.node.label.kind) part n.stands, wanted_takes phrase (part_category n.node.label.kind k) e))))

pub enter_refused : RoomLaws → (tree : PlainTree) (at : PlainStop) (phrase : PlainPhrase) (fault : TreeFault)
    → IsStop (roomless_tree tree).items at → IsSome at.part → fault ≡ TreeFault.NotHere
    → (TakesThere at (Some phrase) tree → ⊥)
    → IsRefused false (edited (roomless_tree tree) at (PlainEdit.enter phrase)) fault
enter_refused room tree at phrase fault stop part e missing =
    let n = node_there room tree at stop in
    let p = some_part at.part part in
    not_here_is false (edited (roomless_tree tree) at (PlainEdit.enter phrase)) fault e
    (enter_if room tree at n phrase p.0 false p.1 (unwanted tree at n phrase p.0 p.1 missing))

-- whether something can be taken out at a part
takes_there : RoomLaws → (tree : PlainTree) (at : PlainStop) (n : Node tree at) (b : Bool) → b ≡ takes_at (roomless_tree tree) at → can_take at.part n.node ≡ b
takes_there room tree at n b e =
    sym (e ∙ (takes_is room tree at ∙ ap (λ (found : Option PlainNode). option_map_or (can_take at.part) found false) n.there))

-- phrases inserted into parts
insert_is : RoomLaws → (tree : PlainTree) (at : PlainStop) (n : Node tree at) (phrase : PlainPhrase) (part : Option ℕ) → at.part ≡ part
    → edited (roomless_tree tree) at (PlainEdit.insert (PlainFragment.phrase phrase)) ≡ outcome_of_phrase_insertion (roomless_tree tree) at phrase part (roomless_node n.node)
insert_is room tree at n phrase part e =
    edited_is room tree at (PlainEdit.insert (PlainFragment.phrase phrase)) n.node n.there
    ∙ ap (λ (p : Option ℕ). outcome_of_phrase_insertion (roomless_tree tree) at phrase p (roomless_node n.node)) e

none_as : (A : Type 0) (found : Option A) (b : Bool) → is_some found ≡ b → is_none found ≡ (if b then false else true)
none_as A None b e = subst (λ b. true ≡ (if b then false else true)) e refl
none_as A (Some x) b e = subst (λ b. false ≡ (if b then false else true)) e refl

insert_some : RoomLaws → (tree : PlainTree) (at : PlainStop) (n : Node tree at) (phrase : PlainPhrase) (k : ℕ) (b : Bool) → at.part ≡ Some k
    → takes_phrase phrase k n.node ≡ b
    → edited (roomless_tree tree) at (PlainEdit.insert (PlainFragment.phrase phrase))
    ≡ (if b then comes (TreeEdit.set_part k (Some phrase)) (roomless_tree tree) n.node.label.slot at None else not_here)
insert_some room tree at n phrase k b part e =
    insert_is room tree at n phrase (Some k) part
    ∙ ap
    (λ (b : Bool).
    if b then comes (TreeEdit.set_part k (Some phrase)) (roomless_tree tree) n.node.label.slot at None else not_here)
    e

full_part : RoomLaws → (tree : PlainTree) (at : PlainStop) (n : Node tree at) (phrase : PlainPhrase) (part : Option ℕ) → at.part ≡ part
    → can_take part n.node ≡ true
    → edited (roomless_tree tree) at (PlainEdit.insert (PlainFragment.phrase phrase)) ≡ not_here
full_part room tree at n phrase None e full = insert_is room tree at n phrase None e
full_part room tree at n phrase (Some k) e full =
    insert_some room tree at n phrase k false e
    (ap (λ (b : Bool). b && is_wanted phrase (part_category n.node.label.kind k)) (none_as PlainPhrase (part_at n.node.label.parts k) true full))

pub insert_full : RoomLaws → (tree : PlainTree) (at : PlainStop) (phrase : PlainPhrase) → IsStop (roomless_tree tree).items at
    → true ≡ takes_at (roomless_tree tree) at → edited (roomless_tree tree) at (PlainEdit.insert (PlainFragment.phrase phrase)) ≡ not_here
insert_full room tree at phrase stop full =
    let n = node_there room tree at stop in full_part room tree at n phrase at.part refl (takes_there room tree at n true full)

pub insert_applied : RoomLaws → SlotEditIsPathEdit → (tree after : PlainTree) (at : PlainStop) (phrase : PlainPhrase) (receipt : PlainReceipt) (stop_after : Stop)
    → IsTree tree → IsStop (roomless_tree tree).items at → false ≡ takes_at (roomless_tree tree) at
    → SetsPart at (Some phrase) tree after receipt → plain_stop stop_after ≡ at
    → IsApplied (edited (roomless_tree tree) at (PlainEdit.insert (PlainFragment.phrase phrase))) tree after
    record { receipt = receipt; taken = None; stop = stop_after }
insert_applied room law tree after at phrase receipt stop_after is_tree stop empty sets there =
    let n = node_there room tree at stop in
    let s = setting at (Some phrase) tree after n receipt sets in
    let te : TreeEdit = TreeEdit.set_part s.part (Some phrase) in
    let no_phrase : is_none (part_at n.node.label.parts s.part) ≡ true =
    none_as PlainPhrase (part_at n.node.label.parts s.part) false
    (ap (λ (p : Option ℕ). can_take p n.node) (sym s.is) ∙ takes_there room tree at n false empty)
    in
    let fits : takes_phrase phrase s.part n.node ≡ true =
    ap (λ (b : Bool). b && is_wanted phrase (part_category n.node.label.kind s.part)) no_phrase
    ∙ wanted_true phrase (part_category n.node.label.kind s.part) s.takes.1
    in
    applied_is room (edited (roomless_tree tree) at (PlainEdit.insert (PlainFragment.phrase phrase))) te te n.node.label.slot tree after receipt None stop_after at
    s.edit (room.edits te te tree n.node.label.slot refl) (insert_some room tree at n phrase s.part true s.is fits) there
    (subst (λ q. IsStop (roomless_tree after).items q) (sym there) (stands room law tree after at n s.part (Some phrase) receipt is_tree s.edit)) tt

unfit : RoomLaws → (tree : PlainTree) (at : PlainStop) (n : Node tree at) (phrase : PlainPhrase) (part : Option ℕ) → at.part ≡ part
    → (TakesThere at (Some phrase) tree → ⊥)
    → edited (roomless_tree tree) at (PlainEdit.insert (PlainFragment.phrase phrase)) ≡ not_here
unfit room tree at n phrase None e missing = insert_is room tree at n phrase None e
unfit room tree at n phrase (Some k) e missing =
    insert_some room tree at n phrase k false e
    (and_right (is_none (part_at n.node.label.parts k)) (is_wanted phrase (part_category n.node.label.kind k)) (unwanted tree at n phrase k e missing))

pub insert_refused : RoomLaws → (tree : PlainTree) (at : PlainStop) (phrase : PlainPhrase) (fault : TreeFault)
    → IsStop (roomless_tree tree).items at → fault ≡ TreeFault.NotHere → (TakesThere at (Some phrase) tree → ⊥)
    → IsRefused false (edited (roomless_tree tree) at (PlainEdit.insert (PlainFragment.phrase phrase))) fault
insert_refused room tree at phrase fault stop e missing =
    let n = node_there room tree at stop in
    not_here_is false (edited (roomless_tree tree) at (PlainEdit.insert (PlainFragment.phrase phrase))) fault e
    (unfit room tree at n phrase at.part refl missing)

-- parts emptied
empty_if : RoomLaws → (tree : PlainTree) (at : PlainStop) (n : Node tree at) (k : ℕ) (b : Bool) → at.part ≡ Some k → can_take (Some k) n.node ≡ b
    → edited (roomless_tree tree) at PlainEdit.take
    ≡ (if b then comes (TreeEdit.set_part k None) (roomless_tree tree) n.node.label.slot at None else not_here)
empty_if room tree at n k b part e =
    edited_is room tree at PlainEdit.take n.node n.there
    ∙ (ap (λ (p : Option ℕ). outcome_of_taking (roomless_tree tree) at p (roomless_node n.node)) part
    ∙ ap
    (λ (b : Bool). if b then comes (TreeEdit.set_part k None) (roomless_tree tree) n.node.label.slot at None else not_here)
    e)

pub empty_missing : RoomLaws → (tree : PlainTree) (at : PlainStop) → IsStop (roomless_tree tree).items at → IsSome at.part
    → false ≡ takes_at (roomless_tree tree) at → edited (roomless_tree tree) at PlainEdit.take ≡ not_here
empty_missing room tree at stop part none =
    let n = node_there room tree at stop in
    let p = some_part at.part part in
    empty_if room tree at n p.0 false p.1 (ap (λ (q : Option ℕ). can_take q n.node) (sym p.1) ∙ takes_there room tree at n false none)

pub empty_applied : RoomLaws → SlotEditIsPathEdit → (tree after : PlainTree) (at : PlainStop) (receipt : PlainReceipt) (stop_after : Stop)
    → IsTree tree → IsStop (roomless_tree tree).items at → true ≡ takes_at (roomless_tree tree) at
    → SetsPart at None tree after receipt → plain_stop stop_after ≡ at
    → IsApplied (edited (roomless_tree tree) at PlainEdit.take) tree after record { receipt = receipt; taken = None; stop = stop_after }
empty_applied room law tree after at receipt stop_after is_tree stop full sets there =
    let n = node_there room tree at stop in
    let s = setting at None tree after n receipt sets in
    let te : TreeEdit = TreeEdit.set_part s.part None in
    applied_is room (edited (roomless_tree tree) at PlainEdit.take) te te n.node.label.slot tree after receipt None stop_after at s.edit
    (room.edits te te tree n.node.label.slot refl)
    (empty_if room tree at n s.part true s.is (ap (λ (q : Option ℕ). can_take q n.node) (sym s.is) ∙ takes_there room tree at n true full)) there
    (subst (λ q. IsStop (roomless_tree after).items q) (sym there) (stands room law tree after at n s.part None receipt is_tree s.edit)) tt

-- a part at which the cursor stands is never refused what empties it
pub empties_there : RoomLaws → (tree : PlainTree) (at : PlainStop) → IsStop (roomless_tree tree).items at → IsSome at.part → TakesThere at None tree
empties_there room tree at stop part =
    let n = node_there room tree at stop in
    let p = some_part at.part part in
    let within : p.0 < part_stops n.node.label.kind = subst (λ (q : Option ℕ). MayStand q n.node.label.kind) p.1 n.stands in
    subst (λ (q : Option ℕ). IsSomeAnd q (λ part. IsSomeAnd (node_at tree.items at.path) (TakesAtStop part None))) (sym p.1)
    (of_found (node_at tree.items at.path) (TakesAtStop p.0 None) n.node n.there (within, part_empties n.node.label.kind p.0 within))
