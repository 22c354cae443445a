-- Whether a receipt fits a tree, and what it reverts that to, doesn't depend on what is elided now.
use Rattle.std.specs.Prelude.{◌≡◌, refl, ℕ, zero, suc, ◌+◌, ◌≤◌, Bool, true, false, ◌&&◌, ◌==◌, if◌then◌else◌, List, [], ◌∷◌, map, not, Option, Some, None, IsSomeAnd, option_map, unwrap_or}
use Rattle.std.proofs.Common.{ap, sym, ◌∙◌, arith}
use Rattle.std.proofs.Math.Bool.{false≢true}
use Rattle.std.proofs.lemmas.Option.{none-some, same_Some}
use Rattle.plcs_grammar.specs.PlainPhrase.{PlainPhrase}
use Rattle.plcs_grammar.specs.declared.node_kind.NodeKind.{NodeKind}
use Rattle.plcs_grammar.specs.declared.template.Template.{Template}
use Rattle.template_tree.specs.declared.change.What.{What}
use Rattle.template_tree.specs.declared.side.Side.{Side}
use Rattle.template_tree.specs.Edits.Copy.{whole_node}
use Rattle.template_tree.specs.Edits.Edit.{changed_in, edit_at, procedure_of, whole}
use Rattle.template_tree.specs.Edits.Elision.{is_comment, toggled, with_toggled_at}
use Rattle.template_tree.specs.Edits.Receipt.{PlainReceipt, PlainUndoing, items_before, undone}
use Rattle.template_tree.specs.Edits.Reversal.{Before, CanRevert, IsUndoneIn, coming, comments, elided_now, elision_in, with_elision_of}
use Rattle.template_tree.specs.Laws.TreeLaws.{RevertAlike}
use Rattle.template_tree.specs.Positions.Path.{node_at}
use Rattle.template_tree.specs.Programs.Part.{with_part}
use Rattle.template_tree.specs.Programs.PlainTree.{Forest, Label, PlainNode, PlainTree, forest, join, roomless_node}
use Rattle.template_tree.specs.Programs.Slots.{count}
use Rattle.template_tree.specs.Programs.Tree.{IsTree}
use Rattle.template_tree.proofs.Parts.KeptTrees.{comment_is}
use Rattle.template_tree.proofs.Reversals.ElidedComments.{found_counts, found_of, head_found}
use Rattle.template_tree.proofs.Reversals.ShownNodes.{IsSound, comments_whole, inner_of, node_whole, procedure_whole, rest_of, sound_nodes, tree_alike, whole_edit, whole_undone}
use Rattle.template_tree.proofs.Room.RoomlessEdits.{stays}

-- ---- comments that stand now

-- the elision of a comment that stands, were it shown
abbrev shown : Option Bool → Option Bool
shown found = option_map (λ (_ : Bool). false) found

found_shown : (comment same here : Bool) (inner rest : Option Bool)
    → found_of comment same false (shown inner) (shown rest) ≡ shown (found_of comment same here inner rest)
found_shown true true here inner rest = refl
found_shown true false here (Some x) rest = refl
found_shown true false here None rest = refl
found_shown false same here (Some x) rest = refl
found_shown false same here None rest = refl

whole_found : (slot : ℕ) (items : Forest) → elision_in slot (whole items) ≡ shown (elision_in slot items)
whole_found slot Forest.nil = refl
whole_found slot (Forest.cons label inner rest) =
    (λ i. found_of (is_comment label.kind) (label.slot == slot) false (whole_found slot inner i) (whole_found slot rest i))
    ∙ found_shown (is_comment label.kind) (label.slot == slot) label.elided (elision_in slot inner) (elision_in slot rest)

-- where none is found, none is counted
none_if : (comment same here : Bool) (inner rest : Option Bool) (inside behind : ℕ) → found_of comment same here inner rest ≡ None
    → (inner ≡ None → inside ≡ 0) → (rest ≡ None → behind ≡ 0) → (if comment && same then 1 else 0) + (inside + behind) ≡ 0
none_if true true here inner rest inside behind e i r = absurd (none-some here (sym e))
none_if true false here (Some x) rest inside behind e i r = absurd (none-some x (sym e))
none_if true false here None rest inside behind e i r = omega (arith, i refl, r e)
none_if false same here (Some x) rest inside behind e i r = absurd (none-some x (sym e))
none_if false same here None rest inside behind e i r = omega (arith, i refl, r e)

none_counted : (slot : ℕ) (items : Forest) → elision_in slot items ≡ None → comments slot items ≡ 0
none_counted slot Forest.nil e = refl
none_counted slot (Forest.cons label inner rest) e =
    none_if (is_comment label.kind) (label.slot == slot) label.elided (elision_in slot inner) (elision_in slot rest)
    (comments slot inner) (comments slot rest) e (none_counted slot inner) (none_counted slot rest)

own_counts : (label : Label) (inner rest : Forest) → is_comment label.kind ≡ true → 1 ≤ comments label.slot (Forest.cons label inner rest)
own_counts label inner rest c =
    found_counts label.slot (Forest.cons label inner rest) label.elided (head_found label inner rest c)

-- ---- nodes that stand now, and nodes that don't

-- a node that is no comment isn't elided
plain_shown : (elided : Bool) (kind : NodeKind) → (elided ≡ true → kind ≡ NodeKind.Filled Template.Comment) → is_comment kind ≡ false
    → elided ≡ false
plain_shown true kind sound other = absurd (false≢true (sym other ∙ ap is_comment (sound refl)))
plain_shown false kind sound other = refl

shown_if : (comment here : Bool) (found : Option Bool) → (comment ≡ false → here ≡ false) → (comment ≡ true → found ≡ None → ⊥)
    → (if comment then unwrap_or (shown found) here else here) ≡ false
shown_if true here None plain stands = absurd (stands refl refl)
shown_if true here (Some x) plain stands = refl
shown_if false here found plain stands = plain refl

-- nodes of which the comments stand now are those
abbrev StandNow : Forest → Forest → Type 0
StandNow now items = (slot : ℕ) → comments slot items ≤ comments slot now

own_shown : (now : Forest) (label : Label) (inner rest : Forest) → IsSound (Forest.cons label inner rest)
    → StandNow now (Forest.cons label inner rest) → elided_now (whole now) label ≡ false
own_shown now label inner rest sound stand =
    ap (λ (found : Option Bool). if is_comment label.kind then unwrap_or found label.elided else label.elided) (whole_found label.slot now)
    ∙ shown_if (is_comment label.kind) label.elided (elision_in label.slot now) (plain_shown label.elided label.kind sound.0)
    (λ c none. omega (arith, own_counts label inner rest c, stand label.slot, none_counted label.slot now none))

stand_inside : (now : Forest) (label : Label) (inner rest : Forest) → StandNow now (Forest.cons label inner rest) → StandNow now inner
stand_inside now label inner rest stand = λ slot. omega (arith, stand slot)

stand_behind : (now : Forest) (label : Label) (inner rest : Forest) → StandNow now (Forest.cons label inner rest) → StandNow now rest
stand_behind now label inner rest stand = λ slot. omega (arith, stand slot)

stand_alone : (now : Forest) (label : Label) (inner rest : Forest) → StandNow now (Forest.cons label inner rest)
    → StandNow now (Forest.cons label inner Forest.nil)
stand_alone now label inner rest stand = λ slot. omega (arith, stand slot)

-- nodes that stand now are shown
shown_is : (now items : Forest) → IsSound items → StandNow now items → with_elision_of (whole now) items ≡ whole items
shown_is now Forest.nil sound stand = refl
shown_is now (Forest.cons label inner rest) sound stand =
    let own = own_shown now label inner rest sound stand in
    let within = shown_is now inner sound.1 (stand_inside now label inner rest stand) in
    let behind = shown_is now rest sound.2 (stand_behind now label inner rest stand) in
    λ i. Forest.cons (record label { elided = own i }) (within i) (behind i)

kept_if : (comment here : Bool) (found : Option Bool) → (comment ≡ true → (x : Bool) → found ≡ Some x → ⊥)
    → (if comment then unwrap_or found here else here) ≡ here
kept_if true here None apart = refl
kept_if true here (Some x) apart = absurd (apart refl x refl)
kept_if false here found apart = refl

-- nodes of which no comment stands now stay as they are
apart_is : (now items : Forest) → ((slot : ℕ) → comments slot items + comments slot now ≤ 1) → with_elision_of now items ≡ items
apart_is now Forest.nil apart = refl
apart_is now (Forest.cons label inner rest) apart =
    let own : elided_now now label ≡ label.elided =
    kept_if (is_comment label.kind) label.elided (elision_in label.slot now)
    (λ c x found. omega (arith, apart label.slot, own_counts label inner rest c, found_counts label.slot now x found)) in
    let within : with_elision_of now inner ≡ inner = apart_is now inner (λ slot. omega (arith, apart slot)) in
    let behind : with_elision_of now rest ≡ rest = apart_is now rest (λ slot. omega (arith, apart slot)) in
    λ i. Forest.cons (record label { elided = own i }) (within i) (behind i)

-- ---- what comes back among nodes that are shown

with_join : (now items others : Forest)
    → with_elision_of now (join items others) ≡ join (with_elision_of now items) (with_elision_of now others)
with_join now Forest.nil others = refl
with_join now (Forest.cons label inner rest) others =
    ap (Forest.cons (record label { elided = elided_now now label }) (with_elision_of now inner)) (with_join now rest others)

-- a node with a part set
abbrev part_set : ℕ → Option PlainPhrase → Forest → Forest
part_set part place Forest.nil = Forest.nil
part_set part place (Forest.cons label inner rest) = forest (with_part part place record { label = label; inner = inner } ∷ [])

-- no comment that comes back stands among the nodes
abbrev ComeApart : PlainUndoing → Option PlainNode → Forest → Type 0
ComeApart undoing back now = (slot : ℕ) → comments slot now + comments slot (coming undoing back) ≤ 1

kept_there : (undoing : PlainUndoing) (back : Option PlainNode) (now : Forest) (node : PlainNode) → ComeApart undoing back now
    → with_elision_of (whole now) (forest (node ∷ [])) ≡ whole (forest (node ∷ []))
    → with_elision_of (whole now) (forest (items_before undoing back node)) ≡ forest (items_before undoing back (whole_node node))
kept_there (PlainUndoing.put come) back now node apart own =
    apart_is (whole now) (forest (come ∷ [])) (λ slot. omega (arith, apart slot, comments_whole slot now))
kept_there PlainUndoing.put_back None now node apart own = own
kept_there PlainUndoing.put_back (Some come) now node apart own =
    apart_is (whole now) (forest (roomless_node come ∷ [])) (λ slot. omega (arith, apart slot, comments_whole slot now))
kept_there (PlainUndoing.set_part part place) back now node apart own = ap (part_set part place) own
kept_there PlainUndoing.take_out back now node apart own = refl
kept_there (PlainUndoing.put_in Side.Before come) back now node apart own =
    let comes : with_elision_of (whole now) (forest (come ∷ [])) ≡ forest (come ∷ []) =
    apart_is (whole now) (forest (come ∷ [])) (λ slot. omega (arith, apart slot, comments_whole slot now)) in
    λ i. join (comes i) (own i)
kept_there (PlainUndoing.put_in Side.After come) back now node apart own =
    let comes : with_elision_of (whole now) (forest (come ∷ [])) ≡ forest (come ∷ []) =
    apart_is (whole now) (forest (come ∷ [])) (λ slot. omega (arith, apart slot, comments_whole slot now)) in
    λ i. join (own i) (comes i)

kept_at : (undoing : PlainUndoing) (back : Option PlainNode) (now : Forest) → ComeApart undoing back now → (path : List ℕ) (items : Forest)
    → IsSound items → StandNow now items
    → with_elision_of (whole now) (edit_at (items_before undoing back) path items) ≡ edit_at (items_before undoing back) path (whole items)
kept_at undoing back now apart [] items sound stand = shown_is now items sound stand
kept_at undoing back now apart (k ∷ path) Forest.nil sound stand = refl
kept_at undoing back now apart (zero ∷ []) (Forest.cons label inner rest) sound stand =
    let node : PlainNode = record { label = label; inner = inner } in
    let own : with_elision_of (whole now) (forest (node ∷ [])) ≡ whole (forest (node ∷ [])) =
    shown_is now (forest (node ∷ [])) (sound.0, sound.1, tt) (stand_alone now label inner rest stand) in
    let there = kept_there undoing back now node apart own in
    let behind = shown_is now rest sound.2 (stand_behind now label inner rest stand) in
    with_join (whole now) (forest (items_before undoing back node)) rest ∙ (λ i. join (there i) (behind i))
kept_at undoing back now apart (zero ∷ (j ∷ path)) (Forest.cons label inner rest) sound stand =
    let own = own_shown now label inner rest sound stand in
    let within = kept_at undoing back now apart (j ∷ path) inner sound.1 (stand_inside now label inner rest stand) in
    let behind = shown_is now rest sound.2 (stand_behind now label inner rest stand) in
    λ i. Forest.cons (record label { elided = own i }) (within i) (behind i)
kept_at undoing back now apart (suc k ∷ path) (Forest.cons label inner rest) sound stand =
    let own = own_shown now label inner rest sound stand in
    let within = shown_is now inner sound.1 (stand_inside now label inner rest stand) in
    let behind = kept_at undoing back now apart (k ∷ path) rest sound.2 (stand_behind now label inner rest stand) in
    λ i. Forest.cons (record label { elided = own i }) (within i) (behind i)

-- what comes back, shown where it stands now, is what comes back among the nodes that are shown
pub undone_shown : (receipt : PlainReceipt) (back : Option PlainNode) (tree : PlainTree) → IsTree tree
    → ComeApart receipt.undoing back tree.items
    → with_elision_of (whole tree.items) (undone receipt back tree).items
    ≡ edit_at (items_before receipt.undoing back) receipt.path (whole tree.items)
undone_shown receipt back tree t apart =
    kept_at receipt.undoing back tree.items apart receipt.path tree.items (sound_nodes tree.items t.program.sound) (λ slot. omega arith)

-- ---- where only comments are elided

-- the elision of a node, by whether it is a comment
by_comment : (kind : NodeKind) (here there b : Bool) → is_comment kind ≡ b → (is_comment kind ≡ false → there ≡ here)
    → (here ≡ true → kind ≡ NodeKind.Filled Template.Comment) → there ≡ true → kind ≡ NodeKind.Filled Template.Comment
by_comment kind here there true e same sound is = comment_is kind e
by_comment kind here there false e same sound is = sound (sym (same e) ∙ is)

-- a node that is no comment keeps its elision
not_turned : (now : Forest) (label : Label) → is_comment label.kind ≡ false → elided_now now label ≡ label.elided
not_turned now label e =
    ap (λ (b : Bool). if b then unwrap_or (elision_in label.slot now) label.elided else label.elided) e

sound_with : (now items : Forest) → IsSound items → IsSound (with_elision_of now items)
sound_with now Forest.nil sound = tt
sound_with now (Forest.cons label inner rest) sound = (
  by_comment label.kind label.elided (elided_now now label) (is_comment label.kind) refl (not_turned now label) sound.0,
  sound_with now inner sound.1,
  sound_with now rest sound.2,
)

sound_without : (now items : Forest) → IsSound (with_elision_of now items) → IsSound items
sound_without now Forest.nil sound = tt
sound_without now (Forest.cons label inner rest) sound = (
  by_comment label.kind (elided_now now label) label.elided (is_comment label.kind) refl (λ e. sym (not_turned now label e)) sound.0,
  sound_without now inner sound.1,
  sound_without now rest sound.2,
)

sound_there : (undoing : PlainUndoing) (back : Option PlainNode) (node other : PlainNode) (rest behind : Forest)
    → IsSound (forest (other ∷ [])) → IsSound behind → IsSound (join (forest (items_before undoing back node)) rest)
    → IsSound (join (forest (items_before undoing back other)) behind)
sound_there (PlainUndoing.put come) back node other rest behind own after h = (h.0, h.1, after)
sound_there PlainUndoing.put_back None node other rest behind own after h = (own.0, own.1, after)
sound_there PlainUndoing.put_back (Some come) node other rest behind own after h = (h.0, h.1, after)
sound_there (PlainUndoing.set_part part place) back node other rest behind own after h = (own.0, own.1, after)
sound_there PlainUndoing.take_out back node other rest behind own after h = after
sound_there (PlainUndoing.put_in Side.Before come) back node other rest behind own after h = (h.0, h.1, (own.0, own.1, after))
sound_there (PlainUndoing.put_in Side.After come) back node other rest behind own after h =
    (own.0, own.1, (h.2.0, h.2.1, after))

-- what comes back is sound among nodes that are the same but for elision, too
sound_at : (undoing : PlainUndoing) (back : Option PlainNode) (path : List ℕ) (one other : Forest) → whole one ≡ whole other
    → IsSound other → IsSound (edit_at (items_before undoing back) path one) → IsSound (edit_at (items_before undoing back) path other)
sound_at undoing back [] one other same sound h = sound
sound_at undoing back (k ∷ path) Forest.nil Forest.nil same sound h = tt
sound_at undoing back (k ∷ path) Forest.nil (Forest.cons label inner rest) same sound h = absurd (omega (arith, ap count same))
sound_at undoing back (k ∷ path) (Forest.cons label inner rest) Forest.nil same sound h = tt
sound_at undoing back (zero ∷ []) (Forest.cons label inner rest) (Forest.cons label' inner' rest') same sound h =
    sound_there undoing back record { label = label; inner = inner } record { label = label'; inner = inner' } rest rest'
    (sound.0, sound.1, tt) sound.2 h
sound_at undoing back (zero ∷ (j ∷ path)) (Forest.cons label inner rest) (Forest.cons label' inner' rest') same sound h =
    (sound.0, sound_at undoing back (j ∷ path) inner inner' (ap inner_of same) sound.1 h.1, sound.2)
sound_at undoing back (suc k ∷ path) (Forest.cons label inner rest) (Forest.cons label' inner' rest') same sound h =
    (sound.0, sound.1, sound_at undoing back (k ∷ path) rest rest' (ap rest_of same) sound.2 h.2)

-- ---- a receipt that fits

-- the elision of other nodes makes no other nodes
pub whole_with : (now items : Forest) → whole (with_elision_of now items) ≡ whole items
whole_with now Forest.nil = refl
whole_with now (Forest.cons label inner rest) =
    λ i. Forest.cons (record label { elided = false }) (whole_with now inner i) (whole_with now rest i)

-- an edit in a slot is undone so at a node that is there, whatever else it is
in_slot : (slot : ℕ) (undoing : PlainUndoing) (back : Option PlainNode) (node other : PlainNode) → node.label.slot ≡ other.label.slot
    → IsUndoneIn slot undoing back node → IsUndoneIn slot undoing back other
in_slot slot (PlainUndoing.put come) back node other same h = (h.0, sym same ∙ h.1)
in_slot slot PlainUndoing.put_back back node other same h = (h.0, sym same ∙ h.1)
in_slot slot (PlainUndoing.set_part part place) back node other same h = sym same ∙ h
in_slot slot PlainUndoing.take_out back node other same h = sym same ∙ h
in_slot slot (PlainUndoing.put_in side come) back node other same h = h

there_alike : (slot : ℕ) (undoing : PlainUndoing) (back : Option PlainNode) (one other : Option PlainNode)
    → option_map whole_node one ≡ option_map whole_node other → IsSomeAnd one (IsUndoneIn slot undoing back)
    → IsSomeAnd other (IsUndoneIn slot undoing back)
there_alike slot undoing back None other same h = absurd h
there_alike slot undoing back (Some node) None same h = absurd (none-some (whole_node node) (sym same))
there_alike slot undoing back (Some node) (Some other) same h =
    in_slot slot undoing back node other
    (ap (λ (n : PlainNode). n.label.slot) (same_Some (whole_node node) (whole_node other) same)) h

changed_alike : (what : What) (one before other before' : Forest) → whole one ≡ whole other → whole before ≡ whole before'
    → whole (changed_in what one before) ≡ whole (changed_in what other before')
changed_alike What.Node one before other before' ones befores = befores
changed_alike (What.Part part) one before other before' ones befores = befores
changed_alike What.Added one before other before' ones befores = befores
changed_alike What.Dropped one before other before' ones befores = ones

-- a receipt that fits a tree fits one that is the same but for elision, and what comes back is the same but for elision
pub revert_alike : (receipt : PlainReceipt) (back : Option PlainNode) (one other : PlainTree) → IsTree one → IsTree other
    → whole one.items ≡ whole other.items → one.drawn ≡ other.drawn → CanRevert receipt back one → RevertAlike receipt back one other
revert_alike receipt back one other t u same drawn can =
    let items = one.items in
    let others = other.items in
    let gone : whole (undone receipt back one).items ≡ whole (undone receipt back other).items =
    whole_undone receipt.undoing back receipt.path items others same in
    let apart : (slot : ℕ) → comments slot others + comments slot (coming receipt.undoing back) ≤ 1 =
    λ slot. omega (arith, can.apart slot, comments_whole slot items, ap (comments slot) same, comments_whole slot others) in
    let befores : whole (Before one receipt back).items ≡ whole (Before other receipt back).items =
    whole_with items (undone receipt back one).items ∙ (gone ∙ sym (whole_with others (undone receipt back other).items)) in
    let sound : IsSound (Before other receipt back).items =
    sound_with others (undone receipt back other).items
    (sound_at receipt.undoing back receipt.path items others same (sound_nodes others u.program.sound)
    (sound_without items (undone receipt back one).items (sound_nodes (Before one receipt back).items can.before.program.sound))) in
    let before : IsTree (Before other receipt back) =
    tree_alike (Before one receipt back) (Before other receipt back) befores drawn refl sound can.before in
    let what = receipt.change.what in
    let slot = receipt.change.slot.0 in
    let changes : Forest = changed_in what (undone receipt back one).items items in
    let changes' : Forest = changed_in what (undone receipt back other).items others in
    record {
      fits =
          record {
            what = can.what;
            there =
                there_alike slot receipt.undoing back (node_at items receipt.path) (node_at others receipt.path)
                (sym (node_whole items receipt.path) ∙ (ap (λ f. node_at f receipt.path) same ∙ node_whole others receipt.path))
                can.there;
            within =
                sym (procedure_whole changes' slot)
                ∙ (ap (λ f. procedure_of f slot) (sym (changed_alike what (undone receipt back one).items items (undone receipt back other).items others gone same))
                ∙ (procedure_whole changes slot ∙ can.within));
            before = before;
            apart = apart;
          };
      before = befores;
      shown =
          undone_shown receipt back one t can.apart
          ∙ (ap (edit_at (items_before receipt.undoing back) receipt.path) same ∙ sym (undone_shown receipt back other u apart));
    }

-- ---- a comment turned

turned_whole : (node : PlainNode) → map whole_node (toggled node) ≡ whole_node node ∷ []
turned_whole node = by (is_comment node.label.kind)
  where
    by : (b : Bool)
        → map whole_node
        ((if b then record node { label = record node.label { elided = not node.label.elided } } else node) ∷ [])
        ≡ whole_node node ∷ []
    by true = refl
    by false = refl

-- it is the same nodes but for elision
pub whole_toggled : (path : List ℕ) (items : Forest) → whole (edit_at toggled path items) ≡ whole items
whole_toggled path items = whole_edit toggled (λ node. node ∷ []) turned_whole path items ∙ stays path (whole items)

turned_sound : (b : Bool) (label : Label) (inner rest : Forest) → is_comment label.kind ≡ b → IsSound (Forest.cons label inner rest)
    → IsSound (Forest.cons (if b then record label { elided = not label.elided } else label) inner rest)
turned_sound true label inner rest e sound = (λ _. comment_is label.kind e, sound.1, sound.2)
turned_sound false label inner rest e sound = sound

-- the label of a node that is turned
turned_at : (b : Bool) (label : Label) (inner rest : Forest)
    → IsSound (Forest.cons (if b then record label { elided = not label.elided } else label) inner rest)
    → IsSound
    (join
    (forest
    ((if b then record { label = record label { elided = not label.elided }; inner = inner } else record { label = label; inner = inner })
    ∷ []))
    rest)
turned_at true label inner rest sound = sound
turned_at false label inner rest sound = sound

sound_toggled : (path : List ℕ) (items : Forest) → IsSound items → IsSound (edit_at toggled path items)
sound_toggled [] items sound = sound
sound_toggled (k ∷ path) Forest.nil sound = tt
sound_toggled (zero ∷ []) (Forest.cons label inner rest) sound =
    turned_at (is_comment label.kind) label inner rest (turned_sound (is_comment label.kind) label inner rest refl sound)
sound_toggled (zero ∷ (j ∷ path)) (Forest.cons label inner rest) sound = (sound.0, sound_toggled (j ∷ path) inner sound.1, sound.2)
sound_toggled (suc k ∷ path) (Forest.cons label inner rest) sound = (sound.0, sound.1, sound_toggled (k ∷ path) rest sound.2)

-- it is a tree all the same
pub turned_tree : (tree : PlainTree) (path : List ℕ) → IsTree tree → IsTree (with_toggled_at path tree)
turned_tree tree path t =
    tree_alike tree (with_toggled_at path tree) (sym (whole_toggled path tree.items)) refl refl
    (sound_toggled path tree.items (sound_nodes tree.items t.program.sound)) t
