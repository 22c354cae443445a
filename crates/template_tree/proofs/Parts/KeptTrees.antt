-- A tree stays one where the label of a node gives way to one of the same slot and kind.
use Rattle.std.specs.Prelude.{◌≡◌, refl, ℕ, zero, suc, ◌+◌, ◌<◌, max, Bool, true, false, not, if◌then◌else◌, ◌==◌, List, [], ◌∷◌, Option, Some, None, slice_get, slice_set}
use Rattle.std.proofs.Common.{ap, sym, ◌∙◌, subst, arith}
use Rattle.std.proofs.Math.Bool.{false≢true}
use Rattle.std.proofs.lemmas.Option.{none-some}
use Rattle.plcs_grammar.specs.declared.category.Category.{Category}
use Rattle.plcs_grammar.specs.declared.node_kind.NodeKind.{NodeKind}
use Rattle.plcs_grammar.specs.declared.template.Template.{Template}
use Rattle.plcs_grammar.specs.declared.template.Template.TheVariants.{Comment}
use Rattle.plcs_grammar.specs.PlainPhrase.{PlainPhrase}
use Rattle.plcs_grammar.specs.Template.{row_of, program_sections}
use Rattle.template_tree.specs.Programs.PlainTree.{Label, Forest, PlainNode, PlainTree}
use Rattle.template_tree.specs.Programs.Program.{sorts, sort_of, parts_of, Fill, AreParts, IsNode, IsPartPhrase, AreNodes, IsSubtree}
use Rattle.template_tree.specs.Programs.Part.{Takes, IsPhrasePlace, part_category, with_part}
use Rattle.template_tree.specs.Programs.Slots.{count, depth, first_slot, times, AllBelow}
use Rattle.template_tree.specs.Positions.Path.{node_at}
use Rattle.template_tree.specs.Programs.Tree.{IsTree}
use Rattle.template_tree.specs.Edits.Edit.{edit_at, Part, edit_slot, with_items}
use Rattle.template_tree.specs.Edits.Lend.{with_node}
use Rattle.template_tree.specs.Edits.Elision.{is_comment, toggled}
use Rattle.template_tree.proofs.Edits.SameEdits.{taken, edits_alike}
use Rattle.template_tree.proofs.Edits.SlotEdits.{slot_edit_is_path_edit}
use Rattle.template_tree.proofs.Trees.Subtrees.{subtree_at}

-- the new node has the slot, the kind and the inner nodes of the one before, and is what its row asks for
pub record Relabels (node new : PlainNode) : Type 0 where
  pub slot : new.label.slot ≡ node.label.slot
  pub kind : new.label.kind ≡ node.label.kind
  pub inner : new.inner ≡ node.inner
  pub sound : IsNode new.label (sorts new.inner)

-- the nodes after are as many as those before, as deep, with the same sorts and slots, and as sound
pub record Alike (before after : Forest) : Type 0 where
  pub sorts_are : sorts after ≡ sorts before
  pub count_is : count after ≡ count before
  pub depth_is : depth after ≡ depth before
  pub times_are : (slot : ℕ) → times slot after ≡ times slot before
  pub first_is : first_slot after ≡ first_slot before
  pub below : (number : ℕ) → AllBelow number before → AllBelow number after
  pub sound : AreNodes before → AreNodes after

-- so they are where the first node has another label
first_alike : (label : Label) (inner rest : Forest) (new : PlainNode) → Relabels record { label = label; inner = inner } new
    → Alike (Forest.cons label inner rest) (Forest.cons new.label new.inner rest)
first_alike label inner rest new r =
    record {
      sorts_are = ap (λ kind. sort_of kind ∷ sorts rest) r.kind;
      count_is = ap (λ i. count i + count rest + 1) r.inner;
      depth_is = ap (λ i. max (depth i + 1) (depth rest)) r.inner;
      times_are = λ slot. λ i. (if r.slot i == slot then 1 else 0) + (times slot (r.inner i) + times slot rest);
      first_is = ap Some r.slot;
      below = λ number h. (subst (λ s. s < number) (sym r.slot) h.0, subst (AllBelow number) (sym r.inner) h.1, h.2);
      sound = λ h. (r.sound, subst AreNodes (sym r.inner) h.1, h.2);
    }

-- where what stands inside the first node is so
inner_alike : (label : Label) (before after rest : Forest) → Alike before after
    → Alike (Forest.cons label before rest) (Forest.cons label after rest)
inner_alike label before after rest a =
    record {
      sorts_are = refl;
      count_is = ap (λ n. n + count rest + 1) a.count_is;
      depth_is = ap (λ n. max (n + 1) (depth rest)) a.depth_is;
      times_are = λ slot. ap (λ n. (if label.slot == slot then 1 else 0) + (n + times slot rest)) (a.times_are slot);
      first_is = refl;
      below = λ number h. (h.0, a.below number h.1, h.2);
      sound = λ h. (subst (IsNode label) (sym a.sorts_are) h.0, a.sound h.1, h.2);
    }

-- and where the nodes behind the first are so
rest_alike : (label : Label) (inner before after : Forest) → Alike before after
    → Alike (Forest.cons label inner before) (Forest.cons label inner after)
rest_alike label inner before after a =
    record {
      sorts_are = ap (λ ss. sort_of label.kind ∷ ss) a.sorts_are;
      count_is = ap (λ n. count inner + n + 1) a.count_is;
      depth_is = ap (λ n. max (depth inner + 1) n) a.depth_is;
      times_are = λ slot. ap (λ n. (if label.slot == slot then 1 else 0) + (times slot inner + n)) (a.times_are slot);
      first_is = refl;
      below = λ number h. (h.0, h.1, a.below number h.2);
      sound = λ h. (h.0, h.1, a.sound h.2);
    }

-- the nodes where the one at a path has another label
pub edit_alike : (items : Forest) (path : List ℕ) (node new : PlainNode) → node_at items path ≡ Some node → Relabels node new
    → Alike items (edit_at (λ _. new ∷ []) path items)
edit_alike items [] node new e r = absurd (none-some node e)
edit_alike Forest.nil (k ∷ path) node new e r = absurd (none-some node e)
edit_alike (Forest.cons label inner rest) (zero ∷ []) node new e r =
    let same : record { label = label; inner = inner } ≡ node = ap (taken node) e in
    first_alike label inner rest new (subst (λ n. Relabels n new) (sym same) r)
edit_alike (Forest.cons label inner rest) (zero ∷ (j ∷ path)) node new e r =
    inner_alike label inner (edit_at (λ _. new ∷ []) (j ∷ path) inner) rest (edit_alike inner (j ∷ path) node new e r)
edit_alike (Forest.cons label inner rest) (suc k ∷ path) node new e r =
    rest_alike label inner rest (edit_at (λ _. new ∷ []) (k ∷ path) rest) (edit_alike rest (k ∷ path) node new e r)

-- a tree of which a node has another label is a tree
pub kept_tree : (tree : PlainTree) (path : List ℕ) (node new : PlainNode) → IsTree tree → node_at tree.items path ≡ Some node
    → Relabels node new → IsTree (with_node tree path new)
kept_tree tree path node new t e r =
    let a = edit_alike tree.items path node new e r in
    record {
      program =
          record { listed = subst (Fill program_sections) (sym a.sorts_are) t.program.listed; sound = a.sound t.program.sound };
      shallow = omega (arith, a.depth_is, t.shallow);
      few = omega (arith, a.count_is, t.few);
      drawn_few = t.drawn_few;
      drawn = a.below tree.drawn t.drawn;
      once = λ slot. omega (arith, a.times_are slot, t.once slot);
      main = a.first_is ∙ t.main;
      live = t.live ∙ sym a.count_is;
    }

-- so is the tree of those items, with as many live slots
pub kept_items : (tree : PlainTree) (items : Forest) → IsTree tree → Alike tree.items items
    → IsTree (with_items tree items tree.drawn) × ((with_items tree items tree.drawn).live ≡ tree.live)
kept_items tree items t a = (
  record {
    program =
        record { listed = subst (Fill program_sections) (sym a.sorts_are) t.program.listed; sound = a.sound t.program.sound };
    shallow = omega (arith, a.depth_is, t.shallow);
    few = omega (arith, a.count_is, t.few);
    drawn_few = t.drawn_few;
    drawn = a.below tree.drawn t.drawn;
    once = λ slot. omega (arith, a.times_are slot, t.once slot);
    main = a.first_is ∙ t.main;
    live = refl;
  },
  a.count_is ∙ sym t.live,
)

-- parts of which one is set to what it takes
parts_set : (categories : List Category) (parts : List (Option PlainPhrase)) (k : ℕ) (place : Option PlainPhrase) → AreParts categories parts
    → Takes (slice_get categories k) place → IsPhrasePlace place → AreParts categories (slice_set parts k place)
parts_set [] parts k place h t p = absurd t
parts_set (category ∷ categories) [] k place h t p = absurd h
parts_set (category ∷ categories) (part ∷ parts) zero None h t p = (t, h.1)
parts_set (category ∷ categories) (part ∷ parts) zero (Some phrase) h t p = (subst (λ c. IsPartPhrase c phrase) t p, h.1)
parts_set (category ∷ categories) (part ∷ parts) (suc k) place h t p = (h.0, parts_set categories parts k place h.1 t p)

-- a node of which a part is set
pub part_relabels : (node : PlainNode) (part : ℕ) (place : Option PlainPhrase) → IsSubtree node
    → Takes (part_category node.label.kind part) place → IsPhrasePlace place → Relabels node (with_part part place node)
part_relabels node part place sound takes place_is =
    record {
      slot = refl;
      kind = refl;
      inner = refl;
      sound =
          record {
            parts = parts_set (parts_of (row_of node.label.kind).line) node.label.parts part place sound.0.parts takes place_is;
            inner = sound.0.inner;
            elision = sound.0.elision;
          };
    }

-- the first of a list, or else the node
abbrev first : PlainNode → List PlainNode → PlainNode
first node [] = node
first node (item ∷ items) = item

-- the kind of comments
pub comment_is : (kind : NodeKind) → is_comment kind ≡ true → kind ≡ NodeKind.Filled Template.Comment
comment_is (NodeKind.Filled Comment) e = refl
comment_is other e = absurd (false≢true e)

-- a node that is turned where it is a comment
turned_if : (b : Bool) (node : PlainNode) → is_comment node.label.kind ≡ b → IsSubtree node
    → Relabels node (if b then record node { label = record node.label { elided = not node.label.elided } } else node)
turned_if true node e sound =
    record {
      slot = refl;
      kind = refl;
      inner = refl;
      sound = record { parts = sound.0.parts; inner = sound.0.inner; elision = λ _. comment_is node.label.kind e };
    }
turned_if false node e sound = record { slot = refl; kind = refl; inner = refl; sound = sound.0 }

pub turned_relabels : (node new : PlainNode) → IsSubtree node → toggled node ≡ new ∷ [] → Relabels node new
turned_relabels node new sound e = subst (Relabels node) (ap (first node) e) (turned_if (is_comment node.label.kind) node refl sound)

-- a tree of which a part of the node in a slot is set
pub part_keeps_tree : (tree : PlainTree) (path : List ℕ) (node : PlainNode) (part : ℕ) (place : Option PlainPhrase) → IsTree tree
    → node_at tree.items path ≡ Some node → Takes (part_category node.label.kind part) place → IsPhrasePlace place
    → IsTree (Part tree node.label.slot part place) × ((Part tree node.label.slot part place).live ≡ tree.live)
part_keeps_tree tree path node part place t there takes place_is =
    let change : PlainNode → List PlainNode = λ n. with_part part place n ∷ [] in
    let new = with_part part place node in
    let same : edit_at (λ _. new ∷ []) path tree.items ≡ edit_slot node.label.slot change tree.items =
    edits_alike (λ _. new ∷ []) change tree.items path node there refl
    ∙ sym (slot_edit_is_path_edit change tree.items path node (t.once node.label.slot) there) in
    let relabels = part_relabels node part place (subtree_at tree.items path node t.program.sound there) takes place_is in
    kept_items tree (edit_slot node.label.slot change tree.items) t
    (subst (Alike tree.items) same (edit_alike tree.items path node new there relabels))
