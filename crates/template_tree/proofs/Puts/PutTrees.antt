-- A tree stays one where a node of its sort comes into a slot.
use Rattle.std.specs.Prelude.{◌≡◌, refl, ℕ, zero, suc, ◌+◌, ◌<◌, ◌≤◌, if◌then◌else◌, ◌==◌, List, [], ◌∷◌, Some}
use Rattle.std.proofs.Common.{ap, sym, ◌∙◌, subst, arith, inl, inr}
use Rattle.std.proofs.Math.Bool.{false≢true}
use Rattle.std.proofs.lemmas.Bool.{cases_lt, ne_eqb}
use Rattle.std.proofs.lemmas.Option.{none-some}
use Rattle.plcs_grammar.specs.Template.{row_of, program_sections}
use Rattle.template_tree.specs.Programs.PlainTree.{Label, Forest, PlainNode, PlainTree}
use Rattle.template_tree.specs.Programs.Program.{sorts, sort_of, Fill, IsNode, AreNodes, IsSubtree}
use Rattle.template_tree.specs.Programs.Slots.{count, depth, first_slot, times, AllBelow, with_slots_from}
use Rattle.template_tree.specs.Positions.Path.{node_at}
use Rattle.template_tree.specs.Programs.Limit.{deepest_path, most_slots, most_drawn_slots}
use Rattle.template_tree.specs.Programs.Tree.{IsTree}
use Rattle.template_tree.specs.Edits.Edit.{edit_at, Put, edit_slot, node_in_slot, whole}
use Rattle.template_tree.proofs.Edits.SameEdits.{taken}
use Rattle.template_tree.proofs.Trees.DrawnSlots.{count_numbered, sorts_numbered, nodes_numbered, below_numbered, none_before, once_numbered}
use Rattle.template_tree.proofs.Edits.SlotEdits.{slot_edit_is_path_edit}

-- a node comes in place of one of its slot and sort: what stands inside it may be other
pub record Replaces (node new : PlainNode) : Type 0 where
  pub slot : new.label.slot ≡ node.label.slot
  pub sort : sort_of new.label.kind ≡ sort_of node.label.kind
  pub sound : IsSubtree new

-- the nodes after, where these inner nodes went and those came
pub record Replaced (before after gone come : Forest) : Type 0 where
  pub sorts_are : sorts after ≡ sorts before
  pub count_is : count after + count gone ≡ count before + count come
  pub times_are : (slot : ℕ) → times slot after + times slot gone ≡ times slot before + times slot come
  pub first_is : first_slot after ≡ first_slot before
  pub below : (number : ℕ) → AllBelow number before → AllBelow number come → AllBelow number after
  pub sound : AreNodes before → AreNodes after

-- so many and what is counted in the first, in the others and elsewhere
swapped : (a b : ℕ) (gone come rest : ℕ) → a ≡ b → (a + (come + rest)) + gone ≡ (b + (gone + rest)) + come
swapped a b gone come rest e = omega (arith, e)

-- so they are where the first node gives way
first_replaced : (label : Label) (inner rest : Forest) (new : PlainNode) → Replaces record { label = label; inner = inner } new
    → Replaced (Forest.cons label inner rest) (Forest.cons new.label new.inner rest) inner new.inner
first_replaced label inner rest new r =
    record {
      sorts_are = ap (λ sort. sort ∷ sorts rest) r.sort;
      count_is = omega arith;
      times_are =
          λ slot.
          swapped (if new.label.slot == slot then 1 else 0) (if label.slot == slot then 1 else 0) (times slot inner)
          (times slot new.inner) (times slot rest) (ap (λ s. if s == slot then 1 else 0) r.slot);
      first_is = ap Some r.slot;
      below = λ number h come. (subst (λ s. s < number) (sym r.slot) h.0, come, h.2);
      sound = λ h. (r.sound.0, r.sound.1, h.2);
    }

-- where what stands inside the first node is so
inner_replaced : (label : Label) (before after rest gone come : Forest) → Replaced before after gone come
    → Replaced (Forest.cons label before rest) (Forest.cons label after rest) gone come
inner_replaced label before after rest gone come a =
    record {
      sorts_are = refl;
      count_is = omega (arith, a.count_is);
      times_are = λ slot. omega (arith, a.times_are slot);
      first_is = refl;
      below = λ number h new. (h.0, a.below number h.1 new, h.2);
      sound = λ h. (subst (IsNode label) (sym a.sorts_are) h.0, a.sound h.1, h.2);
    }

-- and where the nodes behind the first are so
rest_replaced : (label : Label) (inner before after gone come : Forest) → Replaced before after gone come
    → Replaced (Forest.cons label inner before) (Forest.cons label inner after) gone come
rest_replaced label inner before after gone come a =
    record {
      sorts_are = ap (λ ss. sort_of label.kind ∷ ss) a.sorts_are;
      count_is = omega (arith, a.count_is);
      times_are = λ slot. omega (arith, a.times_are slot);
      first_is = refl;
      below = λ number h new. (h.0, h.1, a.below number h.2 new);
      sound = λ h. (h.0, h.1, a.sound h.2);
    }

-- the nodes where the one at a path gives way
pub edit_replaced : (items : Forest) (path : List ℕ) (node new : PlainNode) → node_at items path ≡ Some node → Replaces node new
    → Replaced items (edit_at (λ _. new ∷ []) path items) node.inner new.inner
edit_replaced items [] node new e r = absurd (none-some node e)
edit_replaced Forest.nil (k ∷ path) node new e r = absurd (none-some node e)
edit_replaced (Forest.cons label inner rest) (zero ∷ []) node new e r =
    let there : PlainNode = record { label = label; inner = inner } in
    let same : there ≡ node = ap (taken node) e in
    subst (λ (n : PlainNode). Replaced (Forest.cons label inner rest) (Forest.cons new.label new.inner rest) n.inner new.inner) same
    (first_replaced label inner rest new (subst (λ n. Replaces n new) (sym same) r))
edit_replaced (Forest.cons label inner rest) (zero ∷ (j ∷ path)) node new e r =
    inner_replaced label inner (edit_at (λ _. new ∷ []) (j ∷ path) inner) rest node.inner new.inner
    (edit_replaced inner (j ∷ path) node new e r)
edit_replaced (Forest.cons label inner rest) (suc k ∷ path) node new e r =
    rest_replaced label inner rest (edit_at (λ _. new ∷ []) (k ∷ path) rest) node.inner new.inner
    (edit_replaced rest (k ∷ path) node new e r)

-- slots below a number are below a greater one
pub below_more : (less more : ℕ) (items : Forest) → less ≤ more → AllBelow less items → AllBelow more items
below_more less more Forest.nil le h = tt
below_more less more (Forest.cons label inner rest) le h =
    (omega (arith, le, h.0), below_more less more inner le h.1, below_more less more rest le h.2)

-- one where the two are the same
abbrev one_if : ℕ → ℕ → ℕ
one_if a b = if a == b then 1 else 0

-- other numbers are not one slot
apart : (a b : ℕ) → a < b → one_if a b ≡ 0
apart a b less = rw (ne_eqb a b (λ same. omega arith)) refl

-- a slot that is not below them doesn't stand among them
pub none_above : (slot number : ℕ) (items : Forest) → number ≤ slot → AllBelow number items → times slot items ≡ 0
none_above slot number Forest.nil le h = refl
none_above slot number (Forest.cons label inner rest) le h =
    omega (arith, apart label.slot slot (omega (arith, le, h.0)), none_above slot number inner le h.1, none_above slot number rest le h.2)

-- it makes no difference to what nodes are that nothing is elided
pub sorts_whole : (items : Forest) → sorts (whole items) ≡ sorts items
sorts_whole Forest.nil = refl
sorts_whole (Forest.cons label inner rest) = ap (λ ss. sort_of label.kind ∷ ss) (sorts_whole rest)

pub count_whole : (items : Forest) → count (whole items) ≡ count items
count_whole Forest.nil = refl
count_whole (Forest.cons label inner rest) = λ i. count_whole inner i + count_whole rest i + 1

pub nodes_whole : (items : Forest) → AreNodes items → AreNodes (whole items)
nodes_whole Forest.nil h = tt
nodes_whole (Forest.cons label inner rest) h = (
  record {
    parts = h.0.parts;
    inner = subst (λ ss. Fill (row_of label.kind).sections ss) (sym (sorts_whole inner)) h.0.inner;
    elision = λ e. absurd (false≢true e);
  },
  nodes_whole inner h.1,
  nodes_whole rest h.2,
)

-- a node as it comes into a slot
placed_replaces : (node new : PlainNode) (next : ℕ) → IsSubtree new → sort_of new.label.kind ≡ sort_of node.label.kind
    → Replaces node (node_in_slot node.label.slot next new)
placed_replaces node new next sound same =
    let kinds : sorts (with_slots_from next (whole new.inner)) ≡ sorts new.inner = sorts_numbered next (whole new.inner) ∙ sorts_whole new.inner in
    record {
      slot = refl;
      sort = same;
      sound = (
        record {
          parts = sound.0.parts;
          inner = subst (λ ss. Fill (row_of new.label.kind).sections ss) (sym kinds) sound.0.inner;
          elision = λ e. absurd (false≢true e);
        },
        nodes_numbered next (whole new.inner) (nodes_whole new.inner sound.1),
      );
    }

-- a slot stands but once where those before were drawn, and those that come were not
once_again : (slot drawn : ℕ) (before after gone come : Forest) → AllBelow drawn before → times slot before ≤ 1
    → times slot after + times slot gone ≡ times slot before + times slot (with_slots_from drawn come) → times slot after ≤ 1
once_again slot drawn before after gone come below once e =
    elim (cases_lt slot drawn) [
      | inl old ↦ omega (arith, once, e, none_before slot drawn come old)
      | inr new ↦ omega (arith, e, none_above slot drawn before new below, once_numbered slot drawn come)
    ]

-- a tree is one where a node of the sort comes into a slot, and the limits hold
pub put_keeps_tree : (tree : PlainTree) (path : List ℕ) (node new : PlainNode) → IsTree tree → node_at tree.items path ≡ Some node
    → IsSubtree new → sort_of new.label.kind ≡ sort_of node.label.kind
    → depth (Put tree node.label.slot new).items ≤ deepest_path → (Put tree node.label.slot new).live ≤ most_slots
    → (Put tree node.label.slot new).drawn ≤ most_drawn_slots
    → IsTree (Put tree node.label.slot new) × ((Put tree node.label.slot new).live + count node.inner ≡ tree.live + count new.inner)
put_keeps_tree tree path node new t there sound same shallow few drawn_few =
    let come = node_in_slot node.label.slot tree.drawn new in
    let after : Forest = edit_slot node.label.slot (λ _. come ∷ []) tree.items in
    let by_path : edit_at (λ _. come ∷ []) path tree.items ≡ after =
    sym (slot_edit_is_path_edit (λ _. come ∷ []) tree.items path node (t.once node.label.slot) there) in
    let r : Replaced tree.items after node.inner come.inner =
    subst (λ (f : Forest). Replaced tree.items f node.inner come.inner) by_path
    (edit_replaced tree.items path node come there (placed_replaces node new tree.drawn sound same)) in
    let drawn : AllBelow (tree.drawn + count new.inner) come.inner =
    below_numbered tree.drawn (tree.drawn + count new.inner) (whole new.inner) (omega (arith, count_whole new.inner))
    in (
      record {
        program =
            record { listed = subst (Fill program_sections) (sym r.sorts_are) t.program.listed; sound = r.sound t.program.sound };
        shallow = shallow;
        few = few;
        drawn_few = drawn_few;
        drawn =
            r.below (tree.drawn + count new.inner)
            (below_more tree.drawn (tree.drawn + count new.inner) tree.items (omega arith) t.drawn) drawn;
        once = λ slot. once_again slot tree.drawn tree.items after node.inner (whole new.inner) t.drawn (t.once slot) (r.times_are slot);
        main = r.first_is ∙ t.main;
        live = refl;
      },
      omega (arith, r.count_is, count_numbered tree.drawn (whole new.inner), count_whole new.inner, t.live),
    )
