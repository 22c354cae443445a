-- The room of lists makes no difference to what is a tree.
use Rattle.std.specs.Prelude.{◌≡◌, refl, ℕ, ◌+◌, max, if◌then◌else◌, ◌==◌, ◌∷◌}
use Rattle.std.proofs.Common.{ap, subst}
use Rattle.plcs_grammar.specs.Template.{row_of}
use Rattle.template_tree.specs.Programs.PlainTree.{Forest, roomless}
use Rattle.template_tree.specs.Programs.Program.{sorts, sort_of, Fill, AreNodes}
use Rattle.template_tree.specs.Programs.Slots.{count, depth, first_slot, times, AllBelow}

pub sorts_roomless : (items : Forest) → sorts (roomless items) ≡ sorts items
sorts_roomless Forest.nil = refl
sorts_roomless (Forest.cons label inner rest) = ap (λ ss. sort_of label.kind ∷ ss) (sorts_roomless rest)

pub first_roomless : (items : Forest) → first_slot (roomless items) ≡ first_slot items
first_roomless Forest.nil = refl
first_roomless (Forest.cons label inner rest) = refl

pub count_roomless : (items : Forest) → count (roomless items) ≡ count items
count_roomless Forest.nil = refl
count_roomless (Forest.cons label inner rest) = λ i. count_roomless inner i + count_roomless rest i + 1

pub depth_roomless : (items : Forest) → depth (roomless items) ≡ depth items
depth_roomless Forest.nil = refl
depth_roomless (Forest.cons label inner rest) = λ i. max (depth_roomless inner i + 1) (depth_roomless rest i)

pub times_roomless : (slot : ℕ) (items : Forest) → times slot (roomless items) ≡ times slot items
times_roomless slot Forest.nil = refl
times_roomless slot (Forest.cons label inner rest) =
    ap (λ n. (if label.slot == slot then 1 else 0) + n) (λ i. times_roomless slot inner i + times_roomless slot rest i)

pub below_roomless : (number : ℕ) (items : Forest) → AllBelow number (roomless items) → AllBelow number items
below_roomless number Forest.nil h = h
below_roomless number (Forest.cons label inner rest) h = (h.0, below_roomless number inner h.1, below_roomless number rest h.2)

pub nodes_roomless : (items : Forest) → AreNodes (roomless items) → AreNodes items
nodes_roomless Forest.nil h = h
nodes_roomless (Forest.cons label inner rest) h = (
  record { parts = h.0.parts; inner = subst (λ ss. Fill (row_of label.kind).sections ss) (sorts_roomless inner) h.0.inner; elision = h.0.elision },
  nodes_roomless inner h.1,
  nodes_roomless rest h.2,
)
