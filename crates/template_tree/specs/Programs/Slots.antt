-- Slots, and how many nodes there are and how deep they stand.
use Rattle.std.specs.Prelude.{ℕ, ◌+◌, ◌<◌, max, if◌then◌else◌, ◌==◌, Option, Some, None}
use Rattle.template_tree.specs.Programs.PlainTree.{Forest}

-- how many nodes, and so how many slots, there are, those inside others too
abbrev pub count : Forest → ℕ
count Forest.nil = 0
count (Forest.cons label inner rest) = count inner + count rest + 1

-- how deep nodes stand: how many numbers the longest path to one of them has
abbrev pub depth : Forest → ℕ
depth Forest.nil = 0
depth (Forest.cons label inner rest) = max (depth inner + 1) (depth rest)

-- how often a slot stands among nodes, those inside others too
abbrev pub times : ℕ → Forest → ℕ
times slot Forest.nil = 0
times slot (Forest.cons label inner rest) = (if label.slot == slot then 1 else 0) + (times slot inner + times slot rest)

-- the slot of the first node, if there is one: in a program that of main
abbrev pub first_slot : Forest → Option ℕ
first_slot Forest.nil = None
first_slot (Forest.cons label inner rest) = Some label.slot

-- each slot of the nodes, and of those inside them, is below the number
abbrev pub AllBelow : ℕ → Forest → Type 0
AllBelow number Forest.nil = Unit {0}
AllBelow number (Forest.cons label inner rest) = (label.slot < number) × AllBelow number inner × AllBelow number rest

-- the nodes with other slots, which are drawn in listing order from a number on
abbrev pub with_slots_from : ℕ → Forest → Forest
with_slots_from first Forest.nil = Forest.nil
with_slots_from first (Forest.cons label inner rest) =
    Forest.cons (record label { slot = first }) (with_slots_from (first + 1) inner)
    (with_slots_from (first + 1 + count inner) rest)
