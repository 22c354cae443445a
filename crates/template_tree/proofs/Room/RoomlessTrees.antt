-- A tree is one with and without the room of its lists.
use Rattle.std.specs.Prelude.{ℕ}
use Rattle.std.proofs.Common.{sym, ◌∙◌, subst, arith}
use Rattle.plcs_grammar.specs.Template.{row_of, program_sections}
use Rattle.template_tree.specs.Programs.PlainTree.{Forest, PlainTree, roomless, roomless_tree}
use Rattle.template_tree.specs.Programs.Program.{Fill, AreNodes}
use Rattle.template_tree.specs.Programs.Slots.{AllBelow}
use Rattle.template_tree.specs.Programs.Tree.{IsTree}
use Rattle.template_tree.proofs.Room.Rooms.{sorts_roomless, count_roomless, depth_roomless, times_roomless, first_roomless, below_roomless, nodes_roomless}

nodes_without_room : (items : Forest) → AreNodes items → AreNodes (roomless items)
nodes_without_room Forest.nil h = h
nodes_without_room (Forest.cons label inner rest) h = (
  record { parts = h.0.parts; inner = subst (λ ss. Fill (row_of label.kind).sections ss) (sym (sorts_roomless inner)) h.0.inner; elision = h.0.elision },
  nodes_without_room inner h.1,
  nodes_without_room rest h.2,
)

below_without_room : (number : ℕ) (items : Forest) → AllBelow number items → AllBelow number (roomless items)
below_without_room number Forest.nil h = h
below_without_room number (Forest.cons label inner rest) h = (h.0, below_without_room number inner h.1, below_without_room number rest h.2)

pub tree_without_room : (tree : PlainTree) → IsTree tree → IsTree (roomless_tree tree)
tree_without_room tree t =
    record {
      program =
          record {
            listed = subst (Fill program_sections) (sym (sorts_roomless tree.items)) t.program.listed;
            sound = nodes_without_room tree.items t.program.sound;
          };
      shallow = omega (arith, depth_roomless tree.items, t.shallow);
      few = omega (arith, count_roomless tree.items, t.few);
      drawn_few = t.drawn_few;
      drawn = below_without_room tree.drawn tree.items t.drawn;
      once = λ slot. omega (arith, times_roomless slot tree.items, t.once slot);
      main = first_roomless tree.items ∙ t.main;
      live = t.live ∙ sym (count_roomless tree.items);
    }

pub tree_with_room : (tree : PlainTree) → IsTree (roomless_tree tree) → IsTree tree
tree_with_room tree t =
    record {
      program =
          record {
            listed = subst (Fill program_sections) (sorts_roomless tree.items) t.program.listed;
            sound = nodes_roomless tree.items t.program.sound;
          };
      shallow = omega (arith, depth_roomless tree.items, t.shallow);
      few = omega (arith, count_roomless tree.items, t.few);
      drawn_few = t.drawn_few;
      drawn = below_roomless tree.drawn tree.items t.drawn;
      once = λ slot. omega (arith, times_roomless slot tree.items, t.once slot);
      main = sym (first_roomless tree.items) ∙ t.main;
      live = t.live ∙ count_roomless tree.items;
    }
