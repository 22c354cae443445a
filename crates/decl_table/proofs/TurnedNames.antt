-- Turning a comment changes neither what a program declares and mentions, nor the names that are kept of its nodes.
use Rattle.std.proofs.Common.{◌≡◌, ◌↔◌, ℕ, zero, suc, Bool, true, false, List, [], ◌∷◌, refl, ap, sym, subst, ◌∙◌, option_map}
use Rattle.std.specs.Prelude.{not, if◌then◌else◌, Contains, map}
use Rattle.plcs_base.specs.declared.place.PhraseAt.{PhraseAt}
use Rattle.template_tree.specs.Checks.Environment.{Signature}
use Rattle.template_tree.specs.Edits.Edit.{edit_at, edit_below, give_way}
use Rattle.template_tree.specs.Edits.Elision.{is_comment, toggled}
use Rattle.template_tree.specs.Laws.CheckLaws.{CheckAlike}
use Rattle.template_tree.specs.Programs.PlainTree.{Forest, Label, PlainNode, forest, join}
use Rattle.decl_table.specs.Agreement.{IsDeclsOf}
use Rattle.decl_table.specs.Names.{NameForest, NameLabel, kept_names, names_of}
use Rattle.decl_table.specs.PlainDecls.{PlainDecls, mentions_of}

-- ---- the names of nodes

-- what is kept of the names of a node, and of those inside it
abbrev kept_label : Label → NameLabel
kept_label label = record { slot = label.slot; kind = label.kind; parts = map (option_map kept_names) label.parts }

-- a change of an item that keeps what is kept of its names, and gives one item
record KeepsNames (change : PlainNode → List PlainNode) : Type 0 where
  new : PlainNode → PlainNode
  one : (node : PlainNode) → change node ≡ new node ∷ []
  label : (node : PlainNode) → kept_label (new node).label ≡ kept_label node.label
  inner : (node : PlainNode) → names_of (new node).inner ≡ names_of node.inner

names_give_way : (change : PlainNode → List PlainNode) → KeepsNames change → (k : ℕ) (items : Forest)
    → names_of (give_way change k items) ≡ names_of items
names_give_way change keeps k Forest.nil = refl
names_give_way change keeps zero (Forest.cons label inner rest) =
    let node : PlainNode = record { label = label; inner = inner } in
    ap (λ (items : List PlainNode). names_of (join (forest items) rest)) (keeps.one node)
    ∙ (λ i. NameForest.cons (keeps.label node i) (keeps.inner node i) (names_of rest))
names_give_way change keeps (suc k) (Forest.cons label inner rest) =
    ap (NameForest.cons (kept_label label) (names_of inner)) (names_give_way change keeps k rest)

keeps_below : (change : PlainNode → List PlainNode) → KeepsNames change → (path : List ℕ)
    → KeepsNames (edit_below change path)
keeps_below change keeps [] = keeps
keeps_below change keeps (k ∷ path) =
    record {
      new = λ node. record node { inner = give_way (edit_below change path) k node.inner };
      one = λ node. refl;
      label = λ node. refl;
      inner = λ node. names_give_way (edit_below change path) (keeps_below change keeps path) k node.inner;
    }

abbrev turned_or_not : Bool → PlainNode → PlainNode
turned_or_not b node = if b then record node { label = record node.label { elided = not node.label.elided } } else node

turned_label : (b : Bool) (node : PlainNode) → kept_label (turned_or_not b node).label ≡ kept_label node.label
turned_label true node = refl
turned_label false node = refl

turned_inner : (b : Bool) (node : PlainNode) → names_of (turned_or_not b node).inner ≡ names_of node.inner
turned_inner true node = refl
turned_inner false node = refl

turning_keeps : KeepsNames toggled
turning_keeps =
    record {
      new = λ node. turned_or_not (is_comment node.label.kind) node;
      one = λ node. refl;
      label = λ node. turned_label (is_comment node.label.kind) node;
      inner = λ node. turned_inner (is_comment node.label.kind) node;
    }

names_turned : (path : List ℕ) (items : Forest) → names_of (edit_at toggled path items) ≡ names_of items
names_turned [] items = refl
names_turned (k ∷ path) items =
    names_give_way (edit_below toggled path) (keeps_below toggled turning_keeps path) k items

-- ---- the table

-- programs that check alike, and of which the same names are kept, have the same tables
table_alike : (decls : PlainDecls) (one other : Forest) → CheckAlike one other → names_of one ≡ names_of other
    → IsDeclsOf decls one → IsDeclsOf decls other
table_alike decls one other alike names is =
    record {
      items_are = λ slot. is.items_are slot ∙ alike.items slot;
      headings_are = λ name. is.headings_are name ∙ ap (option_map (λ (s : Signature). s.slot)) (alike.headings name);
      uses_are = λ name.
          record {
            increasing = (is.uses_are name).increasing;
            each = λ at.
                subst (λ (m : List PhraseAt). Contains (mentions_of name decls.uses) at ↔ Contains m at)
                (alike.mentions name) ((is.uses_are name).each at);
          };
      names_are = is.names_are ∙ names;
    }

alike_back : (one other : Forest) → CheckAlike one other → CheckAlike other one
alike_back one other alike =
    record {
      items = λ slot. sym (alike.items slot);
      headings = λ name. sym (alike.headings name);
      mentions = λ name. sym (alike.mentions name);
      listed = sym alike.listed;
      verdicts = sym alike.verdicts;
    }

pub table_turned : (decls : PlainDecls) (items : Forest) (path : List ℕ) → CheckAlike (edit_at toggled path items) items
    → IsDeclsOf decls (edit_at toggled path items) ↔ IsDeclsOf decls items
table_turned decls items path alike = (
  table_alike decls (edit_at toggled path items) items alike (names_turned path items),
  table_alike decls items (edit_at toggled path items) (alike_back (edit_at toggled path items) items alike)
      (sym (names_turned path items)),
)
