-- The names that are kept of a node while they are gathered: part after part, and item after item.
use Rattle.std.specs.Prelude.{◌≡◌, refl, ℕ, suc, ◌+◌, ◌<◌, List, [], ◌∷◌, ◌++◌, length, drop, map, Option, Some, None, option_map, slice_get}
use Rattle.std.specs.Option.{option_flatten}
use Rattle.std.proofs.Common.{ap, sym, ◌∙◌, arith, append_assoc}
use Rattle.std.proofs.lemmas.List.{append-nil}
use Rattle.plcs_base.specs.ListLeft.{left_from, none_left}
use Rattle.plcs_grammar.specs.declared.category.Category.{Category}
use Rattle.plcs_grammar.specs.declared.node_kind.NodeKind.{NodeKind}
use Rattle.plcs_grammar.specs.declared.template.Template.{Template}
use Rattle.plcs_grammar.specs.PlainPhrase.{PlainPhrase}
use Rattle.plcs_grammar.specs.Template.{row_of}
use Rattle.template_tree.specs.Programs.Part.{part_at}
use Rattle.template_tree.specs.Programs.PlainTree.{PlainNode, forest, forest_nodes, nodes}
use Rattle.template_tree.specs.Programs.PlainTree.{Forest}
use Rattle.template_tree.specs.Programs.Program.{AreParts, IsSubtree, parts_of}
use Rattle.decl_table.specs.Names.{NameForest, kept_names, names_of}
use Rattle.decl_table.specs.Private.PlainNameNode.{PlainNameNode, name_forest, name_forest_nodes, name_node_of, name_nodes, name_nodes_forest}

-- the names that are kept of nodes of which some are gathered already, and these are left
pub record IsMade (whole done : NameForest) (rest : List PlainNode) : Type 0 where
  pub all : name_nodes done ++ name_nodes (names_of (forest rest)) ≡ name_nodes whole

-- one more is gathered
pub made_next : (whole done new : NameForest) (items : List PlainNode) (k : ℕ) (node : PlainNode) (item : PlainNameNode)
    → slice_get items k ≡ Some node → item ≡ name_node_of node → new ≡ name_forest (name_nodes done ++ item ∷ [])
    → IsMade whole done (drop k items) → IsMade whole new (drop (k + 1) items)
made_next whole done new items k node item there item_is new_is m = record {
  all =
      let rest = drop (k + 1) items in
      let turn : name_nodes (names_of (forest (drop k items))) ≡ item ∷ name_nodes (names_of (forest rest)) =
      ap (λ xs. name_nodes (names_of (forest xs))) (left_from items k node there) ∙ ap (λ (n : PlainNameNode). n ∷ name_nodes (names_of (forest rest))) (sym item_is) in
      ap (λ b. name_nodes b ++ name_nodes (names_of (forest rest))) new_is
      ∙ ap (λ xs. xs ++ name_nodes (names_of (forest rest))) (name_nodes_forest (name_nodes done ++ item ∷ []))
      ∙ append_assoc (name_nodes done) (item ∷ []) (name_nodes (names_of (forest rest)))
      ∙ ap (λ xs. name_nodes done ++ xs) (sym turn)
      ∙ m.all;
}

-- nothing is gathered at the beginning
pub made_none : (items : Forest) (done : NameForest) → done ≡ NameForest.nil → IsMade (names_of items) done (drop 0 (nodes items))
made_none items done done_is = record {
  all =
      ap (λ d. name_nodes d ++ name_nodes (names_of (forest (nodes items)))) done_is
      ∙ ap (λ f. name_nodes (names_of f)) (forest_nodes items);
}

-- all is gathered at the end
pub made_all : (whole done : NameForest) (items : List PlainNode) (k : ℕ) → slice_get items k ≡ None
    → IsMade whole done (drop k items) → done ≡ whole
made_all whole done items k none m =
    sym (name_forest_nodes done)
    ∙ ap name_forest (sym (append-nil (name_nodes done)) ∙ ap (λ xs. name_nodes done ++ name_nodes (names_of (forest xs))) (sym (none_left items k none)) ∙ m.all)
    ∙ name_forest_nodes whole

-- two nodes are the same where their fields are
pub same_node : (one other : PlainNameNode) → one.label ≡ other.label → one.inner ≡ other.inner → one ≡ other
same_node one other label inner = λ i. record { label = label i; inner = inner i }

-- the names in the parts of a node of which some are gathered already, and these are left
pub record AreMade (whole done : List (Option (List (List ℕ)))) (rest : List (Option PlainPhrase)) : Type 0 where
  pub all : done ++ map (option_map kept_names) rest ≡ whole

-- one more is gathered
pub parts_next : (whole done new : List (Option (List (List ℕ)))) (parts : List (Option PlainPhrase)) (k : ℕ) (place : Option PlainPhrase)
    → slice_get parts k ≡ Some place → new ≡ done ++ option_map kept_names (part_at parts k) ∷ []
    → AreMade whole done (drop k parts) → AreMade whole new (drop (k + 1) parts)
parts_next whole done new parts k place there new_is m = record {
  all =
      let rest = map (option_map kept_names) (drop (k + 1) parts) in
      let own : option_map kept_names (part_at parts k) ≡ option_map kept_names place = ap (λ o. option_map kept_names (option_flatten o)) there in
      ap (λ xs. xs ++ rest) new_is
      ∙ append_assoc done (option_map kept_names (part_at parts k) ∷ []) rest
      ∙ ap (λ n. done ++ n ∷ rest) own
      ∙ ap (λ xs. done ++ map (option_map kept_names) xs) (sym (left_from parts k place there))
      ∙ m.all;
}

-- all is gathered at the end
pub parts_all : (whole done : List (Option (List (List ℕ)))) (parts : List (Option PlainPhrase)) (k : ℕ) → slice_get parts k ≡ None
    → AreMade whole done (drop k parts) → done ≡ whole
parts_all whole done parts k none m =
    sym (append-nil done) ∙ ap (λ xs. done ++ map (option_map kept_names) xs) (sym (none_left parts k none)) ∙ m.all

-- ---- a node has few parts

same_count : (categories : List Category) (parts : List (Option PlainPhrase)) → AreParts categories parts → length parts ≡ length categories
same_count [] [] are = refl
same_count [] (part ∷ parts) are = absurd are
same_count (category ∷ categories) [] are = absurd are
same_count (category ∷ categories) (part ∷ parts) are = ap (λ (n : ℕ). suc n) (same_count categories parts are.1)

few_in_template : (template : Template) → length (parts_of (row_of (NodeKind.Filled template)).line) < 256
few_in_template Template.Fixed = omega arith
few_in_template Template.Bit = omega arith
few_in_template Template.Char = omega arith
few_in_template Template.If = omega arith
few_in_template Template.IfElse = omega arith
few_in_template Template.While = omega arith
few_in_template Template.For = omega arith
few_in_template Template.Until = omega arith
few_in_template Template.Group = omega arith
few_in_template Template.Get = omega arith
few_in_template Template.Put = omega arith
few_in_template Template.PutSkip = omega arith
few_in_template Template.Call = omega arith
few_in_template Template.Return = omega arith
few_in_template Template.Comment = omega arith
few_in_template Template.Proc = omega arith
few_in_template Template.ProcP = omega arith

few_in_row : (kind : NodeKind) → length (parts_of (row_of kind).line) < 256
few_in_row NodeKind.DeclarationHole = omega arith
few_in_row NodeKind.StatementHole = omega arith
few_in_row NodeKind.ProcedureHole = omega arith
few_in_row NodeKind.Main = omega arith
few_in_row NodeKind.Assign = omega arith
few_in_row (NodeKind.Filled template) = few_in_template template

pub few_parts : (node : PlainNode) → IsSubtree node → length node.label.parts < 256
few_parts node is =
    let same = same_count (parts_of (row_of node.label.kind).line) node.label.parts is.0.parts in
    let few = few_in_row node.label.kind in
    omega (arith, same, few)
