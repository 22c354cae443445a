-- What the table knows of the procedures that are taken.
use Rattle.std.proofs.Common.{◌≡◌, ℕ, Bool, true, false, cond, List, [], ◌++◌, Option, Some, None, option_map, length, refl, sym, ap, subst, ◌∙◌, arith}
use Rattle.std.specs.Prelude.{nat_eq, unwrap_or}
use Rattle.std.specs.FinMap.{empty, get, get-empty, get-insert}
use Rattle.std.specs.Option.{option_or}
use Rattle.std.specs.Ordering.{nat_cmp}
use Rattle.std.proofs.lemmas.Cmp.{nat_cmp_total, nat_eq_equiv}
use Rattle.std.proofs.lemmas.List.{append-nil}
use Rattle.plcs_base.specs.declared.place.PhraseAt.{PhraseAt}
use Rattle.template_tree.specs.Checks.Environment.{Sig, Signature, items_inside, procedure_at, signature_for}
use Rattle.template_tree.specs.Checks.Mention.{AreUses, mentions}
use Rattle.template_tree.specs.Programs.PlainTree.{Forest, PlainNode}
use Rattle.template_tree.specs.Programs.Program.{AreNodes}
use Rattle.template_tree.specs.Checks.ProgramMaps.{items_in}
use Rattle.decl_table.specs.PlainDecls.{PlainDecls, slot_of}
use Rattle.decl_table.specs.Private.DeclsView.{IsRead, TakesProcedure}
use Rattle.decl_table.specs.Private.UsesView.{IsSettled}
use Rattle.decl_table.specs.Names.{names_of}
use Rattle.decl_table.specs.Private.PlainNameNode.{HaveFewParts, PlainNameNode, kept_mentions, kept_part_mentions, node_names}
use Rattle.decl_table.proofs.KeptMentions.{mentions_are, names_few}
use Rattle.plcs_base.specs.PlaceOrder.{nat_ties}

-- an empty table of none
pub read_none : (decls : PlainDecls) → decls.items ≡ empty → decls.headings ≡ [] → IsRead decls Forest.nil
read_none decls items headings = record {
  items = λ slot. ap (λ m. items_in m slot) items ∙ ap (λ o. unwrap_or o []) (get-empty nat_cmp slot);
  headings = λ name. ap (slot_of name) headings;
}

-- one more before them
pub read_next : (old new : PlainDecls) (node : PlainNode) (all rest : Forest) → all ≡ Forest.cons node.label node.inner rest
    → TakesProcedure node old new → IsRead old rest → IsRead new all
read_next old new node all rest is takes read =
    subst (IsRead new) (sym is)
    record {
      items =
          λ slot. ap (λ m. items_in m slot) takes.items
          ∙ ap (λ o. unwrap_or o []) (get-insert nat_cmp_total old.items node.label.slot (items_inside node.inner) slot)
          ∙ ap (λ b. unwrap_or (cond b (Some (items_inside node.inner)) (get old.items slot)) []) (sym (nat_ties slot node.label.slot) ∙ nat_eq_equiv.symm slot node.label.slot)
          ∙ of_slot slot (nat_eq node.label.slot slot);
      headings =
          λ name. takes.headings name
          ∙ ap (λ o. option_or (option_map (λ (s : Signature). s.slot) (signature_for name node)) o) (read.headings name)
          ∙ of_heading (signature_for name node) (Sig rest name);
    }
  where
    of_slot : (slot : ℕ) (here : Bool)
        → unwrap_or (cond here (Some (items_inside node.inner)) (get old.items slot)) []
        ≡ unwrap_or (option_map (λ (n : PlainNode). items_inside n.inner) (cond here (Some record { label = node.label; inner = node.inner }) (procedure_at rest slot))) []
    of_slot slot true = refl
    of_slot slot false = read.items slot

    of_heading : (one other : Option Signature)
        → option_or (option_map (λ (s : Signature). s.slot) one) (option_map (λ (s : Signature). s.slot) other) ≡ option_map (λ (s : Signature). s.slot) (option_or one other)
    of_heading None other = refl
    of_heading (Some s) other = refl

-- the places that are settled of the names of a program are the uses of the name
pub uses_read : (name : List ℕ) (items : Forest) (root : PlainNameNode) (settled : List PhraseAt) → root.inner ≡ names_of items
    → root.label.parts ≡ [] → IsSettled (kept_mentions name (node_names root)) settled → AreUses name items settled
uses_read name items root settled inner parts are =
    let all : kept_mentions name (node_names root) ≡ mentions name items =
    ap (λ (l : List (Option (List (List ℕ)))). kept_part_mentions name root.label.slot 0 l ++ (kept_mentions name root.inner ++ [])) parts
    ∙ append-nil (kept_mentions name root.inner) ∙ ap (kept_mentions name) inner ∙ mentions_are name items in
    let same = subst (λ places. IsSettled places settled) all are in
    record { increasing = same.increasing; each = same.each }

-- the root of the names of a program, which has no parts itself
pub root_few : (root : PlainNameNode) (items : Forest) → AreNodes items → root.inner ≡ names_of items → root.label.parts ≡ []
    → HaveFewParts (node_names root)
root_few root items sound inner parts =
    (omega (arith, ap length parts), subst HaveFewParts (sym inner) (names_few items sound), tt)
