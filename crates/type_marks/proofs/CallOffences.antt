-- What a call comes to, from what the table knows.
use Rattle.std.proofs.Common.{◌≡◌, ◌≢◌, ℕ, ◌≤◌, List, [], length, Option, Some, None, option_map, refl, sym, ap, subst, ◌∙◌}
use Rattle.std.specs.Prelude.{unwrap_or}
use Rattle.plcs_base.specs.declared.declared.Declared.{Declared}
use Rattle.plcs_base.specs.declared.mark.MarkKind.{MarkKind}
use Rattle.plcs_grammar.specs.declared.expr.Expr.{Expr}
use Rattle.plcs_grammar.specs.PlainPhrase.{plain_exprs}
use Rattle.template_tree.specs.Checks.ProgramMaps.{items_in}
use Rattle.decl_table.specs.PlainDecls.{PlainDecls, slot_of}
use Rattle.template_tree.specs.Checks.Environment.{Sig, Signature, items_inside, parameter_kinds, procedure_at}
use Rattle.template_tree.specs.Programs.PlainTree.{Forest, PlainNode}
use Rattle.template_tree.specs.Programs.Slots.{times}
use Rattle.template_tree.specs.Checks.Verdict.{call_offence, kinds_of, offence_in}
use Rattle.decl_table.specs.Knowledge.{KnowsHeading, KnowsItems, KnowsParameters, heading_parameters, parameter_names}
use Rattle.type_marks.specs.Private.CallArguments.{arguments_judged}
use Rattle.type_marks.proofs.CalledProcedures.{AreFound, are_found, called, kinds_of_parameters, right_count, signature_is, wrong_count}
use Rattle.type_marks.proofs.FoundArguments.{kinds_length}
use Rattle.type_marks.proofs.KnownNames.{Agree, known_items, same_parameter_kinds}

-- the heading that the table tells is that of the name
record IsHeaded (program : Forest) (name : List ℕ) (slot : ℕ) : Type 0 where
  signature : Signature
  there : Sig program name ≡ Some signature
  slot_is : signature.slot ≡ slot

headed : (program : Forest) (name : List ℕ) (slot : ℕ) (o : Option Signature) → Sig program name ≡ o
    → Some slot ≡ option_map (λ (s : Signature). s.slot) o → IsHeaded program name slot
headed program name slot None is there = absurd (cc)
headed program name slot (Some signature) is there = record { signature = signature; there = is; slot_is = cc }

module _ (decls : PlainDecls) (program : Forest) (name : List ℕ) (slot : ℕ) (told : Some slot ≡ slot_of name decls.headings)
    (heading : KnowsHeading decls program name) (once : (slot : ℕ) → times slot program ≤ 1) where
  the_heading : IsHeaded program name slot
  the_heading = headed program name slot (Sig program name) refl (told ∙ heading)

  -- a procedure stands in the slot
  pub not_missing : None ≡ procedure_at program slot → ⊥
  not_missing none = by the_heading
    where
      by : IsHeaded program name slot → ⊥
      by h =
          let c = called program name h.signature h.there (once h.signature.slot) in
          let found : procedure_at program slot ≡ Some c.node = ap (procedure_at program) (sym h.slot_is) ∙ c.there in
          absurd (cc)

  -- the kinds of its parameters are those that the table knows
  module _ (node : PlainNode) (there : Some node ≡ procedure_at program slot) (parameters : KnowsParameters decls program name) where
    pub record IsSigned : Type 0 where
      pub signature : Signature
      pub is : Sig program name ≡ Some signature
      pub kinds : parameter_kinds (items_in decls.items slot) [] (heading_parameters node) ≡ signature.parameters

    pub signed : IsSigned
    signed = by the_heading
      where
        same_node : {a b : PlainNode} → Some a ≡ Some b → a ≡ b
        same_node e = cc

        by : IsHeaded program name slot → IsSigned
        by h =
            let c = called program name h.signature h.there (once h.signature.slot) in
            let one : c.node ≡ node = same_node (sym c.there ∙ ap (procedure_at program) h.slot_is ∙ sym there) in
            let own : h.signature ≡ record { slot = c.node.label.slot; parameters = parameter_kinds (items_inside c.node.inner) [] (heading_parameters c.node) } =
            signature_is name c.node h.signature c.has in
            let at_slot : c.node.label.slot ≡ slot = sym (ap (λ (s : Signature). s.slot) own) ∙ h.slot_is in
            let names : parameter_names program h.signature.slot ≡ heading_parameters c.node =
            ap (λ (o : Option PlainNode). unwrap_or (option_map heading_parameters o) []) c.there in
            let knows : KnowsItems decls program h.signature.slot (heading_parameters c.node) =
            subst (KnowsItems decls program h.signature.slot) names (parameters h.signature h.there) in
            let agree : Agree (items_in decls.items c.node.label.slot) (items_inside c.node.inner) (heading_parameters c.node) =
            known_items decls program c.node (heading_parameters c.node)
            (ap (procedure_at program) (at_slot ∙ sym h.slot_is) ∙ c.there)
            (subst (λ s. KnowsItems decls program s (heading_parameters c.node)) (h.slot_is ∙ sym at_slot) knows) in
            record {
              signature = h.signature;
              is = h.there;
              kinds =
                  ap (λ (n : PlainNode). parameter_kinds (items_in decls.items slot) [] (heading_parameters n)) (sym one)
                  ∙ ap (λ s. parameter_kinds (items_in decls.items s) [] (heading_parameters c.node)) (sym at_slot)
                  ∙ same_parameter_kinds (items_in decls.items c.node.label.slot) (items_inside c.node.inner) [] (heading_parameters c.node) agree
                  ∙ sym (ap (λ (s : Signature). s.parameters) own);
            }

    -- ---- the arguments

    module _ (items : List Declared) (arguments : List Expr) (fine : None ≡ offence_in (kinds_of items (plain_exprs arguments))) where
      pub another_count : length arguments ≢ length (heading_parameters node)
          → Some MarkKind.WrongCount ≡ call_offence (Sig program name) (kinds_of items (plain_exprs arguments))
      another_count apart = by signed (are_found (kinds_of items (plain_exprs arguments)) fine)
        where
          by : IsSigned → AreFound (kinds_of items (plain_exprs arguments))
              → Some MarkKind.WrongCount ≡ call_offence (Sig program name) (kinds_of items (plain_exprs arguments))
          by s f =
              wrong_count (Sig program name) s.signature (kinds_of items (plain_exprs arguments)) f.kinds s.is f.fine
              (λ e. apart
              (sym (kinds_length items arguments f.kinds f.fine) ∙ e
              ∙ ap length (sym s.kinds) ∙ kinds_of_parameters (items_in decls.items slot) [] (heading_parameters node)))

      pub same_count : length arguments ≡ length (heading_parameters node)
          → arguments_judged (parameter_kinds (items_in decls.items slot) [] (heading_parameters node)) (kinds_of items (plain_exprs arguments))
          ≡ call_offence (Sig program name) (kinds_of items (plain_exprs arguments))
      same_count same = by signed (are_found (kinds_of items (plain_exprs arguments)) fine)
        where
          by : IsSigned → AreFound (kinds_of items (plain_exprs arguments))
              → arguments_judged (parameter_kinds (items_in decls.items slot) [] (heading_parameters node)) (kinds_of items (plain_exprs arguments))
              ≡ call_offence (Sig program name) (kinds_of items (plain_exprs arguments))
          by s f =
              ap (λ ks. arguments_judged ks (kinds_of items (plain_exprs arguments))) s.kinds
              ∙ right_count (Sig program name) s.signature (kinds_of items (plain_exprs arguments)) f.kinds s.is f.fine
              (kinds_length items arguments f.kinds f.fine ∙ same
              ∙ sym (kinds_of_parameters (items_in decls.items slot) [] (heading_parameters node)) ∙ ap length s.kinds)
