-- Each phrase gathers the names of its pieces.
use Rattle.std.proofs.Common.{◌≡◌, ◌∷◌, ◌++◌, map, sym, subst}
use Rattle.std.specs.Prelude.{flat_map, reverse, OnOk}
use Rattle.plcs_grammar.specs.declared.item.Item.{Item}
use Rattle.plcs_grammar.specs.PlainPhrase.{plain_exprs, plain_phrase, plain_var_ref}
use Rattle.template_tree.specs.Checks.Mention.{mentioned, names_in_all, reference_names}
use Rattle.decl_table.proofs.GatheredNames.{gathered_nothing}
use Rattle.decl_table.proofs.name_list.NameList.add_phrase.Goals as goal

pub returns-in-Assignment : goal.returns-in-Assignment
returns-in-Assignment c =
    subst (λ p. OnOk c.add_assignment.result (c.add_assignment.new.self ≡ c.args.self.now ++ reverse (mentioned (plain_phrase p))))
    (sym c.in-Assignment.is) c.add_assignment.ensures

pub returns-in-VariableList : goal.returns-in-VariableList
returns-in-VariableList c =
    subst (λ p. OnOk c.add_variables.result (c.add_variables.new.self ≡ c.args.self.now ++ reverse (mentioned (plain_phrase p)))) (sym c.in-VariableList.is)
    (subst
    (λ targets. OnOk c.add_variables.result (c.add_variables.new.self ≡ c.args.self.now ++ reverse (flat_map reference_names (map plain_var_ref targets))))
    c.deref-in-VariableList.ensures.value c.add_variables.ensures)

pub returns-in-CallRef : goal.returns-in-CallRef
returns-in-CallRef c =
    let name = c.in-CallRef.name in
    subst (λ p. OnOk c.add_call.result (c.add_call.new.self ≡ c.args.self.now ++ reverse (mentioned (plain_phrase p)))) (sym c.in-CallRef.is)
    (subst (λ es. OnOk c.add_call.result (c.add_call.new.self ≡ c.args.self.now ++ reverse (name ∷ names_in_all (plain_exprs es))))
    c.deref-in-CallRef.ensures.value c.add_call.ensures)

pub returns-in-DeclaredList : goal.returns-in-DeclaredList
returns-in-DeclaredList c =
    subst (λ p. OnOk c.add_items.result (c.add_items.new.self ≡ c.args.self.now ++ reverse (mentioned (plain_phrase p)))) (sym c.in-DeclaredList.is)
    (subst (λ items. OnOk c.add_items.result (c.add_items.new.self ≡ c.args.self.now ++ reverse (map (λ (item : Item). item.name) items)))
    c.deref-in-DeclaredList.ensures.value c.add_items.ensures)

pub returns-in-Length : goal.returns-in-Length
returns-in-Length c =
    subst (λ p. c.args.self.now ≡ c.args.self.now ++ reverse (mentioned (plain_phrase p))) (sym c.in-Length.is) (gathered_nothing c.args.self.now)

pub returns-in-CommentText : goal.returns-in-CommentText
returns-in-CommentText c =
    subst (λ p. c.args.self.now ≡ c.args.self.now ++ reverse (mentioned (plain_phrase p))) (sym c.in-CommentText.is) (gathered_nothing c.args.self.now)
