use Rattle.std.specs.Prelude.{◌≡◌, ℕ, Option, Some, None, option_map, slice_get}
use Rattle.std.specs.FinMap.{get}
use Rattle.std.proofs.Common.{arith, ap, sym, ◌∙◌}
use Rattle.std.proofs.lemmas.Option.{none-some, same_Some}
use Rattle.plcs_code.specs.declared.heading_entry.HeadingEntry.{HeadingEntry}
use Rattle.code_patch.specs.ItemNames.{NumberMap}
use Rattle.code_patch.specs.CodeEdit.{PlainCodeTree}
use Rattle.code_patch.specs.CodeForest.{told_code, PlainCodeNode, code_nodes}
use Rattle.code_patch.proofs.KeptEntries.{entry_numbered}
use Rattle.code_patch.proofs.code_tree.CodeTreeCodeView.procedure.Goals as goal

pub returns-in_default : goal.returns-in_default
returns-in_default g c =
    let root = c.self.inside.root in
    let name = c.args.name.now in
    let named = c.in_default.ensures ∙ ap (λ (m : NumberMap). get m name) c.self.invariant.names in
    sym (ap (λ (o : Option HeadingEntry). option_map (λ entry. entry.slot) o) (entry_numbered name root.inner None named))
    ∙ ap (λ (t : PlainCodeTree). option_map (λ entry. entry.slot) (get (told_code t.items).headings name)) c.self.view_is

pub returns-in-Some-child : goal.returns-in-Some-child
returns-in-Some-child g c =
    let root = c.self.inside.root in
    let name = c.args.name.now in
    let named = c.in-Some.ensures ∙ ap (λ (m : NumberMap). get m name) c.self.invariant.names in
    let found = entry_numbered name root.inner (Some c.in-Some.number) named in
    let item = c.in-Some-child.item.now in
    let there : Some item ≡ Some found.2 =
    c.in-Some-child.ensures ∙ ap (λ (n : ℕ). slice_get (code_nodes root.inner) n) (found.1 ∙ omega arith) ∙ found.3 in
    let same : item ≡ found.2 = same_Some item found.2 there in
    let slot = c.slot.ensures ∙ ap (λ (n : PlainCodeNode). n.own.slot) same in
    (λ i. Some (record { 0 = slot i }))
    ∙ sym (ap (λ (o : Option HeadingEntry). option_map (λ entry. entry.slot) o) found.4)
    ∙ ap (λ (t : PlainCodeTree). option_map (λ entry. entry.slot) (get (told_code t.items).headings name)) c.self.view_is

pub returns-in-None : goal.returns-in-None
returns-in-None g c =
    let root = c.self.inside.root in
    let name = c.args.name.now in
    let named = c.in-Some.ensures ∙ ap (λ (m : NumberMap). get m name) c.self.invariant.names in
    let found = entry_numbered name root.inner (Some c.in-Some.number) named in
    absurd
    (none-some found.2
    (c.in-None.ensures ∙ ap (λ (n : ℕ). slice_get (code_nodes root.inner) n) (found.1 ∙ omega arith) ∙ found.3))
