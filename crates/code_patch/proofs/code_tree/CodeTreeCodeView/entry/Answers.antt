use Rattle.std.specs.Prelude.{◌≡◌, ◌+◌, ℕ, Option, Some, None, option_map, sum, take}
use Rattle.std.specs.FinMap.{get}
use Rattle.std.proofs.Common.{arith, ap, sym, ◌∙◌}
use Rattle.plcs_code.specs.declared.heading_entry.HeadingEntry.{HeadingEntry}
use Rattle.code_patch.specs.ItemNames.{NumberMap}
use Rattle.code_patch.specs.CodeEdit.{PlainCodeTree}
use Rattle.code_patch.specs.CodeForest.{kept_lengths, told_code}
use Rattle.code_patch.proofs.KeptEntries.{entry_numbered}
use Rattle.code_patch.proofs.code_tree.CodeTreeCodeView.entry.Goals as goal

pub returns-in-Some : goal.returns-in-Some
returns-in-Some g c =
    let root = c.self.inside.root in
    let name = c.args.name.now in
    let named = c.in-Some.ensures ∙ ap (λ (m : NumberMap). get m name) c.self.invariant.names in
    let found = entry_numbered name root.inner (Some c.in-Some.number) named in
    let nothing : 0 + found.0 ≡ found.0 = omega arith in
    let at : c.length_to.result ≡ 0 + sum (take found.0 (kept_lengths root.inner)) =
    c.length_to.ensures ∙ ap (λ (n : ℕ). sum (take n (kept_lengths root.inner))) (found.1 ∙ nothing) ∙ omega arith in
    ap (λ (n : ℕ). Some n) at
    ∙ sym (ap (λ (o : Option HeadingEntry). option_map (λ entry. entry.address) o) found.4)
    ∙ ap (λ (t : PlainCodeTree). option_map (λ entry. entry.address) (get (told_code t.items).headings name)) c.self.view_is

pub returns-in-None : goal.returns-in-None
returns-in-None g c =
    let root = c.self.inside.root in
    let name = c.args.name.now in
    let named = c.in-None.ensures ∙ ap (λ (m : NumberMap). get m name) c.self.invariant.names in
    sym (ap (λ (o : Option HeadingEntry). option_map (λ entry. entry.address) o) (entry_numbered name root.inner None named))
    ∙ ap (λ (t : PlainCodeTree). option_map (λ entry. entry.address) (get (told_code t.items).headings name)) c.self.view_is
