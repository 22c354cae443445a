-- The item is put among none.
use Rattle.std.proofs.Common.{◌≡◌, ◌∙◌, List, ℕ, Option, Some, None, ap, subst, sym}
use Rattle.std.specs.Prelude.{if◌then◌else◌, bytes_eq, IfOk, Result}
use Rattle.plcs_base.specs.declared.declared.Declared.{Declared}
use Rattle.plcs_base.specs.declared.memory.OutOfMemory.{OutOfMemory}
use Rattle.template_tree.specs.Checks.Environment.{item_named}
use Rattle.decl_table.proofs.OkAnswers.{comes_ok}
use Rattle.decl_table.proofs.items.Items.alone.Goals as goal

pub returns : goal.returns
returns c =
    let item = c.args.item.now in
    subst
    (λ (r : Result (List Declared) OutOfMemory).
    IfOk r (λ items. (name : List ℕ) → item_named name items ≡ (if bytes_eq item.name name then Some item else None)))
    (sym c.and.ensures)
    (comes_ok c.put-noted.result c.put-noted.new.self
    (λ items. (name : List ℕ) → item_named name items ≡ (if bytes_eq item.name name then Some item else None)) _
    (λ named name.
    named name
    ∙ ap
    (λ (d : Declared).
    let o : Option Declared = if bytes_eq item.name name then Some d else item_named name c.new-items.result in o)
    c.of.ensures
    ∙ ap
    (λ (l : List Declared).
    let o : Option Declared = if bytes_eq item.name name then Some item else item_named name l in o)
    c.new-items.ensures)
    c.put-noted.ensures.named)
