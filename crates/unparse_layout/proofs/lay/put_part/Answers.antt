use Rattle.std.specs.Prelude.{◌≡◌, ℕ, false, ◌&&◌, Option, Some, None, is_some, map}
use Rattle.std.specs.FinMap.{get}
use Rattle.std.proofs.Common.{ap, sym, ◌∙◌, subst}
use Rattle.plcs_grammar.specs.PlainPhrase.{PlainPhrase, plain_phrase}
use Rattle.template_tree.specs.Listings.Line.{part_text}
use Rattle.unparse_layout.specs.LaidLine.{screen_cell, has_mark}
use Rattle.unparse_layout.specs.Private.Cells.{PutsAside}
use Rattle.unparse_layout.proofs.PutCells.{part_put, plain_cells, plain_put}
use Rattle.unparse_layout.proofs.lay.put_part.Goals as goal

-- where no phrase stands the placeholder is put as it is, whatever mark is told
pub returns-in_default : goal.returns-in_default
returns-in_default g c =
    let marked = has_mark (g.M.Marked.marks c.args.marks.now) c.args.node.now.label.slot (Some c.args.part) in
    let put = plain_put c.args.out.now c.put_bytes.new.out c.placeholder.result.now c.requires.plain c.requires.short c.put_bytes.ensures in
    subst (λ (o : Option PlainPhrase). PutsAside c.args.out.now (map (screen_cell (is_some o && marked)) (part_text c.args.category o)) c.put_bytes.new.out)
    c.in_default.ensures
    (subst (λ xs. PutsAside c.args.out.now xs c.put_bytes.new.out) (c.placeholder.ensures ∙ sym (plain_cells (part_text c.args.category None))) put)

-- a phrase is put in the image that its mark asks for
pub returns : goal.returns
returns g c =
    let marks = g.M.Marked.marks c.args.marks.now in
    let marked = has_mark marks c.args.node.now.label.slot (Some c.args.part) in
    let text = part_text c.args.category (Some (plain_phrase c.in-Some.phrase.now)) in
    let after = c.show.new.out in
    let image : c.is_some-out.result ≡ marked =
    c.is_some-out.ensures ∙ ap is_some c.mark.ensures
    ∙ ap (λ (n : ℕ). is_some (get marks record { slot = record { 0 = n }; part = c.args.part })) c.slot.ensures in
    let put = part_put c.args.out.now c.is_some-out.result text after c.requires.short c.show.ensures in
    subst (λ (o : Option PlainPhrase). PutsAside c.args.out.now (map (screen_cell (is_some o && marked)) (part_text c.args.category o)) record { cells = after.cells; negative = false })
    c.in-Some.ensures
    (subst (λ b. PutsAside c.args.out.now (map (screen_cell b) text) record { cells = after.cells; negative = false }) image put)
