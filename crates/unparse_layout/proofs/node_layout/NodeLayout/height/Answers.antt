use Rattle.std.specs.Prelude.{◌≡◌}
use Rattle.std.proofs.Common.{arith, ap, ◌∙◌}
use Rattle.plcs_grammar.specs.Template.{PlainRow, row_of}
use Rattle.unparse_layout.specs.Private.Height.{line_count}
use Rattle.unparse_layout.proofs.Heights.{byte_is_one_if}
use Rattle.unparse_layout.proofs.Opened.{height_shown}
use Rattle.unparse_layout.proofs.node_layout.NodeLayout.height.Goals as goal

pub overflow_add-result-2 : goal.overflow_add-result-2
overflow_add-result-2 c =
    let all = height_shown c.self.inside c.args.self.now c.self.view_is c.self.invariant c.if-self.false in
    let last : c.line_count.result ≡ line_count (row_of c.self.inside.kind).last =
    c.line_count.ensures ∙ ap (λ (r : PlainRow). line_count r.last) c.row.ensures in
    omega (arith, all, last, c.from.ensures, byte_is_one_if c.self.inside.led, c.total.ensures.total, c.requires.fits)

pub returns : goal.returns
returns c =
    let all = height_shown c.self.inside c.args.self.now c.self.view_is c.self.invariant c.if-self.false in
    let last : c.line_count.result ≡ line_count (row_of c.self.inside.kind).last =
    c.line_count.ensures ∙ ap (λ (r : PlainRow). line_count r.last) c.row.ensures in
    omega (arith, all, last, c.from.ensures, byte_is_one_if c.self.inside.led, c.total.ensures.total)
