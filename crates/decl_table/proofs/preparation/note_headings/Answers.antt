-- Nothing is noted first, then the names of the old heading, then those of the new one.
use Rattle.std.specs.Prelude.{bytes_eq}
use Rattle.std.specs.Map.{lookup}
use Rattle.std.specs.Option.{option_copied}
use Rattle.std.proofs.Common.{ap, inl, sym, ◌∙◌, true≢false}
use Rattle.decl_table.specs.Private.HeadingChangesView.{stands_in}
use Rattle.decl_table.proofs.NotedHeadings.{noted_two}
use Rattle.decl_table.proofs.preparation.note_headings.Goals as goal

pub returns-then-not-has_heading-clause-none : goal.returns-then-not-has_heading-clause-none
returns-then-not-has_heading-clause-none c = λ none. c.requires.empty

pub returns-then-not-has_heading-clause-right : goal.returns-then-not-has_heading-clause-right
returns-then-not-has_heading-clause-right c = λ name. inl (ap (lookup (bytes_eq name)) c.requires.empty)

pub returns-then-not-has_heading-clause-noted : goal.returns-then-not-has_heading-clause-noted
returns-then-not-has_heading-clause-noted c =
    λ has name stands. absurd (true≢false (sym has ∙ sym c.has_heading.ensures ∙ c.if-not-has_heading.true))

pub returns-clause-none : goal.returns-clause-none
returns-clause-none c = λ none. absurd (true≢false (sym (sym c.has_heading.ensures ∙ c.if-not-has_heading.false) ∙ none))

pub returns-clause-right : goal.returns-clause-right
returns-clause-right c =
    c.in_ok-note_heading-2.ensures.all
    (c.in_ok-note_heading.ensures.all (λ name. inl (ap (lookup (bytes_eq name)) c.requires.empty)))

pub returns-clause-noted : goal.returns-clause-noted
returns-clause-noted c =
    λ has name stands.
    noted_two c.args.tree.now.items (stands_in (option_copied c.args.nodes.now.old)) (stands_in (option_copied c.args.nodes.now.new))
    c.args.changes.now c.note_heading.new.changes c.note_heading-2.new.changes
    (λ other. inl (ap (lookup (bytes_eq other)) c.requires.empty)) c.in_ok-note_heading.ensures c.in_ok-note_heading-2.ensures name stands
