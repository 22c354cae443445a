use Rattle.std.proofs.Common.{ℕ, Bool, List, Some, None, sym, ◌∙◌, ap, subst}
use Rattle.std.specs.Prelude.{[], false, if◌then◌else◌}
use Rattle.plcs_base.specs.Put.{PutsAll}
use Rattle.template_tree.specs.Listings.Line.{listing_lines}
use Rattle.template_tree.specs.Listings.Listing.{Listing}
use Rattle.program_run.specs.Private.CutLine.{PutsCut}
use Rattle.program_run.proofs.CutLines.{line_cut_out, seen}
use Rattle.program_run.proofs.line_cut.cut_line.Goals as goal

-- the end of the line came
pub returns-then-cut : goal.returns-then-cut
returns-then-cut c =
    let items = c.args.tree.now.items in
    let puts : PutsAll PutsCut (record { ends = c.args.number; over = false; text = [] }) (Listing items) c.put_listing.new.out =
    subst (λ (text : List ℕ). PutsAll PutsCut (record { ends = c.args.number; over = false; text = text }) (Listing items) c.put_listing.new.out) c.new.ensures
    c.put_listing.ensures in
    sym (ap (λ (b : Bool). if b then Some c.cut.inside.text.items else None) c.if-cut.true)
    ∙ ap seen c.cut.view_is
    ∙ line_cut_out (listing_lines items) (Listing items) c.args.number c.put_listing.new.out (c.listing_splits_in_lines.ensures items c.requires.program) puts

-- the listing ended before it
pub returns-else-cut : goal.returns-else-cut
returns-else-cut c =
    let items = c.args.tree.now.items in
    let puts : PutsAll PutsCut (record { ends = c.args.number; over = false; text = [] }) (Listing items) c.put_listing.new.out =
    subst (λ (text : List ℕ). PutsAll PutsCut (record { ends = c.args.number; over = false; text = text }) (Listing items) c.put_listing.new.out) c.new.ensures
    c.put_listing.ensures in
    sym (ap (λ (b : Bool). if b then Some c.cut.inside.text.items else None) c.if-cut.false)
    ∙ ap seen c.cut.view_is
    ∙ line_cut_out (listing_lines items) (Listing items) c.args.number c.put_listing.new.out (c.listing_splits_in_lines.ensures items c.requires.program) puts
