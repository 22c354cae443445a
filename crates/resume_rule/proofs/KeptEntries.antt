-- `kept_has_entries`: what is kept was taken frame by frame.
use Rattle.std.specs.Prelude.{length, Some}
use Rattle.std.proofs.Common.{ap, sym, ◌∙◌}
use Rattle.std.proofs.lemmas.List.{length-map}
use Rattle.template_tree.specs.Checks.Environment.{Items}
use Rattle.plcs_store.specs.declared.frame.Frame.{Frame}
use Rattle.plcs_store.specs.Resume.{heading_parts, template_held}
use Rattle.resume_rule.specs.ResumeLaws.{KeptHasEntries}

pub kept_has_entries : KeptHasEntries
kept_has_entries program c kept fits is =
    record {
      some = fits.frames.some;
      headings =
          sym (length-map kept.headings Some) ∙ ap length (sym is.headings)
          ∙ length-map c.frames (λ (frame : Frame). heading_parts program frame.procedure.0);
      declared = ap length (sym is.declared) ∙ length-map c.frames (λ (frame : Frame). Items program frame.procedure.0);
      held =
          sym (length-map kept.held Some) ∙ ap length (sym is.held)
          ∙ length-map c.frames (λ (frame : Frame). template_held program frame.place.slot.0);
    }
