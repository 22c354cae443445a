use Rattle.std.proofs.Common.{sym, subst}
use Rattle.plcs_store.specs.Configuration.{plain_configuration}
use Rattle.suspend_state.specs.Private.FoundFrames.{HasProcedures, HasSlots}
use Rattle.suspend_state.proofs.FittingFrames.{have_procedures, have_slots}
use Rattle.suspend_state.proofs.kept_copy.kept_of.Goals as goal

pub copied_headings-requires-clause-there : goal.copied_headings-requires-clause-there
copied_headings-requires-clause-there c =
    subst (HasProcedures c.args.tree.now.items) (sym c.as_slice-frames.ensures.all)
    (have_procedures c.args.tree.now.items (plain_configuration c.args.state.now) c.requires.fits)

pub copied_templates-requires-clause-there : goal.copied_templates-requires-clause-there
copied_templates-requires-clause-there c =
    subst (HasSlots c.args.tree.now.items) (sym c.as_slice-frames.ensures.all)
    (have_slots c.args.tree.now.items (plain_configuration c.args.state.now) c.slots_stand.ensures.standing c.requires.fits)
