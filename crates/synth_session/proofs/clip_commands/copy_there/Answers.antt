use Rattle.std.proofs.Common.{Option, option_map, refl, subst, sym, ap, ◌∙◌, ℕ}
use Rattle.std.specs.Prelude.{IsSome}
use Rattle.plcs_grammar.specs.PlainPhrase.{plain_phrase}
use Rattle.template_tree.specs.Positions.Path.{node_at}
use Rattle.template_tree.specs.Programs.PlainTree.{PlainNode, roomless_tree}
use Rattle.template_tree.specs.Positions.Stop.{plain_stop}
use Rattle.clip_store.specs.PlainFragment.{PlainFragment, whole_fragment}
use Rattle.synth_session.specs.ClipCommands.{fragment_there}
use Rattle.synth_session.proofs.ClipFragments.{copied_node, copy_wants, phrase_there, takes_node, whole_twice}
use Rattle.synth_session.proofs.clip_commands.copy_there.Goals as goal

pub returns-in-Ok-clause-copy : goal.returns-in-Ok-clause-copy
returns-in-Ok-clause-copy c =
    ap (option_map whole_fragment)
    (copied_node c.room_is_not_clipped.ensures.whole (node_at c.args.tree.now.items c.args.at.now.path.items) c.in-Ok.node c.in-Ok.ensures.copied
    ∙ ap (λ (found : Option PlainNode). option_map whole_fragment (option_map PlainFragment.node found))
    (sym (c.room_is_not_shown.ensures.nodes c.args.tree.now.items c.args.at.now.path.items))
    ∙ sym (ap (λ (part : Option ℕ). option_map whole_fragment (fragment_there (roomless_tree c.args.tree.now) (plain_stop c.args.at.now) part)) c.in-None.is))
    ∙ whole_twice c.clips_are_kept_whole.ensures.once (fragment_there (roomless_tree c.args.tree.now) (plain_stop c.args.at.now) c.args.at.now.part)

pub unreachable-requires : goal.unreachable-requires
unreachable-requires c =
    copy_wants (node_at c.args.tree.now.items c.args.at.now.path.items) c.in-Err.fault
    (takes_node (roomless_tree c.args.tree.now) (node_at c.args.tree.now.items c.args.at.now.path.items) (plain_stop c.args.at.now)
    (c.room_is_not_shown.ensures.nodes c.args.tree.now.items c.args.at.now.path.items) c.in-None.is c.requires.taken)
    c.in-Err.ensures.refused c.in_default.not-OutOfMemory

pub unreachable-requires-in-Ok-None : goal.unreachable-requires-in-Ok-None
unreachable-requires-in-Ok-None c =
    phrase_there (roomless_tree c.args.tree.now) (plain_stop c.args.at.now)
    (subst (λ (part : Option ℕ). IsSome part) (sym c.in-Some.is) refl) c.requires.taken
    (sym (ap (option_map plain_phrase) c.in-Ok-None.field-0-is) ∙ c.in-Ok-None.ensures.copy)
