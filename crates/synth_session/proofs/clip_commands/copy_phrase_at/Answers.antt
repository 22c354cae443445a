use Rattle.template_tree.specs.Programs.PlainTree.{roomless_tree}
use Rattle.template_tree.specs.Positions.Stop.{plain_stop}
use Rattle.plcs_grammar.specs.PlainPhrase.{plain_phrase}
use Rattle.synth_session.proofs.SoundPhrases.{copied_sound}
use Rattle.synth_session.proofs.clip_commands.copy_phrase_at.Goals as goal

pub returns-in-Ok-clause-sound : goal.returns-in-Ok-clause-sound
returns-in-Ok-clause-sound c =
    copied_sound c.reading_has_category.ensures (roomless_tree c.args.tree.now) (plain_stop c.args.at.now)
    ((c.room_is_not_shown.ensures.trees c.args.tree.now).0 c.requires)
    (plain_phrase c.in-Some.phrase.now) (plain_phrase c.in-Ok.copy) c.in-Some.ensures c.in-Ok.ensures
