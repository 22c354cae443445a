use Rattle.synth_session.proofs.StandingTexts.{own_form, read_standing}
use Rattle.synth_session.proofs.entered_line.read_phrase.Goals as goal

pub returns : goal.returns
returns c =
    record {
      read = read_standing c.one_standing.ensures c.args.category c.args.text.now c.parse.result c.parse.ensures.says;
      sound = own_form c.args.category c.parse.result c.parse.ensures.well_formed c.parse.ensures.category;
    }
