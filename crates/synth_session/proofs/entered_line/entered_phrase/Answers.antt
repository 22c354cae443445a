use Rattle.std.proofs.Common.{◌≡◌, ◌≤◌, false, true, length, arith, ap, ◌∙◌}
use Rattle.std.proofs.lemmas.Grind.{common_steps}
use Rattle.std.specs.Prelude.{nat_lt}
use Rattle.plcs_grammar.specs.Canon.{Canon}
use Rattle.plcs_grammar.specs.PlainPhrase.{plain_phrase}
use Rattle.template_tree.specs.Programs.Limit.{longest_phrase}
use Rattle.synth_session.specs.EnteredLine.{standing_entered}
use Rattle.synth_session.proofs.StandingTexts.{fault_entered, long_entered, short_entered}
use Rattle.synth_session.proofs.entered_line.entered_phrase.Goals as goal

-- the phrase is too long
pub returns-then-shown_len-gt-LONGEST_PHRASE : goal.returns-then-shown_len-gt-LONGEST_PHRASE
returns-then-shown_len-gt-LONGEST_PHRASE c =
    let phrase = plain_phrase c.in-Ok.phrase in
    let read = c.in-Ok.ensures.read in
    let counted = c.shown_len.ensures in
    let test = c.if-shown_len-gt-LONGEST_PHRASE.true in
    let long : nat_lt longest_phrase (length (Canon phrase)) ≡ true = grind (arith, common_steps) in
    record {
      entered = (read.0, read.1, λ s. ap (standing_entered s) read.2 ∙ long_entered s phrase long);
      stands = tt;
    }

-- it is entered
pub returns-else-shown_len-gt-LONGEST_PHRASE : goal.returns-else-shown_len-gt-LONGEST_PHRASE
returns-else-shown_len-gt-LONGEST_PHRASE c =
    let phrase = plain_phrase c.in-Ok.phrase in
    let read = c.in-Ok.ensures.read in
    let counted = c.shown_len.ensures in
    let test = c.if-shown_len-gt-LONGEST_PHRASE.false in
    let short : nat_lt longest_phrase (length (Canon phrase)) ≡ false = grind (arith, common_steps) in
    let within : length (Canon phrase) ≤ longest_phrase = grind (arith, common_steps) in
    record {
      entered = (read.0, read.1, λ s. ap (standing_entered s) read.2 ∙ short_entered s phrase short);
      stands = record { well_formed = c.in-Ok.ensures.sound; short = within };
    }

-- the text isn't entered for its fault
pub returns-in_default : goal.returns-in_default
returns-in_default c =
    let read = c.in-Err.ensures.read in
    record {
      entered = (read.0, read.1, λ s. fault_entered s read.0 c.in-Err.fault read.2 c.in_default.not-OutOfMemory);
      stands = tt;
    }

-- memory ran out
pub returns-in-OutOfMemory : goal.returns-in-OutOfMemory
returns-in-OutOfMemory c =
    let read = c.in-Err.ensures.read in
    record { entered = (read.0, read.1, tt); stands = tt }
