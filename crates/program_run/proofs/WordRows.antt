-- Words of the command and what they give, written out.
use Rattle.std.proofs.Common.{◌≡◌, [], ◌∷◌, Some, None, refl, codes}
use Rattle.clap.proofs.OnLiterals.{clap_on_literals}
use Rattle.program_run.specs.GivenWords.{given_words}

pub program_alone : given_words (codes "P" ∷ []) ≡ Some (record { steps = None; program = Some (codes "P"); input = None })
unfolding clap_on_literals given_words
program_alone = refl

pub steps_between : given_words (codes "P" ∷ codes "--steps=30" ∷ codes "I" ∷ []) ≡
    Some (record { steps = Some (codes "30"); program = Some (codes "P"); input = Some (codes "I") })
unfolding clap_on_literals given_words
steps_between = refl

pub twice : given_words (codes "--steps" ∷ codes "30" ∷ codes "--steps=30" ∷ []) ≡ None
unfolding clap_on_literals given_words
twice = refl

pub three_words : given_words (codes "P" ∷ codes "I" ∷ codes "O" ∷ []) ≡ None
unfolding clap_on_literals given_words
three_words = refl

pub hyphened : given_words (codes "-5" ∷ []) ≡ None
unfolding clap_on_literals given_words
hyphened = refl

pub behind_the_end : given_words (codes "--" ∷ codes "--steps" ∷ []) ≡
    Some (record { steps = None; program = Some (codes "--steps"); input = None })
unfolding clap_on_literals given_words
behind_the_end = refl
