use Rattle.std.proofs.Common.{ap, ◌∙◌, ◌∷◌, ◌++◌, List, option_to_list, append-nil}
use Rattle.std.specs.Prelude.{Option}
use Rattle.std.proofs.lemmas.Bool.{ne_eqb}
use Rattle.synth_session.specs.declared.key.Key.{Key}
use Rattle.synth_session.specs.declared.key.Key.TheVariants.{Other}
use Rattle.synth_top.specs.Keys.{completed, held_bytes, keys}
use Rattle.synth_top.proofs.KeyLists.{keys_escape, completed_escape}
use Rattle.synth_top.proofs.key.byte_after_escape.Goals as goal

-- the ESC is a key, and then come those of the byte, of which there is one at most
pub returns-clause-keys : goal.returns-clause-keys
returns-clause-keys c =
    let byte = c.args.byte in
    let first = option_to_list c.first_byte.result.keys.first in
    let now = held_bytes c.first_byte.result.held in
    let other = ne_eqb _ _ c.if-byte-eq91.false in
    let alone = λ (behind : List Key). ap (λ (second : Option Key). (first ++ option_to_list second) ++ behind) c.first_byte.ensures.one
    ∙ ap (λ (l : List Key). l ++ behind) (append-nil first) in
    rw c.after_escape.ensures
    (record {
      all = λ rest. keys_escape byte rest other ∙ ap (λ (l : List Key). Other ∷ l) (c.first_byte.ensures.keys.all rest ∙ alone (keys (now ++ rest)));
      complete = λ rest. completed_escape byte rest other
          ∙ ap (λ (l : List Key). Other ∷ l) (c.first_byte.ensures.keys.complete rest ∙ alone (completed (now ++ rest)));
    })
