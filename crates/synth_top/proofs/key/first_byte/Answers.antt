use Rattle.std.proofs.lemmas.Bool.{ne_eqb}
use Rattle.synth_top.proofs.KeyLists.{completed_first, keys_first}
use Rattle.synth_top.proofs.key.first_byte.Goals as goal

-- a byte that isn't ESC is a key by itself
pub returns-clause-keys : goal.returns-clause-keys
returns-clause-keys c =
    let other = ne_eqb _ _ c.if-byte-eq-ESCAPE.false in
    rw (c.complete.ensures, c.key_of.ensures)
    (record {
      all = λ rest. keys_first c.args.byte rest other;
      complete = λ rest. completed_first c.args.byte rest other;
    })
