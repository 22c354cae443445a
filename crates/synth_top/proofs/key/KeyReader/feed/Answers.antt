use Rattle.synth_top.proofs.key.KeyReader.feed.Goals as goal

pub returns-clause-keys : goal.returns-clause-keys
returns-clause-keys c = rw (← c.self.view_is) c.next_byte-fed.ensures.keys
