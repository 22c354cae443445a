use Rattle.plcs_code.proofs.Laying.{lays_one}
use Rattle.plcs_code.proofs.lay_phrase.put_item_place.Goals as goal

pub returns-then-k : goal.returns-then-k
returns-then-k g c = lays_one (c.refuse.ensures _)

pub returns : goal.returns
returns g c = lays_one c.put.ensures
