use Rattle.screen_window.proofs.EqualRows.{equal_where_none}
use Rattle.screen_window.proofs.painting.are_equal.Goals as goal

pub returns : goal.returns
returns c =
    equal_where_none c.args.old.now c.args.new.now _ _ c.requires c.first_difference.ensures c.is_none.ensures
