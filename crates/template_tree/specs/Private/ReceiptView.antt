-- What the undoing of an edit in memory is seen as.
use Rattle.template_tree.specs.declared.receipt.Undoing.{Undoing}
use Rattle.template_tree.specs.Programs.PlainPhrasePlace.{plain_phrase_place}
use Rattle.template_tree.specs.Programs.PlainTree.{roomless_node}
use Rattle.template_tree.specs.Edits.Receipt.{PlainUndoing}

-- what the undoing of an edit in memory is seen as, without the room of lists
abbrev pub plain_undoing : Undoing → PlainUndoing
plain_undoing (Undoing.Put node) = PlainUndoing.put (roomless_node node)
plain_undoing Undoing.PutBack = PlainUndoing.put_back
plain_undoing (Undoing.SetPart part place) = PlainUndoing.set_part part (plain_phrase_place place)
plain_undoing Undoing.TakeOut = PlainUndoing.take_out
plain_undoing (Undoing.PutIn side hole) = PlainUndoing.put_in side (roomless_node hole)
