-- The places of a run ignore room and elision.
use Rattle.template_tree.specs.Laws.CheckLaws.{ChecksIgnoreElision, ChecksIgnoreRoom}
use Rattle.template_tree.specs.Edits.Edit.{edit_at}
use Rattle.template_tree.specs.Edits.Elision.{toggled}
use Rattle.template_tree.specs.Programs.PlainTree.{roomless}
use Rattle.tree_steps.specs.PlaceLaws.{PlacesIgnoreElision, PlacesIgnoreRoom}
use Rattle.tree_steps.proofs.PlaceSubstances.{places_alike}
use Rattle.tree_steps.proofs.Substances.{substance_roomless, substance_turned}

pub places_ignore_room : ChecksIgnoreRoom → PlacesIgnoreRoom
places_ignore_room checks items = places_alike (roomless items) items (substance_roomless items) (checks items).verdicts

pub places_ignore_elision : ChecksIgnoreElision → PlacesIgnoreElision
places_ignore_elision checks items path =
    places_alike (edit_at toggled path items) items (substance_turned path items) (checks items path).verdicts
