-- The laws of stops.
use Rattle.std.specs.Prelude.{◌≡◌, ◌≢◌, ◌↔◌, ◌⊎◌, ◌<◌, map, AllPairs, Contains}
use Rattle.template_tree.specs.Programs.PlainTree.{Forest}
use Rattle.template_tree.specs.Positions.Stop.{IsStop, PlainStop, Stops}

-- the cursor may stand at a stop exactly where that is one of the listed visible stops
abbrev pub StopsAreListed : Type 0
StopsAreListed =
    (items : Forest) (stop : PlainStop) → IsStop items stop ↔ Contains (map (λ listed. listed.stop) (Stops items)) stop

-- no visible stop is listed twice
abbrev pub StopsAreDistinct : Type 0
StopsAreDistinct = (items : Forest) → AllPairs (λ stop later. later ≢ stop) (map (λ listed. listed.stop) (Stops items))

-- of two listed stops the later one is at the same node and on the same line, or else on a later line
abbrev pub StopsRise : Type 0
StopsRise =
    (items : Forest)
    → AllPairs
    (λ stop later. ((later.stop.path ≡ stop.stop.path) × (later.line ≡ stop.line)) ⊎ (stop.line < later.line))
    (Stops items)
