-- Moves of the cursor over the visible stops of a program.
use Rattle.std.specs.Prelude.{ℕ, ◌==◌, nat_lt, if◌then◌else◌, List, [], ◌∷◌, filter, find, Option, Some, None, option_and_then, option_map}
use Rattle.std.specs.Option.{option_map_or, option_or}
use Rattle.template_tree.specs.Programs.PlainTree.{Forest}
use Rattle.template_tree.specs.Positions.Stop.{PlainStop, Stops, VisibleStop, listed_stop, node_stop, plain_stop, same_stop}
use Rattle.cursor_moves.specs.declared.cursor_move.Move.{Move}

-- the first of a list, if there is one, as of the stops behind the one where a move begins
abbrev pub first_of : {X : Type 0} → List X → Option X
first_of [] = None
first_of (x ∷ xs) = Some x

-- the last of a list, if there is one, as of the stops before the one where a move begins
abbrev pub last_of : {X : Type 0} → List X → Option X
last_of [] = None
last_of (x ∷ xs) = option_or (last_of xs) (Some x)

-- the stop to which a move of the cursor went, if it went
abbrev pub moved_to : Move → Option PlainStop
moved_to (Move.Moved stop) = Some (plain_stop stop)
moved_to Move.AtEdge = None

-- the choice of a move: a stop, if there is one, from the stops before the one where it begins, that one, and those
-- behind it in listing order
abbrev pub Choice : Type 0
Choice = (before : List VisibleStop) (here : VisibleStop) (behind : List VisibleStop) → Option VisibleStop

-- the choice of a move to the right: the next of the visible stops
abbrev pub next_stop : Choice
next_stop before here behind = first_of behind

-- the choice of a move to the left: the previous of the visible stops
abbrev pub previous_stop : Choice
previous_stop before here behind = last_of before

-- the choice of a move down: the first of the visible stops on a later line
abbrev pub stop_below : Choice
stop_below before here behind = find (λ stop. nat_lt here.line stop.line) behind

-- of visible stops those on lines above this one, from which a move up chooses
abbrev pub above_line : ℕ → List VisibleStop → List VisibleStop
above_line line stops = filter (λ stop. nat_lt stop.line line) stops

-- the choice of a move up: the first of the visible stops on the nearest earlier line that has one
abbrev pub stop_above : Choice
stop_above before here behind =
    option_and_then (λ nearest. find (λ stop. stop.line == nearest.line) before) (last_of (above_line here.line before))

-- the listed stops before the one where a move begins
abbrev pub stops_before : List VisibleStop → PlainStop → List VisibleStop
stops_before [] stop = []
stops_before (listed ∷ others) stop = if same_stop listed.stop stop then [] else listed ∷ stops_before others stop

-- the listed stops behind the one where a move begins
abbrev pub stops_behind : List VisibleStop → PlainStop → List VisibleStop
stops_behind [] stop = []
stops_behind (listed ∷ others) stop = if same_stop listed.stop stop then others else stops_behind others stop

-- what the choice of a move names among the listed stops, where it begins at this one
abbrev pub chosen_among : Choice → List VisibleStop → PlainStop → Option VisibleStop
chosen_among choice stops stop =
    option_and_then (λ here. choice (stops_before stops stop) here (stops_behind stops stop)) (listed_stop stops stop)

-- where a move goes from a stop, if it goes: to what its choice names among the visible stops
abbrev pub moved : Choice → Forest → PlainStop → Option PlainStop
moved choice items stop = option_map (λ chosen. chosen.stop) (chosen_among choice (Stops items) stop)

-- where the cursor goes from a stop to the right: to the next one
unfoldable pub stop_right : Forest → PlainStop → Option PlainStop
stop_right items stop = moved next_stop items stop

-- where the cursor goes from a stop to the left: to the previous one
unfoldable pub stop_left : Forest → PlainStop → Option PlainStop
stop_left items stop = moved previous_stop items stop

-- where the cursor goes from a stop up: to the first one on the nearest earlier line that has one
unfoldable pub stop_up : Forest → PlainStop → Option PlainStop
stop_up items stop = moved stop_above items stop

-- where the cursor goes from a stop down: to the first one on a later line
unfoldable pub stop_down : Forest → PlainStop → Option PlainStop
stop_down items stop = moved stop_below items stop

-- where the cursor goes to the top: to the first visible stop; a program has one
unfoldable pub first_stop : Forest → PlainStop
first_stop items = option_map_or (λ listed. listed.stop) (first_of (Stops items)) (node_stop [])

-- where the cursor goes to the bottom: to the last visible stop
unfoldable pub last_stop : Forest → PlainStop
last_stop items = option_map_or (λ listed. listed.stop) (last_of (Stops items)) (node_stop [])
