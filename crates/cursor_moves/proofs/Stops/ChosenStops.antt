-- Where a move goes: a relation over the stops divided at the one where it begins, and the function that it determines,
-- since no stop is listed twice.
use Rattle.std.specs.Prelude.{◌≡◌, ◌≢◌, ◌<◌, refl, ℕ, suc, Bool, true, false, ◌&&◌, nat_eq, List, [], ◌∷◌, ◌++◌, length, map, slice_index_or, AllPairs, IfSome, Option, Some, None, option_and_then, option_map}
use Rattle.std.specs.Option.{option_eq, option_map_or}
use Rattle.std.specs.Str.{bytes_eq}
use Rattle.std.proofs.Common.{ap, sym, ◌∙◌, subst, arith}
use Rattle.std.proofs.lemmas.Bool.{false≢true, false_from_ne_true}
use Rattle.std.proofs.lemmas.Bool.Decides.{Decides-eqb}
use Rattle.std.proofs.lemmas.Option.{none-some, same_Some}
use Rattle.std.proofs.lemmas.Slice.Eq.{bytes_eq-Decides}
use Rattle.template_tree.specs.Programs.PlainTree.{Forest, roomless}
use Rattle.template_tree.specs.Laws.RoomLaws.{StandingIgnoresRoom, StopsIgnoreRoom}
use Rattle.template_tree.specs.Positions.Stop.{IsStop, PlainStop, Stops, VisibleStop, listed_stop, node_stop, same_stop}
use Rattle.cursor_moves.specs.Move.{Choice, chosen_among, first_of, first_stop, last_of, last_stop, moved, next_stop, previous_stop, stop_above, stop_below, stop_down, stop_left, stop_right, stop_up, stops_before, stops_behind}
use Rattle.cursor_moves.proofs.Stops.DistinctStops.{distinct}
use Rattle.cursor_moves.proofs.Stops.MoveRelation.{IsMove}

part_itself : (part : Option ℕ) → option_eq nat_eq part part ≡ true
part_itself None = refl
part_itself (Some n) = (Decides-eqb n n).1 refl

stop_itself : (stop : PlainStop) → same_stop stop stop ≡ true
stop_itself stop = rw ((bytes_eq-Decides stop.path stop.path).1 refl) (part_itself stop.part)

same_part : (one other : Option ℕ) → option_eq nat_eq one other ≡ true → one ≡ other
same_part None None e = refl
same_part None (Some n) e = absurd (false≢true e)
same_part (Some m) None e = absurd (false≢true e)
same_part (Some m) (Some n) e = ap Some ((Decides-eqb m n).0 e)

both : (a b : Bool) → (a && b) ≡ true → (a ≡ true) × (b ≡ true)
both true b e = (refl, e)
both false b e = absurd (false≢true e)

stops_same : (one other : PlainStop) → same_stop one other ≡ true → one ≡ other
stops_same one other e =
    let halves = both (bytes_eq one.path other.path) (option_eq nat_eq one.part other.part) e in
    let paths = (bytes_eq-Decides one.path other.path).0 halves.0 in
    let parts = same_part one.part other.part halves.1 in
    λ i. record { path = paths i; part = parts i }

-- the stop of a listed one
abbrev of_listed : VisibleStop → PlainStop
of_listed listed = listed.stop

-- no stop stands twice in the list
abbrev AreDistinct : List VisibleStop → Type 0
AreDistinct stops = AllPairs (λ stop later. later ≢ stop) (map of_listed stops)

-- what stands behind others
at_seam : (before : List VisibleStop) (here : VisibleStop) (behind : List VisibleStop) (d : PlainStop)
    → slice_index_or (map of_listed (before ++ here ∷ behind)) (length before) d ≡ here.stop
at_seam [] here behind d = refl
at_seam (b ∷ before) here behind d = at_seam before here behind d

seam_within : (before : List VisibleStop) (here : VisibleStop) (behind : List VisibleStop)
    → length before < length (map of_listed (before ++ here ∷ behind))
seam_within [] here behind = omega arith
seam_within (b ∷ before) here behind = let h = seam_within before here behind in omega arith

-- the stops of a list divided at one of them
record IsDivided (stops before : List VisibleStop) (here : VisibleStop) (behind : List VisibleStop) (at : PlainStop) : Type 0 where
  is_listed : listed_stop stops at ≡ Some here
  are_before : stops_before stops at ≡ before
  are_behind : stops_behind stops at ≡ behind

divided_at : (before : List VisibleStop) (here : VisibleStop) (behind : List VisibleStop) (at : PlainStop)
    → AreDistinct (before ++ here ∷ behind) → here.stop ≡ at → IsDivided (before ++ here ∷ behind) before here behind at
divided_at [] here behind at apart is_at =
    let same : same_stop here.stop at ≡ true = ap (λ stop. same_stop stop at) is_at ∙ stop_itself at in
    record { is_listed = rw same refl; are_before = rw same refl; are_behind = rw same refl }
divided_at (b ∷ before) here behind at apart is_at =
    let other : same_stop b.stop at ≡ false =
    false_from_ne_true (same_stop b.stop at)
    (λ e.
    apart 0 (suc (length before)) at (omega arith) (let h = seam_within before here behind in omega arith)
    (at_seam before here behind at ∙ (is_at ∙ sym (stops_same b.stop at e))))
    in
    let rest = divided_at before here behind at (λ i j d below within. apart (suc i) (suc j) d (omega arith) (omega arith)) is_at in
    record {
      is_listed = rw other rest.is_listed;
      are_before = rw other (ap (λ stops. b ∷ stops) rest.are_before);
      are_behind = rw other rest.are_behind;
    }

-- a move goes where the function says
pub goes_to : (choice : Choice) (items : Forest) (at : PlainStop) (to : Option PlainStop)
    → IsMove choice (Stops items) at to → to ≡ moved choice items at
goes_to choice items at to move =
    let divided = divided_at move.before move.here move.behind at (subst AreDistinct move.stands (distinct items)) move.is_at in
    let named : chosen_among choice (move.before ++ move.here ∷ move.behind) at ≡ choice move.before move.here move.behind =
    λ i. option_and_then (λ here. choice (divided.are_before i) here (divided.are_behind i)) (divided.is_listed i) in
    move.goes ∙ ap (option_map of_listed) (sym named ∙ ap (λ stops. chosen_among choice stops at) (sym move.stands))

-- so it does without the room of lists
without_room : StopsIgnoreRoom → (choice : Choice) (items : Forest) (at : PlainStop) (to : Option PlainStop)
    → IsMove choice (Stops items) at to → to ≡ moved choice (roomless items) at
without_room law choice items at to move =
    goes_to choice items at to move ∙ ap (λ stops. option_map of_listed (chosen_among choice stops at)) (sym (law items))

pub goes_right : StopsIgnoreRoom → (items : Forest) (at : PlainStop) (to : Option PlainStop)
    → IsMove next_stop (Stops items) at to → to ≡ stop_right (roomless items) at
unfolding stop_right
goes_right law = without_room law next_stop

pub goes_left : StopsIgnoreRoom → (items : Forest) (at : PlainStop) (to : Option PlainStop)
    → IsMove previous_stop (Stops items) at to → to ≡ stop_left (roomless items) at
unfolding stop_left
goes_left law = without_room law previous_stop

pub goes_up : StopsIgnoreRoom → (items : Forest) (at : PlainStop) (to : Option PlainStop)
    → IsMove stop_above (Stops items) at to → to ≡ stop_up (roomless items) at
unfolding stop_up
goes_up law = without_room law stop_above

pub goes_down : StopsIgnoreRoom → (items : Forest) (at : PlainStop) (to : Option PlainStop)
    → IsMove stop_below (Stops items) at to → to ≡ stop_down (roomless items) at
unfolding stop_down
goes_down law = without_room law stop_below

-- the cursor may stand without room where a move goes
pub stands_without_room : StandingIgnoresRoom → (items : Forest) (to : Option PlainStop) → IfSome to (IsStop items) → IfSome to (IsStop (roomless items))
stands_without_room law items None h = tt
stands_without_room law items (Some stop) h = (law items stop).1 h

-- the stop that is listed, if there is one
abbrev stop_in : Option VisibleStop → PlainStop
stop_in listed = option_map_or of_listed listed (node_stop [])

end_is : (listed : Option VisibleStop) (to : PlainStop) → option_map of_listed listed ≡ Some to → to ≡ stop_in listed
end_is None to e = absurd (none-some to e)
end_is (Some there) to e = same_Some to there.stop (sym e)

pub first_is : StopsIgnoreRoom → (items : Forest) (to : PlainStop) → option_map (λ listed. listed.stop) (first_of (Stops items)) ≡ Some to
    → to ≡ first_stop (roomless items)
unfolding first_stop
first_is law items to e = end_is (first_of (Stops items)) to e ∙ ap (λ stops. stop_in (first_of stops)) (sym (law items))

pub last_is : StopsIgnoreRoom → (items : Forest) (to : PlainStop) → option_map (λ listed. listed.stop) (last_of (Stops items)) ≡ Some to
    → to ≡ last_stop (roomless items)
unfolding last_stop
last_is law items to e = end_is (last_of (Stops items)) to e ∙ ap (λ stops. stop_in (last_of stops)) (sym (law items))
