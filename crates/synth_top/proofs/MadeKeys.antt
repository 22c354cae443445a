-- Keys of a making, one after the other: what is fetched in their turns, and what is counted for them.
use Rattle.std.proofs.Common.{◌≡◌, ◌≤◌, ◌⊎◌, inl, inr, ℕ, zero, suc, ◌+◌, Bool, true, false, if◌then◌else◌, List, [], ◌∷◌, ◌++◌, Option, Some, None, Result, Ok, Err, refl, sym, ap, ◌∙◌, subst, append_assoc, arith}
use Rattle.std.proofs.lemmas.List.{map-append}
use Rattle.plcs_base.specs.PlainCounts.{PlainCounts}
use Rattle.plcs_machine.specs.Fetched.{FetchesAtMost, FetchesBy}
use Rattle.synth_outside.specs.Files.{FileMap, PlainFiles}
use Rattle.synth_session.specs.declared.answer.Answer.{Answer}
use Rattle.synth_session.specs.declared.answer.Answer.TheVariants.{Done, Quit, Refused, Running}
use Rattle.synth_session.specs.declared.answer.Refusal.{Refusal}
use Rattle.synth_session.specs.declared.key.Key.{Key}
use Rattle.synth_session.specs.declared.tick.Tick.{Tick}
use Rattle.synth_session.specs.CountedKey.{CountsPressed, CountsPressedAtMost, CountsProgram}
use Rattle.synth_session.specs.KeyOutcome.{KeyOutcome}
use Rattle.synth_session.specs.KeyReply.{CanReply, HaveNoMemory, HaveReplied, IsMapAfter, Reply, Request}
use Rattle.synth_session.specs.KeyRequest.{request}
use Rattle.synth_session.specs.PlainSession.{PlainSession}
use Rattle.synth_session.specs.Press.{press}
use Rattle.synth_session.specs.Tick.{Steps, TickOutcome, steps_left, tick}
use Rattle.template_tree.specs.Programs.NewTree.{new_tree}
use Rattle.synth_session.specs.CheckedPhrases.{phrase_count}
use Rattle.synth_session.specs.ProgramCode.{code_length}
use Rattle.synth_top.specs.Keys.{IsFront, keys}
use Rattle.synth_top.specs.MadeText.{made_text}
use Rattle.synth_top.specs.Making.{AllMade, PartMade, made_from, making_bill, tick_fetched, ticks_fetched, turn_fetched, turns_fetched}
use Rattle.synth_top.specs.Private.MakingKeys.{IsMade, KeysMade, KeysUnmade, MakesKeys}
use Rattle.synth_top.specs.Private.MakingTicks.{MakesTicks, TicksMade, fetched_from_press}
use Rattle.synth_top.specs.Private.TicksShown.{ticks_from}
use Rattle.synth_top.specs.Turn.{EditorState, HaveReplies, IsToldAs, PressedKey, Ticks, Turn, all_ticks, bills, files_after, keys_pressed, last_tick, makes_steps, pressed_whole, running_turn, state_after_keys, steps_of, still_turn, tick_before, tick_by, ticks, turn, turn_with}
use Rattle.synth_top.proofs.ClaimedFiles.{told_after}
use Rattle.synth_top.proofs.KeysInOrder.{front_more}
use Rattle.synth_top.proofs.TicksInOrder.{again_goes_on, over_is_last}
use Rattle.synth_top.proofs.TurnsInOrder.{AllCameToEnd-append, HaveReplies-append, after-append, checks-append, emits-append}

-- ---- the turns of some keys and then of others

pub turns_fetched-append : (s : EditorState) (ps qs : List PressedKey)
    → turns_fetched s (ps ++ qs) ≡ turns_fetched s ps + turns_fetched (state_after_keys s ps) qs
turns_fetched-append s [] qs = omega arith
turns_fetched-append s (p ∷ ps) qs = let rest = turns_fetched-append (turn s p).after ps qs in omega (arith, rest)

-- no key was pressed
pub none_made : (s t : EditorState) (u v : PlainCounts) → t ≡ s → v ≡ u → KeysMade [] s t u v
none_made s t u v same counts =
    let checked = ap (λ (c : PlainCounts). c.checked) counts in
    let emitted = ap (λ (c : PlainCounts). c.emitted) counts in
    let fetched = ap (λ (c : PlainCounts). c.fetched) counts in
    record {
      pressed = [];
      all = refl;
      can_reply = tt;
      ended = tt;
      state = same;
      counts = record {
        checked = omega (arith, checked);
        checked_later = omega (arith, checked);
        emitted = omega (arith, emitted);
        emitted_later = omega (arith, emitted);
        fetched_least = omega (arith, fetched);
        fetched_most = omega (arith, fetched);
        laid = ap (λ (c : PlainCounts). c.laid) counts;
      };
    }

-- the keys of some turns and of others
pressed-append : (ps qs : List PressedKey) → keys_pressed (ps ++ qs) ≡ keys_pressed ps ++ keys_pressed qs
pressed-append ps qs = map-append (λ (p : PressedKey). p.key) ps qs

-- some keys were all pressed, and then
module _ (keys more : List Key) (a b : EditorState) (u v : PlainCounts) (first : KeysMade keys a b u v) where
  -- what their state is for the turns after it
  from_there : (qs : List PressedKey) (P : EditorState → List PressedKey → Type 0) → P b qs
      → P (state_after_keys a first.pressed) qs
  from_there qs P next = subst (λ (s : EditorState). P s qs) first.state next

  -- others were, too
  pub then_made : (c : EditorState) (w : PlainCounts) → KeysMade more b c v w → KeysMade (keys ++ more) a c u w
  then_made c w next =
      let ps = first.pressed in
      let qs = next.pressed in
      let there = state_after_keys a ps in
      let same : b ≡ there = first.state in
      let checks = ap (λ (s : EditorState). (bills s qs).checks) same in
      let emits = ap (λ (s : EditorState). (bills s qs).emits) same in
      let fetches = ap (λ (s : EditorState). turns_fetched s qs) same in
      let all_checks = checks-append a ps qs in
      let all_emits = emits-append a ps qs in
      let all_fetches = turns_fetched-append a ps qs in
      record {
        pressed = ps ++ qs;
        all = pressed-append ps qs ∙ ap (λ (l : List Key). l ++ keys_pressed qs) first.all
            ∙ ap (λ (l : List Key). keys ++ l) next.all;
        can_reply = HaveReplies-append a ps qs first.can_reply (from_there qs HaveReplies next.can_reply);
        ended = AllCameToEnd-append ps qs first.ended next.ended;
        state = next.state ∙ ap (λ (s : EditorState). state_after_keys s qs) same ∙ sym (after-append a ps qs);
        counts = record {
          checked = omega (arith, all_checks, checks, first.counts.checked, next.counts.checked);
          checked_later = omega (arith, first.counts.checked_later, next.counts.checked_later);
          emitted = omega (arith, all_emits, emits, first.counts.emitted, next.counts.emitted);
          emitted_later = omega (arith, first.counts.emitted_later, next.counts.emitted_later);
          fetched_least = omega (arith, all_fetches, fetches, first.counts.fetched_least, next.counts.fetched_least);
          fetched_most = omega (arith, all_fetches, fetches, first.counts.fetched_most, next.counts.fetched_most);
          laid = next.counts.laid ∙ first.counts.laid;
        };
      }

  -- memory ran out in the turn of one of the others
  pub then_unmade : (w : PlainCounts) → KeysUnmade more b v w → KeysUnmade (keys ++ more) a u w
  then_unmade w next =
      let ps = first.pressed in
      let qs = next.pressed in
      let same : b ≡ state_after_keys a ps = first.state in
      let checks = ap (λ (s : EditorState). (bills s qs).checks) same in
      let emits = ap (λ (s : EditorState). (bills s qs).emits) same in
      let fetches = ap (λ (s : EditorState). turns_fetched s qs) same in
      let all_checks = checks-append a ps qs in
      let all_emits = emits-append a ps qs in
      let all_fetches = turns_fetched-append a ps qs in
      record {
        pressed = ps ++ qs;
        front = (
          next.front.0,
          ap (λ (l : List Key). keys ++ l) next.front.1
              ∙ ap (λ (l : List Key). l ++ (keys_pressed qs ++ next.front.0)) (sym first.all)
              ∙ sym (append_assoc (keys_pressed ps) (keys_pressed qs) next.front.0)
              ∙ ap (λ (l : List Key). l ++ next.front.0) (sym (pressed-append ps qs)),
        );
        can_reply = HaveReplies-append a ps qs first.can_reply (from_there qs HaveReplies next.can_reply);
        ended = AllCameToEnd-append ps qs first.ended next.ended;
        counts = record {
          checked = omega (arith, all_checks, checks, first.counts.checked, next.counts.checked);
          checked_later = omega (arith, first.counts.checked_later, next.counts.checked_later);
          emitted = omega (arith, all_emits, emits, first.counts.emitted, next.counts.emitted);
          emitted_later = omega (arith, first.counts.emitted_later, next.counts.emitted_later);
          fetched = omega (arith, all_fetches, fetches, first.counts.fetched_most, next.counts.fetched);
          fetched_later = omega (arith, first.counts.fetched_least, next.counts.fetched_later);
          laid = next.counts.laid ∙ first.counts.laid;
        };
      }

  pub made_then : {T E : Type 0} (c : EditorState) (w : PlainCounts) (result : Result T E)
      → MakesKeys more b c v w result
      → MakesKeys (keys ++ more) a c u w result
  made_then c w (Ok done) next = then_made c w next
  made_then c w (Err error) next = then_unmade w next

-- memory ran out in the turn of one of some keys, whatever others come after them
pub unmade_before : (keys more : List Key) (a : EditorState) (u v : PlainCounts) → KeysUnmade keys a u v
    → KeysUnmade (keys ++ more) a u v
unmade_before keys more a u v first = record {
  pressed = first.pressed;
  front = front_more _ keys more first.front;
  can_reply = first.can_reply;
  ended = first.ended;
  counts = first.counts;
}

-- memory ran out in the turn of one of some keys, which are the first ones of others
pub unmade_to : (keys other : List Key) (a : EditorState) (u v : PlainCounts) → IsFront keys other
    → KeysUnmade keys a u v → KeysUnmade other a u v
unmade_to keys other a u v front first =
    subst (λ (l : List Key). KeysUnmade l a u v) (sym front.1) (unmade_before keys front.0 a u v first)

-- the same keys by another name
pub made_as : {T E : Type 0} (keys other : List Key) (a b : EditorState) (u v : PlainCounts) (result : Result T E)
    → keys ≡ other
    → MakesKeys keys a b u v result → MakesKeys other a b u v result
made_as keys other a b u v result same made = subst (λ (l : List Key). MakesKeys l a b u v result) same made

pub keys_as : (keys other : List Key) (a b : EditorState) (u v : PlainCounts) → keys ≡ other → KeysMade keys a b u v
    → KeysMade other a b u v
keys_as keys other a b u v same made = subst (λ (l : List Key). KeysMade l a b u v) same made

pub unmade_keys_as : (keys other : List Key) (a : EditorState) (u v : PlainCounts) → keys ≡ other
    → KeysUnmade keys a u v → KeysUnmade other a u v
unmade_keys_as keys other a u v same made = subst (λ (l : List Key). KeysUnmade l a u v) same made

-- memory ran out, where the answer is an error
pub unmade_as : {T E : Type 0} (keys : List Key) (a b : EditorState) (u v : PlainCounts) (result : Result T E)
    (error : E) → result ≡ Err error
    → KeysUnmade keys a u v → MakesKeys keys a b u v result
unmade_as keys a b u v result error is made = subst (λ r. MakesKeys keys a b u v r) (sym is) made

pub ticks_unmade : {T E : Type 0} (s t : PlainSession) (u v : PlainCounts) (result : Result T E) (error : E)
    → result ≡ Err error
    → CountsPressedAtMost 0 0 (fetched_from_press s) u v → MakesTicks s t u v result
ticks_unmade s t u v result error is most = subst (λ r. MakesTicks s t u v r) (sym is) most

-- ---- the ticks of one key

-- a tick that is over is the last
over_fetched : (steps : Steps) (left : ℕ) (s : PlainSession) → (tick steps s).tick ≡ Tick.Over
    → ticks_fetched steps left s ≡ (tick steps s).fetches
over_fetched steps zero s over = refl
over_fetched steps (suc left) s over = ap (λ (t : Tick). tick_fetched t (tick steps s) (ticks_fetched steps left)) over

-- after one that shows a step the others come
again_fetched : (steps : Steps) (left : ℕ) (s : PlainSession) → (tick steps s).tick ≡ Tick.Again
    → ticks_fetched steps (suc left) s ≡ (tick steps s).fetches + ticks_fetched steps left (tick steps s).after
again_fetched steps left s again = ap (λ (t : Tick). tick_fetched t (tick steps s) (ticks_fetched steps left)) again

-- what is fetched in the first of them is fetched in all
fetched_by : (t : Tick) (outcome : TickOutcome) (go : PlainSession → ℕ) → outcome.fetches ≤ tick_fetched t outcome go
fetched_by Tick.Over outcome go = omega arith
fetched_by Tick.Again outcome go = omega arith

first_fetched : (steps : Steps) (left : ℕ) (s : PlainSession) → (tick steps s).fetches ≤ ticks_fetched steps left s
first_fetched steps zero s = omega arith
first_fetched steps (suc left) s = fetched_by (tick steps s).tick (tick steps s) (ticks_fetched steps left)

-- the ticks of a key at a moment between them, after which those from there on end as all do: what was fetched so far,
-- with what is fetched from there on, is what is fetched for all
pub record TicksLeftOver (before now : PlainSession) (counts_before counts_now : PlainCounts) : Type 0 where
  pub fetched : ℕ
  pub after : (ticks_from before).after ≡ (ticks_from now).after
  pub all : fetched_from_press before ≡ fetched + fetched_from_press now
  pub counts : CountsPressed 0 0 fetched fetched counts_before counts_now

-- all are left before the first
pub all_left : (s : PlainSession) (u : PlainCounts) → TicksLeftOver s s u u
all_left s u = record {
  fetched = 0;
  after = refl;
  all = omega arith;
  counts = record {
    checked = omega arith;
    checked_later = omega arith;
    emitted = omega arith;
    emitted_later = omega arith;
    fetched_least = omega arith;
    fetched_most = omega arith;
    laid = refl;
  };
}

-- what is counted in a tick, by itself
tick_counts : (fetches : ℕ) (u v : PlainCounts) → FetchesBy fetches u v → CountsPressed 0 0 fetches fetches u v
tick_counts fetches u v by =
    let checked = ap (λ (c : PlainCounts). c.checked) by in
    let emitted = ap (λ (c : PlainCounts). c.emitted) by in
    let fetched = ap (λ (c : PlainCounts). c.fetched) by in
    record {
      checked = omega (arith, checked);
      checked_later = omega (arith, checked);
      emitted = omega (arith, emitted);
      emitted_later = omega (arith, emitted);
      fetched_least = omega (arith, fetched);
      fetched_most = omega (arith, fetched);
      laid = ap (λ (c : PlainCounts). c.laid) by;
    }

-- what was counted so far, and then in another tick
counts_more : (one other : ℕ) (u v w : PlainCounts) → CountsPressed 0 0 one one u v → CountsPressed 0 0 other other v w
    → CountsPressed 0 0 (one + other) (one + other) u w
counts_more one other u v w first rest = record {
  checked = omega (arith, first.checked, rest.checked);
  checked_later = omega (arith, first.checked_later, rest.checked_later);
  emitted = omega (arith, first.emitted, rest.emitted);
  emitted_later = omega (arith, first.emitted_later, rest.emitted_later);
  fetched_least = omega (arith, first.fetched_least, rest.fetched_least);
  fetched_most = omega (arith, first.fetched_most, rest.fetched_most);
  laid = rest.laid ∙ first.laid;
}

-- the steps from a moment between ticks on, of which one more was made
module _ (before now : PlainSession) (u v : PlainCounts) (so_far : TicksLeftOver before now u v) where
  -- the last one was made
  pub last_made : (after : PlainSession) (w : PlainCounts) → (tick (steps_of now) now).tick ≡ Tick.Over
      → after ≡ (tick (steps_of now) now).after
      → FetchesBy (tick (steps_of now) now).fetches v w → TicksMade before after u w
  last_made after w over same by =
      let fetches = (tick (steps_of now) now).fetches in
      let all : fetched_from_press before ≡ so_far.fetched + fetches =
      so_far.all ∙ ap (λ (n : ℕ). so_far.fetched + n) (over_fetched (steps_of now) (steps_left now) now over) in
      record {
        session =
            same
            ∙ sym (so_far.after
            ∙ ap (λ (t : Ticks). t.after) (over_is_last (steps_of now) (steps_left now) 0 now over));
        counts = subst (λ (n : ℕ). CountsPressed 0 0 n n u w) (sym all)
            (counts_more so_far.fetched fetches u v w so_far.counts (tick_counts fetches v w by));
      }

  -- one that shows a step was made, of which one fewer is left; the steps are the same then
  pub more_made : (after : PlainSession) (w : PlainCounts) → (tick (steps_of now) now).tick ≡ Tick.Again
      → after ≡ (tick (steps_of now) now).after
      → steps_of after ≡ steps_of now → steps_left now ≡ steps_left after + 1
      → FetchesBy (tick (steps_of now) now).fetches v w
      → TicksLeftOver before after u w
  more_made after w again same steps fewer by =
      let fetches = (tick (steps_of now) now).fetches in
      let left_is : steps_left now ≡ suc (steps_left after) = omega (arith, fewer) in
      let from_there : ticks_fetched (steps_of now) (steps_left now) now ≡ fetches + fetched_from_press after =
      ap (λ (n : ℕ). ticks_fetched (steps_of now) n now) left_is
      ∙ again_fetched (steps_of now) (steps_left after) now again
      ∙ ap (λ (s : PlainSession). fetches + ticks_fetched (steps_of now) (steps_left after) s) (sym same)
      ∙ ap (λ (x : Steps). fetches + ticks_fetched x (steps_left after) after) (sym steps) in
      record {
        fetched = so_far.fetched + fetches;
        after = so_far.after
            ∙ ap (λ (n : ℕ). (ticks (steps_of now) n 0 now).after) left_is
            ∙ ap (λ (t : Ticks). t.after) (again_goes_on (steps_of now) (steps_left after) 0 now again)
            ∙ ap (λ (s : PlainSession). (ticks (steps_of now) (steps_left after) 0 s).after) (sym same)
            ∙ ap (λ (x : Steps). (ticks x (steps_left after) 0 after).after) (sym steps);
        all = let all_is = so_far.all in omega (arith, all_is, from_there);
        counts = counts_more so_far.fetched fetches u v w so_far.counts (tick_counts fetches v w by);
      }

  -- memory ran out in the next one
  pub left_there : (w : PlainCounts) → FetchesAtMost (tick (steps_of now) now).fetches v w
      → CountsPressedAtMost 0 0 (fetched_from_press before) u w
  left_there w most =
      let checked = ap (λ (c : PlainCounts). c.checked) most.others in
      let emitted = ap (λ (c : PlainCounts). c.emitted) most.others in
      let laid = ap (λ (c : PlainCounts). c.laid) most.others in
      let all = so_far.all in
      let first = first_fetched (steps_of now) (steps_left now) now in
      record {
        checked = omega (arith, checked, so_far.counts.checked);
        checked_later = omega (arith, checked, so_far.counts.checked_later);
        emitted = omega (arith, emitted, so_far.counts.emitted);
        emitted_later = omega (arith, emitted, so_far.counts.emitted_later);
        fetched = omega (arith, all, first, so_far.counts.fetched_most, most.most);
        fetched_later = omega (arith, so_far.counts.fetched_least, most.later);
        laid = laid ∙ so_far.counts.laid;
      }

-- the session after all ticks, whatever was fetched before them
after_by : (t : Tick) (one other : ℕ) (outcome : TickOutcome) (go : PlainSession → Ticks)
    → (tick_by t one outcome go).after ≡ (tick_by t other outcome go).after
after_by Tick.Over one other outcome go = refl
after_by Tick.Again one other outcome go = refl

after_same : (steps : Steps) (left one other : ℕ) (s : PlainSession)
    → (ticks steps left one s).after ≡ (ticks steps left other s).after
after_same steps zero one other s = refl
after_same steps (suc left) one other s = after_by (tick steps s).tick one other (tick steps s) (ticks steps left 0)

-- so all ticks of a key's outcome end as those of the session after its press
later_ticks : (outcome : KeyOutcome) → (all_ticks outcome).after ≡ (ticks_from outcome.after).after
later_ticks outcome = after_same (steps_of outcome.after) (steps_left outcome.after) outcome.fetches 0 outcome.after

-- ---- one key

-- a state of a making, of a session and a map
abbrev state_with : PlainSession → Option FileMap → EditorState
state_with s files = record { session = s; files = files }

-- the turn of a key in a making, by its answer: what it leaves, and what is fetched in it
module _ (a : EditorState) (key : Key) (reply : Reply) where
  abbrev outcome : KeyOutcome
  outcome = press a.session key reply

  abbrev map_after : Option FileMap
  map_after = files_after (request a.session key) reply a.files

  turn_is : (steps : Bool) → makes_steps outcome.answer ≡ steps
      → turn a (pressed_whole key reply)
      ≡ (if steps then running_turn outcome map_after None else still_turn outcome map_after)
  unfolding turn
  turn_is steps is =
      ap (λ (b : Bool). if b then running_turn outcome map_after None else still_turn outcome map_after) is

  fetched_is : (steps : Bool) → makes_steps outcome.answer ≡ steps
      → turn_fetched outcome ≡ (if steps then outcome.fetches + fetched_from_press outcome.after else outcome.fetches)
  fetched_is steps is =
      ap (λ (b : Bool). if b then outcome.fetches + fetched_from_press outcome.after else outcome.fetches) is

  -- no less is fetched in the turn than in the press
  press_fetched : outcome.fetches ≤ turn_fetched outcome
  press_fetched = by_test (makes_steps outcome.answer) refl where
    by_test : (steps : Bool) → makes_steps outcome.answer ≡ steps → outcome.fetches ≤ turn_fetched outcome
    by_test true is = let all = fetched_is true is in omega (arith, all)
    by_test false is = let all = fetched_is false is in omega (arith, all)

  -- the state after a turn whose press left session and map so
  state_is : (steps : Bool) → makes_steps outcome.answer ≡ steps → (session : PlainSession) → (files : Option FileMap)
      → session ≡ (if steps then (all_ticks outcome).after else outcome.after) → files ≡ map_after
      → state_with session files ≡ (turn a (pressed_whole key reply)).after
  state_is true is session files same told =
      ap (λ (s : PlainSession). state_with s files) same
      ∙ ap (λ (f : Option FileMap). state_with (all_ticks outcome).after f) told
      ∙ sym (ap (λ (t : Turn). t.after) (turn_is true is))
  state_is false is session files same told =
      ap (λ (s : PlainSession). state_with s files) same
      ∙ ap (λ (f : Option FileMap). state_with outcome.after f) told
      ∙ sym (ap (λ (t : Turn). t.after) (turn_is false is))

  -- it came to its end, with so much fetched after the press
  key_made : (b : EditorState) (u v w : PlainCounts) (more : ℕ) → (files : PlainFiles) → (files_now : PlainFiles)
      → a.files ≡ files.stored
      → HaveReplied (request a.session key) reply files files_now → b ≡ (turn a (pressed_whole key reply)).after
      → turn_fetched outcome ≡ outcome.fetches + more
      → CountsPressed outcome.checks outcome.emits outcome.fetches outcome.fetches u v
      → CountsPressed 0 0 more more v w → KeysMade (key ∷ []) a b u w
  key_made b u v w more files files_now same replied state all press_counts counts = record {
    pressed = pressed_whole key reply ∷ [];
    all = refl;
    can_reply = (subst (λ (f : Option FileMap). CanReply f (request a.session key) reply) (sym same) replied.can, tt);
    ended = (refl, tt);
    state = state;
    counts = record {
      checked = omega (arith, press_counts.checked, counts.checked);
      checked_later = omega (arith, press_counts.checked_later, counts.checked_later);
      emitted = omega (arith, press_counts.emitted, counts.emitted);
      emitted_later = omega (arith, press_counts.emitted_later, counts.emitted_later);
      fetched_least = omega (arith, all, press_counts.fetched_least, counts.fetched_least);
      fetched_most = omega (arith, all, press_counts.fetched_most, counts.fetched_most);
      laid = counts.laid ∙ press_counts.laid;
    };
  }

  -- memory ran out in it
  key_unmade : (u w : PlainCounts) → CanReply a.files (request a.session key) reply
      → CountsPressedAtMost outcome.checks outcome.emits (turn_fetched outcome) u w → KeysUnmade (key ∷ []) a u w
  key_unmade u w can counts = record {
    pressed = pressed_whole key reply ∷ [];
    front = ([], refl);
    can_reply = (can, tt);
    ended = (refl, tt);
    counts = record {
      checked = omega (arith, counts.checked);
      checked_later = counts.checked_later;
      emitted = omega (arith, counts.emitted);
      emitted_later = counts.emitted_later;
      fetched = omega (arith, counts.fetched);
      fetched_later = counts.fetched_later;
      laid = counts.laid;
    };
  }

-- the map that the maker's files have after a reply is the one that is claimed
map_told : (asked : Request) (reply : Reply) (before now : FileMap) → IsMapAfter asked reply (Some before) (Some now)
    → Some now ≡ files_after asked reply (Some before)
map_told asked reply before now is = by_claim asked reply (told_after asked reply (Some before) (Some now) is) where
  by_claim : (asked : Request) (reply : Reply) → IsToldAs (files_after asked reply (Some before)) (Some now)
      → Some now ≡ files_after asked reply (Some before)
  by_claim Request.Nothing reply told = told
  by_claim (Request.Read category text) reply told = told
  by_claim (Request.Resume kept c tree) reply told = told
  by_claim (Request.Load name) reply told = told
  by_claim (Request.Save name bytes) Reply.NotAsked told = told
  by_claim (Request.Save name bytes) (Reply.Read standing) told = told
  by_claim (Request.Save name bytes) (Reply.Resumes refusal) told = told
  by_claim (Request.Save name bytes) (Reply.Loaded tree) told = told
  by_claim (Request.Save name bytes) (Reply.Refused refusal) told = told
  by_claim (Request.Save name bytes) Reply.Saved told = told

-- what is told of the maker's files
abbrev told_files : FileMap → (faults wants : ℕ) → PlainFiles
told_files map faults wants = record { stored = Some map; faults = faults; wants = wants }

-- a key of a making that was pressed between two moments, with this reply
module _ (key : Key) (reply : Reply) (s t : PlainSession) (map now : FileMap) (faults wants faults_now wants_now : ℕ)
    (u v : PlainCounts)
    (replied : HaveReplied (request s key) reply (told_files map faults wants) (told_files now faults_now wants_now))
    (session : t ≡ (press s key reply).after)
    (counts : CountsPressed (press s key reply).checks (press s key reply).emits (press s key reply).fetches
    (press s key reply).fetches u v) where
  abbrev at_first : EditorState
  at_first = state_with s (Some map)

  -- no run went on in it
  pub still_made : makes_steps (press s key reply).answer ≡ false
      → KeysMade (key ∷ []) at_first (state_with t (Some now)) u v
  still_made still =
      key_made at_first key reply (state_with t (Some now)) u v v 0 (told_files map faults wants)
      (told_files now faults_now wants_now) refl replied
      (state_is at_first key reply false still t (Some now) session
      (map_told (request s key) reply map now replied.stored))
      (let all = fetched_is at_first key reply false still in omega (arith, all)) counts
      (record {
        checked = omega arith;
        checked_later = omega arith;
        emitted = omega arith;
        emitted_later = omega arith;
        fetched_least = omega arith;
        fetched_most = omega arith;
        laid = refl;
      })

  -- a run went on in it, and all its ticks were made
  pub run_made : makes_steps (press s key reply).answer ≡ true → (after : PlainSession) (w : PlainCounts)
      → TicksMade t after v w
      → KeysMade (key ∷ []) at_first (state_with after (Some now)) u w
  run_made steps after w made =
      key_made at_first key reply (state_with after (Some now)) u v w (fetched_from_press t)
      (told_files map faults wants)
      (told_files now faults_now wants_now) refl replied
      (state_is at_first key reply true steps after (Some now)
      (made.session ∙ ap (λ (x : PlainSession). (ticks_from x).after) session ∙ sym (later_ticks (press s key reply)))
      (map_told (request s key) reply map now replied.stored))
      (fetched_is at_first key reply true steps
      ∙ ap (λ (x : PlainSession). (press s key reply).fetches + fetched_from_press x) (sym session)) counts made.counts

  -- a run went on in it, and memory ran out in one of its ticks
  pub run_unmade : makes_steps (press s key reply).answer ≡ true → (w : PlainCounts)
      → CountsPressedAtMost 0 0 (fetched_from_press t) v w
      → KeysUnmade (key ∷ []) at_first u w
  run_unmade steps w made =
      let all = fetched_is at_first key reply true steps
      ∙ ap (λ (x : PlainSession). (press s key reply).fetches + fetched_from_press x) (sym session) in
      key_unmade at_first key reply u w replied.can
      (record {
        checked = omega (arith, counts.checked, made.checked);
        checked_later = omega (arith, counts.checked_later, made.checked_later);
        emitted = omega (arith, counts.emitted, made.emitted);
        emitted_later = omega (arith, counts.emitted_later, made.emitted_later);
        fetched = omega (arith, all, counts.fetched_most, made.fetched);
        fetched_later = omega (arith, counts.fetched_least, made.fetched_later);
        laid = made.laid ∙ counts.laid;
      })

  -- a run went on in it, by what became of its ticks, which ask the files for nothing
  pub run_ended : {T E : Type 0} → makes_steps (press s key reply).answer ≡ true → (later : FileMap) → later ≡ now
      → (after : PlainSession) (w : PlainCounts)
      → (result : Result T E) → MakesTicks t after v w result
      → MakesKeys (key ∷ []) at_first (state_with after (Some later)) u w result
  run_ended steps later same after w (Ok done) made =
      subst (λ (m : FileMap). KeysMade (key ∷ []) at_first (state_with after (Some m)) u w) (sym same)
      (run_made steps after w made)
  run_ended steps later same after w (Err error) made = run_unmade steps w made

-- where a key's answer is another, no run goes on in it
pub rest_answer : (answer : Answer) → (answer ≡ Done) ⊎ (((why : Refusal) × (answer ≡ Refused why)) ⊎ (answer ≡ Quit))
    → makes_steps answer ≡ false
rest_answer Running is = elim is as (λ _. true ≡ false) [
  | inl done ↦ absurd (cc (done))
  | inr (inl refused) ↦ absurd (cc (refused.1))
  | inr (inr quit) ↦ absurd (cc (quit))
]
rest_answer Done is = refl
rest_answer (Refused why) is = refl
rest_answer Quit is = refl

-- a key of a making wanted memory in its press
pub press_unmade : (key : Key) (reply : Reply) (s : PlainSession) (map : FileMap) (u w : PlainCounts)
    → CanReply (Some map) (request s key) reply
    → CountsPressedAtMost (press s key reply).checks (press s key reply).emits (press s key reply).fetches u w
    → KeysUnmade (key ∷ []) (state_with s (Some map)) u w
press_unmade key reply s map u w can counts =
    let state = state_with s (Some map) in
    let within = press_fetched state key reply in
    key_unmade state key reply u w can
    (record {
      checked = counts.checked;
      checked_later = counts.checked_later;
      emitted = counts.emitted;
      emitted_later = counts.emitted_later;
      fetched = omega (arith, within, counts.fetched);
      fetched_later = counts.fetched_later;
      laid = counts.laid;
    })

-- ---- all of it

-- the same keys, pressed from a state that is the first one of a making
pub made_from_first : (keys : List Key) (a b : EditorState) (u v : PlainCounts) → a ≡ made_from
    → KeysMade keys a b u v → KeysMade keys made_from b u v
made_from_first keys a b u v first made = subst (λ (s : EditorState). KeysMade keys s b u v) first made

pub unmade_from_first : (keys : List Key) (a : EditorState) (u v : PlainCounts) → a ≡ made_from
    → KeysUnmade keys a u v → KeysUnmade keys made_from u v
unmade_from_first keys a u v first made = subst (λ (s : EditorState). KeysUnmade keys s u v) first made

-- the new program, and then all keys, with the session after them
pub is_made : (number : ℕ) (all : List Key) (b : EditorState) (u v w : PlainCounts) → all ≡ keys (made_text number)
    → CountsProgram (phrase_count new_tree) (code_length new_tree) u v → KeysMade all made_from b v w
    → IsMade number b.session u w
is_made number all b u v w same opened made = record {
  made = record {
    pressed = made.pressed;
    all = made.all ∙ same;
    can_reply = made.can_reply;
    ended = made.ended;
    counts = record {
      checked = omega (arith, opened.checked, made.counts.checked);
      checked_later = omega (arith, opened.checked_later, made.counts.checked_later);
      emitted = omega (arith, opened.emitted, made.counts.emitted);
      emitted_later = omega (arith, opened.emitted_later, made.counts.emitted_later);
      fetched_least = omega (arith, opened.fetched, made.counts.fetched_least);
      fetched_most = omega (arith, opened.fetched, made.counts.fetched_most);
      laid = made.counts.laid ∙ opened.laid;
    };
  };
  session_is = ap (λ (s : EditorState). s.session) made.state;
}

-- the new program, and then keys up to one in whose turn memory ran out
pub part_made : (number : ℕ) (all : List Key) (u v w : PlainCounts) → all ≡ keys (made_text number)
    → CountsProgram (phrase_count new_tree) (code_length new_tree) u v → KeysUnmade all made_from v w
    → PartMade number u w
part_made number all u v w same opened made = record {
  pressed = made.pressed;
  front = subst (IsFront (keys_pressed made.pressed)) same made.front;
  can_reply = made.can_reply;
  ended = made.ended;
  counts = record {
    checked = omega (arith, opened.checked, made.counts.checked);
    checked_later = omega (arith, opened.checked_later, made.counts.checked_later);
    emitted = omega (arith, opened.emitted, made.counts.emitted);
    emitted_later = omega (arith, opened.emitted_later, made.counts.emitted_later);
    fetched = omega (arith, opened.fetched, made.counts.fetched);
    fetched_later = omega (arith, opened.fetched, made.counts.fetched_later);
    laid = made.counts.laid ∙ opened.laid;
  };
}

-- memory ran out where the session was opened: no key was pressed
pub unopened_made : (number : ℕ) (u v : PlainCounts)
    → CountsProgram (phrase_count new_tree) (code_length new_tree) u v → PartMade number u v
unopened_made number u v opened = record {
  pressed = [];
  front = (keys (made_text number), refl);
  can_reply = tt;
  ended = tt;
  counts = record {
    checked = omega (arith, opened.checked);
    checked_later = opened.checked_later;
    emitted = omega (arith, opened.emitted);
    emitted_later = opened.emitted_later;
    fetched = omega (arith, opened.fetched);
    fetched_later = omega (arith, opened.fetched);
    laid = opened.laid;
  };
}
