-- Where a key ended the session, and where the source did, by the counts of a journal.
use Rattle.std.proofs.Common.{◌≡◌, ℕ, ◌+◌, ◌-◌, ◌^◌, ◌<◌, ◌≤◌, ◌⊎◌, inl, inr, Bool, true, false, List, [], ◌∷◌, ◌++◌, length, refl, ◌∙◌, subst, arith}
use Rattle.std.specs.Prelude.{◌≢◌}
use Rattle.synth_kept.specs.Closing.{Closing, ClearsWhere}
use Rattle.synth_kept.specs.Closing.Closing.{LeftStanding, Cleared, NotCleared}
use Rattle.synth_kept.specs.Private.Agreement.{IsToClear, ClosesAsDue}
use Rattle.synth_top.specs.declared.status.Status.{Status}
use Rattle.synth_top.specs.declared.status.Status.TheVariants.{Done}
use Rattle.synth_top.specs.Keys.{IsFront, keys}
use Rattle.synth_top.specs.WholeRun.{ToldStreams, Course, QuitPressed, SourceEnded, Stopped}
use Rattle.synth_top.specs.Turn.{PressedKey, EditorState, keys_pressed}
use Rattle.synth_top.specs.Options.{PlainOptions}
use Rattle.synth_kept.proofs.Limits.{IsLimited}

-- no byte gives no key
no_keys : keys [] ≡ []
unfolding keys
no_keys = refl

-- so where some key was pressed, some byte was read
some_byte : (bytes : List ℕ) (pressed earlier : List PressedKey) (last : PressedKey) →
    pressed ≡ earlier ++ last ∷ [] → IsFront (keys_pressed pressed) (keys bytes) → length bytes ≢ 0
some_byte (byte ∷ bytes) pressed earlier last is front none = absurd (omega (arith, none))
some_byte [] pressed earlier last is front none =
    nothing earlier (subst (λ (ps : List PressedKey). IsFront (keys_pressed ps) []) is
    (subst (IsFront (keys_pressed pressed)) no_keys front)) where
      nothing : (earlier : List PressedKey) → IsFront (keys_pressed (earlier ++ last ∷ [])) [] → ⊥
      nothing [] front = absurd (cc (front.1))
      nothing (first ∷ earlier) front = absurd (cc (front.1))

module _ (options : PlainOptions) (limited : IsLimited options) (first : EditorState) (before now : ToldStreams) (wants_before wants_now : ℕ)
    (course : Course options first before now) (unread : before.reads ≡ 0) (given ends : ℕ) (ended : Bool)
    (many : length course.bytes ≡ given)
    (counted : now.reads < 2 ^ 64 - 1 → now.reads ≡ given + ends)
    (noted : ends ≡ 0 → ended ≡ false) (stays : (ends ≡ 0) ⊎ (ended ≡ true)) where
  -- how many reads were made, none of which wasn't counted
  reads_are : course.reads ≤ length course.bytes + 1 → course.reads ≡ given + ends
  reads_are few =
      let made : now.reads ≡ course.reads = omega (arith, course.made, unread, course.within, limited, few) in
      omega (arith, made, counted (omega (arith, made, course.within, limited, few)))

  -- a quit is pressed after a key that was given
  quit_clears : (run : Status) → run ≡ Done → QuitPressed course → IsToClear run given ended
  quit_clears run done quit = record {
    done = done;
    some = λ none. some_byte course.bytes course.pressed quit.at_key.earlier quit.at_key.last quit.at_key.is_last
        course.in_order (many ∙ none);
    going = noted (let reads = reads_are (omega (arith, quit.no_read)) in omega (arith, reads, quit.no_read, many));
  }

  -- the source's end is noted
  end_stands : (run : Status) → SourceEnded course → IsToClear run given ended → ⊥
  end_stands run source clear =
      let reads = reads_are (omega (arith, source.end.one_more)) in
      is_noted (omega (arith, reads, source.end.one_more, many)) stays where
        is_noted : ends ≡ 1 → (ends ≡ 0) ⊎ (ended ≡ true) → ⊥
        is_noted one (inl none) = absurd (omega (arith, one, none))
        is_noted one (inr end) = absurd (cc (end, clear.going))

  clear_quits : (run : Status) → Stopped course wants_before wants_now run → IsToClear run given ended → QuitPressed course
  clear_quits run stopped clear = at_done (subst (Stopped course wants_before wants_now) clear.done stopped) where
    at_done : Stopped course wants_before wants_now Done → QuitPressed course
    at_done stopped = elim stopped.2 as (λ _. QuitPressed course)
        [ inl source ↦ absurd (end_stands run source clear) | inr quit ↦ quit ]

  -- the journal is cleared exactly where a key ended the session
  pub clears_at_quit : (run : Status) (closing : Closing) → Stopped course wants_before wants_now run → ClosesAsDue closing run given ended →
      ClearsWhere ((run ≡ Done) × QuitPressed course) closing
  clears_at_quit run LeftStanding stopped agrees = λ quit. agrees (quit_clears run quit.0 quit.1)
  clears_at_quit run Cleared stopped agrees = (agrees.done, clear_quits run stopped agrees)
  clears_at_quit run (NotCleared fault) stopped agrees = (agrees.done, clear_quits run stopped agrees)

-- a run that isn't done isn't cleared after it
pub stands_undone : (quit : Type 0) (run : Status) (given : ℕ) (ended : Bool) (closing : Closing) →
    (run ≡ Done → ⊥) → ClosesAsDue closing run given ended → ClearsWhere ((run ≡ Done) × quit) closing
stands_undone quit run given ended LeftStanding undone agrees = λ both. undone both.0
stands_undone quit run given ended Cleared undone agrees = absurd (undone agrees.done)
stands_undone quit run given ended (NotCleared fault) undone agrees = absurd (undone agrees.done)
