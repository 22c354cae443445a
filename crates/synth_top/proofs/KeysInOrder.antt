-- Keys that are pressed, and then others.
use Rattle.std.proofs.Common.{◌≡◌, ◌≤◌, IsTrue, ◌⊎◌, inl, inr, ℕ, ◌+◌, true, false, List, [], ◌∷◌, ◌++◌, Option, Some, None, length, take, sym, ap, ◌∙◌, subst, append_assoc, arith, length-append}
use Rattle.std.proofs.lemmas.List.{map-append}
use Rattle.std.proofs.Math.Seq.{take-append-add}
use Rattle.std.proofs.KnownBytes.{Appends-trans}
use Rattle.std.specs.Io.KnownBytes.{Appends}
use Rattle.plcs_base.specs.Count.{Rose}
use Rattle.plcs_base.specs.PlainCounts.{PlainCounts}
use Rattle.synth_outside.specs.Cause.{RisesWith}
use Rattle.synth_outside.specs.Files.{FileMap}
use Rattle.screen_window.specs.PlainGrid.{PlainGrid}
use Rattle.synth_session.specs.declared.key.Key.{Key}
use Rattle.synth_session.specs.KeyReply.{CountsWant, Reply}
use Rattle.synth_session.specs.KeyRequest.{request}
use Rattle.synth_session.specs.MemoryTaken.{key_takes_memory}
use Rattle.synth_session.specs.PlainSession.{PlainSession}
use Rattle.synth_session.specs.Press.{press}
use Rattle.synth_session.specs.SessionView.{CountsWanted}
use Rattle.synth_top.specs.declared.editor.Going.{Going}
use Rattle.synth_top.specs.declared.editor.Going.TheVariants.{On, Over}
use Rattle.synth_top.specs.declared.status.Status.{Status}
use Rattle.synth_top.specs.declared.status.Status.TheVariants.{Done, ReadFault, WriteFault, NoMemory, BadWords, KeyLimit}
use Rattle.synth_top.specs.Private.Pressing.{Moment, AllShown, UpToLast, KeysShown, KeysQuit, KeysCut, KeysStepWanted, KeysWanted, Pressed, last_shown, state_at}
use Rattle.synth_top.specs.Counted.{CountsFor, all_fetched}
use Rattle.synth_top.specs.WholeRun.{painted_over}
use Rattle.synth_top.specs.Turn.{KeyBill, HasReply, HaveReplies, IsToldAs, LeftAtLast, PressedKey, Shot, bills, state_after_keys, ends, failures, grids, keys_pressed, pressed_whole, shots}
use Rattle.synth_top.proofs.ClaimedFiles.{ClaimsNoMore, after_less, left_less, replies_less, same_bills, same_ends, same_grids, same_shots, told_through, turn_reply_less}
use Rattle.synth_top.proofs.CountsInTurn.{counts_both, due_after, fetched-append}
use Rattle.synth_top.proofs.TurnsInOrder.{AllCameToEnd-append, LeftAtLast-append, after-append, checks-append, emits-append, ends-going, grids-append, HaveReplies-append, failures-append, painted_over-append, last_shown-append, shots-append}
use Rattle.synth_top.specs.Keys.{IsFront}

-- a count that rises after keys in which it stayed
pub caused_after : (is_fault : Type 0) (p q s : ℕ) → q ≡ p → RisesWith is_fault q s → RisesWith is_fault p s
caused_after is_fault p q s same cause = subst (λ n. RisesWith is_fault n s) same cause

-- the keys of some and of others
pub keys_pressed-append : (ps qs : List PressedKey) → keys_pressed (ps ++ qs) ≡ keys_pressed ps ++ keys_pressed qs
keys_pressed-append ps qs = map-append (λ (p : PressedKey). p.key) ps qs

module _ (a b : Moment) (ps : List PressedKey) (shown : AllShown a b ps) where
  -- the state after claims no more than the next moment tells
  after_claims_less : ClaimsNoMore (state_after_keys (state_at a) ps) (state_at b)
  after_claims_less = record { session = sym shown.session; files = shown.files }

  -- the shots of others
  shots_more : (qs : List PressedKey) → shots (state_at a) (ps ++ qs) ≡ shots (state_at a) ps ++ shots (state_at b) qs
  shots_more qs =
      shots-append (state_at a) ps qs
      ∙ ap (λ (all : List Shot). shots (state_at a) ps ++ all) (same_shots (state_after_keys (state_at a) ps) (state_at b) qs after_claims_less)

  -- the bills of others
  checks_more : (qs : List PressedKey) → (bills (state_at a) (ps ++ qs)).checks ≡ (bills (state_at a) ps).checks + (bills (state_at b) qs).checks
  checks_more qs =
      checks-append (state_at a) ps qs
      ∙ ap (λ (bill : KeyBill). (bills (state_at a) ps).checks + bill.checks) (same_bills (state_after_keys (state_at a) ps) (state_at b) qs after_claims_less)

  emits_more : (qs : List PressedKey) → (bills (state_at a) (ps ++ qs)).emits ≡ (bills (state_at a) ps).emits + (bills (state_at b) qs).emits
  emits_more qs =
      emits-append (state_at a) ps qs
      ∙ ap (λ (bill : KeyBill). (bills (state_at a) ps).emits + bill.emits) (same_bills (state_after_keys (state_at a) ps) (state_at b) qs after_claims_less)

  -- the screens of others
  grids_more : (qs : List PressedKey) → grids (state_at a) (ps ++ qs) ≡ grids (state_at a) ps ++ grids (state_at b) qs
  grids_more qs =
      grids-append (state_at a) ps qs
      ∙ ap (λ (gs : List PlainGrid). grids (state_at a) ps ++ gs) (same_grids (state_after_keys (state_at a) ps) (state_at b) qs after_claims_less)

  -- the bytes of all screens
  pub painted_more : (qs : List PressedKey)
      → painted_over a.shown (grids (state_at a) (ps ++ qs)) ≡ painted_over a.shown (grids (state_at a) ps) ++ painted_over b.shown (grids (state_at b) qs)
  painted_more qs =
      ap (painted_over a.shown) (grids_more qs)
      ∙ painted_over-append a.shown (grids (state_at a) ps) (grids (state_at b) qs)
      ∙ ap (λ g. painted_over a.shown (grids (state_at a) ps) ++ painted_over g (grids (state_at b) qs)) (sym shown.shown)

  -- whether the others end the session
  pub ends_more : (qs : List PressedKey) → ends (state_at a) (ps ++ qs) ≡ ends (state_at b) qs
  ends_more qs = ends-going (state_at a) ps qs shown.going ∙ same_ends (state_after_keys (state_at a) ps) (state_at b) qs after_claims_less

  -- the state after claims no more than that after the others alone
  pub after_more : (qs : List PressedKey) → ClaimsNoMore (state_after_keys (state_at a) (ps ++ qs)) (state_after_keys (state_at b) qs)
  after_more qs =
      subst (λ s. ClaimsNoMore s (state_after_keys (state_at b) qs)) (sym (after-append (state_at a) ps qs))
      (after_less (state_after_keys (state_at a) ps) (state_at b) qs after_claims_less)

  -- the last screen
  last_more : (qs : List PressedKey) → last_shown a.shown (grids (state_at a) (ps ++ qs)) ≡ last_shown b.shown (grids (state_at b) qs)
  last_more qs =
      ap (last_shown a.shown) (grids_more qs)
      ∙ last_shown-append a.shown (grids (state_at a) ps) (grids (state_at b) qs)
      ∙ ap (λ g. last_shown g (grids (state_at b) qs)) (sym shown.shown)

  -- what was counted, and where memory ran out in the others what was due
  counted_more : (due : Option ℕ) (c : Moment) (qs : List PressedKey) → CountsFor (bills (state_at b) qs) (shots (state_at b) qs) due b.counts c.counts
      → CountsFor (bills (state_at a) (ps ++ qs)) (shots (state_at a) (ps ++ qs)) (due_after (shots (state_at a) ps) due) a.counts c.counts
  counted_more due c qs counts =
      subst (λ (all : List Shot). CountsFor (bills (state_at a) (ps ++ qs)) all (due_after (shots (state_at a) ps) due) a.counts c.counts)
      (sym (shots_more qs))
      (counts_both (bills (state_at a) ps) (bills (state_at b) qs) (bills (state_at a) (ps ++ qs)) (shots (state_at a) ps) (shots (state_at b) qs)
      due a.counts b.counts c.counts (omega (arith, checks_more qs)) (omega (arith, emits_more qs)) shown.counts counts)

  -- that of the others none but the last was left
  left_more : (qs : List PressedKey) → LeftAtLast (state_at b) qs → LeftAtLast (state_at a) (ps ++ qs)
  left_more qs left =
      LeftAtLast-append (state_at a) ps qs shown.ended (left_less (state_after_keys (state_at a) ps) (state_at b) qs after_claims_less left)

  -- where others were due up to a last one, so many instructions were due in all
  pub due_more : (qs : List PressedKey) (last : PressedKey)
      → due_after (shots (state_at a) ps) (Some (all_fetched (shots (state_at b) (qs ++ last ∷ []))))
      ≡ Some (all_fetched (shots (state_at a) ((ps ++ qs) ++ last ∷ [])))
  due_more qs last =
      let all = qs ++ last ∷ [] in
      ap (λ (n : ℕ). Some n)
      (sym (ap (λ (l : List PressedKey). all_fetched (shots (state_at a) l)) (append_assoc ps qs (last ∷ []))
      ∙ ap all_fetched (shots_more all)
      ∙ fetched-append (shots (state_at a) ps) (shots (state_at b) all)))

  -- what was replied
  replies_more : (qs : List PressedKey) → HaveReplies (state_at b) qs → HaveReplies (state_at a) (ps ++ qs)
  replies_more qs can =
      HaveReplies-append (state_at a) ps qs shown.can_reply (replies_less (state_after_keys (state_at a) ps) (state_at b) qs after_claims_less can)

  -- the map that is claimed
  files_more : (qs : List PressedKey) (files : Option FileMap) → IsToldAs (state_after_keys (state_at b) qs).files files → IsToldAs (state_after_keys (state_at a) (ps ++ qs)).files files
  files_more qs files told = told_through (state_after_keys (state_at a) (ps ++ qs)).files (state_after_keys (state_at b) qs).files files (after_more qs).files told

  -- all of some keys and all of others
  pub both_shown : (c : Moment) (qs : List PressedKey) → AllShown b c qs → AllShown a c (ps ++ qs)
  both_shown c qs next = record {
    can_reply = replies_more qs next.can_reply;
    going = ends_more qs ∙ next.going;
    session = next.session ∙ sym (after_more qs).session;
    files = files_more qs c.files.stored next.files;
    shown = next.shown ∙ sym (last_more qs);
    wrote = subst (Appends a.taken c.taken) (sym (painted_more qs))
        (Appends-trans a.taken b.taken c.taken (painted_over a.shown (grids (state_at a) ps)) (painted_over b.shown (grids (state_at b) qs)) shown.wrote next.wrote);
    unwanted = next.unwanted ∙ shown.unwanted;
    faults = omega (arith, shown.faults, next.faults, failures-append ps qs);
    ended = AllCameToEnd-append ps qs shown.ended next.ended;
    counts = counted_more None c qs next.counts;
  }

  -- all of some keys, and others up to a last one
  pub then_up_to : (c : Moment) (earlier : List PressedKey) (last : PressedKey) (count : ℕ) (due : Option ℕ) → b.files.wants ≡ a.files.wants
      → UpToLast b c earlier last count due
      → UpToLast a c (ps ++ earlier) last (length (painted_over a.shown (grids (state_at a) ps)) + count) (due_after (shots (state_at a) ps) due)
  then_up_to c earlier last count due same_wants next =
      let front = painted_over a.shown (grids (state_at a) ps) in
      let all = earlier ++ last ∷ [] in
      let joined : ps ++ all ≡ (ps ++ earlier) ++ last ∷ [] = sym (append_assoc ps earlier (last ∷ [])) in
      let bytes : front ++ painted_over b.shown (grids (state_at b) all) ≡ painted_over a.shown (grids (state_at a) ((ps ++ earlier) ++ last ∷ [])) =
      sym (painted_more all) ∙ ap (λ l. painted_over a.shown (grids (state_at a) l)) joined in
      let whole : length (painted_over a.shown (grids (state_at a) (ps ++ earlier))) ≡ length front + length (painted_over b.shown (grids (state_at b) earlier)) =
      ap length (painted_more earlier) ∙ length-append front (painted_over b.shown (grids (state_at b) earlier)) in
      let faults = ap failures (sym joined) ∙ failures-append ps all in
      record {
        can_reply = subst (HaveReplies (state_at a)) joined (replies_more all next.can_reply);
        going = ends_more earlier ∙ next.going;
        session = next.session ∙ sym (after_more all).session ∙ ap (λ l. (state_after_keys (state_at a) l).session) joined;
        files = subst (λ l. IsToldAs (state_after_keys (state_at a) l).files c.files.stored) joined (files_more all c.files.stored next.files);
        wrote = subst (Appends a.taken c.taken)
            (sym (take-append-add front (painted_over b.shown (grids (state_at b) all)) count) ∙ ap (take (length front + count)) bytes)
            (Appends-trans a.taken b.taken c.taken front (take count (painted_over b.shown (grids (state_at b) all))) shown.wrote next.wrote);
        whole = omega (arith, whole, next.whole);
        faults = omega (arith, shown.faults, next.faults, faults);
        wants = next.wants ∙ same_wants;
        left = subst (LeftAtLast (state_at a)) joined (left_more all next.left);
        counts = subst (λ l. CountsFor (bills (state_at a) l) (shots (state_at a) l) (due_after (shots (state_at a) ps) due) a.counts c.counts) joined
            (counted_more due c all next.counts);
      }

  -- a key that wanted memory after all of them
  module _ (qs : List PressedKey) (wanted : Key) where
    pub takes_more : IsTrue (key_takes_memory (state_after_keys (state_at b) qs).session wanted) → IsTrue (key_takes_memory (state_after_keys (state_at a) (ps ++ qs)).session wanted)
    takes_more takes = subst (λ (s : PlainSession). IsTrue (key_takes_memory s wanted)) (sym (after_more qs).session) takes

    pub counts_more : (now : ℕ) → b.files.wants ≡ a.files.wants → CountsWant (request (state_after_keys (state_at b) qs).session wanted) b.files.wants now
        → CountsWant (request (state_after_keys (state_at a) (ps ++ qs)).session wanted) a.files.wants now
    counts_more now same counts =
        subst (λ (s : PlainSession). CountsWant (request s wanted) a.files.wants now) (sym (after_more qs).session)
        (subst (λ before. CountsWant (request (state_after_keys (state_at b) qs).session wanted) before now) same counts)

    pub reply_more : (reply : Reply) → HasReply (state_after_keys (state_at b) qs) (pressed_whole wanted reply)
        → HasReply (state_after_keys (state_at a) (ps ++ qs)) (pressed_whole wanted reply)
    reply_more reply can =
        turn_reply_less (state_after_keys (state_at a) (ps ++ qs)) (state_after_keys (state_at b) qs) (pressed_whole wanted reply) (after_more qs) can

    pub work_more : (reply : Reply) (before now : PlainCounts) → CountsWanted (press (state_after_keys (state_at b) qs).session wanted reply) before now
        → CountsWanted (press (state_after_keys (state_at a) (ps ++ qs)).session wanted reply) before now
    work_more reply before now work = subst (λ (s : PlainSession). CountsWanted (press s wanted reply) before now) (sym (after_more qs).session) work

-- keys in front of others
pub front_after : (ps : List PressedKey) (keys more : List Key) (qs : List PressedKey) → keys_pressed ps ≡ keys → IsFront (keys_pressed qs) more
    → IsFront (keys_pressed (ps ++ qs)) (keys ++ more)
front_after ps keys more qs all front = (
  front.0,
  ap (λ l. keys ++ l) front.1 ∙ ap (λ l. l ++ (keys_pressed qs ++ front.0)) (sym all) ∙ sym (append_assoc (keys_pressed ps) (keys_pressed qs) front.0)
      ∙ ap (λ l. l ++ front.0) (sym (keys_pressed-append ps qs)),
)

-- keys and one that wanted memory, in front of others
pub wanted_after : (ps : List PressedKey) (keys more : List Key) (qs : List PressedKey) (wanted : Key) → keys_pressed ps ≡ keys
    → IsFront (keys_pressed qs ++ wanted ∷ []) more → IsFront (keys_pressed (ps ++ qs) ++ wanted ∷ []) (keys ++ more)
wanted_after ps keys more qs wanted all front = (
  front.0,
  ap (λ l. keys ++ l) front.1 ∙ ap (λ l. l ++ ((keys_pressed qs ++ wanted ∷ []) ++ front.0)) (sym all)
      ∙ sym (append_assoc (keys_pressed ps) (keys_pressed qs ++ wanted ∷ []) front.0)
      ∙ ap (λ l. l ++ front.0) (sym (append_assoc (keys_pressed ps) (keys_pressed qs) (wanted ∷ [])))
      ∙ ap (λ l. (l ++ wanted ∷ []) ++ front.0) (sym (keys_pressed-append ps qs)),
)

module _ (keys more : List Key) (a b c : Moment) (first : KeysShown keys a b) where
  then_all : KeysShown more b c → KeysShown (keys ++ more) a c
  then_all next = record {
    pressed = first.pressed ++ next.pressed;
    all = keys_pressed-append first.pressed next.pressed ∙ ap (λ l. l ++ keys_pressed next.pressed) first.all ∙ ap (λ l. keys ++ l) next.all;
    shown = both_shown a b first.pressed first.shown c next.pressed next.shown;
    wants = next.wants ∙ first.wants;
  }

  then_quit : KeysQuit more b c → KeysQuit (keys ++ more) a c
  then_quit next =
      let ps = first.pressed in
      let all = next.earlier ++ next.last ∷ [] in
      let joined : ps ++ all ≡ (ps ++ next.earlier) ++ next.last ∷ [] = sym (append_assoc ps next.earlier (next.last ∷ [])) in
      let bytes = ap length (painted_more a b ps first.shown all) ∙ length-append (painted_over a.shown (grids (state_at a) ps)) (painted_over b.shown (grids (state_at b) all)) in
      record {
        earlier = ps ++ next.earlier;
        last = next.last;
        front = subst (λ l. IsFront (keys_pressed l) (keys ++ more)) joined (front_after ps keys more all first.all next.front);
        count = length (painted_over a.shown (grids (state_at a) ps)) + next.count;
        up_to = then_up_to a b ps first.shown c next.earlier next.last next.count None first.wants next.up_to;
        quit = subst (λ l. ends (state_at a) l ≡ true) joined (ends_more a b ps first.shown all ∙ next.quit);
        all = subst (λ l. length (painted_over a.shown (grids (state_at a) l)) ≤ length (painted_over a.shown (grids (state_at a) ps)) + next.count) joined
            (omega (arith, bytes, next.all));
      }

  then_cut : KeysCut more b c → KeysCut (keys ++ more) a c
  then_cut next =
      let ps = first.pressed in
      let all = next.earlier ++ next.last ∷ [] in
      let joined : ps ++ all ≡ (ps ++ next.earlier) ++ next.last ∷ [] = sym (append_assoc ps next.earlier (next.last ∷ [])) in
      record {
        earlier = ps ++ next.earlier;
        last = next.last;
        front = subst (λ l. IsFront (keys_pressed l) (keys ++ more)) joined (front_after ps keys more all first.all next.front);
        count = length (painted_over a.shown (grids (state_at a) ps)) + next.count;
        up_to = then_up_to a b ps first.shown c next.earlier next.last next.count None first.wants next.up_to;
        going = subst (λ l. ends (state_at a) l ≡ false) joined (ends_more a b ps first.shown all ∙ next.going);
      }

  then_wanted : KeysWanted more b c → KeysWanted (keys ++ more) a c
  then_wanted next =
      let ps = first.pressed in record {
        pressed = ps ++ next.pressed;
        wanted = next.wanted;
        takes = takes_more a b ps first.shown next.pressed next.wanted next.takes;
        counts = counts_more a b ps first.shown next.pressed next.wanted c.files.wants first.wants next.counts;
        front = wanted_after ps keys more next.pressed next.wanted first.all next.front;
        counted = next.counted;
        shown = both_shown a b ps first.shown (record c { counts = next.counted }) next.pressed next.shown;
        reply = next.reply;
        can_reply = reply_more a b ps first.shown next.pressed next.wanted next.reply next.can_reply;
        work = work_more a b ps first.shown next.pressed next.wanted next.reply next.counted c.counts next.work;
        law = next.law;
      }

  then_step_wanted : KeysStepWanted more b c → KeysStepWanted (keys ++ more) a c
  then_step_wanted next =
      let ps = first.pressed in
      let all = next.earlier ++ next.last ∷ [] in
      let joined : ps ++ all ≡ (ps ++ next.earlier) ++ next.last ∷ [] = sym (append_assoc ps next.earlier (next.last ∷ [])) in
      let bytes = ap length (painted_more a b ps first.shown all) ∙ length-append (painted_over a.shown (grids (state_at a) ps)) (painted_over b.shown (grids (state_at b) all)) in
      record {
        earlier = ps ++ next.earlier;
        last = next.last;
        front = subst (λ l. IsFront (keys_pressed l) (keys ++ more)) joined (front_after ps keys more all first.all next.front);
        number = next.number;
        left = next.left;
        count = length (painted_over a.shown (grids (state_at a) ps)) + next.count;
        up_to = subst
            (λ (due : Option ℕ). UpToLast a c (ps ++ next.earlier) next.last (length (painted_over a.shown (grids (state_at a) ps)) + next.count) due)
            (due_more a b ps first.shown next.earlier (record (next.last) { left_after = None }))
            (then_up_to a b ps first.shown c next.earlier next.last next.count
            (Some (all_fetched (shots (state_at b) (next.earlier ++ record (next.last) { left_after = None } ∷ [])))) first.wants next.up_to);
        all = subst (λ l. length (painted_over a.shown (grids (state_at a) l)) ≤ length (painted_over a.shown (grids (state_at a) ps)) + next.count) joined
            (omega (arith, bytes, next.all));
        calls = next.calls;
        going = subst (λ l. ends (state_at a) l ≡ false) joined (ends_more a b ps first.shown all ∙ next.going);
      }

-- all of some keys, and then what became of others
pub pressed_then : (going : Going) (keys more : List Key) (a b c : Moment) → KeysShown keys a b → Pressed going more b c → Pressed going (keys ++ more) a c
pressed_then On keys more a b c first next = then_all keys more a b c first next
pressed_then (Over Done) keys more a b c first next = then_quit keys more a b c first next
pressed_then (Over WriteFault) keys more a b c first next = then_cut keys more a b c first next
pressed_then (Over NoMemory) keys more a b c first next =
    elim next as (λ _. (KeysCut (keys ++ more) a c × Rose a.wanted c.wanted) ⊎ (KeysWanted (keys ++ more) a c ⊎ KeysStepWanted (keys ++ more) a c)) [
      | inl cut ↦ inl (then_cut keys more a b c first cut.0, omega (arith, cut.1, first.shown.unwanted))
      | inr (inl wanted) ↦ inr (inl (then_wanted keys more a b c first wanted))
      | inr (inr wanted) ↦ inr (inr (then_step_wanted keys more a b c first wanted))
    ]
pressed_then (Over ReadFault) keys more a b c first next = absurd next
pressed_then (Over BadWords) keys more a b c first next = absurd next
pressed_then (Over KeyLimit) keys more a b c first next = absurd next

-- the first of some keys are the first of those and others
pub front_more : (front keys more : List Key) → IsFront front keys → IsFront front (keys ++ more)
front_more front keys more is_front =
    (is_front.0 ++ more, ap (λ l. l ++ more) is_front.1 ∙ append_assoc front is_front.0 more)

-- where a screen of one of some keys was cut short, others after them don't matter
cut_before : (keys more : List Key) (a b : Moment) → KeysCut keys a b → KeysCut (keys ++ more) a b
cut_before keys more a b cut = record {
  earlier = cut.earlier;
  last = cut.last;
  front = front_more _ keys more cut.front;
  count = cut.count;
  up_to = cut.up_to;
  going = cut.going;
}

-- nor where one of them wanted memory, or a step in the turn of one
wanted_before : (keys more : List Key) (a b : Moment) → KeysWanted keys a b → KeysWanted (keys ++ more) a b
wanted_before keys more a b wanted = record {
  pressed = wanted.pressed;
  wanted = wanted.wanted;
  takes = wanted.takes;
  counts = wanted.counts;
  front = front_more _ keys more wanted.front;
  counted = wanted.counted;
  shown = wanted.shown;
  reply = wanted.reply;
  can_reply = wanted.can_reply;
  work = wanted.work;
  law = wanted.law;
}

step_wanted_before : (keys more : List Key) (a b : Moment) → KeysStepWanted keys a b → KeysStepWanted (keys ++ more) a b
step_wanted_before keys more a b wanted = record {
  earlier = wanted.earlier;
  last = wanted.last;
  front = front_more _ keys more wanted.front;
  number = wanted.number;
  left = wanted.left;
  count = wanted.count;
  up_to = wanted.up_to;
  all = wanted.all;
  calls = wanted.calls;
  going = wanted.going;
}

-- where the run ended at one of some keys, others after them don't matter
pub pressed_before : (status : Status) (keys more : List Key) (a b : Moment) → Pressed (Over status) keys a b → Pressed (Over status) (keys ++ more) a b
pressed_before Done keys more a b pressed = record {
  earlier = pressed.earlier;
  last = pressed.last;
  front = front_more _ keys more pressed.front;
  count = pressed.count;
  up_to = pressed.up_to;
  quit = pressed.quit;
  all = pressed.all;
}
pressed_before WriteFault keys more a b pressed = cut_before keys more a b pressed
pressed_before NoMemory keys more a b pressed =
    elim pressed as (λ _. (KeysCut (keys ++ more) a b × Rose a.wanted b.wanted) ⊎ (KeysWanted (keys ++ more) a b ⊎ KeysStepWanted (keys ++ more) a b)) [
      | inl cut ↦ inl (cut_before keys more a b cut.0, cut.1)
      | inr (inl wanted) ↦ inr (inl (wanted_before keys more a b wanted))
      | inr (inr wanted) ↦ inr (inr (step_wanted_before keys more a b wanted))
    ]
pressed_before ReadFault keys more a b pressed = absurd pressed
pressed_before BadWords keys more a b pressed = absurd pressed
pressed_before KeyLimit keys more a b pressed = absurd pressed
