-- Turns of a state that claims no more of the files than another.
use Rattle.std.proofs.Common.{◌≡◌, ◌≤◌, IsTrue, ℕ, ◌+◌, Bool, true, false, if◌then◌else◌, ◌||◌, List, [], ◌∷◌, ◌++◌, Option, Some, None, refl, sym, ap, ◌∙◌, subst, arith}
use Rattle.plcs_base.specs.Count.{RoseBy}
use Rattle.synth_outside.specs.Files.{FileMap}
use Rattle.file_store.specs.declared.refusal.FileRefusal.{FileRefusal}
use Rattle.file_store.specs.FileReading.{IsLoadRefused}
use Rattle.synth_session.specs.KeyReply.{CanReply, CountsFault, IsMapAfter, Reply, Request}
use Rattle.synth_session.specs.PlainSession.{PlainSession}
use Rattle.synth_session.specs.KeyRequest.{request}
use Rattle.synth_session.specs.Press.{press}
use Rattle.synth_session.specs.KeyOutcome.{KeyOutcome}
use Rattle.synth_session.specs.Tick.{AreMade}
use Rattle.synth_top.specs.Turn.{KeyBill, HasReply, HaveReplies, IsToldAs, LeftAtLast, MayBeLeft, PressedKey, EditorState, Shot, Turn, answered, bill, bill_of, bills, both_bills, makes_steps, running_turn, state_after_keys, steps_of, still_turn, asked, ends, failure, files_after, grids, screens_of, shots, turn, turn_with}

-- ---- maps

-- what files tell may be claimed of them
pub told_itself : (files : Option FileMap) → IsToldAs files files
told_itself None = tt
told_itself (Some map) = refl

pub told_same : (before now : Option FileMap) → now ≡ before → IsToldAs before now
told_same None now same = tt
told_same (Some map) now same = same

-- what is claimed of what is claimed
pub told_through : (a b c : Option FileMap) → IsToldAs a b → IsToldAs b c → IsToldAs a c
told_through None b c first second = tt
told_through (Some map) b c first second = subst (λ files. IsToldAs files c) first second

-- the map that files have after a reply may be claimed
pub told_after : (request : Request) (reply : Reply) (before now : Option FileMap) → IsMapAfter request reply before now
    → IsToldAs (files_after request reply before) now
told_after Request.Nothing reply before now is = told_same before now is
told_after (Request.Read category text) reply before now is = told_same before now is
told_after (Request.Resume kept c tree) reply before now is = told_same before now is
told_after (Request.Load name) reply before now is = told_same before now is
told_after (Request.Save name bytes) Reply.NotAsked before now is = told_same before now is
told_after (Request.Save name bytes) (Reply.Read standing) before now is = told_same before now is
told_after (Request.Save name bytes) (Reply.Resumes refusal) before now is = told_same before now is
told_after (Request.Save name bytes) (Reply.Loaded tree) before now is = told_same before now is
told_after (Request.Save name bytes) (Reply.Refused refusal) before now is = told_same before now is
told_after (Request.Save name bytes) Reply.Saved None now is = tt
told_after (Request.Save name bytes) Reply.Saved (Some map) now is = is

-- nothing is claimed after a reply where nothing was
untold_after : (request : Request) (reply : Reply) → files_after request reply None ≡ None
untold_after Request.Nothing reply = refl
untold_after (Request.Read category text) reply = refl
untold_after (Request.Resume kept c tree) reply = refl
untold_after (Request.Load name) reply = refl
untold_after (Request.Save name bytes) Reply.NotAsked = refl
untold_after (Request.Save name bytes) (Reply.Read standing) = refl
untold_after (Request.Save name bytes) (Reply.Resumes refusal) = refl
untold_after (Request.Save name bytes) (Reply.Loaded tree) = refl
untold_after (Request.Save name bytes) (Reply.Refused refusal) = refl
untold_after (Request.Save name bytes) Reply.Saved = refl

-- no more is claimed after a reply where no more was
less_after : (request : Request) (reply : Reply) (a b : Option FileMap) → IsToldAs a b
    → IsToldAs (files_after request reply a) (files_after request reply b)
less_after request reply None b told = subst (λ files. IsToldAs files (files_after request reply b)) (sym (untold_after request reply)) tt
less_after request reply (Some map) b told =
    subst (λ files. IsToldAs (files_after request reply (Some map)) (files_after request reply files)) (sym told)
    (told_itself (files_after request reply (Some map)))

-- ---- replies

-- of files of which nothing is claimed a load may be refused for each reason
untold_refusal : (name : List ℕ) (refusal : FileRefusal) → IsLoadRefused None name refusal
untold_refusal name FileRefusal.NoFile = tt
untold_refusal name FileRefusal.FileFault = tt
untold_refusal name (FileRefusal.NotAListing line) = tt
untold_refusal name FileRefusal.TooDeep = tt
untold_refusal name FileRefusal.TooLarge = tt
untold_refusal name FileRefusal.TooLong = tt
untold_refusal name FileRefusal.OutOfMemory = tt

-- where no more is claimed, no fewer replies are possible
reply_less : (request : Request) (reply : Reply) (a b : Option FileMap) → IsToldAs a b → CanReply b request reply → CanReply a request reply
reply_less request reply (Some map) b told can = subst (λ files. CanReply files request reply) told can
reply_less Request.Nothing reply None b told can = can
reply_less (Request.Read category text) reply None b told can = can
reply_less (Request.Resume kept c tree) reply None b told can = can
reply_less (Request.Save name bytes) reply None b told can = can
reply_less (Request.Load name) Reply.NotAsked None b told can = absurd can
reply_less (Request.Load name) (Reply.Read standing) None b told can = absurd can
reply_less (Request.Load name) (Reply.Resumes refusal) None b told can = absurd can
reply_less (Request.Load name) Reply.Saved None b told can = absurd can
reply_less (Request.Load name) (Reply.Loaded tree) None b told can = (can.0, tt)
reply_less (Request.Load name) (Reply.Refused refusal) None b told can = (can.0, untold_refusal name refusal)

-- the count of faults rose by as many failures as a reply is
pub fault_counted : (reply : Reply) (before now : ℕ) → CountsFault reply before now → RoseBy (failure reply) before now
fault_counted Reply.NotAsked before now counts = omega (arith, counts)
fault_counted (Reply.Read standing) before now counts = omega (arith, counts)
fault_counted (Reply.Resumes refusal) before now counts = omega (arith, counts)
fault_counted Reply.Saved before now counts = omega (arith, counts)
fault_counted (Reply.Loaded tree) before now counts = omega (arith, counts)
fault_counted (Reply.Refused FileRefusal.FileFault) before now counts = let rose = counts.rose refl in omega (arith, rose)
fault_counted (Reply.Refused FileRefusal.NoFile) before now counts = omega (arith, counts.later)
fault_counted (Reply.Refused (FileRefusal.NotAListing line)) before now counts = omega (arith, counts.later)
fault_counted (Reply.Refused FileRefusal.TooDeep) before now counts = omega (arith, counts.later)
fault_counted (Reply.Refused FileRefusal.TooLarge) before now counts = omega (arith, counts.later)
fault_counted (Reply.Refused FileRefusal.TooLong) before now counts = omega (arith, counts.later)
fault_counted (Reply.Refused FileRefusal.OutOfMemory) before now counts = omega (arith, counts.later)

-- ---- turns

-- the session is the same, and no more is claimed of the files
pub record ClaimsNoMore (s t : EditorState) : Type 0 where
  pub session : s.session ≡ t.session
  pub files : IsToldAs s.files t.files

-- two turns of one key, after which files may have other maps
record SameTurn (t u : Turn) (files_t files_u : Option FileMap) : Type 0 where
  pub shots : t.shots ≡ u.shots
  pub session : t.after.session ≡ u.after.session
  pub ends : t.ends ≡ u.ends
  pub files : t.after.files ≡ files_t
  pub others : u.after.files ≡ files_u

same_turn : (steps : Bool) (left : Option ℕ) (outcome : KeyOutcome) (f g : Option FileMap)
    → SameTurn (if steps then running_turn outcome f left else still_turn outcome f) (if steps then running_turn outcome g left else still_turn outcome g) f g
same_turn true None outcome f g = record { shots = refl; session = refl; ends = refl; files = refl; others = refl }
same_turn true (Some number) outcome f g = record { shots = refl; session = refl; ends = refl; files = refl; others = refl }
same_turn false left outcome f g = record { shots = refl; session = refl; ends = refl; files = refl; others = refl }

module _ (s t : EditorState) (pressed : PressedKey) (less : ClaimsNoMore s t) where
  -- the key asks the same
  same_request : asked s pressed ≡ asked t pressed
  same_request = ap (λ (z : PlainSession). request z pressed.key) less.session

  -- and its turn is the same, but for the map of the files
  turns_same : SameTurn (turn s pressed) (turn t pressed) (files_after (asked s pressed) pressed.reply s.files) (files_after (asked t pressed) pressed.reply t.files)
  unfolding turn
  turns_same =
      subst
      (λ (z : PlainSession). SameTurn (turn s pressed)
      (turn_with (press z pressed.key pressed.reply) (files_after (request z pressed.key) pressed.reply t.files) pressed.left_after)
      (files_after (asked s pressed) pressed.reply s.files) (files_after (request z pressed.key) pressed.reply t.files))
      less.session
      (same_turn (makes_steps (answered s pressed)) pressed.left_after (press s.session pressed.key pressed.reply)
      (files_after (asked s pressed) pressed.reply s.files) (files_after (asked s pressed) pressed.reply t.files))

  files_less : IsToldAs (files_after (asked s pressed) pressed.reply s.files) (files_after (asked t pressed) pressed.reply t.files)
  files_less =
      subst (λ asks. IsToldAs (files_after (asked s pressed) pressed.reply s.files) (files_after asks pressed.reply t.files)) same_request
      (less_after (asked s pressed) pressed.reply s.files t.files less.files)

  turn_less : ClaimsNoMore (turn s pressed).after (turn t pressed).after
  turn_less = record {
    session = turns_same.session;
    files = subst (λ files. IsToldAs (turn s pressed).after.files files) (sym turns_same.others)
        (subst (λ files. IsToldAs files (files_after (asked t pressed) pressed.reply t.files)) (sym turns_same.files) files_less);
  }

  pub bill_same : bill s pressed ≡ bill t pressed
  bill_same = ap (λ (z : PlainSession). bill_of (press z pressed.key pressed.reply)) less.session

  pub turn_reply_less : HasReply t pressed → HasReply s pressed
  turn_reply_less can =
      reply_less (asked s pressed) pressed.reply s.files t.files less.files
      (subst (λ asks. CanReply t.files asks pressed.reply) (sym same_request) can)

  -- where it may be left so, it may
  may_less : (left : Option ℕ) → MayBeLeft t pressed left → MayBeLeft s pressed left
  may_less None may = tt
  may_less (Some number) may = record {
    goes_on = subst (λ (z : PlainSession). IsTrue (makes_steps (press z pressed.key pressed.reply).answer)) (sym less.session) may.goes_on;
    within = subst (λ (z : PlainSession). number ≤ (press z pressed.key pressed.reply).after.asked) (sym less.session) may.within;
    made = subst (λ (z : PlainSession). AreMade (steps_of (press z pressed.key pressed.reply).after) number (press z pressed.key pressed.reply).after)
        (sym less.session) may.made;
  }

-- ---- one turn after the other

pub after_less : (s t : EditorState) (ps : List PressedKey) → ClaimsNoMore s t → ClaimsNoMore (state_after_keys s ps) (state_after_keys t ps)
after_less s t [] less = less
after_less s t (p ∷ ps) less = after_less (turn s p).after (turn t p).after ps (turn_less s t p less)

pub same_shots : (s t : EditorState) (ps : List PressedKey) → ClaimsNoMore s t → shots s ps ≡ shots t ps
same_shots s t [] less = refl
same_shots s t (p ∷ ps) less =
    ap (λ (all : List Shot). all ++ shots (turn s p).after ps) (turns_same s t p less).shots
    ∙ ap (λ (all : List Shot). (turn t p).shots ++ all) (same_shots (turn s p).after (turn t p).after ps (turn_less s t p less))

pub same_grids : (s t : EditorState) (ps : List PressedKey) → ClaimsNoMore s t → grids s ps ≡ grids t ps
same_grids s t ps less = ap screens_of (same_shots s t ps less)

pub same_ends : (s t : EditorState) (ps : List PressedKey) → ClaimsNoMore s t → ends s ps ≡ ends t ps
same_ends s t [] less = refl
same_ends s t (p ∷ ps) less =
    ap (λ (b : Bool). b || ends (turn s p).after ps) (turns_same s t p less).ends
    ∙ ap (λ (b : Bool). (turn t p).ends || b) (same_ends (turn s p).after (turn t p).after ps (turn_less s t p less))

pub same_bills : (s t : EditorState) (ps : List PressedKey) → ClaimsNoMore s t → bills s ps ≡ bills t ps
same_bills s t [] less = refl
same_bills s t (p ∷ ps) less =
    ap (λ (b : KeyBill). both_bills b (bills (turn s p).after ps)) (bill_same s t p less)
    ∙ ap (λ (b : KeyBill). both_bills (bill t p) b) (same_bills (turn s p).after (turn t p).after ps (turn_less s t p less))

pub replies_less : (s t : EditorState) (ps : List PressedKey) → ClaimsNoMore s t → HaveReplies t ps → HaveReplies s ps
replies_less s t [] less can = tt
replies_less s t (p ∷ ps) less can =
    (turn_reply_less s t p less can.0, replies_less (turn s p).after (turn t p).after ps (turn_less s t p less) can.1)

pub left_less : (s t : EditorState) (ps : List PressedKey) → ClaimsNoMore s t → LeftAtLast t ps → LeftAtLast s ps
left_less s t [] less left = tt
left_less s t (p ∷ []) less left = may_less s t p less p.left_after left
left_less s t (p ∷ q ∷ ps) less left = (left.0, left_less (turn s p).after (turn t p).after (q ∷ ps) (turn_less s t p less) left.1)
