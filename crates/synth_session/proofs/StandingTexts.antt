-- What a text is, and what the parser answers to it.
use Rattle.std.proofs.Common.{◌≡◌, ◌==◌, ℕ, Bool, true, false, if◌then◌else◌, List, length, Option, Some, None, Result, Ok, Err, refl, sym, ap, subst}
use Rattle.std.specs.Prelude.{IfOk, is_some, nat_lt}
use Rattle.plcs_grammar.specs.Canon.{Canon, IsWellFormed}
use Rattle.plcs_grammar.specs.declared.category.Category.{Category}
use Rattle.plcs_grammar.specs.declared.phrase.Phrase.{Phrase}
use Rattle.plcs_grammar.specs.OverLimit.{OverLimit}
use Rattle.plcs_grammar.specs.PlainPhrase.{PlainPhrase, category_of, plain_phrase}
use Rattle.plcs_base.specs.declared.memory.OutOfMemory.{OutOfMemory}
use Rattle.phrase_parser.specs.declared.fault.PhraseFault.{PhraseFault}
use Rattle.phrase_parser.specs.declared.fault.PhraseFault.TheVariants as fault_of
use Rattle.phrase_parser.specs.Answers.{Answers}
use Rattle.phrase_parser.specs.ReadingLaws.{OneStanding}
use Rattle.phrase_parser.specs.Standing.{Standing, HasStanding}
use Rattle.synth_outside.specs.Files.{PlainFiles}
use Rattle.synth_session.specs.declared.answer.Answer.{Answer}
use Rattle.synth_session.specs.declared.answer.Refusal.TheVariants as why
use Rattle.session_words.specs.CommandLine.{begins_with_point}
use Rattle.cursor_moves.specs.Move.{stop_right}
use Rattle.template_tree.specs.Programs.Limit.{longest_phrase}
use Rattle.session_edit.specs.Here.{category_at}
use Rattle.session_edit.specs.PlainEdit.{PlainEdit}
use Rattle.synth_session.specs.CursorKeys.{cursor_moved}
use Rattle.synth_session.specs.EditCommands.{edited_by}
use Rattle.synth_session.specs.EnteredLine.{command_line_outcome, line_entered, read_entered, standing_entered, text_entered}
use Rattle.synth_session.specs.KeyOutcome.{KeyOutcome, refusal_outcome}
use Rattle.synth_session.specs.KeyReply.{FilesDo, IsTextReply, Reply, Request, TextsHaveOneReply}
use Rattle.synth_session.specs.KeyRequest.{command_line_request, line_request, text_request}
use Rattle.synth_session.specs.MemoryTaken.{command_line_takes_memory, line_takes_memory}
use Rattle.synth_session.specs.PlainSession.{PlainSession}
use Rattle.synth_session.specs.Private.Faults.{IsReadOf, IsTextFault}

-- what a text is of which this was answered; where memory ran out it is what the law says
pub read_standing : OneStanding → (c : Category) (x : List ℕ) (answer : Result Phrase PhraseFault) → Answers c x answer
    → (standing : Standing) × HasStanding c x standing × IsReadOf standing answer
read_standing law c x (Ok phrase) says = (Standing.phrase (plain_phrase phrase), says, refl)
read_standing law c x (Err (fault_of.Syntax place)) says = (Standing.wrong_at place, says, refl)
read_standing law c x (Err (fault_of.NumberTooLarge place)) says = (Standing.over (OverLimit.number_too_large place), says, refl)
read_standing law c x (Err (fault_of.TooDeep place)) says = (Standing.over (OverLimit.too_deep place), says, refl)
read_standing law c x (Err fault_of.OutOfMemory) says = let one = law c x in (one.0, one.1, tt)

-- a phrase that is answered is well formed in its own category
pub own_form : (c : Category) (answer : Result Phrase PhraseFault)
    → IfOk answer (λ phrase. IsWellFormed c (plain_phrase phrase)) → IfOk answer (λ phrase. category_of (plain_phrase phrase) ≡ c)
    → IfOk answer (λ phrase. IsWellFormed (category_of (plain_phrase phrase)) (plain_phrase phrase))
own_form c (Ok phrase) formed is = subst (λ (d : Category). IsWellFormed d (plain_phrase phrase)) (sym is) formed
own_form c (Err fault) formed is = tt

-- what comes of phrase text with a fault
pub fault_entered : (s : PlainSession) (standing : Standing) (fault : PhraseFault) → IsTextFault standing fault
    → (fault ≡ fault_of.OutOfMemory → ⊥) → standing_entered s standing ≡ refusal_outcome s (why.Phrase fault)
fault_entered s standing (fault_of.Syntax place) is isnt = ap (standing_entered s) is
fault_entered s standing (fault_of.NumberTooLarge place) is isnt = ap (standing_entered s) is
fault_entered s standing (fault_of.TooDeep place) is isnt = ap (standing_entered s) is
fault_entered s standing fault_of.OutOfMemory is isnt = absurd (isnt refl)

-- what comes of phrase text whose canonical text is too long, and of one that isn't
pub long_entered : (s : PlainSession) (phrase : PlainPhrase) → nat_lt longest_phrase (length (Canon phrase)) ≡ true
    → standing_entered s (Standing.phrase phrase) ≡ refusal_outcome s why.PhraseFull
long_entered s phrase long =
    ap (λ (over : Bool). if over then refusal_outcome s why.PhraseFull else edited_by s (PlainEdit.enter phrase)) long

pub short_entered : (s : PlainSession) (phrase : PlainPhrase) → nat_lt longest_phrase (length (Canon phrase)) ≡ false
    → standing_entered s (Standing.phrase phrase) ≡ edited_by s (PlainEdit.enter phrase)
short_entered s phrase short =
    ap (λ (over : Bool). if over then refusal_outcome s why.PhraseFull else edited_by s (PlainEdit.enter phrase)) short

-- what can be replied to a text is what it is
reply_is : (c : Category) (x : List ℕ) (standing : Standing) → ((other : Standing) → HasStanding c x other → other ≡ standing)
    → (reply : Reply) → IsTextReply c x reply → reply ≡ Reply.Read standing
reply_is c x standing one Reply.NotAsked is = absurd is
reply_is c x standing one (Reply.Read other) is = ap Reply.Read (one other is)
reply_is c x standing one (Reply.Resumes refusal) is = absurd is
reply_is c x standing one Reply.Saved is = absurd is
reply_is c x standing one (Reply.Loaded tree) is = absurd is
reply_is c x standing one (Reply.Refused refusal) is = absurd is

pub texts_have_one_reply : OneStanding → TextsHaveOneReply
texts_have_one_reply law c x = let one = law c x in (Reply.Read one.0, one.1, reply_is c x one.0 one.2)

-- what the typed line is entered as that is phrase text
pub text_line : (s : PlainSession) → (length s.typed == 0) ≡ false → begins_with_point s.typed ≡ false
    → (P : Bool → Request → (Reply → KeyOutcome) → Type 0)
    → P (is_some (category_at s.tree s.stop)) (text_request s (category_at s.tree s.stop)) (text_entered s (category_at s.tree s.stop))
    → P (line_takes_memory s) (line_request s) (line_entered s)
text_line s some no_point P h =
    subst
    (λ (empty : Bool). P (if empty then false else (if begins_with_point s.typed then command_line_takes_memory s else is_some (category_at s.tree s.stop)))
    (if empty then Request.Nothing else (if begins_with_point s.typed then command_line_request s else text_request s (category_at s.tree s.stop)))
    (λ reply. if empty then cursor_moved s stop_right
    else (if begins_with_point s.typed then command_line_outcome s reply else text_entered s (category_at s.tree s.stop) reply)))
    (sym some)
    (subst
    (λ (point : Bool). P (if point then command_line_takes_memory s else is_some (category_at s.tree s.stop))
    (if point then command_line_request s else text_request s (category_at s.tree s.stop))
    (λ reply. if point then command_line_outcome s reply else text_entered s (category_at s.tree s.stop) reply))
    (sym no_point) h)

-- what it is entered as where the cursor wants phrase text of a category
pub wanted_text : (s : PlainSession) (category : Category) → category_at s.tree s.stop ≡ Some category
    → (P : Bool → Request → (Reply → KeyOutcome) → Type 0) → P true (Request.Read category s.typed) (read_entered s)
    → P (is_some (category_at s.tree s.stop)) (text_request s (category_at s.tree s.stop)) (text_entered s (category_at s.tree s.stop))
wanted_text s category is P h = subst (λ (wanted : Option Category). P (is_some wanted) (text_request s wanted) (text_entered s wanted)) (sym is) h

-- where it wants none
pub unwanted_text : (s : PlainSession) → category_at s.tree s.stop ≡ None
    → (P : Bool → Request → (Reply → KeyOutcome) → Type 0) → P false Request.Nothing (λ reply. refusal_outcome s why.NotHere)
    → P (is_some (category_at s.tree s.stop)) (text_request s (category_at s.tree s.stop)) (text_entered s (category_at s.tree s.stop))
unwanted_text s is P h = subst (λ (wanted : Option Category). P (is_some wanted) (text_request s wanted) (text_entered s wanted)) (sym is) h

-- what files do that nothing is asked of, where a text is replied to
pub read_files : (c : Category) (x : List ℕ) (standing : Standing) (files : PlainFiles) (result : Result Answer OutOfMemory)
    → HasStanding c x standing → FilesDo (Request.Read c x) (Reply.Read standing) files files result
read_files c x standing files (Ok answer) has = record { can = has; stored = refl; faults = refl; wants = refl }
read_files c x standing files (Err error) has = record { can = has; stored = refl; faults = refl; wants = refl }
