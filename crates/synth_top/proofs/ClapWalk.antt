-- Words as clap walks along them, and in plain words: of a command with options that have one value each, and with one
-- word that stands by itself.
use Rattle.std.proofs.Common.{◌≡◌, ◌⊎◌, inl, inr, ℕ, ◌||◌, Bool, true, false, List, [], ◌∷◌, ◌++◌, Option, Some, None, refl, sym, ap, ◌∙◌}
use Rattle.std.proofs.Common.{subst, codes, map, length, append_assoc, append-nil}
use Rattle.std.specs.declared.alloc.Global.{Global}
use Rattle.std.specs.Prelude.{String, string_bytes, drop, fold, nat_lt, if◌then◌else◌}
use Rattle.std.specs.Char.{encode_utf8}
use Rattle.std.specs.Option.{option_map_or}
use Rattle.std.specs.Str.{IsUtf8, bytes_eq}
use Rattle.std.proofs.lemmas.List.Folds.{list_any-append}
use Rattle.std.proofs.lemmas.Str.{IsUtf8-string_bytes}
use Rattle.clap.specs.declared.error.kind.ErrorKind.TheVariants as kind
use Rattle.clap.specs.Faults.{check_fault, defaults_fault, positional_fault, bundle_fault, bundle_step_fault, flag_word_fault, flags_fault}
use Rattle.clap.specs.Faults.{long_fault, option_fault, other_fault, settle_fault, short_fault, step_fault, stray_fault, turn_fault}
use Rattle.clap.specs.Faults.{use_fault, walk_fault, word_fault}
use Rattle.clap.specs.Kinds.{Kinds, or_else}
use Rattle.clap.specs.Lexer.{long_of}
use Rattle.clap.specs.Simple.{Shape}
use Rattle.clap.specs.Walk.{after_flag, option_word, reacted, long_met, long_or_other, option_met, plain_word, positional, short_or_plain}
use Rattle.clap.specs.Walk.{subcommand_met, subcommand_or_other, Held, Row, Rule, Step, Text, Waiting, Walk, after_step, arg_by_id}
use Rattle.clap.specs.Walk.{finished, idle, next as goes_on, option as waits_for, is_pending, pushed, settled, to_positional}
use Rattle.clap.specs.Walk.{trailing as ends, used, used_by_id, value as stands, walked, word_met}
use Rattle.synth_top.specs.Given.{NamedValue, has_each_once, has_two_hyphens, is_hyphened, is_option_name, name_in_word, option_values}
use Rattle.synth_top.specs.Given.{program_value, value_before, value_in_word, values_in}
use Rattle.synth_top.proofs.ClapLooks.{Looks, is_ending, is_long, is_plain, is_short, letter_behind, look_of}
use Rattle.synth_top.proofs.ClapUses.{IsWordCommand, and_false, bytes_same, each_once_more, has_name, named, named_again, named_within}
use Rattle.synth_top.proofs.ClapUses.{none_both, none_first, none_second, option_of, program_rule, rows_of_values, same_names, use_again}
use Rattle.synth_top.proofs.ClapUses.{use_new, used_new, valued_rule}

-- ---- places between two words

-- what is held where these values are used, and perhaps another is pending
abbrev held_with : List NamedValue → Option (Text × List Text) → Held
held_with taken pending = record { rows = rows_of_values taken; pending = pending; skip = 0 }

abbrev between : Held → Waiting → ℕ → Bool → Walk
between h waiting position is_trailing = record { held = h; waiting = waiting; position = position; is_trailing = is_trailing; stopped = None }

-- where an option waits for its value, and where the program was named
abbrev waiting_walk : List NamedValue → Text → ℕ → Bool → Walk
waiting_walk taken name position is_trailing = between (held_with taken (Some (name, []))) (waits_for name) position is_trailing

abbrev program_walk : List NamedValue → Text → Bool → Walk
program_walk taken word is_trailing = between (held_with taken (Some (codes "program", word ∷ []))) idle 2 is_trailing

module _ (s : Shape) where
  -- what is refused at the end of the words, and the rows there
  abbrev pub fault_at_end : Held → Kinds
  fault_at_end h =
      or_else (settle_fault s.rules s.args_override_self h)
      (or_else (defaults_fault (settled s.rules h).rows s.rules) (check_fault s (finished s.rules h) false))

  -- what is refused of words from a place on, and the rows at their end
  abbrev pub fault_from : Walk → List Text → Kinds
  fault_from w words = or_else (walk_fault s [] w words) (fault_at_end (fold (walked s.rules []) w words).held)

  abbrev pub rows_from : Walk → List Text → List Row
  rows_from w words = finished s.rules (fold (walked s.rules []) w words).held

  -- words are taken behind these values, and give more
  pub record Takes (w : Walk) (words : List Text) (taken : List NamedValue) (more : Option (List NamedValue)) : Type 0 where
    pub fault : fault_from w words ≡ []
    pub values : List NamedValue
    pub more_is : more ≡ Some values
    pub once : has_each_once (taken ++ values) ≡ true
    pub rows : rows_from w words ≡ rows_of_values (taken ++ values)

  -- words are refused behind these values, and have no values that may stand behind them
  pub record Refuses (w : Walk) (words : List Text) (taken : List NamedValue) (more : Option (List NamedValue)) : Type 0 where
    pub fault : fault_from w words ≡ [] → ⊥
    pub none : (values : List NamedValue) → more ≡ Some values → has_each_once (taken ++ values) ≡ false

  abbrev pub Agrees : Walk → List Text → List NamedValue → Option (List NamedValue) → Type 0
  Agrees w words taken more = Takes w words taken more ⊎ Refuses w words taken more

  -- a word passes
  fault_behind : (w : Walk) (word : Text) (rest : List Text) → turn_fault s [] w word ≡ []
      → fault_from w (word ∷ rest) ≡ fault_from (walked s.rules [] w word) rest
  unfolding walk_fault
  fault_behind w word rest passes =
      ap (λ (k : Kinds). or_else (or_else k (walk_fault s [] (walked s.rules [] w word) rest)) (fault_at_end (fold (walked s.rules []) w (word ∷ rest)).held)) passes

  passed_itself : (w : Walk) (word : Text) (rest : List Text) (taken : List NamedValue) (more : Option (List NamedValue)) → turn_fault s [] w word ≡ []
      → Agrees (walked s.rules [] w word) rest taken more → Agrees w (word ∷ rest) taken more
  passed_itself w word rest taken more passes agrees =
      elim agrees as (λ _. Agrees w (word ∷ rest) taken more) [
        | inl takes ↦ inl (record {
          fault = fault_behind w word rest passes ∙ takes.fault;
          values = takes.values;
          more_is = takes.more_is;
          once = takes.once;
          rows = takes.rows;
        })
        | inr refuses ↦ inr (record { fault = λ none. refuses.fault (sym (fault_behind w word rest passes) ∙ none); none = refuses.none })
      ]

  -- a word is refused
  stopped_at : (w : Walk) (word : Text) (rest : List Text) (taken : List NamedValue) (more : Option (List NamedValue)) → (turn_fault s [] w word ≡ [] → ⊥)
      → ((values : List NamedValue) → more ≡ Some values → has_each_once (taken ++ values) ≡ false) → Agrees w (word ∷ rest) taken more
  unfolding walk_fault
  stopped_at w word rest taken more stops none = inr (record { fault = λ no. stops (none_first _ _ (none_first _ _ no)); none = none })

  module _ (h : Held) (waiting : Waiting) (position : ℕ) (is_trailing : Bool) (word : Text) (rest : List Text) (taken : List NamedValue)
      (more : Option (List NamedValue)) where
    -- a word comes to this, and the walk goes on behind it
    passed : (behind : Held) (step : Step) (w : Walk) → word_fault s [] is_trailing waiting word h ≡ []
        → word_met s.rules [] is_trailing waiting position word h ≡ (behind, step)
        → step_fault s position behind step ≡ [] → after_step s.rules word (between h waiting position is_trailing) behind step ≡ w
        → Agrees w rest taken more → Agrees (between h waiting position is_trailing) (word ∷ rest) taken more
    unfolding walked
    passed behind step w word_passes met step_passes now agrees =
        passed_itself (between h waiting position is_trailing) word rest taken more
        (none_both _ _ word_passes (ap (λ (p : Held × Step). step_fault s position p.0 p.1) met ∙ step_passes))
        (subst (λ z. Agrees z rest taken more)
        (sym (ap (λ (p : Held × Step). after_step s.rules word (between h waiting position is_trailing) p.0 p.1) met ∙ now)) agrees)

    -- a word itself is refused
    word_stops : (word_fault s [] is_trailing waiting word h ≡ [] → ⊥)
        → ((values : List NamedValue) → more ≡ Some values → has_each_once (taken ++ values) ≡ false)
        → Agrees (between h waiting position is_trailing) (word ∷ rest) taken more
    word_stops stops none =
        stopped_at (between h waiting position is_trailing) word rest taken more (λ no. stops (none_first _ _ no)) none

    -- what it comes to is refused
    step_stops : (behind : Held) (step : Step) → word_met s.rules [] is_trailing waiting position word h ≡ (behind, step)
        → (step_fault s position behind step ≡ [] → ⊥) → ((values : List NamedValue) → more ≡ Some values → has_each_once (taken ++ values) ≡ false)
        → Agrees (between h waiting position is_trailing) (word ∷ rest) taken more
    step_stops behind step met stops none =
        stopped_at (between h waiting position is_trailing) word rest taken more
        (λ no. stops (sym (ap (λ (p : Held × Step). step_fault s position p.0 p.1) met) ∙ none_second _ _ no)) none

-- each word is text
abbrev pub AreTexts : List Text → Type 0
AreTexts [] = Unit {0}
AreTexts (word ∷ rest) = IsUtf8 word × AreTexts rest

pub strings_are_texts : (words : List (String Global)) → AreTexts (map string_bytes words)
strings_are_texts [] = tt
strings_are_texts (word ∷ rest) = (IsUtf8-string_bytes word, strings_are_texts rest)

module _ (s : Shape) (only : IsWordCommand s) where
  -- ---- what is pending

  -- what is pending can be used, and then these values are; or its name has a value already
  pub record Settles (h : Held) (taken : List NamedValue) : Type 0 where
    pub once : has_each_once taken ≡ true
    pub fault : settle_fault s.rules s.args_override_self h ≡ []
    pub now : settled s.rules h ≡ held_with taken None

  pub record Repeats (h : Held) (taken : List NamedValue) : Type 0 where
    pub fault : settle_fault s.rules s.args_override_self h ≡ [] → ⊥
    pub none : (values : List NamedValue) → has_each_once (taken ++ values) ≡ false

  abbrev pub CanSettle : Held → List NamedValue → Type 0
  CanSettle h taken = Settles h taken ⊎ Repeats h taken

  -- a name is that of an argument
  record IsKnown (name : Text) : Type 0 where
    pub long : Option Text
    pub place : Option ℕ
    pub by_id : arg_by_id s.rules name ≡ Some (valued_rule name long place)

  option_is_known : (name : Text) → is_option_name name ≡ true → IsKnown name
  option_is_known name is = record { long = Some name; place = None; by_id = only.option_known name is }

  program_is_known : IsKnown (codes "program")
  program_is_known = record { long = None; place = Some 1; by_id = only.program_known }

  nothing_settles : (taken : List NamedValue) → has_each_once taken ≡ true → CanSettle (held_with taken None) taken
  nothing_settles taken once = inl (record { once = once; fault = refl; now = refl })

  pending_fault : (taken : List NamedValue) (name : Text) (texts : List Text) (known : IsKnown name)
      → settle_fault s.rules s.args_override_self (held_with taken (Some (name, texts)))
      ≡ use_fault s.args_override_self (valued_rule name known.long known.place) texts (rows_of_values taken)
  pending_fault taken name texts known =
      ap (λ (o : Option Rule). option_map_or (λ (a : Rule). use_fault s.args_override_self a texts (rows_of_values taken)) o []) known.by_id

  pending_settles : (taken : List NamedValue) (name text : Text) → IsKnown name → has_each_once taken ≡ true
      → CanSettle (held_with taken (Some (name, text ∷ []))) (taken ++ named name text ∷ [])
  pending_settles taken name text known once = by_test (has_name name taken) refl where
    by_test : (test : Bool) → has_name name taken ≡ test → CanSettle (held_with taken (Some (name, text ∷ []))) (taken ++ named name text ∷ [])
    by_test true has = inr (record {
      fault = λ none. cc (sym (pending_fault taken name (text ∷ []) known
          ∙ use_again s.args_override_self name known.long known.place text (rows_of_values taken) only.once (same_names name taken ∙ has)) ∙ none);
      none = λ values. ap has_each_once (append_assoc taken (named name text ∷ []) values) ∙ named_again taken (named name text) values has;
    })
    by_test false new = inl (record {
      once = each_once_more taken (named name text) once new;
      fault = pending_fault taken name (text ∷ []) known
          ∙ use_new s.args_override_self name known.long known.place text (rows_of_values taken) (same_names name taken ∙ new);
      now = ap (λ (o : Option Rule). record { rows = used_by_id o (text ∷ []) (rows_of_values taken); pending = None; skip = 0 }) known.by_id
          ∙ ap (λ (rows : List Row). record { rows = rows; pending = None; skip = 0 }) (used_new s.args_override_self name known.long known.place text taken new);
    })

  -- an option without its value can't be used
  unanswered : (taken : List NamedValue) (name : Text) → is_option_name name ≡ true
      → settle_fault s.rules s.args_override_self (held_with taken (Some (name, []))) ≡ [] → ⊥
  unanswered taken name is none = cc (sym (pending_fault taken name [] (option_is_known name is)) ∙ none)

  -- ---- a value in front of others

  before_is : (v : NamedValue) (more : Option (List NamedValue)) (values : List NamedValue) → value_before v more ≡ Some values
      → (behind : List NamedValue) × (more ≡ Some behind) × (values ≡ v ∷ behind)
  before_is v None values is = absurd (cc)
  before_is v (Some behind) values is = (behind, refl, cc)

  agrees_before : (w : Walk) (words : List Text) (taken : List NamedValue) (v : NamedValue) (more : Option (List NamedValue))
      → Agrees s w words (taken ++ v ∷ []) more → Agrees s w words taken (value_before v more)
  agrees_before w words taken v more agrees =
      elim agrees as (λ _. Agrees s w words taken (value_before v more)) [
        | inl takes ↦ inl (record {
          fault = takes.fault;
          values = v ∷ takes.values;
          more_is = ap (value_before v) takes.more_is;
          once = sym (ap has_each_once (append_assoc taken (v ∷ []) takes.values)) ∙ takes.once;
          rows = takes.rows ∙ ap rows_of_values (append_assoc taken (v ∷ []) takes.values);
        })
        | inr refuses ↦ inr (record {
          fault = refuses.fault;
          none = λ values is. let behind = before_is v more values is in
              ap (λ (z : List NamedValue). has_each_once (taken ++ z)) behind.2 ∙ sym (ap has_each_once (append_assoc taken (v ∷ []) behind.0))
              ∙ refuses.none behind.0 behind.1;
        })
      ]

  -- no values stand behind one that is repeated
  none_behind : (taken : List NamedValue) (v : NamedValue) (more : Option (List NamedValue)) → has_name v.name taken ≡ true
      → (values : List NamedValue) → value_before v more ≡ Some values → has_each_once (taken ++ values) ≡ false
  none_behind taken v more has values is =
      let behind = before_is v more values is in
      ap (λ (z : List NamedValue). has_each_once (taken ++ z)) behind.2 ∙ named_again taken v behind.0 has

  -- ---- a word that stands by itself

  -- where the next such word stands: it is the first, or there was one
  abbrev pub IsPlace : ℕ → List NamedValue → Type 0
  IsPlace position taken = (position ≡ 1) ⊎ ((position ≡ 2) × (has_name (codes "program") taken ≡ true))

  has_still : (name : Text) (taken : List NamedValue) (v : NamedValue) → has_name name taken ≡ true → has_name name (taken ++ v ∷ []) ≡ true
  has_still name taken v has = list_any-append (λ (x : NamedValue). bytes_eq x.name name) taken (v ∷ []) ∙ ap (λ (b : Bool). b || (bytes_eq v.name name || false)) has

  same_place : (position : ℕ) (taken : List NamedValue) (v : NamedValue) → IsPlace position taken → IsPlace position (taken ++ v ∷ [])
  same_place position taken v place =
      elim place as (λ _. IsPlace position (taken ++ v ∷ [])) [ inl first ↦ inl first | inr second ↦ inr (second.0, has_still (codes "program") taken v second.1) ]

  module _ (h : Held) (waiting : Waiting) (is_trailing : Bool) (word : Text) (rest : List Text) (taken : List NamedValue) (more : Option (List NamedValue))
      (word_passes : word_fault s [] is_trailing waiting word h ≡ []) where
    first_fault : step_fault s 1 h stands ≡ settle_fault s.rules s.args_override_self h
    first_fault =
        ap (λ (o : Option Rule). option_map_or (λ (a : Rule). positional_fault s.rules s.args_override_self a h) o (stray_fault s)) only.first_word
        ∙ ap (λ (b : Bool). if b then [] else settle_fault s.rules s.args_override_self h) (and_false (is_pending program_rule h.pending))

    first_walk : (now : settled s.rules h ≡ held_with taken None)
        → after_step s.rules word (between h waiting 1 is_trailing) h stands
        ≡ program_walk taken word is_trailing
    first_walk now =
        ap (λ (o : Option Rule). to_positional s.rules o word (between h waiting 1 is_trailing) h) only.first_word
        ∙ ap (λ (b : Bool). between (pushed (codes "program") word (if b then h else settled s.rules h)) idle 2 (is_trailing || false))
        (and_false (is_pending program_rule h.pending))
        ∙ ap (λ (z : Held). between (pushed (codes "program") word z) idle 2 (is_trailing || false)) now
        ∙ ap (λ (b : Bool). between (held_with taken (Some (codes "program", word ∷ []))) idle 2 b) (or_same is_trailing)
      where
        or_same : (b : Bool) → (b || false) ≡ b
        or_same true = refl
        or_same false = refl

    -- the first is the program, and a second one is refused
    stands_first : word_met s.rules [] is_trailing waiting 1 word h ≡ (h, stands) → CanSettle h taken
        → (has_each_once taken ≡ true
        → Agrees s (program_walk taken word is_trailing) rest (taken ++ program_value word ∷ []) more)
        → Agrees s (between h waiting 1 is_trailing) (word ∷ rest) taken (value_before (program_value word) more)
    stands_first met can behind =
        elim can as (λ _. Agrees s (between h waiting 1 is_trailing) (word ∷ rest) taken (value_before (program_value word) more)) [
          | inl settles ↦ passed s h waiting 1 is_trailing word rest taken (value_before (program_value word) more) h stands
              (program_walk taken word is_trailing) word_passes met (first_fault ∙ settles.fault)
              (first_walk settles.now)
              (agrees_before _ rest taken (program_value word) more (behind settles.once))
          | inr repeats ↦ step_stops s h waiting 1 is_trailing word rest taken (value_before (program_value word) more) h stands met
              (λ none. repeats.fault (sym first_fault ∙ none)) (λ values is. repeats.none values)
        ]

    second_fault : step_fault s 2 h stands ≡ kind.UnknownArgument ∷ []
    second_fault =
        ap (λ (o : Option Rule). option_map_or (λ (a : Rule). positional_fault s.rules s.args_override_self a h) o (stray_fault s)) only.no_second_word
        ∙ ap (λ (b : Bool). if b then kind.UnknownArgument ∷ [] else kind.UnknownArgument ∷ kind.InvalidSubcommand ∷ []) only.leaf

    stands_second : word_met s.rules [] is_trailing waiting 2 word h ≡ (h, stands) → has_name (codes "program") taken ≡ true
        → Agrees s (between h waiting 2 is_trailing) (word ∷ rest) taken (value_before (program_value word) more)
    stands_second met has =
        step_stops s h waiting 2 is_trailing word rest taken (value_before (program_value word) more) h stands met
        (λ none. cc (sym second_fault ∙ none)) (none_behind taken (program_value word) more has)

  -- ---- what a word comes to, by its look

  no_subcommand : (waiting : Waiting) (word : Text) → subcommand_met [] waiting word ≡ None
  no_subcommand idle word = refl
  no_subcommand (waits_for name) word = refl
  no_subcommand positional word = refl

  module _ {word : Text} {long : Option (Text × Option Text)} {short : Option Text} (looks : Looks word false long short) (waiting : Waiting) (h : Held) where
    fault_by_look : word_fault s [] false waiting word h ≡ flag_word_fault s.rules s.args_override_self long word h
    fault_by_look =
        ap (λ (o : Option Text). other_fault s o word h) (no_subcommand waiting word)
        ∙ ap (λ (b : Bool). if b then [] else flag_word_fault s.rules s.args_override_self (long_of word) word h) looks.ending_is
        ∙ ap (λ (l : Option (Text × Option Text)). flag_word_fault s.rules s.args_override_self l word h) looks.long_is

    met_by_look : (position : ℕ) → word_met s.rules [] false waiting position word h ≡ long_or_other s.rules waiting word long h
    met_by_look position =
        ap (λ (o : Option Text). subcommand_or_other s.rules o waiting position word h) (no_subcommand waiting word)
        ∙ ap (λ (b : Bool). if b then (h, ends position) else long_or_other s.rules waiting word (long_of word) h) looks.ending_is
        ∙ ap (λ (l : Option (Text × Option Text)). long_or_other s.rules waiting word l h) looks.long_is

  module _ {word : Text} (looks : Looks word false None None) (waiting : Waiting) (h : Held) where
    plain_passes : word_fault s [] false waiting word h ≡ []
    plain_passes =
        fault_by_look looks waiting h
        ∙ ap (λ (o : Option Text). option_map_or (λ (flags : Text). bundle_fault s.rules s.args_override_self flags h) o []) looks.short_is

    plain_met : (position : ℕ) → word_met s.rules [] false waiting position word h ≡ plain_word s.rules waiting word h
    plain_met position =
        met_by_look looks waiting h position ∙ ap (λ (o : Option Text). short_or_plain s.rules waiting word o h) looks.short_is

  -- a letter behind one hyphen is refused
  short_stops : (word : Text) (first : ℕ) (flags : Text) → word ≡ 45 ∷ first ∷ flags → Looks word false None (Some (first ∷ flags)) → IsUtf8 word
      → (waiting : Waiting) (h : Held) → h.skip ≡ 0 → word_fault s [] false waiting word h ≡ [] → ⊥
  unfolding flags_fault
  short_stops word first flags is looks text waiting h skip none =
      let letter = letter_behind first flags (subst IsUtf8 is text) in
      let fault : word_fault s [] false waiting word h ≡ kind.UnknownArgument ∷ [] =
      fault_by_look looks waiting h
      ∙ ap (λ (o : Option Text). option_map_or (λ (f : Text). bundle_fault s.rules s.args_override_self f h) o []) looks.short_is
      ∙ ap (λ (n : ℕ). flags_fault s.rules s.args_override_self (length (first ∷ flags)) (first ∷ flags) n (record h { skip = 0 })) skip
      ∙ ap (λ (o : Option ℕ). bundle_step_fault s.rules s.args_override_self o (first ∷ flags) 0 (record h { skip = 0 })
      (flags_fault s.rules s.args_override_self (length flags))) letter.1
      ∙ ap (λ (o : Option Rule). short_fault s.rules s.args_override_self o (drop (length (encode_utf8 letter.0)) (first ∷ flags)) (record h { skip = 0 })
      (flags_fault s.rules s.args_override_self (length flags) (drop (length (encode_utf8 letter.0)) (first ∷ flags)) 0)) (only.none_lettered letter.0) in
      cc (sym fault ∙ none)

  -- ---- a word with two hyphens

  module _ (word name : Text) (in_word : Option Text) (looks : Looks word false (Some (name, in_word)) None) (waiting : Waiting) (h : Held) where
    -- where it names no option
    unnamed_stops : is_option_name name ≡ false → word_fault s [] false waiting word h ≡ [] → ⊥
    unnamed_stops isnt none =
        cc (sym (fault_by_look looks waiting h ∙ ap (λ (o : Option Rule). long_fault s.rules s.args_override_self o in_word h) (only.none_named name isnt)) ∙ none)

    module _ (is : is_option_name name ≡ true) where
      named_fault : word_fault s [] false waiting word h ≡ option_fault s.rules s.args_override_self (option_of name) in_word h
      named_fault =
          fault_by_look looks waiting h ∙ ap (λ (o : Option Rule). long_fault s.rules s.args_override_self o in_word h) (only.option_named name is)

      named_met : (position : ℕ) → word_met s.rules [] false waiting position word h
          ≡ after_flag s.rules waiting word (option_met s.rules (option_of name) in_word h).0 (option_met s.rules (option_of name) in_word h).1
      named_met position =
          met_by_look looks waiting h position
          ∙ ap (λ (o : Option Rule). after_flag s.rules waiting word (long_met s.rules o in_word h).0 (long_met s.rules o in_word h).1) (only.option_named name is)

      -- what is pending is used first
      named_stops : (settle_fault s.rules s.args_override_self h ≡ [] → ⊥) → word_fault s [] false waiting word h ≡ [] → ⊥
      named_stops stops none = by_value in_word (sym named_fault ∙ none) where
        by_value : (v : Option Text) → option_fault s.rules s.args_override_self (option_of name) v h ≡ [] → ⊥
        by_value None fault = stops fault
        by_value (Some text) fault = stops (none_first _ _ fault)

  -- so any word with two hyphens is refused where what is pending can't be used
  long_stops : (word name : Text) (in_word : Option Text) → Looks word false (Some (name, in_word)) None → (waiting : Waiting) (h : Held)
      → (settle_fault s.rules s.args_override_self h ≡ [] → ⊥) → word_fault s [] false waiting word h ≡ [] → ⊥
  long_stops word name in_word looks waiting h stops = by_test (is_option_name name) refl where
    by_test : (test : Bool) → is_option_name name ≡ test → word_fault s [] false waiting word h ≡ [] → ⊥
    by_test true is = named_stops word name in_word looks waiting h is stops
    by_test false isnt = unnamed_stops word name in_word looks waiting h isnt

  module _ (h : Held) (word name : Text) (position : ℕ) (rest : List Text) (taken : List NamedValue) (more : Option (List NamedValue)) (is : is_option_name name ≡ true)
      (settles : Settles h taken) where
    -- an option with its value in the word
    long_with_value : (text : Text) → Looks word false (Some (name, Some text)) None
        → (has_each_once (taken ++ named name text ∷ []) ≡ true
        → Agrees s (between (held_with (taken ++ named name text ∷ []) None) idle position false) rest (taken ++ named name text ∷ []) more)
        → Agrees s (between h idle position false) (word ∷ rest) taken (value_before (named name text) more)
    long_with_value text looks behind = by_test (has_name name taken) refl where
      value_fault : word_fault s [] false idle word h
          ≡ or_else (settle_fault s.rules s.args_override_self h) (use_fault s.args_override_self (option_of name) (text ∷ []) (rows_of_values taken))
      value_fault =
          named_fault word name (Some text) looks idle h is
          ∙ ap (λ (z : Held). or_else (settle_fault s.rules s.args_override_self h) (use_fault s.args_override_self (option_of name) (text ∷ []) z.rows)) settles.now

      value_walk : has_name name taken ≡ false
          → after_step s.rules word (between h idle position false) (reacted s.rules (option_of name) (text ∷ []) h) (goes_on idle)
          ≡ between (held_with (taken ++ named name text ∷ []) None) idle position false
      value_walk new =
          ap (λ (z : Held). between (record { rows = used (option_of name) (text ∷ []) z.rows; pending = None; skip = z.skip }) idle position false) settles.now
          ∙ ap (λ (rows : List Row). between (record { rows = rows; pending = None; skip = 0 }) idle position false)
          (used_new s.args_override_self name (Some name) None text taken new)

      by_test : (test : Bool) → has_name name taken ≡ test → Agrees s (between h idle position false) (word ∷ rest) taken (value_before (named name text) more)
      by_test true has =
          word_stops s h idle position false word rest taken (value_before (named name text) more)
          (λ none. let unused : use_fault s.args_override_self (option_of name) (text ∷ []) (rows_of_values taken) ≡ [] =
          none_second (settle_fault s.rules s.args_override_self h) _ (sym value_fault ∙ none) in
          cc (sym (use_again s.args_override_self name (Some name) None text (rows_of_values taken) only.once (same_names name taken ∙ has)) ∙ unused))
          (none_behind taken (named name text) more has)
      by_test false new =
          passed s h idle position false word rest taken (value_before (named name text) more) (reacted s.rules (option_of name) (text ∷ []) h) (goes_on idle)
          (between (held_with (taken ++ named name text ∷ []) None) idle position false)
          (value_fault ∙ none_both _ _ settles.fault
          (use_new s.args_override_self name (Some name) None text (rows_of_values taken) (same_names name taken ∙ new)))
          (named_met word name (Some text) looks idle h is position) refl (value_walk new)
          (agrees_before _ rest taken (named name text) more (behind (each_once_more taken (named name text) settles.once new)))

    -- an option whose value is the next word
    long_before_value : Looks word false (Some (name, None)) None
        → Agrees s (waiting_walk taken name position false) rest taken more
        → Agrees s (between h idle position false) (word ∷ rest) taken more
    long_before_value looks behind =
        passed s h idle position false word rest taken more (record (settled s.rules h) { pending = Some (name, []) }) (goes_on (waits_for name))
        (waiting_walk taken name position false)
        (named_fault word name None looks idle h is ∙ settles.fault)
        (named_met word name None looks idle h is position) refl
        (ap (λ (z : Held). between (record z { pending = Some (name, []) }) (waits_for name) position false) settles.now) behind

  -- ---- where an option waits for its value

  module _ (word name : Text) (position : ℕ) (rest : List Text) (taken : List NamedValue) (more : Option (List NamedValue)) (is : is_option_name name ≡ true) where
    answers : Looks word false None None
        → Agrees s (between (held_with taken (Some (name, word ∷ []))) idle position false) rest (taken ++ named name word ∷ []) more
        → Agrees s (waiting_walk taken name position false) (word ∷ rest) taken (value_before (named name word) more)
    answers looks behind =
        passed s (held_with taken (Some (name, []))) (waits_for name) position false word rest taken (value_before (named name word) more)
        (held_with taken (Some (name, word ∷ []))) (goes_on idle) (between (held_with taken (Some (name, word ∷ []))) idle position false)
        (plain_passes looks (waits_for name) (held_with taken (Some (name, []))))
        (plain_met looks (waits_for name) (held_with taken (Some (name, []))) position
        ∙ ap (λ (o : Option Rule). (
          (option_word o name word (held_with taken (Some (name, [])))).0,
          goes_on (option_word o name word (held_with taken (Some (name, [])))).1,
        ))
        (only.option_known name is)
        ∙ ap (λ (b : Bool). (held_with taken (Some (name, word ∷ [])), goes_on (if nat_lt (if b then 1 else 0) 1 then waits_for name else idle)))
        (bytes_same name name refl))
        refl refl
        (agrees_before _ rest taken (named name word) more behind)

    -- behind `--` nothing answers any more
    never_answered : (place : IsPlace position taken)
        → Agrees s (waiting_walk taken name position true) (word ∷ rest) taken None
    never_answered place =
        step_stops s (held_with taken (Some (name, []))) (waits_for name) position true word rest taken None (held_with taken (Some (name, []))) stands refl
        (λ none. elim place as (λ _. ⊥) [
          | inl first ↦ unanswered taken name is (sym (first_fault (held_with taken (Some (name, []))) (waits_for name) true word rest taken None refl)
              ∙ subst (λ p. step_fault s p (held_with taken (Some (name, []))) stands ≡ []) first none)
          | inr second ↦ cc (sym (second_fault (held_with taken (Some (name, []))) (waits_for name) true word rest taken None refl)
              ∙ subst (λ p. step_fault s p (held_with taken (Some (name, []))) stands ≡ []) second.0 none)
        ])
        (λ values is. absurd (cc))

  -- ---- the values of words, by their looks

  ending_values : (rest : List Text) → values_in None (codes "--" ∷ rest) ≡ Some (map program_value rest)
  unfolding values_in
  ending_values rest = refl

  abbrev values_by : Text → List Text → (ending two one : Bool) → Option (List NamedValue)
  values_by word rest ending two one =
      if ending then Some (map program_value rest)
      else (if two
      then (if is_option_name (name_in_word word)
      then option_values (name_in_word word) (value_in_word word) (values_in None rest) (values_in (Some (name_in_word word)) rest)
      else None)
      else (if one then None else value_before (program_value word) (values_in None rest)))

  by_looks : (word : Text) (rest : List Text) (ending two one : Bool) → bytes_eq word (codes "--") ≡ ending → has_two_hyphens word ≡ two → is_hyphened word ≡ one
      → values_in None (word ∷ rest) ≡ values_by word rest ending two one
  unfolding values_in
  by_looks word rest ending two one ending_is two_is one_is =
      ap (λ (b : Bool). values_by word rest b (has_two_hyphens word) (is_hyphened word)) ending_is
      ∙ ap (λ (b : Bool). values_by word rest ending b (is_hyphened word)) two_is
      ∙ ap (λ (b : Bool). values_by word rest ending two b) one_is

  plain_values : (word : Text) (rest : List Text) → Looks word false None None → values_in None (word ∷ rest) ≡ value_before (program_value word) (values_in None rest)
  unfolding values_in
  plain_values word rest looks =
      by_looks word rest _ _ _ looks.ending_is looks.two_hyphens looks.hyphened

  long_values : (word : Text) (rest : List Text) (known : Bool) → Looks word false (Some (name_in_word word, value_in_word word)) None
      → is_option_name (name_in_word word) ≡ known
      → values_in None (word ∷ rest)
      ≡ (if known then option_values (name_in_word word) (value_in_word word) (values_in None rest) (values_in (Some (name_in_word word)) rest) else None)
  unfolding values_in
  long_values word rest known looks is =
      by_looks word rest _ _ _ looks.ending_is looks.two_hyphens looks.hyphened
      ∙ ap (λ (b : Bool). if b then option_values (name_in_word word) (value_in_word word) (values_in None rest) (values_in (Some (name_in_word word)) rest) else None) is

  short_values : (word : Text) (rest : List Text) (first : ℕ) (flags : Text) → Looks word false None (Some (first ∷ flags)) → values_in None (word ∷ rest) ≡ None
  unfolding values_in
  short_values word rest first flags looks = by_looks word rest _ _ _ looks.ending_is looks.two_hyphens looks.hyphened

  answer_values : (name word : Text) (rest : List Text) (hyphened : Bool) → is_hyphened word ≡ hyphened
      → values_in (Some name) (word ∷ rest) ≡ (if hyphened then None else value_before (named name word) (values_in None rest))
  unfolding values_in
  answer_values name word rest hyphened is = ap (λ (b : Bool). if b then None else value_before (named name word) (values_in None rest)) is

  -- ---- all words, from each place

  -- words from each place where the walk may stand: nothing waits for a value, before `--` and behind it; or an option
  -- does
  record Reads (words : List Text) : Type 0 where
    pub before_end : (h : Held) (taken : List NamedValue) (position : ℕ) → h.skip ≡ 0 → CanSettle h taken → IsPlace position taken
        → Agrees s (between h idle position false) words taken (values_in None words)
    pub behind_end : (h : Held) (taken : List NamedValue) (position : ℕ) → CanSettle h taken → IsPlace position taken
        → Agrees s (between h idle position true) words taken (Some (map program_value words))
    pub waiting : (taken : List NamedValue) (name : Text) (position : ℕ) → is_option_name name ≡ true → has_each_once taken ≡ true → IsPlace position taken
        → Agrees s (waiting_walk taken name position false) words taken (values_in (Some name) words)
    pub forgotten : (taken : List NamedValue) (name : Text) (position : ℕ) → is_option_name name ≡ true → IsPlace position taken
        → Agrees s (waiting_walk taken name position true) words taken None

  -- no more words
  settled_at_end : (waiting : Waiting) (h : Held) (taken : List NamedValue) (position : ℕ) (is_trailing : Bool) → CanSettle h taken
      → Agrees s (between h waiting position is_trailing) [] taken (Some [])
  unfolding walk_fault
  settled_at_end waiting h taken position is_trailing can =
      elim can as (λ _. Agrees s (between h waiting position is_trailing) [] taken (Some [])) [
        | inl settles ↦ inl (record {
          fault = none_both _ _ settles.fault (none_both _ _ (only.no_default_fault (settled s.rules h).rows) (only.no_check_fault (finished s.rules h)));
          values = [];
          more_is = refl;
          once = ap has_each_once (append-nil taken) ∙ settles.once;
          rows = only.no_default (settled s.rules h).rows ∙ ap (λ (z : Held). z.rows) settles.now ∙ ap rows_of_values (sym (append-nil taken));
        })
        | inr repeats ↦ inr (record { fault = λ none. repeats.fault (none_first _ _ none); none = λ values is. repeats.none values })
      ]

  unanswered_at_end : (taken : List NamedValue) (name : Text) (position : ℕ) (is_trailing : Bool) → is_option_name name ≡ true
      → Agrees s (waiting_walk taken name position is_trailing) [] taken None
  unfolding walk_fault
  unanswered_at_end taken name position is_trailing is =
      inr (record { fault = λ none. unanswered taken name is (none_first _ _ none); none = λ values is. absurd (cc) })

  reads_end : Reads []
  unfolding values_in
  reads_end = record {
    before_end = λ h taken position skip can place. settled_at_end idle h taken position false can;
    behind_end = λ h taken position can place. settled_at_end idle h taken position true can;
    waiting = λ taken name position is once place. unanswered_at_end taken name position false is;
    forgotten = λ taken name position is place. unanswered_at_end taken name position true is;
  }

  -- one word more
  module _ (word : Text) (rest : List Text) (text : IsUtf8 word) (reads : Reads rest) where
    stands_behind : (h : Held) (waiting : Waiting) (is_trailing : Bool) (taken : List NamedValue) (position : ℕ) (more : Option (List NamedValue))
        → word_fault s [] is_trailing waiting word h ≡ [] → ((p : ℕ) → word_met s.rules [] is_trailing waiting p word h ≡ (h, stands))
        → CanSettle h taken → IsPlace position taken
        → (has_each_once taken ≡ true → Agrees s (program_walk taken word is_trailing) rest (taken ++ program_value word ∷ []) more)
        → Agrees s (between h waiting position is_trailing) (word ∷ rest) taken (value_before (program_value word) more)
    stands_behind h waiting is_trailing taken position more passes met can place behind =
        elim place as (λ _. Agrees s (between h waiting position is_trailing) (word ∷ rest) taken (value_before (program_value word) more)) [
          | inl first ↦ subst (λ p. Agrees s (between h waiting p is_trailing) (word ∷ rest) taken (value_before (program_value word) more)) (sym first)
              (stands_first h waiting is_trailing word rest taken more passes (met 1) can behind)
          | inr second ↦ subst (λ p. Agrees s (between h waiting p is_trailing) (word ∷ rest) taken (value_before (program_value word) more)) (sym second.0)
              (stands_second h waiting is_trailing word rest taken more passes (met 2) second.1)
        ]

    program_place : (taken : List NamedValue) → IsPlace 2 (taken ++ program_value word ∷ [])
    program_place taken = inr (refl, named_within (codes "program") taken (program_value word) [] refl)

    named_before_end : (h : Held) (taken : List NamedValue) (position : ℕ) (name : Text) (in_word : Option Text) → Settles h taken → IsPlace position taken
        → is_option_name name ≡ true → Looks word false (Some (name, in_word)) None
        → Agrees s (between h idle position false) (word ∷ rest) taken (option_values name in_word (values_in None rest) (values_in (Some name) rest))
    named_before_end h taken position name None settles place is looks =
        long_before_value h word name position rest taken (values_in (Some name) rest) is settles looks (reads.waiting taken name position is settles.once place)
    named_before_end h taken position name (Some value) settles place is looks =
        long_with_value h word name position rest taken (values_in None rest) is settles value looks
        (λ once. reads.before_end (held_with (taken ++ named name value ∷ []) None) (taken ++ named name value ∷ []) position refl
        (nothing_settles (taken ++ named name value ∷ []) once) (same_place position taken (named name value) place))

    long_before_end : (h : Held) (taken : List NamedValue) (position : ℕ) (known : Bool) → is_option_name (name_in_word word) ≡ known
        → Looks word false (Some (name_in_word word, value_in_word word)) None → CanSettle h taken → IsPlace position taken
        → Agrees s (between h idle position false) (word ∷ rest) taken (values_in None (word ∷ rest))
    long_before_end h taken position false isnt looks can place =
        word_stops s h idle position false word rest taken (values_in None (word ∷ rest))
        (unnamed_stops word (name_in_word word) (value_in_word word) looks idle h isnt)
        (λ values some. absurd (cc (sym (long_values word rest false looks isnt) ∙ some)))
    long_before_end h taken position true is looks can place =
        elim can as (λ _. Agrees s (between h idle position false) (word ∷ rest) taken (values_in None (word ∷ rest))) [
          | inl settles ↦
              subst (λ more. Agrees s (between h idle position false) (word ∷ rest) taken more) (sym (long_values word rest true looks is))
              (named_before_end h taken position (name_in_word word) (value_in_word word) settles place is looks)
          | inr repeats ↦
              word_stops s h idle position false word rest taken (values_in None (word ∷ rest))
              (named_stops word (name_in_word word) (value_in_word word) looks idle h is repeats.fault) (λ values some. repeats.none values)
        ]

    read_before_end : (h : Held) (taken : List NamedValue) (position : ℕ) → h.skip ≡ 0 → CanSettle h taken → IsPlace position taken
        → Agrees s (between h idle position false) (word ∷ rest) taken (values_in None (word ∷ rest))
    read_before_end h taken position skip can place =
        elim (look_of word) as (λ _. Agrees s (between h idle position false) (word ∷ rest) taken (values_in None (word ∷ rest))) [
          | is_ending is ↦
              subst (λ (w : Text). Agrees s (between h idle position false) (w ∷ rest) taken (values_in None (w ∷ rest))) (sym is)
              (subst (λ more. Agrees s (between h idle position false) (codes "--" ∷ rest) taken more) (sym (ending_values rest))
              (passed s h idle position false (codes "--") rest taken (Some (map program_value rest)) h (ends position) (between h idle position true) refl refl refl refl
              (reads.behind_end h taken position can place)))
          | is_plain looks ↦
              subst (λ more. Agrees s (between h idle position false) (word ∷ rest) taken more) (sym (plain_values word rest looks))
              (stands_behind h idle false taken position (values_in None rest) (plain_passes looks idle h) (plain_met looks idle h) can place
              (λ once. reads.before_end (held_with taken (Some (codes "program", word ∷ []))) (taken ++ program_value word ∷ []) 2 refl
              (pending_settles taken (codes "program") word program_is_known once) (program_place taken)))
          | is_long looks ↦ long_before_end h taken position (is_option_name (name_in_word word)) refl looks can place
          | is_short first flags is looks ↦
              word_stops s h idle position false word rest taken (values_in None (word ∷ rest)) (short_stops word first flags is looks text idle h skip)
              (λ values some. absurd (cc (sym (short_values word rest first flags looks) ∙ some)))
        ]

    read_behind_end : (h : Held) (taken : List NamedValue) (position : ℕ) → CanSettle h taken → IsPlace position taken
        → Agrees s (between h idle position true) (word ∷ rest) taken (Some (map program_value (word ∷ rest)))
    read_behind_end h taken position can place =
        stands_behind h idle true taken position (Some (map program_value rest)) refl (λ p. refl) can place
        (λ once. reads.behind_end (held_with taken (Some (codes "program", word ∷ []))) (taken ++ program_value word ∷ []) 2
        (pending_settles taken (codes "program") word program_is_known once) (program_place taken))

    read_waiting : (taken : List NamedValue) (name : Text) (position : ℕ) → is_option_name name ≡ true → has_each_once taken ≡ true → IsPlace position taken
        → Agrees s (waiting_walk taken name position false) (word ∷ rest) taken (values_in (Some name) (word ∷ rest))
    read_waiting taken name position is once place =
        elim (look_of word) as (λ _. Agrees s (waiting_walk taken name position false) (word ∷ rest) taken (values_in (Some name) (word ∷ rest))) [
          | is_ending same ↦
              subst (λ (w : Text). Agrees s (waiting_walk taken name position false) (w ∷ rest) taken (values_in (Some name) (w ∷ rest))) (sym same)
              (subst (λ more. Agrees s (waiting_walk taken name position false) (codes "--" ∷ rest) taken more)
              (sym (answer_values name (codes "--") rest true refl))
              (passed s (held_with taken (Some (name, []))) (waits_for name) position false (codes "--") rest taken None (held_with taken (Some (name, []))) (ends position)
              (waiting_walk taken name position true) refl refl refl refl (reads.forgotten taken name position is place)))
          | is_plain looks ↦
              subst (λ more. Agrees s (waiting_walk taken name position false) (word ∷ rest) taken more)
              (sym (answer_values name word rest false looks.hyphened))
              (answers word name position rest taken (values_in None rest) is looks
              (reads.before_end (held_with taken (Some (name, word ∷ []))) (taken ++ named name word ∷ []) position refl
              (pending_settles taken name word (option_is_known name is) once) (same_place position taken (named name word) place)))
          | is_long looks ↦
              word_stops s (held_with taken (Some (name, []))) (waits_for name) position false word rest taken (values_in (Some name) (word ∷ rest))
              (long_stops word (name_in_word word) (value_in_word word) looks (waits_for name) (held_with taken (Some (name, []))) (unanswered taken name is))
              (λ values some. absurd (cc (sym (answer_values name word rest true looks.hyphened) ∙ some)))
          | is_short first flags same looks ↦
              word_stops s (held_with taken (Some (name, []))) (waits_for name) position false word rest taken (values_in (Some name) (word ∷ rest))
              (short_stops word first flags same looks text (waits_for name) (held_with taken (Some (name, []))) refl)
              (λ values some. absurd (cc (sym (answer_values name word rest true looks.hyphened) ∙ some)))
        ]

    read_one_more : Reads (word ∷ rest)
    read_one_more = record {
      before_end = read_before_end;
      behind_end = read_behind_end;
      waiting = read_waiting;
      forgotten = λ taken name position is place. never_answered word name position rest taken None is place;
    }

  reads_all : (words : List Text) → AreTexts words → Reads words
  reads_all [] texts = reads_end
  reads_all (word ∷ rest) texts = read_one_more word rest texts.0 (reads_all rest texts.1)

  -- so all words from the first on
  pub reads_words : (words : List Text) → AreTexts words → Agrees s (between (held_with [] None) idle 1 false) words [] (values_in None words)
  reads_words words texts = (reads_all words texts).before_end (held_with [] None) [] 1 refl (nothing_settles [] refl) (inl refl)
