-- What the reader answers, line after line.
use Rattle.std.specs.Prelude.{◌≡◌, refl, ℕ, suc, ◌+◌, ◌-◌, ◌<◌, ◌≤◌, Bool, true, false, if◌then◌else◌, List, [], ◌∷◌, ◌++◌, length, map, All, Option, Some, None, option_and_then}
use Rattle.std.proofs.Common.{ap, sym, ◌∙◌, arith, append_assoc, subst, inl, inr}
use Rattle.std.proofs.lemmas.List.{append-nil, length-append}
use Rattle.std.proofs.lemmas.List.Elements.{All-cons}
use Rattle.std.proofs.lemmas.Option.{none-some}
use Rattle.plcs_grammar.specs.Template.{PlainSection, row_of, program_sections}
use Rattle.template_tree.specs.Programs.Limit.{deepest_path, most_slots}
use Rattle.template_tree.specs.Listings.Listing.{Spells}
use Rattle.template_tree.specs.Programs.PlainTree.{Forest}
use Rattle.template_tree.specs.Programs.Program.{IsProgram, sort_of}
use Rattle.template_tree.specs.Listings.Section.{left_for, left_after, next_lead}
use Rattle.template_tree.specs.Programs.Slots.{count, depth}
use Rattle.file_store.specs.declared.refusal.FileRefusal.{FileRefusal}
use Rattle.file_store.specs.Limit.{longest_listing}
use Rattle.file_store.specs.ListedLine.{ListedLine, listed_program, text_of_lines}
use Rattle.file_store.specs.Loaded.{BeginsListing, Fine, HasNoEnd, NextLine, OpensTooDeep, OpensTooMany, RefusalSays, Refused, opened}
use Rattle.file_store.specs.Private.LineLaws.{LineLaws}
use Rattle.file_store.specs.Private.LineReading.{Says, said_bytes}
use Rattle.file_store.specs.Private.Reader.{shape, Said, Saying, OpenNodes, opens, program_of, lines_taken, sayings, said_lead, said_last, line_taken, unread}
use Rattle.file_store.specs.Private.Reading.{Come, GoesOn, IsPast, IsLineRefused, IsTaken}
use Rattle.file_store.proofs.Arrivals.{program_arrives, run_append}
use Rattle.file_store.proofs.Continuations.{alive}
use Rattle.file_store.proofs.Fillings.{some_is}
use Rattle.file_store.proofs.ListedLines.{listed_row, listing_said, map_more, more_sayings, program_sayings, rows_are, text_said}
use Rattle.file_store.proofs.Texts.{AreSayings, first_lines, line_printable, no_end, no_line, one_text, said_text, text_front}

-- each node that begins in the lines is within the greatest depth
abbrev pub AreShallow : List Said → Type 0
AreShallow [] = Unit {0}
AreShallow (said ∷ rest) = (opens said.saying ≡ true → said.level < deepest_path) × AreShallow rest

abbrev pub opened_in : List Said → ℕ
opened_in ls = opened (map listed_row ls)

-- the reader has come so far with the bytes, and this is left of them
pub record SoFar (x rest : List ℕ) (come : Come) : Type 0 where
  pub ls : List Said
  pub sayings : AreSayings ls
  pub is : x ≡ said_text ls ++ rest
  pub ran : lines_taken unread ls ≡ Some come.stack
  pub lines : come.lines ≡ length ls
  pub opened : come.opened ≡ opened_in ls
  pub shallow : AreShallow ls
  pub few : come.opened ≤ most_slots

pub at_first : (x : List ℕ) (come : Come) → come ≡ record { stack = unread; lines = 0; opened = 0 } → SoFar x x come
at_first x come e =
    subst (λ c. SoFar x x c) (sym e)
    record { ls = []; sayings = tt; is = refl; ran = refl; lines = refl; opened = refl; shallow = tt; few = omega arith }

-- ---- one line more

pub said_append : (a b : List Said) → said_text (a ++ b) ≡ said_text a ++ said_text b
said_append [] b = refl
said_append (x ∷ a) b = ap (λ z. said_bytes x ++ (10 ∷ z)) (said_append a b) ∙ sym (append_assoc (said_bytes x) (10 ∷ said_text a) (said_text b))

opened_append : (a : List Said) (said : Said) → opened_in (a ++ (said ∷ [])) ≡ (if opens said.saying then 1 else 0) + opened_in a
opened_append [] said = refl
opened_append (x ∷ a) said = omega (arith, opened_append a said)

shallow_append : (a : List Said) (said : Said) → AreShallow a → (opens said.saying ≡ true → said.level < deepest_path) → AreShallow (a ++ (said ∷ []))
shallow_append [] said h k = (k, tt)
shallow_append (x ∷ a) said h k = (h.0, shallow_append a said h.1 k)

run_more : (ls : List Said) (said : Said) (stack : OpenNodes) → lines_taken unread ls ≡ Some stack → lines_taken unread (ls ++ (said ∷ [])) ≡ line_taken stack said
run_more ls said stack e = run_append ls (said ∷ []) unread ∙ ap (option_and_then (λ s. lines_taken s (said ∷ []))) e ∙ one (line_taken stack said)
  where
    one : (o : Option OpenNodes) → option_and_then (λ s. lines_taken s []) o ≡ o
    one None = refl
    one (Some s) = refl

line_more : (ls : List Said) (said : Said) (line more : List ℕ) → said_bytes said ≡ line → said_text ls ++ (line ++ (10 ∷ more)) ≡ said_text (ls ++ (said ∷ [])) ++ more
line_more ls said line more e =
    ap (λ z. said_text ls ++ (z ++ (10 ∷ more))) (sym e)
    ∙ ap (λ z. said_text ls ++ z) (sym (append_assoc (said_bytes said) (10 ∷ []) more))
    ∙ sym (append_assoc (said_text ls) (said_bytes said ++ (10 ∷ [])) more)
    ∙ ap (λ z. z ++ more) (sym (said_append ls (said ∷ [])))

pub one_more : (x rest line more : List ℕ) (before now : Come) → SoFar x rest before → rest ≡ line ++ (10 ∷ more) → IsTaken line before now → SoFar x more now
one_more x rest line more before now far is (said, taken) =
    let opened_now : now.opened ≡ opened_in (far.ls ++ (said ∷ [])) = taken.opened ∙ ap (λ n. (if opens said.saying then 1 else 0) + n) far.opened ∙ sym (opened_append far.ls said) in
    record {
      ls = far.ls ++ (said ∷ []);
      sayings = more_sayings far.ls (said ∷ []) far.sayings (taken.says.0, tt);
      is = far.is ∙ ap (λ z. said_text far.ls ++ z) is ∙ line_more far.ls said line more taken.says.1;
      ran = run_more far.ls said before.stack far.ran ∙ taken.steps;
      lines = taken.lines ∙ ap (λ n. n + 1) far.lines ∙ sym (length-append far.ls (said ∷ []));
      opened = opened_now;
      shallow = shallow_append far.ls said far.shallow taken.may_open.shallow;
      few = in_limit (opens said.saying) taken.opened taken.may_open.few;
    }
  where
    in_limit : (b : Bool) → now.opened ≡ (if b then 1 else 0) + before.opened → (b ≡ true → before.opened < most_slots) → now.opened ≤ most_slots
    in_limit true e h = omega (arith, e, h refl)
    in_limit false e h = omega (arith, e, far.few)

-- ---- what is fine

not_deep : (said : Said) → (opens said.saying ≡ true → said.level < deepest_path) → OpensTooDeep (listed_row said) → ⊥
not_deep said h k = omega (arith, h k.0, k.1)

all_shallow : (ls : List Said) → AreShallow ls → All (λ row. OpensTooDeep row → ⊥) (map listed_row ls)
all_shallow [] h = λ k d i. absurd (omega (arith, i))
all_shallow (said ∷ ls) h = All-cons (λ row. OpensTooDeep row → ⊥) (listed_row said) (map listed_row ls) (not_deep said h.0) (all_shallow ls h.1)

begins : (ls : List Said) (stack : OpenNodes) → AreSayings ls → lines_taken unread ls ≡ Some stack → BeginsListing (map listed_row ls)
begins ls stack h e =
    let goes = alive ls stack h e in
    (goes.0, map listed_row goes.1, goes.2, sym (rows_are 0 program_sections goes.0) ∙ ap (map listed_row) goes.3 ∙ map_more ls goes.1)

fine : (x rest : List ℕ) (come : Come) → (far : SoFar x rest come) → Fine x (map listed_row far.ls) rest
fine x rest come far =
    record {
      is = far.is ∙ ap (λ z. z ++ rest) (sym (text_said far.ls));
      begins = begins far.ls come.stack far.sayings far.ran;
      shallow = all_shallow far.ls far.shallow;
      few = omega (arith, far.opened, far.few);
    }

pub rows_length : (ls : List Said) → length (map listed_row ls) ≡ length ls
rows_length [] = refl
rows_length (said ∷ ls) = ap suc (rows_length ls)

-- ---- a listing that begins so goes on so

next_says : LineLaws → (ls : List Said) (items : Forest) (line y : List ℕ) → AreSayings ls → HasNoEnd line
    → Spells items (text_of_lines (map listed_row ls) ++ (line ++ (10 ∷ y)))
    → (said : Said) × (rest : List Said) × Says line said × (sayings 0 program_sections items ≡ ls ++ (said ∷ rest))
next_says laws ls items line y h noend spells =
    let text : said_text ls ++ (line ++ (10 ∷ y)) ≡ said_text (sayings 0 program_sections items) =
    ap (λ z. z ++ (line ++ (10 ∷ y))) (sym (text_said ls)) ∙ spells.listed ∙ listing_said items in
    let front = text_front laws ls (sayings 0 program_sections items) (line ++ (10 ∷ y)) h (program_sayings items spells.program) text in
    go front.0 front.1 front.2 front.3
  where
    go : (rest : List Said) → sayings 0 program_sections items ≡ ls ++ rest → line ++ (10 ∷ y) ≡ said_text rest → AreSayings rest
        → (said : Said) × (rest : List Said) × Says line said × (sayings 0 program_sections items ≡ ls ++ (said ∷ rest))
    go [] is e k = absurd (no_line [] line y tt (sym e))
    go (said ∷ rest) is e k =
        let both = first_lines line (said_bytes said) y (said_text rest) noend (no_end _ (line_printable laws said k.0)) e in
        (said, rest, (k.0, sym both.0), is)

runs_on : (ls rest : List Said) (said : Said) (items : Forest) (stack : OpenNodes) → IsProgram items → sayings 0 program_sections items ≡ ls ++ (said ∷ rest)
    → lines_taken unread ls ≡ Some stack → line_taken stack said ≡ None → ⊥
runs_on ls rest said items stack program is ran none =
    let all = program_arrives items program in
    none-some all.0
    (sym (run_append ls (said ∷ rest) unread ∙ ap (option_and_then (λ s. lines_taken s (said ∷ rest))) ran ∙ ap (option_and_then (λ s. lines_taken s rest)) none)
    ∙ ap (lines_taken unread) (sym is) ∙ all.1)

next_line : (x rest line more : List ℕ) (come : Come) (far : SoFar x rest come) (said : Said) → GoesOn line come said → rest ≡ line ++ (10 ∷ more)
    → (P : List ListedLine → ListedLine → Type 0) → P (map listed_row far.ls) (listed_row said) → NextLine x P
next_line x rest line more come far said goes is P h = (
  map listed_row far.ls,
  listed_row said,
  more,
  subst (λ r. Fine x (map listed_row far.ls) r) (is ∙ ap (λ z. z ++ (10 ∷ more)) (sym goes.1.1)) (fine x rest come far),
  subst BeginsListing (map_more far.ls (said ∷ []))
      (begins (far.ls ++ (said ∷ [])) goes.0 (more_sayings far.ls (said ∷ []) far.sayings (goes.1.0, tt)) (run_more far.ls said come.stack far.ran ∙ goes.2)),
  h,
)

pub line_refused : LineLaws → (x rest line more : List ℕ) (come : Come) (refusal : FileRefusal) → length x ≤ longest_listing → SoFar x rest come
    → rest ≡ line ++ (10 ∷ more) → HasNoEnd line → IsLineRefused line come refusal → RefusalSays x refusal
line_refused laws x rest line more come (FileRefusal.NotAListing k) short far is noend h = (
  short,
  (
    map listed_row far.ls,
    rest,
    fine x rest come far,
    h.0 ∙ ap (λ n. n + 1) (far.lines ∙ sym (rows_length far.ls)),
    inl (
      line,
      more,
      is,
      noend,
      (λ items y spells.
          let next = next_says laws far.ls items line y far.sayings noend spells in
          runs_on far.ls next.1 next.0 items come.stack spells.program next.3 far.ran (h.1 next.0 next.2)),
    ),
  ),
)
line_refused laws x rest line more come FileRefusal.TooDeep short far is noend (said, goes, deep) =
    (short, next_line x rest line more come far said goes is (λ rows row. OpensTooDeep row) (goes.3, deep))
line_refused laws x rest line more come FileRefusal.TooLarge short far is noend (said, goes, shallow, many) = (
  short,
  next_line x rest line more come far said goes is (λ rows row. (OpensTooDeep row → ⊥) × OpensTooMany rows row)
      ((λ deep. omega (arith, deep.1, shallow)), (goes.3, omega (arith, many, far.opened))),
)
line_refused laws x rest line more come FileRefusal.OutOfMemory short far is noend h = tt
line_refused laws x rest line more come FileRefusal.NoFile short far is noend h = absurd h
line_refused laws x rest line more come FileRefusal.FileFault short far is noend h = absurd h
line_refused laws x rest line more come FileRefusal.TooLong short far is noend h = absurd h

-- ---- the end

pub unended : LineLaws → (x rest : List ℕ) (come : Come) (k : ℕ) → length x ≤ longest_listing → SoFar x rest come → HasNoEnd rest → (rest ≡ [] → ⊥)
    → k ≡ come.lines + 1 → Refused x (FileRefusal.NotAListing k)
unended laws x rest come k short far noend some is =
    (short, (map listed_row far.ls, rest, fine x rest come far, is ∙ ap (λ n. n + 1) (far.lines ∙ sym (rows_length far.ls)), inr (noend, none)))
  where
    none : (items : Forest) → Spells items x → ⊥
    none items spells =
        let front =
        text_front laws far.ls (sayings 0 program_sections items) rest far.sayings (program_sayings items spells.program)
        (sym far.is ∙ spells.listed ∙ listing_said items) in
        go front.0 front.2
      where
        go : (others : List Said) → rest ≡ said_text others → ⊥
        go [] e = some e
        go (said ∷ others) e = no_line rest (said_bytes said) (said_text others) noend e

pub unfinished : LineLaws → (x rest : List ℕ) (come : Come) (k : ℕ) → length x ≤ longest_listing → SoFar x rest come → rest ≡ []
    → k ≡ come.lines + 1 → program_of come.stack ≡ None → Refused x (FileRefusal.NotAListing k)
unfinished laws x rest come k short far empty is none = (
  short,
  (
    map listed_row far.ls,
    rest,
    fine x rest come far,
    is ∙ ap (λ n. n + 1) (far.lines ∙ sym (rows_length far.ls)),
    inr (subst HasNoEnd (sym empty) tt, spelled),
  ),
)
  where
    spelled : (items : Forest) → Spells items x → ⊥
    spelled items spells =
        let text : said_text far.ls ≡ said_text (sayings 0 program_sections items) =
        sym (append-nil (said_text far.ls)) ∙ ap (λ z. said_text far.ls ++ z) (sym empty) ∙ sym far.is ∙ spells.listed ∙ listing_said items in
        let same = one_text laws far.ls (sayings 0 program_sections items) far.sayings (program_sayings items spells.program) text in
        let all = program_arrives items spells.program in
        let stack : come.stack ≡ all.0 = some_is (sym far.ran ∙ ap (lines_taken unread) same ∙ all.1) in
        none-some _ (sym none ∙ ap program_of stack ∙ all.2)

-- ---- the limits of a whole listing

shallow_parts : (a b : List Said) → AreShallow (a ++ b) → AreShallow a × AreShallow b
shallow_parts [] b h = (tt, h)
shallow_parts (x ∷ a) b h = let more = shallow_parts a b h.1 in ((h.0, more.0), more.1)

pub depth_said : (level : ℕ) (left : List PlainSection) (items : Forest) → level ≤ deepest_path → AreShallow (sayings level left items)
    → level + depth items ≤ deepest_path
depth_said level left Forest.nil h k = omega (arith, h)
depth_said level left (Forest.cons label inner rest) h k =
    let here = left_for (sort_of label.kind) left in
    let behind_lead = shallow_parts (said_lead (level - 1) (next_lead here)) _ k in
    let own = behind_lead.1.0 refl in
    let inside = shallow_parts (sayings (level + 1) (row_of label.kind).sections inner) _ behind_lead.1.1 in
    let later = shallow_parts (said_last level (row_of label.kind).last) _ inside.1 in
    omega (arith, own, depth_said (level + 1) (row_of label.kind).sections inner (omega (arith, own)) inside.0, depth_said level (left_after here) rest h later.1)

pub opened_more : (a b : List Said) → opened_in (a ++ b) ≡ opened_in a + opened_in b
opened_more [] b = omega arith
opened_more (x ∷ a) b = omega (arith, opened_more a b)

no_lead : (level : ℕ) (text : Option (List ℕ)) → opened_in (said_lead level text) ≡ 0
no_lead level None = refl
no_lead level (Some text) = refl

no_last : (level : ℕ) (text : Option (List ℕ)) → opened_in (said_last level text) ≡ 0
no_last level None = refl
no_last level (Some text) = refl

pub count_said : (level : ℕ) (left : List PlainSection) (items : Forest) → opened_in (sayings level left items) ≡ count items
count_said level left Forest.nil = refl
count_said level left (Forest.cons label inner rest) =
    let here = left_for (sort_of label.kind) left in
    let own = sayings (level + 1) (row_of label.kind).sections inner in
    let last = said_last level (row_of label.kind).last in
    let more = sayings level (left_after here) rest in
    let first : Said = record { level = level; saying = Saying.head (shape label.kind) label.parts } in
    opened_more (said_lead (level - 1) (next_lead here)) (first ∷ (own ++ (last ++ more)))
    ∙ rw (
      no_lead (level - 1) (next_lead here),
      opened_more own (last ++ more),
      opened_more last more,
      no_last level (row_of label.kind).last,
      count_said (level + 1) (row_of label.kind).sections inner,
      count_said level (left_after here) rest,
    ) (omega arith)

pub program_opened : (items : Forest) → opened (listed_program items) ≡ count items
program_opened items = ap opened (sym (rows_are 0 program_sections items)) ∙ count_said 0 program_sections items

-- ---- the number of lines

said_long : (ls : List Said) → length ls ≤ length (said_text ls)
said_long [] = omega arith
said_long (said ∷ ls) = omega (arith, length-append (said_bytes said) (10 ∷ said_text ls), said_long ls)

pub few_lines : (x rest : List ℕ) (come : Come) → SoFar x rest come → come.lines + length rest ≤ length x
few_lines x rest come far = omega (arith, far.lines, said_long far.ls, ap length far.is, length-append (said_text far.ls) rest)

pub line_left : (rest line more : List ℕ) → rest ≡ line ++ (10 ∷ more) → 1 ≤ length rest
line_left rest line more is = omega (arith, ap length is, length-append line (10 ∷ more))

pub past_refused : (line : List ℕ) (come : Come) (said : Said) (after : OpenNodes) (refusal : FileRefusal) → Says line said → line_taken come.stack said ≡ Some after
    → IsPast (opens said.saying) said.level come.opened (Some refusal) → IsLineRefused line come refusal
past_refused line come said after FileRefusal.TooDeep h s past = (said, (after, h, s, past.0), past.1)
past_refused line come said after FileRefusal.TooLarge h s past = (said, (after, h, s, past.0), past.1, past.2)
past_refused line come said after (FileRefusal.NotAListing k) h s past = absurd past
past_refused line come said after FileRefusal.NoFile h s past = absurd past
past_refused line come said after FileRefusal.FileFault h s past = absurd past
past_refused line come said after FileRefusal.TooLong h s past = absurd past
past_refused line come said after FileRefusal.OutOfMemory h s past = absurd past
