-- The refusals of a text exclude each other.
use Rattle.std.specs.Prelude.{◌≡◌, refl, ℕ, ◌+◌, ◌≤◌, List, [], ◌∷◌, ◌++◌, length, map, All, Result, Ok, Err}
use Rattle.std.proofs.Common.{ap, sym, ◌∙◌, ◌⊎◌, arith, append_assoc, subst, inl, inr}
use Rattle.std.proofs.lemmas.List.{append-nil, append_cancel_left, length-append}
use Rattle.std.proofs.lemmas.List.Elements.{All-head, All-tail}
use Rattle.plcs_grammar.specs.Template.{program_sections}
use Rattle.template_tree.specs.Listings.Line.{line_bytes}
use Rattle.template_tree.specs.Programs.PlainTree.{Forest, PlainTree}
use Rattle.template_tree.specs.Programs.Program.{IsProgram}
use Rattle.file_store.specs.declared.refusal.FileRefusal.{FileRefusal}
use Rattle.file_store.specs.ListedLine.{ListedLine, text_of_lines}
use Rattle.file_store.specs.Loaded.{BeginsListing, Fine, NextLine, NoListing, OpensTooDeep, OpensTooMany, Loaded, Refused, RefusesOnly, opened}
use Rattle.file_store.specs.Private.LineLaws.{LineLaws}
use Rattle.file_store.specs.Private.LineReading.{said_bytes}
use Rattle.file_store.specs.Private.Reader.{IsSaying, Said, sayings}
use Rattle.file_store.proofs.ListedLines.{listed_row, listing_said, map_more, program_sayings, rows_are, text_said}
use Rattle.file_store.proofs.OneOutcome.{front_said, line_behind, never_refused, opened_row}
use Rattle.file_store.proofs.ReadListings.{rows_length, said_append}
use Rattle.file_store.proofs.Texts.{AreSayings, first_lines, line_printable, no_end, no_line, one_line, said_text}

-- ---- lines at the front of one text

-- two lists of lines are one, or one of them goes on behind the other
abbrev Beside : List Said → List Said → Type 0
Beside a b =
    (a ≡ b)
    ⊎ (((said : Said) × (more : List Said) × (b ≡ a ++ (said ∷ more))) ⊎ ((said : Said) × (more : List Said) × (a ≡ b ++ (said ∷ more))))

beside : LineLaws → (a b : List Said) (y z : List ℕ) → AreSayings a → AreSayings b → said_text a ++ y ≡ said_text b ++ z → Beside a b
beside laws [] [] y z h k e = inl refl
beside laws [] (said ∷ b) y z h k e = inr (inl (said, b, refl))
beside laws (said ∷ a) [] y z h k e = inr (inr (said, a, refl))
beside laws (l ∷ a) (m ∷ b) y z h k e =
    let both = first_lines (said_bytes l) (said_bytes m) (said_text a ++ y) (said_text b ++ z) (no_end _ (line_printable laws l h.0)) (no_end _ (line_printable laws m k.0))
    (sym (append_assoc (said_bytes l) (10 ∷ said_text a) y) ∙ e ∙ append_assoc (said_bytes m) (10 ∷ said_text b) z) in
    one_longer (one_line laws l m h.0 k.0 both.0) (beside laws a b y z h.1 k.1 both.1)
  where
    one_longer : l ≡ m → Beside a b → Beside (l ∷ a) (m ∷ b)
    one_longer s (inl same) = inl (ap (λ n. n ∷ a) s ∙ ap (λ n. m ∷ n) same)
    one_longer s (inr (inl (said, more, same))) = inr (inl (said, more, ap (λ n. m ∷ n) same ∙ ap (λ n. n ∷ (a ++ (said ∷ more))) (sym s)))
    one_longer s (inr (inr (said, more, same))) = inr (inr (said, more, ap (λ n. l ∷ n) same ∙ ap (λ n. n ∷ (b ++ (said ∷ more))) s))

-- the lines stand at the front of the text and of the listing of some program
record Front (x : List ℕ) (rows : List ListedLine) (rest : List ℕ) : Type 0 where
  items : Forest
  ls : List Said
  back : List Said
  program : IsProgram items
  listed : sayings 0 program_sections items ≡ ls ++ back
  says : AreSayings ls
  rows_are : map listed_row ls ≡ rows
  is : x ≡ said_text ls ++ rest

front : (x rest : List ℕ) (rows : List ListedLine) → x ≡ text_of_lines rows ++ rest → BeginsListing rows → Front x rows rest
front x rest rows is begins =
    let own = front_said (sayings 0 program_sections begins.0) rows begins.1 (program_sayings begins.0 begins.2) (rows_are 0 program_sections begins.0 ∙ begins.3) in
    record {
      items = begins.0;
      ls = own.0;
      back = own.1;
      program = begins.2;
      listed = own.2;
      says = own.4;
      rows_are = own.3;
      is = is ∙ ap (λ z. z ++ rest) (ap text_of_lines (sym own.3) ∙ text_said own.0);
    }

fine_front : (x rest : List ℕ) (rows : List ListedLine) → Fine x rows rest → Front x rows rest
fine_front x rest rows fine = front x rest rows fine.is fine.begins

next_front : (x rest : List ℕ) (rows : List ListedLine) (row : ListedLine) → Fine x rows (line_bytes row.line ++ (10 ∷ rest)) → BeginsListing (rows ++ (row ∷ []))
    → Front x (rows ++ (row ∷ [])) rest
next_front x rest rows row fine begins = front x rest (rows ++ (row ∷ [])) (fine.is ∙ line_behind rows row rest) begins

compared : LineLaws → (x y z : List ℕ) (a b : List ListedLine) → (one : Front x a y) → (other : Front x b z) → Beside one.ls other.ls
compared laws x y z a b one other = beside laws one.ls other.ls y z one.says other.says (sym one.is ∙ other.is)

front_length : (x rest : List ℕ) (rows : List ListedLine) → (own : Front x rows rest) → length own.ls ≡ length rows
front_length x rest rows own = sym (rows_length own.ls) ∙ ap length own.rows_are

says_at : (before : List Said) (said : Said) (more : List Said) → AreSayings (before ++ (said ∷ more)) → IsSaying said.saying
says_at [] said more h = h.0
says_at (first ∷ before) said more h = says_at before said more h.1

-- ---- no listing goes on

-- where no listing goes on behind some lines, no lines of a listing stand there
no_further : LineLaws → (x y z : List ℕ) (a b : List ListedLine) → (one : Front x a y) → NoListing x a y → (other : Front x b z)
    → (said : Said) (more : List Said) → other.ls ≡ one.ls ++ (said ∷ more) → ⊥
no_further laws x y z a b one none other said more e = go none
  where
    longer : said_text other.ls ≡ said_text one.ls ++ (said_bytes said ++ (10 ∷ said_text more))
    longer = ap said_text e ∙ said_append one.ls (said ∷ more)

    left : y ≡ said_bytes said ++ (10 ∷ (said_text more ++ z))
    left =
        append_cancel_left (said_text one.ls) _ _
        (sym one.is ∙ other.is ∙ ap (λ n. n ++ z) longer ∙ append_assoc (said_text one.ls) (said_bytes said ++ (10 ∷ said_text more)) z
        ∙ ap (λ n. said_text one.ls ++ n) (append_assoc (said_bytes said) (10 ∷ said_text more) z))

    own : IsSaying said.saying
    own = says_at one.ls said more (subst AreSayings e other.says)

    listing : said_text (sayings 0 program_sections other.items) ≡ said_text one.ls ++ (said_bytes said ++ (10 ∷ (said_text more ++ said_text other.back)))
    listing =
        ap said_text other.listed ∙ said_append other.ls other.back ∙ ap (λ n. n ++ said_text other.back) longer
        ∙ append_assoc (said_text one.ls) (said_bytes said ++ (10 ∷ said_text more)) (said_text other.back)
        ∙ ap (λ n. said_text one.ls ++ n) (append_assoc (said_bytes said) (10 ∷ said_text more) (said_text other.back))

    go : NoListing x a y → ⊥
    go (inl (line, behind, is, noend, refused)) =
        let both = first_lines line (said_bytes said) behind (said_text more ++ z) noend (no_end _ (line_printable laws said own)) (sym is ∙ left) in
        refused other.items (said_text more ++ said_text other.back)
        (record {
          program = other.program;
          listed =
              ap (λ n. n ++ (line ++ (10 ∷ (said_text more ++ said_text other.back)))) (ap text_of_lines (sym one.rows_are) ∙ text_said one.ls)
              ∙ ap (λ n. said_text one.ls ++ (n ++ (10 ∷ (said_text more ++ said_text other.back)))) both.0
              ∙ sym listing ∙ sym (listing_said other.items);
        })
    go (inr (noend, refused)) = no_line y (said_bytes said) (said_text more ++ z) noend left

-- ---- limits

all_at : (P : ListedLine → Type 0) (before : List ListedLine) (row : ListedLine) (more : List ListedLine) → All P ((before ++ (row ∷ [])) ++ more) → P row
all_at P [] row more h = All-head P row more h
all_at P (first ∷ before) row more h = all_at P before row more (All-tail P first ((before ++ (row ∷ [])) ++ more) h)

opened_rows : (a b : List ListedLine) → opened (a ++ b) ≡ opened a + opened b
opened_rows [] b = omega arith
opened_rows (row ∷ a) b = omega (arith, opened_rows a b)

-- no lines without trouble go on behind one that is past a limit
past : (x y z : List ℕ) (rows before : List ListedLine) (row : ListedLine) → Fine x rows y → (one : Front x rows y) → (other : Front x (before ++ (row ∷ [])) z)
    → (more : List Said) → one.ls ≡ other.ls ++ more → OpensTooDeep row ⊎ OpensTooMany before row → ⊥
past x y z rows before row fine one other more e trouble = go trouble
  where
    all : rows ≡ (before ++ (row ∷ [])) ++ map listed_row more
    all = sym one.rows_are ∙ ap (map listed_row) e ∙ map_more other.ls more ∙ ap (λ n. n ++ map listed_row more) other.rows_are

    go : OpensTooDeep row ⊎ OpensTooMany before row → ⊥
    go (inl deep) = all_at (λ r. OpensTooDeep r → ⊥) before row (map listed_row more) (subst (All (λ r. OpensTooDeep r → ⊥)) all fine.shallow) deep
    go (inr many) = omega (arith, fine.few, ap opened all, opened_rows (before ++ (row ∷ [])) (map listed_row more), opened_row before row many.0, many.1)

-- ---- refusals

abbrev last_row : ListedLine → List ListedLine → ListedLine
last_row none [] = none
last_row none (row ∷ rows) = last_row row rows

last_of : (none : ListedLine) (rows : List ListedLine) (row : ListedLine) → last_row none (rows ++ (row ∷ [])) ≡ row
last_of none [] row = refl
last_of none (first ∷ rows) row = last_of first rows row

one_line_of : LineLaws → (x : List ℕ) (j k : ℕ) → Refused x (FileRefusal.NotAListing j) → Refused x (FileRefusal.NotAListing k) → j ≡ k
one_line_of laws x j k (_, (a, y, fine, is, none)) (_, (b, z, other_fine, other_is, other_none)) =
    go (compared laws x y z a b one other)
  where
    one : Front x a y
    one = fine_front x y a fine

    other : Front x b z
    other = fine_front x z b other_fine

    go : Beside one.ls other.ls → j ≡ k
    go (inl same) =
        is ∙ ap (λ n. n + 1) (sym (front_length x y a one) ∙ ap length same ∙ front_length x z b other) ∙ sym other_is
    go (inr (inl (said, more, e))) = absurd (no_further laws x y z a b one none other said more e)
    go (inr (inr (said, more, e))) = absurd (no_further laws x z y b a other other_none one said more e)

no_line_past : LineLaws → (x : List ℕ) (k : ℕ) (P : List ListedLine → ListedLine → Type 0)
    → ((rows : List ListedLine) (row : ListedLine) → P rows row → OpensTooDeep row ⊎ OpensTooMany rows row)
    → Refused x (FileRefusal.NotAListing k) → NextLine x P → ⊥
no_line_past laws x k P trouble (_, (a, y, fine, is, none)) (rows, row, rest, other_fine, begins, so) =
    go (compared laws x y rest a (rows ++ (row ∷ [])) one other)
  where
    one : Front x a y
    one = fine_front x y a fine

    other : Front x (rows ++ (row ∷ [])) rest
    other = next_front x rest rows row other_fine begins

    go : Beside one.ls other.ls → ⊥
    go (inl same) = past x y rest a rows row fine one other [] (same ∙ sym (append-nil other.ls)) (trouble rows row so)
    go (inr (inl (said, more, e))) = no_further laws x y rest a (rows ++ (row ∷ [])) one none other said more e
    go (inr (inr (said, more, e))) = past x y rest a rows row fine one other (said ∷ more) e (trouble rows row so)

-- a line past a limit stands no further than another one
no_earlier : LineLaws → (x : List ℕ) (rows others : List ListedLine) (row : ListedLine) (y z : List ℕ) → Fine x rows y → (other : Front x (others ++ (row ∷ [])) z)
    → OpensTooDeep row ⊎ OpensTooMany others row → length rows ≤ length others
no_earlier laws x rows others row y z fine other trouble = go (compared laws x y z rows (others ++ (row ∷ [])) one other)
  where
    one : Front x rows y
    one = fine_front x y rows fine

    go : Beside one.ls other.ls → length rows ≤ length others
    go (inl same) = absurd (past x y z rows others row fine one other [] (same ∙ sym (append-nil other.ls)) trouble)
    go (inr (inl (said, more, e))) =
        omega (arith, front_length x y rows one, front_length x z (others ++ (row ∷ [])) other, length-append others (row ∷ []), ap length e, length-append one.ls (said ∷ more))
    go (inr (inr (said, more, e))) = absurd (past x y z rows others row fine one other (said ∷ more) e trouble)

deep_or_many : LineLaws → (x : List ℕ) → Refused x FileRefusal.TooDeep → Refused x FileRefusal.TooLarge → ⊥
deep_or_many laws x (_, (a, one_row, y, fine, begins, deep)) (_, (b, other_row, z, other_fine, other_begins, (shallow, many))) =
    go (compared laws x y z (a ++ (one_row ∷ [])) (b ++ (other_row ∷ [])) one other)
  where
    one : Front x (a ++ (one_row ∷ [])) y
    one = next_front x y a one_row fine begins

    other : Front x (b ++ (other_row ∷ [])) z
    other = next_front x z b other_row other_fine other_begins

    above : length a ≤ length b
    above = no_earlier laws x a b other_row _ z fine other (inr many)

    below : length b ≤ length a
    below = no_earlier laws x b a one_row _ y other_fine one (inl deep)

    lengths : length one.ls ≡ length other.ls
    lengths =
        omega (
          arith,
          above,
          below,
          front_length x y (a ++ (one_row ∷ [])) one,
          front_length x z (b ++ (other_row ∷ [])) other,
          length-append a (one_row ∷ []),
          length-append b (other_row ∷ []),
        )

    go : Beside one.ls other.ls → ⊥
    go (inl same) =
        let row : one_row ≡ other_row =
        sym (last_of one_row a one_row) ∙ ap (last_row one_row) (sym one.rows_are ∙ ap (map listed_row) same ∙ other.rows_are) ∙ last_of one_row b other_row in
        shallow (subst OpensTooDeep row deep)
    go (inr (inl (said, more, e))) = omega (arith, lengths, ap length e, length-append one.ls (said ∷ more))
    go (inr (inr (said, more, e))) = omega (arith, lengths, ap length e, length-append other.ls (said ∷ more))

is_deep : (rows : List ListedLine) (row : ListedLine) → OpensTooDeep row → OpensTooDeep row ⊎ OpensTooMany rows row
is_deep rows row deep = inl deep

is_many : (rows : List ListedLine) (row : ListedLine) → (OpensTooDeep row → ⊥) × OpensTooMany rows row → OpensTooDeep row ⊎ OpensTooMany rows row
is_many rows row h = inr h.1

-- a text is refused for one reason alone
pub one_refusal : LineLaws → (x : List ℕ) (a b : FileRefusal) → Refused x a → Refused x b → a ≡ b
one_refusal laws x FileRefusal.TooLong FileRefusal.TooLong h k = refl
one_refusal laws x FileRefusal.TooLong (FileRefusal.NotAListing n) h k = absurd (omega (arith, h, k.0))
one_refusal laws x FileRefusal.TooLong FileRefusal.TooDeep h k = absurd (omega (arith, h, k.0))
one_refusal laws x FileRefusal.TooLong FileRefusal.TooLarge h k = absurd (omega (arith, h, k.0))
one_refusal laws x (FileRefusal.NotAListing n) FileRefusal.TooLong h k = absurd (omega (arith, h.0, k))
one_refusal laws x (FileRefusal.NotAListing m) (FileRefusal.NotAListing n) h k = ap (λ line. FileRefusal.NotAListing line) (one_line_of laws x m n h k)
one_refusal laws x (FileRefusal.NotAListing n) FileRefusal.TooDeep h k = absurd (no_line_past laws x n _ is_deep h k.1)
one_refusal laws x (FileRefusal.NotAListing n) FileRefusal.TooLarge h k = absurd (no_line_past laws x n _ is_many h k.1)
one_refusal laws x FileRefusal.TooDeep FileRefusal.TooLong h k = absurd (omega (arith, h.0, k))
one_refusal laws x FileRefusal.TooDeep (FileRefusal.NotAListing n) h k = absurd (no_line_past laws x n _ is_deep k h.1)
one_refusal laws x FileRefusal.TooDeep FileRefusal.TooDeep h k = refl
one_refusal laws x FileRefusal.TooDeep FileRefusal.TooLarge h k = absurd (deep_or_many laws x h k)
one_refusal laws x FileRefusal.TooLarge FileRefusal.TooLong h k = absurd (omega (arith, h.0, k))
one_refusal laws x FileRefusal.TooLarge (FileRefusal.NotAListing n) h k = absurd (no_line_past laws x n _ is_many k h.1)
one_refusal laws x FileRefusal.TooLarge FileRefusal.TooDeep h k = absurd (deep_or_many laws x k h)
one_refusal laws x FileRefusal.TooLarge FileRefusal.TooLarge h k = refl
one_refusal laws x FileRefusal.NoFile b h k = absurd h
one_refusal laws x FileRefusal.FileFault b h k = absurd h
one_refusal laws x FileRefusal.OutOfMemory b h k = absurd h
one_refusal laws x a FileRefusal.NoFile h k = absurd k
one_refusal laws x a FileRefusal.FileFault h k = absurd k
one_refusal laws x a FileRefusal.OutOfMemory h k = absurd k

-- what is answered to a text that is refused
pub refuses_only : LineLaws → (x : List ℕ) (refusal : FileRefusal) (result : Result PlainTree FileRefusal) → Refused x refusal → Loaded x result
    → RefusesOnly result refusal
refuses_only laws x refusal (Ok tree) h says = never_refused laws tree.items x refusal says.spells says.is_tree.shallow says.is_tree.few h
refuses_only laws x refusal (Err FileRefusal.OutOfMemory) h says = inr refl
refuses_only laws x refusal (Err FileRefusal.TooLong) h says = inl (one_refusal laws x FileRefusal.TooLong refusal says h)
refuses_only laws x refusal (Err (FileRefusal.NotAListing k)) h says = inl (one_refusal laws x (FileRefusal.NotAListing k) refusal says h)
refuses_only laws x refusal (Err FileRefusal.TooDeep) h says = inl (one_refusal laws x FileRefusal.TooDeep refusal says h)
refuses_only laws x refusal (Err FileRefusal.TooLarge) h says = inl (one_refusal laws x FileRefusal.TooLarge refusal says h)
refuses_only laws x refusal (Err FileRefusal.NoFile) h says = absurd says
refuses_only laws x refusal (Err FileRefusal.FileFault) h says = absurd says
