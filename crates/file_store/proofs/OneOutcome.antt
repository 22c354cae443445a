-- The listing of a program within the limits is read as that program.
use Rattle.std.specs.Prelude.{◌≡◌, refl, ℕ, ◌+◌, ◌-◌, ◌<◌, ◌≤◌, true, List, [], ◌∷◌, ◌++◌, length, map, Option, Some, None, Result, Ok, Err}
use Rattle.std.proofs.Common.{ap, sym, ◌∙◌, arith, append_assoc, subst, inl, inr}
use Rattle.std.proofs.Math.Bool.{true≢false}
use Rattle.plcs_grammar.specs.Template.{PlainSection, row_of, program_sections}
use Rattle.template_tree.specs.Programs.Limit.{deepest_path, most_slots}
use Rattle.template_tree.specs.Listings.Line.{line_bytes}
use Rattle.template_tree.specs.Listings.Listing.{Spells}
use Rattle.template_tree.specs.Programs.PlainTree.{Forest, PlainTree}
use Rattle.template_tree.specs.Programs.Program.{sort_of}
use Rattle.template_tree.specs.Listings.Section.{left_for, left_after, next_lead}
use Rattle.template_tree.specs.Programs.Slots.{count, depth}
use Rattle.file_store.specs.declared.refusal.FileRefusal.{FileRefusal}
use Rattle.file_store.specs.Limit.{longest_listing}
use Rattle.file_store.specs.ListedLine.{ListedLine, text_of_lines}
use Rattle.file_store.specs.Loaded.{BeginsListing, NoListing, Loaded, ReadsOnly, Refused, opened}
use Rattle.file_store.specs.Private.LineLaws.{LineLaws}
use Rattle.file_store.specs.Private.Reader.{Said, opens, sayings, said_lead, said_last}
use Rattle.file_store.proofs.ListingLengths.{listing_short}
use Rattle.file_store.proofs.ListedLines.{listed_row, listing_said, one_program, program_sayings, rows_are, text_said}
use Rattle.file_store.proofs.ReadListings.{AreShallow, count_said, opened_in, opened_more}
use Rattle.file_store.proofs.Texts.{AreSayings, said_text, text_front}

-- ---- the lines of a program within the limits

shallow_more : (a b : List Said) → AreShallow a → AreShallow b → AreShallow (a ++ b)
shallow_more [] b h k = k
shallow_more (x ∷ a) b h k = (h.0, shallow_more a b h.1 k)

shallow_lead : (level : ℕ) (text : Option (List ℕ)) → AreShallow (said_lead level text)
shallow_lead level None = tt
shallow_lead level (Some text) = ((λ e. absurd (true≢false (sym e))), tt)

shallow_last : (level : ℕ) (text : Option (List ℕ)) → AreShallow (said_last level text)
shallow_last level None = tt
shallow_last level (Some text) = ((λ e. absurd (true≢false (sym e))), tt)

pub said_shallow : (level : ℕ) (left : List PlainSection) (items : Forest) → level + depth items ≤ deepest_path → AreShallow (sayings level left items)
said_shallow level left Forest.nil h = tt
said_shallow level left (Forest.cons label inner rest) h =
    let here = left_for (sort_of label.kind) left in
    shallow_more (said_lead (level - 1) (next_lead here)) _ (shallow_lead (level - 1) (next_lead here)) (
      (λ e. omega (arith, h)),
      shallow_more (sayings (level + 1) (row_of label.kind).sections inner) _
          (said_shallow (level + 1) (row_of label.kind).sections inner (omega (arith, h)))
          (shallow_more (said_last level (row_of label.kind).last) _ (shallow_last level (row_of label.kind).last)
          (said_shallow level (left_after here) rest (omega (arith, h)))),
    )

-- ---- lines that are listed were said

pub front_said : (ls : List Said) (rows : List ListedLine) (more : List ListedLine) → AreSayings ls → map listed_row ls ≡ rows ++ more
    → (front back : List Said) × (ls ≡ front ++ back) × (map listed_row front ≡ rows) × AreSayings front
front_said ls [] more h e = ([], ls, refl, refl, tt)
front_said [] (row ∷ rows) more h e = absurd (omega (arith, ap length e))
front_said (said ∷ ls) (row ∷ rows) more h e =
    let below = front_said ls rows more h.1 (ap (other_rows []) e) in (
      said ∷ below.0,
      below.1,
      ap (λ z. said ∷ z) below.2,
      ap (λ z. listed_row said ∷ z) below.3 ∙ ap (λ z. z ∷ rows) (ap (first_row row) e),
      (h.0, below.4),
    )
  where
    first_row : ListedLine → List ListedLine → ListedLine
    first_row row [] = row
    first_row row (first ∷ rest) = first

    other_rows : List ListedLine → List ListedLine → List ListedLine
    other_rows none [] = none
    other_rows none (first ∷ rest) = rest

-- the lines up to the one that is told stand at the front of the listing
listed_front : LineLaws → (items : Forest) (x : List ℕ) (rows : List ListedLine) (row : ListedLine) (rest : List ℕ) → Spells items x
    → x ≡ text_of_lines (rows ++ (row ∷ [])) ++ rest → BeginsListing (rows ++ (row ∷ []))
    → (front back : List Said) × (sayings 0 program_sections items ≡ front ++ back) × (map listed_row front ≡ rows ++ (row ∷ []))
listed_front laws items x rows row rest spells is begins =
    let other = front_said (sayings 0 program_sections begins.0) (rows ++ (row ∷ [])) begins.1 (program_sayings begins.0 begins.2) (rows_are 0 program_sections begins.0 ∙ begins.3) in
    let text : said_text other.0 ++ rest ≡ said_text (sayings 0 program_sections items) =
    ap (λ z. z ++ rest) (sym (text_said other.0) ∙ ap text_of_lines other.3) ∙ sym is ∙ spells.listed ∙ listing_said items in
    let front = text_front laws other.0 (sayings 0 program_sections items) rest other.4 (program_sayings items spells.program) text in
    (other.0, front.0, front.1, other.3)

-- the last of some lines that are listed
last_said : (front : List Said) (rows : List ListedLine) (row : ListedLine) → map listed_row front ≡ rows ++ (row ∷ [])
    → (before : List Said) × (said : Said) × (front ≡ before ++ (said ∷ [])) × (map listed_row before ≡ rows) × (listed_row said ≡ row)
last_said [] [] row e = absurd (omega (arith, ap length e))
last_said [] (first ∷ rows) row e = absurd (omega (arith, ap length e))
last_said (said ∷ []) [] row e = ([], said, refl, refl, ap (first_row row) e)
  where
    first_row : ListedLine → List ListedLine → ListedLine
    first_row row [] = row
    first_row row (first ∷ rest) = first
last_said (said ∷ (next ∷ front)) [] row e = absurd (omega (arith, ap length e))
last_said (said ∷ front) (first ∷ rows) row e =
    let below = last_said front rows row (ap (other_rows []) e) in (
      said ∷ below.0,
      below.1,
      ap (λ z. said ∷ z) below.2,
      ap (λ z. listed_row said ∷ z) below.3 ∙ ap (λ z. z ∷ rows) (ap (first_row first) e),
      below.4,
    )
  where
    first_row : ListedLine → List ListedLine → ListedLine
    first_row row [] = row
    first_row row (first ∷ rest) = first

    other_rows : List ListedLine → List ListedLine → List ListedLine
    other_rows none [] = none
    other_rows none (first ∷ rest) = rest

shallow_at : (before : List Said) (said : Said) (back : List Said) → AreShallow ((before ++ (said ∷ [])) ++ back) → opens said.saying ≡ true → said.level < deepest_path
shallow_at [] said back h e = h.0 e
shallow_at (x ∷ before) said back h e = shallow_at before said back h.1 e

rows_text : (a b : List ListedLine) → text_of_lines (a ++ b) ≡ text_of_lines a ++ text_of_lines b
rows_text [] b = refl
rows_text (row ∷ a) b = ap (λ z. line_bytes row.line ++ (10 ∷ z)) (rows_text a b) ∙ sym (append_assoc (line_bytes row.line) (10 ∷ text_of_lines a) (text_of_lines b))

pub line_behind : (rows : List ListedLine) (row : ListedLine) (rest : List ℕ)
    → text_of_lines rows ++ (line_bytes row.line ++ (10 ∷ rest)) ≡ text_of_lines (rows ++ (row ∷ [])) ++ rest
line_behind rows row rest =
    ap (λ z. text_of_lines rows ++ z) (sym (append_assoc (line_bytes row.line) (10 ∷ []) rest))
    ∙ sym (append_assoc (text_of_lines rows) (line_bytes row.line ++ (10 ∷ [])) rest)
    ∙ ap (λ z. z ++ rest) (sym (rows_text rows (row ∷ [])))

pub opened_row : (rows : List ListedLine) (row : ListedLine) → row.opens ≡ true → opened (rows ++ (row ∷ [])) ≡ opened rows + 1
opened_row [] row h = rw h refl
opened_row (first ∷ rows) row h = omega (arith, opened_row rows row h)

-- what a program within the limits is refused for
pub not_refused : LineLaws → (items : Forest) (x : List ℕ) (refusal : FileRefusal) → Spells items x → depth items ≤ deepest_path → count items ≤ most_slots
    → length x ≤ longest_listing → Refused x refusal → ⊥
not_refused laws items x FileRefusal.TooLong spells deep many short h = omega (arith, short, h)
not_refused laws items x (FileRefusal.NotAListing k) spells deep many short h = go h.1.4
  where
    go : NoListing x h.1.0 h.1.1 → ⊥
    go (inl bad) = bad.4 items bad.1 (record { program = spells.program; listed = ap (λ z. text_of_lines h.1.0 ++ z) (sym bad.2) ∙ sym h.1.2.is ∙ spells.listed })
    go (inr bad) = bad.1 items spells
not_refused laws items x FileRefusal.TooDeep spells deep many short h =
    let next = h.1 in
    let front = listed_front laws items x next.0 next.1 next.2 spells (next.3.is ∙ line_behind next.0 next.1 next.2) next.4 in
    let own = last_said front.0 next.0 next.1 front.3 in
    let all : AreShallow ((own.0 ++ (own.1 ∷ [])) ++ front.1) = subst AreShallow (front.2 ∙ ap (λ z. z ++ front.1) own.2) (said_shallow 0 program_sections items (omega (arith, deep))) in
    let opens_it : opens own.1.saying ≡ true = ap (λ (r : ListedLine). r.opens) own.4 ∙ next.5.0 in
    omega (arith, shallow_at own.0 own.1 front.1 all opens_it, ap (λ (r : ListedLine). r.line.level) own.4, next.5.1)
not_refused laws items x FileRefusal.TooLarge spells deep many short h =
    let next = h.1 in
    let front = listed_front laws items x next.0 next.1 next.2 spells (next.3.is ∙ line_behind next.0 next.1 next.2) next.4 in
    let counted : opened (next.0 ++ (next.1 ∷ [])) + opened_in front.1 ≡ count items =
    ap (λ rows. opened rows + opened_in front.1) (sym front.3) ∙ sym (opened_more front.0 front.1) ∙ ap opened_in (sym front.2) ∙ count_said 0 program_sections items in
    omega (arith, counted, opened_row next.0 next.1 next.5.1.0, next.5.1.1, many)
not_refused laws items x FileRefusal.NoFile spells deep many short h = h
not_refused laws items x FileRefusal.FileFault spells deep many short h = h
not_refused laws items x FileRefusal.OutOfMemory spells deep many short h = h

pub never_refused : LineLaws → (items : Forest) (x : List ℕ) (refusal : FileRefusal) → Spells items x → depth items ≤ deepest_path → count items ≤ most_slots
    → Refused x refusal → ⊥
never_refused laws items x refusal spells deep many h = not_refused laws items x refusal spells deep many (listing_short items x spells deep many) h

pub reads_only : LineLaws → (items : Forest) (x : List ℕ) (result : Result PlainTree FileRefusal) → Spells items x → depth items ≤ deepest_path
    → count items ≤ most_slots → Loaded x result → ReadsOnly result items
reads_only laws items x (Ok tree) spells deep many h = one_program laws tree.items items x h.spells spells
reads_only laws items x (Err FileRefusal.OutOfMemory) spells deep many h = refl
reads_only laws items x (Err FileRefusal.TooLong) spells deep many h = absurd (never_refused laws items x FileRefusal.TooLong spells deep many h)
reads_only laws items x (Err (FileRefusal.NotAListing k)) spells deep many h =
    absurd (never_refused laws items x (FileRefusal.NotAListing k) spells deep many h)
reads_only laws items x (Err FileRefusal.TooDeep) spells deep many h = absurd (never_refused laws items x FileRefusal.TooDeep spells deep many h)
reads_only laws items x (Err FileRefusal.TooLarge) spells deep many h = absurd (never_refused laws items x FileRefusal.TooLarge spells deep many h)
reads_only laws items x (Err FileRefusal.NoFile) spells deep many h = absurd h
reads_only laws items x (Err FileRefusal.FileFault) spells deep many h = absurd h
