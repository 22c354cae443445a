-- A text is made of one list of lines alone.
use Rattle.std.specs.Prelude.{◌≡◌, ◌≢◌, refl, ℕ, zero, suc, ◌*◌, Bool, true, false, ◌==◌, IsTrue, List, [], ◌∷◌, ◌++◌, length, replicate, codes, Option, Some, None}
use Rattle.std.specs.List.{list_all}
use Rattle.std.proofs.Common.{ap, sym, ◌∙◌, append_assoc, arith}
use Rattle.std.proofs.Math.Bool.{true≢false}
use Rattle.std.proofs.lemmas.Bool.{and_parts, and_from, eq-eqb, leb-true}
use Rattle.std.proofs.lemmas.List.{append_cancel_left, append-nil}
use Rattle.std.proofs.lemmas.List.Folds.{list_all-append}
use Rattle.plcs_base.specs.Byte.{is_printable}
use Rattle.plcs_grammar.specs.declared.category.Category.{Category}
use Rattle.plcs_grammar.specs.declared.node_kind.NodeKind.{NodeKind}
use Rattle.plcs_grammar.specs.declared.template.Template.{Template}
use Rattle.plcs_grammar.specs.PlainPhrase.{PlainPhrase}
use Rattle.plcs_grammar.specs.Canon.{Canon}
use Rattle.plcs_grammar.specs.Placeholder.{placeholder}
use Rattle.plcs_grammar.specs.Template.{PlainSegment, row_of}
use Rattle.template_tree.specs.Listings.Line.{part_text, segments_text}
use Rattle.template_tree.specs.Programs.Program.{AreParts, IsPart, parts_of}
use Rattle.file_store.specs.Loaded.{HasNoEnd}
use Rattle.file_store.specs.Private.LineLaws.{LineLaws}
use Rattle.file_store.specs.Private.LineReading.{blank_bytes, said_bytes}
use Rattle.file_store.specs.Private.Reader.{Saying, Said, text_of, IsSaying}
use Rattle.file_store.proofs.Heads.{one_saying}

abbrev printable : List ℕ → Bool
printable = list_all is_printable

abbrev printable_segment : PlainSegment → Bool
printable_segment (PlainSegment.words bytes) = printable bytes
printable_segment (PlainSegment.part category) = true

row_printable : (kind : NodeKind) → IsTrue (list_all printable_segment (row_of kind).line)
row_printable NodeKind.Main = refl
row_printable (NodeKind.Filled Template.Fixed) = refl
row_printable (NodeKind.Filled template) = refl
row_printable kind = refl

placeholder_printable : (category : Category) → IsTrue (printable (placeholder category))
placeholder_printable Category.Assignment = refl
placeholder_printable category = refl

printable_append : (a b : List ℕ) → IsTrue (printable a) → IsTrue (printable b) → IsTrue (printable (a ++ b))
printable_append a b h k = list_all-append is_printable a b ∙ and_from (printable a) (printable b) h k

part_printable : LineLaws → (category : Category) (part : Option PlainPhrase) → IsPart category part → IsTrue (printable (part_text category part))
part_printable laws category None h = placeholder_printable category
part_printable laws category (Some phrase) h = (laws.shows category phrase h.well_formed).printable

segments_printable : LineLaws → (segments : List PlainSegment) (parts : List (Option PlainPhrase))
    → IsTrue (list_all printable_segment segments) → AreParts (parts_of segments) parts → IsTrue (printable (segments_text segments parts))
segments_printable laws [] parts words sound = refl
segments_printable laws (PlainSegment.words bytes ∷ segments) parts words sound =
    let both = and_parts (printable bytes) (list_all printable_segment segments) words in
    printable_append bytes (segments_text segments parts) both.0 (segments_printable laws segments parts both.1 sound)
segments_printable laws (PlainSegment.part category ∷ segments) [] words sound = absurd sound
segments_printable laws (PlainSegment.part category ∷ segments) (part ∷ parts) words sound =
    printable_append (part_text category part) (segments_text segments parts) (part_printable laws category part sound.0)
    (segments_printable laws segments parts words sound.1)

-- what a line says holds no line end
pub saying_printable : LineLaws → (x : Saying) → IsSaying x → IsTrue (printable (text_of x))
saying_printable laws (Saying.head kind parts) h = segments_printable laws (row_of kind).line parts (row_printable kind) h.1
saying_printable laws (Saying.lead text) h = rw h refl
saying_printable laws (Saying.last text) h = rw h refl

-- ---- the first byte

-- a text that begins with something other than a blank
abbrev pub Begun : List ℕ → Type 0
Begun [] = ⊥
Begun (byte ∷ rest) = byte ≢ 32

begun_append : (a b : List ℕ) → Begun a → Begun (a ++ b)
begun_append [] b h = absurd h
begun_append (byte ∷ a) b h = h

not_blank : (n : ℕ) → (n == 32) ≡ false → n ≢ 32
not_blank n h e = true≢false (sym (eq-eqb n 32 e) ∙ h)

part_begun : LineLaws → (category : Category) (part : Option PlainPhrase) → IsPart category part → Begun (part_text category part)
part_begun laws category None h = go category
  where
    go : (category : Category) → Begun (placeholder category)
    go Category.Assignment = not_blank 123 refl
    go category = not_blank 123 refl
part_begun laws category (Some phrase) h = go (Canon phrase) (laws.shows category phrase h.well_formed).not_empty (laws.shows category phrase h.well_formed).no_blank_first
  where
    go : (x : List ℕ) → x ≢ [] → ((rest : List ℕ) → x ≢ codes " " ++ rest) → Begun x
    go [] some first = some refl
    go (byte ∷ x) some first = λ e. first x (ap (λ z. z ∷ x) e)

pub saying_begun : LineLaws → (x : Saying) → IsSaying x → Begun (text_of x)
saying_begun laws (Saying.lead text) h = rw h (not_blank 69 refl)
saying_begun laws (Saying.last text) h = rw h (not_blank 69 refl)
saying_begun laws (Saying.head kind parts) h = go kind parts h.1
  where
    go : (kind : NodeKind) (parts : List (Option PlainPhrase)) → AreParts (parts_of (row_of kind).line) parts → Begun (segments_text (row_of kind).line parts)
    go NodeKind.Assign [] h = absurd h
    go NodeKind.Assign (part ∷ parts) h = begun_append (part_text Category.Assignment part) _ (part_begun laws Category.Assignment part h.0)
    go (NodeKind.Filled Template.Proc) [] h = absurd h
    go (NodeKind.Filled Template.Proc) (part ∷ parts) h =
        begun_append (part_text Category.ProcedureName part) _ (part_begun laws Category.ProcedureName part h.0)
    go (NodeKind.Filled Template.ProcP) [] h = absurd h
    go (NodeKind.Filled Template.ProcP) (part ∷ parts) h =
        begun_append (part_text Category.ProcedureName part) _ (part_begun laws Category.ProcedureName part h.0)
    go (NodeKind.Filled Template.Fixed) parts h = not_blank 68 refl
    go (NodeKind.Filled Template.Bit) parts h = not_blank 68 refl
    go (NodeKind.Filled Template.Char) parts h = not_blank 68 refl
    go (NodeKind.Filled Template.If) parts h = not_blank 73 refl
    go (NodeKind.Filled Template.IfElse) parts h = not_blank 73 refl
    go (NodeKind.Filled Template.While) parts h = not_blank 68 refl
    go (NodeKind.Filled Template.For) parts h = not_blank 68 refl
    go (NodeKind.Filled Template.Until) parts h = not_blank 68 refl
    go (NodeKind.Filled Template.Group) parts h = not_blank 68 refl
    go (NodeKind.Filled Template.Get) parts h = not_blank 71 refl
    go (NodeKind.Filled Template.Put) parts h = not_blank 80 refl
    go (NodeKind.Filled Template.PutSkip) parts h = not_blank 80 refl
    go (NodeKind.Filled Template.Call) parts h = not_blank 67 refl
    go (NodeKind.Filled Template.Return) parts h = not_blank 82 refl
    go (NodeKind.Filled Template.Comment) parts h = not_blank 47 refl
    go NodeKind.Main parts h = not_blank 109 refl
    go NodeKind.DeclarationHole parts h = not_blank 123 refl
    go NodeKind.StatementHole parts h = not_blank 123 refl
    go NodeKind.ProcedureHole parts h = not_blank 123 refl

abbrev pub first_of_text : ℕ → List ℕ → ℕ
first_of_text byte [] = byte
first_of_text byte (first ∷ rest) = first

abbrev pub other_bytes : List ℕ → List ℕ → List ℕ
other_bytes none [] = none
other_bytes none (first ∷ rest) = rest

nil_cons : (byte : ℕ) (rest : List ℕ) → [] ≡ byte ∷ rest → ⊥
nil_cons byte rest e = omega (arith, ap length e)

-- ---- levels

pub more_blanks : (level : ℕ) → blank_bytes (suc level) ≡ 32 ∷ (32 ∷ blank_bytes level)
more_blanks level = ap (λ n. replicate n 32) (two_more level)
  where
    two_more : (level : ℕ) → 2 * suc level ≡ suc (suc (2 * level))
    two_more level = omega arith

-- blanks before a text tell its level
pub one_level : (a b : ℕ) (x y : List ℕ) → Begun x → Begun y → blank_bytes a ++ x ≡ blank_bytes b ++ y → (a ≡ b) × (x ≡ y)
one_level zero zero x y h k e = (refl, e)
one_level zero (suc b) x y h k e = absurd (go x h (e ∙ ap (λ z. z ++ y) (more_blanks b)))
  where
    go : (x : List ℕ) → Begun x → x ≡ (32 ∷ (32 ∷ blank_bytes b)) ++ y → ⊥
    go [] h e = h
    go (byte ∷ x) h e = h (ap (first_of_text 32) e)
one_level (suc a) zero x y h k e = absurd (go y k (sym e ∙ ap (λ z. z ++ x) (more_blanks a)))
  where
    go : (y : List ℕ) → Begun y → y ≡ (32 ∷ (32 ∷ blank_bytes a)) ++ x → ⊥
    go [] h e = h
    go (byte ∷ y) h e = h (ap (first_of_text 32) e)
one_level (suc a) (suc b) x y h k e =
    let below = one_level a b x y h k (append_cancel_left (32 ∷ (32 ∷ [])) _ _ (sym (ap (λ z. z ++ x) (more_blanks a)) ∙ e ∙ ap (λ z. z ++ y) (more_blanks b))) in
    (ap suc below.0, below.1)

-- ---- lines

abbrev pub said_text : List Said → List ℕ
said_text [] = []
said_text (said ∷ rest) = said_bytes said ++ (10 ∷ said_text rest)

abbrev pub AreSayings : List Said → Type 0
AreSayings [] = Unit {0}
AreSayings (said ∷ rest) = IsSaying said.saying × AreSayings rest

blanks_printable : (n : ℕ) → IsTrue (printable (replicate n 32))
blanks_printable zero = refl
blanks_printable (suc n) = blanks_printable n

pub line_printable : LineLaws → (said : Said) → IsSaying said.saying → IsTrue (printable (said_bytes said))
line_printable laws said h = printable_append (blank_bytes said.level) (text_of said.saying) (blanks_printable (2 * said.level)) (saying_printable laws said.saying h)

pub one_line : LineLaws → (x y : Said) → IsSaying x.saying → IsSaying y.saying → said_bytes x ≡ said_bytes y → x ≡ y
one_line laws x y h k e =
    let both = one_level x.level y.level (text_of x.saying) (text_of y.saying) (saying_begun laws x.saying h) (saying_begun laws y.saying k) e in
    let same : x.saying ≡ y.saying = one_saying laws x.saying y.saying h k both.1 in
    let level : x.level ≡ y.level = both.0 in
    λ i. record { level = level i; saying = same i }

pub no_end : (x : List ℕ) → IsTrue (printable x) → HasNoEnd x
no_end [] h = tt
no_end (byte ∷ x) h =
    let both = and_parts (is_printable byte) (printable x) h in
    ((λ e. omega (arith, e, leb-true 32 byte (and_parts _ _ both.0).0)), no_end x both.1)

-- texts up to their first line ends
pub first_lines : (a b x y : List ℕ) → HasNoEnd a → HasNoEnd b → a ++ (10 ∷ x) ≡ b ++ (10 ∷ y) → (a ≡ b) × (x ≡ y)
first_lines [] [] x y h k e = (refl, ap (other_bytes x) e)
first_lines [] (byte ∷ b) x y h k e = absurd (k.0 (sym (ap (first_of_text 10) e)))
first_lines (byte ∷ a) [] x y h k e = absurd (h.0 (ap (first_of_text 10) e))
first_lines (c ∷ a) (d ∷ b) x y h k e =
    let first : c ≡ d = ap (first_of_text c) e in
    let both = first_lines a b x y h.1 k.1 (ap (other_bytes []) e) in
    (ap (λ z. z ∷ a) first ∙ ap (λ z. d ∷ z) both.0, both.1)

-- a text without a line end has none
pub no_line : (a b x : List ℕ) → HasNoEnd a → a ≡ b ++ (10 ∷ x) → ⊥
no_line [] [] x h e = absurd (nil_cons _ _ e)
no_line [] (byte ∷ b) x h e = absurd (nil_cons _ _ e)
no_line (c ∷ a) [] x h e = h.0 (ap (first_of_text 10) e)
no_line (c ∷ a) (d ∷ b) x h e = no_line a b x h.1 (ap (other_bytes []) e)

-- the lines of a text, as far as some are known of it
pub text_front : LineLaws → (ls ms : List Said) (z : List ℕ) → AreSayings ls → AreSayings ms → said_text ls ++ z ≡ said_text ms
    → (rest : List Said) × (ms ≡ ls ++ rest) × (z ≡ said_text rest) × AreSayings rest
text_front laws [] ms z h k e = (ms, refl, e, k)
text_front laws (l ∷ ls) [] z h k e = absurd (no_line [] (said_bytes l) (said_text ls ++ z) tt (sym e ∙ append_assoc (said_bytes l) (10 ∷ said_text ls) z))
text_front laws (l ∷ ls) (m ∷ ms) z h k e =
    let both = first_lines (said_bytes l) (said_bytes m) (said_text ls ++ z) (said_text ms) (no_end _ (line_printable laws l h.0)) (no_end _ (line_printable laws m k.0))
    (sym (append_assoc (said_bytes l) (10 ∷ said_text ls) z) ∙ e) in
    let more = text_front laws ls ms z h.1 k.1 both.1 in
    (more.0, ap (λ n. n ∷ ms) (sym (one_line laws l m h.0 k.0 both.0)) ∙ ap (λ n. l ∷ n) more.1, more.2, more.3)

-- so two lists of lines with one text are one
pub one_text : LineLaws → (ls ms : List Said) → AreSayings ls → AreSayings ms → said_text ls ≡ said_text ms → ls ≡ ms
one_text laws ls ms h k e =
    let front = text_front laws ls ms [] h k (append-nil (said_text ls) ∙ e) in
    sym (front.1 ∙ ap (λ z. ls ++ z) (none front.0 front.2) ∙ append-nil ls)
  where
    none : (rest : List Said) → [] ≡ said_text rest → rest ≡ []
    none [] e = refl
    none (said ∷ rest) e = absurd (no_line [] (said_bytes said) (said_text rest) tt e)
