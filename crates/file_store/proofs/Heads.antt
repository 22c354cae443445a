-- A line says one thing alone.
use Rattle.std.specs.Prelude.{◌≡◌, ◌≢◌, refl, ℕ, Bool, true, false, ◌==◌, if◌then◌else◌, List, [], ◌∷◌, ◌++◌, drop, reverse, codes, Option, Some, None}
use Rattle.std.proofs.Common.{ap, sym, ◌∙◌, append_assoc, arith, inl, inr, subst}
use Rattle.std.proofs.Math.Bool.{false≢true, true≢false}
use Rattle.std.proofs.lemmas.List.{append_cancel_left, append_cancel_right, reverse-append}
use Rattle.plcs_base.specs.Byte.{is_name_byte}
use Rattle.plcs_base.specs.Name.{is_keyword}
use Rattle.plcs_grammar.specs.declared.category.Category.{Category}
use Rattle.plcs_grammar.specs.declared.node_kind.NodeKind.{NodeKind}
use Rattle.plcs_grammar.specs.declared.template.Template.{Template}
use Rattle.plcs_grammar.specs.PlainPhrase.{PlainPhrase}
use Rattle.plcs_grammar.specs.Template.{PlainSegment, row_of}
use Rattle.plcs_grammar.specs.Token.{EndsWord}
use Rattle.phrase_parser.specs.LineParts.{Divides, cut_at, with_front}
use Rattle.phrase_parser.specs.LineParts.{IsPartOfLine as IsLinePart}
use Rattle.template_tree.specs.Listings.Line.{part_text, segments_text}
use Rattle.template_tree.specs.Programs.Program.{AreParts, IsPart, parts_of}
use Rattle.file_store.specs.Private.LineLaws.{LineLaws}
use Rattle.file_store.specs.Private.LineReading.{IsCut}
use Rattle.file_store.specs.Private.Reader.{shape, Saying, text_of, IsSaying}

-- ---- words

abbrev word : List ℕ → List ℕ
word [] = []
word (byte ∷ rest) = if is_name_byte byte then byte ∷ word rest else []

abbrev behind_word : List ℕ → List ℕ
behind_word [] = []
behind_word (byte ∷ rest) = if is_name_byte byte then behind_word rest else byte ∷ rest

word_split : (x : List ℕ) → x ≡ word x ++ behind_word x
word_split [] = refl
word_split (byte ∷ rest) = go (is_name_byte byte) (word_split rest)
  where
    go : (b : Bool) → rest ≡ word rest ++ behind_word rest
        → byte ∷ rest ≡ (if b then byte ∷ word rest else []) ++ (if b then behind_word rest else byte ∷ rest)
    go true e = ap (λ z. byte ∷ z) e
    go false e = refl

word_ends : (x : List ℕ) → EndsWord (behind_word x)
word_ends [] = refl
word_ends (byte ∷ rest) = go (is_name_byte byte) refl (word_ends rest)
  where
    go : (b : Bool) → is_name_byte byte ≡ b → EndsWord (behind_word rest) → EndsWord (if b then behind_word rest else byte ∷ rest)
    go true e h = h
    go false e h = rw e refl

-- ---- parts

pub line_part : (category : Category) (part : Option PlainPhrase) → IsPart category part → IsLinePart category (part_text category part)
line_part category None h = inr refl
line_part category (Some phrase) h = inl (phrase, h.well_formed, refl)

-- no keyword stands where a part begins
no_word : LineLaws → (category : Category) (x behind : List ℕ) → category ≢ Category.CommentText → IsLinePart category x → EndsWord behind
    → is_keyword (word (x ++ behind)) ≡ false
no_word laws category x behind other is ends = go (is_keyword (word (x ++ behind))) refl
  where
    go : (b : Bool) → is_keyword (word (x ++ behind)) ≡ b → b ≡ false
    go true e =
        absurd
        (laws.no_keyword category x behind other is ends
        record { word = word (x ++ behind); behind = behind_word (x ++ behind); whole = word_split (x ++ behind); keyword = e; ends = word_ends (x ++ behind) })
    go false e = refl

pub one_part : LineLaws → (category : Category) (p q : Option PlainPhrase) → IsPart category p → IsPart category q
    → part_text category p ≡ part_text category q → p ≡ q
one_part laws category None None h k e = refl
one_part laws category None (Some phrase) h k e = absurd ((laws.shows category phrase k.well_formed).no_placeholder (sym e))
one_part laws category (Some phrase) None h k e = absurd ((laws.shows category phrase h.well_formed).no_placeholder e)
one_part laws category (Some p) (Some q) h k e = ap (λ z. Some z) (laws.tells category _ _ p q h.well_formed k.well_formed e)

pub row_cut : (kind : NodeKind) → IsCut (row_of kind).line
row_cut (NodeKind.Filled Template.Char) = (Divides.character, tt)
row_cut (NodeKind.Filled Template.For) = (Divides.first_value, (Divides.limit, (Divides.step, tt)))
row_cut (NodeKind.Filled Template.ProcP) = (Divides.parameters, tt)
row_cut (NodeKind.Filled template) = tt
row_cut kind = tt

segments_tell : LineLaws → (segments : List PlainSegment) (ps qs : List (Option PlainPhrase)) → IsCut segments
    → AreParts (parts_of segments) ps → AreParts (parts_of segments) qs → segments_text segments ps ≡ segments_text segments qs → ps ≡ qs
segments_tell laws [] [] [] cut h k e = refl
segments_tell laws [] [] (q ∷ qs) cut h k e = absurd k
segments_tell laws [] (p ∷ ps) qs cut h k e = absurd h
segments_tell laws (PlainSegment.words w ∷ segments) ps qs cut h k e =
    segments_tell laws segments ps qs cut h k (append_cancel_left w _ _ e)
segments_tell laws (PlainSegment.part category ∷ segments) [] qs cut h k e = absurd h
segments_tell laws (PlainSegment.part category ∷ segments) (p ∷ ps) [] cut h k e = absurd k
segments_tell laws (PlainSegment.part category ∷ []) (p ∷ ps) (q ∷ qs) cut h k e = absurd cut
segments_tell laws (PlainSegment.part category ∷ (PlainSegment.part other ∷ segments)) (p ∷ ps) (q ∷ qs) cut h k e = absurd cut
segments_tell laws (PlainSegment.part category ∷ (PlainSegment.words w ∷ [])) (p ∷ ps) (q ∷ qs) cut h k e =
    let same = append_cancel_right (part_text category p) (part_text category q) (w ++ []) e in
    let first : p ≡ q = one_part laws category p q h.0 k.0 same in
    ap (λ z. z ∷ ps) first ∙ ap (λ z. q ∷ z) (segments_tell laws [] ps qs tt h.1 k.1 refl)
segments_tell laws (PlainSegment.part category ∷ (PlainSegment.words w ∷ (segment ∷ segments))) (p ∷ ps) (q ∷ qs) cut h k e =
    let both = laws.parts_tell category w _ _ _ _ cut.0 (line_part category p h.0) (line_part category q k.0) e in
    ap (λ z. z ∷ ps) (one_part laws category p q h.0 k.0 both.0)
    ∙ ap (λ z. q ∷ z) (segments_tell laws (segment ∷ segments) ps qs cut.1 h.1 k.1 both.1)

-- ---- which line it is

data Class : Type 0 where
  kind_class : NodeKind → Class
  lead_class : Class
  last_class : Class

abbrev starts : List ℕ → List ℕ → Bool
starts x [] = true
starts [] (b ∷ w) = false
starts (a ∷ x) (b ∷ w) = if a == b then starts x w else false

abbrev template_class : Template → Class
template_class template = Class.kind_class (NodeKind.Filled template)

-- a declaration, told by its end
abbrev declared_class : List ℕ → Class
declared_class [] = Class.lead_class
declared_class (a ∷ []) = Class.lead_class
declared_class (a ∷ (b ∷ rest)) =
    if b == 68 then template_class Template.Fixed else (if b == 84 then template_class Template.Bit else template_class Template.Char)

-- a loop that tests a condition, told by the word behind its first
abbrev tested_class : List ℕ → Class
tested_class x = if starts x (codes "UNTIL") then template_class Template.Until else template_class Template.While

abbrev keyword_class : List ℕ → Class
keyword_class x =
    if starts x (codes "DECLARE") then declared_class (reverse x)
    else (if starts x (codes "IF") then template_class Template.IfElse
    else (if starts x (codes "DO;") then template_class Template.Group
    else (if starts x (codes "DO") then (if is_keyword (word (drop 3 x)) then tested_class (drop 3 x) else template_class Template.For)
    else (if starts x (codes "GET") then template_class Template.Get
    else (if starts x (codes "PUT LIST") then template_class Template.Put
    else (if starts x (codes "PUT") then template_class Template.PutSkip
    else (if starts x (codes "CALL") then template_class Template.Call
    else (if starts x (codes "RETURN") then template_class Template.Return
    else (if starts x (codes "ELSE") then Class.lead_class else Class.last_class)))))))))

abbrev first_byte : List ℕ → ℕ
first_byte [] = 0
first_byte (byte ∷ rest) = byte

abbrev colon_class : Option (List ℕ × List ℕ) → Class
colon_class None = Class.kind_class NodeKind.Assign
colon_class (Some parts) =
    if starts parts.1 (codes " PROCEDURE;") then template_class Template.Proc
    else (if starts parts.1 (codes " PROCEDURE (") then template_class Template.ProcP else Class.kind_class NodeKind.Main)

abbrev hole_class : List ℕ → Class
hole_class x =
    if starts x (codes "{d") then Class.kind_class NodeKind.DeclarationHole
    else (if starts x (codes "{s") then Class.kind_class NodeKind.StatementHole else Class.kind_class NodeKind.ProcedureHole)

abbrev other_class : ℕ → List ℕ → Class
other_class last x =
    if last == 47 then template_class Template.Comment
    else (if last == 125 then hole_class x else colon_class (cut_at (codes ":") x))

abbrev class : List ℕ → Class
class x = if is_keyword (word x) then keyword_class x else other_class (first_byte (reverse x)) x

-- ---- each line is of its class

not_comment : (category : Category) → (is : Category → Bool) → is category ≡ true → is Category.CommentText ≡ false → category ≢ Category.CommentText
not_comment category is own other e = true≢false (sym own ∙ ap is e ∙ other)

abbrev is_part_named : Category → Bool
is_part_named Category.CommentText = false
is_part_named category = true

-- a line that begins with a part
named : LineLaws → (category : Category) (x behind : List ℕ) → category ≢ Category.CommentText → IsLinePart category x → EndsWord behind
    → (own : Class) → (first_byte (reverse (x ++ behind)) == 47) ≡ false → (first_byte (reverse (x ++ behind)) == 125) ≡ false
    → colon_class (with_front x (cut_at (codes ":") behind)) ≡ own → class (x ++ behind) ≡ own
named laws category x behind other is ends own one two colon =
    rw (no_word laws category x behind other is ends, one, two, laws.no_colon category x behind other is ends) colon

-- the end of a line
ends_so : (front x last : List ℕ) → reverse (front ++ (x ++ last)) ≡ reverse last ++ (reverse x ++ reverse front)
ends_so front x last =
    reverse-append front (x ++ last) ∙ ap (λ z. z ++ reverse front) (reverse-append x last)
    ∙ append_assoc (reverse last) (reverse x) (reverse front)

abbrev is_semicolon_behind : (x last : List ℕ) → Type 0
is_semicolon_behind x last = first_byte (reverse (x ++ last)) ≡ first_byte (reverse last ++ reverse x)

last_byte : (x last : List ℕ) → is_semicolon_behind x last
last_byte x last = ap first_byte (reverse-append x last)

-- the class of a head
head_class : LineLaws → (kind : NodeKind) (parts : List (Option PlainPhrase)) → shape kind ≡ kind → AreParts (parts_of (row_of kind).line) parts
    → class (segments_text (row_of kind).line parts) ≡ Class.kind_class kind
unfolding is_keyword
head_class laws NodeKind.Main parts same h = refl
head_class laws NodeKind.DeclarationHole parts same h = refl
head_class laws NodeKind.StatementHole parts same h = refl
head_class laws NodeKind.ProcedureHole parts same h = refl
head_class laws NodeKind.Assign [] same h = absurd h
head_class laws NodeKind.Assign (part ∷ parts) same h =
    let x = part_text Category.Assignment part in
    named laws Category.Assignment x (codes ";") (not_comment Category.Assignment is_part_named refl refl) (line_part Category.Assignment part h.0) refl _
    (rw (last_byte x (codes ";")) refl) (rw (last_byte x (codes ";")) refl) refl
head_class laws (NodeKind.Filled Template.Fixed) [] same h = absurd h
head_class laws (NodeKind.Filled Template.Fixed) (part ∷ parts) same h =
    ap declared_class (ends_so (codes "DECLARE ( ") (part_text Category.DeclaredList part) (codes " ) FIXED;"))
head_class laws (NodeKind.Filled Template.Bit) [] same h = absurd h
head_class laws (NodeKind.Filled Template.Bit) (part ∷ parts) same h =
    ap declared_class (ends_so (codes "DECLARE ( ") (part_text Category.DeclaredList part) (codes " ) BIT;"))
head_class laws (NodeKind.Filled Template.Char) [] same h = absurd h
head_class laws (NodeKind.Filled Template.Char) (part ∷ []) same h = absurd h.1
head_class laws (NodeKind.Filled Template.Char) (part ∷ (other ∷ parts)) same h =
    let x = part_text Category.DeclaredList part in
    let y = part_text Category.Length other in
    ap (λ z. declared_class (reverse (codes "DECLARE ( " ++ z)))
    (sym (append_assoc x (codes " ) CHARACTER ( " ++ y) (codes " ) VARYING;")))
    ∙ ap declared_class (ends_so (codes "DECLARE ( ") (x ++ (codes " ) CHARACTER ( " ++ y)) (codes " ) VARYING;"))
head_class laws (NodeKind.Filled Template.If) parts same h = absurd (go same)
  where
    is_if : NodeKind → Bool
    is_if (NodeKind.Filled Template.If) = true
    is_if kind = false

    go : NodeKind.Filled Template.IfElse ≡ NodeKind.Filled Template.If → ⊥
    go e = false≢true (ap is_if e)
head_class laws (NodeKind.Filled Template.IfElse) parts same h = refl
head_class laws (NodeKind.Filled Template.While) parts same h = refl
head_class laws (NodeKind.Filled Template.For) [] same h = absurd h
head_class laws (NodeKind.Filled Template.For) (part ∷ parts) same h =
    rw (no_word laws Category.Variable (part_text Category.Variable part) _ (not_comment Category.Variable is_part_named refl refl) (line_part Category.Variable part h.0) refl) refl
head_class laws (NodeKind.Filled Template.Until) parts same h = refl
head_class laws (NodeKind.Filled Template.Group) parts same h = refl
head_class laws (NodeKind.Filled Template.Get) parts same h = refl
head_class laws (NodeKind.Filled Template.Put) parts same h = refl
head_class laws (NodeKind.Filled Template.PutSkip) parts same h = refl
head_class laws (NodeKind.Filled Template.Call) parts same h = refl
head_class laws (NodeKind.Filled Template.Return) parts same h = refl
head_class laws (NodeKind.Filled Template.Comment) [] same h = absurd h
head_class laws (NodeKind.Filled Template.Comment) (part ∷ parts) same h =
    ap (λ z. other_class (first_byte z) (codes "/* " ++ (part_text Category.CommentText part ++ codes " */"))) (ends_so (codes "/* ") (part_text Category.CommentText part) (codes " */"))
head_class laws (NodeKind.Filled Template.Proc) [] same h = absurd h
head_class laws (NodeKind.Filled Template.Proc) (part ∷ parts) same h =
    let x = part_text Category.ProcedureName part in
    named laws Category.ProcedureName x (codes ": PROCEDURE;") (not_comment Category.ProcedureName is_part_named refl refl) (line_part Category.ProcedureName part h.0) refl _
    (rw (last_byte x (codes ": PROCEDURE;")) refl) (rw (last_byte x (codes ": PROCEDURE;")) refl) refl
head_class laws (NodeKind.Filled Template.ProcP) [] same h = absurd h
head_class laws (NodeKind.Filled Template.ProcP) (part ∷ []) same h = absurd h.1
head_class laws (NodeKind.Filled Template.ProcP) (part ∷ (other ∷ parts)) same h =
    let x = part_text Category.ProcedureName part in
    let y = part_text Category.NameList other in
    let behind = codes ": PROCEDURE ( " ++ (y ++ codes " );") in
    let end : reverse (x ++ behind) ≡ reverse (codes " );") ++ (reverse (codes ": PROCEDURE ( " ++ y) ++ reverse x) =
    ap (λ z. reverse (x ++ z)) (sym (append_assoc (codes ": PROCEDURE ( ") y (codes " );"))) ∙ ends_so x (codes ": PROCEDURE ( " ++ y) (codes " );") in
    named laws Category.ProcedureName x behind (not_comment Category.ProcedureName is_part_named refl refl) (line_part Category.ProcedureName part h.0) refl _
    (rw end refl) (rw end refl) refl

abbrev class_of : Saying → Class
class_of (Saying.head kind parts) = Class.kind_class kind
class_of (Saying.lead text) = Class.lead_class
class_of (Saying.last text) = Class.last_class

saying_class : LineLaws → (x : Saying) → IsSaying x → class (text_of x) ≡ class_of x
unfolding is_keyword
saying_class laws (Saying.head kind parts) h = head_class laws kind parts h.0 h.1
saying_class laws (Saying.lead text) h = rw h refl
saying_class laws (Saying.last text) h = rw h refl

abbrev class_kind : Class → NodeKind
class_kind (Class.kind_class kind) = kind
class_kind other = NodeKind.Main

abbrev class_number : Class → ℕ
class_number (Class.kind_class kind) = 0
class_number Class.lead_class = 1
class_number Class.last_class = 2

-- a text says one thing alone
pub one_saying : LineLaws → (x y : Saying) → IsSaying x → IsSaying y → text_of x ≡ text_of y → x ≡ y
one_saying laws x y h k e = go x y h k e (sym (saying_class laws x h) ∙ ap class e ∙ saying_class laws y k)
  where
    by_kind : (a b : NodeKind) (ps qs : List (Option PlainPhrase)) → a ≡ b → AreParts (parts_of (row_of a).line) ps → AreParts (parts_of (row_of b).line) qs
        → segments_text (row_of a).line ps ≡ segments_text (row_of b).line qs → Saying.head a ps ≡ Saying.head b qs
    by_kind a b ps qs same h k e =
        subst (λ z. AreParts (parts_of (row_of z).line) qs → segments_text (row_of a).line ps ≡ segments_text (row_of z).line qs → Saying.head a ps ≡ Saying.head z qs) same
        (λ k e. ap (λ z. Saying.head a z) (segments_tell laws (row_of a).line ps qs (row_cut a) h k e)) k e

    go : (x y : Saying) → IsSaying x → IsSaying y → text_of x ≡ text_of y → class_of x ≡ class_of y → x ≡ y
    go (Saying.head a ps) (Saying.head b qs) h k e c = by_kind a b ps qs (ap class_kind c) h.1 k.1 e
    go (Saying.lead a) (Saying.lead b) h k e c = ap (λ z. Saying.lead z) e
    go (Saying.last a) (Saying.last b) h k e c = ap (λ z. Saying.last z) e
    go (Saying.head a ps) (Saying.lead b) h k e c = absurd (omega (arith, ap class_number c))
    go (Saying.head a ps) (Saying.last b) h k e c = absurd (omega (arith, ap class_number c))
    go (Saying.lead a) (Saying.head b qs) h k e c = absurd (omega (arith, ap class_number c))
    go (Saying.lead a) (Saying.last b) h k e c = absurd (omega (arith, ap class_number c))
    go (Saying.last a) (Saying.head b qs) h k e c = absurd (omega (arith, ap class_number c))
    go (Saying.last a) (Saying.lead b) h k e c = absurd (omega (arith, ap class_number c))
