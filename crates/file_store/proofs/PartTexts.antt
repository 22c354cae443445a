-- What is read of the parts of a line.
use Rattle.std.specs.Prelude.{◌≡◌, ◌≢◌, refl, ℕ, ◌<◌, ◌≤◌, Bool, true, false, ◌&&◌, if◌then◌else◌, ◌==◌, bytes_eq, List, [], ◌∷◌, ◌++◌, length, Option, Some, None, Result, Ok, Err}
use Rattle.std.specs.Bool.{Decides}
use Rattle.std.proofs.Common.{ap, sym, ◌∙◌, append_assoc, arith, subst}
use Rattle.std.proofs.Math.Bool.{false≢true}
use Rattle.std.proofs.lemmas.Bool.{and_parts, and_from, eq-eqb, eqb-true}
use Rattle.std.proofs.lemmas.List.{append-nil, append_cancel_left, append_cancel_right}
use Rattle.std.proofs.lemmas.Option.{none-some}
use Rattle.std.proofs.lemmas.Slice.Eq.{bytes_eq-Decides}
use Rattle.phrase_parser.specs.declared.not_read.NotRead.{NotRead}
use Rattle.plcs_base.specs.Put.{PutsAll, puts_nothing, puts_next}
use Rattle.plcs_grammar.specs.declared.category.Category.{Category}
use Rattle.plcs_grammar.specs.Canon.{Canon, IsWellFormed}
use Rattle.plcs_grammar.specs.Placeholder.{placeholder}
use Rattle.plcs_grammar.specs.PlainPhrase.{PlainPhrase}
use Rattle.plcs_grammar.specs.Reads.{Reads}
use Rattle.plcs_grammar.specs.Template.{PlainSegment}
use Rattle.phrase_parser.specs.LineParts.{Divides, cut_at}
use Rattle.template_tree.specs.Programs.Limit.{longest_phrase}
use Rattle.template_tree.specs.Listings.Line.{part_text, segments_text}
use Rattle.template_tree.specs.Programs.Program.{IsPart, may_be_empty}
use Rattle.file_store.specs.Private.Finds.{Finds, LacksUnless}
use Rattle.file_store.specs.Private.LineLaws.{LineLaws}
use Rattle.file_store.specs.Private.LineReading.{AreNoSegments, AreReadAfter, IsCut, IsFrontAfter, IsNoPart, IsPartAfter, IsPartText, IsSegmentsText, left_if, taken_off}
use Rattle.file_store.proofs.Fillings.{some_is}
use Rattle.file_store.proofs.Heads.{line_part}
use Rattle.file_store.proofs.Texts.{first_of_text}

-- what is found makes more
pub finds_too : {X : Type 0} (A : X → Type 0) (B : X → Type 0) (N M : Type 0) (r : Result X NotRead) → ((x : X) → A x → B x) → (N → M) → Finds A N r → Finds B M r
finds_too A B N M (Ok x) f g h = f x h
finds_too A B N M (Err NotRead.OutOfMemory) f g h = h
finds_too A B N M (Err NotRead.Refused) f g h = g h

pub fault_too : (N M : Type 0) (fault : NotRead) → (N → M) → LacksUnless fault N → LacksUnless fault M
fault_too N M NotRead.OutOfMemory g h = h
fault_too N M NotRead.Refused g h = g h

-- ---- comparing

abbrev pub all_off : List ℕ → Option (List ℕ) → Option (List ℕ)
all_off [] left = left
all_off (byte ∷ bytes) left = all_off bytes (taken_off byte left)

pub puts_off : {Out : Type 0} (seen : Out → Option (List ℕ)) {before after : Out} {bytes : List ℕ}
    → PutsAll (λ a b c. seen c ≡ taken_off b (seen a)) before bytes after → seen after ≡ all_off bytes (seen before)
puts_off seen puts_nothing = refl
puts_off seen (puts_next {bytes = bytes} h rest) = puts_off seen rest ∙ ap (all_off bytes) h

-- a byte that is put where it is the first of what is left, where another one is, and where nothing is left
pub first_off : (same : Bool) (byte first : ℕ) (left rest : List ℕ) → left ≡ first ∷ rest → (first == byte) ≡ true
    → left_if same rest ≡ taken_off byte (left_if same left)
first_off false byte first left rest is e = refl
first_off true byte first left rest is e =
    sym (ap (λ z. taken_off byte (Some z)) is ∙ ap (λ (b : Bool). if b then Some rest else None) e)

pub other_off : (same : Bool) (byte first : ℕ) (left rest : List ℕ) → left ≡ first ∷ rest → (first == byte) ≡ false
    → None ≡ taken_off byte (left_if same left)
other_off false byte first left rest is e = refl
other_off true byte first left rest is e =
    sym (ap (λ z. taken_off byte (Some z)) is ∙ ap (λ (b : Bool). if b then Some rest else None) e)

pub nothing_off : (same : Bool) (byte : ℕ) (left : List ℕ) → left ≡ [] → None ≡ taken_off byte (left_if same left)
nothing_off false byte left is = refl
nothing_off true byte left is = sym (ap (λ z. taken_off byte (Some z)) is)

off_none : (x : List ℕ) → all_off x None ≡ None
off_none [] = refl
off_none (byte ∷ x) = off_none x

off_is : (x text : List ℕ) → all_off x (Some text) ≡ Some [] → x ≡ text
off_is [] text e = sym (some_is e)
off_is (byte ∷ x) [] e = absurd (none-some [] (sym (off_none x) ∙ e))
off_is (byte ∷ x) (first ∷ text) e = go (λ h. off_is x text h) (first == byte) refl e
  where
    go : (all_off x (Some text) ≡ Some [] → x ≡ text) → (b : Bool) → (first == byte) ≡ b
        → all_off x (if b then Some text else None) ≡ Some [] → byte ∷ x ≡ first ∷ text
    go more true h e = ap (λ z. z ∷ x) (sym (eqb-true first byte h)) ∙ ap (λ z. first ∷ z) (more e)
    go more false h e = absurd (none-some [] (sym (off_none x) ∙ e))

off_all : (x : List ℕ) → all_off x (Some x) ≡ Some []
off_all [] = refl
off_all (byte ∷ x) = rw (eq-eqb byte byte refl) (off_all x)

pub shown_some : (canon text left : List ℕ) (b : Bool) → all_off canon (Some text) ≡ Some left → Decides b (left ≡ []) → Decides b (canon ≡ text)
shown_some canon text left b e d = (
  (λ h. off_is canon text (e ∙ ap (λ z. Some z) (d.0 h))),
  (λ h. d.1 (some_is (sym e ∙ ap (λ z. all_off z (Some text)) h ∙ off_all text))),
)

pub shown_none : (canon text : List ℕ) → all_off canon (Some text) ≡ None → Decides false (canon ≡ text)
shown_none canon text e =
    ((λ h. absurd (false≢true h)), (λ h. absurd (none-some [] (sym e ∙ ap (λ z. all_off z (Some text)) h ∙ off_all text))))

-- ---- a part

pub placeholder_part : (category : Category) (x : List ℕ) → (may_be_empty category && bytes_eq x (placeholder category)) ≡ true → IsPartText category x None
placeholder_part category x h =
    let both = and_parts (may_be_empty category) (bytes_eq x (placeholder category)) h in
    (both.0, sym ((bytes_eq-Decides x (placeholder category)).0 both.1))

no_placeholder : (category : Category) (x : List ℕ) → (may_be_empty category && bytes_eq x (placeholder category)) ≡ false
    → IsPart category None → part_text category None ≢ x
no_placeholder category x h k e =
    false≢true (sym h ∙ and_from (may_be_empty category) (bytes_eq x (placeholder category)) k ((bytes_eq-Decides x (placeholder category)).1 (sym e)))

pub too_long_part : (category : Category) (x : List ℕ) → (may_be_empty category && bytes_eq x (placeholder category)) ≡ false
    → longest_phrase < length x → IsNoPart category x
too_long_part category x h long None k = no_placeholder category x h k
too_long_part category x h long (Some phrase) k = λ e. omega (arith, k.short, ap length e, long)

pub unread_part : (category : Category) (x : List ℕ) → (may_be_empty category && bytes_eq x (placeholder category)) ≡ false
    → ((phrase : PlainPhrase) → Reads category x phrase → ⊥) → IsNoPart category x
unread_part category x h none None k = no_placeholder category x h k
unread_part category x h none (Some phrase) k = λ e. none phrase (subst (λ y. Reads category y phrase) e k.well_formed)

pub other_part : (category : Category) (x : List ℕ) (own : PlainPhrase) → (may_be_empty category && bytes_eq x (placeholder category)) ≡ false
    → ((phrase : PlainPhrase) → Reads category x phrase → own ≡ phrase) → (Canon own ≡ x → ⊥) → IsNoPart category x
other_part category x own h only other None k = no_placeholder category x h k
other_part category x own h only other (Some phrase) k =
    λ e. other (ap Canon (only phrase (subst (λ y. Reads category y phrase) e k.well_formed)) ∙ e)

pub own_part : (category : Category) (x : List ℕ) (phrase : PlainPhrase) → IsWellFormed category phrase → Canon phrase ≡ x → length x ≤ longest_phrase
    → IsPartText category x (Some phrase)
own_part category x phrase well same short = (record { well_formed = well; short = omega (arith, ap length same, short) }, same)

-- ---- the part at the front

-- a part is read at the front of a text for these segments: what is left for those that are left makes the whole, and
-- nothing else does
pub record IsLineFront (category : Category) (segments : List PlainSegment) (x : List ℕ) (part : Option PlainPhrase)
    (later : List PlainSegment) (rest : List ℕ) : Type 0 where
  pub whole : (parts : List (Option PlainPhrase)) → IsSegmentsText later rest parts →
      IsSegmentsText (PlainSegment.part category ∷ segments) x (part ∷ parts)
  pub only : AreNoSegments later rest → AreNoSegments (PlainSegment.part category ∷ segments) x
  pub cut : IsCut later
  pub fewer : length later ≤ length segments

last_front : (category : Category) (w x text : List ℕ) (part : Option PlainPhrase) (segments : List PlainSegment) → segments ≡ PlainSegment.words w ∷ []
    → x ≡ text ++ w → IsPartText category text part → IsLineFront category segments x part [] []
last_front category w x text part segments shape is h =
    subst (λ s. IsLineFront category s x part [] []) (sym shape)
    record {
      whole = λ parts k. ends parts k;
      only = λ none. absurd (none [] tt refl);
      cut = tt;
      fewer = omega arith;
    }
  where
    ends : (parts : List (Option PlainPhrase)) → IsSegmentsText [] [] parts
        → IsSegmentsText (PlainSegment.part category ∷ (PlainSegment.words w ∷ [])) x (part ∷ parts)
    ends [] k = ((h.0, tt), ap (λ z. z ++ (w ++ [])) h.1 ∙ ap (λ z. text ++ z) (append-nil w) ∙ sym is)
    ends (other ∷ parts) k = absurd k.0

pub no_last_front : (category : Category) (w x : List ℕ) (segments : List PlainSegment) → segments ≡ PlainSegment.words w ∷ []
    → ((front : List ℕ) → x ≢ front ++ w) → AreNoSegments (PlainSegment.part category ∷ segments) x
no_last_front category w x segments shape none = subst (λ s. AreNoSegments (PlainSegment.part category ∷ s) x) (sym shape) go
  where
    go : AreNoSegments (PlainSegment.part category ∷ (PlainSegment.words w ∷ [])) x
    go [] h e = h
    go (part ∷ parts) h e = none (part_text category part) (sym (sym (ap (λ z. part_text category part ++ z) (append-nil w)) ∙ e))

pub no_last_part : (category : Category) (w x text : List ℕ) (segments : List PlainSegment) → segments ≡ PlainSegment.words w ∷ []
    → x ≡ text ++ w → IsNoPart category text → AreNoSegments (PlainSegment.part category ∷ segments) x
no_last_part category w x text segments shape is none = subst (λ s. AreNoSegments (PlainSegment.part category ∷ s) x) (sym shape) go
  where
    go : AreNoSegments (PlainSegment.part category ∷ (PlainSegment.words w ∷ [])) x
    go [] h e = h
    go (part ∷ parts) h e =
        none part h.0 (append_cancel_right (part_text category part) text w (sym (ap (λ z. part_text category part ++ z) (append-nil w)) ∙ e ∙ is))

-- words that divide
divides : (category : Category) (w : List ℕ) (later : List PlainSegment) → (later ≡ [] → ⊥)
    → IsCut (PlainSegment.part category ∷ (PlainSegment.words w ∷ later)) → Divides category w × IsCut later
divides category w [] some h = absurd (some refl)
divides category w (segment ∷ later) some h = h

divided_front : LineLaws → (category : Category) (w x text rest : List ℕ) (part : Option PlainPhrase) (segments later : List PlainSegment)
    → segments ≡ PlainSegment.words w ∷ later → (later ≡ [] → ⊥) → IsCut (PlainSegment.part category ∷ segments)
    → cut_at w x ≡ Some (text, rest) → IsPartText category text part → IsLineFront category segments x part later rest
divided_front laws category w x text rest part segments later shape some cut is h =
    subst (λ s. IsLineFront category s x part later rest) (sym shape)
    record {
      whole = λ parts k. ((h.0, k.0), ap (λ z. z ++ (w ++ segments_text later parts)) h.1 ∙ ap (λ z. text ++ (w ++ z)) k.1 ∙ sym joined);
      only = λ none. go none;
      cut = both.1;
      fewer = omega arith;
    }
  where
    both : Divides category w × IsCut later
    both = divides category w later some (subst (λ s. IsCut (PlainSegment.part category ∷ s)) shape cut)

    joined : x ≡ text ++ (w ++ rest)
    joined = laws.joins w x text rest is

    go : AreNoSegments later rest → AreNoSegments (PlainSegment.part category ∷ (PlainSegment.words w ∷ later)) x
    go none [] k e = k
    go none (other ∷ parts) k e =
        none parts k.1
        (laws.parts_tell category w (part_text category other) (segments_text later parts) (part_text category part) rest
        (divides category w later some (subst (λ s. IsCut (PlainSegment.part category ∷ s)) shape cut)).0
        (line_part category other k.0) (line_part category part h.0)
        (e ∙ laws.joins w x text rest is ∙ ap (λ z. z ++ (w ++ rest)) (sym h.1))).1

pub undivided : LineLaws → (category : Category) (w x : List ℕ) (segments later : List PlainSegment)
    → segments ≡ PlainSegment.words w ∷ later → (later ≡ [] → ⊥) → IsCut (PlainSegment.part category ∷ segments)
    → cut_at w x ≡ None → AreNoSegments (PlainSegment.part category ∷ segments) x
undivided laws category w x segments later shape some cut none =
    subst (λ s. AreNoSegments (PlainSegment.part category ∷ s) x) (sym shape) go
  where
    go : AreNoSegments (PlainSegment.part category ∷ (PlainSegment.words w ∷ later)) x
    go [] h e = h
    go (part ∷ parts) h e =
        none-some _
        (sym none ∙ ap (cut_at w) (sym e)
        ∙ laws.part_ends category w (part_text category part) (segments_text later parts)
        (divides category w later some (subst (λ s. IsCut (PlainSegment.part category ∷ s)) shape cut)).0 (line_part category part h.0))

pub no_divided_part : LineLaws → (category : Category) (w x text rest : List ℕ) (segments later : List PlainSegment)
    → segments ≡ PlainSegment.words w ∷ later → (later ≡ [] → ⊥) → IsCut (PlainSegment.part category ∷ segments)
    → cut_at w x ≡ Some (text, rest) → IsNoPart category text → AreNoSegments (PlainSegment.part category ∷ segments) x
no_divided_part laws category w x text rest segments later shape some cut is none =
    subst (λ s. AreNoSegments (PlainSegment.part category ∷ s) x) (sym shape) go
  where
    go : AreNoSegments (PlainSegment.part category ∷ (PlainSegment.words w ∷ later)) x
    go [] h e = h
    go (part ∷ parts) h e =
        let found =
        laws.part_ends category w (part_text category part) (segments_text later parts)
        (divides category w later some (subst (λ s. IsCut (PlainSegment.part category ∷ s)) shape cut)).0 (line_part category part h.0) in
        none part h.0 (ap (λ (p : List ℕ × List ℕ). p.0) (some_is (sym found ∙ ap (cut_at w) e ∙ is)))

-- no words end the part
pub no_words : (category : Category) (x : List ℕ) (segments : List PlainSegment) → IsCut (PlainSegment.part category ∷ segments)
    → ((w : List ℕ) (later : List PlainSegment) → segments ≢ PlainSegment.words w ∷ later) → AreNoSegments (PlainSegment.part category ∷ segments) x
no_words category x [] cut none = absurd cut
no_words category x (PlainSegment.words w ∷ later) cut none = absurd (none w later refl)
no_words category x (PlainSegment.part other ∷ later) cut none = absurd cut

-- ---- segments

pub words_text : (w x rest : List ℕ) (segments : List PlainSegment) (parts : List (Option PlainPhrase)) → x ≡ w ++ rest
    → IsSegmentsText segments rest parts → IsSegmentsText (PlainSegment.words w ∷ segments) x parts
words_text w x rest segments parts is h = (h.0, ap (λ z. w ++ z) h.1 ∙ sym is)

pub no_words_text : (w x rest : List ℕ) (segments : List PlainSegment) → x ≡ w ++ rest → AreNoSegments segments rest
    → AreNoSegments (PlainSegment.words w ∷ segments) x
no_words_text w x rest segments is none parts h e = none parts h (append_cancel_left w (segments_text segments parts) rest (e ∙ is))

pub other_words : (w x : List ℕ) (segments : List PlainSegment) → ((rest : List ℕ) → x ≢ w ++ rest) → AreNoSegments (PlainSegment.words w ∷ segments) x
other_words w x segments none parts h e = none (segments_text segments parts) (sym e)

-- ---- all parts of a line

pub nothing_read : (segments : List PlainSegment) (x : List ℕ) (parts : List (Option PlainPhrase)) → segments ≡ [] → x ≡ []
    → AreReadAfter segments x parts parts
nothing_read segments x parts none is =
    subst (λ s. AreReadAfter s x parts parts) (sym none) ([], sym (append-nil parts), (tt, sym is))

pub no_nothing : (segments : List PlainSegment) (x : List ℕ) → segments ≡ [] → (x ≡ [] → ⊥) → AreNoSegments segments x
no_nothing segments x none some = subst (λ s. AreNoSegments s x) (sym none) (λ parts h e. some (sym e))

pub words_read : (w x rest : List ℕ) (segments later : List PlainSegment) (parts all : List (Option PlainPhrase))
    → segments ≡ PlainSegment.words w ∷ later → x ≡ w ++ rest → AreReadAfter later rest parts all → AreReadAfter segments x parts all
words_read w x rest segments later parts all shape is h =
    subst (λ s. AreReadAfter s x parts all) (sym shape) (h.0, h.1, words_text w x rest later h.0 is h.2)

part_read : (category : Category) (x rest : List ℕ) (part : Option PlainPhrase) (segments later : List PlainSegment) (parts next all : List (Option PlainPhrase))
    → IsLineFront category segments x part later rest → next ≡ parts ++ (part ∷ []) → AreReadAfter later rest next all
    → AreReadAfter (PlainSegment.part category ∷ segments) x parts all
part_read category x rest part segments later parts next all front pushed h =
    (part ∷ h.0, h.1 ∙ ap (λ z. z ++ h.0) pushed ∙ append_assoc parts (part ∷ []) h.0, front.whole h.0 h.2)

-- a part that is read at the front, behind others
front_after : (category : Category) (x rest : List ℕ) (part : Option PlainPhrase) (segments later : List PlainSegment) (parts next : List (Option PlainPhrase))
    → IsLineFront category segments x part later rest → next ≡ parts ++ (part ∷ []) → IsFrontAfter category segments x parts next later rest
front_after category x rest part segments later parts next front pushed =
    record {
      whole = λ all h. part_read category x rest part segments later parts next all front pushed h;
      only = front.only;
      cut = front.cut;
      fewer = front.fewer;
    }

pub part_pushed : (category : Category) (x : List ℕ) (part : Option PlainPhrase) (parts next : List (Option PlainPhrase)) → IsPartText category x part
    → next ≡ parts ++ (part ∷ []) → IsPartAfter category x parts next
part_pushed category x own parts next h is = record { part = own; pushed = is; read = h }

pub last_after : (category : Category) (w x text : List ℕ) (parts next : List (Option PlainPhrase)) (segments : List PlainSegment)
    → segments ≡ PlainSegment.words w ∷ [] → x ≡ text ++ w → IsPartAfter category text parts next → IsFrontAfter category segments x parts next [] []
last_after category w x text parts next segments shape is h =
    front_after category x [] h.part segments [] parts next (last_front category w x text h.part segments shape is h.read) h.pushed

pub divided_after : LineLaws → (category : Category) (w x text rest : List ℕ) (parts next : List (Option PlainPhrase)) (segments later : List PlainSegment)
    → segments ≡ PlainSegment.words w ∷ later → (later ≡ [] → ⊥) → IsCut (PlainSegment.part category ∷ segments)
    → cut_at w x ≡ Some (text, rest) → IsPartAfter category text parts next → IsFrontAfter category segments x parts next later rest
divided_after laws category w x text rest parts next segments later shape some cut is h =
    front_after category x rest h.part segments later parts next
    (divided_front laws category w x text rest h.part segments later shape some cut is h.read) h.pushed

pub front_read : (category : Category) (x rest : List ℕ) (segments behind later : List PlainSegment) (parts next all : List (Option PlainPhrase))
    → segments ≡ PlainSegment.part category ∷ behind → IsFrontAfter category behind x parts next later rest
    → AreReadAfter later rest next all → AreReadAfter segments x parts all
front_read category x rest segments behind later parts next all shape front h =
    subst (λ s. AreReadAfter s x parts all) (sym shape) (front.whole all h)

pub no_front_read : (category : Category) (x rest : List ℕ) (segments behind later : List PlainSegment) (parts next : List (Option PlainPhrase))
    → segments ≡ PlainSegment.part category ∷ behind → IsFrontAfter category behind x parts next later rest
    → AreNoSegments later rest → AreNoSegments segments x
no_front_read category x rest segments behind later parts next shape front none =
    subst (λ s. AreNoSegments s x) (sym shape) (front.only none)

pub no_words_read : (w x rest : List ℕ) (segments later : List PlainSegment) → segments ≡ PlainSegment.words w ∷ later → x ≡ w ++ rest
    → AreNoSegments later rest → AreNoSegments segments x
no_words_read w x rest segments later shape is none =
    subst (λ s. AreNoSegments s x) (sym shape) (no_words_text w x rest later is none)

pub read_whole : (segments : List PlainSegment) (x : List ℕ) (parts all : List (Option PlainPhrase)) → parts ≡ [] → AreReadAfter segments x parts all
    → IsSegmentsText segments x all
read_whole segments x parts all none h =
    subst (λ z. IsSegmentsText segments x z) (sym (h.1 ∙ ap (λ z. z ++ h.0) none)) h.2

-- a text with another first byte than the words doesn't begin with them
pub other_first : (byte first : ℕ) (text words later others : List ℕ) → text ≡ byte ∷ later → words ≡ first ∷ others
    → (byte == first) ≡ false → (rest : List ℕ) → text ≢ words ++ rest
other_first byte first text words later others is starts differ rest e =
    false≢true
    (sym differ ∙ eq-eqb byte first (ap (first_of_text byte) (sym is ∙ e ∙ ap (λ w. w ++ rest) starts)))
