-- What is read of the lines of a text.
use Rattle.std.specs.Prelude.{◌≡◌, ◌≢◌, refl, ℕ, zero, suc, ◌+◌, ◌*◌, Bool, true, false, if◌then◌else◌, List, [], ◌∷◌, ◌++◌, replicate, codes}
use Rattle.std.proofs.Common.{ap, sym, ◌∙◌, append_assoc, add-one, arith, subst}
use Rattle.std.proofs.Math.Bool.{false≢true, true≢false}
use Rattle.std.proofs.lemmas.List.{append_cancel_left, replicate-append-replicate}
use Rattle.plcs_grammar.specs.declared.node_kind.NodeKind.{NodeKind}
use Rattle.plcs_grammar.specs.declared.template.Template.{Template}
use Rattle.plcs_grammar.specs.Template.{PlainSegment, row_of}
use Rattle.file_store.specs.Private.LineLaws.{LineLaws}
use Rattle.file_store.specs.Private.LineReading.{AreNoSegments, OfEach, Says, SaysNothing, blank_bytes, from_byte, may_begin, shapes}
use Rattle.file_store.specs.Private.Reader.{shape, Said, Saying, IsSaying, text_of}
use Rattle.file_store.proofs.PartTexts.{other_first, other_words}
use Rattle.file_store.proofs.Texts.{Begun, first_of_text, more_blanks, saying_begun}

-- blanks tell the text behind them, whatever stands there
level_tells : (a b : ℕ) (x y : List ℕ) → Begun x → ((rest : List ℕ) → y ≢ 32 ∷ (32 ∷ rest)) → blank_bytes a ++ x ≡ blank_bytes b ++ y → (a ≡ b) × (x ≡ y)
level_tells zero zero x y h k e = (refl, e)
level_tells zero (suc b) x y h k e = absurd (go x h (e ∙ ap (λ z. z ++ y) (more_blanks b)))
  where
    go : (x : List ℕ) → Begun x → x ≡ (32 ∷ (32 ∷ blank_bytes b)) ++ y → ⊥
    go [] h e = h
    go (byte ∷ x) h e = h (ap (first_of_text 32) e)
level_tells (suc a) zero x y h k e = absurd (k (blank_bytes a ++ x) (sym e ∙ ap (λ z. z ++ x) (more_blanks a)))
level_tells (suc a) (suc b) x y h k e =
    let below = level_tells a b x y h k (append_cancel_left (32 ∷ (32 ∷ [])) _ _ (sym (ap (λ z. z ++ x) (more_blanks a)) ∙ e ∙ ap (λ z. z ++ y) (more_blanks b))) in
    (ap suc below.0, below.1)

pub says_nothing : LineLaws → (level : ℕ) (line text : List ℕ) → line ≡ blank_bytes level ++ text → ((rest : List ℕ) → text ≢ 32 ∷ (32 ∷ rest))
    → ((saying : Saying) → IsSaying saying → text_of saying ≢ text) → SaysNothing line
says_nothing laws level line text is all none said h e =
    none said.saying h (level_tells said.level level (text_of said.saying) text (saying_begun laws said.saying h) all (e ∙ is)).1

pub says : (line text : List ℕ) (said : Said) → line ≡ blank_bytes said.level ++ text → IsSaying said.saying × (text_of said.saying ≡ text) → Says line said
says line text said is h = (h.0, ap (λ z. blank_bytes said.level ++ z) h.1 ∙ sym is)

-- two blanks more
pub next_level : (level : ℕ) (line rest more : List ℕ) → line ≡ blank_bytes level ++ rest → rest ≡ 32 ∷ (32 ∷ more) → line ≡ blank_bytes (level + 1) ++ more
next_level level line rest more is two =
    is ∙ ap (λ z. blank_bytes level ++ z) two ∙ sym (append_assoc (blank_bytes level) (32 ∷ (32 ∷ [])) more)
    ∙ ap (λ z. z ++ more) (blanks_behind level ∙ sym (ap blank_bytes (add-one level)))
  where
    blanks_behind : (level : ℕ) → blank_bytes level ++ (32 ∷ (32 ∷ [])) ≡ blank_bytes (suc level)
    blanks_behind level = replicate-append-replicate (2 * level) 2 32 ∙ ap (λ k. replicate k 32) (omega arith)

-- each shape is among those that are tried
pub each_shape : (P : NodeKind → Type 0) → OfEach P shapes → (kind : NodeKind) → shape kind ≡ kind → P kind
each_shape P h NodeKind.StatementHole e = h.0
each_shape P h NodeKind.DeclarationHole e = h.1.0
each_shape P h NodeKind.ProcedureHole e = h.1.1.0
each_shape P h NodeKind.Main e = h.1.1.1.0
each_shape P h (NodeKind.Filled Template.IfElse) e = h.1.1.1.1.0
each_shape P h (NodeKind.Filled Template.While) e = h.1.1.1.1.1.0
each_shape P h (NodeKind.Filled Template.Group) e = h.1.1.1.1.1.1.0
each_shape P h (NodeKind.Filled Template.Until) e = h.1.1.1.1.1.1.1.0
each_shape P h (NodeKind.Filled Template.For) e = h.1.1.1.1.1.1.1.1.0
each_shape P h (NodeKind.Filled Template.Get) e = h.1.1.1.1.1.1.1.1.1.0
each_shape P h (NodeKind.Filled Template.Put) e = h.1.1.1.1.1.1.1.1.1.1.0
each_shape P h (NodeKind.Filled Template.PutSkip) e = h.1.1.1.1.1.1.1.1.1.1.1.0
each_shape P h (NodeKind.Filled Template.Call) e = h.1.1.1.1.1.1.1.1.1.1.1.1.0
each_shape P h (NodeKind.Filled Template.Return) e = h.1.1.1.1.1.1.1.1.1.1.1.1.1.0
each_shape P h (NodeKind.Filled Template.Comment) e = h.1.1.1.1.1.1.1.1.1.1.1.1.1.1.0
each_shape P h (NodeKind.Filled Template.Fixed) e = h.1.1.1.1.1.1.1.1.1.1.1.1.1.1.1.0
each_shape P h (NodeKind.Filled Template.Bit) e = h.1.1.1.1.1.1.1.1.1.1.1.1.1.1.1.1.0
each_shape P h (NodeKind.Filled Template.Char) e = h.1.1.1.1.1.1.1.1.1.1.1.1.1.1.1.1.1.0
each_shape P h NodeKind.Assign e = h.1.1.1.1.1.1.1.1.1.1.1.1.1.1.1.1.1.1.0
each_shape P h (NodeKind.Filled Template.ProcP) e = h.1.1.1.1.1.1.1.1.1.1.1.1.1.1.1.1.1.1.1.0
each_shape P h (NodeKind.Filled Template.Proc) e = h.1.1.1.1.1.1.1.1.1.1.1.1.1.1.1.1.1.1.1.1.0
each_shape P h (NodeKind.Filled Template.If) e = absurd (false≢true (ap is_if e))
  where
    is_if : NodeKind → Bool
    is_if (NodeKind.Filled Template.If) = true
    is_if kind = false

pub shapes_are : OfEach (λ kind. shape kind ≡ kind) shapes
shapes_are = (refl, (refl, (refl, (refl, (refl, (refl, (refl, (refl, (refl, (refl, (refl, (refl, (refl, (refl, (refl, (refl, (refl, (refl, (refl, (refl, (refl, tt)))))))))))))))))))))

-- a line whose segments can't begin with its first byte isn't read as them
not_begun : (byte : ℕ) (rest : List ℕ) (segments : List PlainSegment) → may_begin byte segments ≡ false → AreNoSegments segments (byte ∷ rest)
not_begun byte rest (PlainSegment.words (first ∷ w) ∷ later) differ =
    other_words (first ∷ w) (byte ∷ rest) later (other_first byte first (byte ∷ rest) (first ∷ w) rest w refl refl differ)
not_begun byte rest (PlainSegment.words [] ∷ later) differ = absurd (true≢false differ)
not_begun byte rest (PlainSegment.part category ∷ later) differ = absurd (true≢false differ)
not_begun byte rest [] differ = absurd (true≢false differ)

-- a line that is read as none of the kinds that may begin with its first byte is read as none of all
each_from : (byte : ℕ) (rest : List ℕ) (kinds : List NodeKind)
    → OfEach (λ kind. AreNoSegments (row_of kind).line (byte ∷ rest)) (from_byte byte kinds)
    → OfEach (λ kind. AreNoSegments (row_of kind).line (byte ∷ rest)) kinds
each_from byte rest [] none = tt
each_from byte rest (kind ∷ kinds) none = go (λ h. each_from byte rest kinds h) (may_begin byte (row_of kind).line) refl none
  where
    go : (OfEach (λ kind. AreNoSegments (row_of kind).line (byte ∷ rest)) (from_byte byte kinds)
        → OfEach (λ kind. AreNoSegments (row_of kind).line (byte ∷ rest)) kinds)
        → (b : Bool) → may_begin byte (row_of kind).line ≡ b
        → OfEach (λ kind. AreNoSegments (row_of kind).line (byte ∷ rest)) (if b then kind ∷ from_byte byte kinds else from_byte byte kinds)
        → OfEach (λ kind. AreNoSegments (row_of kind).line (byte ∷ rest)) (kind ∷ kinds)
    go later true e h = (h.0, later h.1)
    go later false e h = (not_begun byte rest (row_of kind).line e, later h)

-- what is so of each kind is so of each that may begin with a byte
each_kept : (P : NodeKind → Type 0) (byte : ℕ) (kinds : List NodeKind) → OfEach P kinds → OfEach P (from_byte byte kinds)
each_kept P byte [] h = tt
each_kept P byte (kind ∷ kinds) h = go (each_kept P byte kinds h.1) (may_begin byte (row_of kind).line)
  where
    go : OfEach P (from_byte byte kinds) → (b : Bool) → OfEach P (if b then kind ∷ from_byte byte kinds else from_byte byte kinds)
    go later true = (h.0, later)
    go later false = later

-- the kinds that may begin with the first byte of a line are shapes
pub shapes_kept : (byte : ℕ) (found : List NodeKind) → found ≡ from_byte byte shapes → OfEach (λ kind. shape kind ≡ kind) found
shapes_kept byte found is = subst (OfEach (λ kind. shape kind ≡ kind)) (sym is) (each_kept (λ kind. shape kind ≡ kind) byte shapes shapes_are)

-- a line that is read as none of the kinds that may begin with its first byte is read as no shape
pub none_from : (byte : ℕ) (rest text : List ℕ) (found : List NodeKind) → text ≡ byte ∷ rest → found ≡ from_byte byte shapes
    → OfEach (λ kind. AreNoSegments (row_of kind).line text) found
    → (kind : NodeKind) → shape kind ≡ kind → AreNoSegments (row_of kind).line text
none_from byte rest text found begins is =
    subst (λ x. OfEach (λ kind. AreNoSegments (row_of kind).line x) found → (kind : NodeKind) → shape kind ≡ kind → AreNoSegments (row_of kind).line x)
    (sym begins)
    (λ none. each_shape (λ kind. AreNoSegments (row_of kind).line (byte ∷ rest))
    (each_from byte rest shapes (subst (OfEach (λ kind. AreNoSegments (row_of kind).line (byte ∷ rest))) is none)))

pub no_saying : (text : List ℕ) → text ≢ codes "ELSE" → text ≢ codes "END;"
    → ((kind : NodeKind) → shape kind ≡ kind → AreNoSegments (row_of kind).line text)
    → (saying : Saying) → IsSaying saying → text_of saying ≢ text
no_saying text lead last none (Saying.head kind parts) h e = none kind h.0 parts h.1 e
no_saying text lead last none (Saying.lead own) h e = lead (sym e ∙ h)
no_saying text lead last none (Saying.last own) h e = last (sym e ∙ h)
