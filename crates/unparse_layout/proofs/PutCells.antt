-- The cells of a line while they are put.
use Rattle.std.specs.Prelude.{Option, None, ◌≡◌, refl, ℕ, zero, suc, ◌+◌, ◌*◌, ◌<◌, ◌≤◌, Bool, false, codes, List, [], ◌∷◌, ◌++◌, length, map, flat_map, take, drop, replicate, get_or}
use Rattle.std.proofs.Common.{ap, sym, subst, ◌∙◌, arith, append_assoc, add-one}
use Rattle.std.proofs.Math.Seq.{drop-cons}
use Rattle.std.proofs.lemmas.List.{append-nil, replicate-append-replicate}
use Rattle.std.proofs.lemmas.List.Concat.{flat_map-cons}
use Rattle.plcs_base.specs.Put.{PutsAll, puts_nothing, puts_next}
use Rattle.plcs_base.specs.Mark.{MarkMap}
use Rattle.plcs_grammar.specs.declared.node_kind.NodeKind.{NodeKind}
use Rattle.plcs_grammar.specs.declared.row.Segment.{Segment}
use Rattle.plcs_grammar.specs.declared.template.Template.{Template}
use Rattle.plcs_grammar.specs.PlainPhrase.{PlainPhrase}
use Rattle.plcs_grammar.specs.Template.{PlainSegment, plain_segment, row_of}
use Rattle.unparse_layout.specs.declared.lay.CellsOut.{CellsOut}
use Rattle.unparse_layout.specs.declared.line.LineKind.{LineKind}
use Rattle.unparse_layout.specs.LaidLine.{PlainLine, screen_cell, laid_line, longest_line, stretch_cells}
use Rattle.unparse_layout.specs.OwnedLine.{next_after, partless_line, stretch_of, stretches_of}
use Rattle.unparse_layout.specs.Private.Cells.{HasMore, PutsAside, PutsCell}

-- the front of a list is all that its front tells
pub take_front : (n : ℕ) (xs ys : List ℕ) → take n (take n xs ++ ys) ≡ take n (xs ++ ys)
take_front zero xs ys = refl
take_front (suc n) [] ys = refl
take_front (suc n) (x ∷ xs) ys = ap (λ zs. x ∷ zs) (take_front n xs ys)

-- a list that is short is its front
pub take_whole : (n : ℕ) (xs : List ℕ) → length xs ≤ n → take n xs ≡ xs
take_whole zero [] short = refl
take_whole zero (x ∷ xs) short = absurd (omega (arith, short))
take_whole (suc n) [] short = refl
take_whole (suc n) (x ∷ xs) short = ap (λ zs. x ∷ zs) (take_whole n xs (omega (arith, short)))

-- behind a full list nothing more is seen
pub take_full : (n : ℕ) (xs ys : List ℕ) → n ≤ length xs → take n xs ≡ take n (xs ++ ys)
take_full zero xs ys full = refl
take_full (suc n) [] ys full = absurd (omega (arith, full))
take_full (suc n) (x ∷ xs) ys full = ap (λ zs. x ∷ zs) (take_full n xs ys (omega (arith, full)))

-- some cells and then some more
pub more_joined : (a b d xs ys : List ℕ) → HasMore a b xs → HasMore b d ys → HasMore a d (xs ++ ys)
more_joined a b d xs ys one two = record {
  cells =
      two.cells
      ∙ sym (take_front longest_line b ys)
      ∙ ap (λ zs. take longest_line (zs ++ ys)) one.cells
      ∙ take_front longest_line (a ++ xs) ys
      ∙ ap (take longest_line) (append_assoc a xs ys);
}

pub more_none : (a : List ℕ) → HasMore a a []
more_none a = record { cells = ap (take longest_line) (sym (append-nil a)) }

-- bytes that are put one after the other
pub record ArePut (before : CellsOut) (bytes : List ℕ) (after : CellsOut) : Type 0 where
  pub put : HasMore before.cells.items after.cells.items (map (screen_cell before.negative) bytes)
  pub image : after.negative ≡ before.negative
  pub short : length before.cells.items ≤ longest_line → length after.cells.items ≤ longest_line

pub all_put : {before after : CellsOut} {bytes : List ℕ} → PutsAll PutsCell before bytes after → ArePut before bytes after
all_put {before} (puts_nothing) = record { put = more_none before.cells.items; image = refl; short = λ h. h }
all_put {before} {after} (puts_next {between = between} {byte = byte} {bytes = bytes} one rest) =
    let more = all_put rest in
    record {
      put =
          more_joined before.cells.items between.cells.items after.cells.items (screen_cell before.negative byte ∷ []) (map (screen_cell before.negative) bytes) one.put
          (subst (λ b. HasMore between.cells.items after.cells.items (map (screen_cell b) bytes)) one.image more.put);
      image = more.image ∙ one.image;
      short = λ h. more.short one.short;
    }

-- in default image the cells are the bytes
pub plain_cells : (bytes : List ℕ) → map (screen_cell false) bytes ≡ bytes
plain_cells [] = refl
plain_cells (byte ∷ bytes) = ap (λ xs. byte ∷ xs) (plain_cells bytes)

-- two blanks more
pub two_more : (n : ℕ) → replicate (2 * n) 32 ++ codes "  " ≡ replicate (2 * (n + 1)) 32
two_more n = replicate-append-replicate (2 * n) 2 32 ∙ ap (λ k. replicate k 32) (omega arith)

-- cells that are put aside, and then some more
pub aside_joined : (a b d : CellsOut) (xs ys : List ℕ) → PutsAside a xs b → PutsAside b ys d → PutsAside a (xs ++ ys) d
aside_joined a b d xs ys one two = record {
  put = more_joined a.cells.items b.cells.items d.cells.items xs ys one.put two.put;
  plain = two.plain;
  short = two.short;
}

-- some of the stretches of a line are put, and these segments are left
pub record StretchesLeft (marks : MarkMap) (slot : ℕ) (parts : List (Option PlainPhrase)) (before : CellsOut) (whole : List PlainSegment) (now : CellsOut) (next : ℕ) (rest : List PlainSegment) : Type 0 where
  pub done : List ℕ
  pub put : PutsAside before done now
  pub all : done ++ flat_map (stretch_cells marks slot) (stretches_of next rest parts) ≡ flat_map (stretch_cells marks slot) (stretches_of 0 whole parts)

-- none at the beginning
pub stretches_none : (marks : MarkMap) (slot : ℕ) (parts : List (Option PlainPhrase)) (before : CellsOut) (whole now : List PlainSegment)
    → now ≡ whole → before.negative ≡ false → length before.cells.items ≤ longest_line
    → StretchesLeft marks slot parts before whole before 0 now
stretches_none marks slot parts before whole now same plain short = record {
  done = [];
  put = record { put = more_none before.cells.items; plain = plain; short = short };
  all = ap (λ segments. flat_map (stretch_cells marks slot) (stretches_of 0 segments parts)) same;
}

-- one more
pub stretches_next : (marks : MarkMap) (slot : ℕ) (parts : List (Option PlainPhrase)) (before : CellsOut) (whole : List PlainSegment)
    (now later : CellsOut) (next after : ℕ) (segment : PlainSegment) (left rest : List PlainSegment)
    → left ≡ segment ∷ rest → after ≡ next_after next segment
    → PutsAside now (stretch_cells marks slot (stretch_of next segment parts)) later
    → StretchesLeft marks slot parts before whole now next left → StretchesLeft marks slot parts before whole later after rest
stretches_next marks slot parts before whole now later next after segment left rest first after_is one m = record {
  done = m.done ++ stretch_cells marks slot (stretch_of next segment parts);
  put = aside_joined before now later m.done (stretch_cells marks slot (stretch_of next segment parts)) m.put one;
  all =
      let own = stretch_cells marks slot (stretch_of next segment parts) in
      let others = flat_map (stretch_cells marks slot) (stretches_of (next_after next segment) rest parts) in
      ap (λ n. (m.done ++ own) ++ flat_map (stretch_cells marks slot) (stretches_of n rest parts)) after_is
      ∙ append_assoc m.done own others
      ∙ ap (λ xs. m.done ++ xs) (sym (flat_map-cons (stretch_cells marks slot) (stretch_of next segment parts) (stretches_of (next_after next segment) rest parts)))
      ∙ ap (λ segments. m.done ++ flat_map (stretch_cells marks slot) (stretches_of next segments parts)) (sym first)
      ∙ m.all;
}

-- all at the end
pub stretches_all : (marks : MarkMap) (slot : ℕ) (parts : List (Option PlainPhrase)) (before : CellsOut) (whole : List PlainSegment)
    (now : CellsOut) (next : ℕ) (left : List PlainSegment) → left ≡ [] → StretchesLeft marks slot parts before whole now next left
    → PutsAside before (flat_map (stretch_cells marks slot) (stretches_of 0 whole parts)) now
stretches_all marks slot parts before whole now next left none m =
    let e : m.done ≡ flat_map (stretch_cells marks slot) (stretches_of 0 whole parts) =
    sym (append-nil m.done) ∙ ap (λ segments. m.done ++ flat_map (stretch_cells marks slot) (stretches_of next segments parts)) (sym none) ∙ m.all in
    subst (λ xs. PutsAside before xs now) e m.put

-- a line of the table has few segments
pub line_short : (kind : NodeKind) → length (row_of kind).line ≤ 9
line_short NodeKind.DeclarationHole = omega arith
line_short NodeKind.StatementHole = omega arith
line_short NodeKind.ProcedureHole = omega arith
line_short NodeKind.Main = omega arith
line_short NodeKind.Assign = omega arith
line_short (NodeKind.Filled template) = short template
  where
    short : (template : Template) → length (row_of (NodeKind.Filled template)).line ≤ 9
    short Template.Fixed = omega arith
    short Template.Bit = omega arith
    short Template.Char = omega arith
    short Template.If = omega arith
    short Template.IfElse = omega arith
    short Template.While = omega arith
    short Template.For = omega arith
    short Template.Until = omega arith
    short Template.Group = omega arith
    short Template.Get = omega arith
    short Template.Put = omega arith
    short Template.PutSkip = omega arith
    short Template.Call = omega arith
    short Template.Return = omega arith
    short Template.Comment = omega arith
    short Template.Proc = omega arith
    short Template.ProcP = omega arith

-- the next part's number rises by one at most
pub next_part_le : (after next : ℕ) (segment : PlainSegment) → after ≡ next_after next segment → after ≤ next + 1
next_part_le after next (PlainSegment.words bytes) same = omega (arith, same)
next_part_le after next (PlainSegment.part category) same = omega (arith, same)

-- the segment after the ones that are put
pub segment_next : (segments : List Segment) (i : ℕ) (other : Segment) → i < length segments
    → map plain_segment (drop i segments) ≡ plain_segment (get_or segments i other) ∷ map plain_segment (drop (i + 1) segments)
segment_next segments i other within =
    ap (map plain_segment) (drop-cons segments i other within ∙ ap (λ k. get_or segments i other ∷ drop k segments) (sym (add-one i)))

-- bytes that are put in default image
pub plain_put : (before after : CellsOut) (bytes : List ℕ) → before.negative ≡ false → length before.cells.items ≤ longest_line
    → PutsAll PutsCell before bytes after → PutsAside before bytes after
plain_put before after bytes plain short puts =
    let p = all_put puts in
    record {
      put = subst (λ xs. HasMore before.cells.items after.cells.items xs) (ap (λ b. map (screen_cell b) bytes) plain ∙ plain_cells bytes) p.put;
      plain = p.image ∙ plain;
      short = p.short short;
    }

-- a part that is put, after which default image comes again
pub part_put : (before : CellsOut) (negative : Bool) (bytes : List ℕ) (after : CellsOut) → length before.cells.items ≤ longest_line
    → PutsAll PutsCell record { cells = before.cells; negative = negative } bytes after
    → PutsAside before (map (screen_cell negative) bytes) record { cells = after.cells; negative = false }
part_put before negative bytes after short puts =
    let p = all_put puts in record { put = p.put; plain = refl; short = p.short short }

-- the cells of a whole line
pub whole_line : (first middle last : CellsOut) (blanks text : List ℕ) → first.cells.items ≡ [] → PutsAside first blanks middle → PutsAside middle text last
    → last.cells.items ≡ take longest_line (blanks ++ text)
whole_line first middle last blanks text none one two =
    let all = more_joined first.cells.items middle.cells.items last.cells.items blanks text one.put two.put in
    sym (take_whole longest_line last.cells.items two.short) ∙ all.cells ∙ ap (λ xs. take longest_line (xs ++ (blanks ++ text))) none

-- a line of these fields
abbrev pub laid_of : ℕ → LineKind → List ℕ → PlainLine
laid_of slot kind cells = record { slot = slot; kind = kind; cells = cells }

-- a line in which no part stands, laid under any marks
pub fixed_cells : (marks : MarkMap) (slot : ℕ) (kind : LineKind) (level : ℕ) (bytes : List ℕ)
    → laid_line marks (partless_line slot kind level bytes)
    ≡ laid_of slot kind (take longest_line (replicate (2 * level) 32 ++ bytes))
fixed_cells marks slot kind level bytes =
    let e : flat_map (stretch_cells marks slot) (record { part = None; filled = false; bytes = bytes } ∷ []) ≡ bytes =
    flat_map-cons (stretch_cells marks slot) record { part = None; filled = false; bytes = bytes } [] ∙ append-nil (map (screen_cell false) bytes) ∙ plain_cells bytes in
    λ i. laid_of slot kind (take longest_line (replicate (2 * level) 32 ++ e i))

-- the line is the same where its cells are
pub same_laid : (slot other : ℕ) (kind : LineKind) (cells others : List ℕ) → slot ≡ other → cells ≡ others
    → laid_of slot kind cells ≡ laid_of other kind others
same_laid slot other kind cells others a b = λ i. laid_of (a i) kind (b i)
