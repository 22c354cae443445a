-- Lists that stand in no expression are read element by element.
use Rattle.std.proofs.Common.{◌≡◌, refl, ℕ, List, [], ◌∷◌, ◌++◌, Some, ◌∙◌, append_assoc}
use Rattle.plcs_grammar.specs.declared.sign.Sign.{Sign}
use Rattle.plcs_grammar.specs.Token.{Token}
use Rattle.phrase_parser.specs.Private.Machine.{ParseState, shift}
use Rattle.phrase_parser.specs.Private.MachineLevels.{opens}
use Rattle.phrase_parser.proofs.Machine.MachineRuns.{Goes, there, by, joins}
use Rattle.phrase_parser.proofs.Machine.PhraseSpelling.{spell_more, spell_listed, EachFits, FitsListed}

module _ {X : Type 0} (g : X → List ℕ) where
  -- the levels that the tokens of a list's elements open, each behind a comma
  abbrev pub levels_more : List X → List ℕ
  levels_more [] = []
  levels_more (x ∷ xs) = 0 ∷ (g x ++ levels_more xs)

  -- the levels that the tokens of a list's elements open, joined by commas
  abbrev pub levels_listed : List X → List ℕ
  levels_listed [] = []
  levels_listed (x ∷ xs) = g x ++ levels_more xs

-- how the machine reads elements that are joined by commas: the state where one is wanted, and after one
pub record Listing (X : Type 0) (f : X → List Token) (g : X → List ℕ) (Fit : X → Type 0) : Type 0 where
  pub wants : List X → ParseState
  pub has : List X → X → ParseState
  pub reads : (done : List X) (x : X) → Fit x → Goes (wants done) (f x) (g x) (has done x)
  pub comma : (done : List X) (x : X) → shift (has done x) (Token.sign Sign.Comma) ≡ Some (wants (done ++ (x ∷ [])))
  pub none : (done : List X) (x : X) → opens (has done x) (Token.sign Sign.Comma) ≡ 0

module _ {X : Type 0} (f : X → List Token) (g : X → List ℕ) (Fit : X → Type 0) (m : Listing X f g Fit) where
  -- the tokens of a list lead behind the last of all its elements
  pub record ReadsAll (from : ParseState) (all : List X) (ks : List Token) (ls : List ℕ) : Type 0 where
    pub front : List X
    pub last : X
    pub goes : Goes from ks ls (m.has front last)
    pub whole : front ++ (last ∷ []) ≡ all

  reads_more : (xs done : List X) (x : X) → EachFits Fit xs
      → ReadsAll (m.has done x) (done ++ (x ∷ xs)) (spell_more f xs) (levels_more g xs)
  reads_more [] done x h = record { front = done; last = x; goes = there; whole = refl }
  reads_more (y ∷ ys) done x h =
      let r = reads_more ys (done ++ (x ∷ [])) y h.1 in
      record {
        front = r.front;
        last = r.last;
        goes = by (m.comma done x) (m.none done x) (joins (m.reads (done ++ (x ∷ [])) y h.0) r.goes);
        whole = r.whole ∙ append_assoc done (x ∷ []) (y ∷ ys);
      }

  -- all elements of a list are read
  pub reads_listed : (xs : List X) → FitsListed Fit xs → ReadsAll (m.wants []) xs (spell_listed f xs) (levels_listed g xs)
  reads_listed [] h = absurd h
  reads_listed (x ∷ xs) h =
      let r = reads_more xs [] x h.1 in
      record { front = r.front; last = r.last; goes = joins (m.reads [] x h.0) r.goes; whole = r.whole }
