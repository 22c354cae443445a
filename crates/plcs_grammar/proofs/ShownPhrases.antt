-- The canonical text of a phrase that tokens of a text spell begins and ends with a byte of a token.
use Rattle.std.proofs.Common.{ℕ, ◌+◌, pos, negsuc, false, true, List, [], ◌∷◌, ◌++◌, codes, Option, Some, None, refl, sym, subst, append_assoc}
use Rattle.std.specs.Prelude.{IsTrue, decimal}
use Rattle.std.specs.List.{list_all}
use Rattle.std.proofs.lemmas.List.{append-nil}
use Rattle.plcs_base.specs.Byte.{is_printable}
use Rattle.plcs_grammar.specs.declared.operator.PrefixOp.{PrefixOp}
use Rattle.plcs_grammar.specs.declared.operator.PrefixOp.TheVariants.{Plus, Minus, Not}
use Rattle.plcs_grammar.specs.declared.builtin.Builtin.{Builtin}
use Rattle.plcs_grammar.specs.declared.builtin.Builtin.TheVariants.{Abs, Mod, Min, Max, Length, Substr, Index}
use Rattle.plcs_grammar.specs.declared.item.Item.{Item}
use Rattle.plcs_grammar.specs.declared.sign.Sign.{Sign}
use Rattle.plcs_grammar.specs.Builtin.{builtin_name}
use Rattle.plcs_grammar.specs.Sign.{sign_bytes, prefix_sign, infix_sign}
use Rattle.plcs_grammar.specs.Token.{Token}
use Rattle.plcs_grammar.specs.PlainPhrase.{PlainExpr, PlainExprs, PlainVarRef, PlainPhrase}
use Rattle.plcs_grammar.specs.Level.{Level, IsNameToken, IsReference, IsExprList, IsMoreExprs, priority, tightest}
use Rattle.plcs_grammar.specs.ListForm.{IsMoreOf, IsListOf}
use Rattle.plcs_grammar.specs.PhraseForm.{IsSizedName, IsItem, IsCall, IsPhrase}
use Rattle.plcs_grammar.specs.Canon.{Canon, canon, canon_reference, canon_list, canon_behind, canon_sized, canon_item, canon_call, behind_sign, parenthesized_bytes, comma, joined, more_joined}
use Rattle.plcs_grammar.proofs.SolidTexts.{IsSolid, begins_append, ends_append, printable_append, solid_between, solid_append, solid_edges, name_solid, decimal_solid, quoted_solid}
use Rattle.plcs_grammar.proofs.FineTokens.{AllFine, fine_parts, fine_inside}

sign_printable : (s : Sign) → IsTrue (list_all is_printable (sign_bytes s))
sign_printable Sign.Plus = refl
sign_printable Sign.Minus = refl
sign_printable Sign.Times = refl
sign_printable Sign.Divide = refl
sign_printable Sign.Join = refl
sign_printable Sign.Equal = refl
sign_printable Sign.NotEqual = refl
sign_printable Sign.Less = refl
sign_printable Sign.LessEqual = refl
sign_printable Sign.Greater = refl
sign_printable Sign.GreaterEqual = refl
sign_printable Sign.Ampersand = refl
sign_printable Sign.Bar = refl
sign_printable Sign.Caret = refl
sign_printable Sign.OpenParenthesis = refl
sign_printable Sign.CloseParenthesis = refl
sign_printable Sign.Comma = refl

prefix_solid : (op : PrefixOp) → IsSolid (sign_bytes (prefix_sign op))
prefix_solid Plus = solid_edges _ [] refl
prefix_solid Minus = solid_edges _ [] refl
prefix_solid Not = solid_edges _ [] refl

builtin_solid : (function : Builtin) → IsSolid (builtin_name function)
builtin_solid Abs = solid_edges _ _ refl
builtin_solid Mod = solid_edges _ _ refl
builtin_solid Min = solid_edges _ _ refl
builtin_solid Max = solid_edges _ _ refl
builtin_solid Length = solid_edges _ _ refl
builtin_solid Substr = solid_edges _ _ refl
builtin_solid Index = solid_edges _ _ refl

-- solid texts at both sides of a sign are a solid text
solid_beside_sign : (sign : Sign) (a b : List ℕ) → IsSolid a → IsSolid b → IsSolid (a ++ behind_sign sign b)
solid_beside_sign sign a b one other =
    let back : List ℕ = sign_bytes sign ++ (codes " " ++ b) in record {
      begins = begins_append a (behind_sign sign b) one.begins;
      ends = ends_append a (behind_sign sign b)
          (ends_append (codes " ") back (ends_append (sign_bytes sign) (codes " " ++ b) (ends_append (codes " ") b other.ends)));
      printable = printable_append a (behind_sign sign b) one.printable
          (printable_append (codes " ") back refl
          (printable_append (sign_bytes sign) (codes " " ++ b) (sign_printable sign) (printable_append (codes " ") b refl other.printable)));
    }

-- a solid text in parentheses behind a name is one
solid_parenthesized : (name inner : List ℕ) → IsSolid name → IsSolid inner → IsSolid (name ++ parenthesized_bytes inner)
solid_parenthesized name inner one other = record {
  begins = begins_append name (parenthesized_bytes inner) one.begins;
  ends = ends_append name (parenthesized_bytes inner) (ends_append (codes "(") (inner ++ codes ")") (ends_append inner (codes ")") refl));
  printable = printable_append name (parenthesized_bytes inner) one.printable
      (printable_append (codes "(") (inner ++ codes ")") refl (printable_append inner (codes ")") other.printable refl));
}

-- a solid text between parentheses with blanks is one
solid_parens : (inner : List ℕ) → IsSolid inner → IsSolid (codes "( " ++ (inner ++ codes " )"))
solid_parens inner other = record {
  begins = refl;
  ends = ends_append (codes "( ") (inner ++ codes " )") (ends_append inner (codes " )") refl);
  printable = printable_append (codes "( ") (inner ++ codes " )") refl (printable_append inner (codes " )") other.printable refl);
}

-- a solid text goes on over one text more behind a comma
comma_more : (x a rest : List ℕ) → IsSolid ((x ++ (comma ++ a)) ++ rest) → IsSolid (x ++ (comma ++ (a ++ rest)))
comma_more x a rest solid = subst IsSolid (append_assoc x (comma ++ a) rest) solid

mutual
  pub solid_expr : (e : PlainExpr) (level : ℕ) (tokens : List Token) → Level e level tokens → AllFine tokens → IsSolid (canon e)
  solid_expr (PlainExpr.number (pos n)) level tokens is fine = decimal_solid n
  solid_expr (PlainExpr.number (negsuc n)) level tokens is fine = absurd is
  solid_expr (PlainExpr.text value) level tokens is fine = quoted_solid value (subst AllFine is fine).0
  solid_expr (PlainExpr.bit false) level tokens is fine = record { begins = refl; ends = refl; printable = refl }
  solid_expr (PlainExpr.bit true) level tokens is fine = record { begins = refl; ends = refl; printable = refl }
  solid_expr (PlainExpr.variable reference) level tokens is fine = solid_reference reference tokens is.1 fine
  solid_expr (PlainExpr.unary op a) level tokens is fine =
      solid_append (sign_bytes (prefix_sign op)) (canon a) (prefix_solid op) (solid_expr a tightest is.0 is.2 (subst AllFine is.1 fine).1)
  solid_expr (PlainExpr.binary op a b) level tokens is fine =
      let parts = fine_parts is.1 (Token.sign (infix_sign op) ∷ is.2) (subst AllFine is.3 fine) in
      solid_beside_sign (infix_sign op) (canon a) (canon b)
      (solid_expr a (priority op) is.1 is.4 parts.0)
      (solid_expr b (priority op + 1) is.2 is.5 parts.1.1)
  solid_expr (PlainExpr.builtin function arguments) level tokens is fine =
      solid_parenthesized (builtin_name function) (canon_list arguments) (builtin_solid function)
      (solid_exprs arguments is.0 is.2 (fine_inside is.0 (subst AllFine is.1 fine).1))
  solid_expr (PlainExpr.parenthesized a) level tokens is fine =
      solid_parens (canon a) (solid_expr a 1 is.0 is.2 (fine_inside is.0 (subst AllFine is.1 fine)))

  pub solid_reference : (reference : PlainVarRef) (tokens : List Token) → IsReference reference tokens → AllFine tokens
      → IsSolid (canon_reference reference)
  solid_reference (PlainVarRef.simple name) tokens is fine = name_solid name (subst AllFine is fine).0
  solid_reference (PlainVarRef.subscripted name index) tokens is fine =
      let all = subst AllFine is.1 fine in
      solid_parenthesized name (canon index) (name_solid name all.0) (solid_expr index 1 is.0 is.2 (fine_inside is.0 all.1))

  pub solid_exprs : (es : PlainExprs) (tokens : List Token) → IsExprList es tokens → AllFine tokens → IsSolid (canon_list es)
  solid_exprs PlainExprs.nil tokens is fine = absurd is
  solid_exprs (PlainExprs.cons a rest) tokens is fine =
      let parts = fine_parts is.0 is.1 (subst AllFine is.2 fine) in
      solid_behind rest (canon a) is.1 (solid_expr a 1 is.0 is.3 parts.0) is.4 parts.1

  solid_behind : (es : PlainExprs) (x : List ℕ) (tokens : List Token) → IsSolid x → IsMoreExprs es tokens → AllFine tokens
      → IsSolid (x ++ canon_behind es)
  solid_behind PlainExprs.nil x tokens solid is fine = subst IsSolid (sym (append-nil x)) solid
  solid_behind (PlainExprs.cons a rest) x tokens solid is fine =
      let parts = fine_parts is.0 is.1 (subst AllFine is.2 fine).1 in
      let next = solid_between x comma (canon a) solid refl (solid_expr a 1 is.0 is.3 parts.0) in
      comma_more x (canon a) (canon_behind rest) (solid_behind rest (x ++ (comma ++ canon a)) is.1 next is.4 parts.1)

-- a list whose elements have solid texts has a solid text
module _ {X : Type 0} (Is : X → List Token → Type 0) (bytes_of : X → List ℕ)
    (solid_of : (x : X) (tokens : List Token) → Is x tokens → AllFine tokens → IsSolid (bytes_of x)) where
  solid_more : (xs : List X) (front : List ℕ) (tokens : List Token) → IsSolid front → IsMoreOf Is xs tokens → AllFine tokens
      → IsSolid (front ++ more_joined bytes_of xs)
  solid_more [] front tokens solid is fine = subst IsSolid (sym (append-nil front)) solid
  solid_more (x ∷ xs) front tokens solid is fine =
      let parts = fine_parts is.0 is.1 (subst AllFine is.2 fine).1 in
      let next = solid_between front comma (bytes_of x) solid refl (solid_of x is.0 is.3 parts.0) in
      comma_more front (bytes_of x) (more_joined bytes_of xs) (solid_more xs (front ++ (comma ++ bytes_of x)) is.1 next is.4 parts.1)

  solid_joined : (xs : List X) (tokens : List Token) → IsListOf Is xs tokens → AllFine tokens → IsSolid (joined bytes_of xs)
  solid_joined [] tokens is fine = absurd is
  solid_joined (x ∷ xs) tokens is fine =
      let parts = fine_parts is.0 is.1 (subst AllFine is.2 fine) in
      solid_more xs (bytes_of x) is.1 (solid_of x is.0 is.3 parts.0) is.4 parts.1

solid_name : (name : List ℕ) (tokens : List Token) → IsNameToken name tokens → AllFine tokens → IsSolid name
solid_name name tokens is fine = name_solid name (subst AllFine is fine).0

solid_sized : (name : List ℕ) (size : Option ℕ) (tokens : List Token) → IsSizedName name size tokens → AllFine tokens
    → IsSolid (canon_sized name size)
solid_sized name None tokens is fine = solid_name name tokens is fine
solid_sized name (Some size) tokens is fine =
    solid_parenthesized name (decimal size) (name_solid name (subst AllFine is.1 fine).0) (decimal_solid size)

solid_item : (item : Item) (tokens : List Token) → IsItem item tokens → AllFine tokens → IsSolid (canon_item item)
solid_item item tokens is fine = solid_sized item.name item.size tokens is fine

solid_call : (name : List ℕ) (arguments : PlainExprs) (tokens : List Token) → IsCall name arguments tokens → AllFine tokens
    → IsSolid (canon_call name arguments)
solid_call name PlainExprs.nil tokens is fine = solid_name name tokens is fine
solid_call name (PlainExprs.cons a rest) tokens is fine =
    let all = subst AllFine is.1 fine in
    solid_parenthesized name (canon_list (PlainExprs.cons a rest)) (name_solid name all.0)
    (solid_exprs (PlainExprs.cons a rest) is.0 is.2 (fine_inside is.0 all.1))

-- a phrase that fine tokens are has a solid text
pub solid_phrase : (phrase : PlainPhrase) (tokens : List Token) → IsPhrase phrase tokens → AllFine tokens → IsSolid (Canon phrase)
solid_phrase (PlainPhrase.assignment target value) tokens is fine =
    let parts = fine_parts is.0 (Token.sign Sign.Equal ∷ is.1) (subst AllFine is.2 fine) in
    solid_beside_sign Sign.Equal (canon_reference target) (canon value)
    (solid_reference target is.0 is.3 parts.0)
    (solid_expr value 1 is.1 is.4 parts.1.1)
solid_phrase (PlainPhrase.condition e) tokens is fine = solid_expr e 1 tokens is fine
solid_phrase (PlainPhrase.expression e) tokens is fine = solid_expr e 1 tokens is fine
solid_phrase (PlainPhrase.expression_list es) tokens is fine = solid_exprs es tokens is fine
solid_phrase (PlainPhrase.variable_list targets) tokens is fine =
    solid_joined IsReference canon_reference solid_reference targets tokens is fine
solid_phrase (PlainPhrase.variable_name name) tokens is fine = solid_name name tokens is fine
solid_phrase (PlainPhrase.call name arguments) tokens is fine = solid_call name arguments tokens is fine
solid_phrase (PlainPhrase.declared_list items) tokens is fine = solid_joined IsItem canon_item solid_item items tokens is fine
solid_phrase (PlainPhrase.procedure_name name) tokens is fine = solid_name name tokens is fine
solid_phrase (PlainPhrase.name_list names) tokens is fine = solid_joined IsNameToken (λ name. name) solid_name names tokens is fine
solid_phrase (PlainPhrase.greatest_length n) tokens is fine = decimal_solid n
solid_phrase (PlainPhrase.comment bytes) tokens is fine = absurd is
