-- No template or sign is missing in the definitions' list of all: each is found there by how it is written, so the
-- check refuses one that was forgotten.
use Rattle.std.proofs.Common.{◌≡◌, refl, Some}
use Rattle.std.specs.Prelude.{MatchOption}
use Rattle.plcs_grammar.specs.declared.sign.Sign.{Sign}
use Rattle.plcs_grammar.specs.declared.template.Template.{Template}
use Rattle.plcs_grammar.specs.Sign.{sign_bytes, sign_of}
use Rattle.plcs_grammar.specs.Template.{template_row, template_of}

-- each template has a command, by whose word it is found
template_listed : (template : Template) → MatchOption (template_row template).command ⊥ (λ word. template_of word ≡ Some template)
unfolding template_of
template_listed Template.Fixed = refl
template_listed Template.Bit = refl
template_listed Template.Char = refl
template_listed Template.If = refl
template_listed Template.IfElse = refl
template_listed Template.While = refl
template_listed Template.For = refl
template_listed Template.Until = refl
template_listed Template.Group = refl
template_listed Template.Get = refl
template_listed Template.Put = refl
template_listed Template.PutSkip = refl
template_listed Template.Call = refl
template_listed Template.Return = refl
template_listed Template.Comment = refl
template_listed Template.Proc = refl
template_listed Template.ProcP = refl

-- each sign is found by its bytes
sign_listed : (sign : Sign) → sign_of (sign_bytes sign) ≡ Some sign
sign_listed Sign.Plus = refl
sign_listed Sign.Minus = refl
sign_listed Sign.Times = refl
sign_listed Sign.Divide = refl
sign_listed Sign.Join = refl
sign_listed Sign.Equal = refl
sign_listed Sign.NotEqual = refl
sign_listed Sign.Less = refl
sign_listed Sign.LessEqual = refl
sign_listed Sign.Greater = refl
sign_listed Sign.GreaterEqual = refl
sign_listed Sign.Ampersand = refl
sign_listed Sign.Bar = refl
sign_listed Sign.Caret = refl
sign_listed Sign.OpenParenthesis = refl
sign_listed Sign.CloseParenthesis = refl
sign_listed Sign.Comma = refl
