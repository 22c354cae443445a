-- The name of the clip is a name.
use Rattle.std.proofs.Common.{◌≡◌, ℕ, List, Option, Some, None, refl, ap}
use Rattle.std.specs.Prelude.{◌↔◌, IsSome, IfSome}
use Rattle.plcs_base.specs.Name.{is_keyword, IsName}
use Rattle.session_words.specs.Argument.{default_clip}

clip_is_name : IsName default_clip
unfolding is_keyword
clip_is_name = refl

-- what is read of a name is the name
read_name : (bytes : List ℕ) (found : Option (List ℕ)) → (IsSome found ↔ IsName bytes) → IfSome found (λ name. name ≡ bytes)
    → IsName bytes → found ≡ Some bytes
read_name bytes None names same h = let e : IsSome {T = List ℕ} None = names.1 h in absurd (cc)
read_name bytes (Some name) names same h = ap Some same

-- what is read of the name of the clip
pub clip_name_read : (found : Option (List ℕ)) → (IsSome found ↔ IsName default_clip) → IfSome found (λ name. name ≡ default_clip)
    → found ≡ Some default_clip
clip_name_read found names same = read_name default_clip found names same clip_is_name
