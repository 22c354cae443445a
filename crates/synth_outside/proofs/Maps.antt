-- Finite maps by name.
use Rattle.std.proofs.Common.{◌≡◌, ◌≢◌, ℕ, List, Some, refl, arith, cond}
use Rattle.std.proofs.lemmas.Grind.{common_steps}
use Rattle.std.proofs.lemmas.Slice.Eq.{bytes_eq-Decides}
use Rattle.std.proofs.lemmas.Map.Text.{is_eq-slice_cmp}
use Rattle.std.proofs.lemmas.Cmp.{nat_list_cmp_total}
use Rattle.std.specs.Str.{bytes_eq}
use Rattle.std.specs.FinMap.{get, insert, get-insert, same_map, slice_cmp-IsAntisymmetric, nat_cmp-IsAntisymmetric}
use Rattle.synth_outside.specs.Files.{FileMap}

-- what stands under a name once a name was set
pub get_set : (map : FileMap) (name bytes other : List ℕ) → get (insert map name bytes) other ≡
    (cond (bytes_eq other name) (Some bytes) (get map other))
get_set map name bytes other =
    rw (get-insert nat_list_cmp_total map name bytes other, is_eq-slice_cmp other name) refl

pub own_content : (map : FileMap) (name bytes : List ℕ) → get (insert map name bytes) name ≡
    Some bytes
own_content map name bytes =
    grind (arith, common_steps, bytes_eq-Decides, get_set map name bytes name)

pub other_content : (map : FileMap) (name bytes other : List ℕ) → other ≢ name →
    get (insert map name bytes) other ≡ get map other
other_content map name bytes other differs =
    grind (arith, common_steps, bytes_eq-Decides, get_set map name bytes other)

-- maps are the same where each name has the same
pub same_files : (m n : FileMap) → ((name : List ℕ) → get m name ≡ get n name) → m ≡ n
same_files = same_map nat_list_cmp_total (slice_cmp-IsAntisymmetric nat_cmp-IsAntisymmetric)

-- a name that is set twice has what it was set to last
pub set_again : (map : FileMap) (name first bytes : List ℕ) →
    insert (insert map name first) name bytes ≡ insert map name bytes
set_again map name first bytes = same_files _ _ (λ other.
    grind (
      arith,
      common_steps,
      get_set (insert map name first) name bytes other,
      get_set map name first other,
      get_set map name bytes other,
    ))

-- two names are set in any order
pub set_both : (map : FileMap) (name bytes other others : List ℕ) → other ≢ name →
    insert (insert map name bytes) other others ≡ insert (insert map other others) name bytes
set_both map name bytes other others differs = same_files _ _ (λ asked.
    grind (
      arith,
      common_steps,
      bytes_eq-Decides,
      get_set (insert map name bytes) other others asked,
      get_set map name bytes asked,
      get_set (insert map other others) name bytes asked,
      get_set map other others asked,
    ))
