-- Code that stands at an address among instructions: what stands in such code stands there too.
use Rattle.std.proofs.Common.{◌≡◌, ℕ, ◌+◌, List, [], ◌++◌, length, take, drop, refl, ap, sym, ◌∙◌, append_assoc, append-nil, arith}
use Rattle.std.proofs.lemmas.List.{length-append}
use Rattle.std.proofs.Math.Seq.{drop-append_seam, take-append_seam}
use Rattle.plcs_code.specs.CodeLaws.{HasCodeAt}
use Rattle.plcs_code.specs.PlainInstr.{PlainInstr}

-- the code stands among instructions, so many of which stand before it
pub record StandsAt (instrs : List PlainInstr) (address : ℕ) (code : List PlainInstr) : Type 0 where
  pub front : List PlainInstr
  pub back : List PlainInstr
  pub is : instrs ≡ front ++ (code ++ back)
  pub long : length front ≡ address

-- all instructions stand at the first address
pub all_stand : (instrs : List PlainInstr) → StandsAt instrs 0 instrs
all_stand instrs = record { front = []; back = []; is = sym (append-nil instrs); long = refl }

-- the first of two codes
pub first_stands : (instrs : List PlainInstr) (address : ℕ) (one other : List PlainInstr) → StandsAt instrs address (one ++ other) → StandsAt instrs address one
first_stands instrs address one other stands =
    record {
      front = stands.front;
      back = other ++ stands.back;
      is = stands.is ∙ ap (λ (code : List PlainInstr). stands.front ++ code) (append_assoc one other stands.back);
      long = stands.long;
    }

-- and the other one, behind it
pub second_stands : (instrs : List PlainInstr) (address behind : ℕ) (one other : List PlainInstr) → behind ≡ address + length one
    → StandsAt instrs address (one ++ other) → StandsAt instrs behind other
second_stands instrs address behind one other same stands =
    record {
      front = stands.front ++ one;
      back = stands.back;
      is =
          stands.is ∙ ap (λ (code : List PlainInstr). stands.front ++ code) (append_assoc one other stands.back)
          ∙ sym (append_assoc stands.front one (other ++ stands.back));
      long = omega (arith, length-append stands.front one, stands.long, same);
    }

-- what stands at an address is what is read from there on
pub stands_holds : (instrs : List PlainInstr) (address : ℕ) (code : List PlainInstr) → StandsAt instrs address code → HasCodeAt instrs address code
stands_holds instrs address code stands =
    ap (take (length code))
    (ap (λ (n : ℕ). drop n instrs) (sym stands.long) ∙ ap (drop (length stands.front)) stands.is
    ∙ drop-append_seam stands.front (code ++ stands.back))
    ∙ take-append_seam code stands.back
