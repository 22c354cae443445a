-- How long codes are. A node has its jumps whatever stands inside it, and each is one instruction however far it goes;
-- so its own code is as long, and a code is as long as a node's own code and the codes inside it together.
use Rattle.std.proofs.Common.{ℕ, ◌+◌, ◌≡◌, Bool, true, false, List, [], ◌∷◌, ◌++◌, length, map, take, Option, Some, None, refl, ap, sym, ◌∙◌, arith}
use Rattle.std.specs.Prelude.{is_some, option_map, sum}
use Rattle.std.specs.Option.{option_to_list}
use Rattle.std.proofs.lemmas.List.{length-append}
use Rattle.std.proofs.lemmas.List.Sums.{sum_by-cons}
use Rattle.plcs_base.specs.Mark.{MarkMap}
use Rattle.plcs_base.specs.Scope.{ItemMap}
use Rattle.plcs_grammar.specs.declared.node_kind.NodeKind.{NodeKind}
use Rattle.plcs_grammar.specs.declared.template.Template.{Template}
use Rattle.template_tree.specs.Programs.Part.{part_at}
use Rattle.template_tree.specs.Programs.PlainTree.{Forest, Label}
use Rattle.plcs_code.specs.ExprCode.{counter_name}
use Rattle.plcs_code.specs.Gen.{code_around, code_with, codes_around, codes_joined, length_around, node_codes, node_lengths, own_instrs, own_length}
use Rattle.plcs_code.specs.Pieces.{CodeJumps, CodePieces, count_pieces, first_length, jump_unless, jumps, kind_jumps, other_lengths, own_jumps, pieces, suspension, template_jumps}
use Rattle.plcs_code.specs.PlainInstr.{PlainInstr}

-- ---- the jumps of a node

-- how many instructions a jump is that may be there
abbrev pub jump_length : Option PlainInstr → ℕ
jump_length jump = length (option_to_list jump)

-- a jump is there or not, whatever it is, unless its piece is stopped
unless_length : (stopped : Bool) (a b : Option PlainInstr) → jump_length a ≡ jump_length b → jump_length (jump_unless stopped a) ≡ jump_length (jump_unless stopped b)
unless_length true a b same = refl
unless_length false a b same = same

-- and so is one for a loop's variable
counter_length : (f g : List ℕ → PlainInstr) (name : Option (List ℕ)) → jump_length (option_map f name) ≡ jump_length (option_map g name)
counter_length f g None = refl
counter_length f g (Some name) = refl

-- jumps of which as many are there, each in the same place
pub record AsMany (p q : CodeJumps) : Type 0 where
  pub ahead : jump_length p.ahead ≡ jump_length q.ahead
  pub between : jump_length p.between ≡ jump_length q.between
  pub back : jump_length p.back ≡ jump_length q.back

-- jumps are as many as themselves
same_many : (p : CodeJumps) → AsMany p p
same_many p = record { ahead = refl; between = refl; back = refl }

template_many : (slot : ℕ) (counter : Option (List ℕ)) (all one : Bool) (a m n b k l : ℕ) (template : Template)
    → AsMany (template_jumps slot counter all one a m n template) (template_jumps slot counter all one b k l template)
template_many slot counter all one a m n b k l Template.Fixed = same_many _
template_many slot counter all one a m n b k l Template.Bit = same_many _
template_many slot counter all one a m n b k l Template.Char = same_many _
template_many slot counter all one a m n b k l Template.If = record { ahead = unless_length all _ _ refl; between = refl; back = refl }
template_many slot counter all one a m n b k l Template.IfElse = record { ahead = unless_length all _ _ refl; between = refl; back = refl }
template_many slot counter all one a m n b k l Template.While = record { ahead = unless_length all _ _ refl; between = refl; back = refl }
template_many slot counter all one a m n b k l Template.For = record {
  ahead = unless_length all _ _ (counter_length _ _ counter);
  between = refl;
  back = unless_length one _ _ (counter_length _ _ counter);
}
template_many slot counter all one a m n b k l Template.Until = record { ahead = refl; between = refl; back = unless_length one _ _ refl }
template_many slot counter all one a m n b k l Template.Group = same_many _
template_many slot counter all one a m n b k l Template.Get = same_many _
template_many slot counter all one a m n b k l Template.Put = same_many _
template_many slot counter all one a m n b k l Template.PutSkip = same_many _
template_many slot counter all one a m n b k l Template.Call = same_many _
template_many slot counter all one a m n b k l Template.Return = same_many _
template_many slot counter all one a m n b k l Template.Comment = same_many _
template_many slot counter all one a m n b k l Template.Proc = same_many _
template_many slot counter all one a m n b k l Template.ProcP = same_many _

kind_many : (slot : ℕ) (counter : Option (List ℕ)) (all one : Bool) (a m n b k l : ℕ) (kind : NodeKind)
    → AsMany (kind_jumps slot counter all one a m n kind) (kind_jumps slot counter all one b k l kind)
kind_many slot counter all one a m n b k l NodeKind.DeclarationHole = same_many _
kind_many slot counter all one a m n b k l NodeKind.StatementHole = same_many _
kind_many slot counter all one a m n b k l NodeKind.ProcedureHole = same_many _
kind_many slot counter all one a m n b k l NodeKind.Main = same_many _
kind_many slot counter all one a m n b k l NodeKind.Assign = same_many _
kind_many slot counter all one a m n b k l (NodeKind.Filled template) = template_many slot counter all one a m n b k l template

-- a node has as many jumps, whatever they go over
pub own_jumps_many : (marks : MarkMap) (label : Label) (a m n b k l : ℕ) → AsMany (own_jumps marks label a m n) (own_jumps marks label b k l)
own_jumps_many marks label a m n b k l =
    kind_many label.slot (counter_name (part_at label.parts 0)) (is_some (suspension marks label.slot label.parts))
    (is_some (suspension marks label.slot (take 1 label.parts))) a m n b k l label.kind

-- a node has as many jumps, whatever the lengths of the codes inside it
pub jumps_many : (marks : MarkMap) (items : ItemMap) (label : Label) (lengths others : List ℕ)
    → AsMany (jumps marks items label lengths) (jumps marks items label others)
jumps_many marks items label lengths others =
    let own = count_pieces (pieces marks items label) in
    own_jumps_many marks label own (first_length lengths) (other_lengths lengths) own (first_length others) (other_lengths others)

-- ---- a node's own code

-- how many instructions pieces and jumps are together
abbrev pub pieces_length : CodePieces → CodeJumps → ℕ
pieces_length own around =
    length own.before + (jump_length around.ahead + (jump_length around.between + (length own.behind + jump_length around.back)))

-- the own code of a node is its pieces and its jumps
pub own_instrs_length : (marks : MarkMap) (items : ItemMap) (label : Label) (lengths : List ℕ)
    → length (own_instrs marks items label lengths) ≡ pieces_length (pieces marks items label) (jumps marks items label lengths)
own_instrs_length marks items label lengths =
    let own = pieces marks items label in
    let around = jumps marks items label lengths in
    let ahead = option_to_list around.ahead in
    let between = option_to_list around.between in
    let back = option_to_list around.back in
    omega
    (arith, length-append own.before (ahead ++ (between ++ (own.behind ++ back))), length-append ahead (between ++ (own.behind ++ back)), length-append between (own.behind ++ back), length-append own.behind back)

-- and it is as long, whatever the lengths of the codes inside it
pub own_lengths_stay : (marks : MarkMap) (items : ItemMap) (label : Label) (lengths : List ℕ)
    → length (own_instrs marks items label lengths) ≡ own_length marks items label
own_lengths_stay marks items label lengths =
    let many = jumps_many marks items label lengths [] in
    let one = own_instrs_length marks items label lengths in
    let other = own_instrs_length marks items label [] in
    let e = many.ahead in
    let f = many.between in
    let g = many.back in
    omega (arith, one, other, e, f, g)

-- ---- codes

-- codes joined are as long as they are together
pub joined_length : (codes : List (List PlainInstr)) → length (codes_joined codes) ≡ sum (map length codes)
joined_length [] = refl
joined_length (code ∷ codes) =
    length-append code (codes_joined codes)
    ∙ ap (λ n. length code + n) (joined_length codes)
    ∙ sym (sum_by-cons (λ n. n) (length code) (map length codes))

-- the codes inside a node are as long as they are together, with what stands behind the first one
pub around_length : (between : List PlainInstr) (codes : List (List PlainInstr))
    → length (codes_around between codes) ≡ length between + sum (map length codes)
around_length between [] = omega arith
around_length between (code ∷ codes) =
    let total : sum (map length (code ∷ codes)) ≡ length code + sum (map length codes) = sum_by-cons (λ n. n) (length code) (map length codes) in
    omega (arith, total, joined_length codes, length-append code (between ++ codes_joined codes), length-append between (codes_joined codes))

-- a code is as long as its pieces, its jumps and the codes inside it
pub code_length : (own : CodePieces) (around : CodeJumps) (codes : List (List PlainInstr))
    → length (code_with own around codes) ≡ pieces_length own around + sum (map length codes)
code_length own around codes =
    let ahead = option_to_list around.ahead in
    let between = option_to_list around.between in
    let back = option_to_list around.back in
    let inner = codes_around between codes in
    omega
    (arith, around_length between codes, length-append own.before (ahead ++ (inner ++ (own.behind ++ back))), length-append ahead (inner ++ (own.behind ++ back)), length-append inner (own.behind ++ back), length-append own.behind back)

-- the code of a node is as long as its own and the codes inside it
pub code_around_length : (marks : MarkMap) (items : ItemMap) (label : Label) (codes : List (List PlainInstr))
    → length (code_around marks items label codes) ≡ length_around marks items label (map length codes)
code_around_length marks items label codes =
    let whole = code_length (pieces marks items label) (jumps marks items label (map length codes)) codes in
    let own = own_instrs_length marks items label (map length codes) in
    let stays = own_lengths_stay marks items label (map length codes) in
    omega (arith, whole, own, stays)

-- the law
pub lengths_told : (marks : MarkMap) (items : ItemMap) (nodes : Forest) → map length (node_codes marks items nodes) ≡ node_lengths marks items nodes
lengths_told marks items Forest.nil = refl
lengths_told marks items (Forest.cons label inner rest) =
    let first : length (code_around marks items label (node_codes marks items inner)) ≡ length_around marks items label (node_lengths marks items inner) =
    code_around_length marks items label (node_codes marks items inner) ∙ ap (length_around marks items label) (lengths_told marks items inner) in
    λ i. first i ∷ lengths_told marks items rest i
