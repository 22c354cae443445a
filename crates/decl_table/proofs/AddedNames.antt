-- Names gathered, one after the other.
use Rattle.std.specs.Prelude.{◌≡◌, refl, ℕ, Bool, true, false, ◌||◌, if◌then◌else◌, bytes_eq, List, ◌∷◌, Option}
use Rattle.std.specs.List.{list_any}
use Rattle.std.proofs.Common.{ap, cond, sym, ◌∙◌}
use Rattle.template_tree.specs.Programs.Program.{sort_of}
use Rattle.decl_table.specs.Due.{binds_names}
use Rattle.decl_table.specs.Names.{NameForest}
use Rattle.decl_table.specs.Private.NameTests.{AddsNames, bound_has, has_name, part_has, parts_have}
use Rattle.decl_table.specs.Private.PlainNameNode.{PlainNameNode, name_forest, node_names}
use Rattle.decl_table.proofs.AddedUses.{or_assoc, same_name}

or_none : (b : Bool) → b ≡ (b || false)
or_none true = refl
or_none false = refl

-- no names are added
pub adds_no_names : (names : List (List ℕ)) (test : List ℕ → Bool) → ((name : List ℕ) → test name ≡ false) → AddsNames test names names
adds_no_names names test none name = or_none (has_name names name) ∙ ap (λ b. has_name names name || b) (sym (none name))

-- one name is
pub adds_name : (old new : List (List ℕ)) (key name : List ℕ) → key ≡ name
    → ((other : List ℕ) → list_any (bytes_eq other) new ≡ cond (bytes_eq key other) true (list_any (bytes_eq other) old))
    → AddsNames (bytes_eq name) old new
adds_name old new key name same is other =
    is other
    ∙ ap (λ k. cond (bytes_eq k other) true (list_any (bytes_eq other) old)) same
    ∙ by (bytes_eq name other) (list_any (bytes_eq other) old)
  where
    by : (b d : Bool) → cond b true d ≡ (d || b)
    by true true = refl
    by true false = refl
    by false true = refl
    by false false = refl

-- some, and then others
pub adds_then : (old mid new : List (List ℕ)) (one other both : List ℕ → Bool) → AddsNames one old mid → AddsNames other mid new
    → ((name : List ℕ) → both name ≡ (one name || other name)) → AddsNames both old new
adds_then old mid new one other both first second is name =
    second name
    ∙ ap (λ b. b || other name) (first name)
    ∙ or_assoc (has_name old name) (one name) (other name)
    ∙ ap (λ b. has_name old name || b) (sym (is name))

-- with the names that are left, all are there: one more turn
pub names_turn : (old now new : List (List ℕ)) (own left rest whole : List ℕ → Bool) → AddsNames own now new
    → ((name : List ℕ) → left name ≡ (own name || rest name))
    → ((name : List ℕ) → (has_name now name || left name) ≡ (has_name old name || whole name))
    → (name : List ℕ) → (has_name new name || rest name) ≡ (has_name old name || whole name)
names_turn old now new own left rest whole adds split all name =
    ap (λ b. b || rest name) (adds name)
    ∙ or_assoc (has_name now name) (own name) (rest name)
    ∙ ap (λ b. has_name now name || b) (sym (split name))
    ∙ all name

-- none is left
pub names_end : (old now : List (List ℕ)) (left whole : List ℕ → Bool) → ((name : List ℕ) → left name ≡ false)
    → ((name : List ℕ) → (has_name now name || left name) ≡ (has_name old name || whole name)) → AddsNames whole old now
names_end old now left whole none all name =
    or_none (has_name now name) ∙ ap (λ b. has_name now name || b) (sym (none name)) ∙ all name

-- the first name and those behind it
pub name_first : (names rest : List (List ℕ)) (first : List ℕ) → names ≡ first ∷ rest
    → (name : List ℕ) → has_name names name ≡ (bytes_eq first name || has_name rest name)
name_first names rest first is name =
    ap (λ xs. has_name xs name) is ∙ ap (λ b. b || has_name rest name) (same_name name first)

-- the first part and those behind it
pub part_first : (parts rest : List (Option (List (List ℕ)))) (first : Option (List (List ℕ))) → parts ≡ first ∷ rest
    → (name : List ℕ) → parts_have parts name ≡ (part_has first name || parts_have rest name)
part_first parts rest first is name = ap (λ xs. parts_have xs name) is

-- the first node and those behind it
pub node_first : (nodes rest : List PlainNameNode) (first : PlainNameNode) → nodes ≡ first ∷ rest
    → (name : List ℕ) → bound_has (name_forest nodes) name ≡ (bound_has (node_names first) name || bound_has (name_forest rest) name)
node_first nodes rest first is name =
    ap (λ xs. bound_has (name_forest xs) name) is
    ∙ ap (λ b. b || bound_has (name_forest rest) name)
    (or_none
    (if binds_names (sort_of first.label.kind) then (parts_have first.label.parts name || bound_has first.inner name) else false))

-- a node's own names and those inside it, where it binds names
pub node_binds : (node : PlainNameNode) (inside : NameForest) → inside ≡ node.inner → binds_names (sort_of node.label.kind) ≡ true
    → (name : List ℕ) → bound_has (node_names node) name ≡ (parts_have node.label.parts name || bound_has inside name)
node_binds node inside same binds name =
    ap (λ (b : Bool). (if b then (parts_have node.label.parts name || bound_has node.inner name) else false) || false) binds
    ∙ sym (or_none (parts_have node.label.parts name || bound_has node.inner name))
    ∙ ap (λ f. parts_have node.label.parts name || bound_has f name) (sym same)

-- and none where it binds none
pub node_binds_none : (node : PlainNameNode) → binds_names (sort_of node.label.kind) ≡ false
    → (name : List ℕ) → bound_has (node_names node) name ≡ false
node_binds_none node binds name =
    ap (λ (b : Bool). (if b then (parts_have node.label.parts name || bound_has node.inner name) else false) || false) binds
