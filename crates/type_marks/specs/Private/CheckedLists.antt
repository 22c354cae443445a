-- What is kept of declared lists that are due for a check, and of phrases that were checked.
use Rattle.std.specs.Prelude.{◌≡◌, ℕ, Bool, if◌then◌else◌, nat_eq, true, List, [], ◌∷◌, Contains, Option, Some, None, is_some, option_and_then, slice_get}
use Rattle.std.specs.FinMap.{from_entries, get}
use Rattle.std.specs.List.{list_any}
use Rattle.std.specs.Map.{lookup}
use Rattle.std.specs.Option.{option_flatten}
use Rattle.std.specs.Ordering.{eq_by_cmp}
use Rattle.plcs_base.specs.Mark.{phrase_cmp}
use Rattle.plcs_base.specs.declared.mark.MarkKind.{MarkKind}
use Rattle.plcs_base.specs.declared.place.PhraseAt.{PhraseAt}
use Rattle.plcs_grammar.specs.declared.item.Item.{Item}
use Rattle.plcs_grammar.specs.PlainPhrase.{PlainPhrase}
use Rattle.template_tree.specs.Checks.Environment.{procedure_at}
use Rattle.template_tree.specs.Checks.Marks.{VerdictList, VerdictMap, Verdicts}
use Rattle.template_tree.specs.Programs.PlainTree.{Forest, PlainNode}
use Rattle.decl_table.specs.Knowledge.{Knows, Stands}
use Rattle.decl_table.specs.ListOffences.{list_offences}
use Rattle.decl_table.specs.PlainDecls.{PlainDecls}
use Rattle.type_marks.specs.Private.MarksView.{procedure_item_on}

-- what is kept of the declared lists of procedures is what is wrong with them
abbrev pub AreListsOf : (program : Forest) → List (ℕ × List (Option MarkKind)) → Type 0
AreListsOf program entries =
    (slot : ℕ) (offences : List (Option MarkKind)) (procedure : PlainNode)
    → lookup (nat_eq slot) entries ≡ Some offences → procedure_at program slot ≡ Some procedure
    → offences ≡ list_offences [] procedure.inner

-- what is wrong with the declared list in the node of this number of main or the procedure to which the path leads
-- first
abbrev pub offence_on : (program : Forest) → (path : List ℕ) → (k : ℕ) → Option MarkKind
offence_on program path k =
    option_and_then (λ procedure. option_flatten (slice_get (list_offences [] procedure.inner) k))
    (procedure_item_on program path)

-- the declared list stands in the node of this number of main or the procedure to which the path leads first
pub record IsListAt (phrase : PlainPhrase) (path : List ℕ) (k : ℕ) : Type 0 where
  pub items : List Item
  pub is_list : phrase ≡ PlainPhrase.declared_list items
  pub first : ℕ
  pub path_is : path ≡ first ∷ (k ∷ [])

-- whether a place is among those of phrases that are due for a check
abbrev pub is_due : PhraseAt → List PhraseAt → Bool
is_due at due = list_any (eq_by_cmp phrase_cmp at) due

-- the verdict that was made of the phrase at a place, among those that were checked
abbrev pub verdict_in : VerdictList → PhraseAt → Option (Option MarkKind)
verdict_in entries at = get (let verdicts : VerdictMap = from_entries entries in verdicts) at

-- the verdicts that were made are those of the phrases at the places, and no others
abbrev pub AreChecked : (program : Forest) → List PhraseAt → VerdictList → Type 0
AreChecked program due entries =
    (at : PhraseAt) → verdict_in entries at ≡ (if is_due at due then get (Verdicts program) at else None)

-- phrases that are due for a check stand at these places, and a table knows what is asked there
pub record IsDueIn (decls : PlainDecls) (program : Forest) (due : List PhraseAt) : Type 0 where
  pub filled : (at : PhraseAt) → Contains due at → is_some (get (Verdicts program) at) ≡ true
  pub known : (at : PhraseAt) (procedure : PlainNode) (phrase : PlainPhrase) → Contains due at
      → Stands program at procedure phrase → Knows decls program procedure phrase

-- of phrases that went the same places are kept
abbrev pub AreSamePlaces : List PhraseAt → List PhraseAt → Type 0
AreSamePlaces gone kept = (at : PhraseAt) → is_due at kept ≡ is_due at gone

-- the number is the second of a path of two
abbrev pub IsSecondOf : List ℕ → ℕ → Type 0
IsSecondOf path k = (first : ℕ) × (path ≡ first ∷ (k ∷ []))
