-- The places of phrases that are due for a check, as they are gathered.
use Rattle.std.specs.Prelude.{◌↔◌, ℕ, Bool, true, false, List, [], ◌++◌, Contains, Option, Some, None, bytes_eq}
use Rattle.std.specs.List.Sorted.{IsStrictlySortedBy}
use Rattle.std.specs.Map.{lookup}
use Rattle.plcs_base.specs.Mark.{phrase_cmp}
use Rattle.plcs_base.specs.declared.declared.Declared.{Declared}
use Rattle.plcs_base.specs.declared.place.PhraseAt.{PhraseAt}
use Rattle.plcs_grammar.specs.PlainPhrase.{PlainPhrase}
use Rattle.template_tree.specs.Programs.PlainTree.{PlainNode}
use Rattle.decl_table.specs.DeclEdit.{changed_or}
use Rattle.decl_table.specs.Due.{all_list_places, is_name_list, list_places}
use Rattle.decl_table.specs.PlainDecls.{PlainDecls, PlainUses, mentions_of}
use Rattle.decl_table.specs.Private.AffectedView.{IsGathered}
use Rattle.decl_table.specs.Private.ChangeBefore.{spots_of}
use Rattle.decl_table.specs.Private.PlainNameNode.{PlainNameNode}
use Rattle.decl_table.specs.Private.ReachView.{has_lists}
use Rattle.decl_table.specs.declared.reach.Reach.{Reach}

-- whether a declared list or a list of parameters, which may be due for a check, stands in a part
abbrev pub is_list_there : Option PlainPhrase → Bool
is_list_there None = false
is_list_there (Some phrase) = is_name_list phrase

-- the places of the phrases that mention a name once these uses are changed to those: all of them are due for a check
-- where the name is affected
abbrev pub uses_now : (uses changed : PlainUses) → (name : List ℕ) → List PhraseAt
uses_now uses changed name = changed_or (lookup (bytes_eq name) changed) (mentions_of name uses)

-- the places of the lists of names of the procedure of an edit, if they are due for a check and the procedure is there
abbrev pub due_lists : (are_due : Bool) → Option PlainNode → List PhraseAt
due_lists false procedure = []
due_lists true None = []
due_lists true (Some node) = list_places node.label.slot 0 node.label.parts ++ all_list_places node.inner

-- why a place is gathered of a phrase that is due for a check, by how far the edit reaches, what stood and stands there,
-- the table before it, the uses that it changes, and the items of the procedure before it and after it
pub data IsDueBy (reach : Reach) (part : Option ℕ) (stood stands : Option PlainNameNode) (decls : PlainDecls)
    (changed : PlainUses) (old new : List Declared) (procedure : Option PlainNode) (at : PhraseAt) : Type 0 where
  -- the edit put it in
  put_in : Contains (spots_of part stands) at
      → IsDueBy reach part stood stands decls changed old new procedure at
  -- it is a list of names of the procedure, and a declaration or a heading was changed
  listed : Contains (due_lists (has_lists reach) procedure) at
      → IsDueBy reach part stood stands decls changed old new procedure at
  -- it mentions a name that the edit affects
  affected : (name : List ℕ) → IsGathered reach part stood stands decls.headings old new procedure name
      → Contains (uses_now decls.uses changed name) at
      → IsDueBy reach part stood stands decls changed old new procedure at

-- these are the places that are gathered, in order of slot and part
pub record AreDueBy (reach : Reach) (part : Option ℕ) (stood stands : Option PlainNameNode) (decls : PlainDecls)
    (changed : PlainUses) (old new : List Declared) (procedure : Option PlainNode) (due : List PhraseAt) : Type 0 where
  pub increasing : IsStrictlySortedBy phrase_cmp due
  pub each : (at : PhraseAt)
      → Contains due at ↔ IsDueBy reach part stood stands decls changed old new procedure at
