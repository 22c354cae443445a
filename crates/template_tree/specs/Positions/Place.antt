-- Places of a run: which there are, where a run begins that comes to a slot, and where it goes on.
use Rattle.std.specs.Prelude.{ℕ, Bool, true, false, not, ◌&&◌, ◌||◌, nat_lt, if◌then◌else◌, ◌==◌, List, [], ◌∷◌, length, Option, Some, None, option_map, IsTrue}
use Rattle.std.specs.Option.{option_or}
use Rattle.plcs_grammar.specs.declared.node_kind.NodeKind.{NodeKind}
use Rattle.plcs_grammar.specs.declared.node_kind.Sort.{Sort}
use Rattle.plcs_grammar.specs.declared.template.Template.{Template}
use Rattle.plcs_grammar.specs.PlainPhrase.{PlainPhrase}
use Rattle.plcs_grammar.specs.Template.{PlainSection, row_of}
use Rattle.template_tree.specs.Edits.ListItem.{is_list}
use Rattle.template_tree.specs.Programs.PlainTree.{Label, Forest}
use Rattle.template_tree.specs.Programs.Program.{sort_of}

-- a place of a run in a program: a slot, and a point in it
pub record PlainPlace : Type 0 where
  pub slot : ℕ
  pub point : ℕ

-- the place of a run at this point of a slot
abbrev pub place_at : ℕ → ℕ → PlainPlace
place_at slot point = record { slot = slot; point = point }

-- where a run goes on once what stands inside a template is done, if not where it goes on behind the template itself:
-- a While tests again, a For takes its next iteration, an Until tests, and a procedure is left
abbrev pub template_end : Template → Option ℕ
template_end Template.Fixed = None
template_end Template.Bit = None
template_end Template.Char = None
template_end Template.If = None
template_end Template.IfElse = None
template_end Template.While = Some 0
template_end Template.For = Some 1
template_end Template.Until = Some 1
template_end Template.Group = None
template_end Template.Get = None
template_end Template.Put = None
template_end Template.PutSkip = None
template_end Template.Call = None
template_end Template.Return = None
template_end Template.Comment = None
template_end Template.Proc = Some 1
template_end Template.ProcP = Some 1

-- where a run goes on once what stands inside a node of the kind is done, if not where it goes on behind the node
-- itself
abbrev pub inner_end : NodeKind → Option ℕ
inner_end NodeKind.DeclarationHole = None
inner_end NodeKind.StatementHole = None
inner_end NodeKind.ProcedureHole = None
inner_end NodeKind.Main = Some 1
inner_end NodeKind.Assign = None
inner_end (NodeKind.Filled template) = template_end template

-- the place where a run goes on once what stands inside the node in a slot is done: this point of it, or else behind it
abbrev pub end_at : ℕ → Option ℕ → PlainPlace → PlainPlace
end_at slot None behind = behind
end_at slot (Some point) behind = place_at slot point

-- whether a run that comes to the template goes to its first item at once: a group, a comment, or an Until
abbrev pub passes_in_template : Template → Bool
passes_in_template Template.Fixed = false
passes_in_template Template.Bit = false
passes_in_template Template.Char = false
passes_in_template Template.If = false
passes_in_template Template.IfElse = false
passes_in_template Template.While = false
passes_in_template Template.For = false
passes_in_template Template.Until = true
passes_in_template Template.Group = true
passes_in_template Template.Get = false
passes_in_template Template.Put = false
passes_in_template Template.PutSkip = false
passes_in_template Template.Call = false
passes_in_template Template.Return = false
passes_in_template Template.Comment = true
passes_in_template Template.Proc = false
passes_in_template Template.ProcP = false

-- whether a run that comes to a node of the kind goes to its first item at once
abbrev pub passes_in : NodeKind → Bool
passes_in NodeKind.DeclarationHole = false
passes_in NodeKind.StatementHole = false
passes_in NodeKind.ProcedureHole = false
passes_in NodeKind.Main = false
passes_in NodeKind.Assign = false
passes_in (NodeKind.Filled template) = passes_in_template template

-- whether a run that comes to nodes in order begins at a node of the sort; it passes over the others
abbrev pub begins_run : Sort → Bool
begins_run Sort.Main = false
begins_run Sort.Procedure = false
begins_run Sort.Declaration = false
begins_run Sort.Statement = true

-- whether the start of a node of the sort is a place of a run
abbrev pub has_start : Sort → Bool
has_start Sort.Main = false
has_start Sort.Procedure = false
has_start Sort.Declaration = false
has_start Sort.Statement = true

-- whether a run goes on behind a node of the sort once it has done that
abbrev pub goes_on_behind : Sort → Bool
goes_on_behind Sort.Main = false
goes_on_behind Sort.Procedure = false
goes_on_behind Sort.Declaration = false
goes_on_behind Sort.Statement = true

-- whether a run has its places in what stands in these sections one after the other, and not in one of it alone
abbrev pub in_turn : List PlainSection → Bool
in_turn [] = true
in_turn (section ∷ sections) = is_list section.amount && in_turn sections

-- where a run begins that comes to nodes in order: at the first that begins a run, or inside it; behind them where
-- there is none
abbrev pub begin : Forest → PlainPlace → PlainPlace
begin Forest.nil behind = behind
begin (Forest.cons label inner rest) behind =
    if begins_run (sort_of label.kind)
    then (if passes_in label.kind then begin inner behind else place_at label.slot 0)
    else begin rest behind

-- the site of a slot in a run: the node there, and where the run goes on once that is done
pub record Site : Type 0 where
  pub label : Label
  pub inner : Forest
  pub after : PlainPlace

-- the site of a slot among nodes, with where a run goes on after them: they are done in turn, or one of them alone
abbrev pub site_among : ℕ → Bool → Forest → PlainPlace → Option Site
site_among slot turn Forest.nil behind = None
site_among slot turn (Forest.cons label inner rest) behind =
    let after : PlainPlace = if turn then begin rest behind else behind in
    if label.slot == slot
    then Some record { label = label; inner = inner; after = after }
    else
    option_or
    (site_among slot (in_turn (row_of label.kind).sections) inner (end_at label.slot (inner_end label.kind) after))
    (site_among slot turn rest behind)

-- the site of a slot in a program; procedures are not done in turn, and nothing is done behind main
abbrev pub site : Forest → ℕ → Option Site
site items slot = site_among slot false items (place_at 0 1)

-- where a run begins that comes to the node at a site
abbrev pub site_start : Site → PlainPlace
site_start site = if passes_in site.label.kind then begin site.inner site.after else place_at site.label.slot 0

-- where a run begins that comes to the slot
abbrev pub Start : Forest → ℕ → Option PlainPlace
Start items slot = option_map site_start (site items slot)

-- the place where a run goes on once the statement in the slot is done
abbrev pub After : Forest → ℕ → Option PlainPlace
After items slot = option_map (λ site. site.after) (site items slot)

-- how many items the variable list in a GET has: a run has a place at each
abbrev pub item_count : List (Option PlainPhrase) → ℕ
item_count (Some (PlainPhrase.variable_list targets) ∷ parts) = length targets
item_count other = 0

-- whether a run has a place at the point of a node of the template, apart from its start; a GET whose phrase is marked
-- has none
abbrev pub has_template_point : Bool → Label → Template → ℕ → Bool
has_template_point marked label Template.Fixed point = false
has_template_point marked label Template.Bit point = false
has_template_point marked label Template.Char point = false
has_template_point marked label Template.If point = false
has_template_point marked label Template.IfElse point = false
has_template_point marked label Template.While point = false
has_template_point marked label Template.For point = point == 1
has_template_point marked label Template.Until point = point == 1
has_template_point marked label Template.Group point = false
has_template_point marked label Template.Get point = not marked && nat_lt point (item_count label.parts)
has_template_point marked label Template.Put point = false
has_template_point marked label Template.PutSkip point = false
has_template_point marked label Template.Call point = point == 1
has_template_point marked label Template.Return point = false
has_template_point marked label Template.Comment point = false
has_template_point marked label Template.Proc point = point == 1
has_template_point marked label Template.ProcP point = point == 1

-- whether a run has a place at the point of a node of the kind, apart from its start; a GET whose phrase is marked has
-- none
abbrev pub has_point : Bool → Label → NodeKind → ℕ → Bool
has_point marked label NodeKind.DeclarationHole point = false
has_point marked label NodeKind.StatementHole point = false
has_point marked label NodeKind.ProcedureHole point = false
has_point marked label NodeKind.Main point = point == 1
has_point marked label NodeKind.Assign point = false
has_point marked label (NodeKind.Filled template) point = has_template_point marked label template point

-- whether the place exists at the site of its slot, if the slot is live
abbrev pub place_exists_at : Bool → Option Site → ℕ → Bool
place_exists_at marked None point = false
place_exists_at marked (Some site) point =
    (has_start (sort_of site.label.kind) && (point == 0)) || has_point marked site.label site.label.kind point

-- the place of a run exists, where it is told of each slot whether the first phrase there is marked
abbrev pub Exists : (ℕ → Bool) → Forest → PlainPlace → Type 0
Exists marked items place = IsTrue (place_exists_at (marked place.slot) (site items place.slot) place.point)
