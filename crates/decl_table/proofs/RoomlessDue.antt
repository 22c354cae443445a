-- Which phrases are due doesn't depend on the room of lists: none of the places and names of which it is told does.
use Rattle.std.proofs.Common.{◌≡◌, ◌↔◌, ℕ, Bool, true, false, List, [], ◌++◌, Option, Some, None, refl, ap, sym, subst, ◌∙◌, option_map}
use Rattle.std.specs.Prelude.{◌==◌, ◌||◌, if◌then◌else◌, Contains, flat_map}
use Rattle.std.specs.Option.{option_map_or, option_or}
use Rattle.plcs_base.specs.declared.place.PhraseAt.{PhraseAt}
use Rattle.plcs_grammar.specs.Template.{row_of}
use Rattle.template_tree.specs.declared.change.Change.{Change}
use Rattle.template_tree.specs.declared.change.What.{What}
use Rattle.template_tree.specs.Checks.Environment.{Items, Sig, item_named, procedure_at}
use Rattle.template_tree.specs.Checks.Mention.{mentions, phrase_at}
use Rattle.template_tree.specs.Laws.CheckLaws.{CheckAlike}
use Rattle.template_tree.specs.Positions.Place.{PlainPlace, Site, begin, begins_run, end_at, in_turn, inner_end, passes_in, place_at, site, site_among}
use Rattle.template_tree.specs.Programs.Part.{part_at}
use Rattle.template_tree.specs.Programs.PlainTree.{Forest, Label, PlainNode, roomless, roomless_node}
use Rattle.template_tree.specs.Programs.Program.{sort_of}
use Rattle.decl_table.specs.Due.{AreDue, IsAffected, IsDue, all_list_places, binds_at, binds_names, bound_names, changed_names, changed_places, changes_binding, filled_place, filled_places, list_places, part_names, phrase_places, procedure_lists}

-- ---- the site of a slot

begin_roomless : (items : Forest) (behind : PlainPlace) → begin (roomless items) behind ≡ begin items behind
begin_roomless Forest.nil behind = refl
begin_roomless (Forest.cons label inner rest) behind =
    λ i. if begins_run (sort_of label.kind)
    then (if passes_in label.kind then begin_roomless inner behind i else place_at label.slot 0)
    else begin_roomless rest behind i

abbrev roomless_site : Site → Site
roomless_site found =
    record { label = record found.label { spare = 0 }; inner = roomless found.inner; after = found.after }

either : (within behind : Option Site)
    → option_or (option_map roomless_site within) (option_map roomless_site behind)
    ≡ option_map roomless_site (option_or within behind)
either None behind = refl
either (Some found) behind = refl

-- the site of a slot among nodes, by whether the first one is in the slot
abbrev chosen : Bool → Label → (inner : Forest) (after : PlainPlace) → (within behind : Option Site) → Option Site
chosen here label inner after within behind =
    if here then Some record { label = label; inner = inner; after = after } else option_or within behind

first_roomless : (here : Bool) (label : Label) (inner : Forest) (after : PlainPlace) (within within' behind behind' : Option Site)
    → within' ≡ option_map roomless_site within → behind' ≡ option_map roomless_site behind
    → chosen here (record label { spare = 0 }) (roomless inner) after within' behind'
    ≡ option_map roomless_site (chosen here label inner after within behind)
first_roomless true label inner after within within' behind behind' e f = refl
first_roomless false label inner after within within' behind behind' e f =
    (λ i. option_or (e i) (f i)) ∙ either within behind

site_roomless : (slot : ℕ) (turn : Bool) (items : Forest) (behind : PlainPlace)
    → site_among slot turn (roomless items) behind ≡ option_map roomless_site (site_among slot turn items behind)
site_roomless slot turn Forest.nil behind = refl
site_roomless slot turn (Forest.cons label inner rest) behind =
    let turns = in_turn (row_of label.kind).sections in
    let after : PlainPlace = if turn then begin rest behind else behind in
    let last = end_at label.slot (inner_end label.kind) after in
    ap
    (λ (p : PlainPlace).
    chosen (label.slot == slot) (record label { spare = 0 }) (roomless inner) p
    (site_among slot turns (roomless inner) (end_at label.slot (inner_end label.kind) p))
    (site_among slot turn (roomless rest) behind))
    (λ i. if turn then begin_roomless rest behind i else behind)
    ∙ first_roomless (label.slot == slot) label inner after (site_among slot turns inner last)
    (site_among slot turns (roomless inner) last) (site_among slot turn rest behind)
    (site_among slot turn (roomless rest) behind) (site_roomless slot turns inner last)
    (site_roomless slot turn rest behind)

-- what is told of a site without looking at room
told : {A : Type 0} (tell : Site → A) (none : A) → ((found : Site) → tell (roomless_site found) ≡ tell found)
    → (program : Forest) (slot : ℕ)
    → option_map_or tell (site (roomless program) slot) none ≡ option_map_or tell (site program slot) none
told tell none same program slot =
    ap (λ (o : Option Site). option_map_or tell o none) (site_roomless slot false program (place_at 0 1))
    ∙ by (site program slot)
  where
    by : (found : Option Site) → option_map_or tell (option_map roomless_site found) none ≡ option_map_or tell found none
    by None = refl
    by (Some found) = same found

-- ---- places and names

places_roomless : (items : Forest) → phrase_places (roomless items) ≡ phrase_places items
places_roomless Forest.nil = refl
places_roomless (Forest.cons label inner rest) =
    λ i. filled_places label.slot 0 label.parts ++ (places_roomless inner i ++ places_roomless rest i)

bound_roomless : (items : Forest) → bound_names (roomless items) ≡ bound_names items
bound_roomless Forest.nil = refl
bound_roomless (Forest.cons label inner rest) =
    λ i.
    (if binds_names (sort_of label.kind) then flat_map part_names label.parts ++ bound_roomless inner i else [])
    ++ bound_roomless rest i

lists_roomless : (items : Forest) → all_list_places (roomless items) ≡ all_list_places items
lists_roomless Forest.nil = refl
lists_roomless (Forest.cons label inner rest) =
    ap (λ (ps : List PhraseAt). list_places label.slot 0 label.parts ++ ps) (lists_roomless rest)

whole_places : (found : Site)
    → phrase_places (Forest.cons (roomless_site found).label (roomless_site found).inner Forest.nil)
    ≡ phrase_places (Forest.cons found.label found.inner Forest.nil)
whole_places found = places_roomless (Forest.cons found.label found.inner Forest.nil)

pub changed_roomless : (what : What) (slot : ℕ) (program : Forest)
    → changed_places what slot (roomless program) ≡ changed_places what slot program
changed_roomless (What.Part part) slot program =
    told (λ found. filled_place (phrase_at slot part) (part_at found.label.parts part)) [] (λ found. refl) program slot
changed_roomless What.Node slot program =
    told (λ found. phrase_places (Forest.cons found.label found.inner Forest.nil)) [] whole_places program slot
changed_roomless What.Added slot program =
    told (λ found. phrase_places (Forest.cons found.label found.inner Forest.nil)) [] whole_places program slot
changed_roomless What.Dropped slot program =
    told (λ found. phrase_places (Forest.cons found.label found.inner Forest.nil)) [] whole_places program slot

whole_names : (found : Site)
    → bound_names (Forest.cons (roomless_site found).label (roomless_site found).inner Forest.nil)
    ≡ bound_names (Forest.cons found.label found.inner Forest.nil)
whole_names found = bound_roomless (Forest.cons found.label found.inner Forest.nil)

pub names_roomless : (what : What) (slot : ℕ) (program : Forest)
    → changed_names what slot (roomless program) ≡ changed_names what slot program
names_roomless (What.Part part) slot program =
    told (λ found. bound_names (Forest.cons found.label Forest.nil Forest.nil)) [] (λ found. refl) program slot
names_roomless What.Node slot program =
    told (λ found. bound_names (Forest.cons found.label found.inner Forest.nil)) [] whole_names program slot
names_roomless What.Added slot program =
    told (λ found. bound_names (Forest.cons found.label found.inner Forest.nil)) [] whole_names program slot
names_roomless What.Dropped slot program =
    told (λ found. bound_names (Forest.cons found.label found.inner Forest.nil)) [] whole_names program slot

pub binds_roomless : (program : Forest) (slot : ℕ) → binds_at (roomless program) slot ≡ binds_at program slot
binds_roomless program slot = told (λ found. binds_names (sort_of found.label.kind)) false (λ found. refl) program slot

-- the lists of a procedure, if one is there
abbrev lists_of : Option PlainNode → List PhraseAt
lists_of found =
    option_map_or (λ (node : PlainNode). list_places node.label.slot 0 node.label.parts ++ all_list_places node.inner) found []

procedure_roomless : (program : Forest) (slot : ℕ)
    → procedure_at (roomless program) slot ≡ option_map roomless_node (procedure_at program slot)
procedure_roomless Forest.nil slot = refl
procedure_roomless (Forest.cons label inner rest) slot = by (label.slot == slot) (procedure_roomless rest slot)
  where
    by : (b : Bool) → procedure_at (roomless rest) slot ≡ option_map roomless_node (procedure_at rest slot)
        → (if b then Some record { label = record label { spare = 0 }; inner = roomless inner } else procedure_at (roomless rest) slot)
        ≡ option_map roomless_node (if b then Some record { label = label; inner = inner } else procedure_at rest slot)
    by true others = refl
    by false others = others

pub procedure_lists_roomless : (program : Forest) (slot : ℕ) → procedure_lists (roomless program) slot ≡ procedure_lists program slot
procedure_lists_roomless program slot = ap lists_of (procedure_roomless program slot) ∙ by (procedure_at program slot)
  where
    by : (found : Option PlainNode) → lists_of (option_map roomless_node found) ≡ lists_of found
    by None = refl
    by (Some node) = ap (λ (ps : List PhraseAt). list_places node.label.slot 0 node.label.parts ++ ps) (lists_roomless node.inner)

-- ---- edits of which the same is told

record ToldAlike (change : Change) (before after before' after' : Forest) : Type 0 where
  places : changed_places change.what change.slot.0 after ≡ changed_places change.what change.slot.0 after'
  binding : changes_binding before after change.slot.0 ≡ changes_binding before' after' change.slot.0
  lists : procedure_lists after change.procedure.0 ≡ procedure_lists after' change.procedure.0
  mentioned : (name : List ℕ) → mentions name after ≡ mentions name after'
  stood : changed_names change.what change.slot.0 before ≡ changed_names change.what change.slot.0 before'
  stands : changed_names change.what change.slot.0 after ≡ changed_names change.what change.slot.0 after'
  items_before : (slot : ℕ) → Items before slot ≡ Items before' slot
  items_after : (slot : ℕ) → Items after slot ≡ Items after' slot
  headings_before : (name : List ℕ) → Sig before name ≡ Sig before' name
  headings_after : (name : List ℕ) → Sig after name ≡ Sig after' name

module _ (change : Change) (before after before' after' : Forest) (alike : ToldAlike change before after before' after') where
  affected_alike : (name : List ℕ) → IsAffected before after change name → IsAffected before' after' change name
  affected_alike name (IsAffected.stood there) =
      IsAffected.stood (subst (λ (names : List (List ℕ)). Contains names name) alike.stood there)
  affected_alike name (IsAffected.stands there) =
      IsAffected.stands (subst (λ (names : List (List ℕ)). Contains names name) alike.stands there)
  affected_alike name (IsAffected.declared slot differs) =
      IsAffected.declared slot
      (λ same. differs
      (ap (item_named name) (alike.items_before slot) ∙ same ∙ sym (ap (item_named name) (alike.items_after slot))))
  affected_alike name (IsAffected.headed differs) =
      IsAffected.headed (λ same. differs (alike.headings_before name ∙ same ∙ sym (alike.headings_after name)))

  due_alike : (at : PhraseAt) → IsDue before after change at → IsDue before' after' change at
  due_alike at (IsDue.put_in there) = IsDue.put_in (subst (λ (ps : List PhraseAt). Contains ps at) alike.places there)
  due_alike at (IsDue.listed changed there) =
      IsDue.listed (sym alike.binding ∙ changed) (subst (λ (ps : List PhraseAt). Contains ps at) alike.lists there)
  due_alike at (IsDue.affected name affected there) =
      IsDue.affected name (affected_alike name affected)
      (subst (λ (ps : List PhraseAt). Contains ps at) (alike.mentioned name) there)

told_back : (change : Change) (before after before' after' : Forest) → ToldAlike change before after before' after'
    → ToldAlike change before' after' before after
told_back change before after before' after' alike =
    record {
      places = sym alike.places;
      binding = sym alike.binding;
      lists = sym alike.lists;
      mentioned = λ name. sym (alike.mentioned name);
      stood = sym alike.stood;
      stands = sym alike.stands;
      items_before = λ slot. sym (alike.items_before slot);
      items_after = λ slot. sym (alike.items_after slot);
      headings_before = λ name. sym (alike.headings_before name);
      headings_after = λ name. sym (alike.headings_after name);
    }

-- ---- the law

pub due_roomless : (before after : Forest) (change : Change) (due : List PhraseAt) → CheckAlike (roomless before) before
    → CheckAlike (roomless after) after
    → AreDue (roomless before) (roomless after) change due ↔ AreDue before after change due
due_roomless before after change due was is = (
  λ are. record {
    increasing = are.increasing;
    each = λ at. (λ there. onward at ((are.each at).0 there), λ due. (are.each at).1 (back at due));
  },
  λ are. record {
    increasing = are.increasing;
    each = λ at. (λ there. back at ((are.each at).0 there), λ due. (are.each at).1 (onward at due));
  },
)
  where
    alike : ToldAlike change (roomless before) (roomless after) before after
    alike =
        record {
          places = changed_roomless change.what change.slot.0 after;
          binding = λ i. binds_roomless before change.slot.0 i || binds_roomless after change.slot.0 i;
          lists = procedure_lists_roomless after change.procedure.0;
          mentioned = is.mentions;
          stood = names_roomless change.what change.slot.0 before;
          stands = names_roomless change.what change.slot.0 after;
          items_before = was.items;
          items_after = is.items;
          headings_before = was.headings;
          headings_after = is.headings;
        }

    onward : (at : PhraseAt) → IsDue (roomless before) (roomless after) change at → IsDue before after change at
    onward = due_alike change (roomless before) (roomless after) before after alike

    back : (at : PhraseAt) → IsDue before after change at → IsDue (roomless before) (roomless after) change at
    back =
        due_alike change before after (roomless before) (roomless after)
        (told_back change (roomless before) (roomless after) before after alike)
