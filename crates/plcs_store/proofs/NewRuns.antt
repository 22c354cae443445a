-- A new run of a tree fits it: its one frame is of main, where a run begins there.
use Rattle.std.specs.Prelude.{◌≡◌, refl, ℕ, zero, suc, ◌≤◌, ◌==◌, ◌&&◌, ◌||◌, Bool, true, false, if◌then◌else◌, List, [], ◌∷◌, ◌++◌, map, slice_get, IsTrue, Option, Some, option_map, unwrap_or, All}
use Rattle.std.proofs.Common.{ap, sym, ◌∙◌, subst, arith, inl, inr}
use Rattle.std.proofs.Math.Bool.{false≢true}
use Rattle.std.proofs.lemmas.Bool.{eq-eqb}
use Rattle.std.proofs.lemmas.Option.{none-some}
use Rattle.plcs_base.specs.declared.declared.Declared.{Declared}
use Rattle.plcs_grammar.specs.declared.node_kind.NodeKind.{NodeKind}
use Rattle.plcs_grammar.specs.declared.node_kind.Sort.{Sort}
use Rattle.plcs_grammar.specs.declared.template.Template.{Template}
use Rattle.plcs_grammar.specs.Template.{program_sections, row_of}
use Rattle.template_tree.specs.Checks.Environment.{Items, items_inside, kind_of_type, procedure_at}
use Rattle.template_tree.specs.Positions.Place.{PlainPlace, Site, begin, has_point, has_start, place_at, place_exists_at}
use Rattle.template_tree.specs.Programs.PlainTree.{Forest, Label, PlainNode}
use Rattle.template_tree.specs.Programs.Program.{Fill, IsProgram, sort_of, sorts}
use Rattle.template_tree.specs.Programs.Slots.{times}
use Rattle.tree_steps.specs.AgreementLaws.{SlotsStandOnce}
use Rattle.tree_steps.specs.PlaceLaws.{OthersBeginThemselves, SitesStand, StandingSlotsHaveSites}
use Rattle.tree_steps.specs.RunPlace.{HasPlace, is_first_marked}
use Rattle.tree_steps.specs.StandingSlot.{Around, StandsInside, loop_by_kind, loops_around}
use Rattle.plcs_store.specs.declared.cell.Cell.{Cell}
use Rattle.plcs_store.specs.declared.frame.Frame.{Frame}
use Rattle.plcs_store.specs.declared.variable.Variable.{Variable}
use Rattle.plcs_store.specs.CellAt.{unset_named, variable_named}
use Rattle.plcs_store.specs.Fits.{AreVariables, Fits, HasLoops, HoldsRight, ValuesFit, is_waiting_place, loops_at}
use Rattle.plcs_store.specs.NewFrame.{First, new_frame}
use Rattle.plcs_store.specs.StepLaws.{NewRunsFit}
use Rattle.plcs_store.proofs.FirstPlace.{BeginsIn, begins_in, procedure_begins}
use Rattle.plcs_store.proofs.NewCells.{names_distinct, unset_cell, unset_found, unset_variables}

-- ---- main is the first node

abbrev is_main : Sort → Bool
is_main Sort.Main = true
is_main other = false

template_not_main : (template : Template) → is_main (sort_of (NodeKind.Filled template)) ≡ false
template_not_main Template.Fixed = refl
template_not_main other = refl

main_kind : (kind : NodeKind) → is_main (sort_of kind) ≡ true → kind ≡ NodeKind.Main
main_kind NodeKind.Main e = refl
main_kind (NodeKind.Filled template) e = absurd (false≢true (sym (template_not_main template) ∙ e))
main_kind other e = absurd (false≢true e)

abbrev first_is_main : List Sort → Bool
first_is_main [] = false
first_is_main (sort ∷ others) = is_main sort

main_first : (items : List Sort) → Fill program_sections items → first_is_main items ≡ true
main_first items (own, others, same, are, rest) =
    ap first_is_main same ∙ ap (λ (front : List Sort). first_is_main (front ++ others)) are

-- ---- parts of the proof

single : {X : Type 0} (P : X → Type 0) (x : X) → P x → All P (x ∷ [])
single P x h zero d few = h
single P x h (suc k) d few = absurd (omega (arith, few))

template_starts_no_wait : (template : Template) → is_waiting_place (NodeKind.Filled template) 0 ≡ false
template_starts_no_wait Template.Call = refl
template_starts_no_wait other = refl

-- no start waits
pub starts_no_wait : (kind : NodeKind) → is_waiting_place kind 0 ≡ false
starts_no_wait (NodeKind.Filled template) = template_starts_no_wait template
starts_no_wait other = refl

-- what has a start has a place at point 0
pub start_point : (sort : Sort) (others : Bool) → has_start sort ≡ true → IsTrue ((has_start sort && true) || others)
start_point sort others e = ap (λ (starts : Bool). (starts && true) || others) e

-- the variables of the frame are those of main
own_items : (label : Label) (inner rest : Forest) → Items (Forest.cons label inner rest) label.slot ≡ items_inside inner
own_items label inner rest =
    ap (λ (here : Bool). unwrap_or (option_map (λ (node : PlainNode). items_inside node.inner)
    (if here then Some record { label = label; inner = inner } else procedure_at rest label.slot)) []) (eq-eqb label.slot label.slot refl)

-- what an only frame holds, whose variables aren't set
unset_values : (frame : Frame) (items : List Declared) → frame.cells ≡ map unset_named items → ValuesFit (frame ∷ [])
unset_values frame items cells zero element name variable cell there held =
    let found = unset_found name items variable (ap (variable_named name) (sym cells) ∙ there) in
    let unset : cell ≡ Cell.Unset = unset_cell found.0 element cell (ap (λ (one : Variable). slice_get one.cells element) (sym found.1) ∙ held) in
    subst (HoldsRight (frame ∷ []) 0 (kind_of_type variable.ty)) (sym unset) tt
unset_values frame items cells (suc k) element name variable cell there held = absurd (none-some variable there)

module _ (found : SitesStand) (standing : StandingSlotsHaveSites) (others : OthersBeginThemselves) (once : SlotsStandOnce) where
  -- a place where a run begins is one of the program
  begins_exist : (items : Forest) (place : PlainPlace) (kind : NodeKind) (around : Around) → times place.slot items ≤ 1
      → place.point ≡ 0 → StandsInside items place.slot kind around → has_start (sort_of kind) ≡ true → HasPlace items place
  begins_exist items place kind around few start stands starts =
      let has = standing items place.slot kind around stands in
      let one : Site = has.0 in
      let there = found items place.slot one has.1 in
      let same = once items place.slot one.label.kind kind there.1 around few there.2 stands in
      let marked : Bool = is_first_marked items place.slot in
      subst (λ (site : Option Site). IsTrue (place_exists_at marked site place.point)) (sym has.1)
      (subst (λ (point : ℕ). IsTrue (place_exists_at marked (Some one) point)) (sym start)
      (start_point (sort_of one.label.kind) (has_point marked one.label one.label.kind 0)
      (ap (λ (own : NodeKind). has_start (sort_of own)) same.0 ∙ starts)))

  -- the loops round the first place of main are none
  no_loops : (items : Forest) (place : PlainPlace) (kind : NodeKind) (around : Around) → times place.slot items ≤ 1
      → place.point ≡ 0 → StandsInside items place.slot kind around → loops_around around ≡ []
      → (other_kind : NodeKind) (other : Around) → StandsInside items place.slot other_kind other → [] ≡ loops_at other_kind other place
  no_loops items place kind around few start stands none other_kind other also =
      let same = once items place.slot kind other_kind around other few stands also in
      let own : List ℕ = if place.point == 1 then loop_by_kind other_kind place.slot else [] in
      let outer : loops_around other ≡ [] = ap loops_around (sym same.1) ∙ none in
      let inner : own ≡ [] = ap (λ (point : ℕ). if point == 1 then loop_by_kind other_kind place.slot else []) start in
      sym (ap (λ (loops : List ℕ). loops ++ own) outer ∙ inner)

  main_fits : (label : Label) (inner rest : Forest) → ((slot : ℕ) → times slot (Forest.cons label inner rest) ≤ 1)
      → label.kind ≡ NodeKind.Main → BeginsIn (label.slot, label.kind) [] inner (begin inner (place_at label.slot 1))
      → Fits (Forest.cons label inner rest) (First (Forest.cons label inner rest))
  main_fits label inner rest few main begins =
      let items : Forest = Forest.cons label inner rest in
      let place : PlainPlace = begin inner (place_at label.slot 1) in
      let frame : Frame = new_frame label.slot place (map unset_named (items_inside inner)) in
      let stands : StandsInside items place.slot begins.kind begins.within = inr (inl begins.stands) in
      record {
        frames =
            record {
              some = omega arith;
              few = omega arith;
              main = refl;
              stand = (
                (
                  begins.kind,
                  begins.within,
                  record {
                    stands = stands;
                    exists = begins_exist items place begins.kind begins.within (few place.slot) begins.start stands begins.starts;
                    procedure = begins.procedure;
                    waiting = ap (is_waiting_place begins.kind) begins.start ∙ starts_no_wait begins.kind;
                  },
                ),
                λ start.
                    others items place.slot begins.kind begins.within (few place.slot) stands begins.stays
                    ∙ ap (λ (point : ℕ). Some (place_at place.slot point)) (sym begins.start),
              );
            };
        cells =
            single (λ (one : Frame). AreVariables (Items items one.procedure.0) one.cells) frame
            (subst (λ (own : List Declared). AreVariables own (map unset_named (items_inside inner))) (sym (own_items label inner rest))
            (unset_variables (items_inside inner) (names_distinct inner)));
        loops =
            single (HasLoops items) frame
            (no_loops items place begins.kind begins.within (few place.slot) begins.start stands
            (begins.loops ∙ ap (λ (kind : NodeKind). loop_by_kind kind label.slot) main));
        values = unset_values frame (items_inside inner) refl;
      }

  program_fits : (items : Forest) → IsProgram items → ((slot : ℕ) → times slot items ≤ 1) → Fits items (First items)
  program_fits Forest.nil program few = absurd (false≢true (main_first [] program.listed))
  program_fits (Forest.cons label inner rest) program few =
      let main : label.kind ≡ NodeKind.Main = main_kind label.kind (main_first (sorts (Forest.cons label inner rest)) program.listed) in
      main_fits label inner rest few main
      (begins_in (label.slot, label.kind) [] inner (place_at label.slot 1) program.sound.1
      (procedure_begins (sorts inner)
      (subst (λ (kind : NodeKind). Fill (row_of kind).sections (sorts inner)) main program.sound.0.inner)))

  pub new_runs_fit : NewRunsFit
  new_runs_fit tree is = program_fits tree.items is.program is.once
