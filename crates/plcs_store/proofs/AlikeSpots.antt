-- What stands at a place, what a call needs and where a run begins look at the substance of a program and at its marks
-- alone; so runs begin and step alike in programs of the same substance that check alike.
use Rattle.std.specs.Prelude.{◌≡◌, refl, ℕ, zero, suc, Bool, if◌then◌else◌, List, [], ◌∷◌, map, Option, Some, None, is_some, option_and_then, option_map}
use Rattle.std.specs.FinMap.{get}
use Rattle.std.specs.List.{list_all}
use Rattle.std.proofs.Common.{ap, sym, ◌∙◌}
use Rattle.plcs_grammar.specs.declared.node_kind.NodeKind.{NodeKind}
use Rattle.plcs_grammar.specs.declared.template.Template.{Template}
use Rattle.template_tree.specs.Checks.Environment.{Heading, Sig, Signature, heading_of, procedure_at}
use Rattle.template_tree.specs.Checks.Marks.{is_phrase_marked, offences}
use Rattle.template_tree.specs.Checks.Mention.{phrase_at}
use Rattle.template_tree.specs.Laws.CheckLaws.{CheckAlike}
use Rattle.template_tree.specs.Positions.Place.{PlainPlace, Site, begin, place_at, site}
use Rattle.template_tree.specs.Programs.PlainTree.{Forest, PlainNode}
use Rattle.tree_steps.specs.EditStep.{substance}
use Rattle.tree_steps.specs.RunPlace.{SitesAlike, site_substance}
use Rattle.plcs_store.specs.declared.frame.Frame.{Frame}
use Rattle.plcs_store.specs.CellAt.{unset_named}
use Rattle.plcs_store.specs.Configuration.{PlainConfiguration}
use Rattle.plcs_store.specs.NewFrame.{First, first_frames, new_frame}
use Rattle.plcs_store.specs.Spot.{Callee, Spot, at_one, behind_first, callee_named, callee_of, callee_with, for_spot, iteration_spot, needing, point_spot, site_spot, spot_at, start_spot, template_point, template_start, test_spot}
use Rattle.plcs_store.specs.Step.{Step, step_by}
use Rattle.plcs_store.proofs.Substances.{begin_same, inside_same, node_substance, procedures_seen}

-- ---- new runs

frames_same : (program : Forest) → first_frames (substance program) ≡ first_frames program
frames_same Forest.nil = refl
frames_same (Forest.cons label inner rest) =
    λ i. new_frame label.slot (begin_same inner (place_at label.slot 1) i) (map unset_named (inside_same inner i)) ∷ []

pub first_same : (one other : Forest) → substance one ≡ substance other → First one ≡ First other
first_same one other e =
    ap (λ (frames : List Frame). let c : PlainConfiguration = record { frames = frames; taken = 0; output = [] } in c)
    (sym (frames_same one) ∙ (ap first_frames e ∙ frames_same other))

-- ---- what a call needs

called_same : (node : PlainNode) (heading : Heading) → callee_with (node_substance node) heading ≡ callee_with node heading
called_same node heading =
    λ i.
    let callee : Callee = record {
      slot = node.label.slot;
      start = begin_same node.inner (place_at node.label.slot 1) i;
      parameters = heading.parameters;
      items = inside_same node.inner i;
    } in
    callee

callee_same : (signature : Signature) (found : Option PlainNode)
    → option_and_then (callee_of signature) (option_map node_substance found) ≡ option_and_then (callee_of signature) found
callee_same signature None = refl
callee_same signature (Some node) =
    λ i. if list_all is_some signature.parameters
    then option_map (λ (heading : Heading). called_same node heading i) (heading_of node.label.kind node.label.parts) else None

callees_same : (one other : Forest) → substance one ≡ substance other → ((name : List ℕ) → Sig one name ≡ Sig other name)
    → (name : List ℕ) → callee_named one name ≡ callee_named other name
callees_same one other e headings name =
    (λ i.
    option_and_then
    (λ (signature : Signature). procedures_seen (option_and_then (callee_of signature)) (callee_same signature) one other e signature.slot i)
    (Sig one name))
    ∙ ap
    (option_and_then (λ (signature : Signature). option_and_then (callee_of signature) (procedure_at other signature.slot))) (headings name)

-- ---- what stands at a site

second_same : (inner : Forest) (after : PlainPlace) → begin (behind_first (substance inner)) after ≡ begin (behind_first inner) after
second_same Forest.nil after = refl
second_same (Forest.cons label inner rest) after = begin_same rest after

module _ (marked : ℕ → Bool) (callees : List ℕ → Option Callee) (found : Site) where
  template_start_same : (template : Template)
      → template_start marked callees (site_substance found) template ≡ template_start marked callees found template
  template_start_same Template.Fixed = refl
  template_start_same Template.Bit = refl
  template_start_same Template.Char = refl
  template_start_same Template.If =
      λ i. needing marked found.label.parts (0 ∷ []) (test_spot found.label.parts (begin_same found.inner found.after i) found.after)
  template_start_same Template.IfElse =
      λ i. needing marked found.label.parts (0 ∷ [])
      (test_spot found.label.parts (begin_same found.inner found.after i) (second_same found.inner found.after i))
  template_start_same Template.While =
      λ i. needing marked found.label.parts (0 ∷ [])
      (test_spot found.label.parts (begin_same found.inner (place_at found.label.slot 0) i) found.after)
  template_start_same Template.For =
      λ i. needing marked found.label.parts (0 ∷ (1 ∷ (2 ∷ (3 ∷ []))))
      (for_spot found.label.slot found.label.parts (begin_same found.inner (place_at found.label.slot 1) i) found.after)
  template_start_same Template.Until = refl
  template_start_same Template.Group = refl
  template_start_same Template.Get = refl
  template_start_same Template.Put = refl
  template_start_same Template.PutSkip = refl
  template_start_same Template.Call = refl
  template_start_same Template.Return = refl
  template_start_same Template.Comment = refl
  template_start_same Template.Proc = refl
  template_start_same Template.ProcP = refl

  start_same : (kind : NodeKind) → start_spot marked callees (site_substance found) kind ≡ start_spot marked callees found kind
  start_same NodeKind.DeclarationHole = refl
  start_same NodeKind.StatementHole = refl
  start_same NodeKind.ProcedureHole = refl
  start_same NodeKind.Main = refl
  start_same NodeKind.Assign = refl
  start_same (NodeKind.Filled template) = template_start_same template

  template_point_same : (point : ℕ) (template : Template)
      → template_point marked (site_substance found) point template ≡ template_point marked found point template
  template_point_same point Template.Fixed = refl
  template_point_same point Template.Bit = refl
  template_point_same point Template.Char = refl
  template_point_same point Template.If = refl
  template_point_same point Template.IfElse = refl
  template_point_same point Template.While = refl
  template_point_same point Template.For =
      λ i. at_one point
      (needing marked found.label.parts (0 ∷ [])
      (iteration_spot found.label.slot found.label.parts (begin_same found.inner (place_at found.label.slot 1) i) found.after))
  template_point_same point Template.Until =
      λ i. at_one point
      (needing marked found.label.parts (0 ∷ [])
      (test_spot found.label.parts found.after (begin_same found.inner (place_at found.label.slot 1) i)))
  template_point_same point Template.Group = refl
  template_point_same point Template.Get = refl
  template_point_same point Template.Put = refl
  template_point_same point Template.PutSkip = refl
  template_point_same point Template.Call = refl
  template_point_same point Template.Return = refl
  template_point_same point Template.Comment = refl
  template_point_same point Template.Proc = refl
  template_point_same point Template.ProcP = refl

  point_same : (point : ℕ) (kind : NodeKind) → point_spot marked (site_substance found) point kind ≡ point_spot marked found point kind
  point_same point NodeKind.DeclarationHole = refl
  point_same point NodeKind.StatementHole = refl
  point_same point NodeKind.ProcedureHole = refl
  point_same point NodeKind.Main = refl
  point_same point NodeKind.Assign = refl
  point_same point (NodeKind.Filled template) = template_point_same point template

  site_same : (point : ℕ) → site_spot marked callees (site_substance found) point ≡ site_spot marked callees found point
  site_same zero = start_same found.label.kind
  site_same (suc point) = point_same (suc point) found.label.kind

-- ---- what stands at a place

-- what stands at a point of what is found
abbrev spot_of : (marked : ℕ → Bool) → (callees : List ℕ → Option Callee) → (point : ℕ) → Option Site → Option Spot
spot_of marked callees point found = option_and_then (λ (s : Site). site_spot marked callees s point) found

found_same : (marked : ℕ → Bool) (callees : List ℕ → Option Callee) (point : ℕ) (found : Option Site)
    → spot_of marked callees point (option_map site_substance found) ≡ spot_of marked callees point found
found_same marked callees point None = refl
found_same marked callees point (Some found) = site_same marked callees found point

marked_same : (one other : Forest) → CheckAlike one other → (slot : ℕ) → is_phrase_marked one slot ≡ is_phrase_marked other slot
marked_same one other checks slot =
    λ i part. is_some (get (offences (checks.verdicts i)) (phrase_at slot part))

spot_same : (one other : Forest) → substance one ≡ substance other → CheckAlike one other → SitesAlike one other → (place : PlainPlace)
    → spot_at one place ≡ spot_at other place
spot_same one other e checks sites place =
    let marked : ℕ → Bool = is_phrase_marked one place.slot in
    let callees : List ℕ → Option Callee = callee_named one in
    sym (found_same marked callees place.point (site one place.slot))
    ∙ (ap (spot_of marked callees place.point) (sites.sites place.slot)
    ∙ (found_same marked callees place.point (site other place.slot)
    ∙ (λ i.
    spot_of (marked_same one other checks place.slot i) (λ (name : List ℕ). callees_same one other e checks.headings name i) place.point
    (site other place.slot))))

pub step_same : (one other : Forest) → substance one ≡ substance other → CheckAlike one other → SitesAlike one other
    → (input : List ℕ) (c : PlainConfiguration) → Step one input c ≡ Step other input c
step_same one other e checks sites input c =
    λ i. step_by (λ (place : PlainPlace). spot_same one other e checks sites place i) input c
