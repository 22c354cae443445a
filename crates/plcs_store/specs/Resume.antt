-- When a suspended run may be resumed in a program that was edited.
use Rattle.std.specs.Prelude.{◌≡◌, ◌≢◌, ◌⊎◌, ℕ, ◌==◌, Bool, true, false, if◌then◌else◌, List, [], ◌∷◌, map, Option, Some, None, option_map, unwrap_or}
use Rattle.plcs_base.specs.declared.declared.Declared.{Declared}
use Rattle.plcs_grammar.specs.declared.node_kind.NodeKind.{NodeKind}
use Rattle.plcs_grammar.specs.declared.template.Template.{Template}
use Rattle.plcs_grammar.specs.PlainPhrase.{PlainPhrase}
use Rattle.template_tree.specs.Checks.Environment.{Items, procedure_at}
use Rattle.template_tree.specs.Positions.Place.{PlainPlace, Start, site}
use Rattle.template_tree.specs.Programs.PlainTree.{Forest}
use Rattle.plcs_store.specs.declared.frame.Frame.{Frame}
use Rattle.plcs_store.specs.declared.held_template.HeldTemplate.{HeldTemplate}
use Rattle.plcs_store.specs.declared.kept.Kept.{Kept}
use Rattle.plcs_store.specs.declared.refusal.ResumeRefusal.{ResumeRefusal}
use Rattle.plcs_store.specs.Act.{with_newest}
use Rattle.plcs_store.specs.Configuration.{PlainConfiguration, frame_at, frame_place}

-- the parts of a heading, which must be as when the run was suspended: main's, a procedure's or a hole's
abbrev pub Parts : Type 0
Parts = List (Option PlainPhrase)

-- the parts of the heading of the procedure in the slot, if it stands
abbrev pub heading_parts : (program : Forest) → (slot : ℕ) → Option Parts
heading_parts program slot = option_map (λ node. node.label.parts) (procedure_at program slot)

-- the kind and the parts of what stands in the slot, if it is live
abbrev pub template_held : (program : Forest) → (slot : ℕ) → Option HeldTemplate
template_held program slot =
    option_map (λ found. record { kind = found.label.kind; parts = found.label.parts }) (site program slot)

-- ---- what is kept

-- what is kept of the program, by which the suspended run may be resumed once that was edited, for the frames of a
-- configuration from main upward: the phrases of the heading of each one's procedure, the effective items there, and
-- the kind and the parts of what stands in the slot of its place
pub record IsKeptOf (program : Forest) (c : PlainConfiguration) (kept : Kept) : Type 0 where
  pub headings : map (λ frame. heading_parts program frame.procedure.0) c.frames ≡ map Some kept.headings
  pub declared : map (λ frame. Items program frame.procedure.0) c.frames ≡ kept.declared
  pub held : map (λ frame. template_held program frame.place.slot.0) c.frames ≡ map Some kept.held

-- what is kept for a slot in which nothing stands, so that what is kept is told of any run; where one fits the program
-- no frame has such a slot
abbrev pub nothing_held : HeldTemplate
nothing_held = record { kind = NodeKind.StatementHole; parts = [] }

-- what is kept of the program for a suspended run, told of it: where the run fits the program, this is kept and nothing
-- else
unfoldable pub kept_of : (program : Forest) → PlainConfiguration → Kept
kept_of program c = record {
  headings = map (λ frame. unwrap_or (heading_parts program frame.procedure.0) []) c.frames;
  declared = map (λ frame. Items program frame.procedure.0) c.frames;
  held = map (λ frame. unwrap_or (template_held program frame.place.slot.0) nothing_held) c.frames;
}

-- ---- the three questions, asked of a frame

-- the frame's procedure is gone, or the phrases of its heading are others
abbrev pub HeadingDiffers : (program : Forest) → Frame → Parts → Type 0
HeadingDiffers program frame kept = heading_parts program frame.procedure.0 ≢ Some kept

-- the effective items of its procedure are others
abbrev pub ItemsDiffer : (program : Forest) → Frame → List Declared → Type 0
ItemsDiffer program frame kept = Items program frame.procedure.0 ≢ kept

-- the kind of what stands in the slot, if it is live
abbrev pub kind_held : (program : Forest) → (slot : ℕ) → Option NodeKind
kind_held program slot = option_map (λ found. found.label.kind) (site program slot)

-- the parts of what stands in the slot, if it is live
abbrev pub parts_held : (program : Forest) → (slot : ℕ) → Option Parts
parts_held program slot = option_map (λ found. found.label.parts) (site program slot)

-- the frame's place isn't the start of its slot, and what stands there is of another kind
abbrev pub KindDiffers : (program : Forest) → Frame → HeldTemplate → Type 0
KindDiffers program frame kept =
    (frame.place.point.0 ≢ 0) × (kind_held program frame.place.slot.0 ≢ Some kept.kind)

-- whether a resumption asks that the parts of the template are as they were, where a run stands at another point than
-- its start: not those of an Until, whose condition is tested as it is by then
abbrev pub asks_for_template_parts : Template → Bool
asks_for_template_parts Template.Fixed = true
asks_for_template_parts Template.Bit = true
asks_for_template_parts Template.Char = true
asks_for_template_parts Template.If = true
asks_for_template_parts Template.IfElse = true
asks_for_template_parts Template.While = true
asks_for_template_parts Template.For = true
asks_for_template_parts Template.Until = false
asks_for_template_parts Template.Group = true
asks_for_template_parts Template.Get = true
asks_for_template_parts Template.Put = true
asks_for_template_parts Template.PutSkip = true
asks_for_template_parts Template.Call = true
asks_for_template_parts Template.Return = true
asks_for_template_parts Template.Comment = true
asks_for_template_parts Template.Proc = true
asks_for_template_parts Template.ProcP = true

-- whether a resumption asks that the parts of a node of the kind are as they were, where a run stands at another point
-- than its start
abbrev pub asks_for_parts : NodeKind → Bool
asks_for_parts NodeKind.DeclarationHole = true
asks_for_parts NodeKind.StatementHole = true
asks_for_parts NodeKind.ProcedureHole = true
asks_for_parts NodeKind.Main = true
asks_for_parts NodeKind.Assign = true
asks_for_parts (NodeKind.Filled template) = asks_for_template_parts template

-- the frame's place isn't the start of its slot, and what stands there has other parts than those that it is asked for
abbrev pub PartsDiffer : (program : Forest) → Frame → HeldTemplate → Type 0
PartsDiffer program frame kept =
    (frame.place.point.0 ≢ 0)
    × ((asks_for_parts kept.kind ≡ true) × (parts_held program frame.place.slot.0 ≢ Some kept.parts))

-- the slot of the frame's place is gone, or what stands there is of another kind, or has other parts than those that it
-- is asked for
abbrev pub TemplateDiffers : (program : Forest) → Frame → HeldTemplate → Type 0
TemplateDiffers program frame kept =
    (site program frame.place.slot.0 ≡ None) ⊎ (KindDiffers program frame kept ⊎ PartsDiffer program frame kept)

-- ---- the answer

-- a question that is asked before a run may be resumed, with the refusal where it holds, before more questions
abbrev pub Asks : (question : Type 0) → ResumeRefusal → (more : Option ResumeRefusal → Type 0) → Option ResumeRefusal
    → Type 0
Asks question refusal more answer = (question × (answer ≡ Some refusal)) ⊎ ((¬ question) × more answer)

-- when a suspended run may be resumed in the program, as far as one of its frames says, before the frames above it are
-- asked for
abbrev pub AsksFrame : (program : Forest) → Frame → Parts → List Declared → HeldTemplate
    → (more : Option ResumeRefusal → Type 0) → Option ResumeRefusal → Type 0
AsksFrame program frame heading items template more =
    Asks (HeadingDiffers program frame heading) (ResumeRefusal.HeadingChanged frame.procedure)
    (Asks (ItemsDiffer program frame items) (ResumeRefusal.DeclarationChanged frame.procedure)
    (Asks (TemplateDiffers program frame template) (ResumeRefusal.TemplateChanged frame.place.slot) more))

-- whether a suspended run may be resumed in the program, by its frames from main upward, each with what is kept for it:
-- none is a yes, and else it is the first refusal that holds
abbrev pub AsksFrames : (program : Forest) → List Frame → List Parts → List (List Declared) → List HeldTemplate
    → Option ResumeRefusal → Type 0
AsksFrames program [] headings declared held answer = answer ≡ None
AsksFrames program (frame ∷ frames) [] declared held answer = ⊥
AsksFrames program (frame ∷ frames) (heading ∷ headings) [] held answer = ⊥
AsksFrames program (frame ∷ frames) (heading ∷ headings) (items ∷ declared) [] answer = ⊥
AsksFrames program (frame ∷ frames) (heading ∷ headings) (items ∷ declared) (template ∷ held) answer =
    AsksFrame program frame heading items template (AsksFrames program frames headings declared held) answer

-- whether a run may be resumed in the program, by what is kept for its frames: none is a yes, and else it is the
-- refusal
abbrev pub MayResume : Kept → PlainConfiguration → (program : Forest) → Option ResumeRefusal → Type 0
MayResume kept c program answer = AsksFrames program c.frames kept.headings kept.declared kept.held answer

-- one case when a suspended run may be resumed: in the program of which something was kept for it, as long as that
-- isn't edited
abbrev pub UneditedResumes : Type 0
UneditedResumes =
    (program : Forest) (c : PlainConfiguration) (kept : Kept) → IsKeptOf program c kept → MayResume kept c program None

-- ---- where a resumed run goes on

-- the place where a resumed run goes on that stands at the place: with point 0 where a run begins that comes to its
-- slot, and else there
abbrev pub resolved_place : (program : Forest) → PlainPlace → PlainPlace
resolved_place program place = if place.point == 0 then unwrap_or (Start program place.slot) place else place

-- a frame at the place where a resumed run goes on that stands at its place
abbrev pub resolved_frame : (program : Forest) → Frame → Frame
resolved_frame program frame = frame_at (resolved_place program (frame_place frame)) frame

-- the configuration in which a resumed run goes on: where its newest frame stands at a place with point 0, that is
-- resolved
abbrev pub resolved : (program : Forest) → PlainConfiguration → PlainConfiguration
resolved program c = record c { frames = with_newest (resolved_frame program) c.frames }
