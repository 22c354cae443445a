-- The steps are made inside the root; the names are then those of the items, as the edit was prepared.
use Rattle.std.specs.Prelude.{◌≡◌}
use Rattle.std.proofs.Common.{ap, sym, subst, ◌∙◌}
use Rattle.code_patch.specs.SoundCode.{AreSound}
use Rattle.code_patch.specs.ItemNames.{item_numbers}
use Rattle.code_patch.specs.CodeEdit.{PlainCodeTree, edited_code, room_after}
use Rattle.code_patch.specs.CodeForest.{PlainCodeNode}
use Rattle.code_patch.specs.PreparedEdit.{NamesFit, PlainPrepared, StepsFit}
use Rattle.code_patch.proofs.NameMaps.{names_then}
use Rattle.code_patch.proofs.code_tree.CodeTree.commit.Goals as goal

pub make-requires : goal.make-requires
make-requires g c =
    let root = c.self.inside.root in
    record {
      own = c.self.invariant.own;
      fit =
          subst (λ (p : PlainPrepared). StepsFit p.steps root.spare root.inner) (sym c.prepared.view_is)
          (subst (λ (t : PlainCodeTree). StepsFit c.args.prepared.steps t.spare t.items) (sym c.self.view_is) c.requires.ready.steps);
    }

pub invariant_of-self : goal.invariant_of-self
invariant_of-self g c =
    let prepared = c.args.prepared in
    let code = c.args.self.now in
    let inner : c.make.new.self.inner ≡ edited_code prepared.steps code.items =
    ap (λ (n : PlainCodeNode). n.inner) c.make.ensures.made
    ∙ (λ i. edited_code (c.prepared.view_is i).steps (c.self.view_is i).items) in
    let names =
    subst (λ (p : PlainPrepared). NamesFit p.names c.self.inside.root.inner (edited_code prepared.steps code.items)) (sym c.prepared.view_is)
    (subst (λ (t : PlainCodeTree). NamesFit prepared.names t.items (edited_code prepared.steps code.items)) (sym c.self.view_is)
    c.requires.ready.names) in
    record {
      own = ap (λ (n : PlainCodeNode). n.own) c.make.ensures.made ∙ c.self.invariant.own;
      names =
          c.put_names.ensures
          ∙ names_then c.prepared.inside.names c.self.inside.names c.self.inside.root.inner (edited_code prepared.steps code.items)
          c.self.invariant.names names
          ∙ ap item_numbers (sym inner);
      sound = subst AreSound (sym inner) c.requires.ready.sound;
      short = c.make.ensures.short;
    }

pub returns : goal.returns
returns g c =
    (λ i.
    record {
      items = (ap (λ (n : PlainCodeNode). n.inner) c.make.ensures.made ∙ (λ j. edited_code (c.prepared.view_is j).steps (c.self.view_is j).items)) i;
      spare = (ap (λ (n : PlainCodeNode). n.spare) c.make.ensures.made ∙ (λ j. room_after (c.prepared.view_is j).steps (c.self.view_is j).spare)) i;
    })
