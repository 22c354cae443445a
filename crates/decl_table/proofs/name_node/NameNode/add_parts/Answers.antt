-- After each turn the names gathered so far, with those of the parts that are left, are those of all parts.
use Rattle.std.specs.Prelude.{◌≡◌, refl, ◌++◌, Some, map, option_map, slice_get}
use Rattle.std.proofs.Common.{arith, ap, sym, ◌∙◌}
use Rattle.std.proofs.lemmas.Option.{slice_get_within}
use Rattle.template_tree.specs.Programs.PlainPhrasePlace.{plain_phrase_place}
use Rattle.decl_table.specs.Names.{kept_names}
use Rattle.decl_table.specs.Private.PlainNameNode.{PlainNameNode, name_node_of}
use Rattle.decl_table.proofs.MadeNames.{parts_all, parts_next}
use Rattle.decl_table.proofs.name_node.NameNode.add_parts.Goals as goal

pub loop-part-init : goal.loop-part-init
loop-part-init c = record {
  made = record { all = ap (λ parts. parts ++ map (option_map kept_names) c.args.node.now.label.parts) c.requires.none };
  slot = refl;
  kind = refl;
  inner = refl;
  within = omega arith;
}

pub loop-part-preserved : goal.loop-part-preserved
loop-part-preserved c =
    let parts = c.args.node.now.label.parts in
    let place = plain_phrase_place c.in-Some.field-0.now in
    let there : slice_get parts c.loop-part.part ≡ Some place = sym c.in-Some.ensures in
    record {
      made =
          parts_next (name_node_of c.args.node.now).label.parts c.loop-part.self.label.parts c.add_part.new.self.label.parts parts c.loop-part.part
          place there (ap (λ (n : PlainNameNode). n.label.parts) c.in_ok-add_part.ensures) c.loop-part.invariant.made;
      slot = ap (λ (n : PlainNameNode). n.label.slot) c.in_ok-add_part.ensures ∙ c.loop-part.invariant.slot;
      kind = ap (λ (n : PlainNameNode). n.label.kind) c.in_ok-add_part.ensures ∙ c.loop-part.invariant.kind;
      inner = ap (λ (n : PlainNameNode). n.inner) c.in_ok-add_part.ensures ∙ c.loop-part.invariant.inner;
      within = omega (arith, slice_get_within parts c.loop-part.part place there);
    }

pub returns : goal.returns
returns c =
    let parts =
    parts_all (name_node_of c.args.node.now).label.parts c.loop-part.self.label.parts c.args.node.now.label.parts c.loop-part.part
    (sym c.in_default.ensures) c.loop-part.invariant.made in
    let i_ = c.loop-part.invariant in
    (λ i. record { label = record { slot = i_.slot i; kind = i_.kind i; parts = parts i }; inner = i_.inner i })
