-- After each turn the changes that are left do what all of them do to what was there at first.
use Rattle.std.proofs.Common.{◌≡◌, ◌∙◌, ◌∷◌, [], length, option_map, sym, ap, arith, rules, vec_len}
use Rattle.std.specs.Prelude.{bytes_eq}
use Rattle.std.specs.Map.{lookup}
use Rattle.std.proofs.lemmas.List.{length-append}
use Rattle.decl_table.specs.DeclEdit.{changed_or}
use Rattle.decl_table.specs.PlainDecls.{slot_of}
use Rattle.decl_table.specs.Private.HeadingChangesView.{plain_heading_changes}
use Rattle.decl_table.proofs.MendedUses.{left_changes, no_entries}
use Rattle.decl_table.proofs.TableMaps.{as_many_changes, changes_turn}
use Rattle.decl_table.proofs.headings.Headings.put_in_place.Goals as goal

pub loop-change-init : goal.loop-change-init
loop-change-init c =
    let items = c.changes.inside.list.items in
    let as_many : length (plain_heading_changes items) ≡ length items = as_many_changes items in
    record {
      left = λ name. ap (λ all. changed_or (lookup (bytes_eq name) all) (slot_of name c.args.self.now.headings)) c.changes.view_is;
      room = omega (arith, ap length c.changes.view_is, c.requires.room, as_many);
    }

pub put_change-requires : goal.put_change-requires
put_change-requires c = record {
  room = omega (arith, c.loop-change.invariant.room, ap length c.in-Some.ensures.items, length-append c.pop.new.self.items (c.in-Some.change ∷ []));
}

pub loop-change-smaller : goal.loop-change-smaller
loop-change-smaller c =
    omega (arith, ap length c.in-Some.ensures.items, length-append c.pop.new.self.items (c.in-Some.change ∷ []))

pub loop-change-preserved : goal.loop-change-preserved
loop-change-preserved c =
    let rest = c.pop.new.self.items in
    let change = c.in-Some.change in
    record {
      left =
          λ name.
          left_changes name change.name (plain_heading_changes c.loop-change.rest.items) (plain_heading_changes rest)
          (option_map (λ slot. slot.0) change.slot) (slot_of name c.loop-change.self.headings) (slot_of name c.put_change.new.self.headings)
          (ap plain_heading_changes c.in-Some.ensures.items ∙ changes_turn rest change) (c.put_change.ensures.updates name)
          ∙ c.loop-change.invariant.left name;
      room =
          omega
          (arith, c.loop-change.invariant.room, c.put_change.ensures.room, ap length c.in-Some.ensures.items, length-append rest (change ∷ []));
    }

pub returns : goal.returns
returns c =
    let left = c.loop-change.rest.items in
    let counted : length left ≡ vec_len c.loop-change.rest = search rules in
    let none : left ≡ [] = no_entries left (λ some. omega (arith, some, counted, c.in_default.ensures.cases.0)) in
    λ name.
    ap (λ l. changed_or (lookup (bytes_eq name) (plain_heading_changes l)) (slot_of name c.loop-change.self.headings)) (sym none)
    ∙ c.loop-change.invariant.left name
