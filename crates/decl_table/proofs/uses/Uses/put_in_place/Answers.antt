-- After each turn the changes that are left do what all of them do to what was there at first.
use Rattle.std.proofs.Common.{◌∙◌, ◌∷◌, [], length, sym, ap, arith, true≢false}
use Rattle.std.specs.Prelude.{bytes_eq}
use Rattle.std.specs.Map.{lookup}
use Rattle.std.proofs.lemmas.List.{length-append}
use Rattle.decl_table.specs.DeclEdit.{changed_or}
use Rattle.decl_table.specs.PlainDecls.{mentions_of}
use Rattle.decl_table.specs.Private.UsesView.{RoomyUses}
use Rattle.decl_table.proofs.MendedUses.{left_changes, no_entries}
use Rattle.decl_table.proofs.uses.Uses.put_in_place.Goals as goal

pub loop-name-init : goal.loop-name-init
loop-name-init c = record {
  left = λ name. ap (λ (all : RoomyUses). changed_or (lookup (bytes_eq name) all.uses) (mentions_of name c.args.self.now.uses)) c.other.view_is;
  room = omega (arith, ap (λ (all : RoomyUses). length all.uses) c.other.view_is, c.requires.room);
}

pub put-requires : goal.put-requires
put-requires c = record {
  room =
      omega (
        arith,
        c.loop-name.invariant.room,
        ap length c.in-Some.ensures.entries,
        length-append c.pop.new.self.entries ((c.in-Some.name, c.in-Some.list) ∷ []),
      );
}

pub loop-name-smaller : goal.loop-name-smaller
loop-name-smaller c =
    omega (arith, ap length c.in-Some.ensures.entries, length-append c.pop.new.self.entries ((c.in-Some.name, c.in-Some.list) ∷ []))

pub loop-name-preserved : goal.loop-name-preserved
loop-name-preserved c =
    let rest = c.pop.new.self.entries in
    let key = c.in-Some.name in
    let list = c.in-Some.list in
    record {
      left =
          λ name.
          left_changes name key c.loop-name.rest.entries rest list (mentions_of name c.loop-name.self.uses) (mentions_of name c.put.new.self.uses)
          c.in-Some.ensures.entries (c.put.ensures.updates name)
          ∙ c.loop-name.invariant.left name;
      room =
          omega
          (arith, c.loop-name.invariant.room, c.put.ensures.room, ap length c.in-Some.ensures.entries, length-append rest ((key, list) ∷ []));
    }

pub returns : goal.returns
returns c =
    λ name.
    ap (λ l. changed_or (lookup (bytes_eq name) l) (mentions_of name c.loop-name.self.uses))
    (sym (no_entries c.loop-name.rest.entries (λ some. true≢false (sym (c.in_default.ensures.found.1 some)))))
    ∙ c.loop-name.invariant.left name
