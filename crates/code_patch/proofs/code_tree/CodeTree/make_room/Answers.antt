-- Only room is made, which plays no part in the invariant.
use Rattle.std.proofs.Common.{◌≡◌, ap, sym, subst, ◌∙◌, arith, true≢false}
use Rattle.std.specs.Prelude.{sum}
use Rattle.std.proofs.lemmas.Result.{on_ok_weaker}
use Rattle.code_patch.specs.CodeEdit.{PlainCodeTree, roomless_code}
use Rattle.code_patch.specs.CodeForest.{PlainCodeNode}
use Rattle.code_patch.specs.Private.PlainCodeNode.{count_kept}
use Rattle.code_patch.specs.Private.PreparedNodes.{LeadsToList, RoomAt}
use Rattle.code_patch.proofs.CodeRoots.{root_length}
use Rattle.code_patch.proofs.RoomlessCode.{lengths_alike, numbers_alike, root_is, sound_alike}
use Rattle.code_patch.proofs.code_tree.CodeTree.make_room.Goals as goal

pub returns-then-not-is_added-clause-room : goal.returns-then-not-is_added-clause-room
returns-then-not-is_added-clause-room g c = λ added.
    absurd (true≢false (sym added ∙ sym c.is_added.ensures ∙ c.if-not-is_added.true))

pub reserve_at-requires : goal.reserve_at-requires
reserve_at-requires g c =
    let is = root_is c.self.inside c.args.self.now c.self.view_is c.self.invariant in
    let few : count_kept c.self.inside.root.inner ≡ count_kept c.args.self.now.items = ap (λ (n : PlainCodeNode). count_kept n.inner) is in
    record {
      few = omega (arith, few, c.requires.few);
      there =
          subst (λ (n : PlainCodeNode). LeadsToList c.args.way.now n) (sym is)
          (c.requires.there (sym c.is_added.ensures ∙ c.if-not-is_added.false));
    }

pub invariant_of-self : goal.invariant_of-self
invariant_of-self g c =
    let old = c.self.inside.root in
    let new = c.reserve_at.new.self in
    let same : roomless_code old.inner ≡ roomless_code new.inner = sym (ap (λ (n : PlainCodeNode). n.inner) c.reserve_at.ensures.same) in
    let own = ap (λ (n : PlainCodeNode). n.own) c.reserve_at.ensures.same ∙ c.self.invariant.own in
    record {
      own = own;
      names = c.self.invariant.names ∙ numbers_alike old.inner new.inner same;
      sound = sound_alike old.inner new.inner same c.self.invariant.sound;
      short =
          omega
          (arith, root_length old c.self.invariant.own, root_length new own, ap sum (lengths_alike old.inner new.inner same), c.self.invariant.short);
    }

pub returns-clause-same : goal.returns-clause-same
returns-clause-same g c =
    ap (λ (n : PlainCodeNode). n.inner) c.reserve_at.ensures.same ∙ ap (λ (t : PlainCodeTree). roomless_code t.items) c.self.view_is

pub returns-clause-room : goal.returns-clause-room
returns-clause-room g c =
    let new = c.reserve_at.new.self in
    let own = ap (λ (n : PlainCodeNode). n.own) c.reserve_at.ensures.same ∙ c.self.invariant.own in
    on_ok_weaker c.reserve_at.result
    (λ room added.
    subst (λ (n : PlainCodeNode). RoomAt c.args.way.now n)
    (λ i. record { own = own i; spare = new.spare; inner = new.inner }) room)
    c.reserve_at.ensures.room
