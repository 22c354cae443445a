-- After each turn the verdicts that are left make of the map what all of them make of the map that was there at first.
use Rattle.std.proofs.Common.{◌≡◌, ◌∙◌, ◌≤◌, ◌<◌, ◌+◌, ◌∷◌, ◌++◌, [], ℕ, zero, suc, List, length, refl, sym, ap, arith, true≢false}
use Rattle.std.proofs.lemmas.List.{length-append}
use Rattle.template_tree.specs.Checks.Marks.{VerdictList, VerdictMap}
use Rattle.type_marks.specs.MarkEdit.{with_all}
use Rattle.type_marks.proofs.PreparedMarks.{no_entries, with_last}
use Rattle.type_marks.proofs.marks.Marks.put_in.Goals as goal

pub loop-at-init : goal.loop-at-init
loop-at-init g c = record { left = refl; room = omega (arith, c.requires.room) }

pub put-requires : goal.put-requires
put-requires g c =
    record {
      room =
          omega (
            arith,
            c.loop-at.invariant.room,
            ap length c.in-Some.ensures.entries,
            length-append c.pop.new.self.entries ((c.in-Some.at, c.in-Some.verdict) ∷ []),
          );
    }

pub loop-at-smaller : goal.loop-at-smaller
loop-at-smaller g c =
    omega (
      arith,
      ap length c.in-Some.ensures.entries,
      length-append c.pop.new.self.entries ((c.in-Some.at, c.in-Some.verdict) ∷ []),
    )

pub loop-at-preserved : goal.loop-at-preserved
loop-at-preserved g c =
    let rest = c.pop.new.self.entries in
    record {
      left =
          ap (with_all rest) c.put.ensures.verdicts
          ∙ sym (with_last rest c.in-Some.at c.in-Some.verdict c.loop-at.self.verdicts)
          ∙ ap (λ (list : VerdictList). with_all list c.loop-at.self.verdicts) (sym c.in-Some.ensures.entries)
          ∙ c.loop-at.invariant.left;
      room =
          omega (
            arith,
            c.loop-at.invariant.room,
            c.put.ensures.room,
            ap length c.in-Some.ensures.entries,
            length-append rest ((c.in-Some.at, c.in-Some.verdict) ∷ []),
          );
    }

pub returns : goal.returns
returns g c =
    ap (λ (list : VerdictList). with_all list c.loop-at.self.verdicts)
    (sym (no_entries c.loop-at.rest.entries (λ some. true≢false (sym (c.in_default.ensures.found.1 some)))))
    ∙ c.loop-at.invariant.left
