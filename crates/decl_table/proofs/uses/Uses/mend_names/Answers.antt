use Rattle.std.proofs.Common.{◌≤◌, length, subst, arith}
use Rattle.std.specs.Prelude.{bytes_eq}
use Rattle.std.specs.List.{list_any}
use Rattle.std.specs.Map.{keys_of}
use Rattle.std.proofs.Math.Seq.{take_all}
use Rattle.std.proofs.lemmas.List.{length-map}
use Rattle.std.proofs.lemmas.Option.{get_or_from_slice_get, slice_get_within}
use Rattle.decl_table.specs.Private.UsesView.{MendsNames}
use Rattle.decl_table.proofs.MendedUses.{mends_next, mends_nothing}
use Rattle.decl_table.proofs.uses.Uses.mend_names.Goals as goal

pub loop-k-init : goal.loop-k-init
loop-k-init c = mends_nothing c.args.before.now.uses c.args.went.now.uses c.args.came.now.uses c.args.self.now.uses

pub loop-k-preserved : goal.loop-k-preserved
loop-k-preserved c =
    let names = keys_of c.args.names.now.uses in
    let k = c.loop-k.k in
    let name = c.name.result.now in
    mends_next c.args.before.now.uses c.args.went.now.uses c.args.came.now.uses names k name c.args.self.now.uses c.loop-k.self.uses
    c.mend.new.self.uses (slice_get_within names k name c.name.ensures) (get_or_from_slice_get names k name name c.name.ensures)
    c.loop-k.invariant c.in_ok-mend.ensures

pub returns : goal.returns
returns c =
    let entries = c.args.names.now.uses in
    let names = keys_of entries in
    let past : length names ≤ c.loop-k.k =
    omega (arith, length-map entries (λ entry. entry.0), c.len-k-end.ensures, c.loop-k-test.false) in
    subst
    (λ ks. MendsNames (λ name. list_any (bytes_eq name) ks) c.args.before.now.uses c.args.went.now.uses c.args.came.now.uses c.args.self.now.uses
    c.loop-k.self.uses)
    (take_all c.loop-k.k names past) c.loop-k.invariant
