-- Each table makes room for its own piece, and keeps what it tells.
use Rattle.std.proofs.Common.{refl}
use Rattle.decl_table.proofs.ReadyDecls.{same_tables}
use Rattle.decl_table.proofs.decls.Decls.make_room.Goals as goal

pub returns-in_err-reserve_one-clause-same : goal.returns-in_err-reserve_one-clause-same
returns-in_err-reserve_one-clause-same c =
    same_tables c.args.self.now _ _ _ _ c.self.view_is c.in_err-reserve_one.ensures.same refl refl

pub returns-in_err-reserve-clause-same : goal.returns-in_err-reserve-clause-same
returns-in_err-reserve-clause-same c =
    same_tables c.args.self.now _ _ _ _ c.self.view_is c.in_ok-reserve_one.ensures.same c.in_err-reserve.ensures.same refl

pub returns-in_err-reserve-2-clause-same : goal.returns-in_err-reserve-2-clause-same
returns-in_err-reserve-2-clause-same c =
    same_tables c.args.self.now _ _ _ _ c.self.view_is c.in_ok-reserve_one.ensures.same c.in_ok-reserve.ensures.same
    c.in_err-reserve-2.ensures.same

pub returns-clause-same : goal.returns-clause-same
returns-clause-same c =
    same_tables c.args.self.now _ _ _ _ c.self.view_is c.in_ok-reserve_one.ensures.same c.in_ok-reserve.ensures.same
    c.in_ok-reserve-2.ensures.same
