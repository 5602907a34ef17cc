use Rattle.std.proofs.Common.{arith}
use Rattle.jc_selecting.proofs.Lines.{holds_all}
use Rattle.jc_selecting.proofs.tables.with_own.Goals as goal

pub returns : goal.returns
returns c = holds_all c.args.class c.args.row.now c.args.map c.methods.grown c.methods.at (omega (arith, c.methods-test.false)) c.methods.invariant.holds
