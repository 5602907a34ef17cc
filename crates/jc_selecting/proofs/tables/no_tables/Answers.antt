use Rattle.jc_selecting.proofs.Lines.{tables_none}
use Rattle.jc_selecting.proofs.tables.no_tables.Goals as goal

pub returns : goal.returns
returns c = λ parents own. tables_none parents own c.loop-made.tables.items c.loop-made.made c.loop-made.invariant
