use Rattle.std.proofs.Common.{ℕ, subst, sym}
use Rattle.std.specs.declared.option.Option.{Option}
use Rattle.jc_selecting.specs.Found.{IsTable}
use Rattle.jc_selecting.proofs.Lines.{table_none}
use Rattle.jc_selecting.proofs.tables.begun.Goals as goal

pub returns-in-None : goal.returns-in-None
returns-in-None c = subst (λ (h : Option ℕ). IsTable c.args.parents.now c.args.own.now h c.new.result 0) (sym c.in-None.is) (table_none c.args.parents.now c.args.own.now c.new.result c.new.ensures)
