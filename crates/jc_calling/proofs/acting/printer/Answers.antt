use Rattle.jc_values.specs.Idle.{idle}
use Rattle.jc_calling.proofs.acting.printer.Goals as goal

pub returns : goal.returns
returns c = c.printer_of.ensures c.args.program.now idle
