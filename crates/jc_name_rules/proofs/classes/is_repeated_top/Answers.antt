use Rattle.std.proofs.Common.{sym}
use Rattle.jc_name_rules.proofs.Firsts.{repeated_none}
use Rattle.jc_name_rules.proofs.classes.is_repeated_top.Goals as goal

pub returns-in-None : goal.returns-in-None
returns-in-None c = repeated_none c.args.declared.now.heads.now c.args.number c.args.class.now c.requires.top (sym c.in-None.ensures.value)
