use Rattle.std.proofs.Common.{sym}
use Rattle.jc_name_rules.proofs.Firsts.{imported_some, imported_none}
use Rattle.jc_name_rules.proofs.classes.is_imported.Goals as goal

pub returns-in-Some : goal.returns-in-Some
returns-in-Some c =
    imported_some c.args.heads.now c.args.singles.now c.args.class.now.unit c.args.number c.args.class.now.name c.in-Some.singles.now c.has_other.result c.requires (sym c.in-Some.ensures.value) c.has_other.ensures

pub returns-in-None : goal.returns-in-None
returns-in-None c =
    imported_none c.args.heads.now c.args.singles.now c.args.class.now.unit c.args.number c.args.class.now.name c.requires (sym c.in-None.ensures.value)
