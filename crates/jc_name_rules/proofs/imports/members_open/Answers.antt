use Rattle.std.proofs.Common.{None, arith, ◌∙◌}
use Rattle.jc_looking.specs.Standings.{asking}
use Rattle.jc_name_rules.proofs.PartsOpen.{member_none}
use Rattle.jc_name_rules.proofs.imports.members_open.Goals as goal

pub returns-in-None : goal.returns-in-None
returns-in-None c =
    member_none c.args.declared.now.heads.now (asking c.args.«package».now None) c.args.parts.now c.loop-at.at c.loop-at.outer c.index-parts-at.result c.str.result.now (omega arith) c.index-parts-at.is c.str.ensures c.in-None.ensures
    ∙ c.loop-at.invariant
