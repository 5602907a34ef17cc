use Rattle.std.proofs.Common.{arith}
use Rattle.jc_parse_heads.proofs.ForUpdates.{positive}
use Rattle.jc_parse_heads.proofs.looping.effects_in.Goals as goal

pub effects-requires : goal.effects-requires
effects-requires c = (c.requires, positive c.args.height c.if-height-eq0.false)
