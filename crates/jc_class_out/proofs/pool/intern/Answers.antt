use Rattle.std.proofs.Common.{◌∙◌, ap}
use Rattle.jc_class_out.specs.Spelling.{knowns}
use Rattle.jc_class_out.proofs.Pools.{add_is}
use Rattle.jc_class_out.proofs.pool.intern.Goals as goal

pub returns : goal.returns
returns c = ap knowns c.in_ok-insert_full.ensures.keys ∙ add_is c.args.pool.now.keys c.args.wanted
