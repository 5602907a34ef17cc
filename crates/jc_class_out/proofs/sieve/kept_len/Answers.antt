use Rattle.std.proofs.Common.{arith, take}
use Rattle.std.proofs.lemmas.List.{length-map, length-take}
use Rattle.jc_class_out.specs.Spelling.{known}
use Rattle.jc_class_out.proofs.sieve.kept_len.Goals as goal

pub returns : goal.returns
returns c = omega (arith, length-map (take c.args.count c.args.kept.now) known, length-take c.args.count c.args.kept.now, c.min.ensures)
