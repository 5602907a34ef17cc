use Rattle.std.proofs.Common.{◌≡◌, ◌++◌, length, map}
use Rattle.jc_resolve.specs.Choosing.{result_type}
use Rattle.jc_resolve.proofs.choosing.thrown_of.Given as goal

abbrev pub invariant-loop-rest : goal.invariant-loop-rest
invariant-loop-rest l =
    l.list ++ map (result_type l.table l.env.bounds l.c.member l.c.type_args l.c.unchecked) l.rest ≡ map (result_type l.table l.env.bounds l.c.member l.c.type_args l.c.unchecked) l.c.member.thrown

abbrev pub decreases-loop-rest : goal.decreases-loop-rest
decreases-loop-rest l = length l.rest
