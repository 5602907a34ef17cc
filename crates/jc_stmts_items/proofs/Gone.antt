-- How a walk goes through what an enhanced `for` goes over.
use Rattle.jc_stmts_wants.proofs.Asking.{each_after as each_by_walk}
use Rattle.jc_stmts_wants.specs.Laws.{EachPart}

pub each_after : EachPart
each_after W e to s = each_by_walk W e to s
