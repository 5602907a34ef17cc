use Rattle.std.proofs.Common.{length, arith}
use Rattle.jc_parse_heads.proofs.Joinings.{shorter_still}
use Rattle.jc_parse_heads.proofs.openings.inner.Goals as goal

pub returns-clause-shorter : goal.returns-clause-shorter
returns-clause-shorter c =
    let lt = c.in_ok-test.ensures.shorter (length c.in_ok-open.open.rest.now) c.expr_within.ensures.shorter in
    shorter_still (length c.in_ok-test.test.rest.now) (length c.args.tokens.now) c.closed.result (omega (arith, lt, c.in_ok-open.ensures.shorter)) c.closed.ensures.shorter
