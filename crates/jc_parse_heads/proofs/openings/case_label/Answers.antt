use Rattle.std.proofs.Common.{length, arith}
use Rattle.jc_parse_heads.proofs.openings.case_label.Goals as goal

pub returns-clause-shorter : goal.returns-clause-shorter
returns-clause-shorter c =
    let lt = c.in_ok-value.ensures.shorter (length c.in_ok-at.at.rest.now) c.case_value.ensures.shorter in
    omega (arith, lt, c.in_ok-at.ensures.shorter)
