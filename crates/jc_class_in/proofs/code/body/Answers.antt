use Rattle.std.proofs.Common.{◌≡◌, ◌-◌, length, arith, rules}
use Rattle.jc_class_out.proofs.CodeAgain.{length_marks}
use Rattle.jc_class_in.proofs.Taken.{code_size}
use Rattle.jc_class_in.proofs.code.body.Goals as goal

pub returns-clause-small : goal.returns-clause-small
returns-clause-small c =
    let size = code_size c.args.pool.now c.in_ok-len.len c.in_ok-len.start.now c.in_ok-list.list c.in_ok-list.rest.now c.in_ok-list.ensures in
    let used : c.saturating_sub-used.result ≡ length c.in_ok-len.start.now - length c.in_ok-list.rest.now = search rules in
    omega (arith, length_marks 0 c.in_ok-list.list, size, used)
