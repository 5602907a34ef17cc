use Rattle.std.proofs.Common.{◌≡◌, true, false, arith, rules}
use Rattle.jc_types.specs.Reifying.{is_unbounded}
use Rattle.jc_types.proofs.Reified.{all_more, one_bounded}
use Rattle.jc_types.proofs.reifying.all_unbounded.Goals as goal

pub loop-i-preserved : goal.loop-i-preserved
loop-i-preserved c =
    let free : is_unbounded c.index-args-i.result ≡ true = search rules in
    all_more _ _ _ (omega arith) c.index-args-i.is c.loop-i.invariant free

pub returns-then-not-is_unbounded : goal.returns-then-not-is_unbounded
returns-then-not-is_unbounded c =
    let bound : is_unbounded c.index-args-i.result ≡ false = search rules in
    one_bounded _ _ _ (omega arith) c.index-args-i.is bound
