use Rattle.std.proofs.Common.{◌<◌, [], length, arith}
use Rattle.std.proofs.lemmas.Result.{err_from_is_err_and}
use Rattle.jc_prelude.specs.Texts.{texts}
use Rattle.jc_front.proofs.LibraryTurns.{goes_next, stops_here, ends}
use Rattle.jc_front.proofs.texts.library_units.Goals as goal

pub returns-in_err-unit-clause-refused : goal.returns-in_err-unit-clause-refused
returns-in_err-unit-clause-refused c =
    let all = c.sources-texts.result.now in
    let n = c.loop-n.n in
    let within : n < length all = omega arith in
    let p = err_from_is_err_and c.from_residual.result c.from_residual.ensures.1 in
    rw (p.1, p.2)
    (stops_here (λ text. text.now) texts all n c.loop-n.before (record { ref_ptr = (0, 0); now = [] }) c.loop-n.units c.in_err-unit.field-0.0 within c.loop-n.invariant
    c.in_err-unit.ensures.refused)

pub loop-n-preserved : goal.loop-n-preserved
loop-n-preserved c =
    let all = c.sources-texts.result.now in
    let n = c.loop-n.n in
    let within : n < length all = omega arith in
    goes_next (λ text. text.now) texts all n c.loop-n.before (record { ref_ptr = (0, 0); now = [] }) c.loop-n.units c.push.new.self c.in_ok-unit.unit within c.loop-n.invariant
    c.in_ok-unit.ensures.tree c.in_ok-push.ensures.ok

pub returns-clause-units : goal.returns-clause-units
returns-clause-units c =
    ends (λ text. text.now) texts c.sources-texts.result.now c.loop-n.n c.loop-n.before c.loop-n.units (omega arith) c.loop-n.invariant
